use Rattle.std.proofs.Common.{◌^◌}
use Rattle.tally.proofs.Fills.{next_count, count_more}
use Rattle.tally.proofs.counts.takes.count_closed.Goals as goal

pub count_on-requires : goal.count_on-requires
count_on-requires c =
    next_count c.args.table.now c.loop-record.table c.loop-record.record-index _ c.loop-record-test.true c.loop-record.auto.table c.loop-record.invariant
    (2 ^ 62) c.requires

pub loop-record-preserved : goal.loop-record-preserved
loop-record-preserved c =
    count_more c.args.table.now c.loop-record.table c.loop-record.record-index _ c.loop-record-test.true c.loop-record.auto.table c.loop-record.invariant
    c.count_on.new.self c.count_on.ensures
