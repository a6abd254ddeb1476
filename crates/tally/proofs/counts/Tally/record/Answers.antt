use Rattle.std.proofs.Common.{rules}
use Rattle.tally.proofs.Records.{record_got}
use Rattle.tally.proofs.counts.Tally.record.Goals as goal

pub returns : goal.returns
returns c =
    let t = c.args.self.now in
    rw c.copied.ensures
    (record_got t.table c.args.link c.in_ok-place.place c.get.result t.long c.in_ok-place.ensures.0 c.in_ok-place.ensures.1 (search rules))
