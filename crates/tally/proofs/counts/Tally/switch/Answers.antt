use Rattle.std.proofs.Common.{◌+◌, ◌-◌, ◌^◌, ap, ◌∙◌, arith}
use Rattle.std.proofs.lemmas.List.{length-set}
use Rattle.tally.specs.Counts.{counts_to}
use Rattle.tally.specs.Tallies.{counts_of}
use Rattle.tally.proofs.Bounds.{counts_to_switched}
use Rattle.tally.proofs.Records.{record_switched}
use Rattle.tally.proofs.counts.Tally.switch.Goals as goal

pub invariant_of-self : goal.invariant_of-self
invariant_of-self c =
    let t = c.args.self.now in record {
      long = length-set t.table _ c.switch.new.self ∙ t.long;
      few = t.few;
      counted = ap (counts_to (2 ^ 62 - t.spare + 1))
          (record_switched t.table c.args.link c.args.closed c.switch.new.self _ c.requires.0 (omega (arith, c.requires.1, t.long)) c.switch.ensures)
          ∙ counts_to_switched (2 ^ 62 - t.spare + 1) (counts_of t) c.args.link c.args.closed t.counted;
    }

pub returns-clause-counts : goal.returns-clause-counts
returns-clause-counts c =
    let t = c.args.self.now in
    record_switched t.table c.args.link c.args.closed c.switch.new.self _ c.requires.0 (omega (arith, c.requires.1, t.long)) c.switch.ensures
