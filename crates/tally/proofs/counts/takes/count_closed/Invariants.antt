use Rattle.std.proofs.Common.{◌≡◌, ◌++◌, map, take, drop}
use Rattle.tally.specs.Counts.{counted_once_more}
use Rattle.tally.specs.Tables.{counts_in}
use Rattle.tally.proofs.counts.takes.count_closed.Given as goal

-- the records so far count on, and the others are as they were
abbrev pub invariant-loop-record : goal.invariant-loop-record
invariant-loop-record l =
    counts_in l.table
    ≡ map counted_once_more (take l.record-index (counts_in l.initial.table)) ++ drop l.record-index (counts_in l.initial.table)
