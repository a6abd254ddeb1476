-- What a table of links holds. Assumes nothing.
use Rattle.std.specs.Prelude.{ℕ, Bool, List, map}
use Rattle.tally.specs.declared.counts.LinkCount.{LinkCount}
use Rattle.tally.specs.Counts.{Counts}

-- A link's record as a pair.
abbrev pub count_of : LinkCount → Bool × ℕ
count_of k = (k.closed, k.count)

-- The counts that a table holds.
abbrev pub counts_in : List LinkCount → Counts
counts_in ks = map count_of ks
