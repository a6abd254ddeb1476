-- What a tally means. Assumes nothing.
use Rattle.std.specs.Prelude.{◌≡◌, ℕ, false, Option, MatchOption}
use Rattle.net.specs.Nets.{nth}
use Rattle.collectors.specs.Links.{IsNumber}
use Rattle.tally.specs.declared.counts.LinkCount.{LinkCount}
use Rattle.tally.specs.declared.counts.Tally.{Tally}
use Rattle.tally.specs.Counts.{Counts}
use Rattle.tally.specs.Tables.{count_of, counts_in}

-- The counts of a tally.
abbrev pub counts_of : Tally → Counts
counts_of t = counts_in t.table

-- How many more exchanges it takes: 2^62 in all.
abbrev pub spare_of : Tally → ℕ
spare_of t = t.spare

-- The record of link l, where l is a number of a link.
abbrev pub RecordOf : Counts → ℕ → Option LinkCount → Type 0
RecordOf ks l r = MatchOption r (¬ IsNumber l) (λ k. IsNumber l × (count_of k ≡ nth ks l (false, 0)))
