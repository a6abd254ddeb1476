use Rattle.std.proofs.Common.{◌≡◌, ◌-◌, false, take}
use Rattle.trees.specs.Listings.{sweep}
use Rattle.flood.specs.Ways.{net_along, row_along}
use Rattle.flood.proofs.ways.Ways.sweep.Given as goal

-- the links before this one were swept
abbrev pub invariant-loop-link : goal.invariant-loop-link
invariant-loop-link l =
    (l.fed.marked ≡ sweep (take (l.link - 1) (net_along l.self).links) (take (l.link - 1) (row_along l.self)) l.initial.fed.marked)
    × (l.anew ≡ false → l.fed.marked ≡ l.initial.fed.marked)
