use Rattle.std.proofs.Common.{◌≡◌, ◌-◌, true, false, replicate}
use Rattle.net.specs.Nets.{put, infeed}
use Rattle.trees.specs.Listings.{sweeps}
use Rattle.flood.specs.Ways.{net_along, row_along}
use Rattle.flood.proofs.ways.Ways.flood.Given as goal

-- what the sweeps still to be made give
abbrev pub invariant-loop : goal.invariant-loop
invariant-loop l =
    let net = net_along l.self in
    sweeps (net.bars - l.counter) net (row_along l.self) l.fed.marked ≡ sweeps net.bars net (row_along l.self) (put (replicate 32 false) (infeed net) true)
