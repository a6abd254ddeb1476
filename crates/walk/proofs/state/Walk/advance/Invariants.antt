use Rattle.std.proofs.Common.{◌≡◌, ◌+◌, ◌-◌, ◌≤◌, take, drop, fold}
use Rattle.trees.specs.Listings.{listing}
use Rattle.walk.specs.Walks.{net_of_walk, handed_by}
use Rattle.walk.proofs.state.Walk.advance.Given as goal

-- so many exchanges were handed on
abbrev pub invariant-loop-count : goal.invariant-loop-count
invariant-loop-count g l =
    (net_of_walk l.self ≡ net_of_walk l.initial.self) × (handed_by l.self ≡ handed_by l.initial.self + l.count)
    × (g.C.Collector.sum l.collector
    ≡ fold g.C.Collector.rule (g.C.Collector.sum l.initial.collector) (take l.count (drop (handed_by l.initial.self) (listing (net_of_walk l.initial.self)))))
    × (g.C.Collector.spare l.initial.collector ≡ g.C.Collector.spare l.collector + l.count) × (l.count ≤ l.allowance)

abbrev pub decreases-loop-count : goal.decreases-loop-count
decreases-loop-count g l = l.allowance - l.count
