use Rattle.std.proofs.Common.{◌≡◌, take, drop}
use Rattle.survey.specs.Answers.{net_of}
use Rattle.walk.specs.Calls.{handed_on}
use Rattle.walk.specs.Walks.{net_of_walk, handed_by}
use Rattle.runs.specs.Runs.{Ran}
use Rattle.runs.proofs.driver.make_all.Given as goal

-- the calls so far were made, and the others are as they were
abbrev pub invariant-loop-call : goal.invariant-loop-call
invariant-loop-call g l =
    (net_of_walk l.walk ≡ net_of l.site)
    × Ran g.C.Collector.sum g.C.Collector.spare g.C.Collector.rule (net_of l.site) (take l.call-index l.initial.calls) (take l.call-index l.calls) (handed_on (net_of l.site) (handed_by l.walk))
    × (drop l.call-index l.calls ≡ drop l.call-index l.initial.calls)
