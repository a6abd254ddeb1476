use Rattle.std.proofs.Common.{◌≡◌, ◌+◌, ◌-◌, ◌≤◌, ◌++◌, length, filter}
use Rattle.std.specs.List.{range_with_len}
use Rattle.survey.specs.Listed.{listed}
use Rattle.survey.specs.Tables.{copied, toured}
use Rattle.survey.proofs.Others.{ranks_at}
use Rattle.survey.proofs.links.rank_others.Given as goal

-- of the links below, those that belong here are ranked
abbrev pub invariant-loop-link : goal.invariant-loop-link
invariant-loop-link l =
    (l.link ≤ length (copied l.net).links + 1)
    × (listed l.links ≡ listed l.initial.links ++ filter (ranks_at (copied l.net) (toured l.tour) l.rank) (range_with_len 1 (l.link - 1)))
