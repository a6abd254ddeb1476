use Rattle.std.proofs.Common.{◌≡◌, ◌-◌, ◌++◌}
use Rattle.std.specs.List.{range_with_len, flat_map}
use Rattle.survey.specs.Listed.{listed}
use Rattle.survey.specs.Tables.{copied, toured}
use Rattle.survey.specs.Surveys.{others_at}
use Rattle.survey.proofs.links.rank_links.Given as goal

-- the start links and the others of lower ranks are ranked
abbrev pub invariant-loop-rank : goal.invariant-loop-rank
invariant-loop-rank l = listed l.links ≡ (toured l.tour).starts ++ flat_map (others_at (copied l.net) (toured l.tour)) (range_with_len 1 (l.rank - 1))
