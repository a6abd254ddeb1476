use Rattle.std.proofs.Common.{◌≡◌, ℕ, ◌+◌, ◌-◌, ◌*◌, ◌≤◌, length}
use Rattle.survey.specs.Visits.{looks}
use Rattle.survey.specs.Tables.{copied, toured}
use Rattle.survey.proofs.tour.visits.+look_at_link_visit_bar.Given as goal

-- the number of unvisited bars falls with each visit
abbrev pub decreases-look_at_link : goal.decreases-look_at_link
decreases-look_at_link l = (32 - length (toured l.tour.now).order) * 2

abbrev pub decreases-visit_bar : goal.decreases-visit_bar
decreases-visit_bar l = (32 - length (toured l.tour.now).order) * 2 + 1

-- the links below were looked at
abbrev pub invariant-visit_bar-loop-link : goal.invariant-visit_bar-loop-link
invariant-visit_bar-loop-link l =
    (l.link ≤ length (copied l.net).links + 1)
    × (length (toured l.initial.tour).order ≤ length (toured l.tour).order)
    × ((n : ℕ) → 32 - length (toured l.initial.tour).order ≤ n → toured l.tour ≡ looks n (copied l.net) l.bar (toured l.initial.tour) (l.link - 1))
