use Rattle.survey.specs.Surveys.{VisitedBelow}
use Rattle.survey.specs.Tables.{toured}
use Rattle.survey.proofs.surveyed.make.check_visited.Given as goal

-- every bar so far was visited
abbrev pub invariant-loop-bar : goal.invariant-loop-bar
invariant-loop-bar l = VisitedBelow (toured l.visited) l.bar
