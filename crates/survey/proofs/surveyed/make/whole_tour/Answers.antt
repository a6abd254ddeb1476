use Rattle.survey.specs.Tables.{copied, toured}
use Rattle.survey.proofs.Steps.{tour_after}
use Rattle.survey.proofs.surveyed.make.whole_tour.Goals as goal

pub returns : goal.returns
returns c = tour_after (copied c.args.net.now) (toured c.new-visited.result) (toured c.visit_bar.new.tour) c.new-visited.ensures c.visit_bar.ensures.after
