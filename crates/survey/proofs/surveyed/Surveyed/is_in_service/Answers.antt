use Rattle.std.proofs.Common.{is_some}
use Rattle.std.proofs.lemmas.Bool.Decides.{Decides-at}
use Rattle.survey.specs.Answers.{net_of}
use Rattle.survey.proofs.Served.{ends_tell}
use Rattle.survey.proofs.surveyed.Surveyed.is_in_service.Goals as goal

pub returns : goal.returns
returns c = Decides-at c.is_some.result (is_some c.ends.result) c.is_some.ensures (ends_tell (net_of c.args.self.now) c.args.link c.ends.result c.ends.ensures)
