use Rattle.std.proofs.Common.{◌∙◌}
use Rattle.walk.proofs.Answered.{done_test}
use Rattle.walk.proofs.state.Walk.is_finished.Goals as goal

pub returns : goal.returns
returns c = c.is_done.ensures ∙ done_test c.args.self.now
