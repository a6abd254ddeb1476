use Rattle.replay.specs.Refusals.{stands_not}
use Rattle.replay.proofs.Misplaced.{not_walking}
use Rattle.replay.proofs.player.Course.take.Goals as goal

pub returns-in_default : goal.returns-in_default
returns-in_default c = stands_not (not_walking c.args.self c.args.entry c.in_default.not-Forward c.in_default.not-Back c.in_default.not-End)
