use Rattle.replay.specs.Refusals.{stands_not}
use Rattle.replay.proofs.Misplaced.{not_start}
use Rattle.replay.proofs.player.Starts.take.Goals as goal

pub returns-in_default : goal.returns-in_default
returns-in_default c = stands_not (not_start c.args.self c.args.entry c.in_default.not-Start)
