use Rattle.replay.specs.Refusals.{stands_not}
use Rattle.replay.proofs.Misplaced.{not_first}
use Rattle.replay.proofs.player.opening.take_first.Goals as goal

pub returns-in_default : goal.returns-in_default
returns-in_default c = stands_not (not_first c.args.entry c.in_default.not-Net)
