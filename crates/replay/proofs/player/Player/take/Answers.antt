use Rattle.stream.specs.Bodies.{record_of}
use Rattle.replay.specs.Refusals.{stands_not}
use Rattle.replay.proofs.Misplaced.{not_ended}
use Rattle.replay.proofs.player.Player.take.Goals as goal

pub returns-in-Ended : goal.returns-in-Ended
returns-in-Ended c = stands_not (not_ended c.args.self c.in-Ended.field-0 (record_of c.args.entry) c.in-Ended.is)
