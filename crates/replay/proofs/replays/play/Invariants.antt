use Rattle.std.proofs.Common.{length}
use Rattle.stream.specs.Readers.{rest_of}
use Rattle.replay.proofs.Reached.{Reached}
use Rattle.replay.proofs.replays.play.Given as goal

-- the records so far were read and taken
abbrev pub invariant-loop-reader : goal.invariant-loop-reader
invariant-loop-reader l = Reached l.site l.bytes l.player l.reader

abbrev pub decreases-loop-reader : goal.decreases-loop-reader
decreases-loop-reader l = length (rest_of l.reader)
