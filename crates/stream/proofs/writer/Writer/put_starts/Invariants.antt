use Rattle.std.proofs.Common.{take}
use Rattle.stream.specs.Records.{starts_bytes}
use Rattle.stream.specs.Writers.{Wrote}
use Rattle.stream.proofs.writer.Writer.put_starts.Given as goal

-- the start links so far are written
abbrev pub invariant-loop-start : goal.invariant-loop-start
invariant-loop-start l = Wrote (starts_bytes (take l.start-index l.starts)) l.initial.self l.self
