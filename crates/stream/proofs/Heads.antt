-- The head of a stream, written record by record.
use Rattle.std.proofs.Common.{◌≡◌, ℕ, ◌<◌, ◌≤◌, List, length, take, ap, arith}
use Rattle.std.proofs.lemmas.List.{length-take-le}
use Rattle.stream.specs.declared.writer.Writer.{Writer}
use Rattle.stream.specs.Records.{start_bytes, starts_bytes}
use Rattle.stream.specs.Writers.{left_in, Wrote}
use Rattle.stream.proofs.Lengths.{length_starts}

-- the next start link fits
pub start_fits : (w u : Writer) (starts : List ℕ) (i : ℕ) (r : List ℕ) (l : ℕ) → length (starts_bytes starts) ≤ left_in w
    → Wrote (starts_bytes (take i starts)) w u → r ≡ start_bytes l → i < length starts → length r ≤ left_in u
start_fits w u starts i r l fit wrote e lt = omega (
  arith,
  ap length e,
  wrote.left,
  length_starts starts,
  length_starts (take i starts),
  length-take-le i starts (omega arith),
)
