-- What stands at the front of bytes: nothing, a record, an unknown kind or a record that is cut. Assumes nothing.
use Rattle.std.specs.Prelude.{◌≡◌, ℕ, ◌^◌, ◌<◌, ◌≢◌, List, [], ◌++◌, length, take}
use Rattle.stream.specs.Records.{Record, N, S, F, B, Z, record_bytes}

-- The numbers of a record fit into their bytes.
abbrev pub Fitting : Record → Type 0
Fitting (N bars links) = (bars < 2 ^ 16) × (links < 2 ^ 16)
Fitting (S link) = link < 2 ^ 16
Fitting (F out into) = (out < 2 ^ 16) × (into < 2 ^ 16)
Fitting (B out into) = (out < 2 ^ 16) × (into < 2 ^ 16)
Fitting (Z settings) = settings < 2 ^ 64

-- The first byte is the letter of this record.
abbrev pub Begins : List ℕ → Record → Type 0
Begins bytes r = take 1 bytes ≡ take 1 (record_bytes r)

-- What can stand at the front: nothing, a whole record and the rest after it, a byte that is no kind, a record whose body is cut.
pub data Front : Type 0 where
  Nothing : Front
  Whole : (r : Record) (rest : List ℕ) → Front
  NoKind : Front
  Cut : Front

-- What each of them says of the bytes.
abbrev pub Stands : List ℕ → Front → Type 0
Stands bytes Nothing = bytes ≡ []
Stands bytes (Whole r rest) = Fitting r × (bytes ≡ record_bytes r ++ rest)
Stands bytes NoKind = (bytes ≢ []) × ((r : Record) → Begins bytes r → ⊥)
Stands bytes Cut = (r : Record) × Begins bytes r × (length bytes < length (record_bytes r))

-- This stands at the front, and nothing else does.
pub record FrontIs (bytes : List ℕ) (f : Front) : Type 0 where
  pub stands : Stands bytes f
  pub only : (g : Front) → Stands bytes g → g ≡ f
