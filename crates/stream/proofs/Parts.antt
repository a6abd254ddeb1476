-- How the bytes of a stream are taken apart: kind, body and rest. Assumes nothing.
use Rattle.std.specs.Prelude.{◌≡◌, ℕ, ◌+◌, ◌<◌, ◌⊎◌, List, length, take, drop, slice_index_or}
use Rattle.std.specs.List.{between}
use Rattle.stream.specs.declared.bodies.Body.{Body}
use Rattle.stream.specs.declared.bodies.Body.TheVariants.{Net, Start, Forward, Back, End}

-- A letter stands first, the n bytes of the body follow it, and then the rest.
pub record Parted (bytes : List ℕ) (letter n : ℕ) (body rest : List ℕ) : Type 0 where
  pub first : slice_index_or bytes 0 0 ≡ letter
  pub long : n < length bytes
  pub middle : body ≡ take n (drop 1 bytes)
  pub last : rest ≡ between (n + 1) (length bytes) bytes

-- The kind fixes the letter and how long the body is: N is the byte 78, S 83, F 70, B 66 and Z 90.
abbrev pub Parts : List ℕ → Body → List ℕ → Type 0
Parts bytes (Net body) rest = Parted bytes 78 4 body.now rest
Parts bytes (Start body) rest = Parted bytes 83 2 body.now rest
Parts bytes (Forward body) rest = Parted bytes 70 4 body.now rest
Parts bytes (Back body) rest = Parted bytes 66 4 body.now rest
Parts bytes (End body) rest = Parted bytes 90 8 body.now rest

-- Whatever letter stands first, fewer bytes follow than its body has.
pub record Short (bytes : List ℕ) : Type 0 where
  pub net : slice_index_or bytes 0 0 ≡ 78 → length bytes < 5
  pub start : slice_index_or bytes 0 0 ≡ 83 → length bytes < 3
  pub forward : slice_index_or bytes 0 0 ≡ 70 → length bytes < 5
  pub back : slice_index_or bytes 0 0 ≡ 66 → length bytes < 5
  pub end : slice_index_or bytes 0 0 ≡ 90 → length bytes < 9

-- A byte is one of the five letters.
abbrev pub Letter : ℕ → Type 0
Letter b = (b ≡ 78) ⊎ (b ≡ 83) ⊎ (b ≡ 70) ⊎ (b ≡ 66) ⊎ (b ≡ 90)
