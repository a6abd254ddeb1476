-- What a sheet holds, and what becomes of it. Assumes nothing.
use Rattle.std.specs.Prelude.{◌≡◌, ℕ, ◌+◌, ◌-◌, ◌<◌, ◌≤◌, List, ◌++◌, length, take, Result, MatchResult}
use Rattle.std.specs.Io.Cursor.{cursor_position, cursor_inner}
use Rattle.faults.specs.declared.CollectorFault.{CollectorFault}
use Rattle.faults.specs.declared.CollectorFault.TheVariants.{Full}
use Rattle.sheets.specs.declared.sheet.Sheet.{Sheet}

-- The bytes that it has room for.
abbrev pub room_on : Sheet → ℕ
room_on s = length (cursor_inner s.page).now

-- How many bytes are written.
abbrev pub far_on : Sheet → ℕ
far_on s = cursor_position s.page

-- The bytes written.
abbrev pub bytes_on : Sheet → List ℕ
bytes_on s = take (far_on s) (cursor_inner s.page).now

-- How many bytes more it has room for.
abbrev pub left_on : Sheet → ℕ
left_on s = room_on s - far_on s

-- Bytes are written behind the others, on the same sheet.
pub record WroteOn (bytes : List ℕ) (s s' : Sheet) : Type 0 where
  pub behind : bytes_on s' ≡ bytes_on s ++ bytes
  pub left : left_on s ≡ left_on s' + length bytes
  pub room : room_on s' ≡ room_on s

-- Nothing changes.
abbrev pub KeptOn : Sheet → Sheet → Type 0
KeptOn s s' = ((cursor_inner s'.page).now ≡ (cursor_inner s.page).now) × (far_on s' ≡ far_on s)

-- A call that writes these bytes; where they do not fit it is refused, and nothing changes.
abbrev pub WritesOn : List ℕ → Sheet → Result (Unit {0}) CollectorFault → Sheet → Type 0
WritesOn bytes s r s' = MatchResult r (λ _. (length bytes ≤ left_on s) × WroteOn bytes s s') (λ f. (f ≡ Full) × (left_on s < length bytes) × KeptOn s s')
