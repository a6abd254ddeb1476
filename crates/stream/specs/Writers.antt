-- What a writer means, and what its calls do. Assumes nothing.
use Rattle.std.specs.Prelude.{ℕ, ◌/◌, List, ◌++◌, Result}
use Rattle.faults.specs.declared.CollectorFault.{CollectorFault}
use Rattle.trees.specs.Listings.{Exchanged}
use Rattle.sheets.specs.Sheets.{room_on, bytes_on, left_on, WroteOn, KeptOn, WritesOn}
use Rattle.stream.specs.declared.writer.Writer.{Writer}
use Rattle.stream.specs.Records.{exchange_bytes}

-- The bytes that the buffer has room for.
abbrev pub room_of : Writer → ℕ
room_of w = room_on w.sheet

-- The bytes written.
abbrev pub bytes_of : Writer → List ℕ
bytes_of w = bytes_on w.sheet

-- The bytes left.
abbrev pub left_in : Writer → ℕ
left_in w = left_on w.sheet

-- How many more exchanges it takes: 5 bytes each.
abbrev pub spare_of : Writer → ℕ
spare_of w = left_in w / 5

-- The rule: the bytes of an exchange are written behind the others.
abbrev pub written_on : List ℕ → Exchanged → List ℕ
written_on bytes x = bytes ++ exchange_bytes x

-- Bytes are written behind the others, in the same buffer.
abbrev pub Wrote : List ℕ → Writer → Writer → Type 0
Wrote bytes w w' = WroteOn bytes w.sheet w'.sheet

-- Nothing changes.
abbrev pub Kept : Writer → Writer → Type 0
Kept w w' = KeptOn w.sheet w'.sheet

-- A call that writes these bytes; where they do not fit it is refused, and nothing changes.
abbrev pub Writes : List ℕ → Writer → Result (Unit {0}) CollectorFault → Writer → Type 0
Writes bytes w r w' = WritesOn bytes w.sheet r w'.sheet
