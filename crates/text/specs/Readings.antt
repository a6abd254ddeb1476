-- What reading a text answers. Assumes nothing.
use Rattle.std.specs.Prelude.{◌≡◌, ℕ, ◌%◌, ◌<◌, ◌≤◌, List, length, Ok, Err, vec_items, Result}
use Rattle.faults.specs.declared.Fault.{Fault}
use Rattle.faults.specs.declared.TextFault.{TextFault}
use Rattle.net.specs.Sources.{pairs}
use Rattle.text.specs.declared.TextNet.{TextNet}
use Rattle.text.specs.Form.{InForm, BadLine}

-- Why a text is not read: the first question that is answered no.
-- Memory is wanting only where the caller's row has room for less than 2,044 numbers, which is enough for every text.
abbrev pub ReadFault : List ℕ → ℕ → Fault → Type 0
ReadFault bytes room (Fault.Text TextFault.TooLong) = 4096 < length bytes
ReadFault bytes room (Fault.Text (TextFault.NotInForm l)) = (length bytes ≤ 4096) × BadLine bytes l
ReadFault bytes room Fault.Memory = room < 2044
ReadFault bytes room (Fault.Net f) = ⊥
ReadFault bytes room (Fault.Survey f) = ⊥
ReadFault bytes room (Fault.Collector f) = ⊥
ReadFault bytes room (Fault.Board f) = ⊥
ReadFault bytes room (Fault.Stream f) = ⊥
ReadFault bytes room (Fault.Replay f) = ⊥

-- The bars and the row of a text in form, of at most 4,096 bytes; else why it is not read.
abbrev pub Reads : List ℕ → ℕ → Result TextNet Fault → Type 0
Reads bytes room (Ok t) = (length bytes ≤ 4096) × InForm bytes t.bars (pairs (vec_items t.row)) × (length (vec_items t.row) % 2 ≡ 0)
Reads bytes room (Err f) = ReadFault bytes room f
