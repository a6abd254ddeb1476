-- The settings that rows of bytes, one a link, stand for. Assumes nothing.
use Rattle.std.specs.Prelude.{ℕ, Bool, List, map, ◌==◌}
use Rattle.net.specs.Settings.{Setting}

-- Byte 1 means closed, any other byte open.
abbrev pub is_closing_byte : ℕ → Bool
is_closing_byte byte = byte == 1

-- The setting of a row.
abbrev pub setting_in : List ℕ → Setting
setting_in row = map is_closing_byte row
