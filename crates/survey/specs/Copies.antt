-- A net in a table of links. Assumes nothing.
use Rattle.std.specs.Prelude.{ℕ, List, take, Option}
use Rattle.net.specs.Nets.{Net}

-- The net of so many bars whose links are the first n of a table.
abbrev pub table_net : ℕ → ℕ → List (Option (ℕ × ℕ)) → Net
table_net bars n table = record { bars = bars; links = take n table }
