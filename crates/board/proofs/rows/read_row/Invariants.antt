use Rattle.std.proofs.Common.{◌≡◌, take}
use Rattle.flood.specs.Marked.{switched}
use Rattle.board.specs.Rows.{setting_in}
use Rattle.board.proofs.rows.read_row.Given as goal

-- the bytes so far were read
abbrev pub invariant-loop-at : goal.invariant-loop-at
invariant-loop-at l = (l.switches.site ≡ l.site) × (take l.at (switched l.switches) ≡ setting_in (take l.at l.row))
