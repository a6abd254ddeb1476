use Rattle.std.proofs.Common.{◌≡◌, take}
use Rattle.flood.specs.Marked.{switched}
use Rattle.flood.specs.Rows.{row_of}
use Rattle.flood.proofs.rows.write_row.Given as goal

-- the bytes so far were written
abbrev pub invariant-loop-at : goal.invariant-loop-at
invariant-loop-at l = take l.at l.row ≡ row_of (take l.at (switched l.switches))
