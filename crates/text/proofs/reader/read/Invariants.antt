use Rattle.std.proofs.Common.{◌≤◌, vec_items, vec_capacity}
use Rattle.std.specs.Slice.Iter.{split_inclusive_rest}
use Rattle.std.specs.Iterator.Adapters.{zip_first, zip_second}
use Rattle.text.proofs.LinkRows.{Reading}
use Rattle.text.proofs.reader.read.Given as goal

-- the lines so far are in the row
abbrev pub invariant-loop-line : goal.invariant-loop-line
invariant-loop-line l = record {
  reading : Reading l.text l.bars (vec_items l.row) (split_inclusive_rest (zip_first l.line-iterator)) (zip_second l.line-iterator).start;
  room : vec_capacity l.fn.row ≤ vec_capacity l.row;
}
