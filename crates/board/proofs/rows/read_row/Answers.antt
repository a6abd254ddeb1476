use Rattle.std.proofs.Common.{◌<◌, length, ap, ◌∙◌, arith}
use Rattle.survey.specs.Answers.{net_of}
use Rattle.flood.specs.Marked.{switched}
use Rattle.board.proofs.Bytes.{read_more}
use Rattle.flood.proofs.Lengths.{switched_length}
use Rattle.board.proofs.rows.read_row.Goals as goal

pub loop-at-preserved : goal.loop-at-preserved
loop-at-preserved c =
    let s = c.loop-at.switches in
    let room : c.loop-at.at < length (switched s) =
    omega (arith, c.loop-at-test.true, c.requires, switched_length s, ap (λ s. length (net_of s).links) c.loop-at.invariant.0) in (
      c.put.ensures.site ∙ c.loop-at.invariant.0,
      read_more c.args.row.now (switched s) (switched c.put.new.self) c.loop-at.at c.means_closed.result c.loop-at-test.true room c.loop-at.invariant.1 c.means_closed.ensures c.put.ensures.row,
    )
