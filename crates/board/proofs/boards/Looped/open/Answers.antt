use Rattle.board.proofs.Decided.{radial_of}
use Rattle.board.proofs.Splits.{on_loop_radial}
use Rattle.board.proofs.boards.Looped.open.Goals as goal

pub invariant_of-result : goal.invariant_of-result
invariant_of-result c = record { radial = ∣ radial_of c.put.ensures.site c.put.ensures.row (on_loop_radial c.args.self c.args.link c.requires) ∣₁ }
