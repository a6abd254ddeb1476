use Rattle.std.proofs.Common.{arith}
use Rattle.search.specs.Frames.{ranks_of}
use Rattle.search.proofs.Held.{last_top}
use Rattle.search.proofs.state.Search.last_move.Goals as goal

pub returns : goal.returns
returns c =
    let s = c.args.self.now in
    last_top (λ f. ranks_of f.moved) s.frames s.depth c.in_ok-last.last c.index-self-last.result (0, 0) (omega (arith, c.in_ok-last.ensures)) (omega arith)
