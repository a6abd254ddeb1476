use Rattle.std.proofs.Common.{subst}
use Rattle.flood.specs.Rows.{Presents}
use Rattle.walk.specs.Walks.{net_of_walk}
use Rattle.walk.proofs.state.Walk.present.Goals as goal

pub returns : goal.returns
returns c =
    let w = c.args.self.now in
    subst (λ T. Presents (net_of_walk w) T c.args.row.now c.present.result c.present.new.row) w.reached c.present.ensures
