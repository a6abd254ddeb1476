use Rattle.std.proofs.Common.{sym, refl, subst, inl}
use Rattle.walk.specs.Calls.{HandsOne}
use Rattle.walk.specs.Walks.{net_of_walk, handed_by}
use Rattle.walk.proofs.Answered.{none_left}
use Rattle.walk.proofs.state.Walk.hand_on.Goals as goal

pub returns-in_err-exchange-clause-handed : goal.returns-in_err-exchange-clause-handed
returns-in_err-exchange-clause-handed g c =
    let w = c.args.self.now in
    let K = g.C.Collector in
    let n = handed_by w in
    let sum = K.sum c.args.collector.now in
    let spare = K.spare c.args.collector.now in
    subst (HandsOne K.rule (net_of_walk w) n n sum spare sum spare) (sym c.from_residual.ensures) (inl (none_left w c.in_err-exchange.ensures), refl, refl, refl)
