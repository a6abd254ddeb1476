use Rattle.std.proofs.Common.{◌+◌, rules, arith}
use Rattle.std.proofs.lemmas.Result.{err_from_is_err_and}
use Rattle.net.specs.Limits.{FewBars}
use Rattle.net.proofs.Asked.{one_more, all_asked, first_no}
use Rattle.net.proofs.limits.check.Goals as goal

pub loop-link-preserved : goal.loop-link-preserved
loop-link-preserved g c =
    one_more (g.S.NetSource.meaning c.args.source.now) c.loop-link.link c.loop-link.invariant c.in_ok-check_link.ensures

pub returns-in_err-check_link : goal.returns-in_err-check_link
returns-in_err-check_link g c =
    let net = g.S.NetSource.meaning c.args.source.now in
    let p = err_from_is_err_and c.from_residual.result c.from_residual.ensures.1 in
    let few : FewBars net = search rules in
    rw (p.1, p.2) (first_no net c.loop-link.link _ few (omega arith) c.loop-link.invariant c.in_err-check_link.ensures)

pub returns-in_ok-check_link : goal.returns-in_ok-check_link
returns-in_ok-check_link g c =
    let net = g.S.NetSource.meaning c.args.source.now in
    let few : FewBars net = search rules in
    let below = one_more net c.loop-link.link c.loop-link.invariant c.in_ok-check_link.ensures in
    all_asked net (c.loop-link.link + 1) few (omega arith) (omega arith) below
