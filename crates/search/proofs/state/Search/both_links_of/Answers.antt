use Rattle.std.proofs.Common.{None, sym, inr, subst}
use Rattle.search.specs.Descents.{LinksOf}
use Rattle.search.specs.States.{net_in}
use Rattle.search.proofs.Places.{link_found, links_there}
use Rattle.search.proofs.state.Search.both_links_of.Goals as goal

pub returns-in_err-entering : goal.returns-in_err-entering
returns-in_err-entering c =
    let s = c.args.self.now in
    subst (LinksOf (net_in s) c.args.moved.leaving c.args.moved.entering) (sym c.from_residual-in_err-entering.ensures)
    (inr (sym (link_found s.switches.site c.site-2.result.now c.args.moved.entering None c.site-2.ensures c.in_err-entering.ensures)))

pub returns : goal.returns
returns c = links_there c.args.self.now.switches.site c.site.result.now c.site-2.result.now c.args.moved.leaving c.args.moved.entering c.in_ok-leaving.leaving c.in_ok-entering.entering
    c.site.ensures c.site-2.ensures c.in_ok-leaving.ensures c.in_ok-entering.ensures
