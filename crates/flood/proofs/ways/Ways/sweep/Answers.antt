use Rattle.std.proofs.Common.{◌≡◌, ◌+◌, ◌-◌, rules, take, sym, ap, ◌∙◌, arith}
use Rattle.net.specs.Nets.{nth, ends_of}
use Rattle.survey.proofs.Whole.{surveyed_fits}
use Rattle.trees.specs.Listings.{touch, sweep}
use Rattle.flood.specs.Ways.{net_along, row_along}
use Rattle.flood.proofs.Sweeps.{sweep_on, swept_all}
use Rattle.flood.proofs.ways.Ways.sweep.Goals as goal
use Rattle.flood.proofs.ways.Ways.sweep.Goals.{After-sweep_link-anew}

-- this link was swept too
swept : (c : After-sweep_link-anew) → let net = net_along c.args.self.now in
    c.sweep_link-anew.new.fed.marked ≡ sweep (take c.loop-link.link net.links) (take c.loop-link.link (row_along c.args.self.now)) c.args.fed.now.marked
swept c =
    let net = net_along c.args.self.now in
    c.sweep_link-anew.ensures.fed
    ∙ ap (touch (ends_of net c.loop-link.link) (nth c.args.self.now.closed.now.marked c.loop-link.link _)) c.loop-link.invariant.0
    ∙ sym (sweep_on net c.args.self.now.closed.now.marked c.args.fed.now.marked c.loop-link.link (omega arith) (omega (arith, c.loop-link-test.true, c.links-link-end.ensures))
    (omega (arith, (surveyed_fits c.args.self.now.site.now).few_links, c.args.self.now.closed.now.long)))

pub loop-link-preserved : goal.loop-link-preserved
loop-link-preserved c =
    let e : c.loop-link.link + 1 - 1 ≡ c.loop-link.link = omega arith in
    (rw e (swept ((goal.at.loop-link-preserved c).After-sweep_link-anew)), search rules)

pub returns-2-clause-fed : goal.returns-2-clause-fed
returns-2-clause-fed c =
    swept ((goal.at.returns-2-clause-fed c).After-sweep_link-anew)
    ∙ swept_all (net_along c.args.self.now) c.args.self.now.closed.now.marked c.args.fed.now.marked c.loop-link.link (omega (arith, c.links-link-end.ensures))
