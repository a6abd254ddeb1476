use Rattle.std.proofs.Common.{◌+◌, ◌-◌, take, sym, ap, ◌∙◌, arith}
use Rattle.survey.proofs.Whole.{surveyed_fits}
use Rattle.trees.specs.Listings.{sweeps}
use Rattle.flood.specs.Ways.{net_along, row_along}
use Rattle.flood.proofs.Sweeps.{sweeps_still, flood_first, sweeps_more, sweeps_done}
use Rattle.flood.proofs.ways.Ways.flood.Goals as goal

pub returns : goal.returns
returns c =
    let net = net_along c.args.self.now in
    let T = row_along c.args.self.now in
    ap (take net.bars)
    (sym (sweeps_done net.bars c.loop.counter net T c.loop.fed.marked (omega (arith, c.loop-test.false, c.bars-end.ensures))) ∙ c.loop.invariant)
    ∙ flood_first net (surveyed_fits c.args.self.now.site.now) T

pub returns-then-not-sweep : goal.returns-then-not-sweep
returns-then-not-sweep c =
    let net = net_along c.args.self.now in
    let T = row_along c.args.self.now in
    let still = c.sweep.ensures.still c.if-not-sweep.true in
    ap (take net.bars)
    (still
    ∙ sym (sweeps_still (net.bars - c.loop.counter) net T c.loop.fed.marked (sym c.sweep.ensures.fed ∙ still))
    ∙ c.loop.invariant)
    ∙ flood_first net (surveyed_fits c.args.self.now.site.now) T

pub loop-preserved : goal.loop-preserved
loop-preserved c =
    let net = net_along c.args.self.now in
    let T = row_along c.args.self.now in
    ap (sweeps (net.bars - (c.loop.counter + 1)) net T) c.sweep.ensures.fed
    ∙ sweeps_more net.bars c.loop.counter net T c.loop.fed.marked (omega (arith, c.loop-test.true, c.bars-end.ensures))
    ∙ c.loop.invariant
