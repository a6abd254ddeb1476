use Rattle.std.proofs.Common.{◌≡◌, ◌+◌, ◌-◌, ap, ◌∙◌, arith, rules}
use Rattle.survey.specs.Surveys.{start_setting}
use Rattle.survey.specs.Answers.{net_of}
use Rattle.survey.proofs.Whole.{surveyed_fits}
use Rattle.flood.specs.Marked.{switched, fed_in}
use Rattle.trees.specs.Rules.{IsStart}
use Rattle.search.specs.Frames.{fed_without}
use Rattle.search.proofs.Places.{table_made}
use Rattle.search.proofs.state.start.feed_starts.Goals as goal

pub returns : goal.returns
returns c =
    let net = net_of c.args.switches.now.site in
    table_made _ _ (fed_in net) (fed_without net (start_setting net)) (net.bars - 1) (λ i y q k. (
      search rules,
      λ lt.
          let h : IsStart net (i + 1) → fed_in net y ≡ fed_without net (switched c.args.switches.now) (i + 1) = search rules in
          h (omega arith, omega arith) ∙ ap (λ T. fed_without net T (i + 1)) c.requires,
    )) c.from_fn.result 32 c.from_fn.ensures.items
    (omega (arith, (surveyed_fits c.args.switches.now.site).few_bars))
