use Rattle.std.proofs.Common.{◌≡◌, ℕ, suc, ◌+◌, ◌<◌, get_or, None, ap, ◌∙◌, add-one, arith, rules}
use Rattle.std.proofs.lemmas.Result.{err_from_is_err_and}
use Rattle.net.specs.Nets.{ends_of}
use Rattle.survey.proofs.Copied.{table_made, table_filled, table_within}
use Rattle.survey.proofs.Whole.{surveys_net}
use Rattle.survey.proofs.copy.NetCopy.copy.Given.{Over}
use Rattle.survey.proofs.copy.NetCopy.copy.Goals as goal
use Rattle.survey.proofs.copy.NetCopy.copy.Goals.{After-from_fn-ends}

-- the table holds the ends of each link
made : (g : Over) (c : After-from_fn-ends g) (k : ℕ) → k < 60 → get_or c.from_fn-ends.result k None ≡ ends_of (g.S.NetSource.meaning c.args.source.now) (suc k)
made g c k lt =
    let net = g.S.NetSource.meaning c.args.source.now in
    table_made c.from_fn-ends.ensures.items (λ i. ends_of net (i + 1)) (λ q i y w. search (rules, c.links.ensures)) None k lt ∙ ap (ends_of net) (add-one k)

pub invariant_of-result : goal.invariant_of-result
invariant_of-result g c = record {
  long = c.from_fn-ends.ensures.items.long;
  few = omega (arith, c.in_ok-check.ensures.few_links);
  within = table_within c.from_fn-ends.result c.links.result
      (omega (arith, c.from_fn-ends.ensures.items.long, c.in_ok-check.ensures.few_links))
      (g.S.NetSource.meaning c.args.source.now) c.bars-bars.result c.bars-bars.ensures c.links.ensures
      (λ k h. made g c k (omega (arith, c.in_ok-check.ensures.few_links))) c.in_ok-check.ensures;
}

pub returns : goal.returns
returns g c = table_filled c.from_fn-ends.result c.links.result (omega (arith, c.from_fn-ends.ensures.items.long, c.in_ok-check.ensures.few_links))
    (g.S.NetSource.meaning c.args.source.now) c.bars-bars.result c.bars-bars.ensures c.links.ensures
    (λ k h. made g c.before k (omega (arith, c.in_ok-check.ensures.few_links)))

pub returns-in_err-check : goal.returns-in_err-check
returns-in_err-check g c =
    let p = err_from_is_err_and c.from_residual.result c.from_residual.ensures.1 in
    rw (p.1, p.2) (surveys_net (g.S.NetSource.meaning c.args.source.now) c.in_err-check.field-0.0 c.in_err-check.ensures)
