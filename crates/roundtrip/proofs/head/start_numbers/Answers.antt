use Rattle.std.proofs.Common.{suc, ◌++◌, [], ◌∷◌, length, get_or, sym, ap, ◌∙◌, arith}
use Rattle.std.proofs.lemmas.List.{take_more, length-take-le}
use Rattle.survey.specs.Answers.{net_of}
use Rattle.survey.proofs.Whole.{surveyed_fits, surveyed_reached, surveyed_starts}
use Rattle.roundtrip.proofs.Heads.{start_fits}
use Rattle.roundtrip.proofs.head.start_numbers.Goals as goal

pub overflow_cast-link : goal.overflow_cast-link
overflow_cast-link c =
    let site = c.args.site.now in
    let i = c.loop-link.link-index in
    omega (arith, ap (λ xs. get_or xs i 0) c.start_links-link-items.ensures, start_fits (net_of site) (surveyed_fits site) (surveyed_reached site) (suc i))

pub push-requires : goal.push-requires
push-requires c =
    let site = c.args.site.now in
    let i = c.loop-link.link-index in
    let links = c.start_links-link-items.result.now in
    omega (arith, ap length c.loop-link.invariant, length-take-le i links (omega arith), ap length c.start_links-link-items.ensures, surveyed_starts site, (surveyed_fits site).few_bars)

pub loop-link-preserved : goal.loop-link-preserved
loop-link-preserved c =
    let i = c.loop-link.link-index in
    let links = c.start_links-link-items.result.now in
    c.push.ensures.items ∙ ap (λ xs. xs ++ (get_or links i 0 ∷ [])) c.loop-link.invariant ∙ sym (take_more links i 0 (omega arith))
