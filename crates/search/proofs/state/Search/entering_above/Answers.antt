use Rattle.std.proofs.Common.{◌-◌, ◌^◌, lit≤, length, ap, arith, rules, tests}
use Rattle.std.proofs.lemmas.Iterator.{first_from_Range}
use Rattle.survey.specs.Answers.{net_of}
use Rattle.search.specs.Descents.{EntersAt}
use Rattle.search.specs.States.{net_in, setting_of}
use Rattle.search.proofs.Held.{first_enters}
use Rattle.search.proofs.state.Search.entering_above.Goals as goal

pub returns : goal.returns
returns c =
    let s = c.args.self.now in
    let E = EntersAt (net_in s) (setting_of s) s.ceiling in
    first_enters s c.args.rank (2 ^ 64 - 1) _ _ c.find.result c.saturating_add.ensures (lit≤ tt) (omega (arith, c.links.ensures, ap (λ t. length (net_of t).links) c.site.ensures))
    (first_from_Range _ _ _ _ E (λ q. E q → ⊥) c.find.ensures.ran (λ x q k. search (rules, tests)) (λ x q k. (search rules, search (rules, tests))))
