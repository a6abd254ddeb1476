use Rattle.std.proofs.Common.{◌+◌, ◌≤◌, length, take, drop, sym, ap, ◌∙◌, subst, ap₂, arith}
use Rattle.std.proofs.lemmas.List.{drop-drop}
use Rattle.survey.specs.Surveys.{start_setting}
use Rattle.trees.specs.Listings.{listing, reached_by, told}
use Rattle.collectors.specs.Exchanges.{said_by}
use Rattle.walk.specs.Cursors.{net_at}
use Rattle.walk.proofs.Passed.{first_left, reached_more, told_more, settings_fit, exchanges_fit}
use Rattle.walk.proofs.state.Walk.pass.Goals as goal

pub overflow_add-self : goal.overflow_add-self
overflow_add-self c =
    let w = c.args.self.now in
    omega (arith, settings_fit w.cursor w.exchanges (said_by c.args.exchange) c.requires, w.counted, c.settings_told.ensures)

pub overflow_add-self-2 : goal.overflow_add-self-2
overflow_add-self-2 c =
    let w = c.args.self.now in
    omega (arith, exchanges_fit w.cursor w.exchanges (said_by c.args.exchange) c.requires)

pub invariant_of-self : goal.invariant_of-self
invariant_of-self c =
    let w = c.args.self.now in
    let net = net_at w.cursor in
    let n = w.exchanges in
    let x = said_by c.args.exchange in
    let same = c.step.ensures.net in record {
      within = subst (λ m. n + 1 ≤ length (listing m)) (sym same) (omega (arith, (first_left (listing net) n x c.requires).within));
      coming = c.step.ensures.coming ∙ ap (drop 1) w.coming ∙ drop-drop 1 n (listing net) ∙ ap (λ m. drop (n + 1) (listing m)) (sym same);
      reached = c.step.ensures.setting ∙ ap₂ (λ T xs. reached_by T (take 1 xs)) w.reached w.coming ∙ reached_more net n x c.requires (start_setting net)
          ∙ ap (λ m. reached_by (start_setting m) (take (n + 1) (listing m))) (sym same);
      counted = ap₂ (λ a b. a + b) w.counted c.settings_told.ensures ∙ sym (told_more net n x c.requires) ∙ ap (λ m. length (told m (take (n + 1) (listing m)))) (sym same);
    }
