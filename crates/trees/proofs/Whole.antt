-- The laws of a net within the limits whose bars are all reached.
use Rattle.std.proofs.Common.{◌≡◌, ℕ, suc, ◌-◌, ◌^◌, ◌≤◌, ◌≢◌, ◌⊎◌, List, [], ◌∷◌, map, length, sym, ap, ◌∙◌, subst, inl, inr, append-nil, arith}
use native.Mathlib.Decide.{dec_le}
use Rattle.std.proofs.lemmas.Nat.{pow_below}
use Rattle.net.specs.Nets.{Net}
use Rattle.net.specs.Members.{Member, Rising}
use Rattle.net.specs.Settings.{Setting, Closed, Radial}
use Rattle.net.specs.Limits.{WithinLimits}
use Rattle.net.proofs.Members.{member_map, map_member, rising_as, rising_map}
use Rattle.survey.specs.Surveys.{start_setting, AllReached}
use Rattle.trees.specs.Rules.{FirstMissing}
use Rattle.trees.specs.Orders.{Move, Chain, start, Before, Earlier}
use Rattle.trees.specs.Listings.{listing, told, told_after}
use Rattle.trees.specs.Laws.{OneParent, Ruled, ByRule, no_more, Listed}
use Rattle.trees.proofs.Levels.{start_level}
use Rattle.trees.proofs.Loops.{cut_loop, loop_cut, cut_radial, radial_cut}
use Rattle.trees.proofs.Parents.{child_radial, child_parent, parent_radial, parent_child, gate_parent, one_parent}
use Rattle.trees.proofs.Chains.{earlier_cases, same_setting, before_apart, before_join}
use Rattle.trees.proofs.Tellings.{Keyed, keyed, first_off, start_alone, path_to, keyed_sound}
use Rattle.trees.proofs.Keys.{first_shorter, keyed_rises, keyed_full}
use Rattle.trees.proofs.Events.{below, keyed_below, told_events, rule_events, events_length}
use Rattle.trees.proofs.Different.{few_rows}

module _ (net : Net) (fit : WithinLimits net) (all : AllReached net) where
  has_parent : (T : Setting) → Radial net T → T ≢ start_setting net → (k : ℕ) × FirstMissing net T k
  has_parent T rad ne = elim (first_off net T (net.bars - 1) (omega (arith, fit.few_bars))) [
    | inl h ↦ absurd (ne (start_alone net fit all (net.bars - 1) (omega (arith, fit.few_bars)) T rad h))
    | inr (k, _, f) ↦ (k, f)
  ]

  one : (T : Setting) → Radial net T → T ≢ start_setting net → OneParent net T
  one T rad ne =
      let (k, f) = has_parent T rad ne in
      let (P, g, p) = gate_parent net fit all T k rad f in
      record {
        parent = P;
        leaving = k;
        entering = g;
        is_parent = p;
        parent_radial = parent_radial net fit all P T k g rad p;
        only = λ Q j h q. one_parent net fit all T rad Q P j k h g q p;
      }

  -- the radial settings with their chains
  abbrev chained : List Keyed
  chained = ([], start_setting net) ∷ keyed net (net.bars - 1) (start_setting net)

  chained_sound : (x : Keyed) → Member x chained → Chain net x.1 x.0 × Radial net x.1
  chained_sound x (inl e) = subst (λ z. Chain net z.1 z.0 × Radial net z.1) (sym e) (start, (start_level net fit all).radial)
  chained_sound x (inr m) = keyed_sound net fit all (net.bars - 1) (start_setting net) [] (start_level net fit all).low (start_level net fit all).radial (start_level net fit all).holds start x m

  chained_full : (T : Setting) → Radial net T → (c : List Move) × Member (c, T) chained
  chained_full T rad =
      let (c, p) = path_to net fit all (net.bars - 1) (omega (arith, fit.few_bars)) (net.bars - 1) T 0 rad (λ j j1 j0. absurd (omega arith)) (omega arith) in
      (c, keyed_full net fit all (start_level net fit all).radial p)

  chain_of : (T : Setting) → Radial net T → (c : List Move) × Chain net T c
  chain_of T rad = let (c, m) = chained_full T rad in (c, (chained_sound (c, T) m).0)

  chained_rises : Rising (λ x y. Earlier x.0 y.0) chained
  chained_rises = (first_shorter net (net.bars - 1) (start_setting net) (start_setting net), keyed_rises net fit all (net.bars - 1) (start_setting net))

  total : (S T : Setting) → Radial net S → Radial net T → (S ≡ T) ⊎ (Before net S T ⊎ Before net T S)
  total S T rs rt =
      let (c, p) = chain_of S rs in
      let (d, q) = chain_of T rt in
      elim (earlier_cases c d) [
        | inl e ↦ inl (same_setting net fit all rs rt p q e)
        | inr (inl l) ↦ inr (inl (c, d, p, q, l))
        | inr (inr l) ↦ inr (inr (d, c, q, p, l))
      ]

  pub ruled : Ruled net
  ruled = record {
    cuts = λ T f g rad cf og sg. record {
      cut_loop = cut_loop net fit all T f g rad;
      loop_cut = loop_cut net fit all T f g rad (λ e. og (subst (Closed T) e cf));
      cut_radial = cut_radial net fit all T f g rad cf;
      radial_cut = radial_cut net fit all T f g rad og sg;
    };
    parents = one;
    child_parent = λ P T k g rad c. (child_radial net fit all P k g T rad c, child_parent net fit all P k g T rad c);
    parent_child = λ P T k g rad p. parent_child net fit all P T k g rad p;
    not_before_itself = before_apart net fit all;
    before_joins = before_join net fit all;
    one_before = total;
  }

  -- the settings told are those with chains
  told_chained : told net (listing net) ≡ map (λ x. x.1) chained
  told_chained =
      ap (λ Ts. start_setting net ∷ Ts)
      (ap (told_after (start_setting net)) (sym (append-nil (listing net)))
      ∙ told_events net fit all (net.bars - 1) (start_setting net) (start_level net fit all) []
      ∙ append-nil (below net (net.bars - 1) (start_setting net))
      ∙ sym (keyed_below net (net.bars - 1) (start_setting net)))

  chained_before : Rising (λ x y. Before net x.1 y.1) chained
  chained_before = rising_as (λ x y. Earlier x.0 y.0) (λ x y. Before net x.1 y.1) chained
      (λ x y mx my l. (x.0, y.0, (chained_sound x mx).0, (chained_sound y my).0, l)) chained_rises

  told_radial : (T : Setting) → Member T (told net (listing net)) → Radial net T
  told_radial T m =
      let (x, mx, e) = member_map (λ y. y.1) T chained (subst (Member T) told_chained m) in
      subst (Radial net) (sym e) (chained_sound x mx).1

  told_before : Rising (Before net) (told net (listing net))
  told_before = subst (Rising (Before net)) (sym told_chained) (rising_map (λ x y. Before net x.1 y.1) (Before net) (λ x. x.1) chained (λ x y l. l) chained_before)

  told_once : Rising ◌≢◌ (told net (listing net))
  told_once = rising_as (Before net) ◌≢◌ (told net (listing net))
      (λ S T ms mt l e. before_apart net fit all T (told_radial T mt) (subst (λ R. Before net R T) e l)) told_before

  few_told : length (told net (listing net)) ≤ 2 ^ length net.links
  few_told = few_rows (length net.links) (told net (listing net)) (λ T m. (told_radial T m).one_a_link) told_once

  powers : (n : ℕ) → n ≤ 60 → 2 ^ n ≤ 2 ^ 60
  powers n h = elim (dec_le 60 n) [
    | yes l ↦ let e : n ≡ 60 = omega arith in rw e (omega arith)
    | no m ↦ omega (arith, pow_below n 60 (omega arith))
  ]

  pub listed : Listed net
  listed = record {
    by_rule = subst (ByRule net (start_setting net) []) (append-nil (listing net)) (rule_events net fit all (net.bars - 1) (start_setting net) (start_level net fit all) [] [] no_more);
    radial = told_radial;
    every = λ T rad. let (c, m) = chained_full T rad in subst (Member T) (sym told_chained) (map_member (λ x. x.1) (c, T) chained m);
    in_order = told_before;
    once = told_once;
    at_most = omega (arith, few_told, powers (length net.links) fit.few_links, events_length net fit all (net.bars - 1) (start_setting net), below_told);
  }
    where
      below_told : length (told net (listing net)) ≡ suc (length (below net (net.bars - 1) (start_setting net)))
      below_told = ap length told_chained ∙ ap suc (ap length (keyed_below net (net.bars - 1) (start_setting net)))
