-- The links that pass the test are those that may enter, in rising rank.
use Rattle.std.proofs.Common.{◌≡◌, ℕ, ◌<◌, Bool, true, false, cond, not, ◌&&◌, eqb, ◌⊎◌, Some, None, Option, unwrap_or, refl, ap, inl, inr, arith}
use Rattle.std.proofs.lemmas.Bool.{and_parts, and_from, not-true, eqb-false, ne_eqb}
use Rattle.net.specs.Nets.{nth, Net, ends_of, infeed, Joins, forth, back}
use Rattle.net.specs.Members.{Member, Rising}
use Rattle.net.specs.Settings.{Setting, Closed, opening, Reach, Radial}
use Rattle.net.specs.Limits.{WithinLimits}
use Rattle.net.proofs.Members.{member_kept, kept_member, rising_kept, rising_from}
use Rattle.net.proofs.Settings.{not_both, open_from_not, not_from_open}
use Rattle.survey.specs.Ranks.{rank_in}
use Rattle.survey.specs.Surveys.{start_setting, link_order, AllReached}
use Rattle.survey.proofs.Ranked.{norepeat_rank}
use Rattle.survey.proofs.Others.{links_once, served_member}
use Rattle.trees.specs.Rules.{start_link_of, IsStart, Entering}
use Rattle.trees.specs.Listings.{fed, crosses, enters, entering_links}
use Rattle.trees.proofs.Ranks.{start_closed}
use Rattle.trees.proofs.Cores.{Sides, sides_cut, cut_sides, start_is_radial}
use Rattle.trees.proofs.Floods.{marked_reached, reached_marked}

-- the rank of a link; 0 for what has none
abbrev pub link_rank : Net → ℕ → ℕ
link_rank net l = unwrap_or (rank_in (link_order net) l) 0

crosses_true : (x y : Bool) → cond x (not y) y ≡ true → ((x ≡ true) × (y ≡ false)) ⊎ ((x ≡ false) × (y ≡ true))
crosses_true true true h = absurd (not_both h refl)
crosses_true true false h = inl (refl, refl)
crosses_true false true h = inr (refl, refl)
crosses_true false false h = absurd (not_both h refl)

module _ (net : Net) (fit : WithinLimits net) where
  -- the marks of a setting without a link tell its two sides
  crosses_sides : (T : Setting) (e g : ℕ) → crosses (fed net (opening T e)) (ends_of net g) ≡ true → Sides net T e g
  crosses_sides T e g h = by (ends_of net g) refl h
    where
      unmarked : (b : ℕ) → nth (fed net (opening T e)) b false ≡ false → ¬ Reach net (opening T e) (infeed net) b
      unmarked b o w = not_both (reached_marked net fit (opening T e) b w) o

      by : (o : Option (ℕ × ℕ)) → ends_of net g ≡ o → crosses (fed net (opening T e)) o ≡ true → Sides net T e g
      by None q c = absurd (not_both c refl)
      by (Some (a, b)) q c = elim (crosses_true (nth (fed net (opening T e)) a false) (nth (fed net (opening T e)) b false) c) [
        | inl (p, n) ↦ record { far = b; near = a; joins = back q; cut = unmarked b n; kept = marked_reached net fit (opening T e) a p }
        | inr (n, p) ↦ record { far = a; near = b; joins = forth q; cut = unmarked a n; kept = marked_reached net fit (opening T e) b p }
      ]

  sides_crosses : (T : Setting) (e g : ℕ) → Sides net T e g → crosses (fed net (opening T e)) (ends_of net g) ≡ true
  sides_crosses T e g s = by s.joins
    where
      near : nth (fed net (opening T e)) s.near false ≡ true
      near = reached_marked net fit (opening T e) s.near s.kept

      far : nth (fed net (opening T e)) s.far false ≡ false
      far = open_from_not (fed net (opening T e)) s.far (λ c. s.cut (marked_reached net fit (opening T e) s.far c))

      by : Joins net g s.far s.near → crosses (fed net (opening T e)) (ends_of net g) ≡ true
      by (forth q) = rw (q, far) near
      by (back q) = rw (q, near, far) refl

  module _ (all : AllReached net) (T : Setting) (k : ℕ) (rad : Radial net T) (sk : IsStart net k) (ce : Closed T (start_link_of net k)) where
    pub passes_enters : (g : ℕ)
        → enters net T k g ≡ true → Entering net T k g
    passes_enters g h =
        let (p, q) = and_parts (not (nth T g false) && not (eqb g (start_link_of net k))) (crosses (fed net (opening T (start_link_of net k))) (ends_of net g) && crosses (fed net (opening (start_setting net) (start_link_of net k))) (ends_of net g)) h in
        let (o, n) = and_parts (not (nth T g false)) (not (eqb g (start_link_of net k))) p in
        let (c, c0) = and_parts (crosses (fed net (opening T (start_link_of net k))) (ends_of net g)) (crosses (fed net (opening (start_setting net) (start_link_of net k))) (ends_of net g)) q in
        record {
          is_open = not_from_open T g (not-true (nth T g false) o);
          other = eqb-false g (start_link_of net k) (not-true (eqb g (start_link_of net k)) n);
          in_cut = sides_cut net T (start_link_of net k) g (crosses_sides T (start_link_of net k) g c);
          in_start_cut = sides_cut net (start_setting net) (start_link_of net k) g (crosses_sides (start_setting net) (start_link_of net k) g c0);
        }

    pub enters_passes : (g : ℕ) → Entering net T k g
        → enters net T k g ≡ true
    enters_passes g en =
        and_from (not (nth T g false) && not (eqb g (start_link_of net k))) (crosses (fed net (opening T (start_link_of net k))) (ends_of net g) && crosses (fed net (opening (start_setting net) (start_link_of net k))) (ends_of net g))
        (and_from (not (nth T g false)) (not (eqb g (start_link_of net k))) (ap not (open_from_not T g en.is_open)) (ap not (ne_eqb g (start_link_of net k) en.other)))
        (and_from (crosses (fed net (opening T (start_link_of net k))) (ends_of net g)) (crosses (fed net (opening (start_setting net) (start_link_of net k))) (ends_of net g))
        (sides_crosses T (start_link_of net k) g (cut_sides net fit T (start_link_of net k) g rad ce en.in_cut))
        (sides_crosses (start_setting net) (start_link_of net k) g (cut_sides net fit (start_setting net) (start_link_of net k) g (start_is_radial net fit all) (start_closed net fit all k sk) en.in_start_cut)))

    pub member_enters : (g : ℕ) → Member g (entering_links net T k) → Entering net T k g
    member_enters g m = passes_enters g (member_kept (enters net T k) g (link_order net) m).1

    pub enters_member : (g : ℕ) → Entering net T k g → Member g (entering_links net T k)
    enters_member g en = kept_member (enters net T k) g (link_order net)
        (served_member net fit all g (en.in_cut.a, en.in_cut.b, en.in_cut.joins)) (enters_passes g en)

  -- links in the order of their ranks
  pub links_rise : AllReached net → Rising (λ g h. link_rank net g < link_rank net h) (link_order net)
  links_rise all = rising_from (λ g h. link_rank net g < link_rank net h) (link_order net) (λ j k lo lt hi.
      let ej = ap (λ o. unwrap_or o 0) (norepeat_rank (link_order net) (links_once net fit all) j lo (omega arith)) in
      let ek = ap (λ o. unwrap_or o 0) (norepeat_rank (link_order net) (links_once net fit all) k (omega arith) hi) in
      omega arith)

  pub entering_rises : AllReached net → (T : Setting) (k : ℕ) → Rising (λ g h. link_rank net g < link_rank net h) (entering_links net T k)
  entering_rises all T k = rising_kept (λ g h. link_rank net g < link_rank net h)
      (enters net T k) (link_order net) (links_rise all)
