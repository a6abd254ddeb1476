-- The entering links above a rank: the next one, and those above it.
use Rattle.std.proofs.Common.{◌≡◌, ℕ, zero, suc, ◌<◌, ◌≤◌, Bool, true, false, leb, List, [], ◌∷◌, ◌++◌, length, get_or, drop, is_some, Some, None, filter, Option, sym, refl, ap, ◌∙◌, subst, ap₂, inl, inr, append_assoc, arith}
use native.Mathlib.Decide.{dec_le}
use Rattle.std.specs.List.{flat_map}
use Rattle.std.proofs.lemmas.Bool.{and_from, le-leb}
use Rattle.net.specs.Nets.{Net}
use Rattle.net.specs.Settings.{Setting}
use Rattle.net.specs.Limits.{WithinLimits}
use Rattle.net.proofs.Links.{joins_range}
use Rattle.net.proofs.Numbered.{nth_past}
use Rattle.net.proofs.Settings.{closed_or_open}
use Rattle.survey.specs.Surveys.{link_order, AllReached}
use Rattle.trees.specs.Listings.{Exchanged, enters, events}
use Rattle.search.specs.Descents.{Descent, link_at, setting_at, descends, EntersAt, NextEntering}
use Rattle.search.specs.declared.state.Search.{Search}
use Rattle.search.specs.States.{net_in, descent_of, setting_of, ceiling_of}
use Rattle.search.proofs.Held.{search_descends, search_fits, search_reached}
use Rattle.search.proofs.Depths.{test_enters, enters_test}
use Rattle.walk.specs.Rests.{visit, entering_above_mark, past, climb, to_come, may_come_next}

-- what a filter keeps of a list past a place: nothing up to the next that passes
kept_next : (p : ℕ → Bool) (xs : List ℕ) (m j : ℕ) → m ≤ j → j < length xs → ((i : ℕ) → m ≤ i → i < j → p (get_or xs i 0) ≡ false) → p (get_or xs j 0) ≡ true
    → filter p (drop m xs) ≡ get_or xs j 0 ∷ filter p (drop (suc j) xs)
kept_next p [] m j mj jn none here = absurd (omega arith)
kept_next p (x ∷ xs) zero zero mj jn none here = rw here
kept_next p (x ∷ xs) zero (suc j) mj jn none here =
    let o : p x ≡ false = none 0 (omega arith) (omega arith) in
    rw o (kept_next p xs zero j (omega arith) (omega arith) (λ i a b. none (suc i) (omega arith) (omega arith)) here)
kept_next p (x ∷ xs) (suc m) zero mj jn none here = absurd (omega arith)
kept_next p (x ∷ xs) (suc m) (suc j) mj jn none here = kept_next p xs m j (omega arith) (omega arith) (λ i a b. none (suc i) (omega arith) (omega arith)) here

kept_none : (p : ℕ → Bool) (xs : List ℕ) (m : ℕ) → ((i : ℕ) → m ≤ i → i < length xs → p (get_or xs i 0) ≡ false) → filter p (drop m xs) ≡ []
kept_none p [] zero none = refl
kept_none p [] (suc m) none = refl
kept_none p (x ∷ xs) zero none =
    let o : p x ≡ false = none 0 (omega arith) (omega arith) in
    rw o (kept_none p xs zero (λ i a b. none (suc i) (omega arith) (omega arith)))
kept_none p (x ∷ xs) (suc m) none = kept_none p xs m (λ i a b. none (suc i) (omega arith) (omega arith))

-- past no entering link at all, the events of a setting are to come
pub past_none : (net : Net) (T : Setting) (k : ℕ) (later : List Exchanged) → past net T k 0 later ≡ events net k T ++ later
past_none net T zero later = refl
past_none net T (suc k) later = sym (append_assoc (flat_map (visit net T (suc k)) (entering_above_mark net T (suc k) 0)) (events net k T) later)

module _ (net : Net) (fit : WithinLimits net) (all : AllReached net) (d : Descent) where
  -- what may not enter fails the test
  fails : (k r : ℕ) → descends net d (suc k) ≡ true → ¬ EntersAt net (setting_at net d) (suc k) r → enters net (setting_at net d) (suc k) (link_at net r) ≡ false
  fails k r h n = elim (closed_or_open (enters net (setting_at net d) (suc k) (link_at net r))) [
    | inl e ↦ absurd (n (test_enters net fit all d (suc k) r h (omega arith) e))
    | inr o ↦ o
  ]

  -- a link that enters has one of the ranks
  ranked : (k r : ℕ) → EntersAt net (setting_at net d) k r → r ≤ length (link_order net)
  ranked k r (s, en) = elim (dec_le r (length (link_order net))) [
    | yes h ↦ h
    | no n ↦ absurd (omega (arith, nth_past (link_order net) r 0 (omega arith), joins_range net en.in_cut.joins))
  ]

  above_some : (k m r : ℕ) → descends net d (suc k) ≡ true → NextEntering net (setting_at net d) (suc k) m (Some r)
      → entering_above_mark net (setting_at net d) (suc k) m ≡ link_at net r ∷ entering_above_mark net (setting_at net d) (suc k) r
  above_some k m zero h (lt, en, none) = absurd (omega arith)
  above_some k m (suc j) h (lt, en, none) =
      kept_next (enters net (setting_at net d) (suc k)) (link_order net) m j (omega arith) (omega (arith, ranked (suc k) (suc j) en))
      (λ i a b. fails k (suc i) h (none (suc i) (omega arith) (omega arith))) (enters_test net fit all d (suc k) (suc j) h en)

  above_none : (k m : ℕ) → descends net d (suc k) ≡ true → NextEntering net (setting_at net d) (suc k) m None → entering_above_mark net (setting_at net d) (suc k) m ≡ []
  above_none k m h none =
      kept_none (enters net (setting_at net d) (suc k)) (link_order net) m (λ i a b. fails k (suc i) h (none (suc i) (omega arith)))

  -- the next link that enters
  pub next_some : (k m r : ℕ) → descends net d k ≡ true → NextEntering net (setting_at net d) k m (Some r)
      → to_come net d k (Some r) ≡ past net (setting_at net d) k m (climb net d)
  next_some zero m r h (lt, (s, en), none) = absurd (omega arith)
  next_some (suc k) m r h n =
      let V = visit net (setting_at net d) (suc k) in
      let later = events net k (setting_at net d) ++ climb net d in
      sym (append_assoc (V (link_at net r)) (flat_map V (entering_above_mark net (setting_at net d) (suc k) r)) later)
      ∙ ap (λ gs. flat_map V gs ++ later) (sym (above_some k m r h n))

  pub next_may : (k m r : ℕ) → descends net d k ≡ true → NextEntering net (setting_at net d) k m (Some r) → may_come_next net d k (Some r) ≡ true
  next_may k m r h (lt, en, none) = and_from (leb 1 k) (enters net (setting_at net d) k (link_at net r)) (le-leb 1 k en.0.0) (enters_test net fit all d k r h en)

  -- no link enters: the next lower ceiling
  pub next_none : (k m : ℕ) (later : List Exchanged) → descends net d (suc k) ≡ true → NextEntering net (setting_at net d) (suc k) m None
      → past net (setting_at net d) k 0 later ≡ past net (setting_at net d) (suc k) m later
  next_none k m later h n =
      past_none net (setting_at net d) k later
      ∙ ap (λ gs. flat_map (visit net (setting_at net d) (suc k)) gs ++ (events net k (setting_at net d) ++ later)) (sym (above_none k m h n))

-- the same of a search that goes to the next lower ceiling
pub lowered : (s s' : Search) (m : ℕ) → net_in s' ≡ net_in s → descent_of s' ≡ descent_of s → ceiling_of s ≡ suc (ceiling_of s')
    → NextEntering (net_in s) (setting_of s) (ceiling_of s) m None
    → past (net_in s') (setting_of s') (ceiling_of s') 0 (climb (net_in s') (descent_of s')) ≡ past (net_in s) (setting_of s) (ceiling_of s) m (climb (net_in s) (descent_of s))
lowered s s' m p q e n =
    ap₂ (λ net d. past net (setting_at net d) (ceiling_of s') 0 (climb net d)) p q
    ∙ next_none (net_in s) (search_fits s) (search_reached s) (descent_of s) (ceiling_of s') m (climb (net_in s) (descent_of s))
    (subst (λ k. descends (net_in s) (descent_of s) k ≡ true) e (search_descends s)) (subst (λ k. NextEntering (net_in s) (setting_of s) k m None) e n)
    ∙ ap (λ k. past (net_in s) (setting_of s) k m (climb (net_in s) (descent_of s))) (sym e)

-- what the next link found says of what may come and of what is to come, where none found means ceiling 0
pub settled : (s : Search) (m : ℕ) (o : Option ℕ) → (is_some o ≡ false → ceiling_of s ≡ 0) → NextEntering (net_in s) (setting_of s) (ceiling_of s) m o
    → (may_come_next (net_in s) (descent_of s) (ceiling_of s) o ≡ true)
    × (to_come (net_in s) (descent_of s) (ceiling_of s) o ≡ past (net_in s) (setting_of s) (ceiling_of s) m (climb (net_in s) (descent_of s)))
settled s m (Some r) last n = (
  next_may (net_in s) (search_fits s) (search_reached s) (descent_of s) (ceiling_of s) m r (search_descends s) n,
  next_some (net_in s) (search_fits s) (search_reached s) (descent_of s) (ceiling_of s) m r (search_descends s) n,
)
settled s m None last n = (refl, ap (λ k. past (net_in s) (setting_of s) k m (climb (net_in s) (descent_of s))) (sym (last refl)))

-- none found
pub none_next : (net : Net) (T : Setting) (k m : ℕ) (o : Option ℕ) → is_some o ≡ false → NextEntering net T k m o → (o ≡ None) × NextEntering net T k m None
none_next net T k m (Some r) e n = let z : ◌≡◌ {A = ℕ} 0 1 = cc in absurd (omega arith)
none_next net T k m None e n = (refl, n)
