-- The tables of a search after a move.
use Rattle.std.proofs.Common.{◌≡◌, ℕ, suc, ◌+◌, ◌-◌, ◌<◌, ◌≤◌, true, List, [], ◌∷◌, map, length, get_or, set, sym, ap, ◌∙◌, subst, ap₂, arith}
use Rattle.std.proofs.lemmas.List.{get_or-map, length-map, map-set}
use Rattle.net.specs.Nets.{Net}
use Rattle.net.specs.Settings.{Setting}
use Rattle.net.specs.Limits.{WithinLimits}
use Rattle.survey.specs.Surveys.{AllReached}
use Rattle.trees.specs.Cuts.{swapped}
use Rattle.trees.specs.Rules.{start_link_of}
use Rattle.trees.specs.Listings.{enters}
use Rattle.search.specs.declared.state.Frame.{Frame}
use Rattle.search.specs.Descents.{link_at, setting_at, descends}
use Rattle.flood.specs.Marked.{fed_in}
use Rattle.search.specs.Frames.{stacked, ranks_of, descent_in, feds_in, fed_without, feds_along}
use Rattle.search.proofs.Stacks.{stacked_push, stacked_length}
use Rattle.search.proofs.Depths.{descends_parts, descends_from, descent_length, descent_back}

-- a frame pushed
mapped_push : {A B : Type 0} (f : A → B) (d : B) (xs : List A) (n : ℕ) (x : A) → n < length xs → stacked d (map f (set xs n x)) (n + 1) ≡ f x ∷ stacked d (map f xs) n
mapped_push f d xs n x h =
    let e : n + 1 ≡ suc n = omega arith in
    ap (λ m. stacked d (map f (set xs n x)) m) e ∙ ap (λ ys. stacked d ys (suc n)) (map-set f xs n x) ∙ stacked_push d (map f xs) n (f x) (omega (arith, length-map xs f))

pub descent_push : (fs : List Frame) (n : ℕ) (f : Frame) → n < length fs → descent_in (set fs n f) (n + 1) ≡ ranks_of f.moved ∷ descent_in fs n
descent_push fs n f h = mapped_push (λ f. ranks_of f.moved) (0, 0) fs n f h

pub feds_push : (net : Net) (fs : List Frame) (n : ℕ) (f : Frame) → n < length fs → feds_in net (set fs n f) (n + 1) ≡ fed_in net f.fed ∷ feds_in net fs n
feds_push net fs n f h = mapped_push (λ f. fed_in net f.fed) [] fs n f h

-- a frame popped
mapped_pop : {A B : Type 0} (f : A → B) (d : B) (xs : List A) (n m : ℕ) (x : A) → n ≡ suc m → n ≤ length xs → stacked d (map f xs) n ≡ f (get_or xs m x) ∷ stacked d (map f xs) m
mapped_pop f d xs n m x e hi = rw e (ap (λ y. y ∷ stacked d (map f xs) m) (get_or-map f xs m x d (omega arith)))

pub descent_pop : (fs : List Frame) (n m : ℕ) (x : Frame) → n ≡ suc m → n ≤ length fs → descent_in fs n ≡ ranks_of (get_or fs m x).moved ∷ descent_in fs m
descent_pop fs n m x e hi = mapped_pop (λ f. ranks_of f.moved) (0, 0) fs n m x e hi

pub feds_pop : (net : Net) (fs : List Frame) (n m : ℕ) (x : Frame) → n ≡ suc m → n ≤ length fs → feds_in net fs n ≡ fed_in net (get_or fs m x).fed ∷ feds_in net fs m
feds_pop net fs n m x e hi = mapped_pop (λ f. fed_in net f.fed) [] fs n m x e hi

-- the same list begins alike
heads_same : {A : Type 0} {x y : A} {xs ys : List A} → x ∷ xs ≡ y ∷ ys → x ≡ y
heads_same {A} {x} {y} {xs} {ys} e = cc

tails_same : {A : Type 0} {x y : A} {xs ys : List A} → x ∷ xs ≡ y ∷ ys → xs ≡ ys
tails_same {A} {x} {y} {xs} {ys} e = cc

module _ (net : Net) (fs : List Frame) (n : ℕ) where
  -- the setting, and the bars fed along the descent
  pub push_shown : (f : Frame) (T T' : Setting) → n < length fs → T ≡ setting_at net (descent_in fs n)
      → T' ≡ swapped T (start_link_of net f.moved.leaving) (link_at net f.moved.entering)
      → T' ≡ setting_at net (descent_in (set fs n f) (n + 1))
  push_shown f T T' h e q =
      q
      ∙ ap (λ T. swapped T (start_link_of net f.moved.leaving) (link_at net f.moved.entering)) e
      ∙ ap (setting_at net) (sym (descent_push fs n f h))

  pub push_along : (f : Frame) → n < length fs → feds_in net fs n ≡ feds_along net (descent_in fs n)
      → fed_in net f.fed ≡ fed_without net (setting_at net (descent_in fs n)) f.moved.leaving
      → feds_in net (set fs n f) (n + 1) ≡ feds_along net (descent_in (set fs n f) (n + 1))
  push_along f h e q = feds_push net fs n f h ∙ ap₂ ◌∷◌ q e ∙ ap (feds_along net) (sym (descent_push fs n f h))

  pub push_down : (f : Frame) → n < length fs → 1 ≤ f.moved.leaving
      → enters net (setting_at net (descent_in fs n)) f.moved.leaving (link_at net f.moved.entering) ≡ true → descends net (descent_in fs n) f.moved.leaving ≡ true
      → descends net (descent_in (set fs n f) (n + 1)) (f.moved.leaving - 1) ≡ true
  push_down f h k1 en e = subst (λ d. descends net d (f.moved.leaving - 1) ≡ true) (sym (descent_push fs n f h))
      (descends_from net f.moved.leaving f.moved.entering (descent_in fs n) (f.moved.leaving - 1) (omega arith) en e)

  module _ (m : ℕ) (x : Frame) (deep : n ≡ suc m) (hi : n ≤ length fs) where
    pub pop_here : feds_in net fs n ≡ feds_along net (descent_in fs n)
        → fed_in net (get_or fs m x).fed ≡ fed_without net (setting_at net (descent_in fs m)) (get_or fs m x).moved.leaving
    pop_here e = heads_same (sym (feds_pop net fs n m x deep hi) ∙ e ∙ ap (feds_along net) (descent_pop fs n m x deep hi))

    pub pop_along : feds_in net fs n ≡ feds_along net (descent_in fs n) → feds_in net fs m ≡ feds_along net (descent_in fs m)
    pop_along e = tails_same (sym (feds_pop net fs n m x deep hi) ∙ e ∙ ap (feds_along net) (descent_pop fs n m x deep hi))

    pub pop_down : (k : ℕ) → descends net (descent_in fs n) k ≡ true → descends net (descent_in fs m) (get_or fs m x).moved.leaving ≡ true
    pop_down k e = (descends_parts net (get_or fs m x).moved.leaving (get_or fs m x).moved.entering (descent_in fs m) k
        (subst (λ d. descends net d k ≡ true) (descent_pop fs n m x deep hi) e)).2

    pub pop_shown : WithinLimits net → AllReached net → (k : ℕ) (T T' : Setting) → descends net (descent_in fs n) k ≡ true → T ≡ setting_at net (descent_in fs n)
        → T' ≡ swapped T (link_at net (get_or fs m x).moved.entering) (start_link_of net (get_or fs m x).moved.leaving)
        → T' ≡ setting_at net (descent_in fs m)
    pop_shown fit all k T T' e s q =
        let j = (get_or fs m x).moved.leaving in
        let r = (get_or fs m x).moved.entering in
        q
        ∙ ap (λ T. swapped T (link_at net r) (start_link_of net j)) (s ∙ ap (setting_at net) (descent_pop fs n m x deep hi))
        ∙ descent_back net fit all j r (descent_in fs m) k (subst (λ d. descends net d k ≡ true) (descent_pop fs n m x deep hi) e)

-- a descent fits into the table
pub descent_shallow : (net : Net) → WithinLimits net → (fs : List Frame) (n k : ℕ) → descends net (descent_in fs n) k ≡ true → n + k < 32
descent_shallow net fit fs n k h =
    omega (arith, descent_length net (descent_in fs n) k h, stacked_length (0, 0) (map (λ f. ranks_of f.moved) fs) n, fit.few_bars)
