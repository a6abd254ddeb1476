-- The marks of `fed` are the bars that are reached.
use Rattle.std.proofs.Common.{◌≡◌, ℕ, zero, suc, ◌+◌, ◌≤◌, Bool, true, false, cond, ◌⊎◌, List, [], ◌∷◌, length, replicate, Some, None, Option, sym, refl, ap, ◌∙◌, subst, inl, inr, arith}
use native.Mathlib.Decide.{ℕ_discrete, dec_le}
use Rattle.std.proofs.lemmas.List.{length-replicate}
use Rattle.std.proofs.lemmas.List.Sums.{sum_by-cons, count_by-le-length}
use Rattle.net.specs.Nets.{nth, put, Net, ends_of, infeed, Joins, forth, back}
use Rattle.net.specs.Settings.{Setting, Closed, closed_links, Way, here, onward, Step, Reach}
use Rattle.net.specs.Limits.{WithinLimits}
use Rattle.net.proofs.Numbered.{length_put}
use Rattle.net.proofs.Ways.{way_keeps}
use Rattle.net.proofs.Links.{ends_bars}
use Rattle.net.proofs.Settings.{closed_or_open, not_both, closing_closes, closing_keeps, closing_only, count_closing}
use Rattle.survey.proofs.Marked.{none_closed, open_everywhere}
use Rattle.trees.specs.Listings.{touch, sweep, sweeps, fed}

-- rows of marks are read and written like settings: `Closed M b` says that bar b is marked

Sound : (ℕ → ℕ → Type 0) → ℕ → List Bool → Type 0
Sound R a M = (b : ℕ) → Closed M b → Way R a b

mark_sound : (R : ℕ → ℕ → Type 0) (s : ℕ) (M : List Bool) (a b : ℕ) → Closed M a → R a b → Sound R s M → Sound R s (put M b true)
unfolding Sound
mark_sound R s M a b ca r h x cx = elim (ℕ_discrete x b) [
  | yes e ↦ rw e (onward (h a ca) r)
  | no n ↦ h x (closing_only M b x cx n)
]

touch_sound : (R : ℕ → ℕ → Type 0) (s : ℕ) (o : Option (ℕ × ℕ)) (c : Bool) (M : List Bool)
    → ((a b : ℕ) → c ≡ true → o ≡ Some (a, b) → R a b × R b a) → Sound R s M → Sound R s (touch o c M)
touch_sound R s None c M f h = h
touch_sound R s (Some (a, b)) false M f h = h
touch_sound R s (Some (a, b)) true M f h = elim (closed_or_open (nth M a false)) [
  | inl p ↦ rw p (mark_sound R s M a b p (f a b refl refl).0 h)
  | inr p ↦ elim (closed_or_open (nth M b false)) [
    | inl q ↦ rw (p, q) (mark_sound R s M b a q (f a b refl refl).1 h)
    | inr q ↦ rw (p, q) h
  ]
]

sweep_sound : (R : ℕ → ℕ → Type 0) (s : ℕ) (ls : List (Option (ℕ × ℕ))) (T M : List Bool)
    → ((l a b : ℕ) → Closed T l → nth ls l None ≡ Some (a, b) → R a b × R b a) → Sound R s M → Sound R s (sweep ls T M)
sweep_sound R s [] T M f h = h
sweep_sound R s (o ∷ ls) [] M f h = h
sweep_sound R s (o ∷ ls) (c ∷ T) M f h = sweep_sound R s ls T (touch o c M) later (touch_sound R s o c M (f 1) h)
  where
    later : (l a b : ℕ) → Closed T l → nth ls l None ≡ Some (a, b) → R a b × R b a
    later zero a b cl e = absurd (not_both cl refl)
    later (suc l) a b cl e = f (suc (suc l)) a b cl e

sweeps_sound : (R : ℕ → ℕ → Type 0) (s : ℕ) (n : ℕ) (net : Net) (T M : List Bool)
    → ((l a b : ℕ) → Closed T l → ends_of net l ≡ Some (a, b) → R a b × R b a) → Sound R s M → Sound R s (sweeps n net T M)
sweeps_sound R s zero net T M f h = h
sweeps_sound R s (suc n) net T M f h = sweeps_sound R s n net T (sweep net.links T M) f (sweep_sound R s net.links T M f h)

-- marks stay, and the length too
touch_keeps : (o : Option (ℕ × ℕ)) (c : Bool) (M : List Bool) (x : ℕ) → Closed M x → Closed (touch o c M) x
touch_keeps None c M x h = h
touch_keeps (Some (a, b)) false M x h = h
touch_keeps (Some (a, b)) true M x h = elim (closed_or_open (nth M a false)) [
  | inl p ↦ rw p (closing_keeps M b x h)
  | inr p ↦ elim (closed_or_open (nth M b false)) [
    | inl q ↦ rw (p, q) (closing_keeps M a x h)
    | inr q ↦ rw (p, q) h
  ]
]

touch_length : (o : Option (ℕ × ℕ)) (c : Bool) (M : List Bool) → length (touch o c M) ≡ length M
touch_length None c M = refl
touch_length (Some (a, b)) false M = refl
touch_length (Some (a, b)) true M = elim (closed_or_open (nth M a false)) [
  | inl p ↦ rw p (length_put M b true)
  | inr p ↦ elim (closed_or_open (nth M b false)) [
    | inl q ↦ rw (p, q) (length_put M a true)
    | inr q ↦ rw (p, q)
  ]
]

sweep_keeps : (ls : List (Option (ℕ × ℕ))) (T M : List Bool) (x : ℕ) → Closed M x → Closed (sweep ls T M) x
sweep_keeps [] T M x h = h
sweep_keeps (o ∷ ls) [] M x h = h
sweep_keeps (o ∷ ls) (c ∷ T) M x h = sweep_keeps ls T (touch o c M) x (touch_keeps o c M x h)

pub sweep_length : (ls : List (Option (ℕ × ℕ))) (T M : List Bool) → length (sweep ls T M) ≡ length M
sweep_length [] T M = refl
sweep_length (o ∷ ls) [] M = refl
sweep_length (o ∷ ls) (c ∷ T) M = sweep_length ls T (touch o c M) ∙ touch_length o c M

sweeps_keeps : (n : ℕ) (net : Net) (T M : List Bool) (x : ℕ) → Closed M x → Closed (sweeps n net T M) x
sweeps_keeps zero net T M x h = h
sweeps_keeps (suc n) net T M x h = sweeps_keeps n net T (sweep net.links T M) x (sweep_keeps net.links T M x h)

sweeps_length : (n : ℕ) (net : Net) (T M : List Bool) → length (sweeps n net T M) ≡ length M
sweeps_length zero net T M = refl
sweeps_length (suc n) net T M = sweeps_length n net T (sweep net.links T M) ∙ sweep_length net.links T M

-- a sweep takes each closed link
touch_takes : (o : Option (ℕ × ℕ)) (M : List Bool) (a b : ℕ) → (o ≡ Some (a, b)) ⊎ (o ≡ Some (b, a)) → Closed M a → 1 ≤ b → b ≤ length M → Closed (touch o true M) b
touch_takes o M a b (inl e) h lo hi = rw (e, h) (closing_closes M b lo hi)
touch_takes o M a b (inr e) h lo hi = elim (closed_or_open (nth M b false)) [
  | inl p ↦ touch_keeps o true M b p
  | inr p ↦ rw (e, p, h) (closing_closes M b lo hi)
]

sweep_takes : (ls : List (Option (ℕ × ℕ))) (T M : List Bool) (l a b : ℕ) → Closed T l → (nth ls l None ≡ Some (a, b)) ⊎ (nth ls l None ≡ Some (b, a)) → Closed M a
    → 1 ≤ b → b ≤ length M → Closed (sweep ls T M) b
sweep_takes ls T M zero a b c j h lo hi = absurd (not_both c refl)
sweep_takes [] T M (suc l) a b c (inl e) h lo hi = let z : ◌≡◌ {A = ℕ} 0 1 = cc in absurd (omega arith)
sweep_takes [] T M (suc l) a b c (inr e) h lo hi = let z : ◌≡◌ {A = ℕ} 0 1 = cc in absurd (omega arith)
sweep_takes (o ∷ ls) [] M (suc l) a b c j h lo hi = absurd (not_both c refl)
sweep_takes (o ∷ ls) (c' ∷ T) M (suc zero) a b c j h lo hi = sweep_keeps ls T (touch o c' M) b (rw c (touch_takes o M a b j h lo hi))
sweep_takes (o ∷ ls) (c' ∷ T) M (suc (suc l)) a b c j h lo hi =
    sweep_takes ls T (touch o c' M) (suc l) a b c j (touch_keeps o c' M a h) lo (rw (touch_length o c' M) hi)

-- marks that are no more in number are the same
abbrev pub Fewer : List Bool → List Bool → Type 0
Fewer M L = (closed_links M ≤ closed_links L) × (closed_links L ≤ closed_links M → L ≡ M)

count_cons : (x : Bool) (M : List Bool) → closed_links (x ∷ M) ≡ cond x 1 0 + closed_links M
count_cons x M = sum_by-cons (λ c. cond c 1 0) x M

pub fewer : (M L : List Bool) → length M ≡ length L → ((x : ℕ) → Closed M x → Closed L x) → Fewer M L
fewer [] [] e f = (omega arith, λ _. refl)
fewer [] (y ∷ L) e f = absurd (omega arith)
fewer (x ∷ M) [] e f = absurd (omega arith)
fewer (x ∷ M) (y ∷ L) e f = cons x y (f 1) (fewer M L (omega arith) (λ i. tail i (f (suc i))))
  where
    tail : (i : ℕ) → (Closed (x ∷ M) (suc i) → Closed (y ∷ L) (suc i)) → Closed M i → Closed L i
    tail zero g c = absurd (not_both c refl)
    tail (suc i) g c = g c

    cons : (x y : Bool) → (x ≡ true → y ≡ true) → Fewer M L → Fewer (x ∷ M) (y ∷ L)
    cons true true g h = (
      omega (arith, count_cons true M, count_cons true L),
      λ l. ap (λ k. true ∷ k) (h.1 (omega (arith, count_cons true M, count_cons true L))),
    )
    cons true false g h = absurd (not_both (g refl) refl)
    cons false true g h = (
      omega (arith, count_cons false M, count_cons true L),
      λ l. absurd (omega (arith, count_cons false M, count_cons true L)),
    )
    cons false false g h = (
      omega (arith, count_cons false M, count_cons false L),
      λ l. ap (λ k. false ∷ k) (h.1 (omega (arith, count_cons false M, count_cons false L))),
    )

-- so as many sweeps as there are marks to set come to rest
resting : (n : ℕ) (net : Net) (T M : List Bool) → sweep net.links T M ≡ M → sweeps n net T M ≡ M
resting zero net T M e = refl
resting (suc n) net T M e = rw e (resting n net T M e)

at_rest : (n : ℕ) (net : Net) (T M : List Bool) → length M ≤ n + closed_links M → sweep net.links T (sweeps n net T M) ≡ sweeps n net T M
at_rest zero net T M l =
    (fewer M (sweep net.links T M) (sym (sweep_length net.links T M)) (sweep_keeps net.links T M)).1
    (omega (arith, count_by-le-length (λ (c : Bool). c) (sweep net.links T M), sweep_length net.links T M))
at_rest (suc n) net T M l =
    let h = fewer M (sweep net.links T M) (sym (sweep_length net.links T M)) (sweep_keeps net.links T M) in
    elim (dec_le (closed_links (sweep net.links T M)) (closed_links M)) [
      | yes le ↦ let e = h.1 le in rw (e, resting n net T M e) e
      | no m ↦ at_rest n net T (sweep net.links T M) (rw (sweep_length net.links T M) (omega arith))
    ]

module _ (net : Net) (fit : WithinLimits net) (T : Setting) where
  -- the row in which only the infeed is marked
  first : List Bool
  first = put (replicate net.bars false) (infeed net) true

  first_length : length first ≡ net.bars
  unfolding first
  first_length = length_put (replicate net.bars false) (infeed net) true ∙ length-replicate net.bars false

  first_on : Closed first (infeed net)
  unfolding first
  first_on = closing_closes (replicate net.bars false) (infeed net) (omega arith) (rw (length-replicate net.bars false) fit.few_bars.0)

  first_count : closed_links first ≡ 1
  unfolding first
  first_count = omega (
    arith,
    count_closing (replicate net.bars false) (infeed net) (omega arith) (rw (length-replicate net.bars false) fit.few_bars.0) (open_everywhere net.bars (infeed net)),
    none_closed net.bars,
  )

  first_only : (b : ℕ) → Closed first b → b ≡ infeed net
  unfolding first
  first_only b h = elim (ℕ_discrete b (infeed net)) [
    | yes e ↦ e
    | no n ↦ absurd (not_both (closing_only (replicate net.bars false) (infeed net) b h n) (open_everywhere net.bars b))
  ]

  pub fed_length : length (fed net T) ≡ net.bars
  unfolding first
  fed_length = sweeps_length net.bars net T first ∙ first_length

  pub marked_reached : (b : ℕ) → Closed (fed net T) b → Reach net T (infeed net) b
  unfolding Sound first
  marked_reached b = sweeps_sound (Step net T) (infeed net) net.bars net T first
      (λ l a b c e. (record { over = l; closed = c; joins = forth e }, record { over = l; closed = c; joins = back e }))
      (λ x h. rw (first_only x h) here) b

  pub reached_marked : (b : ℕ) → Reach net T (infeed net) b → Closed (fed net T) b
  unfolding first
  reached_marked b w = way_keeps (λ y. Closed (fed net T) y) one w (sweeps_keeps net.bars net T first (infeed net) first_on)
    where
      sides : {l a b : ℕ} → Joins net l a b → (ends_of net l ≡ Some (a, b)) ⊎ (ends_of net l ≡ Some (b, a))
      sides (forth e) = inl e
      sides (back e) = inr e

      one : (x y : ℕ) → Step net T x y → Closed (fed net T) x → Closed (fed net T) y
      one x y r h =
          let e : sweep net.links T (fed net T) ≡ fed net T = at_rest net.bars net T first (omega (arith, first_length, first_count)) in
          let (lo, hi) = (ends_bars net fit r.joins).1 in
          subst (λ M. Closed M y) e (sweep_takes net.links T (fed net T) r.over x y r.closed (sides r.joins) h lo (omega (arith, fed_length)))
