-- Settings: opening, closing and counting links, and reach.
use Rattle.std.proofs.Common.{◌≡◌, ℕ, zero, suc, ◌+◌, ◌≤◌, Bool, true, false, cond, ◌≢◌, length, is_some, Some, None, Option, refl, ◌∙◌, arith}
use native.Mathlib.Decide.{ℕ_discrete, dec_le}
pub use Rattle.std.proofs.lemmas.Bool.{cases_Bool as closed_or_open}
use Rattle.std.proofs.lemmas.Bool.{false_from_ne_true}
use Rattle.std.proofs.lemmas.List.{get_or-map}
use Rattle.std.proofs.lemmas.List.Sums.{sum_by-set}
use Rattle.net.specs.Nets.{nth, put, Net, ends_of, Joins}
use Rattle.net.specs.Settings.{Setting, Closed, closing, opening, closed_links, every_closed, here, onward, Reach}
use Rattle.net.proofs.Numbered.{nth_put_same, nth_put_other, nth_past, length_put, put_put, put_nth}
use Rattle.net.proofs.Ways.{way_along, way_back}
use Rattle.net.proofs.Links.{joins_flip, joins_range, out_of_service}

pub not_both : {c : Bool} → c ≡ true → c ≡ false → ⊥
not_both {c} p q = let z : ◌≡◌ {A = ℕ} 0 1 = cc in omega arith

-- a closed link has a number of the setting
pub closed_range : (T : Setting) (l : ℕ) → Closed T l → (1 ≤ l) × (l ≤ length T)
closed_range T zero h = absurd (not_both h refl)
closed_range T (suc l) h = (
  omega arith,
  elim (dec_le (suc l) (length T)) [
    | yes p ↦ p
    | no p ↦ absurd (not_both h (nth_past T (suc l) false (omega arith)))
  ],
)

pub closing_closes : (T : Setting) (l : ℕ) → 1 ≤ l → l ≤ length T → Closed (closing T l) l
closing_closes T l lo hi = nth_put_same T l true false lo hi

pub closing_keeps : (T : Setting) (g l : ℕ) → Closed T l → Closed (closing T g) l
closing_keeps T g l h = elim (ℕ_discrete l g) [
  | yes e ↦ rw e (closing_closes T g (rw e at (closed_range T l h).0) (rw e at (closed_range T l h).1))
  | no ne ↦ rw (nth_put_other T g l true false ne) h
]

pub closing_only : (T : Setting) (g l : ℕ) → Closed (closing T g) l → l ≢ g → Closed T l
closing_only T g l h ne = rw (nth_put_other T g l true false ne) at h

-- a link is closed that was open: one closed link more
pub count_closing : (T : Setting) (l : ℕ) → 1 ≤ l → l ≤ length T → nth T l false ≡ false → closed_links (closing T l) ≡ closed_links T + 1
count_closing T zero lo hi o = absurd (omega arith)
count_closing T (suc l) lo hi o =
    let q = sum_by-set (λ c. cond c 1 0) T l true false (omega arith) in
    let r : closed_links (closing T (suc l)) + 0 ≡ closed_links T + 1 = rw o at q in
    omega arith

module _ (net : Net) where
  pub all_closed : {l a b : ℕ} → Joins net l a b → Closed (every_closed net) l
  all_closed {l} {a} {b} j = at l (joins_range net j) j
    where
      some : {m : ℕ} → (o : Option (ℕ × ℕ)) → ends_of net m ≡ o → Joins net m a b → is_some o ≡ true
      some None e q = absurd (out_of_service net e q)
      some (Some p) e q = refl

      at : (m : ℕ) → (1 ≤ m) × (m ≤ length net.links) → Joins net m a b → Closed (every_closed net) m
      at zero h q = absurd (omega arith)
      at (suc m) h q = get_or-map is_some net.links m None false (omega arith) ∙ some (ends_of net (suc m)) refl q

  -- a setting with more links closed reaches no less
  pub reach_more : (S T : Setting) → ((l : ℕ) → Closed S l → Closed T l) → {a b : ℕ} → Reach net S a b → Reach net T a b
  reach_more S T f w = way_along (λ x y r. onward here (record { over = r.over; closed = f r.over r.closed; joins = r.joins })) w

  pub reach_back : {T : Setting} {a b : ℕ} → Reach net T a b → Reach net T b a
  reach_back w = way_back (λ x y r. record { over = r.over; closed = r.closed; joins = joins_flip net r.joins }) w

pub opening_opens : (T : Setting) (l : ℕ) → nth (opening T l) l false ≡ false
opening_opens T zero = refl
opening_opens T (suc l) = elim (dec_le (suc l) (length T)) [
  | yes h ↦ nth_put_same T (suc l) false false (omega arith) h
  | no h ↦ nth_past (opening T (suc l)) (suc l) false (rw (length_put T (suc l) false) (omega arith))
]

-- a link closed after another was opened was closed before
pub opening_only : (T : Setting) (e l : ℕ) → Closed (opening T e) l → Closed T l × (l ≢ e)
opening_only T e l h = elim (ℕ_discrete l e) [
  | yes p ↦ absurd (not_both (rw p at h) (opening_opens T e))
  | no ne ↦ (rw (nth_put_other T e l false false ne) at h, ne)
]

pub opening_keeps : (T : Setting) (e l : ℕ) → Closed T l → l ≢ e → Closed (opening T e) l
opening_keeps T e l h ne = rw (nth_put_other T e l false false ne) h

pub opening_stays_open : (T : Setting) (e l : ℕ) → nth T l false ≡ false → nth (opening T e) l false ≡ false
opening_stays_open T e l h = false_from_ne_true (nth (opening T e) l false) (λ c. not_both (opening_only T e l c).0 h)

pub open_from_not : (T : Setting) (l : ℕ) → ¬ Closed T l → nth T l false ≡ false
open_from_not T l h = false_from_ne_true (nth T l false) h

pub not_from_open : (T : Setting) (l : ℕ) → nth T l false ≡ false → ¬ Closed T l
not_from_open T l o c = not_both c o

-- a closed link is opened: one closed link less
pub count_opening : (T : Setting) (l : ℕ) → Closed T l → closed_links (opening T l) + 1 ≡ closed_links T
count_opening T zero h = absurd (not_both h refl)
count_opening T (suc l) h =
    let p = sum_by-set (λ c. cond c 1 0) T l false false (omega (arith, closed_range T (suc l) h)) in
    let q : closed_links (opening T (suc l)) + 1 ≡ closed_links T + 0 = rw h at p in
    omega arith

-- closing and opening are taken back by each other
pub put_same : (T : Setting) (l : ℕ) (c : Bool) → nth T l false ≡ c → put T l c ≡ T
put_same T l c e = rw (← e) (put_nth T l false)

pub put_back : (T : Setting) (l : ℕ) (b c : Bool) → nth T l false ≡ b → put (put T l c) l b ≡ T
put_back T l b c e = put_put T l c b ∙ put_same T l b e
