-- Links and their ends.
use Rattle.std.proofs.Common.{◌≡◌, ℕ, zero, suc, ◌≤◌, ◌≢◌, ◌⊎◌, length, Some, None, Option, sym, refl, ap, ◌∙◌, inl, inr, arith}
use native.Mathlib.Decide.{dec_le}
use Rattle.net.specs.Nets.{Net, ends_of, IsBar, Joins, forth, back, InService}
use Rattle.net.specs.Limits.{WithinLimits}
use Rattle.net.proofs.Numbered.{nth_past}

pub same_pair : {a b x y : ℕ} → ◌≡◌ {A = Option (ℕ × ℕ)} (Some (a, b)) (Some (x, y)) → (a ≡ x) × (b ≡ y)
same_pair {a} {b} {x} {y} e = let p : ◌≡◌ {A = ℕ × ℕ} (a, b) (x, y) = cc in (ap (λ q. q.0) p, ap (λ q. q.1) p)

module _ (net : Net) where
  pub joins_flip : {l a b : ℕ} → Joins net l a b → Joins net l b a
  joins_flip (forth e) = back e
  joins_flip (back e) = forth e

  pub joins_served : {l a b : ℕ} → Joins net l a b → InService net l
  joins_served {a = a} {b = b} j = (a, b, j)

  -- the ends of a link are what they are
  pub same_ends : {l a b x y : ℕ} → Joins net l a b → Joins net l x y → ((x ≡ a) × (y ≡ b)) ⊎ ((x ≡ b) × (y ≡ a))
  same_ends (forth p) (forth q) = inl (same_pair (sym q ∙ p))
  same_ends (forth p) (back q) = let (u, v) = same_pair (sym q ∙ p) in inr (v, u)
  same_ends (back p) (forth q) = inr (same_pair (sym q ∙ p))
  same_ends (back p) (back q) = let (u, v) = same_pair (sym q ∙ p) in inl (v, u)

  pub out_of_service : {l a b : ℕ} → ends_of net l ≡ None → Joins net l a b → ⊥
  out_of_service e (forth q) = let z : ◌≡◌ {A = ℕ} 0 1 = cc in omega arith
  out_of_service e (back q) = let z : ◌≡◌ {A = ℕ} 0 1 = cc in omega arith

  -- a link in service has a number of the net
  pub joins_range : {l a b : ℕ} → Joins net l a b → (1 ≤ l) × (l ≤ length net.links)
  joins_range {l} {a} {b} j = (
    low l j,
    elim (dec_le l (length net.links)) [
      | yes h ↦ h
      | no h ↦ absurd (out_of_service (nth_past net.links l None (omega arith)) j)
    ],
  )
    where
      low : (m : ℕ) → Joins net m a b → 1 ≤ m
      low zero q = absurd (out_of_service refl q)
      low (suc m) q = omega arith

  module _ (fit : WithinLimits net) where
    pub ends_bars : {l a b : ℕ} → Joins net l a b → IsBar net a × IsBar net b
    ends_bars {l} {a} {b} (forth e) = fit.ends_are_bars l a b e
    ends_bars {l} {a} {b} (back e) = let (p, q) = fit.ends_are_bars l b a e in (q, p)

    pub ends_apart : {l a b : ℕ} → Joins net l a b → a ≢ b
    ends_apart {l} {a} {b} (forth e) = fit.ends_differ l a b e
    ends_apart {l} {a} {b} (back e) = λ q. fit.ends_differ l b a e (sym q)

    -- from one of its bars a link leads to one bar
    pub one_across : {l b c d : ℕ} → Joins net l b c → Joins net l b d → d ≡ c
    one_across p q = elim (same_ends p q) [
      | inl (_, e) ↦ e
      | inr (e, _) ↦ absurd (ends_apart p e)
    ]
