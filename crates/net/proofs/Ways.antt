-- Ways along a relation between bars.
use Rattle.std.proofs.Common.{◌≡◌, ℕ, ◌⊎◌, refl, inl, inr}
use Rattle.net.specs.Settings.{Way, here, onward}

-- one way after another
pub way_join : {R : ℕ → ℕ → Type 0} {a b c : ℕ} → Way R a b → Way R b c → Way R a c
way_join v here = v
way_join v (onward w r) = onward (way_join v w) r

-- where each step of R is a way along S
pub way_along : {R S : ℕ → ℕ → Type 0} {a b : ℕ} → ((x y : ℕ) → R x y → Way S x y) → Way R a b → Way S a b
way_along f here = here
way_along f (onward {b = x} {c = y} w r) = way_join (way_along f w) (f x y r)

-- the way back, where each step can be taken back
pub way_back : {R : ℕ → ℕ → Type 0} {a b : ℕ} → ((x y : ℕ) → R x y → R y x) → Way R a b → Way R b a
way_back f here = here
way_back f (onward {b = x} {c = y} w r) = way_join (onward here (f x y r)) (way_back f w)

-- what each step keeps, a way keeps
pub way_keeps : {R : ℕ → ℕ → Type 0} {a b : ℕ} (P : ℕ → Type 0) → ((x y : ℕ) → R x y → P x → P y) → Way R a b → P a → P b
way_keeps P f here p = p
way_keeps P f (onward {b = x} {c = y} w r) p = f x y r (way_keeps P f w p)

-- a way is none at all, or has a last step
pub way_last : {R : ℕ → ℕ → Type 0} {a b : ℕ} → Way R a b → (a ≡ b) ⊎ ((p : ℕ) × Way R a p × R p b)
way_last here = inl refl
way_last (onward {b = p} w r) = inr (p, w, r)
