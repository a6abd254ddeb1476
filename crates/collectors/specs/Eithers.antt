-- What one of two collectors means: what it itself means. Assumes nothing.
use Rattle.std.specs.Prelude.{ℕ, ◌^◌, ◌≤◌, ◌⊎◌}
use Rattle.std.proofs.Common.{inl, inr}
use Rattle.either.specs.declared.Either.{Either}
use Rattle.either.specs.declared.Either.TheVariants.{Left, Right}
use Rattle.either.specs.Either.{either}
use Rattle.trees.specs.Listings.{Exchanged}

-- Its sum.
abbrev pub either_sum : {A B SA SB : Type 0} → (A → SA) → (B → SB) → Either A B → SA ⊎ SB
either_sum f g (Left a) = inl (f a)
either_sum f g (Right b) = inr (g b)

-- Its rule.
abbrev pub either_rule : {SA SB : Type 0} → (SA → Exchanged → SA) → (SB → Exchanged → SB) → SA ⊎ SB → Exchanged → SA ⊎ SB
either_rule f g (inl s) x = inl (f s x)
either_rule f g (inr s) x = inr (g s x)

-- Its spare is that of the one it holds; both are bounded, so it is.
pub either_bounded : {A B : Type 0} {f : A → ℕ} {g : B → ℕ} → ((a : A) → f a ≤ 2 ^ 62) → ((b : B) → g b ≤ 2 ^ 62) → (e : Either A B) → either f g e ≤ 2 ^ 62
either_bounded p q (Left a) = p a
either_bounded p q (Right b) = q b
