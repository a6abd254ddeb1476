-- Tables used as stacks.
use Rattle.std.proofs.Common.{◌≡◌, ℕ, zero, suc, ◌<◌, ◌≤◌, List, ◌∷◌, length, set, refl, ap, ap₂, arith}
use Rattle.std.proofs.lemmas.List.{get_or-set_same, get_or-set_other}
use Rattle.search.specs.Frames.{stacked}

-- what is written above the top is not seen
pub stacked_above : {A : Type 0} (d : A) (xs : List A) (n i : ℕ) (x : A) → n ≤ i → stacked d (set xs i x) n ≡ stacked d xs n
stacked_above d xs zero i x h = refl
stacked_above d xs (suc n) i x h = ap₂ ◌∷◌ (get_or-set_other xs i n x d (omega arith)) (stacked_above d xs n i x (omega arith))

pub stacked_push : {A : Type 0} (d : A) (xs : List A) (n : ℕ) (x : A) → n < length xs → stacked d (set xs n x) (suc n) ≡ x ∷ stacked d xs n
stacked_push d xs n x h = ap₂ ◌∷◌ (get_or-set_same xs n x d h) (stacked_above d xs n n x (omega arith))

pub stacked_length : {A : Type 0} (d : A) (xs : List A) (n : ℕ) → length (stacked d xs n) ≡ n
stacked_length d xs zero = refl
stacked_length d xs (suc n) = ap suc (stacked_length d xs n)
