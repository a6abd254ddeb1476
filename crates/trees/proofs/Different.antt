-- A list without repeats of rows of n booleans has at most 2 ^ n members.
use Rattle.std.proofs.Common.{◌≡◌, ℕ, zero, suc, ◌+◌, ◌^◌, ◌≤◌, Bool, true, false, ◌≢◌, List, [], ◌∷◌, length, refl, ap, inl, inr, pow-suc, arith}
use Rattle.net.specs.Members.{Member, Rising}

-- the rows that begin with b, without it
abbrev behind : Bool → List (List Bool) → List (List Bool)
behind b [] = []
behind b ([] ∷ xs) = behind b xs
behind true ((true ∷ r) ∷ xs) = r ∷ behind true xs
behind true ((false ∷ r) ∷ xs) = behind true xs
behind false ((true ∷ r) ∷ xs) = behind false xs
behind false ((false ∷ r) ∷ xs) = r ∷ behind false xs

from_behind : (b : Bool) (r : List Bool) (xs : List (List Bool)) → Member r (behind b xs) → Member (b ∷ r) xs
from_behind b r [] m = absurd m
from_behind b r ([] ∷ xs) m = inr (from_behind b r xs m)
from_behind true r ((true ∷ s) ∷ xs) (inl e) = inl (ap (λ q. true ∷ q) e)
from_behind true r ((true ∷ s) ∷ xs) (inr m) = inr (from_behind true r xs m)
from_behind true r ((false ∷ s) ∷ xs) m = inr (from_behind true r xs m)
from_behind false r ((true ∷ s) ∷ xs) m = inr (from_behind false r xs m)
from_behind false r ((false ∷ s) ∷ xs) (inl e) = inl (ap (λ q. false ∷ q) e)
from_behind false r ((false ∷ s) ∷ xs) (inr m) = inr (from_behind false r xs m)

once_behind : (b : Bool) (xs : List (List Bool)) → Rising ◌≢◌ xs → Rising ◌≢◌ (behind b xs)
once_behind b [] h = tt
once_behind b ([] ∷ xs) h = once_behind b xs h.1
once_behind true ((true ∷ r) ∷ xs) h = ((λ s m e. h.0 (true ∷ s) (from_behind true s xs m) (ap (λ q. true ∷ q) e)), once_behind true xs h.1)
once_behind true ((false ∷ r) ∷ xs) h = once_behind true xs h.1
once_behind false ((true ∷ r) ∷ xs) h = once_behind false xs h.1
once_behind false ((false ∷ r) ∷ xs) h = ((λ s m e. h.0 (false ∷ s) (from_behind false s xs m) (ap (λ q. false ∷ q) e)), once_behind false xs h.1)

split_length : (n : ℕ) (xs : List (List Bool)) → ((r : List Bool) → Member r xs → length r ≡ suc n) → length xs ≡ length (behind true xs) + length (behind false xs)
split_length n [] h = refl
split_length n ([] ∷ xs) h = absurd (omega (arith, h [] (inl refl)))
split_length n ((true ∷ r) ∷ xs) h = let q = split_length n xs (λ s m. h s (inr m)) in omega arith
split_length n ((false ∷ r) ∷ xs) h = let q = split_length n xs (λ s m. h s (inr m)) in omega arith

empty_rows : (r s : List Bool) → length r ≡ 0 → length s ≡ 0 → r ≡ s
empty_rows [] [] p q = refl
empty_rows [] (b ∷ s) p q = absurd (omega arith)
empty_rows (a ∷ r) s p q = absurd (omega arith)

pub few_rows : (n : ℕ) (xs : List (List Bool)) → ((r : List Bool) → Member r xs → length r ≡ n) → Rising ◌≢◌ xs → length xs ≤ 2 ^ n
few_rows zero [] h once = omega arith
few_rows zero (x ∷ []) h once = omega arith
few_rows zero (x ∷ (y ∷ xs)) h once = absurd (once.0 y (inl refl) (empty_rows x y (h x (inl refl)) (h y (inr (inl refl)))))
few_rows (suc n) xs h once =
    let t = few_rows n (behind true xs) (λ r m. let q = h (true ∷ r) (from_behind true r xs m) in omega arith) (once_behind true xs once) in
    let f = few_rows n (behind false xs) (λ r m. let q = h (false ∷ r) (from_behind false r xs m) in omega arith) (once_behind false xs once) in
    omega (arith, pow-suc 2 n, split_length n xs h)
