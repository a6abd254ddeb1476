-- Lists cut at the first of a number.
use Rattle.std.proofs.Common.{◌≡◌, ℕ, ◌+◌, ◌^◌, ◌<◌, ◌≤◌, ◌≢◌, ◌⊎◌, List, [], ◌∷◌, ◌++◌, length, get_or, take, drop, decimal, sym, refl, ap, ◌∙◌, inl, inr, arith}
use Rattle.std.specs.Int.{IsInRange}
use Rattle.std.proofs.lemmas.List.{take-append-drop, drop_more, length-take-le, get_or-take}
use Rattle.std.proofs.lemmas.List.Elements.{All-from_get_or, All-head, All-tail}
use Rattle.std.proofs.lemmas.Str.Parse.{digit_at}
use Rattle.std.proofs.lemmas.Fmt.{decimal_is_IsNumeral}
use Rattle.text.specs.Form.{InText}
use Rattle.text.specs.Cuts.{Free}

pub free_take : (c : ℕ) (xs : List ℕ) (r : ℕ) → r ≤ length xs → ((k : ℕ) → k < r → get_or xs k 0 ≢ c) → Free c (take r xs)
free_take c xs r le f = All-from_get_or (λ x. x ≢ c) (take r xs) 0 (λ k h.
    let lt : k < r = rw (length-take-le r xs le) at h in
    λ e. f k lt (sym (get_or-take r xs k 0 lt) ∙ e))

-- a list with c somewhere is not free of it
pub not_free : (c : ℕ) (xs ys : List ℕ) → ¬ Free c (xs ++ c ∷ ys)
not_free c [] ys h = h 0 c (omega arith) refl
not_free c (x ∷ xs) ys h = not_free c xs ys (All-tail (λ y. y ≢ c) x (xs ++ c ∷ ys) h)

-- a decimal number has only digits
pub free_decimal : (c n : ℕ) → n < 2 ^ 64 → (c < 48) ⊎ (57 < c) → Free c (decimal n)
free_decimal c n small out = All-from_get_or (λ x. x ≢ c) (decimal n) 0 (λ i lt e.
    let q : IsInRange 48 57 (get_or (decimal n) i 0) = digit_at (decimal n) i (decimal_is_IsNumeral n small).0.1 lt in
    elim out [ inl p ↦ omega arith | inr p ↦ omega arith ])

-- before the first c a list is what it is
pub same_cut : (c : ℕ) (xs ys us vs : List ℕ) → Free c xs → Free c ys → xs ++ c ∷ us ≡ ys ++ c ∷ vs → (xs ≡ ys) × (us ≡ vs)
same_cut c [] [] us vs p q e = (refl, cc)
same_cut c [] (y ∷ ys) us vs p q e = let z : y ≡ c = cc in absurd (All-head (λ b. b ≢ c) y ys q z)
same_cut c (x ∷ xs) [] us vs p q e = let z : x ≡ c = cc in absurd (All-head (λ b. b ≢ c) x xs p z)
same_cut c (x ∷ xs) (y ∷ ys) us vs p q e =
    let h : x ≡ y = cc in
    let t : xs ++ c ∷ us ≡ ys ++ c ∷ vs = cc in
    let (r, s) = same_cut c xs ys us vs (All-tail (λ b. b ≢ c) x xs p) (All-tail (λ b. b ≢ c) y ys q) t in
    (cc, s)

-- a list is its front, the number at r, and the rest
pub cut_at : (xs : List ℕ) (r c : ℕ) → r < length xs → get_or xs r 0 ≡ c → xs ≡ take r xs ++ c ∷ drop (r + 1) xs
cut_at xs r c lt e =
    sym (take-append-drop r xs) ∙ ap (λ ys. take r xs ++ ys) (drop_more xs r 0 lt) ∙ ap (λ x. take r xs ++ x ∷ drop (r + 1) xs) e

module _ (xs : List ℕ) where
  -- without a space there are no two numbers
  pub no_two_numbers : Free 32 xs → (a b : ℕ) → InText a → InText b → xs ≢ decimal a ++ 32 ∷ decimal b
  no_two_numbers free a b ha hb e = not_free 32 (decimal a) (decimal b) (rw e at free)

  -- two numbers stand before the first space and after it
  pub two_parts : (before after : List ℕ) → Free 32 before → xs ≡ before ++ 32 ∷ after → (a b : ℕ) → InText a → xs ≡ decimal a ++ 32 ∷ decimal b
      → (before ≡ decimal a) × (after ≡ decimal b)
  two_parts before after free parts a b ha e = same_cut 32 before (decimal a) after (decimal b) free (free_decimal 32 a (omega arith) (inl (omega arith))) (sym parts ∙ e)
