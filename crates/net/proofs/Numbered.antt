-- Lists numbered from 1: `nth` and `put`.
use Rattle.std.proofs.Common.{◌≡◌, ℕ, zero, suc, ◌-◌, ◌<◌, ◌≤◌, ◌≢◌, List, [], ◌∷◌, ◌++◌, map, length, take, set, refl, ap, arith}
use native.Mathlib.Decide.{dec_le}
use Rattle.std.proofs.lemmas.List.{get_or-set_same, get_or-set_other, get_or_past, set_past, get_or_append_left, get_or-append_right, get_or-take, length-set, set-set, set-get_or}
use Rattle.std.proofs.lemmas.List.FromFn.{get_or-map-range_with_len}
use Rattle.std.specs.List.{range_with_len}
use Rattle.net.specs.Nets.{nth, put}

pub nth_put_same : {A : Type 0} (xs : List A) (i : ℕ) (x d : A) → 1 ≤ i → i ≤ length xs → nth (put xs i x) i d ≡ x
nth_put_same xs zero x d lo hi = absurd (omega arith)
nth_put_same xs (suc i) x d lo hi = get_or-set_same xs i x d (omega arith)

pub nth_put_other : {A : Type 0} (xs : List A) (i j : ℕ) (x d : A) → j ≢ i → nth (put xs i x) j d ≡ nth xs j d
nth_put_other xs i zero x d ne = refl
nth_put_other xs zero (suc j) x d ne = refl
nth_put_other xs (suc i) (suc j) x d ne = get_or-set_other xs i j x d (omega arith)

pub nth_past : {A : Type 0} (xs : List A) (i : ℕ) (d : A) → length xs < i → nth xs i d ≡ d
nth_past xs zero d h = refl
nth_past xs (suc i) d h = get_or_past xs i d (omega arith)

-- a number that the list does not have
pub nth_outside : {A : Type 0} (xs : List A) (n i : ℕ) (d : A) → length xs ≡ n → ¬ ((1 ≤ i) × (i ≤ n)) → nth xs i d ≡ d
nth_outside xs n zero d e out = refl
nth_outside xs n (suc i) d e out = elim (dec_le (suc i) n) [
  | yes l ↦ absurd (out (omega arith, l))
  | no m ↦ get_or_past xs i d (omega arith)
]

pub put_outside : {A : Type 0} (xs : List A) (n i : ℕ) (x : A) → length xs ≡ n → ¬ ((1 ≤ i) × (i ≤ n)) → put xs i x ≡ xs
put_outside xs n zero x e out = refl
put_outside xs n (suc i) x e out = elim (dec_le (suc i) n) [
  | yes l ↦ absurd (out (omega arith, l))
  | no m ↦ set_past xs i x (omega arith)
]

pub length_put : {A : Type 0} (xs : List A) (i : ℕ) (x : A) → length (put xs i x) ≡ length xs
length_put xs zero x = refl
length_put xs (suc i) x = length-set xs i x

pub put_put : {A : Type 0} (xs : List A) (i : ℕ) (x y : A) → put (put xs i x) i y ≡ put xs i y
put_put xs zero x y = refl
put_put xs (suc i) x y = set-set xs i x y

pub put_nth : {A : Type 0} (xs : List A) (i : ℕ) (d : A) → put xs i (nth xs i d) ≡ xs
put_nth xs zero d = refl
put_nth xs (suc i) d = set-get_or xs i d

pub nth_append_left : {A : Type 0} (xs ys : List A) (i : ℕ) (d : A) → i ≤ length xs → nth (xs ++ ys) i d ≡ nth xs i d
nth_append_left xs ys zero d h = refl
nth_append_left xs ys (suc i) d h = get_or_append_left xs ys d i (omega arith)

pub nth_append_right : {A : Type 0} (xs ys : List A) (n i : ℕ) (d : A) → length xs ≡ n → n < i → nth (xs ++ ys) i d ≡ nth ys (i - n) d
nth_append_right xs ys n zero d e h = absurd (omega arith)
nth_append_right xs ys n (suc i) d e h =
    let s : suc i - n ≡ suc (i - n) = omega arith in
    rw s (get_or-append_right xs ys n i d e (omega arith))

-- a list made from the numbers 1 to n
pub nth_made : {A : Type 0} (f : ℕ → A) (n i : ℕ) (d : A) → 1 ≤ i → i ≤ n → nth (map f (range_with_len 1 n)) i d ≡ f i
nth_made f n zero d lo hi = absurd (omega arith)
nth_made f n (suc i) d lo hi = get_or-map-range_with_len f 1 n i (suc i) d (omega arith) (omega arith)

-- the first n of a list
set_first : {A : Type 0} (xs : List A) (n i : ℕ) (x : A) → take n (set xs i x) ≡ set (take n xs) i x
set_first xs zero i x = refl
set_first [] (suc n) i x = refl
set_first (y ∷ xs) (suc n) zero x = refl
set_first (y ∷ xs) (suc n) (suc i) x = ap (λ zs. y ∷ zs) (set_first xs n i x)

pub put_first : {A : Type 0} (xs : List A) (n i : ℕ) (x : A) → take n (put xs i x) ≡ put (take n xs) i x
put_first xs n zero x = refl
put_first xs n (suc i) x = set_first xs n i x

pub nth_first : {A : Type 0} (xs : List A) (n i : ℕ) (d : A) → i ≤ n → nth (take n xs) i d ≡ nth xs i d
nth_first xs n zero d h = refl
nth_first xs n (suc i) d h = get_or-take n xs i d (omega arith)
