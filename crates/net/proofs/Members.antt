-- Members of lists, and lists in which each member stands in a relation to all that come later.
use Rattle.std.proofs.Common.{◌≡◌, ℕ, zero, suc, ◌+◌, ◌<◌, ◌≤◌, Bool, true, false, cond, ◌⊎◌, List, [], ◌∷◌, ◌++◌, map, length, filter, sym, refl, ap, inl, inr, arith}
use native.Mathlib.Decide.{ℕ_discrete}
use Rattle.std.specs.List.{range_with_len, flat_map}
use Rattle.net.specs.Nets.{nth}
use Rattle.net.specs.Members.{Member, Rising}

pub member_left : {A : Type 0} (x : A) (xs ys : List A) → Member x xs → Member x (xs ++ ys)
member_left x [] ys m = absurd m
member_left x (y ∷ xs) ys (inl e) = inl e
member_left x (y ∷ xs) ys (inr m) = inr (member_left x xs ys m)

pub member_right : {A : Type 0} (x : A) (xs ys : List A) → Member x ys → Member x (xs ++ ys)
member_right x [] ys m = m
member_right x (y ∷ xs) ys m = inr (member_right x xs ys m)

pub member_append : {A : Type 0} (x : A) (xs ys : List A) → Member x (xs ++ ys) → Member x xs ⊎ Member x ys
member_append x [] ys m = inr m
member_append x (y ∷ xs) ys (inl e) = inl (inl e)
member_append x (y ∷ xs) ys (inr m) = elim (member_append x xs ys m) [ inl p ↦ inl (inr p) | inr p ↦ inr p ]

-- a list joined from one list for each member
pub member_joined : {A B : Type 0} (f : A → List B) (y : B) (xs : List A) → Member y (flat_map f xs) → (x : A) × Member x xs × Member y (f x)
member_joined f y [] m = absurd m
member_joined f y (x ∷ xs) m = elim (member_append y (f x) (flat_map f xs) m) [
  | inl p ↦ (x, inl refl, p)
  | inr p ↦ let (x', q, r) = member_joined f y xs p in (x', inr q, r)
]

pub joined_member : {A B : Type 0} (f : A → List B) (y : B) (x : A) (xs : List A) → Member x xs → Member y (f x) → Member y (flat_map f xs)
joined_member f y x [] m p = absurd m
joined_member f y x (x' ∷ xs) (inl e) p = member_left y (f x') (flat_map f xs) (rw e at p)
joined_member f y x (x' ∷ xs) (inr m) p = member_right y (f x') (flat_map f xs) (joined_member f y x xs m p)

-- what a test keeps
pub member_kept : {A : Type 0} (p : A → Bool) (x : A) (xs : List A) → Member x (filter p xs) → Member x xs × (p x ≡ true)
member_kept p x [] m = absurd m
member_kept p x (y ∷ ys) m = by (p y) refl m (member_kept p x ys)
  where
    by : (b : Bool) → p y ≡ b → Member x (cond b (y ∷ filter p ys) (filter p ys)) → (Member x (filter p ys) → Member x ys × (p x ≡ true)) → Member x (y ∷ ys) × (p x ≡ true)
    by true e (inl q) h = (inl q, rw q e)
    by true e (inr q) h = let (r, s) = h q in (inr r, s)
    by false e q h = let (r, s) = h q in (inr r, s)

pub kept_member : {A : Type 0} (p : A → Bool) (x : A) (xs : List A) → Member x xs → p x ≡ true → Member x (filter p xs)
kept_member p x [] m t = absurd m
kept_member p x (y ∷ ys) (inl e) t = let t' : p y ≡ true = rw e at t in rw t' (inl e)
kept_member p x (y ∷ ys) (inr m) t = by (p y) (kept_member p x ys m t)
  where
    by : (b : Bool) → Member x (filter p ys) → Member x (cond b (y ∷ filter p ys) (filter p ys))
    by true h = inr h
    by false h = h

-- the numbers from a on
pub member_counting : (a n x : ℕ) → Member x (range_with_len a n) → (a ≤ x) × (x < a + n)
member_counting a zero x m = absurd m
member_counting a (suc n) x (inl e) = omega arith
member_counting a (suc n) x (inr m) = let h = member_counting (a + 1) n x m in omega arith

pub counting_member : (a n x : ℕ) → a ≤ x → x < a + n → Member x (range_with_len a n)
counting_member a zero x lo hi = absurd (omega arith)
counting_member a (suc n) x lo hi = elim (ℕ_discrete x a) [
  | yes e ↦ inl e
  | no ne ↦ inr (counting_member (a + 1) n x (omega arith) (omega arith))
]

pub member_nth : (xs : List ℕ) (k : ℕ) → 1 ≤ k → k ≤ length xs → Member (nth xs k 0) xs
member_nth xs zero lo hi = absurd (omega arith)
member_nth [] (suc k) lo hi = absurd (omega arith)
member_nth (x ∷ xs) (suc zero) lo hi = inl refl
member_nth (x ∷ xs) (suc (suc k)) lo hi = inr (member_nth xs (suc k) (omega arith) (omega arith))

pub rising_append : {A : Type 0} (R : A → A → Type 0) (xs ys : List A) → Rising R xs → Rising R ys
    → ((x y : A) → Member x xs → Member y ys → R x y) → Rising R (xs ++ ys)
rising_append R [] ys h k f = k
rising_append R (x ∷ xs) ys (h, h') k f = (
  λ y m. elim (member_append y xs ys m) [ inl p ↦ h y p | inr p ↦ f x y (inl refl) p ],
  rising_append R xs ys h' k (λ x' y p q. f x' y (inr p) q),
)

pub rising_joined : {A B : Type 0} (S : A → A → Type 0) (R : B → B → Type 0) (f : A → List B) (xs : List A) → Rising S xs
    → ((x : A) → Rising R (f x)) → ((x x' : A) → S x x' → (y y' : B) → Member y (f x) → Member y' (f x') → R y y') → Rising R (flat_map f xs)
rising_joined S R f [] h k g = tt
rising_joined S R f (x ∷ xs) (h, h') k g = rising_append R (f x) (flat_map f xs) (k x) (rising_joined S R f xs h' k g)
    (λ y y' p q. let (x', m, r) = member_joined f y' xs q in g x x' (h x' m) y y' p r)

pub rising_kept : {A : Type 0} (R : A → A → Type 0) (p : A → Bool) (xs : List A) → Rising R xs → Rising R (filter p xs)
rising_kept R p [] h = tt
rising_kept R p (x ∷ xs) (h, h') = by (p x) (rising_kept R p xs h')
  where
    by : (b : Bool) → Rising R (filter p xs) → Rising R (cond b (x ∷ filter p xs) (filter p xs))
    by true k = ((λ y m. h y (member_kept p y xs m).0), k)
    by false k = k

pub rising_counting : (a n : ℕ) → Rising ◌<◌ (range_with_len a n)
rising_counting a zero = tt
rising_counting a (suc n) = ((λ y m. let h = member_counting (a + 1) n y m in omega arith), rising_counting (a + 1) n)

-- a weaker relation between members
pub rising_as : {A : Type 0} (R S : A → A → Type 0) (xs : List A) → ((x y : A) → Member x xs → Member y xs → R x y → S x y) → Rising R xs → Rising S xs
rising_as R S [] g h = tt
rising_as R S (x ∷ xs) g (h, h') = (
  λ y m. g x y (inl refl) (inr m) (h y m),
  rising_as R S xs (λ a b p q. g a b (inr p) (inr q)) h',
)

pub rising_nth : (R : ℕ → ℕ → Type 0) (xs : List ℕ) → Rising R xs → (j k : ℕ) → 1 ≤ j → j < k → k ≤ length xs → R (nth xs j 0) (nth xs k 0)
rising_nth R [] h j k lo lt hi = absurd (omega arith)
rising_nth R (x ∷ xs) h zero k lo lt hi = absurd (omega arith)
rising_nth R (x ∷ xs) h (suc j) zero lo lt hi = absurd (omega arith)
rising_nth R (x ∷ xs) h (suc zero) (suc zero) lo lt hi = absurd (omega arith)
rising_nth R (x ∷ xs) h (suc zero) (suc (suc k)) lo lt hi = h.0 _ (member_nth xs (suc k) (omega arith) (omega arith))
rising_nth R (x ∷ xs) h (suc (suc j)) (suc zero) lo lt hi = absurd (omega arith)
rising_nth R (x ∷ xs) h (suc (suc j)) (suc (suc k)) lo lt hi = rising_nth R xs h.1 (suc j) (suc k) (omega arith) (omega arith) (omega arith)

pub nth_member : (x : ℕ) (xs : List ℕ) → Member x xs → (k : ℕ) × (1 ≤ k) × (k ≤ length xs) × (nth xs k 0 ≡ x)
nth_member x [] m = absurd m
nth_member x (y ∷ ys) (inl e) = (1, omega arith, omega arith, sym e)
nth_member x (y ∷ ys) (inr m) = later (nth_member x ys m)
  where
    later : (k : ℕ) × (1 ≤ k) × (k ≤ length ys) × (nth ys k 0 ≡ x) → (k : ℕ) × (1 ≤ k) × (k ≤ length (y ∷ ys)) × (nth (y ∷ ys) k 0 ≡ x)
    later (zero, lo, hi, e) = absurd (omega arith)
    later (suc k, lo, hi, e) = (suc (suc k), omega arith, omega arith, e)

pub rising_from : (R : ℕ → ℕ → Type 0) (xs : List ℕ) → ((j k : ℕ) → 1 ≤ j → j < k → k ≤ length xs → R (nth xs j 0) (nth xs k 0)) → Rising R xs
rising_from R [] f = tt
rising_from R (x ∷ xs) f = (
  first,
  rising_from R xs (λ j k lo lt hi. tail j k lo lt hi (f (suc j) (suc k) (omega arith) (omega arith) (omega arith))),
)
  where
    first : (y : ℕ) → Member y xs → R x y
    first y m = at (nth_member y xs m)
      where
        at : (k : ℕ) × (1 ≤ k) × (k ≤ length xs) × (nth xs k 0 ≡ y) → R x y
        at (zero, lo, hi, e) = absurd (omega arith)
        at (suc k, lo, hi, e) = rw e at (f 1 (suc (suc k)) (omega arith) (omega arith) (omega arith))

    tail : (j k : ℕ) → 1 ≤ j → j < k → k ≤ length xs → R (nth (x ∷ xs) (suc j) 0) (nth (x ∷ xs) (suc k) 0) → R (nth xs j 0) (nth xs k 0)
    tail zero k lo lt hi h = absurd (omega arith)
    tail (suc j) zero lo lt hi h = absurd (omega arith)
    tail (suc j) (suc k) lo lt hi h = h

-- each member changed
pub member_map : {A B : Type 0} (f : A → B) (y : B) (xs : List A) → Member y (map f xs) → (x : A) × Member x xs × (y ≡ f x)
member_map f y [] m = absurd m
member_map f y (x ∷ xs) (inl e) = (x, inl refl, e)
member_map f y (x ∷ xs) (inr m) = let (x', q, r) = member_map f y xs m in (x', inr q, r)

pub map_member : {A B : Type 0} (f : A → B) (x : A) (xs : List A) → Member x xs → Member (f x) (map f xs)
map_member f x [] m = m
map_member f x (y ∷ xs) (inl e) = inl (ap f e)
map_member f x (y ∷ xs) (inr m) = inr (map_member f x xs m)

pub rising_map : {A B : Type 0} (R : A → A → Type 0) (S : B → B → Type 0) (f : A → B) (xs : List A) → ((x y : A) → R x y → S (f x) (f y))
    → Rising R xs → Rising S (map f xs)
rising_map R S f [] g h = tt
rising_map R S f (x ∷ xs) g (h, h') = (
  λ y m. let (x', p, e) = member_map f y xs m in rw e (g x x' (h x' p)),
  rising_map R S f xs g h',
)
