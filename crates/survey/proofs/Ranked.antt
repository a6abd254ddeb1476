-- Ranks in a list.
use Rattle.std.proofs.Common.{◌≡◌, ℕ, zero, suc, ◌+◌, ◌<◌, ◌≤◌, ◌≢◌, ◌⊎◌, List, [], ◌∷◌, ◌++◌, length, Some, None, Option, sym, refl, ap, ◌∙◌, inl, inr, arith}
use native.Mathlib.Decide.{ℕ_discrete}
use Rattle.std.specs.Option.{option_map}
use Rattle.std.proofs.lemmas.Bool.{eq-eqb, ne_eqb}
use Rattle.net.specs.Nets.{nth}
use Rattle.net.specs.Members.{Member}
use Rattle.net.proofs.Members.{member_nth}
use Rattle.survey.specs.Ranks.{rank_in}

-- whether an option holds something
pub some_or_none : {A : Type 0} (o : Option A) → ((x : A) × (o ≡ Some x)) ⊎ (o ≡ None)
some_or_none None = inr refl
some_or_none (Some x) = inl (x, refl)

pub not_some_none : {A : Type 0} {o : Option A} {x : A} → o ≡ Some x → o ≡ None → ⊥
not_some_none {A} {o} {x} p q = let z : ◌≡◌ {A = ℕ} 0 1 = cc in omega arith

pub same_some : {A : Type 0} {o : Option A} {x y : A} → o ≡ Some x → o ≡ Some y → x ≡ y
same_some {A} {o} {x} {y} p q = cc

-- the head has rank 1, and ranks in the tail are one more
pub rank_first : (x y : ℕ) (ys : List ℕ) → x ≡ y → rank_in (y ∷ ys) x ≡ Some 1
rank_first x y ys e = rw (eq-eqb x y e)

pub rank_later : (x y : ℕ) (ys : List ℕ) → x ≢ y → rank_in (y ∷ ys) x ≡ option_map suc (rank_in ys x)
rank_later x y ys ne = rw (ne_eqb x y ne)

pub mapped_some : {A B : Type 0} (f : A → B) (o : Option A) {y : B} → option_map f o ≡ Some y → (x : A) × (o ≡ Some x) × (f x ≡ y)
mapped_some f None e = absurd (not_some_none e refl)
mapped_some f (Some x) e = (x, refl, same_some refl e)

pub mapped_none : {A B : Type 0} (f : A → B) (o : Option A) → option_map f o ≡ None → o ≡ None
mapped_none f None e = refl
mapped_none f (Some x) e = absurd (not_some_none refl e)

-- the number of rank k stands at place k
pub rank_place : (xs : List ℕ) (x k : ℕ) → rank_in xs x ≡ Some k → (1 ≤ k) × (k ≤ length xs) × (nth xs k 0 ≡ x)
rank_place [] x k e = absurd (not_some_none e refl)
rank_place (y ∷ ys) x k e = elim (ℕ_discrete x y) [
  | yes p ↦ let q : k ≡ 1 = same_some e (rank_first x y ys p) in rw (q, p) (omega arith, omega arith, refl)
  | no ne ↦
      let (j, r, s) = mapped_some suc (rank_in ys x) (sym (rank_later x y ys ne) ∙ e) in
      later j (rank_place ys x j r) s
]
  where
    later : (j : ℕ) → (1 ≤ j) × (j ≤ length ys) × (nth ys j 0 ≡ x) → suc j ≡ k → (1 ≤ k) × (k ≤ length (y ∷ ys)) × (nth (y ∷ ys) k 0 ≡ x)
    later zero h s = absurd (omega arith)
    later (suc j) h s = rw (← s) (omega arith, omega arith, h.2)

-- what has no rank stands nowhere
pub no_rank : (xs : List ℕ) (x k : ℕ) → rank_in xs x ≡ None → 1 ≤ k → k ≤ length xs → nth xs k 0 ≢ x
no_rank xs x zero e lo hi q = omega arith
no_rank [] x (suc k) e lo hi q = omega arith
no_rank (y ∷ ys) x (suc zero) e lo hi q = not_some_none (rank_first x y ys (sym q)) e
no_rank (y ∷ ys) x (suc (suc k)) e lo hi q = elim (ℕ_discrete x y) [
  | yes p ↦ not_some_none (rank_first x y ys p) e
  | no ne ↦ no_rank ys x (suc k) (mapped_none suc (rank_in ys x) (sym (rank_later x y ys ne) ∙ e)) (omega arith) (omega arith) q
]

-- what stands somewhere has a rank
pub place_rank : (xs : List ℕ) (k : ℕ) → 1 ≤ k → k ≤ length xs → (j : ℕ) × (rank_in xs (nth xs k 0) ≡ Some j)
place_rank xs k lo hi = elim (some_or_none (rank_in xs (nth xs k 0))) [
  | inl p ↦ p
  | inr e ↦ absurd (no_rank xs (nth xs k 0) k e lo hi refl)
]

-- a longer list keeps the ranks
pub rank_append : (xs ys : List ℕ) (x k : ℕ) → rank_in xs x ≡ Some k → rank_in (xs ++ ys) x ≡ Some k
rank_append [] ys x k e = absurd (not_some_none e refl)
rank_append (y ∷ xs) ys x k e = elim (ℕ_discrete x y) [
  | yes p ↦ let q : k ≡ 1 = same_some e (rank_first x y xs p) in rw q (rank_first x y (xs ++ ys) p)
  | no ne ↦
      let (j, r, s) = mapped_some suc (rank_in xs x) (sym (rank_later x y xs ne) ∙ e) in
      rank_later x y (xs ++ ys) ne ∙ ap (option_map suc) (rank_append xs ys x j r) ∙ ap Some s
]

-- in a longer list, what is ranked nowhere in the front is ranked by the back
pub rank_behind : (xs ys : List ℕ) (x : ℕ) → rank_in xs x ≡ None → rank_in (xs ++ ys) x ≡ option_map (λ k. length xs + k) (rank_in ys x)
rank_behind [] ys x e = at (rank_in ys x)
  where
    at : (o : Option ℕ) → o ≡ option_map (λ k. length {A = ℕ} [] + k) o
    at None = refl
    at (Some k) = let z : k ≡ length {A = ℕ} [] + k = omega arith in ap Some z
rank_behind (y ∷ xs) ys x e = elim (ℕ_discrete x y) [
  | yes p ↦ absurd (not_some_none (rank_first x y xs p) e)
  | no ne ↦
      rank_later x y (xs ++ ys) ne
      ∙ ap (option_map suc) (rank_behind xs ys x (mapped_none suc (rank_in xs x) (sym (rank_later x y xs ne) ∙ e)))
      ∙ at (rank_in ys x)
]
  where
    at : (o : Option ℕ) → option_map suc (option_map (λ k. length xs + k) o) ≡ option_map (λ k. length (y ∷ xs) + k) o
    at None = refl
    at (Some k) = let z : suc (length xs + k) ≡ length (y ∷ xs) + k = omega arith in ap Some z

-- one number more at the end
pub rank_push : (xs : List ℕ) (x : ℕ) → rank_in xs x ≡ None → rank_in (xs ++ x ∷ []) x ≡ Some (suc (length xs))
rank_push xs x e =
    let z : length xs + 1 ≡ suc (length xs) = omega arith in
    rank_behind xs (x ∷ []) x e ∙ ap (option_map (λ k. length xs + k)) (rank_first x x [] refl) ∙ ap Some z

pub rank_push_other : (xs : List ℕ) (x y : ℕ) → x ≢ y → rank_in (xs ++ y ∷ []) x ≡ rank_in xs x
rank_push_other xs x y ne = elim (some_or_none (rank_in xs x)) [
  | inl (k, e) ↦ rank_append xs (y ∷ []) x k e ∙ sym e
  | inr e ↦ rank_behind xs (y ∷ []) x e ∙ ap (option_map (λ k. length xs + k)) (rank_later x y [] ne) ∙ sym e
]

-- no number stands twice
abbrev pub NoRepeat : List ℕ → Type 0
NoRepeat [] = Unit {0}
NoRepeat (x ∷ xs) = (rank_in xs x ≡ None) × NoRepeat xs

pub norepeat_push : (xs : List ℕ) (x : ℕ) → NoRepeat xs → rank_in xs x ≡ None → NoRepeat (xs ++ x ∷ [])
norepeat_push [] x h e = (refl, tt)
norepeat_push (y ∷ xs) x h e = elim (ℕ_discrete x y) [
  | yes p ↦ absurd (not_some_none (rank_first x y xs p) e)
  | no ne ↦ (
    rank_push_other xs y x (λ q. ne (sym q)) ∙ h.0,
    norepeat_push xs x h.1 (mapped_none suc (rank_in xs x) (sym (rank_later x y xs ne) ∙ e)),
  )
]

-- so each place is its number's rank
pub norepeat_rank : (xs : List ℕ) → NoRepeat xs → (k : ℕ) → 1 ≤ k → k ≤ length xs → rank_in xs (nth xs k 0) ≡ Some k
norepeat_rank xs h zero lo hi = absurd (omega arith)
norepeat_rank [] h (suc k) lo hi = absurd (omega arith)
norepeat_rank (y ∷ ys) h (suc zero) lo hi = rank_first y y ys refl
norepeat_rank (y ∷ ys) h (suc (suc k)) lo hi =
    let r = norepeat_rank ys h.1 (suc k) (omega arith) (omega arith) in
    rank_later (nth ys (suc k) 0) y ys (λ q. not_some_none (rw q at r) h.0) ∙ ap (option_map suc) r

pub norepeat_from : (xs : List ℕ) → ((j k : ℕ) → 1 ≤ j → j < k → k ≤ length xs → nth xs j 0 ≢ nth xs k 0) → NoRepeat xs
norepeat_from [] f = tt
norepeat_from (x ∷ xs) f = (
  elim (some_or_none (rank_in xs x)) [
    | inl (k, e) ↦ absurd (twice k (rank_place xs x k e))
    | inr e ↦ e
  ],
  norepeat_from xs (λ j k lo lt hi. tail j k lo lt hi (f (suc j) (suc k) (omega arith) (omega arith) (omega arith))),
)
  where
    twice : (k : ℕ) → (1 ≤ k) × (k ≤ length xs) × (nth xs k 0 ≡ x) → ⊥
    twice zero h = omega arith
    twice (suc k) h = f 1 (suc (suc k)) (omega arith) (omega arith) (omega arith) (sym h.2)

    tail : (j k : ℕ) → 1 ≤ j → j < k → k ≤ length xs → nth (x ∷ xs) (suc j) 0 ≢ nth (x ∷ xs) (suc k) 0 → nth xs j 0 ≢ nth xs k 0
    tail zero k lo lt hi h = absurd (omega arith)
    tail (suc j) zero lo lt hi h = absurd (omega arith)
    tail (suc j) (suc k) lo lt hi h = h

-- what has a rank is a member, and the other way round
pub rank_member : (xs : List ℕ) (x k : ℕ) → rank_in xs x ≡ Some k → Member x xs
rank_member xs x k e = let (lo, hi, q) = rank_place xs x k e in rw q at (member_nth xs k lo hi)

pub member_rank : (xs : List ℕ) (x : ℕ) → Member x xs → (k : ℕ) × (rank_in xs x ≡ Some k)
member_rank [] x m = absurd m
member_rank (y ∷ ys) x m = elim (ℕ_discrete x y) [
  | yes e ↦ (1, rank_first x y ys e)
  | no ne ↦ elim m [
    | inl e ↦ absurd (ne e)
    | inr n ↦ let (k, e) = member_rank ys x n in (suc k, rank_later x y ys ne ∙ ap (option_map suc) e)
  ]
]
