-- A row in which the numbers of a list are marked, as links are closed in a setting; and so how long a list without repeats can be.
use Rattle.std.proofs.Common.{◌≡◌, ℕ, zero, suc, ◌+◌, ◌<◌, ◌≤◌, Bool, true, false, cond, ◌⊎◌, List, [], ◌∷◌, length, replicate, Some, None, fold, sym, refl, ap, ◌∙◌, inl, inr, arith}
use native.Mathlib.Decide.{ℕ_discrete}
use Rattle.std.specs.Option.{option_map}
use Rattle.std.specs.List.{AllByRecursion}
use Rattle.std.proofs.lemmas.List.{length-replicate}
use Rattle.std.proofs.lemmas.List.Sums.{sum_by-cons, count_by-le-length}
use Rattle.std.proofs.ByRecursion.{All-weaker}
use Rattle.net.specs.Nets.{nth}
use Rattle.net.specs.Settings.{Setting, Closed, closing, closed_links}
use Rattle.net.proofs.Numbered.{nth_put_other, length_put}
use Rattle.net.proofs.Settings.{closed_or_open, not_both, closing_closes, closing_keeps, closing_only, count_closing}
use Rattle.survey.specs.Ranks.{rank_in}
use Rattle.survey.proofs.Ranked.{some_or_none, not_some_none, rank_first, rank_later, mapped_some, mapped_none, NoRepeat}

abbrev pub marked : Setting → List ℕ → Setting
marked T ls = fold closing T ls

pub length_marked : (T : Setting) (ls : List ℕ) → length (marked T ls) ≡ length T
length_marked T [] = refl
length_marked T (l ∷ ls) = length_marked (closing T l) ls ∙ length_put T l true

pub marked_keeps : (T : Setting) (ls : List ℕ) (x : ℕ) → Closed T x → Closed (marked T ls) x
marked_keeps T [] x h = h
marked_keeps T (l ∷ ls) x h = marked_keeps (closing T l) ls x (closing_keeps T l x h)

pub marked_in : (T : Setting) (ls : List ℕ) (x k : ℕ) → 1 ≤ x → x ≤ length T → rank_in ls x ≡ Some k → Closed (marked T ls) x
marked_in T [] x k lo hi e = absurd (not_some_none e refl)
marked_in T (l ∷ ls) x k lo hi e = elim (ℕ_discrete x l) [
  | yes p ↦ marked_keeps (closing T l) ls x (rw p (closing_closes T l (rw p at lo) (rw p at hi)))
  | no ne ↦
      let (j, r, _) = mapped_some suc (rank_in ls x) (sym (rank_later x l ls ne) ∙ e) in
      marked_in (closing T l) ls x j lo (rw (length_put T l true) hi) r
]

pub marked_only : (T : Setting) (ls : List ℕ) (x : ℕ) → Closed (marked T ls) x → Closed T x ⊎ ((k : ℕ) × (rank_in ls x ≡ Some k))
marked_only T [] x h = inl h
marked_only T (l ∷ ls) x h = elim (ℕ_discrete x l) [
  | yes p ↦ inr (1, rank_first x l ls p)
  | no ne ↦ elim (marked_only (closing T l) ls x h) [
    | inl c ↦ inl (closing_only T l x c ne)
    | inr (k, e) ↦ inr (suc k, rank_later x l ls ne ∙ ap (option_map suc) e)
  ]
]

-- x is a number of the row, not marked yet
pub record Unmarked (T : Setting) (x : ℕ) : Type 0 where
  pub low : 1 ≤ x
  pub high : x ≤ length T
  pub unmarked : nth T x false ≡ false

-- numbers without repeats mark as many places
pub count_marked : (T : Setting) (ls : List ℕ) → NoRepeat ls → AllByRecursion (Unmarked T) ls → closed_links (marked T ls) ≡ closed_links T + length ls
count_marked T [] n u = omega arith
count_marked T (l ∷ ls) n u =
    let c = count_closing T l u.0.low u.0.high u.0.unmarked in
    omega (arith, count_marked (closing T l) ls n.1 (still ls n.0 u.1))
  where
    still : (xs : List ℕ) → rank_in xs l ≡ None → AllByRecursion (Unmarked T) xs → AllByRecursion (Unmarked (closing T l)) xs
    still [] r h = tt
    still (x ∷ xs) r h = elim (ℕ_discrete l x) [
      | yes p ↦ absurd (not_some_none (rank_first l x xs p) r)
      | no ne ↦ (
        record {
          low = h.0.low;
          high = rw (length_put T l true) h.0.high;
          unmarked = nth_put_other T l x true false (λ q. ne (sym q)) ∙ h.0.unmarked;
        },
        still xs (mapped_none suc (rank_in xs l) (sym (rank_later l x xs ne) ∙ r)) h.1,
      )
    ]

pub none_closed : (n : ℕ) → closed_links (replicate n false) ≡ 0
none_closed zero = refl
none_closed (suc n) = sum_by-cons (λ c. cond c 1 0) false (replicate n false) ∙ omega (arith, none_closed n)

pub open_everywhere : (n x : ℕ) → nth (replicate n false) x false ≡ false
open_everywhere n zero = refl
open_everywhere zero (suc x) = refl
open_everywhere (suc n) (suc zero) = refl
open_everywhere (suc n) (suc (suc x)) = open_everywhere n (suc x)

pub all_counted : (T : Setting) → ((x : ℕ) → 1 ≤ x → x ≤ length T → Closed T x) → closed_links T ≡ length T
all_counted [] f = refl
all_counted (c ∷ T) f =
    let h : c ≡ true = f 1 (omega arith) (omega arith) in
    let s : closed_links (c ∷ T) ≡ cond c 1 0 + closed_links T = sum_by-cons (λ c. cond c 1 0) c T in
    let r = all_counted T (λ x lo hi. tail x lo hi (f (suc x) (omega arith) (omega arith))) in
    let s' : closed_links (c ∷ T) ≡ 1 + closed_links T = s ∙ ap (λ b. cond b 1 0 + closed_links T) h in
    omega arith
  where
    tail : (x : ℕ) → 1 ≤ x → x ≤ length T → Closed (c ∷ T) (suc x) → Closed T x
    tail zero lo hi h = absurd (omega arith)
    tail (suc x) lo hi h = h

-- a number of 1 to n
abbrev pub Within : ℕ → ℕ → Type 0
Within n x = (1 ≤ x) × (x ≤ n)

module _ (n : ℕ) (ls : List ℕ) (once : NoRepeat ls) (within : AllByRecursion (Within n) ls) where
  pub row_count : closed_links (marked (replicate n false) ls) ≡ length ls
  row_count =
      let all = All-weaker (Within n) (Unmarked (replicate n false)) (λ x h. record {
        low = h.0;
        high = rw (length-replicate n false) h.1;
        unmarked = open_everywhere n x;
      }) ls within in
      omega (arith, count_marked (replicate n false) ls once all, none_closed n)

  row_length : length (marked (replicate n false) ls) ≡ n
  row_length = length_marked (replicate n false) ls ∙ length-replicate n false

  -- a list without repeats of numbers 1 to n has at most n
  pub norepeat_fits : length ls ≤ n
  norepeat_fits = omega (arith, row_count, row_length, count_by-le-length (λ (c : Bool). c) (marked (replicate n false) ls))

  -- and fewer where one is missing
  pub missing_fits : (x : ℕ) → Within n x → rank_in ls x ≡ None → length ls < n
  missing_fits x w e = omega (
    arith,
    row_count,
    row_length,
    count_closing (marked (replicate n false) ls) x w.0 (rw row_length w.1) unmarked,
    count_by-le-length (λ (c : Bool). c) (closing (marked (replicate n false) ls) x),
    length_put (marked (replicate n false) ls) x true,
  )
    where
      unmarked : nth (marked (replicate n false) ls) x false ≡ false
      unmarked = elim (closed_or_open (nth (marked (replicate n false) ls) x false)) [
        | inr o ↦ o
        | inl c ↦ elim (marked_only (replicate n false) ls x c) [
          | inl h ↦ absurd (not_both h (open_everywhere n x))
          | inr (k, s) ↦ absurd (not_some_none s e)
        ]
      ]

  -- so where there are n, none is missing
  pub full_ranks : length ls ≡ n → (x : ℕ) → Within n x → (k : ℕ) × (rank_in ls x ≡ Some k)
  full_ranks full x w = elim (some_or_none (rank_in ls x)) [
    | inl p ↦ p
    | inr e ↦ let h = missing_fits x w e in absurd (omega arith)
  ]

  -- and where none is missing, there are n
  pub ranks_full : ((x : ℕ) → Within n x → (k : ℕ) × (rank_in ls x ≡ Some k)) → length ls ≡ n
  ranks_full f = omega (
    arith,
    row_count,
    row_length,
    all_counted (marked (replicate n false) ls) (λ x lo hi.
        let xn : x ≤ n = omega (arith, row_length) in
        let (k, e) = f x (lo, xn) in
        marked_in (replicate n false) ls x k lo (rw (length-replicate n false) xn) e),
  )
