-- How the ranking of links is filled, link by link.
use Rattle.std.proofs.Common.{◌≡◌, ℕ, zero, suc, ◌+◌, ◌-◌, ◌<◌, ◌≤◌, Bool, true, false, cond, not, ◌&&◌, eqb, List, [], ◌∷◌, ◌++◌, length, get_or, take, is_some, None, filter, sym, refl, ap, ◌∙◌, inl, inr, append_assoc, append-nil, arith}
use native.Mathlib.Decide.{ℕ_discrete}
use Rattle.std.specs.List.{range_with_len, flat_map}
use Rattle.std.proofs.lemmas.List.{length-take-le, get_or-take}
use Rattle.std.proofs.lemmas.List.Elements.{filter-append}
use Rattle.std.proofs.lemmas.Bool.{ne_eqb}
use Rattle.net.specs.Nets.{nth, Net, ends_of}
use Rattle.net.specs.Members.{Member}
use Rattle.net.proofs.Members.{member_append, member_joined, member_kept, member_counting}
use Rattle.survey.specs.Ranks.{rank_in}
use Rattle.survey.specs.Visits.{Tour}
use Rattle.survey.specs.Surveys.{lower_rank_of, others_at}
use Rattle.survey.proofs.Ranked.{some_or_none, not_some_none, same_some, rank_place, rank_append, rank_member, member_rank, NoRepeat, norepeat_rank}
use Rattle.survey.proofs.Others.{ranks_at, lower_kept}
use Rattle.survey.proofs.Steps.{counting_push}

-- the next number of a list without repeats is not among those before it
pub next_fresh : (xs : List ℕ) (k : ℕ) → NoRepeat xs → k < length xs → rank_in (take k xs) (get_or xs k 0) ≡ None
next_fresh xs k once lt = elim (some_or_none (rank_in (take k xs) (get_or xs k 0))) [
  | inr e ↦ e
  | inl (j, e) ↦ absurd (twice j (rank_place (take k xs) (get_or xs k 0) j e))
]
  where
    twice : (j : ℕ) → (1 ≤ j) × (j ≤ length (take k xs)) × (nth (take k xs) j 0 ≡ get_or xs k 0) → ⊥
    twice zero h = omega arith
    twice (suc j) (lo, hi, e) =
        let hk : suc j ≤ k = omega (arith, length-take-le k xs (omega arith)) in
        let same : nth xs (suc j) 0 ≡ nth xs (suc k) 0 = sym (get_or-take k xs j 0 (omega arith)) ∙ e in
        let rj = norepeat_rank xs once (suc j) (omega arith) (omega arith) in
        let rk = norepeat_rank xs once (suc k) (omega arith) (omega arith) in
        let z : suc j ≡ suc k = same_some (rw same at rj) rk in
        omega arith

-- one number more under a filter, and in a joined list
pub kept_more : (p : ℕ → Bool) (k n : ℕ) → 1 ≤ k → k ≡ n → filter p (range_with_len 1 n) ≡ filter p (range_with_len 1 (k - 1)) ++ cond (p k) (k ∷ []) []
kept_more p zero n lo e = absurd (omega arith)
kept_more p (suc k) n lo e =
    let z : n ≡ suc k = omega arith in
    let y : k ≡ suc k - 1 = omega arith in
    let x : 1 + k ≡ suc k = omega arith in
    ap (λ m. filter p (range_with_len 1 m)) z ∙ ap (filter p) (counting_push 1 k ∙ ap (λ m. range_with_len 1 k ++ m ∷ []) x)
    ∙ filter-append p (range_with_len 1 k) (suc k ∷ []) ∙ ap (λ m. filter p (range_with_len 1 m) ++ cond (p (suc k)) (suc k ∷ []) []) y

joined_append : {A B : Type 0} (f : A → List B) (xs ys : List A) → flat_map f (xs ++ ys) ≡ flat_map f xs ++ flat_map f ys
joined_append f [] ys = refl
joined_append f (x ∷ xs) ys = ap (λ l. f x ++ l) (joined_append f xs ys) ∙ sym (append_assoc (f x) (flat_map f xs) (flat_map f ys))

pub joined_more : (f : ℕ → List ℕ) (k n : ℕ) → 1 ≤ k → k ≡ n → flat_map f (range_with_len 1 n) ≡ flat_map f (range_with_len 1 (k - 1)) ++ f k
joined_more f zero n lo e = absurd (omega arith)
joined_more f (suc k) n lo e =
    let z : n ≡ suc k = omega arith in
    let y : k ≡ suc k - 1 = omega arith in
    let x : 1 + k ≡ suc k = omega arith in
    ap (λ m. flat_map f (range_with_len 1 m)) z ∙ ap (flat_map f) (counting_push 1 k ∙ ap (λ m. range_with_len 1 k ++ m ∷ []) x)
    ∙ joined_append f (range_with_len 1 k) (suc k ∷ []) ∙ ap (λ l. flat_map f (range_with_len 1 k) ++ l) (append-nil (f (suc k)))
    ∙ ap (λ m. flat_map f (range_with_len 1 m) ++ f (suc k)) y

module _ (net : Net) (t : Tour) (k l n : ℕ) (l1 : 1 ≤ l) (same : l ≡ n) where
  -- the links that are ranked when link l is asked for lower rank k
  abbrev so_far : List ℕ
  so_far = (t.starts ++ flat_map (others_at net t) (range_with_len 1 (k - 1))) ++ filter (ranks_at net t k) (range_with_len 1 (l - 1))

  -- of lower rank k, only a start link is ranked already
  only_starts : lower_rank_of t.order (ends_of net l) ≡ k → rank_in t.starts l ≡ None → rank_in so_far l ≡ None
  only_starts low new = elim (some_or_none (rank_in so_far l)) [
    | inr e ↦ e
    | inl (j, e) ↦ absurd (nowhere (rank_member so_far l j e))
  ]
    where
      others : Member l (flat_map (others_at net t) (range_with_len 1 (k - 1))) → ⊥
      others m =
          let (i, mi, ml) = member_joined (others_at net t) l (range_with_len 1 (k - 1)) m in
          let hi = member_counting 1 (k - 1) i mi in
          omega (arith, lower_kept net t i l ml)

      nowhere : Member l so_far → ⊥
      nowhere m = elim (member_append l (t.starts ++ flat_map (others_at net t) (range_with_len 1 (k - 1))) (filter (ranks_at net t k) (range_with_len 1 (l - 1))) m) [
        | inr p ↦ let h = member_counting 1 (l - 1) l (member_kept (ranks_at net t k) l (range_with_len 1 (l - 1)) p).0 in omega arith
        | inl p ↦ elim (member_append l t.starts (flat_map (others_at net t) (range_with_len 1 (k - 1))) p) [
          | inl q ↦ let (j, e) = member_rank t.starts l q in not_some_none e new
          | inr q ↦ others q
        ]
      ]

  -- so the test by what is ranked is the test by start links
  same_test : eqb (lower_rank_of t.order (ends_of net l)) k && not (is_some (rank_in so_far l)) ≡ ranks_at net t k l
  same_test = elim (ℕ_discrete (lower_rank_of t.order (ends_of net l)) k) [
    | no ne ↦
        let e = ne_eqb (lower_rank_of t.order (ends_of net l)) k ne in
        ap (λ b. b && not (is_some (rank_in so_far l))) e ∙ sym (ap (λ b. b && not (is_some (rank_in t.starts l))) e)
    | yes low ↦ elim (some_or_none (rank_in t.starts l)) [
      | inr new ↦ ap (λ o. eqb (lower_rank_of t.order (ends_of net l)) k && not (is_some o)) (only_starts low new ∙ sym new)
      | inl (j, e) ↦
          let f = rank_append t.starts (flat_map (others_at net t) (range_with_len 1 (k - 1))) l j e in
          let h = rank_append (t.starts ++ flat_map (others_at net t) (range_with_len 1 (k - 1))) (filter (ranks_at net t k) (range_with_len 1 (l - 1))) l j f in
          ap (λ o. eqb (lower_rank_of t.order (ends_of net l)) k && not (is_some o)) (h ∙ sym e)
    ]
  ]

  -- one link more
  pub rank_more : (xs ys : List ℕ) → xs ≡ so_far
      → ys ≡ cond (eqb (lower_rank_of t.order (ends_of net l)) k && not (is_some (rank_in xs l))) (xs ++ l ∷ []) xs
      → ys ≡ (t.starts ++ flat_map (others_at net t) (range_with_len 1 (k - 1))) ++ filter (ranks_at net t k) (range_with_len 1 n)
  rank_more xs ys e f =
      f ∙ ap (λ zs. cond (eqb (lower_rank_of t.order (ends_of net l)) k && not (is_some (rank_in zs l))) (zs ++ l ∷ []) zs) e
      ∙ ap (λ b. cond b (so_far ++ l ∷ []) so_far) same_test ∙ by (ranks_at net t k l)
      ∙ append_assoc (t.starts ++ flat_map (others_at net t) (range_with_len 1 (k - 1))) (filter (ranks_at net t k) (range_with_len 1 (l - 1))) (cond (ranks_at net t k l) (l ∷ []) [])
      ∙ ap (λ zs. (t.starts ++ flat_map (others_at net t) (range_with_len 1 (k - 1))) ++ zs) (sym (kept_more (ranks_at net t k) l n l1 same))
    where
      by : (b : Bool) → cond b (so_far ++ l ∷ []) so_far ≡ so_far ++ cond b (l ∷ []) []
      by true = refl
      by false = sym (append-nil so_far)
