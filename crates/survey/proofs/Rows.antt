-- The tables of a ranking: its numbers, and their ranks.
use Rattle.std.proofs.Common.{◌≡◌, ℕ, zero, suc, ◌+◌, ◌-◌, ◌<◌, ◌≤◌, true, not, ◌&&◌, leb, List, [], ◌∷◌, ◌++◌, map, length, get_or, take, set, replicate, is_some, Some, None, Option, sym, refl, ap, ◌∙◌, inl, inr, arith, slice_get}
use native.Mathlib.Decide.{ℕ_discrete}
use Rattle.std.specs.List.{AllByRecursion}
use Rattle.std.proofs.lemmas.List.{length-set, length-take-le, length-map, map-append, get_or-set_same, get_or-set_other, ext_get_or, length-replicate, get_or-replicate, take_more_set}
use Rattle.std.proofs.lemmas.List.FromFn.{length-map-range_with_len, get_or-map-range_with_len}
use Rattle.std.proofs.lemmas.Bool.{and_parts, and_from, leb-true, le-leb}
use Rattle.net.specs.Nets.{nth}
use Rattle.net.proofs.Numbered.{nth_append_left}
use Rattle.survey.specs.declared.ranking.Ranking.{Ranking}
use Rattle.survey.specs.Listed.{listed}
use Rattle.survey.specs.Ranks.{rank_in, number_at_rank, rank_table, in_range, distinct}
use Rattle.survey.proofs.Ranked.{some_or_none, rank_place, rank_push, rank_push_other, NoRepeat, norepeat_push}
use Rattle.survey.proofs.Marked.{Within, missing_fits}

-- the two tests say what they test
pub range_within : (n : ℕ) (xs : List ℕ) → in_range n xs ≡ true → AllByRecursion (Within n) xs
range_within n [] h = tt
range_within n (x ∷ xs) h =
    let (p, q) = and_parts (leb 1 x && leb x n) (in_range n xs) h in
    let (u, v) = and_parts (leb 1 x) (leb x n) p in
    ((leb-true 1 x u, leb-true x n v), range_within n xs q)

pub range_push : (n : ℕ) (xs : List ℕ) (x : ℕ) → in_range n xs ≡ true → Within n x → in_range n (xs ++ x ∷ []) ≡ true
range_push n [] x h (lo, hi) = and_from (leb 1 x && leb x n) true (and_from (leb 1 x) (leb x n) (le-leb 1 x lo) (le-leb x n hi)) refl
range_push n (y ∷ xs) x h w =
    let (p, q) = and_parts (leb 1 y && leb y n) (in_range n xs) h in
    and_from (leb 1 y && leb y n) (in_range n (xs ++ x ∷ [])) p (range_push n xs x q w)

none_of : (o : Option ℕ) → not (is_some o) ≡ true → o ≡ None
none_of None e = refl
none_of (Some k) e = let z : ◌≡◌ {A = ℕ} 0 1 = cc in absurd (omega arith)

pub distinct_once : (xs : List ℕ) → distinct xs ≡ true → NoRepeat xs
distinct_once [] h = tt
distinct_once (x ∷ xs) h =
    let (p, q) = and_parts (not (is_some (rank_in xs x))) (distinct xs) h in
    (none_of (rank_in xs x) p, distinct_once xs q)

pub once_distinct : (xs : List ℕ) → NoRepeat xs → distinct xs ≡ true
once_distinct [] h = refl
once_distinct (x ∷ xs) h =
    and_from (not (is_some (rank_in xs x))) (distinct xs) (ap (λ o. not (is_some o)) h.0) (once_distinct xs h.1)

-- a number out of range has no rank
pub outside_rank : (n : ℕ) (xs : List ℕ) (x : ℕ) → in_range n xs ≡ true → ¬ Within n x → rank_in xs x ≡ None
outside_rank n xs x h out = elim (some_or_none (rank_in xs x)) [
  | inl (k, e) ↦ absurd (out (within xs k (range_within n xs h) (rank_place xs x k e)))
  | inr e ↦ e
]
  where
    within : (ys : List ℕ) (k : ℕ) → AllByRecursion (Within n) ys → (1 ≤ k) × (k ≤ length ys) × (nth ys k 0 ≡ x) → Within n x
    within [] k w p = absurd (omega arith)
    within (y ∷ ys) zero w p = absurd (omega arith)
    within (y ∷ ys) (suc zero) w (lo, hi, e) = rw e at w.0
    within (y ∷ ys) (suc (suc k)) w (lo, hi, e) = within ys (suc k) w.1 (omega arith, omega arith, e)

-- the table
pub length_table : (n : ℕ) (xs : List ℕ) → length (rank_table n xs) ≡ n
length_table n xs = length-map-range_with_len (rank_in xs) 1 n

pub table_none : (n : ℕ) → replicate n None ≡ rank_table n []
table_none n = ext_get_or None (replicate n None) (rank_table n []) (length-replicate n None ∙ sym (length_table n []))
    (λ i h.
    let lt : i < n = omega (arith, length-replicate {A = Option ℕ} n None) in
    get_or-replicate n i None None lt ∙ sym (get_or-map-range_with_len (rank_in []) 1 n i (1 + i) None lt refl))

pub table_read : (n : ℕ) (xs : List ℕ) (x : ℕ) → Within n x → get_or (rank_table n xs) (x - 1) None ≡ rank_in xs x
table_read n xs x w = get_or-map-range_with_len (rank_in xs) 1 n (x - 1) x None (omega arith) (omega arith)

pub table_push : (n : ℕ) (xs : List ℕ) (x k : ℕ) → Within n x → rank_in xs x ≡ None → length xs ≡ k
    → set (rank_table n xs) (x - 1) (Some (k + 1)) ≡ rank_table n (xs ++ x ∷ [])
table_push n xs x k w new e =
    ext_get_or None (set (rank_table n xs) (x - 1) (Some (k + 1))) (rank_table n (xs ++ x ∷ []))
    (length-set (rank_table n xs) (x - 1) (Some (k + 1)) ∙ length_table n xs ∙ sym (length_table n (xs ++ x ∷ [])))
    (λ i h. by i (rw (length-set (rank_table n xs) (x - 1) (Some (k + 1)), length_table n xs) at h))
  where
    by : (i : ℕ) → i < n → get_or (set (rank_table n xs) (x - 1) (Some (k + 1))) i None ≡ get_or (rank_table n (xs ++ x ∷ [])) i None
    by i lt = elim (ℕ_discrete i (x - 1)) [
      | yes p ↦
          let z : suc (length xs) ≡ k + 1 = omega arith in
          rw p (get_or-set_same (rank_table n xs) (x - 1) (Some (k + 1)) None (rw (length_table n xs) (omega arith))
          ∙ sym (table_read n (xs ++ x ∷ []) x w ∙ rank_push xs x new ∙ ap Some z))
      | no ne ↦
          get_or-set_other (rank_table n xs) (x - 1) i (Some (k + 1)) None ne
          ∙ get_or-map-range_with_len (rank_in xs) 1 n i (suc i) None lt (omega arith)
          ∙ sym (rank_push_other xs (suc i) x (omega arith))
          ∙ sym (get_or-map-range_with_len (rank_in (xs ++ x ∷ [])) 1 n i (suc i) None lt (omega arith))
    ]

-- what stands in the table at a place: the rank of the number one above; past its end stands no rank
module _ (n : ℕ) (xs : List ℕ) (ranks : List (Option ℕ)) (k x : ℕ) (tied : ranks ≡ rank_table n xs) (next : k + 1 ≡ x) where
  long_table : length ranks ≡ n
  long_table = ap length tied ∙ length_table n xs

  pub rank_past : in_range n xs ≡ true → length ranks ≤ k → rank_in xs x ≡ None
  rank_past h past = outside_rank n xs x h (λ w. omega (arith, long_table))

  pub rank_read : k < length ranks → get_or ranks k None ≡ rank_in xs x
  rank_read lt =
      let z : k ≡ x - 1 = omega arith in
      ap (λ r. get_or r k None) tied ∙ ap (λ j. get_or (rank_table n xs) j None) z ∙ table_read n xs x (omega arith, omega (arith, long_table))

-- the number of a rank
pub number_placed : (xs : List ℕ) (k : ℕ) → slice_get xs k ≡ number_at_rank xs (suc k)
number_placed [] k = refl
number_placed (x ∷ xs) zero = refl
number_placed (x ∷ xs) (suc k) = number_placed xs k

pub length_listed : {N : ℕ} (r : Ranking N) → length (listed r) ≡ r.count
length_listed r = length-take-le r.count r.items (omega arith)

-- one number more in a ranking
module _ {N : ℕ} (r : Ranking N) (x : ℕ) (w : Within N x) (new : rank_in (listed r) x ≡ None) where
  pub add_room : r.count < N
  add_room = omega (arith, length_listed r, missing_fits N (listed r) (distinct_once (listed r) r.once) (range_within N (listed r) r.inside) x w new)

  pub add_last : take (r.count + 1) (set r.items r.count x) ≡ listed r ++ x ∷ []
  add_last = take_more_set r.items r.count x (omega (arith, add_room))

  pub add_inside : in_range N (take (r.count + 1) (set r.items r.count x)) ≡ true
  add_inside = rw add_last (range_push N (listed r) x r.inside w)

  pub add_once : distinct (take (r.count + 1) (set r.items r.count x)) ≡ true
  add_once = rw add_last (once_distinct (listed r ++ x ∷ []) (norepeat_push (listed r) x (distinct_once (listed r) r.once) new))

  pub add_tied : set r.ranks (x - 1) (Some (r.count + 1)) ≡ rank_table N (take (r.count + 1) (set r.items r.count x))
  add_tied = rw (add_last, r.tied) (table_push N (listed r) x r.count w new (length_listed r))

pub within_range : (m n : ℕ) (xs : List ℕ) → m ≤ n → AllByRecursion (Within m) xs → in_range n xs ≡ true
within_range m n [] le h = refl
within_range m n (x ∷ xs) le ((lo, hi), h) =
    and_from (leb 1 x && leb x n) (in_range n xs) (and_from (leb 1 x) (leb x n) (le-leb 1 x lo) (le-leb x n (omega arith))) (within_range m n xs le h)

pub at_rank_front : (xs ys : List ℕ) (k : ℕ) → k ≤ length xs → number_at_rank (xs ++ ys) k ≡ number_at_rank xs k
at_rank_front xs ys k h =
    ap (λ zs. nth zs k None) (map-append Some xs ys) ∙ nth_append_left (map Some xs) (map Some ys) k None (rw (length-map xs Some) h)
