-- One call more of a run, and the law of the whole run.
use Rattle.std.proofs.Common.{◌≡◌, ℕ, zero, suc, ◌+◌, ◌-◌, ◌<◌, ◌≤◌, List, [], ◌∷◌, ◌++◌, length, get_or, take, drop, set, sym, refl, ap, ◌∙◌, subst, zero-add, arith}
use Rattle.std.proofs.lemmas.List.{take_all, take_more, take_more_set, drop-drop, drop-set-lt, get_or-drop, length-drop, length-take-le}
use Rattle.net.specs.Nets.{Net}
use Rattle.net.specs.Limits.{WithinLimits}
use Rattle.survey.specs.Surveys.{AllReached}
use Rattle.trees.specs.Listings.{Exchanged, listing}
use Rattle.walk.specs.Calls.{handed_on}
use Rattle.walk.proofs.Prefixes.{told_unbroken, told_complete}
use Rattle.runs.specs.declared.calls.Call.{Call}
use Rattle.runs.specs.Runs.{Answered, Ran, then, Lawful}
use Rattle.runs.proofs.Made.{stretch}

take_none : {A : Type 0} (n : ℕ) → take {A = A} n [] ≡ []
take_none zero = refl
take_none (suc n) = refl

-- a beginning, and a stretch more
take_add : {A : Type 0} (n k : ℕ) (xs : List A) → take (n + k) xs ≡ take n xs ++ take k (drop n xs)
take_add zero k xs = ap (λ m. take m xs) (zero-add k)
take_add (suc n) k [] = take_none (suc n + k) ∙ sym (take_none k)
take_add (suc n) k (x ∷ xs) = let e : suc n + k ≡ suc (n + k) = omega arith in rw e (ap (λ ys. x ∷ ys) (take_add n k xs))

handed_more : (net : Net) (n n' : ℕ) → n ≤ n' → handed_on net n ++ stretch net n n' ≡ handed_on net n'
handed_more net n n' h = let e : n + (n' - n) ≡ n' = omega arith in sym (take_add n (n' - n) (listing net)) ∙ ap (handed_on net) e

-- the calls that were not made yet
pub rest_more : {A : Type 0} (before now : List A) (i : ℕ) (x : A) → drop i now ≡ drop i before → drop (i + 1) (set now i x) ≡ drop (i + 1) before
rest_more before now i x e =
    drop-set-lt (i + 1) now i x (omega arith) ∙ sym (drop-drop 1 i now) ∙ ap (drop 1) e ∙ drop-drop 1 i before

module _ {C Sum : Type 0} (sum : C → Sum) (spare : C → ℕ) (rule : Sum → Exchanged → Sum) (net : Net) where
  pub ran_more : (n n' i : ℕ) (before now : List (Call C)) (d answer : Call C) → n ≤ n' → i < length now → drop i now ≡ drop i before
      → Ran sum spare rule net (take i before) (take i now) (handed_on net n) → Answered sum spare rule net (handed_on net n) (get_or now i d) answer (stretch net n n')
      → Ran sum spare rule net (take (i + 1) before) (take (i + 1) (set now i answer)) (handed_on net n')
  ran_more n n' i before now d answer le lt rest ran answered =
      subst (Ran sum spare rule net (take (i + 1) before) (take (i + 1) (set now i answer))) (handed_more net n n' le)
      (subst (λ cs. Ran sum spare rule net cs (take (i + 1) (set now i answer)) (handed_on net n ++ stretch net n n')) (sym made)
      (subst (λ cs. Ran sum spare rule net (take i before ++ (get_or now i d ∷ [])) cs (handed_on net n ++ stretch net n n')) (sym (take_more_set now i answer lt)) (then ran answered)))
    where
      same : get_or before i d ≡ get_or now i d
      same =
          let z : i + 0 ≡ i = omega arith in
          ap (λ k. get_or before k d) (sym z) ∙ sym (get_or-drop i before 0 d) ∙ ap (λ cs. get_or cs 0 d) (sym rest) ∙ get_or-drop i now 0 d ∙ ap (λ k. get_or now k d) z

      made : take (i + 1) before ≡ take i before ++ (get_or now i d ∷ [])
      made = take_more before i d (omega (arith, ap length rest, length-drop i now, length-drop i before, lt)) ∙ ap (λ c. take i before ++ (c ∷ [])) same

  -- all calls were made
  pub ran_all : WithinLimits net → AllReached net → (n i : ℕ) (before now : List (Call C)) → n ≤ length (listing net) → length before ≤ i → length now ≤ i
      → Ran sum spare rule net (take i before) (take i now) (handed_on net n) → Lawful sum spare rule net before now
  ran_all fit all n i before now fits h k ran =
      let long = length-take-le n (listing net) fits in
      record {
        handed = handed_on net n;
        ran = subst (λ cs. Ran sum spare rule net cs now (handed_on net n)) (take_all i before h) (subst (λ cs. Ran sum spare rule net (take i before) cs (handed_on net n)) (take_all i now k) ran);
        first_ones = ap (handed_on net) (sym long);
        unbroken = told_unbroken net fit all n;
        complete = λ e. told_complete net fit all n (omega (arith, ap length e, long));
      }
