-- One exchange more of the listing: what was handed on, the setting reached and the settings told.
use Rattle.std.proofs.Common.{◌≡◌, ℕ, zero, suc, ◌+◌, ◌^◌, ◌<◌, ◌≤◌, true, false, cond, List, [], ◌∷◌, ◌++◌, length, take, drop, Some, sym, refl, ap, ◌∙◌, arith, length-append}
use Rattle.std.proofs.lemmas.List.{length-take-le}
use Rattle.std.proofs.lemmas.List.Sums.{fold_push}
use Rattle.net.specs.Nets.{Net}
use Rattle.net.specs.Settings.{Setting}
use Rattle.survey.specs.Surveys.{start_setting}
use Rattle.trees.specs.Listings.{Exchanged, listing, exchanged, reached_by, told_after, told}
use Rattle.trees.proofs.Whole.{listed}
use Rattle.search.proofs.Held.{search_fits, search_reached}
use Rattle.walk.specs.declared.cursor.Cursor.{Cursor}
use Rattle.walk.specs.Cursors.{net_at}
use Rattle.walk.specs.Rests.{first}

-- the first of what is left of a list
pub record Next {A : Type 0} (xs : List A) (n : ℕ) (x : A) : Type 0 where
  pub within : n < length xs
  pub more : take (n + 1) xs ≡ take n xs ++ (x ∷ [])
  pub one : take 1 (drop n xs) ≡ x ∷ []

pub first_left : {A : Type 0} (xs : List A) (n : ℕ) (x : A) → first (drop n xs) ≡ Some x → Next xs n x
first_left [] zero x h = let z : ◌≡◌ {A = ℕ} 0 1 = cc in absurd (omega arith)
first_left [] (suc n) x h = let z : ◌≡◌ {A = ℕ} 0 1 = cc in absurd (omega arith)
first_left (y ∷ xs) zero x h = let e : y ≡ x = cc in record { within = omega arith; more = ap (λ z. z ∷ []) e; one = ap (λ z. z ∷ []) e }
first_left (y ∷ xs) (suc n) x h =
    let rec = first_left xs n x h in
    let e : suc n + 1 ≡ suc (n + 1) = omega arith in
    record { within = omega (arith, rec.within); more = rw e (ap (λ zs. y ∷ zs) rec.more); one = rec.one }

-- settings told go on with the setting reached
pub told_append : (T : Setting) (xs ys : List Exchanged) → told_after T (xs ++ ys) ≡ told_after T xs ++ told_after (reached_by T xs) ys
told_append T [] ys = refl
told_append T ((true, x) ∷ xs) ys = ap (λ Ts. exchanged T (true, x) ∷ Ts) (told_append (exchanged T (true, x)) xs ys)
told_append T ((false, x) ∷ xs) ys = told_append (exchanged T (false, x)) xs ys

told_few : (T : Setting) (xs : List Exchanged) → length (told_after T xs) ≤ length xs
told_few T [] = omega arith
told_few T ((true, x) ∷ xs) = omega (arith, told_few (exchanged T (true, x)) xs)
told_few T ((false, x) ∷ xs) = omega (arith, told_few (exchanged T (false, x)) xs)

-- a forward exchange tells one setting more, a back exchange none
told_push : (T : Setting) (xs : List Exchanged) (x : Exchanged) → length (told_after T (xs ++ (x ∷ []))) ≡ length (told_after T xs) + cond x.0 1 0
told_push T xs (true, x) = ap length (told_append T xs ((true, x) ∷ [])) ∙ length-append (told_after T xs) (exchanged (reached_by T xs) (true, x) ∷ [])
told_push T xs (false, x) = ap length (told_append T xs ((false, x) ∷ [])) ∙ length-append (told_after T xs) []

module _ (net : Net) (n : ℕ) (x : Exchanged) (h : first (drop n (listing net)) ≡ Some x) where
  pub reached_more : (T : Setting) → reached_by (reached_by T (take n (listing net))) (take 1 (drop n (listing net))) ≡ reached_by T (take (n + 1) (listing net))
  reached_more T =
      ap (reached_by (reached_by T (take n (listing net)))) (first_left (listing net) n x h).one
      ∙ sym (fold_push exchanged T (take n (listing net)) x)
      ∙ ap (reached_by T) (sym (first_left (listing net) n x h).more)

  pub told_more : length (told net (take (n + 1) (listing net))) ≡ length (told net (take n (listing net))) + cond x.0 1 0
  told_more =
      ap (λ xs. length (told net xs)) (first_left (listing net) n x h).more
      ∙ ap suc (told_push (start_setting net) (take n (listing net)) x)
      ∙ suc_add (length (told_after (start_setting net) (take n (listing net)))) (cond x.0 1 0)
    where
      suc_add : (a b : ℕ) → suc (a + b) ≡ suc a + b
      suc_add a b = omega arith

-- the counts fit: there are at most 2 ^ 61 exchanges
module _ (c : Cursor) where
  pub few_exchanges : length (listing (net_at c)) ≤ 2 ^ 61
  few_exchanges = (listed (net_at c) (search_fits c.search) (search_reached c.search)).at_most

  pub few_settings : (n : ℕ) → n ≤ length (listing (net_at c)) → length (told (net_at c) (take n (listing (net_at c)))) ≤ 2 ^ 61 + 1
  few_settings n h = omega (arith, few_exchanges, told_few (start_setting (net_at c)) (take n (listing (net_at c))), length-take-le n (listing (net_at c)) h)

-- the counts after one exchange more
module _ (c : Cursor) (n : ℕ) (x : Exchanged) (h : first (drop n (listing (net_at c))) ≡ Some x) where
  pub settings_fit : length (told (net_at c) (take n (listing (net_at c)))) + cond x.0 1 0 < 2 ^ 64
  settings_fit = omega (arith, told_more (net_at c) n x h, few_settings c (n + 1) (omega (arith, (first_left (listing (net_at c)) n x h).within)))

  pub exchanges_fit : n + 1 < 2 ^ 64
  exchanges_fit = omega (arith, (first_left (listing (net_at c)) n x h).within, few_exchanges c)
