-- What the calls on a walk answer.
use Rattle.std.proofs.Common.{◌≡◌, ℕ, suc, ◌+◌, ◌^◌, ◌<◌, ◌≤◌, min, true, false, not, eqb, ◌⊎◌, List, [], ◌∷◌, length, take, drop, is_some, Some, None, is_ok, Ok, Err, fold, Option, Result, sym, refl, ap, ◌∙◌, subst, ap₂, inl, inr, arith}
use Rattle.std.proofs.lemmas.Bool.{ne_eqb, eqb-true}
use Rattle.std.proofs.lemmas.List.{drop-drop, length-drop}
use Rattle.std.proofs.lemmas.List.Sums.{fold_push}
use Rattle.net.specs.Nets.{Net}
use Rattle.trees.specs.Listings.{Exchanged, listing}
use Rattle.collectors.specs.declared.exchange.Exchange.{Exchange}
use Rattle.faults.specs.declared.CollectorFault.{CollectorFault}
use Rattle.collectors.specs.Offers.{Offered}
use Rattle.collectors.specs.Exchanges.{said_by}
use Rattle.walk.specs.declared.answers.Advance.{Advance}
use Rattle.walk.specs.declared.state.Walk.{Walk}
use Rattle.walk.specs.Cursors.{coming_at}
use Rattle.walk.specs.Rests.{first}
use Rattle.walk.specs.Calls.{left_after, word_of, HandsOne, Advances}
use Rattle.walk.specs.Walks.{net_of_walk, handed_by}
use Rattle.walk.proofs.Passed.{first_left, few_exchanges}

-- nothing is first exactly where nothing is left
none_first : {A : Type 0} (xs : List A) → not (is_some (first xs)) ≡ eqb (length xs) 0
none_first [] = refl
none_first (x ∷ xs) = sym (ne_eqb (suc (length xs)) 0 (λ e. omega arith))

pub done_test : (w : Walk) → not (is_some (first (coming_at w.cursor))) ≡ eqb (left_after (net_of_walk w) (handed_by w)) 0
done_test w =
    none_first (coming_at w.cursor)
    ∙ ap (λ xs. eqb (length xs) 0) w.coming
    ∙ ap (λ n. eqb n 0) (length-drop w.exchanges (listing (net_of_walk w)))

-- one exchange more moves the sum by the rule
pub fold_more : {Sum : Type 0} (rule : Sum → Exchanged → Sum) (s : Sum) (xs : List Exchanged) (n k : ℕ) (x : Exchanged) → first (drop (n + k) xs) ≡ Some x
    → fold rule s (take (k + 1) (drop n xs)) ≡ rule (fold rule s (take k (drop n xs))) x
fold_more rule s xs n k x h =
    ap (fold rule s) (first_left (drop n xs) k x (subst (λ ys. first ys ≡ Some x) (sym (drop-drop k n xs)) h)).more
    ∙ fold_push rule s (take k (drop n xs)) x

-- what comes next is the first that is left
pub first_coming : (w : Walk) (net : Net) (n : ℕ) (x : Exchanged) → net_of_walk w ≡ net → handed_by w ≡ n → Some x ≡ first (coming_at w.cursor) → first (drop n (listing net)) ≡ Some x
first_coming w net n x p q h = ap₂ (λ k m. first (drop k (listing m))) (sym q) (sym p) ∙ ap first (sym w.coming) ∙ sym h

-- none is left where nothing comes next
pub none_left : (w : Walk) → None ≡ first (coming_at w.cursor) → left_after (net_of_walk w) (handed_by w) ≡ 0
none_left w h = eqb-true (left_after (net_of_walk w) (handed_by w)) 0 (sym (done_test w) ∙ ap (λ o. not (is_some o)) (sym h))

-- one more was handed on, or none
pub one_handed : {Sum : Type 0} (rule : Sum → Exchanged → Sum) (net : Net) (n n' : ℕ) (sum : Sum) (spare : ℕ) (sum' : Sum) (spare' : ℕ) (o : Option Exchange) → is_some o ≡ true
    → HandsOne rule net n n' sum spare sum' spare' o
    → (x : Exchanged) × (first (drop n (listing net)) ≡ Some x) × (n' ≡ n + 1) × (sum' ≡ rule sum x) × (spare ≡ spare' + 1)
one_handed rule net n n' sum spare sum' spare' (Some x) e h = (said_by x, h.0, h.1, h.2, h.3)
one_handed rule net n n' sum spare sum' spare' None e h = let z : ◌≡◌ {A = ℕ} 0 1 = cc in absurd (omega arith)

pub none_handed : {Sum : Type 0} (rule : Sum → Exchanged → Sum) (net : Net) (n n' : ℕ) (sum : Sum) (spare : ℕ) (sum' : Sum) (spare' : ℕ) (o : Option Exchange) → is_some o ≡ false
    → HandsOne rule net n n' sum spare sum' spare' o → ((left_after net n ≡ 0) ⊎ (spare ≡ 0)) × (n' ≡ n) × (sum' ≡ sum) × (spare' ≡ spare)
none_handed rule net n n' sum spare sum' spare' (Some x) e h = let z : ◌≡◌ {A = ℕ} 0 1 = cc in absurd (omega arith)
none_handed rule net n n' sum spare sum' spare' None e h = h

-- what was taken
pub taken : {Sum : Type 0} (rule : Sum → Exchanged → Sum) (sum : Sum) (spare : ℕ) (x : Exchanged) (r : Result (Unit {0}) CollectorFault) (sum' : Sum) (spare' : ℕ) → true ≡ is_ok r
    → Offered rule sum spare x r sum' spare' → (spare ≡ spare' + 1) × (sum' ≡ rule sum x)
taken rule sum spare x (Ok u) sum' spare' e h = h
taken rule sum spare x (Err f) sum' spare' e h = let z : ◌≡◌ {A = ℕ} 0 1 = cc in absurd (omega arith)

-- an advance ends when the allowance is used up, none is left, or no spare is left
pub advanced : {Sum : Type 0} (rule : Sum → Exchanged → Sum) (w v : Walk) (allowance : ℕ) (sum : Sum) (spare : ℕ) (sum' : Sum) (spare' : ℕ) (r : Advance)
    → net_of_walk v ≡ net_of_walk w → handed_by v ≡ handed_by w + r.count → sum' ≡ fold rule sum (take r.count (drop (handed_by w) (listing (net_of_walk w)))) → spare ≡ spare' + r.count
    → r.count ≤ allowance → r.word ≡ word_of (left_after (net_of_walk v) (handed_by v)) r.count spare → (allowance ≤ r.count) ⊎ ((left_after (net_of_walk v) (handed_by v) ≡ 0) ⊎ (spare' ≡ 0))
    → Advances rule (net_of_walk w) (handed_by w) (handed_by v) allowance sum spare sum' spare' r
advanced rule w v allowance sum spare sum' spare' r same on moved used within word stop = record {
  count = by stop;
  word = word ∙ ap (λ net. word_of (left_after net (handed_by v)) r.count spare) same;
  on = on;
  moved = moved;
  used = used;
}
  where
    fits : handed_by v ≤ length (listing (net_of_walk w))
    fits = subst (λ net. handed_by v ≤ length (listing net)) same v.within

    by : (allowance ≤ r.count) ⊎ ((left_after (net_of_walk v) (handed_by v) ≡ 0) ⊎ (spare' ≡ 0)) → r.count ≡ min allowance (min spare (left_after (net_of_walk w) (handed_by w)))
    by (inl h) = omega (arith, fits, on, used, within)
    by (inr (inl h)) = omega (arith, fits, on, used, within, ap (λ net. left_after net (handed_by v)) (sym same) ∙ h)
    by (inr (inr h)) = omega (arith, fits, on, used, within)

-- no more was handed on than the listing has
pub handed_within : (w : Walk) → handed_by w ≤ length (listing (net_of_walk w))
handed_within w = w.within

-- an allowance of 64 bits is enough for all
pub few_left : (w : Walk) → left_after (net_of_walk w) (handed_by w) < 2 ^ 64
few_left w = omega (arith, few_exchanges w.cursor)
