-- Tables of links filled, or counted on, record by record.
use Rattle.std.proofs.Common.{◌≡◌, ℕ, zero, suc, ◌+◌, ◌-◌, ◌<◌, ◌≤◌, true, false, List, ◌++◌, map, length, get_or, take, drop, set, sym, subst, ap, ◌∙◌, arith}
use Rattle.std.specs.List.{range_with_len}
use Rattle.std.specs.Fn.{Called, Mut}
use Rattle.std.specs.Array.{IsElementAt, IsFromFnResult, IsFromFnResultFrom}
use native.Mathlib.Decide.{dec_le}
use Rattle.std.proofs.lemmas.List.{same_lists, get_or-map, get_or-drop, get_or-append_right, length-map, length-take-le, map-set}
use Rattle.std.proofs.lemmas.List.Edits.{map_over_more}
use Rattle.std.proofs.lemmas.List.FromFn.{length-map-range_with_len, get_or-map-range_with_len}
use Rattle.tally.specs.declared.counts.LinkCount.{LinkCount}
use Rattle.tally.specs.Counts.{counted_once_more, counts_to}
use Rattle.tally.specs.Tables.{count_of, counts_in}
use Rattle.tally.proofs.Bounds.{counts_to_nth}

module _ {F B C : Type 0} (g : Mut F (ℕ × Unit {0}) B) (v : B → C) (h : ℕ → C) (f : F)
    (calls : (i : ℕ) (y : B) (q : F) → Called g f (i, tt) y q → (v y ≡ h (i + 1)) × (q ≡ f)) (ys : List B) where
  -- an array that a closure made which each call leaves as it is: one place, and all
  made_at : (i n : ℕ) → IsFromFnResultFrom g f ys i n → (k : ℕ) → i ≤ k → k < i + n → (y : B) × IsElementAt ys k y × (v y ≡ h (k + 1))
  made_at i zero r k lo hi = absurd (omega arith)
  made_at i (suc n) (q, y, at, call, rest) k lo hi = elim (dec_le (i + 1) k) [
    | yes le ↦ made_at (i + 1) n (subst (λ p. IsFromFnResultFrom g p ys (i + 1) n) (calls i y q call).1 rest) k le (omega arith)
    | no lt ↦ let e : i ≡ k = omega arith in subst (λ j. (z : B) × IsElementAt ys j z × (v z ≡ h (j + 1))) e (y, at, (calls i y q call).0)
  ]

  pub made_all : (n : ℕ) → IsFromFnResult g f ys n → map v ys ≡ map h (range_with_len 1 n)
  made_all n made =
      same_lists (map v ys) (map h (range_with_len 1 n)) (length-map ys v ∙ made.long ∙ sym (length-map-range_with_len h 1 n))
      (λ k d lt.
      let inside : k < length ys = omega (arith, length-map ys v) in
      let (y, at, e) = made_at 0 n made.each k (omega arith) (omega (arith, made.long)) in
      get_or-map v ys k y d inside ∙ ap v at.0 ∙ e ∙ sym (get_or-map-range_with_len h 1 n k (k + 1) d (omega (arith, made.long)) (omega arith)))

module _ (rs₀ rs : List LinkCount) (i : ℕ) (d : LinkCount) (lt : i < length rs₀) (same : length rs ≡ length rs₀)
    (inv : counts_in rs ≡ map counted_once_more (take i (counts_in rs₀)) ++ drop i (counts_in rs₀)) where
  -- the next record is as it was
  next_record : count_of (get_or rs i d) ≡ get_or (counts_in rs₀) i (false, 0)
  next_record =
      sym (get_or-map count_of rs i d (false, 0) (omega arith))
      ∙ ap (λ ks. get_or ks i (false, 0)) inv
      ∙ get_or-append_right (map counted_once_more (take i (counts_in rs₀))) (drop i (counts_in rs₀)) i i (false, 0)
      (length-map (take i (counts_in rs₀)) counted_once_more ∙ length-take-le i (counts_in rs₀) (omega (arith, length-map rs₀ count_of))) (omega arith)
      ∙ get_or-drop i (counts_in rs₀) (i - i) (false, 0)
      ∙ ap (λ n. get_or (counts_in rs₀) n (false, 0)) (omega arith)

  pub next_count : (n : ℕ) → counts_to n (counts_in rs₀) ≡ true → (get_or rs i d).count ≤ n
  next_count n h = rw (ap (λ k. k.1) next_record) (counts_to_nth n (counts_in rs₀) (suc i) h)

  pub count_more : (r : LinkCount) → count_of r ≡ counted_once_more (count_of (get_or rs i d))
      → counts_in (set rs i r) ≡ map counted_once_more (take (i + 1) (counts_in rs₀)) ++ drop (i + 1) (counts_in rs₀)
  count_more r e =
      map-set count_of rs i r
      ∙ ap (set (counts_in rs) i) e
      ∙ map_over_more counted_once_more (counts_in rs₀) (counts_in rs) i (count_of (get_or rs i d)) (omega (arith, length-map rs₀ count_of)) inv
      (sym (get_or-map count_of rs i d (count_of (get_or rs i d)) (omega arith)))
