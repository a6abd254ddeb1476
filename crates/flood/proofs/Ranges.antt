-- Ranges `a..=b` of unsigned numbers in a chain.
use Rattle.std.proofs.Common.{◌≡◌, ℕ, suc, ◌+◌, ◌-◌, ◌<◌, ◌≤◌, Bool, true, false, [], ◌∷◌, length, Some, Option, Decides, sym, refl, ap, ap₂, ◌∙◌, subst, arith}
use denote.Param.Members.{Mut, Called}
use mathlib.Core.List.{List}
use Rattle.std.specs.Bool.{MatchBool}
use Rattle.std.specs.Iterator.{AlwaysYields, YieldsThen}
use Rattle.std.specs.List.{range_with_len, FoldsTo, AllWithin, HoldsAt}
use Rattle.std.specs.Option.{MatchOption}
use Rattle.std.specs.Range.{range_inclusive_len, range_inclusive_start, range_inclusive_end, range_inclusive_exhausted}
use Rattle.std.specs.declared.ops.RangeInclusive.{RangeInclusive}
use Rattle.std.proofs.iter.Yields.{listed}
use Rattle.std.proofs.iter.runs.Sources.{nat_range_inclusive_steps}
use Rattle.std.proofs.lemmas.Iterator.{YieldsList, cases_from_all}
use Rattle.std.proofs.lemmas.List.FromFn.{length-range_with_len, get_or-range_with_len}
use Rattle.net.proofs.Settings.{not_both}

-- how many numbers are left
abbrev left : RangeInclusive ℕ → ℕ
left s = range_inclusive_len (λ x y. y - x) (range_inclusive_start s) (range_inclusive_end s) (range_inclusive_exhausted s)

next : (s : RangeInclusive ℕ) (x : ℕ) (t : RangeInclusive ℕ) → nat_range_inclusive_steps s (Some x) t
    → range_with_len (range_inclusive_start s) (left s) ≡ x ∷ range_with_len (range_inclusive_start t) (left t)
next s x t p =
    let more : left s ≡ suc (left t) = omega (arith, p.1.1) in
    ap (range_with_len (range_inclusive_start s)) more ∙ by (range_inclusive_exhausted t) refl
  where
    by : (e : Bool) → range_inclusive_exhausted t ≡ e → range_with_len (range_inclusive_start s) (suc (left t)) ≡ x ∷ range_with_len (range_inclusive_start t) (left t)
    by false q = ap (λ a. range_inclusive_start s ∷ range_with_len a (left t)) (sym (p.1.2 q)) ∙ ap (λ y. y ∷ range_with_len (range_inclusive_start t) (left t)) (sym p.1.0)
    by true q =
        let none : left t ≡ 0 = ap (range_inclusive_len (λ x y. y - x) (range_inclusive_start t) (range_inclusive_end t)) q in
        rw none (ap (λ y. y ∷ []) (sym p.1.0))

pub inclusive_gives : (s : RangeInclusive ℕ) → AlwaysYields nat_range_inclusive_steps (λ x. x) s (range_with_len (range_inclusive_start s) (left s))
inclusive_gives = listed nat_range_inclusive_steps (λ x. x) (λ s. range_with_len (range_inclusive_start s) (left s))
    (λ s t p. ap (λ n. length (range_with_len (range_inclusive_start s) n)) p.1.0)
    next

pub YieldsList-from_inclusive : {s : RangeInclusive ℕ} (a b n : ℕ) → range_inclusive_start s ≡ a → range_inclusive_end s ≡ b → range_inclusive_exhausted s ≡ false → b + 1 - a ≡ n
    → YieldsList nat_range_inclusive_steps (λ x. x) s (range_with_len a n)
YieldsList-from_inclusive {s} a b n e f z k =
    let long : left s ≡ n = ap (range_inclusive_len (λ x y. y - x) (range_inclusive_start s) (range_inclusive_end s)) z ∙ omega (arith, e, f, k) in
    record { runs = subst (AlwaysYields nat_range_inclusive_steps (λ x. x) s) (ap₂ range_with_len e long) (inclusive_gives s) }

-- `all` over a range tells whether P holds of each of its numbers
pub tells_each : {F : Type 0} {g : Mut F (ℕ × Unit {0}) Bool} {s : RangeInclusive ℕ} (u : RangeInclusive ℕ) (f : F) (r : Bool) (a b : ℕ) (P : ℕ → Type 0)
    → (xs : List ℕ) × (o : Option ℕ) × (j : F) × YieldsThen nat_range_inclusive_steps s xs o u × FoldsTo (λ p x q. Called g p (x, tt) true q) f xs j × MatchOption o (r ≡ true) (λ x. (r ≡ false) × ((h : F) × Called g j (x, tt) false h))
    → range_inclusive_start s ≡ a → range_inclusive_end s ≡ b → range_inclusive_exhausted s ≡ false
    → ((x : ℕ) (q : F) → Called g f (x, tt) true q → (q ≡ f) × P x) → ((x : ℕ) (q : F) → Called g f (x, tt) false q → ¬ P x)
    → Decides r ((k : ℕ) → a ≤ k → k ≤ b → P k)
tells_each {s = s} u f r a b P ran e d z yes' no' = by r (cases_from_all u f r P (λ x. ¬ P x) ran (YieldsList-from_inclusive a b (b + 1 - a) e d z refl) yes' no')
  where
    by : (r : Bool) → MatchBool r (AllWithin P (range_with_len a (b + 1 - a)) 0 (length (range_with_len a (b + 1 - a))))
        ((k : ℕ) × (k < length (range_with_len a (b + 1 - a))) × HoldsAt (λ x. ¬ P x) (range_with_len a (b + 1 - a)) k) → Decides r ((k : ℕ) → a ≤ k → k ≤ b → P k)
    by true h = (
      λ _ k lo hi. subst P (get_or-range_with_len a (b + 1 - a) (k - a) 0 (omega arith) ∙ omega arith) (h (k - a) 0 (omega arith) (omega (arith, length-range_with_len a (b + 1 - a)))),
      λ _. refl,
    )
    by false (k, l, fails) = (
      λ e. absurd (not_both e refl),
      λ all. absurd (fails 0 (rw (get_or-range_with_len a (b + 1 - a) k 0 (omega (arith, length-range_with_len a (b + 1 - a)))) (all (a + k) (omega arith) (omega (arith, length-range_with_len a (b + 1 - a)))))),
    )
