-- The lines that `split_inclusive` cuts off at line feeds.
use Rattle.std.proofs.Common.{◌≡◌, ℕ, ◌+◌, ◌<◌, ◌≢◌, Bool, eqb, List, [], ◌∷◌, ◌++◌, length, get_or, take, drop, min, Some, None, Option, MatchOption, sym, ap, ◌∙◌, arith}
use native.Mathlib.Decide.{dec_le}
use denote.Param.Members.{Mut}
use denote.Ref.{Bor}
use Rattle.std.specs.declared.slice.SplitInclusive.{SplitInclusive}
use Rattle.std.specs.Slice.Iter.{split_inclusive_rest, split_inclusive_callee}
use Rattle.std.specs.Fn.{Called, ComputesKey}
use Rattle.std.specs.List.{IsFirstMatchOrLen}
use Rattle.std.proofs.lemmas.List.Elements.{All-from_get_or}
use Rattle.std.proofs.lemmas.List.Sorted.{answers_always}
use Rattle.std.proofs.lemmas.Bool.{eqb-true, eqb-false}
use Rattle.std.proofs.lemmas.List.{take_more}
use Rattle.std.proofs.Math.Seq.{take-append_seam}
use Rattle.text.specs.Cuts.{Free}
use Rattle.text.proofs.Cut.{free_take, not_free, same_cut, cut_at}

-- the bytes are cut behind their first line feed, or at their end where they have none
pub record FirstCut (text cut rest : List ℕ) : Type 0 where
  pub parts : text ≡ cut ++ rest
  pub some : 0 < length text
  pub whole : (words more : List ℕ) → Free 10 words → text ≡ words ++ 10 ∷ more → cut ≡ words ++ 10 ∷ []

module _ (text cut rest : List ℕ) (i : ℕ) (parts : text ≡ cut ++ rest) (size : length cut ≡ min (i + 1) (length text)) (first : IsFirstMatchOrLen (λ b. eqb b 10) text i) where
  before : (k : ℕ) → k < i → get_or text k 0 ≢ 10
  before k lt = eqb-false (get_or text k 0) 10 (first.0 k 0 (omega arith) lt)

  -- where there is a line feed
  module _ (within : i < length text) where
    found : get_or text i 0 ≡ 10
    found = eqb-true (get_or text i 0) 10 (first.1 within 0)

    front : cut ≡ take i text ++ 10 ∷ []
    front =
        let n : length cut ≡ i + 1 = omega arith in
        let e : take (length cut) text ≡ cut = rw parts (take-append_seam cut rest) in
        let e' : take (i + 1) text ≡ cut = rw n at e in
        sym e' ∙ take_more text i 0 within ∙ ap (λ b. take i text ++ b ∷ []) found

    words_of_front : (words more : List ℕ) → Free 10 words → text ≡ words ++ 10 ∷ more → cut ≡ words ++ 10 ∷ []
    words_of_front words more free e =
        let (same, _) = same_cut 10 (take i text) words (drop (i + 1) text) more (free_take 10 text i (omega arith) before) free (sym (cut_at text i 10 within found) ∙ e) in
        front ∙ ap (λ w. w ++ 10 ∷ []) same

  pub first_cut : 0 < length text → FirstCut text cut rest
  first_cut some = record { parts = parts; some = some; whole = whole }
    where
      whole : (words more : List ℕ) → Free 10 words → text ≡ words ++ 10 ∷ more → cut ≡ words ++ 10 ∷ []
      whole words more free e = elim (dec_le (length text) i) [
        | yes past ↦ absurd (not_free 10 words more (rw e at (All-from_get_or (λ b. b ≢ 10) text 0 (λ k h. before k (omega arith)))))
        | no more_than ↦ words_of_front (omega arith) words more free e
      ]

-- what `next` gives, where the closure tells a line feed
pub given_cut : {F : Type 0} {g : Mut F (Bor ℕ × Unit {0}) Bool} (s t : SplitInclusive ℕ F) (r : Option (Bor (List ℕ)))
    → MatchOption r ((length (split_inclusive_rest s) ≡ 0) × (t ≡ s))
    (λ x. (split_inclusive_rest s ≡ x.now ++ split_inclusive_rest t) × ((i : ℕ) × (length x.now ≡ min (i + 1) (length (split_inclusive_rest s)))
    × ((p : ℕ → Bool) → ComputesKey g p (split_inclusive_callee s) → ComputesKey g p (split_inclusive_callee t) × IsFirstMatchOrLen p (split_inclusive_rest s) i))
    × (0 < length (split_inclusive_rest s)))
    → ((f : F) (a : Bor ℕ × Unit {0}) (b : Bool) (f' : F) → Called g f a b f' → b ≡ eqb a.0.now 10)
    → MatchOption r (length (split_inclusive_rest s) ≡ 0) (λ x. FirstCut (split_inclusive_rest s) x.now (split_inclusive_rest t))
given_cut s t None h tells = h.0
given_cut {g = g} s t (Some x) (parts, (i, size, each), some) tells =
    let computes = answers_always g (λ a b. b ≡ eqb a.0.now 10) (split_inclusive_callee s) tells in
    first_cut (split_inclusive_rest s) x.now (split_inclusive_rest t) i parts size (each (λ b. eqb b 10) computes).1 some
