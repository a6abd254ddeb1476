-- One call made on a walk: what it is answered, in terms of the exchanges handed on before it.
use Rattle.std.proofs.Common.{◌≡◌, ℕ, ◌+◌, ◌-◌, ◌≤◌, true, List, [], ◌++◌, length, take, drop, Some, vec_items, fold, Option, Result, Vec, sym, refl, ap, ◌∙◌, subst, arith, length-append, eq-eqb}
use Rattle.std.specs.declared.alloc.Global.{Global}
use Rattle.std.proofs.lemmas.Bool.{eqb-true}
use Rattle.std.proofs.lemmas.List.{take_all, length-take-le, length-drop}
use Rattle.faults.specs.declared.BoardFault.{BoardFault}
use Rattle.net.specs.Nets.{Net}
use Rattle.flood.specs.Rows.{Presents}
use Rattle.trees.specs.Listings.{Exchanged, listing, told}
use Rattle.walk.specs.declared.answers.Advance.{Advance}
use Rattle.walk.specs.declared.answers.Look.{Look}
use Rattle.walk.specs.Told.{Complete}
use Rattle.walk.specs.Calls.{handed_on, left_after, word_of, reached_after, Advances, Looks}
use Rattle.runs.specs.declared.calls.Call.{Call}
use Rattle.runs.specs.declared.calls.Call.TheVariants.{Advance as Advancing, Look as Looking, Present as Presenting}
use Rattle.runs.specs.Runs.{HandsOn, Sees, Answered, advanced, looked, presented}

-- the exchanges from the n-th on, up to the n'-th
abbrev pub stretch : Net → ℕ → ℕ → List Exchanged
stretch net n n' = take (n' - n) (drop n (listing net))

stretch_none : (net : Net) (n : ℕ) → stretch net n n ≡ []
stretch_none net n = let z : n - n ≡ 0 = omega arith in rw z refl

module _ (net : Net) (n : ℕ) (fits : n ≤ length (listing net)) where
  handed_length : length (handed_on net n) ≡ n
  handed_length = length-take-le n (listing net) fits

  module _ {Sum : Type 0} (rule : Sum → Exchanged → Sum) (n' allowance : ℕ) (s : Sum) (spare : ℕ) (s' : Sum) (spare' : ℕ) (r : Advance)
      (a : Advances rule net n n' allowance s spare s' spare' r) where
    counted : n' - n ≡ r.count
    counted = omega (arith, a.on)

    stretch_length : length (stretch net n n') ≡ r.count
    stretch_length = length-take-le (n' - n) (drop n (listing net)) (omega (arith, counted, a.count, length-drop n (listing net))) ∙ counted

    stretch_moved : s' ≡ fold rule s (stretch net n n')
    stretch_moved = a.moved ∙ ap (λ k. fold rule s (take k (drop n (listing net)))) (sym counted)

    stretch_used : spare ≡ spare' + length (stretch net n n')
    stretch_used = omega (arith, a.used, stretch_length)

    stretch_hands : HandsOn net (handed_on net n) (stretch net n n') allowance spare r
    stretch_hands = record {
      count = sym stretch_length;
      least = omega (arith, stretch_length, a.count, handed_length);
      word = a.word ∙ ap (λ k. word_of k r.count spare) left ∙ ap (λ k. word_of (length (listing net) - length (handed_on net n ++ stretch net n n')) k spare) (sym stretch_length);
    }
      where
        left : left_after net n' ≡ length (listing net) - length (handed_on net n ++ stretch net n n')
        left = omega (arith, a.on, stretch_length, handed_length, length-append (handed_on net n) (stretch net n n'))

  look_sees : (r : Look) → Looks net n r → (r.finished ≡ true → Complete net (told net (handed_on net n))) → Sees net (handed_on net n) r
  look_sees r l whole = record {
    settings = l.settings;
    exchanges = l.exchanges ∙ sym handed_length;
    finished = λ e. take_all n (listing net) (omega (arith, eqb-true (left_after net n) 0 (sym l.finished ∙ e)));
    all_told = λ e. l.finished ∙ eq-eqb (left_after net n) 0 (omega (arith, handed_length, ap length e));
    complete = whole;
  }

-- the answer to each kind of call
module _ {C Sum : Type 0} (sum : C → Sum) (spare : C → ℕ) (rule : Sum → Exchanged → Sum) (net : Net) (n : ℕ) (fits : n ≤ length (listing net)) (call : Call C) where
  pub advance_answered : (n' a : ℕ) (c c' : C) (o : Option Advance) (r : Advance) → call ≡ Advancing a c o → Advances rule net n n' a (sum c) (spare c) (sum c') (spare c') r
      → (n ≤ n') × Answered sum spare rule net (handed_on net n) call (Advancing a c' (Some r)) (stretch net n n')
  advance_answered n' a c c' o r e h = (
    omega (arith, h.on),
    subst (λ k. Answered sum spare rule net (handed_on net n) k (Advancing a c' (Some r)) (stretch net n n')) (sym e)
        (advanced (record { moved = stretch_moved net n fits rule n' a (sum c) (spare c) (sum c') (spare c') r h; used = stretch_used net n fits rule n' a (sum c) (spare c) (sum c') (spare c') r h })
        (stretch_hands net n fits rule n' a (sum c) (spare c) (sum c') (spare c') r h)),
  )

  pub look_answered : (o : Option Look) (r : Look) → call ≡ Looking o → Looks net n r → (r.finished ≡ true → Complete net (told net (handed_on net n)))
      → Answered sum spare rule net (handed_on net n) call (Looking (Some r)) (stretch net n n)
  look_answered o r e l whole = subst (λ k. Answered sum spare rule net (handed_on net n) k (Looking (Some r)) (stretch net n n)) (sym e)
      (subst (Answered sum spare rule net (handed_on net n) (Looking o) (Looking (Some r))) (sym (stretch_none net n)) (looked (look_sees net n fits r l whole)))

  pub present_answered : (row row' : Vec ℕ Global) (o : Option (Result (Unit {0}) BoardFault)) (r : Result (Unit {0}) BoardFault) → call ≡ Presenting row o
      → Presents net (reached_after net n) (vec_items row) r (vec_items row') → Answered sum spare rule net (handed_on net n) call (Presenting row' (Some r)) (stretch net n n)
  present_answered row row' o r e h = subst (λ k. Answered sum spare rule net (handed_on net n) k (Presenting row' (Some r)) (stretch net n n)) (sym e)
      (subst (Answered sum spare rule net (handed_on net n) (Presenting row o) (Presenting row' (Some r))) (sym (stretch_none net n)) (presented h))
