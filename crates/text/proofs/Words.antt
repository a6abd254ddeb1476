-- The words that a line begins with.
use Rattle.std.proofs.Common.{◌≡◌, ℕ, false, cond, ◌&&◌, eqb, ◌≢◌, List, [], ◌∷◌, ◌++◌, Some, None, codes, decimal, Option, ap, ◌∙◌, arith, MatchOption}
use Rattle.std.proofs.lemmas.Bool.{ne_eqb, and_left}
use Rattle.std.proofs.lemmas.List.{append_cancel_right}
use Rattle.net.specs.Sources.{pair_of}
use Rattle.text.specs.Form.{InText, LinkInText, words_of_link, line}

-- two bars are no link out of service
pub pair_some : (a b : ℕ) → InText a → pair_of a b ≡ Some (a, b)
pair_some a b h =
    let e : (eqb a 0 && eqb b 0) ≡ false = and_left (eqb a 0) (eqb b 0) (ne_eqb a 0 (omega arith)) in
    ap (λ t. cond t None (Some (a, b))) e

-- a line of `link ` and two numbers
pub link_some : (text ends : List ℕ) (r : Option (ℕ × ℕ)) → text ≡ codes "link " ++ (ends ++ (10 ∷ []))
    → MatchOption r ((a b : ℕ) → InText a → InText b → ends ≢ decimal a ++ (32 ∷ decimal b)) (λ p. InText p.0 × InText p.1 × (ends ≡ decimal p.0 ++ (32 ∷ decimal p.1)))
    → MatchOption r ((l : Option (ℕ × ℕ)) → LinkInText l → text ≢ line (words_of_link l)) (λ p. LinkInText (pair_of p.0 p.1) × (text ≡ line (words_of_link (pair_of p.0 p.1))))
link_some text ends None e h = no
  where
    no : (l : Option (ℕ × ℕ)) → LinkInText l → text ≢ line (words_of_link l)
    no None i q = let z : ◌≡◌ {A = ℕ} 108 111 = cc in omega arith
    no (Some (a, b)) (ia, ib) q =
        let z : ends ++ (10 ∷ []) ≡ (decimal a ++ (32 ∷ decimal b)) ++ (10 ∷ []) = cc in
        h a b ia ib (append_cancel_right ends (decimal a ++ (32 ∷ decimal b)) (10 ∷ []) z)
link_some text ends (Some (a, b)) e (ia, ib, h) = rw (pair_some a b ia) ((ia, ib), e ∙ ap (λ ys. codes "link " ++ (ys ++ (10 ∷ []))) h)
