-- Where a line ends.
use Rattle.std.proofs.Common.{◌≡◌, ℕ, ◌≢◌, List, [], ◌∷◌, ◌++◌, length, Some, None, codes, decimal, Option, MatchOption, sym, ap, ◌∙◌, inl, append_assoc, rules, arith}
use Rattle.std.proofs.lemmas.List.Elements.{All-append, All-cons}
use denote.Ref.{Bor}
use Rattle.text.specs.Form.{InText, LinkInText, words_of_bars, words_of_link, line, NoBarsLine, NoLinkLine}
use Rattle.text.specs.Cuts.{Free}
use Rattle.text.proofs.Cut.{free_decimal, same_cut}
use Rattle.text.proofs.SplitLines.{FirstCut}

pub line_joined : (words rest : List ℕ) → line words ++ rest ≡ words ++ 10 ∷ rest
line_joined words rest = append_assoc words (10 ∷ []) rest

-- words have no line feed
pub free_bars : (n : ℕ) → InText n → Free 10 (words_of_bars n)
free_bars n h = All-append (λ b. b ≢ 10) (codes "bars ") (decimal n) (search rules) (free_decimal 10 n (omega arith) (inl (omega arith)))

pub free_link : (link : Option (ℕ × ℕ)) → LinkInText link → Free 10 (words_of_link link)
free_link None h = search rules
free_link (Some (a, b)) (ha, hb) =
    let no : ℕ → Type 0 = λ c. c ≢ 10 in
    let free_a : Free 10 (decimal a) = free_decimal 10 a (omega arith) (inl (omega arith)) in
    let free_b : Free 10 (decimal b) = free_decimal 10 b (omega arith) (inl (omega arith)) in
    All-append no (codes "link ") (decimal a ++ 32 ∷ decimal b) (search rules) (All-append no (decimal a) (32 ∷ decimal b) free_a (All-cons no 32 (decimal b) (omega arith) free_b))

-- the words before the first line feed are the words of the line
pub same_words : (text words rest other more : List ℕ) → Free 10 words → Free 10 other → text ≡ words ++ 10 ∷ rest → text ≡ line other ++ more
    → (words ≡ other) × (rest ≡ more)
same_words text words rest other more p q e f = same_cut 10 words other rest more p q (sym e ∙ f ∙ line_joined other more)

-- a first line that is not in form
pub other_link : (text cut rest : List ℕ) → FirstCut text cut rest → ((link : Option (ℕ × ℕ)) → LinkInText link → cut ≢ line (words_of_link link)) → NoLinkLine text
other_link text cut rest c none link more h e = none link h (c.whole (words_of_link link) more (free_link link h) (e ∙ line_joined (words_of_link link) more))

other_bars : (text cut rest : List ℕ) → FirstCut text cut rest → ((n : ℕ) → InText n → cut ≢ line (words_of_bars n)) → NoBarsLine text
other_bars text cut rest c none n more h e = none n h (c.whole (words_of_bars n) more (free_bars n h) (e ∙ line_joined (words_of_bars n) more))

-- what the first line says, where there is one
pub first_line : (text rest : List ℕ) (r : Option (Bor (List ℕ))) (o : Option ℕ) → MatchOption r (length text ≡ 0) (λ x. FirstCut text x.now rest)
    → MatchOption r (o ≡ None) (λ x. MatchOption o ((n : ℕ) → InText n → x.now ≢ line (words_of_bars n)) (λ n. InText n × (x.now ≡ line (words_of_bars n))))
    → MatchOption o (NoBarsLine text) (λ n. InText n × (text ≡ line (words_of_bars n) ++ rest))
first_line text rest None o empty none = rw none (λ n more h e. let z = ap length e in omega arith)
first_line text rest (Some x) None cut none = other_bars text x.now rest cut none
first_line text rest (Some x) (Some n) cut (fits, is) = (fits, cut.parts ∙ ap (λ w. w ++ rest) is)
