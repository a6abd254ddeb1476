-- The line feed at the end of a line.
use Rattle.std.proofs.Common.{◌≡◌, ℕ, ◌+◌, List, [], ◌∷◌, length, drop, set, ap, ◌∙◌, arith, length-drop}
use Rattle.std.proofs.lemmas.List.{drop-set, nil_from_length}

-- a line feed at the last place
pub line_end : (line : List ℕ) (n : ℕ) → length line ≡ n + 1 → drop n (set line n 10) ≡ 10 ∷ []
line_end line n h = drop-set line n 10 (omega (arith, h)) ∙ ap (λ xs. 10 ∷ xs) (nil_from_length (drop (n + 1) line) (omega (arith, length-drop (n + 1) line, h)))
