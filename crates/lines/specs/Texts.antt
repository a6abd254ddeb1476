-- The text that tells settings, a line each. Assumes nothing.
use Rattle.std.specs.Prelude.{ℕ, ◌+◌, false, List, [], ◌∷◌, ◌++◌, length, codes, decimal, filter}
use Rattle.std.specs.List.{range_with_len, flat_map}
use Rattle.net.specs.Nets.{nth}
use Rattle.net.specs.Settings.{Setting}

-- The numbers of the closed links, ascending.
abbrev pub closed_numbers : Setting → List ℕ
closed_numbers T = filter (λ l. nth T l false) (range_with_len 1 (length T))

-- A space and a number in decimal.
abbrev pub spaced : ℕ → List ℕ
spaced n = 32 ∷ decimal n

-- The line of the setting with number n: the number, the closed links, each behind a space, and a line feed.
abbrev pub line_of : ℕ → Setting → List ℕ
line_of n T = decimal n ++ flat_map spaced (closed_numbers T) ++ 10 ∷ []

-- The lines of settings that are numbered from n on.
abbrev pub text_from : ℕ → List Setting → List ℕ
text_from n [] = []
text_from n (T ∷ Ts) = line_of n T ++ text_from (n + 1) Ts

-- The line that tells how many settings there are.
abbrev pub total_line : ℕ → List ℕ
total_line n = codes "total" ++ spaced n ++ 10 ∷ []
