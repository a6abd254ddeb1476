-- The links that an exchange may name. Assumes nothing.
use Rattle.std.specs.Prelude.{ℕ, ◌≤◌, ◌≢◌}

-- The numbers of links are 1 to 60.
abbrev pub IsNumber : ℕ → Type 0
IsNumber l = (1 ≤ l) × (l ≤ 60)

-- Both are numbers of links, and they differ.
abbrev pub MayExchange : ℕ → ℕ → Type 0
MayExchange out into = IsNumber out × IsNumber into × (out ≢ into)
