-- Bytes that lack one byte. Assumes nothing.
use Rattle.std.specs.Prelude.{ℕ, ◌≢◌, List}
use Rattle.std.specs.List.{All}

-- The number c stands nowhere in the list.
abbrev pub Free : ℕ → List ℕ → Type 0
Free c xs = All (λ x. x ≢ c) xs
