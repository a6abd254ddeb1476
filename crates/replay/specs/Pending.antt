-- The forward exchanges not yet reversed, the latest first. Assumes nothing.
use Rattle.std.specs.Prelude.{◌≡◌, ℕ, Bool, true, false, ◌≢◌, List, ◌∷◌, map, reverse}
use Rattle.replay.specs.declared.pending.Swap.{Swap}
use Rattle.replay.specs.declared.pending.Pending.{Pending}

-- The links of an exchange: link out, link in.
abbrev pub links_of : Swap → ℕ × ℕ
links_of s = (s.link_out, s.link_in)

-- The exchanges that a stack holds, the last of them first.
abbrev pub pending_of : Pending → List (ℕ × ℕ)
pending_of p = reverse (map links_of p.swaps.items)

-- A back exchange takes off the latest exchange, which it must reverse; else all stay.
abbrev pub TakesBack : List (ℕ × ℕ) → ℕ → ℕ → Bool → List (ℕ × ℕ) → Type 0
TakesBack ps out into true ps' = ps ≡ (into, out) ∷ ps'
TakesBack ps out into false ps' = (ps' ≡ ps) × ((rest : List (ℕ × ℕ)) → ps ≢ (into, out) ∷ rest)
