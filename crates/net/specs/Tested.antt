-- The limits as a test, which a type can carry as its invariant. Assumes nothing.
use Rattle.std.specs.Prelude.{ℕ, Bool, true, not, ◌&&◌, List, [], ◌∷◌, length, Some, None, Option, ◌==◌, nat_le}
use Rattle.net.specs.Nets.{Net}

-- The ends of a link in service are two different bars of 1 to n.
abbrev pub fits_bars : ℕ → Option (ℕ × ℕ) → Bool
fits_bars n None = true
fits_bars n (Some (a, b)) = (nat_le 1 a && nat_le a n) && ((nat_le 1 b && nat_le b n) && not (a == b))

-- Every entry of a list passes a test.
abbrev pub every : {A : Type 0} → (A → Bool) → List A → Bool
every p [] = true
every p (x ∷ xs) = p x && every p xs

-- The test that a net is within the limits.
abbrev pub within_limits : Net → Bool
within_limits net = (nat_le 1 net.bars && nat_le net.bars 32) && (nat_le (length net.links) 60 && every (fits_bars net.bars) net.links)
