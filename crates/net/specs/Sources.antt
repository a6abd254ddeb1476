-- The nets that the list source and the ladder source stand for. Assumes nothing.
use Rattle.std.specs.Prelude.{ℕ, ◌+◌, ◌-◌, ◌*◌, cond, ◌&&◌, List, [], ◌∷◌, ◌++◌, map, Some, None, Option, ◌==◌}
use Rattle.std.specs.List.{range_with_len}
use Rattle.net.specs.Nets.{Net}

-- Two numbers of a row: 0 0 is a link out of service.
abbrev pub pair_of : ℕ → ℕ → Option (ℕ × ℕ)
pair_of a b = cond (a == 0 && b == 0) None (Some (a, b))

-- A row read in pairs, one a link.
abbrev pub pairs : List ℕ → List (Option (ℕ × ℕ))
pairs [] = []
pairs (a ∷ []) = []
pairs (a ∷ (b ∷ row)) = pair_of a b ∷ pairs row

-- The net of a row: two numbers a link.
abbrev pub list_net : ℕ → List ℕ → Net
list_net n row = record { bars = n; links = pairs row }

-- The ladder of n rungs has 2n bars. Link i of the rail joins i and i + 1; then rung i joins i and 2n + 1 - i.
abbrev pub ladder_net : ℕ → Net
ladder_net n = record {
  bars = 2 * n;
  links = map (λ i. Some (i, i + 1)) (range_with_len 1 (2 * n - 1)) ++ map (λ i. Some (i, 2 * n + 1 - i)) (range_with_len 1 (n - 1));
}
