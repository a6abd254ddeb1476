-- Ranks: the place of a number in a list, counted from 1. Assumes nothing.
use Rattle.std.specs.Prelude.{◌≡◌, ℕ, suc, ◌≤◌, Bool, true, cond, not, ◌&&◌, List, [], ◌∷◌, map, length, is_some, Some, None, Option, ◌==◌, nat_le}
use Rattle.std.specs.List.{range_with_len}
use Rattle.std.specs.Option.{option_map}
use Rattle.net.specs.Nets.{nth}

-- The rank of a number: its first place in the list; None where it is not there.
abbrev pub rank_in : List ℕ → ℕ → Option ℕ
rank_in [] x = None
rank_in (y ∷ ys) x = cond (x == y) (Some 1) (option_map suc (rank_in ys x))

-- The number of a rank; None where there is no such rank.
abbrev pub number_at_rank : List ℕ → ℕ → Option ℕ
number_at_rank xs k = nth (map Some xs) k None

-- The list ranks what P holds of: each such number has one rank, and each rank one such number.
pub record Ranks (P : ℕ → Type 0) (xs : List ℕ) : Type 0 where
  pub each_ranked : (x : ℕ) → P x → (k : ℕ) × (rank_in xs x ≡ Some k)
  pub no_other : (k : ℕ) → 1 ≤ k → k ≤ length xs → P (nth xs k 0)
  pub one_rank : (k : ℕ) → 1 ≤ k → k ≤ length xs → rank_in xs (nth xs k 0) ≡ Some k

-- The table of ranks of the numbers 1 to n.
abbrev pub rank_table : ℕ → List ℕ → List (Option ℕ)
rank_table n xs = map (rank_in xs) (range_with_len 1 n)

-- The test that every number of a list is one of 1 to n.
abbrev pub in_range : ℕ → List ℕ → Bool
in_range n [] = true
in_range n (x ∷ xs) = (nat_le 1 x && nat_le x n) && in_range n xs

-- The test that no number stands in a list twice.
abbrev pub distinct : List ℕ → Bool
distinct [] = true
distinct (x ∷ xs) = not (is_some (rank_in xs x)) && distinct xs
