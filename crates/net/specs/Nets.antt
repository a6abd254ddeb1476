-- What a net is: bars (vertices) and links (edges), both numbered from 1. Assumes nothing.
use Rattle.std.specs.Prelude.{◌≡◌, ℕ, zero, suc, ◌≤◌, List, Some, None, Option, slice_index_or, slice_set}

-- The entry of a list with number i, counted from 1; d where there is none.
abbrev pub nth : {A : Type 0} → List A → ℕ → A → A
nth xs zero d = d
nth xs (suc i) d = slice_index_or xs i d

-- The list with x at number i; the same list where it has no such number.
abbrev pub put : {A : Type 0} → List A → ℕ → A → List A
put xs zero x = xs
put xs (suc i) x = slice_set xs i x

-- A net: the number of its bars and the list of its links, each in service between two bars, or out of service (None).
pub record Net : Type 0 where
  pub bars : ℕ
  pub links : List (Option (ℕ × ℕ))

-- The two bars of link l; None where l is out of service or no link.
abbrev pub ends_of : Net → ℕ → Option (ℕ × ℕ)
ends_of net l = nth net.links l None

-- The bars are 1 up to their number.
abbrev pub IsBar : Net → ℕ → Type 0
IsBar net b = (1 ≤ b) × (b ≤ net.bars)

-- The infeed: the bar from which every other bar is to be reached.
abbrev pub infeed : Net → ℕ
infeed net = 1

-- Link l is in service and its two bars are a and b, in either order.
pub data Joins (net : Net) (l a b : ℕ) : Type 0 where
  forth : ends_of net l ≡ Some (a, b) → Joins net l a b
  back : ends_of net l ≡ Some (b, a) → Joins net l a b

-- Link l is in service.
abbrev pub InService : Net → ℕ → Type 0
InService net l = (a : ℕ) × (b : ℕ) × Joins net l a b
