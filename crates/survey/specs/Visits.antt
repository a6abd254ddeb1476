-- The depth-first visit of a net. Assumes nothing.
use Rattle.std.specs.Prelude.{ℕ, zero, suc, cond, List, [], ◌∷◌, ◌++◌, length, Some, None, fold, Option, ◌==◌}
use Rattle.std.specs.List.{range_with_len}
use Rattle.net.specs.Nets.{Net, ends_of, infeed}
use Rattle.survey.specs.Ranks.{rank_in}

-- A tour so far: the bars in order of visit, and the start links in order of finding.
pub record Tour : Type 0 where
  pub order : List ℕ
  pub starts : List ℕ

-- The tour on which bar c was come to over link l.
abbrev pub found : Tour → ℕ → ℕ → Tour
found t c l = record { order = t.order ++ (c ∷ []); starts = t.starts ++ (l ∷ []) }

-- The bar at the other end of a link from bar b; None where the link has no end at b.
abbrev pub across : Option (ℕ × ℕ) → ℕ → Option ℕ
across None b = None
across (Some (x, y)) b = cond (x == b) (Some y) (cond (y == b) (Some x) None)

-- Link l leads to bar c, which has this rank if it was visited; if it was not, l becomes a start link and c is visited.
abbrev pub meet : (ℕ → Tour → Tour) → Tour → ℕ → ℕ → Option ℕ → Tour
meet visit t l c (Some k) = t
meet visit t l c None = visit c (found t c l)

-- Link l leads across to this bar, if it leads anywhere.
abbrev pub follow : (ℕ → Tour → Tour) → Tour → ℕ → Option ℕ → Tour
follow visit t l None = t
follow visit t l (Some c) = meet visit t l c (rank_in t.order c)

-- Link l is looked at from bar b.
abbrev pub look : (ℕ → Tour → Tour) → Net → ℕ → Tour → ℕ → Tour
look visit net b t l = follow visit t l (across (ends_of net l) b)

-- Bar b is visited: its links are looked at in ascending number, at most n visits deep.
abbrev pub visit : ℕ → Net → ℕ → Tour → Tour
visit zero net b t = t
visit (suc n) net b t = fold (look (visit n net) net b) t (range_with_len 1 (length net.links))

-- The tour on which links 1 to k were looked at from bar b, at most n visits deep.
unfoldable pub looks : ℕ → Net → ℕ → Tour → ℕ → Tour
looks n net b t k = fold (look (visit n net) net b) t (range_with_len 1 k)

-- The tour on which only this bar was visited.
abbrev pub only : ℕ → Tour
only b = record { order = b ∷ []; starts = [] }

-- The whole tour, from the infeed. No net within the limits nests more than 32 visits.
abbrev pub tour : Net → Tour
tour net = visit 32 net (infeed net) (only (infeed net))
