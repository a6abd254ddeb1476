-- What a survey finds: ranks of bars and links, and the start setting. Assumes nothing.
use Rattle.std.specs.Prelude.{◌≡◌, ℕ, suc, ◌<◌, ◌≤◌, min, true, not, ◌&&◌, ◌⊎◌, List, ◌++◌, length, is_some, Some, None, filter, Option, ◌==◌}
use Rattle.std.specs.List.{range_with_len, flat_map}
use Rattle.std.specs.Option.{unwrap_or}
use Rattle.net.specs.Nets.{nth, Net, ends_of, IsBar, infeed, Joins, InService}
use Rattle.net.specs.Settings.{Setting, every_closed, just_closed, Way, Reach, Radial}
use Rattle.survey.specs.Ranks.{rank_in, Ranks}
use Rattle.survey.specs.Visits.{Tour, tour}

-- The bars by rank.
abbrev pub bar_order : Net → List ℕ
bar_order net = (tour net).order

-- The start links by rank.
abbrev pub start_links : Net → List ℕ
start_links net = (tour net).starts

-- The lower rank of a link's two bars, where bars are ranked by this list; 0 for a link out of service.
abbrev pub lower_rank_of : List ℕ → Option (ℕ × ℕ) → ℕ
lower_rank_of order None = 0
lower_rank_of order (Some (a, b)) = min (unwrap_or (rank_in order a) 0) (unwrap_or (rank_in order b) 0)

-- The links in service that are no start links and whose lower rank is k, by own number.
abbrev pub others_at : Net → Tour → ℕ → List ℕ
others_at net t k = filter (λ l. (lower_rank_of t.order (ends_of net l) == k) && not (is_some (rank_in t.starts l))) (range_with_len 1 (length net.links))

-- The links in service that are no start links, by the lower rank of their bars, then by own number.
abbrev pub others : Net → Tour → List ℕ
others net t = flat_map (others_at net t) (range_with_len 1 net.bars)

-- The links in service by rank: the start links, then the others.
abbrev pub link_order : Net → List ℕ
link_order net = start_links net ++ others net (tour net)

-- The start setting: the start links are closed.
abbrev pub start_setting : Net → Setting
start_setting net = just_closed net (start_links net)

-- Every bar below b was visited.
abbrev pub VisitedBelow : Tour → ℕ → Type 0
VisitedBelow t b = (a : ℕ) → 1 ≤ a → a < b → is_some (rank_in t.order a) ≡ true

-- Bar b is the first that was not visited.
pub record FirstUnvisited (net : Net) (t : Tour) (b : ℕ) : Type 0 where
  pub is_bar : IsBar net b
  pub unvisited : rank_in t.order b ≡ None
  pub visited_below : VisitedBelow t b

-- Every bar is reached from the infeed when all links in service are closed.
abbrev pub AllReached : Net → Type 0
AllReached net = (b : ℕ) → IsBar net b → Reach net (every_closed net) (infeed net) b

-- Bar b is not so reached, and every lower bar is.
pub record LowestUnreached (net : Net) (b : ℕ) : Type 0 where
  pub is_bar : IsBar net b
  pub unreached : ¬ Reach net (every_closed net) (infeed net) b
  pub lower_reached : (a : ℕ) → 1 ≤ a → a < b → Reach net (every_closed net) (infeed net) a

-- Bar p is the parent of bar c: the start link of a rank joins p to c, whose rank is one more.
abbrev pub Parent : Net → ℕ → ℕ → Type 0
Parent net p c = (j : ℕ) × (1 ≤ j) × (rank_in (bar_order net) c ≡ Some (suc j)) × Joins net (nth (start_links net) j 0) p c

-- Bar a is bar b or an ancestor of it along start links.
abbrev pub Ancestor : Net → ℕ → ℕ → Type 0
Ancestor net a b = Way (Parent net) a b

-- Link l comes before link m: its lower rank is lower, or it is the same and its own number is lower.
abbrev pub Sooner : Net → ℕ → ℕ → Type 0
Sooner net l m =
    (lower_rank_of (bar_order net) (ends_of net l) < lower_rank_of (bar_order net) (ends_of net m))
    ⊎ ((lower_rank_of (bar_order net) (ends_of net l) ≡ lower_rank_of (bar_order net) (ends_of net m)) × (l < m))

-- What the ranks and the start setting of a net are, in the subject's words.
pub record WellRanked (net : Net) : Type 0 where
  -- every bar has one rank and every rank one bar
  pub bars_ranked : Ranks (IsBar net) (bar_order net)
  pub infeed_first : rank_in (bar_order net) (infeed net) ≡ Some 1
  -- start link j joins the bar of rank j + 1 to a bar of lower rank
  pub start_links_join : (j : ℕ) → 1 ≤ j → j < net.bars
      → (p : ℕ) × (k : ℕ) × (k ≤ j) × (rank_in (bar_order net) p ≡ Some k) × Joins net (nth (start_links net) j 0) p (nth (bar_order net) (suc j) 0)
  -- of each link in service one bar is an ancestor of the other
  pub ancestors : (l a b : ℕ) → Joins net l a b → Ancestor net a b ⊎ Ancestor net b a
  pub start_radial : Radial net (start_setting net)
  -- every link in service has one rank, the start links first
  pub links_ranked : Ranks (InService net) (link_order net)
  pub others_sorted : (j k : ℕ) → net.bars ≤ j → j < k → k ≤ length (link_order net) → Sooner net (nth (link_order net) j 0) (nth (link_order net) k 0)
