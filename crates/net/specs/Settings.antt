-- Settings of a net, what they reach, and which are radial. Assumes nothing.
use Rattle.std.specs.Prelude.{◌≡◌, ℕ, ◌+◌, Bool, true, false, List, map, length, replicate, is_some, fold, count_by}
use Rattle.net.specs.Nets.{nth, put, Net, IsBar, infeed, Joins, InService}

-- A setting: for each link, by its number, whether it is closed.
abbrev pub Setting : Type 0
Setting = List Bool

-- Link l is closed.
abbrev pub Closed : Setting → ℕ → Type 0
Closed T l = nth T l false ≡ true

-- The setting with link l closed.
abbrev pub closing : Setting → ℕ → Setting
closing T l = put T l true

-- The setting with link l open.
abbrev pub opening : Setting → ℕ → Setting
opening T l = put T l false

-- How many links are closed.
abbrev pub closed_links : Setting → ℕ
closed_links T = count_by (λ c. c) T

-- The setting of a net in which every link in service is closed.
abbrev pub every_closed : Net → Setting
every_closed net = map is_some net.links

-- The setting of a net in which just the links of this list are closed.
abbrev pub just_closed : Net → List ℕ → Setting
just_closed net ls = fold closing (replicate (length net.links) false) ls

-- A way from a along a relation between bars: none at all, or a way and one step more.
pub data Way (R : ℕ → ℕ → Type 0) (a : ℕ) : ℕ → Type 0 where
  here : Way R a a
  onward : {b c : ℕ} → Way R a b → R b c → Way R a c

-- A step from a to b: a closed link joins them.
pub record Step (net : Net) (T : Setting) (a b : ℕ) : Type 0 where
  pub over : ℕ
  pub closed : Closed T over
  pub joins : Joins net over a b

-- Bar b is reached from bar a over closed links.
abbrev pub Reach : Net → Setting → ℕ → ℕ → Type 0
Reach net T a b = Way (Step net T) a b

-- A radial setting (a spanning tree): closed links are in service, one fewer than the bars, and every bar is reached from the infeed.
pub record Radial (net : Net) (T : Setting) : Type 0 where
  pub one_a_link : length T ≡ length net.links
  pub in_service : (l : ℕ) → Closed T l → InService net l
  pub one_fewer : closed_links T + 1 ≡ net.bars
  pub all_reached : (b : ℕ) → IsBar net b → Reach net T (infeed net) b
