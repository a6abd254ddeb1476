-- What a tally counts, and its rule. Assumes nothing.
use Rattle.std.specs.Prelude.{ℕ, ◌+◌, Bool, true, false, cond, List, map, nat_le}
use Rattle.std.specs.List.{range_with_len}
use Rattle.net.specs.Nets.{nth, put, Net}
use Rattle.net.specs.Tested.{every}
use Rattle.survey.specs.Surveys.{start_setting}
use Rattle.trees.specs.Listings.{Exchanged}

-- For each link, by its number, whether it is closed, and a count.
abbrev pub Counts : Type 0
Counts = List (Bool × ℕ)

-- Link l is closed, or opened, and keeps its count.
abbrev pub switched : Counts → ℕ → Bool → Counts
switched ks l closed = put ks l (closed, (nth ks l (false, 0)).1)

-- The link out of an exchange is opened and its link in is closed.
abbrev pub switched_by : Counts → Exchanged → Counts
switched_by ks x = switched (switched ks x.1.0 false) x.1.1 true

-- One more for a closed link.
abbrev pub counted_once_more : Bool × ℕ → Bool × ℕ
counted_once_more k = (k.0, cond k.0 (k.1 + 1) k.1)

-- After a forward exchange every closed link counts one more.
abbrev pub counted_after : Bool → Counts → Counts
counted_after is_forward ks = cond is_forward (map counted_once_more ks) ks

-- The rule: an exchange switches its links, and then is counted.
abbrev pub tallied : Counts → Exchanged → Counts
tallied ks x = counted_after x.0 (switched_by ks x)

-- The start setting of a net at link l: a closed link counts 1 and an open one 0.
abbrev pub start_count : Net → ℕ → Bool × ℕ
start_count net l = (nth (start_setting net) l false, cond (nth (start_setting net) l false) 1 0)

-- The counts at the start setting of a net, for the numbers 1 to 60.
unfoldable pub start_counts : Net → Counts
start_counts net = map (start_count net) (range_with_len 1 60)

-- The test that no count is more than n.
abbrev pub counts_to : ℕ → Counts → Bool
counts_to n ks = every (λ k. nat_le k.1 n) ks
