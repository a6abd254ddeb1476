-- The exchanges still to come where a search stands. Assumes nothing.
use Rattle.std.specs.Prelude.{ℕ, zero, suc, Bool, true, ◌&&◌, List, [], ◌∷◌, ◌++◌, drop, Some, None, filter, Option, nat_le}
use Rattle.std.specs.List.{flat_map}
use Rattle.net.specs.Nets.{Net}
use Rattle.net.specs.Settings.{Setting}
use Rattle.survey.specs.Surveys.{link_order}
use Rattle.trees.specs.Cuts.{swapped}
use Rattle.trees.specs.Rules.{start_link_of}
use Rattle.trees.specs.Listings.{enters, Exchanged, forward, back, events}
use Rattle.search.specs.Descents.{Descent, link_at, setting_at}

-- The exchanges of T for one entering link: forward, the child's events, back.
abbrev pub visit : Net → Setting → ℕ → ℕ → List Exchanged
visit net T zero g = []
visit net T (suc k) g = forward (start_link_of net (suc k)) g ∷ (events net k (swapped T (start_link_of net (suc k)) g) ++ (back g (start_link_of net (suc k)) ∷ []))

-- The links of a rank above m that may enter T for the start link of rank k, in rising rank.
abbrev pub entering_above_mark : Net → Setting → ℕ → ℕ → List ℕ
entering_above_mark net T k m = filter (enters net T k) (drop m (link_order net))

-- What is to come in T at ceiling k, past the entering link of rank m; then what comes later.
abbrev pub past : Net → Setting → ℕ → ℕ → List Exchanged → List Exchanged
past net T zero m later = later
past net T (suc k) m later = flat_map (visit net T (suc k)) (entering_above_mark net T (suc k) m) ++ (events net k T ++ later)

-- What is to come when nothing more is to come in the setting of a descent: its exchanges are taken back, the latest first, each followed by what is left in the parent.
abbrev pub climb : Net → Descent → List Exchanged
climb net [] = []
climb net ((k, r) ∷ d) = back (link_at net r) (start_link_of net k) ∷ past net (setting_at net d) k r (climb net d)

-- What is to come where the link of this rank enters next, or none does.
abbrev pub to_come : Net → Descent → ℕ → Option ℕ → List Exchanged
to_come net d k None = climb net d
to_come net d k (Some r) = visit net (setting_at net d) k (link_at net r) ++ past net (setting_at net d) k r (climb net d)

-- The test that the link of this rank, if any, may enter.
abbrev pub may_come_next : Net → Descent → ℕ → Option ℕ → Bool
may_come_next net d k None = true
may_come_next net d k (Some r) = nat_le 1 k && enters net (setting_at net d) k (link_at net r)

-- The first of a list.
abbrev pub first : {A : Type 0} → List A → Option A
first [] = None
first (x ∷ xs) = Some x
