-- The listing: the exchanges that lead through all radial settings. Assumes nothing.
use Rattle.std.specs.Prelude.{ℕ, zero, suc, ◌-◌, Bool, true, false, cond, not, ◌&&◌, List, [], ◌∷◌, ◌++◌, replicate, Some, None, fold, filter, Option, ◌==◌}
use Rattle.std.specs.List.{flat_map}
use Rattle.net.specs.Nets.{nth, put, Net, ends_of, infeed}
use Rattle.net.specs.Settings.{Setting, opening}
use Rattle.survey.specs.Surveys.{start_setting, link_order}
use Rattle.trees.specs.Cuts.{swapped}
use Rattle.trees.specs.Rules.{start_link_of}

-- A closed link with one bar marked marks the other.
abbrev pub touch : Option (ℕ × ℕ) → Bool → List Bool → List Bool
touch None c M = M
touch (Some (a, b)) false M = M
touch (Some (a, b)) true M = cond (nth M a false) (put M b true) (cond (nth M b false) (put M a true) M)

-- Each link in turn.
abbrev pub sweep : List (Option (ℕ × ℕ)) → Setting → List Bool → List Bool
sweep [] T M = M
sweep (l ∷ ls) [] M = M
sweep (l ∷ ls) (c ∷ T) M = sweep ls T (touch l c M)

abbrev pub sweeps : ℕ → Net → Setting → List Bool → List Bool
sweeps zero net T M = M
sweeps (suc n) net T M = sweeps n net T (sweep net.links T M)

-- The bars that are reached from the infeed over closed links, marked: as many sweeps as there are bars reach them all.
abbrev pub fed : Net → Setting → List Bool
fed net T = sweeps net.bars net T (put (replicate net.bars false) (infeed net) true)

-- One of a link's two bars is marked, and one is not.
abbrev pub crosses : List Bool → Option (ℕ × ℕ) → Bool
crosses M None = false
crosses M (Some (a, b)) = cond (nth M a false) (not (nth M b false)) (nth M b false)

-- The test of link g for the leaving link e: it is open and another link, and in both cuts; M and M0 mark the sides of these, of T and of the start setting.
abbrev pub may_enter_link : Net → List Bool → List Bool → Setting → ℕ → ℕ → Bool
may_enter_link net M M0 T e g = (not (nth T g false) && not (g == e)) && (crosses M (ends_of net g) && crosses M0 (ends_of net g))

-- The test that link g may enter T for the start link of rank k.
abbrev pub enters : Net → Setting → ℕ → ℕ → Bool
enters net T k g = may_enter_link net (fed net (opening T (start_link_of net k))) (fed net (opening (start_setting net) (start_link_of net k))) T (start_link_of net k) g

-- The links that may enter T for the start link of rank k, in rising rank.
abbrev pub entering_links : Net → Setting → ℕ → List ℕ
entering_links net T k = filter (enters net T k) (link_order net)

-- An exchange: forward or back, the link out and the link in.
abbrev pub Exchanged : Type 0
Exchanged = Bool × (ℕ × ℕ)

abbrev pub forward : ℕ → ℕ → Exchanged
forward e g = (true, (e, g))

abbrev pub back : ℕ → ℕ → Exchanged
back g e = (false, (g, e))

-- The events of T for leaving links of rank k and less: leaving links in falling rank, for each the entering links in rising rank;
-- for each pair the forward exchange, the child's events, the back exchange.
abbrev pub events : Net → ℕ → Setting → List Exchanged
events net zero T = []
events net (suc k) T =
    flat_map (λ g. forward (start_link_of net (suc k)) g ∷ (events net k (swapped T (start_link_of net (suc k)) g) ++ (back g (start_link_of net (suc k)) ∷ []))) (entering_links net T (suc k))
    ++ events net k T

-- The listing: the events of the start setting, all of whose start links may leave.
abbrev pub listing : Net → List Exchanged
listing net = events net (net.bars - 1) (start_setting net)

-- The setting that an exchange reaches: its link out is opened and its link in closed.
abbrev pub exchanged : Setting → Exchanged → Setting
exchanged T x = swapped T x.1.0 x.1.1

-- The setting that a list of exchanges reaches from T.
abbrev pub reached_by : Setting → List Exchanged → Setting
reached_by T xs = fold exchanged T xs

-- The settings that forward exchanges reach, one after another, from T.
abbrev pub told_after : Setting → List Exchanged → List Setting
told_after T [] = []
told_after T (x ∷ xs) = cond x.0 (exchanged T x ∷ told_after (exchanged T x) xs) (told_after (exchanged T x) xs)

-- The settings told: the start setting, then the one that each forward exchange reaches.
abbrev pub told : Net → List Exchanged → List Setting
told net xs = start_setting net ∷ told_after (start_setting net) xs
