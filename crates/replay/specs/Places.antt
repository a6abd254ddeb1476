-- Where a replay stands, and which record takes it on from there. Assumes nothing.
use Rattle.std.specs.Prelude.{◌≡◌, ℕ, suc, ◌+◌, ◌<◌, false, cond, ◌≢◌, List, [], ◌∷◌, ◌++◌, length, replicate, ◌==◌}
use Rattle.net.specs.Nets.{Net, InService}
use Rattle.net.specs.Settings.{Setting, Closed, closing, Radial}
use Rattle.trees.specs.Cuts.{InLoop, swapped}
use Rattle.stream.specs.Records.{Record, N, S, F, B, Z}

-- Before the net's record; among the records of the starting set, with the links closed so far and their number; among the exchanges, with the starting set,
-- the setting reached, the forward exchanges (link out, link in) not yet reversed, the latest first, and the settings shown; or at the end.
pub data Place : Type 0 where
  unopened : Place
  starting : (T : Setting) (count : ℕ) → Place
  walking : (start T : Setting) (pending : List (ℕ × ℕ)) (shown : ℕ) → Place
  ended : (start : Setting) (shown : ℕ) → Place

-- The setting of a net with every link open.
abbrev pub all_open : Net → Setting
all_open net = replicate (length net.links) false

-- Once so many links of the starting set are closed: the exchanges may begin when they are one fewer than the bars.
abbrev pub begun : Net → Setting → ℕ → Place
begun net T count = cond (count + 1 == net.bars) (walking T T [] 1) (starting T count)

-- A record that may stand where a replay stands, and all of whose questions are answered yes; and where the replay stands then.
pub data Goes (net : Net) : Place → Record → Place → Type 0 where
  opens : {bars links : ℕ} → bars ≡ net.bars → links ≡ length net.links → Goes net unopened (N bars links) (begun net (all_open net) 0)
  starts : {T : Setting} {count l : ℕ} → InService net l → ¬ Closed T l → (suc count + 1 ≡ net.bars → Radial net (closing T l))
      → Goes net (starting T count) (S l) (begun net (closing T l) (suc count))
  forward : {start T : Setting} {pending : List (ℕ × ℕ)} {shown out into : ℕ} → out ≢ into → length pending + 1 < net.bars → InService net into → ¬ Closed T into → InLoop net T into out
      → Goes net (walking start T pending shown) (F out into) (walking start (swapped T out into) ((out, into) ∷ pending) (shown + 1))
  back : {start T : Setting} {pending : List (ℕ × ℕ)} {shown out into : ℕ}
      → Goes net (walking start T ((into, out) ∷ pending) shown) (B out into) (walking start (swapped T out into) pending shown)
  ends : {start T : Setting} {shown : ℕ} → Goes net (walking start T [] shown) (Z shown) (ended start shown)

-- The records that a replay has read, and where it stands.
pub data Comes (net : Net) : List Record → Place → Type 0 where
  nothing : Comes net [] unopened
  then : {rs : List Record} {p q : Place} {r : Record} → Comes net rs p → Goes net p r q → Comes net (rs ++ (r ∷ [])) q
