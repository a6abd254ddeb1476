-- The first question about a record that is answered no, where a replay stands. Assumes nothing.
use Rattle.std.specs.Prelude.{◌≡◌, ℕ, suc, ◌+◌, ◌<◌, ◌≤◌, ◌≢◌, List, [], ◌∷◌, length}
use Rattle.faults.specs.declared.ReplayFault.{ReplayFault}
use Rattle.faults.specs.declared.ReplayFault.TheVariants.{Misplaced, AnotherNet, SameLinks, TooDeep, NotReversal, WrongEnd, OnBoard}
use Rattle.faults.specs.declared.BoardFault.TheVariants.{NotInService, NotOpen, OffLoop, NotRadial}
use Rattle.net.specs.Nets.{Net, InService}
use Rattle.net.specs.Settings.{Setting, Closed, closing, Radial}
use Rattle.trees.specs.Cuts.{InLoop}
use Rattle.stream.specs.Records.{Record, N, S, F, B, Z}
use Rattle.replay.specs.Places.{Place, unopened, starting, walking, ended}

-- A record of this kind may stand here: N first, then S up to one fewer than the bars, then F, B and Z.
abbrev pub MayStand : Place → Record → Type 0
MayStand unopened (N bars links) = Unit {0}
MayStand unopened (S l) = ⊥
MayStand unopened (F out into) = ⊥
MayStand unopened (B out into) = ⊥
MayStand unopened (Z n) = ⊥
MayStand (starting T count) (N bars links) = ⊥
MayStand (starting T count) (S l) = Unit {0}
MayStand (starting T count) (F out into) = ⊥
MayStand (starting T count) (B out into) = ⊥
MayStand (starting T count) (Z n) = ⊥
MayStand (walking start T pending shown) (N bars links) = ⊥
MayStand (walking start T pending shown) (S l) = ⊥
MayStand (walking start T pending shown) (F out into) = Unit {0}
MayStand (walking start T pending shown) (B out into) = Unit {0}
MayStand (walking start T pending shown) (Z n) = Unit {0}
MayStand (ended start shown) r = ⊥

-- The questions about the record at a byte are asked in order, and this is the first no.
pub data Refuses (net : Net) (at : ℕ) : Place → Record → ReplayFault → Type 0 where
  stands_not : {p : Place} {r : Record} → ¬ MayStand p r → Refuses net at p r (Misplaced at)
  matches_not : {bars links : ℕ} → ¬ ((bars ≡ net.bars) × (links ≡ length net.links)) → Refuses net at unopened (N bars links) (AnotherNet at)
  start_unserved : {T : Setting} {count l : ℕ} → ¬ InService net l → Refuses net at (starting T count) (S l) (OnBoard (NotInService l) at)
  start_closed : {T : Setting} {count l : ℕ} → InService net l → Closed T l → Refuses net at (starting T count) (S l) (OnBoard (NotOpen l) at)
  starts_no_radial : {T : Setting} {count l : ℕ} → InService net l → ¬ Closed T l → suc count + 1 ≡ net.bars → ¬ Radial net (closing T l)
      → Refuses net at (starting T count) (S l) (OnBoard NotRadial at)
  same : {start T : Setting} {pending : List (ℕ × ℕ)} {shown l : ℕ} → Refuses net at (walking start T pending shown) (F l l) (SameLinks at)
  deep : {start T : Setting} {pending : List (ℕ × ℕ)} {shown out into : ℕ} → out ≢ into → net.bars ≤ length pending + 1
      → Refuses net at (walking start T pending shown) (F out into) (TooDeep at)
  in_unserved : {start T : Setting} {pending : List (ℕ × ℕ)} {shown out into : ℕ} → out ≢ into → length pending + 1 < net.bars → ¬ InService net into
      → Refuses net at (walking start T pending shown) (F out into) (OnBoard (NotInService into) at)
  in_closed : {start T : Setting} {pending : List (ℕ × ℕ)} {shown out into : ℕ} → out ≢ into → length pending + 1 < net.bars → InService net into → Closed T into
      → Refuses net at (walking start T pending shown) (F out into) (OnBoard (NotOpen into) at)
  out_off_loop : {start T : Setting} {pending : List (ℕ × ℕ)} {shown out into : ℕ} → out ≢ into → length pending + 1 < net.bars → InService net into → ¬ Closed T into
      → ¬ InLoop net T into out → Refuses net at (walking start T pending shown) (F out into) (OnBoard (OffLoop out) at)
  reverses_not : {start T : Setting} {pending : List (ℕ × ℕ)} {shown out into : ℕ} → ((rest : List (ℕ × ℕ)) → pending ≢ (into, out) ∷ rest)
      → Refuses net at (walking start T pending shown) (B out into) (NotReversal at)
  ends_not : {start T : Setting} {pending : List (ℕ × ℕ)} {shown n : ℕ} → ¬ ((pending ≡ []) × (n ≡ shown)) → Refuses net at (walking start T pending shown) (Z n) (WrongEnd at)
