-- The streams that a replay accepts, and for every other stream the first question that is answered no, with its place. Assumes nothing.
use Rattle.std.specs.Prelude.{◌≡◌, ℕ, ◌≢◌, List, [], ◌++◌, length}
use Rattle.faults.specs.declared.ReplayFault.{ReplayFault}
use Rattle.faults.specs.declared.ReplayFault.TheVariants.{Unread, Misplaced}
use Rattle.faults.specs.declared.StreamFault.TheVariants.{UnknownKind, BodyCut}
use Rattle.net.specs.Nets.{Net}
use Rattle.net.specs.Settings.{Setting}
use Rattle.stream.specs.Records.{Record, records_bytes}
use Rattle.stream.specs.Fronts.{Whole, NoKind, Cut, FrontIs}
use Rattle.replay.specs.Places.{Place, unopened, starting, walking, ended, Comes}
use Rattle.replay.specs.Refusals.{Refuses}

-- The bytes are those of records that lead to the end: this is their starting set, and so many settings are shown.
pub record Accepts (net : Net) (bytes : List ℕ) (start : Setting) (shown : ℕ) : Type 0 where
  pub records : List Record
  pub written : bytes ≡ records_bytes records
  pub come : Comes net records (ended start shown)

-- A place at which more records are to come.
abbrev pub GoesOn : Place → Type 0
GoesOn unopened = Unit {0}
GoesOn (starting T count) = Unit {0}
GoesOn (walking start T pending shown) = Unit {0}
GoesOn (ended start shown) = ⊥

-- Why a replay stops at a byte, before the rest of the bytes: they go on after the end; they end too soon; the record that stands there is of no known kind,
-- has not its whole body, or is refused.
pub data Stops (net : Net) (at : ℕ) : Place → List ℕ → ReplayFault → Type 0 where
  past_end : {start : Setting} {shown : ℕ} {rest : List ℕ} → rest ≢ [] → Stops net at (ended start shown) rest (Misplaced at)
  too_soon : {p : Place} → GoesOn p → Stops net at p [] (Misplaced at)
  unknown : {p : Place} {rest : List ℕ} → GoesOn p → FrontIs rest NoKind → Stops net at p rest (Unread (UnknownKind at))
  body_cut : {p : Place} {rest : List ℕ} → GoesOn p → FrontIs rest Cut → Stops net at p rest (Unread (BodyCut at))
  refused : {p : Place} {rest more : List ℕ} {r : Record} {f : ReplayFault} → GoesOn p → FrontIs rest (Whole r more) → Refuses net at p r f → Stops net at p rest f

-- The bytes begin with records that a replay reads, and where it stands then, it stops at the first byte after them.
pub record Refused (net : Net) (bytes : List ℕ) (f : ReplayFault) : Type 0 where
  pub records : List Record
  pub place : Place
  pub rest : List ℕ
  pub written : bytes ≡ records_bytes records ++ rest
  pub come : Comes net records place
  pub stops : Stops net (length (records_bytes records)) place rest f

-- Bytes have one answer: they are accepted with one starting set and one number of settings, or refused with one fault, and not both.
pub record OneAnswer (net : Net) (bytes : List ℕ) : Type 0 where
  pub one_start : (start start' : Setting) (shown shown' : ℕ) → Accepts net bytes start shown → Accepts net bytes start' shown' → (start ≡ start') × (shown ≡ shown')
  pub one_fault : (f f' : ReplayFault) → Refused net bytes f → Refused net bytes f' → f ≡ f'
  pub not_both : (start : Setting) (shown : ℕ) (f : ReplayFault) → Accepts net bytes start shown → ¬ Refused net bytes f
