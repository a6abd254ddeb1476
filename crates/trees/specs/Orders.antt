-- The listing order: chains of parents up to the start setting, compared on the way down. Assumes nothing.
use Rattle.std.specs.Prelude.{◌≡◌, ℕ, ◌<◌, List, [], ◌∷◌, ◌++◌, Some}
use Rattle.net.specs.Nets.{Net}
use Rattle.net.specs.Settings.{Setting}
use Rattle.survey.specs.Ranks.{rank_in}
use Rattle.survey.specs.Surveys.{start_setting, link_order}
use Rattle.trees.specs.Rules.{IsParent}

-- One exchange of a chain: the rank of the leaving link and that of the entering link.
pub data Move : Type 0 where
  move : ℕ → ℕ → Move

-- The chain of a setting: the exchanges by which it descends from the start setting, the oldest first.
pub data Chain (net : Net) : Setting → List Move → Type 0 where
  start : Chain net (start_setting net) []
  child : {P T : Setting} {k g r : ℕ} {c : List Move} → Chain net P c → IsParent net P T k g → rank_in (link_order net) g ≡ Some r
      → Chain net T (c ++ (move k r ∷ []))

-- A chain is earlier: it is a beginning of the other, or where they part its leaving rank is higher, or this is the same and its entering rank lower.
pub data Earlier : List Move → List Move → Type 0 where
  shorter : {m : Move} {c : List Move} → Earlier [] (m ∷ c)
  leaves_higher : {k j g h : ℕ} {c d : List Move} → j < k → Earlier (move k g ∷ c) (move j h ∷ d)
  enters_lower : {k g h : ℕ} {c d : List Move} → g < h → Earlier (move k g ∷ c) (move k h ∷ d)
  later_on : {m : Move} {c d : List Move} → Earlier c d → Earlier (m ∷ c) (m ∷ d)

-- Setting S comes before T in the listing.
abbrev pub Before : Net → Setting → Setting → Type 0
Before net S T = (c : List Move) × (d : List Move) × Chain net S c × Chain net T d × Earlier c d
