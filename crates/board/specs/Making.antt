-- What a new board is. Assumes nothing.
use Rattle.std.specs.Prelude.{◌≡◌, ℕ, List, Result, MatchResult}
use Rattle.faults.specs.declared.BoardFault.{BoardFault}
use Rattle.faults.specs.declared.BoardFault.TheVariants.{RowLength, NotInService, NotOpen, OffLoop, NotRadial}
use Rattle.net.specs.Nets.{Net}
use Rattle.net.specs.Settings.{Radial}
use Rattle.survey.specs.declared.surveyed.Surveyed.{Surveyed}
use Rattle.survey.specs.Answers.{net_of}
use Rattle.board.specs.declared.boards.Board.{Board}
use Rattle.flood.specs.declared.switches.Switches.{Switches}
use Rattle.flood.specs.Marked.{switched}
use Rattle.flood.specs.Rows.{OneALink}
use Rattle.board.specs.Rows.{setting_in}
use Rattle.board.specs.Boards.{setting_of}

-- The board of a radial row.
pub record BoardOf (site : Surveyed) (row : List ℕ) (b : Board) : Type 0 where
  pub same_site : b.switches.site ≡ site
  pub setting : setting_of b ≡ setting_in row
  pub radial : Radial (net_of site) (setting_in row)

-- The first question about a row that is answered no.
abbrev pub NoBoard : Net → List ℕ → BoardFault → Type 0
NoBoard net row RowLength = ¬ OneALink net row
NoBoard net row NotRadial = OneALink net row × (¬ Radial net (setting_in row))
NoBoard net row (NotInService l) = ⊥
NoBoard net row (NotOpen l) = ⊥
NoBoard net row (OffLoop l) = ⊥

-- The board of a row, or the first question that is answered no.
abbrev pub Makes : Surveyed → List ℕ → Result Board BoardFault → Type 0
Makes site row r = MatchResult r (BoardOf site row) (NoBoard (net_of site) row)

-- The board of switches whose closed links form a radial setting; any others are refused.
abbrev pub MakesOf : Switches → Result Board BoardFault → Type 0
MakesOf s r = MatchResult r
    (λ b. (b.switches ≡ s) × Radial (net_of s.site) (switched s))
    (λ f. (f ≡ NotRadial) × (¬ Radial (net_of s.site) (switched s)))
