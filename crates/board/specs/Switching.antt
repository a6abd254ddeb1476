-- What it is to close a link on a board, and to split or undo the loop. Assumes nothing.
use Rattle.std.specs.Prelude.{◌≡◌, ℕ, Result, MatchResult}
use Rattle.faults.specs.declared.BoardFault.{BoardFault}
use Rattle.faults.specs.declared.BoardFault.TheVariants.{OffLoop}
use Rattle.net.specs.Nets.{InService}
use Rattle.net.specs.Settings.{Closed, closing, opening, Radial}
use Rattle.trees.specs.Cuts.{InLoop}
use Rattle.flood.specs.Closing.{NotClosable}
use Rattle.board.specs.declared.boards.Board.{Board}
use Rattle.board.specs.declared.boards.Looped.{Looped}
use Rattle.board.specs.Boards.{board_net, setting_of, looped_net, looped_setting, setting_before}

-- The looped board that comes of closing link l, which was in service and open.
pub record ClosedBy (b : Board) (l : ℕ) (s : Looped) : Type 0 where
  pub in_service : InService (board_net b) l
  pub was_open : ¬ Closed (setting_of b) l
  pub same_site : s.switches.site ≡ b.switches.site
  pub last : s.link ≡ l
  pub setting : looped_setting s ≡ closing (setting_of b) l
  pub before : setting_before s ≡ setting_of b

-- Link l is closed; or the board comes back as it was, with the first question that is answered no.
abbrev pub Closes : Board → ℕ → Result Looped (Board × BoardFault) → Type 0
Closes b l r = MatchResult r (ClosedBy b l) (λ e. (e.0 ≡ b) × NotClosable (board_net b) (setting_of b) l e.1)

-- The board on which the link closed last is open again.
pub record Undone (s : Looped) (b : Board) : Type 0 where
  pub same_site : b.switches.site ≡ s.switches.site
  pub setting : setting_of b ≡ setting_before s

-- The board on which link l, which was on the loop, is open; its setting is radial.
pub record SplitAt (s : Looped) (l : ℕ) (b : Board) : Type 0 where
  pub on_loop : InLoop (looped_net s) (setting_before s) s.link l
  pub radial : Radial (looped_net s) (opening (looped_setting s) l)
  pub same_site : b.switches.site ≡ s.switches.site
  pub setting : setting_of b ≡ opening (looped_setting s) l

-- Link l is off the loop, and opening it would leave no radial setting.
pub record NoSplit (s : Looped) (l : ℕ) : Type 0 where
  pub off_loop : ¬ InLoop (looped_net s) (setting_before s) s.link l
  pub not_radial : ¬ Radial (looped_net s) (opening (looped_setting s) l)

-- The loop is split at l, where l is on it; else it is undone. So opening l leaves a radial setting exactly where l is on the loop.
abbrev pub Splits : Looped → ℕ → Result Board (Board × BoardFault) → Type 0
Splits s l r = MatchResult r (SplitAt s l) (λ e. Undone s e.0 × (e.1 ≡ OffLoop l) × NoSplit s l)
