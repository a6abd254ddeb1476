-- What it is to exchange one link of a board for another. Assumes nothing.
use Rattle.std.specs.Prelude.{◌≡◌, ℕ, Result, MatchResult}
use Rattle.faults.specs.declared.BoardFault.{BoardFault}
use Rattle.faults.specs.declared.BoardFault.TheVariants.{RowLength, NotInService, NotOpen, OffLoop, NotRadial}
use Rattle.net.specs.Nets.{InService}
use Rattle.net.specs.Settings.{Closed, closing, opening, Radial}
use Rattle.trees.specs.Cuts.{InLoop}
use Rattle.board.specs.declared.boards.Board.{Board}
use Rattle.board.specs.Boards.{board_net, setting_of}

-- The board on which a link that was in service and open is closed, and a link of the loop is open.
pub record ExchangedBy (b : Board) (out into : ℕ) (b' : Board) : Type 0 where
  pub in_service : InService (board_net b) into
  pub was_open : ¬ Closed (setting_of b) into
  pub on_loop : InLoop (board_net b) (setting_of b) into out
  pub same_site : b'.switches.site ≡ b.switches.site
  pub setting : setting_of b' ≡ opening (closing (setting_of b) into) out

-- The link out is off the loop, and opening it would leave no radial setting.
pub record OffTheLoop (b : Board) (out into : ℕ) : Type 0 where
  pub in_service : InService (board_net b) into
  pub was_open : ¬ Closed (setting_of b) into
  pub off_loop : ¬ InLoop (board_net b) (setting_of b) into out
  pub not_radial : ¬ Radial (board_net b) (opening (closing (setting_of b) into) out)

-- The first question about an exchange that is answered no.
abbrev pub NoExchange : Board → ℕ → ℕ → BoardFault → Type 0
NoExchange b out into (NotInService l) = (l ≡ into) × (¬ InService (board_net b) into)
NoExchange b out into (NotOpen l) = (l ≡ into) × InService (board_net b) into × Closed (setting_of b) into
NoExchange b out into (OffLoop l) = (l ≡ out) × OffTheLoop b out into
NoExchange b out into RowLength = ⊥
NoExchange b out into NotRadial = ⊥

-- The board after an exchange, or the first question that is answered no.
abbrev pub Exchanges : Board → ℕ → ℕ → Result Board BoardFault → Type 0
Exchanges b out into r = MatchResult r (ExchangedBy b out into) (NoExchange b out into)
