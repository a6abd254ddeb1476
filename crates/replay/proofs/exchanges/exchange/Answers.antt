use borrow.Author.Tests.{tests}
use Rattle.std.proofs.Common.{◌≡◌, rules, subst}
use Rattle.flood.specs.Closing.{NotClosable}
use Rattle.std.proofs.lemmas.Result.{MatchResult-at_ok}
use Rattle.board.specs.Boards.{board_net, setting_of}
use Rattle.board.specs.Switching.{ClosedBy, Closes, Splits}
use Rattle.replay.proofs.Errors.{mapped}
use Rattle.replay.proofs.Exchanged.{exchanged}
use Rattle.replay.proofs.exchanges.exchange.Goals as goal

pub returns : goal.returns
returns c =
    let b = c.args.board in
    let out = c.args.swap.link_out in
    let into = c.args.swap.link_in in
    let s = c.in_ok-looped.looped in
    let closed = mapped (ClosedBy b into) (λ e. (e.0 ≡ b) × NotClosable (board_net b) (setting_of b) into e.1) (λ _. Unit {0}) c.close.result c.map_err.result c.map_err.ensures.cases
    (subst (λ l. Closes b l c.close.result) c.from.ensures c.close.ensures) (λ e f no_way said. tt) in
    exchanged b s out into (MatchResult-at_ok _ _ s c.in_ok-looped.was closed) c.split.result c.map_err-2.result c.map_err-2.ensures.cases (subst (λ l. Splits s l c.split.result) c.from-2.ensures c.split.ensures) (λ e d m. search (rules, tests))
