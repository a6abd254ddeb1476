use borrow.Author.Tests.{tests}
use Rattle.std.proofs.Common.{◌≡◌, rules, ◌+◌, length, MatchResult, sym, refl, subst}
use mathlib.Core.Logic.{∥∥₁_map}
use Rattle.std.proofs.lemmas.Bool.{leb-true}
use Rattle.std.proofs.lemmas.Result.{err_from_is_err_and, MatchResult-at_ok, MatchResult-at_err}
use Rattle.board.specs.Boards.{board_net, setting_of}
use Rattle.stream.specs.Records.{F}
use Rattle.faults.specs.declared.ReplayFault.TheVariants.{SameLinks, OnBoard}
use Rattle.replay.specs.Exchanges.{ExchangedBy, NoExchange}
use Rattle.replay.proofs.Errors.{mapped}
use Rattle.replay.specs.Pending.{pending_of}
use Rattle.replay.specs.Refusals.{Refuses, same, deep}
use Rattle.replay.specs.Reversals.{CanReverse}
use Rattle.replay.specs.Players.{course_place}
use Rattle.replay.proofs.Forwards.{forward_reversible, room_left, forward_taken, forward_refused}
use Rattle.replay.proofs.player.Course.forward.Goals as goal
use Rattle.replay.proofs.player.Course.forward.Goals.{After-map_err}

pub returns-then-swap : goal.returns-then-swap
returns-then-swap c =
    subst (λ l. Refuses (board_net c.args.self.board) c.args.place (course_place c.args.self) (F c.args.swap.link_out l) (SameLinks c.args.place)) c.if-swap.true same

pub returns-then-is_deep : goal.returns-then-is_deep
returns-then-is_deep c =
    let s = c.args.self in
    deep c.if-swap.false (leb-true (board_net s.board).bars (length (pending_of s.pending) + 1) (sym c.if-is_deep.ensures))

-- the exchange is made, or this is the fault
told : (c : After-map_err) → let s = c.args.self in
    MatchResult c.map_err.result (ExchangedBy s.board c.args.swap.link_out c.args.swap.link_in)
    (Refuses (board_net s.board) c.args.place (course_place s) (F c.args.swap.link_out c.args.swap.link_in))
told c =
    let s = c.args.self in
    let out = c.args.swap.link_out in
    let into = c.args.swap.link_in in
    mapped (ExchangedBy s.board out into) (NoExchange s.board out into) (Refuses (board_net s.board) c.args.place (course_place s) (F out into)) c.exchange.result c.map_err.result c.map_err.ensures.cases c.exchange.ensures
    (λ f g not_made said. let e : g ≡ OnBoard f c.args.place = search (rules, tests) in
    rw e (forward_refused s out into c.if-swap.false (room_left s c.if-is_deep.ensures) c.args.place f not_made))

pub returns-in_err-board : goal.returns-in_err-board
returns-in_err-board c =
    let p = err_from_is_err_and c.from_residual.result c.from_residual.ensures.1 in
    rw (p.1, p.2) (MatchResult-at_err _ _ c.in_err-board.field-0.0 c.in_err-board.was (told (goal.at.returns-in_err-board c).After-map_err))

pub invariant_of-result : goal.invariant_of-result
invariant_of-result c = record {
  reversible = ∥∥₁_map c.args.self.reversible (λ can. subst (CanReverse (board_net c.in_ok-board.board) (setting_of c.in_ok-board.board)) (sym c.push.ensures)
      (forward_reversible c.args.self.board c.in_ok-board.board c.args.swap.link_out c.args.swap.link_in c.if-swap.false (MatchResult-at_ok _ _ c.in_ok-board.board c.in_ok-board.was (told (goal.at.invariant_of-result c).After-map_err)) (pending_of c.args.self.pending) can));
}

pub returns : goal.returns
returns c =
    let s = c.args.self in
    forward_taken s c.args.swap.link_out c.args.swap.link_in c.if-swap.false (room_left s c.if-is_deep.ensures) _ (MatchResult-at_ok _ _ c.in_ok-board.board c.in_ok-board.was (told (goal.at.returns c).After-map_err)) c.push.ensures refl
