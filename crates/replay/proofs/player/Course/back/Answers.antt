use Rattle.std.proofs.Common.{refl}
use Rattle.std.proofs.lemmas.Result.{MatchResult-at_ok}
use Rattle.replay.specs.Exchanges.{ExchangedBy}
use Rattle.replay.specs.Pending.{pending_of}
use Rattle.replay.specs.Refusals.{reverses_not}
use Rattle.replay.proofs.Backs.{back_ok, back_reversible, back_taken}
use Rattle.replay.proofs.player.Course.back.Goals as goal

pub returns-then-not-take_back : goal.returns-then-not-take_back
returns-then-not-take_back c = reverses_not c.if-not-take_back.ensures.1

pub unwrap-board-requires : goal.unwrap-board-requires
unwrap-board-requires c =
    back_ok c.args.self c.args.swap.link_out c.args.swap.link_in (pending_of c.take_back.new.self) c.if-not-take_back.ensures c.exchange.result c.exchange.ensures

pub invariant_of-result : goal.invariant_of-result
invariant_of-result c =
    let x : ExchangedBy c.args.self.board c.args.swap.link_out c.args.swap.link_in c.unwrap-board.result = MatchResult-at_ok _ _ c.unwrap-board.result c.unwrap-board.ensures c.exchange.ensures in
    record { reversible = back_reversible c.args.self c.args.swap.link_out c.args.swap.link_in (pending_of c.take_back.new.self) c.if-not-take_back.ensures c.unwrap-board.result x }

pub returns : goal.returns
returns c =
    let x : ExchangedBy c.args.self.board c.args.swap.link_out c.args.swap.link_in c.unwrap-board.result = MatchResult-at_ok _ _ c.unwrap-board.result c.unwrap-board.ensures c.exchange.ensures in
    back_taken c.args.self c.args.swap.link_out c.args.swap.link_in (pending_of c.take_back.new.self) c.if-not-take_back.ensures _ x refl refl
