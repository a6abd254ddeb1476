use Rattle.std.proofs.Common.{false, refl}
use Rattle.std.proofs.lemmas.Bool.{both_ways}
use Rattle.std.proofs.lemmas.Result.{MatchResult-at_ok}
use Rattle.replay.specs.Refusals.{matches_not}
use Rattle.replay.proofs.Opened.{opens_ok, opens_taken}
use Rattle.replay.proofs.player.opening.open.Goals as goal

pub returns-then-not-has_size : goal.returns-then-not-has_size
returns-then-not-has_size c = matches_not (λ same. both_ways false refl (c.if-not-has_size.ensures.1 same))

pub unwrap-requires : goal.unwrap-requires
unwrap-requires c = opens_ok c.args.site c.new.result c.new.ensures.site c.new.ensures.row c.begin.result c.begin.ensures

pub returns : goal.returns
returns c =
    let (same-bars, same_links) = c.if-not-has_size.ensures.0 refl in
    opens_taken c.args.site c.new.result c.new.ensures.site c.new.ensures.row c.args.bars c.args.links c.unwrap.result same-bars same_links
    (MatchResult-at_ok _ _ c.unwrap.result c.unwrap.ensures c.begin.ensures)
