use Rattle.std.proofs.lemmas.Result.{err_from_is_err_and}
use Rattle.survey.specs.Answers.{net_of}
use Rattle.stream.specs.Bodies.{record_of}
use Rattle.stream.specs.Readers.{rest_of}
use Rattle.replay.specs.Players.{place_of, site_of_player}
use Rattle.replay.proofs.Stepped.{unread_stops, some_steps, end_stops}
use Rattle.replay.proofs.replays.step.Goals as goal

pub returns-then-has_ended : goal.returns-then-has_ended
returns-then-has_ended c =
    let p = c.args.player in
    end_stops (net_of (site_of_player p)) c.args.reader.now.place c.place.result (place_of p) (rest_of c.args.reader.now) c.if-has_ended.ensures c.requires.left c.place.ensures

pub returns-in_err-place : goal.returns-in_err-place
returns-in_err-place c =
    let p = err_from_is_err_and c.from_residual.result c.from_residual.ensures.1 in
    rw (p.1, p.2) (unread_stops c.args.player c.args.reader.now c.next.new.self c.if-has_ended.ensures c.in_err-place.field-0.0 c.in_err-place.ensures)

pub returns : goal.returns
returns c =
    some_steps c.args.player c.args.reader.now c.next.new.self c.if-has_ended.ensures c.in_ok-place.field-0 c.in-Some.place c.in-Some.body (record_of c.decode.result)
    c.in-Some.is c.in_ok-place.ensures c.decode.ensures.said c.take.result c.take.ensures
