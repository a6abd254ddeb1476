use Rattle.std.proofs.lemmas.Result.{err_from_is_err_and}
use Rattle.survey.specs.Answers.{net_of}
use Rattle.flood.specs.Marked.{switched}
use Rattle.replay.proofs.Started.{start_taken, not_closable}
use Rattle.replay.proofs.player.Starts.start.Goals as goal

pub returns-in_err-may_close : goal.returns-in_err-may_close
returns-in_err-may_close c =
    let p = err_from_is_err_and c.from_residual.result c.from_residual.ensures.1 in
    let s = c.args.self in
    rw (p.1, p.2) (not_closable (net_of s.switches.site) (switched s.switches) s.closed c.args.link c.in_err-may_close.field-0.0 c.in_err-may_close.ensures)

pub returns : goal.returns
returns c =
    let s = c.args.self in
    let (served, is_open) = c.in_ok-may_close.ensures in
    start_taken s.switches c.put.new.self s.closed c.args.link served is_open c.put.ensures.site c.put.ensures.row c.begin.result c.begin.ensures
