use Rattle.std.proofs.Common.{refl}
use Rattle.replay.proofs.Ends.{end_goes, end_refused}
use Rattle.replay.proofs.player.Course.end.Goals as goal

pub returns-then-not-may_end : goal.returns-then-not-may_end
returns-then-not-may_end c = end_refused c.args.self c.args.settings c.args.place c.if-not-may_end.ensures

pub returns : goal.returns
returns c = record { same_site = refl; goes = end_goes c.args.self c.args.settings c.if-not-may_end.ensures }
