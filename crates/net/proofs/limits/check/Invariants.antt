use Rattle.net.specs.Limits.{PassBelow}
use Rattle.net.proofs.limits.check.Given as goal

-- every link so far passed its two questions
abbrev pub invariant-loop-link : goal.invariant-loop-link
invariant-loop-link g l = PassBelow (g.S.NetSource.meaning l.source) l.link
