use Rattle.std.proofs.Common.{◌+◌, length}
use Rattle.lines.specs.Shown.{setting_shown}
use Rattle.lines.proofs.Numbers.{Passed}
use Rattle.lines.proofs.print.write_links.Given as goal

-- the links above this number are written
abbrev pub invariant-loop-link : goal.invariant-loop-link
invariant-loop-link l = Passed (setting_shown l.shown) (length (setting_shown l.shown)) (l.link + 1) l.end l.start l.initial.line l.line
