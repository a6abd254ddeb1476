use Rattle.std.proofs.Common.{◌≡◌, take}
use Rattle.roundtrip.proofs.head.start_numbers.Given as goal

-- the numbers so far
abbrev pub invariant-loop-link : goal.invariant-loop-link
invariant-loop-link l = l.numbers.items ≡ take l.link-index l.link-items
