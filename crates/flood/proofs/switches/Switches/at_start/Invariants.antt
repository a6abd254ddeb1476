use Rattle.std.proofs.Common.{◌≡◌, take}
use Rattle.net.specs.Settings.{just_closed}
use Rattle.survey.specs.Answers.{net_of}
use Rattle.flood.specs.Marked.{switched}
use Rattle.flood.proofs.switches.Switches.at_start.Given as goal

-- the start links so far are closed
abbrev pub invariant-loop-link : goal.invariant-loop-link
invariant-loop-link l = (l.switches.site ≡ l.site) × (switched l.switches ≡ just_closed (net_of l.site) (take l.link-index l.link-items))
