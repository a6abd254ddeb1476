use Rattle.std.proofs.Common.{◌≡◌, take}
use Rattle.survey.specs.Listed.{listed}
use Rattle.survey.specs.Tables.{toured}
use Rattle.survey.proofs.links.rank_starts.Given as goal

-- the start links so far are ranked
abbrev pub invariant-loop-link : goal.invariant-loop-link
invariant-loop-link l = listed l.links ≡ take l.link-index (toured l.tour).starts
