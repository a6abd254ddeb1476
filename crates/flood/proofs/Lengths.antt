-- The row of switches: a place for each link.
use Rattle.std.proofs.Common.{◌≡◌, length, arith}
use Rattle.std.proofs.lemmas.List.{length-take-le}
use Rattle.survey.specs.Answers.{net_of}
use Rattle.survey.proofs.Whole.{surveyed_fits}
use Rattle.flood.specs.declared.switches.Switches.{Switches}
use Rattle.flood.specs.Marked.{switched}

pub switched_length : (s : Switches) → length (switched s) ≡ length (net_of s.site).links
switched_length s = length-take-le (length (net_of s.site).links) s.closed.marked (omega (arith, s.closed.long, (surveyed_fits s.site).few_links))
