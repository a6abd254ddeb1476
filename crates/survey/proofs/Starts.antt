-- What a ranking of the start links asks of them.
use Rattle.std.proofs.Common.{◌≡◌, true, length}
use Rattle.net.specs.Nets.{Net}
use Rattle.net.specs.Limits.{WithinLimits}
use Rattle.survey.specs.Ranks.{in_range, distinct}
use Rattle.survey.specs.Visits.{Tour, tour}
use Rattle.survey.proofs.Reached.{starts_within, starts_once}
use Rattle.survey.proofs.Rows.{within_range, once_distinct}

module _ (net : Net) (fit : WithinLimits net) (t : Tour) (e : t ≡ tour net) where
  pub starts_inside : in_range 60 t.starts ≡ true
  starts_inside = rw e (within_range (length net.links) 60 (tour net).starts fit.few_links (starts_within net fit))

  pub starts_distinct : distinct t.starts ≡ true
  starts_distinct = rw e (once_distinct (tour net).starts (starts_once net fit))
