-- What the tables of a survey hold. Assumes nothing.
use Rattle.net.specs.Nets.{Net}
use Rattle.survey.specs.declared.copy.NetCopy.{NetCopy}
use Rattle.survey.specs.declared.tour.TourTables.{TourTables}
use Rattle.survey.specs.Copies.{table_net}
use Rattle.survey.specs.Listed.{listed}
use Rattle.survey.specs.Visits.{Tour}

-- The net that was copied.
abbrev pub copied : NetCopy → Net
copied n = table_net n.bars n.links n.ends

-- The tour that the tables hold.
abbrev pub toured : TourTables → Tour
toured t = record { order = listed t.order; starts = t.starts.items }
