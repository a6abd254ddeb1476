-- What a flood goes along. Assumes nothing.
use Rattle.net.specs.Nets.{Net}
use Rattle.net.specs.Settings.{Setting}
use Rattle.survey.specs.Answers.{net_of}
use Rattle.flood.specs.declared.ways.Ways.{Ways}
use Rattle.flood.specs.Marked.{row_in}

-- The net of the flood.
abbrev pub net_along : Ways → Net
net_along w = net_of w.site.now

-- The setting that the flood goes along.
abbrev pub row_along : Ways → Setting
row_along w = row_in (net_along w) w.closed.now
