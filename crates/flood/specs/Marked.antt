-- What tables of marks hold of a net. Assumes nothing.
use Rattle.std.specs.Prelude.{Bool, List, length, take}
use Rattle.net.specs.Nets.{Net}
use Rattle.net.specs.Settings.{Setting}
use Rattle.survey.specs.Answers.{net_of}
use Rattle.flood.specs.declared.marks.Marks.{Marks}
use Rattle.flood.specs.declared.switches.Switches.{Switches}

-- The setting of a net that a table of links holds.
abbrev pub row_in : Net → Marks 60 → Setting
row_in net m = take (length net.links) m.marked

-- The setting of a surveyed net whose links are switched.
abbrev pub switched : Switches → Setting
switched s = row_in (net_of s.site) s.closed

-- The marks on the bars of a net that a table of bars holds.
abbrev pub fed_in : Net → Marks 32 → List Bool
fed_in net m = take net.bars m.marked
