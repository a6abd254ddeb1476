-- The setting that a line shows. Assumes nothing.
use Rattle.std.specs.Prelude.{take}
use Rattle.net.specs.Settings.{Setting}
use Rattle.lines.specs.declared.shown.Shown.{Shown}

-- The setting that it shows: for each link of the net whether it is closed.
abbrev pub setting_shown : Shown → Setting
setting_shown s = take s.links s.closed.marked
