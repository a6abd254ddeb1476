-- The nets and the settings of boards. Assumes nothing.
use Rattle.net.specs.Nets.{Net}
use Rattle.net.specs.Settings.{Setting, opening}
use Rattle.survey.specs.Answers.{net_of}
use Rattle.flood.specs.Marked.{switched}
use Rattle.board.specs.declared.boards.Board.{Board}
use Rattle.board.specs.declared.boards.Looped.{Looped}

-- The net of a radial board.
abbrev pub board_net : Board → Net
board_net b = net_of b.switches.site

-- The setting of a radial board.
abbrev pub setting_of : Board → Setting
setting_of b = switched b.switches

-- The net of a looped board.
abbrev pub looped_net : Looped → Net
looped_net s = net_of s.switches.site

-- The setting of a looped board.
abbrev pub looped_setting : Looped → Setting
looped_setting s = switched s.switches

-- The setting before the last link was closed.
abbrev pub setting_before : Looped → Setting
setting_before s = opening (looped_setting s) s.link
