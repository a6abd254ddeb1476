-- What a search means: its net, the descent to its setting, and its ceiling. Assumes nothing.
use Rattle.std.specs.Prelude.{ℕ}
use Rattle.net.specs.Nets.{Net}
use Rattle.net.specs.Settings.{Setting}
use Rattle.survey.specs.Answers.{net_of}
use Rattle.search.specs.declared.state.Search.{Search}
use Rattle.search.specs.Descents.{Descent, setting_at}
use Rattle.search.specs.Frames.{descent_in}

-- The net that is searched.
abbrev pub net_in : Search → Net
net_in s = net_of s.switches.site

-- The descent to the setting where the search stands.
abbrev pub descent_of : Search → Descent
descent_of s = descent_in s.frames s.depth

-- The setting where the search stands.
abbrev pub setting_of : Search → Setting
setting_of s = setting_at (net_in s) (descent_of s)

-- The ceiling: the rank of the link that leaves next.
abbrev pub ceiling_of : Search → ℕ
ceiling_of s = s.ceiling
