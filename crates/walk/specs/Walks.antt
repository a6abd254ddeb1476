-- What a walk means: a net, and how many exchanges of its listing were handed on. Assumes nothing.
use Rattle.std.specs.Prelude.{ℕ}
use Rattle.net.specs.Nets.{Net}
use Rattle.walk.specs.declared.state.Walk.{Walk}
use Rattle.walk.specs.Cursors.{net_at}

-- The net that is walked.
abbrev pub net_of_walk : Walk → Net
net_of_walk w = net_at w.cursor

-- How many exchanges were handed on.
abbrev pub handed_by : Walk → ℕ
handed_by w = w.exchanges
