-- Where a player stands. Assumes nothing.
use Rattle.std.specs.Prelude.{ℕ}
use Rattle.survey.specs.declared.surveyed.Surveyed.{Surveyed}
use Rattle.flood.specs.Marked.{switched}
use Rattle.board.specs.Boards.{setting_of}
use Rattle.replay.specs.declared.player.Starts.{Starts}
use Rattle.replay.specs.declared.player.Course.{Course}
use Rattle.replay.specs.declared.player.Player.{Player}
use Rattle.replay.specs.declared.player.Player.TheVariants.{Unopened, Starting, Walking, Ended}
use Rattle.replay.specs.Places.{Place, unopened, starting, walking, ended}
use Rattle.replay.specs.Pending.{pending_of}
use Rattle.replay.specs.Reversals.{reversed_by}

-- Among the records of the starting set.
abbrev pub starts_place : Starts → Place
starts_place s = starting (switched s.switches) s.closed

-- Among the exchanges; the starting set is what is reached when all is reversed.
abbrev pub course_place : Course → Place
course_place c = walking (reversed_by (setting_of c.board) (pending_of c.pending)) (setting_of c.board) (pending_of c.pending) c.shown

-- The place where a player stands.
abbrev pub place_of : Player → Place
place_of (Unopened site) = unopened
place_of (Starting s) = starts_place s
place_of (Walking c) = course_place c
place_of (Ended e) = ended (setting_of e.board) e.shown

-- The site of a player.
abbrev pub site_of_player : Player → Surveyed
site_of_player (Unopened site) = site
site_of_player (Starting s) = s.switches.site
site_of_player (Walking c) = c.board.switches.site
site_of_player (Ended e) = e.board.switches.site

-- How many settings are shown at a place.
abbrev pub shown_at : Place → ℕ
shown_at unopened = 0
shown_at (starting T count) = 0
shown_at (walking start T pending shown) = shown
shown_at (ended start shown) = shown
