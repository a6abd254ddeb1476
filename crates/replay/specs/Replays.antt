-- What a replay answers, and what its steps do. Assumes nothing.
use Rattle.std.specs.Prelude.{◌≡◌, ℕ, ◌+◌, ◌<◌, List, length, Result, MatchResult}
use Rattle.faults.specs.declared.ReplayFault.{ReplayFault}
use Rattle.faults.specs.declared.ReplayFault.TheVariants.{Misplaced}
use Rattle.survey.specs.declared.surveyed.Surveyed.{Surveyed}
use Rattle.survey.specs.Answers.{net_of}
use Rattle.stream.specs.declared.reader.Reader.{Reader}
use Rattle.stream.specs.Records.{Record}
use Rattle.stream.specs.Fronts.{Whole, FrontIs}
use Rattle.stream.specs.Readers.{rest_of}
use Rattle.board.specs.declared.boards.Board.{Board}
use Rattle.board.specs.Boards.{setting_of}
use Rattle.replay.specs.declared.player.Replayed.{Replayed}
use Rattle.replay.specs.declared.player.Player.{Player}
use Rattle.replay.specs.Places.{ended, Goes}
use Rattle.replay.specs.Streams.{Accepts, GoesOn, Stops, Refused}
use Rattle.replay.specs.Players.{place_of, site_of_player}

-- A stream is accepted: the board stands at its starting set, at the same site.
pub record ReplayedOn (site : Surveyed) (bytes : List ℕ) (e : Replayed) : Type 0 where
  pub same_site : e.board.switches.site ≡ site
  pub accepts : Accepts (net_of site) bytes (setting_of e.board) e.shown

-- A stream is replayed on a site, or the first question that is answered no.
abbrev pub Plays : Surveyed → List ℕ → Result Replayed ReplayFault → Type 0
Plays site bytes r = MatchResult r (ReplayedOn site bytes) (Refused (net_of site) bytes)

-- A stream is replayed on the site of a board; or the board comes back as it was, with the first question that is answered no.
abbrev pub Replays : Board → List ℕ → Result Replayed (Board × ReplayFault) → Type 0
Replays b bytes r = MatchResult r (ReplayedOn b.switches.site bytes) (λ e. (e.0 ≡ b) × Refused (net_of b.switches.site) bytes e.1)

-- The record at the front of the bytes is read, and takes the player on.
pub record SteppedTo (p : Player) (d : Reader) (q : Player) (d' : Reader) : Type 0 where
  pub same_site : site_of_player q ≡ site_of_player p
  pub read : Record
  pub front : FrontIs (rest_of d) (Whole read (rest_of d'))
  pub shorter : length (rest_of d') < length (rest_of d)
  pub on : d'.place + length (rest_of d') ≡ d.place + length (rest_of d)
  pub goes : Goes (net_of (site_of_player p)) (place_of p) read (place_of q)

-- A step is made, or this is why the replay stops.
abbrev pub Steps : Player → Reader → Result Player ReplayFault → Reader → Type 0
Steps p d r d' = MatchResult r (λ q. SteppedTo p d q d') (Stops (net_of (site_of_player p)) d.place (place_of p) (rest_of d))

-- The bytes end: what was replayed, where the end was taken; else they end too soon.
abbrev pub Finishes : Player → ℕ → Result Replayed ReplayFault → Type 0
Finishes p at r = MatchResult r (λ e. (e.board.switches.site ≡ site_of_player p) × (place_of p ≡ ended (setting_of e.board) e.shown)) (λ f. GoesOn (place_of p) × (f ≡ Misplaced at))
