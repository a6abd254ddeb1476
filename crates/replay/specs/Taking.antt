-- What it is to take a record. Assumes nothing.
use Rattle.std.specs.Prelude.{◌≡◌, ℕ, ◌+◌, Result, MatchResult}
use Rattle.faults.specs.declared.BoardFault.{BoardFault}
use Rattle.faults.specs.declared.BoardFault.TheVariants.{NotRadial}
use Rattle.faults.specs.declared.ReplayFault.{ReplayFault}
use Rattle.faults.specs.declared.ReplayFault.TheVariants.{OnBoard}
use Rattle.net.specs.Settings.{Setting, Radial}
use Rattle.survey.specs.declared.surveyed.Surveyed.{Surveyed}
use Rattle.survey.specs.Answers.{net_of}
use Rattle.stream.specs.Records.{Record}
use Rattle.replay.specs.declared.player.Player.{Player}
use Rattle.replay.specs.Places.{Place, begun, Goes}
use Rattle.replay.specs.Refusals.{Refuses}
use Rattle.replay.specs.Players.{place_of, site_of_player}

-- A player that begins with these links closed.
pub record BegunBy (site : Surveyed) (T : Setting) (count : ℕ) (p : Player) : Type 0 where
  pub same_site : site_of_player p ≡ site
  pub place : place_of p ≡ begun (net_of site) T count
  pub radial : count + 1 ≡ (net_of site).bars → Radial (net_of site) T

-- The exchanges may not begin: the closed links are as many as they should, and form no radial setting.
pub record NotBegun (site : Surveyed) (T : Setting) (count : ℕ) (f : BoardFault) : Type 0 where
  pub fault : f ≡ NotRadial
  pub all : count + 1 ≡ (net_of site).bars
  pub not_radial : ¬ Radial (net_of site) T

-- A player begins, or may not.
abbrev pub Begins : Surveyed → Setting → ℕ → Result Player BoardFault → Type 0
Begins site T count r = MatchResult r (BegunBy site T count) (NotBegun site T count)

-- A player that a record takes on.
pub record TakenOn (site : Surveyed) (p : Place) (r : Record) (q : Player) : Type 0 where
  pub same_site : site_of_player q ≡ site
  pub goes : Goes (net_of site) p r (place_of q)

-- The record at a byte is taken, or this is the first question that is answered no.
abbrev pub Takes : Surveyed → ℕ → Place → Record → Result Player ReplayFault → Type 0
Takes site at p r o = MatchResult o (TakenOn site p r) (Refuses (net_of site) at p r)

-- The same where only the board can say no, at any byte.
abbrev pub TakesOnBoard : Surveyed → Place → Record → Result Player BoardFault → Type 0
TakesOnBoard site p r o = MatchResult o (TakenOn site p r) (λ f. (at : ℕ) → Refuses (net_of site) at p r (OnBoard f at))
