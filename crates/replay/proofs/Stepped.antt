-- A record is read and taken, or the replay stops.
use Rattle.std.proofs.Common.{◌≡◌, ℕ, ◌+◌, ◌<◌, ◌≢◌, List, [], length, Some, Ok, Err, Option, Result, sym, subst}
use Rattle.faults.specs.declared.StreamFault.{StreamFault}
use Rattle.faults.specs.declared.StreamFault.TheVariants.{UnknownKind, BodyCut}
use Rattle.faults.specs.declared.ReplayFault.{ReplayFault}
use Rattle.faults.specs.declared.ReplayFault.TheVariants.{Unread, Misplaced}
use Rattle.net.specs.Nets.{Net}
use Rattle.survey.specs.Answers.{net_of}
use Rattle.stream.specs.declared.bodies.Body.{Body}
use Rattle.stream.specs.declared.reader.Reader.{Reader}
use Rattle.stream.specs.Records.{Record}
use Rattle.stream.specs.Fronts.{Whole, FrontIs}
use Rattle.stream.specs.Bodies.{record_in}
use Rattle.stream.specs.Readers.{rest_of, Reads, Moves}
use Rattle.replay.specs.declared.player.Player.{Player}
use Rattle.replay.specs.Places.{Place, unopened, starting, walking, ended}
use Rattle.replay.specs.Streams.{GoesOn, Stops, past_end, unknown, body_cut, refused}
use Rattle.replay.specs.Refusals.{Refuses}
use Rattle.replay.specs.Players.{place_of, site_of_player}
use Rattle.replay.specs.Taking.{Takes}
use Rattle.replay.specs.Replays.{Steps}

module _ (p : Player) (d d' : Reader) (onward : GoesOn (place_of p)) where
  pub unread_stops : (f : StreamFault) → Reads d (Err f) d' → Stops (net_of (site_of_player p)) d.place (place_of p) (rest_of d) (Unread f)
  unread_stops (UnknownKind place) (front, here, stays) = rw here (unknown onward front)
  unread_stops (BodyCut place) (front, here, stays) = rw here (body_cut onward front)

  taken_steps : (r : Record) (at : ℕ) → at ≡ d.place → FrontIs (rest_of d) (Whole r (rest_of d')) → length (rest_of d') < length (rest_of d)
      → d'.place + length (rest_of d') ≡ d.place + length (rest_of d) → (t : Result Player ReplayFault) → Takes (site_of_player p) at (place_of p) r t → Steps p d t d'
  taken_steps r at here front shorter on (Ok q) taken = record { same_site = taken.same_site; read = r; front = front; shorter = shorter; on = on; goes = taken.goes }
  taken_steps r at here front shorter on (Err f) why = refused onward front (subst (λ k. Refuses (net_of (site_of_player p)) k (place_of p) r f) here why)

  pub some_steps : (o : Option (ℕ × Body)) (at : ℕ) (body : Body) (r : Record) → o ≡ Some (at, body) → Reads d (Ok o) d' → r ≡ record_in body
      → (t : Result Player ReplayFault) → Takes (site_of_player p) at (place_of p) r t → Steps p d t d'
  some_steps o at body r some reads said =
      let moves : Moves d at body d' = subst (λ o. Reads d (Ok o) d') some reads in
      taken_steps r at moves.here (subst (λ s. FrontIs (rest_of d) (Whole s (rest_of d'))) (sym said) moves.handed.front) moves.handed.shorter moves.on

-- bytes go on after the end
pub end_stops : (net : Net) (at n : ℕ) (q : Place) (rest : List ℕ) → ¬ GoesOn q → rest ≢ [] → n ≡ at → Stops net at q rest (Misplaced n)
end_stops net at n unopened rest done left here = absurd (done tt)
end_stops net at n (starting T count) rest done left here = absurd (done tt)
end_stops net at n (walking start T pending shown) rest done left here = absurd (done tt)
end_stops net at n (ended start shown) rest done left here = rw here (past_end left)
