-- A replay stops for one reason, and not where the record at the front is taken.
use Rattle.std.proofs.Common.{◌≡◌, ℕ, ◌≢◌, List, [], sym, refl, ◌∙◌, subst}
use Rattle.faults.specs.declared.ReplayFault.{ReplayFault}
use Rattle.faults.specs.declared.ReplayFault.TheVariants.{Unread, Misplaced}
use Rattle.faults.specs.declared.StreamFault.TheVariants.{UnknownKind, BodyCut}
use Rattle.net.specs.Nets.{Net}
use Rattle.net.specs.Settings.{Setting}
use Rattle.stream.specs.Records.{Record}
use Rattle.stream.specs.Fronts.{Front, Nothing, Whole, NoKind, Cut, Stands}
use Rattle.stream.proofs.Decoding.{front_is}
use Rattle.replay.specs.Places.{Place, unopened, starting, walking, ended, Goes}
use Rattle.replay.specs.Refusals.{Refuses, stands_not}
use Rattle.replay.specs.Streams.{GoesOn, Stops, past_end, too_soon, unknown, body_cut, refused}
use Rattle.replay.proofs.Questions.{goes_or_refuses, one_refusal}

-- two fronts of the same bytes are the same
pub one_front : (bytes : List ℕ) (f g : Front) → Stands bytes f → Stands bytes g → f ≡ g
one_front bytes f g s t = (front_is bytes g t).only f s

-- why a replay stops before bytes with this front
abbrev Why : Net → ℕ → Place → ReplayFault → Front → Type 0
Why net at p f Nothing = f ≡ Misplaced at
Why net at p f (Whole r rest) = Refuses net at p r f
Why net at p f NoKind = f ≡ Unread (UnknownKind at)
Why net at p f Cut = f ≡ Unread (BodyCut at)

-- where more records are to come, a replay stops because of the front
record StopsAt (net : Net) (at : ℕ) (p : Place) (bytes : List ℕ) (f : ReplayFault) : Type 0 where
  front : Front
  stands : Stands bytes front
  why : Why net at p f front

stops_at : {net : Net} {at : ℕ} {p : Place} {bytes : List ℕ} {f : ReplayFault} → Stops net at p bytes f → GoesOn p → StopsAt net at p bytes f
stops_at (past_end left) g = absurd g
stops_at (too_soon _) g = record { front = Nothing; stands = refl; why = refl }
stops_at (unknown _ front) g = record { front = NoKind; stands = front.stands; why = refl }
stops_at (body_cut _ front) g = record { front = Cut; stands = front.stands; why = refl }
stops_at (refused {more = more} {r = r} _ front h) g = record { front = Whole r more; stands = front.stands; why = h }

one_why : (net : Net) (at : ℕ) (p : Place) (f g : ReplayFault) (front : Front) → Why net at p f front → Why net at p g front → f ≡ g
one_why net at p f g Nothing x y = x ∙ sym y
one_why net at p f g (Whole r rest) x y = one_refusal net at x y
one_why net at p f g NoKind x y = x ∙ sym y
one_why net at p f g Cut x y = x ∙ sym y

-- after the end there is one fault
pub end_fault : {net : Net} {at : ℕ} {start : Setting} {shown : ℕ} {bytes : List ℕ} {f : ReplayFault} → Stops net at (ended start shown) bytes f → (f ≡ Misplaced at) × (bytes ≢ [])
end_fault (past_end left) = (refl, left)
end_fault (too_soon g) = absurd g
end_fault (unknown g front) = absurd g
end_fault (body_cut g front) = absurd g
end_fault (refused g front h) = absurd g

module _ (net : Net) (at : ℕ) (bytes : List ℕ) where
  onward_one : (p : Place) (f g : ReplayFault) → GoesOn p → Stops net at p bytes f → Stops net at p bytes g → f ≡ g
  onward_one p f g on x y =
      let a = stops_at x on in
      let b = stops_at y on in
      one_why net at p f g b.front (subst (Why net at p f) (one_front bytes a.front b.front a.stands b.stands) a.why) b.why

  -- a replay stops for one reason
  pub stops_one : (p : Place) (f g : ReplayFault) → Stops net at p bytes f → Stops net at p bytes g → f ≡ g
  stops_one unopened f g x y = onward_one unopened f g tt x y
  stops_one (starting T count) f g x y = onward_one (starting T count) f g tt x y
  stops_one (walking start T pending shown) f g x y = onward_one (walking start T pending shown) f g tt x y
  stops_one (ended start shown) f g x y = (end_fault x).0 ∙ sym (end_fault y).0

  onward_or_goes : (p q : Place) (f : ReplayFault) (r : Record) (rest : List ℕ) → GoesOn p → Stops net at p bytes f → Stands bytes (Whole r rest) → Goes net p r q → ⊥
  onward_or_goes p q f r rest on x s g =
      let a = stops_at x on in
      goes_or_refuses net at g (subst (Why net at p f) (one_front bytes a.front (Whole r rest) a.stands s) a.why)

  -- it does not stop where the record at the front is taken
  pub stops_or_goes : (p q : Place) (f : ReplayFault) (r : Record) (rest : List ℕ) → Stops net at p bytes f → Stands bytes (Whole r rest) → Goes net p r q → ⊥
  stops_or_goes unopened q f r rest x s g = onward_or_goes unopened q f r rest tt x s g
  stops_or_goes (starting T count) q f r rest x s g = onward_or_goes (starting T count) q f r rest tt x s g
  stops_or_goes (walking start T pending shown) q f r rest x s g = onward_or_goes (walking start T pending shown) q f r rest tt x s g
  stops_or_goes (ended start shown) q f r rest x s g = goes_or_refuses net at {r = r} g (stands_not (λ may. may))
