-- What a reader means, and what its calls do. Assumes nothing.
use Rattle.std.specs.Prelude.{◌≡◌, ℕ, ◌+◌, ◌<◌, List, length, Some, None, Ok, Err, Option, Result}
use Rattle.std.specs.Borrow.{Bor}
use Rattle.faults.specs.declared.StreamFault.{StreamFault}
use Rattle.faults.specs.declared.StreamFault.TheVariants.{UnknownKind, BodyCut}
use Rattle.stream.specs.declared.bodies.Body.{Body}
use Rattle.stream.specs.declared.reader.Reader.{Reader}
use Rattle.stream.specs.Records.{record_bytes}
use Rattle.stream.specs.Fronts.{Nothing, Whole, NoKind, Cut, FrontIs}
use Rattle.stream.specs.Bodies.{bytes_in, record_in}

-- The bytes not yet read.
abbrev pub rest_of : Reader → List ℕ
rest_of d = d.rest.now

-- How many bytes are read: the place of the next record.
abbrev pub place_of : Reader → ℕ
place_of d = d.place

-- The record of this body stands at the front of the bytes, and the rest follows it.
pub record Handed (bytes : List ℕ) (body : Body) (rest : List ℕ) : Type 0 where
  pub front : FrontIs bytes (Whole (record_in body) rest)
  pub body_bytes : bytes_in body ≡ record_bytes (record_in body)
  pub shorter : length rest < length bytes

-- What is found at the front of bytes that stand at a place.
abbrev pub Found : List ℕ → ℕ → Result (Option (Body × Bor (List ℕ))) StreamFault → Type 0
Found bytes place (Ok None) = FrontIs bytes Nothing
Found bytes place (Ok (Some (body, rest))) = Handed bytes body rest.now
Found bytes place (Err (UnknownKind p)) = FrontIs bytes NoKind × (p ≡ place)
Found bytes place (Err (BodyCut p)) = FrontIs bytes Cut × (p ≡ place)

-- The reader stays where it was.
abbrev pub Stays : Reader → Reader → Type 0
Stays d d' = (rest_of d' ≡ rest_of d) × (place_of d' ≡ place_of d)

-- A record is read: it is handed out with its place, and the reader goes on behind it.
pub record Moves (d : Reader) (place : ℕ) (body : Body) (d' : Reader) : Type 0 where
  pub handed : Handed (rest_of d) body (rest_of d')
  pub here : place ≡ place_of d
  pub on : place_of d' + length (rest_of d') ≡ place_of d + length (rest_of d)

-- What a reader answers: the next record; none at the end; or why no whole record stands there. Without a record it stays.
abbrev pub Reads : Reader → Result (Option (ℕ × Body)) StreamFault → Reader → Type 0
Reads d (Ok None) d' = FrontIs (rest_of d) Nothing × Stays d d'
Reads d (Ok (Some (place, body))) d' = Moves d place body d'
Reads d (Err (UnknownKind place)) d' = FrontIs (rest_of d) NoKind × (place ≡ place_of d) × Stays d d'
Reads d (Err (BodyCut place)) d' = FrontIs (rest_of d) Cut × (place ≡ place_of d) × Stays d d'
