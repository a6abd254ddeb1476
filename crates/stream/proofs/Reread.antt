-- What was written as records is read as these records.
use Rattle.std.proofs.Common.{◌≡◌, ℕ, List, [], ◌∷◌, ◌++◌, Some, None, Ok, Err, Option, Result, sym, refl, ap, subst, ap₂}
use Rattle.std.specs.List.{AllByRecursion}
use Rattle.faults.specs.declared.StreamFault.{StreamFault}
use Rattle.faults.specs.declared.StreamFault.TheVariants.{UnknownKind, BodyCut}
use Rattle.stream.specs.declared.bodies.Body.{Body}
use Rattle.stream.specs.declared.reader.Reader.{Reader}
use Rattle.stream.specs.Records.{Record, record_bytes, records_bytes}
use Rattle.stream.specs.Fronts.{Fitting, Front, Nothing, Whole, NoKind, Cut, FrontIs}
use Rattle.stream.specs.Bodies.{record_in}
use Rattle.stream.specs.Readers.{rest_of, place_of, Reads}
use Rattle.stream.proofs.Decoding.{front_is}

-- a whole record is nothing else
abbrev IsWhole : Front → Type 0
IsWhole Nothing = ⊥
IsWhole (Whole r rest) = Unit {0}
IsWhole NoKind = ⊥
IsWhole Cut = ⊥

is_whole : {f : Front} (r : Record) (rest : List ℕ) → Whole r rest ≡ f → IsWhole f
is_whole r rest e = subst IsWhole e tt

-- the record stands at the front, and nothing else does
pub front_of_record : (r : Record) (rest : List ℕ) → Fitting r → FrontIs (record_bytes r ++ rest) (Whole r rest)
front_of_record r rest fits = front_is (record_bytes r ++ rest) (Whole r rest) (fits, refl)

-- the reader hands out that record, and the rest is left
pub record Again (r : Record) (rest : List ℕ) (d : Reader) (answer : Result (Option (ℕ × Body)) StreamFault) (d' : Reader) : Type 0 where
  pub body : Body
  pub answered : answer ≡ Ok (Some (place_of d, body))
  pub same_record : record_in body ≡ r
  pub same_rest : rest_of d' ≡ rest

module _ (r : Record) (rest : List ℕ) (fits : Fitting r) (d d' : Reader) (e : rest_of d ≡ record_bytes r ++ rest) where
  only_record : (f : Front) → FrontIs (rest_of d) f → Whole r rest ≡ f
  only_record f s = s.only (Whole r rest) (fits, e)

  pub read_again : (answer : Result (Option (ℕ × Body)) StreamFault) → Reads d answer d' → Again r rest d answer d'
  read_again (Ok None) (s, stays) = absurd (is_whole r rest (only_record _ s))
  read_again (Ok (Some (place, body))) m =
      let h = only_record _ m.handed.front in
      record {
        body = body;
        answered = ap (λ p. Ok (Some (p, body))) m.here;
        same_record = cc;
        same_rest = cc;
      }
  read_again (Err (UnknownKind place)) (s, here, stays) = absurd (is_whole r rest (only_record _ s))
  read_again (Err (BodyCut place)) (s, here, stays) = absurd (is_whole r rest (only_record _ s))

-- bytes are the bytes of at most one list of records
pub one_stream : (rs qs : List Record) → AllByRecursion Fitting rs → AllByRecursion Fitting qs → records_bytes rs ≡ records_bytes qs → rs ≡ qs
one_stream [] [] f g e = refl
one_stream [] (q ∷ qs) f (g, gs) e = absurd (is_whole q (records_bytes qs) (sym ((front_of_record q (records_bytes qs) g).only Nothing (sym e))))
one_stream (r ∷ rs) [] (f, fs) g e = absurd (is_whole r (records_bytes rs) (sym ((front_of_record r (records_bytes rs) f).only Nothing e)))
one_stream (r ∷ rs) (q ∷ qs) (f, fs) (g, gs) e =
    let h = (front_of_record r (records_bytes rs) f).only (Whole q (records_bytes qs)) (g, e) in
    let k : records_bytes rs ≡ records_bytes qs = cc in
    ap₂ (λ x xs. x ∷ xs) (cc) (one_stream rs qs fs gs k)
