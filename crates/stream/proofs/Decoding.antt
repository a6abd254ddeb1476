-- The front of bytes, worked out: whatever stands there, it is this.
use Rattle.std.proofs.Common.{◌≡◌, ℕ, ◌<◌, ◌≤◌, false, cond, eqb, leb, List, [], ◌∷◌, ◌++◌, length, take, drop, Some, None, Option, sym, refl, ap, ◌∙◌, ap₂, arith}
use Rattle.std.proofs.lemmas.Bool.{le-leb, lt-leb, ne_eqb, cond-true, cond-false}
use Rattle.stream.specs.Records.{Record, N, S, F, B, Z, big_endian, record_bytes}
use Rattle.stream.specs.Fronts.{Fitting, Begins, Front, Nothing, Whole, NoKind, Cut, Stands, FrontIs}
use Rattle.stream.specs.Bodies.{number_in}
use Rattle.stream.proofs.Numbers.{number_big_endian}

-- some record with this letter
abbrev kind_at : ℕ → Option Record
kind_at b =
    cond (eqb b 78) (Some (N 0 0))
    (cond (eqb b 83) (Some (S 0)) (cond (eqb b 70) (Some (F 0 0)) (cond (eqb b 66) (Some (B 0 0)) (cond (eqb b 90) (Some (Z 0)) None))))

-- how many bytes its body has
abbrev width : Record → ℕ
width (N bars links) = 4
width (S link) = 2
width (F out into) = 4
width (B out into) = 4
width (Z settings) = 8

-- the record of the same kind with the numbers of a body
abbrev saying : Record → List ℕ → Record
saying (N bars links) body = N (number_in (take 2 body)) (number_in (drop 2 body))
saying (S link) body = S (number_in body)
saying (F out into) body = F (number_in (take 2 body)) (number_in (drop 2 body))
saying (B out into) body = B (number_in (take 2 body)) (number_in (drop 2 body))
saying (Z settings) body = Z (number_in body)

abbrev of_kind : Option Record → List ℕ → Front
of_kind None after = NoKind
of_kind (Some k) after = cond (leb (width k) (length after)) (Whole (saying k (take (width k) after)) (drop (width k) after)) Cut

abbrev front_at : List ℕ → Front
front_at [] = Nothing
front_at (b ∷ after) = of_kind (kind_at b) after

whole_of : (k : Record) (after : List ℕ) → width k ≤ length after → of_kind (Some k) after ≡ Whole (saying k (take (width k) after)) (drop (width k) after)
whole_of k after h = cond-true _ _ _ (le-leb (width k) (length after) h)

cut_of : (k : Record) (after : List ℕ) → length after < width k → of_kind (Some k) after ≡ Cut
cut_of k after h = cond-false _ _ _ (lt-leb (width k) (length after) h)

-- a record and the rest after it
at_record : (r : Record) (rest : List ℕ) → Fitting r → front_at (record_bytes r ++ rest) ≡ Whole r rest
at_record (N bars links) rest (f, g) =
    whole_of (N 0 0) (big_endian 2 bars ++ big_endian 2 links ++ rest) (omega arith)
    ∙ ap₂ (λ x y. Whole (N x y) rest) (number_big_endian 2 bars f) (number_big_endian 2 links g)
at_record (S link) rest f =
    whole_of (S 0) (big_endian 2 link ++ rest) (omega arith)
    ∙ ap (λ x. Whole (S x) rest) (number_big_endian 2 link f)
at_record (F out into) rest (f, g) =
    whole_of (F 0 0) (big_endian 2 out ++ big_endian 2 into ++ rest) (omega arith)
    ∙ ap₂ (λ x y. Whole (F x y) rest) (number_big_endian 2 out f) (number_big_endian 2 into g)
at_record (B out into) rest (f, g) =
    whole_of (B 0 0) (big_endian 2 out ++ big_endian 2 into ++ rest) (omega arith)
    ∙ ap₂ (λ x y. Whole (B x y) rest) (number_big_endian 2 out f) (number_big_endian 2 into g)
at_record (Z settings) rest f =
    whole_of (Z 0) (big_endian 8 settings ++ rest) (omega arith)
    ∙ ap (λ x. Whole (Z x) rest) (number_big_endian 8 settings f)

-- a first byte that is no letter
at_no_kind : (b : ℕ) (after : List ℕ) → ((r : Record) → Begins (b ∷ after) r → ⊥) → kind_at b ≡ None
at_no_kind b after none =
    let not : (r : Record) (l : ℕ) → take 1 (record_bytes r) ≡ l ∷ [] → eqb b l ≡ false = λ r l e. ne_eqb b l (λ h. none r (ap (λ x. x ∷ []) h ∙ sym e)) in
    cond-false _ _ _ (not (N 0 0) 78 refl)
    ∙ cond-false _ _ _ (not (S 0) 83 refl)
    ∙ cond-false _ _ _ (not (F 0 0) 70 refl)
    ∙ cond-false _ _ _ (not (B 0 0) 66 refl)
    ∙ cond-false _ _ _ (not (Z 0) 90 refl)

-- a letter, and less than its body
at_letter : (b l : ℕ) (after : List ℕ) → b ∷ [] ≡ l ∷ [] → front_at (b ∷ after) ≡ front_at (l ∷ after)
at_letter b l after e = let h : b ≡ l = cc in ap (λ x. front_at (x ∷ after)) h

at_cut : (b : ℕ) (after : List ℕ) (r : Record) → Begins (b ∷ after) r → length (b ∷ after) < length (record_bytes r) → front_at (b ∷ after) ≡ Cut
at_cut b after (N bars links) e h = at_letter b 78 after e ∙ cut_of (N 0 0) after (omega arith)
at_cut b after (S link) e h = at_letter b 83 after e ∙ cut_of (S 0) after (omega arith)
at_cut b after (F out into) e h = at_letter b 70 after e ∙ cut_of (F 0 0) after (omega arith)
at_cut b after (B out into) e h = at_letter b 66 after e ∙ cut_of (B 0 0) after (omega arith)
at_cut b after (Z settings) e h = at_letter b 90 after e ∙ cut_of (Z 0) after (omega arith)

-- no record begins with nothing
begins_none : (r : Record) → Begins [] r → ⊥
begins_none (N bars links) e = let z : ◌≡◌ {A = ℕ} 0 1 = cc in omega arith
begins_none (S link) e = let z : ◌≡◌ {A = ℕ} 0 1 = cc in omega arith
begins_none (F out into) e = let z : ◌≡◌ {A = ℕ} 0 1 = cc in omega arith
begins_none (B out into) e = let z : ◌≡◌ {A = ℕ} 0 1 = cc in omega arith
begins_none (Z settings) e = let z : ◌≡◌ {A = ℕ} 0 1 = cc in omega arith

-- whatever stands there
at_front : (bytes : List ℕ) (f : Front) → Stands bytes f → front_at bytes ≡ f
at_front bytes Nothing e = ap front_at e
at_front bytes (Whole r rest) (fits, e) = ap front_at e ∙ at_record r rest fits
at_front [] NoKind (some, none) = absurd (some refl)
at_front (b ∷ after) NoKind (some, none) = ap (λ k. of_kind k after) (at_no_kind b after none)
at_front [] Cut (r, e, short) = absurd (begins_none r e)
at_front (b ∷ after) Cut (r, e, short) = at_cut b after r e short

pub front_is : (bytes : List ℕ) (f : Front) → Stands bytes f → FrontIs bytes f
front_is bytes f s = record {
  stands = s;
  only = λ g t. sym (at_front bytes g t) ∙ at_front bytes f s;
}
