-- A stream is read in one way, and so has one answer.
use Rattle.std.proofs.Common.{◌≡◌, ℕ, ◌+◌, ◌^◌, ◌<◌, List, [], ◌∷◌, ◌++◌, length, sym, refl, ap, ◌∙◌, subst, arith}
use Rattle.std.proofs.lemmas.List.{append-nil, append_assoc, length-append}
use Rattle.faults.specs.declared.ReplayFault.{ReplayFault}
use Rattle.net.specs.Nets.{Net}
use Rattle.net.specs.Settings.{Setting}
use Rattle.net.specs.Limits.{WithinLimits}
use Rattle.survey.specs.declared.surveyed.Surveyed.{Surveyed}
use Rattle.survey.specs.Surveys.{AllReached}
use Rattle.survey.specs.Answers.{net_of}
use Rattle.survey.proofs.Whole.{surveyed_fits, surveyed_reached}
use Rattle.stream.specs.declared.reader.Reader.{Reader}
use Rattle.stream.specs.Records.{Record, record_bytes, records_bytes}
use Rattle.stream.specs.Fronts.{Fitting, Whole}
use Rattle.stream.specs.Readers.{rest_of}
use Rattle.replay.specs.Places.{Place, unopened, ended, Goes, Comes, nothing, then}
use Rattle.replay.specs.Refusals.{stands_not}
use Rattle.replay.specs.Streams.{Accepts, Stops, Refused, OneAnswer}
use Rattle.replay.proofs.Questions.{goes_or_refuses}
use Rattle.replay.proofs.Nexts.{one_place}
use Rattle.replay.proofs.Stopped.{one_front, end_fault, stops_one, stops_or_goes}
use Rattle.replay.proofs.Fits.{comes_fits, bytes_more, comes_shown}

-- what a replay answers
data Answer : Type 0 where
  accepted : (start : Setting) (shown : ℕ) → Answer
  refused : (f : ReplayFault) → Answer

-- the answer of a replay that stands at a byte and a place, before these bytes
data Read (net : Net) : ℕ → Place → List ℕ → Answer → Type 0 where
  at_end : {at : ℕ} {start : Setting} {shown : ℕ} → Read net at (ended start shown) [] (accepted start shown)
  stopped : {at : ℕ} {p : Place} {bytes : List ℕ} {f : ReplayFault} → Stops net at p bytes f → Read net at p bytes (refused f)
  taken : {at : ℕ} {p q : Place} {bytes rest : List ℕ} {r : Record} {a : Answer} → Fitting r → bytes ≡ record_bytes r ++ rest → Goes net p r q
      → Read net (at + length (record_bytes r)) q rest a → Read net at p bytes a

no_more : {net : Net} {start : Setting} {shown : ℕ} {q : Place} {r : Record} → Goes net (ended start shown) r q → ⊥
no_more {net} {r = r} g = goes_or_refuses net 0 {r = r} g (stands_not (λ may. may))

one_answer : {net : Net} {at : ℕ} {p : Place} {bytes : List ℕ} {a b : Answer} → Read net at p bytes a → Read net at p bytes b → a ≡ b
one_answer at_end at_end = refl
one_answer at_end (stopped x) = absurd ((end_fault x).1 refl)
one_answer at_end (taken fits e g y) = absurd (no_more g)
one_answer (stopped x) at_end = absurd ((end_fault x).1 refl)
one_answer {net} {at} {p} {bytes} (stopped {f = f} x) (stopped {f = h} y) = ap refused (stops_one net at bytes p f h x y)
one_answer {net} {at} {p} {bytes} (stopped {f = f} x) (taken {q = q} {rest = rest} {r = r} fits e g y) = absurd (stops_or_goes net at bytes p q f r rest x (fits, e) g)
one_answer (taken fits e g x) at_end = absurd (no_more g)
one_answer {net} {at} {p} {bytes} (taken {q = q} {rest = rest} {r = r} fits e g x) (stopped {f = f} y) = absurd (stops_or_goes net at bytes p q f r rest y (fits, e) g)
one_answer {net} {at} {p} {bytes} {a} {b} (taken {q = q} {rest = rest} {r = r} fits e g x) (taken {q = q'} {rest = rest'} {r = r'} fits' e' g' y) =
    let h = one_front bytes (Whole r' rest') (Whole r rest) (fits', e') (fits, e) in
    let same_record : r' ≡ r = cc in
    let same_rest : rest' ≡ rest = cc in
    let same_place : q' ≡ q = one_place (subst (λ s. Goes net p s q') same_record g') g in
    one_answer x (subst (λ s. Read net (at + length (record_bytes s)) q rest b) same_record
    (subst (λ bs. Read net (at + length (record_bytes r')) q bs b) same_rest (subst (λ s. Read net (at + length (record_bytes r')) s rest' b) same_place y)))

module _ (net : Net) (fit : WithinLimits net) (all : AllReached net) where
  -- what was read so far is read again
  come_read : {rs : List Record} {p : Place} → Comes net rs p → length (records_bytes rs) < 2 ^ 64 → (rest : List ℕ) (a : Answer)
      → Read net (length (records_bytes rs)) p rest a → Read net 0 unopened (records_bytes rs ++ rest) a
  come_read nothing short rest a x = x
  come_read (then {rs = rs} {p = p} {q = q} {r = r} c g) short rest a x =
      let more = bytes_more rs r in
      let long : length (records_bytes (rs ++ (r ∷ []))) ≡ length (records_bytes rs) + length (record_bytes r) = ap length more ∙ length-append (records_bytes rs) (record_bytes r) in
      subst (λ bytes. Read net 0 unopened bytes a) (sym (ap (λ bytes. bytes ++ rest) more ∙ append_assoc (records_bytes rs) (record_bytes r) rest))
      (come_read c (omega arith) (record_bytes r ++ rest) a
      (taken (comes_fits net fit all c g (omega (arith, comes_shown c))) refl g (subst (λ n. Read net n q rest a) long x)))

  module _ (bytes : List ℕ) (short : length bytes < 2 ^ 64) where
    accepted_read : (start : Setting) (shown : ℕ) → Accepts net bytes start shown → Read net 0 unopened bytes (accepted start shown)
    accepted_read start shown x =
        subst (λ bs. Read net 0 unopened bs (accepted start shown)) (append-nil (records_bytes x.records) ∙ sym x.written)
        (come_read x.come (omega (arith, ap length x.written)) [] (accepted start shown) at_end)

    refused_read : (f : ReplayFault) → Refused net bytes f → Read net 0 unopened bytes (refused f)
    refused_read f x =
        subst (λ bs. Read net 0 unopened bs (refused f)) (sym x.written)
        (come_read x.come (omega (arith, ap length x.written, length-append (records_bytes x.records) x.rest)) x.rest (refused f) (stopped x.stops))

    pub answers_once : OneAnswer net bytes
    answers_once = record {
      one_start = λ start start' shown shown' x y.
          let e = one_answer (accepted_read start shown x) (accepted_read start' shown' y) in
          (cc, cc);
      one_fault = λ f f' x y. let e = one_answer (refused_read f x) (refused_read f' y) in cc;
      not_both = λ start shown f x y. let e = one_answer (accepted_read start shown x) (refused_read f y) in let z : ◌≡◌ {A = ℕ} 0 1 = cc in omega arith;
    }

-- the bytes that a reader is made of have one answer
pub reader_once : (site : Surveyed) (bytes : List ℕ) (d : Reader) → rest_of d ≡ bytes → OneAnswer (net_of site) bytes
reader_once site bytes d e = answers_once (net_of site) (surveyed_fits site) (surveyed_reached site) bytes (omega (arith, d.short, ap length e))
