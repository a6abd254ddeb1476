-- Bytes taken apart are a record and the rest.
use Rattle.std.proofs.Common.{◌≡◌, ℕ, ◌+◌, ◌<◌, List, ◌∷◌, ◌++◌, length, take, drop, sym, refl, ap, ◌∙◌, ap₂, arith, length-append, length-drop}
use Rattle.std.proofs.lemmas.List.{drop_more, drop-drop, take-append-drop, length-take-le}
use Rattle.std.proofs.lemmas.Slice.{between_to_end}
use Rattle.stream.specs.declared.bodies.Body.{Body}
use Rattle.stream.specs.declared.bodies.Body.TheVariants.{Net, Start, Forward, Back, End}
use Rattle.stream.specs.Records.{big_endian, record_bytes}
use Rattle.stream.specs.Fronts.{Fitting, Whole}
use Rattle.stream.specs.Bodies.{bytes_in, number_in, record_in}
use Rattle.stream.proofs.Parts.{Parted, Parts}
use Rattle.stream.specs.Readers.{Handed}
use Rattle.stream.proofs.Numbers.{Bytes, bytes_take, bytes_drop, number_2, number_8, big_endian_number, big_endian_two}
use Rattle.stream.proofs.Decoding.{front_is}

-- the parts, joined again
module _ (bytes : List ℕ) (letter n : ℕ) (body rest : List ℕ) (p : Parted bytes letter n body rest) where
  after_letter : body ++ rest ≡ drop 1 bytes
  after_letter =
      ap₂ (λ xs ys. xs ++ ys) p.middle (p.last ∙ between_to_end bytes (n + 1) (length bytes) (omega arith) ∙ ap (λ k. drop k bytes) (omega arith) ∙ sym (drop-drop n 1 bytes))
      ∙ take-append-drop n (drop 1 bytes)

  parts_joined : bytes ≡ letter ∷ body ++ rest
  parts_joined = drop_more bytes 0 0 (omega (arith, p.long)) ∙ ap₂ (λ x xs. x ∷ xs) p.first (sym after_letter)

  body_length : length body ≡ n
  body_length = ap length p.middle ∙ length-take-le n (drop 1 bytes) (omega (arith, p.long, length-drop 1 bytes))

  body_bytes : Bytes bytes → Bytes body
  body_bytes h i = rw p.middle (bytes_take n (drop 1 bytes) (bytes_drop 1 bytes h) i)

-- numbers of two bytes, and of eight, fit
fit_2 : (bs : List ℕ) → length bs ≡ 2 → Bytes bs → number_in bs < 65536
fit_2 bs e h = omega (arith, number_2 bs e, h 0, h 1)

fit_8 : (bs : List ℕ) → length bs ≡ 8 → Bytes bs → number_in bs < 18446744073709551616
fit_8 bs e h = omega (arith, number_8 bs e, h 0, h 1, h 2, h 3, h 4, h 5, h 6, h 7)

module _ (bytes : List ℕ) (typed : Bytes bytes) (rest : List ℕ) where
  -- a body whose record has these bytes
  parted_record : (letter n : ℕ) (body : Body) (bs : List ℕ) → Parted bytes letter n bs rest → bytes_in body ≡ letter ∷ bs → Fitting (record_in body) → record_bytes (record_in body) ≡ letter ∷ bs
      → Handed bytes body rest
  parted_record letter n body bs p e fits said = record {
    front = front_is bytes (Whole (record_in body) rest) (fits, parts_joined bytes letter n bs rest p ∙ ap (λ xs. xs ++ rest) (sym said));
    body_bytes = e ∙ sym said;
    shorter = omega (arith, ap length (parts_joined bytes letter n bs rest p), length-append bs rest);
  }

  -- two numbers of two bytes each
  module _ (letter : ℕ) (bs : List ℕ) (p : Parted bytes letter 4 bs rest) where
    four : length bs ≡ 4
    four = body_length bytes letter 4 bs rest p

    fit_two : (number_in (take 2 bs) < 65536) × (number_in (drop 2 bs) < 65536)
    fit_two =
        let h = body_bytes bytes letter 4 bs rest p typed in (
          fit_2 (take 2 bs) (length-take-le 2 bs (omega (arith, four))) (bytes_take 2 bs h),
          fit_2 (drop 2 bs) (omega (arith, four, length-drop 2 bs)) (bytes_drop 2 bs h),
        )

    said_two : letter ∷ big_endian 2 (number_in (take 2 bs)) ++ big_endian 2 (number_in (drop 2 bs)) ≡ letter ∷ bs
    said_two = ap (λ xs. letter ∷ xs) (big_endian_two bs four (body_bytes bytes letter 4 bs rest p typed))

  pub handed : (body : Body) → Parts bytes body rest → Handed bytes body rest
  handed (Net b) p = parted_record 78 4 (Net b) b.now p refl (fit_two 78 b.now p) (said_two 78 b.now p)
  handed (Start b) p =
      let e = body_length bytes 83 2 b.now rest p in
      let h = body_bytes bytes 83 2 b.now rest p typed in
      parted_record 83 2 (Start b) b.now p refl (fit_2 b.now e h) (ap (λ xs. 83 ∷ xs) (big_endian_number 2 b.now e h))
  handed (Forward b) p = parted_record 70 4 (Forward b) b.now p refl (fit_two 70 b.now p) (said_two 70 b.now p)
  handed (Back b) p = parted_record 66 4 (Back b) b.now p refl (fit_two 66 b.now p) (said_two 66 b.now p)
  handed (End b) p =
      let e = body_length bytes 90 8 b.now rest p in
      let h = body_bytes bytes 90 8 b.now rest p typed in
      parted_record 90 8 (End b) b.now p refl (fit_8 b.now e h) (ap (λ xs. 90 ∷ xs) (big_endian_number 8 b.now e h))
