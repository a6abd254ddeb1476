-- Decimal numbers of a text.
use Rattle.std.proofs.Common.{◌≡◌, ℕ, zero, suc, ◌<◌, ◌≤◌, ◌≢◌, List, length, get_or, Ok, Err, Result, decimal, MatchOption, sym, ap, ◌∙◌, arith}
use Rattle.std.specs.Str.{IsUtf8}
use Rattle.std.specs.Str.Parse.{AllDigits, digits_value, ParsesUnsigned}
use Rattle.std.specs.Int.{IsInRange}
use Rattle.std.specs.Result.{result_ok}
use Rattle.std.proofs.lemmas.Str.{IsUtf8-from_ascii}
use Rattle.std.proofs.lemmas.Str.Parse.{IsNumeralModel, numerals_by_value, tells_digits, digit_at, parse_plain}
use Rattle.std.proofs.lemmas.Fmt.{digits_decimal, decimal-digits_value, decimal_nonempty, first_decimal, decimal_digit, parse-decimal, IsAscii-from_digits}
use Rattle.text.specs.Form.{InText}

own : IsNumeralModel (AllDigits 10) (digits_value 10)
own = numerals_by_value (AllDigits 10) tells_digits

-- a number of a text begins with a digit that is not 0
pub first_digit : (ds : List ℕ) (n : ℕ) → InText n → ds ≡ decimal n → (0 < length ds) × (49 ≤ get_or ds 0 0) × (get_or ds 0 0 ≤ 57)
first_digit ds n h e =
    let some = decimal_nonempty n (omega arith) in
    let d : IsInRange 48 57 (get_or (decimal n) 0 0) = digit_at (decimal n) 0 (digits_decimal own n (omega arith)) some in
    let f = first_decimal n (omega arith) (omega arith) in
    rw e (omega arith)

pub utf8_number : (ds : List ℕ) (n : ℕ) → InText n → ds ≡ decimal n → IsUtf8 ds
utf8_number ds n h e = rw e (IsUtf8-from_ascii (decimal n) (IsAscii-from_digits (decimal n) (digits_decimal own n (omega arith))))

-- what `parse` reads where the first byte is a digit that is not 0
pub parsed : (ds : List ℕ) {E : Type 0} (r : Result ℕ E) → 49 ≤ get_or ds 0 0 → ParsesUnsigned 16 10 ds r
    → MatchOption (result_ok r) ((n : ℕ) → InText n → ds ≢ decimal n) (λ n. InText n × (ds ≡ decimal n))
parsed ds (Err f) first h = λ n i e. let p = parse-decimal 16 n ds (Err f) (omega arith) (omega arith) e h in let z : ◌≡◌ {A = ℕ} 0 1 = cc in omega arith
parsed ds {E = E} (Ok n) first h =
    let p = parse_plain own {E = E} 16 ds (Ok n) h (omega arith) in
    let same : n ≡ digits_value 10 ds = p.1 in
    let e : decimal n ≡ ds = rw same (decimal-digits_value own ds p.0.0 (omega (arith, p.0.1)) (λ z. omega arith) (omega (arith, p.0.2))) in
    ((positive n e, omega (arith, p.0.2)), sym e)
  where
    positive : (v : ℕ) → decimal v ≡ ds → 1 ≤ v
    positive zero q = let f = ap (λ xs. get_or xs 0 0) (sym q ∙ decimal_digit 0 (omega arith)) in absurd (omega arith)
    positive (suc v) q = omega arith
