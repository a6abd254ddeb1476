-- Big-endian numbers and their bytes: each tells the other.
use Rattle.std.proofs.Common.{◌≡◌, ℕ, zero, suc, ◌+◌, ◌*◌, ◌/◌, ◌%◌, ◌^◌, ◌<◌, List, [], ◌∷◌, ◌++◌, length, get_or, take, drop, sym, ap, ◌∙◌, ap₂, pow-suc, arith, length-drop}
use Rattle.std.specs.Int.Digits.{number_from_digits}
use Rattle.std.proofs.lemmas.Int.Digits.{number_push, number_more}
use Rattle.std.proofs.lemmas.List.{take_all, take_more, length-take-le, nil_from_length, get_or-drop, take-append-drop}
use Rattle.stream.specs.Records.{big_endian}
use Rattle.stream.specs.Bodies.{number_in}

-- Every number of the list is a byte.
abbrev pub Bytes : List ℕ → Type 0
Bytes bs = (i : ℕ) → get_or bs i 0 < 256

pub bytes_take : (n : ℕ) (bs : List ℕ) → Bytes bs → Bytes (take n bs)
bytes_take zero bs h i = omega arith
bytes_take (suc n) [] h i = omega arith
bytes_take (suc n) (b ∷ bs) h zero = h zero
bytes_take (suc n) (b ∷ bs) h (suc i) = bytes_take n bs (λ j. h (suc j)) i

pub bytes_drop : (n : ℕ) (bs : List ℕ) → Bytes bs → Bytes (drop n bs)
bytes_drop n bs h i = omega (arith, get_or-drop n bs i 0, h (n + i))

-- the number of a number's bytes
pub number_big_endian : (n x : ℕ) → x < 256 ^ n → number_in (big_endian n x) ≡ x
number_big_endian zero x h = omega arith
number_big_endian (suc n) x h = omega (
  arith,
  number_push 256 (big_endian n (x / 256)) (x % 256),
  number_big_endian n (x / 256) (omega (arith, pow-suc 256 n)),
)

-- one byte more, the lowest
big_endian_push : (n m d : ℕ) (front : List ℕ) → d < 256 → big_endian n m ≡ front → big_endian (suc n) (m * 256 + d) ≡ front ++ d ∷ []
big_endian_push n m d front h e =
    let high : (m * 256 + d) / 256 ≡ m = omega arith in
    let low : (m * 256 + d) % 256 ≡ d = omega arith in
    ap₂ (λ xs x. xs ++ x ∷ []) (ap (big_endian n) high ∙ e) low

-- the bytes of the number of bytes
pub big_endian_number : (n : ℕ) (bs : List ℕ) → length bs ≡ n → Bytes bs → big_endian n (number_in bs) ≡ bs
big_endian_number zero bs e h = sym (nil_from_length bs e)
big_endian_number (suc n) bs e h =
    let split : bs ≡ take n bs ++ get_or bs n 0 ∷ [] = sym (take_all (n + 1) bs (omega arith)) ∙ take_more bs n 0 (omega arith) in
    let whole : number_from_digits 256 bs ≡ number_from_digits 256 (take n bs) * 256 + get_or bs n 0 = ap (number_from_digits 256) split ∙ number_push 256 (take n bs) (get_or bs n 0) in
    ap (big_endian (suc n)) whole
    ∙ big_endian_push n _ _ (take n bs) (h n) (big_endian_number n (take n bs) (length-take-le n bs (omega arith)) (bytes_take n bs h))
    ∙ sym split

-- two bytes, and eight, written out
pub number_2 : (bs : List ℕ) → length bs ≡ 2 → get_or bs 0 0 * 256 + get_or bs 1 0 ≡ number_in bs
number_2 bs e = omega (
  arith,
  number_more 256 bs 0 (omega arith),
  number_more 256 bs 1 (omega arith),
  ap (number_from_digits 256) (take_all 2 bs (omega arith)),
)

pub number_8 : (bs : List ℕ) → length bs ≡ 8
    → get_or bs 0 0 * 72057594037927936 + get_or bs 1 0 * 281474976710656 + get_or bs 2 0 * 1099511627776 + get_or bs 3 0 * 4294967296 + get_or bs 4 0 * 16777216 + get_or bs 5 0 * 65536 + get_or bs 6 0 * 256 + get_or bs 7 0
    ≡ number_in bs
number_8 bs e = omega (
  arith,
  number_more 256 bs 0 (omega arith),
  number_more 256 bs 1 (omega arith),
  number_more 256 bs 2 (omega arith),
  number_more 256 bs 3 (omega arith),
  number_more 256 bs 4 (omega arith),
  number_more 256 bs 5 (omega arith),
  number_more 256 bs 6 (omega arith),
  number_more 256 bs 7 (omega arith),
  ap (number_from_digits 256) (take_all 8 bs (omega arith)),
)

-- two numbers of two bytes each
module _ (bs : List ℕ) (e : length bs ≡ 4) where
  pub big_endian_two : Bytes bs → big_endian 2 (number_in (take 2 bs)) ++ big_endian 2 (number_in (drop 2 bs)) ≡ bs
  big_endian_two h =
      ap₂ (λ xs ys. xs ++ ys)
      (big_endian_number 2 (take 2 bs) (length-take-le 2 bs (omega arith)) (bytes_take 2 bs h))
      (big_endian_number 2 (drop 2 bs) (omega (arith, length-drop 2 bs)) (bytes_drop 2 bs h))
      ∙ take-append-drop 2 bs
