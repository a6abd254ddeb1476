-- Numbers in decimal: how long they are, and how one digit is written.
use Rattle.std.proofs.Common.{◌≡◌, ℕ, ◌+◌, ◌%◌, ◌^◌, ◌<◌, ◌≤◌, [], ◌∷◌, length, decimal, arith}
use Rattle.std.proofs.lemmas.Fmt.{decimal_digit, length-decimal-le}

pub decimal_short : (n : ℕ) → n < 2 ^ 64 → length (decimal n) ≤ 20
decimal_short n small = length-decimal-le 20 n (omega arith) (omega arith) small

-- a number of at most 60 has at most two digits
pub link_short : (n : ℕ) → n ≤ 60 → length (decimal n) ≤ 2
link_short n h = length-decimal-le 2 n (omega arith) (omega arith) (omega arith)

-- the last digit is what remains by ten
decimal_small : (n : ℕ) → n < 10 → decimal n ≡ (48 + n % 10) ∷ []
decimal_small n h = let e : n % 10 ≡ n = omega arith in rw e (decimal_digit n h)
