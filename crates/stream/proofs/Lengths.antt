-- How many bytes the records have.
use Rattle.std.proofs.Common.{◌≡◌, ℕ, ◌+◌, ◌*◌, true, false, List, [], ◌∷◌, length, refl, arith, length-append}
use Rattle.trees.specs.Listings.{Exchanged}
use Rattle.stream.specs.Records.{net_bytes, start_bytes, starts_bytes, head_bytes, exchange_bytes}

pub length_starts : (links : List ℕ) → length (starts_bytes links) ≡ 3 * length links
length_starts [] = refl
length_starts (l ∷ ls) = omega (arith, length-append (start_bytes l) (starts_bytes ls), length_starts ls)

pub length_head : (bars links : ℕ) (starts : List ℕ) → length (head_bytes bars links starts) ≡ 5 + 3 * length starts
length_head bars links starts = omega (arith, length-append (net_bytes bars links) (starts_bytes starts), length_starts starts)

pub length_exchange : (x : Exchanged) → length (exchange_bytes x) ≡ 5
length_exchange (true, (out, into)) = refl
length_exchange (false, (out, into)) = refl
