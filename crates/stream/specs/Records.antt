-- The records of a stream, and their bytes. Assumes nothing.
use Rattle.std.specs.Prelude.{ℕ, zero, suc, ◌/◌, ◌%◌, true, false, List, [], ◌∷◌, ◌++◌, map, codes}
use Rattle.std.specs.List.{flat_map}
use Rattle.trees.specs.Listings.{Exchanged}

-- A record: N the bars and links of the net, S a start link, F and B a forward and a back exchange by link out and link in, Z the settings told.
pub data Record : Type 0 where
  N : (bars links : ℕ) → Record
  S : (link : ℕ) → Record
  F : (out into : ℕ) → Record
  B : (out into : ℕ) → Record
  Z : (settings : ℕ) → Record

-- A number in n bytes, the highest byte first (big-endian).
abbrev pub big_endian : ℕ → ℕ → List ℕ
big_endian zero x = []
big_endian (suc n) x = big_endian n (x / 256) ++ x % 256 ∷ []

-- The bytes of a record: its letter, then its numbers, of 16 bits each but for the settings told, which have 64.
abbrev pub record_bytes : Record → List ℕ
record_bytes (N bars links) = codes "N" ++ big_endian 2 bars ++ big_endian 2 links
record_bytes (S link) = codes "S" ++ big_endian 2 link
record_bytes (F out into) = codes "F" ++ big_endian 2 out ++ big_endian 2 into
record_bytes (B out into) = codes "B" ++ big_endian 2 out ++ big_endian 2 into
record_bytes (Z settings) = codes "Z" ++ big_endian 8 settings

-- The bytes of records, one after another.
abbrev pub records_bytes : List Record → List ℕ
records_bytes rs = flat_map record_bytes rs

-- The bytes of a net's record.
abbrev pub net_bytes : ℕ → ℕ → List ℕ
net_bytes bars links = record_bytes (N bars links)

-- The bytes of a start link's record.
abbrev pub start_bytes : ℕ → List ℕ
start_bytes link = record_bytes (S link)

-- The bytes of the records of start links, in their order.
abbrev pub starts_bytes : List ℕ → List ℕ
starts_bytes links = records_bytes (map S links)

-- The bytes of the head of a stream: the net's record, then those of its start links.
abbrev pub head_bytes : ℕ → ℕ → List ℕ → List ℕ
head_bytes bars links starts = records_bytes (N bars links ∷ map S starts)

-- The record of an exchange.
abbrev pub record_of_exchange : Exchanged → Record
record_of_exchange (true, (out, into)) = F out into
record_of_exchange (false, (out, into)) = B out into

-- The bytes of the record of an exchange.
abbrev pub exchange_bytes : Exchanged → List ℕ
exchange_bytes x = record_bytes (record_of_exchange x)

-- The bytes of the end of a stream: how many settings were told.
abbrev pub end_bytes : ℕ → List ℕ
end_bytes settings = record_bytes (Z settings)
