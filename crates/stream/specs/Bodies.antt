-- The bodies of records as parts of a stream, and what they say. Assumes nothing.
use Rattle.std.specs.Prelude.{ℕ, List, ◌++◌, take, drop, codes}
use Rattle.std.specs.Int.Digits.{number_from_digits}
use Rattle.stream.specs.declared.bodies.Body.{Body}
use Rattle.stream.specs.declared.bodies.Body.TheVariants.{Net, Start, Forward, Back, End}
use Rattle.stream.specs.declared.bodies.Entry.{Entry}
use Rattle.stream.specs.Records.{Record, N, S, F, B, Z}

-- The bytes of a record by its body: the letter of its kind, then the body.
abbrev pub bytes_in : Body → List ℕ
bytes_in (Net body) = codes "N" ++ body.now
bytes_in (Start body) = codes "S" ++ body.now
bytes_in (Forward body) = codes "F" ++ body.now
bytes_in (Back body) = codes "B" ++ body.now
bytes_in (End body) = codes "Z" ++ body.now

-- The number of big-endian bytes: digits in base 256, the highest first.
abbrev pub number_in : List ℕ → ℕ
number_in bytes = number_from_digits 256 bytes

-- The record that a body says: numbers of two bytes each, but for the settings told, which have all eight.
abbrev pub record_in : Body → Record
record_in (Net body) = N (number_in (take 2 body.now)) (number_in (drop 2 body.now))
record_in (Start body) = S (number_in body.now)
record_in (Forward body) = F (number_in (take 2 body.now)) (number_in (drop 2 body.now))
record_in (Back body) = B (number_in (take 2 body.now)) (number_in (drop 2 body.now))
record_in (End body) = Z (number_in body.now)

-- The record of an entry.
abbrev pub record_of : Entry → Record
record_of (Entry.Net bars links) = N bars links
record_of (Entry.Start link) = S link
record_of (Entry.Forward out into) = F out into
record_of (Entry.Back out into) = B out into
record_of (Entry.End settings) = Z settings
