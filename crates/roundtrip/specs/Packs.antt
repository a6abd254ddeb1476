-- The stream of a net's whole listing. Assumes nothing.
use Rattle.std.specs.Prelude.{ℕ, List, [], ◌∷◌, ◌++◌, map, length}
use Rattle.net.specs.Nets.{Net}
use Rattle.survey.specs.Surveys.{start_links}
use Rattle.trees.specs.Listings.{listing, told}
use Rattle.stream.specs.Records.{Record, N, S, Z, records_bytes, record_of_exchange}

-- How many settings the listing tells.
abbrev pub settings_of : Net → ℕ
settings_of net = length (told net (listing net))

-- Its records: the net, the start links by rank, the exchanges, the settings told.
abbrev pub stream_records : Net → List Record
stream_records net = N net.bars (length net.links) ∷ (map S (start_links net) ++ (map record_of_exchange (listing net) ++ (Z (settings_of net) ∷ [])))

-- Its bytes.
abbrev pub stream_of : Net → List ℕ
stream_of net = records_bytes (stream_records net)
