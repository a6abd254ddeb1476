-- The head of the stream of a net. Assumes nothing.
use Rattle.std.specs.Prelude.{List, ◌∷◌, map, length}
use Rattle.net.specs.Nets.{Net}
use Rattle.survey.specs.Surveys.{start_links}
use Rattle.stream.specs.Records.{Record, N, S}

-- Its records: the net, and the start links by rank.
abbrev pub head_records : Net → List Record
head_records net = N net.bars (length net.links) ∷ map S (start_links net)
