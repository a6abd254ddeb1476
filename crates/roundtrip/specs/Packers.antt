-- What a packer has still to write, and what a call of it writes. Assumes nothing.
use Rattle.std.specs.Prelude.{◌≡◌, ℕ, ◌/◌, cond, List, [], ◌∷◌, ◌++◌, map, length, take, drop, nat_le}
use Rattle.net.specs.Nets.{Net}
use Rattle.trees.specs.Listings.{listing}
use Rattle.walk.specs.Walks.{net_of_walk, handed_by}
use Rattle.stream.specs.declared.writer.Writer.{Writer}
use Rattle.stream.specs.Records.{Record, Z, records_bytes, record_of_exchange}
use Rattle.stream.specs.Writers.{bytes_of, left_in}
use Rattle.roundtrip.specs.declared.stage.Stage.{Stage}
use Rattle.roundtrip.specs.declared.packer.Packer.{Packer}
use Rattle.roundtrip.specs.Heads.{head_records}
use Rattle.roundtrip.specs.Packs.{settings_of, stream_records}

-- The net that is packed.
abbrev pub net_packed : Packer → Net
net_packed p = net_of_walk p.walk

-- The records that are still to be written at a stage, once n exchanges were.
abbrev pub coming_after : Net → Stage → ℕ → List Record
coming_after net Stage.Head n = stream_records net
coming_after net Stage.Exchanges n = map record_of_exchange (drop n (listing net)) ++ (Z (settings_of net) ∷ [])
coming_after net Stage.End n = Z (settings_of net) ∷ []
coming_after net Stage.Done n = []

-- The records that a packer has still to write.
abbrev pub coming_of : Packer → List Record
coming_of p = coming_after (net_packed p) p.stage (handed_by p.walk)

-- The next records that so many bytes have room for: the head whole or not at all, as many exchanges as fit, the end whole or not at all.
abbrev pub next_after : Net → Stage → ℕ → ℕ → List Record
next_after net Stage.Head n room = cond (nat_le (length (records_bytes (head_records net))) room) (head_records net) []
next_after net Stage.Exchanges n room = map record_of_exchange (take (room / 5) (drop n (listing net)))
next_after net Stage.End n room = cond (nat_le 9 room) (Z (settings_of net) ∷ []) []
next_after net Stage.Done n room = []

-- The next records of a packer that so many bytes have room for.
abbrev pub next_of : Packer → ℕ → List Record
next_of p room = next_after (net_packed p) p.stage (handed_by p.walk) room

-- The bytes of the next records of the stream are written behind the others, as far as there is room.
pub record Fills (w : Writer) (p : Packer) (w' : Writer) (p' : Packer) : Type 0 where
  pub net : net_packed p' ≡ net_packed p
  pub written : bytes_of w' ≡ bytes_of w ++ records_bytes (next_of p (left_in w))
  pub rest : coming_of p ≡ next_of p (left_in w) ++ coming_of p'
