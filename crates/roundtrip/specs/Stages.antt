-- The stages of a packer. Assumes nothing.
use Rattle.std.specs.Prelude.{ℕ, Bool, true, length, ◌==◌, nat_le}
use Rattle.net.specs.Nets.{Net}
use Rattle.trees.specs.Listings.{listing}
use Rattle.roundtrip.specs.declared.stage.Stage.{Stage}

-- The test that a stage and the exchanges written so far belong together: none before the head, all at the end.
abbrev pub is_due : Net → Stage → ℕ → Bool
is_due net Stage.Head n = n == 0
is_due net Stage.Exchanges n = true
is_due net Stage.End n = nat_le (length (listing net)) n
is_due net Stage.Done n = true
