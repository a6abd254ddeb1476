-- Exchanges reversed one after another, the latest first. Assumes nothing.
use Rattle.std.specs.Prelude.{ℕ, ◌≢◌, List, [], ◌∷◌}
use Rattle.net.specs.Nets.{Net, InService}
use Rattle.net.specs.Settings.{Setting, Closed, Radial}
use Rattle.trees.specs.Cuts.{swapped}

-- The setting that is reached from T when exchanges (link out, link in) are reversed.
abbrev pub reversed_by : Setting → List (ℕ × ℕ) → Setting
reversed_by T [] = T
reversed_by T ((out, into) ∷ ps) = reversed_by (swapped T into out) ps

-- An exchange can be reversed in T: its link out is in service and open, and closing it and opening the other leaves a radial setting.
pub record Reversible (net : Net) (T : Setting) (out into : ℕ) : Type 0 where
  pub different : out ≢ into
  pub in_service : InService net out
  pub is_open : ¬ Closed T out
  pub radial : Radial net (swapped T into out)

-- All of these exchanges can be reversed, one after another.
abbrev pub CanReverse : Net → Setting → List (ℕ × ℕ) → Type 0
CanReverse net T [] = Unit {0}
CanReverse net T ((out, into) ∷ ps) = Reversible net T out into × CanReverse net (swapped T into out) ps
