-- The start links are small numbers.
use Rattle.std.proofs.Common.{ℕ, zero, suc, ◌≤◌, length, arith}
use native.Mathlib.Decide.{dec_le}
use Rattle.net.specs.Nets.{Net}
use Rattle.net.specs.Limits.{WithinLimits}
use Rattle.net.proofs.Numbered.{nth_past}
use Rattle.net.proofs.Links.{joins_range}
use Rattle.survey.specs.Surveys.{start_links, AllReached}
use Rattle.trees.specs.Rules.{start_link_of}
use Rattle.trees.proofs.Ranks.{start_up}
use Rattle.roundtrip.proofs.Starts.{count}

-- a start link is a number of at most 60
pub start_fits : (net : Net) → WithinLimits net → AllReached net → (k : ℕ) → start_link_of net k ≤ 60
start_fits net fit all zero = omega arith
start_fits net fit all (suc k) = elim (dec_le (suc k) (length (start_links net))) [
  | yes h ↦
      let (_, _, _, _, up) = start_up net fit all (suc k) (omega arith, omega (arith, count net fit all)) in
      omega (arith, joins_range net up, fit.few_links)
  | no n ↦ omega (arith, nth_past (start_links net) (suc k) 0 (omega arith))
]
