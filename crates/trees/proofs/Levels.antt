-- A radial setting with a ceiling: it holds the start links up to that rank.
use Rattle.std.proofs.Common.{◌≡◌, ℕ, suc, ◌-◌, ◌<◌, ◌≤◌, true, refl, arith}
use Rattle.net.specs.Nets.{Net}
use Rattle.net.specs.Settings.{Setting, Radial}
use Rattle.net.specs.Limits.{WithinLimits}
use Rattle.net.proofs.Settings.{open_from_not}
use Rattle.survey.specs.Surveys.{start_setting, AllReached}
use Rattle.trees.specs.Cuts.{swapped}
use Rattle.trees.specs.Rules.{start_link_of, IsStart, Entering, IsChild}
use Rattle.trees.specs.Listings.{enters}
use Rattle.trees.proofs.Ranks.{start_closed}
use Rattle.trees.proofs.Cores.{Holds, start_is_radial}
use Rattle.trees.proofs.Loops.{swap_back}
use Rattle.trees.proofs.Parents.{holds_leaving, child_radial, child_holds}
use Rattle.trees.proofs.Enterings.{passes_enters, enters_passes}

module _ (net : Net) (fit : WithinLimits net) (all : AllReached net) where
  pub record Level (k : ℕ) (T : Setting) : Type 0 where
    pub low : k < net.bars
    pub radial : Radial net T
    pub holds : Holds net k T

  pub start_level : Level (net.bars - 1) (start_setting net)
  start_level = record {
    low = omega (arith, fit.few_bars);
    radial = start_is_radial net fit all;
    holds = λ j j1 jv. start_closed net fit all j (j1, omega (arith, fit.few_bars));
  }

  pub level_below : (j k : ℕ) (T : Setting) → j ≤ k → Level k T → Level j T
  level_below j k T h v = record { low = omega (arith, v.low); radial = v.radial; holds = λ i i1 ij. v.holds i i1 (omega arith) }

  -- the test says what may enter
  pub level_passes : (k g : ℕ) (T : Setting) → IsStart net k → Level k T → enters net T k g ≡ true → Entering net T k g
  level_passes k g T sk v e = passes_enters net fit all T k v.radial sk (v.holds k sk.0 (omega arith)) g e

  pub passes_level : (k g : ℕ) (T : Setting) → IsStart net k → Level k T → Entering net T k g → enters net T k g ≡ true
  passes_level k g T sk v en = enters_passes net fit all T k v.radial sk (v.holds k sk.0 (omega arith)) g en

  pub level_is_child : (k g : ℕ) (T : Setting) → Level (suc k) T → Entering net T (suc k) g → IsChild net T (suc k) g (swapped T (start_link_of net (suc k)) g)
  level_is_child k g T v en = record { leaving = holds_leaving net T (suc k) (omega arith, v.low) v.holds; entering = en; made = refl }

  -- a child, with the ceiling one lower
  pub level_child : (k g : ℕ) (T : Setting) → Level (suc k) T → Entering net T (suc k) g → Level k (swapped T (start_link_of net (suc k)) g)
  level_child k g T v en =
      let c = level_is_child k g T v en in
      record {
        low = omega (arith, v.low);
        radial = child_radial net fit all T (suc k) g (swapped T (start_link_of net (suc k)) g) v.radial c;
        holds = λ j j1 jk. child_holds net fit all T (suc k) g (swapped T (start_link_of net (suc k)) g) v.radial c j j1 (omega arith);
      }

  -- and back from it
  pub level_back : (k g : ℕ) (T : Setting) → Level (suc k) T → Entering net T (suc k) g → swapped (swapped T (start_link_of net (suc k)) g) g (start_link_of net (suc k)) ≡ T
  level_back k g T v en = swap_back T (start_link_of net (suc k)) g (v.holds (suc k) (omega arith) (omega arith)) (open_from_not T g en.is_open)
