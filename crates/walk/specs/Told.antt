-- Settings told one after another, and what they leave out. Assumes nothing.
use Rattle.std.specs.Prelude.{◌≡◌, ◌≢◌, List, [], ◌∷◌, ◌++◌}
use Rattle.net.specs.Nets.{Net}
use Rattle.net.specs.Members.{Member, Rising}
use Rattle.net.specs.Settings.{Setting, Radial}
use Rattle.trees.specs.Orders.{Before}

-- All are radial, each but the first comes after the one told before it, and no radial setting comes between the two or before the first.
pub record Unbroken (net : Net) (told : List Setting) : Type 0 where
  pub radial : (T : Setting) → Member T told → Radial net T
  pub none_before : (T : Setting) (later : List Setting) → told ≡ T ∷ later → (R : Setting) → Radial net R → ¬ Before net R T
  pub in_order : (S T : Setting) (sooner later : List Setting) → told ≡ sooner ++ (S ∷ (T ∷ later)) → Before net S T
  pub none_between : (S T : Setting) (sooner later : List Setting) → told ≡ sooner ++ (S ∷ (T ∷ later)) → (R : Setting) → Radial net R → Before net S R → ¬ Before net R T

-- No radial setting comes after the last; every radial setting was told, and none twice.
pub record Complete (net : Net) (told : List Setting) : Type 0 where
  pub none_after : (T : Setting) (sooner : List Setting) → told ≡ sooner ++ (T ∷ []) → (R : Setting) → Radial net R → ¬ Before net T R
  pub every : (T : Setting) → Radial net T → Member T told
  pub once : Rising ◌≢◌ told
