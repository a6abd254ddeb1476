-- A search stands at a level of the theory, and its moves keep it so.
use Rattle.std.proofs.Common.{◌≡◌, ℕ, zero, suc, ◌+◌, ◌-◌, ◌<◌, ◌≤◌, true, ◌&&◌, leb, [], ◌∷◌, length, arith}
use Rattle.std.proofs.lemmas.Bool.{and_parts, and_from, leb-true, le-leb}
use Rattle.net.specs.Nets.{Net}
use Rattle.net.specs.Limits.{WithinLimits}
use Rattle.survey.specs.Surveys.{start_setting, AllReached}
use Rattle.trees.specs.Cuts.{swapped}
use Rattle.trees.specs.Rules.{start_link_of, IsStart}
use Rattle.trees.specs.Listings.{enters}
use Rattle.trees.proofs.Levels.{Level, start_level, level_below, level_passes, passes_level, level_child, level_back}
use Rattle.search.specs.Descents.{Descent, link_at, setting_at, descends, EntersAt}

module _ (net : Net) where
  -- a descent in its parts
  pub descends_parts : (j r : ℕ) (d : Descent) (k : ℕ) → descends net ((j, r) ∷ d) k ≡ true
      → (k < j) × (enters net (setting_at net d) j (link_at net r) ≡ true) × (descends net d j ≡ true)
  descends_parts j r d k h =
      let (p, q) = and_parts (leb (suc k) j) (enters net (setting_at net d) j (link_at net r) && descends net d j) h in
      let (u, v) = and_parts (enters net (setting_at net d) j (link_at net r)) (descends net d j) q in
      (leb-true (suc k) j p, u, v)

  pub descends_from : (j r : ℕ) (d : Descent) (k : ℕ) → k < j → enters net (setting_at net d) j (link_at net r) ≡ true → descends net d j ≡ true
      → descends net ((j, r) ∷ d) k ≡ true
  descends_from j r d k l u v = and_from (leb (suc k) j) (enters net (setting_at net d) j (link_at net r) && descends net d j) (le-leb (suc k) j l)
      (and_from (enters net (setting_at net d) j (link_at net r)) (descends net d j) u v)

  -- each exchange takes a rank
  pub descent_length : (d : Descent) (k : ℕ) → descends net d k ≡ true → length d + k < net.bars
  descent_length [] k h = omega (arith, leb-true (suc k) net.bars h)
  descent_length ((j, r) ∷ d) k h = let (l, _, q) = descends_parts j r d k h in omega (arith, descent_length d j q)

  -- a ceiling above 0 is the rank of a start link
  pub start_below : (d : Descent) (k : ℕ) → descends net d k ≡ true → 1 ≤ k → IsStart net k
  start_below d k h lo = (lo, omega (arith, descent_length d k h))

  pub descends_below : (d : Descent) (j k : ℕ) → j ≤ k → descends net d k ≡ true → descends net d j ≡ true
  descends_below [] j k l h = le-leb (suc j) net.bars (omega (arith, leb-true (suc k) net.bars h))
  descends_below ((i, r) ∷ d) j k l h = let (m, u, v) = descends_parts i r d k h in descends_from i r d j (omega arith) u v

module _ (net : Net) (fit : WithinLimits net) (all : AllReached net) where
  pub descent_level : (d : Descent) (k : ℕ) → descends net d k ≡ true → Level net fit all k (setting_at net d)
  descent_level [] k h = level_below net fit all k (net.bars - 1) (start_setting net) (omega (arith, leb-true (suc k) net.bars h)) (start_level net fit all)
  descent_level ((zero, r) ∷ d) k h = let (l, u, v) = descends_parts net zero r d k h in absurd (omega arith)
  descent_level ((suc j, r) ∷ d) k h =
      let (l, u, v) = descends_parts net (suc j) r d k h in
      let w = descent_level d (suc j) v in
      level_below net fit all k j (swapped (setting_at net d) (start_link_of net (suc j)) (link_at net r)) (omega arith)
      (level_child net fit all j (link_at net r) (setting_at net d) w (level_passes net fit all (suc j) (link_at net r) (setting_at net d) (omega arith, w.low) w u))

  -- the test and the rule
  pub test_enters : (d : Descent) (k r : ℕ) → descends net d k ≡ true → 1 ≤ k → enters net (setting_at net d) k (link_at net r) ≡ true → EntersAt net (setting_at net d) k r
  test_enters d k r h k1 e =
      let w = descent_level d k h in
      ((k1, w.low), level_passes net fit all k (link_at net r) (setting_at net d) (k1, w.low) w e)

  pub enters_test : (d : Descent) (k r : ℕ) → descends net d k ≡ true → EntersAt net (setting_at net d) k r → enters net (setting_at net d) k (link_at net r) ≡ true
  enters_test d k r h (sk, en) = passes_level net fit all k (link_at net r) (setting_at net d) sk (descent_level d k h) en

  -- the way back from the last exchange
  pub descent_back : (j r : ℕ) (d : Descent) (k : ℕ) → descends net ((j, r) ∷ d) k ≡ true
      → swapped (setting_at net ((j, r) ∷ d)) (link_at net r) (start_link_of net j) ≡ setting_at net d
  descent_back zero r d k h = let (l, u, v) = descends_parts net zero r d k h in absurd (omega arith)
  descent_back (suc j) r d k h =
      let (l, u, v) = descends_parts net (suc j) r d k h in
      let w = descent_level d (suc j) v in
      level_back net fit all j (link_at net r) (setting_at net d) w (level_passes net fit all (suc j) (link_at net r) (setting_at net d) (omega arith, w.low) w u)
