-- The cut of a setting at a closed link, and its loop with an open one. Assumes nothing.
use Rattle.std.specs.Prelude.{◌≡◌, ℕ, ◌⊎◌, List, [], ◌∷◌}
use Rattle.net.specs.Nets.{Net, Joins}
use Rattle.net.specs.Members.{Member}
use Rattle.net.specs.Settings.{Setting, Closed, closing, opening, Reach}

-- Link l is in the cut of T at f: its two bars are on different sides once f is opened.
pub record InCut (net : Net) (T : Setting) (f l : ℕ) : Type 0 where
  pub a : ℕ
  pub b : ℕ
  pub joins : Joins net l a b
  pub apart : ¬ Reach net (opening T f) a b

-- A trail from a to b: a way over closed links that uses no link twice; its links are listed, the last first.
pub data Trail (net : Net) (T : Setting) (a : ℕ) : ℕ → List ℕ → Type 0 where
  stay : Trail net T a a []
  go : {b c l : ℕ} {ls : List ℕ} → Trail net T a b ls → Closed T l → Joins net l b c → ¬ Member l ls → Trail net T a c (l ∷ ls)

-- Link l lies on a trail from a to b.
abbrev pub OnWay : Net → Setting → ℕ → ℕ → ℕ → Type 0
OnWay net T a b l = (ls : List ℕ) × Trail net T a b ls × Member l ls

-- Link l is in the loop of T with g: it is g, or it lies on the way between the bars of g.
abbrev pub InLoop : Net → Setting → ℕ → ℕ → Type 0
InLoop net T g l = (l ≡ g) ⊎ ((a : ℕ) × (b : ℕ) × Joins net g a b × OnWay net T a b l)

-- T with e opened and g closed.
abbrev pub swapped : Setting → ℕ → ℕ → Setting
swapped T e g = closing (opening T e) g
