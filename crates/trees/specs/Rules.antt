-- The child rule and the parent rule. Assumes nothing.
use Rattle.std.specs.Prelude.{◌≡◌, ℕ, ◌<◌, ◌≤◌, ◌≢◌}
use Rattle.net.specs.Nets.{nth, Net}
use Rattle.net.specs.Settings.{Setting, Closed}
use Rattle.survey.specs.Surveys.{start_links, start_setting}
use Rattle.trees.specs.Cuts.{InCut, InLoop, swapped}

-- The start link of rank k.
abbrev pub start_link_of : Net → ℕ → ℕ
start_link_of net k = nth (start_links net) k 0

-- Start links have the ranks 1 to one fewer than the bars.
abbrev pub IsStart : Net → ℕ → Type 0
IsStart net k = (1 ≤ k) × (k < net.bars)

-- The start link of rank k may leave T: it is closed, and its rank is below that of every start link open in T.
pub record Leaving (net : Net) (T : Setting) (k : ℕ) : Type 0 where
  pub is_start_link : IsStart net k
  pub closed : Closed T (start_link_of net k)
  pub below_open : (j : ℕ) → IsStart net j → ¬ Closed T (start_link_of net j) → k < j

-- Link g may enter for it: it is open in T, another link, and in both cuts at it, of T and of the start setting.
pub record Entering (net : Net) (T : Setting) (k g : ℕ) : Type 0 where
  pub is_open : ¬ Closed T g
  pub other : g ≢ start_link_of net k
  pub in_cut : InCut net T (start_link_of net k) g
  pub in_start_cut : InCut net (start_setting net) (start_link_of net k) g

-- C is the child of T for which the start link of rank k leaves and g enters.
pub record IsChild (net : Net) (T : Setting) (k g : ℕ) (C : Setting) : Type 0 where
  pub leaving : Leaving net T k
  pub entering : Entering net T k g
  pub made : C ≡ swapped T (start_link_of net k) g

-- The start link of rank k is the one of lowest rank that T lacks.
pub record FirstMissing (net : Net) (T : Setting) (k : ℕ) : Type 0 where
  pub is_start_link : IsStart net k
  pub missing : ¬ Closed T (start_link_of net k)
  pub lowest : (j : ℕ) → IsStart net j → ¬ Closed T (start_link_of net j) → k ≤ j

-- P is the parent of T: f is T's missing start link of lowest rank, g is in T's loop with f and in the start setting's cut at f and is not f;
-- g is opened and f is closed.
pub record IsParent (net : Net) (P T : Setting) (k g : ℕ) : Type 0 where
  pub first : FirstMissing net T k
  pub other : g ≢ start_link_of net k
  pub in_loop : InLoop net T (start_link_of net k) g
  pub in_start_cut : InCut net (start_setting net) (start_link_of net k) g
  pub made : P ≡ swapped T g (start_link_of net k)
