-- What cuts, parents, the order and the listing of a surveyed net are, in the subject's words. Assumes nothing.
use Rattle.std.specs.Prelude.{◌≡◌, ℕ, ◌^◌, ◌≤◌, ◌≢◌, ◌⊎◌, List, [], ◌∷◌, length}
use Rattle.net.specs.Nets.{Net, InService}
use Rattle.net.specs.Members.{Member, Rising}
use Rattle.net.specs.Settings.{Setting, Closed, Radial}
use Rattle.survey.specs.Surveys.{start_setting}
use Rattle.trees.specs.Cuts.{InCut, InLoop, swapped}
use Rattle.trees.specs.Rules.{start_link_of, IsChild, IsParent}
use Rattle.trees.specs.Orders.{Before}
use Rattle.trees.specs.Listings.{Exchanged, forward, back, listing, told}

-- Cut and loop are two sides of one fact: for f closed in a radial T and g open, g is in the cut at f exactly when f is in the loop with g,
-- and then, and only then, T without f and with g is radial.
pub record CutAndLoop (net : Net) (T : Setting) (f g : ℕ) : Type 0 where
  pub cut_loop : InCut net T f g → InLoop net T g f
  pub loop_cut : InLoop net T g f → InCut net T f g
  pub cut_radial : InCut net T f g → Radial net (swapped T f g)
  pub radial_cut : Radial net (swapped T f g) → InCut net T f g

-- A radial setting other than the start has exactly one parent, and this is radial.
pub record OneParent (net : Net) (T : Setting) : Type 0 where
  pub parent : Setting
  pub leaving : ℕ
  pub entering : ℕ
  pub is_parent : IsParent net parent T leaving entering
  pub parent_radial : Radial net parent
  pub only : (P : Setting) (k g : ℕ) → IsParent net P T k g → (k ≡ leaving) × (g ≡ entering) × (P ≡ parent)

-- The rules of the listing: of cuts and loops, of parents and children, and of the order.
pub record Ruled (net : Net) : Type 0 where
  pub cuts : (T : Setting) (f g : ℕ) → Radial net T → Closed T f → ¬ Closed T g → InService net g → CutAndLoop net T f g
  pub parents : (T : Setting) → Radial net T → T ≢ start_setting net → OneParent net T
  -- child rule and parent rule say the same
  pub child_parent : (P T : Setting) (k g : ℕ) → Radial net P → IsChild net P k g T → Radial net T × IsParent net P T k g
  pub parent_child : (P T : Setting) (k g : ℕ) → Radial net T → IsParent net P T k g → IsChild net P k g T
  -- the order is strict and total on the radial settings
  pub not_before_itself : (T : Setting) → Radial net T → ¬ Before net T T
  pub before_joins : (R S T : Setting) → Radial net S → Before net R S → Before net S T → Before net R T
  pub one_before : (S T : Setting) → Radial net S → Radial net T → (S ≡ T) ⊎ (Before net S T ⊎ Before net T S)

-- Exchanges by the rule, from T with these forward exchanges (link out, link in) not yet reversed, the latest first:
-- each forward one goes to a child, each back one reverses the latest forward one not yet reversed.
pub data ByRule (net : Net) : Setting → List (ℕ × ℕ) → List Exchanged → Type 0 where
  no_more : {T : Setting} → ByRule net T [] []
  to_child : {T C : Setting} {k g : ℕ} {pending : List (ℕ × ℕ)} {xs : List Exchanged} → IsChild net T k g C → ByRule net C ((start_link_of net k, g) ∷ pending) xs
      → ByRule net T pending (forward (start_link_of net k) g ∷ xs)
  reversed : {T : Setting} {e g : ℕ} {pending : List (ℕ × ℕ)} {xs : List Exchanged} → ByRule net (swapped T g e) pending xs
      → ByRule net T ((e, g) ∷ pending) (back g e ∷ xs)

-- The listing tells every radial setting exactly once, in the listing order, by the rule.
pub record Listed (net : Net) : Type 0 where
  pub by_rule : ByRule net (start_setting net) [] (listing net)
  pub radial : (T : Setting) → Member T (told net (listing net)) → Radial net T
  pub every : (T : Setting) → Radial net T → Member T (told net (listing net))
  pub in_order : Rising (Before net) (told net (listing net))
  pub once : Rising ◌≢◌ (told net (listing net))
  pub at_most : length (listing net) ≤ 2 ^ 61
