-- The keyed settings below a setting: all that paths lead to, in the listing order.
use Rattle.std.proofs.Common.{◌≡◌, ℕ, zero, suc, ◌<◌, ◌≤◌, List, [], ◌∷◌, map, refl, ap, subst, inl, inr, arith}
use native.Mathlib.Decide.{ℕ_discrete}
use Rattle.std.specs.List.{flat_map}
use Rattle.net.specs.Nets.{Net}
use Rattle.net.specs.Members.{Member, Rising}
use Rattle.net.specs.Settings.{Setting, Radial}
use Rattle.net.specs.Limits.{WithinLimits}
use Rattle.net.proofs.Members.{member_append, member_left, member_right, member_joined, joined_member, member_map, map_member, rising_append, rising_joined, rising_map}
use Rattle.survey.specs.Surveys.{AllReached}
use Rattle.trees.specs.Cuts.{swapped}
use Rattle.trees.specs.Rules.{start_link_of}
use Rattle.trees.specs.Orders.{Move, move, Earlier, shorter, leaves_higher, enters_lower, later_on}
use Rattle.trees.specs.Listings.{entering_links}
use Rattle.trees.proofs.Parents.{child_radial}
use Rattle.trees.proofs.Enterings.{link_rank, enters_member, entering_rises}
use Rattle.trees.proofs.Tellings.{Keyed, moved, keyed, Path, stop, onto}

abbrev KeyedBefore : Keyed → Keyed → Type 0
KeyedBefore x y = Earlier x.0 y.0

module _ (net : Net) where
  abbrev from : ℕ → Setting → ℕ → List Keyed
  from k P g = ([], swapped P (start_link_of net (suc k)) g) ∷ keyed net k (swapped P (start_link_of net (suc k)) g)

  abbrev block : ℕ → Setting → ℕ → List Keyed
  block k P g = map (moved (move (suc k) (link_rank net g))) (from k P g)

  -- the first move of each has a leaving rank of at most m
  heads : (m : ℕ) (P : Setting) (x : Keyed) → Member x (keyed net m P) → (k : ℕ) × (r : ℕ) × (c : List Move) × (x.0 ≡ move k r ∷ c) × (k ≤ m)
  heads zero P x h = absurd h
  heads (suc m) P x h = elim (member_append x (flat_map (block m P) (entering_links net P (suc m))) (keyed net m P) h) [
    | inl p ↦
        let (g, _, q) = member_joined (block m P) x (entering_links net P (suc m)) p in
        let (y, _, e) = member_map (moved (move (suc m) (link_rank net g))) x (from m P g) q in
        (suc m, link_rank net g, y.0, ap (λ z. z.0) e, omega arith)
    | inr p ↦ let (k, r, c, e, l) = heads m P x p in (k, r, c, e, omega arith)
  ]

  -- a setting before all below it
  pub first_shorter : (m : ℕ) (P Q : Setting) (y : Keyed) → Member y (keyed net m P) → KeyedBefore ([], Q) y
  first_shorter m P Q y h = let (k, r, c, e, _) = heads m P y h in rw e shorter

  place : (m k : ℕ) → suc k ≤ m → (P : Setting) (g : ℕ) → Member g (entering_links net P (suc k)) → (c : List Move) (T : Setting)
      → Member (c, T) (from k P g) → Member (move (suc k) (link_rank net g) ∷ c, T) (keyed net m P)
  place zero k l P g mg c T h = absurd (omega arith)
  place (suc m) k l P g mg c T h = elim (ℕ_discrete k m) [
    | yes e ↦ subst (λ z. Member (move (suc k) (link_rank net g) ∷ c, T) (keyed net (suc z) P)) e
        (member_left (move (suc k) (link_rank net g) ∷ c, T) (flat_map (block k P) (entering_links net P (suc k))) (keyed net k P)
        (joined_member (block k P) (move (suc k) (link_rank net g) ∷ c, T) g (entering_links net P (suc k)) mg
        (map_member (moved (move (suc k) (link_rank net g))) (c, T) (from k P g) h)))
    | no n ↦ member_right (move (suc k) (link_rank net g) ∷ c, T) (flat_map (block m P) (entering_links net P (suc m))) (keyed net m P) (place m k (omega arith) P g mg c T h)
  ]

  module _ (fit : WithinLimits net) (all : AllReached net) where
    pub keyed_rises : (m : ℕ) (P : Setting) → Rising KeyedBefore (keyed net m P)
    keyed_rises zero P = tt
    keyed_rises (suc m) P = rising_append KeyedBefore (flat_map (block m P) (entering_links net P (suc m))) (keyed net m P)
        (rising_joined (λ g h. link_rank net g < link_rank net h) KeyedBefore (block m P) (entering_links net P (suc m)) (entering_rises net fit all P (suc m))
        (λ g. rising_map KeyedBefore KeyedBefore (moved (move (suc m) (link_rank net g))) (from m P g) (λ x y l. later_on l)
        (first_shorter m (swapped P (start_link_of net (suc m)) g) (swapped P (start_link_of net (suc m)) g), keyed_rises m (swapped P (start_link_of net (suc m)) g)))
        (λ g h l y z p q.
        let (y', _, e) = member_map (moved (move (suc m) (link_rank net g))) y (from m P g) p in
        let (z', _, f) = member_map (moved (move (suc m) (link_rank net h))) z (from m P h) q in
        rw (e, f) (enters_lower l)))
        (keyed_rises m P)
        (λ x y p q.
        let (g, _, b) = member_joined (block m P) x (entering_links net P (suc m)) p in
        let (z, _, e) = member_map (moved (move (suc m) (link_rank net g))) x (from m P g) b in
        let (k, r, c, f, l) = heads m P y q in
        let lt : k < suc m = omega arith in
        rw (e, f) (leaves_higher lt))

    -- what a path leads to is there
    pub keyed_full : {m : ℕ} {P T : Setting} {c : List Move} → Radial net P → Path net m P c T → Member (c, T) (([], P) ∷ keyed net m P)
    keyed_full r stop = inl refl
    keyed_full r (onto {m = m} {k = k} {g = g} {P = P} {C = C} {T = T} {c = c} l ch p) =
        let e = enters_member net fit all P (suc k) r ch.leaving.is_start_link ch.leaving.closed g ch.entering in
        inr (place m k l P g e c T (rw ch.made at (keyed_full (child_radial net fit all P (suc k) g C r ch) p)))
