-- The events of a setting tell the settings below it, go by the rule and come back to it.
use Rattle.std.proofs.Common.{◌≡◌, ℕ, zero, suc, ◌*◌, List, [], ◌∷◌, ◌++◌, map, length, sym, refl, ap, ◌∙◌, subst, ap₂, inl, inr, append_assoc, arith, length-append}
use mathlib.Core.List.{map-append}
use Rattle.std.specs.List.{flat_map}
use Rattle.net.specs.Nets.{Net}
use Rattle.net.specs.Members.{Member}
use Rattle.net.specs.Settings.{Setting}
use Rattle.net.specs.Limits.{WithinLimits}
use Rattle.survey.specs.Surveys.{AllReached}
use Rattle.trees.specs.Cuts.{swapped}
use Rattle.trees.specs.Rules.{start_link_of, Entering}
use Rattle.trees.specs.Orders.{move}
use Rattle.trees.specs.Listings.{entering_links, Exchanged, forward, back, events, told_after}
use Rattle.trees.specs.Laws.{ByRule, to_child, reversed}
use Rattle.trees.proofs.Enterings.{link_rank, member_enters}
use Rattle.trees.proofs.Levels.{Level, level_below, level_is_child, level_child, level_back}
use Rattle.trees.proofs.Tellings.{Keyed, moved, keyed}

abbrev setting_of : Keyed → Setting
setting_of x = x.1

-- the settings below T for leaving links of rank k and less
abbrev pub below : Net → ℕ → Setting → List Setting
below net zero T = []
below net (suc k) T =
    flat_map (λ g. swapped T (start_link_of net (suc k)) g ∷ below net k (swapped T (start_link_of net (suc k)) g)) (entering_links net T (suc k)) ++ below net k T

map_joined : {A B C : Type 0} (f : B → C) (h : A → List B) (k : A → List C) → ((x : A) → map f (h x) ≡ k x) → (xs : List A) → map f (flat_map h xs) ≡ flat_map k xs
map_joined f h k e [] = refl
map_joined f h k e (x ∷ xs) = map-append f (h x) (flat_map h xs) ∙ ap₂ ◌++◌ (e x) (map_joined f h k e xs)

map_moved : (m : _) (xs : List Keyed) → map setting_of (map (moved m) xs) ≡ map setting_of xs
map_moved m [] = refl
map_moved m (x ∷ xs) = ap (λ ys. x.1 ∷ ys) (map_moved m xs)

-- the keyed settings without their keys
pub keyed_below : (net : Net) (k : ℕ) (T : Setting) → map setting_of (keyed net k T) ≡ below net k T
keyed_below net zero T = refl
keyed_below net (suc k) T =
    map-append setting_of (flat_map (λ g. map (moved (move (suc k) (link_rank net g))) (from g)) (entering_links net T (suc k))) (keyed net k T)
    ∙ ap₂ ◌++◌ (map_joined setting_of (λ g. map (moved (move (suc k) (link_rank net g))) (from g)) (λ g. swapped T (start_link_of net (suc k)) g ∷ below net k (swapped T (start_link_of net (suc k)) g))
    (λ g. map_moved (move (suc k) (link_rank net g)) (from g) ∙ ap (λ ys. swapped T (start_link_of net (suc k)) g ∷ ys) (keyed_below net k (swapped T (start_link_of net (suc k)) g)))
    (entering_links net T (suc k))) (keyed_below net k T)
  where
    from : ℕ → List Keyed
    from g = ([], swapped T (start_link_of net (suc k)) g) ∷ keyed net k (swapped T (start_link_of net (suc k)) g)

module _ (net : Net) (fit : WithinLimits net) (all : AllReached net) where
  entered : (k g : ℕ) (T : Setting) → Level net fit all (suc k) T → Member g (entering_links net T (suc k)) → Entering net T (suc k) g
  entered k g T v m = member_enters net fit all T (suc k) v.radial (omega arith, v.low) (v.holds (suc k) (omega arith) (omega arith)) g m

  -- the exchanges of T for one entering link
  abbrev visit : ℕ → Setting → ℕ → List Exchanged
  visit k T g = forward (start_link_of net (suc k)) g ∷ (events net k (swapped T (start_link_of net (suc k)) g) ++ (back g (start_link_of net (suc k)) ∷ []))

  visit_then : (k : ℕ) (T : Setting) (g : ℕ) (ys : List Exchanged)
      → visit k T g ++ ys ≡ forward (start_link_of net (suc k)) g ∷ (events net k (swapped T (start_link_of net (suc k)) g) ++ (back g (start_link_of net (suc k)) ∷ ys))
  visit_then k T g ys = ap (λ zs. forward (start_link_of net (suc k)) g ∷ zs) (append_assoc (events net k (swapped T (start_link_of net (suc k)) g)) (back g (start_link_of net (suc k)) ∷ []) ys)

  -- the setting of one entering link and those below it
  abbrev inner : ℕ → Setting → ℕ → List Setting
  inner k T g = swapped T (start_link_of net (suc k)) g ∷ below net k (swapped T (start_link_of net (suc k)) g)

  abbrev Tells : ℕ → Setting → Type 0
  Tells k T = (ys : List Exchanged) → told_after T (events net k T ++ ys) ≡ below net k T ++ told_after T ys

  told_visits : (k : ℕ) (T : Setting) → Level net fit all (suc k) T → ((C : Setting) → Level net fit all k C → Tells k C) → (gs : List ℕ)
      → ((g : ℕ) → Member g gs → Member g (entering_links net T (suc k))) → (ys : List Exchanged)
      → told_after T (flat_map (visit k T) gs ++ ys) ≡ flat_map (inner k T) gs ++ told_after T ys
  told_visits k T v rec [] f ys = refl
  told_visits k T v rec (g ∷ gs) f ys =
      ap (told_after T) (append_assoc (visit k T g) (flat_map (visit k T) gs) ys)
      ∙ one g (f g (inl refl)) (flat_map (visit k T) gs ++ ys)
      ∙ ap (λ zs. inner k T g ++ zs) (told_visits k T v rec gs (λ h m. f h (inr m)) ys)
      ∙ sym (append_assoc (inner k T g) (flat_map (inner k T) gs) (told_after T ys))
    where
      one : (g : ℕ) → Member g (entering_links net T (suc k)) → (zs : List Exchanged) → told_after T (visit k T g ++ zs) ≡ inner k T g ++ told_after T zs
      one g m zs =
          ap (told_after T) (visit_then k T g zs)
          ∙ ap (λ ws. swapped T (start_link_of net (suc k)) g ∷ ws) (rec (swapped T (start_link_of net (suc k)) g) (level_child net fit all k g T v (entered k g T v m)) (back g (start_link_of net (suc k)) ∷ zs))
          ∙ ap (λ S. inner k T g ++ told_after S zs) (level_back net fit all k g T v (entered k g T v m))

  pub told_events : (k : ℕ) (T : Setting) → Level net fit all k T → Tells k T
  told_events zero T v ys = refl
  told_events (suc k) T v ys =
      ap (told_after T) (append_assoc (flat_map (visit k T) (entering_links net T (suc k))) (events net k T) ys)
      ∙ told_visits k T v (told_events k) (entering_links net T (suc k)) (λ g m. m) (events net k T ++ ys)
      ∙ ap (λ zs. flat_map (inner k T) (entering_links net T (suc k)) ++ zs) (told_events k T (level_below net fit all k (suc k) T (omega arith) v) ys)
      ∙ sym (append_assoc (flat_map (inner k T) (entering_links net T (suc k))) (below net k T) (told_after T ys))

  abbrev Rules : ℕ → Setting → Type 0
  Rules k T = (pending : List (ℕ × ℕ)) (ys : List Exchanged) → ByRule net T pending ys → ByRule net T pending (events net k T ++ ys)

  rule_visits : (k : ℕ) (T : Setting) → Level net fit all (suc k) T → ((C : Setting) → Level net fit all k C → Rules k C) → (pending : List (ℕ × ℕ)) (gs : List ℕ)
      → ((g : ℕ) → Member g gs → Member g (entering_links net T (suc k))) → (ys : List Exchanged) → ByRule net T pending ys
      → ByRule net T pending (flat_map (visit k T) gs ++ ys)
  rule_visits k T v rec pending [] f ys r = r
  rule_visits k T v rec pending (g ∷ gs) f ys r =
      subst (ByRule net T pending) (sym (append_assoc (visit k T g) (flat_map (visit k T) gs) ys))
      (one g (f g (inl refl)) (flat_map (visit k T) gs ++ ys) (rule_visits k T v rec pending gs (λ h m. f h (inr m)) ys r))
    where
      one : (g : ℕ) → Member g (entering_links net T (suc k)) → (zs : List Exchanged) → ByRule net T pending zs → ByRule net T pending (visit k T g ++ zs)
      one g m zs q = subst (ByRule net T pending) (sym (visit_then k T g zs)) (to_child (level_is_child net fit all k g T v (entered k g T v m))
          (rec (swapped T (start_link_of net (suc k)) g) (level_child net fit all k g T v (entered k g T v m)) ((start_link_of net (suc k), g) ∷ pending) (back g (start_link_of net (suc k)) ∷ zs)
          (reversed (subst (λ S. ByRule net S pending zs) (sym (level_back net fit all k g T v (entered k g T v m))) q))))

  pub rule_events : (k : ℕ) (T : Setting) → Level net fit all k T → Rules k T
  rule_events zero T v pending ys r = r
  rule_events (suc k) T v pending ys r =
      subst (ByRule net T pending) (sym (append_assoc (flat_map (visit k T) (entering_links net T (suc k))) (events net k T) ys))
      (rule_visits k T v (rule_events k) pending (entering_links net T (suc k)) (λ g m. m) (events net k T ++ ys) (rule_events k T (level_below net fit all k (suc k) T (omega arith) v) pending ys r))

  length_visits : (k : ℕ) (T : Setting) → ((C : Setting) → length (events net k C) ≡ 2 * length (below net k C)) → (gs : List ℕ)
      → length (flat_map (visit k T) gs) ≡ 2 * length (flat_map (inner k T) gs)
  length_visits k T rec [] = refl
  length_visits k T rec (g ∷ gs) =
      let a = length-append (visit k T g) (flat_map (visit k T) gs) in
      let b = length-append (inner k T g) (flat_map (inner k T) gs) in
      let c = length-append (events net k (swapped T (start_link_of net (suc k)) g)) (back g (start_link_of net (suc k)) ∷ []) in
      let h = rec (swapped T (start_link_of net (suc k)) g) in
      let t = length_visits k T rec gs in
      omega arith

  -- two exchanges for each setting below
  pub events_length : (k : ℕ) (T : Setting) → length (events net k T) ≡ 2 * length (below net k T)
  events_length zero T = refl
  events_length (suc k) T =
      let a = length-append (flat_map (visit k T) (entering_links net T (suc k))) (events net k T) in
      let b = length-append (flat_map (inner k T) (entering_links net T (suc k))) (below net k T) in
      let h = events_length k T in
      let t = length_visits k T (events_length k) (entering_links net T (suc k)) in
      omega arith
