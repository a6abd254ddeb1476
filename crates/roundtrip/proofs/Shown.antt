-- The exchanges of the listing take a replay through it, and back to the start setting.
use Rattle.std.proofs.Common.{◌≡◌, ℕ, zero, suc, ◌+◌, ◌<◌, List, [], ◌∷◌, ◌++◌, map, length, sym, refl, subst, inl, inr, arith, length-append}
use mathlib.Core.List.{map-append}
use Rattle.std.specs.List.{flat_map}
use Rattle.net.specs.Nets.{Net}
use Rattle.net.specs.Members.{Member}
use Rattle.net.specs.Settings.{Setting}
use Rattle.net.specs.Limits.{WithinLimits}
use Rattle.survey.specs.Surveys.{AllReached}
use Rattle.trees.specs.Cuts.{swapped}
use Rattle.trees.specs.Rules.{start_link_of, Entering}
use Rattle.trees.specs.Listings.{entering_links, Exchanged, forward as goes-forward, back as goes_Back, events}
use Rattle.trees.proofs.Enterings.{member_enters}
use Rattle.trees.proofs.Levels.{Level, level_below, level_child, level_back}
use Rattle.trees.proofs.Loops.{cut_loop}
use Rattle.trees.proofs.Events.{below}
use Rattle.stream.specs.Records.{Record, F, B, record_of_exchange}
use Rattle.replay.specs.Places.{walking, Goes, forward, back}
use Rattle.roundtrip.proofs.Throughs.{Through, through_none, through_one, through_join}

abbrev recorded : List Exchanged → List Record
recorded xs = map record_of_exchange xs

module _ (net : Net) (fit : WithinLimits net) (all : AllReached net) (start : Setting) where
  entered : (k g : ℕ) (T : Setting) → Level net fit all (suc k) T → Member g (entering_links net T (suc k)) → Entering net T (suc k) g
  entered k g T v m = member_enters net fit all T (suc k) v.radial (omega arith, v.low) (v.holds (suc k) (omega arith) (omega arith)) g m

  -- a forward exchange goes to a child
  goes_on : (k g : ℕ) (T : Setting) (pending : List (ℕ × ℕ)) (shown : ℕ) → Level net fit all (suc k) T → length pending + suc k < net.bars → Entering net T (suc k) g
      → Goes net (walking start T pending shown) (F (start_link_of net (suc k)) g)
      (walking start (swapped T (start_link_of net (suc k)) g) ((start_link_of net (suc k), g) ∷ pending) (shown + 1))
  goes_on k g T pending shown v room en =
      forward (λ e. en.other (sym e)) (omega arith) (en.in_cut.a, en.in_cut.b, en.in_cut.joins) en.is_open (cut_loop net fit all T (start_link_of net (suc k)) g v.radial en.in_cut)

  -- the exchanges of T for one entering link
  abbrev visit : ℕ → Setting → ℕ → List Exchanged
  visit k T g = goes-forward (start_link_of net (suc k)) g ∷ (events net k (swapped T (start_link_of net (suc k)) g) ++ (goes_Back g (start_link_of net (suc k)) ∷ []))

  abbrev Shows : ℕ → Setting → Type 0
  Shows k T = (pending : List (ℕ × ℕ)) (shown : ℕ) → length pending + k < net.bars
      → Through net (walking start T pending shown) (recorded (events net k T)) (walking start T pending (shown + length (below net k T)))

  show_visit : (k g : ℕ) (T : Setting) → Level net fit all (suc k) T → Entering net T (suc k) g → Shows k (swapped T (start_link_of net (suc k)) g)
      → (pending : List (ℕ × ℕ)) (shown : ℕ) → length pending + suc k < net.bars
      → Through net (walking start T pending shown) (recorded (visit k T g)) (walking start T pending (shown + suc (length (below net k (swapped T (start_link_of net (suc k)) g)))))
  show_visit k g T v en rec pending shown room =
      let e = start_link_of net (suc k) in
      let C = swapped T e g in
      let n = length (below net k C) in
      let on : Through net (walking start T pending shown) (F e g ∷ []) (walking start C ((e, g) ∷ pending) (shown + 1))
      = through_one net (walking start T pending shown) (F e g) (walking start C ((e, g) ∷ pending) (shown + 1)) (goes_on k g T pending shown v room en) in
      let inside : Through net (walking start C ((e, g) ∷ pending) (shown + 1)) (recorded (events net k C)) (walking start C ((e, g) ∷ pending) (shown + 1 + n))
      = rec ((e, g) ∷ pending) (shown + 1) (omega arith) in
      let home : Through net (walking start C ((e, g) ∷ pending) (shown + 1 + n)) (B g e ∷ []) (walking start (swapped C g e) pending (shown + 1 + n))
      = through_one net (walking start C ((e, g) ∷ pending) (shown + 1 + n)) (B g e) (walking start (swapped C g e) pending (shown + 1 + n)) back in
      let whole = through_join net (walking start T pending shown) (walking start C ((e, g) ∷ pending) (shown + 1)) (walking start (swapped C g e) pending (shown + 1 + n))
      (F e g ∷ []) (recorded (events net k C) ++ (B g e ∷ [])) on
      (through_join net (walking start C ((e, g) ∷ pending) (shown + 1)) (walking start C ((e, g) ∷ pending) (shown + 1 + n)) (walking start (swapped C g e) pending (shown + 1 + n))
      (recorded (events net k C)) (B g e ∷ []) inside home) in
      let sums : shown + 1 + n ≡ shown + suc n = omega arith in
      subst (λ rs. Through net (walking start T pending shown) (F e g ∷ rs) (walking start T pending (shown + suc n))) (sym (map-append record_of_exchange (events net k C) (goes_Back g e ∷ [])))
      (subst (λ m. Through net (walking start T pending shown) (F e g ∷ (recorded (events net k C) ++ (B g e ∷ []))) (walking start T pending m)) sums
      (subst (λ S. Through net (walking start T pending shown) (F e g ∷ (recorded (events net k C) ++ (B g e ∷ []))) (walking start S pending (shown + 1 + n))) (level_back net fit all k g T v en) whole))

  show_visits : (k : ℕ) (T : Setting) → Level net fit all (suc k) T → ((C : Setting) → Level net fit all k C → Shows k C) → (gs : List ℕ)
      → ((g : ℕ) → Member g gs → Member g (entering_links net T (suc k))) → (pending : List (ℕ × ℕ)) (shown : ℕ) → length pending + suc k < net.bars
      → Through net (walking start T pending shown) (recorded (flat_map (visit k T) gs))
      (walking start T pending (shown + length (flat_map (λ g. swapped T (start_link_of net (suc k)) g ∷ below net k (swapped T (start_link_of net (suc k)) g)) gs)))
  show_visits k T v rec [] f pending shown room =
      let e : shown ≡ shown + 0 = omega arith in
      subst (λ m. Through net (walking start T pending shown) [] (walking start T pending m)) e (through_none net (walking start T pending shown))
  show_visits k T v rec (g ∷ gs) f pending shown room =
      let inner : ℕ → List Setting = λ h. swapped T (start_link_of net (suc k)) h ∷ below net k (swapped T (start_link_of net (suc k)) h) in
      let en = entered k g T v (f g (inl refl)) in
      let one = show_visit k g T v en (rec (swapped T (start_link_of net (suc k)) g) (level_child net fit all k g T v en)) pending shown room in
      let others = show_visits k T v rec gs (λ h m. f h (inr m)) pending (shown + length (inner g)) room in
      let sums : shown + length (inner g) + length (flat_map inner gs) ≡ shown + length (inner g ++ flat_map inner gs) = omega (arith, length-append (inner g) (flat_map inner gs)) in
      subst (λ rs. Through net (walking start T pending shown) rs (walking start T pending (shown + length (inner g ++ flat_map inner gs)))) (sym (map-append record_of_exchange (visit k T g) (flat_map (visit k T) gs)))
      (subst (λ m. Through net (walking start T pending shown) (recorded (visit k T g) ++ recorded (flat_map (visit k T) gs)) (walking start T pending m)) sums
      (through_join net (walking start T pending shown) (walking start T pending (shown + length (inner g))) (walking start T pending (shown + length (inner g) + length (flat_map inner gs)))
      (recorded (visit k T g)) (recorded (flat_map (visit k T) gs)) one others))

  pub show_events : (k : ℕ) (T : Setting) → Level net fit all k T → Shows k T
  show_events zero T v pending shown room =
      let e : shown ≡ shown + 0 = omega arith in
      subst (λ m. Through net (walking start T pending shown) [] (walking start T pending m)) e (through_none net (walking start T pending shown))
  show_events (suc k) T v pending shown room =
      let inner : ℕ → List Setting = λ h. swapped T (start_link_of net (suc k)) h ∷ below net k (swapped T (start_link_of net (suc k)) h) in
      let gs = entering_links net T (suc k) in
      let visits = show_visits k T v (show_events k) gs (λ g m. m) pending shown room in
      let rest = show_events k T (level_below net fit all k (suc k) T (omega arith) v) pending (shown + length (flat_map inner gs)) (omega arith) in
      let sums : shown + length (flat_map inner gs) + length (below net k T) ≡ shown + length (flat_map inner gs ++ below net k T) = omega (arith, length-append (flat_map inner gs) (below net k T)) in
      subst (λ rs. Through net (walking start T pending shown) rs (walking start T pending (shown + length (flat_map inner gs ++ below net k T)))) (sym (map-append record_of_exchange (flat_map (visit k T) gs) (events net k T)))
      (subst (λ m. Through net (walking start T pending shown) (recorded (flat_map (visit k T) gs) ++ recorded (events net k T)) (walking start T pending m)) sums
      (through_join net (walking start T pending shown) (walking start T pending (shown + length (flat_map inner gs))) (walking start T pending (shown + length (flat_map inner gs) + length (below net k T)))
      (recorded (flat_map (visit k T) gs)) (recorded (events net k T)) visits rest))
