-- Chains: every radial setting has one, and they order the radial settings.
use Rattle.std.proofs.Common.{◌≡◌, ℕ, ◌<◌, ◌≢◌, ◌⊎◌, List, [], ◌∷◌, ◌++◌, Some, sym, refl, ap, ◌∙◌, subst, ap₂, inl, inr, arith}
use Rattle.std.proofs.lemmas.List.{same_from_push}
use Rattle.std.proofs.lemmas.Bool.{cases_order}
use Rattle.net.specs.Nets.{nth, Net}
use Rattle.net.specs.Settings.{Setting, Radial}
use Rattle.net.specs.Limits.{WithinLimits}
use Rattle.survey.specs.Ranks.{rank_in}
use Rattle.survey.specs.Surveys.{start_setting, link_order, AllReached}
use Rattle.survey.proofs.Ranked.{rank_place, same_some}
use Rattle.trees.specs.Cuts.{swapped}
use Rattle.trees.specs.Rules.{start_link_of, IsParent}
use Rattle.trees.specs.Orders.{Move, move, Chain, start, child, Earlier, shorter, leaves_higher, enters_lower, later_on, Before}
use Rattle.trees.proofs.Ranks.{start_closed}
use Rattle.trees.proofs.Parents.{parent_radial, parent_child, one_parent}

-- chains are compared by a strict total order
pub earlier_apart : {c d : List Move} → Earlier c d → c ≢ d
earlier_apart shorter e = let z : ◌≡◌ {A = ℕ} 0 1 = cc in omega arith
earlier_apart (leaves_higher {k = k} {j = j} h) e = let z : k ≡ j = cc in omega arith
earlier_apart (enters_lower {g = g} {h = h} l) e = let z : g ≡ h = cc in omega arith
earlier_apart (later_on {c = c} {d = d} h) e = let z : c ≡ d = cc in earlier_apart h z

-- the two moves at the front of two chains
data Fronts (m n : Move) (c d : List Move) : Type 0 where
  same : m ≡ n → Earlier c d → Fronts m n c d
  higher : (k j g h : ℕ) → m ≡ move k g → n ≡ move j h → j < k → Fronts m n c d
  lower : (k g h : ℕ) → m ≡ move k g → n ≡ move k h → g < h → Fronts m n c d

fronts : {c d : List Move} → Earlier c d → (m n : Move) (x y : List Move) → c ≡ m ∷ x → d ≡ n ∷ y → Fronts m n x y
fronts shorter m n x y p q = let z : ◌≡◌ {A = ℕ} 0 1 = cc in absurd (omega arith)
fronts (leaves_higher {k = k} {j = j} {g = g} {h = h} l) m n x y p q = higher k j g h (cc) (cc) l
fronts (enters_lower {k = k} {g = g} {h = h} l) m n x y p q = lower k g h (cc) (cc) l
fronts (later_on {m = o} {c = c} {d = d} l) m n x y p q =
    let u : c ≡ x = cc in
    let v : d ≡ y = cc in
    same (cc) (rw (u, v) at l)

nothing_earlier : {c d : List Move} → Earlier c d → d ≢ []
nothing_earlier shorter e = let z : ◌≡◌ {A = ℕ} 0 1 = cc in omega arith
nothing_earlier (leaves_higher l) e = let z : ◌≡◌ {A = ℕ} 0 1 = cc in omega arith
nothing_earlier (enters_lower l) e = let z : ◌≡◌ {A = ℕ} 0 1 = cc in omega arith
nothing_earlier (later_on l) e = let z : ◌≡◌ {A = ℕ} 0 1 = cc in omega arith

pub earlier_join : (b c d : List Move) → Earlier b c → Earlier c d → Earlier b d
earlier_join [] c [] p q = absurd (nothing_earlier q refl)
earlier_join [] c (o ∷ d) p q = shorter
earlier_join (m ∷ b) [] d p q = absurd (nothing_earlier p refl)
earlier_join (m ∷ b) (n ∷ c) [] p q = absurd (nothing_earlier q refl)
earlier_join (m ∷ b) (n ∷ c) (o ∷ d) p q = by (fronts p m n b c refl refl) (fronts q n o c d refl refl) (earlier_join b c d)
  where
    by : Fronts m n b c → Fronts n o c d → (Earlier b c → Earlier c d → Earlier b d) → Earlier (m ∷ b) (o ∷ d)
    by (same e u) (same f v) rec = let z : m ≡ o = cc in rw z (later_on (rec u v))
    by (same e u) (higher k j g h x y l) rec = let z : m ≡ move k g = cc in rw (z, y) (leaves_higher l)
    by (same e u) (lower k g h x y l) rec = let z : m ≡ move k g = cc in rw (z, y) (enters_lower l)
    by (higher k j g h x y l) (same f v) rec = let z : o ≡ move j h = cc in rw (x, z) (leaves_higher l)
    by (higher k j g h x y l) (higher k' j' g' h' x' y' l') rec = let z : j ≡ k' = cc in let lt : j' < k = omega arith in rw (x, y') (leaves_higher lt)
    by (higher k j g h x y l) (lower k' g' h' x' y' l') rec = let z : j ≡ k' = cc in let lt : k' < k = omega arith in rw (x, y') (leaves_higher lt)
    by (lower k g h x y l) (same f v) rec = let z : o ≡ move k h = cc in rw (x, z) (enters_lower l)
    by (lower k g h x y l) (higher k' j' g' h' x' y' l') rec = let z : k ≡ k' = cc in let lt : j' < k = omega arith in rw (x, y') (leaves_higher lt)
    by (lower k g h x y l) (lower k' g' h' x' y' l') rec =
        let z : k ≡ k' = cc in
        let w : h ≡ g' = cc in
        let lt : g < h' = omega arith in
        let v : o ≡ move k h' = rw z y' in
        rw (x, v) (enters_lower lt)

pub earlier_cases : (c d : List Move) → (c ≡ d) ⊎ (Earlier c d ⊎ Earlier d c)
earlier_cases [] [] = inl refl
earlier_cases [] (n ∷ d) = inr (inl shorter)
earlier_cases (m ∷ c) [] = inr (inr shorter)
earlier_cases (move k g ∷ c) (move j h ∷ d) = by (cases_order k j) (cases_order g h) (earlier_cases c d)
  where
    by : (k ≡ j) ⊎ ((k < j) ⊎ (j < k)) → (g ≡ h) ⊎ ((g < h) ⊎ (h < g)) → (c ≡ d) ⊎ (Earlier c d ⊎ Earlier d c)
        → (move k g ∷ c ≡ move j h ∷ d) ⊎ (Earlier (move k g ∷ c) (move j h ∷ d) ⊎ Earlier (move j h ∷ d) (move k g ∷ c))
    by (inr (inl l)) q r = inr (inr (leaves_higher l))
    by (inr (inr l)) q r = inr (inl (leaves_higher l))
    by (inl e) (inr (inl l)) r = inr (inl (rw e (enters_lower l)))
    by (inl e) (inr (inr l)) r = inr (inr (rw e (enters_lower l)))
    by (inl e) (inl f) (inl s) = inl cc
    by (inl e) (inl f) (inr (inl s)) = inr (inl (rw (e, f) (later_on s)))
    by (inl e) (inl f) (inr (inr s)) = inr (inr (rw (e, f) (later_on s)))

nil_not_push : (f : List Move) (m : Move) → [] ≢ f ++ (m ∷ [])
nil_not_push [] m q = let z : ◌≡◌ {A = ℕ} 0 1 = cc in omega arith
nil_not_push (n ∷ f) m q = let z : ◌≡◌ {A = ℕ} 0 1 = cc in omega arith

module _ (net : Net) where
  -- a chain ends with its setting's parent
  record LastMove (T : Setting) (c : List Move) : Type 0 where
    P : Setting
    k : ℕ
    g : ℕ
    r : ℕ
    front : List Move
    chain : Chain net P front
    parent : IsParent net P T k g
    ranked : rank_in (link_order net) g ≡ Some r
    is : c ≡ front ++ (move k r ∷ [])

  chain_last_move : {T : Setting} {c : List Move} → Chain net T c → ((c ≡ []) × (T ≡ start_setting net)) ⊎ LastMove T c
  chain_last_move start = inl (refl, refl)
  chain_last_move (child {P = P} {k = k} {g = g} {r = r} {c = c} ch p e) =
      inr (record { P = P; k = k; g = g; r = r; front = c; chain = ch; parent = p; ranked = e; is = refl })

  module _ (fit : WithinLimits net) (all : AllReached net) where
    start_no_child : {P T : Setting} {k g : ℕ} → T ≡ start_setting net → ¬ IsParent net P T k g
    start_no_child {P} {T} {k} {g} e p = p.first.missing (rw e (start_closed net fit all k p.first.is_start_link))

    -- a radial setting has one chain
    pub same_chain : {T : Setting} {c d : List Move} → Radial net T → Chain net T c → Chain net T d → c ≡ d
    same_chain rad start t = elim (chain_last_move t) [
      | inl (e, _) ↦ sym e
      | inr l ↦ absurd (start_no_child refl l.parent)
    ]
    same_chain rad (child {P = P} {T = T} {k = k} {g = g} {r = r} {c = c} ch p e) t = elim (chain_last_move t) [
      | inl (_, q) ↦ absurd (start_no_child q p)
      | inr l ↦
          let (ek, eg, eP) = one_parent net fit all T rad P l.P k l.k g l.g p l.parent in
          let er : r ≡ l.r = same_some (rw eg at e) l.ranked in
          let ec = same_chain (parent_radial net fit all P T k g rad p) ch (subst (λ S. Chain net S l.front) (sym eP) l.chain) in
          ap₂ (λ x m. x ++ (m ∷ [])) ec (ap₂ move ek er) ∙ sym l.is
    ]

    -- and a chain has one setting
    pub same_setting : {S T : Setting} {c d : List Move} → Radial net S → Radial net T → Chain net S c → Chain net T d → c ≡ d → S ≡ T
    same_setting rs rt start t e = elim (chain_last_move t) [
      | inl (_, q) ↦ sym q
      | inr l ↦ absurd (nil_not_push l.front (move l.k l.r) (e ∙ l.is))
    ]
    same_setting rs rt (child {P = P} {T = S} {k = k} {g = g} {r = r} {c = c} ch p q) t e = elim (chain_last_move t) [
      | inl (z, _) ↦ absurd (nil_not_push c (move k r) (sym z ∙ sym e))
      | inr l ↦
          let (ef, em) = same_from_push c l.front (move k r) (move l.k l.r) (e ∙ l.is) in
          let ek : k ≡ l.k = cc em in
          let er : r ≡ l.r = cc em in
          let eg : g ≡ l.g = sym (rank_place (link_order net) g r q).2 ∙ ap (λ x. nth (link_order net) x 0) er ∙ (rank_place (link_order net) l.g l.r l.ranked).2 in
          let eP = same_setting (parent_radial net fit all P S k g rs p) (parent_radial net fit all l.P _ l.k l.g rt l.parent) ch l.chain ef in
          (parent_child net fit all P S k g rs p).made
          ∙ ap₂ (λ Q x. swapped Q (start_link_of net x) g) eP ek ∙ ap (swapped l.P (start_link_of net l.k)) eg
          ∙ sym (parent_child net fit all l.P _ l.k l.g rt l.parent).made
    ]

    -- the order is strict, and total on the radial settings once each has a chain
    pub before_apart : (S : Setting) → Radial net S → ¬ Before net S S
    before_apart S rs (c, d, p, q, l) = earlier_apart l (same_chain rs p q)

    pub before_join : (R S T : Setting) → Radial net S → Before net R S → Before net S T → Before net R T
    before_join R S T rs (b, c, p, q, l) (c', d, q', t, m) = (b, d, p, t, earlier_join b c d l (subst (λ x. Earlier x d) (same_chain rs q' q) m))
