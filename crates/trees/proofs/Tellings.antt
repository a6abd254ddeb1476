-- The settings that the listing tells, each with its chain: all radial settings, in order.
use Rattle.std.proofs.Common.{◌≡◌, ℕ, zero, suc, ◌+◌, ◌<◌, ◌≤◌, false, ◌⊎◌, List, [], ◌∷◌, ◌++◌, map, Some, unwrap_or, sym, refl, ap, ◌∙◌, subst, inl, inr, append_assoc, append-nil, arith}
use native.Mathlib.Decide.{ℕ_discrete, dec_le}
use Rattle.std.specs.List.{flat_map}
use Rattle.net.specs.Nets.{nth, Net}
use Rattle.net.specs.Members.{Member}
use Rattle.net.specs.Settings.{Setting, Closed, Radial}
use Rattle.net.specs.Limits.{WithinLimits}
use Rattle.net.proofs.Members.{member_append, member_joined, member_map}
use Rattle.net.proofs.Settings.{closed_or_open, not_from_open}
use Rattle.survey.specs.Ranks.{rank_in}
use Rattle.survey.specs.Surveys.{start_setting, link_order, AllReached}
use Rattle.survey.proofs.Others.{links_ranked}
use Rattle.trees.specs.Cuts.{swapped}
use Rattle.trees.specs.Rules.{start_link_of, IsStart, Entering, IsChild, FirstMissing, IsParent}
use Rattle.trees.specs.Orders.{Move, move, Chain, child}
use Rattle.trees.specs.Listings.{entering_links}
use Rattle.trees.proofs.Ranks.{closed_start}
use Rattle.trees.proofs.Cores.{Holds, start_is_radial}
use Rattle.trees.proofs.Floods.{fewer}
use Rattle.trees.proofs.Parents.{holds_leaving, leaving_holds, child_radial, child_lacks, child_holds, child_parent, gate_parent, parent_radial, parent_child}
use Rattle.trees.proofs.Enterings.{link_rank, member_enters}

abbrev pub Keyed : Type 0
Keyed = List Move × Setting

abbrev pub moved : Move → Keyed → Keyed
moved m p = (m ∷ p.0, p.1)

-- the settings below T for leaving links of rank k and less, each with the moves that lead to it
abbrev pub keyed : Net → ℕ → Setting → List Keyed
keyed net zero T = []
keyed net (suc k) T =
    flat_map (λ g. map (moved (move (suc k) (link_rank net g))) (([], swapped T (start_link_of net (suc k)) g) ∷ keyed net k (swapped T (start_link_of net (suc k)) g))) (entering_links net T (suc k))
    ++ keyed net k T

-- moves that lead from P to T, with falling leaving ranks, none above m
pub data Path (net : Net) : ℕ → Setting → List Move → Setting → Type 0 where
  stop : {m : ℕ} {P : Setting} → Path net m P [] P
  onto : {m k g : ℕ} {P C T : Setting} {c : List Move} → suc k ≤ m → IsChild net P (suc k) g C → Path net k C c T
      → Path net m P (move (suc k) (link_rank net g) ∷ c) T

module _ (net : Net) (T : Setting) where
  -- the start links up to k are closed, or there is a first that is not
  pub first_off : (k : ℕ) → k < net.bars → Holds net k T ⊎ ((j : ℕ) × (j ≤ k) × FirstMissing net T j)
  first_off zero kV = inl (λ j j1 j0. absurd (omega arith))
  first_off (suc k) kV = elim (first_off k (omega arith)) [
    | inr (j, jk, f) ↦ inr (j, omega arith, f)
    | inl h ↦ elim (closed_or_open (nth T (start_link_of net (suc k)) false)) [
      | inl c ↦ inl (λ j j1 jk. elim (ℕ_discrete j (suc k)) [ yes e ↦ rw e c | no ne ↦ h j j1 (omega arith) ])
      | inr o ↦ inr (
        suc k,
        omega arith,
        record {
          is_start_link = (omega arith, kV);
          missing = not_from_open T (start_link_of net (suc k)) o;
          lowest = λ j sj n. elim (dec_le (suc k) j) [
            | yes l ↦ l
            | no m ↦ absurd (n (h j sj.0 (omega arith)))
          ];
        },
      )
    ]
  ]

module _ (net : Net) (fit : WithinLimits net) (all : AllReached net) where
  -- the start setting is the only radial one that holds every start link
  pub start_alone : (v : ℕ) → net.bars ≡ suc v → (T : Setting) → Radial net T → Holds net v T → T ≡ start_setting net
  start_alone v e T rad h =
      let r0 = start_is_radial net fit all in
      (fewer (start_setting net) T (r0.one_a_link ∙ sym rad.one_a_link)
      (λ l c. let (k, sk, q) = closed_start net fit all l c in rw q (h k sk.0 (omega (arith, sk))))).1
      (omega (arith, r0.one_fewer, rad.one_fewer))

  path_radial : {m : ℕ} {P T : Setting} {c : List Move} → Radial net P → Path net m P c T → Radial net T
  path_radial r stop = r
  path_radial r (onto {k = k} {g = g} {P = P} {C = C} l ch p) = path_radial (child_radial net fit all P (suc k) g C r ch) p

  -- a setting that lacks a start link of rank m + 1 or less leads to ones that lack such a one
  lacks : {m : ℕ} {P T : Setting} {c : List Move} → Radial net P → Path net m P c T → (j : ℕ) → 1 ≤ j → j ≤ suc m → ¬ Closed P (start_link_of net j)
      → (i : ℕ) × (1 ≤ i) × (i ≤ suc m) × (¬ Closed T (start_link_of net i))
  lacks r stop j j1 jm o = (j, j1, jm, o)
  lacks r (onto {k = k} {g = g} {P = P} {C = C} l ch p) j j1 jm o =
      let (i, i1, ik, q) = lacks (child_radial net fit all P (suc k) g C r ch) p (suc k) (omega arith) (omega arith) (child_lacks net fit all P (suc k) g C r ch) in
      (i, i1, omega arith, q)

  falls : {m k g : ℕ} {T C : Setting} → (j : ℕ) → 1 ≤ j → j ≤ suc m → ¬ Closed T (start_link_of net j) → IsChild net T k g C → k ≤ m
  falls {m} {k} {g} {T} j j1 jm o ch = elim (dec_le k m) [
    | yes l ↦ l
    | no n ↦ absurd (o (leaving_holds net T k ch.leaving j j1 (omega arith)))
  ]

  -- one move more at the end
  path_push : {m : ℕ} {P T C : Setting} {c : List Move} → Radial net P → (k g : ℕ) → suc k ≤ m → Path net m P c T → IsChild net T (suc k) g C
      → Path net m P (c ++ (move (suc k) (link_rank net g) ∷ [])) C
  path_push r k g km stop ch = onto km ch stop
  path_push r k g km (onto {k = i} {g = h} {P = P} {C = D} l ch p) ch' =
      let rD = child_radial net fit all P (suc i) h D r ch in
      let (j, j1, ji, q) = lacks rD p (suc i) (omega arith) (omega arith) (child_lacks net fit all P (suc i) h D r ch) in
      onto l ch (path_push rD k g (falls j j1 ji q ch') p ch')

  -- every radial setting is come to from the start setting
  pub path_to : (v : ℕ) → net.bars ≡ suc v → (n : ℕ) (T : Setting) (j : ℕ) → Radial net T → Holds net j T → v ≤ n + j → (c : List Move) × Path net v (start_setting net) c T
  path_to v e zero T j r h l = ([], subst (λ S. Path net v (start_setting net) [] S) (sym (start_alone v e T r (λ i i1 iv. h i i1 (omega arith)))) stop)
  path_to v e (suc n) T j r h l = elim (first_off net T v (omega arith)) [
    | inl full ↦ ([], subst (λ S. Path net v (start_setting net) [] S) (sym (start_alone v e T r full)) stop)
    | inr (i, iv, f) ↦ above i iv f (gate_parent net fit all T i r f)
        (λ P g pa. path_to v e n P i (parent_radial net fit all P T i g r pa) (leaving_holds net P i (parent_child net fit all P T i g r pa).leaving) (omega (arith, later i f)))
  ]
    where
      later : (i : ℕ) → FirstMissing net T i → j < i
      later i f = elim (dec_le i j) [
        | yes q ↦ absurd (f.missing (h i f.is_start_link.0 q))
        | no q ↦ omega arith
      ]

      above : (i : ℕ) → i ≤ v → FirstMissing net T i → (P : Setting) × (g : ℕ) × IsParent net P T i g
          → ((P : Setting) (g : ℕ) → IsParent net P T i g → (c : List Move) × Path net v (start_setting net) c P) → (c : List Move) × Path net v (start_setting net) c T
      above zero iv f q rec = absurd (omega (arith, f.is_start_link))
      above (suc i) iv f (P, g, pa) rec =
          let (c, p) = rec P g pa in
          (c ++ (move (suc i) (link_rank net g) ∷ []), path_push (start_is_radial net fit all) i g iv p (parent_child net fit all P T (suc i) g r pa))

  -- the rank of an entering link is its rank
  entering_rank : (T : Setting) (k g : ℕ) → Entering net T k g → rank_in (link_order net) g ≡ Some (link_rank net g)
  entering_rank T k g en =
      let (r, e) = (links_ranked net fit all).each_ranked g (en.in_cut.a, en.in_cut.b, en.in_cut.joins) in
      e ∙ ap Some (sym (ap (λ o. unwrap_or o 0) e))

  -- a keyed setting is radial and has its moves as the rest of its chain
  abbrev pub Sound : List Move → Keyed → Type 0
  Sound front x = Chain net x.1 (front ++ x.0) × Radial net x.1

  pub keyed_sound : (m : ℕ) (P : Setting) (front : List Move) → m < net.bars → Radial net P → Holds net m P → Chain net P front
      → (x : Keyed) → Member x (keyed net m P) → Sound front x
  keyed_sound zero P front mV r h ch x p = absurd p
  keyed_sound (suc m) P front mV r h ch x p =
      elim (member_append x (flat_map (block P) (entering_links net P (suc m))) (keyed net m P) p) [
        | inr q ↦ keyed_sound m P front (omega arith) r (λ j j1 jm. h j j1 (omega arith)) ch x q
        | inl q ↦
            let (g, mg, b) = member_joined (block P) x (entering_links net P (suc m)) q in
            let (y, my, e) = member_map (moved (move (suc m) (link_rank net g))) x (([], swapped P (start_link_of net (suc m)) g) ∷ keyed net m (swapped P (start_link_of net (suc m)) g)) b in
            let sk : IsStart net (suc m) = (omega arith, mV) in
            let en = member_enters net fit all P (suc m) r sk (h (suc m) (omega arith) (omega arith)) g mg in
            let c : IsChild net P (suc m) g (swapped P (start_link_of net (suc m)) g) = record { leaving = holds_leaving net P (suc m) sk h; entering = en; made = refl } in
            let rC = child_radial net fit all P (suc m) g (swapped P (start_link_of net (suc m)) g) r c in
            let chC : Chain net (swapped P (start_link_of net (suc m)) g) (front ++ (move (suc m) (link_rank net g) ∷ []))
            = child ch (child_parent net fit all P (suc m) g (swapped P (start_link_of net (suc m)) g) r c) (entering_rank P (suc m) g en) in
            let below = keyed_sound m (swapped P (start_link_of net (suc m)) g) (front ++ (move (suc m) (link_rank net g) ∷ [])) (omega arith) rC
            (λ j j1 jm. child_holds net fit all P (suc m) g (swapped P (start_link_of net (suc m)) g) r c j j1 (omega arith)) chC in
            subst (Sound front) (sym e) (at g y (elim my [
              | inl z ↦ subst (Sound (front ++ (move (suc m) (link_rank net g) ∷ []))) (sym z) (subst (Chain net (swapped P (start_link_of net (suc m)) g)) (sym (append-nil (front ++ (move (suc m) (link_rank net g) ∷ [])))) chC, rC)
              | inr z ↦ below y z
            ]))
      ]
    where
      block : Setting → ℕ → List Keyed
      block Q g = map (moved (move (suc m) (link_rank net g))) (([], swapped Q (start_link_of net (suc m)) g) ∷ keyed net m (swapped Q (start_link_of net (suc m)) g))

      at : (g : ℕ) (y : Keyed) → Sound (front ++ (move (suc m) (link_rank net g) ∷ [])) y → Sound front (moved (move (suc m) (link_rank net g)) y)
      at g y (u, v) = (subst (Chain net y.1) (append_assoc front (move (suc m) (link_rank net g) ∷ []) y.0) u, v)
