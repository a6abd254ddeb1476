-- Every radial setting but the start has one parent, and the child rule and the parent rule say the same.
use Rattle.std.proofs.Common.{◌≡◌, ℕ, suc, ◌<◌, ◌≤◌, true, false, ◌≢◌, length, sym, ap, ◌∙◌, subst, inl, inr, arith}
use native.Mathlib.Decide.{ℕ_discrete, dec_le}
use Rattle.net.specs.Nets.{nth, Net, IsBar, infeed, Joins}
use Rattle.net.specs.Settings.{Setting, Closed, opening, Way, here, onward, Step, Reach, Radial}
use Rattle.net.specs.Limits.{WithinLimits}
use Rattle.net.proofs.Numbered.{length_put}
use Rattle.net.proofs.Ways.{way_join, way_keeps}
use Rattle.net.proofs.Links.{joins_flip, joins_range, ends_bars}
use Rattle.net.proofs.Settings.{closed_or_open, not_both, closing_closes, closing_keeps, closing_only, opening_keeps, opening_opens, opening_stays_open, open_from_not, not_from_open, put_back, reach_back}
use Rattle.survey.specs.Surveys.{start_setting, AllReached}
use Rattle.trees.specs.Cuts.{InCut, swapped}
use Rattle.trees.specs.Rules.{start_link_of, IsStart, Leaving, IsChild, FirstMissing, IsParent}
use Rattle.trees.proofs.Swaps.{step, spans_radial, radial_spans}
use Rattle.trees.proofs.Ranks.{rank, bar, start_up, start_apart, start_closed}
use Rattle.trees.proofs.Cores.{Holds, EntersByRank, cut_side, low_reached, to_ranks, of_ranks}
use Rattle.trees.proofs.Gates.{Inner, Gate, gate, gate_low, near_reached, inner_without, lifted, lifted_holds, bridge}
use Rattle.trees.proofs.Loops.{swap_back, cut_loop, loop_cut, loop_closed, cut_radial, radial_cut}

-- the start link of rank k is the lowest that is missing
pub first_holds : (net : Net) (T : Setting) (k : ℕ) → FirstMissing net T k → (j : ℕ) → 1 ≤ j → j < k → Closed T (start_link_of net j)
first_holds net T k fm j j1 jk = elim (closed_or_open (nth T (start_link_of net j) false)) [
  | inl c ↦ c
  | inr o ↦ let h = fm.lowest j (j1, omega (arith, fm.is_start_link)) (not_from_open T (start_link_of net j) o) in absurd (omega arith)
]

pub leaving_holds : (net : Net) (T : Setting) (k : ℕ) → Leaving net T k → Holds net k T
leaving_holds net T k lv j j1 jk = elim (closed_or_open (nth T (start_link_of net j) false)) [
  | inl c ↦ c
  | inr o ↦ let h = lv.below_open j (j1, omega (arith, lv.is_start_link)) (not_from_open T (start_link_of net j) o) in absurd (omega arith)
]

pub holds_leaving : (net : Net) (T : Setting) (k : ℕ) → IsStart net k → Holds net k T → Leaving net T k
holds_leaving net T k sk h = record {
  is_start_link = sk;
  closed = h k sk.0 (omega arith);
  below_open = λ j sj o. elim (dec_le j k) [
    | yes l ↦ absurd (o (h j sj.0 l))
    | no m ↦ omega arith
  ];
}

module _ (net : Net) (fit : WithinLimits net) (all : AllReached net) where
  -- only the start link itself is both closed in the start setting and in its cut
  start_not_in_cut : (j k : ℕ) → IsStart net j → IsStart net k → j ≢ k → ¬ InCut net (start_setting net) (start_link_of net k) (start_link_of net j)
  start_not_in_cut j k sj sk ne ic = ic.apart (onward here (step (start_link_of net j)
      (opening_keeps (start_setting net) (start_link_of net k) (start_link_of net j) (start_closed net fit all j sj) (λ e. ne (start_apart net fit all j k sj sk e))) ic.joins))

  -- the child of a radial setting
  module _ (P : Setting) (k g : ℕ) (T : Setting) (rad : Radial net P) (ch : IsChild net P k g T) where
    f : ℕ
    f = start_link_of net k

    g_range : (1 ≤ g) × (g ≤ length (opening P (start_link_of net k)))
    g_range =
        let (lo, hi) = joins_range net ch.entering.in_cut.joins in
        (lo, omega (arith, length_put P (start_link_of net k) false, rad.one_a_link))

    pub child_radial : Radial net T
    child_radial = subst (Radial net) (sym ch.made) (cut_radial net fit all P (start_link_of net k) g rad ch.leaving.closed ch.entering.in_cut)

    -- the swap is taken back by the other swap
    pub child_back : P ≡ swapped T g (start_link_of net k)
    child_back = sym (ap (λ S. swapped S g (start_link_of net k)) ch.made ∙ swap_back P (start_link_of net k) g ch.leaving.closed (open_from_not P g ch.entering.is_open))

    -- without g it is the parent without f
    pub child_rest : opening T g ≡ opening P (start_link_of net k)
    child_rest = ap (λ S. opening S g) ch.made ∙ put_back (opening P (start_link_of net k)) g false true (opening_stays_open P (start_link_of net k) g (open_from_not P g ch.entering.is_open))

    pub child_on : Closed T g
    child_on = subst (λ S. Closed S g) (sym ch.made) (closing_closes (opening P (start_link_of net k)) g g_range.0 g_range.1)

    child_kept : (l : ℕ) → Closed (opening P (start_link_of net k)) l → Closed T l
    child_kept l c = subst (λ S. Closed S l) (sym ch.made) (closing_keeps (opening P (start_link_of net k)) g l c)

    pub child_lacks : ¬ Closed T (start_link_of net k)
    child_lacks c =
        let h = subst (λ S. Closed S (start_link_of net k)) ch.made c in
        not_both (closing_only (opening P (start_link_of net k)) g (start_link_of net k) h (λ e. ch.entering.other (sym e))) (opening_opens P (start_link_of net k))

    pub child_holds : (j : ℕ) → 1 ≤ j → j < k → Closed T (start_link_of net j)
    child_holds j j1 jk = child_kept (start_link_of net j) (opening_keeps P (start_link_of net k) (start_link_of net j) (leaving_holds net P k ch.leaving j j1 (omega arith))
        (λ e. let q = start_apart net fit all j k (j1, omega (arith, ch.leaving.is_start_link)) ch.leaving.is_start_link e in omega arith))

    pub child_first : FirstMissing net T k
    child_first = record {
      is_start_link = ch.leaving.is_start_link;
      missing = child_lacks;
      lowest = λ j sj o. elim (dec_le k j) [
        | yes l ↦ l
        | no m ↦ absurd (o (child_holds j sj.0 (omega arith)))
      ];
    }

    -- P is its parent by the parent rule
    pub child_parent : IsParent net P T k g
    child_parent = record {
      first = child_first;
      other = ch.entering.other;
      in_loop = cut_loop net fit all T g (start_link_of net k) child_radial
          (radial_cut net fit all T g (start_link_of net k) child_radial child_lacks (rad.in_service (start_link_of net k) ch.leaving.closed) (subst (Radial net) child_back rad));
      in_start_cut = ch.entering.in_start_cut;
      made = child_back;
    }

    -- what enters is the gate
    by_rank : EntersByRank net P k g
    by_rank = to_ranks net fit all P k rad ch.leaving.is_start_link (leaving_holds net P k ch.leaving) g ch.entering

    low_kept : (b : ℕ) → IsBar net b → rank net b ≤ k → Reach net (opening P (start_link_of net k)) (infeed net) b
    low_kept = low_reached net fit all P k rad ch.leaving.is_start_link (leaving_holds net P k ch.leaving)

    to_far : Reach net (opening P (start_link_of net k)) (bar net (suc k)) by_rank.far
    to_far = cut_side net fit all P k rad ch.leaving.is_start_link (leaving_holds net P k ch.leaving) by_rank.far (ends_bars net fit by_rank.joins).0 by_rank.cut

    bar_cut : ¬ Reach net (opening P (start_link_of net k)) (infeed net) (bar net (suc k))
    bar_cut w = by_rank.cut (way_join w to_far)

    high : (x y l : ℕ) → Joins net l x y → ¬ Reach net (opening P (start_link_of net k)) (infeed net) x → k < rank net x
    high x y l j n = elim (dec_le (rank net x) k) [
      | yes h ↦ absurd (n (low_kept x (ends_bars net fit j).0 h))
      | no m ↦ omega arith
    ]

    pub child_gate : Gate net T k g
    child_gate = record {
      far = by_rank.far;
      near = by_rank.near;
      inner = (way_keeps (λ z. (¬ Reach net (opening P (start_link_of net k)) (infeed net) z) × Way (Inner net T k) (bar net (suc k)) z) one to_far (bar_cut, here)).1;
      high = high by_rank.far by_rank.near g by_rank.joins by_rank.cut;
      on = child_on;
      joins = by_rank.joins;
      low = by_rank.low;
    }
      where
        one : (y z : ℕ) → Step net (opening P (start_link_of net k)) y z → (¬ Reach net (opening P (start_link_of net k)) (infeed net) y) × Way (Inner net T k) (bar net (suc k)) y
            → (¬ Reach net (opening P (start_link_of net k)) (infeed net) z) × Way (Inner net T k) (bar net (suc k)) z
        one y z r (ny, w) =
            let nz : ¬ Reach net (opening P (start_link_of net k)) (infeed net) z = λ v. ny (onward v (step r.over r.closed (joins_flip net r.joins))) in
            (nz, onward w (step r.over (child_kept r.over r.closed) r.joins, high y z r.over r.joins ny, high z y r.over (joins_flip net r.joins) nz))

    -- and without it the bar of rank k + 1 is cut off
    pub child_cut : ¬ Reach net (opening T g) (infeed net) (bar net (suc k))
    child_cut w = bar_cut (subst (λ S. Reach net S (infeed net) (bar net (suc k))) child_rest w)

  -- the parent of a radial setting
  module _ (P T : Setting) (k g : ℕ) (rad : Radial net T) (pa : IsParent net P T k g) where
    g_closed : Closed T g
    g_closed = loop_closed net fit all T g (start_link_of net k) pa.other pa.in_loop

    pub parent_radial : Radial net P
    parent_radial = subst (Radial net) (sym pa.made)
        (cut_radial net fit all T g (start_link_of net k) rad g_closed (loop_cut net fit all T g (start_link_of net k) rad pa.other pa.in_loop))

    parent_back : T ≡ swapped P (start_link_of net k) g
    parent_back = sym (ap (λ S. swapped S (start_link_of net k) g) pa.made ∙ swap_back T g (start_link_of net k) g_closed (open_from_not T (start_link_of net k) pa.first.missing))

    start_on : Closed P (start_link_of net k)
    start_on =
        let (p, _, _, _, jp) = start_up net fit all k pa.first.is_start_link in
        let (lo, hi) = joins_range net jp in
        subst (λ S. Closed S (start_link_of net k)) (sym pa.made) (closing_closes (opening T g) (start_link_of net k) lo (omega (arith, length_put T g false, rad.one_a_link)))

    g_open : ¬ Closed P g
    g_open c =
        let h = subst (λ S. Closed S g) pa.made c in
        not_both (closing_only (opening T g) (start_link_of net k) g h pa.other) (opening_opens T g)

    parent_holds : Holds net k P
    parent_holds j j1 jk = elim (ℕ_discrete j k) [
      | yes e ↦ rw e start_on
      | no ne ↦
          let sj : IsStart net j = (j1, omega (arith, pa.first.is_start_link)) in
          subst (λ S. Closed S (start_link_of net j)) (sym pa.made) (closing_keeps (opening T g) (start_link_of net k) (start_link_of net j)
          (opening_keeps T g (start_link_of net j) (first_holds net T k pa.first j j1 (omega arith))
          (λ e. start_not_in_cut j k sj pa.first.is_start_link ne (subst (InCut net (start_setting net) (start_link_of net k)) (sym e) pa.in_start_cut))))
    ]

    -- T is its child by the child rule
    pub parent_child : IsChild net P k g T
    parent_child = record {
      leaving = holds_leaving net P k pa.first.is_start_link parent_holds;
      entering = record {
        is_open = g_open;
        other = pa.other;
        in_cut = radial_cut net fit all P (start_link_of net k) g parent_radial g_open (rad.in_service g g_closed) (subst (Radial net) parent_back rad);
        in_start_cut = pa.in_start_cut;
      };
      made = parent_back;
    }

  -- a gate is a parent
  pub gate_parent : (T : Setting) (k : ℕ) → Radial net T → FirstMissing net T k → (P : Setting) × (g : ℕ) × IsParent net P T k g
  gate_parent T k rad fm =
      let sk = fm.is_start_link in
      let has = first_holds net T k fm in
      let off = open_from_not T (start_link_of net k) fm.missing in
      let (g, gt) = gate net fit all T k sk has net.bars (radial_spans rad) in
      let P = swapped T g (start_link_of net k) in
      let radP = spans_radial (lifted net fit all T k sk has net.bars (radial_spans rad) off g gt) in
      let holds = lifted_holds net fit all T k sk has net.bars (radial_spans rad) g gt in
      let rest : opening P (start_link_of net k) ≡ opening T g = put_back (opening T g) (start_link_of net k) false true (opening_stays_open T g (start_link_of net k) off) in
      let en = of_ranks net fit all P k radP sk holds g (record {
        far = gt.far;
        near = gt.near;
        joins = gt.joins;
        other = λ e. not_both (subst (Closed T) e gt.on) off;
        cut = λ w. bridge net fit all T g gt.far gt.near rad gt.on gt.joins
            (way_join (reach_back net (subst (λ S. Reach net S (infeed net) gt.far) rest w)) (near_reached net fit all T k sk has g gt));
        low = gt.low;
      }) in
      let ch : IsChild net P k g T = record {
        leaving = holds_leaving net P k sk holds;
        entering = en;
        made = sym (swap_back T g (start_link_of net k) gt.on off);
      } in
      (P, g, child_parent P k g T radP ch)

  -- one gate alone cuts the bar of rank k + 1 off
  same_gate : (T : Setting) (k : ℕ) → IsStart net k → ((j : ℕ) → 1 ≤ j → j < k → Closed T (start_link_of net j))
      → (g h : ℕ) → ¬ Reach net (opening T g) (infeed net) (bar net (suc k)) → Gate net T k g → Gate net T k h → g ≡ h
  same_gate T k sk has g h n gt ht = elim (ℕ_discrete g h) [
    | yes e ↦ e
    | no ne ↦ absurd (n (way_join (onward near (step h (opening_keeps T g h ht.on (λ e. ne (sym e))) (joins_flip net ht.joins)))
        (reach_back net (inner_without net T k g gt.far gt.near gt.joins gt.low ht.inner))))
  ]
    where
      near : Reach net (opening T g) (infeed net) ht.near
      near = gate_low net fit all T k sk has g gt ht.near (ends_bars net fit ht.joins).1 ht.low

  same_first : (T : Setting) (j k : ℕ) → FirstMissing net T j → FirstMissing net T k → j ≡ k
  same_first T j k p q = omega (arith, p.lowest k q.is_start_link q.missing, q.lowest j p.is_start_link p.missing)

  -- exactly one parent
  pub one_parent : (T : Setting) → Radial net T → (P Q : Setting) (j k g h : ℕ) → IsParent net P T j g → IsParent net Q T k h → (j ≡ k) × (g ≡ h) × (P ≡ Q)
  one_parent T rad P Q j k g h p q = by (same_first T j k p.first q.first)
    where
      by : j ≡ k → (j ≡ k) × (g ≡ h) × (P ≡ Q)
      by e =
          let p' : IsParent net P T k g = subst (λ i. IsParent net P T i g) e p in
          let c = parent_child P T k g rad p' in
          let d = parent_child Q T k h rad q in
          let rp = parent_radial P T k g rad p' in
          let rq = parent_radial Q T k h rad q in
          let s = same_gate T k q.first.is_start_link (child_holds P k g T rp c) g h (child_cut P k g T rp c) (child_gate P k g T rp c) (child_gate Q k h T rq d) in
          (e, s, p'.made ∙ ap (λ x. swapped T x (start_link_of net k)) s ∙ sym q.made)
