-- The ranks of a surveyed net, as the proofs use them.
use Rattle.std.proofs.Common.{◌≡◌, ℕ, suc, ◌+◌, ◌≤◌, length, unwrap_or, sym, ap, ◌∙◌, inl, inr, arith}
use Rattle.net.specs.Nets.{nth, Net, IsBar, infeed, Joins}
use Rattle.net.specs.Settings.{Closed, here, onward}
use Rattle.net.specs.Limits.{WithinLimits}
use Rattle.net.proofs.Ways.{way_keeps, way_last}
use Rattle.net.proofs.Links.{same_ends, ends_bars}
use Rattle.survey.specs.Ranks.{rank_in}
use Rattle.survey.specs.Surveys.{bar_order, start_links, start_setting, AllReached, Parent, Ancestor, WellRanked}
use Rattle.survey.proofs.Ranked.{rank_place}
use Rattle.survey.proofs.Reached.{all_reached_full, start_only, start_closes, longer}
use Rattle.survey.proofs.Whole.{well_ranked}
use Rattle.trees.specs.Rules.{start_link_of, IsStart}

module _ (net : Net) where
  -- the rank of a bar; 0 for what is no bar
  abbrev pub rank : ℕ → ℕ
  rank b = unwrap_or (rank_in (bar_order net) b) 0

  -- the bar of a rank
  abbrev pub bar : ℕ → ℕ
  bar k = nth (bar_order net) k 0

  module _ (fit : WithinLimits net) (all : AllReached net) where
    ranked : WellRanked net
    ranked = well_ranked net fit all

    pub rank_of_bar : (b : ℕ) → IsBar net b → (1 ≤ rank b) × (rank b ≤ net.bars) × (bar (rank b) ≡ b)
    rank_of_bar b isb =
        let (k, e) = ranked.bars_ranked.each_ranked b isb in
        let (lo, hi, q) = rank_place (bar_order net) b k e in
        let full = all_reached_full net fit all in
        rw e (lo, omega arith, q)

    pub bar_of_rank : (k : ℕ) → 1 ≤ k → k ≤ net.bars → (rank (bar k) ≡ k) × IsBar net (bar k)
    bar_of_rank k lo hi =
        let full = all_reached_full net fit all in
        let h : k ≤ length (bar_order net) = omega arith in
        (ap (λ o. unwrap_or o 0) (ranked.bars_ranked.one_rank k lo h), ranked.bars_ranked.no_other k lo h)

    pub same_rank : (a b : ℕ) → IsBar net a → IsBar net b → rank a ≡ rank b → a ≡ b
    same_rank a b p q e = let (_, _, u) = rank_of_bar a p in let (_, _, v) = rank_of_bar b q in sym u ∙ ap bar e ∙ v

    pub infeed_rank : rank (infeed net) ≡ 1
    infeed_rank = ap (λ o. unwrap_or o 0) ranked.infeed_first

    pub infeed_bar : IsBar net (infeed net)
    infeed_bar =
        let (lo, hi, q) = rank_place (bar_order net) (infeed net) 1 ranked.infeed_first in
        rw q at (bar_of_rank 1 (omega arith) fit.few_bars.0).1

    -- start link k joins the bar of rank k + 1 to a bar of rank k or less
    pub start_up : (k : ℕ) → IsStart net k → (p : ℕ) × (1 ≤ rank p) × (rank p ≤ k) × IsBar net p × Joins net (start_link_of net k) p (bar (suc k))
    start_up k (lo, hi) =
        let (p, j, jk, e, jn) = ranked.start_links_join k lo hi in
        let (l1, _, _) = rank_place (bar_order net) p j e in
        let q : rank p ≡ j = ap (λ o. unwrap_or o 0) e in
        (p, omega arith, omega arith, (ends_bars net fit jn).0, jn)

    pub start_apart : (j k : ℕ) → IsStart net j → IsStart net k → start_link_of net j ≡ start_link_of net k → j ≡ k
    start_apart j k sj sk e =
        let (p, p1, pj, isp, jp) = start_up j sj in
        let (q, q1, qk, isq, jq) = start_up k sk in
        let rj = (bar_of_rank (suc j) (omega arith) sj.1).0 in
        let rk = (bar_of_rank (suc k) (omega arith) sk.1).0 in
        elim (same_ends net jq (rw e at jp)) [
          | inl (_, u) ↦ let z = ap rank u in omega arith
          | inr (u, v) ↦ let z = ap rank u in let y = ap rank v in omega arith
        ]

    pub start_closed : (k : ℕ) → IsStart net k → Closed (start_setting net) (start_link_of net k)
    start_closed k (lo, hi) =
        let full = all_reached_full net fit all in
        start_closes net fit k lo (omega (arith, starts_count))
      where
        starts_count : length (start_links net) + 1 ≡ net.bars
        starts_count = omega (arith, all_reached_full net fit all, longer net fit)

    pub closed_start : (l : ℕ) → Closed (start_setting net) l → (k : ℕ) × IsStart net k × (l ≡ start_link_of net k)
    closed_start l c =
        let (k, e) = start_only net fit l c in
        let (lo, hi, q) = rank_place (start_links net) l k e in
        (k, (lo, omega (arith, all_reached_full net fit all, longer net fit)), sym q)

    -- the bar that start link k leads up to is the parent of the bar of rank k + 1
    pub start_parent : (k : ℕ) → IsStart net k → (p : ℕ) → Joins net (start_link_of net k) p (bar (suc k)) → Parent net p (bar (suc k))
    start_parent k sk p jn =
        let full = all_reached_full net fit all in
        (k, sk.0, ranked.bars_ranked.one_rank (suc k) (omega arith) (omega (arith, sk)), jn)

    -- a parent bar has a lower rank
    pub parent_rank : (p c : ℕ) → Parent net p c → (k : ℕ) × IsStart net k × (rank c ≡ suc k) × (c ≡ bar (suc k)) × (rank p ≤ k) × Joins net (start_link_of net k) p c
    parent_rank p c (k, k1, e, jn) =
        let (_, hi, q) = rank_place (bar_order net) c (suc k) e in
        let full = all_reached_full net fit all in
        let sk : IsStart net k = (k1, omega arith) in
        let (p', p1, pk, isp, jp) = start_up k sk in
        let rc : rank c ≡ suc k = ap (λ o. unwrap_or o 0) e in
        let rb = (bar_of_rank (suc k) (omega arith) (omega arith)).0 in
        let rp : rank p ≤ k = elim (same_ends net jp jn) [
          | inl (u, _) ↦ let z = ap rank u in omega arith
          | inr (u, v) ↦ let z = ap rank u in let y = ap rank v in absurd (omega arith)
        ] in
        (k, sk, rc, sym q, rp, jn)

    pub ancestor_rank : {a b : ℕ} → Ancestor net a b → rank a ≤ rank b
    ancestor_rank {a} {b} w = way_keeps (λ y. rank a ≤ rank y) (λ x y r h. let (_, _, e, _, l, _) = parent_rank x y r in omega arith) w (omega arith)

    -- a bar has one parent
    pub one_parent : (p q c : ℕ) → Parent net p c → Parent net q c → p ≡ q
    one_parent p q c u v =
        let (j, sj, ej, bj, lj, jj) = parent_rank p c u in
        let (k, sk, ek, bk, lk, jk) = parent_rank q c v in
        let e : j ≡ k = omega arith in
        elim (same_ends net jk (rw e at jj)) [
          | inl (x, _) ↦ x
          | inr (x, _) ↦ let z = ap rank x in absurd (omega arith)
        ]

    -- the ancestors of a bar are a chain
    pub ancestors_chain : {a b y : ℕ} → Ancestor net b y → Ancestor net a y → rank a ≤ rank b → Ancestor net a b
    ancestors_chain here v l = v
    ancestors_chain {a} {b} {y} (onward {b = p} w r) v l = elim (way_last v) [
      | inl e ↦
          let (_, _, ey, _, lp, _) = parent_rank p y r in
          let m = ancestor_rank w in
          let z = ap rank e in
          absurd (omega arith)
      | inr (q, w', s) ↦ ancestors_chain w (rw (one_parent q p y s r) at w') l
    ]
