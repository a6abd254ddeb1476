-- Where the depth-first order is used: what is cut off lies below the leaving link, and so which links may enter.
use Rattle.std.proofs.Common.{◌≡◌, ℕ, zero, suc, ◌<◌, ◌≤◌, ◌≢◌, sym, ap, ◌∙◌, inl, inr, arith}
use native.Mathlib.Decide.{dec_le}
use Rattle.net.specs.Nets.{Net, IsBar, infeed, Joins}
use Rattle.net.specs.Settings.{Setting, Closed, opening, here, onward, Step, Reach, Radial}
use Rattle.net.specs.Limits.{WithinLimits}
use Rattle.net.proofs.Ways.{way_join, way_keeps, way_last}
use Rattle.net.proofs.Links.{joins_flip, same_ends, ends_bars}
use Rattle.net.proofs.Settings.{opening_only, opening_keeps, reach_back}
use Rattle.survey.specs.Surveys.{start_setting, AllReached, Parent, Ancestor}
use Rattle.survey.proofs.Reached.{start_radial}
use Rattle.survey.proofs.Whole.{well_ranked}
use Rattle.trees.specs.Cuts.{InCut}
use Rattle.trees.specs.Rules.{start_link_of, IsStart, Entering}
use Rattle.trees.proofs.Swaps.{step, Split, split}
use Rattle.trees.proofs.Ranks.{rank, bar, rank_of_bar, bar_of_rank, same_rank, infeed_rank, infeed_bar, start_up, start_apart, start_closed, closed_start, start_parent, ancestor_rank, one_parent, ancestors_chain}

-- link g has one bar cut off without e, the other not
pub record Sides (net : Net) (T : Setting) (e g : ℕ) : Type 0 where
  pub far : ℕ
  pub near : ℕ
  pub joins : Joins net g far near
  pub cut : ¬ Reach net (opening T e) (infeed net) far
  pub kept : Reach net (opening T e) (infeed net) near

-- that is the cut of a radial setting
pub sides_cut : (net : Net) (T : Setting) (e g : ℕ) → Sides net T e g → InCut net T e g
sides_cut net T e g s = record { a = s.near; b = s.far; joins = joins_flip net s.joins; apart = λ w. s.cut (way_join s.kept w) }

pub cut_sides : (net : Net) → WithinLimits net → (T : Setting) (e g : ℕ) → Radial net T → Closed T e → InCut net T e g → Sides net T e g
cut_sides net fit T e g rad ce ic =
    let (u, v, je) = rad.in_service e ce in
    let (ba, bb) = ends_bars net fit ic.joins in
    by u v (split net T e u v je (infeed net) ic.a (rad.all_reached ic.a ba)) (split net T e u v je (infeed net) ic.b (rad.all_reached ic.b bb))
  where
    R : ℕ → ℕ → Type 0
    R x y = Reach net (opening T e) x y

    a_near : R (infeed net) ic.a → Sides net T e g
    a_near w = record { far = ic.b; near = ic.a; joins = joins_flip net ic.joins; cut = λ x. ic.apart (way_join (reach_back net w) x); kept = w }

    b_near : R (infeed net) ic.b → Sides net T e g
    b_near w = record { far = ic.a; near = ic.b; joins = ic.joins; cut = λ x. ic.apart (way_join (reach_back net x) w); kept = w }

    by : (u v : ℕ) → Split net T e u v (infeed net) ic.a → Split net T e u v (infeed net) ic.b → Sides net T e g
    by u v (inl w) q = a_near w
    by u v (inr p) (inl w) = b_near w
    by u v (inr (inl (p, x))) (inr (inl (q, y))) = absurd (ic.apart (way_join (reach_back net x) y))
    by u v (inr (inl (p, x))) (inr (inr (q, y))) = a_near (way_join q x)
    by u v (inr (inr (p, x))) (inr (inl (q, y))) = a_near (way_join q x)
    by u v (inr (inr (p, x))) (inr (inr (q, y))) = absurd (ic.apart (way_join (reach_back net x) y))

-- the start links of rank k and less are closed
abbrev pub Holds : Net → ℕ → Setting → Type 0
Holds net k T = (j : ℕ) → 1 ≤ j → j ≤ k → Closed T (start_link_of net j)

-- by ranks: one bar of g is cut off, the other has a rank of k or less
pub record EntersByRank (net : Net) (T : Setting) (k g : ℕ) : Type 0 where
  pub far : ℕ
  pub near : ℕ
  pub joins : Joins net g far near
  pub other : g ≢ start_link_of net k
  pub cut : ¬ Reach net (opening T (start_link_of net k)) (infeed net) far
  pub low : rank net near ≤ k

module _ (net : Net) (fit : WithinLimits net) (all : AllReached net) where
  pub start_is_radial : Radial net (start_setting net)
  start_is_radial = start_radial net fit all

  -- the start links below k reach the bars of rank k and less
  reach_bar : (S : Setting) (k : ℕ) → k ≤ net.bars → ((j : ℕ) → 1 ≤ j → j < k → Closed S (start_link_of net j))
      → (n i : ℕ) → i ≤ n → 1 ≤ i → i ≤ k → Reach net S (infeed net) (bar net i)
  reach_bar S k kV has zero i l lo hi = absurd (omega arith)
  reach_bar S k kV has (suc n) zero l lo hi = absurd (omega arith)
  reach_bar S k kV has (suc n) (suc zero) l lo hi =
      let (r, isb) = bar_of_rank net fit all 1 (omega arith) (omega arith) in
      rw (same_rank net fit all (bar net 1) (infeed net) isb (infeed_bar net fit all) (r ∙ sym (infeed_rank net fit all))) here
  reach_bar S k kV has (suc n) (suc (suc j)) l lo hi =
      let (p, p1, pj, isp, jn) = start_up net fit all (suc j) (omega arith, omega arith) in
      let (_, _, e) = rank_of_bar net fit all p isp in
      let w : Reach net S (infeed net) p = rw e at (reach_bar S k kV has n (rank net p) (omega arith) p1 (omega arith)) in
      onward w (step (start_link_of net (suc j)) (has (suc j) (omega arith) (omega arith)) jn)

  pub reach_low : (S : Setting) (k : ℕ) → k ≤ net.bars → ((j : ℕ) → 1 ≤ j → j < k → Closed S (start_link_of net j))
      → (b : ℕ) → IsBar net b → rank net b ≤ k → Reach net S (infeed net) b
  reach_low S k kV has b isb hi =
      let (lo, _, e) = rank_of_bar net fit all b isb in
      rw e at (reach_bar S k kV has (rank net b) (rank net b) (omega arith) lo hi)

  -- a bar below the start link of rank k is not reached in the start setting without it
  pub below_cut : (k x : ℕ) → IsStart net k → Ancestor net (bar net (suc k)) x → ¬ Reach net (opening (start_setting net) (start_link_of net k)) (infeed net) x
  below_cut k x sk u w = way_keeps (λ y. ¬ Ancestor net (bar net (suc k)) y) one w not_infeed u
    where
      rk : rank net (bar net (suc k)) ≡ suc k
      rk = (bar_of_rank net fit all (suc k) (omega arith) sk.1).0

      not_infeed : ¬ Ancestor net (bar net (suc k)) (infeed net)
      not_infeed h = let q = ancestor_rank net fit all h in omega (arith, infeed_rank net fit all, sk, rk)

      one : (y z : ℕ) → Step net (opening (start_setting net) (start_link_of net k)) y z → ¬ Ancestor net (bar net (suc k)) y → ¬ Ancestor net (bar net (suc k)) z
      one y z r ny uz =
          let (ci, ne) = opening_only (start_setting net) (start_link_of net k) r.over r.closed in
          let (j, sj, is) = closed_start net fit all r.over ci in
          let (p, p1, pj, isp, jp) = start_up net fit all j sj in
          let rj = (bar_of_rank net fit all (suc j) (omega arith) sj.1).0 in
          let par : Parent net p (bar net (suc j)) = start_parent net fit all j sj p jp in
          elim (same_ends net jp (rw is at r.joins)) [
            | inl (u', v) ↦ elim (way_last uz) [
              | inl e ↦
                  let z' = ap (rank net) (e ∙ v) in
                  let jk : j ≡ k = omega (arith, rk) in
                  ne (is ∙ ap (start_link_of net) jk)
              | inr (q, w', dn) ↦ ny (rw (one_parent net fit all q p (bar net (suc j)) (rw v at dn) par ∙ sym u') at w')
            ]
            | inr (u', v) ↦ ny (onward uz (rw (v, u') par))
          ]

  module _ (T : Setting) (k : ℕ) (rad : Radial net T) (sk : IsStart net k) (holds : Holds net k T) where
    -- without the start link of rank k the bars of rank k and less are still reached
    pub low_reached : (b : ℕ) → IsBar net b → rank net b ≤ k → Reach net (opening T (start_link_of net k)) (infeed net) b
    low_reached b isb hi = reach_low (opening T (start_link_of net k)) k (omega (arith, sk))
        (λ j j1 jk. opening_keeps T (start_link_of net k) (start_link_of net j) (holds j j1 (omega arith))
        (λ q. let z = start_apart net fit all j k (j1, omega (arith, sk)) sk q in omega arith)) b isb hi

    -- what is cut off hangs together with the bar of rank k + 1
    pub cut_side : (x : ℕ) → IsBar net x → ¬ Reach net (opening T (start_link_of net k)) (infeed net) x → Reach net (opening T (start_link_of net k)) (bar net (suc k)) x
    cut_side x isx n =
        let (p, p1, pk, isp, jp) = start_up net fit all k sk in
        by p isp pk (split net T (start_link_of net k) p (bar net (suc k)) jp (infeed net) x (rad.all_reached x isx))
      where
        by : (p : ℕ) → IsBar net p → rank net p ≤ k → Split net T (start_link_of net k) p (bar net (suc k)) (infeed net) x → Reach net (opening T (start_link_of net k)) (bar net (suc k)) x
        by p isp pk (inl w) = absurd (n w)
        by p isp pk (inr (inl (v, w))) = w
        by p isp pk (inr (inr (v, w))) = absurd (n (way_join (low_reached p isp pk) w))

    -- and lies below it
    pub cut_below : (x : ℕ) → IsBar net x → ¬ Reach net (opening T (start_link_of net k)) (infeed net) x → Ancestor net (bar net (suc k)) x
    cut_below x isx n = (way_keeps P one w (λ v. n (way_join v w), here)).1
      where
        w : Reach net (opening T (start_link_of net k)) (bar net (suc k)) x
        w = cut_side x isx n

        P : ℕ → Type 0
        P y = (¬ Reach net (opening T (start_link_of net k)) (infeed net) y) × Ancestor net (bar net (suc k)) y

        one : (y z : ℕ) → Step net (opening T (start_link_of net k)) y z → P y → P z
        one y z r (ny, uy) =
            let nz : ¬ Reach net (opening T (start_link_of net k)) (infeed net) z = λ v. ny (onward v (step r.over r.closed (joins_flip net r.joins))) in
            let isz = (ends_bars net fit r.joins).1 in (
              nz,
              elim (dec_le (rank net z) k) [
                | yes l ↦ absurd (nz (low_reached z isz l))
                | no m ↦ elim ((well_ranked net fit all).ancestors r.over y z r.joins) [
                  | inl u ↦ way_join uy u
                  | inr u ↦ ancestors_chain net fit all u uy (omega (arith, (bar_of_rank net fit all (suc k) (omega arith) sk.1).0))
                ]
              ],
            )

    -- the two ways to say that a link may enter
    pub to_ranks : (g : ℕ) → Entering net T k g → EntersByRank net T k g
    to_ranks g en =
        let s = cut_sides net fit T (start_link_of net k) g rad (holds k sk.0 (omega arith)) en.in_cut in
        let s0 = cut_sides net fit (start_setting net) (start_link_of net k) g start_is_radial (start_closed net fit all k sk) en.in_start_cut in
        let (isf, isn) = ends_bars net fit s.joins in
        let u = cut_below s.far isf s.cut in
        let lies : ¬ Ancestor net (bar net (suc k)) s.near = elim (same_ends net s.joins s0.joins) [
          | inl (p, q) ↦ λ v. below_cut k s.near sk v (rw q at s0.kept)
          | inr (p, q) ↦ absurd (below_cut k s.far sk u (rw q at s0.kept))
        ] in
        record {
          far = s.far;
          near = s.near;
          joins = s.joins;
          other = en.other;
          cut = s.cut;
          low = elim (dec_le (rank net s.near) k) [
            | yes l ↦ l
            | no m ↦ absurd (lies (elim ((well_ranked net fit all).ancestors g s.far s.near s.joins) [
              | inl v ↦ way_join u v
              | inr v ↦ ancestors_chain net fit all v u (omega (arith, (bar_of_rank net fit all (suc k) (omega arith) sk.1).0))
            ]))
          ];
        }

    pub of_ranks : (g : ℕ) → EntersByRank net T k g → Entering net T k g
    of_ranks g en =
        let (isf, isn) = ends_bars net fit en.joins in
        let w = low_reached en.near isn en.low in
        record {
          is_open = λ c. en.cut (onward w (step g (opening_keeps T (start_link_of net k) g c en.other) (joins_flip net en.joins)));
          other = en.other;
          in_cut = sides_cut net T (start_link_of net k) g (record { far = en.far; near = en.near; joins = en.joins; cut = en.cut; kept = w });
          in_start_cut = sides_cut net (start_setting net) (start_link_of net k) g (record {
            far = en.far;
            near = en.near;
            joins = en.joins;
            cut = below_cut k en.far sk (cut_below en.far isf en.cut);
            kept = reach_low (opening (start_setting net) (start_link_of net k)) k (omega (arith, sk))
                (λ j j1 jk. opening_keeps (start_setting net) (start_link_of net k) (start_link_of net j) (start_closed net fit all j (j1, omega (arith, sk)))
                (λ q. let z = start_apart net fit all j k (j1, omega (arith, sk)) sk q in omega arith)) en.near isn en.low;
          });
        }
