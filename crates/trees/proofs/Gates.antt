-- The gate: the first link by which a way from the bar of rank k + 1 comes down to rank k. With it a setting is led to the start setting,
-- link by link; so a setting that reaches every bar has one link fewer than bars or more.
use Rattle.std.proofs.Common.{◌≡◌, ℕ, zero, suc, ◌<◌, ◌≤◌, true, false, cond, ◌≢◌, ◌⊎◌, [], ◌∷◌, refl, ap, ◌∙◌, inl, inr, arith}
use native.Mathlib.Decide.{ℕ_discrete, dec_le}
use Rattle.std.proofs.lemmas.List.Sums.{sum_by-cons}
use Rattle.net.specs.Nets.{nth, Net, IsBar, infeed, Joins}
use Rattle.net.specs.Settings.{Setting, Closed, opening, closed_links, Way, here, onward, Step, Reach, Radial}
use Rattle.net.specs.Limits.{WithinLimits}
use Rattle.net.proofs.Numbered.{length_put}
use Rattle.net.proofs.Ways.{way_join, way_along}
use Rattle.net.proofs.Links.{joins_flip, joins_range, same_ends, ends_bars}
use Rattle.net.proofs.Settings.{closed_or_open, not_both, closing_closes, closing_keeps, opening_only, opening_keeps, opening_stays_open, count_opening, reach_more, reach_back}
use Rattle.survey.specs.Surveys.{AllReached}
use Rattle.trees.specs.Cuts.{swapped}
use Rattle.trees.specs.Rules.{start_link_of, IsStart}
use Rattle.trees.proofs.Swaps.{step, Spans, rejoin, swap_spans}
use Rattle.trees.proofs.Ranks.{rank, bar, bar_of_rank, infeed_rank, start_up, start_apart}
use Rattle.trees.proofs.Cores.{Holds, reach_low}

-- a step between two bars above rank k
abbrev pub Inner : Net → Setting → ℕ → ℕ → ℕ → Type 0
Inner net T k x y = Step net T x y × (k < rank net x) × (k < rank net y)

pub record Gate (net : Net) (T : Setting) (k g : ℕ) : Type 0 where
  pub far : ℕ
  pub near : ℕ
  pub inner : Way (Inner net T k) (bar net (suc k)) far
  pub high : k < rank net far
  pub on : Closed T g
  pub joins : Joins net g far near
  pub low : rank net near ≤ k

-- a way from the bar of rank k + 1 stays above rank k, or goes through a gate
through : (net : Net) (T : Setting) (k : ℕ) → k < rank net (bar net (suc k)) → (x : ℕ) → Reach net T (bar net (suc k)) x
    → (Way (Inner net T k) (bar net (suc k)) x × (k < rank net x)) ⊎ ((g : ℕ) × Gate net T k g)
through net T k h x here = inl (here, h)
through net T k h x (onward {b = y} w r) = elim (through net T k h y w) [
  | inr g ↦ inr g
  | inl (v, m) ↦ elim (dec_le (rank net x) k) [
    | yes l ↦ inr (r.over, record { far = y; near = x; inner = v; high = m; on = r.closed; joins = r.joins; low = l })
    | no l ↦ let hx : k < rank net x = omega arith in inl (onward v (r, m, hx), hx)
  ]
]

-- an inner way does without a link that has a bar of rank k or less
pub inner_without : (net : Net) (T : Setting) (k g u w : ℕ) → Joins net g u w → rank net w ≤ k → {a b : ℕ} → Way (Inner net T k) a b → Reach net (opening T g) a b
inner_without net T k g u w jg l v = way_along one v
  where
    one : (x y : ℕ) → Inner net T k x y → Reach net (opening T g) x y
    one x y (r, kx, ky) = onward here (step r.over (opening_keeps T g r.over r.closed ne) r.joins)
      where
        ne : r.over ≢ g
        ne q = elim (same_ends net jg (rw q at r.joins)) [
          | inl (_, p) ↦ let z = ap (rank net) p in omega arith
          | inr (p, _) ↦ let z = ap (rank net) p in omega arith
        ]

-- no link is closed
none_closed : (S : Setting) → ((l : ℕ) → ¬ Closed S l) → closed_links S ≤ 0
none_closed [] f = omega arith
none_closed (true ∷ S) f = absurd (f 1 refl)
none_closed (false ∷ S) f = let h = none_closed S (λ l. tail l (f (suc l))) in omega (arith, sum_by-cons (λ c. cond c 1 0) false S)
  where
    tail : (l : ℕ) → ¬ Closed (false ∷ S) (suc l) → ¬ Closed S l
    tail zero h c = not_both c refl
    tail (suc l) h c = h c

module _ (net : Net) (fit : WithinLimits net) (all : AllReached net) where
  -- start links below k keep clear of a link with a bar above rank k
  clear_of : (k g u w : ℕ) → k ≤ net.bars → Joins net g u w → k < rank net u → (j : ℕ) → 1 ≤ j → j < k → start_link_of net j ≢ g
  clear_of k g u w kV jg ku j j1 jk e =
      let (p, p1, pj, isp, jp) = start_up net fit all j (j1, omega arith) in
      let rj = (bar_of_rank net fit all (suc j) (omega arith) (omega arith)).0 in
      elim (same_ends net jg (rw e at jp)) [
        | inl (x, y) ↦ let z = ap (rank net) x in omega arith
        | inr (x, y) ↦ let z = ap (rank net) y in omega arith
      ]

  module _ (T : Setting) (k : ℕ) (sk : IsStart net k) (has : (j : ℕ) → 1 ≤ j → j < k → Closed T (start_link_of net j)) where
    -- the bars of rank k and less are reached without the gate
    pub gate_low : (g : ℕ) → Gate net T k g → (b : ℕ) → IsBar net b → rank net b ≤ k → Reach net (opening T g) (infeed net) b
    gate_low g gt b isb hi = reach_low net fit all (opening T g) k (omega (arith, sk))
        (λ j j1 jk. opening_keeps T g (start_link_of net j) (has j j1 jk) (clear_of k g gt.far gt.near (omega (arith, sk)) gt.joins gt.high j j1 jk)) b isb hi

    pub near_reached : (g : ℕ) (gt : Gate net T k g) → Reach net (opening T g) (infeed net) gt.near
    near_reached g gt = gate_low g gt gt.near (ends_bars net fit gt.joins).1 gt.low

    pub gate : (n : ℕ) → Spans net n T → (g : ℕ) × Gate net T k g
    gate n sp =
        let (rk, isb) = bar_of_rank net fit all (suc k) (omega arith) sk.1 in
        elim (through net T k (omega arith) (infeed net) (reach_back net (sp.all_reached (bar net (suc k)) isb))) [
          | inl p ↦ absurd (omega (arith, p.1, infeed_rank net fit all, sk))
          | inr g ↦ g
        ]

    closed_start : (n g : ℕ) → Spans net n T → Closed (swapped T g (start_link_of net k)) (start_link_of net k)
    closed_start n g sp =
        let (p, _, _, _, jp) = start_up net fit all k sk in
        let (lo, hi) = joins_range net jp in
        closing_closes (opening T g) (start_link_of net k) lo (omega (arith, length_put T g false, sp.one_a_link))

    -- the gate leaves and start link k enters: all bars are still reached
    pub lifted : (n : ℕ) → Spans net n T → nth T (start_link_of net k) false ≡ false → (g : ℕ) → Gate net T k g → Spans net n (swapped T g (start_link_of net k))
    lifted n sp lk g gt =
        let (p, p1, pk, isp, jp) = start_up net fit all k sk in
        swap_spans net n T g (start_link_of net k) gt.far gt.near p (bar net (suc k)) sp gt.on gt.joins jp (opening_stays_open T g (start_link_of net k) lk)
        (way_join (reach_back net (wide (inner_without net T k g gt.far gt.near gt.joins gt.low gt.inner)))
        (way_join (onward here (step (start_link_of net k) (closed_start n g sp) (joins_flip net jp)))
        (way_join (reach_back net (wide (gate_low g gt p isp pk))) (wide (near_reached g gt)))))
      where
        wide : {x y : ℕ} → Reach net (opening T g) x y → Reach net (swapped T g (start_link_of net k)) x y
        wide w = reach_more net (opening T g) (swapped T g (start_link_of net k)) (closing_keeps (opening T g) (start_link_of net k)) w

    pub lifted_holds : (n : ℕ) → Spans net n T → (g : ℕ) → Gate net T k g → Holds net k (swapped T g (start_link_of net k))
    lifted_holds n sp g gt j j1 jk = elim (ℕ_discrete j k) [
      | yes e ↦ rw e (closed_start n g sp)
      | no ne ↦ closing_keeps (opening T g) (start_link_of net k) (start_link_of net j)
          (opening_keeps T g (start_link_of net j) (has j j1 (omega arith)) (clear_of k g gt.far gt.near (omega (arith, sk)) gt.joins gt.high j j1 (omega arith)))
    ]

  -- from any spanning setting, one with as many links and with the start links up to k
  lift : (n : ℕ) (T : Setting) → Spans net n T → (k : ℕ) → k < net.bars → (P : Setting) × Spans net n P × Holds net k P
  lift n T sp zero kV = (T, sp, λ j j1 j0. absurd (omega arith))
  lift n T sp (suc k) kV =
      let (P, q, h) = lift n T sp k (omega arith) in
      let sk : IsStart net (suc k) = (omega arith, kV) in
      let below : (j : ℕ) → 1 ≤ j → j < suc k → Closed P (start_link_of net j) = λ j j1 jk. h j j1 (omega arith) in
      elim (closed_or_open (nth P (start_link_of net (suc k)) false)) [
        | inl c ↦ (P, q, λ j j1 jk. elim (ℕ_discrete j (suc k)) [ yes e ↦ rw e c | no ne ↦ h j j1 (omega arith) ])
        | inr o ↦
            let (g, gt) = gate P (suc k) sk below n q in (
              swapped P g (start_link_of net (suc k)),
              lifted P (suc k) sk below n q o g gt,
              lifted_holds P (suc k) sk below n q g gt,
            )
      ]

  -- k start links are k links
  pub many : (k : ℕ) → k < net.bars → (S : Setting) → Holds net k S → k ≤ closed_links S
  many zero kV S h = omega arith
  many (suc k) kV S h =
      let ce = h (suc k) (omega arith) (omega arith) in
      let m = many k (omega arith) (opening S (start_link_of net (suc k))) (λ j j1 jk. opening_keeps S (start_link_of net (suc k)) (start_link_of net j) (h j j1 (omega arith))
      (λ e. let q = start_apart net fit all j (suc k) (j1, omega arith) (omega arith, kV) e in omega arith)) in
      omega (arith, count_opening S (start_link_of net (suc k)) ce)

  -- so a spanning setting has as many links as bars less one, or more
  pub enough_links : (n : ℕ) (T : Setting) → Spans net n T → net.bars ≤ n
  enough_links n T sp = go net.bars refl
    where
      go : (v : ℕ) → net.bars ≡ v → net.bars ≤ n
      go zero e = omega arith
      go (suc k) e =
          let (P, q, h) = lift n T sp k (omega arith) in
          let m = many k (omega arith) P h in
          let c = q.count in
          omega arith

  -- and in a radial one the bars of a closed link are joined by that link alone
  pub bridge : (T : Setting) (g u w : ℕ) → Radial net T → Closed T g → Joins net g u w → ¬ Reach net (opening T g) u w
  bridge T g u w rad c jg v =
      let m = count_opening T g c in
      let r = rad.one_fewer in
      let x = enough_links (closed_links T) (opening T g) (record {
        one_a_link = length_put T g false ∙ rad.one_a_link;
        in_service = λ l h. rad.in_service l (opening_only T g l h).0;
        count = m;
        all_reached = λ b isb. rejoin net T (opening T g) g u w jg (opening_keeps T g) v (rad.all_reached b isb);
      }) in
      omega arith
