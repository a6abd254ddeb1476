-- Cut and loop are two sides of one fact.
use Rattle.std.proofs.Common.{◌≡◌, ℕ, true, false, ◌≢◌, ◌⊎◌, List, [], ◌∷◌, sym, ap, ◌∙◌, subst, inl, inr, arith}
use native.Mathlib.Decide.{ℕ_discrete}
use Rattle.net.specs.Nets.{nth, Net, Joins, InService}
use Rattle.net.specs.Members.{Member}
use Rattle.net.specs.Settings.{Setting, Closed, closing, opening, here, onward, Reach, Radial}
use Rattle.net.specs.Limits.{WithinLimits}
use Rattle.net.proofs.Ways.{way_join}
use Rattle.net.proofs.Links.{joins_flip, same_ends, ends_bars, joins_range}
use Rattle.net.proofs.Numbered.{length_put}
use Rattle.net.proofs.Settings.{opening_keeps, opening_stays_open, open_from_not, put_back, closing_closes, reach_back}
use Rattle.survey.specs.Surveys.{AllReached}
use Rattle.trees.specs.Cuts.{InCut, Trail, stay, go, InLoop, swapped}
use Rattle.trees.proofs.Swaps.{step, exchange_radial}
use Rattle.trees.proofs.Cores.{cut_sides}
use Rattle.trees.proofs.Gates.{bridge}

member_or_not : (x : ℕ) (xs : List ℕ) → Member x xs ⊎ (¬ Member x xs)
member_or_not x [] = inr (λ m. m)
member_or_not x (y ∷ ys) = elim (ℕ_discrete x y) [
  | yes e ↦ inl (inl e)
  | no ne ↦ elim (member_or_not x ys) [
    | inl m ↦ inl (inr m)
    | inr n ↦ inr (λ m. elim m [ inl e ↦ ne e | inr q ↦ n q ])
  ]
]

module _ (net : Net) (T : Setting) where
  -- a trail that does without f
  trail_without : (f : ℕ) {a b : ℕ} {ls : List ℕ} → Trail net T a b ls → ¬ Member f ls → Reach net (opening T f) a b
  trail_without f stay n = here
  trail_without f (go {l = l} t c j m) n =
      onward (trail_without f t (λ q. n (inr q))) (step l (opening_keeps T f l c (λ e. n (inl (sym e)))) j)

  -- both bars of a link on a trail end a trail
  trail_to : (l : ℕ) {a b p q : ℕ} {ls : List ℕ} → Trail net T a b ls → Member l ls → Joins net l p q → (ms : List ℕ) × Trail net T a q ms
  trail_to l stay m jl = absurd m
  trail_to l {q = q} (go {l = k} {ls = ls} t c j n) (inl e) jl = elim (same_ends net j (rw e at jl)) [
    | inl (_, y) ↦ (k ∷ ls, rw y (go t c j n))
    | inr (_, y) ↦ (ls, rw y t)
  ]
  trail_to l (go t c j n) (inr m) jl = trail_to l t m jl

  -- a way can be made a trail
  pub trail_from : {a b : ℕ} → Reach net T a b → (ls : List ℕ) × Trail net T a b ls
  trail_from here = ([], stay)
  trail_from (onward w r) =
      let (ls, t) = trail_from w in
      elim (member_or_not r.over ls) [
        | inl m ↦ trail_to r.over t m r.joins
        | inr n ↦ (r.over ∷ ls, go t r.closed r.joins n)
      ]

  -- a trail over f: before it, over it, after it
  record Over (f a b : ℕ) : Type 0 where
    x : ℕ
    y : ℕ
    closed : Closed T f
    joins : Joins net f x y
    before : Reach net (opening T f) a x
    after : Reach net (opening T f) y b

  trail_over : (f : ℕ) {a b : ℕ} {ls : List ℕ} → Trail net T a b ls → Member f ls → Over f a b
  trail_over f stay m = absurd m
  trail_over f (go {b = b} {c = d} {l = l} {ls = ls} t c j n) (inl e) =
      record { x = b; y = d; closed = rw e c; joins = rw e j; before = trail_without f t (rw (← e) at n); after = here }
  trail_over f (go {l = l} {ls = ls} t c j n) (inr m) =
      let o = trail_over f t m in
      record {
        x = o.x;
        y = o.y;
        closed = o.closed;
        joins = o.joins;
        before = o.before;
        after = onward o.after (step l (opening_keeps T f l c (λ e. n (rw e m))) j);
      }

-- a swap taken back
pub swap_back : (T : Setting) (e g : ℕ) → Closed T e → nth T g false ≡ false → swapped (swapped T e g) g e ≡ T
swap_back T e g ce og =
    ap (λ S. closing S e) (put_back (opening T e) g false true (opening_stays_open T e g og)) ∙ put_back T e true false ce

module _ (net : Net) (fit : WithinLimits net) (all : AllReached net) where
  pub cut_loop : (T : Setting) (f g : ℕ) → Radial net T → InCut net T f g → InLoop net T g f
  cut_loop T f g rad ic =
      let (ba, bb) = ends_bars net fit ic.joins in
      let (ls, t) = trail_from net T (way_join (reach_back net (rad.all_reached ic.a ba)) (rad.all_reached ic.b bb)) in
      elim (member_or_not f ls) [
        | inl m ↦ inr (ic.a, ic.b, ic.joins, (ls, t, m))
        | inr n ↦ absurd (ic.apart (trail_without net T f t n))
      ]

  pub loop_cut : (T : Setting) (f g : ℕ) → Radial net T → f ≢ g → InLoop net T g f → InCut net T f g
  loop_cut T f g rad ne (inl e) = absurd (ne e)
  loop_cut T f g rad ne (inr (a, b, jg, (ls, t, m))) =
      let o = trail_over net T f t m in
      record {
        a = a;
        b = b;
        joins = jg;
        apart = λ w. bridge net fit all T f o.x o.y rad o.closed o.joins (way_join (reach_back net o.before) (way_join w (reach_back net o.after)));
      }

  pub loop_closed : (T : Setting) (f g : ℕ) → f ≢ g → InLoop net T g f → Closed T f
  loop_closed T f g ne (inl e) = absurd (ne e)
  loop_closed T f g ne (inr (a, b, jg, (ls, t, m))) = (trail_over net T f t m).closed

  pub cut_radial : (T : Setting) (f g : ℕ) → Radial net T → Closed T f → InCut net T f g → Radial net (swapped T f g)
  cut_radial T f g rad cf ic =
      let s = cut_sides net fit T f g rad cf ic in
      exchange_radial net fit T f g s.near s.far rad cf (joins_flip net s.joins) s.kept s.cut

  pub radial_cut : (T : Setting) (f g : ℕ) → Radial net T → ¬ Closed T g → InService net g → Radial net (swapped T f g) → InCut net T f g
  radial_cut T f g rad og (a, b, jg) swap =
      let (lo, hi) = joins_range net jg in
      let on : Closed (swapped T f g) g = closing_closes (opening T f) g lo (omega (arith, length_put T f false, rad.one_a_link)) in
      let e : opening (swapped T f g) g ≡ opening T f = put_back (opening T f) g false true (opening_stays_open T f g (open_from_not T g og)) in
      record { a = a; b = b; joins = jg; apart = λ w. bridge net fit all (swapped T f g) g a b swap on jg (subst (λ S. Reach net S a b) (sym e) w) }
