-- One link for another: what is still reached.
use Rattle.std.proofs.Common.{◌≡◌, ℕ, ◌+◌, ◌≤◌, true, false, ◌≢◌, ◌⊎◌, length, ◌∙◌, inl, inr, arith}
use native.Mathlib.Decide.{ℕ_discrete}
use Rattle.net.specs.Nets.{nth, Net, IsBar, infeed, Joins, InService}
use Rattle.net.specs.Settings.{Setting, Closed, opening, closed_links, here, onward, Step, Reach, Radial}
use Rattle.net.specs.Limits.{WithinLimits}
use Rattle.net.proofs.Numbered.{length_put}
use Rattle.net.proofs.Ways.{way_join, way_along}
use Rattle.net.proofs.Links.{joins_range, joins_served, same_ends, ends_bars}
use Rattle.net.proofs.Settings.{closing_closes, closing_keeps, closing_only, opening_only, opening_keeps, count_closing, count_opening, reach_more, reach_back, open_from_not}
use Rattle.trees.specs.Cuts.{swapped}

-- one step over a closed link
pub step : {net : Net} {T : Setting} {a b : ℕ} (l : ℕ) → Closed T l → Joins net l a b → Step net T a b
step l c j = record { over = l; closed = c; joins = j }

-- n settings reach all bars with n - 1 links in service
pub record Spans (net : Net) (n : ℕ) (T : Setting) : Type 0 where
  pub one_a_link : length T ≡ length net.links
  pub in_service : (l : ℕ) → Closed T l → InService net l
  pub count : closed_links T + 1 ≡ n
  pub all_reached : (b : ℕ) → IsBar net b → Reach net T (infeed net) b

pub spans_radial : {net : Net} {T : Setting} → Spans net net.bars T → Radial net T
spans_radial s = record { one_a_link = s.one_a_link; in_service = s.in_service; one_fewer = s.count; all_reached = s.all_reached }

pub radial_spans : {net : Net} {T : Setting} → Radial net T → Spans net net.bars T
radial_spans r = record { one_a_link = r.one_a_link; in_service = r.in_service; count = r.one_fewer; all_reached = r.all_reached }

-- a way in T does without e, which joins a and b, or goes over it
abbrev pub Split : Net → Setting → ℕ → ℕ → ℕ → ℕ → ℕ → Type 0
Split net T e a b p x = Reach net (opening T e) p x
    ⊎ ((Reach net (opening T e) p a × Reach net (opening T e) b x) ⊎ (Reach net (opening T e) p b × Reach net (opening T e) a x))

module _ (net : Net) (T : Setting) (e a b : ℕ) (ends : Joins net e a b) where
  over_link : (p x y : ℕ) → ((x ≡ a) × (y ≡ b)) ⊎ ((x ≡ b) × (y ≡ a)) → Split net T e a b p x → Split net T e a b p y
  over_link p x y (inl (u, v)) (inl w) = inr (inl (rw u at w, rw v here))
  over_link p x y (inl (u, v)) (inr (inl (w, _))) = inr (inl (w, rw v here))
  over_link p x y (inl (u, v)) (inr (inr (w, _))) = inl (rw v w)
  over_link p x y (inr (u, v)) (inl w) = inr (inr (rw u at w, rw v here))
  over_link p x y (inr (u, v)) (inr (inl (w, _))) = inl (rw v w)
  over_link p x y (inr (u, v)) (inr (inr (w, _))) = inr (inr (w, rw v here))

  past_link : (p x y : ℕ) → Step net (opening T e) x y → Split net T e a b p x → Split net T e a b p y
  past_link p x y r (inl w) = inl (onward w r)
  past_link p x y r (inr (inl (v, w))) = inr (inl (v, onward w r))
  past_link p x y r (inr (inr (v, w))) = inr (inr (v, onward w r))

  pub split : (p x : ℕ) → Reach net T p x → Split net T e a b p x
  split p x here = inl here
  split p x (onward {b = y} w r) = elim (ℕ_discrete r.over e) [
    | yes q ↦ over_link p y x (same_ends net ends (rw q at r.joins)) (split p y w)
    | no n ↦ past_link p y x (step r.over (opening_keeps T e r.over r.closed n) r.joins) (split p y w)
  ]

-- where the ends of e are joined in S, which has every other link of T, S loses no way of T
pub rejoin : (net : Net) (T S : Setting) (e a b : ℕ) → Joins net e a b → ((l : ℕ) → Closed T l → l ≢ e → Closed S l)
    → Reach net S a b → {x y : ℕ} → Reach net T x y → Reach net S x y
rejoin net T S e a b ends has w v = way_along one v
  where
    turned : (x y : ℕ) → ((x ≡ a) × (y ≡ b)) ⊎ ((x ≡ b) × (y ≡ a)) → Reach net S x y
    turned x y (inl (p, q)) = rw (p, q) w
    turned x y (inr (p, q)) = rw (p, q) (reach_back net w)

    one : (x y : ℕ) → Step net T x y → Reach net S x y
    one x y r = elim (ℕ_discrete r.over e) [
      | yes p ↦ turned x y (same_ends net ends (rw p at r.joins))
      | no n ↦ onward here (step r.over (has r.over r.closed n) r.joins)
    ]

-- as many links are closed after a swap as before
pub count_swapped : (T : Setting) (e g : ℕ) → Closed T e → 1 ≤ g → g ≤ length T → nth (opening T e) g false ≡ false → closed_links (swapped T e g) ≡ closed_links T
count_swapped T e g ce lo hi og = omega (
  arith,
  count_opening T e ce,
  count_closing (opening T e) g lo (omega (arith, length_put T e false)) og,
)

-- a swap keeps a spanning setting where the ends of e are joined after it
pub swap_spans : (net : Net) (n : ℕ) (T : Setting) (e g a b c d : ℕ) → Spans net n T → Closed T e → Joins net e a b → Joins net g c d
    → nth (opening T e) g false ≡ false → Reach net (swapped T e g) a b → Spans net n (swapped T e g)
swap_spans net n T e g a b c d sp ce je jg og w =
    let (lo, hi) = joins_range net jg in
    let hT : g ≤ length T = omega (arith, sp.one_a_link) in
    record {
      one_a_link = length_put (opening T e) g true ∙ length_put T e false ∙ sp.one_a_link;
      in_service = served;
      count = omega (arith, count_swapped T e g ce lo hT og, sp.count);
      all_reached = λ x isb. rejoin net T (swapped T e g) e a b je
          (λ l c n. closing_keeps (opening T e) g l (opening_keeps T e l c n)) w (sp.all_reached x isb);
    }
  where
    served : (l : ℕ) → Closed (swapped T e g) l → InService net l
    served l h = elim (ℕ_discrete l g) [
      | yes p ↦ rw p (joins_served net jg)
      | no n ↦ sp.in_service l (opening_only T e l (closing_only (opening T e) g l h n)).0
    ]

-- the ends of e are joined after the swap, where one end of g is cut off without e and the other is not
pub across_swap : (net : Net) (T : Setting) (e g c d : ℕ) → length T ≡ length net.links → Joins net g c d → Reach net (opening T e) (infeed net) c
    → ¬ Reach net (opening T e) (infeed net) d → (a b : ℕ) → Split net T e a b (infeed net) d → Reach net (swapped T e g) a b
across_swap net T e g c d size jg wc nd a b = by
  where
    wide : {x y : ℕ} → Reach net (opening T e) x y → Reach net (swapped T e g) x y
    wide w = reach_more net (opening T e) (swapped T e g) (closing_keeps (opening T e) g) w

    on : Closed (swapped T e g) g
    on = let (lo, hi) = joins_range net jg in closing_closes (opening T e) g lo (omega (arith, length_put T e false))

    new : Reach net (swapped T e g) (infeed net) d
    new = onward (wide wc) (step g on jg)

    by : Split net T e a b (infeed net) d → Reach net (swapped T e g) a b
    by (inl w) = absurd (nd w)
    by (inr (inl (v, w))) = way_join (reach_back net (wide v)) (way_join new (reach_back net (wide w)))
    by (inr (inr (v, w))) = way_join (wide w) (way_join (reach_back net new) (wide v))

-- the exchange of a tree: e leaves, g enters with one end cut off and the other not
pub exchange_radial : (net : Net) → WithinLimits net → (T : Setting) (e g c d : ℕ) → Radial net T → Closed T e → Joins net g c d
    → Reach net (opening T e) (infeed net) c → ¬ Reach net (opening T e) (infeed net) d → Radial net (swapped T e g)
exchange_radial net fit T e g c d rad ce jg wc nd =
    let (a, b, je) = rad.in_service e ce in
    let (_, isd) = ends_bars net fit jg in
    spans_radial (swap_spans net net.bars T e g a b c d (radial_spans rad) ce je jg og
    (across_swap net T e g c d rad.one_a_link jg wc nd a b (split net T e a b je (infeed net) d (rad.all_reached d isd))))
  where
    og : nth (opening T e) g false ≡ false
    og = open_from_not (opening T e) g (λ h. nd (onward wc (step g h jg)))
