-- What is asked of a setting can be decided, and so taken out of a board's invariant.
use Rattle.std.proofs.Common.{◌≡◌, ℕ, zero, suc, ◌+◌, ◌≤◌, length, Some, None, Option, sym, refl, subst, inl, inr, arith}
use mathlib.Core.HLevel.{⊥_prop}
use mathlib.Core.Logic.Dec
use mathlib.Core.Logic.{∥∥₁_elim}
use native.Mathlib.Decide.{ℕ_discrete, dec_le, map_dec}
use Rattle.net.specs.Nets.{nth, Net, ends_of, IsBar, infeed, forth, InService}
use Rattle.net.specs.Settings.{Setting, Closed, opening, closed_links, Reach, Radial}
use Rattle.net.specs.Limits.{WithinLimits}
use Rattle.net.proofs.Links.{out_of_service}
use Rattle.net.proofs.Settings.{closed_or_open, closed_range, not_from_open}
use Rattle.survey.specs.declared.surveyed.Surveyed.{Surveyed}
use Rattle.survey.specs.Answers.{net_of}
use Rattle.survey.proofs.Whole.{surveyed_fits}
use Rattle.trees.specs.Listings.{fed}
use Rattle.trees.proofs.Floods.{marked_reached, reached_marked}
use Rattle.board.specs.declared.boards.Board.{Board}
use Rattle.board.specs.declared.boards.Looped.{Looped}
use Rattle.board.specs.Boards.{board_net, setting_of, looped_net, looped_setting, setting_before}

dec_each : (P : ℕ → Type 0) → ((i : ℕ) → Dec (P i)) → (n : ℕ) → Dec ((i : ℕ) → i ≤ n → P i)
dec_each P d zero = map_dec (λ p i h. let e : i ≡ 0 = omega arith in rw e p) (λ f. f 0 (omega arith)) (d 0)
dec_each P d (suc n) = map_dec
    (λ (p, f) i h. elim (ℕ_discrete i (suc n)) [ yes e ↦ rw e p | no ne ↦ f i (omega arith) ])
    (λ f. (f (suc n) (omega arith), λ i h. f i (omega arith)))
    (Dec.and (d (suc n)) (dec_each P d n))

dec_if : {P Q : Type 0} → Dec P → Dec Q → Dec (P → Q)
dec_if (yes p) d = map_dec (λ q _. q) (λ f. f p) d
dec_if (no n) d = yes (λ p. absurd (n p))

pub dec_closed : (T : Setting) (l : ℕ) → Dec (Closed T l)
dec_closed T l = elim (closed_or_open (nth T l _)) [ inl c ↦ yes c | inr o ↦ no (not_from_open T l o) ]

pub dec_in_service : (net : Net) (l : ℕ) → Dec (InService net l)
dec_in_service net l = by (ends_of net l) refl
  where
    by : (o : Option (ℕ × ℕ)) → ends_of net l ≡ o → Dec (InService net l)
    by None e = no (λ (a, b, j). out_of_service net e j)
    by (Some (a, b)) e = yes (a, b, forth e)

module _ (net : Net) (fit : WithinLimits net) (T : Setting) where
  dec_served : Dec ((l : ℕ) → Closed T l → InService net l)
  dec_served = map_dec (λ f l c. f l (closed_range T l c).1 c) (λ f l _. f l)
      (dec_each (λ l. Closed T l → InService net l) (λ l. dec_if (dec_closed T l) (dec_in_service net l)) (length T))

  dec_fed : Dec ((b : ℕ) → IsBar net b → Reach net T (infeed net) b)
  dec_fed = map_dec (λ f b isb. marked_reached net fit T b (f b isb.1 isb.0)) (λ f b hi lo. reached_marked net fit T b (f b (lo, hi)))
      (dec_each (λ b. 1 ≤ b → Closed (fed net T) b) (λ b. dec_if (dec_le 1 b) (dec_closed (fed net T) b)) net.bars)

  pub dec_radial : Dec (Radial net T)
  dec_radial = map_dec
      (λ (size, (served, (count, fed))). record { one_a_link = size; in_service = served; one_fewer = count; all_reached = fed })
      (λ r. (r.one_a_link, (r.in_service, (r.one_fewer, r.all_reached))))
      (Dec.and (ℕ_discrete (length T) (length net.links)) (Dec.and dec_served (Dec.and (ℕ_discrete (closed_links T + 1) net.bars) dec_fed)))

-- the same net and the same setting
pub radial_of : {s s' : Surveyed} {T T' : Setting} → s' ≡ s → T' ≡ T → Radial (net_of s) T → Radial (net_of s') T'
radial_of {s} {s'} {T} {T'} e f r = subst (λ s. Radial (net_of s) T') (sym e) (subst (Radial (net_of s)) (sym f) r)

take_out : {P : Type 0} → Dec P → ∥ P ∥₁ → P
take_out (yes p) t = p
take_out (no n) t = absurd (∥∥₁_elim t ⊥_prop n)

-- the setting of a board is radial
pub board_radial : (b : Board) → Radial (board_net b) (setting_of b)
board_radial b = take_out (dec_radial (board_net b) (surveyed_fits b.switches.site) (setting_of b)) b.radial

-- a setting looped by link g: g is in service and closed, and with g open the setting is radial
pub record LoopedBy (net : Net) (S : Setting) (g : ℕ) : Type 0 where
  pub in_service : InService net g
  pub closed : Closed S g
  pub radial : Radial net (opening S g)

pub board_looped : (s : Looped) → LoopedBy (looped_net s) (looped_setting s) s.link
board_looped s = record {
  in_service = take_out (dec_in_service (looped_net s) s.link) s.served;
  closed = s.last;
  radial = take_out (dec_radial (looped_net s) (surveyed_fits s.switches.site) (setting_before s)) s.radial;
}
