-- A looped setting without a link is radial exactly where the link is on the loop.
use Rattle.std.proofs.Common.{◌≡◌, ℕ, zero, suc, true, false, ◌≢◌, List, sym, refl, ap, ◌∙◌, subst, inl, arith}
use native.Mathlib.Decide.{ℕ_discrete}
use Rattle.std.proofs.lemmas.List.{set_comm}
use Rattle.net.specs.Nets.{put, Net, IsBar, infeed, InService}
use Rattle.net.specs.Settings.{Setting, Closed, closing, opening, closed_links, Reach, Radial}
use Rattle.net.specs.Limits.{WithinLimits}
use Rattle.net.proofs.Numbered.{length_put}
use Rattle.net.proofs.Settings.{opening_only, opening_keeps, opening_opens, count_opening, put_same, put_back, not_from_open, open_from_not}
use Rattle.survey.specs.Surveys.{AllReached}
use Rattle.survey.proofs.Whole.{surveyed_fits, surveyed_reached}
use Rattle.trees.specs.Cuts.{InLoop, swapped}
use Rattle.trees.proofs.Loops.{cut_loop, loop_cut, loop_closed, cut_radial, radial_cut}
use Rattle.board.specs.declared.boards.Looped.{Looped}
use Rattle.board.specs.Boards.{looped_net, looped_setting, setting_before}
use Rattle.board.proofs.Decided.{dec_closed, LoopedBy, board_looped}

-- two writes to different numbers
pub put_comm : {A : Type 0} (xs : List A) (i j : ℕ) (x y : A) → i ≢ j → put (put xs i x) j y ≡ put (put xs j y) i x
put_comm xs zero j x y ne = refl
put_comm xs (suc i) zero x y ne = refl
put_comm xs (suc i) (suc j) x y ne = set_comm xs i j x y (λ e. ne (ap suc e))

module _ (net : Net) (S : Setting) (g : ℕ) (looped : LoopedBy net S g) where
  -- a link opened is a link swapped for the last one
  opened_swapped : (l : ℕ) → l ≢ g → swapped (opening S g) l g ≡ opening S l
  opened_swapped l ne =
      ap (λ T. closing T g) (put_comm S g l false false (λ e. ne (sym e)))
      ∙ put_back (opening S l) g true false (opening_keeps S l g looped.closed (λ e. ne (sym e)))

  served : (l : ℕ) → Closed S l → InService net l
  served l c = elim (ℕ_discrete l g) [
    | yes e ↦ rw e looped.in_service
    | no ne ↦ looped.radial.in_service l (opening_keeps S g l c ne)
  ]

  -- a closed link can be spared where every bar is fed without it
  pub fed_radial : (l : ℕ) → Closed S l → ((b : ℕ) → IsBar net b → Reach net (opening S l) (infeed net) b) → Radial net (opening S l)
  fed_radial l c fed = record {
    one_a_link = length_put S l false ∙ sym (length_put S g false) ∙ looped.radial.one_a_link;
    in_service = λ k ck. served k (opening_only S l k ck).0;
    one_fewer = omega (arith, count_opening S l c, count_opening S g looped.closed, looped.radial.one_fewer);
    all_reached = fed;
  }

  -- an open link can't: one link too many stays closed
  pub radial_closed : (l : ℕ) → Radial net (opening S l) → Closed S l
  radial_closed l rad = elim (dec_closed S l) [
    | yes c ↦ c
    | no n ↦
        let e = ap closed_links (put_same S l false (open_from_not S l n)) in
        absurd (omega (arith, count_opening S g looped.closed, looped.radial.one_fewer, rad.one_fewer))
  ]

  module _ (fit : WithinLimits net) (all : AllReached net) where
    pub loop_radial : (l : ℕ) → InLoop net (opening S g) g l → Radial net (opening S l)
    loop_radial l on = elim (ℕ_discrete l g) [
      | yes e ↦ rw e looped.radial
      | no ne ↦
          let c = loop_closed net fit all (opening S g) l g ne on in
          subst (Radial net) (opened_swapped l ne) (cut_radial net fit all (opening S g) l g looped.radial c (loop_cut net fit all (opening S g) l g looped.radial ne on))
    ]

    pub radial_loop : (l : ℕ) → Radial net (opening S l) → InLoop net (opening S g) g l
    radial_loop l rad = elim (ℕ_discrete l g) [
      | yes e ↦ inl e
      | no ne ↦ cut_loop net fit all (opening S g) l g looped.radial
          (radial_cut net fit all (opening S g) l g looped.radial (not_from_open (opening S g) g (opening_opens S g)) looped.in_service (subst (Radial net) (sym (opened_swapped l ne)) rad))
    ]

-- the same of a looped board
module _ (s : Looped) (l : ℕ) where
  pub on_loop_radial : InLoop (looped_net s) (setting_before s) s.link l → Radial (looped_net s) (opening (looped_setting s) l)
  on_loop_radial = loop_radial (looped_net s) (looped_setting s) s.link (board_looped s) (surveyed_fits s.switches.site) (surveyed_reached s.switches.site) l

  pub radial_on_loop : Radial (looped_net s) (opening (looped_setting s) l) → InLoop (looped_net s) (setting_before s) s.link l
  radial_on_loop = radial_loop (looped_net s) (looped_setting s) s.link (board_looped s) (surveyed_fits s.switches.site) (surveyed_reached s.switches.site) l
