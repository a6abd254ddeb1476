-- A forward exchange is taken, or not.
use Rattle.std.proofs.Common.{◌≡◌, ℕ, ◌+◌, ◌<◌, true, false, leb, ◌≢◌, List, ◌∷◌, length, sym, ap, ◌∙◌, subst, ap₂}
use Rattle.std.proofs.lemmas.Bool.{leb-false}
use Rattle.faults.specs.declared.BoardFault.{BoardFault}
use Rattle.faults.specs.declared.BoardFault.TheVariants.{RowLength, NotInService, NotOpen, OffLoop, NotRadial}
use Rattle.faults.specs.declared.ReplayFault.TheVariants.{OnBoard}
use Rattle.net.specs.Settings.{Setting, Closed, closing, opening, Radial}
use Rattle.net.proofs.Settings.{opening_opens, not_from_open, open_from_not}
use Rattle.survey.specs.Answers.{net_of}
use Rattle.survey.proofs.Whole.{surveyed_fits, surveyed_reached}
use Rattle.trees.specs.Cuts.{swapped}
use Rattle.trees.proofs.Loops.{swap_back, loop_closed}
use Rattle.board.specs.declared.boards.Board.{Board}
use Rattle.board.specs.Boards.{board_net, setting_of}
use Rattle.board.proofs.Decided.{board_radial}
use Rattle.board.proofs.Splits.{put_comm}
use Rattle.stream.specs.Records.{F}
use Rattle.replay.specs.declared.player.Course.{Course}
use Rattle.replay.specs.declared.player.Player.TheVariants.{Walking}
use Rattle.replay.specs.Places.{walking, Goes, forward}
use Rattle.replay.specs.Refusals.{Refuses, in_unserved, in_closed, out_off_loop}
use Rattle.replay.specs.Exchanges.{ExchangedBy, NoExchange}
use Rattle.replay.specs.Pending.{pending_of}
use Rattle.replay.specs.Reversals.{reversed_by, CanReverse}
use Rattle.replay.specs.Players.{course_place}
use Rattle.replay.specs.Taking.{TakenOn}

-- a link closed and then another opened: the two are swapped
pub opened_swapped : (T : Setting) (out into : ℕ) → out ≢ into → opening (closing T into) out ≡ swapped T out into
opened_swapped T out into ne = put_comm T into out true false (λ e. ne (sym e))

module _ (b b' : Board) (out into : ℕ) (ne : out ≢ into) (x : ExchangedBy b out into b') where
  out_closed : Closed (setting_of b) out
  out_closed = loop_closed (board_net b) (surveyed_fits b.switches.site) (surveyed_reached b.switches.site) (setting_of b) out into ne x.on_loop

  setting_after : setting_of b' ≡ swapped (setting_of b) out into
  setting_after = x.setting ∙ opened_swapped (setting_of b) out into ne

  taken_back : swapped (setting_of b') into out ≡ setting_of b
  taken_back = ap (λ S. swapped S into out) setting_after ∙ swap_back (setting_of b) out into out_closed (open_from_not (setting_of b) into x.was_open)

  -- the exchange can be reversed, and all before it
  pub forward_reversible : (ps : List (ℕ × ℕ)) → CanReverse (board_net b) (setting_of b) ps → CanReverse (board_net b') (setting_of b') ((out, into) ∷ ps)
  forward_reversible ps can = subst (λ site. CanReverse (net_of site) (setting_of b') ((out, into) ∷ ps)) (sym x.same_site) (
    record {
      different = ne;
      in_service = (board_radial b).in_service out out_closed;
      is_open = subst (λ S. ¬ Closed S out) (sym x.setting) (not_from_open (opening (closing (setting_of b) into) out) out (opening_opens (closing (setting_of b) into) out));
      radial = subst (Radial (board_net b)) (sym taken_back) (board_radial b);
    },
    subst (λ S. CanReverse (board_net b) S ps) (sym taken_back) can,
  )

  forward_goes : (ps : List (ℕ × ℕ)) (shown : ℕ) → length ps + 1 < (board_net b).bars
      → Goes (board_net b) (walking (reversed_by (setting_of b) ps) (setting_of b) ps shown) (F out into)
      (walking (reversed_by (setting_of b') ((out, into) ∷ ps)) (setting_of b') ((out, into) ∷ ps) (shown + 1))
  forward_goes ps shown room = subst (Goes (board_net b) (walking (reversed_by (setting_of b) ps) (setting_of b) ps shown) (F out into))
      (sym (ap₂ (λ start T. walking start T ((out, into) ∷ ps) (shown + 1)) (ap (λ S. reversed_by S ps) taken_back) setting_after))
      (forward ne room x.in_service x.was_open x.on_loop)

pub room_left : (c : Course) → false ≡ leb (board_net c.board).bars (length (pending_of c.pending) + 1) → length (pending_of c.pending) + 1 < (board_net c.board).bars
room_left c e = leb-false (board_net c.board).bars (length (pending_of c.pending) + 1) (sym e)

module _ (c : Course) (out into : ℕ) (ne : out ≢ into) (room : length (pending_of c.pending) + 1 < (board_net c.board).bars) where
  pub forward_taken : (c' : Course) → ExchangedBy c.board out into c'.board → pending_of c'.pending ≡ (out, into) ∷ pending_of c.pending → c'.shown ≡ c.shown + 1
      → TakenOn c.board.switches.site (course_place c) (F out into) (Walking c')
  forward_taken c' x pushed more = record {
    same_site = x.same_site;
    goes = subst (Goes (board_net c.board) (course_place c) (F out into)) (sym (ap₂ (λ ps n. walking (reversed_by (setting_of c'.board) ps) (setting_of c'.board) ps n) pushed more))
        (forward_goes c.board c'.board out into ne x (pending_of c.pending) c.shown room);
  }

  pub forward_refused : (at : ℕ) (f : BoardFault) → NoExchange c.board out into f → Refuses (board_net c.board) at (course_place c) (F out into) (OnBoard f at)
  forward_refused at (NotInService l) (e, unserved) = rw e (in_unserved ne room unserved)
  forward_refused at (NotOpen l) (e, served, closed) = rw e (in_closed ne room served closed)
  forward_refused at (OffLoop l) (e, off) = rw e (out_off_loop ne room off.in_service off.was_open off.off_loop)
  forward_refused at RowLength no_way = absurd no_way
  forward_refused at NotRadial no_way = absurd no_way
