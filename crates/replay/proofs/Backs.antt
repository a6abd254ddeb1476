-- A back exchange reverses the latest forward exchange.
use Rattle.std.proofs.Common.{◌≡◌, ℕ, true, List, ◌∷◌, is_ok, Ok, Err, Result, sym, refl, ap, ◌∙◌, subst, ap₂}
use mathlib.Core.HLevel.{⊥_prop}
use mathlib.Core.Logic.{∥∥₁_elim, ∥∥₁_map}
use Rattle.faults.specs.declared.BoardFault.{BoardFault}
use Rattle.faults.specs.declared.BoardFault.TheVariants.{RowLength, NotInService, NotOpen, OffLoop, NotRadial}
use Rattle.net.specs.Settings.{Radial}
use Rattle.survey.specs.Answers.{net_of}
use Rattle.trees.specs.Cuts.{swapped}
use Rattle.board.specs.declared.boards.Board.{Board}
use Rattle.board.specs.Boards.{board_net, setting_of}
use Rattle.stream.specs.Records.{B}
use Rattle.replay.specs.declared.player.Course.{Course}
use Rattle.replay.specs.declared.player.Player.TheVariants.{Walking}
use Rattle.replay.specs.Places.{walking, Goes, back}
use Rattle.replay.specs.Exchanges.{ExchangedBy, NoExchange, Exchanges}
use Rattle.replay.specs.Pending.{pending_of}
use Rattle.replay.specs.Reversals.{reversed_by, Reversible, CanReverse}
use Rattle.replay.specs.Players.{course_place}
use Rattle.replay.specs.Taking.{TakenOn}
use Rattle.replay.proofs.Forwards.{opened_swapped}

-- an exchange that can be reversed is never refused
never_refused : (b : Board) (out into : ℕ) → Reversible (board_net b) (setting_of b) into out → (f : BoardFault) → ¬ NoExchange b out into f
never_refused b out into can (NotInService l) (e, unserved) = unserved can.in_service
never_refused b out into can (NotOpen l) (e, served, closed) = can.is_open closed
never_refused b out into can (OffLoop l) (e, off) =
    off.not_radial (subst (Radial (board_net b)) (sym (opened_swapped (setting_of b) out into (λ e. can.different (sym e)))) can.radial)
never_refused b out into can RowLength no_way = no_way
never_refused b out into can NotRadial no_way = no_way

module _ (c : Course) (out into : ℕ) (ps : List (ℕ × ℕ)) (top : pending_of c.pending ≡ (into, out) ∷ ps) where
  can_reverse : ∥ CanReverse (board_net c.board) (setting_of c.board) ((into, out) ∷ ps) ∥₁
  can_reverse = subst (λ qs. ∥ CanReverse (board_net c.board) (setting_of c.board) qs ∥₁) top c.reversible

  pub back_ok : (o : Result Board BoardFault) → Exchanges c.board out into o → is_ok o ≡ true
  back_ok (Ok b') x = refl
  back_ok (Err f) x = absurd (∥∥₁_elim can_reverse ⊥_prop (λ can. never_refused c.board out into can.0 f x))

  module _ (b' : Board) (x : ExchangedBy c.board out into b') where
    setting_after : setting_of b' ≡ swapped (setting_of c.board) out into
    setting_after = x.setting ∙ opened_swapped (setting_of c.board) out into (λ e. ∥∥₁_elim can_reverse ⊥_prop (λ can. can.0.different (sym e)))

    pub back_reversible : ∥ CanReverse (board_net b') (setting_of b') ps ∥₁
    back_reversible = ∥∥₁_map can_reverse
        (λ can. subst (λ site. CanReverse (net_of site) (setting_of b') ps) (sym x.same_site) (subst (λ T. CanReverse (board_net c.board) T ps) (sym setting_after) can.1))

    back_goes : Goes (board_net c.board) (course_place c) (B out into) (walking (reversed_by (setting_of b') ps) (setting_of b') ps c.shown)
    back_goes =
        let net = board_net c.board in
        let T = setting_of c.board in
        let n = c.shown in
        subst (Goes net (course_place c) (B out into)) (sym (ap (λ S. walking (reversed_by S ps) S ps n) setting_after))
        (subst (λ p. Goes net p (B out into) (walking (reversed_by (swapped T out into) ps) (swapped T out into) ps n)) (sym (ap (λ qs. walking (reversed_by T qs) T qs n) top)) back)

  pub back_taken : (c' : Course) → ExchangedBy c.board out into c'.board → pending_of c'.pending ≡ ps → c'.shown ≡ c.shown
      → TakenOn c.board.switches.site (course_place c) (B out into) (Walking c')
  back_taken c' x popped same = record {
    same_site = x.same_site;
    goes = subst (Goes (board_net c.board) (course_place c) (B out into)) (sym (ap₂ (λ qs n. walking (reversed_by (setting_of c'.board) qs) (setting_of c'.board) qs n) popped same))
        (back_goes c'.board x);
  }
