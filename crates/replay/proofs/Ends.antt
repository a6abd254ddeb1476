-- The end is taken where all is reversed and as many settings were shown.
use Rattle.std.proofs.Common.{◌≡◌, ℕ, true, false, ◌&&◌, eqb, length, sym, ap, subst}
use Rattle.std.proofs.lemmas.List.{nil_from_length}
use Rattle.std.proofs.lemmas.Bool.{both_ways, eqb-true, eq-eqb, and_parts, and_from}
use Rattle.board.specs.Boards.{board_net, setting_of}
use Rattle.stream.specs.Records.{Z}
use Rattle.replay.specs.declared.player.Course.{Course}
use Rattle.replay.specs.Places.{walking, ended, Goes, ends}
use Rattle.replay.specs.Refusals.{Refuses, ends_not}
use Rattle.replay.specs.Pending.{pending_of}
use Rattle.replay.specs.Reversals.{reversed_by}
use Rattle.replay.specs.Players.{course_place}
use Rattle.faults.specs.declared.ReplayFault.TheVariants.{WrongEnd}

module _ (c : Course) (n : ℕ) where
  pub end_goes : true ≡ (eqb (length (pending_of c.pending)) 0 && eqb n c.shown) → Goes (board_net c.board) (course_place c) (Z n) (ended (setting_of c.board) c.shown)
  end_goes e =
      let net = board_net c.board in
      let T = setting_of c.board in
      let (none, same) = and_parts (eqb (length (pending_of c.pending)) 0) (eqb n c.shown) (sym e) in
      let empty = nil_from_length (pending_of c.pending) (eqb-true (length (pending_of c.pending)) 0 none) in
      subst (λ k. Goes net (course_place c) (Z k) (ended T c.shown)) (sym (eqb-true n c.shown same))
      (subst (λ p. Goes net p (Z c.shown) (ended T c.shown)) (sym (ap (λ ps. walking (reversed_by T ps) T ps c.shown) empty)) ends)

  pub end_refused : (at : ℕ) → false ≡ (eqb (length (pending_of c.pending)) 0 && eqb n c.shown) → Refuses (board_net c.board) at (course_place c) (Z n) (WrongEnd at)
  end_refused at e = ends_not (λ (empty, same). both_ways (eqb (length (pending_of c.pending)) 0 && eqb n c.shown) (sym e)
      (and_from (eqb (length (pending_of c.pending)) 0) (eqb n c.shown) (eq-eqb (length (pending_of c.pending)) 0 (ap length empty)) (eq-eqb n c.shown same)))
