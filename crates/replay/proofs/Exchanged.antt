-- A link closed and a loop split: one link exchanged for another.
use Rattle.std.proofs.Common.{◌≡◌, ℕ, Ok, Result, MatchResult, sym, refl, ap, ◌∙◌, subst, ap₂}
use Rattle.std.specs.Result.{IsErrAnd}
use Rattle.std.proofs.lemmas.Result.{MatchResult-weaker}
use Rattle.faults.specs.declared.BoardFault.{BoardFault}
use Rattle.faults.specs.declared.BoardFault.TheVariants.{OffLoop}
use Rattle.net.specs.Settings.{closing, opening, Radial}
use Rattle.survey.specs.Answers.{net_of}
use Rattle.trees.specs.Cuts.{InLoop}
use Rattle.board.specs.declared.boards.Board.{Board}
use Rattle.board.specs.declared.boards.Looped.{Looped}
use Rattle.board.specs.Boards.{board_net, setting_of, looped_net, looped_setting, setting_before}
use Rattle.board.specs.Switching.{ClosedBy, SplitAt, NoSplit, Splits}
use Rattle.replay.specs.Exchanges.{ExchangedBy, OffTheLoop, NoExchange, Exchanges}
use Rattle.replay.proofs.Errors.{mapped}

module _ (b : Board) (s : Looped) (out into : ℕ) (closed : ClosedBy b into s) where
  same_net : looped_net s ≡ board_net b
  same_net = ap net_of closed.same_site

  same_loop : InLoop (looped_net s) (setting_before s) s.link out ≡ InLoop (board_net b) (setting_of b) into out
  same_loop = ap (λ net. InLoop net (setting_before s) s.link out) same_net ∙ ap₂ (λ T g. InLoop (board_net b) T g out) closed.before closed.last

  same_split : opening (looped_setting s) out ≡ opening (closing (setting_of b) into) out
  same_split = ap (λ T. opening T out) closed.setting

  same_radial : Radial (looped_net s) (opening (looped_setting s) out) ≡ Radial (board_net b) (opening (closing (setting_of b) into) out)
  same_radial = ap₂ Radial same_net same_split

  pub split_exchanged : (b' : Board) → SplitAt s out b' → ExchangedBy b out into b'
  split_exchanged b' split = record {
    in_service = closed.in_service;
    was_open = closed.was_open;
    on_loop = subst (λ P. P) same_loop split.on_loop;
    same_site = split.same_site ∙ closed.same_site;
    setting = split.setting ∙ same_split;
  }

  pub split_off_loop : NoSplit s out → OffTheLoop b out into
  split_off_loop no-split = record {
    in_service = closed.in_service;
    was_open = closed.was_open;
    off_loop = subst (λ P. ¬ P) same_loop no-split.off_loop;
    not_radial = subst (λ P. ¬ P) same_radial no-split.not_radial;
  }

  -- what the split answers, without the board that it hands back
  pub exchanged : {made : Board × BoardFault → BoardFault → Type 0} (o : Result Board (Board × BoardFault)) (r : Result Board BoardFault)
      → MatchResult o (λ x. r ≡ Ok x) (λ e. IsErrAnd r (made e)) → Splits s out o → ((e : Board × BoardFault) (f : BoardFault) → made e f → f ≡ e.1) → Exchanges b out into r
  exchanged o r is split same = mapped (ExchangedBy b out into) (λ e. (e.1 ≡ OffLoop out) × NoSplit s out) (NoExchange b out into) o r is
      (MatchResult-weaker o split (λ b' on. split_exchanged b' on) (λ e (undone, fault, off). (fault, off)))
      (λ e f (fault, off) m. subst (NoExchange b out into) (sym (same e f m ∙ fault)) (refl, split_off_loop off))
