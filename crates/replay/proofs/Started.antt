-- A record of the starting set is taken, or not.
use Rattle.std.proofs.Common.{◌≡◌, ℕ, suc, ◌+◌, Ok, Err, Result, sym, ap, ◌∙◌, subst, ap₂, arith}
use Rattle.faults.specs.declared.BoardFault.{BoardFault}
use Rattle.faults.specs.declared.BoardFault.TheVariants.{RowLength, NotInService, NotOpen, OffLoop, NotRadial}
use Rattle.faults.specs.declared.ReplayFault.TheVariants.{OnBoard}
use Rattle.net.specs.Nets.{Net, InService}
use Rattle.net.specs.Settings.{Setting, Closed, closing}
use Rattle.survey.specs.Answers.{net_of}
use Rattle.flood.specs.declared.switches.Switches.{Switches}
use Rattle.flood.specs.Marked.{switched}
use Rattle.flood.specs.Closing.{NotClosable}
use Rattle.board.proofs.Decided.{radial_of}
use Rattle.stream.specs.Records.{S}
use Rattle.replay.specs.declared.player.Player.{Player}
use Rattle.replay.specs.Places.{starting, begun, Goes, starts}
use Rattle.replay.specs.Refusals.{Refuses, start_unserved, start_closed, starts_no_radial}
use Rattle.replay.specs.Taking.{Begins, TakesOnBoard}

module _ (s s' : Switches) (count l : ℕ) (served : InService (net_of s.site) l) (is_open : ¬ Closed (switched s) l) (same : s'.site ≡ s.site) (closed : switched s' ≡ closing (switched s) l) where
  next : count + 1 ≡ suc count
  next = omega arith

  pub start_taken : (o : Result Player BoardFault) → Begins s'.site (switched s') (count + 1) o → TakesOnBoard s.site (starting (switched s) count) (S l) o
  start_taken (Ok q) b = record {
    same_site = b.same_site ∙ same;
    goes = subst (Goes (net_of s.site) (starting (switched s) count) (S l)) (sym (b.place ∙ ap (λ k. begun (net_of s'.site) (switched s') k) next ∙ ap₂ (λ s T. begun (net_of s) T (suc count)) same closed))
        (starts served is_open (λ all. radial_of (sym same) (sym closed) (b.radial (omega (arith, ap (λ s. (net_of s).bars) same)))));
  }
  start_taken (Err f) b = λ at.
      subst (λ f. Refuses (net_of s.site) at (starting (switched s) count) (S l) (OnBoard f at)) (sym b.fault)
      (starts_no_radial served is_open (omega (arith, b.all, ap (λ s. (net_of s).bars) same)) (λ r. b.not_radial (radial_of same closed r)))

-- a link that may not be closed is refused
pub not_closable : (net : Net) (T : Setting) (count l : ℕ) (f : BoardFault) → NotClosable net T l f → (at : ℕ) → Refuses net at (starting T count) (S l) (OnBoard f at)
not_closable net T count l (NotInService k) (e, unserved) at = rw e (start_unserved unserved)
not_closable net T count l (NotOpen k) (e, served, closed) at = rw e (start_closed served closed)
not_closable net T count l RowLength no_way at = absurd no_way
not_closable net T count l (OffLoop k) no_way at = absurd no_way
not_closable net T count l NotRadial no_way at = absurd no_way
