-- Every link is open: the exchanges begin at once where the net has one bar.
use Rattle.std.proofs.Common.{cond, ◌≡◌, ℕ, zero, suc, ◌+◌, true, false, length, get_or, replicate, is_ok, Ok, Err, Result, sym, refl, ap, ◌∙◌, subst, ap₂, arith}
use Rattle.std.proofs.lemmas.List.{length-replicate}
use Rattle.std.proofs.lemmas.List.Folds.{sum_by-replicate}
use Rattle.faults.specs.declared.BoardFault.{BoardFault}
use Rattle.net.specs.Nets.{nth, Net, infeed}
use Rattle.net.specs.Settings.{closed_links, here, Radial}
use Rattle.net.proofs.Settings.{not_both}
use Rattle.survey.specs.declared.surveyed.Surveyed.{Surveyed}
use Rattle.survey.specs.Answers.{net_of}
use Rattle.flood.specs.declared.switches.Switches.{Switches}
use Rattle.flood.specs.Marked.{switched}
use Rattle.board.proofs.Decided.{radial_of}
use Rattle.stream.specs.Records.{N}
use Rattle.replay.specs.declared.player.Player.{Player}
use Rattle.replay.specs.Places.{unopened, all_open, begun, Goes, opens}
use Rattle.replay.specs.Taking.{BegunBy, Begins, TakenOn}

get_d_open : (n i : ℕ) → get_or (replicate n false) i false ≡ false
get_d_open zero i = refl
get_d_open (suc n) zero = refl
get_d_open (suc n) (suc i) = get_d_open n i

nth_open : (n l : ℕ) → nth (replicate n false) l false ≡ false
nth_open n zero = refl
nth_open n (suc i) = get_d_open n i

count_open : (n : ℕ) → closed_links (replicate n false) ≡ 0
count_open n = omega (arith, sum_by-replicate (λ b. cond b 1 0) n false)

-- one bar needs no link
open_radial : (net : Net) → 0 + 1 ≡ net.bars → Radial net (all_open net)
open_radial net one = record {
  one_a_link = length-replicate (length net.links) false;
  in_service = λ l closed. absurd (not_both closed (nth_open (length net.links) l));
  one_fewer = omega (arith, count_open (length net.links));
  all_reached = λ b (lo, hi). let e : b ≡ infeed net = omega arith in rw e here;
}

-- switches all of which are open
module _ (site : Surveyed) (s : Switches) (same : s.site ≡ site) (none : switched s ≡ all_open (net_of site)) where
  pub opens_ok : (o : Result Player BoardFault) → Begins s.site (switched s) 0 o → is_ok o ≡ true
  opens_ok (Ok p) b = refl
  opens_ok (Err f) b = absurd (b.not_radial (radial_of same none (open_radial (net_of site) (omega (arith, b.all, ap (λ s. (net_of s).bars) same)))))

  pub opens_taken : (bars links : ℕ) (p : Player) → bars ≡ (net_of site).bars → links ≡ length (net_of site).links → BegunBy s.site (switched s) 0 p → TakenOn site unopened (N bars links) p
  opens_taken bars links p same-bars same_links b = record {
    same_site = b.same_site ∙ same;
    goes = subst (Goes (net_of site) unopened (N bars links)) (sym (b.place ∙ ap₂ (λ s T. begun (net_of s) T 0) same none)) (opens same-bars same_links);
  }
