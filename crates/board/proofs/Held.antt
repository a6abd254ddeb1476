-- Switches and marks, and what they hold of a net.
use Rattle.std.proofs.Common.{◌≡◌, ℕ, suc, ◌+◌, ◌<◌, ◌≤◌, Bool, true, false, cond, List, [], ◌∷◌, length, get_or, fold, count_by, Decides, sym, refl, ap, ◌∙◌, arith}
use Rattle.std.specs.List.{filter, range_with_len}
use Rattle.std.proofs.lemmas.List.Sums.{length-filter}
use Rattle.net.specs.Nets.{nth, Net, IsBar, infeed}
use Rattle.net.specs.Settings.{Setting, closed_links, Reach}
use Rattle.net.proofs.Numbered.{nth_first}
use Rattle.survey.specs.declared.surveyed.Surveyed.{Surveyed}
use Rattle.survey.specs.Answers.{net_of}
use Rattle.survey.proofs.Whole.{surveyed_fits}
use Rattle.trees.specs.Listings.{fed}
use Rattle.trees.proofs.Floods.{marked_reached, reached_marked}
use Rattle.flood.specs.declared.marks.Marks.{Marks}
use Rattle.flood.specs.Marked.{fed_in}

fed_nth : (net : Net) (T : Setting) (m : Marks 32) (b : ℕ) → fed_in net m ≡ fed net T → b ≤ net.bars → nth m.marked b false ≡ nth (fed net T) b false
fed_nth net T m b e h = sym (nth_first m.marked net.bars b false h) ∙ ap (λ M. nth M b false) e

-- a list counted by its numbers
counted : (p : ℕ → Bool) (T : List Bool) (a n : ℕ) → ((i : ℕ) → i < length T → p (a + i) ≡ get_or T i false)
    → fold (λ k x. k + cond (p x) 1 0) n (range_with_len a (length T)) ≡ fold (λ k c. k + cond c 1 0) n T
counted p [] a n h = refl
counted p (c ∷ T) a n h =
    let e : a + 0 ≡ a = omega arith in
    ap (λ c. fold (λ k x. k + cond (p x) 1 0) (n + cond c 1 0) (range_with_len (a + 1) (length T))) (rw e at (h 0 (omega arith)))
    ∙ counted p T (a + 1) (n + cond c 1 0) (λ i l. let f : a + 1 + i ≡ a + suc i = omega arith in rw f (h (suc i) (omega arith)))

pub count_closed : (T : Setting) (n : ℕ) → length T ≡ n → length (filter (λ l. nth T l false) (range_with_len 1 n)) ≡ closed_links T
count_closed T n e =
    length-filter (λ l. nth T l false) (range_with_len 1 n) ∙ ap (λ n. count_by (λ l. nth T l false) (range_with_len 1 n)) (sym e)
    ∙ counted (λ l. nth T l false) T 1 0 (λ i _. let f : 1 + i ≡ suc i = omega arith in rw f refl)

-- marks on every bar tell that every bar is reached
pub fed_tells : (site : Surveyed) (T : Setting) (m : Marks 32) (r : Bool) → fed_in (net_of site) m ≡ fed (net_of site) T
    → Decides r ((b : ℕ) → 1 ≤ b → b ≤ (net_of site).bars → nth m.marked b false ≡ true)
    → Decides r ((b : ℕ) → IsBar (net_of site) b → Reach (net_of site) T (infeed (net_of site)) b)
fed_tells site T m r e (yes', no') =
    let net = net_of site in
    let fit = surveyed_fits site in (
      λ h b (lo, hi). marked_reached net fit T b (sym (fed_nth net T m b e hi) ∙ yes' h b lo hi),
      λ f. no' (λ b lo hi. fed_nth net T m b e hi ∙ reached_marked net fit T b (f b (lo, hi))),
    )
