-- The tour visits just the bars that are reached, and where these are all, its start links are a radial setting.
use Rattle.std.proofs.Common.{◌≡◌, ℕ, zero, suc, ◌<◌, ◌≤◌, false, ◌≢◌, length, replicate, Some, ◌∙◌, inl, inr, arith}
use Rattle.std.specs.List.{AllByRecursion}
use Rattle.std.proofs.lemmas.List.{length-replicate}
use Rattle.std.proofs.ByRecursion.{All-from_get_or}
use Rattle.net.specs.Nets.{nth, Net, IsBar, infeed, InService}
use Rattle.net.specs.Settings.{Setting, Closed, every_closed, here, onward, Reach, Radial}
use Rattle.net.specs.Limits.{WithinLimits}
use Rattle.net.proofs.Ways.{way_keeps}
use Rattle.net.proofs.Links.{joins_served, joins_range, same_ends}
use Rattle.net.proofs.Settings.{not_both, all_closed, reach_more}
use Rattle.survey.specs.Ranks.{rank_in}
use Rattle.survey.specs.Visits.{tour}
use Rattle.survey.specs.Surveys.{bar_order, start_links, start_setting, AllReached}
use Rattle.survey.proofs.Ranked.{same_some, rank_place, NoRepeat, norepeat_rank, norepeat_from}
use Rattle.survey.proofs.Marked.{Within, marked_in, marked_only, length_marked, open_everywhere, row_count, ranks_full, full_ranks}
use Rattle.survey.proofs.Tours.{Seen, Grown, toured, all_done}

module _ (net : Net) (fit : WithinLimits net) where
  grown : Grown net (tour net)
  grown = (toured net fit).standing.grown

  -- a setting that holds every start link reaches each visited bar, by induction on its rank
  fed_rank : (T : Setting) → ((k : ℕ) → 1 ≤ k → k ≤ length (start_links net) → Closed T (nth (start_links net) k 0))
      → (n k : ℕ) → k ≤ n → 1 ≤ k → k ≤ length (bar_order net) → Reach net T (infeed net) (nth (bar_order net) k 0)
  fed_rank T has zero k kn lo hi = absurd (omega arith)
  fed_rank T has (suc n) zero kn lo hi = absurd (omega arith)
  fed_rank T has (suc n) (suc zero) kn lo hi = rw grown.first here
  fed_rank T has (suc n) (suc (suc k)) kn lo hi =
      let lg = grown.longer in
      let (p, j, jk, e, jn) = grown.links (suc k) (omega arith) (omega arith) in
      let (j1, jh, q) = rank_place (bar_order net) p j e in
      let w : Reach net T (infeed net) p = rw q at (fed_rank T has n j (omega arith) j1 jh) in
      onward w (record { over = nth (start_links net) (suc k) 0; closed = has (suc k) (omega arith) (omega arith); joins = jn })

  fed : (T : Setting) → ((k : ℕ) → 1 ≤ k → k ≤ length (start_links net) → Closed T (nth (start_links net) k 0))
      → (b : ℕ) → Seen (tour net) b → Reach net T (infeed net) b
  fed T has b (k, e) =
      let (lo, hi, q) = rank_place (bar_order net) b k e in
      rw q at (fed_rank T has k k (omega arith) lo hi)

  -- what is visited is reached, and the other way round
  pub seen_reached : (b : ℕ) → Seen (tour net) b → Reach net (every_closed net) (infeed net) b
  seen_reached = fed (every_closed net) (λ k lo hi. let (p, _, _, _, jn) = grown.links k lo hi in all_closed net jn)

  pub reached_seen : (b : ℕ) → Reach net (every_closed net) (infeed net) b → Seen (tour net) b
  reached_seen b w = way_keeps (Seen (tour net)) (λ x y r s. all_done net fit x s r.over y r.joins) w (toured net fit).standing.at

  bars_within : AllByRecursion (Within net.bars) (bar_order net)
  bars_within = All-from_get_or (Within net.bars) (bar_order net) 0 (λ i h. grown.bars (suc i) (omega arith) (omega arith))

  -- all bars are reached exactly when there are as many ranks as bars
  pub all_reached_full : AllReached net → length (bar_order net) ≡ net.bars
  all_reached_full all = ranks_full net.bars (bar_order net) grown.once bars_within (λ b isb. reached_seen b (all b isb))

  pub full_all_reached : length (bar_order net) ≡ net.bars → AllReached net
  full_all_reached full b isb = seen_reached b (full_ranks net.bars (bar_order net) grown.once bars_within full b isb)

  -- a radial setting reaches every bar, so there is none where a bar is not reached
  pub unreached_none : (b : ℕ) → IsBar net b → ¬ Reach net (every_closed net) (infeed net) b → (T : Setting) → ¬ Radial net T
  unreached_none b isb no_way T rad = no_way (reach_more net T (every_closed net) closed (rad.all_reached b isb))
    where
      closed : (l : ℕ) → Closed T l → Closed (every_closed net) l
      closed l c = let (x, y, jn) = rad.in_service l c in all_closed net jn

  -- no start link is found twice: it is the last of its bar, and of no bar after it
  pub starts_apart : (j k : ℕ) → 1 ≤ j → j < k → k ≤ length (start_links net) → nth (start_links net) j 0 ≢ nth (start_links net) k 0
  starts_apart j k lo lt hi same =
      let lg = grown.longer in
      let (p, i, ij, ei, jp) = grown.links j lo (omega arith) in
      let (q, m, mk, em, jq) = grown.links k (omega arith) hi in
      let rj = norepeat_rank (bar_order net) grown.once (suc j) (omega arith) (omega arith) in
      let rk = norepeat_rank (bar_order net) grown.once (suc k) (omega arith) (omega arith) in
      elim (same_ends net jp (rw (← same) at jq)) [
        | inl (_, e) ↦ let z : suc k ≡ suc j = same_some (rw e at rk) rj in omega arith
        | inr (_, e) ↦ let z : suc k ≡ i = same_some (rw e at rk) ei in omega arith
      ]

  pub starts_once : NoRepeat (start_links net)
  starts_once = norepeat_from (start_links net) starts_apart

  -- start links have numbers of the net
  pub starts_within : AllByRecursion (Within (length net.links)) (start_links net)
  starts_within = All-from_get_or (Within (length net.links)) (start_links net) 0
      (λ i h. let (_, _, _, _, jn) = grown.links (suc i) (omega arith) (omega arith) in joins_range net jn)

  -- the start setting has just the start links closed
  pub start_closes : (k : ℕ) → 1 ≤ k → k ≤ length (start_links net) → Closed (start_setting net) (nth (start_links net) k 0)
  start_closes k lo hi =
      let (_, _, _, _, jn) = grown.links k lo hi in
      let (l1, lm) = joins_range net jn in
      marked_in (replicate (length net.links) false) (start_links net) (nth (start_links net) k 0) k l1
      (rw (length-replicate (length net.links) false) lm) (norepeat_rank (start_links net) starts_once k lo hi)

  pub start_only : (l : ℕ) → Closed (start_setting net) l → (k : ℕ) × (rank_in (start_links net) l ≡ Some k)
  start_only l c = elim (marked_only (replicate (length net.links) false) (start_links net) l c) [
    | inl h ↦ absurd (not_both h (open_everywhere (length net.links) l))
    | inr p ↦ p
  ]

  pub start_radial : AllReached net → Radial net (start_setting net)
  start_radial all = record {
    one_a_link = length_marked (replicate (length net.links) false) (start_links net) ∙ length-replicate (length net.links) false;
    in_service = λ l c. served l (start_only l c);
    one_fewer = omega (arith, row_count (length net.links) (start_links net) starts_once starts_within, grown.longer, all_reached_full all);
    all_reached = λ b isb. fed (start_setting net) start_closes b (reached_seen b (all b isb));
  }
    where
      served : (l : ℕ) → (k : ℕ) × (rank_in (start_links net) l ≡ Some k) → InService net l
      served l (k, e) =
          let (lo, hi, q) = rank_place (start_links net) l k e in
          let (_, _, _, _, jn) = grown.links k lo hi in
          rw q at (joins_served net jn)

  -- one bar more than start links
  pub longer : length (bar_order net) ≡ suc (length (start_links net))
  longer = grown.longer
