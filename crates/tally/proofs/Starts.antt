-- The start: its links come first by rank, and its counts.
use Rattle.std.proofs.Common.{◌≡◌, ℕ, ◌<◌, ◌≤◌, Bool, true, false, ltb, length, Option, Some, None, MatchOption, sym, ◌∙◌, inl, inr, arith}
use native.Mathlib.Decide.{dec_le}
use Rattle.std.specs.List.{range_with_len}
use Rattle.std.proofs.lemmas.List.FromFn.{length-map-range_with_len}
use Rattle.std.proofs.lemmas.Bool.{lt-ltb, le-ltb}
use Rattle.net.specs.Nets.{nth, Net}
use Rattle.net.specs.Settings.{Closed}
use Rattle.net.proofs.Numbered.{nth_append_left, nth_made}
use Rattle.net.proofs.Settings.{closed_or_open}
use Rattle.survey.specs.declared.surveyed.Surveyed.{Surveyed}
use Rattle.survey.specs.Ranks.{rank_in}
use Rattle.survey.specs.Visits.{tour}
use Rattle.survey.specs.Surveys.{start_links, start_setting, others, link_order}
use Rattle.survey.specs.Answers.{net_of}
use Rattle.survey.proofs.Ranked.{not_some_none, same_some, rank_place, rank_append}
use Rattle.survey.proofs.Reached.{start_closes, start_only}
use Rattle.survey.proofs.Whole.{surveyed_fits, surveyed_starts}
use Rattle.collectors.specs.Links.{IsNumber}
use Rattle.tally.specs.Counts.{start_count, start_counts, counts_to}
use Rattle.tally.proofs.Bounds.{counts_to_start}

module _ (s : Surveyed) (l : ℕ) where
  -- a closed link has the rank of a start link among all links
  closed_rank : Closed (start_setting (net_of s)) l → (k : ℕ) × (rank_in (link_order (net_of s)) l ≡ Some k) × (k < (net_of s).bars)
  closed_rank c =
      let net = net_of s in
      let (k, e) = start_only net (surveyed_fits s) l c in
      let (_, hi, _) = rank_place (start_links net) l k e in
      (k, rank_append (start_links net) (others net (tour net)) l k e, omega (arith, surveyed_starts s))

  -- and a link of such a rank is closed
  rank_closed : (k : ℕ) → rank_in (link_order (net_of s)) l ≡ Some k → k < (net_of s).bars → Closed (start_setting (net_of s)) l
  rank_closed k e h =
      let net = net_of s in
      let (lo, _, q) = rank_place (link_order net) l k e in
      let hi : k ≤ length (start_links net) = omega (arith, surveyed_starts s) in
      let p = sym (nth_append_left (start_links net) (others net (tour net)) k 0 hi) ∙ q in
      rw p at (start_closes net (surveyed_fits s) k lo hi)

  start_ranked : (k : ℕ) → rank_in (link_order (net_of s)) l ≡ Some k → ltb k (net_of s).bars ≡ nth (start_setting (net_of s)) l false
  start_ranked k e = elim (dec_le (net_of s).bars k) [
    | yes h ↦ elim (closed_or_open (nth (start_setting (net_of s)) l false)) [
      | inl c ↦ let (j, q, lt) = closed_rank c in let z = same_some q e in absurd (omega arith)
      | inr o ↦ le-ltb k (net_of s).bars h ∙ sym o
    ]
    | no h ↦ lt-ltb k (net_of s).bars (omega arith) ∙ sym (rank_closed k e (omega arith))
  ]

  start_unranked : rank_in (link_order (net_of s)) l ≡ None → nth (start_setting (net_of s)) l false ≡ false
  start_unranked e = elim (closed_or_open (nth (start_setting (net_of s)) l false)) [
    | inl c ↦ let (j, q, _) = closed_rank c in absurd (not_some_none q e)
    | inr o ↦ o
  ]

  pub start_by_rank : (r : Option ℕ) (b : Bool) → r ≡ rank_in (link_order (net_of s)) l
      → MatchOption r (b ≡ false) (λ k. b ≡ ltb k (net_of s).bars) → b ≡ nth (start_setting (net_of s)) l false
  start_by_rank None b e h = h ∙ sym (start_unranked (sym e))
  start_by_rank (Some k) b e h = h ∙ start_ranked k (sym e)

-- the counts at the start: 60 of them, by number, and none more than 1
pub start_long : (net : Net) → length (start_counts net) ≡ 60
unfolding start_counts
start_long net = length-map-range_with_len (start_count net) 1 60

pub start_nth : (net : Net) (l : ℕ) → IsNumber l → nth (start_counts net) l (false, 0) ≡ start_count net l
unfolding start_counts
start_nth net l (lo, hi) = nth_made (start_count net) 60 l (false, 0) lo hi

pub start_counts_to : (net : Net) → counts_to 1 (start_counts net) ≡ true
unfolding start_counts
start_counts_to net = counts_to_start net (range_with_len 1 60)
