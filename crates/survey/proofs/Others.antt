-- The ranks of links: the start links, then the others by the lower rank of their bars and their own numbers.
use Rattle.std.proofs.Common.{◌≡◌, ℕ, suc, ◌-◌, ◌<◌, ◌≤◌, Bool, true, not, ◌&&◌, eqb, ◌≢◌, List, length, is_some, Some, None, filter, Option, unwrap_or, sym, refl, ap, ◌∙◌, inl, inr, arith}
use Rattle.std.specs.List.{range_with_len}
use Rattle.std.proofs.ByRecursion.{All-from_get_or}
use Rattle.std.proofs.lemmas.List.{length-append}
use Rattle.std.proofs.lemmas.Bool.{and_parts, and_from, eqb-true, eq-eqb}
use Rattle.net.specs.Nets.{nth, Net, ends_of, IsBar, Joins, forth, back, InService}
use Rattle.net.specs.Limits.{WithinLimits}
use Rattle.net.proofs.Numbered.{nth_append_right}
use Rattle.net.proofs.Links.{joins_range, joins_served, ends_bars}
use Rattle.net.specs.Members.{Member, Rising}
use Rattle.net.proofs.Members.{member_append, member_left, member_right, member_joined, joined_member, member_kept, kept_member, member_counting, counting_member, member_nth, rising_append, rising_joined, rising_kept, rising_counting, rising_as, rising_nth, rising_from}
use Rattle.survey.specs.Ranks.{rank_in, Ranks}
use Rattle.survey.specs.Visits.{Tour, tour}
use Rattle.survey.specs.Surveys.{bar_order, start_links, lower_rank_of, others_at, others, link_order, AllReached, Sooner}
use Rattle.survey.proofs.Ranked.{some_or_none, not_some_none, rank_place, rank_member, member_rank, NoRepeat, norepeat_rank, norepeat_from}
use Rattle.survey.proofs.Marked.{Within, norepeat_fits}
use Rattle.survey.proofs.Tours.{Grown, toured}
use Rattle.survey.proofs.Reached.{starts_apart, reached_seen, all_reached_full}

module _ (net : Net) where
  -- the test that link l is ranked among the others with lower rank k
  abbrev pub ranks_at : Tour → ℕ → ℕ → Bool
  ranks_at t k l = eqb (lower_rank_of t.order (ends_of net l)) k && not (is_some (rank_in t.starts l))

  not_start : (xs : List ℕ) (l : ℕ) → not (is_some (rank_in xs l)) ≡ true → rank_in xs l ≡ None
  not_start xs l h = by (rank_in xs l) h
    where
      by : (o : Option ℕ) → not (is_some o) ≡ true → o ≡ None
      by None e = refl
      by (Some k) e = let z : ◌≡◌ {A = ℕ} 0 1 = cc in absurd (omega arith)

  -- what it is to be one of the others
  pub record Other (t : Tour) (l : ℕ) : Type 0 where
    pub low : 1 ≤ lower_rank_of t.order (ends_of net l)
    pub high : lower_rank_of t.order (ends_of net l) ≤ net.bars
    pub number : (1 ≤ l) × (l ≤ length net.links)
    pub no_start : rank_in t.starts l ≡ None

  pub member_others : (t : Tour) (l : ℕ) → Member l (others net t) → Other t l
  member_others t l m =
      let (k, mk, ml) = member_joined (others_at net t) l (range_with_len 1 net.bars) m in
      let hk = member_counting 1 net.bars k mk in
      let (mc, p) = member_kept (ranks_at t k) l (range_with_len 1 (length net.links)) ml in
      let hl = member_counting 1 (length net.links) l mc in
      let (e, s) = and_parts (eqb (lower_rank_of t.order (ends_of net l)) k) (not (is_some (rank_in t.starts l))) p in
      let q = eqb-true (lower_rank_of t.order (ends_of net l)) k e in
      record { low = omega arith; high = omega arith; number = omega arith; no_start = not_start t.starts l s }

  others_member : (t : Tour) (l : ℕ) → Other t l → Member l (others net t)
  others_member t l o =
      let k = lower_rank_of t.order (ends_of net l) in
      let lo = o.low in
      let hi = o.high in
      let n = o.number in
      joined_member (others_at net t) l k (range_with_len 1 net.bars)
      (counting_member 1 net.bars k lo (omega arith))
      (kept_member (ranks_at t k) l (range_with_len 1 (length net.links)) (counting_member 1 (length net.links) l n.0 (omega arith))
      (and_from (eqb k k) (not (is_some (rank_in t.starts l))) (eq-eqb k k refl) (ap (λ r. not (is_some r)) o.no_start)))

  pub lower_kept : (t : Tour) (k l : ℕ) → Member l (others_at net t k) → lower_rank_of t.order (ends_of net l) ≡ k
  lower_kept t k l m =
      let (_, p) = member_kept (ranks_at t k) l (range_with_len 1 (length net.links)) m in
      eqb-true (lower_rank_of t.order (ends_of net l)) k (and_parts (eqb (lower_rank_of t.order (ends_of net l)) k) (not (is_some (rank_in t.starts l))) p).0

  -- the others are sorted
  pub others_rise : Rising (Sooner net) (others net (tour net))
  others_rise = rising_joined ◌<◌ (Sooner net) (others_at net (tour net)) (range_with_len 1 net.bars)
      (rising_counting 1 net.bars)
      (λ k. rising_as ◌<◌ (Sooner net) (filter (ranks_at (tour net) k) (range_with_len 1 (length net.links)))
      (λ x y mx my lt. inr (lower_kept (tour net) k x mx ∙ sym (lower_kept (tour net) k y my), lt))
      (rising_kept ◌<◌ (ranks_at (tour net) k) (range_with_len 1 (length net.links)) (rising_counting 1 (length net.links))))
      (λ j k lt x y mx my. inl (omega (arith, lower_kept (tour net) j x mx, lower_kept (tour net) k y my)))

  sooner_apart : (l m : ℕ) → Sooner net l m → l ≢ m
  sooner_apart l m (inl h) e = let z = ap (λ x. lower_rank_of (bar_order net) (ends_of net x)) e in omega arith
  sooner_apart l m (inr h) e = omega arith

  -- a link out of service has no lower rank
  lower_served : (l : ℕ) → 1 ≤ lower_rank_of (bar_order net) (ends_of net l) → InService net l
  lower_served l h = by (ends_of net l) refl h
    where
      by : (o : Option (ℕ × ℕ)) → ends_of net l ≡ o → 1 ≤ lower_rank_of (bar_order net) o → InService net l
      by None e h = absurd (omega arith)
      by (Some (a, b)) e h = (a, b, forth e)

  module _ (fit : WithinLimits net) (all : AllReached net) where
    -- a bar has a rank of 1 to the number of bars
    bar_rank : (b : ℕ) → IsBar net b → (1 ≤ unwrap_or (rank_in (bar_order net) b) 0) × (unwrap_or (rank_in (bar_order net) b) 0 ≤ net.bars)
    bar_rank b isb =
        let (k, e) = reached_seen net fit b (all b isb) in
        let (lo, hi, _) = rank_place (bar_order net) b k e in
        let full = all_reached_full net fit all in
        rw e (omega arith)

    -- a link in service has a lower rank
    served_lower : (l : ℕ) → InService net l → (1 ≤ lower_rank_of (bar_order net) (ends_of net l)) × (lower_rank_of (bar_order net) (ends_of net l) ≤ net.bars)
    served_lower l (a, b, j) = by j (ends_bars net fit j)
      where
        lower : (x y : ℕ) → IsBar net x → IsBar net y → (1 ≤ lower_rank_of (bar_order net) (Some (x, y))) × (lower_rank_of (bar_order net) (Some (x, y)) ≤ net.bars)
        lower x y p q = let u = bar_rank x p in let v = bar_rank y q in omega arith

        by : Joins net l a b → IsBar net a × IsBar net b → (1 ≤ lower_rank_of (bar_order net) (ends_of net l)) × (lower_rank_of (bar_order net) (ends_of net l) ≤ net.bars)
        by (forth e) (p, q) = rw e (lower a b p q)
        by (back e) (p, q) = rw e (lower b a q p)

    grown : Grown net (tour net)
    grown = (toured net fit).standing.grown

    start_served : (l : ℕ) → Member l (start_links net) → InService net l
    start_served l m =
        let (k, e) = member_rank (start_links net) l m in
        let (lo, hi, q) = rank_place (start_links net) l k e in
        let (_, _, _, _, jn) = grown.links k lo hi in
        rw q at (joins_served net jn)

    pub member_served : (l : ℕ) → Member l (link_order net) → InService net l
    member_served l m = elim (member_append l (start_links net) (others net (tour net)) m) [
      | inl p ↦ start_served l p
      | inr p ↦ lower_served l (member_others (tour net) l p).low
    ]

    pub served_member : (l : ℕ) → InService net l → Member l (link_order net)
    served_member l s = elim (some_or_none (rank_in (start_links net) l)) [
      | inl (k, e) ↦ member_left l (start_links net) (others net (tour net)) (rank_member (start_links net) l k e)
      | inr e ↦
          let (lo, hi) = served_lower l s in
          member_right l (start_links net) (others net (tour net))
          (others_member (tour net) l (record { low = lo; high = hi; number = joins_range net s.2; no_start = e }))
    ]

    -- no link is ranked twice
    pub links_once : NoRepeat (link_order net)
    links_once = norepeat_from (link_order net) (rising_nth ◌≢◌ (link_order net) (rising_append ◌≢◌ (start_links net) (others net (tour net))
        starts (rising_as (Sooner net) ◌≢◌ (others net (tour net)) (λ x y _ _ s. sooner_apart x y s) others_rise)
        (λ x y mx my e. let (k, r) = member_rank (start_links net) y (rw e at mx) in not_some_none r (member_others (tour net) y my).no_start)))
      where
        starts : Rising ◌≢◌ (start_links net)
        starts = rising_from ◌≢◌ (start_links net) (starts_apart net fit)

    pub links_ranked : Ranks (InService net) (link_order net)
    links_ranked = record {
      each_ranked = λ l s. member_rank (link_order net) l (served_member l s);
      no_other = λ k lo hi. member_served (nth (link_order net) k 0) (member_nth (link_order net) k lo hi);
      one_rank = norepeat_rank (link_order net) links_once;
    }

    -- no more ranks than links
    pub links_few : length (link_order net) ≤ length net.links
    links_few = norepeat_fits (length net.links) (link_order net) links_once (All-from_get_or (Within (length net.links)) (link_order net) 0
        (λ i h. joins_range net (links_ranked.no_other (suc i) (omega arith) (omega arith)).2))

    pub others_sorted : (j k : ℕ) → net.bars ≤ j → j < k → k ≤ length (link_order net) → Sooner net (nth (link_order net) j 0) (nth (link_order net) k 0)
    others_sorted j k jb lt hi =
        let lg = grown.longer in
        let full = all_reached_full net fit all in
        let n = length (start_links net) in
        let ej = nth_append_right (start_links net) (others net (tour net)) n j 0 refl (omega arith) in
        let ek = nth_append_right (start_links net) (others net (tour net)) n k 0 refl (omega arith) in
        rw (ej, ek) (rising_nth (Sooner net) (others net (tour net)) others_rise (j - n) (k - n) (omega arith) (omega arith)
        (omega (arith, length-append (start_links net) (others net (tour net)))))
