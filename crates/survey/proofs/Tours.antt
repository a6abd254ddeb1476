-- The depth-first tour: what a visit keeps, and so what the whole tour is.
use Rattle.std.proofs.Common.{◌≡◌, ℕ, zero, suc, ◌+◌, ◌-◌, ◌<◌, ◌≤◌, ◌⊎◌, List, [], ◌∷◌, ◌++◌, length, Some, None, fold, Option, sym, refl, ap, ◌∙◌, inl, inr, append_assoc, append-nil, arith}
use native.Mathlib.Decide.{ℕ_discrete, dec_le}
use Rattle.std.specs.List.{range_with_len}
use Rattle.std.proofs.lemmas.List.{length_push, length-append}
use Rattle.std.proofs.ByRecursion.{All-from_get_or}
use Rattle.std.proofs.lemmas.Bool.{eq-eqb, ne_eqb}
use Rattle.net.specs.Nets.{nth, Net, ends_of, IsBar, infeed, Joins, forth, back}
use Rattle.net.specs.Settings.{Way, here, onward}
use Rattle.net.specs.Limits.{WithinLimits}
use Rattle.net.proofs.Numbered.{nth_append_left, nth_append_right}
use Rattle.net.proofs.Ways.{way_along, way_last}
use Rattle.net.proofs.Links.{joins_flip, joins_range, ends_bars, ends_apart, one_across}
use Rattle.survey.specs.Ranks.{rank_in}
use Rattle.survey.specs.Visits.{Tour, found, across, meet, follow, look, visit, only, tour}
use Rattle.survey.proofs.Ranked.{not_some_none, same_some, rank_place, rank_append, rank_push, rank_push_other, rank_later, NoRepeat, norepeat_push}
use Rattle.survey.proofs.Marked.{Within, missing_fits}

-- bar b was visited
abbrev pub Seen : Tour → ℕ → Type 0
Seen t b = (k : ℕ) × (rank_in t.order b ≡ Some k)

-- a later tour goes on from an earlier one
pub record Extends (t u : Tour) : Type 0 where
  pub bars : List ℕ
  pub links : List ℕ
  pub order : u.order ≡ t.order ++ bars
  pub starts : u.starts ≡ t.starts ++ links

pub extends_none : (t : Tour) → Extends t t
extends_none t = record { bars = []; links = []; order = sym (append-nil t.order); starts = sym (append-nil t.starts) }

pub extends_join : (t u v : Tour) → Extends t u → Extends u v → Extends t v
extends_join t u v p q = record {
  bars = p.bars ++ q.bars;
  links = p.links ++ q.links;
  order = q.order ∙ ap (λ (xs : List ℕ). xs ++ q.bars) p.order ∙ append_assoc t.order p.bars q.bars;
  starts = q.starts ∙ ap (λ (xs : List ℕ). xs ++ q.links) p.starts ∙ append_assoc t.starts p.links q.links;
}

pub extends_found : (t : Tour) (c l : ℕ) → Extends t (found t c l)
extends_found t c l = record { bars = c ∷ []; links = l ∷ []; order = refl; starts = refl }

pub extends_rank : (t u : Tour) (b k : ℕ) → Extends t u → rank_in t.order b ≡ Some k → rank_in u.order b ≡ Some k
extends_rank t u b k x e = rw x.order (rank_append t.order x.bars b k e)

pub extends_seen : (t u : Tour) (b : ℕ) → Extends t u → Seen t b → Seen u b
extends_seen t u b x (k, e) = (k, extends_rank t u b k x e)

pub extends_start : (t u : Tour) (k : ℕ) → Extends t u → k ≤ length t.starts → nth u.starts k 0 ≡ nth t.starts k 0
extends_start t u k x h = rw x.starts (nth_append_left t.starts x.links k 0 h)

extends_length : (t u : Tour) → Extends t u → length t.order ≤ length u.order
extends_length t u x = rw (x.order, length-append t.order x.bars) (omega arith)

module _ (net : Net) where
  -- start link j joins bar p to bar c, whose rank is one more
  abbrev pub Down : Tour → ℕ → ℕ → Type 0
  Down t p c = (j : ℕ) × (1 ≤ j) × (rank_in t.order c ≡ Some (suc j)) × Joins net (nth t.starts j 0) p c

  -- bar a is bar b or an ancestor of it
  abbrev pub Above : Tour → ℕ → ℕ → Type 0
  Above t a b = Way (Down t) a b

  -- what a tour is at any time
  pub record Grown (t : Tour) : Type 0 where
    pub longer : length t.order ≡ suc (length t.starts)
    pub first : nth t.order 1 0 ≡ infeed net
    pub bars : (k : ℕ) → 1 ≤ k → k ≤ length t.order → IsBar net (nth t.order k 0)
    pub once : NoRepeat t.order
    pub links : (k : ℕ) → 1 ≤ k → k ≤ length t.starts
        → (p : ℕ) × (j : ℕ) × (j ≤ k) × (rank_in t.order p ≡ Some j) × Joins net (nth t.starts k 0) p (nth t.order (suc k) 0)

  -- every link from bar x leads to a visited bar
  abbrev pub Done : Tour → ℕ → Type 0
  Done t x = (l c : ℕ) → Joins net l x c → Seen t c

  -- of the bars of a link, where both were visited, one is above the other
  abbrev pub Related : Tour → Type 0
  Related t = (l a b : ℕ) → Joins net l a b → Seen t a → Seen t b → Above t a b ⊎ Above t b a

  -- what holds while bar b is visited: a visited bar is done with, or above b
  pub record Standing (b : ℕ) (t : Tour) : Type 0 where
    pub grown : Grown t
    pub related : Related t
    pub open_above : (x : ℕ) → Seen t x → Done t x ⊎ Above t x b
    pub at : Seen t b

  -- a longer tour has the same bars above each other
  above_extends : (t u : Tour) → Grown t → Extends t u → {a b : ℕ} → Above t a b → Above u a b
  above_extends t u g x w = way_along (λ p c r. onward here (down p c r)) w
    where
      down : (p c : ℕ) → Down t p c → Down u p c
      down p c (j, j1, e, jn) =
          let (_, hi, _) = rank_place t.order c (suc j) e in
          let lg = g.longer in
          (j, j1, extends_rank t u c (suc j) x e, rw (extends_start t u j x (omega arith)) jn)

  done_extends : (t u : Tour) (x : ℕ) → Extends t u → Done t x → Done u x
  done_extends t u x e d l c j = extends_seen t u c e (d l c j)

  -- the bar that a link leads to from bar b
  pub across_some : (l b c : ℕ) → across (ends_of net l) b ≡ Some c → Joins net l b c
  across_some l b c h = go (ends_of net l) refl h
    where
      go : (o : Option (ℕ × ℕ)) → ends_of net l ≡ o → across o b ≡ Some c → Joins net l b c
      go None e q = absurd (not_some_none q refl)
      go (Some (x, y)) e q = elim (ℕ_discrete x b) [
        | yes p ↦
            let z : y ≡ c = same_some (rw (eq-eqb x b p)) q in
            forth (e ∙ ap (λ n. Some (n, y)) p ∙ ap (λ n. Some (b, n)) z)
        | no ne ↦ elim (ℕ_discrete y b) [
          | yes p ↦
              let z : x ≡ c = same_some (rw (ne_eqb x b ne, eq-eqb y b p)) q in
              back (e ∙ ap (λ n. Some (n, y)) z ∙ ap (λ n. Some (c, n)) p)
          | no nf ↦ absurd (not_some_none q (rw (ne_eqb x b ne, ne_eqb y b nf)))
        ]
      ]

  pub across_none : (l b c : ℕ) → across (ends_of net l) b ≡ None → ¬ Joins net l b c
  across_none l b c h (forth e) = not_some_none {x = c} (ap (λ o. across o b) e ∙ rw (eq-eqb b b refl)) h
  across_none l b c h (back e) = elim (ℕ_discrete c b) [
    | yes p ↦ not_some_none {x = b} (ap (λ o. across o b) e ∙ rw (eq-eqb c b p)) h
    | no ne ↦ not_some_none {x = c} (ap (λ o. across o b) e ∙ rw (ne_eqb c b ne, eq-eqb b b refl)) h
  ]

  module _ (fit : WithinLimits net) where
    -- an unvisited bar is come to over a link from bar b
    module _ (b c l : ℕ) (t : Tour) (st : Standing b t) (jn : Joins net l b c) (new : rank_in t.order c ≡ None) where
      last : rank_in (found t c l).order c ≡ Some (suc (length t.order))
      last = rank_push t.order c new

      start_last : nth (found t c l).starts (length t.order) 0 ≡ l
      start_last =
          let lg = st.grown.longer in
          let z : length t.order - length t.starts ≡ 1 = omega arith in
          nth_append_right t.starts (l ∷ []) (length t.starts) (length t.order) 0 refl (omega arith)
          ∙ ap (λ k. nth (l ∷ []) k 0) z

      -- b stands right above c
      below_b : Down (found t c l) b c
      below_b =
          let (k, e) = st.at in
          let (lo, hi, _) = rank_place t.order b k e in
          (length t.order, omega arith, last, rw start_last jn)

      seen_found : (x : ℕ) → Seen (found t c l) x → (x ≡ c) ⊎ Seen t x
      seen_found x (k, e) = elim (ℕ_discrete x c) [
        | yes p ↦ inl p
        | no ne ↦ inr (k, sym (rank_push_other t.order x c ne) ∙ e)
      ]

      grown_found : Grown (found t c l)
      grown_found = record {
        longer = let lg = st.grown.longer in omega (arith, length_push t.order c, length_push t.starts l);
        first = nth_append_left t.order (c ∷ []) 1 0 (omega (arith, st.grown.longer)) ∙ st.grown.first;
        bars = bars';
        once = norepeat_push t.order c st.grown.once new;
        links = links';
      }
        where
          bars' : (k : ℕ) → 1 ≤ k → k ≤ length (found t c l).order → IsBar net (nth (found t c l).order k 0)
          bars' k lo hi = elim (dec_le k (length t.order)) [
            | yes h ↦ rw (nth_append_left t.order (c ∷ []) k 0 h) (st.grown.bars k lo h)
            | no h ↦
                let z : k - length t.order ≡ 1 = omega (arith, length_push t.order c) in
                let e : nth (found t c l).order k 0 ≡ c = nth_append_right t.order (c ∷ []) (length t.order) k 0 refl (omega arith) ∙ ap (λ j. nth (c ∷ []) j 0) z in
                rw e (ends_bars net fit jn).1
          ]

          links' : (k : ℕ) → 1 ≤ k → k ≤ length (found t c l).starts
              → (p : ℕ) × (j : ℕ) × (j ≤ k) × (rank_in (found t c l).order p ≡ Some j) × Joins net (nth (found t c l).starts k 0) p (nth (found t c l).order (suc k) 0)
          links' k lo hi = elim (dec_le k (length t.starts)) [
            | yes h ↦
                let (p, j, jk, e, jp) = st.grown.links k lo h in
                let lg = st.grown.longer in (
                  p,
                  j,
                  jk,
                  rank_append t.order (c ∷ []) p j e,
                  rw (nth_append_left t.starts (l ∷ []) k 0 h, nth_append_left t.order (c ∷ []) (suc k) 0 (omega arith)) jp,
                )
            | no h ↦
                let lg = st.grown.longer in
                let (j, e) = st.at in
                let (_, jh, _) = rank_place t.order b j e in
                let z : k ≡ length t.order = omega (arith, length_push t.starts l) in
                let q : nth (found t c l).order (suc (length t.order)) 0 ≡ c = (rank_place (found t c l).order c (suc (length t.order)) last).2 in
                (b, j, omega arith, rank_append t.order (c ∷ []) b j e, rw (z, start_last, q) jn)
          ]

      ext : Extends t (found t c l)
      ext = extends_found t c l

      standing_found : Standing c (found t c l)
      standing_found = record {
        grown = grown_found;
        related = related';
        open_above = open';
        at = (suc (length t.order), last);
      }
        where
          -- a visited bar that is joined to c is not done with, so it is above b
          above_c : (m x : ℕ) → Joins net m x c → Seen t x → Above (found t c l) x c
          above_c m x jx s = elim (st.open_above x s) [
            | inl d ↦ absurd (not_some_none (d m c jx).1 new)
            | inr w ↦ onward (above_extends t (found t c l) st.grown ext w) below_b
          ]

          related' : Related (found t c l)
          related' m x y jm sx sy = elim (seen_found x sx) [
            | inl p ↦ elim (seen_found y sy) [
              | inl q ↦ absurd (ends_apart net fit jm (p ∙ sym q))
              | inr s ↦ inr (rw p (above_c m y (rw p at (joins_flip net jm)) s))
            ]
            | inr r ↦ elim (seen_found y sy) [
              | inl q ↦ inl (rw q (above_c m x (rw q at jm) r))
              | inr s ↦ elim (st.related m x y jm r s) [
                | inl w ↦ inl (above_extends t (found t c l) st.grown ext w)
                | inr w ↦ inr (above_extends t (found t c l) st.grown ext w)
              ]
            ]
          ]

          open' : (x : ℕ) → Seen (found t c l) x → Done (found t c l) x ⊎ Above (found t c l) x c
          open' x s = elim (seen_found x s) [
            | inl p ↦ inr (rw p here)
            | inr r ↦ elim (st.open_above x r) [
              | inl d ↦ inl (done_extends t (found t c l) x ext d)
              | inr w ↦ inr (onward (above_extends t (found t c l) st.grown ext w) below_b)
            ]
          ]

      -- there was room for one bar more
      room : length t.order < net.bars
      room = missing_fits net.bars t.order st.grown.once
          (All-from_get_or (Within net.bars) t.order 0 (λ i h. st.grown.bars (suc i) (omega arith) (omega arith)))
          c (ends_bars net fit jn).1 new

    -- what the visit of bar b makes of tour t
    pub record Visited (b : ℕ) (t u : Tour) : Type 0 where
      pub standing : Standing b u
      pub extends : Extends t u
      pub done : Done u b

    -- what a look at link l from bar b makes of it
    record Looked (b l : ℕ) (t u : Tour) : Type 0 where
      standing : Standing b u
      extends : Extends t u
      leads : (c : ℕ) → Joins net l b c → Seen u c

    -- after the visit of c, to which link l leads from b, what is not done with is above b
    looked : (b c l : ℕ) (t u : Tour) → Standing b t → Joins net l b c → rank_in t.order c ≡ None → Visited c (found t c l) u → Looked b l t u
    looked b c l t u st jn new v = record {
      standing = record {
        grown = v.standing.grown;
        related = v.standing.related;
        open_above = above_b;
        at = extends_seen t u b whole st.at;
      };
      extends = whole;
      leads = λ d jd. rw (one_across net fit jn jd) v.standing.at;
    }
      where
        whole : Extends t u
        whole = extends_join t (found t c l) u (extends_found t c l) v.extends

        parent : (p : ℕ) → Down u p c → p ≡ b
        parent p (j, j1, e, jp) =
            let (i, i1, d, ji) = below_b b c l t st jn new in
            let same : suc j ≡ suc i = same_some e (extends_rank (found t c l) u c (suc i) v.extends d) in
            let z : j ≡ i = omega arith in
            let hi : i ≤ length (found t c l).starts = omega (arith, rank_place (found t c l).order c (suc i) d, (grown_found b c l t st jn new).longer) in
            let q : Joins net (nth (found t c l).starts i 0) p c = rw (z, extends_start (found t c l) u i v.extends hi) at jp in
            one_across net fit (joins_flip net ji) (joins_flip net q)

        above_b : (x : ℕ) → Seen u x → Done u x ⊎ Above u x b
        above_b x s = elim (v.standing.open_above x s) [
          | inl d ↦ inl d
          | inr w ↦ elim (way_last w) [
            | inl e ↦ inl (rw e v.done)
            | inr (p, w', dn) ↦ inr (rw (parent p dn) at w')
          ]
        ]

    -- with n visits deep enough for the bars that are left
    abbrev Enough : ℕ → Type 0
    Enough n = (c : ℕ) (t : Tour) → Standing c t → net.bars - length t.order < n → Visited c t (visit n net c t)

    look_step : (n b l : ℕ) (t : Tour) → Enough n → Standing b t → net.bars - length t.order ≤ n → Looked b l t (look (visit n net) net b t l)
    look_step n b l t enough st left = by (across (ends_of net l) b) refl
      where
        stays : ((c : ℕ) → Joins net l b c → Seen t c) → Looked b l t t
        stays f = record { standing = st; extends = extends_none t; leads = f }

        fresh : (c : ℕ) → Joins net l b c → (o : Option ℕ) → rank_in t.order c ≡ o → Looked b l t (meet (visit n net) t l c o)
        fresh c jn (Some k) e = stays (λ d jd. rw (one_across net fit jn jd) (k, e))
        fresh c jn None e =
            looked b c l t (visit n net c (found t c l)) st jn e
            (enough c (found t c l) (standing_found b c l t st jn e) (omega (arith, room b c l t st jn e, length_push t.order c)))

        by : (o : Option ℕ) → across (ends_of net l) b ≡ o → Looked b l t (follow (visit n net) t l o)
        by None e = stays (λ d jd. absurd (across_none l b d e jd))
        by (Some c) e = fresh c (across_some l b c e) (rank_in t.order c) refl

    -- what looks at the links a to a + k - 1 make of it
    record Through (b a k : ℕ) (t u : Tour) : Type 0 where
      standing : Standing b u
      extends : Extends t u
      leads : (l c : ℕ) → a ≤ l → l < a + k → Joins net l b c → Seen u c

    through_more : (b a k : ℕ) (t u v : Tour) → Looked b a t u → Through b (a + 1) k u v → Through b a (suc k) t v
    through_more b a k t u v lk r = record {
      standing = r.standing;
      extends = extends_join t u v lk.extends r.extends;
      leads = λ l c lo hi j. elim (ℕ_discrete l a) [
        | yes e ↦ extends_seen u v c r.extends (lk.leads c (rw e at j))
        | no ne ↦ r.leads l c (omega arith) (omega arith) j
      ];
    }

    through : (n b a k : ℕ) (t : Tour) → Enough n → Standing b t → net.bars - length t.order ≤ n
        → Through b a k t (fold (look (visit n net) net b) t (range_with_len a k))
    through n b a zero t enough st left = record { standing = st; extends = extends_none t; leads = λ l c lo hi j. absurd (omega arith) }
    through n b a (suc k) t enough st left =
        let u = look (visit n net) net b t a in
        let lk = look_step n b a t enough st left in
        let le = extends_length t u lk.extends in
        through_more b a k t u (fold (look (visit n net) net b) u (range_with_len (a + 1) k)) lk
        (through n b (a + 1) k u enough lk.standing (omega arith))

    visited : (n b : ℕ) (t : Tour) → Enough n → Standing b t → net.bars - length t.order ≤ n → Visited b t (visit (suc n) net b t)
    visited n b t enough st left =
        let r = through n b 1 (length net.links) t enough st left in
        record {
          standing = r.standing;
          extends = r.extends;
          done = λ l c j. let (lo, hi) = joins_range net j in r.leads l c lo (omega arith) j;
        }

    pub enough : (n : ℕ) → Enough n
    enough zero c t st left = absurd (omega arith)
    enough (suc n) c t st left = visited n c t (enough n) st (omega arith)

    only_infeed : (x : ℕ) → Seen (only (infeed net)) x → x ≡ infeed net
    only_infeed x (k, e) = elim (ℕ_discrete x (infeed net)) [
      | yes p ↦ p
      | no ne ↦ absurd (not_some_none e (rank_later x (infeed net) [] ne))
    ]

    -- before the first look
    standing_only : Standing (infeed net) (only (infeed net))
    standing_only = record {
      grown = record {
        longer = refl;
        first = refl;
        bars = bars';
        once = (refl, tt);
        links = λ k lo hi. absurd (omega arith);
      };
      related = λ l a b j sa sb. absurd (ends_apart net fit j (only_infeed a sa ∙ sym (only_infeed b sb)));
      open_above = λ x s. inr (rw (only_infeed x s) here);
      at = (1, refl);
    }
      where
        bars' : (k : ℕ) → 1 ≤ k → k ≤ 1 → IsBar net (nth (infeed net ∷ []) k 0)
        bars' zero lo hi = absurd (omega arith)
        bars' (suc zero) lo hi = (omega arith, fit.few_bars.0)
        bars' (suc (suc k)) lo hi = absurd (omega arith)

    -- the whole tour
    pub toured : Visited (infeed net) (only (infeed net)) (tour net)
    toured = enough 32 (infeed net) (only (infeed net)) standing_only (let h = fit.few_bars in omega arith)

    -- nothing is above the infeed, so every visited bar is done with
    pub all_done : (x : ℕ) → Seen (tour net) x → Done (tour net) x
    all_done x s = elim (toured.standing.open_above x s) [
      | inl d ↦ d
      | inr w ↦ elim (way_last w) [
        | inl e ↦ rw e toured.done
        | inr (p, _, (j, j1, e, _)) ↦
            let z : suc j ≡ 1 = same_some e (extends_rank (only (infeed net)) (tour net) (infeed net) 1 toured.extends refl) in
            absurd (omega arith)
      ]
    ]
