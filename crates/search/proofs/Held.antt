-- What the tables of a search hold is what the rules ask for.
use Rattle.std.proofs.Common.{◌≡◌, ℕ, zero, suc, ◌+◌, ◌-◌, ◌<◌, ◌≤◌, min, Bool, true, false, cond, not, ◌&&◌, eqb, List, map, length, get_or, take, Some, None, inl, inr, MatchBool, MatchOption, Option, sym, refl, ap, ◌∙◌, ap₂, arith}
use native.Mathlib.Decide.{dec_le}
use Rattle.std.proofs.lemmas.List.{get_or-map, get_or-take, length-take-le}
use Rattle.std.proofs.lemmas.List.FromFn.{get_or-map-range_with_len}
use Rattle.net.specs.Nets.{nth, Net, ends_of, Joins}
use Rattle.net.specs.Settings.{Setting}
use Rattle.net.specs.Limits.{WithinLimits}
use Rattle.net.proofs.Numbered.{nth_first, nth_past}
use Rattle.net.proofs.Links.{joins_range}
use Rattle.net.proofs.Settings.{not_both}
use Rattle.survey.specs.Surveys.{start_setting, link_order, AllReached}
use Rattle.survey.proofs.Others.{links_few}
use Rattle.survey.proofs.Whole.{surveyed_fits, surveyed_reached}
use Rattle.trees.specs.Rules.{start_link_of}
use Rattle.trees.specs.Listings.{crosses, enters}
use Rattle.trees.proofs.Ranks.{start_up}
use Rattle.flood.specs.declared.marks.Marks.{Marks}
use Rattle.search.specs.declared.state.Search.{Search}
use Rattle.search.specs.Descents.{link_at, descends, EntersAt, NextEntering, LinksOf, last_move}
use Rattle.flood.specs.Marked.{fed_in}
use Rattle.search.specs.Frames.{stacked, fed_without, start_feds, start_feds_in}
use Rattle.search.specs.States.{net_in, descent_of, setting_of, ceiling_of}
use Rattle.search.proofs.Depths.{descent_length, test_enters, enters_test}

-- the top of a stack
pub last_top : {A : Type 0} (f : A → ℕ × ℕ) (xs : List A) (n m : ℕ) (d : A) (e : ℕ × ℕ) → n ≡ suc m → n ≤ length xs → Some (f (get_or xs m d)) ≡ last_move (stacked e (map f xs) n)
last_top f xs n m d e deep h = rw deep (ap Some (sym (get_or-map f xs m d e (omega arith))))

-- only the marks on bars count
crosses_first : (n : ℕ) (M : List Bool) (o : Option (ℕ × ℕ)) → ((a b : ℕ) → o ≡ Some (a, b) → (a ≤ n) × (b ≤ n)) → crosses M o ≡ crosses (take n M) o
crosses_first n M None h = refl
crosses_first n M (Some (a, b)) h =
    let (ha, hb) = h a b refl in
    ap₂ (λ x y. cond x (not y) y) (sym (nth_first M n a false ha)) (sym (nth_first M n b false hb))

module _ (net : Net) (fit : WithinLimits net) (all : AllReached net) where
  -- a link that enters, and the link that leaves for it, are there
  pub entered_links : (T : Setting) (k r : ℕ) → EntersAt net T k r → (1 ≤ start_link_of net k) × (1 ≤ link_at net r)
  entered_links T k r (sk, en) =
      let (_, _, _, _, up) = start_up net fit all k sk in
      ((joins_range net up).0, (joins_range net en.in_cut.joins).0)

  -- past the ranks of the links nothing enters
  pub none_enters : (T : Setting) (k r : ℕ) → length net.links < r → ¬ EntersAt net T k r
  none_enters T k r h (sk, en) = no en.in_cut.joins
    where
      z : link_at net r ≡ 0
      z = nth_past (link_order net) r 0 (omega (arith, links_few net fit all, h))

      no : {a b : ℕ} → ¬ Joins net (link_at net r) a b
      no j = omega (arith, z, joins_range net j)

-- the bars fed at the start, by rank
pub start_fed_at : (net : Net) (ms : List (Marks 32)) (k : ℕ) (d : Marks 32) → start_feds_in net ms ≡ start_feds net → 1 ≤ k → k < net.bars → net.bars - 1 ≤ length ms
    → fed_in net (get_or ms (k - 1) d) ≡ fed_without net (start_setting net) k
start_fed_at net ms k d e lo hi len =
    ap (fed_in net) (sym (get_or-take (net.bars - 1) ms (k - 1) d (omega arith)))
    ∙ sym (get_or-map (fed_in net) (take (net.bars - 1) ms) (k - 1) d (fed_in net d) (omega (arith, length-take-le (net.bars - 1) ms len)))
    ∙ ap (λ Ms. get_or Ms (k - 1) (fed_in net d)) e
    ∙ get_or-map-range_with_len (fed_without net (start_setting net)) 1 (net.bars - 1) (k - 1) k (fed_in net d) (omega arith) (omega arith)

-- a link is in the cuts that the tables hold
pub cuts_held : (s : Search) (g : ℕ) (d : Marks 32) → 1 ≤ s.ceiling
    → (crosses s.fed.marked (ends_of (net_in s) g) && crosses (get_or s.starts (s.ceiling - 1) d).marked (ends_of (net_in s) g))
    ≡ (crosses (fed_without (net_in s) (setting_of s) s.ceiling) (ends_of (net_in s) g) && crosses (fed_without (net_in s) (start_setting (net_in s)) s.ceiling) (ends_of (net_in s) g))
cuts_held s g d lo =
    let fit = surveyed_fits s.switches.site in
    ap₂ ◌&&◌
    (cut s.fed.marked (s.here lo))
    (cut (get_or s.starts (s.ceiling - 1) d).marked
    (start_fed_at (net_in s) s.starts s.ceiling d s.begun lo (omega (arith, descent_length (net_in s) (descent_of s) s.ceiling s.down)) (omega (arith, fit.few_bars, s.room))))
  where
    cut : (M : List Bool) {N : List Bool} → take (net_in s).bars M ≡ N → crosses M (ends_of (net_in s) g) ≡ crosses N (ends_of (net_in s) g)
    cut M e =
        crosses_first (net_in s).bars M (ends_of (net_in s) g) (λ a b q. let (p, p') = (surveyed_fits s.switches.site).ends_are_bars g a b q in (p.1, p'.1))
        ∙ ap (λ N. crosses N (ends_of (net_in s) g)) e

-- the test as it is made
search_test : (s : Search) (r e g : ℕ) (free cut : Bool) → LinksOf (net_in s) s.ceiling r (Some (e, g))
    → free ≡ (not (nth (setting_of s) g false) && not (eqb g e))
    → cut ≡ (crosses (fed_without (net_in s) (setting_of s) s.ceiling) (ends_of (net_in s) g) && crosses (fed_without (net_in s) (start_setting (net_in s)) s.ceiling) (ends_of (net_in s) g))
    → (free && cut) ≡ enters (net_in s) (setting_of s) s.ceiling (link_at (net_in s) r)
search_test s r e g free cut (le, lg, e1, g1) ef ec =
    ap₂ ◌&&◌ ef ec
    ∙ ap₂ (λ l k. (not (nth (setting_of s) l false) && not (eqb l k)) && (crosses (fed_without (net_in s) (setting_of s) s.ceiling) (ends_of (net_in s) l)
    && crosses (fed_without (net_in s) (start_setting (net_in s)) s.ceiling) (ends_of (net_in s) l))) lg le

-- a rank that has a link is above 0
pub ceiling_there : (s : Search) (r e g : ℕ) → LinksOf (net_in s) s.ceiling r (Some (e, g)) → 1 ≤ s.ceiling
ceiling_there s r e g (le, lg, e1, g1) = by s.ceiling le
  where
    by : (k : ℕ) → e ≡ start_link_of (net_in s) k → 1 ≤ k
    by zero q = absurd (omega (arith, q, e1))
    by (suc k) q = omega arith

-- what the test answers
pub search_decides : (s : Search) (r e g : ℕ) (free cut : Bool) → LinksOf (net_in s) s.ceiling r (Some (e, g))
    → free ≡ (not (nth (setting_of s) g false) && not (eqb g e))
    → cut ≡ (crosses (fed_without (net_in s) (setting_of s) s.ceiling) (ends_of (net_in s) g) && crosses (fed_without (net_in s) (start_setting (net_in s)) s.ceiling) (ends_of (net_in s) g))
    → MatchBool (free && cut) (EntersAt (net_in s) (setting_of s) s.ceiling r) (¬ EntersAt (net_in s) (setting_of s) s.ceiling r)
search_decides s r e g free cut there ef ec = by (free && cut) (search_test s r e g free cut there ef ec)
  where
    by : (b : Bool) → b ≡ enters (net_in s) (setting_of s) s.ceiling (link_at (net_in s) r)
        → MatchBool b (EntersAt (net_in s) (setting_of s) s.ceiling r) (¬ EntersAt (net_in s) (setting_of s) s.ceiling r)
    by true q = test_enters (net_in s) (surveyed_fits s.switches.site) (surveyed_reached s.switches.site) (descent_of s) s.ceiling r s.down (ceiling_there s r e g there) (sym q)
    by false q = λ at. not_both (enters_test (net_in s) (surveyed_fits s.switches.site) (surveyed_reached s.switches.site) (descent_of s) s.ceiling r s.down at) (sym q)

-- where a rank has no link nothing enters
pub search_none : (s : Search) (r : ℕ) → LinksOf (net_in s) s.ceiling r None → ¬ EntersAt (net_in s) (setting_of s) s.ceiling r
search_none s r none at =
    let (lo, hi) = entered_links (net_in s) (surveyed_fits s.switches.site) (surveyed_reached s.switches.site) (setting_of s) s.ceiling r at in
    elim none [ inl z ↦ omega (arith, lo, z) | inr z ↦ omega (arith, hi, z) ]

-- a search stands below the descent that it came by
pub search_descends : (s : Search) → descends (net_in s) (descent_of s) (ceiling_of s) ≡ true
search_descends s = s.down

pub search_fits : (s : Search) → WithinLimits (net_in s)
search_fits s = surveyed_fits s.switches.site

pub search_reached : (s : Search) → AllReached (net_in s)
search_reached s = surveyed_reached s.switches.site

-- the first link found that enters is the next one above a rank
pub first_enters : (s : Search) (above most from past : ℕ) (o : Option ℕ) → from ≡ min (above + 1) most → 61 ≤ most → past ≡ length (net_in s).links + 1
    → MatchOption o ((q : ℕ) → from ≤ q → q < past → ¬ EntersAt (net_in s) (setting_of s) s.ceiling q)
    (λ r. (from ≤ r) × (r < past) × EntersAt (net_in s) (setting_of s) s.ceiling r × ((q : ℕ) → from ≤ q → q < r → ¬ EntersAt (net_in s) (setting_of s) s.ceiling q))
    → NextEntering (net_in s) (setting_of s) s.ceiling above o
first_enters s above most from past (Some r) ef em ep (lo, hi, at, none) =
    (omega (arith, (surveyed_fits s.switches.site).few_links), at, λ q l h. none q (omega (arith, (surveyed_fits s.switches.site).few_links)) h)
first_enters s above most from past None ef em ep none = λ q l at. elim (dec_le q (length (net_in s).links)) [
  | yes h ↦ none q (omega arith) (omega arith) at
  | no m ↦ none_enters (net_in s) (surveyed_fits s.switches.site) (surveyed_reached s.switches.site) (setting_of s) s.ceiling q (omega arith) at
]
