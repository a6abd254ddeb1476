-- The numbers of the records that a replay reads fit into their bytes.
use Rattle.std.proofs.Common.{◌≡◌, ℕ, suc, ◌+◌, ◌^◌, ◌<◌, ◌≤◌, true, false, eqb, List, [], ◌∷◌, ◌++◌, length, sym, ap, ◌∙◌, arith}
use native.Mathlib.Decide.{ℕ_discrete}
use Rattle.std.specs.List.{AllByRecursion}
use Rattle.std.proofs.lemmas.List.{length-replicate, length-append, flat_map_more}
use Rattle.std.proofs.lemmas.Bool.{cond_both}
use Rattle.net.specs.Nets.{Net, InService}
use Rattle.net.specs.Settings.{Setting, closing, opening}
use Rattle.net.specs.Limits.{WithinLimits}
use Rattle.net.proofs.Links.{joins_range}
use Rattle.net.proofs.Numbered.{length_put}
use Rattle.net.proofs.Settings.{closed_range}
use Rattle.survey.specs.Surveys.{AllReached}
use Rattle.trees.specs.Cuts.{InLoop, swapped}
use Rattle.trees.proofs.Loops.{loop_closed}
use Rattle.stream.specs.Records.{Record, N, S, F, B, Z, record_bytes, records_bytes}
use Rattle.stream.specs.Fronts.{Fitting}
use Rattle.replay.specs.Places.{Place, unopened, starting, walking, ended, all_open, begun, Goes, opens, starts, forward, back, ends, Comes, nothing, then}
use Rattle.replay.specs.Players.{shown_at}
use Rattle.replay.proofs.Reached.{goes_shown}

-- a setting has one mark a link, and exchanges are of links
abbrev Small : Net → Place → Type 0
Small net unopened = Unit {0}
Small net (starting T count) = length T ≡ length net.links
Small net (walking start T pending shown) = (length T ≡ length net.links) × AllByRecursion (λ x. (x.0 ≤ 60) × (x.1 ≤ 60)) pending
Small net (ended start shown) = Unit {0}

small_begun : (net : Net) (T : Setting) (count : ℕ) → length T ≡ length net.links → Small net (begun net T count)
small_begun net T count e = cond_both (eqb (count + 1) net.bars) (walking T T [] 1) (starting T count) (Small net) (λ _. (e, tt)) (λ _. e)

length_swapped : (T : Setting) (out into : ℕ) → length (swapped T out into) ≡ length T
length_swapped T out into = length_put (opening T out) into true ∙ length_put T out false

module _ (net : Net) (fit : WithinLimits net) (all : AllReached net) where
  served_small : (l : ℕ) → InService net l → l ≤ 60
  served_small l (a, b, j) = omega (arith, joins_range net j, fit.few_links)

  loop_small : (T : Setting) (out into : ℕ) → length T ≡ length net.links → InService net into → InLoop net T into out → out ≤ 60
  loop_small T out into e served on = elim (ℕ_discrete out into) [
    | yes p ↦ omega (arith, served_small into served)
    | no ne ↦ omega (arith, closed_range T out (loop_closed net fit all T out into ne on), fit.few_links)
  ]

  goes_small : {p q : Place} {r : Record} → Goes net p r q → Small net p → Small net q
  goes_small (opens same-bars same_links) s = small_begun net (all_open net) 0 (length-replicate (length net.links) false)
  goes_small (starts {T = T} {count = count} {l = l} served is_open radial) s = small_begun net (closing T l) (suc count) (length_put T l true ∙ s)
  goes_small (forward {T = T} {out = out} {into = into} ne room served is_open on_loop) (e, small) =
      (length_swapped T out into ∙ e, ((loop_small T out into e served on_loop, served_small into served), small))
  goes_small (back {T = T} {out = out} {into = into}) (e, (x, small)) = (length_swapped T out into ∙ e, small)
  goes_small ends s = tt

  goes_fits : {p q : Place} {r : Record} → Goes net p r q → Small net p → shown_at p < 2 ^ 64 → Fitting r
  goes_fits (opens same-bars same_links) s few = (omega (arith, fit.few_bars), omega (arith, fit.few_links))
  goes_fits (starts {l = l} served is_open radial) s few = omega (arith, served_small l served)
  goes_fits (forward {T = T} {out = out} {into = into} ne room served is_open on_loop) (e, small) few =
      (omega (arith, loop_small T out into e served on_loop), omega (arith, served_small into served))
  goes_fits back (e, ((a, b), small)) few = (omega arith, omega arith)
  goes_fits ends s few = few

  comes_small : {rs : List Record} {p : Place} → Comes net rs p → Small net p
  comes_small nothing = tt
  comes_small (then c g) = goes_small g (comes_small c)

  -- a record that is taken fits
  pub comes_fits : {rs : List Record} {p q : Place} {r : Record} → Comes net rs p → Goes net p r q → shown_at p < 2 ^ 64 → Fitting r
  comes_fits c g few = goes_fits g (comes_small c) few

-- no more settings are shown than there are bytes
some_bytes : (r : Record) → 1 ≤ length (record_bytes r)
some_bytes (N bars links) = omega arith
some_bytes (S l) = omega arith
some_bytes (F out into) = omega arith
some_bytes (B out into) = omega arith
some_bytes (Z n) = omega arith

pub bytes_more : (rs : List Record) (r : Record) → records_bytes (rs ++ (r ∷ [])) ≡ records_bytes rs ++ record_bytes r
bytes_more rs r = sym (flat_map_more record_bytes [] rs r)

pub comes_shown : {net : Net} {rs : List Record} {p : Place} → Comes net rs p → shown_at p ≤ length (records_bytes rs)
comes_shown nothing = omega arith
comes_shown (then {rs = rs} {r = r} c g) =
    omega (arith, comes_shown c, goes_shown g, some_bytes r, ap length (bytes_more rs r), length-append (records_bytes rs) (record_bytes r))
