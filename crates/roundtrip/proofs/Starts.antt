-- The head of the stream takes a replay to the start setting, and the whole stream to the end.
use Rattle.std.proofs.Common.{◌≡◌, ℕ, zero, suc, ◌+◌, ◌-◌, ◌<◌, true, false, cond, eqb, [], ◌∷◌, ◌++◌, map, length, take, replicate, sym, refl, ap, ◌∙◌, subst, inl, inr, append_assoc, append-nil, arith, eq-eqb}
use mathlib.Core.List.{map-append}
use Rattle.std.proofs.lemmas.List.{take_all, take_more, length-take}
use Rattle.std.proofs.lemmas.List.Sums.{fold_push}
use Rattle.std.proofs.lemmas.Bool.{ne_eqb}
use Rattle.net.specs.Nets.{Net}
use Rattle.net.specs.Settings.{Setting, Closed, closing, just_closed, Radial}
use Rattle.net.specs.Limits.{WithinLimits}
use Rattle.net.proofs.Numbered.{nth_first}
use Rattle.net.proofs.Settings.{not_both}
use Rattle.survey.specs.Surveys.{start_links, start_setting, AllReached}
use Rattle.survey.proofs.Marked.{marked_only, open_everywhere}
use Rattle.survey.proofs.Ranked.{rank_place}
use Rattle.survey.proofs.Reached.{all_reached_full, longer}
use Rattle.trees.specs.Rules.{start_link_of}
use Rattle.trees.specs.Listings.{listing, told_after}
use Rattle.trees.proofs.Ranks.{start_up, start_apart}
use Rattle.trees.proofs.Levels.{start_level}
use Rattle.trees.proofs.Events.{below, told_events}
use Rattle.stream.specs.Records.{N, S, Z, record_of_exchange}
use Rattle.replay.specs.Places.{starting, walking, ended, begun, Goes, opens, starts, ends, Comes, nothing, then}
use Rattle.roundtrip.specs.Packs.{settings_of, stream_records}
use Rattle.roundtrip.proofs.Shown.{show_events}

module _ (net : Net) (fit : WithinLimits net) (all : AllReached net) where
  pub count : length (start_links net) + 1 ≡ net.bars
  count = omega (arith, all_reached_full net fit all, longer net fit)

  -- the links closed so far
  abbrev closed_to : ℕ → Setting
  closed_to k = just_closed net (take k (start_links net))

  -- the next start link is open
  next_open : (k : ℕ) → suc k < net.bars → ¬ Closed (closed_to k) (start_link_of net (suc k))
  next_open k kV c = elim (marked_only (replicate (length net.links) false) (take k (start_links net)) (start_link_of net (suc k)) c) [
    | inl h ↦ not_both h (open_everywhere (length net.links) (start_link_of net (suc k)))
    | inr (j, e) ↦
        let (lo, hi, q) = rank_place (take k (start_links net)) (start_link_of net (suc k)) j e in
        let short = length-take k (start_links net) in
        let z = start_apart net fit all j (suc k) (lo, omega arith) (omega arith, kV) (sym (nth_first (start_links net) k j 0 (omega arith)) ∙ q) in
        omega arith
  ]

  -- one start link more
  closed_more : (k : ℕ) → suc k < net.bars → closing (closed_to k) (start_link_of net (suc k)) ≡ closed_to (suc k)
  closed_more k kV =
      sym (fold_push closing (replicate (length net.links) false) (take k (start_links net)) (start_link_of net (suc k)))
      ∙ ap (just_closed net) (sym (take_more (start_links net) k 0 (omega (arith, count))) ∙ ap (λ n. take n (start_links net)) next)
    where
      next : k + 1 ≡ suc k
      next = omega arith

  taken_more : (k : ℕ) → suc k < net.bars → map S (take k (start_links net)) ++ (S (start_link_of net (suc k)) ∷ []) ≡ map S (take (suc k) (start_links net))
  taken_more k kV =
      sym (map-append S (take k (start_links net)) (start_link_of net (suc k) ∷ []))
      ∙ ap (map S) (sym (take_more (start_links net) k 0 (omega (arith, count))) ∙ ap (λ n. take n (start_links net)) next)
    where
      next : k + 1 ≡ suc k
      next = omega arith

  last_radial : (k : ℕ) → suc k < net.bars → suc k + 1 ≡ net.bars → Radial net (closing (closed_to k) (start_link_of net (suc k)))
  last_radial k kV e = subst (Radial net) (sym (closed_more k kV ∙ ap (just_closed net) (take_all (suc k) (start_links net) (omega (arith, count))))) (start_level net fit all).radial

  head_comes : (k : ℕ) → k < net.bars → Comes net (N net.bars (length net.links) ∷ map S (take k (start_links net))) (begun net (closed_to k) k)
  head_comes zero kV = then nothing (opens refl refl)
  head_comes (suc k) kV =
      let T = closed_to k in
      let l = start_link_of net (suc k) in
      let (p, _, _, _, up) = start_up net fit all (suc k) (omega arith, kV) in
      let more : eqb (k + 1) net.bars ≡ false = ne_eqb (k + 1) net.bars (omega arith) in
      let here : begun net T k ≡ starting T k = ap (λ b. cond b (walking T T [] 1) (starting T k)) more in
      let goes : Goes net (starting T k) (S l) (begun net (closing T l) (suc k)) = starts (p, _, up) (next_open k kV) (last_radial k kV) in
      subst (λ rs. Comes net (N net.bars (length net.links) ∷ rs) (begun net (closed_to (suc k)) (suc k))) (taken_more k kV)
      (subst (λ U. Comes net (N net.bars (length net.links) ∷ (map S (take k (start_links net)) ++ (S l ∷ []))) (begun net U (suc k))) (closed_more k kV)
      (then (subst (Comes net (N net.bars (length net.links) ∷ map S (take k (start_links net)))) here (head_comes k (omega arith))) goes))

  -- the head
  head : Comes net (N net.bars (length net.links) ∷ map S (start_links net)) (walking (start_setting net) (start_setting net) [] 1)
  head =
      let v = net.bars - 1 in
      let whole : take v (start_links net) ≡ start_links net = take_all v (start_links net) (omega (arith, count)) in
      let done : eqb (v + 1) net.bars ≡ true = eq-eqb (v + 1) net.bars (omega (arith, fit.few_bars)) in
      let here : begun net (start_setting net) v ≡ walking (start_setting net) (start_setting net) [] 1
      = ap (λ b. cond b (walking (start_setting net) (start_setting net) [] 1) (starting (start_setting net) v)) done in
      subst (Comes net (N net.bars (length net.links) ∷ map S (start_links net))) here
      (subst (λ ls. Comes net (N net.bars (length net.links) ∷ map S ls) (begun net (just_closed net ls) v)) whole (head_comes v (omega (arith, fit.few_bars))))

  told_count : 1 + length (below net (net.bars - 1) (start_setting net)) ≡ settings_of net
  told_count =
      let same = ap (told_after (start_setting net)) (sym (append-nil (listing net)))
      ∙ told_events net fit all (net.bars - 1) (start_setting net) (start_level net fit all) []
      ∙ append-nil (below net (net.bars - 1) (start_setting net)) in
      omega (arith, ap length same)

  -- the stream of the whole listing is accepted
  pub stream_comes : Comes net (stream_records net) (ended (start_setting net) (settings_of net))
  stream_comes =
      let T = start_setting net in
      let first = N net.bars (length net.links) ∷ map S (start_links net) in
      let shown = show_events net fit all T (net.bars - 1) T (start_level net fit all) [] 1 (omega (arith, fit.few_bars)) first head in
      let told = subst (λ n. Comes net (first ++ map record_of_exchange (listing net)) (walking T T [] n)) told_count shown in
      subst (λ rs. Comes net rs (ended T (settings_of net))) (append_assoc first (map record_of_exchange (listing net)) (Z (settings_of net) ∷ [])) (then told ends)
