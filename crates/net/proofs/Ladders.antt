-- The links of a ladder.
use Rattle.std.proofs.Common.{◌≡◌, ℕ, ◌+◌, ◌-◌, ◌*◌, ◌≤◌, List, map, length, Some, None, Option, ap, ◌∙◌, arith}
use Rattle.std.specs.List.{range_with_len}
use Rattle.std.proofs.lemmas.List.{length-append}
use Rattle.std.proofs.lemmas.List.FromFn.{length-map-range_with_len}
use Rattle.net.specs.Nets.{nth, ends_of}
use Rattle.net.specs.Sources.{ladder_net}
use Rattle.net.proofs.Numbered.{nth_append_left, nth_append_right, nth_made, nth_outside}

rails : ℕ → List (Option (ℕ × ℕ))
rails n = map (λ i. Some (i, i + 1)) (range_with_len 1 (2 * n - 1))

rungs : ℕ → List (Option (ℕ × ℕ))
rungs n = map (λ i. Some (i, 2 * n + 1 - i)) (range_with_len 1 (n - 1))

length_rails : (n : ℕ) → length (rails n) ≡ 2 * n - 1
unfolding rails
length_rails n = length-map-range_with_len _ 1 (2 * n - 1)

length_rungs : (n : ℕ) → length (rungs n) ≡ n - 1
unfolding rungs
length_rungs n = length-map-range_with_len _ 1 (n - 1)

pub ladder_links : (n : ℕ) → length (ladder_net n).links ≡ (2 * n - 1) + (n - 1)
unfolding rails rungs
ladder_links n = rw (length-append (rails n) (rungs n), length_rails n, length_rungs n)

pub ladder_rail : (n i : ℕ) → 1 ≤ i → i ≤ 2 * n - 1 → ends_of (ladder_net n) i ≡ Some (i, i + 1)
unfolding rails rungs
ladder_rail n i lo hi = nth_append_left (rails n) (rungs n) i None (rw (length_rails n) hi) ∙ nth_made (λ i. Some (i, i + 1)) (2 * n - 1) i None lo hi

pub ladder_rung : (n i k : ℕ) → 1 ≤ k → k ≤ n - 1 → i ≡ (2 * n - 1) + k → ends_of (ladder_net n) i ≡ Some (k, 2 * n + 1 - k)
unfolding rails rungs
ladder_rung n i k lo hi e =
    let d : i - (2 * n - 1) ≡ k = omega arith in
    nth_append_right (rails n) (rungs n) (2 * n - 1) i None (length_rails n) (omega arith)
    ∙ ap (λ j. nth (rungs n) j None) d ∙ nth_made (λ i. Some (i, 2 * n + 1 - i)) (n - 1) k None lo hi

pub ladder_past : (n i : ℕ) → ¬ ((1 ≤ i) × (i ≤ (2 * n - 1) + (n - 1))) → ends_of (ladder_net n) i ≡ None
ladder_past n i out = nth_outside (ladder_net n).links ((2 * n - 1) + (n - 1)) i None (ladder_links n) out
