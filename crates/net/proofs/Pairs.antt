-- A row read in pairs.
use Rattle.std.proofs.Common.{◌≡◌, ℕ, suc, ◌/◌, ◌%◌, ◌<◌, List, [], ◌∷◌, ◌++◌, map, length, get_or, None, refl, ap, arith}
use Rattle.std.specs.Simd.{first_chunks}
use Rattle.std.proofs.lemmas.List.{get_or-map}
use Rattle.net.specs.Nets.{nth}
use Rattle.net.specs.Sources.{pair_of, pairs}
use Rattle.net.proofs.Numbered.{nth_past}

pub length_pairs : (row : List ℕ) → length (pairs row) ≡ length row / 2
length_pairs [] = refl
length_pairs (a ∷ []) = refl
length_pairs (a ∷ (b ∷ row)) = omega (arith, length_pairs row)

-- the same pairs, from the row cut into lists of two
pairs_cut : (row : List ℕ) → pairs row ≡ map (λ p. pair_of (get_or p 0 0) (get_or p 1 0)) (first_chunks 2 (length row / 2) row)
pairs_cut [] = refl
pairs_cut (a ∷ []) = refl
pairs_cut (a ∷ (b ∷ row)) =
    let e : length (a ∷ (b ∷ row)) / 2 ≡ suc (length row / 2) = omega arith in
    rw e (ap (λ ps. pair_of a b ∷ ps) (pairs_cut row))

pub nth_pairs : (row p : List ℕ) (cut : List (List ℕ)) (i j : ℕ) → cut ≡ first_chunks 2 (length row / 2) row → j < length cut → i ≡ suc j → p ≡ get_or cut j []
    → nth (pairs row) i None ≡ pair_of (get_or p 0 0) (get_or p 1 0)
nth_pairs row p cut i j is lt at e = rw (at, pairs_cut row, ← is, e) (get_or-map _ cut j [] None lt)

pub nth_pairs_past : (row : List ℕ) (i : ℕ) → length row / 2 < i → nth (pairs row) i None ≡ None
nth_pairs_past row i h = nth_past (pairs row) i None (rw (length_pairs row) h)

-- pairs of an even row, and of what is added to it
pub pairs_append : (row more : List ℕ) → length row % 2 ≡ 0 → pairs (row ++ more) ≡ pairs row ++ pairs more
pairs_append [] more e = refl
pairs_append (a ∷ []) more e = absurd (omega arith)
pairs_append (a ∷ (b ∷ row)) more e = ap (λ ps. pair_of a b ∷ ps) (pairs_append row more (omega arith))
