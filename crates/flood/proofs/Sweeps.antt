-- Sweeps over the links, done link by link.
use Rattle.std.proofs.Common.{◌≡◌, ℕ, zero, suc, ◌+◌, ◌-◌, ◌<◌, ◌≤◌, Bool, true, false, cond, List, [], ◌∷◌, length, get_or, take, replicate, Some, None, Option, sym, refl, ap, ◌∙◌, ap₂, arith}
use Rattle.std.proofs.lemmas.List.{length-take, length-take-le, take_all, take-replicate, get_or-take}
use Rattle.net.specs.Nets.{nth, put, Net, ends_of, infeed}
use Rattle.net.specs.Limits.{WithinLimits}
use Rattle.net.proofs.Numbered.{put_first, nth_first}
use Rattle.net.proofs.Settings.{put_same}
use Rattle.trees.specs.Listings.{touch, sweep, sweeps, fed}

-- two marked bars stay as they are
pub touch_both : (M : List Bool) (a b : ℕ) → nth M a false ≡ true → nth M b false ≡ true → M ≡ touch (Some (a, b)) true M
touch_both M a b ha hb = rw ha (sym (put_same M b true hb))

-- one link more
pub sweep_more : (ls : List (Option (ℕ × ℕ))) (T M : List Bool) (i : ℕ) → i < length ls → i < length T
    → sweep (take (suc i) ls) (take (suc i) T) M ≡ touch (get_or ls i None) (get_or T i false) (sweep (take i ls) (take i T) M)
sweep_more [] T M i h k = absurd (omega arith)
sweep_more (l ∷ ls) [] M i h k = absurd (omega arith)
sweep_more (l ∷ []) (c ∷ T) M zero h k = refl
sweep_more (l ∷ (m ∷ ls)) (c ∷ []) M zero h k = refl
sweep_more (l ∷ (m ∷ ls)) (c ∷ (d ∷ T)) M zero h k = refl
sweep_more (l ∷ ls) (c ∷ T) M (suc i) h k = sweep_more ls T (touch l c M) i (omega arith) (omega arith)

-- a sweep that feeds nothing is the last one
pub sweeps_still : (n : ℕ) (net : Net) (T M : List Bool) → sweep net.links T M ≡ M → sweeps n net T M ≡ M
sweeps_still zero net T M e = refl
sweeps_still (suc n) net T M e = ap (sweeps n net T) e ∙ sweeps_still n net T M e

-- the same of a net and of a table that holds its setting
pub sweep_on : (net : Net) (xs M : List Bool) (l : ℕ) → 1 ≤ l → l ≤ length net.links → length net.links ≤ length xs
    → sweep (take l net.links) (take l (take (length net.links) xs)) M
    ≡ touch (ends_of net l) (nth xs l false) (sweep (take (l - 1) net.links) (take (l - 1) (take (length net.links) xs)) M)
sweep_on net xs M zero lo h k = absurd (omega arith)
sweep_on net xs M (suc i) lo h k =
    let e : suc i - 1 ≡ i = omega arith in
    rw e (sweep_more net.links (take (length net.links) xs) M i h (omega (arith, length-take-le (length net.links) xs k))
    ∙ ap (λ c. touch (get_or net.links i None) c (sweep (take i net.links) (take i (take (length net.links) xs)) M)) (get_or-take (length net.links) xs i false h))

-- every link was swept
pub swept_all : (net : Net) (xs M : List Bool) (n : ℕ) → length net.links ≤ n
    → sweep (take n net.links) (take n (take (length net.links) xs)) M ≡ sweep net.links (take (length net.links) xs) M
swept_all net xs M n h =
    ap₂ (λ ls T. sweep ls T M) (take_all n net.links h) (take_all n (take (length net.links) xs) (omega (arith, length-take (length net.links) xs)))

-- the ends of links are among the first n numbers
abbrev EndsTo : ℕ → List (Option (ℕ × ℕ)) → Type 0
EndsTo n ls = (i a b : ℕ) → get_or ls i None ≡ Some (a, b) → (a ≤ n) × (b ≤ n)

-- so only the first n marks count
touch_first : (n : ℕ) (o : Option (ℕ × ℕ)) (c : Bool) (M : List Bool) → ((a b : ℕ) → o ≡ Some (a, b) → (a ≤ n) × (b ≤ n)) → take n (touch o c M) ≡ touch o c (take n M)
touch_first n None c M h = refl
touch_first n (Some (a, b)) false M h = refl
touch_first n (Some (a, b)) true M h =
    let (ha, hb) = h a b refl in
    let ea = nth_first M n a false ha in
    let eb = nth_first M n b false hb in
    by (nth M a false) (nth M b false) ∙ ap₂ (λ x y. cond x (put (take n M) b true) (cond y (put (take n M) a true) (take n M))) (sym ea) (sym eb)
  where
    by : (x y : Bool) → take n (cond x (put M b true) (cond y (put M a true) M)) ≡ cond x (put (take n M) b true) (cond y (put (take n M) a true) (take n M))
    by true y = put_first M n b true
    by false true = put_first M n a true
    by false false = refl

sweep_first : (n : ℕ) (ls : List (Option (ℕ × ℕ))) (T M : List Bool) → EndsTo n ls → take n (sweep ls T M) ≡ sweep ls T (take n M)
sweep_first n [] T M h = refl
sweep_first n (l ∷ ls) [] M h = refl
sweep_first n (l ∷ ls) (c ∷ T) M h =
    sweep_first n ls T (touch l c M) (λ i a b e. h (suc i) a b e) ∙ ap (sweep ls T) (touch_first n l c M (λ a b e. h 0 a b e))

sweeps_first : (n k : ℕ) (net : Net) (T M : List Bool) → EndsTo n net.links → take n (sweeps k net T M) ≡ sweeps k net T (take n M)
sweeps_first n zero net T M h = refl
sweeps_first n (suc k) net T M h = sweeps_first n k net T (sweep net.links T M) h ∙ ap (sweeps k net T) (sweep_first n net.links T M h)

-- the first n of a table of links all of which are open
pub first_open : (marked : List Bool) (n : ℕ) → marked ≡ replicate 60 false → n ≤ 60 → take n marked ≡ replicate n false
first_open marked n e h = ap (take n) e ∙ take-replicate n 60 false h

pub ruleset all_open = (first_open, length-take-le)

-- the flood in a table of 32 bars
pub flood_first : (net : Net) → WithinLimits net → (T : List Bool)
    → take net.bars (sweeps net.bars net T (put (replicate 32 false) (infeed net) true)) ≡ fed net T
flood_first net fit T =
    sweeps_first net.bars net.bars net T (put (replicate 32 false) (infeed net) true)
    (λ i a b e. let (p, q) = fit.ends_are_bars (suc i) a b e in (p.1, q.1))
    ∙ ap (sweeps net.bars net T)
    (put_first (replicate 32 false) net.bars (infeed net) true ∙ ap (λ M. put M (infeed net) true) (take-replicate net.bars 32 false fit.few_bars.1))

-- the sweeps still to be made
pub sweeps_more : (n k : ℕ) (net : Net) (T M : List Bool) → k < n → sweeps (n - (k + 1)) net T (sweep net.links T M) ≡ sweeps (n - k) net T M
sweeps_more n k net T M h = let e : n - k ≡ suc (n - (k + 1)) = omega arith in rw e refl

pub sweeps_done : (n k : ℕ) (net : Net) (T M : List Bool) → n ≤ k → sweeps (n - k) net T M ≡ M
sweeps_done n k net T M h = let e : n - k ≡ 0 = omega arith in rw e refl
