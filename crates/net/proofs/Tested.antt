-- The test of the limits says what it tests.
use Rattle.std.proofs.Common.{◌≡◌, ℕ, zero, suc, ◌≤◌, Bool, true, not, ◌&&◌, eqb, leb, ◌≢◌, List, [], ◌∷◌, length, Some, None, Option, sym, refl, ap, ◌∙◌}
use Rattle.std.proofs.lemmas.Bool.{and_parts, and_from, leb-true, le-leb, eqb-false, ne_eqb, not-true}
use Rattle.net.specs.Nets.{nth, Net, ends_of}
use Rattle.net.specs.Limits.{WithinLimits}
use Rattle.net.specs.Tested.{fits_bars, every, within_limits}

every_nth : {A : Type 0} (p : A → Bool) (xs : List A) (i : ℕ) (d : A) → p d ≡ true → every p xs ≡ true → p (nth xs i d) ≡ true
every_nth p xs zero d pd h = pd
every_nth p [] (suc i) d pd h = pd
every_nth p (x ∷ xs) (suc zero) d pd h = (and_parts (p x) (every p xs) h).0
every_nth p (x ∷ xs) (suc (suc i)) d pd h = every_nth p xs (suc i) d pd (and_parts (p x) (every p xs) h).1

nth_every : {A : Type 0} (p : A → Bool) (xs : List A) (d : A) → ((i : ℕ) → p (nth xs i d) ≡ true) → every p xs ≡ true
nth_every p [] d f = refl
nth_every p (x ∷ xs) d f = and_from (p x) (every p xs) (f 1) (nth_every p xs d tail)
  where
    tail : (i : ℕ) → p (nth xs i d) ≡ true
    tail zero = f 0
    tail (suc i) = f (suc (suc i))

record Fits (n a b : ℕ) : Type 0 where
  low_a : 1 ≤ a
  high_a : a ≤ n
  low_b : 1 ≤ b
  high_b : b ≤ n
  apart : a ≢ b

fits_parts : (n a b : ℕ) → fits_bars n (Some (a, b)) ≡ true → Fits n a b
fits_parts n a b h =
    let (p, q) = and_parts (leb 1 a && leb a n) ((leb 1 b && leb b n) && not (eqb a b)) h in
    let (pa, pn) = and_parts (leb 1 a) (leb a n) p in
    let (r, s) = and_parts (leb 1 b && leb b n) (not (eqb a b)) q in
    let (rb, rn) = and_parts (leb 1 b) (leb b n) r in
    record {
      low_a = leb-true 1 a pa;
      high_a = leb-true a n pn;
      low_b = leb-true 1 b rb;
      high_b = leb-true b n rn;
      apart = eqb-false a b (not-true (eqb a b) s);
    }

fits_from : (n a b : ℕ) → Fits n a b → fits_bars n (Some (a, b)) ≡ true
fits_from n a b f =
    and_from (leb 1 a && leb a n) ((leb 1 b && leb b n) && not (eqb a b))
    (and_from (leb 1 a) (leb a n) (le-leb 1 a f.low_a) (le-leb a n f.high_a))
    (and_from (leb 1 b && leb b n) (not (eqb a b)) (and_from (leb 1 b) (leb b n) (le-leb 1 b f.low_b) (le-leb b n f.high_b))
    (ap not (ne_eqb a b f.apart)))

pub tested_within : (net : Net) → within_limits net ≡ true → WithinLimits net
tested_within net h =
    let (p, q) = and_parts (leb 1 net.bars && leb net.bars 32) (leb (length net.links) 60 && every (fits_bars net.bars) net.links) h in
    let (lo, hi) = and_parts (leb 1 net.bars) (leb net.bars 32) p in
    let (few, each) = and_parts (leb (length net.links) 60) (every (fits_bars net.bars) net.links) q in
    record {
      few_bars = (leb-true 1 net.bars lo, leb-true net.bars 32 hi);
      few_links = leb-true (length net.links) 60 few;
      ends_are_bars = λ l a b e. let f = fits each l a b e in ((f.low_a, f.high_a), (f.low_b, f.high_b));
      ends_differ = λ l a b e. (fits each l a b e).apart;
    }
  where
    fits : every (fits_bars net.bars) net.links ≡ true → (l a b : ℕ) → ends_of net l ≡ Some (a, b) → Fits net.bars a b
    fits each l a b e = fits_parts net.bars a b (sym (ap (fits_bars net.bars) e) ∙ every_nth (fits_bars net.bars) net.links l None refl each)

pub within_tested : (net : Net) → WithinLimits net → within_limits net ≡ true
within_tested net w =
    and_from (leb 1 net.bars && leb net.bars 32) (leb (length net.links) 60 && every (fits_bars net.bars) net.links)
    (and_from (leb 1 net.bars) (leb net.bars 32) (le-leb 1 net.bars w.few_bars.0) (le-leb net.bars 32 w.few_bars.1))
    (and_from (leb (length net.links) 60) (every (fits_bars net.bars) net.links) (le-leb (length net.links) 60 w.few_links)
    (nth_every (fits_bars net.bars) net.links None (λ l. at l (ends_of net l) refl)))
  where
    at : (l : ℕ) (o : Option (ℕ × ℕ)) → ends_of net l ≡ o → fits_bars net.bars o ≡ true
    at l None e = refl
    at l (Some (a, b)) e =
        let ((la, ha), (lb, hb)) = w.ends_are_bars l a b e in
        fits_from net.bars a b (record { low_a = la; high_a = ha; low_b = lb; high_b = hb; apart = w.ends_differ l a b e })
