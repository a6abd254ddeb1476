-- Counts of at most n.
use Rattle.std.proofs.Common.{◌≡◌, ℕ, zero, suc, ◌+◌, ◌≤◌, Bool, true, false, cond, leb, List, [], ◌∷◌, map, refl, arith}
use Rattle.std.proofs.lemmas.Bool.{and_parts, and_from, leb-true, le-leb}
use Rattle.net.specs.Nets.{nth, put, Net}
use Rattle.survey.specs.Surveys.{start_setting}
use Rattle.tally.specs.Counts.{Counts, switched, counted_once_more, counted_after, start_count, counts_to}

pub counts_to_nth : (n : ℕ) (ks : Counts) (l : ℕ) → counts_to n ks ≡ true → (nth ks l (false, 0)).1 ≤ n
counts_to_nth n ks zero h = omega arith
counts_to_nth n [] (suc i) h = omega arith
counts_to_nth n (k ∷ ks) (suc zero) h = leb-true k.1 n (and_parts (leb k.1 n) (counts_to n ks) h).0
counts_to_nth n (k ∷ ks) (suc (suc i)) h = counts_to_nth n ks (suc i) (and_parts (leb k.1 n) (counts_to n ks) h).1

counts_to_put : (n : ℕ) (ks : Counts) (l : ℕ) (k : Bool × ℕ) → counts_to n ks ≡ true → k.1 ≤ n → counts_to n (put ks l k) ≡ true
counts_to_put n ks zero k h b = h
counts_to_put n [] (suc i) k h b = h
counts_to_put n (j ∷ ks) (suc zero) k h b =
    and_from (leb k.1 n) (counts_to n ks) (le-leb k.1 n b) (and_parts (leb j.1 n) (counts_to n ks) h).1
counts_to_put n (j ∷ ks) (suc (suc i)) k h b =
    let (p, q) = and_parts (leb j.1 n) (counts_to n ks) h in
    and_from (leb j.1 n) (counts_to n (put ks (suc i) k)) p (counts_to_put n ks (suc i) k q b)

pub counts_to_switched : (n : ℕ) (ks : Counts) (l : ℕ) (closed : Bool) → counts_to n ks ≡ true → counts_to n (switched ks l closed) ≡ true
counts_to_switched n ks l closed h = counts_to_put n ks l (closed, (nth ks l (false, 0)).1) h (counts_to_nth n ks l h)

pub counts_to_more : (n m : ℕ) (ks : Counts) → n ≤ m → counts_to n ks ≡ true → counts_to m ks ≡ true
counts_to_more n m [] h e = refl
counts_to_more n m (k ∷ ks) h e =
    let (p, q) = and_parts (leb k.1 n) (counts_to n ks) e in
    let b = leb-true k.1 n p in
    and_from (leb k.1 m) (counts_to m ks) (le-leb k.1 m (omega arith)) (counts_to_more n m ks h q)

counted_on_most : (k : Bool × ℕ) → (counted_once_more k).1 ≤ k.1 + 1
counted_on_most (true, n) = omega arith
counted_on_most (false, n) = omega arith

counts_to_counted : (n : ℕ) (ks : Counts) → counts_to n ks ≡ true → counts_to (n + 1) (map counted_once_more ks) ≡ true
counts_to_counted n [] h = refl
counts_to_counted n (k ∷ ks) h =
    let (p, q) = and_parts (leb k.1 n) (counts_to n ks) h in
    and_from (leb (counted_once_more k).1 (n + 1)) (counts_to (n + 1) (map counted_once_more ks))
    (le-leb (counted_once_more k).1 (n + 1) (omega (arith, leb-true k.1 n p, counted_on_most k))) (counts_to_counted n ks q)

pub counts_to_after : (n : ℕ) (is_forward : Bool) (ks : Counts) → counts_to n ks ≡ true → counts_to (n + 1) (counted_after is_forward ks) ≡ true
counts_to_after n true ks h = counts_to_counted n ks h
counts_to_after n false ks h = counts_to_more n (n + 1) ks (omega arith) h

-- at the start no count is more than 1
pub counts_to_start : (net : Net) (ls : List ℕ) → counts_to 1 (map (start_count net) ls) ≡ true
counts_to_start net [] = refl
counts_to_start net (l ∷ ls) = and_from (leb (start_count net l).1 1) (counts_to 1 (map (start_count net) ls)) (at (nth (start_setting net) l false)) (counts_to_start net ls)
  where
    at : (c : Bool) → leb (cond c 1 0) 1 ≡ true
    at true = refl
    at false = refl
