-- Tables of links: reading and switching.
use Rattle.std.proofs.Common.{◌≡◌, ℕ, zero, suc, ◌-◌, ◌<◌, ◌≤◌, Bool, false, List, length, get_or, set, Bor, Option, Some, None, MatchOption, sym, ap, ◌∙◌, arith}
use Rattle.std.specs.Option.{option_copied}
use Rattle.std.proofs.lemmas.List.{get_or-map, map-set}
use Rattle.net.specs.Nets.{nth, put}
use Rattle.tally.specs.declared.counts.LinkCount.{LinkCount}
use Rattle.tally.specs.Counts.{switched}
use Rattle.tally.specs.Tables.{count_of, counts_in}
use Rattle.tally.specs.Tallies.{RecordOf}

-- the record of a number
pub record_at : (rs : List LinkCount) (l : ℕ) (d : LinkCount) → 1 ≤ l → l ≤ length rs → count_of (get_or rs (l - 1) d) ≡ nth (counts_in rs) l (false, 0)
record_at rs zero d lo hi = absurd (omega arith)
record_at rs (suc i) d lo hi =
    let e : suc i - 1 ≡ i = omega arith in
    rw e (sym (get_or-map count_of rs i d (false, 0) (omega arith)))

-- and the record that a table has at a place, or none past its end
pub record_got : (rs : List LinkCount) (l p : ℕ) (v : Option (Bor LinkCount)) → length rs ≡ 60 → 1 ≤ l → p ≡ l - 1
    → MatchOption v (length rs ≤ p) (λ x. (p < length rs) × (x.now ≡ get_or rs p x.now)) → RecordOf (counts_in rs) l (option_copied v)
record_got rs l p None e lo at out = λ (_, hi). omega (arith, e, lo, at, out, hi)
record_got rs l p (Some x) e lo at (lt, is) =
    let q : l ≤ 60 = omega arith in
    ((lo, q), ap count_of (is ∙ ap (λ i. get_or rs i x.now) at) ∙ record_at rs l x.now lo (omega arith))

pub record_put : (rs : List LinkCount) (l : ℕ) (k : LinkCount) → 1 ≤ l → counts_in (set rs (l - 1) k) ≡ put (counts_in rs) l (count_of k)
record_put rs zero k lo = absurd (omega arith)
record_put rs (suc i) k lo =
    let e : suc i - 1 ≡ i = omega arith in
    rw e (map-set count_of rs i k)

pub record_switched : (rs : List LinkCount) (l : ℕ) (closed : Bool) (r d : LinkCount) → 1 ≤ l → l ≤ length rs
    → count_of r ≡ (closed, (get_or rs (l - 1) d).count) → counts_in (set rs (l - 1) r) ≡ switched (counts_in rs) l closed
record_switched rs l closed r d lo hi e =
    record_put rs l r lo ∙ ap (put (counts_in rs) l) (e ∙ ap (λ k. (closed, k.1)) (record_at rs l d lo hi))
