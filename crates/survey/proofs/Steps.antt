-- The steps of a visit, as the code takes them.
use Rattle.std.proofs.Common.{◌≡◌, ℕ, zero, suc, ◌+◌, ◌-◌, ◌<◌, ◌≤◌, true, false, [], ◌∷◌, ◌++◌, length, is_some, Some, None, fold, Option, sym, refl, ap, ◌∙◌, arith}
use Rattle.std.specs.List.{range_with_len}
use Rattle.std.proofs.lemmas.List.{length_push}
use Rattle.std.proofs.lemmas.List.Sums.{fold_push}
use Rattle.net.specs.Nets.{Net, ends_of, IsBar, infeed}
use Rattle.net.specs.Limits.{WithinLimits}
use Rattle.net.proofs.Links.{ends_bars}
use Rattle.survey.specs.Ranks.{rank_in}
use Rattle.survey.specs.Visits.{Tour, found, across, meet, follow, look, visit, looks, only, tour}
use Rattle.survey.proofs.Tours.{across_some}

pub none_from_test : {A : Type 0} (o : Option A) → is_some o ≡ false → o ≡ None
none_from_test None e = refl
none_from_test (Some x) e = let z : ◌≡◌ {A = ℕ} 0 1 = cc in absurd (omega arith)

pub some_from_test : {A : Type 0} (o : Option A) → is_some o ≡ true → (x : A) × (o ≡ Some x)
some_from_test None e = let z : ◌≡◌ {A = ℕ} 0 1 = cc in absurd (omega arith)
some_from_test (Some x) e = (x, refl)

-- the bar across a link is one of the bars
pub across_bar : (net : Net) → WithinLimits net → (l b c : ℕ) → across (ends_of net l) b ≡ Some c → IsBar net c
across_bar net fit l b c e = (ends_bars net fit (across_some net l b c e)).1

-- a look that leads nowhere, or to a visited bar
pub look_nowhere : (net : Net) (b l n : ℕ) (t : Tour) → across (ends_of net l) b ≡ None → t ≡ look (visit n net) net b t l
look_nowhere net b l n t a = sym (ap (follow (visit n net) t l) a)

pub look_visited : (net : Net) (b l c n : ℕ) (t : Tour) (k : ℕ) → across (ends_of net l) b ≡ Some c → rank_in t.order c ≡ Some k → t ≡ look (visit n net) net b t l
look_visited net b l c n t k a r = sym (ap (follow (visit n net) t l) a ∙ ap (meet (visit n net) t l c) r)

-- a look that comes to an unvisited bar
pub look_after : (net : Net) (b l c : ℕ) (t u : Tour) → across (ends_of net l) b ≡ Some c → rank_in t.order c ≡ None → length t.order < 32
    → ((n : ℕ) → 32 - length (found t c l).order ≤ n → u ≡ visit (suc n) net c (found t c l))
    → (n : ℕ) → 32 - length t.order ≤ n → u ≡ look (visit n net) net b t l
look_after net b l c t u a r room f zero le = absurd (omega arith)
look_after net b l c t u a r room f (suc n) le =
    f n (omega (arith, length_push t.order c))
    ∙ sym (ap (follow (visit (suc n) net) t l) a ∙ ap (meet (visit (suc n) net) t l c) r)

-- one number more
pub counting_push : (a n : ℕ) → range_with_len a (suc n) ≡ range_with_len a n ++ (a + n) ∷ []
counting_push a zero = let z : a ≡ a + 0 = omega arith in ap (λ x. x ∷ []) z
counting_push a (suc n) =
    let z : a + 1 + n ≡ a + suc n = omega arith in
    ap (λ xs. a ∷ xs) (counting_push (a + 1) n ∙ ap (λ x. range_with_len (a + 1) n ++ x ∷ []) z)

pub looks_none : (net : Net) (b n : ℕ) (t : Tour) → t ≡ looks n net b t 0
unfolding looks
looks_none net b n t = refl

pub looks_all : (net : Net) (b n k : ℕ) (t : Tour) → k ≡ length net.links → looks n net b t k ≡ visit (suc n) net b t
unfolding looks
looks_all net b n k t e = ap (λ m. fold (look (visit n net) net b) t (range_with_len 1 m)) e

-- the looks so far, and one more
pub looks_more : (net : Net) (b l n k : ℕ) (t u v : Tour) → l ≡ k + 1 → u ≡ looks n net b t k → v ≡ look (visit n net) net b u l → v ≡ looks n net b t (k + 1)
unfolding looks
looks_more net b l n k t u v e f g =
    let h = look (visit n net) net b in
    let z : k + 1 ≡ suc k = omega arith in
    let y : 1 + k ≡ l = omega arith in
    g ∙ ap (λ w. h w l) f ∙ ap (h (looks n net b t k)) (sym y)
    ∙ sym (fold_push h t (range_with_len 1 k) (1 + k)) ∙ ap (fold h t) (sym (counting_push 1 k)) ∙ ap (looks n net b t) (sym z)

-- a tour that the code begins at the infeed and ends is the whole tour
pub tour_after : (net : Net) (begun done : Tour) → begun ≡ only (infeed net)
    → ((n : ℕ) → 32 - length begun.order ≤ n → done ≡ visit (suc n) net (infeed net) begun) → done ≡ tour net
tour_after net begun done e f = f 31 (omega (arith, ap (λ t. length t.order) e)) ∙ ap (visit 32 net (infeed net)) e
