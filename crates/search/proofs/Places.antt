-- Links by their ranks, and the start setting built up from them.
use Rattle.std.proofs.Common.{◌≡◌, ◌≢◌, ℕ, zero, suc, ◌+◌, ◌<◌, ◌≤◌, List, [], ◌∷◌, map, length, get_or, take, Some, None, Option, unwrap_or, sym, refl, ap, ◌∙◌, subst, arith}
use Rattle.std.specs.List.{range_with_len}
use Rattle.std.specs.Fn.{Called}
use Rattle.std.specs.Array.{IsFromFnResultFrom, IsFromFnResult}
use denote.Param.Members.{Mut}
use Rattle.std.proofs.lemmas.List.{length-take-le, length-map, get_or-map, get_or-take, same_lists}
use Rattle.std.proofs.lemmas.List.FromFn.{length-map-range_with_len, get_or-map-range_with_len}
use Rattle.net.specs.Nets.{nth}
use Rattle.survey.specs.Ranks.{number_at_rank}
use Rattle.survey.specs.Surveys.{start_links, link_order}
use Rattle.survey.specs.declared.surveyed.Surveyed.{Surveyed}
use Rattle.survey.specs.Answers.{net_of}
use Rattle.survey.proofs.Ranked.{not_some_none}
use Rattle.survey.proofs.Others.{links_ranked}
use Rattle.survey.proofs.Whole.{surveyed_fits, surveyed_reached, surveyed_starts}
use Rattle.trees.specs.Rules.{start_link_of, IsStart}
use Rattle.trees.proofs.Ranks.{start_up}
use Rattle.net.proofs.Links.{joins_range}
use Rattle.search.specs.Descents.{link_at, LinksOf}

-- the number of a rank, 0 where there is none
pub at_rank_nth : (xs : List ℕ) (k : ℕ) → unwrap_or (number_at_rank xs k) 0 ≡ nth xs k 0
at_rank_nth xs zero = refl
at_rank_nth [] (suc k) = refl
at_rank_nth (x ∷ xs) (suc zero) = refl
at_rank_nth (x ∷ xs) (suc (suc k)) = at_rank_nth xs (suc k)

-- the start link of a rank, and the link of a rank, as a site answers them
pub start_found : (s s' : Surveyed) (k : ℕ) (o : Option ℕ) → s' ≡ s → o ≡ number_at_rank (start_links (net_of s')) k → unwrap_or o 0 ≡ start_link_of (net_of s) k
start_found s s' k o same e = ap (λ o. unwrap_or o 0) e ∙ at_rank_nth (start_links (net_of s')) k ∙ ap (λ t. start_link_of (net_of t) k) same

pub link_found : (s s' : Surveyed) (r : ℕ) (o : Option ℕ) → s' ≡ s → o ≡ number_at_rank (link_order (net_of s')) r → unwrap_or o 0 ≡ link_at (net_of s) r
link_found s s' r o same e = ap (λ o. unwrap_or o 0) e ∙ at_rank_nth (link_order (net_of s')) r ∙ ap (λ t. link_at (net_of t) r) same

-- a rank of the list has a number
number_at_rank_nth : (xs : List ℕ) (k : ℕ) → 1 ≤ k → k ≤ length xs → number_at_rank xs k ≡ Some (nth xs k 0)
number_at_rank_nth xs zero lo hi = absurd (omega arith)
number_at_rank_nth [] (suc k) lo hi = absurd (omega arith)
number_at_rank_nth (x ∷ xs) (suc zero) lo hi = refl
number_at_rank_nth (x ∷ xs) (suc (suc k)) lo hi = number_at_rank_nth xs (suc k) (omega arith) (omega arith)

-- each rank of a start link has one
pub start_at_rank : (s : Surveyed) (k : ℕ) → IsStart (net_of s) k → number_at_rank (start_links (net_of s)) k ≡ Some (start_link_of (net_of s) k)
start_at_rank s k is = number_at_rank_nth (start_links (net_of s)) k is.0 (omega (arith, surveyed_starts s))

pub start_there : (s s' : Surveyed) (k : ℕ) (o : Option ℕ) → s' ≡ s → o ≡ number_at_rank (start_links (net_of s')) k → IsStart (net_of s) k → o ≢ None
start_there s s' k o same e is z =
    not_some_none (start_at_rank s k is) (ap (λ t. number_at_rank (start_links (net_of t)) k) (sym same) ∙ sym e ∙ z)

-- a rank that a number has is one of the list
ranked_there : (xs : List ℕ) (k x : ℕ) → Some x ≡ number_at_rank xs k → (1 ≤ k) × (k ≤ length xs)
ranked_there xs zero x h = let z : ◌≡◌ {A = ℕ} 0 1 = cc in absurd (omega arith)
ranked_there [] (suc k) x h = let z : ◌≡◌ {A = ℕ} 0 1 = cc in absurd (omega arith)
ranked_there (y ∷ xs) (suc zero) x h = omega arith
ranked_there (y ∷ xs) (suc (suc k)) x h = omega (arith, ranked_there xs (suc k) x h)

-- both ranks of a move have a link
pub links_there : (s a b : Surveyed) (k r e g : ℕ) → a ≡ s → b ≡ s → Some e ≡ number_at_rank (start_links (net_of a)) k → Some g ≡ number_at_rank (link_order (net_of b)) r
    → LinksOf (net_of s) k r (Some (e, g))
links_there s a b k r e g sa sb p q =
    let net = net_of s in
    let fit = surveyed_fits s in
    let all = surveyed_reached s in
    let le = start_found s a k (Some e) sa p in
    let lg = link_found s b r (Some g) sb q in
    let (k1, kn) = ranked_there (start_links net) k e (p ∙ ap (λ t. number_at_rank (start_links (net_of t)) k) sa) in
    let (r1, rn) = ranked_there (link_order net) r g (q ∙ ap (λ t. number_at_rank (link_order (net_of t)) r) sb) in
    let (_, _, _, _, up) = start_up net fit all k (k1, omega (arith, surveyed_starts s)) in
    let (_, _, into) = (links_ranked net fit all).no_other r r1 rn in
    (le, lg, omega (arith, le, joins_range net up), omega (arith, lg, joins_range net into))

-- what a call for each index made of it, where the calls change no capture
made_at : {F B C : Type 0} (g : Mut F (ℕ × Unit {0}) B) (f : F) (v : B → C) (h : ℕ → C) (m : ℕ) → ((i : ℕ) (y : B) (q : F) → Called g f (i, tt) y q → (q ≡ f) × (i < m → v y ≡ h i))
    → (ys : List B) (i n : ℕ) → IsFromFnResultFrom g f ys i n → (k j : ℕ) (d : B) → k < n → i + k ≡ j → j < m → v (get_or ys j d) ≡ h j
made_at g f v h m each ys i zero made k j d lt e jm = absurd (omega arith)
made_at g f v h m each ys i (suc n) (q, y, at, one, rest) zero j d lt e jm =
    let p : i ≡ j = omega arith in
    subst (λ k. v (get_or ys k d) ≡ h k) p (ap v (at.1 d) ∙ (each i y q one).1 (omega arith))
made_at g f v h m each ys i (suc n) (q, y, at, one, rest) (suc k) j d lt e jm =
    made_at g f v h m each ys (i + 1) n (subst (λ s. IsFromFnResultFrom g s ys (i + 1) n) (each i y q one).0 rest) k j d (omega arith) (omega arith) jm

pub table_made : {F B C : Type 0} (g : Mut F (ℕ × Unit {0}) B) (f : F) (v : B → C) (h : ℕ → C) (m : ℕ) → ((i : ℕ) (y : B) (q : F) → Called g f (i, tt) y q → (q ≡ f) × (i < m → v y ≡ h (i + 1)))
    → (ys : List B) (n : ℕ) → IsFromFnResult g f ys n → m ≤ n → map v (take m ys) ≡ map h (range_with_len 1 m)
table_made g f v h m each [] n made fits = let z : m ≡ 0 = omega (arith, made.long) in rw z refl
table_made g f v h m each (y ∷ ys) n made fits =
    let long : length (take m (y ∷ ys)) ≡ m = length-take-le m (y ∷ ys) (omega (arith, made.long)) in
    same_lists (map v (take m (y ∷ ys))) (map h (range_with_len 1 m))
    (length-map (take m (y ∷ ys)) v ∙ long ∙ sym (length-map-range_with_len h 1 m))
    (λ k d lt.
    let inside : k < m = omega (arith, length-map (take m (y ∷ ys)) v, long) in
    get_or-map v (take m (y ∷ ys)) k y d (omega (arith, long))
    ∙ ap v (get_or-take m (y ∷ ys) k y inside)
    ∙ made_at g f v (λ i. h (i + 1)) m each (y ∷ ys) 0 n made.each k k y (omega arith) (omega arith) inside
    ∙ sym (get_or-map-range_with_len h 1 m k (k + 1) d inside (omega arith)))
