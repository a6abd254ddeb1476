-- The step past the exchange that comes next.
use Rattle.std.proofs.Common.{◌≡◌, ℕ, suc, ◌-◌, Bool, true, false, leb, [], ◌∷◌, take, drop, Some, None, sym, refl, ap, ◌∙◌, subst, ap₂, append_assoc, append-nil, arith}
use Rattle.std.proofs.lemmas.Bool.{and_parts, leb-true}
use Rattle.net.specs.Nets.{Net}
use Rattle.net.specs.Settings.{Setting}
use Rattle.net.specs.Limits.{WithinLimits}
use Rattle.net.proofs.Links.{joins_range}
use Rattle.survey.specs.Surveys.{start_setting, AllReached}
use Rattle.trees.specs.Rules.{start_link_of}
use Rattle.trees.specs.Listings.{back, enters, events, listing, reached_by}
use Rattle.trees.proofs.Ranks.{start_up}
use Rattle.search.specs.declared.state.Search.{Search}
use Rattle.search.specs.Descents.{Descent, link_at, setting_at, descends, EntersAt, ToChild, ToParent, last_move}
use Rattle.search.specs.States.{net_in, descent_of, setting_of, ceiling_of}
use Rattle.search.proofs.Held.{search_descends, search_fits, search_reached}
use Rattle.search.proofs.Depths.{descends_parts, test_enters, descent_back}
use Rattle.collectors.specs.Links.{MayExchange}
use Rattle.walk.specs.declared.cursor.Cursor.{Cursor}
use Rattle.walk.specs.Cursors.{net_at, reached_at, coming_at}
use Rattle.walk.specs.Rests.{past, climb, to_come, may_come_next}
use Rattle.walk.proofs.Nexts.{past_none}

-- a leaving link and an entering link may be exchanged
may_exchange : (net : Net) → WithinLimits net → AllReached net → (T : Setting) (k r : ℕ) → EntersAt net T k r → MayExchange (start_link_of net k) (link_at net r)
may_exchange net fit all T k r (sk, en) =
    let (p, _, _, _, up) = start_up net fit all k sk in
    let out = joins_range net up in
    let into = joins_range net en.in_cut.joins in
    ((out.0, omega (arith, out.1, fit.few_links)), (into.0, omega (arith, into.1, fit.few_links)), λ e. en.other (sym e))

-- the test says that the link enters
comes_next : (s : Search) (r : ℕ) → may_come_next (net_in s) (descent_of s) (ceiling_of s) (Some r) ≡ true → EntersAt (net_in s) (setting_of s) (ceiling_of s) r
comes_next s r h =
    let (lo, e) = and_parts (leb 1 (ceiling_of s)) (enters (net_in s) (setting_of s) (ceiling_of s) (link_at (net_in s) r)) h in
    test_enters (net_in s) (search_fits s) (search_reached s) (descent_of s) (ceiling_of s) r (search_descends s) (leb-true 1 (ceiling_of s) lo) e

-- the last_move exchange of a descent
last_may : (net : Net) → WithinLimits net → AllReached net → (d : Descent) (k : ℕ) (m : ℕ × ℕ) → descends net d k ≡ true → last_move d ≡ Some m
    → MayExchange (start_link_of net m.0) (link_at net m.1)
last_may net fit all [] k m h e = let z : ◌≡◌ {A = ℕ} 0 1 = cc in absurd (omega arith)
last_may net fit all ((j, r) ∷ d) k m h e =
    let (lt, en, down) = descends_parts net j r d k h in
    let q : (j, r) ≡ m = cc in
    subst (λ x. MayExchange (start_link_of net x.0) (link_at net x.1)) q
    (may_exchange net fit all (setting_at net d) j r (test_enters net fit all d j r down (omega arith) en))

pub last_exchange : (s : Search) (m : ℕ × ℕ) → last_move (descent_of s) ≡ Some m → MayExchange (start_link_of (net_in s) m.0) (link_at (net_in s) m.1)
last_exchange s m e = last_may (net_in s) (search_fits s) (search_reached s) (descent_of s) (ceiling_of s) m (search_descends s) e

-- the whole listing is to come at the start
pub all_to_come : (net : Net) (s : Search) → net_in s ≡ net → descent_of s ≡ [] → ceiling_of s ≡ net.bars - 1
    → past (net_in s) (setting_of s) (ceiling_of s) 0 (climb (net_in s) (descent_of s)) ≡ listing net
all_to_come net s p q e =
    ap₂ (λ n d. past n (setting_at n d) (ceiling_of s) 0 (climb n d)) p q
    ∙ ap (λ k. past net (start_setting net) k 0 []) e
    ∙ past_none net (start_setting net) (net.bars - 1) []
    ∙ append-nil (listing net)

-- to a child: its events are to come, then the way back
down_coming : (net : Net) (d : Descent) (k r : ℕ)
    → past net (setting_at net ((suc k, r) ∷ d)) k 0 (climb net ((suc k, r) ∷ d)) ≡ drop 1 (to_come net d (suc k) (Some r))
down_coming net d k r =
    past_none net (setting_at net ((suc k, r) ∷ d)) k (climb net ((suc k, r) ∷ d))
    ∙ sym (append_assoc (events net k (setting_at net ((suc k, r) ∷ d))) (back (link_at net r) (start_link_of net (suc k)) ∷ []) (past net (setting_at net d) (suc k) r (climb net d)))

down_setting : (net : Net) (d : Descent) (k r : ℕ) → setting_at net ((suc k, r) ∷ d) ≡ reached_by (setting_at net d) (take 1 (to_come net d (suc k) (Some r)))
down_setting net d k r = refl

went_down : {net : Net} {d d' : Descent} {k r k' : ℕ} (b : Bool) → EntersAt net (setting_at net d) k r → ToChild net d k r b d' k' → (d' ≡ (k, r) ∷ d) × (k ≡ suc k')
went_down true en (_, p, q) = (p, q)
went_down false en (n, _, _) = absurd (n en)

-- a cursor at which a link enters next
module _ (c : Cursor) (r : ℕ) (next : c.entering ≡ Some r) where
  may : may_come_next (net_at c) (descent_of c.search) (ceiling_of c.search) (Some r) ≡ true
  may = subst (λ o. may_come_next (net_at c) (descent_of c.search) (ceiling_of c.search) o ≡ true) next c.enters

  pub next_exchange : MayExchange (start_link_of (net_at c) (ceiling_of c.search)) (link_at (net_at c) r)
  next_exchange = may_exchange (net_at c) (search_fits c.search) (search_reached c.search) (reached_at c) (ceiling_of c.search) r (comes_next c.search r may)

  -- goes to the child
  module _ (s : Search) (b : Bool) (same : net_in s ≡ net_at c) (moved : ToChild (net_at c) (descent_of c.search) (ceiling_of c.search) r b (descent_of s) (ceiling_of s)) where
    down : (descent_of s ≡ (ceiling_of c.search, r) ∷ descent_of c.search) × (ceiling_of c.search ≡ suc (ceiling_of s))
    down = went_down b (comes_next c.search r may) moved

    pub child_coming : past (net_in s) (setting_of s) (ceiling_of s) 0 (climb (net_in s) (descent_of s)) ≡ drop 1 (coming_at c)
    child_coming =
        ap₂ (λ n d. past n (setting_at n d) (ceiling_of s) 0 (climb n d)) same down.0
        ∙ ap (λ k. past (net_at c) (setting_at (net_at c) ((k, r) ∷ descent_of c.search)) (ceiling_of s) 0 (climb (net_at c) ((k, r) ∷ descent_of c.search))) down.1
        ∙ down_coming (net_at c) (descent_of c.search) (ceiling_of s) r
        ∙ ap₂ (λ k o. drop 1 (to_come (net_at c) (descent_of c.search) k o)) (sym down.1) (sym next)

    pub child_setting : setting_of s ≡ reached_by (reached_at c) (take 1 (coming_at c))
    child_setting =
        ap₂ setting_at same down.0
        ∙ ap (λ k. setting_at (net_at c) ((k, r) ∷ descent_of c.search)) down.1
        ∙ down_setting (net_at c) (descent_of c.search) (ceiling_of s) r
        ∙ ap₂ (λ k o. reached_by (reached_at c) (take 1 (to_come (net_at c) (descent_of c.search) k o))) (sym down.1) (sym next)

-- a cursor at which none enters, and which goes back to the parent
module _ (c : Cursor) (none : c.entering ≡ None) (s : Search) (m : ℕ × ℕ) (same : net_in s ≡ net_at c)
    (moved : ToParent (descent_of c.search) (ceiling_of c.search) (Some m) (descent_of s) (ceiling_of s)) where
  pub parent_coming : past (net_in s) (setting_of s) (ceiling_of s) m.1 (climb (net_in s) (descent_of s)) ≡ drop 1 (coming_at c)
  parent_coming =
      ap₂ (λ n k. past n (setting_at n (descent_of s)) k m.1 (climb n (descent_of s))) same moved.1
      ∙ ap (λ d. drop 1 (climb (net_at c) d)) (sym moved.0)
      ∙ ap (λ o. drop 1 (to_come (net_at c) (descent_of c.search) (ceiling_of c.search) o)) (sym none)

  pub parent_setting : setting_of s ≡ reached_by (reached_at c) (take 1 (coming_at c))
  parent_setting =
      ap (λ n. setting_at n (descent_of s)) same
      ∙ sym (descent_back (net_at c) (search_fits c.search) (search_reached c.search) m.0 m.1 (descent_of s) (ceiling_of c.search)
      (subst (λ d. descends (net_at c) d (ceiling_of c.search) ≡ true) moved.0 (search_descends c.search)))
      ∙ ap (λ d. reached_by (setting_at (net_at c) d) (take 1 (climb (net_at c) d))) (sym moved.0)
      ∙ ap (λ o. reached_by (reached_at c) (take 1 (to_come (net_at c) (descent_of c.search) (ceiling_of c.search) o))) (sym none)
