-- The questions about a record, as a list: all are answered yes, or one is the first no.
use Rattle.std.proofs.Common.{◌≡◌, ℕ, suc, ◌+◌, ◌<◌, ◌≢◌, ◌⊎◌, List, [], ◌∷◌, length, sym, refl, ◌∙◌, inl, inr, arith}
use Rattle.faults.specs.declared.ReplayFault.{ReplayFault}
use Rattle.faults.specs.declared.ReplayFault.TheVariants.{Misplaced, AnotherNet, SameLinks, TooDeep, NotReversal, WrongEnd, OnBoard}
use Rattle.faults.specs.declared.BoardFault.TheVariants.{NotInService, NotOpen, OffLoop, NotRadial}
use Rattle.net.specs.Nets.{Net, InService}
use Rattle.net.specs.Settings.{Closed, closing, Radial}
use Rattle.trees.specs.Cuts.{InLoop}
use Rattle.stream.specs.Records.{Record, N, S, F, B, Z}
use Rattle.replay.specs.Places.{Place, unopened, starting, walking, ended, Goes, opens, starts, forward, back, ends}
use Rattle.replay.specs.Refusals.{MayStand, Refuses, stands_not, matches_not, start_unserved, start_closed, starts_no_radial, same, deep, in_unserved, in_closed, out_off_loop, reverses_not, ends_not}

-- a question, and the fault where it is answered no
pub data Question : Type 1 where
  ask : (Q : Type 0) (f : ReplayFault) → Question

abbrev pub AllYes : List Question → Type 0
AllYes [] = Unit {0}
AllYes (ask Q f ∷ qs) = Q × AllYes qs

abbrev pub FirstNo : List Question → ReplayFault → Type 0
FirstNo [] f = ⊥
FirstNo (ask Q g ∷ qs) f = ((¬ Q) × (f ≡ g)) ⊎ (Q × FirstNo qs f)

one_no : (qs : List Question) (f g : ReplayFault) → FirstNo qs f → FirstNo qs g → f ≡ g
one_no [] f g x y = absurd x
one_no (ask Q h ∷ qs) f g (inl (n, e)) (inl (m, d)) = e ∙ sym d
one_no (ask Q h ∷ qs) f g (inl (n, e)) (inr (q, y)) = absurd (n q)
one_no (ask Q h ∷ qs) f g (inr (q, x)) (inl (m, d)) = absurd (m q)
one_no (ask Q h ∷ qs) f g (inr (q, x)) (inr (p, y)) = one_no qs f g x y

yes_or_no : (qs : List Question) (f : ReplayFault) → AllYes qs → FirstNo qs f → ⊥
yes_or_no [] f yeses x = x
yes_or_no (ask Q g ∷ qs) f (q, yeses) (inl (n, e)) = n q
yes_or_no (ask Q g ∷ qs) f (q, yeses) (inr (p, x)) = yes_or_no qs f yeses x

abbrev pub questions : Net → ℕ → Place → Record → List Question
questions net at unopened (N bars links) = ask ((bars ≡ net.bars) × (links ≡ length net.links)) (AnotherNet at) ∷ []
questions net at unopened (S l) = ask ⊥ (Misplaced at) ∷ []
questions net at unopened (F out into) = ask ⊥ (Misplaced at) ∷ []
questions net at unopened (B out into) = ask ⊥ (Misplaced at) ∷ []
questions net at unopened (Z n) = ask ⊥ (Misplaced at) ∷ []
questions net at (starting T count) (N bars links) = ask ⊥ (Misplaced at) ∷ []
questions net at (starting T count) (S l) =
    ask (InService net l) (OnBoard (NotInService l) at) ∷ ask (¬ Closed T l) (OnBoard (NotOpen l) at) ∷ ask (suc count + 1 ≡ net.bars → Radial net (closing T l)) (OnBoard NotRadial at) ∷ []
questions net at (starting T count) (F out into) = ask ⊥ (Misplaced at) ∷ []
questions net at (starting T count) (B out into) = ask ⊥ (Misplaced at) ∷ []
questions net at (starting T count) (Z n) = ask ⊥ (Misplaced at) ∷ []
questions net at (walking start T pending shown) (N bars links) = ask ⊥ (Misplaced at) ∷ []
questions net at (walking start T pending shown) (S l) = ask ⊥ (Misplaced at) ∷ []
questions net at (walking start T pending shown) (F out into) =
    ask (out ≢ into) (SameLinks at) ∷ ask (length pending + 1 < net.bars) (TooDeep at) ∷ ask (InService net into) (OnBoard (NotInService into) at)
    ∷ ask (¬ Closed T into) (OnBoard (NotOpen into) at) ∷ ask (InLoop net T into out) (OnBoard (OffLoop out) at) ∷ []
questions net at (walking start T pending shown) (B out into) = ask ((rest : List (ℕ × ℕ)) × (pending ≡ (into, out) ∷ rest)) (NotReversal at) ∷ []
questions net at (walking start T pending shown) (Z n) = ask ((pending ≡ []) × (n ≡ shown)) (WrongEnd at) ∷ []
questions net at (ended start shown) r = ask ⊥ (Misplaced at) ∷ []

module _ (net : Net) (at : ℕ) where
  goes_yes : {p q : Place} {r : Record} → Goes net p r q → AllYes (questions net at p r)
  goes_yes (opens same-bars same_links) = ((same-bars, same_links), tt)
  goes_yes (starts served is_open radial) = (served, (is_open, (radial, tt)))
  goes_yes (forward ne room served is_open on_loop) = (ne, (room, (served, (is_open, (on_loop, tt)))))
  goes_yes back = ((_, refl), tt)
  goes_yes ends = ((refl, refl), tt)

  stands_no : (p : Place) (r : Record) → ¬ MayStand p r → FirstNo (questions net at p r) (Misplaced at)
  stands_no unopened (N bars links) h = absurd (h tt)
  stands_no unopened (S l) h = inl (h, refl)
  stands_no unopened (F out into) h = inl (h, refl)
  stands_no unopened (B out into) h = inl (h, refl)
  stands_no unopened (Z n) h = inl (h, refl)
  stands_no (starting T count) (N bars links) h = inl (h, refl)
  stands_no (starting T count) (S l) h = absurd (h tt)
  stands_no (starting T count) (F out into) h = inl (h, refl)
  stands_no (starting T count) (B out into) h = inl (h, refl)
  stands_no (starting T count) (Z n) h = inl (h, refl)
  stands_no (walking start T pending shown) (N bars links) h = inl (h, refl)
  stands_no (walking start T pending shown) (S l) h = inl (h, refl)
  stands_no (walking start T pending shown) (F out into) h = absurd (h tt)
  stands_no (walking start T pending shown) (B out into) h = absurd (h tt)
  stands_no (walking start T pending shown) (Z n) h = absurd (h tt)
  stands_no (ended start shown) r h = inl (h, refl)

  refuses_no : {p : Place} {r : Record} {f : ReplayFault} → Refuses net at p r f → FirstNo (questions net at p r) f
  refuses_no (stands_not {p} {r} h) = stands_no p r h
  refuses_no (matches_not h) = inl (h, refl)
  refuses_no (start_unserved h) = inl (h, refl)
  refuses_no (start_closed served closed) = inr (served, inl (λ n. n closed, refl))
  refuses_no (starts_no_radial served is_open all h) = inr (served, inr (is_open, inl (λ radial. h (radial all), refl)))
  refuses_no same = inl (λ n. n refl, refl)
  refuses_no (deep ne h) = inr (ne, inl (λ room. omega arith, refl))
  refuses_no (in_unserved ne room h) = inr (ne, inr (room, inl (h, refl)))
  refuses_no (in_closed ne room served closed) = inr (ne, inr (room, inr (served, inl (λ n. n closed, refl))))
  refuses_no (out_off_loop ne room served is_open h) = inr (ne, inr (room, inr (served, inr (is_open, inl (h, refl)))))
  refuses_no (reverses_not h) = inl (λ (rest, e). h rest e, refl)
  refuses_no (ends_not h) = inl (h, refl)

  -- a record is not both taken and refused
  pub goes_or_refuses : {p q : Place} {r : Record} {f : ReplayFault} → Goes net p r q → Refuses net at p r f → ⊥
  goes_or_refuses {p} {q} {r} {f} g h = yes_or_no (questions net at p r) f (goes_yes g) (refuses_no h)

  -- it is refused for one reason
  pub one_refusal : {p : Place} {r : Record} {f g : ReplayFault} → Refuses net at p r f → Refuses net at p r g → f ≡ g
  one_refusal {p} {r} {f} {g} h k = one_no (questions net at p r) f g (refuses_no h) (refuses_no k)
