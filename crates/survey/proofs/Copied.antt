-- A net in a table of links.
use Rattle.std.proofs.Common.{◌≡◌, ℕ, zero, suc, ◌+◌, ◌<◌, ◌≤◌, true, List, length, get_or, take, None, Option, ap, ◌∙◌, arith, subst}
use denote.Param.Members.{Mut}
use native.Mathlib.Decide.{ℕ_discrete}
use Rattle.std.specs.Array.{IsFromFnResultFrom, IsFromFnResult}
use Rattle.std.specs.Fn.{Called}
use Rattle.std.proofs.lemmas.List.{length-take-le, get_or-take, ext_get_or}
use Rattle.net.specs.Nets.{Net, ends_of}
use Rattle.net.specs.Limits.{WithinLimits}
use Rattle.net.specs.Tested.{within_limits}
use Rattle.net.proofs.Tested.{within_tested}
use Rattle.survey.specs.Copies.{table_net}

module _ (table : List (Option (ℕ × ℕ))) (n : ℕ) (room : n ≤ length table) where
  -- a table filled from a net holds that net
  pub table_filled : (net : Net) (bars : ℕ) → bars ≡ net.bars → n ≡ length net.links
      → ((k : ℕ) → k < n → get_or table k None ≡ ends_of net (suc k)) → table_net bars n table ≡ net
  table_filled net bars b e f =
      ap (λ m. table_net m n table) b
      ∙ ap (λ ls. record { bars = net.bars; links = ls }) (ext_get_or None (take n table) net.links (length-take-le n table room ∙ e)
      (λ k h. let lt : k < n = rw (length-take-le n table room) at h in get_or-take n table k None lt ∙ f k lt))

  pub table_within : (net : Net) (bars : ℕ) → bars ≡ net.bars → n ≡ length net.links
      → ((k : ℕ) → k < n → get_or table k None ≡ ends_of net (suc k)) → WithinLimits net → within_limits (table_net bars n table) ≡ true
  table_within net bars b e f w = ap within_limits (table_filled net bars b e f) ∙ within_tested net w

-- a table made by a function of the place holds what the function gives there
module _ {F B : Type 0} (g : Mut F (ℕ × Unit {0}) B) (f : F) (h : ℕ → B) (gives : (q : F) (i : ℕ) (y : B) → Called g f (i, tt) y q → (q ≡ f) × (y ≡ h i)) where
  made_from : (n i : ℕ) (ys : List B) → IsFromFnResultFrom g f ys i n → (d : B) (k : ℕ) → i ≤ k → k < i + n → get_or ys k d ≡ h k
  made_from zero i ys m d k lo hi = absurd (omega arith)
  made_from (suc n) i ys (q, y, e, w, m) d k lo hi =
      let (s, v) = gives q i y w in
      elim (ℕ_discrete k i) [
        | yes z ↦ rw z (e.1 d ∙ v)
        | no ne ↦ made_from n (i + 1) ys (subst (λ p. IsFromFnResultFrom g p ys (i + 1) n) s m) d k (omega arith) (omega arith)
      ]

pub table_made : {F B : Type 0} {g : Mut F (ℕ × Unit {0}) B} {f : F} {ys : List B} {n : ℕ} → IsFromFnResult g f ys n
    → (h : ℕ → B) → ((q : F) (i : ℕ) (y : B) → Called g f (i, tt) y q → (q ≡ f) × (y ≡ h i)) → (d : B) (k : ℕ) → k < n → get_or ys k d ≡ h k
table_made {F} {B} {g} {f} {ys} {n} r h gives d k lt = made_from g f h gives n 0 ys r.each d k (omega arith) (omega arith)
