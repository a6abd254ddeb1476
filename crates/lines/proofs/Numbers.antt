-- The closed links of a setting, written from the highest number down.
use Rattle.std.proofs.Common.{◌≡◌, ℕ, suc, ◌+◌, ◌-◌, ◌*◌, ◌≤◌, true, false, cond, List, ◌∷◌, ◌++◌, length, drop, filter, sym, ap, ◌∙◌, append_assoc, arith}
use Rattle.std.specs.List.{range_with_len, flat_map}
use Rattle.std.proofs.lemmas.List.{length-take}
use Rattle.net.specs.Nets.{nth}
use Rattle.net.specs.Settings.{Setting}
use Rattle.lines.specs.declared.shown.Shown.{Shown}
use Rattle.lines.specs.Texts.{spaced}
use Rattle.lines.specs.Shown.{setting_shown}
use Rattle.lines.proofs.Decimals.{link_short}

pub few_links : (s : Shown) → length (setting_shown s) ≤ 60
few_links s = omega (arith, length-take s.links s.closed.marked, s.few)

-- the closed links of the first n with numbers from k on
abbrev numbers_from : Setting → ℕ → ℕ → List ℕ
numbers_from T n k = filter (λ l. nth T l false) (range_with_len k (n + 1 - k))

-- and their text
abbrev pub links_from : Setting → ℕ → ℕ → List ℕ
links_from T n k = flat_map spaced (numbers_from T n k)

-- one number less
less : (n k : ℕ) → k ≤ n → n + 1 - k ≡ suc (n + 1 - (k + 1))
less n k h = omega arith

one_less : (T : Setting) (n k : ℕ) → k ≤ n → numbers_from T n k ≡ cond (nth T k false) (k ∷ numbers_from T n (k + 1)) (numbers_from T n (k + 1))
one_less T n k h = ap (λ m. filter (λ l. nth T l false) (range_with_len k m)) (less n k h)

closed_less : (T : Setting) (n k : ℕ) → k ≤ n → nth T k false ≡ true → links_from T n k ≡ spaced k ++ links_from T n (k + 1)
closed_less T n k h c = ap (flat_map spaced) (rw c at (one_less T n k h))

open_less : (T : Setting) (n k : ℕ) → k ≤ n → nth T k false ≡ false → links_from T n k ≡ links_from T n (k + 1)
open_less T n k h o = ap (flat_map spaced) (rw o at (one_less T n k h))

-- so far the links with numbers from k on are written, of at most three bytes each
pub record Passed (T : Setting) (n k end start : ℕ) (old line : List ℕ) : Type 0 where
  pub low : 1 ≤ k
  pub below : start ≤ end
  pub short : end ≤ start + 3 * (n + 1 - k)
  pub written : drop start line ≡ links_from T n k ++ drop end old

module _ (T : Setting) (n k end start : ℕ) (old line : List ℕ) (low : 1 ≤ k) (here : k ≤ n) (p : Passed T n (k + 1) end start old line) where
  pub pass_closed : (start' : ℕ) (line' : List ℕ) → n ≤ 60 → nth T k false ≡ true → start' + length (spaced k) ≡ start → drop start' line' ≡ spaced k ++ drop start line
      → Passed T n k end start' old line'
  pass_closed start' line' few c e q =
      let f = closed_less T n k here c in
      record {
        low = low;
        below = omega (arith, p.below, e);
        short = omega (arith, p.short, e, link_short k (omega arith), less n k here);
        written = q ∙ ap (λ xs. spaced k ++ xs) p.written ∙ sym (append_assoc (spaced k) (links_from T n (k + 1)) (drop end old)) ∙ ap (λ xs. xs ++ drop end old) (sym f);
      }

  pub pass_open : nth T k false ≡ false → Passed T n k end start old line
  pass_open o =
      let f = open_less T n k here o in
      record {
        low = low;
        below = p.below;
        short = omega (arith, p.short, less n k here);
        written = p.written ∙ ap (λ xs. xs ++ drop end old) (sym f);
      }
