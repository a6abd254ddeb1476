-- Rows of bytes, one a link, that stand for settings. Assumes nothing.
use Rattle.std.specs.Prelude.{◌≡◌, ℕ, cond, List, map, length, Result, MatchResult}
use Rattle.faults.specs.declared.BoardFault.{BoardFault}
use Rattle.faults.specs.declared.BoardFault.TheVariants.{RowLength}
use Rattle.net.specs.Nets.{Net}
use Rattle.net.specs.Settings.{Setting}

-- A row has one byte a link.
abbrev pub OneALink : Net → List ℕ → Type 0
OneALink net row = length row ≡ length net.links

-- The row of a setting: 1 for a closed link, 0 for an open one.
abbrev pub row_of : Setting → List ℕ
row_of T = map (λ c. cond c 1 0) T

-- A row of one byte a link takes the setting; any other is refused and stays as it was.
abbrev pub Presents : Net → Setting → List ℕ → Result (Unit {0}) BoardFault → List ℕ → Type 0
Presents net T row r row' = MatchResult r (λ _. OneALink net row × (row' ≡ row_of T)) (λ f. (¬ OneALink net row) × (f ≡ RowLength) × (row' ≡ row))
