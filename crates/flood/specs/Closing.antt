-- Which links may be closed. Assumes nothing.
use Rattle.std.specs.Prelude.{◌≡◌, ℕ, Result, MatchResult}
use Rattle.faults.specs.declared.BoardFault.{BoardFault}
use Rattle.faults.specs.declared.BoardFault.TheVariants.{RowLength, NotInService, NotOpen, OffLoop, NotRadial}
use Rattle.net.specs.Nets.{Net, InService}
use Rattle.net.specs.Settings.{Setting, Closed}

-- The first question about closing link l that is answered no.
abbrev pub NotClosable : Net → Setting → ℕ → BoardFault → Type 0
NotClosable net T l (NotInService k) = (k ≡ l) × (¬ InService net l)
NotClosable net T l (NotOpen k) = (k ≡ l) × InService net l × Closed T l
NotClosable net T l RowLength = ⊥
NotClosable net T l (OffLoop k) = ⊥
NotClosable net T l NotRadial = ⊥

-- Link l is in service and open, or this is the first question that is answered no.
abbrev pub MayClose : Net → Setting → ℕ → Result (Unit {0}) BoardFault → Type 0
MayClose net T l r = MatchResult r (λ _. InService net l × (¬ Closed T l)) (NotClosable net T l)
