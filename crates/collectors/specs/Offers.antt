-- What a collector does with an exchange that it is offered. Assumes nothing.
use Rattle.std.specs.Prelude.{◌≡◌, ℕ, ◌+◌, Result, MatchResult}
use Rattle.faults.specs.declared.CollectorFault.{CollectorFault}
use Rattle.faults.specs.declared.CollectorFault.TheVariants.{Full}
use Rattle.trees.specs.Listings.{Exchanged}

-- With spare left it is taken: the sum moves by the rule and the spare falls by 1. With none it is refused, and nothing changes.
abbrev pub Offered : {Sum : Type 0} → (Sum → Exchanged → Sum) → Sum → ℕ → Exchanged → Result (Unit {0}) CollectorFault → Sum → ℕ → Type 0
Offered rule sum spare x r sum' spare' = MatchResult r (λ _. (spare ≡ spare' + 1) × (sum' ≡ rule sum x)) (λ f. (f ≡ Full) × (spare ≡ 0) × (spare' ≡ 0) × (sum' ≡ sum))
