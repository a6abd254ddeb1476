use Rattle.std.proofs.Common.{◌≡◌, ℕ}
use Rattle.search.specs.Descents.{NextEntering}
use Rattle.search.specs.States.{net_in, descent_of, setting_of, ceiling_of}
use Rattle.walk.specs.Rests.{past, climb}
use Rattle.walk.proofs.cursor.steps.settle.Given as goal

-- the link found is the next one above some rank, past which the same is to come
abbrev pub invariant-loop-search : goal.invariant-loop-search
invariant-loop-search l =
    (net_in l.search ≡ net_in l.initial.search) × (descent_of l.search ≡ descent_of l.initial.search)
    × ((m : ℕ) × NextEntering (net_in l.search) (setting_of l.search) (ceiling_of l.search) m l.entering
    × (past (net_in l.search) (setting_of l.search) (ceiling_of l.search) m (climb (net_in l.search) (descent_of l.search))
    ≡ past (net_in l.initial.search) (setting_of l.initial.search) (ceiling_of l.initial.search) l.above (climb (net_in l.initial.search) (descent_of l.initial.search))))

abbrev pub decreases-loop-search : goal.decreases-loop-search
decreases-loop-search l = ceiling_of l.search
