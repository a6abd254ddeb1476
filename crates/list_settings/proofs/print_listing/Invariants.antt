use Rattle.walk.specs.Calls.{left_after}
use Rattle.walk.specs.Walks.{net_of_walk, handed_by}
use Rattle.list_settings.proofs.print_listing.Given as goal

-- the exchanges that are left
abbrev pub decreases-loop-walk : goal.decreases-loop-walk
decreases-loop-walk l = left_after (net_of_walk l.walk) (handed_by l.walk)
