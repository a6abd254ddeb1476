-- A record leads to one place.
use Rattle.std.proofs.Common.{◌≡◌, suc, ◌+◌, [], ◌∷◌, sym, refl, ◌∙◌}
use Rattle.net.specs.Nets.{Net}
use Rattle.net.specs.Settings.{closing}
use Rattle.trees.specs.Cuts.{swapped}
use Rattle.stream.specs.Records.{Record, N, S, F, B, Z}
use Rattle.replay.specs.Places.{Place, unopened, starting, walking, ended, all_open, begun, Goes, opens, starts, forward, back, ends}

-- where a record that is taken leads; for any other the place is of no account
abbrev after : Net → Place → Record → Place
after net unopened r = begun net (all_open net) 0
after net (starting T count) (S l) = begun net (closing T l) (suc count)
after net (starting T count) (N bars links) = unopened
after net (starting T count) (F out into) = unopened
after net (starting T count) (B out into) = unopened
after net (starting T count) (Z n) = unopened
after net (walking start T pending shown) (F out into) = walking start (swapped T out into) ((out, into) ∷ pending) (shown + 1)
after net (walking start T [] shown) (B out into) = unopened
after net (walking start T (p ∷ pending) shown) (B out into) = walking start (swapped T out into) pending shown
after net (walking start T pending shown) (Z n) = ended start shown
after net (walking start T pending shown) (N bars links) = unopened
after net (walking start T pending shown) (S l) = unopened
after net (ended start shown) r = unopened

goes_after : {net : Net} {p q : Place} {r : Record} → Goes net p r q → q ≡ after net p r
goes_after (opens same-bars same_links) = refl
goes_after (starts served is_open radial) = refl
goes_after (forward ne room served is_open on_loop) = refl
goes_after back = refl
goes_after ends = refl

pub one_place : {net : Net} {p q s : Place} {r : Record} → Goes net p r q → Goes net p r s → q ≡ s
one_place g h = goes_after g ∙ sym (goes_after h)
