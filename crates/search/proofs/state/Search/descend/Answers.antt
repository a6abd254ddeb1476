use Rattle.std.proofs.Common.{◌-◌, ap, ◌∙◌, arith}
use Rattle.search.specs.Frames.{fed_without}
use Rattle.search.specs.States.{net_in, descent_of}
use Rattle.search.proofs.Depths.{descends_below, start_below}
use Rattle.search.proofs.state.Search.descend.Goals as goal

pub invariant_of-self : goal.invariant_of-self
invariant_of-self c =
    let s = c.args.self.now in
    let k = s.ceiling - 1 in
    let down = descends_below (net_in s) (descent_of s) k s.ceiling (omega arith) s.down in
    record {
      long = s.long;
      room = s.room;
      shallow = omega (arith, s.shallow);
      begun = s.begun;
      down = down;
      shown = s.shown;
      here = λ lo. c.feed_without-self.ensures (start_below (net_in s) (descent_of s) k down lo) ∙ ap (λ T. fed_without (net_in s) T k) s.shown;
      along = s.along;
    }
