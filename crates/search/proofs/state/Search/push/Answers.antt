use Rattle.std.proofs.Common.{◌≡◌, ◌+◌, ◌-◌, ◌<◌, true, length, set, ap, ◌∙◌, ap₂, sym, subst, arith}
use Rattle.std.proofs.lemmas.List.{length-set}
use Rattle.survey.specs.Answers.{net_of}
use Rattle.survey.proofs.Whole.{surveyed_fits, surveyed_reached}
use Rattle.trees.specs.Cuts.{swapped}
use Rattle.flood.specs.Marked.{switched}
use Rattle.search.specs.declared.state.Frame.{Frame}
use Rattle.search.specs.Descents.{setting_at, descends}
use Rattle.search.specs.Frames.{descent_in, feds_in, fed_without, feds_along, start_feds, start_feds_in}
use Rattle.search.specs.States.{net_in, descent_of}
use Rattle.search.proofs.Depths.{enters_test, start_below}
use Rattle.search.proofs.Places.{start_found, link_found}
use Rattle.search.proofs.Moves.{descent_shallow, descent_push, push_shown, push_down, push_along}
use Rattle.search.proofs.state.Search.push.Goals as goal

pub invariant_of-self : goal.invariant_of-self
invariant_of-self c =
    let s = c.args.self.now in
    let net = net_in s in
    let k = s.ceiling in
    let f : Frame = record { moved = record { leaving = k; entering = c.args.rank }; fed = s.fed } in
    let fs = set s.frames s.depth f in
    let d = descent_in fs (s.depth + 1) in
    let T = switched c.swap.new.switches in
    let hi : s.depth < length s.frames = omega (arith, s.shallow, s.long) in
    let k1 = c.requires.0.0 in
    let en = enters_test net (surveyed_fits s.switches.site) (surveyed_reached s.switches.site) (descent_of s) k c.args.rank s.down c.requires in
    let e = ap net_of (sym c.swap.ensures.site) in
    let old = push_down net s.frames s.depth f hi k1 en s.down in
    let down = subst (λ m. descends m d (k - 1) ≡ true) e old in
    let shown = subst (λ m. T ≡ setting_at m d) e (push_shown net s.frames s.depth f (switched s.switches) T hi s.shown
    (c.swap.ensures.row
    ∙ ap₂ (λ e g. swapped (switched s.switches) e g) (start_found s.switches.site c.site.result.now k c.start_link-leaving.result c.site.ensures c.start_link-leaving.ensures) (link_found s.switches.site c.site-2.result.now c.args.rank c.link_at_rank-entering.result c.site-2.ensures c.link_at_rank-entering.ensures))) in
    let net' = net_of c.swap.new.switches.site in
    record {
      long = length-set s.frames s.depth f ∙ s.long;
      room = s.room;
      shallow = descent_shallow net (surveyed_fits s.switches.site) fs (s.depth + 1) (k - 1) old;
      begun = subst (λ m. start_feds_in m s.starts ≡ start_feds m) e s.begun;
      down = down;
      shown = shown;
      here = λ lo. c.feed_without-self.ensures (start_below net' d (k - 1) down lo) ∙ ap (λ T. fed_without net' T (k - 1)) shown;
      along = subst (λ m. feds_in m fs (s.depth + 1) ≡ feds_along m d) e (push_along net s.frames s.depth f hi s.along (s.here k1));
    }

pub returns : goal.returns
returns c =
    let s = c.args.self.now in
    let f : Frame = record { moved = record { leaving = s.ceiling; entering = c.args.rank }; fed = s.fed } in
    record {
      net = ap net_of c.swap.ensures.site;
      setting = descent_push s.frames s.depth f (omega (arith, s.shallow, s.long));
      ceiling = omega (arith, c.requires.0.0);
    }
