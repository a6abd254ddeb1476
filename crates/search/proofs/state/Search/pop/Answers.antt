use Rattle.std.proofs.Common.{◌≡◌, ◌≤◌, true, length, get_or, ap, ◌∙◌, ap₂, sym, subst, arith}
use Rattle.survey.specs.Answers.{net_of}
use Rattle.survey.proofs.Whole.{surveyed_fits, surveyed_reached}
use Rattle.trees.specs.Cuts.{swapped}
use Rattle.flood.specs.Marked.{switched, fed_in}
use Rattle.search.specs.Descents.{setting_at, descends}
use Rattle.search.specs.Frames.{descent_in, feds_in, fed_without, feds_along, start_feds, start_feds_in}
use Rattle.search.specs.States.{net_in}
use Rattle.search.proofs.Places.{start_found, link_found}
use Rattle.search.proofs.Moves.{descent_shallow, pop_here, pop_along, pop_down, pop_shown}
use Rattle.search.proofs.state.Search.pop.Goals as goal

pub invariant_of-self : goal.invariant_of-self
invariant_of-self c =
    let s = c.args.self.now in
    let net = net_in s in
    let x = c.index-self-last.result in
    let n = c.args.last in
    let frame = get_or s.frames n x in
    let m = frame.moved in
    let T = switched c.swap.new.switches in
    let hi : s.depth ≤ length s.frames = omega (arith, s.shallow, s.long) in
    let e = ap net_of (sym c.swap.ensures.site) in
    let down = pop_down net s.frames s.depth n x c.requires hi s.ceiling s.down in
    let shown = pop_shown net s.frames s.depth n x c.requires hi (surveyed_fits s.switches.site) (surveyed_reached s.switches.site) s.ceiling (switched s.switches) T s.down s.shown
    (c.swap.ensures.row
    ∙ ap₂ (λ g e. swapped (switched s.switches) g e) (link_found s.switches.site c.site-2.result.now m.entering c.link_at_rank-entering.result c.site-2.ensures c.link_at_rank-entering.ensures) (start_found s.switches.site c.site.result.now m.leaving c.start_link-leaving.result c.site.ensures c.start_link-leaving.ensures)) in
    record {
      long = s.long;
      room = s.room;
      shallow = descent_shallow net (surveyed_fits s.switches.site) s.frames n m.leaving down;
      begun = subst (λ k. start_feds_in k s.starts ≡ start_feds k) e s.begun;
      down = subst (λ k. descends k (descent_in s.frames n) m.leaving ≡ true) e down;
      shown = subst (λ k. T ≡ setting_at k (descent_in s.frames n)) e shown;
      here = λ lo. subst (λ k. fed_in k frame.fed ≡ fed_without k (setting_at k (descent_in s.frames n)) m.leaving) e (pop_here net s.frames s.depth n x c.requires hi s.along);
      along = subst (λ k. feds_in k s.frames n ≡ feds_along k (descent_in s.frames n)) e (pop_along net s.frames s.depth n x c.requires hi s.along);
    }
