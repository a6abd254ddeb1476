use Rattle.std.proofs.Common.{sym, refl, ap, ◌∙◌, ap₂}
use Rattle.std.proofs.lemmas.Bool.{false≢true}
use Rattle.search.specs.States.{net_in, descent_of, setting_of, ceiling_of}
use Rattle.walk.specs.Rests.{past, climb, to_come, may_come_next}
use Rattle.walk.proofs.Nexts.{lowered, settled, none_next}
use Rattle.walk.proofs.cursor.steps.settle.Goals as goal

pub loop-search-init : goal.loop-search-init
loop-search-init c = (refl, refl, (c.args.above, c.entering_above-entering.ensures, refl))

pub loop-search-preserved : goal.loop-search-preserved
loop-search-preserved c =
    let s = c.loop-search.search in
    let s' = c.lower.new.self in
    let (same, way, (m, next, coming)) = c.loop-search.invariant in
    let moved = c.if-lower.ensures in
    let (_, none) = none_next (net_in s) (setting_of s) (ceiling_of s) m c.loop-search.entering c.loop-search-test.ensures next in (
      moved.net ∙ same,
      moved.moved.0 ∙ way,
      (0, c.entering_above-entering-in-loop-search.ensures, lowered s s' m moved.net moved.moved.0 moved.moved.1 none ∙ coming),
    )

pub returns-after-loop-search : goal.returns-after-loop-search
returns-after-loop-search c =
    let s = c.loop-search.search in
    let (same, way, (m, next, coming)) = c.loop-search.invariant in
    let (may, to) = settled s m c.loop-search.entering (λ e. absurd (false≢true (sym e ∙ c.loop-search-test.ensures))) next in
    record { net = same; setting = way; enters = may; coming = to ∙ coming }

pub returns-else-lower : goal.returns-else-lower
returns-else-lower c =
    let s = c.loop-search.search in
    let s' = c.lower.new.self in
    let (same, way, (m, next, coming)) = c.loop-search.invariant in
    let moved = c.if-lower.ensures in
    let (is, none) = none_next (net_in s) (setting_of s) (ceiling_of s) m c.loop-search.entering c.loop-search-test.ensures next in
    record {
      net = moved.net ∙ same;
      setting = moved.moved.0 ∙ way;
      enters = ap (may_come_next (net_in s') (descent_of s') (ceiling_of s')) is;
      coming = ap (to_come (net_in s') (descent_of s') (ceiling_of s')) is
          ∙ ap₂ climb moved.net moved.moved.0
          ∙ ap (λ k. past (net_in s) (setting_of s) k m (climb (net_in s) (descent_of s))) (sym moved.moved.1)
          ∙ coming;
    }
