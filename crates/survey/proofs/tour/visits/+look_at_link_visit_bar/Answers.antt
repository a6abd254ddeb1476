use Rattle.std.proofs.Common.{◌≡◌, ℕ, suc, ◌+◌, ◌-◌, ◌<◌, length, Some, None, sym, ap, ◌∙◌, arith}
use Rattle.std.proofs.lemmas.List.{length_push}
use Rattle.net.specs.Nets.{ends_of}
use Rattle.net.proofs.Tested.{tested_within}
use Rattle.survey.specs.Ranks.{rank_in}
use Rattle.survey.specs.Visits.{across, visit}
use Rattle.survey.specs.Listed.{listed}
use Rattle.survey.specs.Tables.{copied, toured}
use Rattle.survey.proofs.Steps.{none_from_test, some_from_test, across_bar, look_nowhere, look_visited, look_after, looks_none, looks_more, looks_all}
use Rattle.survey.proofs.Rows.{length_listed}
use Rattle.survey.proofs.tour.visits.+look_at_link_visit_bar.Goals as goal
use Rattle.survey.proofs.tour.visits.+look_at_link_visit_bar.Goals.{look_at_link-Else-is_some}

-- the bar that the link leads to
led : (t : ℕ) (c : goal.look_at_link-Else-is_some t) → across (ends_of (copied c.args.net.now) c.args.link) c.args.bar ≡ Some c.in-Some.other
led t c = ap (λ l. across (ends_of (copied c.args.net.now) l) c.args.bar) (sym c.from.ensures) ∙ sym c.in-Some.ensures

-- it is unvisited
unvisited : (t : ℕ) (c : goal.look_at_link-Else-is_some t) → rank_in (toured c.args.tour.now).order c.in-Some.other ≡ None
unvisited t c =
    ap (rank_in (toured c.args.tour.now).order) (sym c.from-2.ensures) ∙ sym c.rank_of.ensures
    ∙ none_from_test c.rank_of.result (sym c.is_some.ensures ∙ c.if-is_some.false)

pub look_at_link-find-requires : goal.look_at_link-find-requires
look_at_link-find-requires t c =
    let d = (goal.at.look_at_link-find-requires t c).Else-is_some in
    let w = tested_within (copied c.args.net.now) c.args.net.now.within in
    let (lo, hi) = across_bar (copied c.args.net.now) w c.args.link c.args.bar c.in-Some.other (led t d) in
    record { low = lo; high = omega (arith, w.few_bars); new = unvisited t d }

pub look_at_link-visit_bar-requires : goal.look_at_link-visit_bar-requires
look_at_link-visit_bar-requires t c =
    let e = ap (λ u. length u.order) c.find.ensures in
    (omega (arith, e, length_push (listed c.args.tour.now.order) c.in-Some.other, length_listed c.find.new.self.order, c.decreases), tt)

pub look_at_link-returns-in_default : goal.look_at_link-returns-in_default
look_at_link-returns-in_default t c =
    let net = copied c.args.net.now in
    let u = toured c.args.tour.now in
    let a = ap (λ l. across (ends_of net l) c.args.bar) (sym c.from.ensures) ∙ sym c.in_default.ensures in
    record {
      after = λ n k s l h f. looks_more net c.args.bar c.args.link n k s u u l f (look_nowhere net c.args.bar c.args.link n u a);
      grows = omega arith;
    }

pub look_at_link-returns-then-is_some : goal.look_at_link-returns-then-is_some
look_at_link-returns-then-is_some t c =
    let net = copied c.args.net.now in
    let u = toured c.args.tour.now in
    let a = ap (λ l. across (ends_of net l) c.args.bar) (sym c.from.ensures) ∙ sym c.in-Some.ensures in
    let (k, r) = some_from_test c.rank_of.result (sym c.if-is_some.ensures) in
    let v = ap (rank_in u.order) (sym c.from-2.ensures) ∙ sym c.rank_of.ensures ∙ r in
    record {
      after = λ n j s l h f. looks_more net c.args.bar c.args.link n j s u u l f (look_visited net c.args.bar c.args.link c.in-Some.other n u k a v);
      grows = omega arith;
    }

pub look_at_link-returns : goal.look_at_link-returns
look_at_link-returns t c =
    let d = (goal.at.look_at_link-returns t c).Else-is_some in
    let net = copied c.args.net.now in
    let b = c.find.new.self in
    let e = ap (λ u. length u.order) c.find.ensures in
    let room : length (toured c.args.tour.now).order < 32 = omega (arith, e, length_push (listed c.args.tour.now.order) c.in-Some.other, length_listed b.order) in
    record {
      after = λ n k u l h f. looks_more net c.args.bar c.args.link n k u (toured c.args.tour.now) (toured c.visit_bar.new.tour) l f
          (look_after net c.args.bar c.args.link c.in-Some.other (toured c.args.tour.now) (toured c.visit_bar.new.tour) (led t d) (unvisited t d) room
          (λ m g. c.visit_bar.ensures.after m (omega (arith, e)) ∙ ap (visit (suc m) net c.in-Some.other) c.find.ensures) n h);
      grows = omega (arith, e, c.visit_bar.ensures.grows, length_push (listed c.args.tour.now.order) c.in-Some.other);
    }

pub visit_bar-loop-link-init : goal.visit_bar-loop-link-init
visit_bar-loop-link-init t c = (omega arith, omega arith, λ n h. looks_none (copied c.args.net.now) c.args.bar n (toured c.args.tour.now))

pub visit_bar-returns-clause-after : goal.visit_bar-returns-clause-after
visit_bar-returns-clause-after t c = λ n h.
    let z : c.loop-link.link - 1 ≡ length (copied c.args.net.now).links = omega (arith, c.loop-link-test.false, c.loop-link.invariant.0) in
    c.loop-link.invariant.2 n h ∙ looks_all (copied c.args.net.now) c.args.bar n (c.loop-link.link - 1) (toured c.args.tour.now) z

pub visit_bar-returns-2-clause-after : goal.visit_bar-returns-2-clause-after
visit_bar-returns-2-clause-after t c = λ n h.
    let z : c.loop-link.link ≡ c.loop-link.link - 1 + 1 = omega (arith, c.loop-link.auto.link) in
    let y : c.loop-link.link - 1 + 1 ≡ length (copied c.args.net.now).links = omega (arith, c.loop-link-test.true, c.loop-link.auto.link) in
    c.look_at_link.ensures.after n (c.loop-link.link - 1) (toured c.args.tour.now) z (omega (arith, h, c.loop-link.invariant.1)) (c.loop-link.invariant.2 n h)
    ∙ looks_all (copied c.args.net.now) c.args.bar n (c.loop-link.link - 1 + 1) (toured c.args.tour.now) y
