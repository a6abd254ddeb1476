use Rattle.std.proofs.Common.{vec_items, sym, refl, subst, arith}
use Rattle.std.specs.Vec.{with_items}
use Rattle.std.proofs.lemmas.List.{with_items_is}
use Rattle.flood.specs.Rows.{Presents}
use Rattle.walk.specs.Calls.{reached_after}
use Rattle.walk.specs.Walks.{net_of_walk, handed_by}
use Rattle.walk.proofs.Answered.{handed_within}
use Rattle.runs.proofs.Made.{advance_answered, look_answered, present_answered}
use Rattle.runs.proofs.driver.make.Goals as goal

pub returns-in-Advance : goal.returns-in-Advance
returns-in-Advance g c =
    let w = c.args.walk.now in
    let K = g.C.Collector in
    let (on, answered) = advance_answered K.sum K.spare K.rule (net_of_walk w) (handed_by w) (handed_within w) c.args.call.now (handed_by c.advance.new.self)
    c.in-Advance.allowance c.in-Advance.collector c.advance.new.collector c.in-Advance.answer c.advance.result c.in-Advance.is c.advance.ensures.advanced in
    record { net = c.advance.ensures.net; on = on; answered = answered }

pub returns-in-Look : goal.returns-in-Look
returns-in-Look g c =
    let w = c.args.walk.now in
    let K = g.C.Collector in
    record {
      net = refl;
      on = omega arith;
      answered = look_answered K.sum K.spare K.rule (net_of_walk w) (handed_by w) (handed_within w) c.args.call.now c.in-Look.answer c.look.result c.in-Look.is c.look.ensures.answer c.look.ensures.complete;
    }

pub returns-in-Present : goal.returns-in-Present
returns-in-Present g c =
    let w = c.args.walk.now in
    let K = g.C.Collector in
    let row = c.in-Present.row in
    let shown = subst (Presents (net_of_walk w) (reached_after (net_of_walk w) (handed_by w)) (vec_items row) c.present.result)
    (sym (with_items_is row c.present.new.row (omega (arith, c.present.auto.row, c.as_mut_slice.ensures.len))))
    (subst (λ xs. Presents (net_of_walk w) (reached_after (net_of_walk w) (handed_by w)) xs c.present.result c.present.new.row) c.as_mut_slice.ensures.value c.present.ensures) in
    record {
      net = refl;
      on = omega arith;
      answered = present_answered K.sum K.spare K.rule (net_of_walk w) (handed_by w) (handed_within w) c.args.call.now
          row (with_items row c.present.new.row) c.in-Present.answer c.present.result c.in-Present.is shown;
    }
