use Rattle.std.proofs.Common.{◌≡◌, Some, ◌∷◌, ◌++◌, [], refl, vec_items, ap, ◌∙◌, append_assoc, rules, arith}
use borrow.Author.Tests.{tests}
use Rattle.std.specs.Slice.Iter.{split_inclusive_rest}
use Rattle.std.proofs.lemmas.Slice.{pushed}
use Rattle.std.proofs.lemmas.Result.{err_from_is_err_and}
use Rattle.faults.specs.declared.TextFault.{TextFault}
use Rattle.text.proofs.SplitLines.{given_cut}
use Rattle.text.proofs.LineEnds.{first_line, other_link}
use Rattle.text.proofs.LinkRows.{reading_none, reading_more, reading_ends}
use Rattle.text.proofs.reader.read.Goals as goal

pub returns-in_err-bars-clause-answer : goal.returns-in_err-bars-clause-answer
returns-in_err-bars-clause-answer c =
    let cut = given_cut c.split_inclusive-lines.result c.next.new.self c.next.result c.next.ensures.steps (λ f a b f' k. search (rules, tests)) in
    let said = first_line c.args.text.now (split_inclusive_rest c.next.new.self) c.next.result c.and_then.result (rw c.split_inclusive-lines.ensures.rest at cut) c.and_then.ensures in
    let p = err_from_is_err_and c.from_residual.result c.from_residual.ensures.1 in
    let e : c.in_err-bars.field-0.0 ≡ TextFault.NotInForm 1 = search rules in
    rw (p.1, p.2, e) (omega arith, rw c.in_err-bars.ensures.ok_part at said)

pub loop-line-init : goal.loop-line-init
loop-line-init c =
    let cut = given_cut c.split_inclusive-lines.result c.next.new.self c.next.result c.next.ensures.steps (λ f a b f' k. search (rules, tests)) in
    let rest = split_inclusive_rest c.next.new.self in
    let said = first_line c.args.text.now rest c.next.result c.and_then.result (rw c.split_inclusive-lines.ensures.rest at cut) c.and_then.ensures in
    let (fits, e) = rw c.in_ok-bars.ensures.ok_part at said in
    let reading = reading_none c.args.text.now rest c.in_ok-bars.bars fits e (vec_items c.clear.new.self) c.clear.ensures.items in
    let left : split_inclusive_rest c.into_iter-line-iterator.result.a ≡ rest = search rules in
    let two : c.into_iter-line-iterator.result.b.start ≡ 2 = search rules in
    record { reading = rw (left, two) reading; room = omega arith }

pub returns-in_err-a-clause-answer : goal.returns-in_err-a-clause-answer
returns-in_err-a-clause-answer c =
    let s = c.loop-line.line-iterator in
    let t = c.next-in-loop-line.new.self in
    let (item, number) = c.in-Some.ensures.steps in
    let cut = given_cut s.a t.a (Some c.in-Some.line) item (λ f a b f' k. search (rules, tests)) in
    let none = other_link (split_inclusive_rest s.a) c.in-Some.line.now (split_inclusive_rest t.a) cut (rw c.in_err-a.ensures.ok_part at c.link_line.ensures) in
    let p = err_from_is_err_and c.from_residual-in_err-a.result c.from_residual-in_err-a.ensures.1 in
    let e : c.in_err-a.field-0.0 ≡ TextFault.NotInForm c.in-Some.number = search rules in
    let ends = reading_ends c.args.text.now c.in_ok-bars.bars (vec_items c.loop-line.row) (split_inclusive_rest s.a) s.b.start c.loop-line.invariant.reading cut.some none in
    rw (p.1, p.2, e, number.0) (omega arith, ends)

pub loop-line-preserved : goal.loop-line-preserved
loop-line-preserved c =
    let s = c.loop-line.line-iterator in
    let t = c.next-in-loop-line.new.self in
    let (item, number) = c.in-Some.ensures.steps in
    let cut = given_cut s.a t.a (Some c.in-Some.line) item (λ f a b f' k. search (rules, tests)) in
    let (fits, is) = rw c.in_ok-a.ensures.ok_part at c.link_line.ensures in
    let row = vec_items c.loop-line.row in
    let one = pushed (c.in_ok-a.a ∷ []) refl c.in_ok-push.was c.push.ensures.items in
    let two = pushed (c.in_ok-a.b ∷ []) one c.in_ok-push-2.was c.push-in-loop-line.ensures.items in
    let more = split_inclusive_rest t.a in
    let reading = reading_more c.args.text.now c.in_ok-bars.bars row (split_inclusive_rest s.a) more s.b.start c.in_ok-a.a c.in_ok-a.b c.loop-line.invariant.reading fits
    (cut.parts ∙ ap (λ w. w ++ more) is) (vec_items c.push-in-loop-line.new.self) (two ∙ append_assoc row (c.in_ok-a.a ∷ []) (c.in_ok-a.b ∷ [])) in
    record { reading = rw (number.1, number.0) reading; room = search rules }
