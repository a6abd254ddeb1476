use Rattle.text.proofs.Cut.{no_two_numbers, two_parts}
use Rattle.text.proofs.numbers.two_numbers.Goals as goal

pub returns-in_err-a : goal.returns-in_err-a
returns-in_err-a c = rw c.from_residual.ensures (no_two_numbers c.args.bytes.now c.in_err-a.ensures)

pub returns-in_err-number : goal.returns-in_err-number
returns-in_err-number c = rw c.from_residual-in_err-number.ensures (λ a b ha hb e.
    let (free, parts) = c.in_ok-a.ensures in
    c.in_err-number.ensures a ha (two_parts c.args.bytes.now c.in_ok-a.a.now c.in_ok-a.b.now free parts a b ha e).0)

pub returns-in_err-number-2 : goal.returns-in_err-number-2
returns-in_err-number-2 c = rw c.from_residual-in_err-number-2.ensures (λ a b ha hb e.
    let (free, parts) = c.in_ok-a.ensures in
    c.in_err-number-2.ensures b hb (two_parts c.args.bytes.now c.in_ok-a.a.now c.in_ok-a.b.now free parts a b ha e).1)
