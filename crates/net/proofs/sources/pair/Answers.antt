use Rattle.std.proofs.Common.{[], sym, ◌∙◌, arith}
use Rattle.net.proofs.Pairs.{nth_pairs, nth_pairs_past}
use Rattle.net.proofs.sources.pair.Goals as goal

pub returns-in_err-a : goal.returns-in_err-a
returns-in_err-a c =
    let past = c.in_err-a.ensures.lookup.3 in
    c.from_residual-in_err-a.ensures ∙ sym (nth_pairs_past c.args.row.now c.args.number (omega (arith, c.as_chunks.ensures.front_len, past)))

pub returns-in-0 : goal.returns-in-0
returns-in-0 c =
    let (lt, at) = c.in_ok-a.ensures.lookup.3 in
    let pair = c.in_ok-a.field-0.now in
    rw (nth_pairs c.args.row.now pair c.as_chunks.result.0.now c.args.number c.in_ok-checked_sub.field-0 c.as_chunks.ensures.front lt (omega arith) (at [])) (grind arith)

pub returns-in_default : goal.returns-in_default
returns-in_default c =
    let (lt, at) = c.in_ok-a.ensures.lookup.3 in
    let pair = c.in_ok-a.field-0.now in
    rw (nth_pairs c.args.row.now pair c.as_chunks.result.0.now c.args.number c.in_ok-checked_sub.field-0 c.as_chunks.ensures.front lt (omega arith) (at [])) (grind arith)
