use Rattle.std.proofs.Common.{◌≡◌, ◌<◌, ◌≤◌, ◌^◌, ◌⊎◌, inl, inr, sym, ◌∙◌, arith, rules}
use Rattle.net.proofs.Ladders.{ladder_rail, ladder_rung, ladder_past}
use Rattle.net.proofs.sources.ladder_ends.Goals as goal

pub returns-in_err-link : goal.returns-in_err-link
returns-in_err-link c =
    let past : 2 ^ 32 ≤ c.args.link = search rules in
    c.from_residual.ensures ∙ sym (ladder_past c.args.rungs c.args.link (λ (_, hi). omega arith))

pub returns-then-contains : goal.returns-then-contains
returns-then-contains c =
    let same : c.in_ok-link.link ≡ c.args.link = search rules in
    let within : (1 ≤ c.in_ok-link.link) × (c.in_ok-link.link ≤ c.rail_links-rail.result) = search rules in
    rw same (sym (ladder_rail c.args.rungs c.args.link (omega arith) (omega arith)))

pub returns-then-not-contains : goal.returns-then-not-contains
returns-then-not-contains c =
    let same : c.in_ok-link.link ≡ c.args.link = search rules in
    let out : (c.in_ok-rung.rung < 1) ⊎ (c.from-rungs.result ≤ c.in_ok-rung.rung) = search rules in
    sym (ladder_past c.args.rungs c.args.link (λ (lo, hi). elim out [ inl p ↦ grind arith | inr p ↦ omega arith ]))

pub returns : goal.returns
returns c =
    let same : c.in_ok-link.link ≡ c.args.link = search rules in
    let within : (1 ≤ c.in_ok-rung.rung) × (c.in_ok-rung.rung < c.from-rungs.result) = search rules in
    rw c.from-rungs.ensures (sym (ladder_rung c.args.rungs c.args.link c.in_ok-rung.rung (omega arith) (omega arith) (omega arith)))
