use Rattle.std.proofs.Common.{◌≡◌, ◌+◌, ◌-◌, ◌≤◌, length, sym, ◌∙◌, arith}
use Rattle.lines.specs.Shown.{setting_shown}
use Rattle.lines.proofs.Decimals.{link_short}
use Rattle.lines.proofs.Numbers.{few_links, pass_closed, pass_open}
use Rattle.lines.proofs.print.write_links.Goals as goal
use Rattle.lines.proofs.print.write_links.Goals.{then-has_closed, else-has_closed}

pub write_spaced-start-requires : goal.write_spaced-start-requires
write_spaced-start-requires c =
    let at = c.loop-link in
    let s = c.args.shown.now in
    let here : at.link ≤ length (setting_shown s) = omega (arith, at.auto.link, c.links-link.ensures) in (
      omega (arith, link_short at.link (omega (arith, here, few_links s)), at.invariant.short, c.loop-link-test.true, here, c.requires),
      omega (arith, at.invariant.below, at.auto.line, c.requires),
    )

pub loop-link-preserved : goal.loop-link-preserved
loop-link-preserved c =
    let at = c.loop-link in
    let s = c.args.shown.now in
    let T = setting_shown s in
    let n = length T in
    let low : 1 ≤ at.link = omega (arith, c.loop-link-test.true) in
    let here : at.link ≤ n = omega (arith, at.auto.link, c.links-link.ensures) in
    let z : at.link - 1 + 1 ≡ at.link = omega arith in
    elim c.if-has_closed.branch [
      | then-has_closed w ↦
          rw (z, w.start-is, w.line-is) (pass_closed T n at.link c.args.end at.start c.args.line.now at.line low here at.invariant w.write_spaced-start.result w.write_spaced-start.new.line (few_links s)
          (sym c.has_closed.ensures ∙ w.if-has_closed.true) w.write_spaced-start.ensures.start w.write_spaced-start.ensures.written)
      | else-has_closed w ↦ rw (z, w.start-is, w.line-is) (pass_open T n at.link c.args.end at.start c.args.line.now at.line low here at.invariant (sym c.has_closed.ensures ∙ w.if-has_closed.false))
    ]
