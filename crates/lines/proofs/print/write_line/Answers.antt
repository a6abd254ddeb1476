use Rattle.std.proofs.Common.{[], ◌∷◌, ◌++◌, decimal, sym, ap, ◌∙◌, append_assoc, arith}
use Rattle.std.specs.List.{flat_map}
use Rattle.std.proofs.lemmas.List.{length-set}
use Rattle.lines.specs.Texts.{closed_numbers, spaced}
use Rattle.lines.specs.Shown.{setting_shown}
use Rattle.lines.proofs.Decimals.{decimal_short}
use Rattle.lines.proofs.Numbers.{few_links}
use Rattle.lines.proofs.Ends.{line_end}
use Rattle.lines.proofs.print.write_line.Goals as goal

pub write_digits-requires : goal.write_digits-requires
write_digits-requires c = (
  omega (arith, decimal_short c.args.number (omega arith), c.write_links-start.ensures.room, few_links c.args.shown.now),
  omega (arith, c.write_links-start.ensures.room, c.write_links-start.auto.line, length-set c.args.line.now 200 10, c.told-line),
)

pub returns-clause-written : goal.returns-clause-written
returns-clause-written c =
    let links = flat_map spaced (closed_numbers (setting_shown c.args.shown.now)) in
    c.write_digits.ensures.written
    ∙ ap (λ xs. decimal c.args.number ++ xs) (c.write_links-start.ensures.written ∙ ap (λ xs. links ++ xs) (line_end c.args.line.now 200 c.told-line))
    ∙ sym (append_assoc (decimal c.args.number) links (10 ∷ []))
