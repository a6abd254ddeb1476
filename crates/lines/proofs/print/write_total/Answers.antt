use Rattle.std.proofs.Common.{◌++◌, codes, ap, ◌∙◌, arith}
use Rattle.std.proofs.lemmas.List.{length-set}
use Rattle.lines.specs.Texts.{spaced}
use Rattle.lines.proofs.Decimals.{decimal_short}
use Rattle.lines.proofs.Ends.{line_end}
use Rattle.lines.proofs.print.write_total.Goals as goal

pub write_spaced-start-requires : goal.write_spaced-start-requires
write_spaced-start-requires c = (
  omega (arith, decimal_short c.args.settings (omega arith)),
  omega (arith, length-set c.args.line.now 26 10, c.told-line),
)

pub write_word-requires : goal.write_word-requires
write_word-requires c = (
  omega (arith, decimal_short c.args.settings (omega arith), c.write_spaced-start.ensures.start),
  omega (arith, c.write_spaced-start.ensures.start, c.write_spaced-start.auto.line, length-set c.args.line.now 26 10, c.told-line),
)

pub returns-clause-written : goal.returns-clause-written
returns-clause-written c =
    c.write_word.ensures.written
    ∙ ap (λ xs. codes "total" ++ xs) (c.write_spaced-start.ensures.written ∙ ap (λ xs. spaced c.args.settings ++ xs) (line_end c.args.line.now 26 c.told-line))
