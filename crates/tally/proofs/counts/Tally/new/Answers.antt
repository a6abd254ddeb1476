use Rattle.std.proofs.Common.{length, sym, ap, ◌∙◌, arith}
use Rattle.std.proofs.lemmas.List.{length-map}
use Rattle.survey.specs.Answers.{net_of}
use Rattle.tally.specs.Counts.{counts_to}
use Rattle.tally.specs.Tables.{count_of}
use Rattle.tally.proofs.Starts.{start_long, start_counts_to}
use Rattle.tally.proofs.counts.Tally.new.Goals as goal

pub invariant_of-result : goal.invariant_of-result
invariant_of-result c =
    let net = net_of c.args.site.now in
    let e = c.start_table.ensures in
    record { long = sym (length-map c.start_table.result count_of) ∙ ap length e ∙ start_long net; few = omega arith; counted = ap (counts_to 1) e ∙ start_counts_to net }
