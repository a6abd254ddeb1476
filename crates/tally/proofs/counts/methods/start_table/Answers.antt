use Rattle.std.proofs.Common.{rules}
use Rattle.survey.specs.Answers.{net_of}
use Rattle.tally.specs.Counts.{start_count, start_counts}
use Rattle.tally.specs.Tables.{count_of}
use Rattle.tally.proofs.Fills.{made_all}
use Rattle.tally.proofs.counts.methods.start_table.Goals as goal

pub returns : goal.returns
unfolding start_counts
returns c = made_all _ count_of (start_count (net_of c.args.site.now)) _ (λ i y q called. search rules) c.from_fn.result 60 c.from_fn.ensures.items
