use Rattle.tally.proofs.Starts.{start_by_rank}
use Rattle.std.proofs.Common.{rules}
use Rattle.tally.proofs.counts.methods.is_start.Goals as goal

pub returns : goal.returns
returns c = start_by_rank c.args.site.now c.args.link c.rank_of_link.result c.is_some_and.result c.rank_of_link.ensures (search rules)
