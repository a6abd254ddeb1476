use Rattle.std.proofs.Common.{sym, ◌∙◌}
use Rattle.net.proofs.Pairs.{length_pairs}
use Rattle.net.proofs.sources.count_pairs.Goals as goal

pub returns : goal.returns
returns c = c.as_chunks.ensures.front_len ∙ sym (length_pairs c.args.row.now)
