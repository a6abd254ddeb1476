use Rattle.std.proofs.Common.{rules}
use Rattle.net.proofs.Ladders.{ladder_links}
use Rattle.net.proofs.sources.count_links.Goals as goal

pub returns : goal.returns
returns c = search (rules, ladder_links)
