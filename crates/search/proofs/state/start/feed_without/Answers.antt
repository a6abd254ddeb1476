use Rattle.search.proofs.Places.{start_there}
use Rattle.search.proofs.state.start.feed_without.Goals as goal

pub returns-in-None : goal.returns-in-None
returns-in-None c is = absurd (start_there c.args.switches.now.site c.site.result.now c.args.rank c.start_link.result c.site.ensures c.start_link.ensures is c.in-None.is)
