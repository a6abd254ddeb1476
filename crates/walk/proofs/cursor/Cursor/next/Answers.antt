use Rattle.std.proofs.Common.{sym, subst}
use Rattle.trees.specs.Rules.{start_link_of}
use Rattle.search.specs.Descents.{link_at}
use Rattle.collectors.specs.Links.{MayExchange}
use Rattle.walk.specs.Cursors.{net_at}
use Rattle.walk.proofs.Moved.{next_exchange, last_exchange}
use Rattle.walk.proofs.cursor.Cursor.next.Goals as goal

pub exchange-requires : goal.exchange-requires
exchange-requires c =
    let at = c.args.self.now in
    subst (λ k. MayExchange (start_link_of (net_at at) k) (link_at (net_at at) c.in-Some.entering)) (sym c.ceiling-leaving.ensures) (next_exchange at c.in-Some.entering c.in-Some.is)

pub exchange-requires-in-None : goal.exchange-requires-in-None
exchange-requires-in-None c =
    last_exchange c.args.self.now.search (c.in_ok-moved-in-None.moved.leaving, c.in_ok-moved-in-None.moved.entering) (sym c.in_ok-moved-in-None.ensures)
