-- What a cursor means: a place in the listing of a net. Assumes nothing.
use Rattle.std.specs.Prelude.{List}
use Rattle.net.specs.Nets.{Net}
use Rattle.net.specs.Settings.{Setting}
use Rattle.trees.specs.Rules.{start_link_of}
use Rattle.trees.specs.Listings.{Exchanged, forward, back}
use Rattle.search.specs.declared.state.Move.{Move}
use Rattle.search.specs.Descents.{link_at}
use Rattle.search.specs.States.{net_in, descent_of, setting_of, ceiling_of}
use Rattle.collectors.specs.declared.exchange.Kind.{Kind}
use Rattle.collectors.specs.Links.{MayExchange}
use Rattle.walk.specs.declared.cursor.Cursor.{Cursor}
use Rattle.walk.specs.Rests.{to_come}

-- The net whose listing it is.
abbrev pub net_at : Cursor → Net
net_at c = net_in c.search

-- The setting reached.
abbrev pub reached_at : Cursor → Setting
reached_at c = setting_of c.search

-- The exchanges still to come.
abbrev pub coming_at : Cursor → List Exchanged
coming_at c = to_come (net_in c.search) (descent_of c.search) (ceiling_of c.search) c.entering

-- The links of a move are two that may be exchanged.
abbrev pub MayMove : Net → Move → Type 0
MayMove net m = MayExchange (start_link_of net m.leaving) (link_at net m.entering)

-- The exchange of a move: its leaving link for its entering link, or back.
abbrev pub exchange_of : Kind → Net → Move → Exchanged
exchange_of Kind.Forward net m = forward (start_link_of net m.leaving) (link_at net m.entering)
exchange_of Kind.Back net m = back (link_at net m.entering) (start_link_of net m.leaving)
