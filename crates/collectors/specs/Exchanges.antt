-- What an exchange says. Assumes nothing.
use Rattle.std.specs.Prelude.{Bool, true, false}
use Rattle.trees.specs.Listings.{Exchanged}
use Rattle.collectors.specs.declared.exchange.Kind.{Kind}
use Rattle.collectors.specs.declared.exchange.Exchange.{Exchange}

-- Whether an exchange goes forward, to a child, and not back to a parent.
abbrev pub is_forward : Kind → Bool
is_forward Kind.Forward = true
is_forward Kind.Back = false

-- An exchange as the listing has it.
abbrev pub said_by : Exchange → Exchanged
said_by x = (is_forward x.kind, (x.link_out, x.link_in))
