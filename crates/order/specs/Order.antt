-- 01's order of records: the first is NETWORK, then all LINKs, then any of the rest. Assumes nothing.
use Rattle.std.specs.Prelude.{Bool, true, false, not}
use Rattle.stream.specs.declared.Item.{Item}
use Rattle.stream.specs.declared.Item.TheVariants.{Network, Link, Change, Apply, Ask, End, UnknownKind, CutShort}
use Rattle.order.specs.declared.Phase.{Phase}
use Rattle.order.specs.declared.Phase.TheVariants.{Unread, Linking, Routing}

abbrev pub is_unread : Phase → Bool
is_unread Unread = true
is_unread Linking = false
is_unread Routing = false

abbrev pub is_linking : Phase → Bool
is_linking Unread = false
is_linking Linking = true
is_linking Routing = false

-- an empty stream is out of order too; what is no record is refused by its own number
abbrev pub in_order : Phase → Item → Bool
in_order phase (Network nodes root) = is_unread phase
in_order phase (Link start end cost) = is_linking phase
in_order phase (Change link cost) = not (is_unread phase)
in_order phase Apply = not (is_unread phase)
in_order phase (Ask node) = not (is_unread phase)
in_order phase End = not (is_unread phase)
in_order phase (UnknownKind place) = true
in_order phase (CutShort place) = true
