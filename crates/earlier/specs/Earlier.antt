-- The earlier CHANGE that a link named twice is told with: the first that names the link, behind the last APPLY before a
-- place. Assumes nothing.
use Rattle.std.specs.Prelude.{Option, None, Some, cond, List, ℕ, zero, suc, eqb, leb}
use Rattle.std.specs.Option.{option_or, unwrap_or}
use Rattle.stream.specs.declared.Item.{Item}
use Rattle.stream.specs.declared.Item.TheVariants.{Network, Link, Change, Apply, Ask, End, UnknownKind, CutShort}
use Rattle.stream.specs.Records.{read_at}

-- what is found behind an item: an APPLY leaves nothing, a CHANGE of the link is found where nothing was
abbrev pub behind : Item → ℕ → ℕ → Option ℕ → Option ℕ
behind (Network nodes root) at link found = found
behind (Link start end cost) at link found = found
behind (Change named cost) at link found = cond (eqb named link) (option_or found (Some at)) found
behind Apply at link found = None
behind (Ask node) at link found = found
behind End at link found = found
behind (UnknownKind place) at link found = found
behind (CutShort place) at link found = found

-- from a place on, over so many items at most, as far as another place
unfoldable pub looked : List ℕ → ℕ → ℕ → ℕ → ℕ → Option ℕ → Option ℕ
looked stream place link zero at found = found
looked stream place link (suc items) at found =
    cond (leb place at) found (
    cond (leb (read_at stream at).next at) (behind (read_at stream at).item at link found) (
    looked stream place link items (read_at stream at).next (behind (read_at stream at).item at link found)))

-- before a place there are no more items than bytes
abbrev pub earlier_change : List ℕ → ℕ → ℕ → Option ℕ
earlier_change stream place link = looked stream place link place 0 None

-- of an item at a place: the place itself where there is none
abbrev pub earlier_of : List ℕ → ℕ → Item → ℕ
earlier_of stream place (Change link cost) = unwrap_or (earlier_change stream place link) place
earlier_of stream place (Network nodes root) = 0
earlier_of stream place (Link start end cost) = 0
earlier_of stream place Apply = 0
earlier_of stream place (Ask node) = 0
earlier_of stream place End = 0
earlier_of stream place (UnknownKind at) = 0
earlier_of stream place (CutShort at) = 0
