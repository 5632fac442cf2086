-- What offering a row's link, and then those that lead back over it, does. Assumes nothing.
use mathlib.Core.Path.{◌≡◌}
use mathlib.Core.Logic.{◌≢◌}
use mathlib.Core.List.{List}
use Prim.Native.Nat.{ℕ, ◌+◌, ◌≤◌, ◌<◌}
use lib.ListN.{length, get_or}
use Rattle.rules.specs.Net.{Net}
use Rattle.rules.specs.Columns.{most_nodes}
use Rattle.usable.specs.declared.Table.{Table}
use Rattle.usable.specs.Standing.{net_at}
use Rattle.usable.proofs.Reading.{end_has_row}
use Rattle.heads.specs.Heads.{Head, Heads}
use Rattle.offer.specs.Offer.{Lined, Told}
use Rattle.afoot.specs.Afoot.{Untouched, Partly}
use Rattle.afoot.specs.Finding.{Heard}
use Rattle.afoot.proofs.Offers.{orderly}
use Rattle.afoot.proofs.Heard.{BackTo, heard_none, heard_fewer, heard_more, heard_then, back_none, back_all}

module _ (t : Table) where
  abbrev N : Net
  N = net_at t

  module _ {at : List ℕ} (heads : Heads t.starts.now at) (changed : List ℕ) (i : ℕ) (is_link : get_or changed i 0 < length t.starts.now) where
    -- where the links that leave the end of the row's link begin
    abbrev first : ℕ
    first = get_or at (N.end (get_or changed i 0)) 0

    head : Head N.links N.start (N.end (get_or changed i 0)) first
    head = heads.each _ (end_has_row t.proper is_link)

    module _ {dist keys found dist' keys' found' : List ℕ} (partly : Partly N (Untouched N changed i) dist keys) (long : length found ≡ most_nodes)
        (lined : Lined N.mark dist' keys') (told : Told N (get_or changed i 0) dist keys found dist' keys' found') where
      pub own_done : Heard N (Untouched N changed i) dist keys found (BackTo N changed i first) dist' keys' found'
      own_done = heard_more (heard_none partly long) (back_none N changed i head) (orderly t.profile t.proper) is_link lined told

      -- no link from k on leaves the end
      pub row_done : {dist'' keys'' found'' : List ℕ} {k : ℕ} → first ≤ k → (k < N.links → N.start k ≢ N.end (get_or changed i 0))
          → Heard N (BackTo N changed i first) dist' keys' found' (BackTo N changed i k) dist'' keys'' found''
          → Heard N (Untouched N changed i) dist keys found (Untouched N changed (i + 1)) dist'' keys'' found''
      row_done begins past h = heard_then own_done (heard_fewer h (back_all N changed i head (orderly t.profile t.proper) begins past))
