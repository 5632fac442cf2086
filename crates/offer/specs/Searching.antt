-- A search over a table's links. Assumes nothing.
use Rattle.std.specs.Prelude.{◌≡◌, length, replicate}
use Rattle.rules.specs.Columns.{most_nodes, no_link}
use Rattle.usable.specs.declared.Table.{Table}
use Rattle.usable.specs.Standing.{table_at}
use Rattle.asked.specs.Asked.{Kept}
use Rattle.queue.specs.Queue.{empty}
use Rattle.offer.specs.Offer.{Lined}
use Rattle.offer.specs.declared.Search.{Search}

-- the distances and the queue agree, a link may be found for each node, and the answers that are kept are right
pub record Ready (t : Table) (s : Search) : Type 0 where
  pub lined : Lined t.profile.mark s.dist s.queue
  pub found_long : length s.found ≡ most_nodes
  pub kept : Kept (table_at t) s.asked

-- no node waits, and nothing was found or asked
pub record Unused (s : Search) : Type 0 where
  pub queue : s.queue ≡ replicate 256 empty
  pub found : s.found ≡ replicate 256 no_link
  pub asked : s.asked ≡ replicate 256 no_link
