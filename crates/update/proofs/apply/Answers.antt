-- `update::apply` meets its contract: the costs are the batch's, the tree regrown over them is the next one, and what differs
-- from the copies is listed. Assumes nothing.
use mathlib.Core.Path.{refl, sym}
use Rattle.std.proofs.Common.{rules}
use lib.Seq.{length-take-le}
use Rattle.rules.specs.Columns.{Whole, arrays}
use Rattle.rules.specs.Demands.{SixteenBit}
use Rattle.update.proofs.Laws.{update_after, update_named, update_room, rows_fewer, update_ample, update_fitted, update_updated}
use Rattle.update.proofs.apply.Goals as goal

pub write_costs-requires : goal.write_costs-requires
write_costs-requires c = update_named _ _ _ _ c.requires

pub judged-table-requires : goal.judged-table-requires
judged-table-requires c = rw c.write_costs.ensures (update_after _ _ _ _ c.requires)

pub slice_bounds-regrow-end : goal.slice_bounds-regrow-end
slice_bounds-regrow-end c =
    sym (length-take-le c.len.result c.args.batch.now.links.now (rw c.len.ensures (rows_fewer c.args.batch.now.links.now c.args.batch.now.costs.now)))

pub regrow-requires-clause-ample : goal.regrow-requires-clause-ample
regrow-requires-clause-ample c =
    let costs : SixteenBit c.write_costs.new.costs = record { narrow = λ k. search rules } in
    update_ample _ _ _ _ c.requires _ _ _ c.judged-table.ensures.profile c.judged-table.ensures.table c.write_costs.ensures costs

pub regrow-requires-clause-fitted : goal.regrow-requires-clause-fitted
regrow-requires-clause-fitted c =
    let costs : SixteenBit c.args.costs.now = record { narrow = λ k. search rules } in
    let whole : Whole (arrays c.args.dist.now c.args.parent.now c.args.first.now) = search rules in
    update_fitted _ _ _ _ c.requires _ _ _ c.judged-table.ensures.profile c.judged-table.ensures.table c.write_costs.ensures c.args.batch.now refl whole costs _
    c.len.ensures

pub list_changed-requires-clause-room : goal.list_changed-requires-clause-room
list_changed-requires-clause-room c = update_room _ _ _ _ c.requires

pub returns : goal.returns
returns c =
    update_updated _ _ _ _ c.requires _ _ _ c.judged-table.ensures.profile c.judged-table.ensures.table c.write_costs.ensures
    c.regrow.ensures c.list_changed.ensures
