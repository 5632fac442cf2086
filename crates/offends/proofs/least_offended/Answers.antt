-- `offends::least_offended` meets its contract. The invariant: `least` is the answer for the links passed, and what was
-- asked is kept. What one link more does to it stands in Laws.antt. Assumes nothing.
use mathlib.Core.Path.{◌≡◌, sym, ◌∙◌}
use native.Mathlib.Omega.{arith}
use lib.ListN.{length}
use Rattle.usable.proofs.Reading.{end_has_row}
use Rattle.asked.proofs.Laws.{kept_none}
use Rattle.offends.proofs.Laws.{by_bars, least_calm, least_skip, least_take}
use Rattle.offends.proofs.Below.{low}
use Rattle.offends.proofs.least_offended.Goals as goal
use Rattle.offends.proofs.least_offended.Goals.{then-link_offends, else-link_offends}

pub first_offering-requires : goal.first_offering-requires
first_offering-requires c = low c.bars-bars.ensures c.requires

pub returns-in_err-first : goal.returns-in_err-first
returns-in_err-first c =
    let t = c.args.table.now in
    rw c.from_residual.ensures (least_calm t.profile t.proper c.args.dist.now c.told-dist c.bars-bars.ensures c.in_err-first.ensures)

pub loop-k-init : goal.loop-k-init
loop-k-init c =
    let t = c.args.table.now in
    record { least = least_calm t.profile t.proper c.args.dist.now c.told-dist c.bars-bars.ensures c.in_ok-first.ensures.1; kept = kept_none _ }

pub link_offends-requires-clause-low : goal.link_offends-requires-clause-low
link_offends-requires-clause-low c = low c.bars-bars.ensures c.requires

pub loop-k-preserved : goal.loop-k-preserved
loop-k-preserved c =
    let t = c.args.table.now in
    let reads = sym (by_bars t.profile t.proper c.args.dist.now c.told-dist c.loop-k-test.true c.bars-bars.ensures) in
    let kept = c.link_offends.ensures.kept in
    elim c.if-link_offends.branch [
      | then-link_offends w ↦
          let passes = reads ∙ sym c.link_offends.ensures.offends ∙ w.if-link_offends.true in
          record {
            least =
                rw w.least-is
                (least_take _ _ _ _ c.loop-k.invariant.least passes (end_has_row t.proper c.loop-k-test.true)
                (rw (← w.end-end.ensures.end, ← w.unwrap_or.ensures) (omega arith)));
            kept = kept;
          }
      | else-link_offends w ↦
          let least = least_skip _ _ _ _ c.loop-k.invariant.least (reads ∙ sym c.link_offends.ensures.offends ∙ w.if-link_offends.false) in
          record { least = rw w.least-is least; kept = kept }
    ]

pub returns : goal.returns
returns c =
    let all : c.loop-k.k ≡ length c.args.table.now.starts.now = omega (arith, c.in_ok-first.ensures.0) in
    rw all at c.loop-k.invariant.least
