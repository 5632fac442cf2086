-- `firsts::Ways::first_links` meets its contract. Assumes nothing.
use Prim.Native.Nat.{◌<◌}
use native.Mathlib.Omega.{arith}
use Rattle.rules.specs.Columns.{most_nodes}
use Rattle.firsts.proofs.Laws.{has_read, has_not_read, firsts_more, firsts_spread}
use Rattle.firsts.proofs.Ways.first_links.Goals as goal
use Rattle.firsts.proofs.Ways.first_links.Goals.{then-self-v+then-first-v, else-self-v, else-self-v-via-then-self-v+else-first-v, else-self-v-via-else-self-v}

pub loop-v-preserved : goal.loop-v-preserved
loop-v-preserved c =
    let row : c.loop-v.v < most_nodes = omega (arith, c.loop-v-test.true, c.args.self.now.table.now.proper.few_nodes) in
    let firsts = c.loop-v.invariant in
    elim c.if-self-v.branch [
      | then-self-v+then-first-v w ↦ rw w.first-is (firsts_spread firsts w.spread.ensures)
      | else-self-v w ↦ rw w.first-is (elim w.else-self-v.branch [
        | else-self-v-via-then-self-v+else-first-v w' ↦ firsts_more firsts (λ h. has_read firsts.known.long row w'.if-first-v.false)
        | else-self-v-via-else-self-v w' ↦ firsts_more firsts (λ h. absurd (has_not_read c.args.self.now.rising.long row w'.if-self-v.false h))
      ])
    ]
