-- `links::judge_links` meets its contract: each test of the code is the rules' test of the same number, and the first
-- that passes decides; past them all, the links do, by their count or by the pass. Assumes nothing.
use Rattle.std.proofs.Common.{◌∙◌, eq-eqb, ne_eqb, lt-ltb}
use Rattle.rules.specs.Refusals.{wrong_ends_at, wrong_order_at}
use Rattle.links.proofs.Laws.{count_decides, past_count, past_root, past_columns}
use Rattle.links.proofs.judge_links.Goals as goal
use Rattle.links.proofs.judge_links.Goals.{then-nodes-eq0-via-then-nodes-eq0, then-nodes-eq0-via-else-nodes-eq0+then-nodes-gt256, then-starts-ends-via-then-starts-ends, then-starts-ends-via-else-starts-ends+then-starts-costs, then-starts-ends-via-else-starts-ends+else-starts-costs+then-starts-gt4096}

pub returns-then-nodes-eq0 : goal.returns-then-nodes-eq0
returns-then-nodes-eq0 c =
    elim c.then-nodes-eq0.branch [
      | then-nodes-eq0-via-then-nodes-eq0 w ↦ count_decides _ (rw (eq-eqb _ _ w.if-nodes-eq0.true))
      | then-nodes-eq0-via-else-nodes-eq0+then-nodes-gt256 w ↦ count_decides _ (rw (ne_eqb _ _ w.if-nodes-eq0.false, lt-ltb _ _ w.if-nodes-gt256.true))
    ]

pub returns-then-nodes-root : goal.returns-then-nodes-root
returns-then-nodes-root c = past_count _ c.if-nodes-eq0.false c.if-nodes-gt256.false c.if-nodes-root.true

pub returns-then-starts-ends : goal.returns-then-starts-ends
returns-then-starts-ends c =
    past_root _ c.if-nodes-eq0.false c.if-nodes-gt256.false c.if-nodes-root.false
    (elim c.then-starts-ends.branch [
      | then-starts-ends-via-then-starts-ends w ↦ rw (ne_eqb _ _ w.if-starts-ends.true)
      | then-starts-ends-via-else-starts-ends+then-starts-costs w ↦ rw (eq-eqb _ _ w.if-starts-ends.false, ne_eqb _ _ w.if-starts-costs.true)
      | then-starts-ends-via-else-starts-ends+else-starts-costs+then-starts-gt4096 w ↦
          rw (eq-eqb _ _ w.if-starts-ends.false, eq-eqb _ _ w.if-starts-costs.false, lt-ltb _ _ w.if-starts-gt4096.true)
    ])

pub returns-then-wrong_links-eq0 : goal.returns-then-wrong_links-eq0
unfolding wrong_ends_at wrong_order_at
returns-then-wrong_links-eq0 c =
    c.wrong_links.ensures c.if-wrong_links-eq0.true
    ∙ past_columns _ c.if-nodes-eq0.false c.if-nodes-gt256.false c.if-nodes-root.false c.if-starts-ends.false c.if-starts-costs.false c.if-starts-gt4096.false

pub returns : goal.returns
unfolding wrong_ends_at wrong_order_at
returns c =
    c.judge_each.ensures
    ∙ past_columns _ c.if-nodes-eq0.false c.if-nodes-gt256.false c.if-nodes-root.false c.if-starts-ends.false c.if-starts-costs.false c.if-starts-gt4096.false
