-- `fit::judge_tree` meets its contract: the smaller of the two nodes is the smallest that breaks a rule (Smallest.antt).
-- Assumes nothing.
use native.Mathlib.Omega.{arith}
use Rattle.fit.proofs.Smallest.{both_decide, row_decides, offended_decides, none_decides}
use Rattle.fit.proofs.judge_tree.Goals as goal

pub returns-in-Some-Some : goal.returns-in-Some-Some
returns-in-Some-Some c =
    both_decide _ _ _ c.requires.links c.requires.far (rw c.in-Some-Some.is-0 at c.first_bad_row-row.ensures)
    (rw c.in-Some-Some.is-1 at c.least_offended-offended.ensures) (omega arith)

pub returns-in-None-None : goal.returns-in-None-None
returns-in-None-None c =
    none_decides _ _ _ c.requires.links c.requires.far (rw c.in-None-None.is-0 at c.first_bad_row-row.ensures)
    (rw c.in-None-None.is-1 at c.least_offended-offended.ensures)

pub returns-in-Some-None : goal.returns-in-Some-None
returns-in-Some-None c =
    row_decides _ _ _ c.requires.links c.requires.far (rw c.in-Some-None.is-0 at c.first_bad_row-row.ensures)
    (rw c.in-Some-None.is-1 at c.least_offended-offended.ensures)

pub returns-in-None-Some : goal.returns-in-None-Some
returns-in-None-Some c =
    offended_decides _ _ _ c.requires.links c.requires.far (rw c.in-None-Some.is-0 at c.first_bad_row-row.ensures)
    (rw c.in-None-Some.is-1 at c.least_offended-offended.ensures)
