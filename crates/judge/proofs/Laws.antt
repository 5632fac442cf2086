-- What the parts' answers say of the whole verdict. Assumes nothing.
use mathlib.Core.Path.{◌≡◌, refl, sym, ◌∙◌}
use mathlib.Core.Bool.{Bool, true, false}
use mathlib.Core.List.{List}
use Prim.Native.Nat.{ℕ, ◌≤◌, ◌<◌}
use lib.Dec.{eqb}
use native.Mathlib.Omega.{arith}
use lib.ListN.{length, get_or}
use borrow.Author.Tests.{lt-ltb, le-ltb, le-leb, lt-leb}
use Rattle.rules.specs.Tests.{reached}
use Rattle.rules.specs.Columns.{Table, Arrays, Whole, rows_of, unreached}
use Rattle.rules.specs.Refusals.{Values, only, Verdict, accepted, refused, when, judge_tree, judge_batch, judge_update, judge_asked}
use Rattle.rules.specs.declared.Change.{Change}
use Rattle.rules.proofs.Logic.{get_d_any}
use Rattle.rules.proofs.OneOutcome.{tree_links}

-- ---- a verdict that is no acceptance

pub record Refusal (v : Verdict) : Type 0 where
  pub number : ℕ
  pub values : Values
  pub is : v ≡ refused number values

pub refusal : (v : Verdict) → (v ≡ accepted → ⊥) → Refusal v
refusal accepted n = absurd (n refl)
refusal (refused number values) n = record { number = number; values = values; is = refl }

-- ---- judging an update

module _ (t : Table) (tree : Arrays) (batch : List Change) (list : List ℕ) where
  pub tree_refuses : {v : Verdict} → v ≡ judge_tree t tree → (v ≡ accepted → ⊥) → v ≡ judge_update t tree batch list
  unfolding judge_update judge_batch
  tree_refuses {v} is n =
      let r = refusal v n in
      let tree : judge_tree t tree ≡ refused r.number r.values = sym is ∙ r.is in
      rw tree r.is

  pub batch_refuses : {v : Verdict} → v ≡ judge_batch t tree batch → (v ≡ accepted → ⊥) → v ≡ judge_update t tree batch list
  unfolding judge_update
  batch_refuses {v} is n =
      let r = refusal v n in
      let rows : judge_batch t tree batch ≡ refused r.number r.values = sym is ∙ r.is in
      rw rows r.is

  pub list_refuses : judge_batch t tree batch ≡ accepted → length list < t.nodes → refused 12 (only 0) ≡ judge_update t tree batch list
  unfolding judge_update
  list_refuses e l = rw (e, lt-ltb (length list) t.nodes l) refl

  pub update_accepts : judge_batch t tree batch ≡ accepted → t.nodes ≤ length list → accepted ≡ judge_update t tree batch list
  unfolding judge_update
  update_accepts e l = rw (e, le-ltb (length list) t.nodes l) refl

-- ---- judging what is asked

module _ (t : Table) (tree : Arrays) (node : ℕ) where
  pub tree_refuses_asked : {v : Verdict} → v ≡ judge_tree t tree → (v ≡ accepted → ⊥) → v ≡ judge_asked t tree node
  unfolding judge_asked
  tree_refuses_asked {v} is n =
      let r = refusal v n in
      let tree : judge_tree t tree ≡ refused r.number r.values = sym is ∙ r.is in
      rw tree r.is

  pub node_refuses : judge_tree t tree ≡ accepted → t.nodes ≤ node → refused 10 (only 0) ≡ judge_asked t tree node
  unfolding judge_asked
  node_refuses e l = rw (e, le-leb t.nodes node l) refl

  -- what the code reads is the node's distance
  pub read_dist : judge_tree t tree ≡ accepted → Whole tree → node < t.nodes → (rows_of tree).dist node ≡ get_or tree.dist node 0
  read_dist e w l = get_d_any tree.dist node unreached 0 (omega (arith, (tree_links t tree e).few_nodes, w.dist))

  pub unreached_decides : judge_tree t tree ≡ accepted → node < t.nodes → (b : Bool) → eqb ((rows_of tree).dist node) unreached ≡ b
      → when b 11 ≡ judge_asked t tree node
  unfolding judge_asked reached
  unreached_decides e l true d = rw (e, lt-leb t.nodes node l, d) refl
  unreached_decides e l false d = rw (e, lt-leb t.nodes node l, d) refl
