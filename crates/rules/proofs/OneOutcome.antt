-- One input admits one outcome: two results that keep the rules on one input are equal, as whole arrays and lists.
-- Assumes nothing.
use mathlib.Core.Bool.{cond, true≢false}
use mathlib.Core.Path.{◌≡◌, refl, sym, ap, ◌∙◌}
use mathlib.Core.List.{List, [], ◌∷◌}
use Prim.Native.Nat.{ℕ}
use Rattle.std.specs.Prelude.{Ok, Err, is_ok}
use native.Mathlib.Omega.{arith}
use lib.ListN.{length, set, length-set}
use lib.Dec.{eqb}
use lib.Seq.{ext_get_or}
use Rattle.rules.specs.Keep.{Fresh, Next}
use Rattle.rules.specs.Columns.{Table, Proper, Arrays, Whole, net_of, rows_of, applied, after, unreached, no_link}
use Rattle.rules.specs.Refusals.{Verdict, accepted, refused, judge_links, judge_tree, judge_batch, judge_update}
use Rattle.rules.specs.Answers.{Answer, refusal, told, number_in, number_of}
use Rattle.rules.specs.Jobs.{written, changed_below, Built, built, not_built, Updated, updated, not_updated, Pathed, pathed, too_short, not_pathed}
use Rattle.rules.specs.declared.Change.{Change}
use Rattle.rules.specs.declared.Refusal.{Refusal}
use Rattle.rules.specs.declared.Refusal.TheVariants.{WrongNodeCount, WrongRoot, WrongColumns, WrongEnds, WrongOrder, TreeUnfit, TooManyRows, RowNamesNoLink, RowNamesLinkAgain, AskedNoNode, AskedUnreached, ListTooShort}
use Rattle.rules.proofs.Unique.{same_dist, same_parent, same_first, fresh_next}
use Rattle.rules.proofs.Sound.{path_unique}
use Rattle.rules.proofs.Judged.{links_proper, legal, then_first, not_refused}

-- ---- answers: the number and the values tell the case

answer_of : Verdict → Answer
answer_of accepted = Ok tt
answer_of (refused number values) =
    cond (eqb number 1) (Err WrongNodeCount) (
    cond (eqb number 2) (Err WrongRoot) (
    cond (eqb number 3) (Err WrongColumns) (
    cond (eqb number 4) (Err (WrongEnds values.value)) (
    cond (eqb number 5) (Err (WrongOrder values.value)) (
    cond (eqb number 6) (Err (TreeUnfit values.value)) (
    cond (eqb number 7) (Err TooManyRows) (
    cond (eqb number 8) (Err (RowNamesNoLink values.value)) (
    cond (eqb number 9) (Err (RowNamesLinkAgain values.value values.second)) (
    cond (eqb number 10) (Err AskedNoNode) (
    cond (eqb number 11) (Err AskedUnreached) (
    Err ListTooShort)))))))))))

answer_back : (a : Answer) → answer_of (told a) ≡ a
unfolding answer_of
answer_back (Ok tt) = refl
answer_back (Err WrongNodeCount) = refl
answer_back (Err WrongRoot) = refl
answer_back (Err WrongColumns) = refl
answer_back (Err (WrongEnds link)) = refl
answer_back (Err (WrongOrder link)) = refl
answer_back (Err (TreeUnfit node)) = refl
answer_back (Err TooManyRows) = refl
answer_back (Err (RowNamesNoLink row)) = refl
answer_back (Err (RowNamesLinkAgain row earlier)) = refl
answer_back (Err AskedNoNode) = refl
answer_back (Err AskedUnreached) = refl
answer_back (Err ListTooShort) = refl

pub told_once : {a b : Answer} → told a ≡ told b → a ≡ b
told_once {a} {b} e = sym (answer_back a) ∙ ap answer_of e ∙ answer_back b

-- an answer that is told as acceptance refuses nothing
pub told_accepted : (a : Answer) → told a ≡ accepted → a ≡ Ok tt
told_accepted a e = told_once e

-- and no refusal is
pub refusal_refuses : (r : Refusal) → refusal r ≡ accepted → ⊥
refusal_refuses r e = true≢false (sym (ap is_ok (told_accepted (Err r) e)))

-- what the code learns from an answer's number
number_zero : (a : Answer) → number_of a ≡ 0 → told a ≡ accepted
number_zero (Ok tt) e = refl
number_zero (Err WrongNodeCount) e = absurd (omega arith)
number_zero (Err WrongRoot) e = absurd (omega arith)
number_zero (Err WrongColumns) e = absurd (omega arith)
number_zero (Err (WrongEnds link)) e = absurd (omega arith)
number_zero (Err (WrongOrder link)) e = absurd (omega arith)
number_zero (Err (TreeUnfit node)) e = absurd (omega arith)
number_zero (Err TooManyRows) e = absurd (omega arith)
number_zero (Err (RowNamesNoLink row)) e = absurd (omega arith)
number_zero (Err (RowNamesLinkAgain row earlier)) e = absurd (omega arith)
number_zero (Err AskedNoNode) e = absurd (omega arith)
number_zero (Err AskedUnreached) e = absurd (omega arith)
number_zero (Err ListTooShort) e = absurd (omega arith)

module _ (a : Answer) {number : ℕ} (is : number ≡ number_of a) where
  pub number_accepts : number ≡ 0 → told a ≡ accepted
  number_accepts z = number_zero a (sym is ∙ z)

  pub number_refuses : (number ≡ 0 → ⊥) → told a ≡ accepted → ⊥
  number_refuses n e = n (is ∙ ap number_in e)

-- ---- trees

pub tree_once : {r s : Arrays} → Whole r → Whole s
    → ((v : ℕ) → (rows_of r).dist v ≡ (rows_of s).dist v) → ((v : ℕ) → (rows_of r).parent v ≡ (rows_of s).parent v) → ((v : ℕ) → (rows_of r).first v ≡ (rows_of s).first v)
    → r ≡ s
tree_once {r} {s} a b d p f = λ i. record {
  dist = ext_get_or unreached r.dist s.dist (a.dist ∙ sym b.dist) (λ v l. d v) i;
  parent = ext_get_or no_link r.parent s.parent (a.parent ∙ sym b.parent) (λ v l. p v) i;
  first = ext_get_or no_link r.first s.first (a.first ∙ sym b.first) (λ v l. f v) i;
}

module _ {t : Table} (a : Proper t) {r s : Arrays} (R : Whole r) (S : Whole s) {old : ℕ → ℕ} where
  pub next_once : Next (net_of t) (rows_of r) old → Next (net_of t) (rows_of s) old → r ≡ s
  next_once m n = tree_once R S (same_dist (legal a) m.fits n.fits) (same_parent (legal a) m n) (same_first (legal a) m n)

module _ {t : Table} (a : Proper t) {r s : Arrays} (R : Whole r) (S : Whole s) where
  pub fresh_once : Fresh (net_of t) (rows_of r) → Fresh (net_of t) (rows_of s) → r ≡ s
  fresh_once m n = next_once a R S (fresh_next (legal a) m) (fresh_next (legal a) n)

-- ---- fresh build

pub record SameBuilt (v w : Verdict) (r s : Arrays) : Type 0 where
  pub verdict : v ≡ w
  pub tree : r ≡ s

pub built_once : {t : Table} {v w : Verdict} {r s : Arrays} → Built t v r → Built t w s → SameBuilt v w r s
built_once {t} (built e a m) (built f b n) = record { verdict = refl; tree = fresh_once (links_proper t e) a b m n }
built_once (built e a m) (not_built f) = absurd (not_refused (sym f ∙ e))
built_once (not_built e) (built f b n) = absurd (not_refused (sym e ∙ f))
built_once (not_built e) (not_built f) = record { verdict = sym e ∙ f; tree = refl }

-- ---- update

pub length_applied : (batch : List Change) (costs : List ℕ) → length (applied batch costs) ≡ length costs
unfolding applied
length_applied [] costs = refl
length_applied (row ∷ rows) costs = length_applied rows (set costs row.link row.cost) ∙ length-set costs row.link row.cost

-- a batch leaves what judging a table looks at
pub after_proper : {t : Table} (batch : List Change) → Proper t → Proper (after t batch)
after_proper {t} batch a = record {
  some_node = a.some_node;
  few_nodes = a.few_nodes;
  root_is_node = a.root_is_node;
  ends_long = a.ends_long;
  costs_long = a.costs_long ∙ sym (length_applied batch t.costs);
  few_links = a.few_links;
  starts = a.starts;
  ends = a.ends;
  apart = a.apart;
  order = a.order;
}

pub update_links : (t : Table) (old : Arrays) (batch : List Change) (list : List ℕ) → judge_update t old batch list ≡ accepted → judge_tree t old ≡ accepted
unfolding judge_update judge_batch
update_links t old batch list e = then_first (judge_tree t old) _ (then_first (judge_batch t old batch) _ e)

pub tree_links : (t : Table) (tree : Arrays) → judge_tree t tree ≡ accepted → Proper t
unfolding judge_tree
tree_links t tree e = links_proper t (then_first (judge_links t) _ e)

pub record SameUpdated (v w : Verdict) (r s : Arrays) (c d l m : List ℕ) (i j : ℕ) : Type 0 where
  pub verdict : v ≡ w
  pub tree : r ≡ s
  pub costs : c ≡ d
  pub list : l ≡ m
  pub count : i ≡ j

pub updated_once : {t : Table} {old : Arrays} {batch : List Change} {list : List ℕ} {v w : Verdict} {r s : Arrays} {c d l m : List ℕ} {i j : ℕ}
    → Updated t old batch list v r c l i → Updated t old batch list w s d m j → SameUpdated v w r s c d l m i j
updated_once {t} {old} {batch} {list} {r = r} {s = s} (updated x e a p q) (updated y f b o z) =
    let fine = after_proper batch (tree_links t old (update_links t old batch list e)) in
    let tree = next_once fine a b p o in
    let same : x ≡ y = q ∙ ap (λ (u : Arrays). changed_below (rows_of old) (rows_of u) t.nodes) tree ∙ sym z in
    record { verdict = refl; tree = tree; costs = refl; list = ap (λ (u : List ℕ). written u list) same; count = ap length same }
updated_once (updated x e a p q) (not_updated f) = absurd (not_refused (sym f ∙ e))
updated_once (not_updated e) (updated y f b o z) = absurd (not_refused (sym e ∙ f))
updated_once (not_updated e) (not_updated f) = record { verdict = sym e ∙ f; tree = refl; costs = refl; list = refl; count = refl }

-- ---- path

pub record SamePathed (v w : Verdict) (l m : List ℕ) (i j : ℕ) : Type 0 where
  pub verdict : v ≡ w
  pub list : l ≡ m
  pub count : i ≡ j

pub pathed_once : {t : Table} {tree : Arrays} {node : ℕ} {list : List ℕ} {v w : Verdict} {l m : List ℕ} {i j : ℕ}
    → Pathed t tree node list v l i → Pathed t tree node list w m j → SamePathed v w l m i j
pathed_once {list = list} (pathed e p a) (pathed f q b) =
    let same = path_unique p refl q in
    record { verdict = refl; list = ap (λ (u : List ℕ). written u list) same; count = ap length same }
pathed_once (pathed e p a) (too_short f q b) = absurd (omega (arith, ap length (path_unique p refl q)))
pathed_once (pathed e p a) (not_pathed f) = absurd (not_refused (sym f ∙ e))
pathed_once (too_short e p a) (pathed f q b) = absurd (omega (arith, ap length (path_unique p refl q)))
pathed_once (too_short e p a) (too_short f q b) = record { verdict = refl; list = refl; count = refl }
pathed_once (too_short e p a) (not_pathed f) = absurd (not_refused (sym f ∙ e))
pathed_once (not_pathed e) (pathed f q b) = absurd (not_refused (sym e ∙ f))
pathed_once (not_pathed e) (too_short f q b) = absurd (not_refused (sym e ∙ f))
pathed_once (not_pathed e) (not_pathed f) = record { verdict = sym e ∙ f; list = refl; count = refl }
