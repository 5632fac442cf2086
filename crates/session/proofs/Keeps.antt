-- What holds between records is kept by every record. Assumes nothing.
use mathlib.Core.Path.{◌≡◌, refl, sym, ap, ◌∙◌}
use mathlib.Core.Bool.{Bool, true, false, not, cond}
use mathlib.Core.List.{List, [], ◌∷◌, ◌++◌}
use Prim.Native.Nat.{ℕ, zero, suc, ◌+◌, ◌≤◌, ◌<◌}
use native.Mathlib.Omega.{arith}
use lib.Dec.{ltb}
use lib.ListN.{length, take, length-append, length-take, length-drop, length-set}
use lib.Seq.{length-take-le, length_front}
use borrow.Author.Tests.{ltb-false}
use Rattle.rules.specs.Fit.{Rows}
use Rattle.rules.specs.Tests.{first_below}
use Rattle.rules.specs.Columns.{Table, table, rows_of, after, most_links, most_rows, most_nodes}
use Rattle.rules.specs.Refusals.{Verdict, accepted, refused, when, judge_links, judge_tree, judge_rows, first_bad_row}
use Rattle.rules.specs.Jobs.{differs, changed_below}
use Rattle.rules.specs.declared.Change.{Change as CostChange}
use Rattle.rules.proofs.Logic.{true_false}
use Rattle.rules.proofs.Judged.{then_first, then_second, when_not, links_proper}
use Rattle.rules.proofs.OneOutcome.{tree_links, length_applied}
use Rattle.rules.proofs.Accepted.{built_good, update_accept, update_good}
use Rattle.demands.proofs.Judged.{fits_accepted, after_accepted, tree_table}
use Rattle.batch.specs.Rows.{rows_of_columns}
use Rattle.batch.proofs.Laws.{links_fewer}
use Rattle.tree.specs.Value.{arrays_of}
use Rattle.stream.specs.declared.Item.{Item}
use Rattle.stream.specs.declared.Item.TheVariants.{Network, Link, Change, Apply, Ask, End, UnknownKind, CutShort}
use denote.Enum.Bare.{sameb}
use Rattle.order.specs.contracts.Phase.{the_type}
use Rattle.order.specs.declared.Phase.{Phase}
use Rattle.order.specs.declared.Phase.TheVariants.{Unread, Linking, Routing}
use Rattle.order.specs.Order.{is_unread, is_linking, in_order}
use Rattle.enter.specs.More.{with_one_more}
use Rattle.enter.proofs.Entries.{entry_length, entry_written}
use Rattle.state.specs.declared.State.{State}
use Rattle.state.specs.declared.Done.{Done}
use Rattle.state.specs.declared.Out.{Out}
use Rattle.state.specs.declared.Out.TheVariants.{Nothing}
use Rattle.state.specs.States.{table_of, waiting, refusing, networked, linked, changing, asked}
use Rattle.session.specs.declared.Lists.{Lists}
use Rattle.session.specs.Holding.{Columns, TableStands, TreeStands, lists, table_in, tree_in, lent_in, Holds, unread, linking, routing}
use Rattle.session.specs.Steps.{link_verdict, link_lists, change_verdict, change_lists, Begun, Applied, Ready, begins, stays, Steps, out_of_order, unknown, cut, ended, network, link, change, apply, ask}
use Rattle.session.specs.Parts.{LinkTaken, RowTaken}

-- ---- phases

pub is_unread_lem : (p : Phase) → is_unread p ≡ true → p ≡ Unread
is_unread_lem Unread e = refl
is_unread_lem Linking e = absurd (true_false (sym e))
is_unread_lem Routing e = absurd (true_false (sym e))

pub is_linking_lem : (p : Phase) → is_linking p ≡ true → p ≡ Linking
is_linking_lem Unread e = absurd (true_false (sym e))
is_linking_lem Linking e = refl
is_linking_lem Routing e = absurd (true_false (sym e))

-- what `==` with `Linking` says
pub linking_same : (p : Phase) → sameb the_type p Linking ≡ is_linking p
linking_same Unread = refl
linking_same Linking = refl
linking_same Routing = refl

pub is_routing : (p : Phase) → is_unread p ≡ false → is_linking p ≡ false → p ≡ Routing
is_routing Unread e f = absurd (true_false e)
is_routing Linking e f = absurd (true_false f)
is_routing Routing e f = refl

pub not_true : (b : Bool) → not b ≡ true → b ≡ false
not_true true e = absurd (true_false (sym e))
not_true false e = refl

pub columns_of : {s : State} {k : Lists} → Holds s k → Columns k.starts k.ends k.costs
columns_of (unread p c l) = c
columns_of (linking p t l) = t.columns
columns_of (routing p t l) = t.columns

pub lent_of : {s : State} {k : Lists} → Holds s k → lent_in k
lent_of (unread p c l) = l
lent_of (linking p t l) = l
lent_of (routing p t l) = l

pub table_of_lem : {s : State} {k : Lists} → Holds s k → s.phase ≡ Linking → table_in s k
table_of_lem (unread p c l) q = absurd (true_false (ap is_unread (sym p ∙ q)))
table_of_lem (linking p t l) q = t
table_of_lem (routing p t l) q = absurd (true_false (sym (ap is_linking (sym p ∙ q))))

pub tree_of : {s : State} {k : Lists} → Holds s k → s.phase ≡ Routing → tree_in s k
tree_of (unread p c l) q = absurd (true_false (ap is_unread (sym p ∙ q)))
tree_of (linking p t l) q = absurd (true_false (ap is_linking (sym p ∙ q)))
tree_of (routing p t l) q = t

-- ---- judging what stands

no_rows_accepted : (t : Table) → judge_rows t [] ≡ accepted
unfolding judge_rows first_bad_row first_below
no_rows_accepted t = refl

rows_none : (changed newcosts : List ℕ) (n : ℕ) → n ≡ 0 → rows_of_columns (take n changed) (take n newcosts) ≡ []
unfolding rows_of_columns
rows_none changed newcosts n e = rw e refl

-- ---- NETWORK

pub network_keeps : {s : State} {k : Lists} → Holds s k → s.phase ≡ Unread → (nodes root : ℕ) (v : Verdict) → judge_links (table nodes root [] [] []) ≡ v
    → Holds (networked v s nodes root).state k
network_keeps h p nodes root accepted e =
    linking refl (record { columns = columns_of h; few_links = omega arith; judged = e; no_rows = refl }) (lent_of h)
network_keeps h p nodes root (refused number values) e = h

-- ---- LINK

module _ (s : State) (k : Lists) (t : table_in s k) (start end cost : ℕ) where
  link_stands : (v : Verdict) → link_verdict s k start end cost ≡ v → table_in (linked v s).state (link_lists v s k start end cost)
  link_stands accepted e =
      let longer = (links_proper _ e).few_links in
      let room : s.links < most_links = omega (arith, entry_length s.links k.starts start (omega (arith, t.few_links, t.columns.starts_long))) in
      record {
        columns = record {
          starts_long = length-set k.starts s.links start ∙ t.columns.starts_long;
          ends_long = length-set k.ends s.links end ∙ t.columns.ends_long;
          costs_long = length-set k.costs s.links cost ∙ t.columns.costs_long;
        };
        few_links = omega arith;
        judged = rw (
          entry_written k.starts s.links start (omega (arith, t.columns.starts_long)),
          entry_written k.ends s.links end (omega (arith, t.columns.ends_long)),
          entry_written k.costs s.links cost (omega (arith, t.columns.costs_long)),
        ) e;
        no_rows = t.no_rows;
      }
  link_stands (refused number values) e = t

pub linked_phase : (v : Verdict) (s : State) → (linked v s).state.phase ≡ s.phase
linked_phase accepted s = refl
linked_phase (refused number values) s = refl

pub link_keeps : {s : State} {k : Lists} → Holds s k → s.phase ≡ Linking → (start end cost : ℕ)
    → Holds (linked (link_verdict s k start end cost) s).state (link_lists (link_verdict s k start end cost) s k start end cost)
link_keeps {s} {k} h p start end cost =
    let v = link_verdict s k start end cost in
    linking (linked_phase v s ∙ p) (link_stands s k (table_of_lem h p) start end cost v refl) (lent_of h)

-- ---- the first record after the LINKs

pub begun_stands : {s r : State} {starts ends costs changed newcosts : List ℕ} → TableStands s starts ends costs → Begun s starts ends costs r
    → TreeStands r starts ends costs changed newcosts
begun_stands {s} {r} {starts} {ends} {costs} {changed} {newcosts} t b =
    let good = built_good b.built refl in
    let same : table_of r starts ends costs ≡ table_of s starts ends costs = ap (λ (x : State). table_of x starts ends costs) b.kept in
    let links : r.links ≡ s.links = ap (λ (x : State). x.links) b.kept in
    let rows : r.rows ≡ 0 = ap (λ (x : State). x.rows) b.kept ∙ t.no_rows in
    record {
      columns = t.columns;
      few_links = omega (arith, links, t.few_links);
      few_rows = omega (arith, rows);
      whole = good.whole;
      judged = ap (λ (x : Table). judge_tree x (arrays_of r.tree)) same ∙ fits_accepted (table_of s starts ends costs) (arrays_of r.tree) t.judged good.fits;
      rows_judged = ap (λ (x : List CostChange). judge_rows (table_of r starts ends costs) x) (rows_none changed newcosts r.rows rows) ∙ no_rows_accepted (table_of r starts ends costs);
    }

pub ready_phase : {s r : State} {k : Lists} → Ready s k r → r.phase ≡ Routing
ready_phase (begins p b) = ap (λ (x : State). x.phase) b.kept
ready_phase (stays p) = p

pub met_stands : {s : State} {k : Lists} {r : State} → Holds s k → Ready s k r → tree_in r k
met_stands h (begins p b) = begun_stands (table_of_lem h p) b
met_stands h (stays p) = tree_of h p

-- ---- CHANGE

module _ (s : State) (k : Lists) (t : tree_in s k) (w : lent_in k) (named cost : ℕ) where
  abbrev longer : List CostChange
  longer = rows_of_columns (with_one_more (take s.rows k.changed) named) (with_one_more (take s.rows k.newcosts) cost)

  one_longer : length longer ≡ s.rows + 1
  one_longer =
      let links = entry_length s.rows k.changed named (omega (arith, t.few_rows, w.changed_long)) in
      let costs = entry_length s.rows k.newcosts cost (omega (arith, t.few_rows, w.newcosts_long)) in
      links_fewer _ _ (omega arith) ∙ links

  change_stands : (v : Verdict) → change_verdict s k named cost ≡ v → tree_in (changing v s).state (change_lists v s k named cost)
  change_stands accepted e =
      let few = ltb-false most_rows (length longer) (when_not (ltb most_rows (length longer)) 7 (then_first (when (ltb most_rows (length longer)) 7) _ e)) in
      let room : s.rows < most_rows = omega (arith, one_longer, few) in
      record {
        columns = t.columns;
        few_links = t.few_links;
        few_rows = omega arith;
        whole = t.whole;
        judged = t.judged;
        rows_judged = rw (
          entry_written k.changed s.rows named (omega (arith, w.changed_long)),
          entry_written k.newcosts s.rows cost (omega (arith, w.newcosts_long)),
        ) (then_second (when (ltb most_rows (length longer)) 7) _ e);
      }
  change_stands (refused number values) e = t

  change_lent : (v : Verdict) → lent_in (change_lists v s k named cost)
  change_lent accepted = record {
    changed_long = length-set k.changed s.rows named ∙ w.changed_long;
    newcosts_long = length-set k.newcosts s.rows cost ∙ w.newcosts_long;
    list_long = w.list_long;
  }
  change_lent (refused number values) = w

changing_phase : (v : Verdict) (s : State) → (changing v s).state.phase ≡ s.phase
changing_phase accepted s = refl
changing_phase (refused number values) s = refl

pub change_keeps : {r : State} {k : Lists} → r.phase ≡ Routing → tree_in r k → lent_in k → (named cost : ℕ)
    → Holds (changing (change_verdict r k named cost) r).state (change_lists (change_verdict r k named cost) r k named cost)
change_keeps {r} {k} p t w named cost =
    let v = change_verdict r k named cost in
    routing (changing_phase v r ∙ p) (change_stands r k t w named cost v refl) (change_lent r k t w named cost v)

-- ---- APPLY

-- the table then is the one with the rows' costs
pub applied_table : {s : State} {starts ends costs changed newcosts list costs' list' : List ℕ} {d : Done} → Applied s starts ends costs changed newcosts list d costs' list'
    → table_of d.state starts ends costs' ≡ after (table_of s starts ends costs) (waiting s changed newcosts)
applied_table {s} {starts} {ends} {costs' = costs'} a =
    ap (λ (x : Done). table_of x.state starts ends costs') a.kept
    ∙ ap (λ (c : List ℕ). table s.nodes s.root (take s.links starts) (take s.links ends) c) (update_accept a.updated refl).costs

few_changed : (old new : Rows) (n : ℕ) → length (changed_below old new n) ≤ n
unfolding changed_below
few_changed old new zero = omega arith
few_changed old new (suc n) = at (differs old new n) (few_changed old new n)
  where
    at : (b : Bool) → length (changed_below old new n) ≤ n → length (changed_below old new n ++ cond b (n ∷ []) []) ≤ suc n
    at true h = omega (arith, length-append (changed_below old new n) (n ∷ []))
    at false h = omega (arith, length-append (changed_below old new n) [])

module _ {s : State} {starts ends costs changed newcosts list costs' list' : List ℕ} {d : Done} (t : TreeStands s starts ends costs changed newcosts)
    (a : Applied s starts ends costs changed newcosts list d costs' list') where
  -- the column and the list keep their lengths
  costs_kept : length costs' ≡ length costs
  costs_kept =
      let front = ap length (update_accept a.updated refl).costs ∙ length_applied (waiting s changed newcosts) (take s.links costs) in
      omega (arith, front, ap length a.beyond, length-take s.links costs', length-take s.links costs, length-drop s.links costs', length-drop s.links costs, t.few_links, t.columns.costs_long)

  list_kept : length list ≡ most_nodes → length list' ≡ length list
  list_kept long =
      let nodes = changed_below (rows_of (arrays_of s.tree)) (rows_of (arrays_of d.state.tree)) s.nodes in
      let fine = tree_links (table_of s starts ends costs) (arrays_of s.tree) t.judged in
      let few : length nodes ≤ length list = omega (arith, few_changed (rows_of (arrays_of s.tree)) (rows_of (arrays_of d.state.tree)) s.nodes, fine.few_nodes) in
      ap length (update_accept a.updated refl).listed ∙ length_front list nodes (length nodes) (sym (length-take-le (length nodes) list few))

  apply_stands : TreeStands d.state starts ends costs' changed newcosts
  apply_stands =
      let good = update_good (update_accept a.updated refl) in
      let before = table_of s starts ends costs in
      let batch = waiting s changed newcosts in
      let same = applied_table a in
      let links : d.state.links ≡ s.links = ap (λ (x : Done). x.state.links) a.kept in
      let rows : d.state.rows ≡ 0 = ap (λ (x : Done). x.state.rows) a.kept in
      record {
        columns = record { starts_long = t.columns.starts_long; ends_long = t.columns.ends_long; costs_long = costs_kept ∙ t.columns.costs_long };
        few_links = omega (arith, links, t.few_links);
        few_rows = omega (arith, rows);
        whole = good.whole;
        judged = ap (λ (x : Table). judge_tree x (arrays_of d.state.tree)) same
            ∙ fits_accepted (after before batch) (arrays_of d.state.tree) (after_accepted before batch (tree_table before (arrays_of s.tree) t.judged)) good.fits;
        rows_judged = ap (λ (x : List CostChange). judge_rows (table_of d.state starts ends costs') x) (rows_none changed newcosts d.state.rows rows)
            ∙ no_rows_accepted (table_of d.state starts ends costs');
      }

pub apply_keeps : {r : State} {k : Lists} {d : Done} {costs list : List ℕ} → r.phase ≡ Routing → tree_in r k → lent_in k
    → Applied r k.starts k.ends k.costs k.changed k.newcosts k.list d costs list
    → Holds d.state (lists k.starts k.ends costs k.changed k.newcosts list)
apply_keeps p t w a =
    routing (ap (λ (x : Done). x.state.phase) a.kept ∙ p) (apply_stands t a)
    (record { changed_long = w.changed_long; newcosts_long = w.newcosts_long; list_long = list_kept t a w.list_long ∙ w.list_long })

-- ---- every record

pub steps_keep : {s : State} {k : Lists} {item : Item} {d : Done} {l : Lists} → Holds s k → Steps s k item d l → Holds d.state l
steps_keep h (out_of_order e) = h
steps_keep h unknown = h
steps_keep h cut = h
steps_keep h (ended e) = h
steps_keep h (network {nodes} {root} p) = network_keeps h p nodes root (judge_links (table nodes root [] [] [])) refl
steps_keep h (link {start} {end} {cost} p) = link_keeps h p start end cost
steps_keep h (change {link = named} {cost} ready) = change_keeps (ready_phase ready) (met_stands h ready) (lent_of h) named cost
steps_keep h (apply ready a) = apply_keeps (ready_phase ready) (met_stands h ready) (lent_of h) a
steps_keep h (ask ready) = routing (ready_phase ready) (met_stands h ready) (lent_of h)

-- ---- each item

both : {s : State} {k : Lists} {item : Item} {d : Done} {l : Lists} → Holds s k → Steps s k item d l → Steps s k item d l × Holds d.state l
both h a = (a, steps_keep h a)

-- an item that may come, as the code finds it
module _ {s : State} {k : Lists} (h : Holds s k) {item : Item} {may : Bool} (judged : may ≡ in_order s.phase item) (come : may ≡ true) where
  ordered : {i : Item} → item ≡ i → in_order s.phase i ≡ true
  ordered is = ap (λ (i : Item). in_order s.phase i) (sym is) ∙ sym judged ∙ come

  pub steps_network : {nodes root : ℕ} → item ≡ Network nodes root → {r : Done} → r ≡ networked (judge_links (table nodes root [] [] [])) s nodes root
      → Steps s k item r k × Holds r.state k
  steps_network is e = both h (rw (is, e) (network (is_unread_lem s.phase (ordered is))))

  pub link_phase : {start end cost : ℕ} → item ≡ Link start end cost → s.phase ≡ Linking
  link_phase is = is_linking_lem s.phase (ordered is)

  pub steps_link : {start end cost : ℕ} → item ≡ Link start end cost → {r : Done} {l : Lists} → LinkTaken s k start end cost r l
      → Steps s k item r l × Holds r.state l
  steps_link {start} {end} {cost} is taken =
      let phase = link_phase is in
      let verdict = taken.judged.verdict s.root (take s.links k.ends) (take s.links k.costs) cost (table_of_lem h phase).judged in
      both h (rw (is, taken.done, taken.lists_now, verdict) (link phase))

  pub not_unread : (i : Item) → item ≡ i → in_order s.phase i ≡ not (is_unread s.phase) → is_unread s.phase ≡ false
  not_unread i is e = not_true (is_unread s.phase) (sym e ∙ ordered is)

  pub steps_change : {named cost : ℕ} → item ≡ Change named cost → {r : State} → Ready s k r → tree_in r k → {d : Done} {l : Lists}
      → RowTaken r k named cost d l → Steps s k item d l × Holds d.state l
  steps_change {named} {cost} is {r} ready t taken =
      let links = length-take-le r.links k.starts (omega (arith, t.few_links, t.columns.starts_long)) in
      let changed_long = length-take-le r.rows k.changed (omega (arith, t.few_rows, (lent_of h).changed_long)) in
      let newcosts_long = length-take-le r.rows k.newcosts (omega (arith, t.few_rows, (lent_of h).newcosts_long)) in
      let verdict = taken.judged.verdict (table_of r k.starts k.ends k.costs) (take r.rows k.newcosts) cost links (omega arith) t.rows_judged in
      both h (rw (is, taken.done, taken.lists_now, verdict) (change ready))

  pub steps_apply : item ≡ Apply → {r : State} → Ready s k r → {d : Done} {costs list : List ℕ}
      → Applied r k.starts k.ends k.costs k.changed k.newcosts k.list d costs list
      → Steps s k item d (lists k.starts k.ends costs k.changed k.newcosts list) × Holds d.state (lists k.starts k.ends costs k.changed k.newcosts list)
  steps_apply is ready a = both h (rw is (apply ready a))

  pub steps_ask : {node : ℕ} → item ≡ Ask node → {r : State} → Ready s k r → {o : Out} → o ≡ asked r node → Steps s k item (record { state = r; out = o }) k × Holds r k
  steps_ask is ready e = both h (rw (is, e) (ask ready))

  pub steps_end : item ≡ End → Steps s k item (record { state = s; out = Nothing }) k × Holds s k
  steps_end is = both h (rw is (ended (not_unread End is refl)))

  pub steps_unknown : {place : ℕ} → item ≡ UnknownKind place → {r : Done} → r ≡ refusing s 21 → Steps s k item r k × Holds r.state k
  steps_unknown is e = both h (rw (is, e) unknown)

  pub steps_cut : {place : ℕ} → item ≡ CutShort place → {r : Done} → r ≡ refusing s 22 → Steps s k item r k × Holds r.state k
  steps_cut is e = both h (rw (is, e) cut)

pub steps_disorder : {s : State} {k : Lists} → Holds s k → {item : Item} {may : Bool} → may ≡ in_order s.phase item → may ≡ false → {r : Done} → r ≡ refusing s 23
    → Steps s k item r k × Holds r.state k
steps_disorder h judged not_now e = both h (rw e (out_of_order (sym judged ∙ not_now)))

pub few_nodes : (s : State) (k : Lists) → tree_in s k → s.nodes ≤ most_nodes
few_nodes s k t = (tree_links (table_of s k.starts k.ends k.costs) (arrays_of s.tree) t.judged).few_nodes
