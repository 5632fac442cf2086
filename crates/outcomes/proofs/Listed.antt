-- A record is refused with a number that is listed for its kind, and a refusal leaves what counts. Assumes nothing.
use mathlib.Core.Path.{◌≡◌, refl, sym, ap, ◌∙◌}
use mathlib.Core.Logic.{◌⊎◌, inl, inr, ◌≢◌}
use mathlib.Core.Bool.{Bool, true, false, not, ◌||◌, cond}
use mathlib.Core.List.{List, []}
use Prim.Native.Nat.{ℕ, ◌-◌, ◌≤◌, ◌<◌}
use native.Mathlib.Omega.{arith}
use native.Mathlib.Decide.{dec_lt}
use lib.Dec.{eqb, ltb, leb}
use lib.ListN.{length, get_or, take}
use lib.Seq.{length-take-le}
use borrow.Author.Tests.{lt-leb, eqb-false}
use Rattle.rules.specs.Tests.{first_below}
use Rattle.rules.specs.Columns.{table, most_links, most_rows}
use Rattle.rules.specs.Refusals.{Values, only, both, Verdict, accepted, refused, ◌then◌, when, wrong_node_count, wrong_root, wrong_ends, judge_links}
use Rattle.rules.proofs.Judged.{not_refused}
use Rattle.stream.specs.declared.Item.{Item}
use Rattle.stream.specs.declared.Item.TheVariants.{Network, Link, Change, Ask}
use Rattle.state.specs.declared.Out.{Out}
use Rattle.state.specs.declared.Out.TheVariants.{Nothing, Row, Changed, Refused}
use Rattle.state.specs.declared.State.{State}
use Rattle.state.specs.declared.Done.{Done}
use Rattle.order.specs.Order.{is_unread, is_linking}
use Rattle.enter.specs.More.{first_naming}
use Rattle.enter.proofs.Links.{full as past_links, last_decides as link_decides}
use Rattle.enter.proofs.Rows.{full as past_rows, last_decides as row_decides}
use Rattle.state.specs.States.{table_of, networked, linked, changing, asked}
use Rattle.state.proofs.Laws.{asks_none}
use Rattle.session.specs.declared.Lists.{Lists}
use Rattle.session.specs.Holding.{table_in, tree_in, lent_in, Holds}
use Rattle.session.specs.Steps.{link_verdict, link_lists, change_verdict, change_lists, Ready, begins, stays, Steps, out_of_order, unknown, cut, ended, network, link, change, apply, ask}
use Rattle.session.proofs.Keeps.{table_of_lem, lent_of, met_stands}
use Rattle.outcomes.specs.Outcomes.{ForKind, node_count, no_root, no_place, bad_ends, wrong_order, no_row, no_such_link, again, no_node, unknown_kind, cut_short, Listed, disorder, for_kind, Left}
use Rattle.outcomes.proofs.OneOutcome.{ready_read}

-- ---- what is told, and the verdict behind it

not_nothing : {n : ℕ} → Nothing ≡ Refused n → ⊥
not_nothing e = let z : ◌≡◌ {A = ℕ} 0 1 = cc in omega arith

not_row : {node dist parent first n : ℕ} → Row node dist parent first ≡ Refused n → ⊥
not_row e = let z : ◌≡◌ {A = ℕ} 0 1 = cc in omega arith

not_changed : {count n : ℕ} → Changed count ≡ Refused n → ⊥
not_changed e = let z : ◌≡◌ {A = ℕ} 0 1 = cc in omega arith

record RefusedBy (v : Verdict) (n : ℕ) : Type 0 where
  values : Values
  is : v ≡ refused n values

-- of a record that is judged, and refused or done
module _ (out : Verdict → Out) (done : out accepted ≡ Nothing) (refuses : (number : ℕ) (values : Values) → out (refused number values) ≡ Refused number) where
  verdict_of_lem : (v : Verdict) {n : ℕ} → out v ≡ Refused n → RefusedBy v n
  verdict_of_lem accepted e = absurd (not_nothing (sym done ∙ e))
  verdict_of_lem (refused number values) {n} e =
      let told : Refused number ≡ Refused n = sym (refuses number values) ∙ e in
      let same : number ≡ n = cc in
      record { values = values; is = rw same refl }

-- ---- which number each judgment gives

network_number : (nodes root : ℕ) {n : ℕ} {x : Values} → judge_links (table nodes root [] [] []) ≡ refused n x → (n ≡ 1) ⊎ (n ≡ 2)
unfolding judge_links first_below
network_number nodes root {n} {x} e = at (wrong_node_count (table nodes root [] [] [])) (wrong_root (table nodes root [] [] [])) e
  where
    at : (count place : Bool) → (when count 1 then when place 2 then accepted) ≡ refused n x → (n ≡ 1) ⊎ (n ≡ 2)
    at true place q = inl (cc)
    at false true q = inr (cc)
    at false false q = absurd (not_refused (sym q))

last_number : (ends order : Bool) (p : ℕ) {n : ℕ} {x : Values} → cond ends (refused 4 (only p)) accepted then cond order (refused 5 (only p)) accepted ≡ refused n x → (n ≡ 4) ⊎ (n ≡ 5)
last_number true order p e = inl (cc)
last_number false true p e = inr (cc)
last_number false false p e = absurd (not_refused (sym e))

row_number : (none named : Bool) (p : Values) {n : ℕ} {x : Values} → cond (none || named) (refused (cond none 8 9) p) accepted ≡ refused n x → (n ≡ 8) ⊎ (n ≡ 9)
row_number true named p e = inl (cc)
row_number false true p e = inr (cc)
row_number false false p e = absurd (not_refused (sym e))

-- ---- the state that a record meets

pub record Met (s r : State) : Type 0 where
  pub nodes : r.nodes ≡ s.nodes
  pub root : r.root ≡ s.root
  pub links : r.links ≡ s.links
  pub rows : r.rows ≡ s.rows

pub met : {s : State} {k : Lists} {r : State} → Ready s k r → Met s r
met (begins p b) = record {
  nodes = ap (λ (x : State). x.nodes) b.kept;
  root = ap (λ (x : State). x.root) b.kept;
  links = ap (λ (x : State). x.links) b.kept;
  rows = ap (λ (x : State). x.rows) b.kept;
}
met (stays p) = record { nodes = refl; root = refl; links = refl; rows = refl }

-- ---- each kind

network_listed : {s : State} (nodes root : ℕ) {n : ℕ} → (n ≡ 1) ⊎ (n ≡ 2) → ForKind s (Network nodes root) n
network_listed nodes root (inl e) = rw e node_count
network_listed nodes root (inr e) = rw e no_root

module _ (s : State) (k : Lists) (t : table_in s k) (start end cost : ℕ) where
  ends_listed : {n : ℕ} → (n ≡ 4) ⊎ (n ≡ 5) → ForKind s (Link start end cost) n
  ends_listed (inl e) = rw e bad_ends
  ends_listed (inr e) = rw e wrong_order

  link_listed : {n : ℕ} {x : Values} → link_verdict s k start end cost ≡ refused n x → ForKind s (Link start end cost) n
  link_listed {n} {x} e = at (dec_lt s.links most_links)
    where
      front : List ℕ
      front = take s.links k.starts

      so_far : length (take s.links k.starts) ≡ s.links
      so_far = length-take-le s.links k.starts (omega (arith, t.few_links, t.columns.starts_long))

      at : Dec (s.links < most_links) → ForKind s (Link start end cost) n
      at (yes l) = ends_listed (last_number (wrong_ends s.nodes start end) (ltb start (get_or front (length front - 1) 0)) (length front) (link_decides s.nodes s.root (take s.links k.starts) (take s.links k.ends) (take s.links k.costs) start end cost t.judged (omega (arith, so_far)) refl refl ∙ e))
      at (no l) =
          let told : refused 3 (only 0) ≡ refused n x = past_links s.nodes s.root (take s.links k.starts) (take s.links k.ends) (take s.links k.costs) start end cost t.judged (omega (arith, so_far)) ∙ e in
          let is : n ≡ 3 = cc in
          rw is (no_place (omega (arith, t.few_links)))

module _ {s r : State} (m : Met s r) where
  row_listed : (named cost : ℕ) {n : ℕ} → (n ≡ 8) ⊎ (n ≡ 9) → ForKind s (Change named cost) n
  row_listed named cost (inl e) = rw e no_such_link
  row_listed named cost (inr e) = rw e again

  change_listed : (k : Lists) → tree_in r k → lent_in k → (named cost : ℕ) {n : ℕ} {x : Values} → change_verdict r k named cost ≡ refused n x → ForKind s (Change named cost) n
  change_listed k t w named cost {n} {x} e = at (dec_lt r.rows most_rows)
    where
      front : List ℕ
      front = take r.rows k.changed

      so_far : length (take r.rows k.changed) ≡ r.rows
      so_far = length-take-le r.rows k.changed (omega (arith, t.few_rows, w.changed_long))

      as_many : length (take r.rows k.newcosts) ≡ length (take r.rows k.changed)
      as_many = omega (arith, so_far, length-take-le r.rows k.newcosts (omega (arith, t.few_rows, w.newcosts_long)))

      at : Dec (r.rows < most_rows) → ForKind s (Change named cost) n
      at (yes l) = row_listed named cost (row_number (leb (length (take r.links k.starts)) named) (ltb (first_naming front named) (length front)) (both (length front) (cond (leb (length (take r.links k.starts)) named) 0 (first_naming front named))) (row_decides (table_of r k.starts k.ends k.costs) (take r.rows k.changed) (take r.rows k.newcosts) named cost as_many t.rows_judged refl refl (omega (arith, so_far)) ∙ e))
      at (no l) =
          let told : refused 7 (only 0) ≡ refused n x = past_rows (table_of r k.starts k.ends k.costs) (take r.rows k.changed) (take r.rows k.newcosts) named cost as_many t.rows_judged (omega (arith, so_far)) ∙ e in
          let is : n ≡ 7 = cc in
          rw is (no_row (omega (arith, t.few_rows, m.rows)))

  ask_listed : (node : ℕ) {n : ℕ} → asked r node ≡ Refused n → ForKind s (Ask node) n
  ask_listed node {n} e = at (dec_lt node r.nodes)
    where
      at : Dec (node < r.nodes) → ForKind s (Ask node) n
      at (yes l) = absurd (not_row (rw (lt-leb r.nodes node l) at e))
      at (no l) =
          let told : Refused 10 ≡ Refused n = asks_none r node (omega arith) ∙ e in
          let is : n ≡ 10 = cc in
          let past : s.nodes ≤ node = omega (arith, m.nodes) in
          rw is (no_node past)

-- ---- the theorem

refused_with : (m : ℕ) {n : ℕ} → Refused m ≡ Refused n → n ≡ m
refused_with m e = cc

-- a record is refused with one of the numbers that are listed for its kind
pub listed : {s : State} {k : Lists} {item : Item} {d : Done} {l : Lists} {n : ℕ} → Holds s k → Steps s k item d l → d.out ≡ Refused n → Listed s item n
listed h (out_of_order e) q = disorder e (refused_with 23 q)
listed h unknown q = for_kind refl (rw (refused_with 21 q) unknown_kind)
listed h cut q = for_kind refl (rw (refused_with 22 q) cut_short)
listed h (ended e) q = absurd (not_nothing q)
listed {s} h (network {nodes} {root} p) q =
    let told = verdict_of_lem (λ (v : Verdict). (networked v s nodes root).out) refl (λ number value. refl) (judge_links (table nodes root [] [] [])) q in
    for_kind (ap is_unread p) (network_listed nodes root (network_number nodes root told.is))
listed {s} {k} h (link {start} {end} {cost} p) q =
    let told = verdict_of_lem (λ (v : Verdict). (linked v s).out) refl (λ number value. refl) (link_verdict s k start end cost) q in
    for_kind (ap is_linking p) (link_listed s k (table_of_lem h p) start end cost told.is)
listed {s} {k} h (change {link = named} {cost} {r} ready) q =
    let told = verdict_of_lem (λ (v : Verdict). (changing v r).out) refl (λ number value. refl) (change_verdict r k named cost) q in
    for_kind (ap not (ready_read ready)) (change_listed (met ready) k (met_stands h ready) (lent_of h) named cost told.is)
listed h (apply ready a) q = absurd (not_changed (sym (ap (λ (x : Done). x.out) a.kept) ∙ q))
listed h (ask {node} ready) q = for_kind (ap not (ready_read ready)) (ask_listed (met ready) node q)

others : (n : ℕ) → eqb n 6 ≡ false → eqb n 11 ≡ false → eqb n 12 ≡ false → (n ≢ 6) × (n ≢ 11) × (n ≢ 12)
others n a b c = (eqb-false n 6 a, eqb-false n 11 b, eqb-false n 12 c)

-- so 6, 11 and 12 don't arise
pub none_else : {s : State} {item : Item} {n : ℕ} → Listed s item n → (n ≢ 6) × (n ≢ 11) × (n ≢ 12)
none_else (disorder o e) = rw e (others 23 refl refl refl)
none_else (for_kind o node_count) = others 1 refl refl refl
none_else (for_kind o no_root) = others 2 refl refl refl
none_else (for_kind o (no_place e)) = others 3 refl refl refl
none_else (for_kind o bad_ends) = others 4 refl refl refl
none_else (for_kind o wrong_order) = others 5 refl refl refl
none_else (for_kind o (no_row e)) = others 7 refl refl refl
none_else (for_kind o no_such_link) = others 8 refl refl refl
none_else (for_kind o again) = others 9 refl refl refl
none_else (for_kind o (no_node l)) = others 10 refl refl refl
none_else (for_kind o unknown_kind) = others 21 refl refl refl
none_else (for_kind o cut_short) = others 22 refl refl refl

-- ---- what a refusal leaves

module _ {s : State} {k : Lists} where
  left_all : Left s k s k
  left_all = record { state = inl refl; lists = refl }

  -- the state is the one that the record met
  left_met : {r : State} → Ready s k r → Left s k r k
  left_met (stays p) = left_all
  left_met (begins p b) = record { state = inr b; lists = refl }

  left_network : (nodes root : ℕ) (v : Verdict) {n : ℕ} → (networked v s nodes root).out ≡ Refused n → Left s k (networked v s nodes root).state k
  left_network nodes root accepted q = absurd (not_nothing q)
  left_network nodes root (refused number values) q = left_all

  left_link : (start end cost : ℕ) (v : Verdict) {n : ℕ} → (linked v s).out ≡ Refused n → Left s k (linked v s).state (link_lists v s k start end cost)
  left_link start end cost accepted q = absurd (not_nothing q)
  left_link start end cost (refused number values) q = left_all

  left_change : {r : State} → Ready s k r → (named cost : ℕ) (v : Verdict) {n : ℕ} → (changing v r).out ≡ Refused n → Left s k (changing v r).state (change_lists v r k named cost)
  left_change ready named cost accepted q = absurd (not_nothing q)
  left_change ready named cost (refused number values) q = left_met ready

-- a refused record changes nothing
pub refused_leaves : {s : State} {k : Lists} {item : Item} {d : Done} {l : Lists} {n : ℕ} → Steps s k item d l → d.out ≡ Refused n → Left s k d.state l
refused_leaves (out_of_order e) q = left_all
refused_leaves unknown q = left_all
refused_leaves cut q = left_all
refused_leaves (ended e) q = absurd (not_nothing q)
refused_leaves (network {nodes} {root} p) q = left_network nodes root (judge_links (table nodes root [] [] [])) q
refused_leaves {s} {k} (link {start} {end} {cost} p) q = left_link start end cost (link_verdict s k start end cost) q
refused_leaves {s} {k} (change {link = named} {cost} {r} ready) q = left_change ready named cost (change_verdict r k named cost) q
refused_leaves (apply ready a) q = absurd (not_changed (sym (ap (λ (x : Done). x.out) a.kept) ∙ q))
refused_leaves (ask ready) q = left_met ready
