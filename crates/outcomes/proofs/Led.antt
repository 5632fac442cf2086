-- The tree that stands while routing is the one that the rules give for the records so far, and an ASK tells its row.
-- Assumes nothing.
use mathlib.Core.Path.{◌≡◌, refl, sym, ap, ◌∙◌, subst}
use mathlib.Core.Bool.{false}
use mathlib.Core.List.{List, [], ◌∷◌}
use Prim.Native.Nat.{ℕ, ◌≤◌, ◌<◌}
use native.Mathlib.Omega.{arith}
use native.Mathlib.Decide.{dec_lt}
use lib.ListN.{length, get_or, take, length-take, get_or-eq_default}
use lib.Seq.{get_or-take}
use borrow.Author.Tests.{lt-leb}
use Rattle.rules.specs.Fit.{Shortest}
use Rattle.rules.specs.Columns.{Table, table, net_of, rows_of, most_links, most_rows, most_nodes, most_cost}
use Rattle.rules.specs.Refusals.{Verdict, accepted, refused, judge_links}
use Rattle.rules.specs.Jobs.{changed_below}
use Rattle.rules.specs.Demands.{Stands, first, later, SixteenBit, Stable}
use Rattle.rules.proofs.Logic.{true_false}
use Rattle.rules.proofs.Sound.{fits_shortest}
use Rattle.rules.proofs.Judged.{legal, tree_accepted}
use Rattle.rules.proofs.Accepted.{update_accept}
use Rattle.demands.proofs.Changed.{changed_named}
use Rattle.demands.proofs.Demands.{demand_2, demand_3}
use Rattle.tree.specs.Value.{arrays_of}
use Rattle.stream.specs.declared.Item.{Item}
use Rattle.stream.specs.declared.Item.TheVariants.{Apply, Ask}
use Rattle.order.specs.declared.Phase.{Phase}
use Rattle.order.specs.declared.Phase.TheVariants.{Unread, Linking, Routing}
use Rattle.state.specs.declared.Out.TheVariants.{Changed}
use Rattle.state.specs.declared.State.{State}
use Rattle.state.specs.declared.Done.{Done}
use Rattle.order.specs.Order.{is_unread, is_linking}
use Rattle.state.specs.States.{table_of, networked, changing}
use Rattle.session.specs.declared.Lists.{Lists}
use Rattle.session.specs.Holding.{Holds, unread}
use Rattle.session.specs.Steps.{link_verdict, change_verdict, Ready, begins, stays, Steps, out_of_order, unknown, cut, ended, network, link, change, apply, ask}
use Rattle.session.proofs.Keeps.{tree_of, met_stands, applied_table, linked_phase, steps_keep}
use Rattle.outcomes.specs.Outcomes.{Led, none, next, Answers, Reports}
use Rattle.outcomes.proofs.Listed.{met}
use Rattle.outcomes.proofs.OneOutcome.{apply_meets, ask_meets, steps_once}

-- ---- the start

-- nothing read, and lent lists of full length: what holds between records holds
pub start_holds : {s : State} {k : Lists} → s.phase ≡ Unread → length k.starts ≡ most_links → length k.ends ≡ most_links → length k.costs ≡ most_links
    → length k.changed ≡ most_rows → length k.newcosts ≡ most_rows → length k.list ≡ most_nodes → Holds s k
start_holds p starts ends costs changed newcosts list =
    unread p (record { starts_long = starts; ends_long = ends; costs_long = costs }) (record { changed_long = changed; newcosts_long = newcosts; list_long = list })

-- what holds between records is kept by all of them
pub led_holds : {from : State} {lent : Lists} {items : List Item} {s : State} {k : Lists} → Holds from lent → Led from lent items s k → Holds s k
led_holds h none = h
led_holds h (next led a) = steps_keep (led_holds h led) a

-- ---- the same records

pub record SameLed (s t : State) (k l : Lists) : Type 0 where
  pub state : s ≡ t
  pub lists : k ≡ l

no_record : {A : Type 0} {item : Item} {items : List Item} → [] ≡ item ∷ items → A
no_record e = absurd (let z : ◌≡◌ {A = ℕ} 0 1 = cc in omega arith)

-- from one start the same records lead to the same state and the same lists
led_same : {from : State} {lent : Lists} {items items' : List Item} {s t : State} {k l : Lists} → Led from lent items s k → Led from lent items' t l
    → items ≡ items' → SameLed s t k l
led_same none none e = record { state = refl; lists = refl }
led_same none (next b q) e = no_record e
led_same (next a p) none e = no_record (sym e)
led_same (next {s = s} {k} {item} a p) (next {s = s'} {k = k'} {item = item'} b q) e =
    let before : SameLed s s' k k' = led_same a b (cc) in
    let same : item ≡ item' = cc in
    let once = steps_once p (rw (← before.state, ← before.lists, ← same) at q) in
    record { state = ap (λ (x : Done). x.state) once.done; lists = once.lent }

pub led_once : {from : State} {lent : Lists} {items : List Item} {s t : State} {k l : Lists} → Led from lent items s k → Led from lent items t l → SameLed s t k l
led_once a b = led_same a b refl

-- ---- while routing

abbrev TreeGiven : State → Lists → Type 0
TreeGiven s k = Stands (table_of s k.starts k.ends k.costs) (arrays_of s.tree)

-- what holds between records already says that the tree is one of shortest routes over the table
pub holds_shortest : {s : State} {k : Lists} → Holds s k → s.phase ≡ Routing → Shortest (net_of (table_of s k.starts k.ends k.costs)) (rows_of (arrays_of s.tree))
holds_shortest {s} {k} h p =
    let t = tree_of h p in
    let fine = tree_accepted (table_of s k.starts k.ends k.costs) (arrays_of s.tree) t.whole t.judged in
    fits_shortest (legal fine.0) fine.1

ready_given : {s r : State} {k : Lists} → (s.phase ≡ Routing → TreeGiven s k) → Ready s k r → TreeGiven r k
ready_given {s} {r} {k} t (begins p b) =
    let same : table_of r k.starts k.ends k.costs ≡ table_of s k.starts k.ends k.costs = ap (λ (x : State). table_of x k.starts k.ends k.costs) b.kept in
    rw same (first b.built)
ready_given t (stays p) = t p

changing_given : (s : State) (k : Lists) (v : Verdict) → TreeGiven s k → TreeGiven (changing v s).state k
changing_given s k accepted t = t
changing_given s k (refused number values) t = t

not_routing : {p : Phase} → p ≡ Linking → p ≡ Routing → ⊥
not_routing e q = true_false (ap is_linking (sym e ∙ q))

networked_phase : (v : Verdict) (s : State) (nodes root : ℕ) → s.phase ≡ Unread → (networked v s nodes root).state.phase ≡ Routing → ⊥
networked_phase accepted s nodes root p q = not_routing refl q
networked_phase (refused number values) s nodes root p q = true_false (ap is_unread (sym p ∙ q))

-- the tree is that of a fresh build over the links, and of the batches applied since
pub led_stands : {from : State} {lent : Lists} {items : List Item} {s : State} {k : Lists} → from.phase ≡ Unread → Led from lent items s k
    → s.phase ≡ Routing → TreeGiven s k
led_stands u none q = absurd (true_false (ap is_unread (sym u ∙ q)))
led_stands u (next led (out_of_order e)) q = led_stands u led q
led_stands u (next led unknown) q = led_stands u led q
led_stands u (next led cut) q = led_stands u led q
led_stands u (next led (ended e)) q = led_stands u led q
led_stands u (next {s = s} led (network {nodes} {root} p)) q = absurd (networked_phase (judge_links (table nodes root [] [] [])) s nodes root p q)
led_stands u (next {s = s} {k} led (link {start} {end} {cost} p)) q = absurd (not_routing (linked_phase (link_verdict s k start end cost) s ∙ p) q)
led_stands u (next {k = k} led (change {link = named} {cost} {r} ready)) q =
    changing_given r k (change_verdict r k named cost) (ready_given (λ o. led_stands u led o) ready)
led_stands u (next led (apply ready a)) q = rw (applied_table a) (later (ready_given (λ o. led_stands u led o) ready) a.updated)
led_stands u (next led (ask ready)) q = ready_given (λ o. led_stands u led o) ready

-- ---- ASK

-- a 16-bit column has a 16-bit front
pub narrow_front : (n : ℕ) {costs : List ℕ} → SixteenBit costs → SixteenBit (take n costs)
narrow_front n {costs} c = record { narrow = λ i. at i (dec_lt i n) }
  where
    at : (i : ℕ) → Dec (i < n) → get_or (take n costs) i 0 ≤ most_cost
    at i (yes l) = rw (get_or-take n costs i 0 l) (c.narrow i)
    at i (no l) =
        let past : length (take n costs) ≤ i = omega (arith, length-take n costs) in
        rw (get_or-eq_default (take n costs) 0 past) (omega arith)

-- what an ASK in order tells of a node. (Each cost is a 16-bit number by the column's type.)
pub asks_given : {s : State} {k : Lists} {node : ℕ} {d : Done} {l : Lists} {from : State} {lent : Lists} {items : List Item}
    → from.phase ≡ Unread → Led from lent items s k → SixteenBit k.costs → Steps s k (Ask node) d l → is_unread s.phase ≡ false → node < s.nodes → Answers k node d
asks_given {s} {k} {node} u led c a o l =
    let (r, ready, is, same) = ask_meets a o in
    let given = ready_given (λ p. led_stands u led p) ready in
    rw is (record {
      told = rw (lt-leb r.nodes node (omega (arith, (met ready).nodes))) refl;
      stands = given;
      least = demand_2 given (narrow_front r.links c);
    })

-- ---- APPLY

-- what an APPLY in order tells and lists
pub apply_reports : {s : State} {k : Lists} {d : Done} {l : Lists} → Holds s k → Steps s k Apply d l → is_unread s.phase ≡ false → Reports s k d l
apply_reports {s} {k} {d} h a o =
    let (r, ready, costs, list, up, is) = apply_meets a o in
    let done = update_accept up.updated refl in
    rw is (record {
      met = r;
      ready = ready;
      changed = changed_below (rows_of (arrays_of r.tree)) (rows_of (arrays_of d.state.tree)) r.nodes;
      told = ap (λ (x : Done). x.out) up.kept ∙ ap Changed done.count;
      listed = done.listed;
      names = changed_named (met_stands h ready).whole up.updated;
      stable = subst (λ (t : Table). Stable (net_of t) (rows_of (arrays_of r.tree)).parent (rows_of (arrays_of d.state.tree))) (sym (applied_table up)) (demand_3 up.updated);
    })
