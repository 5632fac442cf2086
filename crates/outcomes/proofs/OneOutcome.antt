-- One record has one outcome: two that keep the rules in one state are equal, as whole states and lists. Assumes nothing.
use mathlib.Core.Path.{◌≡◌, refl, sym, ap, ◌∙◌, subst}
use mathlib.Core.Bool.{Bool, true, false}
use mathlib.Core.List.{List, [], ◌++◌}
use Prim.Native.Nat.{ℕ}
use lib.ListN.{take, drop, take-append-drop}
use Rattle.rules.specs.Columns.{Arrays, table}
use Rattle.rules.specs.Refusals.{judge_links}
use Rattle.rules.proofs.Logic.{true_false}
use Rattle.rules.proofs.OneOutcome.{built_once, updated_once}
use Rattle.tree.specs.declared.Tree.{Tree}
use Rattle.tree.specs.Value.{arrays_of}
use Rattle.stream.specs.declared.Item.{Item}
use Rattle.stream.specs.declared.Item.TheVariants.{Network, Link, Change, Apply, Ask, End, UnknownKind, CutShort}
use Rattle.state.specs.declared.Out.TheVariants.{Nothing}
use Rattle.state.specs.declared.State.{State}
use Rattle.state.specs.declared.Done.{Done}
use Rattle.order.specs.Order.{is_unread, is_linking, in_order}
use Rattle.state.specs.States.{refusing, networked, linked, changing, begun, applied, asked}
use Rattle.session.specs.declared.Lists.{Lists}
use Rattle.session.specs.Holding.{lists}
use Rattle.session.specs.Steps.{link_verdict, link_lists, change_verdict, change_lists, Begun, Applied, Ready, begins, stays, Steps, out_of_order, unknown, cut, ended, network, link, change, apply, ask}

-- ---- the tree's struct and its arrays

struct_of : Arrays → Tree
struct_of a = record { dist = a.dist; parent = a.parent; first = a.first }

value_once : {t u : Tree} → arrays_of t ≡ arrays_of u → t ≡ u
unfolding struct_of
value_once e = ap struct_of e

-- ---- the state that a record meets

begun_once : {s : State} {starts ends costs : List ℕ} {r q : State} → Begun s starts ends costs r → Begun s starts ends costs q → r ≡ q
begun_once {s} b c =
    let tree = value_once (built_once b.built c.built).tree in
    b.kept ∙ ap (begun s) tree ∙ sym c.kept

pub ready_once : {s : State} {k : Lists} {r q : State} → Ready s k r → Ready s k q → r ≡ q
ready_once (begins p b) (begins o c) = begun_once b c
ready_once (begins p b) (stays o) = absurd (true_false (ap is_linking (sym p ∙ o)))
ready_once (stays p) (begins o c) = absurd (true_false (ap is_linking (sym o ∙ p)))
ready_once (stays p) (stays o) = refl

-- ---- APPLY

column_once : (n : ℕ) (a b : List ℕ) → take n a ≡ take n b → drop n a ≡ drop n b → a ≡ b
column_once n a b front rest = sym (take-append-drop n a) ∙ (λ i. front i ++ rest i) ∙ take-append-drop n b

record SameApplied (d e : Done) (costs costs' list list' : List ℕ) : Type 0 where
  done : d ≡ e
  costs_same : costs ≡ costs'
  list_same : list ≡ list'

applied_once : {r : State} {starts ends costs changed newcosts list : List ℕ} {d e : Done} {costs₁ costs₂ list₁ list₂ : List ℕ}
    → Applied r starts ends costs changed newcosts list d costs₁ list₁ → Applied r starts ends costs changed newcosts list e costs₂ list₂
    → SameApplied d e costs₁ costs₂ list₁ list₂
applied_once {r} {costs₁ = costs₁} {costs₂} a b =
    let same = updated_once a.updated b.updated in
    let tree = value_once same.tree in
    record {
      done = a.kept ∙ (λ i. applied r (tree i) (same.count i)) ∙ sym b.kept;
      costs_same = column_once r.links costs₁ costs₂ same.costs (a.beyond ∙ sym b.beyond);
      list_same = same.list;
    }

-- ---- what a record does, read by its kind

abbrev pub ApplyIn : State → Lists → Done → List ℕ → List ℕ → Type 0
ApplyIn r k d costs list = Applied r k.starts k.ends k.costs k.changed k.newcosts k.list d costs list

-- the test says whether the record is in order
Does : State → Lists → Bool → Item → Done → Lists → Type 0
Does s k false item d l = (d ≡ refusing s 23) × (l ≡ k)
Does s k true (Network nodes root) d l = (d ≡ networked (judge_links (table nodes root [] [] [])) s nodes root) × (l ≡ k)
Does s k true (Link start end cost) d l = (d ≡ linked (link_verdict s k start end cost) s) × (l ≡ link_lists (link_verdict s k start end cost) s k start end cost)
Does s k true (Change named cost) d l = (r : State) × Ready s k r × (d ≡ changing (change_verdict r k named cost) r) × (l ≡ change_lists (change_verdict r k named cost) r k named cost)
Does s k true Apply d l =
    (r : State) × Ready s k r × (costs : List ℕ) × (list : List ℕ) × ApplyIn r k d costs list × (l ≡ lists k.starts k.ends costs k.changed k.newcosts list)
Does s k true (Ask node) d l = (r : State) × Ready s k r × (d ≡ record { state = r; out = asked r node }) × (l ≡ k)
Does s k true End d l = (d ≡ record { state = s; out = Nothing }) × (l ≡ k)
Does s k true (UnknownKind place) d l = (d ≡ refusing s 21) × (l ≡ k)
Does s k true (CutShort place) d l = (d ≡ refusing s 22) × (l ≡ k)

pub ready_read : {s : State} {k : Lists} {r : State} → Ready s k r → is_unread s.phase ≡ false
ready_read (begins p b) = ap is_unread p
ready_read (stays p) = ap is_unread p

does : {s : State} {k : Lists} {item : Item} {d : Done} {l : Lists} → Steps s k item d l → Does s k (in_order s.phase item) item d l
unfolding Does
does (out_of_order e) = rw e (refl, refl)
does unknown = (refl, refl)
does cut = (refl, refl)
does (ended e) = rw e (refl, refl)
does (network p) = rw p (refl, refl)
does (link p) = rw p (refl, refl)
does (change {r = r} ready) = rw (ready_read ready) (r, ready, refl, refl)
does (apply {r = r} {costs = costs} {list = list} ready a) = rw (ready_read ready) (r, ready, costs, list, a, refl)
does (ask {r = r} ready) = rw (ready_read ready) (r, ready, refl, refl)

-- an APPLY that is in order is an accepted update of the state that it meets: it is never refused
pub apply_meets : {s : State} {k : Lists} {d : Done} {l : Lists} → Steps s k Apply d l → is_unread s.phase ≡ false
    → (r : State) × Ready s k r × (costs : List ℕ) × (list : List ℕ) × ApplyIn r k d costs list × (l ≡ lists k.starts k.ends costs k.changed k.newcosts list)
unfolding Does
apply_meets a o = rw o at (does a)

-- an ASK that is in order tells of the state that it meets
pub ask_meets : {s : State} {k : Lists} {node : ℕ} {d : Done} {l : Lists} → Steps s k (Ask node) d l → is_unread s.phase ≡ false
    → (r : State) × Ready s k r × (d ≡ record { state = r; out = asked r node }) × (l ≡ k)
unfolding Does
ask_meets a o = rw o at (does a)

-- ---- the theorem

pub record SameStep (d e : Done) (l m : Lists) : Type 0 where
  pub done : d ≡ e
  pub lent : l ≡ m

both : {d e c : Done} {l m n : Lists} → (d ≡ c) × (l ≡ n) → (e ≡ c) × (m ≡ n) → SameStep d e l m
both p q = record { done = p.0 ∙ sym q.0; lent = p.1 ∙ sym q.1 }

does_once : (s : State) (k : Lists) (ordered : Bool) (item : Item) {d e : Done} {l m : Lists}
    → Does s k ordered item d l → Does s k ordered item e m → SameStep d e l m
unfolding Does
does_once s k false item p q = both p q
does_once s k true (Network nodes root) p q = both p q
does_once s k true (Link start end cost) p q = both p q
does_once s k true (Change named cost) (r, a, d, l) (q, b, e, m) =
    let same = ready_once a b in
    record {
      done = d ∙ ap (λ (x : State). changing (change_verdict x k named cost) x) same ∙ sym e;
      lent = l ∙ ap (λ (x : State). change_lists (change_verdict x k named cost) x k named cost) same ∙ sym m;
    }
does_once s k true Apply {d} {e} (r, a, costs, list, p, l) (q, b, costs', list', o, m) =
    let same = ready_once a b in
    let one = applied_once p (subst (λ (x : State). ApplyIn x k e costs' list') (sym same) o) in
    record {
      done = one.done;
      lent = l ∙ (λ i. lists k.starts k.ends (one.costs_same i) k.changed k.newcosts (one.list_same i)) ∙ sym m;
    }
does_once s k true (Ask node) (r, a, d, l) (q, b, e, m) =
    record { done = d ∙ ap (λ (x : State). record { state = x; out = asked x node }) (ready_once a b) ∙ sym e; lent = l ∙ sym m }
does_once s k true End p q = both p q
does_once s k true (UnknownKind place) p q = both p q
does_once s k true (CutShort place) p q = both p q

-- what a record does to the state and the lists, and what it tells, is fixed by the state, the lists and the record
pub steps_once : {s : State} {k : Lists} {item : Item} {d e : Done} {l m : Lists} → Steps s k item d l → Steps s k item e m → SameStep d e l m
steps_once {s} {k} {item} a b = does_once s k (in_order s.phase item) item (does a) (does b)
