-- What a record does, by its kind. Assumes nothing.
use mathlib.Core.Path.{◌≡◌, refl, ap}
use mathlib.Core.Bool.{true, false, not}
use mathlib.Core.List.{List, []}
use Prim.Native.Nat.{ℕ}
use Rattle.rules.specs.Columns.{table}
use Rattle.rules.specs.Refusals.{judge_links}
use Rattle.stream.specs.declared.Item.{Item}
use Rattle.stream.specs.declared.Item.TheVariants.{Network, Link, Change, Apply, Ask, End, UnknownKind, CutShort}
use Rattle.order.specs.declared.Phase.{Phase}
use Rattle.order.specs.declared.Phase.TheVariants.{Linking}
use Rattle.state.specs.declared.Out.TheVariants.{Nothing}
use Rattle.state.specs.declared.State.{State}
use Rattle.state.specs.declared.Done.{Done}
use Rattle.state.specs.States.{refusing, networked, linked, changing, asked}
use Rattle.session.specs.Steps.{link_verdict, link_lists, change_verdict, change_lists, Applied, Ready, begins, stays, Steps, out_of_order, unknown, cut, ended, network, link, change, apply, ask}
use Rattle.order.specs.Order.{is_unread, is_linking, in_order}
use Rattle.session.specs.declared.Lists.{Lists}
use Rattle.session.specs.Holding.{lists}

pub record Changes (s : State) (k : Lists) (named cost : ℕ) (d : Done) (l : Lists) : Type 0 where
  pub at : State
  pub ready : Ready s k at
  pub done : d ≡ changing (change_verdict at k named cost) at
  pub lent : l ≡ change_lists (change_verdict at k named cost) at k named cost

pub record Applies (s : State) (k : Lists) (d : Done) (l : Lists) : Type 0 where
  pub at : State
  pub ready : Ready s k at
  pub costs : List ℕ
  pub listed : List ℕ
  pub applies : Applied at k.starts k.ends k.costs k.changed k.newcosts k.list d costs listed
  pub lent : l ≡ lists k.starts k.ends costs k.changed k.newcosts listed

pub record Asks (s : State) (k : Lists) (node : ℕ) (d : Done) (l : Lists) : Type 0 where
  pub at : State
  pub ready : Ready s k at
  pub done : d ≡ record { state = at; out = asked at node }
  pub lent : l ≡ k

abbrev pub Does : Item → State → Lists → Done → Lists → Type 0
Does (Network nodes root) s k d l = (d ≡ networked (judge_links (table nodes root [] [] [])) s nodes root) × (l ≡ k)
Does (Link start end cost) s k d l =
    (s.phase ≡ Linking) × (d ≡ linked (link_verdict s k start end cost) s) × (l ≡ link_lists (link_verdict s k start end cost) s k start end cost)
Does (Change named cost) s k d l = Changes s k named cost d l
Does Apply s k d l = Applies s k d l
Does (Ask node) s k d l = Asks s k node d l
Does End s k d l = (d ≡ record { state = s; out = Nothing }) × (l ≡ k)
Does (UnknownKind place) s k d l = (d ≡ refusing s 21) × (l ≡ k)
Does (CutShort place) s k d l = (d ≡ refusing s 22) × (l ≡ k)

pub data Way (item : Item) (s : State) (k : Lists) (d : Done) (l : Lists) : Type 0 where
  late : in_order s.phase item ≡ false → d ≡ refusing s 23 → l ≡ k → Way item s k d l
  does : in_order s.phase item ≡ true → Does item s k d l → Way item s k d l

not_unread : {s r : State} {k : Lists} → Ready s k r → not (is_unread s.phase) ≡ true
not_unread (begins p b) = ap (λ (phase : Phase). not (is_unread phase)) p
not_unread (stays p) = ap (λ (phase : Phase). not (is_unread phase)) p

pub way : {item : Item} {s : State} {k : Lists} {d : Done} {l : Lists} → Steps s k item d l → Way item s k d l
way (out_of_order e) = late e refl refl
way unknown = does refl (refl, refl)
way cut = does refl (refl, refl)
way (ended e) = does (ap not e) (refl, refl)
way (network p) = does (ap is_unread p) (refl, refl)
way (link p) = does (ap is_linking p) (p, refl, refl)
way (change {r = r} ready) = does (not_unread ready) (record { at = r; ready = ready; done = refl; lent = refl })
way (apply {r = r} {costs = costs} {list = list} ready a) =
    does (not_unread ready) (record { at = r; ready = ready; costs = costs; listed = list; applies = a; lent = refl })
way (ask {r = r} ready) = does (not_unread ready) (record { at = r; ready = ready; done = refl; lent = refl })
