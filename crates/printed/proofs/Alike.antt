-- Two states with their lists are alike where they differ only in what no later record looks at: before NETWORK in
-- everything, then in what stands past the links, past the rows that wait, and in the list. Alike ones stay alike, and
-- tell the same lines. Assumes nothing.
use mathlib.Core.Path.{◌≡◌, refl, sym, ap, ◌∙◌}
use mathlib.Core.Bool.{Bool, true, false, cond}
use mathlib.Core.List.{List, [], ◌∷◌, ◌++◌, map}
use Prim.Native.Nat.{ℕ, ◌+◌, ◌≤◌, ◌<◌}
use native.Mathlib.Omega.{arith}
use native.Mathlib.Decide.{dec_lt}
use lib.Dec.{leb}
use lib.ListN.{length, take, drop, set, length-append, length-drop, length-set, take-append-drop}
use lib.Seq.{take_all, take_at, set_out}
use Rattle.rules.specs.Columns.{Table, table, Arrays, rows_of}
use Rattle.rules.specs.Jobs.{changed_below, Built}
use Rattle.rules.specs.Refusals.{Verdict, accepted, refused, judge_links}
use Rattle.rules.specs.declared.Change.{Change as Row-change}
use Rattle.rules.proofs.OneOutcome.{built_once, next_once}
use Rattle.rules.proofs.Accepted.{Accept, update_accept, update_good}
use Rattle.batch.specs.Rows.{rows_of_columns}
use Rattle.tree.specs.Value.{arrays_of}
use Rattle.stream.specs.declared.Item.{Item}
use Rattle.stream.specs.declared.Item.TheVariants.{Network, Link, Change, Apply, Ask, End, UnknownKind, CutShort}
use Rattle.splits.proofs.Splits.{both}
use Rattle.order.specs.declared.Phase.{Phase}
use Rattle.order.specs.declared.Phase.TheVariants.{Unread, Linking, Routing}
use Rattle.state.specs.declared.Out.{Out}
use Rattle.state.specs.declared.Out.TheVariants.{Row, Changed, Refused}
use Rattle.state.specs.declared.State.{State}
use Rattle.state.specs.declared.Done.{Done}
use Rattle.enter.specs.More.{judge_waiting}
use Rattle.state.specs.States.{table_of, waiting, refusing, networked, linked, changing, begun, asked, is_refusal}
use Rattle.session.specs.Steps.{link_verdict, link_lists, change_verdict, change_lists, Begun, Applied, Ready, begins, stays, Steps}
use Rattle.order.specs.Order.{in_order}
use Rattle.session.specs.declared.Lists.{Lists}
use Rattle.session.specs.Holding.{lists}
use Rattle.enter.proofs.Entries.{entry_written}
use Rattle.words.specs.Words.{decimal}
use Rattle.lines.specs.Lines.{letter_a, ending, line_of}
use Rattle.printed.proofs.Runs.{unlike}
use Rattle.printed.proofs.Ways.{Does, Way, late, does, way}

-- ---- alike

pub record SameLong (k k' : Lists) : Type 0 where
  pub starts : length k.starts ≡ length k'.starts
  pub ends : length k.ends ≡ length k'.ends
  pub costs : length k.costs ≡ length k'.costs
  pub changed : length k.changed ≡ length k'.changed
  pub newcosts : length k.newcosts ≡ length k'.newcosts

pub record SameTable (s : State) (k : Lists) (s' : State) (k' : Lists) : Type 0 where
  pub nodes : s.nodes ≡ s'.nodes
  pub root : s.root ≡ s'.root
  pub links : s.links ≡ s'.links
  pub starts : take s.links k.starts ≡ take s'.links k'.starts
  pub ends : take s.links k.ends ≡ take s'.links k'.ends
  pub costs : take s.links k.costs ≡ take s'.links k'.costs

pub record SameRows (s : State) (k : Lists) (s' : State) (k' : Lists) : Type 0 where
  pub rows : s.rows ≡ s'.rows
  pub changed : take s.rows k.changed ≡ take s'.rows k'.changed
  pub newcosts : take s.rows k.newcosts ≡ take s'.rows k'.newcosts

pub record BothLinking (s : State) (k : Lists) (s' : State) (k' : Lists) : Type 0 where
  pub phase : s.phase ≡ Linking
  pub phase' : s'.phase ≡ Linking
  pub table : SameTable s k s' k'
  pub rows : SameRows s k s' k'

pub record BothRouting (s : State) (k : Lists) (s' : State) (k' : Lists) : Type 0 where
  pub phase : s.phase ≡ Routing
  pub phase' : s'.phase ≡ Routing
  pub table : SameTable s k s' k'
  pub rows : SameRows s k s' k'
  pub tree : arrays_of s.tree ≡ arrays_of s'.tree

pub data Phases (s : State) (k : Lists) (s' : State) (k' : Lists) : Type 0 where
  unread : s.phase ≡ Unread → s'.phase ≡ Unread → Phases s k s' k'
  linking : BothLinking s k s' k' → Phases s k s' k'
  routing : BothRouting s k s' k' → Phases s k s' k'

pub record Alike (s : State) (k : Lists) (s' : State) (k' : Lists) : Type 0 where
  pub long : SameLong k k'
  pub phases : Phases s k s' k'

-- two outcomes tell the same, and unless they are refusals they are alike
pub record Same (d : Done) (l : Lists) (d' : Done) (l' : Lists) : Type 0 where
  pub line : (place earlier : ℕ) → line_of d.out l.list place earlier ≡ line_of d'.out l'.list place earlier
  pub refuse : is_refusal d.out ≡ is_refusal d'.out
  pub alike : is_refusal d.out ≡ false → Alike d.state l d'.state l'

same_at : {d e d' e' : Done} {l m l' m' : Lists} → d ≡ e → l ≡ m → d' ≡ e' → l' ≡ m' → Same e m e' m' → Same d l d' l'
same_at a b c d same = rw (a, b, c, d) same

alike_at : {s r s' r' : State} {k k' : Lists} → s ≡ r → s' ≡ r' → Alike r k r' k' → Alike s k s' k'
alike_at a b alike = rw (a, b) alike

same_refusing : {s s' : State} {l l' : Lists} (number : ℕ) → Same (refusing s number) l (refusing s' number) l'
same_refusing number = record { line = λ place earlier. refl; refuse = refl; alike = λ e. absurd (both refl e) }

-- ---- phases

phases_same : {s s' : State} {k k' : Lists} → Phases s k s' k' → s.phase ≡ s'.phase
phases_same (unread p q) = p ∙ sym q
phases_same (linking b) = b.phase ∙ sym b.phase'
phases_same (routing b) = b.phase ∙ sym b.phase'

both_linking : {s s' : State} {k k' : Lists} → Phases s k s' k' → s.phase ≡ Linking → BothLinking s k s' k'
both_linking (unread p q) e = unlike (cc)
both_linking (linking b) e = b
both_linking (routing b) e = unlike (cc)

both_routing : {s s' : State} {k k' : Lists} → Phases s k s' k' → s.phase ≡ Routing → BothRouting s k s' k'
both_routing (unread p q) e = unlike (cc)
both_routing (linking b) e = unlike (cc)
both_routing (routing b) e = b

-- ---- one entry more

entry_same : (n : ℕ) (l l' : List ℕ) (x : ℕ) → length l ≡ length l' → take n l ≡ take n l' → take (n + 1) (set l n x) ≡ take (n + 1) (set l' n x)
entry_same n l l' x long same = at (dec_lt n (length l))
  where
    past : (l : List ℕ) → length l ≤ n → take (n + 1) (set l n x) ≡ take n l
    past l p = ap (take (n + 1)) (set_out l n x p) ∙ take_all (n + 1) l (omega arith) ∙ sym (take_all n l p)

    at : Dec (n < length l) → take (n + 1) (set l n x) ≡ take (n + 1) (set l' n x)
    at (yes h) = entry_written l n x h ∙ ap (λ (t : List ℕ). t ++ (x ∷ [])) same ∙ sym (entry_written l' n x (omega arith))
    at (no h) = past l (omega arith) ∙ same ∙ sym (past l' (omega arith))

entry_alike : {n n' : ℕ} (l l' : List ℕ) (x : ℕ) → n ≡ n' → length l ≡ length l' → take n l ≡ take n' l' → take (n + 1) (set l n x) ≡ take (n' + 1) (set l' n' x)
entry_alike {n} {n'} l l' x e long same = rw e (entry_same n' l l' x long (rw e at same))

set_long : (n n' : ℕ) (l l' : List ℕ) (x : ℕ) → length l ≡ length l' → length (set l n x) ≡ length (set l' n' x)
set_long n n' l l' x e = length-set l n x ∙ e ∙ sym (length-set l' n' x)

-- ---- NETWORK

same_network : (s s' : State) {k k' : Lists} → SameLong k k' → (nodes root : ℕ) (v : Verdict)
    → Same (networked v s nodes root) k (networked v s' nodes root) k'
same_network s s' long nodes root accepted = record {
  line = λ place earlier. refl;
  refuse = refl;
  alike = λ e. record {
    long = long;
    phases = linking (record {
      phase = refl;
      phase' = refl;
      table = record { nodes = refl; root = refl; links = refl; starts = refl; ends = refl; costs = refl };
      rows = record { rows = refl; changed = refl; newcosts = refl };
    });
  };
}
same_network s s' long nodes root (refused number values) = same_refusing number

-- ---- LINK

module _ {s s' : State} {k k' : Lists} (long : SameLong k k') (b : BothLinking s k s' k') (start end cost : ℕ) where
  same_link_verdict : link_verdict s k start end cost ≡ link_verdict s' k' start end cost
  same_link_verdict =
      let t = b.table in
      λ i. judge_links (table (t.nodes i) (t.root i) (t.starts i ++ (start ∷ [])) (t.ends i ++ (end ∷ [])) (t.costs i ++ (cost ∷ [])))

  link_long : SameLong (link_lists accepted s k start end cost) (link_lists accepted s' k' start end cost)
  link_long = record {
    starts = set_long s.links s'.links k.starts k'.starts start long.starts;
    ends = set_long s.links s'.links k.ends k'.ends end long.ends;
    costs = set_long s.links s'.links k.costs k'.costs cost long.costs;
    changed = long.changed;
    newcosts = long.newcosts;
  }

  same_linked : (v : Verdict) → Same (linked v s) (link_lists v s k start end cost) (linked v s') (link_lists v s' k' start end cost)
  same_linked accepted = record {
    line = λ place earlier. refl;
    refuse = refl;
    alike = λ e. record {
      long = link_long;
      phases = linking (record {
        phase = b.phase;
        phase' = b.phase';
        table = record {
          nodes = b.table.nodes;
          root = b.table.root;
          links = ap (λ (n : ℕ). n + 1) b.table.links;
          starts = entry_alike k.starts k'.starts start b.table.links long.starts b.table.starts;
          ends = entry_alike k.ends k'.ends end b.table.links long.ends b.table.ends;
          costs = entry_alike k.costs k'.costs cost b.table.links long.costs b.table.costs;
        };
        rows = record { rows = b.rows.rows; changed = b.rows.changed; newcosts = b.rows.newcosts };
      });
    };
  }
  same_linked (refused number values) = same_refusing number

  same_link : Same (linked (link_verdict s k start end cost) s) (link_lists (link_verdict s k start end cost) s k start end cost)
      (linked (link_verdict s' k' start end cost) s') (link_lists (link_verdict s' k' start end cost) s' k' start end cost)
  same_link =
      same_at refl refl (ap (λ (v : Verdict). linked v s') (sym same_link_verdict)) (ap (λ (v : Verdict). link_lists v s' k' start end cost) (sym same_link_verdict))
      (same_linked (link_verdict s k start end cost))

-- ---- the first record after the LINKs

table_same : {s s' : State} {k k' : Lists} → SameTable s k s' k' → table_of s k.starts k.ends k.costs ≡ table_of s' k'.starts k'.ends k'.costs
table_same t = λ i. table (t.nodes i) (t.root i) (t.starts i) (t.ends i) (t.costs i)

built_alike : {t t' : Table} {r r' : Arrays} → t ≡ t' → Built t accepted r → Built t' accepted r' → r ≡ r'
built_alike e b b' = (built_once (rw e at b) b').tree

begun_alike : {s s' r r' : State} {k k' : Lists} → BothLinking s k s' k' → Begun s k.starts k.ends k.costs r → Begun s' k'.starts k'.ends k'.costs r'
    → BothRouting r k r' k'
begun_alike {s} {s'} {r} {r'} {k} {k'} b x y =
    let tree = built_alike (table_same b.table) x.built y.built in
    rw (x.kept, y.kept) (at r.tree r'.tree tree)
  where
    at : (t t' : _) → arrays_of t ≡ arrays_of t'
        → BothRouting (begun s t) k (begun s' t') k'
    at t t' tree = record {
      phase = refl;
      phase' = refl;
      table = record { nodes = b.table.nodes; root = b.table.root; links = b.table.links; starts = b.table.starts; ends = b.table.ends; costs = b.table.costs };
      rows = record { rows = b.rows.rows; changed = b.rows.changed; newcosts = b.rows.newcosts };
      tree = tree;
    }

ready_alike : {s s' r r' : State} {k k' : Lists} → Phases s k s' k' → Ready s k r → Ready s' k' r' → BothRouting r k r' k'
ready_alike p (begins e x) (begins e' y) = begun_alike (both_linking p e) x y
ready_alike p (begins e x) (stays e') = let same = phases_same p in unlike (cc)
ready_alike p (stays e) (begins e' y) = let same = phases_same p in unlike (cc)
ready_alike p (stays e) (stays e') = both_routing p e

-- ---- CHANGE

module _ {s s' : State} {k k' : Lists} (long : SameLong k k') (b : BothRouting s k s' k') where
  module _ (named cost : ℕ) where
    same_change_verdict : change_verdict s k named cost ≡ change_verdict s' k' named cost
    same_change_verdict =
        let t = table_same b.table in
        let r = b.rows in
        λ i. judge_waiting (t i) (rows_of_columns (r.changed i ++ (named ∷ [])) (r.newcosts i ++ (cost ∷ [])))

    same_changing : (v : Verdict) → Same (changing v s) (change_lists v s k named cost) (changing v s') (change_lists v s' k' named cost)
    same_changing accepted = record {
      line = λ place earlier. refl;
      refuse = refl;
      alike = λ e. record {
        long = record {
          starts = long.starts;
          ends = long.ends;
          costs = long.costs;
          changed = set_long s.rows s'.rows k.changed k'.changed named long.changed;
          newcosts = set_long s.rows s'.rows k.newcosts k'.newcosts cost long.newcosts;
        };
        phases = routing (record {
          phase = b.phase;
          phase' = b.phase';
          table = record { nodes = b.table.nodes; root = b.table.root; links = b.table.links; starts = b.table.starts; ends = b.table.ends; costs = b.table.costs };
          rows = record {
            rows = ap (λ (n : ℕ). n + 1) b.rows.rows;
            changed = entry_alike k.changed k'.changed named b.rows.rows long.changed b.rows.changed;
            newcosts = entry_alike k.newcosts k'.newcosts cost b.rows.rows long.newcosts b.rows.newcosts;
          };
          tree = b.tree;
        });
      };
    }
    same_changing (refused number values) = same_refusing number

    same_change : Same (changing (change_verdict s k named cost) s) (change_lists (change_verdict s k named cost) s k named cost)
        (changing (change_verdict s' k' named cost) s') (change_lists (change_verdict s' k' named cost) s' k' named cost)
    same_change =
        same_at refl refl (ap (λ (v : Verdict). changing v s') (sym same_change_verdict)) (ap (λ (v : Verdict). change_lists v s' k' named cost) (sym same_change_verdict))
        (same_changing (change_verdict s k named cost))

  -- ---- ASK

  asked_line : (past : Bool) (node dist parent first place earlier : ℕ) (list list' : List ℕ)
      → line_of (cond past (Refused 10) (Row node dist parent first)) list place earlier ≡ line_of (cond past (Refused 10) (Row node dist parent first)) list' place earlier
  asked_line true node dist parent first place earlier list list' = refl
  asked_line false node dist parent first place earlier list list' = refl

  asked_same : (node : ℕ) → asked s node ≡ asked s' node
  asked_same node =
      let n = b.table.nodes in
      let t = b.tree in
      λ i. cond (leb (n i) node) (Refused 10) (Row node ((rows_of (t i)).dist node) ((rows_of (t i)).parent node) ((rows_of (t i)).first node))

  same_ask : (node : ℕ) → Same (record { state = s; out = asked s node }) k (record { state = s'; out = asked s' node }) k'
  same_ask node =
      let rows = rows_of (arrays_of s.tree) in
      record {
        line = λ place earlier. asked_line (leb s.nodes node) node (rows.dist node) (rows.parent node) (rows.first node) place earlier k.list k'.list
            ∙ ap (λ (out : Out). line_of out k'.list place earlier) (asked_same node);
        refuse = ap is_refusal (asked_same node);
        alike = λ e. record { long = long; phases = routing b };
      }

-- ---- APPLY

record SameUpdate (new new' : Arrays) (costs costs' listed listed' : List ℕ) (count count' : ℕ) : Type 0 where
  pub trees : new ≡ new'
  pub columns : costs ≡ costs'
  pub counts : count ≡ count'
  pub told : take count listed ≡ take count' listed'

update_alike : {t t' : Table} {old old' new new' : Arrays} {batch batch' : List Row-change} {list list' costs costs' listed listed' : List ℕ} {count count' : ℕ}
    → t ≡ t' → old ≡ old' → batch ≡ batch' → Accept t old batch list new costs listed count → Accept t' old' batch' list' new' costs' listed' count'
    → SameUpdate new new' costs costs' listed listed' count count'
update_alike {t} {t'} {old} {old'} {new} {new'} {batch} {batch'} {list} {list'} {count = count} {count' = count'} e f g a b =
    let here = rw (e, f, g) at a in
    let same = next_once (update_good here).table here.whole b.whole here.next b.next in
    let front = changed_below (rows_of old') (rows_of new) t'.nodes in
    let front' = changed_below (rows_of old') (rows_of new') t'.nodes in
    let fronts : front ≡ front' = ap (λ (r : Arrays). changed_below (rows_of old') (rows_of r) t'.nodes) same in
    record {
      trees = same;
      columns = here.costs ∙ sym b.costs;
      counts = here.count ∙ ap length fronts ∙ sym b.count;
      told = ap (take count) here.listed ∙ take_at front (drop (length front) list) count (sym here.count)
          ∙ fronts ∙ sym (take_at front' (drop (length front') list') count' (sym b.count)) ∙ sym (ap (take count') b.listed);
    }

column_long : {n n' : ℕ} (old old' new new' : List ℕ) → n ≡ n' → length old ≡ length old' → take n new ≡ take n' new'
    → drop n new ≡ drop n old → drop n' new' ≡ drop n' old' → length new ≡ length new'
column_long {n} {n'} old old' new new' e long front past past' =
    omega (
      arith,
      e,
      long,
      ap length front,
      ap length past,
      ap length past',
      length-drop n old,
      length-drop n' old',
      ap length (take-append-drop n new),
      length-append (take n new) (drop n new),
      ap length (take-append-drop n' new'),
      length-append (take n' new') (drop n' new'),
    )

changed_same : {out out' : Out} (list list' : List ℕ) {count count' : ℕ} → out ≡ Changed count → out' ≡ Changed count' → count ≡ count'
    → take count list ≡ take count' list' → (place earlier : ℕ) → line_of out list place earlier ≡ line_of out' list' place earlier
changed_same list list' p q e told place earlier = rw (p, q) (λ i. letter_a ∷ ending (decimal (e i) ∷ map decimal (told i)))

module _ {s s' : State} {k k' : Lists} (long : SameLong k k') (b : BothRouting s k s' k') {d d' : Done} {costs costs' list list' : List ℕ}
    (a : Applied s k.starts k.ends k.costs k.changed k.newcosts k.list d costs list)
    (a' : Applied s' k'.starts k'.ends k'.costs k'.changed k'.newcosts k'.list d' costs' list') where
  rows_same : waiting s k.changed k.newcosts ≡ waiting s' k'.changed k'.newcosts
  rows_same = let r = b.rows in λ i. rows_of_columns (r.changed i) (r.newcosts i)

  update_same : SameUpdate (arrays_of d.state.tree) (arrays_of d'.state.tree) (take s.links costs) (take s'.links costs') list list' a.count a'.count
  update_same = update_alike (table_same b.table) b.tree rows_same (update_accept a.updated refl) (update_accept a'.updated refl)

  same_apply : Same d (lists k.starts k.ends costs k.changed k.newcosts list) d' (lists k'.starts k'.ends costs' k'.changed k'.newcosts list')
  same_apply =
      let same = update_same in
      record {
        line = changed_same list list' (ap (λ (x : Done). x.out) a.kept) (ap (λ (x : Done). x.out) a'.kept) same.counts same.told;
        refuse = ap (λ (x : Done). is_refusal x.out) a.kept ∙ sym (ap (λ (x : Done). is_refusal x.out) a'.kept);
        alike = λ e. alike_at (ap (λ (x : Done). x.state) a.kept) (ap (λ (x : Done). x.state) a'.kept) (record {
          long = record {
            starts = long.starts;
            ends = long.ends;
            costs = column_long k.costs k'.costs costs costs' b.table.links long.costs same.columns a.beyond a'.beyond;
            changed = long.changed;
            newcosts = long.newcosts;
          };
          phases = routing (record {
            phase = b.phase;
            phase' = b.phase';
            table = record { nodes = b.table.nodes; root = b.table.root; links = b.table.links; starts = b.table.starts; ends = b.table.ends; costs = same.columns };
            rows = record { rows = refl; changed = refl; newcosts = refl };
            tree = same.trees;
          });
        });
      }

-- ---- a record

module _ {s s' : State} {k k' : Lists} (alike : Alike s k s' k') {d d' : Done} {l l' : Lists} where
  does_same : (item : Item) → Does item s k d l → Does item s' k' d' l' → Same d l d' l'
  does_same (Network nodes root) x y =
      same_at x.0 x.1 y.0 y.1 (same_network s s' alike.long nodes root (judge_links (table nodes root [] [] [])))
  does_same (Link start end cost) x y =
      same_at x.1 x.2 y.1 y.2 (same_link alike.long (both_linking alike.phases x.0) start end cost)
  does_same (Change named cost) x y =
      same_at x.done x.lent y.done y.lent (same_change alike.long (ready_alike alike.phases x.ready y.ready) named cost)
  does_same Apply x y =
      same_at refl x.lent refl y.lent (same_apply alike.long (ready_alike alike.phases x.ready y.ready) x.applies y.applies)
  does_same (Ask node) x y =
      same_at x.done x.lent y.done y.lent (same_ask alike.long (ready_alike alike.phases x.ready y.ready) node)
  does_same End x y = same_at x.0 x.1 y.0 y.1 (record { line = λ place earlier. refl; refuse = refl; alike = λ e. alike })
  does_same (UnknownKind place) x y = same_at x.0 refl y.0 refl (same_refusing 21)
  does_same (CutShort place) x y = same_at x.0 refl y.0 refl (same_refusing 22)

  way_same : {item : Item} → Way item s k d l → Way item s' k' d' l' → Same d l d' l'
  way_same (late e x z) (late e' y z') = same_at x refl y refl (same_refusing 23)
  way_same {item} (late e x z) (does e' y) = absurd (both e' (sym (ap (λ (phase : Phase). in_order phase item) (phases_same alike.phases)) ∙ e))
  way_same {item} (does e x) (late e' y z') = absurd (both e (ap (λ (phase : Phase). in_order phase item) (phases_same alike.phases) ∙ e'))
  way_same {item} (does e x) (does e' y) = does_same item x y

  -- alike states with their lists stay alike, and tell the same
  pub step_same : {item : Item} → Steps s k item d l → Steps s' k' item d' l' → Same d l d' l'
  step_same a b = way_same (way a) (way b)
