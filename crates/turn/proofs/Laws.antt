-- What a record's line asks of the list, and the two ways of a turn. Assumes nothing.
use mathlib.Core.Path.{◌≡◌, refl, ap, ◌∙◌}
use mathlib.Core.Bool.{Bool, true, false, cond}
use mathlib.Core.List.{List, []}
use Prim.Native.Nat.{ℕ, ◌≤◌, ◌<◌}
use native.Mathlib.Omega.{arith}
use lib.Dec.{leb, eqb}
use lib.ListN.{length, drop, length-append}
use Rattle.rules.specs.Jobs.{written, changed_below}
use Rattle.rules.specs.Refusals.{Verdict, accepted, refused, judge_links}
use Rattle.rules.specs.Columns.{table, rows_of}
use Rattle.rules.proofs.Accepted.{update_accept}
use Rattle.tree.specs.Value.{arrays_of}
use Rattle.stream.specs.declared.Item.{Item}
use Rattle.stream.specs.declared.Read.{Read}
use Rattle.stream.specs.Records.{read_at}
use Rattle.earlier.specs.Earlier.{earlier_of}
use Rattle.state.specs.declared.Out.{Out}
use Rattle.state.specs.declared.Out.TheVariants.{Nothing, Row, Changed, Refused}
use Rattle.state.specs.declared.State.{State}
use Rattle.state.specs.declared.Done.{Done}
use Rattle.state.specs.States.{networked, linked, changing, goes_on}
use Rattle.session.specs.declared.Lists.{Lists}
use Rattle.session.specs.Holding.{Holds}
use Rattle.session.specs.Steps.{link_verdict, change_verdict, Applied, Steps, out_of_order, unknown, cut, ended, network, link, change, apply, ask}
use Rattle.session.proofs.Keeps.{lent_of}
use Rattle.words.specs.Putting.{Put}
use Rattle.lines.specs.Lines.{line_of, refusal_line, again_line, entries_in}
use Rattle.turn.specs.Turns.{is_again, most_bytes, too_long, reads, Turned}

-- ---- a line tells at most the entries that the list has

network_none : (v : Verdict) (s : State) (nodes root n : ℕ) → entries_in (networked v s nodes root).out ≤ n
network_none accepted s nodes root n = omega arith
network_none (refused number values) s nodes root n = omega arith

link_none : (v : Verdict) (s : State) (n : ℕ) → entries_in (linked v s).out ≤ n
link_none accepted s n = omega arith
link_none (refused number values) s n = omega arith

change_none : (v : Verdict) (s : State) (n : ℕ) → entries_in (changing v s).out ≤ n
change_none accepted s n = omega arith
change_none (refused number values) s n = omega arith

ask_none : (past : Bool) (node dist parent first n : ℕ) → entries_in (cond past (Refused 10) (Row node dist parent first)) ≤ n
ask_none true node dist parent first n = omega arith
ask_none false node dist parent first n = omega arith

front_fits : (front list listed : List ℕ) (count : ℕ) → listed ≡ written front list → count ≡ length front → count ≤ length listed
front_fits front list listed count e n = omega (arith, ap length e, length-append front (drop (length front) list))

applied_fits : {s : State} {starts ends costs changed newcosts list : List ℕ} {done : Done} {costs' list' : List ℕ}
    → Applied s starts ends costs changed newcosts list done costs' list' → entries_in done.out ≤ length list'
applied_fits {s} {list = list} {done} {list' = list'} a =
    let up = update_accept a.updated refl in
    let told = changed_below (rows_of (arrays_of s.tree)) (rows_of (arrays_of done.state.tree)) s.nodes in
    rw (ap (λ (x : Done). x.out) a.kept) (front_fits told list list' a.count up.listed up.count)

entries_listed : {s : State} {k : Lists} {item : Item} {done : Done} {after : Lists} → Steps s k item done after
    → entries_in done.out ≤ length after.list
entries_listed (out_of_order e) = omega arith
entries_listed unknown = omega arith
entries_listed cut = omega arith
entries_listed (ended e) = omega arith
entries_listed {s} (network {nodes} {root} e) = network_none (judge_links (table nodes root [] [] [])) s nodes root _
entries_listed {s} {k} (link {start} {end} {cost} e) = link_none (link_verdict s k start end cost) s _
entries_listed {s} {k} (change {link = named} {cost} {r} ready) = change_none (change_verdict r k named cost) r _
entries_listed (apply r a) = applied_fits a
entries_listed (ask {node} {r} ready) =
    let rows = rows_of (arrays_of r.tree) in
    ask_none (leb r.nodes node) node (rows.dist node) (rows.parent node) (rows.first node) _

-- what the line of a record asks of the list
pub entries : {s : State} {k : Lists} {item : Item} {done : Done} {after : Lists} → Steps s k item done after → Holds done.state after
    → (entries_in done.out ≤ 256) × (entries_in done.out ≤ length after.list)
entries steps holds =
    let listed = entries_listed steps in
    (omega (arith, (lent_of holds).list_long), listed)

-- ---- the line is that of the earlier place where it tells one

line_same : (out : Out) (list : List ℕ) (place : ℕ) {x y : ℕ} → (is_again out ≡ true → x ≡ y) → line_of out list place x ≡ line_of out list place y
line_same Nothing list place same = refl
line_same (Row node dist parent first) list place same = refl
line_same (Changed count) list place same = refl
line_same (Refused number) list place {x} {y} same = at (eqb number 9) same
  where
    at : (again : Bool) → (again ≡ true → x ≡ y) → cond again (again_line place x) (refusal_line number place) ≡ cond again (again_line place y) (refusal_line number place)
    at true same = ap (again_line place) (same refl)
    at false same = refl

-- ---- the two ways of a turn

module _ {stream : List ℕ} {place : ℕ} {s : State} {k : Lists} {before : List ℕ} {at : ℕ} {text : List ℕ} {end : ℕ} where
  pub turned_too_long : most_bytes < length stream → Holds s k → Put before at (refusal_line 24 most_bytes) text end
      → Turned stream place s k before at (record { state = s; next = place; end = end; more = false }) k text
  turned_too_long long holds put = record { line = refusal_line 24 most_bytes; turns = too_long long; put = put; holds = holds }

  pub turned_reads : {read : Read} {done : Done} {after : Lists} {more : Bool} {earlier : ℕ} → length stream ≤ most_bytes → read ≡ read_at stream place
      → Steps s k read.item done after → Holds done.state after → more ≡ goes_on read.item done.out
      → (is_again done.out ≡ true → earlier ≡ earlier_of stream place read.item)
      → Put before at (line_of done.out after.list place earlier) text end
      → Turned stream place s k before at (record { state = done.state; next = read.next; end = end; more = more }) after text
  turned_reads {read} {done = done} {after = after} {earlier = earlier} few is steps holds goes same put = record {
    line = line_of done.out after.list place (earlier_of stream place (read_at stream place).item);
    turns = rw (goes, is) (reads few (rw is at steps));
    put = rw (line_same done.out after.list place (λ q. same q ∙ ap (λ (r : Read). earlier_of stream place r.item) is)) at put;
    holds = holds;
  }
