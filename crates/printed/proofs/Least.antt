-- Every N line of every stream shows the least sum over the links then usable. Assumes nothing.
use mathlib.Core.Path.{◌≡◌, refl, sym, ap}
use mathlib.Core.Logic.{◌⊎◌, inl, inr}
use mathlib.Core.Bool.{Bool, true, false, cond}
use mathlib.Core.List.{List, [], ◌++◌}
use Prim.Native.Nat.{ℕ, ◌<◌}
use native.Mathlib.Omega.{arith}
use native.Mathlib.Decide.{dec_lt}
use lib.Dec.{eqb}
use borrow.Author.Tests.{le-leb}
use Rattle.rules.specs.Refusals.{Verdict, accepted, refused, judge_links}
use Rattle.rules.specs.Columns.{table}
use Rattle.splits.specs.Encoding.{AreBytes}
use Rattle.stream.specs.declared.Item.{Item}
use Rattle.stream.specs.Records.{read_at}
use Rattle.order.specs.declared.Phase.TheVariants.{Unread}
use Rattle.state.specs.declared.Out.{Out}
use Rattle.state.specs.declared.Out.TheVariants.{Refused}
use Rattle.state.specs.declared.State.{State}
use Rattle.state.specs.declared.Done.{Done}
use Rattle.state.specs.States.{networked, linked, changing, asked}
use Rattle.session.specs.declared.Lists.{Lists}
use Rattle.session.specs.Steps.{link_verdict, change_verdict, Steps, out_of_order, unknown, cut, ended, network, link, change, apply, ask}
use Rattle.outcomes.specs.Outcomes.{CostsFit}
use Rattle.outcomes.proofs.Listed.{met}
use Rattle.outcomes.proofs.OneOutcome.{ready_read}
use Rattle.lines.specs.Lines.{line_of, refusal_line, again_line}
use Rattle.earlier.specs.Earlier.{earlier_of}
use Rattle.turn.specs.Turns.{most_bytes, too_long, reads}
use Rattle.turns.specs.Filling.{Tells, none as no_turn, then}
use Rattle.printed.specs.Prints.{Prints}
use Rattle.printed.specs.Least.{LeastLine, OtherLine, silent, changed, refused as refusal, again, LeastText, none, row, other}
use Rattle.printed.proofs.Costs.{tells_led, asks_least}

-- ---- the lines of other records

module _ (s : State) (list : List ℕ) (place earlier : ℕ) where
  refusal_line_lem : (number : ℕ) → OtherLine (line_of (Refused number) list place earlier)
  refusal_line_lem number = by (eqb number 9) refl
    where
      by : (b : Bool) → b ≡ eqb number 9 → OtherLine (cond (eqb number 9) (again_line place earlier) (refusal_line number place))
      by true e = rw (← e) (again place earlier)
      by false e = rw (← e) (refusal number place)

  network_line : (v : Verdict) (nodes root : ℕ) → OtherLine (line_of (networked v s nodes root).out list place earlier)
  network_line accepted nodes root = silent
  network_line (refused number values) nodes root = refusal_line_lem number

  link_line : (v : Verdict) → OtherLine (line_of (linked v s).out list place earlier)
  link_line accepted = silent
  link_line (refused number values) = refusal_line_lem number

  change_line : (v : Verdict) → OtherLine (line_of (changing v s).out list place earlier)
  change_line accepted = silent
  change_line (refused number values) = refusal_line_lem number

-- ---- one turn

module _ {stream : List ℕ} {from : State} {lent : Lists} {turns place : ℕ} {told : List ℕ} {s : State} {k : Lists} (bytes : AreBytes stream) (unread : from.phase ≡ Unread)
    (fits : CostsFit lent) (tells : Tells stream 0 from lent turns told s k place true) (earlier : ℕ) where
  item_line : {item : Item} {d : Done} {l : Lists} → Steps s k item d l → item ≡ (read_at stream place).item
      → LeastLine stream from lent (line_of d.out l.list place earlier) ⊎ OtherLine (line_of d.out l.list place earlier)
  item_line (out_of_order x) e = inr (refusal 23 place)
  item_line unknown e = inr (refusal 21 place)
  item_line cut e = inr (refusal 22 place)
  item_line (ended x) e = inr silent
  item_line (network {nodes} {root} x) e = inr (network_line s k.list place earlier (judge_links (table nodes root [] [] [])) nodes root)
  item_line (link {start} {end} {cost} x) e = inr (link_line s k.list place earlier (link_verdict s k start end cost))
  item_line (change {link = named} {cost} {r} ready) e = inr (change_line r k.list place earlier (change_verdict r k named cost))
  item_line (apply {list = list} ready a) e = inr (rw (ap (λ (x : Done). x.out) a.kept) (changed a.count list))
  item_line (ask {node} {r} ready) e = at (dec_lt node r.nodes)
    where
      at : Dec (node < r.nodes) → LeastLine stream from lent (line_of (asked r node) k.list place earlier) ⊎ OtherLine (line_of (asked r node) k.list place earlier)
      at (yes inside) =
          let led = tells_led tells refl in
          let answers = asks_least {node = node} bytes unread fits tells (ask ready) (ready_read ready) (omega (arith, inside, (met ready).nodes)) in
          inl (record {
            items = led.items;
            place = place;
            read = led.read;
            state = s;
            lists = k;
            led = led.led;
            node = node;
            asked = sym e;
            done = _;
            answers = answers;
            shown = ap (λ (out : Out). line_of out k.list place earlier) answers.told;
          })
      at (no outside) = inr (rw (le-leb r.nodes node (omega arith)) (refusal 10 place))

-- ---- every turn

tells_least : {stream : List ℕ} {from : State} {lent : Lists} {turns : ℕ} {told : List ℕ} {r : State} {after : Lists} {place : ℕ} {goes : Bool} → AreBytes stream → from.phase ≡ Unread → CostsFit lent
    → Tells stream 0 from lent turns told r after place goes → LeastText stream from lent told
tells_least bytes unread fits no_turn = none
tells_least bytes unread fits (then before (too_long l)) = other (tells_least bytes unread fits before) (refusal 24 most_bytes)
tells_least {stream} {from} {lent = lent} bytes unread fits (then {next = place} {told = told} before (reads {done} {after} few steps)) =
    at (tells_least bytes unread fits before) (item_line bytes unread fits before (earlier_of stream place (read_at stream place).item) steps refl)
  where
    at : {line : List ℕ} → LeastText stream from lent told → LeastLine stream from lent line ⊎ OtherLine line → LeastText stream from lent (told ++ line)
    at text (inl least) = row text least
    at text (inr line) = other text line

-- whatever bytes are read, each N line that is printed shows the least sum over the links then usable
pub every_n_line : {stream text : List ℕ} → AreBytes stream → (p : Prints stream text) → LeastText stream p.state p.lent text
every_n_line bytes p = tells_least bytes p.unread p.fits p.tells
