-- A run ends, and what a stream prints. Assumes nothing.
use mathlib.Core.Path.{◌≡◌, refl, ap}
use mathlib.Core.Bool.{Bool, true, false}
use mathlib.Core.List.{List, [], ◌++◌, append_assoc, append-nil}
use Prim.Native.Nat.{ℕ, ◌+◌, ◌≤◌, ◌<◌}
use native.Mathlib.Omega.{arith}
use native.Mathlib.Nat.{add-zero, add-suc}
use lib.ListN.{length}
use Rattle.stream.specs.declared.Item.{Item}
use Rattle.stream.specs.declared.Item.TheVariants.{End}
use Rattle.stream.specs.Records.{read_at}
use Rattle.splits.proofs.Stands.{standing}
use Rattle.splits.proofs.Splits.{both, only_at_end}
use Rattle.order.specs.declared.Phase.TheVariants.{Unread}
use Rattle.state.specs.declared.State.{State}
use Rattle.state.specs.declared.Done.{Done}
use Rattle.state.specs.States.{refusing}
use Rattle.order.specs.Order.{is_unread}
use Rattle.session.specs.declared.Lists.{Lists}
use Rattle.session.specs.Steps.{Steps, out_of_order, unknown as unknown_kind, cut as cut_short, ended, network, link, change, apply, ask}
use Rattle.earlier.specs.Earlier.{earlier_of}
use Rattle.lines.specs.Lines.{line_of, line_of, refusal_line}
use Rattle.turns.proofs.Moves.{tells_on, tells_within}
use Rattle.turn.specs.Turns.{most_bytes, Turns, too_long, reads}
use Rattle.turns.specs.Filling.{Tells, none, then}
use Rattle.printed.specs.Prints.{Prints}

pub unlike : {A : Type 0} → ◌≡◌ {A = ℕ} 0 1 → A
unlike e = absurd (omega arith)

-- ---- a run, from its first turn on

pub data Runs (stream : List ℕ) : ℕ → State → Lists → List ℕ → Type 0 where
  last : {place next : ℕ} {s r : State} {k after : Lists} {line : List ℕ} → Turns stream place s k line r after next false
      → Runs stream place s k line
  more : {place next : ℕ} {s r : State} {k after : Lists} {line text : List ℕ} → Turns stream place s k line r after next true
      → Runs stream next r after text → Runs stream place s k (line ++ text)

runs_behind : {stream : List ℕ} {place : ℕ} {s : State} {k : Lists} {turns : ℕ} {told : List ℕ} {r : State} {after : Lists} {next : ℕ} {goes : Bool} {text : List ℕ}
    → Tells stream place s k turns told r after next goes → goes ≡ true → Runs stream next r after text → Runs stream place s k (told ++ text)
runs_behind none e behind = behind
runs_behind {text = text} (then {told = told} {line = line} part turn) e behind =
    rw (append_assoc told line text) (runs_behind part refl (more (rw e at turn) behind))

pub runs : {stream : List ℕ} {place next turns : ℕ} {s r : State} {k after : Lists} {told : List ℕ} {goes : Bool}
    → Tells stream place s k turns told r after next goes → goes ≡ false → Runs stream place s k told
runs none e = absurd (both refl e)
runs (then part turn) e = runs_behind part refl (last (rw e at turn))

-- ---- a run ends

-- from a place within the stream there are at most as many turns as bytes left, and one
pub few_turns : {stream : List ℕ} {place next turns : ℕ} {s r : State} {k after : Lists} {told : List ℕ} {goes : Bool}
    → Tells stream place s k turns told r after next goes → place ≤ length stream → place + turns ≤ length stream + 1
few_turns none l = omega arith
few_turns (then part turn) l = omega (arith, tells_on part refl, tells_within part refl l)

-- no stream takes more turns than it has bytes, and one
pub run_ends : {stream text : List ℕ} (p : Prints stream text) → p.turns ≤ length stream + 1
run_ends p = omega (arith, few_turns p.tells (omega arith))

-- the end is read at the stream's length, so that is the place that its refusal tells
pub end_place : (stream : List ℕ) (place : ℕ) → place ≤ length stream → (read_at stream place).item ≡ End → place ≡ length stream
end_place stream place l e = omega (arith, only_at_end (standing stream place) e)

-- parts that follow each other are one part
pub tells_then : {stream : List ℕ} {place : ℕ} {s : State} {k : Lists} {turns : ℕ} {told : List ℕ} {r : State} {after : Lists} {next others : ℕ} {text : List ℕ} {end : State} {afterwards : Lists} {further : ℕ} {goes : Bool}
    → Tells stream place s k turns told r after next true → Tells stream next r after others text end afterwards further goes
    → Tells stream place s k (turns + others) (told ++ text) end afterwards further goes
tells_then {turns = turns} {told = told} part none = rw (add-zero turns, append-nil told) part
tells_then {turns = turns} {told = told} part (then {turns = others} {told = text} {line = line} behind turn) =
    rw (add-suc turns others, ← append_assoc told text line) (then (tells_then part behind) turn)

-- ---- a stream that is too long

long_turn : {stream : List ℕ} {place next : ℕ} {s r : State} {k after : Lists} {line : List ℕ} {goes : Bool}
    → Turns stream place s k line r after next goes → most_bytes < length stream → (line ≡ refusal_line 24 most_bytes) × (goes ≡ false)
long_turn (too_long l) long = (refl, refl)
long_turn (reads few steps) long = absurd (omega arith)

long_run : {stream : List ℕ} {place : ℕ} {s : State} {k : Lists} {text : List ℕ} → Runs stream place s k text
    → most_bytes < length stream → text ≡ refusal_line 24 most_bytes
long_run (last turn) long = (long_turn turn long).0
long_run (more turn rest) long = absurd (both refl (long_turn turn long).1)

-- it prints `R 24 32768` and nothing else
pub prints_too_long : {stream text : List ℕ} → most_bytes < length stream → Prints stream text → text ≡ refusal_line 24 most_bytes
prints_too_long long p = long_run (runs p.tells refl) long

-- ---- an empty stream

unread_end : {s : State} {k after : Lists} {item : Item} {done : Done} → Steps s k item done after → item ≡ End → s.phase ≡ Unread
    → done ≡ refusing s 23
unread_end (out_of_order x) e u = refl
unread_end unknown_kind e u = unlike (cc)
unread_end cut_short e u = unlike (cc)
unread_end (ended x) e u = absurd (both (ap is_unread u) x)
unread_end (network x) e u = unlike (cc)
unread_end (link x) e u = unlike (cc)
unread_end (change x) e u = unlike (cc)
unread_end (apply x y) e u = unlike (cc)
unread_end (ask x) e u = unlike (cc)

end_turn : {stream : List ℕ} {place next : ℕ} {s r : State} {k after : Lists} {line : List ℕ} {goes : Bool}
    → Turns stream place s k line r after next goes → length stream ≤ most_bytes → (read_at stream place).item ≡ End → s.phase ≡ Unread
    → (line ≡ refusal_line 23 place) × (goes ≡ false)
end_turn (too_long l) few e u = absurd (omega arith)
end_turn {stream} {place} (reads {done} {after} few' steps) few e u =
    let is = unread_end steps e u in
    let earlier = earlier_of stream place (read_at stream place).item in
    (ap (λ (d : Done). line_of d.out after.list place earlier) is, rw e refl)

end_run : {stream : List ℕ} {place : ℕ} {s : State} {k : Lists} {text : List ℕ} → Runs stream place s k text
    → length stream ≤ most_bytes → (read_at stream place).item ≡ End → s.phase ≡ Unread → text ≡ refusal_line 23 place
end_run (last turn) few e u = (end_turn turn few e u).0
end_run (more turn rest) few e u = absurd (both refl (end_turn turn few e u).1)

-- it prints `R 23 0`
pub prints_empty : {text : List ℕ} → Prints [] text → text ≡ refusal_line 23 0
unfolding read_at
prints_empty p = end_run (runs p.tells refl) (omega arith) refl p.unread
