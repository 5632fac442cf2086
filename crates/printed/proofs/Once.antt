-- One input admits one outcome: of a turn, of turns that fill a text, and of a whole stream. Assumes nothing.
use mathlib.Core.Path.{◌≡◌, refl, sym, ap, ◌∙◌}
use mathlib.Core.Bool.{Bool, true, false, not, ◌&&◌}
use mathlib.Core.List.{List, [], ◌++◌}
use Prim.Native.Nat.{ℕ, suc, ◌≤◌, ◌<◌}
use native.Mathlib.Omega.{arith}
use native.Mathlib.Decide.{dec_lt}
use lib.ListN.{length, length-append}
use Rattle.stream.specs.Records.{read_at, is_record}
use Rattle.splits.proofs.Splits.{both}
use Rattle.earlier.specs.Earlier.{earlier_of}
use Rattle.order.specs.declared.Phase.TheVariants.{Unread}
use Rattle.state.specs.declared.State.{State}
use Rattle.session.specs.declared.Lists.{Lists}
use Rattle.session.specs.Holding.{Holds}
use Rattle.session.proofs.Keeps.{columns_of, lent_of}
use Rattle.outcomes.proofs.OneOutcome.{steps_once}
use Rattle.lines.specs.Lines.{line_of}
use Rattle.words.proofs.Laws.{put_once}
use Rattle.turn.specs.declared.Turn.{Turn}
use Rattle.state.specs.States.{is_refusal, goes_on}
use Rattle.turn.specs.Turns.{Turns, too_long, reads, Turned}
use Rattle.turns.specs.Filling.{Tells, none, then, Filled}
use Rattle.printed.specs.Prints.{Prints}
use Rattle.printed.proofs.Runs.{Runs, last, more, runs}
use Rattle.printed.proofs.Alike.{Alike, unread, step_same}

-- ---- a turn

record OneTurn (line line' : List ℕ) (r r' : State) (after after' : Lists) (next next' : ℕ) (goes goes' : Bool) : Type 0 where
  pub lines : line ≡ line'
  pub states : r ≡ r'
  pub lent : after ≡ after'
  pub places : next ≡ next'
  pub ways : goes ≡ goes'

turns_once : {stream : List ℕ} {place next next' : ℕ} {s r r' : State} {k after after' : Lists} {line line' : List ℕ} {goes goes' : Bool}
    → Turns stream place s k line r after next goes → Turns stream place s k line' r' after' next' goes'
    → OneTurn line line' r r' after after' next next' goes goes'
turns_once (too_long l) (too_long l') = record { lines = refl; states = refl; lent = refl; places = refl; ways = refl }
turns_once (too_long l) (reads few steps) = absurd (omega arith)
turns_once (reads few steps) (too_long l) = absurd (omega arith)
turns_once {stream} {place} (reads few steps) (reads few' steps') =
    let same = steps_once steps steps' in
    let done = same.done in
    let after = same.lent in
    record {
      lines = λ i. line_of (done i).out (after i).list place (earlier_of stream place (read_at stream place).item);
      states = λ i. (done i).state;
      lent = after;
      places = refl;
      ways = λ i. goes_on (read_at stream place).item (done i).out;
    }

-- what a job hands back: its answer, the lent lists and the text
pub record OneOutcome (r r' : Turn) (after after' : Lists) (text text' : List ℕ) : Type 0 where
  pub answer : r ≡ r'
  pub lent : after ≡ after'
  pub written : text ≡ text'

pub turn_once : {stream : List ℕ} {place : ℕ} {s : State} {k after after' : Lists} {before : List ℕ} {at : ℕ} {r r' : Turn} {text text' : List ℕ}
    → Turned stream place s k before at r after text → Turned stream place s k before at r' after' text' → OneOutcome r r' after after' text text'
turn_once p q =
    let same = turns_once p.turns q.turns in
    let put = put_once same.lines p.put q.put in
    let states = same.states in
    let places = same.places in
    let ends = put.1 in
    let ways = same.ways in
    record { answer = λ i. record { state = states i; next = places i; end = ends i; more = ways i }; lent = same.lent; written = put.0 }

-- ---- turn after turn

-- so many turns from one start tell one text and lead to one state
tells_once : {stream : List ℕ} {place : ℕ} {s : State} {k : Lists} {turns : ℕ} {told : List ℕ} {r : State} {after : Lists} {next : ℕ} {goes : Bool} {turns' : ℕ} {told' : List ℕ} {r' : State} {after' : Lists} {next' : ℕ} {goes' : Bool}
    → Tells stream place s k turns told r after next goes → Tells stream place s k turns' told' r' after' next' goes' → turns ≡ turns'
    → OneTurn told told' r r' after after' next next' goes goes'
tells_once none none e = record { lines = refl; states = refl; lent = refl; places = refl; ways = refl }
tells_once none (then part turn) e = absurd (omega arith)
tells_once (then part turn) none e = absurd (omega arith)
tells_once (then part turn) (then part' turn') e =
    let before = tells_once part part' (omega arith) in
    let last = turns_once (rw (before.places, before.states, before.lent) at turn) turn' in
    let told = before.lines in
    let line = last.lines in
    record { lines = λ i. told i ++ line i; states = last.states; lent = last.lent; places = last.places; ways = last.ways }

-- fewer of the turns told less
record Early (stream : List ℕ) (place : ℕ) (s : State) (k : Lists) (turns : ℕ) (text : List ℕ) : Type 0 where
  pub told : List ℕ
  pub state : State
  pub lent : Lists
  pub next : ℕ
  pub tells : Tells stream place s k turns told state lent next true
  pub shorter : length told ≤ length text

early : {stream : List ℕ} {place : ℕ} {s : State} {k : Lists} {turns : ℕ} {text : List ℕ} {r : State} {after : Lists} {next : ℕ} {goes : Bool} (fewer : ℕ)
    → Tells stream place s k turns text r after next goes → goes ≡ true → fewer ≤ turns → Early stream place s k fewer text
early {place = place} {s = s} {k = k} fewer none e l =
    let zero : fewer ≡ 0 = omega arith in
    record { told = []; state = s; lent = k; next = place; tells = rw zero none; shorter = omega arith }
early {stream} {place} {s} {k} {r = r} {after = after} {next = next} fewer (then {turns = turns} {told = told} {line = line} part turn) e l =
    at (λ less. early fewer part refl less) (dec_lt fewer (suc turns))
  where
    at : (fewer ≤ turns → Early stream place s k fewer told) → Dec (fewer < suc turns) → Early stream place s k fewer (told ++ line)
    at before (yes less) =
        let found = before (omega arith) in
        record {
          told = found.told;
          state = found.state;
          lent = found.lent;
          next = found.next;
          tells = found.tells;
          shorter = omega (arith, found.shorter, length-append told line);
        }
    at before (no all) =
        let same : fewer ≡ suc turns = omega arith in
        record { told = told ++ line; state = r; lent = after; next = next; tells = rw (same, ← e) (then part turn); shorter = omega arith }

module _ {stream : List ℕ} {place : ℕ} {s : State} {k : Lists} {before : List ℕ} where
  -- none of two stops sooner
  sooner : {r r' : Turn} {after after' : Lists} {text text' : List ℕ} (p : Filled stream place s k before r after text) (q : Filled stream place s k before r' after' text')
      → p.part.turns < q.part.turns → ⊥
  sooner p q l =
      let found = early (suc p.part.turns) q.part.tells refl (omega arith) in
      let same = tells_once (then p.part.tells p.part.last) found.tells refl in
      omega (arith, p.full same.ways, p.part.put.ends, ap length same.lines, found.shorter, q.part.room)

  pub fill_once : {r r' : Turn} {after after' : Lists} {text text' : List ℕ} → Filled stream place s k before r after text → Filled stream place s k before r' after' text'
      → OneOutcome r r' after after' text text'
  fill_once {r} {r'} {after} {after'} {text} {text'} p q = at (dec_lt p.part.turns q.part.turns) (dec_lt q.part.turns p.part.turns)
    where
      at : Dec (p.part.turns < q.part.turns) → Dec (q.part.turns < p.part.turns) → OneOutcome r r' after after' text text'
      at (yes l) d = absurd (sooner p q l)
      at (no n) (yes l) = absurd (sooner q p l)
      at (no n) (no m) =
          let same = tells_once (then p.part.tells p.part.last) (then q.part.tells q.part.last) (omega arith) in
          let put = put_once same.lines p.part.put q.part.put in
          let states = same.states in
          let places = same.places in
          let ends = put.1 in
          let ways = same.ways in
          record { answer = λ i. record { state = states i; next = places i; end = ends i; more = ways i }; lent = same.lent; written = put.0 }

-- ---- a whole stream, whatever stood in the lent lists before

second_true : (a b : Bool) → a && not b ≡ true → b ≡ false
second_true true true e = sym e
second_true true false e = refl
second_true false b e = absurd (both e refl)

-- two turns from alike states tell the same line and go the same way
record SameTurn (line line' : List ℕ) (r : State) (after : Lists) (next : ℕ) (goes : Bool) (r' : State) (after' : Lists) (next' : ℕ) (goes' : Bool) : Type 0 where
  pub lines : line ≡ line'
  pub places : next ≡ next'
  pub ways : goes ≡ goes'
  pub alike : goes ≡ true → Alike r after r' after'

turn_same : {stream : List ℕ} {place next next' : ℕ} {s s' r r' : State} {k k' after after' : Lists} {line line' : List ℕ} {goes goes' : Bool}
    → Alike s k s' k' → Turns stream place s k line r after next goes → Turns stream place s' k' line' r' after' next' goes'
    → SameTurn line line' r after next goes r' after' next' goes'
turn_same a (too_long l) (too_long l') = record { lines = refl; places = refl; ways = refl; alike = λ e. absurd (both e refl) }
turn_same a (too_long l) (reads few steps) = absurd (omega arith)
turn_same a (reads few steps) (too_long l) = absurd (omega arith)
turn_same {stream} {place} a (reads {done} few steps) (reads few' steps') =
    let same = step_same a steps steps' in
    let here = is_record (read_at stream place).item in
    record {
      lines = same.line place _;
      places = refl;
      ways = ap (λ (refuses : Bool). here && not refuses) same.refuse;
      alike = λ goes. same.alike (second_true here (is_refusal done.out) goes);
    }

run_same : {stream : List ℕ} {place : ℕ} {s s' : State} {k k' : Lists} {text text' : List ℕ} → Alike s k s' k' → Runs stream place s k text
    → Runs stream place s' k' text' → text ≡ text'
run_same a (last turn) (last turn') = (turn_same a turn turn').lines
run_same a (last turn) (more turn' rest') = absurd (both (turn_same a turn turn').ways refl)
run_same a (more turn rest) (last turn') = absurd (both refl (turn_same a turn turn').ways)
run_same a (more {line = line} {text = text} turn rest) (more {line = line'} {text = text'} turn' rest') =
    let same = turn_same a turn turn' in
    ap (λ (l : List ℕ). l ++ text) same.lines
    ∙ ap (λ (t : List ℕ). line' ++ t) (run_same (same.alike refl) (rw same.places at rest) rest')

starts_alike : {s s' : State} {k k' : Lists} → s.phase ≡ Unread → s'.phase ≡ Unread → Holds s k → Holds s' k' → Alike s k s' k'
starts_alike p q h h' =
    let c = columns_of h in
    let c' = columns_of h' in
    let l = lent_of h in
    let l' = lent_of h' in
    record {
      long = record {
        starts = c.starts_long ∙ sym c'.starts_long;
        ends = c.ends_long ∙ sym c'.ends_long;
        costs = c.costs_long ∙ sym c'.costs_long;
        changed = l.changed_long ∙ sym l'.changed_long;
        newcosts = l.newcosts_long ∙ sym l'.newcosts_long;
      };
      phases = unread p q;
    }

-- one stream, one text
pub one_text : {stream text text' : List ℕ} → Prints stream text → Prints stream text' → text ≡ text'
one_text p q = run_same (starts_alike p.unread q.unread p.holds q.holds) (runs p.tells refl) (runs q.tells refl)
