-- A program that fills its text and writes it up to its end, again and again until there is no more, writes what the stream
-- prints. Assumes nothing.
use mathlib.Core.Path.{◌≡◌, ap, ◌∙◌}
use mathlib.Core.Bool.{Bool, true, false}
use mathlib.Core.List.{List, [], ◌++◌}
use Prim.Native.Nat.{ℕ, suc, ◌+◌}
use native.Mathlib.Omega.{arith}
use lib.ListN.{length, take, drop}
use lib.Seq.{take_at}
use Rattle.order.specs.declared.Phase.TheVariants.{Unread}
use Rattle.state.specs.declared.State.{State}
use Rattle.session.specs.declared.Lists.{Lists}
use Rattle.session.specs.Holding.{Holds}
use Rattle.outcomes.specs.Outcomes.{CostsFit}
use Rattle.words.specs.Putting.{Put}
use Rattle.turn.specs.declared.Turn.{Turn}
use Rattle.turns.specs.Filling.{Tells, none, then, Filled}
use Rattle.printed.specs.Prints.{Prints, Writes, nothing, part, Written}
use Rattle.printed.proofs.Runs.{tells_then}

front : {before bytes text : List ℕ} {end : ℕ} → Put before 0 bytes text end → take end text ≡ bytes
front {before} {bytes} {text} {end} p =
    ap (take end) p.text ∙ take_at bytes (drop (0 + length bytes) before) end (omega (arith, p.ends))

-- the text up to its end is what the turns told
pub filled_tells : {stream : List ℕ} {place : ℕ} {s : State} {k after : Lists} {before text : List ℕ} {r : Turn} (f : Filled stream place s k before r after text)
    → Tells stream place s k (suc f.part.turns) (take r.end text) r.state after r.next r.more
filled_tells f = rw (front f.part.put) (then f.part.tells f.part.last)

-- what is written is told
record TellsSoFar (stream : List ℕ) (s : State) (k : Lists) (text : List ℕ) (r : State) (after : Lists) (place : ℕ) (goes : Bool) : Type 0 where
  pub turns : ℕ
  pub tells : Tells stream 0 s k turns text r after place goes

writes_tells : {stream : List ℕ} {s : State} {k : Lists} {text : List ℕ} {r : State} {after : Lists} {place : ℕ} {goes : Bool} → Writes stream s k text r after place goes
    → TellsSoFar stream s k text r after place goes
writes_tells nothing = record { turns = 0; tells = none }
writes_tells (part writes f) =
    let before = writes_tells writes in
    record { turns = before.turns + suc f.part.turns; tells = tells_then before.tells (filled_tells f) }

-- what is written in the end is what the stream prints
pub written_prints : {stream : List ℕ} (w : Written stream) → Prints stream w.text
written_prints w =
    let all = writes_tells w.writes in
    record {
      state = w.state;
      lent = w.lent;
      unread = w.unread;
      holds = w.holds;
      fits = w.fits;
      turns = all.turns;
      last = w.last;
      after = w.after;
      next = w.next;
      tells = all.tells;
    }

-- ---- the program's loop

-- so far, from a start where nothing is read
pub record Writing (stream : List ℕ) (r : State) (after : Lists) (place : ℕ) (goes : Bool) : Type 0 where
  pub text : List ℕ
  pub state : State
  pub lent : Lists
  pub unread : state.phase ≡ Unread
  pub begins : Holds state lent
  pub fits : CostsFit lent
  pub writes : Writes stream state lent text r after place goes
  pub holds : Holds r after

pub writing_none : {stream : List ℕ} {s : State} {k : Lists} → s.phase ≡ Unread → Holds s k → CostsFit k → Writing stream s k 0 true
writing_none {s = s} {k} unread holds fits =
    record { text = []; state = s; lent = k; unread = unread; begins = holds; fits = fits; writes = nothing; holds = holds }

pub writing_more : {stream : List ℕ} {r : State} {after afterwards : Lists} {place : ℕ} {goes : Bool} {before text : List ℕ} {turn : Turn}
    → Writing stream r after place goes → goes ≡ true → Filled stream place r after before turn afterwards text
    → Writing stream turn.state afterwards turn.next turn.more
writing_more {text = text} {turn} w e f = record {
  text = w.text ++ take turn.end text;
  state = w.state;
  lent = w.lent;
  unread = w.unread;
  begins = w.begins;
  fits = w.fits;
  writes = part (rw e at w.writes) f;
  holds = f.part.holds;
}

pub writing_ends : {stream : List ℕ} {r : State} {after : Lists} {place : ℕ} {goes : Bool} → Writing stream r after place goes → goes ≡ false → Written stream
writing_ends {r = r} {after} {place} w e = record {
  text = w.text;
  state = w.state;
  lent = w.lent;
  unread = w.unread;
  holds = w.begins;
  fits = w.fits;
  last = r;
  after = after;
  next = place;
  writes = rw e at w.writes;
}
