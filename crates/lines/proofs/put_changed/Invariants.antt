-- `lines::put_changed` meets its contract: behind the letter and the count stands one entry for each turn. Assumes nothing.
use mathlib.Core.List.{map}
use Rattle.words.specs.Words.{decimal}
use Rattle.words.specs.Putting.{Room}
use Rattle.lines.specs.Lines.{ending}
use Rattle.lines.proofs.Laws.{Listing}
use Rattle.lines.proofs.put_changed.Given as goal

abbrev pub invariant-loop-i : goal.invariant-loop-i
invariant-loop-i l = record {
  room : Room l.initial.text l.initial.end (ending (map decimal l.nodes));
  listing : Listing l.nodes l.initial.text l.initial.end l.text l.end l.i;
}
