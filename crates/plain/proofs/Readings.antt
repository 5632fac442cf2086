-- What the reader gives, its record taken apart, is what is handed back. Assumes nothing.
use mathlib.Core.Path.{◌≡◌, ◌∙◌, ap}
use Prim.Native.Nat.{ℕ}
use Rattle.stream.specs.Records.{number_of}
use Rattle.stream.specs.declared.Read.{Read}
use Rattle.plain.specs.declared.Parts.{Parts}
use Rattle.plain.specs.Readings.{HandedBack, parts_of}

pub hands_back : {read due : Read} {parts : Parts} {number : ℕ} → read ≡ due → parts ≡ parts_of read.item
    → number ≡ number_of read.item → HandedBack due number parts.kind parts.numbers read.next
hands_back {read} {due} {parts} given apart numbered =
    let rightly : parts ≡ parts_of due.item = apart ∙ ap (λ (r : Read). parts_of r.item) given in
    record {
      number_told = numbered ∙ ap (λ (r : Read). number_of r.item) given;
      kind_told = ap (λ (p : Parts). p.kind) rightly;
      numbers_told = ap (λ (p : Parts). p.numbers) rightly;
      next_told = ap (λ (r : Read). r.next) given;
    }
