-- How long a line can be, and a list's entries put one after another. Assumes nothing.
use mathlib.Core.Path.{◌≡◌, refl, sym, ap, ◌∙◌}
use mathlib.Core.Bool.{Bool, true, false, cond}
use mathlib.Core.List.{List, [], ◌∷◌, ◌++◌, append_assoc, map}
use Prim.Native.Nat.{ℕ, zero, suc, ◌+◌, ◌*◌, ◌^◌, ◌≤◌, ◌<◌, ◌/◌, ◌%◌}
use native.Mathlib.Omega.{arith}
use Rattle.std.proofs.Common.{Fits, w16, w32, w64}
use native.Mathlib.Decide.{dec_lt}
use native.Mathlib.Nat.{pow-suc}
use native.Mathlib.Numerals.{add-one}
use lib.Dec.{eqb}
use lib.ListN.{length, drop, get_or, length-append}
use lib.Seq.{drop-cons}
use Rattle.rules.specs.Columns.{no_link}
use Rattle.words.specs.Words.{decimal, digit, dash, space, link_text}
use Rattle.words.specs.Putting.{Room, Put}
use Rattle.words.proofs.Laws.{put_none, put_then, one_digit, more_digits}
use Rattle.lines.specs.Lines.{newline, ending, row_line, nodes_line, refusal_line, again_line, line_room}

-- ---- how long a line can be

few_digits : (k n : ℕ) → n < 10 ^ suc k → length (decimal n) ≤ suc k
few_digits zero n l = omega (arith, ap length (one_digit n (omega arith)))
few_digits (suc k) n l = at (few_digits k (n / 10)) (dec_lt n 10)
  where
    at : (n / 10 < 10 ^ suc k → length (decimal (n / 10)) ≤ suc k) → Dec (n < 10) → length (decimal n) ≤ suc (suc k)
    at tenth (yes s) = omega (arith, ap length (one_digit n s))
    at tenth (no s) =
        let low : 10 ≤ n = omega arith in
        omega (arith, ap length (more_digits n low), length-append (decimal (n / 10)) (digit (n % 10) ∷ []), tenth (omega (arith, pow-suc 10 (suc k))))

pub five : (n : ℕ) → n < 65536 → length (decimal n) ≤ 5
five n l = few_digits 4 n (omega arith)

five_link : (link : ℕ) → link < 65536 → length (link_text link) ≤ 5
five_link link l = at (eqb link no_link)
  where
    at : (b : Bool) → length (cond b (dash ∷ []) (decimal link)) ≤ 5
    at true = omega arith
    at false = five link l

twenty : (n : ℕ) → n < 2 ^ 64 → length (decimal n) ≤ 20
twenty n l = few_digits 19 n (omega arith)

module _ {text : List ℕ} {at : ℕ} (room : at + line_room ≤ length text) where
  pub row_room : {node dist parent first : ℕ} → Fits w16 node → Fits w32 dist → Fits w16 parent → Fits w16 first
      → Room text at (row_line node dist parent first)
  row_room {node} {dist} {parent} {first} n d p f = record {
    fits = omega (
      arith,
      length-append (decimal node) (ending (decimal dist ∷ link_text parent ∷ link_text first ∷ [])),
      length-append (decimal dist) (ending (link_text parent ∷ link_text first ∷ [])),
      length-append (link_text parent) (ending (link_text first ∷ [])),
      length-append (link_text first) (ending []),
      five node (omega (arith, n.fits)),
      twenty dist (omega (arith, d.fits)),
      five_link parent (omega (arith, p.fits)),
      five_link first (omega (arith, f.fits)),
    );
  }

  pub refusal_room : {number place : ℕ} → Fits w16 number → Fits w64 place → Room text at (refusal_line number place)
  refusal_room {number} {place} n p = record {
    fits = omega (
      arith,
      length-append (decimal number) (ending (decimal place ∷ [])),
      length-append (decimal place) (ending []),
      five number (omega (arith, n.fits)),
      twenty place (omega (arith, p.fits)),
    );
  }

  pub again_room : {place earlier : ℕ} → Fits w64 place → Fits w64 earlier → Room text at (again_line place earlier)
  again_room {place} {earlier} p e = record {
    fits = omega (
      arith,
      length-append (decimal 9) (ending (decimal place ∷ decimal earlier ∷ [])),
      length-append (decimal place) (ending (decimal earlier ∷ [])),
      length-append (decimal earlier) (ending []),
      five 9 (omega arith),
      twenty place (omega (arith, p.fits)),
      twenty earlier (omega (arith, e.fits)),
    );
  }

entries_short : (nodes : List ℕ) → ((i : ℕ) → get_or nodes i 0 < 65536) → length (ending (map decimal nodes)) ≤ length nodes * 6 + 1
entries_short [] narrow = omega arith
entries_short (node ∷ nodes) narrow =
    omega (arith, length-append (decimal node) (ending (map decimal nodes)), five node (narrow 0), entries_short nodes (λ i. narrow (suc i)))

pub nodes_room : {text : List ℕ} {at : ℕ} → at + line_room ≤ length text → (nodes : List ℕ) → length nodes ≤ 256
    → ((i : ℕ) → get_or nodes i 0 < 65536) → Room text at (nodes_line nodes)
nodes_room room nodes few narrow = record {
  fits = omega (arith, length-append (decimal (length nodes)) (ending (map decimal nodes)), five (length nodes) (omega arith), entries_short nodes narrow);
}

-- ---- the entries of a list, one after another

-- the words before entry i are put, and those from it on are left
pub record Listing (entries before : List ℕ) (at : ℕ) (after : List ℕ) (end i : ℕ) : Type 0 where
  pub done : List ℕ
  pub put : Put before at done after end
  pub left : done ++ ending (map decimal (drop i entries)) ≡ ending (map decimal entries)

pub listing_none : {entries text : List ℕ} {at : ℕ} → at ≤ length text → Listing entries text at text at 0
listing_none {text = text} {at = at} l = record { done = []; put = put_none text at l; left = refl }

module _ {entries before : List ℕ} {at : ℕ} {after : List ℕ} {end i : ℕ} (l : Listing entries before at after end i) where
  module _ {entry : ℕ} (inside : i < length entries) (is : get_or entries i 0 ≡ entry) where
    here : ending (map decimal (drop i entries)) ≡ (space ∷ decimal entry) ++ ending (map decimal (drop (i + 1) entries))
    here = ap (λ (rest : List ℕ). ending (map decimal rest)) (drop-cons entries i 0 inside) ∙ rw (is, add-one i) refl

    pub listing_more : {next : List ℕ} {behind : ℕ} → Put after end (space ∷ decimal entry) next behind → Listing entries before at next behind (i + 1)
    listing_more q = record {
      done = l.done ++ (space ∷ decimal entry);
      put = put_then l.put q;
      left = append_assoc l.done (space ∷ decimal entry) (ending (map decimal (drop (i + 1) entries)))
          ∙ ap (λ (rest : List ℕ). l.done ++ rest) (sym here) ∙ l.left;
    }

  module _ (all : length entries ≤ i) where
    over : ending (map decimal (drop i entries)) ≡ newline ∷ []
    over = ap (λ (rest : List ℕ). ending (map decimal rest)) (none entries i all)
      where
        none : (l : List ℕ) (i : ℕ) → length l ≤ i → drop i l ≡ []
        none [] zero e = refl
        none [] (suc i) e = refl
        none (x ∷ l) zero e = absurd (omega arith)
        none (x ∷ l) (suc i) e = none l i (omega arith)

    pub listing_end : {next : List ℕ} {behind : ℕ} → Put after end (newline ∷ []) next behind → Put before at (ending (map decimal entries)) next behind
    listing_end {next} {behind} q =
        rw (ap (λ (rest : List ℕ). l.done ++ rest) (sym over) ∙ l.left) at (put_then l.put q)
