-- Storing one row after another gathers the first rows of a batch. Assumes nothing.
use mathlib.Core.Path.{◌≡◌, refl, sym, ap, ◌∙◌}
use mathlib.Core.List.{List, [], ◌∷◌, ◌++◌}
use Rattle.std.proofs.lemmas.List.{take_min, length-take}
use Prim.Native.Nat.{ℕ, min, ◌+◌, ◌≤◌, ◌<◌}
use native.Mathlib.Omega.{arith}
use native.Mathlib.Numerals.{add-one}
use lib.ListN.{length, get_or, set, take, drop, length-set, length-replicate}
use lib.Seq.{take-suc, take_all, take-suc-set, length-take-le, drop-drop, drop-set-lt}
use Rattle.rules.specs.declared.Change.{Change}
use Rattle.batch.specs.Rows.{rows_of_columns}
use Rattle.gather.specs.Most.{most_read}
use Rattle.gather.specs.Gathering.{blank, Gathered}

-- what stands past a batch's end, where nothing is read
abbrev pub no_row : Change
no_row = record { link = 0; cost = 0 }

-- ---- one row more, of two columns and of their first places

rows_more : (links costs : List ℕ) → length links ≡ length costs → (link cost : ℕ)
    → rows_of_columns (links ++ (link ∷ [])) (costs ++ (cost ∷ [])) ≡ rows_of_columns links costs ++ (record { link = link; cost = cost } ∷ [])
unfolding rows_of_columns
rows_more [] [] e link cost = refl
rows_more [] (c ∷ costs) e link cost = absurd (omega arith)
rows_more (l ∷ links) [] e link cost = absurd (omega arith)
rows_more (l ∷ links) (c ∷ costs) e link cost = ap (◌∷◌ (record { link = l; cost = c })) (rows_more links costs (omega arith) link cost)

rows_set : (links costs : List ℕ) (n : ℕ) → n < length links → n < length costs → (row : Change)
    → rows_of_columns (take (n + 1) (set links n row.link)) (take (n + 1) (set costs n row.cost)) ≡ rows_of_columns (take n links) (take n costs) ++ (row ∷ [])
rows_set links costs n l c row =
    rw (add-one n, take-suc-set links n row.link l, take-suc-set costs n row.cost c)
    (rows_more (take n links) (take n costs) (length-take-le n links (omega arith) ∙ sym (length-take-le n costs (omega arith))) row.link row.cost)

-- ---- two columns in which the first so many rows of a batch are stored

past_set : (column : List ℕ) (i x : ℕ) → drop i column ≡ drop i blank → drop (i + 1) (set column i x) ≡ drop (i + 1) blank
past_set column i x past = drop-set-lt (i + 1) column i x (omega arith) ∙ sym (drop-drop 1 i column) ∙ ap (drop 1) past ∙ drop-drop 1 i blank

pub record Upto (batch : List Change) (i : ℕ) (links costs : List ℕ) : Type 0 where
  pub rows : rows_of_columns (take i links) (take i costs) ≡ take i batch
  pub links_long : length links ≡ most_read
  pub costs_long : length costs ≡ most_read
  pub links_past : drop i links ≡ drop i blank
  pub costs_past : drop i costs ≡ drop i blank

pub upto_none : (batch : List Change) → Upto batch 0 blank blank
unfolding rows_of_columns
upto_none batch = record {
  rows = refl;
  links_long = length-replicate {A = ℕ} most_read 0;
  costs_long = length-replicate {A = ℕ} most_read 0;
  links_past = refl;
  costs_past = refl;
}

module _ (batch : List Change) (i : ℕ) (links costs : List ℕ) (before : Upto batch i links costs) where
  abbrev row : Change
  row = get_or batch i no_row

  pub upto_more : i < most_read → i < length batch → Upto batch (i + 1) (set links i row.link) (set costs i row.cost)
  upto_more room inside = record {
    rows = rows_set links costs i (omega (arith, before.links_long)) (omega (arith, before.costs_long)) row
        ∙ ap (λ (rows : List Change). rows ++ (row ∷ [])) before.rows ∙ sym (take-suc batch i no_row inside) ∙ ap (λ (n : ℕ). take n batch) (sym (add-one i));
    links_long = length-set links i row.link ∙ before.links_long;
    costs_long = length-set costs i row.cost ∙ before.costs_long;
    links_past = past_set links i row.link before.links_past;
    costs_past = past_set costs i row.cost before.costs_past;
  }

-- ---- as many as are read

pub upto_all : (batch : List Change) {links costs : List ℕ} {n : ℕ} → n ≡ min (length batch) most_read → {i : ℕ} → i ≡ length (take n batch)
    → Upto (take n batch) i links costs → {few : n ≤ most_read} → Gathered batch (record { link = links; cost = costs; count = n; few = few })
upto_all batch {n = n} e {i} end all =
    let read : n ≡ min most_read (length batch) = omega arith in
    let same : i ≡ n = omega (arith, length-take {A = Change}) in
    let whole = rw same at all in
    record {
      rows = whole.rows ∙ take_all n (take n batch) (omega arith) ∙ rw (read, take_min) refl;
      few = omega arith;
      links_past = whole.links_past;
      costs_past = whole.costs_past;
    }
