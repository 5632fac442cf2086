-- One link after another marks its start, where it leads to the node above. Assumes nothing.
use mathlib.Core.Path.{◌≡◌, refl, sym, ◌∙◌}
use mathlib.Core.Logic.{◌≢◌}
use mathlib.Core.Bool.{Bool, true, false, ◌&&◌, ◌||◌, cond}
use mathlib.Core.List.{List}
use Prim.Native.Nat.{ℕ, suc, ◌+◌, ◌≤◌, ◌<◌}
use native.Mathlib.Omega.{arith}
use native.Mathlib.Decide.{ℕ_discrete}
use lib.Dec.{eqb, ltb}
use lib.ListN.{length, get_or, set, replicate, length-set, length-replicate, get_or-replicate}
use lib.Seq.{get_or-set_same, get_or-set_other}
use borrow.Author.Tests.{eq-eqb, ne_eqb, lt-ltb}
use Rattle.rules.specs.Tests.{some}
use Rattle.rules.specs.Keep.{one}
use Rattle.rules.specs.Columns.{Table, most_nodes, leads, some_leads}
use Rattle.backed.specs.Backed.{above, Above, LedBack}

-- ---- the nodes above

pub above_link : (starts : List ℕ) (link : ℕ) → link < length starts → get_or starts link 0 ≡ above starts link
unfolding above
above_link starts link l = rw (lt-ltb link (length starts) l)

-- ---- the marks

-- by the first k links
pub record MarkedBy (t : Table) (up : List ℕ) (k : ℕ) (marks : List ℕ) : Type 0 where
  pub long : length marks ≡ 257
  pub within : k ≤ length t.starts
  pub each : (v : ℕ) → v < most_nodes → get_or marks v 0 ≡ one (some (leads t v (get_or up v 0)) k)

module _ (t : Table) (up : List ℕ) where
  pub marked_none : MarkedBy t up 0 (replicate 257 0)
  unfolding some
  marked_none = record { long = length-replicate {A = ℕ} 257 0; within = omega arith; each = λ v l. get_or-replicate {A = ℕ} 257 v 0 0 (omega arith) }

  module _ {k : ℕ} {marks : List ℕ} (h : MarkedBy t up k marks) (is_link : k < length t.starts) (node : get_or t.starts k 0 < most_nodes) where
    -- whether link k leads to the node above its start
    abbrev hit : Bool
    hit = eqb (get_or t.ends k 0) (get_or up (get_or t.starts k 0) 0) && ltb 0 (get_or t.costs k 0)

    more : (p : ℕ → Bool) → some p (k + 1) ≡ (p k || some p k)
    unfolding some
    more p = let next : k + 1 ≡ suc k = omega arith in rw next

    -- at its start
    here : (b : Bool) → b ≡ hit → (at : ℕ) → at ≡ cond b (get_or t.starts k 0) most_nodes
        → get_or (set marks at 1) (get_or t.starts k 0) 0 ≡ one (b || some (leads t (get_or t.starts k 0) (get_or up (get_or t.starts k 0) 0)) k)
    here true e at is = rw is (get_or-set_same marks (get_or t.starts k 0) 1 0 (omega (arith, h.long)))
    here false e at is = rw is (get_or-set_other marks most_nodes (get_or t.starts k 0) 1 0 (omega arith) ∙ h.each (get_or t.starts k 0) node)

    -- elsewhere nothing is marked
    apart : (b : Bool) (at : ℕ) → at ≡ cond b (get_or t.starts k 0) most_nodes → (v : ℕ) → v < most_nodes → v ≢ get_or t.starts k 0 → v ≢ at
    apart true at is v l n = λ e. n (e ∙ is)
    apart false at is v l n = λ e. absurd (omega arith)

    pub marked_more : (at : ℕ) → at ≡ cond hit (get_or t.starts k 0) most_nodes → MarkedBy t up (k + 1) (set marks at 1)
    marked_more at is = record {
      long = length-set marks at 1 ∙ h.long;
      within = omega arith;
      each = λ v l. by v l (ℕ_discrete v (get_or t.starts k 0));
    }
      where
        by : (v : ℕ) → v < most_nodes → Dec (v ≡ get_or t.starts k 0) → get_or (set marks at 1) v 0 ≡ one (some (leads t v (get_or up v 0)) (k + 1))
        by v l (yes e) =
            rw (e, more (leads t (get_or t.starts k 0) (get_or up (get_or t.starts k 0) 0)), eq-eqb (get_or t.starts k 0) (get_or t.starts k 0) refl)
            (here hit refl at is)
        by v l (no n) =
            rw (more (leads t v (get_or up v 0)), ne_eqb (get_or t.starts k 0) v (λ e. n (sym e)))
            (get_or-set_other marks at v 1 0 (apart hit at is v l n) ∙ h.each v l)

pub led : {t : Table} {parent up marks : List ℕ} → Above t.starts parent most_nodes up → MarkedBy t up (length t.starts) marks → LedBack t parent marks
unfolding some_leads
led {t} {parent} {up} {marks} a h = record { each = λ v l. rw (← a.each v l) (h.each v l) }
