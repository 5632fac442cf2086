-- For callers: a node that is asked for and not refused can be climbed from, and what is traced is what the rules
-- say of its path. Assumes nothing.
use mathlib.Core.Path.{◌≡◌, refl}
use mathlib.Core.Logic.{◌≢◌}
use mathlib.Core.Bool.{not}
use mathlib.Core.List.{List, [], ◌∷◌, ◌++◌}
use Prim.Native.Nat.{ℕ, ◌<◌}
use native.Mathlib.Decide.{ℕ_discrete}
use native.Mathlib.Omega.{arith}
use lib.Dec.{leb}
use lib.ListN.{get_or}
use borrow.Author.Tests.{leb-false, not-false}
use Rattle.std.specs.Prelude.{Option, None, Some}
use Rattle.rules.specs.Net.{Net}
use Rattle.rules.specs.Fit.{Rows, Hung, Fits, Path, Reached}
use Rattle.rules.specs.Tests.{reached}
use Rattle.rules.specs.Columns.{Table, Arrays, Proper, Whole, narrow, net_in, net_of, rows_in, rows_of, most_nodes, no_link}
use Rattle.rules.specs.Refusals.{only, Verdict, accepted, refused, when, judge_tree, judge_asked}
use Rattle.rules.specs.Jobs.{Pathed, pathed, too_short}
use Rattle.rules.specs.declared.Profile.{Profile}
use Rattle.rules.proofs.Logic.{true_T, get_d_any, by_size}
use Rattle.rules.proofs.Check.{reached_of}
use Rattle.rules.proofs.Sound.{hangs}
use Rattle.rules.proofs.Judged.{then_first, then_second, when_not, tree_accepted}
use Rattle.path.specs.Climb.{Parents, parents, link_to, Step, Climbable, Way, at_root, by_parent, Traces, traced, short}
use Rattle.path.proofs.Laws.{few_links}

-- what the rules say of an answer: refusal 12, or acceptance with the count
abbrev pub verdict_of : Option ℕ → Verdict
verdict_of (Some n) = accepted
verdict_of None = refused 12 (only 0)

abbrev pub count_of : Option ℕ → ℕ
count_of (Some n) = n
count_of None = 0

abbrev pub parents_of : Table → Arrays → Parents
parents_of t tree = parents t.root t.starts tree.dist tree.parent

-- a way leads up from v
record Rises (p : Parents) (v : ℕ) : Type 0 where
  links : List ℕ
  way : Way p v links

module _ (p : Profile) {t : Table} {tree : Arrays} (a : Proper t) (w : Whole tree) (F : Fits (net_in p t) (rows_in p tree)) where
  abbrev N : Net
  N = net_in p t

  abbrev r : Rows
  r = rows_in p tree

  hung_at : (v : ℕ) → Reached N r v → v ≢ t.root → Hung N r v
  hung_at v s n = hangs (F.row v) n s

  same_link : {v : ℕ} → Hung N r v → link_to (parents_of t tree) v ≡ r.parent v
  same_link {v} h = get_d_any tree.parent v 0 no_link (omega (arith, h.is_node, a.few_nodes, w.parent))

  same_dist : (v : ℕ) → v < t.nodes → get_or tree.dist v 0 ≡ r.dist v
  same_dist v l = get_d_any tree.dist v 0 p.mark (omega (arith, a.few_nodes, w.dist))

  step_up : {v : ℕ} → Hung N r v → Step (parents_of t tree) v
  step_up {v} h =
      let same = same_link h in
      let up = a.starts (r.parent v) h.tight.usable.is_link in
      record {
        is_link = rw same h.tight.usable.is_link;
        is_node = rw same (omega (arith, up, a.few_nodes));
        nearer = rw same (omega (arith, h.tight.sum, h.tight.usable.costs, same_dist v h.is_node, same_dist (N.start (r.parent v)) up));
      }

  way_up : (v : ℕ) → Reached N r v → Rises (parents_of t tree) v
  way_up = by_size r.dist (λ v. Reached N r v → Rises (parents_of t tree) v) step
    where
      step : (v : ℕ) → ((u : ℕ) → r.dist u < r.dist v → Reached N r u → Rises (parents_of t tree) u) → Reached N r v → Rises (parents_of t tree) v
      step v before s = at (ℕ_discrete v t.root)
        where
          at : Dec (v ≡ t.root) → Rises (parents_of t tree) v
          at (yes e) = record { links = []; way = rw e at_root }
          at (no n) =
              let h = hung_at v s n in
              let rest = before (N.start (r.parent v)) (omega (arith, h.tight.sum, h.tight.usable.costs)) h.tight.from_reached in
              record { links = rest.links ++ (link_to (parents_of t tree) v ∷ []); way = by_parent {links = rest.links} n (step_up h) (rw (same_link h) rest.way) }

  pub climbable : (node : ℕ) → node < t.nodes → Reached N r node → Climbable (parents_of t tree) node 0
  climbable node l s =
      let up = way_up node s in
      let is_node : node < most_nodes = omega (arith, a.few_nodes) in
      record { is_node = is_node; links = up.links; way = up.way; few = few_links is_node (record { links = up.links; way = up.way; count = refl }) }

  pub way_path : {v : ℕ} {links : List ℕ} → Way (parents_of t tree) v links → Reached N r v → Path N r v links
  way_path at_root s = Path.at_root
  way_path (by_parent {v} n step way) s =
      let h = hung_at v s n in
      let before = way_path way (rw (same_link h) h.tight.from_reached) in
      rw (same_link h) (Path.by_parent n h.tight.usable h.tight.ends_at (rw (same_link h) at before))

-- ---- an asked node that isn't refused

module _ (t : Table) (tree : Arrays) (node : ℕ) (w : Whole tree) (e : judge_asked t tree node ≡ accepted) where
  fits : Proper t × Fits (net_of t) (rows_of tree)
  unfolding judge_asked
  fits = tree_accepted t tree w (then_first (judge_tree t tree) _ e)

  is_node : node < t.nodes
  unfolding judge_asked
  is_node =
      leb-false t.nodes node (when_not (leb t.nodes node) 10 (then_first (when (leb t.nodes node) 10) _ (then_second (judge_tree t tree) _ e)))

  is_reached : Reached (net_of t) (rows_of tree) node
  unfolding judge_asked
  is_reached =
      let left = then_second (when (leb t.nodes node) 10) _ (then_second (judge_tree t tree) _ e) in
      let passes = not-false (reached (net_of t) (rows_of tree) node) (when_not (not (reached (net_of t) (rows_of tree) node)) 11 left) in
      reached_of (net_of t) (rows_of tree) node (true_T (reached (net_of t) (rows_of tree) node) passes)

  -- what trace requires
  pub asked_climbable : Climbable (parents_of t tree) node 0
  asked_climbable = climbable narrow fits.0 w fits.1 node is_node is_reached

  -- what its promise says
  pub traces_pathed : {list exit : List ℕ} {r : Option ℕ} → Traces (parents_of t tree) node list r exit
      → Pathed t tree node list (verdict_of r) exit (count_of r)
  traces_pathed (traced way l) = pathed e (way_path narrow fits.0 w fits.1 way is_reached) l
  traces_pathed (short way l) = too_short e (way_path narrow fits.0 w fits.1 way is_reached) l
