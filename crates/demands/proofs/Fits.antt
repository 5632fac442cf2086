-- For every accepted table of 16-bit costs, a tree fits exactly when its distances are the least sums, its parents
-- form a tree of such paths, each reached node's first link (the root's aside) is the first on its tree path, and
-- every other entry is empty. Assumes nothing.
use mathlib.Core.Path.{◌≡◌, refl, sym, ◌∙◌}
use mathlib.Core.Logic.{◌⊎◌, inl, inr}
use mathlib.Core.List.{List}
use Prim.Native.Nat.{ℕ}
use native.Mathlib.Omega.{arith}
use native.Mathlib.Decide.{ℕ_discrete}
use Rattle.rules.specs.Net.{Net, Walk, at_root, Least}
use Rattle.rules.specs.Fit.{Rows, total, Reached, Tight, Fits, Path, by_parent}
use Rattle.rules.specs.Columns.{Table, Proper, Arrays, net_of, rows_of, unreached}
use Rattle.rules.specs.Refusals.{accepted, judge_links}
use Rattle.rules.specs.Demands.{SixteenBit, TellsRoutes}
use Rattle.rules.proofs.Sound.{fits_shortest, shortest_fits, total_last, path_walk, walk_node, least_before}
use Rattle.rules.proofs.Room.{dist_bound, walk_reached}
use Rattle.rules.proofs.Judged.{links_proper, legal, roomy}

-- where distances are least sums, the last link of a tree path is tight
module _ (N : Net) (r : Rows) (least : (v : ℕ) → Reached N r v → Least N v (r.dist v)) (no_path : (v : ℕ) → r.dist v ≡ N.mark → (d : ℕ) → Walk N v d → ⊥) where
  hangs_by : {v : ℕ} {ks : List ℕ} → Path N r v ks → Reached N r v → total N ks ≡ r.dist v → (r.dist v ≡ 0) ⊎ Tight N r (r.parent v) v
  unfolding total
  hangs_by Path.at_root s q = inl (sym q)
  hangs_by {v} (by_parent {ks = ks} n u e p) s q =
      let k = r.parent v in
      let from : Reached N r (N.start k) = λ m. no_path (N.start k) m (total N ks) (path_walk p) in
      let last = total_last N ks k in
      let before = least_before least p k u refl e s from (sym last ∙ q) in
      inr (record { usable = u; ends_at = e; from_reached = from; sum = omega arith })

  -- a node that no walk leads to is at the mark
  at_mark : (v : ℕ) → ((d : ℕ) → Walk N v d → ⊥) → r.dist v ≡ N.mark
  at_mark v n = at (ℕ_discrete (r.dist v) N.mark)
    where
      at : Dec (r.dist v ≡ N.mark) → r.dist v ≡ N.mark
      at (yes e) = e
      at (no s) = absurd (n (r.dist v) (least v s).walk)

module _ {t : Table} {tree : Arrays} (a : Proper t) (c : SixteenBit t.costs) where
  pub fits_tells : Fits (net_of t) (rows_of tree) → TellsRoutes t tree
  fits_tells f =
      let short = fits_shortest (legal a) f in
      record {
        sums = record {
          least = short.least;
          no_path = no_path;
          only_then = at_mark (net_of t) (rows_of tree) short.least no_path;
          routed = short.routed;
        };
        root_parent = short.root_parent;
        no_parent = short.no_parent;
        no_first = short.no_first;
      }
    where
      no_path : (v : ℕ) → (rows_of tree).dist v ≡ unreached → (d : ℕ) → Walk (net_of t) v d → ⊥
      no_path v m d w = walk_reached (legal a) (roomy a c) f w m

  pub tells_fits : TellsRoutes t tree → Fits (net_of t) (rows_of tree)
  tells_fits s = shortest_fits (legal a) (record {
    least = s.sums.least;
    is_route = λ v h. omega (arith, dist_bound (legal a) (roomy a c) hangs v (walk_node (legal a) (s.sums.least v h).walk) h, (roomy a c).below_ceiling);
    no_route = λ v m d w. absurd (s.sums.no_path v m d w);
    routed = s.sums.routed;
    root_reached = λ e. s.sums.no_path t.root e 0 at_root;
    root_parent = s.root_parent;
    no_parent = s.no_parent;
    no_first = s.no_first;
  })
    where
      hangs : (v : ℕ) → Reached (net_of t) (rows_of tree) v → ((rows_of tree).dist v ≡ 0) ⊎ Tight (net_of t) (rows_of tree) ((rows_of tree).parent v) v
      hangs v h = let way = s.sums.routed v h in hangs_by (net_of t) (rows_of tree) s.sums.least s.sums.no_path way.path h way.sum

-- both at once, of a table that judging accepts
pub fits_exactly : {t : Table} {tree : Arrays} → judge_links t ≡ accepted → SixteenBit t.costs
    → (Fits (net_of t) (rows_of tree) → TellsRoutes t tree) × (TellsRoutes t tree → Fits (net_of t) (rows_of tree))
fits_exactly {t} e c = let a = links_proper t e in (fits_tells a c, tells_fits a c)
