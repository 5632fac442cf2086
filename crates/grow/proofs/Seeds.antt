-- A search that is seeded with the root, and one that is yet to be used. Assumes nothing.
use mathlib.Core.Path.{◌≡◌, refl}
use mathlib.Core.List.{List}
use Prim.Native.Nat.{ℕ, ◌<◌}
use native.Mathlib.Omega.{arith}
use lib.ListN.{get_or, set, replicate, length-replicate}
use Rattle.rules.specs.Columns.{most_nodes, no_link}
use Rattle.usable.specs.declared.Table.{Table}
use Rattle.usable.specs.Standing.{table_at, net_at}
use Rattle.asked.proofs.Laws.{kept_none}
use Rattle.level.specs.Level.{Level}
use Rattle.queue.specs.Queue.{key_of}
use Rattle.offer.specs.Offer.{Lined}
use Rattle.offer.specs.Searching.{Ready, Unused}
use Rattle.offer.specs.declared.Search.{Search}
use Rattle.afoot.specs.Afoot.{Calm, Every, Settled}
use Rattle.afoot.specs.Finding.{Heard, Comes}
use Rattle.afoot.proofs.Rounds.{Alone, alone}
use Rattle.lift.specs.Loose.{Lifted}
use Rattle.whole.proofs.Whole.{AllPicked, all_fresh}
use Rattle.grow.specs.Grown.{Begun}
use Rattle.grow.proofs.Laws.{level_legal, built_best, carried_all, seeded}

-- what was lifted or written in a search that found and asked nothing leaves it ready
pub unused_ready : {t : Table} {s s' : Search} → Unused s → s'.found ≡ s.found → s'.asked ≡ s.asked → Lined t.profile.mark s'.dist s'.queue → Ready t s'
unused_ready {t} u found asked lined = record {
  lined = lined;
  found_long = rw (found, u.found) (length-replicate 256 no_link);
  kept = rw (asked, u.asked) (kept_none (table_at t));
}

-- the root waits, and no other node is reached
pub record Rooted (t : Table) (s : Search) : Type 0 where
  pub ready : Ready t s
  pub alone : Alone (net_at t) s.dist s.queue
  pub found : s.found ≡ replicate 256 no_link

pub seeded_root : (t : Table) {s s' : Search} → Level (net_at t) → Unused s
    → s' ≡ record s { dist = set (replicate 256 t.profile.mark) t.root 0; queue = set s.queue t.root (key_of 0 t.root) } → Rooted t s'
seeded_root t {s} level u e =
    let is_node : t.root < most_nodes = omega (arith, t.proper.root_is_node, t.proper.few_nodes) in
    let root = alone (net_at t) is_node level.mark_fits level.mark_is_far (rw u.queue refl) in
    rw e (record { ready = unused_ready u refl refl root.afoot.begun.lined; alone = root; found = u.found })

-- what the loop finds from there hangs every node afresh
pub root_fresh : (t : Table) {s s' : Search} (level : Level (net_at t)) → Unused s
    → s' ≡ record s { dist = set (replicate 256 t.profile.mark) t.root 0; queue = set s.queue t.root (key_of 0 t.root) } → {dist keys found : List ℕ} → Settled (net_at t) dist keys
    → Comes (net_at t) s'.dist s'.queue s'.found dist found → AllPicked (net_at t) (λ v. get_or dist v t.profile.mark) (replicate most_nodes no_link) found
root_fresh t level u e settled comes =
    let root = seeded_root t level u e in
    all_fresh (level_legal t.profile t.proper level) (built_best t.profile t.proper level settled root.alone (rw root.found at comes))

-- what a batch touched was lifted or offered
pub touched : (t : Table) {s : Search} (s' s'' : Search) {parent : List ℕ} → Unused s → s'.found ≡ s.found → Lifted (net_at t) parent s'.dist s'.queue
    → Heard (net_at t) (Calm (net_at t) s'.dist s'.queue) s'.dist s'.queue s'.found Every s''.dist s''.queue s''.found
    → Begun (net_at t) parent s''.dist s''.queue s''.found
touched t s' s'' u found lifted heard =
    let heard = rw (found, u.found) at heard in
    seeded (carried_all lifted) heard.partly heard.goes_on
