-- A network in which a sum is a route just where it is below the mark, which is a number of 32 bits: then what is less
-- than a distance is a route, and nothing else has to be asked of a sum. Assumes nothing.
use Rattle.std.specs.Prelude.{◌≡◌, ◌^◌, ◌≤◌, ◌<◌}
use Rattle.rules.specs.Net.{Net, Roomy}
use Rattle.rules.specs.declared.Profile.{Profile}

pub record Level (N : Net) : Type 0 where
  pub level : N.ceiling ≡ N.mark
  pub mark_is_far : 0 < N.mark
  pub mark_fits : N.mark < 2 ^ 32

-- the same numbers with the mark for ceiling
abbrev pub leveled : Profile → Profile
leveled p = record { most = p.most; ceiling = p.mark; mark = p.mark }

-- the same network with the mark for ceiling
abbrev pub level_net : Net → Net
level_net N = record {
  nodes = N.nodes;
  root = N.root;
  links = N.links;
  start = N.start;
  end = N.end;
  cost = N.cost;
  is_open = N.is_open;
  most = N.most;
  ceiling = N.mark;
  mark = N.mark;
  none = N.none;
}

-- a network for which that is no other: no sum from a reached node comes up to the mark, and the ceiling isn't below it
pub record Ample (N : Net) : Type 0 where
  pub room : Roomy N
  pub high : N.mark ≤ N.ceiling
  pub mark_fits : N.mark < 2 ^ 32
