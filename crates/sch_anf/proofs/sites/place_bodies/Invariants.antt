use Rattle.std.proofs.Common.{◌≡◌, ◌≤◌, length, map, take}
use Rattle.sch_flat.specs.View.{body}
use Rattle.sch_anf.specs.Placed.{placed_bodies}
use Rattle.sch_anf.proofs.sites.place_bodies.Given as goal

abbrev pub invariant-loop-left : goal.invariant-loop-left
invariant-loop-left l = record {
  placed : placed_bodies (map body (take l.left l.bodies)) l.bound.items ≡ placed_bodies (map body l.bodies) l.initial.bound.items;
  within : l.left ≤ length l.bodies;
}

abbrev pub decreases-loop-left : goal.decreases-loop-left
decreases-loop-left l = l.left
