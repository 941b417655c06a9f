use Rattle.std.proofs.Common.{◌≡◌, ◌+◌, ◌++◌, ℕ, List, drop}
use Rattle.sch_flat.specs.View.{trees_of}
use Rattle.sch_anf_laws.specs.Normal.{bound_places}
use Rattle.sch_anf_laws.proofs.Items.{left}
use Rattle.sch_anf.proofs.sites.add_places.Given as goal

abbrev pub invariant-loop-e : goal.invariant-loop-e
invariant-loop-e l = record {
  place : l.place ≡ l.first + l.e-index;
  places : (last : List ℕ) → l.all ++ bound_places l.place (left (drop l.e-index l.e-items)) last ≡ l.initial.all ++ bound_places l.first (trees_of l.e-items) last;
}
