-- The nodes and the bound variables of the definitions of a library, how many formals each has, and how far its variables are.
use Rattle.std.specs.Prelude.{ℕ, Bool, true, ◌&&◌, nat_le, List, [], ◌∷◌}
use Rattle.sch_word.specs.trees.Shape.{max_operands}
use Rattle.sch_sketch.specs.DraftMeasures.{size_each}
use Rattle.sch_link_tables.specs.Programs.{Definition, procedures_of_each}
use Rattle.sch_link_tables.specs.Room.{has_near_variables}

-- a definition is a procedure
abbrev pub size_of_definitions : List Definition → ℕ
size_of_definitions ds = size_each (procedures_of_each ds)

-- no definition has more formals than a procedure may have
abbrev pub have_few_formals : List Definition → Bool
have_few_formals [] = true
have_few_formals (d ∷ ds) = nat_le d.formals max_operands && have_few_formals ds

-- each variable of their bodies has fewer than 2^32 variables bound nearer
abbrev pub have_near_bodies : List Definition → Bool
have_near_bodies [] = true
have_near_bodies (d ∷ ds) = has_near_variables d.body && have_near_bodies ds
