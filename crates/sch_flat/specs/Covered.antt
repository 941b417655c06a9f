-- Which programs are covered.
use Rattle.std.specs.Prelude.{Bool, true, ◌&&◌, nat_le, length}
use Rattle.std.specs.List.{list_all}
use Rattle.sch_word.specs.trees.Shape.{max_library}
use Rattle.sch_word.specs.trees.Covered.{is_covered_node}
use Rattle.sch_flat.specs.Tree.{Tree, Trees, Body, Source}
use Rattle.sch_flat.specs.Measures.{over, over_each}

-- each of its nodes is one of covered code
abbrev pub is_covered : Tree → Bool
is_covered = over true (λ a b. a && b) is_covered_node

abbrev pub are_covered : Trees → Bool
are_covered = over_each true (λ a b. a && b) is_covered_node

abbrev pub is_covered_body : Body → Bool
is_covered_body b = is_covered b.code

-- with no more procedures in the library than it may have
abbrev pub is_covered_program : Source → Bool
is_covered_program p =
    nat_le (length p.library) max_library && (list_all is_covered_body p.bodies && are_covered p.forms)
