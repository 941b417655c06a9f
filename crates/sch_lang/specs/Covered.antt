-- Which programs are covered.
use Rattle.std.specs.Prelude.{Bool, true, ◌&&◌, nat_le}
use Rattle.sch_word.specs.trees.Shape.{max_library}
use Rattle.sch_word.specs.trees.Covered.{is_covered_node}
use Rattle.sch_lang.specs.Tree.{Expression, Expressions, Lambdas, count_lambdas, Source}
use Rattle.sch_lang.specs.Measures.{every, over_each, over_lambdas, shape}

-- each of its nodes is one of covered code, those of its procedures too
abbrev pub is_covered : Expression → Bool
is_covered = every (λ e. is_covered_node (shape e))

abbrev pub are_covered : Expressions → Bool
are_covered = over_each true (λ a b. a && b) (λ e. is_covered_node (shape e))

abbrev pub are_covered_bodies : Lambdas → Bool
are_covered_bodies = over_lambdas true (λ a b. a && b) (λ e. is_covered_node (shape e))

-- no more procedures than a library may have
abbrev pub is_covered_library : Lambdas → Bool
is_covered_library ls = nat_le (count_lambdas ls) max_library && are_covered_bodies ls

abbrev pub is_covered_program : Source → Bool
is_covered_program p = is_covered_library p.library && are_covered p.forms
