-- The plain reading of a body leaves no mark where a variable is bound, and outside regions nothing is saved.
use Rattle.std.proofs.Common.{◌≡◌, ℕ, List, [], ◌∷◌, refl}
use Rattle.sch_word.specs.values.Values.{Value}
use Rattle.sch_control.specs.declared.operation.Member.{Member}
use Rattle.sch_control.specs.Meaning.{Environment, World, mark_members, no_region, plain, put_inside}

-- the variables of a group leave no marks
pub members_unmarked : (members : List (Member ℕ)) (w : World) → mark_members plain no_region members w ≡ w
members_unmarked [] w = refl
members_unmarked (m ∷ members) w = members_unmarked members w

-- the values of a group are not saved
pub none_saved : (saved : Environment) (members : List (Member ℕ)) (vs : List Value) → put_inside no_region saved members vs ≡ saved
none_saved saved [] vs = refl
none_saved saved (m ∷ members) [] = refl
none_saved saved (m ∷ members) (v ∷ vs) = none_saved saved members vs
