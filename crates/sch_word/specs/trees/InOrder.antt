-- Trees in an order in which each comes before its parts.
use Rattle.std.specs.Prelude.{List, [], ◌∷◌, ◌++◌}

-- the nodes are these trees, one after the other, each followed by its parts and theirs
pub data AreInOrder {A : Type 0} (parts : A → List A) : (nodes trees : List A) → Type 0 where
  none : AreInOrder parts [] []
  next : (tree : A) (below behind others : List A) → AreInOrder parts below (parts tree) → AreInOrder parts behind others → AreInOrder parts (tree ∷ below ++ behind) (tree ∷ others)
