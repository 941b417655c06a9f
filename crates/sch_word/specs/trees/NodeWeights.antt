-- How much work there is in the expressions that are made of the languages of trees, said of the shapes of their
-- nodes.
use Rattle.std.specs.Prelude.{ℕ, zero, suc, ◌+◌, ◌*◌, List, [], ◌∷◌, map}
use Rattle.sch_word.specs.trees.Shape as shapes
use Rattle.sch_word.specs.trees.Shape.{Shape, Procedure}

-- the free variables of some procedures
abbrev pub free_of : List Procedure → ℕ
free_of [] = 0
free_of (p ∷ ps) = p.free + free_of ps

-- the fields of some records
abbrev pub fields_of : List shapes.Made → ℕ
fields_of [] = 0
fields_of (m ∷ ms) = m.fields + fields_of ms

-- A procedure with n formals is jumped over, stores its return address, its closure and its arguments, and
-- returns.
abbrev pub entered : (formals : ℕ) → ℕ
entered formals = 4 + formals

abbrev pub all_entered : (formals : List ℕ) → ℕ
all_entered [] = 0
all_entered (n ∷ ns) = entered n + all_entered ns

abbrev pub procedures_weight : List Procedure → ℕ
procedures_weight ps = all_entered (map (λ p. p.formals) ps)

-- What a node adds to the work, with what becomes of the values of its parts: a value that is set or an operand is
-- bound and read, one of a call is also put aside and handed over by at most two, and a value of an init or of a part
-- of a sequence before its last is at most bound. A branch jumps over its third part, has one test more than its test
-- and two for what its arms save, and may be two returns in place of one. A new cell is bound, made and given its value;
-- a record reads each of its fields. A sequence without parts is a constant. In a tree with cells no variable is set.
abbrev pub weight_of : Shape → ℕ
weight_of (shapes.global g) = 1
weight_of (shapes.set_global g) = 3
weight_of (shapes.define g) = 3
weight_of shapes.branch = 6
weight_of (shapes.sequence zero dropped) = 2
weight_of (shapes.sequence (suc parts) dropped) = parts
weight_of (shapes.bind site inits) = inits
weight_of (shapes.fix count ps) = 1 + count + free_of ps + procedures_weight ps
weight_of (shapes.lambda p) = 1 + p.free + entered p.formals
weight_of (shapes.call site operands spread) = 6 + 5 * operands
weight_of (shapes.operation site which operands) = 1 + 2 * operands
weight_of (shapes.new_cells count) = 3 * count
weight_of shapes.cell_set = 4
weight_of (shapes.make_closure m) = 1 + m.fields
weight_of (shapes.fix_closures count ms) = 1 + count + fields_of ms
weight_of _ = 2
