-- Worked rows: what normalizing makes, and how it runs.
use Rattle.std.proofs.Common.{map, ◌≡◌, refl, ℕ, Bool, true, false, [], ◌∷◌, Some, None, pos, negsuc}
use Rattle.std.specs.Prelude.{◌&&◌}
use Rattle.std.specs.List.{list_all}
use Rattle.std.specs.Fmt.{signed_decimal}
use Rattle.sch_word.specs.declared.constant.Const.TheVariants.{Fixnum}
use Rattle.sch_word.specs.declared.primitive.Primitive.TheVariants.{Add, Car, Cons, IsPair, Put}
use Rattle.sch_word.specs.values.Literals.{no_literals}
use Rattle.sch_word.specs.runs.Runs.{ended}
use Rattle.sch_flat.specs.Covered as from
use Rattle.sch_flat.specs.Examples.{number}
use Rattle.sch_flat.specs.Tree as flat
use Rattle.sch_flat.specs.Tree.{Tree, constant, global, set_global, sequence, call, operation, make_closure, variable, cell_set, trees}
use Rattle.sch_control.specs.declared.operation.Atom.TheVariants as atom
use Rattle.sch_control.specs.declared.operation.Operand.{Operand}
use Rattle.sch_control.specs.declared.operation.Operand.TheVariants as operand
use Rattle.sch_control.specs.declared.operation.Operation.TheVariants as does
use Rattle.sch_control.specs.Covered.{is_covered_program}
use Rattle.sch_control.specs.Tree as to
use Rattle.sch_control.specs.Run as control
use Rattle.sch_control.specs.Sizes.{expression_size, expressions_size, sequences_in}
use Rattle.sch_control.specs.Work.{code_work}
use Rattle.sch_anf_laws.specs.Counted.{most_variables}
use Rattle.sch_control.specs.Sizes.{bind_within}
use Rattle.sch_flat.specs.Measures.{variables, weight}
use Rattle.sch_control.specs.Valid.{is_valid, code_valid}
use Rattle.sch_anf_laws.specs.Normal.{normal, normal_source, new_label}

abbrev fixed : ℕ → Operand ℕ
fixed n = operand.Atom (atom.Constant (Fixnum (pos n)))

abbrev held : ℕ → Operand ℕ
held x = operand.Atom (atom.Variable x)

-- ## (f (+ x (car p)) (begin (set! x 20) 0)), where f, x and p are globals 0, 1 and 2

abbrev mixed : Tree
mixed = call 0 false (global 0) (trees (
    operation 1 Add (trees (global 1 ∷ operation 2 Car (trees (global 2 ∷ [])) ∷ []))
    ∷ sequence (trees (set_global 1 (number 20) ∷ number 0 ∷ [])) ∷ []))

-- each operand is bound whole at its turn, and the operator after them
mixed_normal : normal [] false mixed [] 2 ≡
    to.bind 2 (to.bind 3 (to.perform (does.Global 1)) (to.bind 4 (to.bind 5 (to.perform (does.Global 2)) (to.perform (does.Prim 2 Car (held 5 ∷ []))))
    (to.perform (does.Prim 1 Add (held 3 ∷ held 4 ∷ [])))))
    (to.bind 6 (to.sequence (to.perform (does.SetGlobal 1 (fixed 20))) (to.perform (does.Operand (fixed 0))))
    (to.bind 7 (to.perform (does.Global 0))
    (to.call (record { site = 0; spread = false; operator = held 7; operands = held 2 ∷ held 6 ∷ [] }) [])))
mixed_normal = refl

-- in a tail context the same is a tail call
tail_normal : normal [] true (call 0 false (variable (flat.bound 4)) (trees (number 1 ∷ []))) ((4, 3) ∷ []) 4
    ≡ to.tail_call (record { site = 0; spread = false; operator = held 3; operands = fixed 1 ∷ [] })
tail_normal = refl

-- a read over atoms stays an operand; a field of the closure is bound
read_normal : normal [] true (operation 0 Cons (trees (operation 1 IsPair (trees (variable (flat.bound 4) ∷ [])) ∷ variable (flat.free 0) ∷ []))) ((4, 2) ∷ []) 3 ≡
    to.bind 3 (to.perform (does.Field 1 0)) (to.return (to.perform (does.Prim 0 Cons (operand.Read 1 IsPair (atom.Variable 2 ∷ []) ∷ held 3 ∷ []))))
read_normal = refl

-- a call whose value is dropped is bound, and a constant leaves nothing
dropped_normal : normal [] false (sequence (trees (number 1 ∷ call 0 false (global 0) (trees []) ∷ number 2 ∷ []))) [] 2 ≡
    to.bind 2 (to.bind 3 (to.perform (does.Global 0)) (to.call (record { site = 0; spread = false; operator = held 3; operands = [] }) [])) (to.perform (does.Operand (fixed 2)))
dropped_normal = refl

-- (begin x 0) for a global x, which may stop: it is done, and its value is dropped
read_dropped : normal [] false (sequence (trees (global 0 ∷ number 0 ∷ []))) [] 2 ≡ to.sequence (to.perform (does.Global 0)) (to.perform (does.Operand (fixed 0)))
read_dropped = refl

-- (begin (begin 1 2) 3): only an atom is left of the first part, which leaves nothing
wrapped_normal : normal [] false (sequence (trees (sequence (trees (number 1 ∷ number 2 ∷ [])) ∷ number 3 ∷ []))) [] 2 ≡ to.perform (does.Operand (fixed 3))
wrapped_normal = refl

-- (begin 1 x 2 x) for a field x of the closure: the last part is not dropped
last_kept : normal [] true (sequence (trees (number 1 ∷ variable (flat.free 0) ∷ number 2 ∷ variable (flat.free 0) ∷ []))) [] 2 ≡ to.return (to.perform (does.Field 1 0))
last_kept = refl

-- (begin x y 0) and (begin (x) y 0) for globals x and y: a read that is dropped is the first part of a sequence, and a call
-- that is dropped is bound
abbrev read_twice : Tree
read_twice = sequence (trees (global 0 ∷ global 1 ∷ number 0 ∷ []))

abbrev called_and_read : Tree
called_and_read = sequence (trees (call 0 false (global 0) (trees []) ∷ global 1 ∷ number 0 ∷ []))

sequences_row : (sequences_in (normal [] false read_twice [] 2) ∷ sequences_in (normal [] false called_and_read [] 2) ∷ []) ≡ 2 ∷ 1 ∷ []
sequences_row = refl

-- the second binds the operator of its call too
needed_row : (variables read_twice ∷ variables called_and_read ∷ []) ≡ 2 ∷ 3 ∷ []
needed_row = refl

-- an assignment of a cell in one of a cell is done, bound, and names cell and value
nested_sets : expression_size (normal [] false (cell_set (flat.bound 0) (cell_set (flat.bound 0) (number 1))) ((0, 2) ∷ []) 3) ≡ 7
nested_sets = refl

-- ## (define f (lambda (x) (display x))) (f (car (cons -8 8)))

abbrev two_forms : flat.Source
two_forms = record {
  statics = record { symbols = []; literals = no_literals; globals = None ∷ [] };
  library = [];
  bodies = record { name = []; first = 0; formals = 1; rest = false; fields = 0; code = operation 0 Put (trees (variable (flat.bound 0) ∷ [])) } ∷ [];
  forms = trees (set_global 0 (make_closure (record { label = 0; fields = [] })) ∷ call 1 false (global 0)
      (trees (operation 2 Car (trees (operation 3 Cons (trees (constant (Fixnum (negsuc 7)) ∷ number 8 ∷ [])) ∷ [])) ∷ [])) ∷ []);
  starts = 0 ∷ 1 ∷ [];
  sites = 1 ∷ 2 ∷ 1 ∷ 2 ∷ [];
}

-- the procedure of the first form stands behind it
label_row : (new_label (0 ∷ 1 ∷ []) 0 ∷ new_label (0 ∷ 1 ∷ []) 1 ∷ []) ≡ 1 ∷ 3 ∷ []
label_row = refl

bound_row : (normal_source two_forms).bound ≡ [] ∷ (1 ∷ 0 ∷ []) ∷ (0 ∷ []) ∷ [] ∷ []
bound_row = refl

two_valid : (is_valid (normal_source two_forms) && list_all code_valid (normal_source two_forms).bodies) ≡ true
two_valid = refl

two_runs : control.run (normal_source two_forms) 4096 1 [] 1 ≡ Some (record { output = signed_decimal (negsuc 7); entries = 1; charged = 32; answers = 0; end = ended 0 })
two_runs = refl

-- each form before its procedures; with the return address and the closure these are exactly the variables
variables_row : most_variables two_forms ≡ 1 ∷ 1 ∷ 3 ∷ []
variables_row = refl

within_row : bind_within (normal_source two_forms).bodies (1 ∷ 1 ∷ 3 ∷ []) ≡ true
within_row = refl

too_few_row : bind_within (normal_source two_forms).bodies (1 ∷ 1 ∷ 2 ∷ []) ≡ false
too_few_row = refl

size_row : expressions_size (normal_source two_forms).bodies ≡ 21
size_row = refl

-- the first form is a closure that is bound, set and ends; its procedure is entered, displays its formal and returns it;
-- the second form binds a pair, what it takes of it, and the operator
work_row : map code_work (normal_source two_forms).bodies ≡ 5 ∷ 7 ∷ 19 ∷ []
work_row = refl

weight_row : weight two_forms ≡ 40
weight_row = refl

-- ## A library of one procedure, which calls its formal with it, and a form that calls a global: before and after

abbrev calling : (rest spread : Bool) → flat.Source
calling rest spread = record {
  statics = two_forms.statics;
  library = 0 ∷ [];
  bodies = record { name = []; first = 0; formals = 1; rest = rest; fields = 0; code = call 0 spread (variable (flat.bound 0)) (trees (variable (flat.bound 0) ∷ [])) } ∷ [];
  forms = trees (call 1 false (global 0) (trees (call 2 false (global 0) (trees []) ∷ [])) ∷ []);
  starts = 1 ∷ [];
  sites = 2 ∷ 2 ∷ 1 ∷ [];
}

called_row : (from.is_covered_program (calling false false) ∷ is_covered_program (normal_source (calling false false)) ∷ []) ≡ true ∷ true ∷ []
called_row = refl

-- a procedure that takes a list, and a call that spreads one
rest_row : (from.is_covered_program (calling true false) ∷ is_covered_program (normal_source (calling true false)) ∷ []) ≡ true ∷ true ∷ []
rest_row = refl

spread_row : (from.is_covered_program (calling false true) ∷ is_covered_program (normal_source (calling false true)) ∷ []) ≡ false ∷ false ∷ []
spread_row = refl
