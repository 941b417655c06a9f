-- Worked rows: for each test of validity what passes, and beside it what does not.
use Rattle.std.proofs.Common.{◌≡◌, refl, ℕ, Bool, true, false, List, [], ◌∷◌, map, Option, Some, None, replicate}
use Rattle.std.specs.Prelude.{codes, not}
use Rattle.std.specs.List.{list_all}
use Rattle.sch_word.specs.declared.constant.Const.TheVariants.{Character, Nil, Symbol}
use Rattle.sch_word.specs.declared.primitive.Primitive.TheVariants.{Eq, Eqv, IsBoolean, IsPair, IsNull, IsSymbol, IsInteger, IsChar, IsString, IsVector, IsProcedure, Cons, Car, Cdr, SetCar, SetCdr, Add, Subtract, Multiply, Quotient, Remainder, Modulo, Equal, Less, Greater, LessEqual, GreaterEqual, CharToInteger, IntegerToChar, MakeString, StringLength, StringRef, StringSet, MakeVector, VectorLength, VectorRef, VectorSet, Put, SymbolLength, SymbolRef}
use Rattle.sch_word.specs.values.Literals.{no_literals}
use Rattle.sch_control.specs.declared.body.Entry.{Entry}
use Rattle.sch_control.specs.declared.operation.Atom.{Atom}
use Rattle.sch_control.specs.declared.operation.Atom.TheVariants.{Constant, Literal, Variable}
use Rattle.sch_control.specs.declared.operation.Operand.{Operand}
use Rattle.sch_control.specs.declared.operation.Operand.TheVariants as operand
use Rattle.sch_control.specs.declared.operation.Source.TheVariants as source
use Rattle.sch_control.specs.declared.operation.Closure.{Closure}
use Rattle.sch_control.specs.declared.operation.Member.{Member}
use Rattle.sch_control.specs.declared.operation.Operation.{Operation}
use Rattle.sch_control.specs.declared.operation.Operation.TheVariants as operation
use Rattle.sch_control.specs.declared.operation.Application.{Application}
use Rattle.sch_control.specs.Tree.{Expression, perform, bind, sequence, branch, fix, call, tail_call, return, end, save, Source}
use Rattle.sch_control.specs.BoundParts as bound_parts
use Rattle.sch_control.specs.BoundParts.{application_parts, in_turn, operation_parts, parts_in_turn}
use Rattle.sch_control.specs.Valid.{bound_in, numbered, only_reads, operand_shaped, operation_shaped, application_shaped, group_shaped, entry_shaped, each_part, source_field, operation_field, group_fields, fields_known, is_bare, in_scope, atom_known, global_known, closure_known, operation_known, application_known, group_known, Names, sites_of, sites_once, bound_known, library_known, statics_known, code_valid, is_valid}
use Rattle.sch_control.proofs.Examples.{number, held_in, applied, form, lambda, program, shown, global}

abbrev fails : {A : Type 0} → (A → Bool) → List A → Bool
fails test xs = list_all (λ x. not (test x)) xs

-- ## What is simple

only_reads_all : list_all only_reads (Eq ∷ Eqv ∷ IsBoolean ∷ IsPair ∷ IsNull ∷ IsSymbol ∷ IsInteger ∷ IsChar ∷ IsString ∷ IsVector ∷ IsProcedure ∷ []) ≡ true
only_reads_all = refl

only_reads_none : fails only_reads (Cons ∷ Car ∷ Cdr ∷ SetCar ∷ SetCdr ∷ Add ∷ Subtract ∷ Multiply ∷ Quotient ∷ Remainder ∷ Modulo ∷ Equal ∷ Less ∷ Greater ∷ LessEqual ∷ GreaterEqual
    ∷ CharToInteger ∷ IntegerToChar ∷ MakeString ∷ StringLength ∷ StringRef ∷ StringSet ∷ MakeVector ∷ VectorLength ∷ VectorRef ∷ VectorSet ∷ Put ∷ SymbolLength ∷ SymbolRef ∷ []) ≡ true
only_reads_none = refl

abbrev test_of : ℕ → Operand ℕ
test_of x = operand.Read 0 IsNull (Variable x ∷ [])

-- a primitive that may stop
abbrev not_simple : Operand ℕ
not_simple = operand.Read 0 Car (Variable 2 ∷ [])

simple : list_all operand_shaped (number 1 ∷ held_in 2 ∷ test_of 2 ∷ operand.Read 0 Eq (Variable 2 ∷ Variable 3 ∷ []) ∷ []) ≡ true
simple = refl

simple_not : fails operand_shaped (not_simple ∷ operand.Read 0 IsNull [] ∷ operand.Read 0 Eq (Variable 2 ∷ []) ∷ []) ≡ true
simple_not = refl

-- ## The numbers of variables

abbrev binding : ℕ → Expression
binding x = bind x global (return global)

numbers_fit : list_all numbered (form 1002 (end global) ∷ form 3 (bind 2 global (end global)) ∷ lambda 1 0 3 (return global) ∷ lambda 1 0 4 (binding 3) ∷ []) ≡ true
numbers_fit = refl

-- 1,003 variables; a formal past them; a variable that is bound as the return address, the closure or a formal; one past them
numbers_past : fails numbered (form 1003 (end global) ∷ lambda 1 0 2 (return global) ∷ lambda 1 0 4 (binding 0) ∷ form 4 (bind 1 global (end global))
    ∷ lambda 1 0 4 (binding 2) ∷ lambda 1 0 4 (binding 4) ∷ []) ≡ true
numbers_past = refl

abbrev closure : (label fields : ℕ) → Closure ℕ
closure label fields = record { label = label; fields = replicate fields (source.Atom (Constant Nil)) }

abbrev member : (at fields : ℕ) → Member ℕ
member at fields = record { at = at; closure = closure 1 fields }

bound_everywhere : bound_in (bind 2 (bind 3 global global)
    (sequence (bind 4 global global) (branch (bind 5 global global) (return (bind 6 global global))
    (fix (member 7 0 ∷ member 8 0 ∷ []) (save (2 ∷ []) (end (bind 9 global global))))))) ≡ 2 ∷ 3 ∷ 4 ∷ 5 ∷ 6 ∷ 7 ∷ 8 ∷ 9 ∷ []
bound_everywhere = refl

-- a variable is not bound in its own value, nor after the arm that binds it; a group is, in its closures and behind them
scopes : list_all (λ e. in_scope e (λ x. false)) (bind 2 (perform (operation.Operand (number 1))) (end (perform (operation.Operand (held_in 2))))
    ∷ fix (record { at = 2; closure = record { label = 1; fields = source.Atom (Variable 2) ∷ [] } } ∷ []) (end (perform (operation.Operand (held_in 2)))) ∷ []) ≡ true
scopes = refl

scopes_not : fails (λ e. in_scope e (λ x. false)) (bind 2 (perform (operation.Operand (held_in 2))) (end global)
    ∷ sequence (bind 2 global global) (perform (operation.Operand (held_in 2)))
    ∷ branch global (bind 2 global global) (perform (operation.Operand (held_in 2)))
    ∷ perform (operation.Field 1 0) ∷ call (applied 0 (held_in 2) []) [] ∷ tail_call (applied 0 (number 1) (held_in 2 ∷ [])) ∷ []) ≡ true
scopes_not = refl

-- ## Shapes

shapes : list_all operation_shaped (operation.Operand (test_of 2) ∷ operation.Prim 0 Put (test_of 2 ∷ []) ∷ operation.Prim 0 Cons (number 1 ∷ number 2 ∷ [])
    ∷ operation.Global 0 ∷ operation.SetGlobal 0 (number 1) ∷ operation.Field 1 0 ∷ operation.NewCell (source.Field 1 0) ∷ operation.UnsetCell
    ∷ operation.CellGet (source.Field 1 0) ∷ operation.CellSet (source.Field 1 0) (number 1) ∷ operation.MakeClosure (closure 1 1000) ∷ []) ≡ true
shapes = refl

shapes_not : fails operation_shaped (operation.Operand not_simple ∷ operation.Prim 0 Put [] ∷ operation.Prim 0 Cons (number 1 ∷ []) ∷ operation.Prim 0 Put (number 1 ∷ number 2 ∷ [])
    ∷ operation.Prim 0 Put (not_simple ∷ [])
    ∷ operation.SetGlobal 0 not_simple ∷ operation.CellSet (source.Field 1 0) not_simple ∷ operation.MakeClosure (closure 1 1001) ∷ []) ≡ true
shapes_not = refl

abbrev spread_over : List (Operand ℕ) → Application ℕ
spread_over operands = record { site = 0; spread = true; operator = held_in 2; operands = operands }

calls_shaped : list_all application_shaped (applied 0 (held_in 2) [] ∷ applied 0 (test_of 2) (replicate 200 (number 1)) ∷ spread_over (held_in 3 ∷ []) ∷ []) ≡ true
calls_shaped = refl

calls_shaped_not : fails application_shaped (applied 0 (held_in 2) (replicate 201 (number 1)) ∷ spread_over [] ∷ applied 0 not_simple []
    ∷ applied 0 (held_in 2) (number 1 ∷ not_simple ∷ []) ∷ []) ≡ true
calls_shaped_not = refl

groups_shaped : list_all group_shaped (replicate 200 (member 3 0) ∷ (member 3 0 ∷ member 4 1000 ∷ []) ∷ []) ≡ true
groups_shaped = refl

groups_shaped_not : fails group_shaped (replicate 201 (member 3 0) ∷ (member 3 0 ∷ member 4 1001 ∷ []) ∷ []) ≡ true
groups_shaped_not = refl

abbrev entry : ℕ → Bool → ℕ → Option Entry
entry formals rest fields = Some (record { formals = formals; rest = rest; fields = fields })

entries_shaped : list_all entry_shaped (None ∷ entry 0 false 0 ∷ entry 1 true 0 ∷ entry 200 true 1000 ∷ []) ≡ true
entries_shaped = refl

entries_shaped_not : fails entry_shaped (entry 201 false 0 ∷ entry 0 true 0 ∷ entry 0 false 1001 ∷ []) ≡ true
entries_shaped_not = refl

-- ## Each part is tested

abbrev operations_pass : Bool → Expression → Bool
operations_pass passes = each_part (record { operation = λ o. passes; application = λ a. true; group = λ members. true })

abbrev calls_pass : Bool → Expression → Bool
calls_pass passes = each_part (record { operation = λ o. true; application = λ a. passes; group = λ members. true })

abbrev calling : Expression
calling = call (applied 0 (held_in 2) []) []

-- an expression in each place where one may stand, the others being a group, which passes
abbrev places : Expression → List Expression
places e =
    let other = fix [] calling in
    e ∷ bind 2 e other ∷ bind 2 other e ∷ sequence e other ∷ sequence other e ∷ branch e other other ∷ branch other e other ∷ branch other other e
    ∷ fix [] e ∷ return e ∷ end e ∷ []

each_operation : fails (operations_pass false) (save [] global ∷ places global) ≡ true
each_operation = refl

other_parts : list_all (operations_pass true) (places global) ≡ true
other_parts = refl

each_call : fails (calls_pass false) (calling ∷ tail_call (applied 0 (held_in 2) []) ∷ []) ≡ true
each_call = refl

each_group : each_part (record { operation = λ o. true; application = λ a. true; group = λ members. false }) (fix [] global) ≡ false
each_group = refl

-- ## Fields are the closure's, of which there is one here

fields_there : list_all (source_field 1) (source.Field 1 0 ∷ source.Atom (Variable 2) ∷ []) ≡ true
fields_there = refl

fields_there_not : fails (source_field 1) (source.Field 1 1 ∷ source.Field 2 0 ∷ []) ≡ true
fields_there_not = refl

abbrev capturing : (field : ℕ) → Closure ℕ
capturing k = record { label = 1; fields = source.Atom (Constant Nil) ∷ source.Field 1 k ∷ [] }

abbrev field_operations : (field : ℕ) → List (Operation ℕ)
field_operations k = operation.Field 1 k ∷ operation.NewCell (source.Field 1 k) ∷ operation.CellGet (source.Field 1 k) ∷ operation.CellSet (source.Field 1 k) (number 1)
    ∷ operation.MakeClosure (capturing k) ∷ []

fields_read : list_all (operation_field 1) (operation.Global 5 ∷ field_operations 0) ≡ true
fields_read = refl

fields_read_not : fails (operation_field 1) (operation.Field 2 0 ∷ field_operations 1) ≡ true
fields_read_not = refl

abbrev capturing_group : (field : ℕ) → List (Member ℕ)
capturing_group k = member 2 0 ∷ record { at = 3; closure = capturing k } ∷ []

groups_fields : list_all (group_fields 1) (capturing_group 0 ∷ []) ≡ true
groups_fields = refl

groups_fields_not : fails (group_fields 1) (capturing_group 1 ∷ []) ≡ true
groups_fields_not = refl

fields_of_entry : list_all fields_known (lambda 0 1 2 (return (perform (operation.Field 1 0))) ∷ lambda 0 1 3 (fix (capturing_group 0) (return global)) ∷ []) ≡ true
fields_of_entry = refl

fields_of_entry_not : fails fields_known (lambda 0 1 2 (return (perform (operation.Field 1 1))) ∷ lambda 0 1 3 (fix (capturing_group 1) (return global))
    ∷ form 2 (end (perform (operation.Field 1 0))) ∷ []) ≡ true
fields_of_entry_not = refl

-- ## No regions and no restores

bare : list_all is_bare (tail_call (applied 0 (held_in 2) []) ∷ places global) ≡ true
bare = refl

no_region : fails is_bare (places (save [] global)) ≡ true
no_region = refl

no_restores : fails is_bare (places (call (applied 0 (held_in 2) []) (0 ∷ []))) ≡ true
no_restores = refl

-- ## Names: one symbol, one literal, one global; a form, and procedures of no field and of one

abbrev names : Names
names = record { symbols = 1; literals = 1; globals = 1; entries = None ∷ entry 0 false 0 ∷ entry 0 false 1 ∷ [] }

abbrev atom_is_known : Atom ℕ → Bool
atom_is_known = atom_known 1 1

atoms : list_all atom_is_known (Constant (Symbol 0) ∷ Constant (Character 255) ∷ Literal 0 ∷ Variable 7 ∷ []) ≡ true
atoms = refl

atoms_not : fails atom_is_known (Constant (Symbol 1) ∷ Constant (Character 256) ∷ Literal 1 ∷ []) ≡ true
atoms_not = refl

abbrev global_is_known : Operation ℕ → Bool
global_is_known = global_known 1

globals : list_all global_is_known (operation.Global 0 ∷ operation.SetGlobal 0 (number 1) ∷ operation.UnsetCell ∷ []) ≡ true
globals = refl

globals_not : fails global_is_known (operation.Global 1 ∷ operation.SetGlobal 1 (number 1) ∷ []) ≡ true
globals_not = refl

abbrev is_known : Closure ℕ → Bool
is_known = closure_known names.entries

closures : list_all is_known (closure 1 0 ∷ closure 2 1 ∷ []) ≡ true
closures = refl

-- a form, a body that there is not, more fields and fewer
closures_not : fails is_known (closure 0 0 ∷ closure 3 0 ∷ closure 1 1 ∷ closure 2 0 ∷ []) ≡ true
closures_not = refl

abbrev unknown : Operand ℕ
unknown = operand.Atom (Literal 1)

abbrev operation_is_known : Operation ℕ → Bool
operation_is_known = operation_known names

operations_known : list_all operation_is_known (operation.Operand (number 1) ∷ operation.Global 0 ∷ operation.MakeClosure (closure 2 1) ∷ []) ≡ true
operations_known = refl

operations_known_not : fails operation_is_known (operation.Operand unknown ∷ operation.Prim 0 Cons (number 1 ∷ unknown ∷ []) ∷ operation.Global 1 ∷ operation.MakeClosure (closure 1 1) ∷ []) ≡ true
operations_known_not = refl

abbrev application_is_known : Application ℕ → Bool
application_is_known = application_known names

calls_known : list_all application_is_known (applied 0 (held_in 2) (number 1 ∷ []) ∷ []) ≡ true
calls_known = refl

calls_known_not : fails application_is_known (applied 0 unknown [] ∷ applied 0 (held_in 2) (unknown ∷ []) ∷ []) ≡ true
calls_known_not = refl

abbrev group_is_known : List (Member ℕ) → Bool
group_is_known = group_known names

groups_known : list_all group_is_known ((member 2 0 ∷ member 3 0 ∷ []) ∷ []) ≡ true
groups_known = refl

groups_known_not : fails group_is_known ((member 2 0 ∷ member 3 1 ∷ []) ∷ (record { at = 2; closure = record { label = 2; fields = source.Atom (Literal 1) ∷ [] } } ∷ []) ∷ []) ≡ true
groups_known_not = refl

-- ## Sites, of a form that shows two values

abbrev two_shown : (first second : ℕ) → (sites : List ℕ) → (bound : List (List ℕ)) → Source
two_shown first second = program [] (form 2 (end (sequence (shown first (number 1)) (shown second (number 2)))) ∷ [])

sites_listed : list_all sites_once (two_shown 0 1 (1 ∷ 1 ∷ []) [] ∷ program [] (form 3 (end (call (applied 0 (held_in 2) (number 1 ∷ [])) [])) ∷ []) (2 ∷ []) [] ∷ []) ≡ true
sites_listed = refl

-- a site that stands twice, in one body or in two, one that is not listed, and another width
sites_listed_not : fails sites_once (two_shown 0 0 (1 ∷ 1 ∷ []) [] ∷ program [] (form 2 (end (shown 0 (number 1))) ∷ form 2 (end (shown 0 (number 1))) ∷ []) (1 ∷ []) []
    ∷ two_shown 0 1 (1 ∷ []) [] ∷ two_shown 0 1 (1 ∷ 2 ∷ []) [] ∷ program [] (form 3 (end (call (applied 0 (held_in 2) (number 1 ∷ [])) [])) ∷ []) (1 ∷ []) [] ∷ []) ≡ true
sites_listed_not = refl

abbrev read_at : ℕ → Operand ℕ
read_at site = operand.Read site IsNull (Variable 2 ∷ [])

abbrev at_site : ℕ → Expression
at_site site = shown site (number 1)

sites_everywhere : sites_of (bind 2 (at_site 0) (sequence (at_site 1)
    (branch (at_site 2) (return (at_site 3)) (fix (member 7 0 ∷ []) (save [] (bind 3 (call (applied 4 (read_at 5) (read_at 6 ∷ number 1 ∷ [])) [])
    (sequence (perform (operation.Prim 7 Eq (read_at 8 ∷ number 1 ∷ []))) (branch (perform (operation.SetGlobal 0 (read_at 9))) (end (perform (operation.SetGlobal 0 (read_at 10))))
    (sequence (perform (operation.CellSet (source.Field 1 0) (read_at 11))) (tail_call (applied 12 (held_in 2) [])))))))))))
    ≡ (0, 1) ∷ (1, 1) ∷ (2, 1) ∷ (3, 1) ∷ (4, 3) ∷ (5, 1) ∷ (6, 1) ∷ (7, 2) ∷ (8, 1) ∷ (9, 1) ∷ (10, 1) ∷ (11, 1) ∷ (12, 1) ∷ []
sites_everywhere = refl

abbrev binds : (sites : List ℕ) → (bound : List (List ℕ)) → Source
binds sites bound = program [] [] sites bound

parts_bound : list_all bound_known (binds [] [] ∷ binds (2 ∷ 1 ∷ []) ((1 ∷ 0 ∷ []) ∷ [] ∷ []) ∷ []) ≡ true
parts_bound = refl

-- a part past the width, one that is bound twice, a site without its parts, and parts of no site
parts_bound_not : fails bound_known (binds (2 ∷ 1 ∷ []) ((1 ∷ 0 ∷ []) ∷ (1 ∷ []) ∷ []) ∷ binds (2 ∷ 1 ∷ []) ((1 ∷ 1 ∷ []) ∷ [] ∷ []) ∷ binds (2 ∷ 1 ∷ []) ((1 ∷ []) ∷ [])
    ∷ binds [] ([] ∷ []) ∷ []) ≡ true
parts_bound_not = refl

-- ## What stands ready

abbrev with_library : List ℕ → Source
with_library library = record {
  statics = record { symbols = []; literals = no_literals; globals = [] };
  library = library;
  bodies = form 2 (end global) ∷ lambda 0 0 2 (return global) ∷ lambda 0 1 2 (return global) ∷ [];
  sites = [];
  bound = [];
}

libraries : list_all library_known (with_library [] ∷ with_library (1 ∷ 1 ∷ []) ∷ []) ≡ true
libraries = refl

-- a form, a procedure of one field, a body that there is not
libraries_not : fails library_known (with_library (0 ∷ []) ∷ with_library (1 ∷ 2 ∷ []) ∷ with_library (3 ∷ []) ∷ []) ≡ true
libraries_not = refl

abbrev with_statics : (symbols : List (List ℕ)) → (globals : List (Option ℕ)) → (library : List ℕ) → Source
with_statics symbols globals library = record {
  statics = record { symbols = symbols; literals = no_literals; globals = globals };
  library = library;
  bodies = [];
  sites = [];
  bound = [];
}

ready : list_all statics_known (with_statics (codes "a" ∷ []) (None ∷ []) [] ∷ with_statics [] (Some 0 ∷ []) (1 ∷ []) ∷ []) ≡ true
ready = refl

-- a name that is no bytes, a global that no procedure of the library is
ready_not : fails statics_known (with_statics ((256 ∷ []) ∷ []) [] [] ∷ with_statics [] (Some 0 ∷ []) [] ∷ with_statics [] (Some 1 ∷ []) (1 ∷ []) ∷ []) ≡ true
ready_not = refl

-- ## What is bound

-- the sites of what is done and called, each with its parts: what is read among the operands has its own
sites_with_parts : (operation_parts (operation.Prim 3 Cons (number 1 ∷ operand.Read 4 Eq (Variable 2 ∷ Constant Nil ∷ []) ∷ []))
    ≡ (3, number 1 ∷ operand.Read 4 Eq (Variable 2 ∷ Constant Nil ∷ []) ∷ []) ∷ (4, held_in 2 ∷ operand.Atom (Constant Nil) ∷ []) ∷ [])
    × (operation_parts (operation.SetGlobal 0 (test_of 2)) ≡ (0, held_in 2 ∷ []) ∷ [])
    × (application_parts (applied 1 (held_in 2) (test_of 3 ∷ [])) ≡ (1, held_in 2 ∷ test_of 3 ∷ []) ∷ (0, held_in 3 ∷ []) ∷ [])
sites_with_parts = (refl, refl, refl)

-- parts 1 and 0 are variables 4 and 6, which are bound in this order, others between them
turns : list_all (in_turn (held_in 6 ∷ held_in 4 ∷ number 1 ∷ []) (1 ∷ 0 ∷ [])) ((4 ∷ 6 ∷ []) ∷ (3 ∷ 4 ∷ 5 ∷ 6 ∷ 7 ∷ []) ∷ []) ≡ true
turns = refl

-- bound in the other order, or one of them not at all
turns_not : fails (in_turn (held_in 6 ∷ held_in 4 ∷ number 1 ∷ []) (1 ∷ 0 ∷ [])) ((6 ∷ 4 ∷ []) ∷ (4 ∷ []) ∷ (6 ∷ []) ∷ [] ∷ []) ≡ true
turns_not = refl

-- a part that is no variable, and one that there is not
no_turns : fails (λ ks. in_turn (held_in 6 ∷ held_in 4 ∷ number 1 ∷ []) ks (4 ∷ 6 ∷ [])) ((2 ∷ []) ∷ (3 ∷ []) ∷ (1 ∷ 2 ∷ []) ∷ []) ≡ true
no_turns = refl

-- a call with its operator, part 0, bound behind its operand, part 1
abbrev bound_call : (x y : ℕ) → Expression
bound_call x y = bind 2 global (bind 3 global (call (applied 0 (held_in x) (held_in y ∷ [])) []))

-- an expression in each place where one may stand, the others having no site
abbrev around_it : Expression → List Expression
around_it e =
    let other = global in
    e ∷ bind 4 e other ∷ bind 4 other e ∷ sequence e other ∷ sequence other e ∷ branch e other other ∷ branch other e other ∷ branch other other e
    ∷ fix [] e ∷ return e ∷ end e ∷ save [] e ∷ []

calls_in_turn : list_all (λ e. parts_in_turn ((1 ∷ 0 ∷ []) ∷ []) e []) (around_it (bound_call 3 2)) ≡ true
calls_in_turn = refl

calls_not_in_turn : fails (λ e. parts_in_turn ((1 ∷ 0 ∷ []) ∷ []) e []) (bound_call 3 3 ∷ around_it (bound_call 2 3)) ≡ true
calls_not_in_turn = refl

tail_calls_in_turn : map (λ e. parts_in_turn ((0 ∷ []) ∷ []) e []) (bind 2 global (tail_call (applied 0 (held_in 2) [])) ∷ tail_call (applied 0 (held_in 2) []) ∷ []) ≡ true ∷ false ∷ []
tail_calls_in_turn = refl

-- what is bound in an arm or in a value is out of sight behind it
out_of_sight : fails (λ e. parts_in_turn ((0 ∷ []) ∷ []) e []) (bind 3 (bind 2 global global) calling ∷ sequence (bind 2 global global) calling
    ∷ branch (bind 2 global global) calling global ∷ branch global (bind 2 global global) calling ∷ []) ≡ true
out_of_sight = refl

bound_rows : map (λ bound. bound_parts.parts_bound (program [] (form 4 (end (bound_call 3 2)) ∷ []) (2 ∷ []) (bound ∷ []))) ((1 ∷ 0 ∷ []) ∷ (0 ∷ 1 ∷ []) ∷ (1 ∷ []) ∷ (0 ∷ []) ∷ [] ∷ [])
    ≡ true ∷ false ∷ true ∷ true ∷ true ∷ []
bound_rows = refl

-- ## Whole bodies and programs, each of which fails one test

bodies_not : fails code_valid (form 2 (end (perform (operation.Operand (held_in 2)))) ∷ form 1 (end (perform (operation.Operand (number 1)))) ∷ form 2 global
    ∷ form 2 (end (perform (operation.Prim 0 Put []))) ∷ lambda 0 0 2 (return (perform (operation.Field 1 0))) ∷ []) ≡ true
bodies_not = refl

programs_not : fails is_valid (program [] (form 2 (end global) ∷ []) [] [] ∷ two_shown 0 0 (1 ∷ []) ([] ∷ []) ∷ two_shown 0 1 (1 ∷ 1 ∷ []) ([] ∷ [])
    ∷ program (None ∷ []) (form 4 (end (bound_call 3 2)) ∷ []) (2 ∷ []) ((0 ∷ 1 ∷ []) ∷ [])
    ∷ with_statics [] [] (0 ∷ []) ∷ with_statics ((256 ∷ []) ∷ []) [] [] ∷ []) ≡ true
programs_not = refl
