-- Which programs are valid.
use Rattle.std.specs.Prelude.{ℕ, ◌+◌, Bool, true, false, ◌&&◌, ◌||◌, not, nat_eq, nat_lt, nat_le, List, [], ◌∷◌, ◌++◌, length, slice_get, Option, Some, None}
use Rattle.std.specs.List.{list_all, count_by}
use Rattle.sch_word.specs.declared.primitive.Primitive.{Primitive}
use Rattle.sch_word.specs.declared.primitive.Primitive.TheVariants.{Eq, Eqv, IsBoolean, IsPair, IsNull, IsSymbol, IsInteger, IsChar, IsString, IsVector, IsProcedure}
use Rattle.sch_word.specs.values.Primitives.{operands_of}
use Rattle.sch_word.specs.values.Values.{is_constant}
use Rattle.sch_word.specs.values.Literals.{count_literals, constant_known}
use Rattle.sch_word.specs.trees.NumberSets.{without_repeats}
use Rattle.sch_word.specs.runs.Runs.{statics_valid, statics_in_range}
use Rattle.sch_word.specs.trees.Shape.{max_operands, max_variables, max_free_variables, is_width}
use Rattle.sch_control.specs.declared.body.Entry.{Entry}
use Rattle.sch_control.specs.declared.operation.Atom.{Atom}
use Rattle.sch_control.specs.declared.operation.Atom.TheVariants.{Constant, Literal, Variable}
use Rattle.sch_control.specs.declared.operation.Operand.{Operand}
use Rattle.sch_control.specs.declared.operation.Operand.TheVariants as operand
use Rattle.sch_control.specs.declared.operation.Source.{Source}
use Rattle.sch_control.specs.declared.operation.Source.TheVariants as source
use Rattle.sch_control.specs.declared.operation.Closure.{Closure}
use Rattle.sch_control.specs.declared.operation.Member.{Member}
use Rattle.sch_control.specs.declared.operation.Operation.{Operation}
use Rattle.sch_control.specs.declared.operation.Operation.TheVariants as operation
use Rattle.sch_control.specs.declared.operation.Application.{Application}
use Rattle.sch_control.specs.BoundParts.{parts_bound}
use Rattle.sch_control.specs.AtomsAndSites.{operation_atoms, application_atoms, member_atoms, operation_sites, application_sites}
use Rattle.sch_control.specs.Tree as tree
use Rattle.sch_control.specs.Tree.{Expression, perform, bind, sequence, branch, fix, call, tail_call, return, end, save, Code}

-- ## Limits

-- the variables of a body, with the return address and the closure
abbrev pub max_body_variables : ℕ
max_body_variables = 2 + max_variables

-- ## Scopes

abbrev pub with_variable : ℕ → (ℕ → Bool) → ℕ → Bool
with_variable x scope y = nat_eq y x || scope y

abbrev pub with_members : List (Member ℕ) → (ℕ → Bool) → ℕ → Bool
with_members [] scope = scope
with_members (m ∷ members) scope = with_members members (with_variable m.at scope)

abbrev pub in_scope_atom : (ℕ → Bool) → Atom ℕ → Bool
in_scope_atom scope (Variable x) = scope x
in_scope_atom scope _ = true

abbrev pub in_scope_atoms : (ℕ → Bool) → List (Atom ℕ) → Bool
in_scope_atoms scope [] = true
in_scope_atoms scope (a ∷ atoms) = in_scope_atom scope a && in_scope_atoms scope atoms

-- each variable that is read is bound there
abbrev pub in_scope : Expression → (scope : ℕ → Bool) → Bool
in_scope (perform o) scope = in_scope_atoms scope (operation_atoms o)
in_scope (bind x a b) scope = in_scope a scope && in_scope b (with_variable x scope)
in_scope (sequence a b) scope = in_scope a scope && in_scope b scope
in_scope (branch a b c) scope = in_scope a scope && (in_scope b scope && in_scope c scope)
in_scope (fix members e) scope =
    in_scope_atoms (with_members members scope) (member_atoms members) && in_scope e (with_members members scope)
in_scope (call a restores) scope = in_scope_atoms scope (application_atoms a)
in_scope (tail_call a) scope = in_scope_atoms scope (application_atoms a)
in_scope (return e) scope = in_scope e scope
in_scope (end e) scope = in_scope e scope
in_scope (save saves e) scope = in_scope e scope

-- the closure and the formals of a procedure
abbrev pub first_scope : Option Entry → ℕ → Bool
first_scope None x = false
first_scope (Some e) x = nat_lt 0 x && nat_lt x (2 + e.formals)

-- the variables that an expression binds
abbrev pub member_variables : List (Member ℕ) → List ℕ
member_variables [] = []
member_variables (m ∷ members) = m.at ∷ member_variables members

abbrev pub bound_in : Expression → List ℕ
bound_in (bind x a b) = x ∷ (bound_in a ++ bound_in b)
bound_in (sequence a b) = bound_in a ++ bound_in b
bound_in (branch a b c) = bound_in a ++ (bound_in b ++ bound_in c)
bound_in (fix members e) = member_variables members ++ bound_in e
bound_in (return e) = bound_in e
bound_in (end e) = bound_in e
bound_in (save saves e) = bound_in e
bound_in _ = []

-- the least number of a variable that is bound
abbrev pub first_bound : Option Entry → ℕ
first_bound None = 2
first_bound (Some e) = 2 + e.formals

-- each variable is bound once, behind the formals and below the number of variables
abbrev pub numbered : Code → Bool
numbered c =
    nat_le c.variables max_body_variables
    && (nat_le (first_bound c.entry) c.variables
    && (list_all (λ x. nat_le (first_bound c.entry) x && nat_lt x c.variables) (bound_in c.expression)
    && without_repeats (bound_in c.expression)))

-- ## Positions

-- Where an expression stands: its value is bound, tested or the last of a form, so that it may be a call's;
-- or it may be none; or it ends the body of a procedure, or a top-level form.
pub data Position : Type 0 where
  value : Position
  no_call : Position
  procedure_end : Position
  form_end : Position

abbrev pub is_value : Position → Bool
is_value value = true
is_value no_call = true
is_value _ = false

abbrev pub may_call : Position → Bool
may_call value = true
may_call _ = false

abbrev pub ends_procedure : Position → Bool
ends_procedure procedure_end = true
ends_procedure _ = false

abbrev pub ends_form : Position → Bool
ends_form form_end = true
ends_form _ = false

-- each call is bound, tested, in tail position or the last of a form, and each way through a body ends it
abbrev pub positioned : Expression → Position → Bool
positioned (perform o) at = is_value at
positioned (bind x a b) at = positioned a value && positioned b at
positioned (sequence a b) at = positioned a no_call && positioned b at
positioned (branch a b c) at = positioned a value && (positioned b at && positioned c at)
positioned (fix members e) at = positioned e at
positioned (call a restores) at = may_call at
positioned (tail_call a) at = ends_procedure at
positioned (return e) at = ends_procedure at && positioned e no_call
positioned (end e) at = ends_form at && positioned e value
positioned (save saves e) at = positioned e at

abbrev pub last_position : Option Entry → Position
last_position None = form_end
last_position (Some e) = procedure_end

-- ## Shape

-- the primitives that only read and cannot stop
abbrev pub only_reads : Primitive → Bool
only_reads Eq = true
only_reads Eqv = true
only_reads IsBoolean = true
only_reads IsPair = true
only_reads IsNull = true
only_reads IsSymbol = true
only_reads IsInteger = true
only_reads IsChar = true
only_reads IsString = true
only_reads IsVector = true
only_reads IsProcedure = true
only_reads _ = false

module _ {V : Type 0} where
  abbrev pub operand_shaped : Operand V → Bool
  operand_shaped (operand.Atom a) = true
  operand_shaped (operand.Read site which atoms) = only_reads which && nat_eq (length atoms) (operands_of which)

  abbrev pub operands_shaped : List (Operand V) → Bool
  operands_shaped [] = true
  operands_shaped (o ∷ operands) = operand_shaped o && operands_shaped operands

  abbrev pub closure_shaped : Closure V → Bool
  closure_shaped c = nat_le (length c.fields) max_free_variables

  abbrev pub members_shaped : List (Member V) → Bool
  members_shaped [] = true
  members_shaped (m ∷ members) = closure_shaped m.closure && members_shaped members

  -- each primitive has its count of operands, and operands that only read do
  abbrev pub operation_shaped : Operation V → Bool
  operation_shaped (operation.Operand o) = operand_shaped o
  operation_shaped (operation.Prim site which operands) = nat_eq (length operands) (operands_of which) && operands_shaped operands
  operation_shaped (operation.SetGlobal g o) = operand_shaped o
  operation_shaped (operation.CellSet c o) = operand_shaped o
  operation_shaped (operation.MakeClosure c) = closure_shaped c
  operation_shaped _ = true

  -- a call has at most 200 operands, and one at least where its last is spread
  abbrev pub application_shaped : Application V → Bool
  application_shaped a =
      nat_le (length a.operands) max_operands
      && ((not a.spread || nat_le 1 (length a.operands)) && operands_shaped (a.operator ∷ a.operands))

  abbrev pub group_shaped : List (Member V) → Bool
  group_shaped members = nat_le (length members) max_operands && members_shaped members

-- ## Tests of each part

pub record Tests : Type 0 where
  pub operation : Operation ℕ → Bool
  pub application : Application ℕ → Bool
  pub group : List (Member ℕ) → Bool

-- whether each part of an expression passes
abbrev pub each_part : Tests → Expression → Bool
each_part test (perform o) = test.operation o
each_part test (bind x a b) = each_part test a && each_part test b
each_part test (sequence a b) = each_part test a && each_part test b
each_part test (branch a b c) = each_part test a && (each_part test b && each_part test c)
each_part test (fix members e) = test.group members && each_part test e
each_part test (call a restores) = test.application a
each_part test (tail_call a) = test.application a
each_part test (return e) = each_part test e
each_part test (end e) = each_part test e
each_part test (save saves e) = each_part test e

abbrev pub shaped : Expression → Bool
shaped = each_part (record { operation = operation_shaped; application = application_shaped; group = group_shaped })

-- a field is one of the closure's, which is variable 1
abbrev pub source_field : ℕ → Source ℕ → Bool
source_field fields (source.Field v k) = nat_eq v 1 && nat_lt k fields
source_field fields _ = true

abbrev pub closure_fields : ℕ → Closure ℕ → Bool
closure_fields fields c = list_all (source_field fields) c.fields

abbrev pub operation_field : ℕ → Operation ℕ → Bool
operation_field fields (operation.Field v k) = nat_eq v 1 && nat_lt k fields
operation_field fields (operation.NewCell c) = source_field fields c
operation_field fields (operation.CellGet c) = source_field fields c
operation_field fields (operation.CellSet c o) = source_field fields c
operation_field fields (operation.MakeClosure c) = closure_fields fields c
operation_field fields _ = true

abbrev pub group_fields : ℕ → List (Member ℕ) → Bool
group_fields fields [] = true
group_fields fields (m ∷ members) = closure_fields fields m.closure && group_fields fields members

abbrev pub fields_of : Option Entry → ℕ
fields_of None = 0
fields_of (Some e) = e.fields

abbrev pub fields_there : ℕ → Expression → Bool
fields_there fields = each_part (record { operation = operation_field fields; application = λ a. true; group = group_fields fields })

-- a body of the language Control has no region and no restores
abbrev pub is_bare : Expression → Bool
is_bare (bind x a b) = is_bare a && is_bare b
is_bare (sequence a b) = is_bare a && is_bare b
is_bare (branch a b c) = is_bare a && (is_bare b && is_bare c)
is_bare (fix members e) = is_bare e
is_bare (call a []) = true
is_bare (call a (x ∷ xs)) = false
is_bare (return e) = is_bare e
is_bare (end e) = is_bare e
is_bare (save saves e) = false
is_bare _ = true

-- a procedure has at most 200 formals, a rest variable among them, and 1,000 fields
abbrev pub entry_shaped : Option Entry → Bool
entry_shaped None = true
entry_shaped (Some e) = nat_le e.formals max_operands && ((not e.rest || nat_le 1 e.formals) && nat_le e.fields max_free_variables)

-- ## Valid bodies

abbrev pub in_scope_whole : Code → Bool
in_scope_whole c = in_scope c.expression (first_scope c.entry)

abbrev pub ended : Code → Bool
ended c = is_bare c.expression && positioned c.expression (last_position c.entry)

abbrev pub shaped_whole : Code → Bool
shaped_whole c = entry_shaped c.entry && shaped c.expression

abbrev pub fields_known : Code → Bool
fields_known c = fields_there (fields_of c.entry) c.expression

-- all that the type of a body keeps
abbrev pub code_valid : Code → Bool
code_valid c = in_scope_whole c && (numbered c && (ended c && (shaped_whole c && fields_known c)))

-- ## Valid programs

-- the symbol or literal that an atom names is among those of the program, and a constant is a word
abbrev pub atom_known : {V : Type 0} → (symbols literals : ℕ) → Atom V → Bool
atom_known symbols literals (Constant c) = constant_known symbols c && is_constant c
atom_known symbols literals (Literal n) = nat_lt n literals
atom_known symbols literals (Variable v) = true

-- the global that an operation names is
abbrev pub global_known : {V : Type 0} → (globals : ℕ) → Operation V → Bool
global_known globals (operation.Global g) = nat_lt g globals
global_known globals (operation.SetGlobal g o) = nat_lt g globals
global_known globals _ = true

-- a body that closures enter has as many fields as they have
abbrev pub enters : Option (Option Entry) → ℕ → Bool
enters (Some (Some e)) fields = nat_eq e.fields fields
enters _ fields = false

module _ {V : Type 0} (entries : List (Option Entry)) where
  abbrev pub closure_known : Closure V → Bool
  closure_known c = enters (slice_get entries c.label) (length c.fields)

  abbrev pub members_known : List (Member V) → Bool
  members_known [] = true
  members_known (m ∷ members) = closure_known m.closure && members_known members

  abbrev pub label_known : Operation V → Bool
  label_known (operation.MakeClosure c) = closure_known c
  label_known _ = true

-- how many symbols, literals and globals there are, and how each body is entered
pub record Names : Type 0 where
  pub symbols : ℕ
  pub literals : ℕ
  pub globals : ℕ
  pub entries : List (Option Entry)

module _ {V : Type 0} (names : Names) where
  abbrev pub atoms_known : List (Atom V) → Bool
  atoms_known [] = true
  atoms_known (a ∷ atoms) = atom_known names.symbols names.literals a && atoms_known atoms

  abbrev pub operation_known : Operation V → Bool
  operation_known o = atoms_known (operation_atoms o) && (global_known names.globals o && label_known names.entries o)

  abbrev pub application_known : Application V → Bool
  application_known a = atoms_known (application_atoms a)

  abbrev pub group_known : List (Member V) → Bool
  group_known members = atoms_known (member_atoms members) && members_known names.entries members

abbrev pub entries_of : List Code → List (Option Entry)
entries_of [] = []
entries_of (c ∷ cs) = c.entry ∷ entries_of cs

abbrev pub names_of : tree.Source → Names
names_of p = record {
  symbols = length p.statics.symbols;
  literals = count_literals p.statics.literals;
  globals = length p.statics.globals;
  entries = entries_of p.bodies;
}

abbrev pub code_known : Names → Code → Bool
code_known names c =
    each_part (record { operation = operation_known names; application = application_known names; group = group_known names }) c.expression

-- ## Sites

abbrev pub sites_of : Expression → List (ℕ × ℕ)
sites_of (perform o) = operation_sites o
sites_of (bind x a b) = sites_of a ++ sites_of b
sites_of (sequence a b) = sites_of a ++ sites_of b
sites_of (branch a b c) = sites_of a ++ (sites_of b ++ sites_of c)
sites_of (fix members e) = sites_of e
sites_of (call a restores) = application_sites a
sites_of (tail_call a) = application_sites a
sites_of (return e) = sites_of e
sites_of (end e) = sites_of e
sites_of (save saves e) = sites_of e

abbrev pub sites_of_each : List Code → List (ℕ × ℕ)
sites_of_each [] = []
sites_of_each (c ∷ cs) = sites_of c.expression ++ sites_of_each cs

-- each site stands once, and is listed with its width
abbrev pub sites_once : tree.Source → Bool
sites_once p =
    list_all (λ at. nat_eq (count_by (λ other. nat_eq other.0 at.0) (sites_of_each p.bodies)) 1 && is_width (slice_get p.sites at.0) at.1)
    (sites_of_each p.bodies)

-- the parts that are bound are parts of their site, each once
abbrev pub bound_parts : (sites : List ℕ) → List (List ℕ) → Bool
bound_parts [] [] = true
bound_parts (width ∷ sites) (parts ∷ bound) = list_all (λ k. nat_lt k width) parts && (without_repeats parts && bound_parts sites bound)
bound_parts _ _ = false

abbrev pub bound_known : tree.Source → Bool
bound_known p = bound_parts p.sites p.bound

abbrev pub all_known : tree.Source → Bool
all_known p = list_all (code_known (names_of p)) p.bodies

-- bodies without free variables
abbrev pub without_fields : List (Option Entry) → List ℕ → Bool
without_fields entries [] = true
without_fields entries (label ∷ labels) = enters (slice_get entries label) 0 && without_fields entries labels

abbrev pub library_known : tree.Source → Bool
library_known p = without_fields (entries_of p.bodies) p.library

abbrev pub statics_known : tree.Source → Bool
statics_known p = statics_valid (length p.library) p.statics && statics_in_range p.statics

-- all that the type of a program keeps beside the validity of its bodies
abbrev pub is_valid : tree.Source → Bool
is_valid p = all_known p && (sites_once p && (bound_known p && (parts_bound p && (library_known p && statics_known p))))
