-- What the languages of trees have in common: the shape of a node is what is counted of it and what it
-- names, without its variables and its parts. Each language says which shape its nodes have, and what is
-- counted is defined here, once for all of them.
use Rattle.std.specs.Prelude.{ℕ, zero, suc, ◌+◌, Bool, true, false, ◌&&◌, ◌||◌, not, nat_eq, nat_lt, nat_le, List, [], ◌∷◌, slice_get, Option, Some, None}
use Rattle.std.specs.List.{list_all, count_by}
use Rattle.sch_word.specs.declared.constant.Const.{Const}
use Rattle.sch_word.specs.declared.primitive.Primitive.{Primitive}
use Rattle.sch_word.specs.values.Primitives.{operands_of}
use Rattle.sch_word.specs.values.Literals.{constant_known}
use Rattle.sch_word.specs.values.Values.{is_constant}
use Rattle.sch_word.specs.runs.Computation.{numbers_from}

-- A procedure of the text: the name of its body in a listing, how many variables it binds, its rest
-- variable included, whether the last takes a list, how many distinct variables are free in it, and how
-- many variables its body may need in the languages to come.
pub record Procedure : Type 0 where
  pub name : List ℕ
  pub formals : ℕ
  pub rest : Bool
  pub free : ℕ
  pub variables : ℕ

-- a record of a procedure that is made: the label of its body, and how many fields it has
pub record Made : Type 0 where
  pub label : ℕ
  pub fields : ℕ

-- The operator of a call is no operand. In a sequence, `dropped` counts the atoms (constants, literals
-- and variables) before its last part.
pub data Shape : Type 0 where
  constant : Const → Shape
  literal : ℕ → Shape
  variable : Shape
  global : ℕ → Shape
  set_variable : Shape
  set_global : ℕ → Shape
  define : ℕ → Shape
  branch : Shape
  sequence : (parts dropped : ℕ) → Shape
  bind : (site inits : ℕ) → Shape
  fix : (count : ℕ) → List Procedure → Shape
  letrec : (site inits : ℕ) → Shape
  lambda : Procedure → Shape
  call : (site operands : ℕ) → (spread : Bool) → Shape
  operation : (site : ℕ) → Primitive → (operands : ℕ) → Shape
  new_cells : (count : ℕ) → Shape
  cell_get : Shape
  cell_set : Shape
  field : Shape
  make_closure : Made → Shape
  fix_closures : (count : ℕ) → List Made → Shape

-- ## Limits (the project's own)

-- operands of a call or a primitive, formals, variables that one node binds
abbrev pub max_operands : ℕ
max_operands = 200

-- levels of nodes in a form or in the body of a library procedure
abbrev pub max_levels : ℕ
max_levels = 2000

-- the variables of a body, as the core language counts them
abbrev pub max_variables : ℕ
max_variables = 1000

-- free variables of a procedure
abbrev pub max_free_variables : ℕ
max_free_variables = 1000

-- procedures of a library
abbrev pub max_library : ℕ
max_library = 1048576

-- ## Sites

-- the site of a node and how many parts it has, the operator of a call among them
abbrev pub site_of : Shape → List (ℕ × ℕ)
site_of (bind site inits) = (site, inits) ∷ []
site_of (letrec site inits) = (site, inits) ∷ []
site_of (call site operands spread) = (site, suc operands) ∷ []
site_of (operation site which operands) = (site, operands) ∷ []
site_of _ = []

-- the site of a call or a primitive
abbrev pub call_site_of : Shape → List ℕ
call_site_of (call site operands spread) = site ∷ []
call_site_of (operation site which operands) = site ∷ []
call_site_of _ = []

-- ## Tests, dropped atoms and bodies

abbrev pub tests_in : Shape → ℕ
tests_in branch = 1
tests_in _ = 0

abbrev pub dropped_in : Shape → ℕ
dropped_in (sequence parts dropped) = dropped
dropped_in _ = 0

-- the procedures that a node is or has
abbrev pub procedures_in : Shape → List Procedure
procedures_in (lambda p) = p ∷ []
procedures_in (fix count ps) = ps
procedures_in _ = []

-- ## Sizes

abbrev pub procedure_size : Procedure → ℕ
procedure_size p = 1 + p.formals + p.free

abbrev pub procedures_size : List Procedure → ℕ
procedures_size [] = 0
procedures_size (p ∷ ps) = procedure_size p + procedures_size ps

-- a node, the variables that it binds, and for each procedure one, its formals and its free variables
abbrev pub size_of : Shape → ℕ
size_of (bind site inits) = 1 + inits
size_of (fix count ps) = 1 + count + procedures_size ps
size_of (letrec site inits) = 1 + inits
size_of (lambda p) = 1 + procedure_size p
size_of (new_cells count) = 1 + count
size_of (fix_closures count made) = 1 + count
size_of _ = 1

-- ## What is valid

-- the symbol, literal or global that a node names is among those of the program
abbrev pub names_known : (symbols literals globals : ℕ) → Shape → Bool
names_known symbols literals globals (constant c) = constant_known symbols c
names_known symbols literals globals (literal n) = nat_lt n literals
names_known symbols literals globals (global g) = nat_lt g globals
names_known symbols literals globals (set_global g) = nat_lt g globals
names_known symbols literals globals (define g) = nat_lt g globals
names_known symbols literals globals _ = true

-- the constant that a node is, is a word
abbrev pub constant_in_range : Shape → Bool
constant_in_range (constant c) = is_constant c
constant_in_range _ = true

-- a primitive has its count of operands, a sequence has a part, and a call that spreads its last operand
-- has one
abbrev pub well_formed : Shape → Bool
well_formed (sequence zero dropped) = false
well_formed (operation site which operands) = nat_eq operands (operands_of which)
well_formed (call site operands true) = nat_le 1 operands
well_formed _ = true

-- A procedure within the limits, where a body may need up to a number of variables; a rest variable is one of the
-- formals.
abbrev pub procedure_fits : (variables : ℕ) → Procedure → Bool
procedure_fits variables p =
    (not p.rest || nat_le 1 p.formals) && (nat_le p.formals max_operands
    && (nat_le p.variables variables && nat_le p.free max_free_variables))

abbrev pub procedures_fit : (variables : ℕ) → List Procedure → Bool
procedures_fit variables [] = true
procedures_fit variables (p ∷ ps) = procedure_fits variables p && procedures_fit variables ps

-- a node within the limits
abbrev pub fits : (variables : ℕ) → Shape → Bool
fits variables (call site operands spread) = nat_le operands max_operands
fits variables (operation site which operands) = nat_le operands max_operands
fits variables (bind site inits) = nat_le inits max_operands
fits variables (letrec site inits) = nat_le inits max_operands
fits variables (fix count ps) = nat_le count max_operands && procedures_fit variables ps
fits variables (lambda p) = procedure_fits variables p
fits variables (new_cells count) = nat_le count max_operands
fits variables (fix_closures count made) = nat_le count max_operands
fits variables _ = true

-- a site is listed with its number of parts
abbrev pub is_width : Option ℕ → ℕ → Bool
is_width (Some listed) width = nat_eq listed width
is_width None width = false

-- each site that is listed stands at exactly one node, and each node's site is listed with its width
abbrev pub sites_once : (listed : List ℕ) → (sites : List (ℕ × ℕ)) → Bool
sites_once listed sites =
    list_all (λ s. nat_eq (count_by (λ at. nat_eq at.0 s) sites) 1) (numbers_from 0 listed)
    && list_all (λ at. is_width (slice_get listed at.0) at.1) sites
