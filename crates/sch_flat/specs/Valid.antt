-- Which flat programs are valid.
use Rattle.std.specs.Prelude.{ℕ, ◌*◌, Bool, true, false, ◌&&◌, ◌||◌, not, nat_eq, nat_lt, nat_le, List, [], ◌∷◌, length, slice_get, Option, Some, None}
use Rattle.std.specs.List.{list_all}
use Rattle.sch_word.specs.values.Literals.{count_literals}
use Rattle.sch_word.specs.runs.Runs.{statics_valid, statics_in_range}
use Rattle.sch_word.specs.trees.NumberSets.{has}
use Rattle.sch_word.specs.trees.Bindings.{numbers, scope_with, pushed}
use Rattle.sch_word.specs.trees.Shape.{names_known, constant_in_range, well_formed, fits, max_operands, max_levels, max_variables, max_free_variables, sites_once}
use Rattle.sch_flat.specs.Tree.{Variable, bound, free, Made, NewCell, Tree, Trees, Body, Source, constant, literal, variable, global, set_global, define, branch, sequence, bind, make_closure, fix_closures, call, operation, new_cells, cell_get, cell_set, no_trees, and_tree, count}
use Rattle.sch_flat.specs.Measures.{over_source, sites_of, variables, body_variables, levels, levels_each}

-- ## Variables

-- A variable that is used is one that its body has bound there, or one of its record's fields.
abbrev pub is_known : List ℕ → (fields : ℕ) → Variable → Bool
is_known scope fields (bound x) = has x scope
is_known scope fields (free k) = nat_lt k fields

abbrev pub is_content : List ℕ → (fields : ℕ) → Option Variable → Bool
is_content scope fields None = true
is_content scope fields (Some v) = is_known scope fields v

-- none of these variables is bound already
abbrev pub all_new : List ℕ → List ℕ → Bool
all_new [] scope = true
all_new (x ∷ xs) scope = not (has x scope) && all_new xs (x ∷ scope)

abbrev pub cell_variables : List NewCell → List ℕ
cell_variables [] = []
cell_variables (c ∷ cs) = c.variable ∷ cell_variables cs

abbrev pub cells_scope : List NewCell → List ℕ → List ℕ
cells_scope cs scope = pushed (cell_variables cs) scope

-- a record has as many fields as its body asks for
abbrev pub has_fields : Option Body → (fields : ℕ) → Bool
has_fields None fields = false
has_fields (Some b) fields = nat_eq fields b.fields

module _ (bodies : List Body) where
  abbrev pub is_made : List ℕ → (fields : ℕ) → Made → Bool
  is_made scope fields m = list_all (is_known scope fields) m.fields && has_fields (slice_get bodies m.label) (length m.fields)

  -- each variable that is used is known, and none is bound where it has been bound already
  abbrev mutual
    pub scoped : Tree → List ℕ → (fields : ℕ) → Bool
    scoped (constant c) scope fields = true
    scoped (literal n) scope fields = true
    scoped (variable v) scope fields = is_known scope fields v
    scoped (global g) scope fields = true
    scoped (set_global g e) scope fields = scoped e scope fields
    scoped (define g e) scope fields = scoped e scope fields
    scoped (branch a b c) scope fields = scoped a scope fields && (scoped b scope fields && scoped c scope fields)
    scoped (sequence es) scope fields = scoped_each es scope fields
    scoped (bind site first es e) scope fields =
        scoped_each es scope fields && (all_new (numbers first (count es)) scope && scoped e (scope_with first (count es) scope) fields)
    scoped (make_closure m) scope fields = is_made scope fields m
    scoped (fix_closures first ms e) scope fields =
        all_new (numbers first (length ms)) scope
        && (list_all (is_made (scope_with first (length ms) scope) fields) ms && scoped e (scope_with first (length ms) scope) fields)
    scoped (call site spread f es) scope fields = scoped f scope fields && scoped_each es scope fields
    scoped (operation site which es) scope fields = scoped_each es scope fields
    scoped (new_cells cs e) scope fields =
        list_all (λ c. is_content scope fields c.content) cs && (all_new (cell_variables cs) scope && scoped e (cells_scope cs scope) fields)
    scoped (cell_get v) scope fields = is_known scope fields v
    scoped (cell_set v e) scope fields = is_known scope fields v && scoped e scope fields

    pub scoped_each : Trees → List ℕ → (fields : ℕ) → Bool
    scoped_each no_trees scope fields = true
    scoped_each (and_tree e es) scope fields = scoped e scope fields && scoped_each es scope fields

  abbrev pub body_scoped : Body → Bool
  body_scoped b = scoped b.code (scope_with b.first b.formals []) b.fields

-- no body has a free variable, and each record has as many fields as its label's body
abbrev pub is_closed : Source → Bool
is_closed p =
    list_all (body_scoped p.bodies) p.bodies
    && (scoped_each p.bodies p.forms [] 0 && list_all (λ label. has_fields (slice_get p.bodies label) 0) p.library)

-- ## Nodes and limits

-- a rest variable is one of the formals; formals, fields and variables are few enough
abbrev pub body_fits : Body → Bool
body_fits b =
    (not b.rest || nat_le 1 b.formals) && (nat_le b.formals max_operands
    && (nat_le b.fields max_free_variables && nat_le (body_variables b) max_variables))

abbrev pub forms_fit : Trees → Bool
forms_fit no_trees = true
forms_fit (and_tree e es) = nat_le (variables e) max_variables && forms_fit es

-- the nodes name what there is, are well formed, and the limits hold
abbrev pub is_formed : Source → Bool
is_formed p =
    over_source true (λ a b. a && b) (names_known (length p.statics.symbols) (count_literals p.statics.literals) (length p.statics.globals)) p
    && (over_source true (λ a b. a && b) well_formed p
    && (over_source true (λ a b. a && b) (fits max_variables) p
    && (list_all body_fits p.bodies && forms_fit p.forms)))

-- A body and a form are nested no deeper than the form with cells that they come from, where a variable that
-- got a cell, and a Rec, have added at most two levels to what they bind.
abbrev pub within_levels : Source → Bool
within_levels p =
    list_all (λ b. nat_le (levels b.code) (3 * max_levels)) p.bodies && nat_le (levels_each p.forms) (3 * max_levels)

-- ## The order of the bodies

-- none of these numbers is less than the one before it, and none is more than a last one
abbrev pub ascending : (from last : ℕ) → List ℕ → Bool
ascending from last [] = nat_le from last
ascending from last (n ∷ ns) = nat_le from n && ascending n last ns

-- each form has a place among the bodies where those of its procedures begin, in the order of the forms
abbrev pub in_order : Source → Bool
in_order p = nat_eq (length p.starts) (count p.forms) && ascending 0 (length p.bodies) p.starts

-- ## Sites and statics

-- each site that is listed stands once, with the number of parts that is listed
abbrev pub sited : Source → Bool
sited p = sites_once p.sites (sites_of p)

abbrev pub statics_known : Source → Bool
statics_known p = statics_valid (length p.library) p.statics

-- constants are words, and so are those of the statics
abbrev pub constants_in_range : Source → Bool
constants_in_range p = over_source true (λ a b. a && b) constant_in_range p && statics_in_range p.statics
