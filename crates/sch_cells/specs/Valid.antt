-- Which cell programs are valid.
use Rattle.std.specs.Prelude.{ℕ, zero, suc, ◌*◌, Bool, true, false, ◌&&◌, ◌||◌, not, nat_le, List, [], ◌++◌, length}
use Rattle.sch_word.specs.values.Literals.{count_literals}
use Rattle.sch_word.specs.runs.Runs.{statics_valid, statics_in_range}
use Rattle.sch_word.specs.trees.Shape as shapes
use Rattle.sch_word.specs.trees.Shape.{Shape, names_known, constant_in_range, well_formed, fits, procedures_fit, sites_once, max_levels, max_variables}
use Rattle.sch_cells.specs.Tree.{Tree, Trees, Lambdas, Source, fix, no_trees, and_tree, count_lambdas}
use Rattle.sch_word.specs.trees.NumberSets.{without_repeats}
use Rattle.sch_cells.specs.Variables.{assigns, assigns_lambdas, bound_each, bound_lambdas, closed_each, closed_lambdas, below}
use Rattle.sch_cells.specs.Bodies.{variables, procedures}
use Rattle.sch_cells.specs.Measures.{shape, every, sites_of, levels_each, levels_lambdas}

-- ## Variables

abbrev pub bound_of : Source → List ℕ
bound_of p = bound_lambdas p.library ++ bound_each p.forms

-- each variable has one number in the whole program, below the program's, and is bound where it is used
abbrev pub scoped : Source → Bool
scoped p =
    (without_repeats (bound_of p) && below p.variables (bound_of p)) && (closed_lambdas p.library [] && closed_each p.forms [])

-- ## Nodes

-- a program with cells assigns no variable and has no Rec, one without has no node for cells
abbrev pub has_form : (boxed : Bool) → Shape → Bool
has_form boxed shapes.set_variable = not boxed
has_form boxed (shapes.letrec site inits) = not boxed
has_form boxed (shapes.new_cells count) = boxed
has_form boxed shapes.cell_get = boxed
has_form boxed shapes.cell_set = boxed
has_form boxed _ = true

-- none of the m variables from x on is assigned
abbrev pub none_assigned : (x m : ℕ) → Lambdas → Tree → Bool
none_assigned x zero ls e = true
none_assigned x (suc m) ls e = not (assigns_lambdas ls x || assigns e x) && none_assigned (suc x) m ls e

-- no variable of a Fix is assigned
abbrev pub fix_unassigned : Tree → Bool
fix_unassigned (fix first ls e) = none_assigned first (count_lambdas ls) ls e
fix_unassigned _ = true

-- the nodes are those of the form, name what there is, and have the parts that they must have
abbrev pub formed : (boxed : Bool) → Source → Bool
formed boxed p =
    (every (λ e. has_form boxed (shape e)) p
    && every (λ e. names_known (length p.statics.symbols) (count_literals p.statics.literals) (length p.statics.globals) (shape e)) p)
    && (every (λ e. well_formed (shape e)) p && every fix_unassigned p)

-- ## Constants

-- fixnums are in range, characters are bytes, and so are those of texts and of symbols' names
abbrev pub constants_in_range : Source → Bool
constants_in_range p = every (λ e. constant_in_range (shape e)) p && statics_in_range p.statics

-- ## Limits

abbrev pub forms_fit : Trees → Bool
forms_fit no_trees = true
forms_fit (and_tree e es) = nat_le (variables e []) max_variables && forms_fit es

-- a variable that gets a cell, and a Rec, add at most two levels to what they bind
abbrev pub max_levels_of : (boxed : Bool) → ℕ
max_levels_of false = max_levels
max_levels_of true = 3 * max_levels

-- the limits on nesting, operands, formals, variables and free variables hold
abbrev pub within_limits : (boxed : Bool) → Source → Bool
within_limits boxed p =
    (nat_le (levels_lambdas p.library) (max_levels_of boxed) && nat_le (levels_each p.forms) (max_levels_of boxed))
    && ((procedures_fit max_variables (procedures p.library) && forms_fit p.forms) && every (λ e. fits max_variables (shape e)) p)

-- ## Sites and statics

-- each site that is listed stands once, with the number of parts that is listed
abbrev pub sited : Source → Bool
sited p = sites_once p.sites (sites_of p)

abbrev pub statics_known : Source → Bool
statics_known p = statics_valid (count_lambdas p.library) p.statics

-- ## Valid programs

abbrev pub is_valid : (boxed : Bool) → Source → Bool
is_valid boxed p =
    scoped p && (formed boxed p && (constants_in_range p && (within_limits boxed p && (sited p && statics_known p))))
