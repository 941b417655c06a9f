-- Which programs are valid.
use Rattle.std.specs.Prelude.{ℕ, zero, suc, Bool, true, ◌&&◌, ◌||◌, not, nat_le, [], length}
use Rattle.sch_word.specs.values.Literals.{count_literals}
use Rattle.sch_word.specs.runs.Runs.{statics_valid, statics_in_range}
use Rattle.sch_word.specs.trees.Shape as shapes
use Rattle.sch_word.specs.trees.Shape.{max_levels, max_variables, names_known, constant_in_range, well_formed, fits, procedures_fit}
use Rattle.sch_lang.specs.Tree.{Expression, Expressions, Lambdas, fix, no_expressions, and_expression, count_lambdas, Source}
use Rattle.sch_lang.specs.Variables.{assigns, assigns_lambdas}
use Rattle.sch_lang.specs.InScope.{each_in_scope, lambdas_in_scope}
use Rattle.sch_lang.specs.Measures.{over_source, levels_each, levels_lambdas, variables, procedures, shape, sites_of}

-- ## Numbers in range

-- the symbol, literal or global that a node names is among those of the program
abbrev pub named_here : (symbols literals globals : ℕ) → Expression → Bool
named_here symbols literals globals e = names_known symbols literals globals (shape e)

-- every number is in range
abbrev pub in_range : Source → Bool
in_range p =
    lambdas_in_scope p.library 0 && (each_in_scope p.forms 0
    && over_source true (λ a b. a && b)
    (named_here (length p.statics.symbols) (count_literals p.statics.literals) (length p.statics.globals)) p)

-- ## Constants

-- the constants of nodes: fixnums are in range, and characters are bytes
abbrev pub trees_in_range : Source → Bool
trees_in_range p = over_source true (λ a b. a && b) (λ e. constant_in_range (shape e)) p

-- and so are those of literals, texts and symbols' names
abbrev pub constants_in_range : Source → Bool
constants_in_range p = trees_in_range p && statics_in_range p.statics

-- ## Shape

-- none of the n nearest variables is assigned
abbrev pub none_assigned : ℕ → Lambdas → Expression → Bool
none_assigned zero ls e = true
none_assigned (suc bound) ls e = not (assigns_lambdas ls bound || assigns e bound) && none_assigned bound ls e

-- a primitive has its count of operands, a sequence has a part, no variable of a Fix is assigned
abbrev pub shaped_here : Expression → Bool
shaped_here (fix ls e) = none_assigned (count_lambdas ls) ls e
shaped_here e = well_formed (shape e)

abbrev pub shaped : Source → Bool
shaped p = over_source true (λ a b. a && b) shaped_here p

-- ## Limits

abbrev pub lambdas_fit : Lambdas → Bool
lambdas_fit ls = procedures_fit max_variables (procedures ls)

-- a node has at most 200 operands, inits or lambdas, and its lambdas are within the limits
abbrev pub fits_here : Expression → Bool
fits_here e = fits max_variables (shape e)

abbrev pub forms_fit : Expressions → Bool
forms_fit no_expressions = true
forms_fit (and_expression e es) = nat_le (variables e []) max_variables && forms_fit es

-- the limits on operands, formals, bindings, variables, free variables and nesting hold
abbrev pub within_limits : Source → Bool
within_limits p =
    (nat_le (levels_lambdas p.library) max_levels && nat_le (levels_each p.forms) max_levels)
    && ((lambdas_fit p.library && forms_fit p.forms) && over_source true (λ a b. a && b) fits_here p)

-- ## Sites

-- each site that is listed stands at exactly one node, and each node's site is listed with its width
abbrev pub sites_once : Source → Bool
sites_once p = shapes.sites_once p.sites (sites_of p)

-- ## Valid programs

abbrev pub statics_known : Source → Bool
statics_known p = statics_valid (count_lambdas p.library) p.statics

abbrev pub is_valid : Source → Bool
is_valid p =
    in_range p && (constants_in_range p && (shaped p && (within_limits p && (sites_once p && statics_known p))))
