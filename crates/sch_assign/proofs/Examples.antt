-- Small programs and what is made of them.
use Rattle.std.proofs.Common.{◌≡◌, true, false, [], ◌∷◌, refl}
use Rattle.sch_cells.specs.Tree.{variable, set_variable}
use Rattle.sch_cells.specs.Examples.{function, program, assigned_formal, assigned_formal_boxed, unset_init, unset_init_boxed, recursive_inits, recursive_inits_boxed, even_odd, nested_lambdas}
use Rattle.sch_cells.specs.Measures.{weight}
use Rattle.sch_assign.specs.Celled.{celled_in, celled_of}
use Rattle.sch_assign.specs.Converted.{converted_source}

-- a formal that is assigned gets a cell with its value
assigned : converted_source (celled_in assigned_formal) 1 assigned_formal ≡ assigned_formal_boxed
assigned = refl

-- the variables of a Rec get cells before its inits have values, and the values go into them together
unset : converted_source (celled_in unset_init) 2 unset_init ≡ unset_init_boxed
unset = refl

recursive : converted_source (celled_in recursive_inits) 2 recursive_inits ≡ recursive_inits_boxed
recursive = refl

-- where nothing is assigned and there is no Rec, the forms stay as they are
without_cells : (converted_source (celled_in even_odd) 4 even_odd).forms ≡ even_odd.forms
without_cells = refl

nested : (converted_source (celled_in nested_lambdas) 2 nested_lambdas).forms ≡ nested_lambdas.forms
nested = refl

-- which get cells: those that are assigned and those of a Rec
counts_assigned : celled_of assigned_formal ≡ 1
counts_assigned = refl

counts_rec : celled_of unset_init ≡ 2
counts_rec = refl

counts_none : celled_of nested_lambdas ≡ 0
counts_none = refl

-- one of two formals
second : celled_in (program 2 [] (function 0 2 (set_variable 1 (variable 0)) ∷ [])) 1 ≡ true
second = refl

first : celled_in (program 2 [] (function 0 2 (set_variable 1 (variable 0)) ∷ [])) 0 ≡ false
first = refl

-- two empty cells (6), two inits that are bound (2), a constant (2) and the content of a cell (2), two values of a
-- sequence (2), two assignments of variables (6 each), a primitive over a cell (5), and the end of the form
weight_row : weight unset_init_boxed ≡ 32
weight_row = refl
