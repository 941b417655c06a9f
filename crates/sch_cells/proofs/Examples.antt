-- What the small programs do: what each prints, how it ends, how many entries it takes and how many bytes it
-- is charged. A program does the same in both forms. Each statement is computed.
use Rattle.std.proofs.Common.{◌≡◌, refl, true, false, [], ◌∷◌, ℕ}
use Rattle.std.specs.Prelude.{codes}
use Rattle.std.specs.Fmt.{digits}
use Rattle.sch_word.specs.runs.Runs.{Runs, Run}
use Rattle.sch_word.specs.runs.WorkedRuns.{ends, plain_orders, call_orders}
use Rattle.sch_cells.specs.Examples.{assigned_formal, assigned_formal_boxed, unset_init, unset_init_boxed, recursive_inits, recursive_inits_boxed, even_odd, nested_lambdas, let_of}
use Rattle.sch_cells.specs.UnboxedMeaning as unboxed
use Rattle.sch_cells.specs.BoxedMeaning as boxed
use Rattle.sch_cells.specs.Bodies.{bodies_of}
use Rattle.sch_cells.specs.Measures.{sites_of, tests_of, program_size}
use Rattle.sch_cells.specs.Valid.{is_valid}

abbrev on : Runs → (heap : ℕ) → Run
on run heap = run plain_orders heap 1 [] 9

assigned_formal_runs : on (unboxed.run assigned_formal) 4096 ≡ ends (codes "5") 0 1 32
unfolding digits
assigned_formal_runs = refl

assigned_formal_boxed_runs : on (boxed.run assigned_formal_boxed) 4096 ≡ ends (codes "5") 0 1 32
unfolding digits
assigned_formal_boxed_runs = refl

-- no cell is made where it cannot be charged
assigned_formal_stops : on (unboxed.run assigned_formal) 31 ≡ ends [] 71 1 16
unfolding digits
assigned_formal_stops = refl

assigned_formal_boxed_stops : on (boxed.run assigned_formal_boxed) 31 ≡ ends [] 71 1 16
unfolding digits
assigned_formal_boxed_stops = refl

unset_init_runs : on (unboxed.run unset_init) 4096 ≡ ends [] 73 0 32
unfolding digits
unset_init_runs = refl

unset_init_boxed_runs : on (boxed.run unset_init_boxed) 4096 ≡ ends [] 73 0 32
unfolding digits
unset_init_boxed_runs = refl

-- both cells are charged before the first is made
unset_init_stops : on (unboxed.run unset_init) 31 ≡ ends [] 71 0 16
unfolding digits
unset_init_stops = refl

unset_init_boxed_stops : on (boxed.run unset_init_boxed) 31 ≡ ends [] 71 0 16
unfolding digits
unset_init_boxed_stops = refl

recursive_inits_runs : on (unboxed.run recursive_inits) 4096 ≡ ends (codes "3") 0 0 32
unfolding digits
recursive_inits_runs = refl

recursive_inits_boxed_runs : on (boxed.run recursive_inits_boxed) 4096 ≡ ends (codes "3") 0 0 32
unfolding digits
recursive_inits_boxed_runs = refl

even_odd_runs : on (unboxed.run even_odd) 4096 ≡ ends (codes "1") 0 4 32
unfolding digits
even_odd_runs = refl

even_odd_boxed_runs : on (boxed.run even_odd) 4096 ≡ ends (codes "1") 0 4 32
unfolding digits
even_odd_boxed_runs = refl

nested_lambdas_runs : unboxed.run nested_lambdas call_orders 4096 3 [] 9 ≡ ends (codes "7") 0 3 48
unfolding digits
nested_lambdas_runs = refl

nested_lambdas_boxed_runs : boxed.run nested_lambdas call_orders 4096 3 [] 9 ≡ ends (codes "7") 0 3 48
unfolding digits
nested_lambdas_boxed_runs = refl

-- ## What is valid, and what is counted

assigned_formal_is : is_valid false assigned_formal ≡ true
assigned_formal_is = refl

assigned_formal_boxed_is : is_valid true assigned_formal_boxed ≡ true
assigned_formal_boxed_is = refl

unset_init_is : is_valid false unset_init ≡ true
unset_init_is = refl

unset_init_boxed_is : is_valid true unset_init_boxed ≡ true
unset_init_boxed_is = refl

even_odd_is : is_valid false even_odd ≡ true
even_odd_is = refl

even_odd_boxed_is : is_valid true even_odd ≡ true
even_odd_boxed_is = refl

let_is : is_valid false (let_of 1) ≡ true
let_is = refl

nested_lambdas_is : is_valid false nested_lambdas ≡ true
nested_lambdas_is = refl

-- the form, and the lambda, whose assigned formal counts twice and the value and the operands one each
assigned_formal_bodies : bodies_of assigned_formal ≡ record { name = codes "form"; formals = 0; rest = false; free = 0; variables = 1 } ∷ (record { name = []; formals = 1; rest = false; free = 0; variables = 6 } ∷ [])
assigned_formal_bodies = refl

-- cells count no more than what they stand for
assigned_formal_boxed_bodies : bodies_of assigned_formal_boxed ≡ bodies_of assigned_formal
assigned_formal_boxed_bodies = refl

recursive_inits_bodies : bodies_of recursive_inits ≡ record { name = codes "form"; formals = 0; rest = false; free = 0; variables = 9 } ∷ []
recursive_inits_bodies = refl

recursive_inits_boxed_bodies : bodies_of recursive_inits_boxed ≡ bodies_of recursive_inits
recursive_inits_boxed_bodies = refl

even_odd_sites : sites_of even_odd ≡ (0, 2) ∷ ((1, 2) ∷ ((2, 2) ∷ ((3, 2) ∷ ((4, 2) ∷ ((5, 2) ∷ ((6, 1) ∷ ((7, 2) ∷ [])))))))
even_odd_sites = refl

even_odd_tests : tests_of even_odd ≡ 2
even_odd_tests = refl

-- 25 nodes, a form, two variables of the Fix, and for each lambda one, a formal and a free variable
even_odd_size : program_size even_odd ≡ 34
even_odd_size = refl
