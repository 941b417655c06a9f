-- Worked rows: what programs do, which are valid, and which order tables fit.
use Rattle.std.proofs.Common.{◌≡◌, refl, ℕ, Bool, true, false, List, [], ◌∷◌, Option, Some, None, pos, negsuc}
use Rattle.std.specs.Prelude.{codes, ◌&&◌}
use Rattle.std.specs.List.{list_all}
use Rattle.std.specs.Fmt.{signed_decimal}
use Rattle.sch_word.specs.declared.constant.Const.TheVariants.{Fixnum, Boolean, Nil}
use Rattle.sch_word.specs.declared.primitive.Primitive.TheVariants.{Subtract, Multiply, Less, Equal, Put, IsNull}
use Rattle.sch_word.specs.values.Literals.{no_literals}
use Rattle.sch_word.specs.values.Values.{Value, fixnum, boolean, procedure}
use Rattle.sch_word.specs.runs.Computation.{gives}
use Rattle.sch_word.specs.runs.Runs.{Run, End, ended, going, starting_store, starting_state}
use Rattle.sch_word.specs.declared.mark.MarkKind.{MarkKind}
use Rattle.sch_word.specs.declared.mark.MarkKind.TheVariants.{Save, Restore, Call, Return}
use Rattle.sch_control.specs.declared.operation.Atom.TheVariants.{Constant, Variable}
use Rattle.sch_control.specs.declared.operation.Operand.{Operand}
use Rattle.sch_control.specs.declared.operation.Operand.TheVariants as operand
use Rattle.sch_control.specs.declared.operation.Source.TheVariants as source
use Rattle.sch_control.specs.declared.operation.Operation.TheVariants as operation
use Rattle.sch_control.specs.declared.operation.Application.{Application}
use Rattle.sch_control.specs.Tree.{Expression, perform, bind, sequence, branch, fix, call, tail_call, return, end, save, Code, Source}
use Rattle.sch_control.specs.Meaning.{World, Result, Reading, plain, do_body, entry_environment}
use Rattle.sch_control.specs.Run.{run}
use Rattle.sch_control.specs.Valid.{code_valid, is_valid, ended as each_way_ends, in_scope_whole, numbered, all_known}
use Rattle.sch_control.specs.Fits.{table_fits}

-- ## Words for the rows

abbrev pub number : {V : Type 0} → ℕ → Operand V
number n = operand.Atom (Constant (Fixnum (pos n)))

abbrev pub truth : Bool → Operand ℕ
truth b = operand.Atom (Constant (Boolean b))

abbrev pub held_in : {V : Type 0} → V → Operand V
held_in v = operand.Atom (Variable v)

abbrev pub value_of : ℕ → Expression
value_of x = perform (operation.Operand (held_in x))

-- the value of a global
abbrev pub global : Expression
global = perform (operation.Global 0)

abbrev pub shown : (site : ℕ) → Operand ℕ → Expression
shown site o = perform (operation.Prim site Put (o ∷ []))

abbrev pub applied : (site : ℕ) → Operand ℕ → List (Operand ℕ) → Application ℕ
applied site operator operands = record { site = site; spread = false; operator = operator; operands = operands }

abbrev pub form : ℕ → Expression → Code
form variables e = record { name = codes "form"; entry = None; variables = variables; expression = e }

abbrev pub lambda : (formals fields variables : ℕ) → Expression → Code
lambda formals fields variables e = record { name = codes "lambda"; entry = Some (record { formals = formals; rest = false; fields = fields }); variables = variables; expression = e }

abbrev pub program : (globals : List (Option ℕ)) → List Code → (sites : List ℕ) → (bound : List (List ℕ)) → Source
program globals bodies sites bound = record {
  statics = record { symbols = []; literals = no_literals; globals = globals };
  library = [];
  bodies = bodies;
  sites = sites;
  bound = bound;
}

-- the run of a program with 4,096 bytes of heap, no kernel answers, and limits of depth and entries
abbrev pub runs : Source → (depth entries : ℕ) → Option Run
runs p depth entries = run p 4096 depth [] entries

-- the value and the marks of a result that gives one
abbrev pub value_and_marks : Result → Option (Value × List MarkKind)
value_and_marks (Some (gives v w)) = Some (v, w.marks)
value_and_marks _ = None

abbrev pub seen : List ℕ → (entries charged : ℕ) → End → Option Run
seen output entries charged how = Some (record { output = output; entries = entries; charged = charged; answers = 0; end = how })

-- ## (define x 7) (let ((y (* x 6))) (if (< y 40) (display 0) (display (- y 50))))

abbrev pub straight_program : Source
straight_program = program (None ∷ [])
    (form 2 (end (perform (operation.SetGlobal 0 (number 7))))
    ∷ form 5 (bind 2 (perform (operation.Global 0)) (bind 3 (perform (operation.Prim 0 Multiply (held_in 2 ∷ number 6 ∷ [])))
    (branch (perform (operation.Prim 1 Less (held_in 3 ∷ number 40 ∷ []))) (end (shown 2 (number 0)))
    (bind 4 (perform (operation.Prim 3 Subtract (held_in 3 ∷ number 50 ∷ []))) (end (shown 4 (held_in 4)))))))
    ∷ [])
    (2 ∷ 2 ∷ 1 ∷ 2 ∷ 1 ∷ []) ((0 ∷ []) ∷ [] ∷ [] ∷ [] ∷ (0 ∷ []) ∷ [])

straight_runs : runs straight_program 1 0 ≡ seen (signed_decimal (negsuc 7)) 0 0 (ended 0)
straight_runs = refl

straight_valid : (is_valid straight_program && list_all code_valid straight_program.bodies) ≡ true
straight_valid = refl

-- ## (let ((n 1)) (let ((f (lambda (a) (- a n)))) (set! n 6) (display (f 5)))), where n has a cell

abbrev pub taking : Source
taking = program []
    (form 5 (bind 2 (perform (operation.NewCell (source.Atom (Constant (Fixnum (pos 1)))))) (bind 3 (perform (operation.MakeClosure (record { label = 1; fields = source.Atom (Variable 2) ∷ [] })))
    (sequence (perform (operation.CellSet (source.Atom (Variable 2)) (number 6)))
    (bind 4 (call (applied 0 (held_in 3) (number 5 ∷ [])) []) (end (shown 1 (held_in 4)))))))
    ∷ lambda 1 1 4 (bind 3 (perform (operation.CellGet (source.Field 1 0))) (return (perform (operation.Prim 2 Subtract (held_in 2 ∷ held_in 3 ∷ [])))))
    ∷ [])
    (2 ∷ 1 ∷ 2 ∷ []) ([] ∷ (0 ∷ []) ∷ (1 ∷ []) ∷ [])

-- a cell and a closure of one field have 16 bytes each
taking_runs : runs taking 1 1 ≡ seen (signed_decimal (negsuc 0)) 1 32 (ended 0)
taking_runs = refl

-- without an entry it goes on, without depth it stops with 72
taking_goes_on : runs taking 1 0 ≡ seen [] 0 32 going
taking_goes_on = refl

taking_stops : runs taking 0 1 ≡ seen [] 0 32 (ended 72)
taking_stops = refl

taking_valid : (is_valid taking && list_all code_valid taking.bodies) ≡ true
taking_valid = refl

-- ## A group whose procedures know one another (even? and odd?), and a loop of tail calls, which needs no depth

abbrev pub looping : Source
looping = program []
    (form 5 (fix (record { at = 2; closure = record { label = 1; fields = source.Atom (Variable 3) ∷ [] } }
    ∷ record { at = 3; closure = record { label = 2; fields = source.Atom (Variable 2) ∷ [] } } ∷ [])
    (bind 4 (call (applied 0 (held_in 2) (number 2 ∷ [])) []) (end (shown 1 (held_in 4)))))
    ∷ lambda 1 1 5 (branch (perform (operation.Prim 2 Equal (held_in 2 ∷ number 0 ∷ []))) (return (perform (operation.Operand (truth true))))
    (bind 3 (perform (operation.Prim 3 Subtract (held_in 2 ∷ number 1 ∷ []))) (bind 4 (perform (operation.Field 1 0)) (tail_call (applied 4 (held_in 4) (held_in 3 ∷ []))))))
    ∷ lambda 1 1 5 (branch (perform (operation.Prim 5 Equal (held_in 2 ∷ number 0 ∷ []))) (return (perform (operation.Operand (truth false))))
    (bind 3 (perform (operation.Prim 6 Subtract (held_in 2 ∷ number 1 ∷ []))) (bind 4 (perform (operation.Field 1 0)) (tail_call (applied 7 (held_in 4) (held_in 3 ∷ []))))))
    ∷ [])
    (2 ∷ 1 ∷ 2 ∷ 2 ∷ 2 ∷ 2 ∷ 2 ∷ 2 ∷ []) ([] ∷ (0 ∷ []) ∷ [] ∷ [] ∷ (1 ∷ 0 ∷ []) ∷ [] ∷ [] ∷ (1 ∷ 0 ∷ []) ∷ [])

looping_runs : runs looping 1 3 ≡ seen (codes "#t") 3 32 (ended 0)
looping_runs = refl

looping_valid : (is_valid looping && list_all code_valid looping.bodies) ≡ true
looping_valid = refl

-- the operand is bound before the operator, so a table that has them in the other does not fit
looping_fits : table_fits looping ((0 ∷ 1 ∷ []) ∷ (0 ∷ []) ∷ (1 ∷ 0 ∷ []) ∷ (0 ∷ 1 ∷ []) ∷ (1 ∷ 0 ∷ []) ∷ (0 ∷ 1 ∷ []) ∷ (1 ∷ 0 ∷ []) ∷ (1 ∷ 0 ∷ []) ∷ []) ≡ true
looping_fits = refl

looping_fits_not : table_fits looping ((0 ∷ 1 ∷ []) ∷ (0 ∷ []) ∷ (1 ∷ 0 ∷ []) ∷ (0 ∷ 1 ∷ []) ∷ (0 ∷ 1 ∷ []) ∷ (0 ∷ 1 ∷ []) ∷ (1 ∷ 0 ∷ []) ∷ (1 ∷ 0 ∷ []) ∷ []) ≡ false
looping_fits_not = refl

-- ## A call of what is no procedure

abbrev pub not_called : Source
not_called = program [] (form 2 (end (call (applied 0 (number 1) []) [])) ∷ []) (1 ∷ []) ([] ∷ [])

not_called_stops : runs not_called 1 1 ≡ seen [] 0 0 (ended 67)
not_called_stops = refl

-- ## What a call forgets has no value

-- a body that uses its formal after a call of it, in a region that saves what is needed after the call
abbrev pub around : (restores : List ℕ) → Expression
around restores =
    save (0 ∷ 2 ∷ []) (bind 3 (call (applied 0 (held_in 2) []) restores) (return (perform (operation.Prim 1 IsNull (held_in 2 ∷ [])))))

-- a call keeps no variable where it is
abbrev restored : Reading
restored = record { keeps = λ x. false; spills = λ x. false; is_marked = λ x. true; moves = λ site. [] }

abbrev pub at_start : World
at_start = record {
  state = starting_state (starting_store (record { symbols = []; literals = no_literals; globals = [] }) 4096 [] 1) (record { label = 0; fields = [] } ∷ []);
  marks = [];
}

-- done with a procedure that gives 1 whenever it is called
abbrev done_by : Reading → (restores : List ℕ) → Result
done_by reading restores = do_body reading (λ self p vs depth w. Some (gives (fixnum (pos 1)) w)) 1 (around restores) (entry_environment (procedure 0) (procedure 0 ∷ [])) at_start

kept_by_plain : done_by plain [] ≡ Some (gives (boolean false) (record at_start { marks = Call 0 ∷ Return ∷ [] }))
kept_by_plain = refl

kept_by_restores : done_by restored (0 ∷ 2 ∷ []) ≡ Some (gives (boolean false) (record at_start { marks = Save 0 ∷ Save 2 ∷ Call 0 ∷ Restore 0 ∷ Restore 2 ∷ Return ∷ [] }))
kept_by_restores = refl

forgotten : done_by restored (0 ∷ []) ≡ None
forgotten = refl

-- ## What is not valid

abbrev of_procedure : Expression → Code
of_procedure e = lambda 1 0 4 e

-- a variable that is not bound there, the return address as a value
unbound : in_scope_whole (of_procedure (return (perform (operation.Operand (held_in 3))))) ≡ false
unbound = refl

link_read : in_scope_whole (of_procedure (return (perform (operation.Operand (held_in 0))))) ≡ false
link_read = refl

-- a variable that is bound twice
bound_twice : numbered (of_procedure (bind 3 (perform (operation.Global 0)) (bind 3 (perform (operation.Global 0)) (return (perform (operation.Global 0)))))) ≡ false
bound_twice = refl

-- a call that is returned, a body that does not end, the end of a form in a procedure
call_returned : each_way_ends (of_procedure (return (call (applied 0 (held_in 2) []) []))) ≡ false
call_returned = refl

no_end : each_way_ends (of_procedure (perform (operation.Global 0))) ≡ false
no_end = refl

form_in_procedure : each_way_ends (of_procedure (end (perform (operation.Global 0)))) ≡ false
form_in_procedure = refl

-- a nested test in which a call is tested
tested : each_way_ends (of_procedure (branch (branch (call (applied 0 (held_in 2) []) []) (perform (operation.Global 0)) (perform (operation.Operand (number 1))))
    (return (perform (operation.Global 0))) (tail_call (applied 1 (held_in 2) [])))) ≡ true
tested = refl

-- a closure with more fields than its body has free variables
too_many_fields : all_known (program [] (form 3 (end (perform (operation.MakeClosure (record { label = 1; fields = source.Atom (Constant Nil) ∷ [] }))))
    ∷ lambda 0 0 2 (return (perform (operation.Operand (number 1)))) ∷ []) [] []) ≡ false
too_many_fields = refl
