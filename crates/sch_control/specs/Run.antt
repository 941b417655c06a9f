-- What is seen of a program's run.
use Rattle.std.specs.Prelude.{ℕ, zero, suc, List, [], ◌∷◌, Option, Some, None, slice_get}
use Rattle.std.specs.Option.{option_flatten}
use Rattle.sch_word.specs.declared.answer.Answer.{Answer}
use Rattle.sch_word.specs.values.Values.{Value, unspecified}
use Rattle.sch_word.specs.runs.Computation.{gives, spent, in_store, take_entry}
use Rattle.sch_word.specs.runs.Charges.{fit}
use Rattle.sch_word.specs.runs.Runs.{Run, Statics, seen_in, starting_store, starting_state}
use Rattle.sch_word.specs.declared.mark.MarkKind.TheVariants.{Enter}
use Rattle.sch_control.specs.declared.body.Entry.{Entry}
use Rattle.sch_control.specs.Tree.{Code, Source}
use Rattle.sch_word.specs.runs.Procedures.{library_procedures}
use Rattle.sch_control.specs.Valid.{entries_of}
use Rattle.sch_control.specs.Meaning.{World, Result, Environment, Callee, plain, marked, on_outcome, on_return, do_body, entry_environment, nothing}

-- ## Entering

-- How a body is done once it is entered: by the callees, the depth that is left, its own value and the
-- arguments. A top-level form has neither of the last.
abbrev pub Bodies : Type 0
Bodies = (label : ℕ) → Callee → (depth : ℕ) → (self : Value) → (arguments : List Value) → World → Result

-- The arguments fit the formals, or are stop 68 or 71; then an entry is taken, and the body begins.
abbrev pub enter_body : Bodies → Callee → Option Entry → Callee
enter_body bodies callee None self p vs depth w = None
enter_body bodies callee (Some e) self p vs depth w =
    on_outcome w.marks (in_store (fit e.formals e.rest vs) w.state)
    (λ arguments w. on_outcome w.marks (in_store take_entry w.state)
    (λ _ w. bodies p.label callee depth self arguments (marked (Enter p.label) w)))

-- entering a procedure, where at most n entries are nested
abbrev pub enter : (entry : ℕ → Option Entry) → Bodies → (n : ℕ) → Callee
enter entry bodies zero self p vs depth w = Some (spent w)
enter entry bodies (suc n) self p vs depth w = enter_body bodies (enter entry bodies n) (entry p.label) self p vs depth w

-- ## Programs

-- the top-level forms, in their order, each at the whole depth; a body of a procedure is passed over
abbrev pub do_forms : (entries : List (Option Entry)) → (label : ℕ) → Bodies → Callee → (depth : ℕ) → World → Result
do_forms [] label bodies callee depth w = Some (gives unspecified w)
do_forms (Some e ∷ entries) label bodies callee depth w = do_forms entries (suc label) bodies callee depth w
do_forms (None ∷ entries) label bodies callee depth w =
    on_return (bodies label callee depth unspecified [] (marked (Enter label) w))
    (λ v w. do_forms entries (suc label) bodies callee depth w)

-- how the body of a label is entered, if there is one that is
abbrev pub entry_at : List (Option Entry) → ℕ → Option Entry
entry_at entries label = option_flatten (slice_get entries label)

abbrev pub starting_world : Statics → (library : List ℕ) → (heap : ℕ) → List Answer → (entries : ℕ) → World
starting_world statics library heap answers entries = record {
  state = starting_state (starting_store statics heap answers entries) (library_procedures library);
  marks = [];
}

-- the environment in which a body begins
abbrev pub beginning : Option Entry → Value → List Value → Environment
beginning None self arguments = nothing
beginning (Some e) self arguments = entry_environment self arguments

-- a body, read plainly
abbrev pub do_code : Code → Callee → (depth : ℕ) → (self : Value) → (arguments : List Value) → World → Result
do_code c callee depth self arguments w = do_body plain callee depth c.expression (beginning c.entry self arguments) w

abbrev pub do_known : Option Code → Callee → (depth : ℕ) → (self : Value) → (arguments : List Value) → World → Result
do_known None callee depth self arguments w = None
do_known (Some c) callee depth self arguments w = do_code c callee depth self arguments w

abbrev pub bodies_of : List Code → Bodies
bodies_of codes label = do_known (slice_get codes label)

-- a whole program, by how its bodies are entered and what they do
abbrev pub outcome_of : List (Option Entry) → Bodies → (depth entries : ℕ) → World → Result
outcome_of entered bodies depth entries w = do_forms entered 0 bodies (enter (entry_at entered) bodies entries) depth w

-- what is seen of a result, if it is not wrong
abbrev pub seen_of : List Answer → (entries : ℕ) → Result → Option Run
seen_of answers entries None = None
seen_of answers entries (Some o) = Some (seen_in (λ w. w.state.store) answers entries o)

-- the run, with limits of heap and depth, against the answers of a kernel and with at most a number of procedure
-- entries; none where the program is wrong
abbrev pub run : Source → (heap depth : ℕ) → List Answer → (entries : ℕ) → Option Run
run p heap depth answers entries =
    seen_of answers entries
    (outcome_of (entries_of p.bodies) (bodies_of p.bodies) depth entries (starting_world p.statics p.library heap answers entries))
