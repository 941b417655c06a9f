-- What is seen of a flat program's run.
use Rattle.std.specs.Prelude.{ℕ, List, []}
use Rattle.sch_word.specs.declared.answer.Answer.{Answer}
use Rattle.sch_word.specs.values.Values.{Value, unspecified}
use Rattle.sch_word.specs.runs.Computation.{Outcome, State, in_turn}
use Rattle.sch_word.specs.runs.Runs.{Runs, seen, starting_store, starting_state}
use Rattle.sch_word.specs.runs.Orders.{order_at}
use Rattle.sch_flat.specs.Tree.{Source}
use Rattle.sch_flat.specs.Meaning.{Environment, each, enter}
use Rattle.sch_word.specs.runs.Procedures.{Procedure, library_procedures}

-- where a top-level form begins
abbrev pub top_level : Environment
top_level = record { variables = []; fields = [] }

-- the outcome of the forms, in their order, each at the whole depth and in no tail context
abbrev pub outcome : Source → List (List ℕ) → (heap depth : ℕ) → List Answer → (entries : ℕ) → Outcome (State Procedure) Value
outcome p table heap depth answers entries =
    in_turn (each (order_at table) (enter p.bodies (order_at table) entries) p.forms top_level depth) unspecified
    (starting_state (starting_store p.statics heap answers entries) (library_procedures p.library))

-- the run under an order table, with limits of heap and depth, against the answers of a kernel and with at
-- most a number of procedure entries
abbrev pub run : Source → Runs
run p table heap depth answers entries = seen answers entries (outcome p table heap depth answers entries)
