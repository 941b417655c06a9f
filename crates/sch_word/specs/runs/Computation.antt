-- Computations: what every language's meaning is made of. From a state a computation gives a value,
-- stops by name, or has spent its procedure entries, each with the state that it leaves.
use Rattle.std.specs.Prelude.{ℕ, zero, suc, Bool, true, false, List, [], ◌∷◌, ◌++◌, length, Option, Some, None, slice_get, slice_set}
use Rattle.sch_word.specs.declared.stop.Stop.{Stop}
use Rattle.sch_word.specs.declared.stop.Stop.TheVariants.{NotProcedure, DepthLimit, Unset}
use Rattle.sch_word.specs.values.Values.{Value, unspecified, procedure, cell}
use Rattle.sch_word.specs.values.Options.{rest_of}
use Rattle.sch_word.specs.runs.Store.{Store}
use Rattle.sch_word.specs.values.Checked.{Checked, passes, refused, exhausted, unreachable, on_passed}
use Rattle.sch_word.specs.runs.Handed.{handed}

-- what a computation over the states S ends with
pub data Outcome (S V : Type 0) : Type 0 where
  gives : V → S → Outcome S V
  stops : Stop → S → Outcome S V
  spent : S → Outcome S V

-- a computation over the store alone
abbrev pub Action : Type 0 → Type 0
Action V = Store → Outcome Store V

-- A state has the cells of the variables, each with a value or unset; the store; and the procedures,
-- each known by its place, which are of any type, so that each language keeps its own.
pub record State (P : Type 0) : Type 0 where
  pub cells : List (Option Value)
  pub store : Store
  pub procedures : List P

abbrev pub Computation : Type 0 → Type 0 → Type 0
Computation P V = State P → Outcome (State P) V

-- goes on with the value that an outcome gives
abbrev pub on_value : {S V W : Type 0} → Outcome S V → (V → S → Outcome S W) → Outcome S W
on_value (gives v s) next = next v s
on_value (stops why s) next = stops why s
on_value (spent s) next = spent s

-- one computation after another, which takes its value and begins from the state that it left
abbrev pub after : {S V W : Type 0} → (S → Outcome S V) → (V → S → Outcome S W) → S → Outcome S W
after first next s = on_value (first s) next

-- goes on where a check holds, and stops by name elsewhere
abbrev pub require : {S V : Type 0} → Bool → Stop → (S → Outcome S V) → S → Outcome S V
require true why next s = next s
require false why next s = stops why s

-- What no run of a valid program of the core language comes to, nor one of a program that a pass makes
-- of it: a variable that is not bound, a literal, a symbol or a procedure of a number that there is none
-- of, a primitive at another count of operands, a list that is spread. A definition says something of
-- these too, so it is this outcome. A machine owes nothing here: that it follows a program is proved
-- where none of them can come up.
abbrev pub unreached : {S V : Type 0} → S → Outcome S V
unreached = stops Unset

-- goes on with what is there; a program for which it is not is no valid one
abbrev pub when_known : {A S V : Type 0} → Option A → (A → S → Outcome S V) → S → Outcome S V
when_known None next = unreached
when_known (Some a) next = next a

-- goes on with the number of the cell that a value is
abbrev pub with_cell : {S V : Type 0} → Value → (ℕ → S → Outcome S V) → S → Outcome S V
with_cell (cell n) next = next n
with_cell _ next = unreached

-- goes on with what a check lets pass
abbrev pub checked : {S V W : Type 0} → Checked V → (V → S → Outcome S W) → S → Outcome S W
checked (passes v) next = next v
checked (refused why) next = stops why
checked exhausted next = spent
checked unreachable next = unreached

-- ## Actions on the store as computations

-- an outcome over the store as one over states of any kind, by the state that each store belongs to
abbrev pub outcome_in : {S V : Type 0} → (Store → S) → Outcome Store V → Outcome S V
outcome_in state (gives v t) = gives v (state t)
outcome_in state (stops why t) = stops why (state t)
outcome_in state (spent t) = spent (state t)

-- cells and procedures stay
abbrev pub with_rest : {P V : Type 0} → List (Option Value) → List P → Outcome Store V → Outcome (State P) V
with_rest cells procedures = outcome_in (λ t. record { cells = cells; store = t; procedures = procedures })

abbrev pub in_store : {P V : Type 0} → Action V → Computation P V
in_store action s = with_rest s.cells s.procedures (action s.store)

-- ## Lists of computations

-- the computation at a place of a list, if there is one
abbrev pub at_place : {S : Type 0} → Option (S → Outcome S Value) → S → Outcome S Value
at_place None s = gives unspecified s
at_place (Some c) s = c s

-- runs the computations at these places, one whole after another, and writes each value at its place
abbrev pub in_order : {S : Type 0} → List ℕ → List (S → Outcome S Value) → List Value → S → Outcome S (List Value)
in_order [] cs vs s = gives vs s
in_order (place ∷ order) cs vs s = on_value (at_place (slice_get cs place) s) (λ v. in_order order cs (slice_set vs place v))

abbrev pub blanks : {A : Type 0} → List A → List Value
blanks [] = []
blanks (x ∷ xs) = unspecified ∷ blanks xs

-- the values of a list of computations, run in an order of their places
abbrev pub all_values : {S : Type 0} → List ℕ → List (S → Outcome S Value) → S → Outcome S (List Value)
all_values order cs = in_order order cs (blanks cs)

-- each of the computations in turn, for the value of the last
abbrev pub in_turn : {S : Type 0} → List (S → Outcome S Value) → Value → S → Outcome S Value
in_turn [] v s = gives v s
in_turn (c ∷ cs) v s = on_value (c s) (in_turn cs)

-- ## Variables

-- a variable's value, or stop 73 where it is unset
abbrev pub set_or_stop : {S : Type 0} → Option (Option Value) → S → Outcome S Value
set_or_stop None = unreached
set_or_stop (Some None) = stops Unset
set_or_stop (Some (Some v)) = gives v

abbrev pub read_global : ℕ → Action Value
read_global g t = set_or_stop (slice_get t.globals g) t

abbrev pub write_global : ℕ → Value → Action Value
write_global g v t = gives unspecified (record t { globals = slice_set t.globals g (Some v) })

-- a literal's value
abbrev pub known_value : Option Value → Action Value
known_value None = unreached
known_value (Some v) = gives v

abbrev pub read_literal : ℕ → Action Value
read_literal n t = known_value (slice_get t.constants.literals n) t

abbrev pub read_cell : {P : Type 0} → ℕ → Computation P Value
read_cell c s = set_or_stop (slice_get s.cells c) s

abbrev pub write_cell : {P : Type 0} → ℕ → Value → Computation P Value
write_cell c v s = gives unspecified (record s { cells = slice_set s.cells c (Some v) })

-- these values into these cells, in order
abbrev pub write_cells : {P : Type 0} → List ℕ → List Value → Computation P Value
write_cells (c ∷ cs) (v ∷ vs) = after (write_cell c v) (λ _. write_cells cs vs)
write_cells _ _ = gives unspecified

-- numbers from n on, one for each element of a list
abbrev pub numbers_from : {A : Type 0} → ℕ → List A → List ℕ
numbers_from n [] = []
numbers_from n (x ∷ xs) = n ∷ numbers_from (suc n) xs

-- new cells with these contents, for their numbers
abbrev pub new_cells : {P : Type 0} → List (Option Value) → Computation P (List ℕ)
new_cells contents s = gives (numbers_from (length s.cells) contents) (record s { cells = s.cells ++ contents })

-- each of these values, as what a cell holds
abbrev pub some_each : List Value → List (Option Value)
some_each [] = []
some_each (v ∷ vs) = Some v ∷ some_each vs

-- n cells that are unset
abbrev pub unset_each : ℕ → List (Option Value)
unset_each zero = []
unset_each (suc n) = None ∷ unset_each n

-- ## Procedures

-- a new procedure, for its number
abbrev pub new_procedure : {P : Type 0} → P → Computation P Value
new_procedure p s = gives (procedure (length s.procedures)) (record s { procedures = s.procedures ++ p ∷ [] })

-- the numbers of some procedures, from n on
abbrev pub procedures_from : ℕ → ℕ → List Value
procedures_from n zero = []
procedures_from n (suc count) = procedure n ∷ procedures_from (suc n) count

-- a group of new procedures, which are made from their own numbers
abbrev pub new_group : {P : Type 0} → ℕ → (List Value → List P) → Computation P (List Value)
new_group count make s =
    let vs = procedures_from (length s.procedures) count in
    gives vs (record s { procedures = s.procedures ++ make vs })

-- a group of new procedures, each with a cell that holds its number; they are made from the cells
abbrev pub new_fix : {P : Type 0} → ℕ → (List ℕ → List P) → Computation P (List ℕ)
new_fix count make s =
    let vs = procedures_from (length s.procedures) count in
    let cs = numbers_from (length s.cells) vs in
    gives cs (record s { cells = s.cells ++ some_each vs; procedures = s.procedures ++ make cs })

-- ## Calls

-- how a language enters a procedure: with the operands' values and the depth that is left
abbrev pub Enter : Type 0 → Type 0
Enter P = P → List Value → ℕ → Computation P Value

-- all values but the operator's
abbrev pub operands : List Value → List Value
operands values = rest_of values

-- the procedure of a number
abbrev pub known_procedure : {P : Type 0} → Option P → Checked P
known_procedure None = unreachable
known_procedure (Some p) = passes p

-- the procedure that the operator's value is, or stop 67
abbrev pub callee : {P : Type 0} → List P → List Value → Checked P
callee procedures (procedure n ∷ vs) = known_procedure (slice_get procedures n)
callee procedures _ = refused NotProcedure

-- the depth that a call leaves for what it enters, or stop 72; a tail call uses none
abbrev pub depth_left : (tail : Bool) → ℕ → Checked ℕ
depth_left true depth = passes depth
depth_left false zero = refused DepthLimit
depth_left false (suc depth) = passes depth

-- whether a procedure entry is left
abbrev pub entry_left : {V : Type 0} → (entries : ℕ) → V → Checked V
entry_left zero v = exhausted
entry_left (suc n) v = passes v

-- what a call enters
pub record Entry (P : Type 0) : Type 0 where
  pub procedure : P
  pub arguments : List Value
  pub depth : ℕ

-- The checks of a call whose parts have values, in their order: there are arguments, the operator is
-- a procedure, depth is left, an entry is left. They look at the procedures and the store alone. The
-- others are made in entering, where the procedure is known.
abbrev pub checked_call : {P : Type 0} → List P → Store → (spread tail : Bool) → ℕ → List Value → Checked (Entry P)
checked_call procedures t spread tail depth vs =
    on_passed (handed (operands vs) spread t.objects)
    (λ arguments. on_passed (callee procedures vs)
    (λ p. on_passed (depth_left tail depth)
    (λ left. entry_left t.entries (record { procedure = p; arguments = arguments; depth = left }))))

-- a call, from the values of its operator and its operands
abbrev pub call_with : {P : Type 0} → Enter P → (spread tail : Bool) → ℕ → List Value → Computation P Value
call_with enter spread tail depth vs s =
    checked (checked_call s.procedures s.store spread tail depth vs) (λ e. enter e.procedure e.arguments e.depth) s

-- ## Entries

abbrev pub taken : ℕ → Action Value
taken zero t = spent t
taken (suc n) t = gives unspecified (record t { entries = n })

-- takes a procedure entry
abbrev pub take_entry : Action Value
take_entry t = taken t.entries t
