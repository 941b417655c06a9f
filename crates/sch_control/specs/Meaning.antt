-- What a body does. One evaluator serves all readings of the tree; they differ in what a call keeps and in
-- which marks are left.
use Rattle.std.specs.Prelude.{ℕ, zero, suc, Bool, true, false, ◌||◌, cond, nat_eq, List, [], ◌∷◌, ◌++◌, length, Option, Some, None, slice_get}
use Rattle.sch_word.specs.values.Values.{Value, unspecified, is_true}
use Rattle.sch_word.specs.trees.NumberSets.{has, unless}
use Rattle.sch_word.specs.values.Options.{when_some}
use Rattle.sch_word.specs.values.Checked.{Checked, passes, refused, exhausted, unreachable}
use Rattle.sch_word.specs.runs.Computation.{unreached, Outcome, gives, stops, spent, State, in_store, procedures_from, Entry, checked_call}
use Rattle.sch_word.specs.runs.Charges.{charge_each}
use Rattle.sch_word.specs.declared.mark.MarkKind.{MarkKind}
use Rattle.sch_word.specs.declared.mark.MarkKind.TheVariants.{Save, Restore, Spill, Call, Return, Tail}
use Rattle.sch_control.specs.declared.operation.Member.{Member}
use Rattle.sch_control.specs.Tree.{Expression, perform, bind, sequence, branch, fix, call, tail_call, return, end, save}
use Rattle.sch_control.specs.Operations.{Ending, part_values, operate, member_bytes, members_made, with_procedures}
use Rattle.sch_word.specs.runs.Procedures.{Procedure}

-- the state, and the marks that have been passed; primitives act on the state alone
pub record World : Type 0 where
  pub state : State Procedure
  pub marks : List MarkKind

-- What a body ends with. There is none where a value is read that is not there, or something is met that no
-- valid program has: the body is wrong there.
abbrev pub Result : Type 0
Result = Option (Outcome World Value)

-- the value of each variable, if it has one
abbrev pub Environment : Type 0
Environment = ℕ → Option Value

-- what follows a value: the environment, and what is saved of it
abbrev pub Then : Type 0
Then = Value → Environment → Environment → World → Result

-- how a procedure is entered: its own value, itself, the arguments, and the depth that is left
abbrev pub Callee : Type 0
Callee = Value → Procedure → List Value → ℕ → World → Result

-- How a tree is read: which variables a call keeps where they are; which are stored as they are bound, under
-- a mark; whose saves and restores have marks; and the marks of the moves before a call, by its site.
pub record Reading : Type 0 where
  pub keeps : ℕ → Bool
  pub spills : ℕ → Bool
  pub is_marked : ℕ → Bool
  pub moves : ℕ → List MarkKind

-- a call keeps every variable, and there are no marks but of calls and returns
abbrev pub plain : Reading
plain = record { keeps = λ x. true; spills = λ x. false; is_marked = λ x. false; moves = λ site. [] }

-- ## Marks

abbrev pub marked : MarkKind → World → World
marked m w = record w { marks = w.marks ++ m ∷ [] }

abbrev pub marked_if : Bool → MarkKind → World → World
marked_if true m w = marked m w
marked_if false m w = w

abbrev pub marked_each : List MarkKind → World → World
marked_each [] w = w
marked_each (m ∷ ms) w = marked_each ms (marked m w)

-- ## Results

-- goes on with what an outcome gives, the marks being these
abbrev pub on_outcome : {V : Type 0} → List MarkKind → Outcome (State Procedure) V → (V → World → Result) → Result
on_outcome marks (gives v s) next = next v (record { state = s; marks = marks })
on_outcome marks (stops why s) next = Some (stops why (record { state = s; marks = marks }))
on_outcome marks (spent s) next = Some (spent (record { state = s; marks = marks }))

abbrev pub on_ending : List MarkKind → Ending → (Value → World → Result) → Result
on_ending marks None next = None
on_ending marks (Some o) next = on_outcome marks o next

-- goes on with the value that a callee gives
abbrev pub on_return : Result → (Value → World → Result) → Result
on_return None next = None
on_return (Some (gives v w)) next = next v w
on_return (Some (stops why w)) next = Some (stops why w)
on_return (Some (spent w)) next = Some (spent w)

abbrev pub on_checked : {V : Type 0} → Checked V → World → (V → Result) → Result
on_checked (passes v) w next = next v
on_checked (refused why) w next = Some (stops why w)
on_checked exhausted w next = Some (spent w)
on_checked unreachable w next = Some (unreached w)

-- ## Environments

abbrev pub put : Environment → ℕ → Value → Environment
put environment x v y = cond (nat_eq y x) (Some v) (environment y)

abbrev pub put_if : Bool → Environment → ℕ → Value → Environment
put_if true environment x v = put environment x v
put_if false environment x v = environment

-- each variable of a group has its value
abbrev pub put_each : Environment → List (Member ℕ) → List Value → Environment
put_each environment (m ∷ members) (v ∷ vs) = put_each (put environment m.at v) members vs
put_each environment _ _ = environment

-- the same for those of them that are inside a region
abbrev pub put_inside : (inside : ℕ → Bool) → Environment → List (Member ℕ) → List Value → Environment
put_inside inside saved (m ∷ members) (v ∷ vs) = put_inside inside (put_if (inside m.at) saved m.at v) members vs
put_inside inside saved _ _ = saved

-- What a call leaves: what it keeps, what is restored from where it is saved, and nothing else.
abbrev pub after_call : (keeps : ℕ → Bool) → (restores : List ℕ) → Environment → Environment → Environment
after_call keeps restores environment saved x = cond (keeps x) (environment x) (cond (has x restores) (saved x) None)

-- ## Regions

abbrev pub among : ℕ → List (Member ℕ) → Bool
among x [] = false
among x (m ∷ members) = nat_eq x m.at || among x members

-- whether an expression binds a variable
abbrev pub binds : ℕ → Expression → Bool
binds x (bind y a b) = nat_eq x y || (binds x a || binds x b)
binds x (sequence a b) = binds x a || binds x b
binds x (branch a b c) = binds x a || (binds x b || binds x c)
binds x (fix members e) = among x members || binds x e
binds x (return e) = binds x e
binds x (end e) = binds x e
binds x (save saves e) = binds x e
binds x _ = false

-- what is saved at the head of a region: what is not bound inside
abbrev pub heads : Expression → List ℕ → List ℕ
heads e [] = []
heads e (x ∷ xs) = unless (binds x e) x (heads e xs)

-- the variables of the regions round an expression, with one region more
abbrev pub with_region : List ℕ → (ℕ → Bool) → ℕ → Bool
with_region saves inside x = has x saves || inside x

abbrev pub save_each : List ℕ → Environment → Environment → Environment
save_each xs environment saved x = cond (has x xs) (environment x) (saved x)

-- ## Calls

abbrev pub entered : Callee → List Value → World → Entry Procedure → Result
entered callee [] w e = None
entered callee (operator ∷ vs) w e = callee operator e.procedure e.arguments e.depth w

-- a call, from the values of its operator and its operands
abbrev pub call_in : Callee → (spread tail : Bool) → ℕ → List Value → World → Result
call_in callee spread tail depth vs w =
    on_checked (checked_call w.state.procedures w.state.store spread tail depth vs) w (entered callee vs w)

-- ## The evaluator

module _ (reading : Reading) where
  abbrev pub mark_each : (ℕ → MarkKind) → List ℕ → World → World
  mark_each kind [] w = w
  mark_each kind (x ∷ xs) w = mark_each kind xs (marked_if (reading.is_marked x) (kind x) w)

  -- a variable is bound
  abbrev pub mark_bound : (inside : ℕ → Bool) → ℕ → World → World
  mark_bound inside x w = marked_if (cond (inside x) (reading.is_marked x) false) (Save x) (marked_if (reading.spills x) (Spill x) w)

  abbrev pub mark_members : (inside : ℕ → Bool) → List (Member ℕ) → World → World
  mark_members inside [] w = w
  mark_members inside (m ∷ members) w = mark_members inside members (mark_bound inside m.at w)

  module _ (callee : Callee) (depth : ℕ) where
    -- `inside` has the variables of the regions round the expression
    abbrev pub evaluate : Expression → (inside : ℕ → Bool) → Environment → (saved : Environment) → World → Then → Result
    evaluate (perform o) inside environment saved w next =
        on_ending w.marks (operate environment o w.state) (λ v w. next v environment saved w)
    evaluate (bind x a b) inside environment saved w next =
        evaluate a inside environment saved w
        (λ v environment saved w. evaluate b inside (put environment x v) (put_if (inside x) saved x v) (mark_bound inside x w) next)
    evaluate (sequence a b) inside environment saved w next =
        evaluate a inside environment saved w (λ v environment saved w. evaluate b inside environment saved w next)
    evaluate (branch a b c) inside environment saved w next =
        evaluate a inside environment saved w
        (λ v environment saved w. cond (is_true v)
        (evaluate b inside environment saved w next) (evaluate c inside environment saved w next))
    evaluate (fix members e) inside environment saved w next =
        on_outcome w.marks (in_store (charge_each (member_bytes members)) w.state)
        (λ _ w. let vs = procedures_from (length w.state.procedures) (length members) in
        let inner = put_each environment members vs in
        when_some (with_procedures w.state (members_made inner w.state members))
        (λ s. evaluate e inside inner (put_inside inside saved members vs)
        (mark_members inside members (record { state = s; marks = w.marks })) next))
    evaluate (call a restores) inside environment saved w next =
        when_some (part_values environment w.state.store a)
        (λ vs. on_return (call_in callee a.spread false depth vs (marked (Call a.site) (marked_each (reading.moves a.site) w)))
        (λ v w. next v (after_call reading.keeps restores environment saved) saved (mark_each Restore restores w)))
    evaluate (tail_call a) inside environment saved w next =
        when_some (environment 0)
        (λ link. when_some (part_values environment w.state.store a)
        (λ vs. call_in callee a.spread true depth vs (marked (Tail a.site) (marked_each (reading.moves a.site) w))))
    evaluate (return e) inside environment saved w next =
        evaluate e inside environment saved w
        (λ v environment saved w. when_some (environment 0) (λ link. Some (gives v (marked Return w))))
    evaluate (end e) inside environment saved w next =
        evaluate e inside environment saved w (λ v environment saved w. Some (gives unspecified w))
    evaluate (save saves e) inside environment saved w next =
        evaluate e (with_region saves inside) environment (save_each (heads e saves) environment saved)
        (mark_each Save (heads e saves) w) next

-- ## Bodies

-- a body that neither returns nor calls in tail position nor ends a form is wrong
abbrev pub falls_off : Then
falls_off v environment saved w = None

abbrev pub no_region : ℕ → Bool
no_region x = false

abbrev pub nothing : Environment
nothing x = None

-- where a procedure is entered: it knows where to return, itself and its arguments
abbrev pub entry_environment : Value → List Value → Environment
entry_environment self arguments zero = Some unspecified
entry_environment self arguments (suc zero) = Some self
entry_environment self arguments (suc (suc k)) = slice_get arguments k

-- the body of a procedure, from its arguments, and of a top-level form
abbrev pub do_body : Reading → Callee → ℕ → Expression → Environment → World → Result
do_body reading callee depth e environment w = evaluate reading callee depth e no_region environment nothing w falls_off
