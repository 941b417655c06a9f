-- What a run keeps, where marks of entries stand nowhere but where bodies are entered.
use Rattle.std.proofs.Common.{◌≡◌, ℕ, zero, suc, List, [], ◌∷◌, ◌++◌, length, map, Bool, true, false, Option, Some, None, refl, sym, ap, subst, ◌∙◌, append-nil, append_assoc}
use Rattle.std.specs.Prelude.{slice_get, cond}
use Rattle.std.specs.List.{list_all}
use Rattle.std.proofs.lemmas.Bool.{and_parts}
use Rattle.sch_word.proofs.facts.Booleans.{not_true}
use Rattle.sch_word.specs.declared.place.Place.{Place}
use Rattle.sch_word.specs.declared.place.Place.TheVariants.{Slot}
use Rattle.sch_word.specs.values.Checked.{Checked, passes, refused, exhausted, unreachable}
use Rattle.sch_word.specs.values.PrimitiveRows.{primitive}
use Rattle.sch_word.specs.values.Values.{Value, fixnum, character, boolean, nil, unspecified, symbol, object, procedure, cell, is_true}
use Rattle.sch_word.specs.runs.Charges.{cell_bytes, charge, charge_each, fit, procedure_bytes}
use Rattle.sch_word.specs.runs.Store.{Store}
use Rattle.sch_word.specs.runs.Computation.{Outcome, State, Action, gives, stops, spent, in_store, with_rest, on_value, checked_call, taken, set_or_stop, read_cell, write_cell, procedures_from, with_cell}
use Rattle.sch_word.proofs.Steady.{Steady, outcome_with, steady_charge, steady_charge_each, steady_fit, steady_primitive, steady_read_global, steady_write_global}
use Rattle.sch_control.specs.declared.body.Entry.{Entry}
use Rattle.sch_word.specs.declared.mark.MarkKind.{MarkKind}
use Rattle.sch_word.specs.declared.mark.MarkKind.TheVariants.{Enter, Spill}
use Rattle.sch_control.specs.declared.operation.Operation.{Operation}
use Rattle.sch_control.specs.declared.operation.Operation.TheVariants as operation
use Rattle.sch_control.specs.Operations.{Ending, field, member_bytes, members_made, new_cell, operand_value, operand_values, operate, source_value, source_values, with_procedures}
use Rattle.sch_word.specs.runs.Procedures.{Procedure}
use Rattle.sch_word.specs.values.Options.{when_some}
use Rattle.sch_control.specs.Meaning.{World, Result, Callee, call_in, entered, marked, on_checked, on_ending, on_outcome, on_return}
use Rattle.sch_control.specs.Run.{enter, enter_body, entry_at}
use Rattle.sch_frames.specs.declared.instruction.Instruction.{Instruction}
use Rattle.sch_frames.specs.declared.instruction.Instruction.TheVariants.{Do, Store as Put, Copy, Pass, Fix, Call, Tail, Return, End, IfFalse, Jump, Label, Mark}
use Rattle.sch_word.specs.values.Places.{link_place}
use Rattle.sch_frames.specs.Meaning.{Cell, Is, Link, Junk, Frame, More, beginning, execute, execute_each, held, if_link, parts, sought, value_in, with_members}
use Rattle.sch_frames.specs.Run.{bodies_of, do_known, entries_of}
use Rattle.sch_frames.specs.Tree.{Code}
use Rattle.sch_frames.specs.Covered.{is_covered_code, plain_instruction}
use Rattle.sch_word.specs.runs.Activations.{is_enter}
use Rattle.sch_word.proofs.EntriesAhead.{entries_of as left_in}
use Rattle.sch_word.proofs.facts.Lists.{each_at}
use Rattle.sch_select.proofs.programs.FreeCodes.{code_parts}

-- ---- no operation takes an entry

abbrev SameEntries : {V : Type 0} → State Procedure → Outcome (State Procedure) V → Type 0
SameEntries s (gives v u) = u.store.entries ≡ s.store.entries
SameEntries s (stops why u) = u.store.entries ≡ s.store.entries
SameEntries s (spent u) = u.store.entries ≡ s.store.entries

as_left : {V : Type 0} (s : State Procedure) (o : Outcome Store V) → o ≡ outcome_with s.store.entries o → SameEntries s (with_rest s.cells s.procedures o)
as_left s (gives v t) e = ap left_in e
as_left s (stops why t) e = ap left_in e
as_left s (spent t) e = ap left_in e

steady_same : {V : Type 0} (f : Action V) → Steady f → (s : State Procedure) → SameEntries s (in_store f s)
steady_same f h s = as_left s (f s.store) (h.blind s.store.entries s.store)

onward : {W : Type 0} (s u : State Procedure) (o : Outcome (State Procedure) W) → u.store.entries ≡ s.store.entries → SameEntries u o → SameEntries s o
onward s u (gives v x) e f = f ∙ e
onward s u (stops why x) e f = f ∙ e
onward s u (spent x) e f = f ∙ e

after_same : {V W : Type 0} (s : State Procedure) (o : Outcome (State Procedure) V) (next : V → State Procedure → Outcome (State Procedure) W) → SameEntries s o → ((v : V) (u : State Procedure) → SameEntries u (next v u)) → SameEntries s (on_value o next)
after_same s (gives v u) next e n = onward s u (next v u) e (n v u)
after_same s (stops why u) next e n = e
after_same s (spent u) next e n = e

abbrev EndingSame : State Procedure → Ending → Type 0
EndingSame s None = Unit {0}
EndingSame s (Some o) = SameEntries s o

some_same : {A : Type 0} (s : State Procedure) (o : Option A) (next : A → Ending) → ((a : A) → EndingSame s (next a)) → EndingSame s (when_some o next)
some_same s None next h = tt
some_same s (Some a) next h = h a

held_same : (s : State Procedure) (o : Option (Option Value)) → SameEntries s (set_or_stop o s)
held_same s None = refl
held_same s (Some None) = refl
held_same s (Some (Some v)) = refl

cell_same : (s : State Procedure) (v : Value) (next : ℕ → State Procedure → Outcome (State Procedure) Value) → ((n : ℕ) → SameEntries s (next n s)) → SameEntries s (with_cell v next s)
cell_same s (cell n) next h = h n
cell_same s (fixnum n) next h = refl
cell_same s (character n) next h = refl
cell_same s (boolean n) next h = refl
cell_same s nil next h = refl
cell_same s unspecified next h = refl
cell_same s (symbol n) next h = refl
cell_same s (object n) next h = refl
cell_same s (procedure n) next h = refl

new_cell_same : (s : State Procedure) (o : Option Value) → SameEntries s (new_cell o s)
new_cell_same s o = after_same s (in_store (charge cell_bytes) s) (λ _ s. gives (cell (length s.cells)) (record s { cells = s.cells ++ o ∷ [] })) (steady_same (charge cell_bytes) (steady_charge cell_bytes) s) (λ v u. refl)

operate_same : (at : Place → Option Value) (o : Operation Place) (s : State Procedure) → EndingSame s (operate at o s)
operate_same at (operation.Operand o) s = some_same s (operand_value at s.store o) _ (λ v. refl)
operate_same at (operation.Prim site which operands) s = some_same s (operand_values at s.store operands) _ (λ vs. steady_same (primitive which vs) (steady_primitive which vs) s)
operate_same at (operation.Global g) s = steady_same _ (steady_read_global g) s
operate_same at (operation.SetGlobal g o) s = some_same s (operand_value at s.store o) _ (λ v. steady_same _ (steady_write_global g v) s)
operate_same at (operation.Field p k) s = some_same s (field (at p) k s.procedures) _ (λ v. refl)
operate_same at (operation.NewCell c) s = some_same s (source_value at s c) _ (λ v. new_cell_same s (Some v))
operate_same at operation.UnsetCell s = new_cell_same s None
operate_same at (operation.CellGet c) s = some_same s (source_value at s c) _ (λ v. cell_same s v read_cell (λ n. held_same s (slice_get s.cells n)))
operate_same at (operation.CellSet c o) s = some_same s (source_value at s c) _ (λ v. some_same s (operand_value at s.store o) _ (λ u. cell_same s v (λ n. write_cell n u) (λ n. refl)))
operate_same at (operation.MakeClosure c) s =
    some_same s (source_values at s c.fields) _ (λ vs. after_same s (in_store (charge (procedure_bytes (length vs))) s) _ (steady_same (charge (procedure_bytes (length vs))) (steady_charge (procedure_bytes (length vs))) s) (λ v u. refl))

-- ---- what stays through a run

-- It stays through changes of the state that take no entry, through marks of no entry, and where a procedure is
-- entered.
pub record Stays (entries : List (Option Entry)) (P : World → Type 0) : Type 0 where
  pub state : (w : World) (s : State Procedure) → s.store.entries ≡ w.state.store.entries → P w → P (record { state = s; marks = w.marks })
  pub mark : (w : World) (m : MarkKind) → is_enter m ≡ false → P w → P (marked m w)
  pub entry : (w : World) (left label : ℕ) (e : Entry) → entry_at entries label ≡ Some e → w.state.store.entries ≡ suc left → P w
      → P (marked (Enter label) (record { state = record w.state { store = record w.state.store { entries = left } }; marks = w.marks }))

-- how procedures are entered, where at most n entries are nested
abbrev pub callee_of : List Code → (n : ℕ) → Callee
callee_of codes n = enter (entry_at (entries_of codes)) (bodies_of codes) n

module _ (codes : List Code) (covered : list_all is_covered_code codes ≡ true) (P : World → Type 0) (stays : Stays (entries_of codes) P) where
  abbrev pub Kept : Result → Type 0
  Kept None = Unit {0}
  Kept (Some (gives v w)) = P w
  Kept (Some (stops why w)) = P w
  Kept (Some (spent w)) = P w

  abbrev CalleeKeeps : Callee → Type 0
  CalleeKeeps callee = (self : Value) (p : Procedure) (vs : List Value) (depth : ℕ) (w : World) → P w → Kept (callee self p vs depth w)

  value_kept : {A : Type 0} (o : Option A) (next : A → Result) → ((a : A) → Kept (next a)) → Kept (when_some o next)
  value_kept None next h = tt
  value_kept (Some a) next h = h a

  outcome_kept : {V : Type 0} (w : World) (o : Outcome (State Procedure) V) (next : V → World → Result) → P w → SameEntries w.state o → ((v : V) (u : World) → P u → Kept (next v u)) → Kept (on_outcome w.marks o next)
  outcome_kept w (gives v s) next p e h = h v _ (stays.state w s e p)
  outcome_kept w (stops why s) next p e h = stays.state w s e p
  outcome_kept w (spent s) next p e h = stays.state w s e p

  ending_kept : (w : World) (o : Ending) (next : Value → World → Result) → P w → EndingSame w.state o → ((v : Value) (u : World) → P u → Kept (next v u)) → Kept (on_ending w.marks o next)
  ending_kept w None next p e h = tt
  ending_kept w (Some o) next p e h = outcome_kept w o next p e h

  link_kept : (c : Cell) (r : Result) → Kept r → Kept (if_link c r)
  link_kept Link r h = h
  link_kept (Is v) r h = tt
  link_kept Junk r h = tt

  either_kept : (b : Bool) (r q : Result) → Kept r → Kept q → Kept (cond b r q)
  either_kept true r q h g = h
  either_kept false r q h g = g

  return_kept : (r : Result) (next : Value → World → Result) → Kept r → ((v : Value) (u : World) → P u → Kept (next v u)) → Kept (on_return r next)
  return_kept None next h k = tt
  return_kept (Some (gives v w)) next h k = k v w h
  return_kept (Some (stops why w)) next h k = h
  return_kept (Some (spent w)) next h k = h

  module _ (callee : Callee) (keeps : CalleeKeeps callee) (depth : ℕ) where
    call_kept : (spread tail : Bool) (vs : List Value) (w : World) → P w → Kept (call_in callee spread tail depth vs w)
    call_kept spread tail vs w p = by (checked_call w.state.procedures w.state.store spread tail depth vs) vs
      where
        by : (c : Checked _) (vs : List Value) → Kept (on_checked c w (entered callee vs w))
        by (passes e) [] = tt
        by (passes e) (v ∷ vs) = keeps v e.procedure e.arguments e.depth w p
        by (refused why) vs = p
        by exhausted vs = p
        by unreachable vs = p

    -- the marks of what a group stores
    spilled_kept : (spills : List ℕ) (w : World) → P w → P (record { state = w.state; marks = w.marks ++ map Spill spills })
    spilled_kept [] w p = subst (λ marks. P (record { state = w.state; marks = marks })) (sym (append-nil w.marks)) p
    spilled_kept (x ∷ spills) w p =
        subst (λ marks. P (record { state = w.state; marks = marks })) (append_assoc w.marks (Spill x ∷ []) (map Spill spills))
        (spilled_kept spills (marked (Spill x) w) (stays.mark w (Spill x) refl p))

    made_kept : (f : Frame) (spills : List ℕ) (o : Option (List Procedure)) (w : World) (next : More) → P w → ((f : Frame) (u : World) → P u → Kept (next None f u))
        → Kept (when_some (with_procedures w.state o) (λ s. next None f (record { state = s; marks = w.marks ++ map Spill spills })))
    made_kept f spills None w next p h = tt
    made_kept f spills (Some made) w next p h =
        h f _ (spilled_kept spills (record { state = record w.state { procedures = w.state.procedures ++ made }; marks = w.marks }) (stays.state w (record w.state { procedures = w.state.procedures ++ made }) refl p))

    instruction_kept : (i : Instruction) → plain_instruction i ≡ true → (next : More) → ((look : Option ℕ) (f : Frame) (w : World) → P w → Kept (next look f w)) → (f : Frame) (w : World) → P w → Kept (execute callee depth i next f w)
    instruction_kept (Do o) e next h f w p = ending_kept w (operate (held f) o w.state) _ p (operate_same (held f) o w.state) (λ v u q. h None _ u q)
    instruction_kept (Put q) e next h f w p = h None _ w p
    instruction_kept (Copy to from) e next h f w p = h None _ w p
    instruction_kept (Pass k) e next h f w p = h None _ w p
    instruction_kept (Fix members spills) e next h f w p =
        outcome_kept w (in_store (charge_each (member_bytes members)) w.state) _ p (steady_same (charge_each (member_bytes members)) (steady_charge_each (member_bytes members)) w.state)
        (λ v u q. let inner = with_members f members (procedures_from (length u.state.procedures) (length members)) in
        made_kept inner spills (members_made (held inner) u.state members) u next q (λ f u q. h None f u q))
    instruction_kept (Call spread count) e next h f w p =
        value_kept (parts f.places f.outgoing count) _ (λ vs. return_kept (call_in callee spread false depth vs w) _ (call_kept spread false vs w p) (λ v u q. h None _ u q))
    instruction_kept (Tail spread count) e next h f w p =
        link_kept (f.places link_place) _ (value_kept (parts f.places (λ j. f.places (Slot j)) count) _ (λ vs. call_kept spread true vs w p))
    instruction_kept Return e next h f w p = link_kept (f.places link_place) _ (value_kept (value_in f.accumulator) _ (λ v. p))
    instruction_kept End e next h f w p = p
    instruction_kept (IfFalse l) e next h f w p = value_kept (value_in f.accumulator) _ (λ v. either_kept (is_true v) (next None f w) (next (Some l) f w) (h None f w p) (h (Some l) f w p))
    instruction_kept (Jump l) e next h f w p = h (Some l) f w p
    instruction_kept (Label l) e next h f w p = h None f w p
    instruction_kept (Mark m) e next h f w p = h None f _ (stays.mark w m (not_true (is_enter m) e) p)

    body_kept : (is : List Instruction) → list_all plain_instruction is ≡ true → (look : Option ℕ) (f : Frame) (w : World) → P w → Kept (execute_each callee depth is look f w)
    body_kept [] e look f w p = tt
    body_kept (i ∷ is) e None f w p =
        let q = and_parts (plain_instruction i) (list_all plain_instruction is) e in
        instruction_kept i q.0 (execute_each callee depth is) (λ look f w p. body_kept is q.1 look f w p) f w p
    body_kept (i ∷ is) e (Some l) f w p = body_kept is (and_parts (plain_instruction i) (list_all plain_instruction is) e).1 (sought l i) f w p

  -- the body of a label
  code_kept : (callee : Callee) → CalleeKeeps callee → (label depth : ℕ) (self : Value) (vs : List Value) (w : World) → P w → Kept (bodies_of codes label callee depth self vs w)
  code_kept callee keeps label depth self vs w p = by (slice_get codes label) refl
    where
      by : (o : Option Code) → slice_get codes label ≡ o → Kept (do_known o callee depth self vs w)
      by None e = tt
      by (Some c) e = body_kept callee keeps depth c.instructions (code_parts c (each_at is_covered_code codes label c covered e)).plain None (beginning c.entry self vs) w p

  module _ (n : ℕ) (keeps : CalleeKeeps (callee_of codes n)) where
    into_kept : (label depth : ℕ) (self : Value) (e : Entry) → entry_at (entries_of codes) label ≡ Some e → (arguments : List Value) (u : World) → P u → (k : ℕ) → u.state.store.entries ≡ k
        → Kept (on_outcome u.marks (with_rest u.state.cells u.state.procedures (taken k u.state.store)) (λ _ w. bodies_of codes label (callee_of codes n) depth self arguments (marked (Enter label) w)))
    into_kept label depth self e i arguments u r zero z = r
    into_kept label depth self e i arguments u r (suc left) z = code_kept (callee_of codes n) keeps label depth self arguments _ (stays.entry u left label e i z r)

    entering_kept : (o : Option Entry) (self : Value) (p : Procedure) (vs : List Value) (depth : ℕ) (w : World) → entry_at (entries_of codes) p.label ≡ o → P w → Kept (enter_body (bodies_of codes) (callee_of codes n) o self p vs depth w)
    entering_kept None self p vs depth w i q = tt
    entering_kept (Some e) self p vs depth w i q =
        outcome_kept w (in_store (fit e.formals e.rest vs) w.state) _ q (steady_same (fit e.formals e.rest vs) (steady_fit e.formals e.rest vs) w.state) (λ arguments u r. into_kept p.label depth self e i arguments u r u.state.store.entries refl)

  pub enter_kept : (n : ℕ) → CalleeKeeps (callee_of codes n)
  enter_kept zero self p vs depth w q = q
  enter_kept (suc n) self p vs depth w q = entering_kept n (enter_kept n) (entry_at (entries_of codes) p.label) self p vs depth w refl q

  -- the body of a form
  pub form_kept : (n label depth : ℕ) (w : World) → P w → Kept (bodies_of codes label (callee_of codes n) depth unspecified [] w)
  form_kept n label depth w p = code_kept (callee_of codes n) (enter_kept n) label depth unspecified [] w p
