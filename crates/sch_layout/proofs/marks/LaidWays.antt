-- A way through a body that is laid out is a path of its tree.
use Rattle.std.proofs.Common.{◌≡◌, ℕ, zero, suc, ◌+◌, ◌<◌, List, [], ◌∷◌, ◌++◌, length, Option, Some, None, Bool, true, false, cond, refl, sym, ap, ◌∙◌, subst, map, arith, append_assoc, append-nil}
use Rattle.std.specs.Prelude.{nat_lt, filter, ◌-◌}
use Rattle.std.proofs.lemmas.Bool.{ne_eqb, eq-eqb}
use Rattle.sch_word.proofs.facts.Booleans.{and_left, and_right, false_true}
use Rattle.sch_word.specs.declared.place.Place.{Place}
use Rattle.sch_word.specs.declared.place.Place.TheVariants.{Reg, Slot}
use Rattle.sch_word.specs.values.Values.{Value, is_true}
use Rattle.sch_word.specs.runs.Computation.{gives, State}
use Rattle.sch_word.specs.declared.mark.MarkKind.{MarkKind}
use Rattle.sch_word.specs.declared.mark.MarkKind.TheVariants as mark
use Rattle.sch_control.specs.declared.operation.Atom.TheVariants.{Constant, Literal, Variable}
use Rattle.sch_control.specs.declared.body.Entry.{Entry}
use Rattle.sch_control.specs.declared.operation.Operand.{Operand}
use Rattle.sch_control.specs.declared.operation.Operand.TheVariants as operand
use Rattle.sch_control.specs.declared.operation.Operation.{Operation}
use Rattle.sch_control.specs.declared.operation.Operation.TheVariants as operation
use Rattle.sch_control.specs.declared.operation.Member.{Member}
use Rattle.sch_control.specs.AtomsAndSites.{operation_atoms, application_atoms, member_atoms}
use Rattle.sch_control.specs.Meaning.{heads, no_region, with_region}
use Rattle.sch_control.specs.Operations.{operate}
use Rattle.sch_word.specs.runs.Procedures.{Procedure}
use Rattle.sch_control.specs.Tree.{Expression, perform, bind, sequence, branch, fix, call, tail_call, return, end, save}
use Rattle.sch_control.specs.Valid.{last_position, member_variables, Position, value, no_call, procedure_end, form_end, is_value, ends_procedure, ends_form, positioned}
use Rattle.sch_frames.specs.declared.instruction.Instruction.{Instruction}
use Rattle.sch_frames.specs.declared.instruction.Instruction.TheVariants.{Do, Store, Copy, Pass, Call, Tail, Return, Jump, Label, Mark}
use Rattle.sch_frames.specs.Meaning.{Frame, Is, beginning, held, sought}
use Rattle.sch_word.specs.values.Places.{same_place, is_slot}
use Rattle.sch_word.proofs.facts.Lists.{some_same}
use Rattle.sch_frames.specs.Ways.{way}
use Rattle.sch_layout.specs.BodyLayout.{Plan, arrivals, entering, operation_at, under, spill, move_mark, writing, is_direct, move_into, move_all, carried, stored, loaded, leave, labels, lay}
use Rattle.sch_control.specs.flow.Places.{variable_arrival}
use Rattle.sch_layout.specs.Laws.{WaysArePaths}
use Rattle.sch_layout.specs.Moves.{Move}
use Rattle.sch_control.specs.flow.Live.{named, AfterValue}
use Rattle.sch_control.specs.flow.Paths.{Event, Binds, References, Saves, Calls, Tails, Returns, Ends, binding, grouping, IsPath}
use Rattle.sch_control.proofs.Results.{perhaps}
use Rattle.sch_control.proofs.Environments.{value_given}
use Rattle.std.specs.Option.{option_to_list}
use Rattle.sch_layout.specs.PathMarks.{left_by, move_marks, restore_marks, marks_of, path_marks, arrival_marks, entry_marks}
use Rattle.sch_layout.proofs.does.LabelsPassed.{Below, below_up, sought_writing}

-- ## What a value is known to be

laid_value : (place : ℕ → Place) (at : Place → Option Value) (o : Operation ℕ) (s s' : State Procedure) (v : Value) → operate at (operation_at place o) s ≡ Some (gives v s')
    → (P : Bool → Type 0) → P (is_true v) → AfterValue o P
laid_value place at (operation.Operand (operand.Atom (Constant c))) s s' v e P p = subst (λ u. P (is_true u)) (sym (ap value_given e)) p
laid_value place at (operation.Operand (operand.Atom (Literal n))) s s' v e P p = perhaps P (is_true v) p
laid_value place at (operation.Operand (operand.Atom (Variable y))) s s' v e P p = perhaps P (is_true v) p
laid_value place at (operation.Operand (operand.Read site which atoms)) s s' v e P p = perhaps P (is_true v) p
laid_value place at (operation.Prim site which operands) s s' v e P p = perhaps P (is_true v) p
laid_value place at (operation.Global g) s s' v e P p = perhaps P (is_true v) p
laid_value place at (operation.SetGlobal g o) s s' v e P p = perhaps P (is_true v) p
laid_value place at (operation.Field y k) s s' v e P p = perhaps P (is_true v) p
laid_value place at (operation.NewCell c) s s' v e P p = perhaps P (is_true v) p
laid_value place at operation.UnsetCell s s' v e P p = perhaps P (is_true v) p
laid_value place at (operation.CellGet c) s s' v e P p = perhaps P (is_true v) p
laid_value place at (operation.CellSet c o) s s' v e P p = perhaps P (is_true v) p
laid_value place at (operation.MakeClosure c) s s' v e P p = perhaps P (is_true v) p

module _ (plan : Plan) where
  -- ## Marks of events

  -- the marks of events, and then others
  abbrev pub MarksThen : List Event → (marks rest : List MarkKind) → Type 0
  MarksThen es marks rest = marks ≡ path_marks plan es ++ rest

  marks_append : (xs ys : List Event) (rest : List MarkKind) → path_marks plan (xs ++ ys) ++ rest ≡ path_marks plan xs ++ (path_marks plan ys ++ rest)
  marks_append [] ys rest = refl
  marks_append (e ∷ xs) ys rest =
      append_assoc (marks_of plan e) (path_marks plan (xs ++ ys)) rest
      ∙ (ap (λ l. marks_of plan e ++ l) (marks_append xs ys rest) ∙ sym (append_assoc (marks_of plan e) (path_marks plan xs) (path_marks plan ys ++ rest)))

  then_marks : (xs ys : List Event) (marks between rest : List MarkKind) → MarksThen xs marks between → MarksThen ys between rest → MarksThen (xs ++ ys) marks rest
  then_marks xs ys marks between rest f g = f ∙ (ap (λ l. path_marks plan xs ++ l) g ∙ sym (marks_append xs ys rest))

  references_marks : (ys : List ℕ) (marks : List MarkKind) → MarksThen (map References ys) marks marks
  references_marks [] marks = refl
  references_marks (y ∷ ys) marks = references_marks ys marks

  -- ## Labels that are sought behind an expression

  past_label : (m l : ℕ) (rest : List Instruction) (f : Frame) (s : State Procedure) (marks : List MarkKind) → l < m → way (Label m ∷ rest) (Some l) f s marks ≡ way rest (Some l) f s marks
  past_label m l rest f s marks lt = ap (λ t. way rest (cond t None (Some l)) f s marks) (ne_eqb m l (λ e. omega (arith, lt, e)))

  past_leave : (test : Option ℕ) (rest : List Instruction) (l : ℕ) (f : Frame) (s : State Procedure) (marks : List MarkKind) → way (leave test rest) (Some l) f s marks ≡ way rest (Some l) f s marks
  past_leave None rest l f s marks = refl
  past_leave (Some m) rest l f s marks = refl

  past_under : (m : Option MarkKind) (i : Instruction) (l : ℕ) → sought l i ≡ Some l → (rest : List Instruction) (f : Frame) (s : State Procedure) (marks : List MarkKind)
      → way (under m i rest) (Some l) f s marks ≡ way rest (Some l) f s marks
  past_under None i l e rest f s marks = ap (λ t. way rest t f s marks) e
  past_under (Some m) i l e rest f s marks = ap (λ t. way rest t f s marks) e

  past_move : (words : ℕ) (to : Place) (m : Option MarkKind) (o : Operand Place) (rest : List Instruction) (l : ℕ) (f : Frame) (s : State Procedure) (marks : List MarkKind)
      → way (move_into words to m o rest) (Some l) f s marks ≡ way rest (Some l) f s marks
  past_move words to m (operand.Atom (Variable p)) rest l f s marks = by (same_place to p) (is_direct words to p) where
    by : (t d : Bool) → way (cond t rest (cond d (under m (Copy to p) rest) (Do (operation.Operand (operand.Atom (Variable p))) ∷ under m (writing words to) rest))) (Some l) f s marks ≡ way rest (Some l) f s marks
    by true d = refl
    by false true = past_under m (Copy to p) l refl rest f s marks
    by false false = past_under m (writing words to) l (sought_writing words l to) rest f s marks
  past_move words to m (operand.Atom (Constant c)) rest l f s marks = past_under m (writing words to) l (sought_writing words l to) rest f s marks
  past_move words to m (operand.Atom (Literal n)) rest l f s marks = past_under m (writing words to) l (sought_writing words l to) rest f s marks
  past_move words to m (operand.Read site which atoms) rest l f s marks = past_under m (writing words to) l (sought_writing words l to) rest f s marks

  past_moves : (words : ℕ) (moves : List Move) (rest : List Instruction) (l : ℕ) (f : Frame) (s : State Procedure) (marks : List MarkKind) → way (move_all words moves rest) (Some l) f s marks ≡ way rest (Some l) f s marks
  past_moves words [] rest l f s marks = refl
  past_moves words (m ∷ moves) rest l f s marks = past_move words m.to (move_mark m) m.from _ l f s marks ∙ past_moves words moves rest l f s marks

  past_carried : (kind : ℕ → MarkKind) (to from : ℕ → Place) (xs : List ℕ) (rest : List Instruction) (l : ℕ) (f : Frame) (s : State Procedure) (marks : List MarkKind)
      → way (carried plan kind to from xs rest) (Some l) f s marks ≡ way rest (Some l) f s marks
  past_carried kind to from [] rest l f s marks = refl
  past_carried kind to from (x ∷ xs) rest l f s marks = one (is_slot (plan.place x)) ∙ past_carried kind to from xs rest l f s marks where
    one : (t : Bool) → way (cond t (carried plan kind to from xs rest) (Mark (kind x) ∷ (Copy (to x) (from x) ∷ carried plan kind to from xs rest))) (Some l) f s marks
        ≡ way (carried plan kind to from xs rest) (Some l) f s marks
    one true = refl
    one false = refl

  past : (e : Expression) (inside : ℕ → Bool) (n : ℕ) (test : Option ℕ) (rest : List Instruction) (l : ℕ) (f : Frame) (s : State Procedure) (marks : List MarkKind) → l < n
      → way (lay plan e inside n test rest) (Some l) f s marks ≡ way rest (Some l) f s marks
  past (perform o) inside n test rest l f s marks lt = past_leave test rest l f s marks
  past (bind x a b) inside n test rest l f s marks lt =
      past a inside n None _ l f s marks lt
      ∙ (past_under (spill plan x) (Store (plan.place x)) l refl _ f s marks
      ∙ (past_carried mark.Save plan.home plan.place (filter inside (x ∷ [])) _ l f s marks ∙ past b inside (n + labels a) test rest l f s marks (omega (arith, lt))))
  past (sequence a b) inside n test rest l f s marks lt = past a inside n None _ l f s marks lt ∙ past b inside (n + labels a) test rest l f s marks (omega (arith, lt))
  past (branch a b c) inside n test rest l f s marks lt =
      past a inside (suc (suc n)) (Some n) _ l f s marks (omega (arith, lt))
      ∙ (past b inside (suc (suc (n + labels a))) test _ l f s marks (omega (arith, lt))
      ∙ (past_label n l _ f s marks lt
      ∙ (past c inside (suc (suc (n + labels a + labels b))) test _ l f s marks (omega (arith, lt))
      ∙ past_label (suc n) l rest f s marks (omega (arith, lt)))))
  past (return e) inside n test rest l f s marks lt = past e inside n None _ l f s marks lt
  past (end e) inside n test rest l f s marks lt = past e inside n None _ l f s marks lt
  past (fix members e) inside n test rest l f s marks lt =
      past_carried mark.Save plan.home plan.place (filter inside (member_variables members)) _ l f s marks ∙ past e inside n test rest l f s marks lt
  past (call a restores) inside n test rest l f s marks lt =
      past_moves plan.limit (plan.moves false a) (Mark (mark.Call a.site) ∷ (Call a.spread (length a.operands) ∷ loaded plan restores (leave test rest))) l f s marks
      ∙ (past_carried mark.Restore plan.place plan.home restores (leave test rest) l f s marks ∙ past_leave test rest l f s marks)
  past (tail_call a) inside n test rest l f s marks lt = past_moves plan.limit (plan.moves true a) (Mark (mark.Tail a.site) ∷ (Tail a.spread (length a.operands) ∷ rest)) l f s marks
  past (save saves e) inside n test rest l f s marks lt =
      past_carried mark.Save plan.home plan.place (heads e saves) _ l f s marks ∙ past e (with_region saves inside) n test rest l f s marks lt

  -- ## Instructions that are done

  -- the way goes on from where instructions are done
  abbrev Onto : List Instruction → (seeking : Option ℕ) → List MarkKind → Type 0
  Onto rest seeking marks = (f : Frame) × ((s : State Procedure) × way rest seeking f s marks)

  -- with these marks on the way
  abbrev pub Leaving : (these : List MarkKind) → List Instruction → List MarkKind → Type 0
  Leaving these rest marks = (between : List MarkKind) × ((marks ≡ these ++ between) × Onto rest None between)

  under_done : (m : Option MarkKind) (i : Instruction) (rest : List Instruction) (f : Frame) (s : State Procedure) (marks : List MarkKind) → way (under m i rest) None f s marks
      → (between : List MarkKind) × ((marks ≡ option_to_list m ++ between) × way (i ∷ rest) None f s between)
  under_done None i rest f s marks w = (marks, (refl, w))
  under_done (Some m) i rest f s [] w = absurd w
  under_done (Some m) i rest f s (k ∷ marks) w = (marks, (ap (λ z. z ∷ marks) w.0, w.1))

  writing_done : (words : ℕ) (to : Place) (m : Option MarkKind) (rest : List Instruction) (f : Frame) (s : State Procedure) (marks : List MarkKind) → way (under m (writing words to) rest) None f s marks
      → Leaving (option_to_list m) rest marks
  writing_done words to m rest f s marks w = let on = under_done m (writing words to) rest f s marks w in (on.0, (on.1.0, by to on.0 on.1.1)) where
    by : (to : Place) (marks : List MarkKind) → way (writing words to ∷ rest) None f s marks → Onto rest None marks
    by (Reg r) marks w = (_, (s, w))
    by (Slot j) marks w = one (nat_lt j words) w where
      one : (t : Bool) → way (cond t (Store (Slot j)) (Pass (j - words)) ∷ rest) None f s marks → Onto rest None marks
      one true w = (_, (s, w))
      one false w = (_, (s, w))

  move_done : (words : ℕ) (to : Place) (m : Option MarkKind) (o : Operand Place) (rest : List Instruction) (f : Frame) (s : State Procedure) (marks : List MarkKind)
      → way (move_into words to m o rest) None f s marks → Leaving (left_by to m o) rest marks
  move_done words to m (operand.Atom (Variable p)) rest f s marks w = by (same_place to p) (is_direct words to p) w where
    by : (t d : Bool) → way (cond t rest (cond d (under m (Copy to p) rest) (Do (operation.Operand (operand.Atom (Variable p))) ∷ under m (writing words to) rest))) None f s marks
        → Leaving (cond t [] (option_to_list m)) rest marks
    by true d w = (marks, (refl, (f, (s, w))))
    by false true w = let on = under_done m (Copy to p) rest f s marks w in (on.0, (on.1.0, (_, (s, on.1.1))))
    by false false w = writing_done words to m rest _ _ marks w.1.1.1
  move_done words to m (operand.Atom (Constant c)) rest f s marks w = writing_done words to m rest _ _ marks w.1.1.1
  move_done words to m (operand.Atom (Literal n)) rest f s marks w = writing_done words to m rest _ _ marks w.1.1.1
  move_done words to m (operand.Read site which atoms) rest f s marks w = writing_done words to m rest _ _ marks w.1.1.1

  -- first these marks and then those
  both : (xs ys : List MarkKind) (marks between rest : List MarkKind) → marks ≡ xs ++ between → between ≡ ys ++ rest → marks ≡ (xs ++ ys) ++ rest
  both xs ys marks between rest e h = e ∙ (ap (λ l. xs ++ l) h ∙ sym (append_assoc xs ys rest))

  moves_done : (words : ℕ) (moves : List Move) (rest : List Instruction) (f : Frame) (s : State Procedure) (marks : List MarkKind)
      → way (move_all words moves rest) None f s marks → Leaving (move_marks moves) rest marks
  moves_done words [] rest f s marks w = (marks, (refl, (f, (s, w))))
  moves_done words (m ∷ moves) rest f s marks w =
      let first = move_done words m.to (move_mark m) m.from _ f s marks w in
      let second = moves_done words moves rest first.1.1.0 first.1.1.1.0 first.0 first.1.1.1.1 in
      (second.0, (both (left_by m.to (move_mark m) m.from) (move_marks moves) marks first.0 second.0 first.1.0 second.1.0, second.1.1))

  -- what is saved
  stored_done : (xs : List ℕ) (rest : List Instruction) (f : Frame) (s : State Procedure) (marks : List MarkKind)
      → way (stored plan xs rest) None f s marks → Leaving (path_marks plan (map Saves xs)) rest marks
  stored_done [] rest f s marks w = (marks, (refl, (f, (s, w))))
  stored_done (x ∷ xs) rest f s marks w = one (is_slot (plan.place x)) marks (λ f s m. stored_done xs rest f s m) w where
    one : (t : Bool) (marks : List MarkKind) → ((f : Frame) (s : State Procedure) (m : List MarkKind) → way (stored plan xs rest) None f s m → Leaving (path_marks plan (map Saves xs)) rest m)
        → way (cond t (stored plan xs rest) (Mark (mark.Save x) ∷ (Copy (plan.home x) (plan.place x) ∷ stored plan xs rest))) None f s marks
        → Leaving (cond t [] (mark.Save x ∷ []) ++ path_marks plan (map Saves xs)) rest marks
    one true marks go w = go f s marks w
    one false [] go w = absurd w
    one false (m ∷ marks) go w = let on = go _ s marks w.1 in (on.0, (ap (λ k. k ∷ marks) w.0 ∙ ap (λ l. mark.Save x ∷ l) on.1.0, on.1.1))

  -- what is restored
  loaded_done : (xs : List ℕ) (rest : List Instruction) (f : Frame) (s : State Procedure) (marks : List MarkKind)
      → way (loaded plan xs rest) None f s marks → Leaving (restore_marks plan xs) rest marks
  loaded_done [] rest f s marks w = (marks, (refl, (f, (s, w))))
  loaded_done (x ∷ xs) rest f s marks w = one (is_slot (plan.place x)) marks (λ f s m. loaded_done xs rest f s m) w where
    one : (t : Bool) (marks : List MarkKind) → ((f : Frame) (s : State Procedure) (m : List MarkKind) → way (loaded plan xs rest) None f s m → Leaving (restore_marks plan xs) rest m)
        → way (cond t (loaded plan xs rest) (Mark (mark.Restore x) ∷ (Copy (plan.place x) (plan.home x) ∷ loaded plan xs rest))) None f s marks
        → Leaving (cond t (restore_marks plan xs) (mark.Restore x ∷ restore_marks plan xs)) rest marks
    one true marks go w = go f s marks w
    one false [] go w = absurd w
    one false (m ∷ marks) go w = let on = go _ s marks w.1 in (on.0, (ap (λ k. k ∷ marks) w.0 ∙ ap (λ l. mark.Restore x ∷ l) on.1.0, on.1.1))

  -- ## Ways on

  -- where a way goes on behind an expression of that result
  abbrev pub goes_on : (test : Option ℕ) → (result : Bool) → Option ℕ
  goes_on None r = None
  goes_on (Some l) r = cond r None (Some l)

  leave_known : (test : Option ℕ) (rest : List Instruction) (v : Value) (f : Frame) (s : State Procedure) (marks : List MarkKind)
      → way (leave test rest) None (record f { accumulator = Is v }) s marks → Onto rest (goes_on test (is_true v)) marks
  leave_known None rest v f s marks w = (_, (s, w))
  leave_known (Some l) rest v f s marks w = (_, (s, subst (λ u. way rest (cond (is_true u) None (Some l)) (record f { accumulator = Is v }) s marks) (sym (some_same w.1.0)) w.1.1))

  leave_any : (test : Option ℕ) (rest : List Instruction) (f : Frame) (s : State Procedure) (marks : List MarkKind)
      → way (leave test rest) None f s marks → (r : Bool) × Onto rest (goes_on test r) marks
  leave_any None rest f s marks w = (true, (f, (s, w)))
  leave_any (Some l) rest f s marks w = (is_true w.0, (f, (s, w.1.1)))

  found_label : (m : ℕ) (rest : List Instruction) (f : Frame) (s : State Procedure) (marks : List MarkKind) → way (Label m ∷ rest) (Some m) f s marks ≡ way rest None f s marks
  found_label m rest f s marks = ap (λ t. way rest (cond t None (Some m)) f s marks) (eq-eqb m m refl)

  -- behind the first arm of a branch the way goes on behind the second
  over_arm : (c : Expression) (inside : ℕ → Bool) (n k : ℕ) (test : Option ℕ) (rest : List Instruction) → suc n < k → Below test n → (r : Bool) (marks : List MarkKind)
      → Onto (Jump (suc n) ∷ (Label n ∷ lay plan c inside k test (Label (suc n) ∷ rest))) (goes_on test r) marks → Onto rest (goes_on test r) marks
  over_arm c inside n k test rest lt b r marks on = by test r b on where
    jumps : (test : Option ℕ) → Onto (Jump (suc n) ∷ (Label n ∷ lay plan c inside k test (Label (suc n) ∷ rest))) None marks → Onto rest None marks
    jumps test on = (
      on.0,
      (
        on.1.0,
        subst (λ T. T)
            (ap (λ t. way (lay plan c inside k test (Label (suc n) ∷ rest)) (cond t None (Some (suc n))) on.0 on.1.0 marks) (ne_eqb n (suc n) (λ e. omega (arith, e)))
            ∙ (past c inside k test (Label (suc n) ∷ rest) (suc n) on.0 on.1.0 marks lt ∙ found_label (suc n) rest on.0 on.1.0 marks)) on.1.1,
      ),
    )

    by : (test : Option ℕ) (r : Bool) → Below test n → Onto (Jump (suc n) ∷ (Label n ∷ lay plan c inside k test (Label (suc n) ∷ rest))) (goes_on test r) marks → Onto rest (goes_on test r) marks
    by None r b on = jumps None on
    by (Some l) true b on = jumps (Some l) on
    by (Some l) false b on = (
      on.0,
      (
        on.1.0,
        subst (λ T. T)
            (past_label n l (lay plan c inside k (Some l) (Label (suc n) ∷ rest)) on.0 on.1.0 marks b
            ∙ (past c inside k (Some l) (Label (suc n) ∷ rest) l on.0 on.1.0 marks (omega (arith, lt, b)) ∙ past_label (suc n) l rest on.0 on.1.0 marks (omega (arith, b)))) on.1.1,
      ),
    )

  -- to the second arm
  to_arm : (b c : Expression) (inside : ℕ → Bool) (n k m : ℕ) (test : Option ℕ) (rest : List Instruction) → n < k → (marks : List MarkKind)
      → Onto (lay plan b inside k test (Jump (suc n) ∷ (Label n ∷ lay plan c inside m test (Label (suc n) ∷ rest)))) (Some n) marks
      → Onto (lay plan c inside m test (Label (suc n) ∷ rest)) None marks
  to_arm b c inside n k m test rest lt marks on = (
    on.0,
    (
      on.1.0,
      subst (λ T. T)
          (past b inside k test (Jump (suc n) ∷ (Label n ∷ lay plan c inside m test (Label (suc n) ∷ rest))) n on.0 on.1.0 marks lt
          ∙ found_label n (lay plan c inside m test (Label (suc n) ∷ rest)) on.0 on.1.0 marks) on.1.1,
    ),
  )

  -- behind the second arm
  behind_arm : (n : ℕ) (test : Option ℕ) (rest : List Instruction) → Below test n → (r : Bool) (marks : List MarkKind)
      → Onto (Label (suc n) ∷ rest) (goes_on test r) marks → Onto rest (goes_on test r) marks
  behind_arm n None rest b r marks on = on
  behind_arm n (Some l) rest b true marks on = on
  behind_arm n (Some l) rest b false marks on = (on.0, (on.1.0, subst (λ T. T) (past_label (suc n) l rest on.0 on.1.0 marks (omega (arith, b))) on.1.1))

  -- ## Ways through expressions

  -- a path of the expression, with its marks, and then the way behind it
  abbrev pub Through : Expression → (inside : ℕ → Bool) → (test : Option ℕ) → List Instruction → List MarkKind → Type 0
  Through e inside test rest marks =
      (es : List Event) × ((r : Bool) × (IsPath inside e es r × ((between : List MarkKind) × (MarksThen es marks between × Onto rest (goes_on test r) between))))

  -- a variable is stored where it lives, and then saved if it is inside a region
  bound_done : (x : ℕ) (inside : ℕ → Bool) (rest : List Instruction) (f : Frame) (s : State Procedure) (marks : List MarkKind)
      → way (under (spill plan x) (Store (plan.place x)) (stored plan (filter inside (x ∷ [])) rest)) None f s marks → Leaving (path_marks plan (binding inside x)) rest marks
  bound_done x inside rest f s marks w =
      let first = under_done (spill plan x) (Store (plan.place x)) (stored plan (filter inside (x ∷ [])) rest) f s marks w in
      let second = stored_done (filter inside (x ∷ [])) rest _ s first.0 first.1.1 in
      (second.0, (both (option_to_list (spill plan x)) (path_marks plan (map Saves (filter inside (x ∷ [])))) marks first.0 second.0 first.1.0 second.1.0, second.1.1))

  spilled_marks : (xs : List ℕ) → map mark.Spill (filter (λ x. is_slot (plan.place x)) xs) ≡ path_marks plan (map Binds xs)
  spilled_marks [] = refl
  spilled_marks (x ∷ xs) = by (is_slot (plan.place x)) (spilled_marks xs) where
    by : (t : Bool) → map mark.Spill (filter (λ x. is_slot (plan.place x)) xs) ≡ path_marks plan (map Binds xs)
        → map mark.Spill (cond t (x ∷ filter (λ x. is_slot (plan.place x)) xs) (filter (λ x. is_slot (plan.place x)) xs)) ≡ option_to_list (cond t (Some (mark.Spill x)) None) ++ path_marks plan (map Binds xs)
    by true e = ap (λ l. mark.Spill x ∷ l) e
    by false e = e

  grouping_marks : (inside : ℕ → Bool) (members : List (Member ℕ)) (marks between rest : List MarkKind)
      → marks ≡ map mark.Spill (filter (λ x. is_slot (plan.place x)) (member_variables members)) ++ between → MarksThen (map Saves (filter inside (member_variables members))) between rest
      → MarksThen (grouping inside members) marks rest
  grouping_marks inside members marks between rest e f =
      then_marks (map Binds (member_variables members)) _ marks between rest (e ∙ ap (λ l. l ++ between) (spilled_marks (member_variables members)))
      (then_marks (map References (named (member_atoms members))) _ between between rest (references_marks (named (member_atoms members)) between) f)

  pub through : (e : Expression) (at : Position) → positioned e at ≡ true → is_value at ≡ true → (inside : ℕ → Bool) (n : ℕ) (test : Option ℕ) (rest : List Instruction) → Below test n
      → (f : Frame) (s : State Procedure) (marks : List MarkKind) → way (lay plan e inside n test rest) None f s marks → Through e inside test rest marks
  through (perform o) at p v inside n test rest b f s marks w =
      let r : AfterValue o (λ t. t ≡ is_true w.0) = laid_value plan.place (held f) o s w.1.0 w.0 w.1.1.0 (λ t. t ≡ is_true w.0) refl in
      (_, (is_true w.0, ((refl, r), (marks, (references_marks (named (operation_atoms o)) marks, leave_known test rest w.0 f w.1.0 marks w.1.1.1)))))
  through (bind x a b) at p v inside n test rest h f s marks w =
      let first = through a value (and_left (positioned a value) _ p) refl inside n None _ tt f s marks w in
      let on = first.1.1.1.1.1 in
      let kept = bound_done x inside _ on.0 on.1.0 first.1.1.1.0 on.1.1 in
      let next = kept.1.1 in
      let second = through b at (and_right (positioned a value) _ p) v inside (n + labels a) test rest (below_up test n (n + labels a) (omega arith) h) next.0 next.1.0 kept.0 next.1.1 in (
        _,
        (
          second.1.0,
          (
            (first.0, second.0, first.1.0, first.1.1.0, second.1.1.0, refl),
            (
              second.1.1.1.0,
              (
                then_marks first.0 _ marks first.1.1.1.0 second.1.1.1.0 first.1.1.1.1.0
                    (then_marks (binding inside x) second.0 first.1.1.1.0 kept.0 second.1.1.1.0 kept.1.0 second.1.1.1.1.0),
                second.1.1.1.1.1,
              ),
            ),
          ),
        ),
      )
  through (sequence a b) at p v inside n test rest h f s marks w =
      let first = through a no_call (and_left (positioned a no_call) _ p) refl inside n None _ tt f s marks w in
      let on = first.1.1.1.1.1 in
      let second = through b at (and_right (positioned a no_call) _ p) v inside (n + labels a) test rest (below_up test n (n + labels a) (omega arith) h) on.0 on.1.0 first.1.1.1.0 on.1.1 in (
        _,
        (
          second.1.0,
          (
            (first.0, second.0, first.1.0, first.1.1.0, second.1.1.0, refl),
            (
              second.1.1.1.0,
              (then_marks first.0 second.0 marks first.1.1.1.0 second.1.1.1.0 first.1.1.1.1.0 second.1.1.1.1.0, second.1.1.1.1.1),
            ),
          ),
        ),
      )
  through (branch a b c) at p v inside n test rest h f s marks w =
      let arms = and_right (positioned a value) _ p in
      let first = through a value (and_left (positioned a value) _ p) refl inside (suc (suc n)) (Some n) _ (omega arith) f s marks w in
      elim (first.1.0) as (λ t. IsPath inside a first.0 t
      → Onto (lay plan b inside (suc (suc (n + labels a))) test (Jump (suc n) ∷ (Label n ∷ lay plan c inside (suc (suc (n + labels a + labels b))) test (Label (suc n) ∷ rest))))
      (goes_on (Some n) t) first.1.1.1.0 → Through (branch a b c) inside test rest marks) [
        | true ↦ λ path on.
            let second = through b at (and_left (positioned b at) _ arms) v inside (suc (suc (n + labels a))) test _ (below_up test n _ (omega arith) h) on.0 on.1.0 first.1.1.1.0 on.1.1 in (
              _,
              (
                second.1.0,
                (
                  (first.0, second.0, true, path, second.1.1.0, refl),
                  (
                    second.1.1.1.0,
                    (
                      then_marks first.0 second.0 marks first.1.1.1.0 second.1.1.1.0 first.1.1.1.1.0 second.1.1.1.1.0,
                      over_arm c inside n _ test rest (omega arith) h second.1.0 second.1.1.1.0 second.1.1.1.1.1,
                    ),
                  ),
                ),
              ),
            )
        | false ↦ λ path on.
            let there = to_arm b c inside n _ _ test rest (omega arith) first.1.1.1.0 on in
            let second = through c at (and_right (positioned b at) _ arms) v inside (suc (suc (n + labels a + labels b))) test _ (below_up test n _ (omega arith) h) there.0 there.1.0 first.1.1.1.0 there.1.1 in (
              _,
              (
                second.1.0,
                (
                  (first.0, second.0, false, path, second.1.1.0, refl),
                  (
                    second.1.1.1.0,
                    (
                      then_marks first.0 second.0 marks first.1.1.1.0 second.1.1.1.0 first.1.1.1.1.0 second.1.1.1.1.0,
                      behind_arm n test rest h second.1.0 second.1.1.1.0 second.1.1.1.1.1,
                    ),
                  ),
                ),
              ),
            )
      ] first.1.1.0 first.1.1.1.1.1
  through (fix members e) at p v inside n test rest h f s marks w =
      let spilled = w.1.1.1.1.1 in
      let kept = stored_done (filter inside (member_variables members)) _ _ w.1.1.1.0 spilled.0 spilled.1.1 in
      let next = kept.1.1 in
      let second = through e at p v inside n test rest h next.0 next.1.0 kept.0 next.1.1 in (
        _,
        (
          second.1.0,
          (
            (second.0, second.1.1.0, refl),
            (
              second.1.1.1.0,
              (then_marks (grouping inside members) second.0 marks kept.0 second.1.1.1.0 (grouping_marks inside members marks spilled.0 kept.0 spilled.1.0 kept.1.0) second.1.1.1.1.0, second.1.1.1.1.1),
            ),
          ),
        ),
      )
  through (call a restores) at p v inside n test rest h f s marks w =
      let ready = moves_done plan.limit (plan.moves false a) _ f s marks w in
      let on = calls ready.1.1.0 ready.1.1.1.0 ready.0 ready.1.1.1.1 in
      let left = leave_any test rest on.1.1.0 on.1.1.1.0 on.0 on.1.1.1.1 in (
        _,
        (
          left.0,
          (
            refl,
            (
              on.0,
              (
                then_marks (map References (named (application_atoms a))) (Calls a restores ∷ []) marks marks on.0 (references_marks (named (application_atoms a)) marks)
                    (both (move_marks (plan.moves false a)) (mark.Call a.site ∷ restore_marks plan restores) marks ready.0 on.0 ready.1.0 on.1.0
                    ∙ ap (λ l. l ++ on.0) (sym (append-nil (move_marks (plan.moves false a) ++ (mark.Call a.site ∷ restore_marks plan restores))))),
                left.1,
              ),
            ),
          ),
        ),
      ) where
        calls : (f : Frame) (s : State Procedure) (marks : List MarkKind)
            → way (Mark (mark.Call a.site) ∷ (Call a.spread (length a.operands) ∷ loaded plan restores (leave test rest))) None f s marks
            → Leaving (mark.Call a.site ∷ restore_marks plan restores) (leave test rest) marks
        calls f s [] w = absurd w
        calls f s (m ∷ marks) w =
            let back = w.1.1.1.1.1.1 in
            let loads = loaded_done restores (leave test rest) _ _ marks back in
            (loads.0, (ap (λ k. k ∷ marks) w.0 ∙ ap (λ l. mark.Call a.site ∷ l) loads.1.0, loads.1.1))
  through (tail_call a) value p v inside n test rest h f s marks w = absurd (cc)
  through (tail_call a) no_call p v inside n test rest h f s marks w = absurd (cc)
  through (tail_call a) procedure_end p v inside n test rest h f s marks w = absurd (cc)
  through (tail_call a) form_end p v inside n test rest h f s marks w = absurd (cc)
  through (return e) value p v inside n test rest h f s marks w = absurd (cc)
  through (return e) no_call p v inside n test rest h f s marks w = absurd (cc)
  through (return e) procedure_end p v inside n test rest h f s marks w = absurd (cc)
  through (return e) form_end p v inside n test rest h f s marks w = absurd (cc)
  through (end e) value p v inside n test rest h f s marks w = absurd (cc)
  through (end e) no_call p v inside n test rest h f s marks w = absurd (cc)
  through (end e) procedure_end p v inside n test rest h f s marks w = absurd (cc)
  through (end e) form_end p v inside n test rest h f s marks w = absurd (cc)
  through (save saves e) at p v inside n test rest h f s marks w =
      let kept = stored_done (heads e saves) _ f s marks w in
      let next = kept.1.1 in
      let second = through e at p v (with_region saves inside) n test rest h next.0 next.1.0 kept.0 next.1.1 in (
        _,
        (
          second.1.0,
          (
            (second.0, second.1.1.0, refl),
            (
              second.1.1.1.0,
              (then_marks (map Saves (heads e saves)) second.0 marks kept.0 second.1.1.1.0 kept.1.0 second.1.1.1.1.0, second.1.1.1.1.1),
            ),
          ),
        ),
      )

  -- ## Ways that leave a body

  -- a path of the expression, with its marks, where the body is left
  abbrev pub Leaves : Expression → (inside : ℕ → Bool) → List MarkKind → Type 0
  Leaves e inside marks = (es : List Event) × ((r : Bool) × (IsPath inside e es r × MarksThen es marks []))

  return_mark : (rest : List Instruction) (f : Frame) (s : State Procedure) (marks : List MarkKind) → way (Mark mark.Return ∷ (Return ∷ rest)) None f s marks → marks ≡ mark.Return ∷ []
  return_mark rest f s [] w = absurd w
  return_mark rest f s (m ∷ marks) w = ap (λ k. k ∷ marks) w.0 ∙ ap (λ l. mark.Return ∷ l) w.1.1.1.1

  pub leaves : (e : Expression) (at : Position) → positioned e at ≡ true → is_value at ≡ false → (inside : ℕ → Bool) (n : ℕ) (test : Option ℕ) (rest : List Instruction)
      → (f : Frame) (s : State Procedure) (marks : List MarkKind) → way (lay plan e inside n test rest) None f s marks → Leaves e inside marks
  leaves (perform o) at p v inside n test rest f s marks w = absurd (false_true p v)
  leaves (bind x a b) at p v inside n test rest f s marks w =
      let first = through a value (and_left (positioned a value) _ p) refl inside n None _ tt f s marks w in
      let on = first.1.1.1.1.1 in
      let kept = bound_done x inside _ on.0 on.1.0 first.1.1.1.0 on.1.1 in
      let next = kept.1.1 in
      let second = leaves b at (and_right (positioned a value) _ p) v inside (n + labels a) test rest next.0 next.1.0 kept.0 next.1.1 in (
        _,
        (
          second.1.0,
          (
            (first.0, second.0, first.1.0, first.1.1.0, second.1.1.0, refl),
            then_marks first.0 _ marks first.1.1.1.0 [] first.1.1.1.1.0
                (then_marks (binding inside x) second.0 first.1.1.1.0 kept.0 [] kept.1.0 second.1.1.1),
          ),
        ),
      )
  leaves (sequence a b) at p v inside n test rest f s marks w =
      let first = through a no_call (and_left (positioned a no_call) _ p) refl inside n None _ tt f s marks w in
      let on = first.1.1.1.1.1 in
      let second = leaves b at (and_right (positioned a no_call) _ p) v inside (n + labels a) test rest on.0 on.1.0 first.1.1.1.0 on.1.1 in
      (_, (second.1.0, ((first.0, second.0, first.1.0, first.1.1.0, second.1.1.0, refl), then_marks first.0 second.0 marks first.1.1.1.0 [] first.1.1.1.1.0 second.1.1.1)))
  leaves (branch a b c) at p v inside n test rest f s marks w =
      let arms = and_right (positioned a value) _ p in
      let first = through a value (and_left (positioned a value) _ p) refl inside (suc (suc n)) (Some n) _ (omega arith) f s marks w in
      elim (first.1.0) as (λ t. IsPath inside a first.0 t
      → Onto (lay plan b inside (suc (suc (n + labels a))) test (Jump (suc n) ∷ (Label n ∷ lay plan c inside (suc (suc (n + labels a + labels b))) test (Label (suc n) ∷ rest))))
      (goes_on (Some n) t) first.1.1.1.0 → Leaves (branch a b c) inside marks) [
        | true ↦ λ path on.
            let second = leaves b at (and_left (positioned b at) _ arms) v inside (suc (suc (n + labels a))) test _ on.0 on.1.0 first.1.1.1.0 on.1.1 in
            (_, (second.1.0, ((first.0, second.0, true, path, second.1.1.0, refl), then_marks first.0 second.0 marks first.1.1.1.0 [] first.1.1.1.1.0 second.1.1.1)))
        | false ↦ λ path on.
            let there = to_arm b c inside n _ _ test rest (omega arith) first.1.1.1.0 on in
            let second = leaves c at (and_right (positioned b at) _ arms) v inside (suc (suc (n + labels a + labels b))) test _ there.0 there.1.0 first.1.1.1.0 there.1.1 in
            (_, (second.1.0, ((first.0, second.0, false, path, second.1.1.0, refl), then_marks first.0 second.0 marks first.1.1.1.0 [] first.1.1.1.1.0 second.1.1.1)))
      ] first.1.1.0 first.1.1.1.1.1
  leaves (fix members e) at p v inside n test rest f s marks w =
      let spilled = w.1.1.1.1.1 in
      let kept = stored_done (filter inside (member_variables members)) _ _ w.1.1.1.0 spilled.0 spilled.1.1 in
      let next = kept.1.1 in
      let second = leaves e at p v inside n test rest next.0 next.1.0 kept.0 next.1.1 in (
        _,
        (
          second.1.0,
          (
            (second.0, second.1.1.0, refl),
            then_marks (grouping inside members) second.0 marks kept.0 [] (grouping_marks inside members marks spilled.0 kept.0 spilled.1.0 kept.1.0) second.1.1.1,
          ),
        ),
      )
  leaves (call a restores) value p v inside n test rest f s marks w = absurd (cc)
  leaves (call a restores) no_call p v inside n test rest f s marks w = absurd (cc)
  leaves (call a restores) procedure_end p v inside n test rest f s marks w = absurd (cc)
  leaves (call a restores) form_end p v inside n test rest f s marks w = absurd (cc)
  leaves (tail_call a) at p v inside n test rest f s marks w =
      let ready = moves_done plan.limit (plan.moves true a) _ f s marks w in
      let left = tails ready.1.1.0 ready.1.1.1.0 ready.0 ready.1.1.1.1 in (
        _,
        (
          true,
          (
            refl,
            then_marks (map References (named (application_atoms a))) (References 0 ∷ Tails a ∷ []) marks marks [] (references_marks (named (application_atoms a)) marks)
                (both (move_marks (plan.moves true a)) (mark.Tail a.site ∷ []) marks ready.0 [] ready.1.0 left
                ∙ ap (λ l. l ++ []) (sym (append-nil (move_marks (plan.moves true a) ++ (mark.Tail a.site ∷ []))))),
          ),
        ),
      ) where
        tails : (f : Frame) (s : State Procedure) (marks : List MarkKind) → way (Mark (mark.Tail a.site) ∷ (Tail a.spread (length a.operands) ∷ rest)) None f s marks → marks ≡ (mark.Tail a.site ∷ []) ++ []
        tails f s [] w = absurd w
        tails f s (m ∷ marks) w = ap (λ k. k ∷ marks) w.0 ∙ ap (λ l. mark.Tail a.site ∷ l) w.1.1.1.1
  leaves (return e) at p v inside n test rest f s marks w =
      let first = through e no_call (and_right (ends_procedure at) _ p) refl inside n None _ tt f s marks w in
      let on = first.1.1.1.1.1 in (
        _,
        (
          true,
          (
            (first.0, first.1.0, first.1.1.0, refl),
            then_marks first.0 (References 0 ∷ Returns ∷ []) marks first.1.1.1.0 [] first.1.1.1.1.0 (return_mark rest on.0 on.1.0 first.1.1.1.0 on.1.1),
          ),
        ),
      )
  leaves (end e) at p v inside n test rest f s marks w =
      let first = through e value (and_right (ends_form at) _ p) refl inside n None _ tt f s marks w in
      (_, (true, ((first.0, first.1.0, first.1.1.0, refl), then_marks first.0 (Ends ∷ []) marks first.1.1.1.0 [] first.1.1.1.1.0 first.1.1.1.1.1.1.1)))
  leaves (save saves e) at p v inside n test rest f s marks w =
      let kept = stored_done (heads e saves) _ f s marks w in
      let next = kept.1.1 in
      let second = leaves e at p v (with_region saves inside) n test rest next.0 next.1.0 kept.0 next.1.1 in
      (_, (second.1.0, ((second.0, second.1.1.0, refl), then_marks (map Saves (heads e saves)) second.0 marks kept.0 [] kept.1.0 second.1.1.1)))

  -- ## Bodies

  arrivals_done : (count from : ℕ) (rest : List Instruction) (f : Frame) (s : State Procedure) (marks : List MarkKind)
      → way (arrivals plan from count rest) None f s marks → Leaving (arrival_marks plan from count) rest marks
  arrivals_done zero from rest f s marks w = (marks, (refl, (f, (s, w))))
  arrivals_done (suc count) from rest f s marks w =
      let first = one (same_place (plan.place from) (variable_arrival from)) w in
      let second = arrivals_done count (suc from) rest first.1.1.0 first.1.1.1.0 first.0 first.1.1.1.1 in
      (second.0, (both (cond (same_place (plan.place from) (variable_arrival from)) [] (option_to_list (spill plan from))) (arrival_marks plan (suc from) count) marks first.0 second.0 first.1.0 second.1.0, second.1.1)) where
        one : (t : Bool) → way (cond t (arrivals plan (suc from) count rest) (under (spill plan from) (Copy (plan.place from) (variable_arrival from)) (arrivals plan (suc from) count rest))) None f s marks
            → Leaving (cond t [] (option_to_list (spill plan from))) (arrivals plan (suc from) count rest) marks
        one true w = (marks, (refl, (f, (s, w))))
        one false w = let on = under_done (spill plan from) (Copy (plan.place from) (variable_arrival from)) (arrivals plan (suc from) count rest) f s marks w in (on.0, (on.1.0, (_, (s, on.1.1))))

  pub entering_done : (entry : Option Entry) (rest : List Instruction) (f : Frame) (s : State Procedure) (marks : List MarkKind)
      → way (entering plan entry rest) None f s marks → Leaving (entry_marks plan entry) rest marks
  entering_done None rest f s marks w = (marks, (refl, (f, (s, w))))
  entering_done (Some e) rest f s marks w = arrivals_done (suc e.formals) 1 rest f s marks w

no_value : (entry : Option Entry) → is_value (last_position entry) ≡ false
no_value None = refl
no_value (Some e) = refl

pub ways_are_paths : WaysArePaths
ways_are_paths codes own w c plan e laid =
    let first = entering_done plan c.entry (lay plan e no_region 0 None []) (beginning w.code.entry w.self w.arguments) w.state w.marks
    (subst (λ l. way l None (beginning w.code.entry w.self w.arguments) w.state w.marks) laid.instructions w.along) in
    let second : Leaves plan e no_region first.0 = leaves plan e (last_position c.entry) laid.ended (no_value c.entry) no_region 0 None [] first.1.1.0 first.1.1.1.0 first.0 first.1.1.1.1 in (
      second.0,
      (
        second.1.0,
        (
          second.1.1.0,
          w.own_marks ∙ ap (λ l. mark.Enter w.label ∷ l)
              (first.1.0 ∙ ap (λ l. entry_marks plan c.entry ++ l) (second.1.1.1 ∙ append-nil (path_marks plan second.0))),
        ),
      ),
    )
