-- Tests that each instruction of a layout passes.
use Rattle.std.proofs.Common.{◌≡◌, ℕ, zero, suc, ◌+◌, ◌-◌, ◌<◌, ◌≤◌, List, [], ◌∷◌, ◌++◌, length, Option, Some, None, Bool, true, false, cond, ◌&&◌, refl, sym, ap, ◌∙◌, subst, arith, ◌⊎◌, inl, inr}
use Rattle.std.specs.Prelude.{filter, nat_lt, not, slice_get}
use Rattle.std.specs.List.{list_all}
use Rattle.std.proofs.lemmas.Bool.{and_parts, and_from, eq-eqb, le-leb, le-ltb, lt-ltb}
use Rattle.std.proofs.lemmas.List.Folds.{list_all-append}
use Rattle.sch_word.specs.declared.place.Place.{Place}
use Rattle.sch_word.specs.declared.place.Place.TheVariants.{Reg, Slot}
use Rattle.sch_word.specs.declared.mark.MarkKind.{MarkKind}
use Rattle.sch_word.specs.declared.mark.MarkKind.TheVariants as mark
use Rattle.sch_word.specs.runs.Activations.{is_enter}
use Rattle.sch_word.specs.values.Registers.{argument_registers}
use Rattle.sch_control.specs.declared.body.Entry.{Entry}
use Rattle.sch_control.specs.declared.operation.Atom.{Atom}
use Rattle.sch_control.specs.declared.operation.Atom.TheVariants.{Constant, Literal, Variable}
use Rattle.sch_control.specs.declared.operation.Operand.{Operand}
use Rattle.sch_control.specs.declared.operation.Operand.TheVariants as operand
use Rattle.sch_control.specs.declared.operation.Source.{Source}
use Rattle.sch_control.specs.declared.operation.Source.TheVariants as source
use Rattle.sch_control.specs.declared.operation.Member.{Member}
use Rattle.sch_control.specs.declared.operation.Operation.{Operation}
use Rattle.sch_control.specs.declared.operation.Operation.TheVariants as operation
use Rattle.sch_control.specs.declared.operation.Application.{Application}
use Rattle.sch_control.specs.AtomsAndSites.{operand_atoms, operands_atoms, source_atom, source_atoms, operation_atoms, member_atoms}
use Rattle.sch_control.specs.Meaning.{heads, with_region}
use Rattle.sch_control.specs.Tree.{Expression, perform, bind, sequence, branch, fix, call, tail_call, return, end, save}
use Rattle.sch_control.specs.Valid.{member_variables, operand_shaped, operands_shaped, operation_shaped, members_shaped, group_shaped, each_part, shaped, Names, atom_known, atoms_known, closure_known, members_known, operation_known, application_known, group_known}
use Rattle.sch_frames.specs.declared.instruction.Instruction.{Instruction}
use Rattle.sch_frames.specs.declared.instruction.Instruction.TheVariants.{Do, Store, Copy, Pass, Fix, Call, Tail, Return, End, IfFalse, Jump, Label, Mark}
use Rattle.sch_word.specs.values.Places.{same_place, is_slot}
use Rattle.sch_frames.specs.Valid.{are_members, instruction_known, instruction_placed, instruction_shaped, is_atom, is_place}
use Rattle.sch_layout.specs.BodyLayout.{Plan, arguments_at, source_at, sources_at, atom_at, atoms_at, operand_at, operands_at, members_at, operation_at, entering, spill, target, under, writing, move_all, stored, loaded, leave, labels, lay}
use Rattle.sch_control.specs.flow.Places.{variable_arrival}
use Rattle.sch_layout.specs.Laws.{AtomHas, AtomsHave, MembersUse, Uses}
use Rattle.sch_layout.specs.Moves.{EachMove}
use Rattle.sch_layout.specs.SharedPlaces.{entered_with}
use Rattle.sch_layout.proofs.CarriedCopies.{carried_has}
use Rattle.sch_control.specs.EachCall.{EachCall}
use Rattle.sch_layout.proofs.EntryCopies.{entering_has, spill_has}
use Rattle.sch_layout.proofs.MovesHave.{Fits, is_entry, is_target, moves_have, moves_valid, each_mapped}
use Rattle.sch_layout.proofs.does.OperationsFollow.{have_left, have_right}
use Rattle.sch_layout.proofs.does.LayoutDoes.{length_members, length_sources}
use Rattle.sch_layout.proofs.marks.MarksStand.{as_many}

-- The instructions that say where to go on pass a test, and so do all marks but that of an entry.
pub record Steers (test : Instruction → Bool) : Type 0 where
  pub if_false : (l : ℕ) → test (IfFalse l) ≡ true
  pub jump : (l : ℕ) → test (Jump l) ≡ true
  pub label : (l : ℕ) → test (Label l) ≡ true
  pub return : test Return ≡ true
  pub marks : (m : MarkKind) → is_enter m ≡ false → test (Mark m) ≡ true

pub placed_steers : (words : ℕ) → Steers (instruction_placed words)
placed_steers words = record { if_false = λ l. refl; jump = λ l. refl; label = λ l. refl; return = refl; marks = λ m e. refl }

pub shaped_steers : Steers instruction_shaped
shaped_steers = record { if_false = λ l. refl; jump = λ l. refl; label = λ l. refl; return = refl; marks = λ m e. refl }

pub known_steers : (names : Names) → Steers (instruction_known names)
known_steers names = record { if_false = λ l. refl; jump = λ l. refl; label = λ l. refl; return = refl; marks = λ m e. refl }

-- the variables of a group that live in slots
abbrev pub spilled : Plan → List (Member ℕ) → List ℕ
spilled plan members = filter (λ x. is_slot (plan.place x)) (member_variables members)

module _ (plan : Plan) (test : Instruction → Bool) (steers : Steers test) where
  -- what is done before what follows passes it
  abbrev pub Leads : (List Instruction → List Instruction) → Type 0
  Leads code = (rest : List Instruction) → list_all test rest ≡ true → list_all test (code rest) ≡ true

  -- what is done, stored and called passes it, and so do the ends of forms
  abbrev pub Passes : Expression → Type 0
  Passes (perform o) = test (Do (operation_at plan.place o)) ≡ true
  Passes (bind x a b) = (test (Store (plan.place x)) ≡ true) × (Passes a × Passes b)
  Passes (sequence a b) = Passes a × Passes b
  Passes (branch a b c) = Passes a × (Passes b × Passes c)
  Passes (return e) = Passes e
  Passes (end e) = (test End ≡ true) × Passes e
  Passes (fix members e) = (test (Fix (members_at plan.place members) (spilled plan members)) ≡ true) × Passes e
  Passes (call a restores) = Leads (move_all plan.limit (plan.moves false a)) × (test (Call a.spread (length a.operands)) ≡ true)
  Passes (tail_call a) = Leads (move_all plan.limit (plan.moves true a)) × (test (Tail a.spread (length a.operands)) ≡ true)
  Passes (save saves e) = Passes e

  pub leave_pass : (to : Option ℕ) (rest : List Instruction) → list_all test rest ≡ true → list_all test (leave to rest) ≡ true
  leave_pass None rest h = h
  leave_pass (Some l) rest h = and_from _ _ (steers.if_false l) h

  pub under_passes : (m : Option MarkKind) → is_entry m ≡ false → (i : Instruction) → test i ≡ true → (rest : List Instruction) → list_all test rest ≡ true → list_all test (under m i rest) ≡ true
  under_passes None e i p rest h = and_from _ _ p h
  under_passes (Some m) e i p rest h = and_from _ _ (steers.marks m e) (and_from _ _ p h)

  pub spill_passes : (x : ℕ) (i : Instruction) → test i ≡ true → (rest : List Instruction) → list_all test rest ≡ true → list_all test (under (spill plan x) i rest) ≡ true
  spill_passes x = under_passes (spill plan x) (spill_has (λ m. is_entry m ≡ false) plan x refl refl)

  -- what is saved and restored passes it
  pub record Carries : Type 0 where
    pub goes : (x : ℕ) → is_slot (plan.place x) ≡ false → test (Copy (plan.home x) (plan.place x)) ≡ true
    pub comes : (x : ℕ) → is_slot (plan.place x) ≡ false → test (Copy (plan.place x) (plan.home x)) ≡ true

  stored_passes : Carries → (xs : List ℕ) (rest : List Instruction) → list_all test rest ≡ true → list_all test (stored plan xs rest) ≡ true
  stored_passes c = carried_has plan (λ is. list_all test is ≡ true) mark.Save plan.home plan.place
      (λ x i rest h. and_from _ _ (steers.marks (mark.Save x) refl) (and_from _ _ (c.goes x i) h))

  loaded_passes : Carries → (xs : List ℕ) (rest : List Instruction) → list_all test rest ≡ true → list_all test (loaded plan xs rest) ≡ true
  loaded_passes c = carried_has plan (λ is. list_all test is ≡ true) mark.Restore plan.place plan.home
      (λ x i rest h. and_from _ _ (steers.marks (mark.Restore x) refl) (and_from _ _ (c.comes x i) h))

  pub lay_passes : Carries → (e : Expression) → Passes e → (inside : ℕ → Bool) (n : ℕ) (to : Option ℕ) (rest : List Instruction) → list_all test rest ≡ true → list_all test (lay plan e inside n to rest) ≡ true
  lay_passes k (perform o) p inside n to rest h = and_from _ _ p (leave_pass to rest h)
  lay_passes k (bind x a b) p inside n to rest h =
      lay_passes k a p.1.0 inside n None _
      (spill_passes x (Store (plan.place x)) p.0 _ (stored_passes k (filter inside (x ∷ [])) (lay plan b inside (n + labels a) to rest) (lay_passes k b p.1.1 inside (n + labels a) to rest h)))
  lay_passes k (sequence a b) p inside n to rest h = lay_passes k a p.0 _ _ _ _ (lay_passes k b p.1 _ _ _ _ h)
  lay_passes k (branch a b c) p inside n to rest h =
      lay_passes k a p.0 _ _ _ _ (lay_passes k b p.1.0 _ _ _ _ (and_from _ _ (steers.jump _) (and_from _ _ (steers.label _) (lay_passes k c p.1.1 _ _ _ _ (and_from _ _ (steers.label _) h)))))
  lay_passes k (return e) p inside n to rest h = lay_passes k e p _ _ _ _ (and_from _ _ (steers.marks mark.Return refl) (and_from _ _ steers.return h))
  lay_passes k (end e) p inside n to rest h = lay_passes k e p.1 _ _ _ _ (and_from _ _ p.0 h)
  lay_passes k (fix members e) p inside n to rest h =
      and_from _ _ p.0 (stored_passes k (filter inside (member_variables members)) (lay plan e inside n to rest) (lay_passes k e p.1 inside n to rest h))
  lay_passes k (call a restores) p inside n to rest h =
      p.0 _ (and_from _ _ (steers.marks (mark.Call a.site) refl) (and_from _ _ p.1 (loaded_passes k restores (leave to rest) (leave_pass to rest h))))
  lay_passes k (tail_call a) p inside n to rest h = p.0 _ (and_from _ _ (steers.marks (mark.Tail a.site) refl) (and_from _ _ p.1 h))
  lay_passes k (save saves e) p inside n to rest h =
      stored_passes k (heads e saves) (lay plan e (with_region saves inside) n to rest) (lay_passes k e p (with_region saves inside) n to rest h)

  pub entering_passes : (entry : Option Entry) → ((x : ℕ) → x < entered_with entry → same_place (plan.place x) (variable_arrival x) ≡ false → test (Copy (plan.place x) (variable_arrival x)) ≡ true)
      → (rest : List Instruction) → list_all test rest ≡ true → list_all test (entering plan entry rest) ≡ true
  entering_passes entry f rest = entering_has plan (λ is. list_all test is ≡ true) entry (λ x lt e rest h. spill_passes x (Copy (plan.place x) (variable_arrival x)) (f x lt e) rest h) rest

-- a test that does not look at where copies go, nor at a place that is read
pub record Unplaced (test : Instruction → Bool) : Type 0 where
  pub copies : (to from : Place) → test (Copy to from) ≡ true
  pub stores : (to : Place) → test (Store to) ≡ true
  pub passes : (k : ℕ) → test (Pass k) ≡ true
  pub variables : (p : Place) → test (Do (operation.Operand (operand.Atom (Variable p)))) ≡ true

pub unplaced_carries : (plan : Plan) (test : Instruction → Bool) (steers : Steers test) → Unplaced test → Carries plan test steers
unplaced_carries plan test steers u = record { goes = λ x s. u.copies _ _; comes = λ x s. u.copies _ _ }

pub unplaced_shaped : Unplaced instruction_shaped
unplaced_shaped = record { copies = λ to from. refl; stores = λ to. refl; passes = λ k. refl; variables = λ p. refl }

pub unplaced_known : (names : Names) → Unplaced (instruction_known names)
unplaced_known names = record { copies = λ to from. refl; stores = λ to. refl; passes = λ k. refl; variables = λ p. refl }

-- ## Calls

-- what a move takes is an argument of the call, or a place
abbrev pub Taken : List (Operand Place) → Operand Place → Type 0
Taken os o = ((k : ℕ) × (slice_get os k ≡ Some o)) ⊎ ((p : Place) × (o ≡ operand.Atom (Variable p)))

-- so it is with each move of a plan
abbrev pub Takes : Plan → Type 0
Takes plan = (tail : Bool) (a : Application ℕ) → EachMove (λ m. Taken (arguments_at plan.place a) m.from) (plan.moves tail a)

module _ (plan : Plan) (takes : Takes plan) (test : Instruction → Bool) (steers : Steers test) (u : Unplaced test) where
  -- what each operand gives into the accumulator passes the test
  abbrev pub Given : List (Operand ℕ) → Type 0
  Given [] = Unit {0}
  Given (o ∷ operands) = (test (Do (operation.Operand (operand_at plan.place o))) ≡ true) × Given operands

  given_at : (operands : List (Operand ℕ)) → Given operands → (k : ℕ) (o : Operand Place) → slice_get (operands_at plan.place operands) k ≡ Some o → test (Do (operation.Operand o)) ≡ true
  given_at [] g k o e = absurd (cc)
  given_at (x ∷ operands) g zero o e = by e where
    by : Some (operand_at plan.place x) ≡ Some o → test (Do (operation.Operand o)) ≡ true
    by e = let same : operand_at plan.place x ≡ o = cc in subst (λ o. test (Do (operation.Operand o)) ≡ true) same g.0
  given_at (x ∷ operands) g (suc k) o e = given_at operands g.1 k o e

  taken_passes : (operands : List (Operand ℕ)) → Given operands → (o : Operand Place) → Taken (operands_at plan.place operands) o → test (Do (operation.Operand o)) ≡ true
  taken_passes operands g o (inl (k, e)) = given_at operands g k o e
  taken_passes operands g o (inr (p, e)) = subst (λ o. test (Do (operation.Operand o)) ≡ true) (sym e) (u.variables p)

  writing_passes : (to : Place) → test (writing plan.limit to) ≡ true
  writing_passes (Reg r) = u.stores (Reg r)
  writing_passes (Slot j) = by (nat_lt j plan.limit) where
    by : (t : Bool) → test (cond t (Store (Slot j)) (Pass (j - plan.limit))) ≡ true
    by true = u.stores (Slot j)
    by false = u.passes (j - plan.limit)

  pub moves_pass : (tail : Bool) (a : Application ℕ) → Given (a.operator ∷ a.operands) → Leads plan test steers (move_all plan.limit (plan.moves tail a))
  moves_pass tail a g = moves_have plan.limit (λ is. list_all test is ≡ true) (λ o to. test (Do (operation.Operand o)) ≡ true)
      (λ p to good d m e is h. under_passes plan test steers m e (Copy to p) (u.copies to p) is h)
      (λ o to good m e is h. and_from _ _ good (under_passes plan test steers m e (writing plan.limit to) (writing_passes to) is h))
      (plan.moves tail a)
      (each_mapped (λ m. Taken (arguments_at plan.place a) m.from) (λ m. test (Do (operation.Operand m.from)) ≡ true) (plan.moves tail a) (λ m h. taken_passes (a.operator ∷ a.operands) g m.from h) (takes tail a))

-- ## Places

module _ (place : ℕ → Place) (words : ℕ) (P : ℕ → Type 0) (there : (x : ℕ) → P x → is_place words (place x) ≡ true) where
  atoms_placed : (atoms : List (Atom ℕ)) → AtomsHave P atoms → list_all (is_atom words) (atoms_at place atoms) ≡ true
  atoms_placed [] h = refl
  atoms_placed (Constant c ∷ atoms) h = atoms_placed atoms h.1
  atoms_placed (Literal n ∷ atoms) h = atoms_placed atoms h.1
  atoms_placed (Variable x ∷ atoms) h = and_from _ _ (there x h.0) (atoms_placed atoms h.1)

  pub operand_placed : (o : Operand ℕ) → AtomsHave P (operand_atoms o) → list_all (is_atom words) (operand_atoms (operand_at place o)) ≡ true
  operand_placed (operand.Atom a) h = atoms_placed (a ∷ []) h
  operand_placed (operand.Read site which atoms) h = atoms_placed atoms h

  pub operands_placed : (operands : List (Operand ℕ)) → AtomsHave P (operands_atoms operands) → list_all (is_atom words) (operands_atoms (operands_at place operands)) ≡ true
  operands_placed [] h = refl
  operands_placed (o ∷ operands) h =
      list_all-append (is_atom words) (operand_atoms (operand_at place o)) _
      ∙ and_from _ _ (operand_placed o (have_left P (operand_atoms o) _ h)) (operands_placed operands (have_right P (operand_atoms o) _ h))

  source_placed : (c : Source ℕ) → AtomHas P (source_atom c) → is_atom words (source_atom (source_at place c)) ≡ true
  source_placed (source.Atom (Constant c)) h = refl
  source_placed (source.Atom (Literal n)) h = refl
  source_placed (source.Atom (Variable x)) h = there x h
  source_placed (source.Field x k) h = there x h

  sources_placed : (cs : List (Source ℕ)) → AtomsHave P (source_atoms cs) → list_all (is_atom words) (source_atoms (sources_at place cs)) ≡ true
  sources_placed [] h = refl
  sources_placed (c ∷ cs) h = and_from _ _ (source_placed c h.0) (sources_placed cs h.1)

  operation_placed : (o : Operation ℕ) → AtomsHave P (operation_atoms o) → list_all (is_atom words) (operation_atoms (operation_at place o)) ≡ true
  operation_placed (operation.Operand o) h = operand_placed o h
  operation_placed (operation.Prim site which operands) h = operands_placed operands h
  operation_placed (operation.Global g) h = refl
  operation_placed (operation.SetGlobal g o) h = operand_placed o h
  operation_placed (operation.Field x k) h = and_from _ _ (there x h.0) refl
  operation_placed (operation.NewCell c) h = and_from _ _ (source_placed c h.0) refl
  operation_placed operation.UnsetCell h = refl
  operation_placed (operation.CellGet c) h = and_from _ _ (source_placed c h.0) refl
  operation_placed (operation.CellSet c o) h = and_from _ _ (source_placed c h.0) (operand_placed o h.1)
  operation_placed (operation.MakeClosure c) h = sources_placed c.fields h

  members_placed : (members : List (Member ℕ)) → MembersUse P members → are_members words (members_at place members) ≡ true
  members_placed [] u = refl
  members_placed (m ∷ members) u = and_from _ _ (there m.at u.0) (members_placed members u.1)

  member_atoms_placed : (members : List (Member ℕ)) → AtomsHave P (member_atoms members) → list_all (is_atom words) (member_atoms (members_at place members)) ≡ true
  member_atoms_placed [] h = refl
  member_atoms_placed (m ∷ members) h =
      list_all-append (is_atom words) (source_atoms (sources_at place m.closure.fields)) _
      ∙ and_from _ _ (sources_placed m.closure.fields (have_left P (source_atoms m.closure.fields) _ h)) (member_atoms_placed members (have_right P (source_atoms m.closure.fields) _ h))

-- ## Places of a layout

pub not_both : (a b : Bool) → b ≡ false → not (a && b) ≡ true
not_both true b e = ap not e
not_both false b e = refl

-- the moves of a call fit into a frame, and its operands
pub record CallFits (plan : Plan) (words : ℕ) (tail : Bool) (a : Application ℕ) : Type 0 where
  pub moves : EachMove (λ m. Fits plan.limit words m.from m.to) (plan.moves tail a)
  pub handed : length a.operands ≤ length argument_registers + words

module _ (plan : Plan) (words : ℕ) (P : ℕ → Type 0) (there : (x : ℕ) → P x → is_place words (plan.place x) ≡ true) where
  -- what an expression uses is placed, where its calls fit
  pub calls_placed : (e : Expression) → EachCall (CallFits plan words) e → Uses P e → Passes plan (instruction_placed words) (placed_steers words) e
  calls_placed (perform o) f h = operation_placed plan.place words P there o h
  calls_placed (bind x a b) f h = (there x h.0, (calls_placed a f.0 h.1.0, calls_placed b f.1 h.1.1))
  calls_placed (sequence a b) f h = (calls_placed a f.0 h.0, calls_placed b f.1 h.1)
  calls_placed (branch a b c) f h = (calls_placed a f.0 h.0, (calls_placed b f.1.0 h.1.0, calls_placed c f.1.1 h.1.1))
  calls_placed (fix members e) f h =
      (and_from _ _ (eq-eqb _ _ (as_many plan members)) (and_from _ _ (members_placed plan.place words P there members h.0) (member_atoms_placed plan.place words P there members h.1.0)), calls_placed e f h.1.1)
  calls_placed (call a restores) f h = (moves_valid plan.limit words (plan.moves false a) f.moves, le-leb (length a.operands) (length argument_registers + words) f.handed)
  calls_placed (tail_call a) f h = (moves_valid plan.limit words (plan.moves true a) f.moves, le-leb (length a.operands) (length argument_registers + words) f.handed)
  calls_placed (return e) f h = calls_placed e f h
  calls_placed (end e) f h = (refl, calls_placed e f h)
  calls_placed (save saves e) f h = calls_placed e f h

-- ### Targets

-- a slot of the frame, whose size is no more than the limit
pub slot_target : (limit words j : ℕ) → words ≤ limit → j < words → is_target limit words (Slot j) ≡ true
slot_target limit words j le lt = ap (λ t. cond t (nat_lt j words) (nat_lt (j - limit) words)) (lt-ltb j limit (omega (arith, lt, le))) ∙ lt-ltb j words lt

-- a slot of the next frame
pub next_target : (limit words j : ℕ) → j < words → is_target limit words (Slot (limit + j)) ≡ true
next_target limit words j lt =
    ap (λ t. cond t (nat_lt (limit + j) words) (nat_lt (limit + j - limit) words)) (le-ltb (limit + j) limit (omega arith)) ∙ lt-ltb (limit + j - limit) words (omega (arith, lt))

pub target_fits : (limit words : ℕ) → words ≤ limit → (tail : Bool) (k : ℕ) → k < 7 + words → is_target limit words (target tail limit k) ≡ true
target_fits limit words le tail zero lt = refl
target_fits limit words le true (suc zero) lt = refl
target_fits limit words le true (suc (suc zero)) lt = refl
target_fits limit words le true (suc (suc (suc zero))) lt = refl
target_fits limit words le true (suc (suc (suc (suc zero)))) lt = refl
target_fits limit words le true (suc (suc (suc (suc (suc zero))))) lt = refl
target_fits limit words le true (suc (suc (suc (suc (suc (suc zero)))))) lt = refl
target_fits limit words le true (suc (suc (suc (suc (suc (suc (suc j))))))) lt = slot_target limit words j le (omega (arith, lt))
target_fits limit words le false (suc zero) lt = refl
target_fits limit words le false (suc (suc zero)) lt = refl
target_fits limit words le false (suc (suc (suc zero))) lt = refl
target_fits limit words le false (suc (suc (suc (suc zero)))) lt = refl
target_fits limit words le false (suc (suc (suc (suc (suc zero))))) lt = refl
target_fits limit words le false (suc (suc (suc (suc (suc (suc zero)))))) lt = refl
target_fits limit words le false (suc (suc (suc (suc (suc (suc (suc j))))))) lt = next_target limit words (suc (suc (suc (suc (suc (suc j))))) - 6) (omega (arith, lt))

-- ## Shape and names

module _ (place : ℕ → Place) where
  length_atoms : (atoms : List (Atom ℕ)) → length (atoms_at place atoms) ≡ length atoms
  length_atoms [] = refl
  length_atoms (a ∷ atoms) = ap suc (length_atoms atoms)

  pub length_operands : (operands : List (Operand ℕ)) → length (operands_at place operands) ≡ length operands
  length_operands [] = refl
  length_operands (o ∷ operands) = ap suc (length_operands operands)

  operand_same_shape : (o : Operand ℕ) → operand_shaped (operand_at place o) ≡ operand_shaped o
  operand_same_shape (operand.Atom a) = refl
  operand_same_shape (operand.Read site which atoms) = rw (length_atoms atoms) refl

  operands_same_shape : (operands : List (Operand ℕ)) → operands_shaped (operands_at place operands) ≡ operands_shaped operands
  operands_same_shape [] = refl
  operands_same_shape (o ∷ operands) = rw (operand_same_shape o, operands_same_shape operands) refl

  operation_same_shape : (o : Operation ℕ) → operation_shaped (operation_at place o) ≡ operation_shaped o
  operation_same_shape (operation.Operand o) = operand_same_shape o
  operation_same_shape (operation.Prim site which operands) = rw (length_operands operands, operands_same_shape operands) refl
  operation_same_shape (operation.Global g) = refl
  operation_same_shape (operation.SetGlobal g o) = operand_same_shape o
  operation_same_shape (operation.Field x k) = refl
  operation_same_shape (operation.NewCell c) = refl
  operation_same_shape operation.UnsetCell = refl
  operation_same_shape (operation.CellGet c) = refl
  operation_same_shape (operation.CellSet c o) = operand_same_shape o
  operation_same_shape (operation.MakeClosure c) = rw (length_sources place c.fields) refl

  members_same_shape : (members : List (Member ℕ)) → members_shaped (members_at place members) ≡ members_shaped members
  members_same_shape [] = refl
  members_same_shape (m ∷ members) = rw (length_sources place m.closure.fields, members_same_shape members) refl

  group_same_shape : (members : List (Member ℕ)) → group_shaped (members_at place members) ≡ group_shaped members
  group_same_shape members = rw (length_members place members, members_same_shape members) refl

  module _ (names : Names) where
    atoms_same_names : (atoms : List (Atom ℕ)) → atoms_known names (atoms_at place atoms) ≡ atoms_known names atoms
    atoms_same_names [] = refl
    atoms_same_names (Constant c ∷ atoms) = rw (atoms_same_names atoms) refl
    atoms_same_names (Literal n ∷ atoms) = rw (atoms_same_names atoms) refl
    atoms_same_names (Variable x ∷ atoms) = atoms_same_names atoms

    operand_atoms_at : (o : Operand ℕ) → operand_atoms (operand_at place o) ≡ atoms_at place (operand_atoms o)
    operand_atoms_at (operand.Atom a) = refl
    operand_atoms_at (operand.Read site which atoms) = refl

    atoms_at_append : (xs ys : List (Atom ℕ)) → atoms_at place (xs ++ ys) ≡ atoms_at place xs ++ atoms_at place ys
    atoms_at_append [] ys = refl
    atoms_at_append (x ∷ xs) ys = ap (λ t. atom_at place x ∷ t) (atoms_at_append xs ys)

    operands_atoms_at : (operands : List (Operand ℕ)) → operands_atoms (operands_at place operands) ≡ atoms_at place (operands_atoms operands)
    operands_atoms_at [] = refl
    operands_atoms_at (o ∷ operands) = rw (operand_atoms_at o, operands_atoms_at operands) (sym (atoms_at_append (operand_atoms o) (operands_atoms operands)))

    operand_same_names : (o : Operand ℕ) → atoms_known names (operand_atoms (operand_at place o)) ≡ atoms_known names (operand_atoms o)
    operand_same_names o = ap (atoms_known names) (operand_atoms_at o) ∙ atoms_same_names (operand_atoms o)

    source_atom_at : (c : Source ℕ) → source_atom (source_at place c) ≡ atom_at place (source_atom c)
    source_atom_at (source.Atom a) = refl
    source_atom_at (source.Field x k) = refl

    sources_atoms_at : (cs : List (Source ℕ)) → source_atoms (sources_at place cs) ≡ atoms_at place (source_atoms cs)
    sources_atoms_at [] = refl
    sources_atoms_at (c ∷ cs) = rw (source_atom_at c, sources_atoms_at cs) refl

    atom_same_name : (a : Atom ℕ) → atom_known names.symbols names.literals (atom_at place a) ≡ atom_known names.symbols names.literals a
    atom_same_name (Constant c) = refl
    atom_same_name (Literal n) = refl
    atom_same_name (Variable x) = refl

    source_same_name : (c : Source ℕ) → atom_known names.symbols names.literals (source_atom (source_at place c)) ≡ atom_known names.symbols names.literals (source_atom c)
    source_same_name c = ap (atom_known names.symbols names.literals) (source_atom_at c) ∙ atom_same_name (source_atom c)

    operation_same_names : (o : Operation ℕ) → operation_known names (operation_at place o) ≡ operation_known names o
    operation_same_names (operation.Operand o) = rw (operand_same_names o) refl
    operation_same_names (operation.Prim site which operands) =
        ap (λ t. t && (true && true)) (ap (atoms_known names) (operands_atoms_at operands) ∙ atoms_same_names (operands_atoms operands))
    operation_same_names (operation.Global g) = refl
    operation_same_names (operation.SetGlobal g o) = rw (operand_same_names o) refl
    operation_same_names (operation.Field x k) = refl
    operation_same_names (operation.NewCell c) = rw (source_same_name c) refl
    operation_same_names operation.UnsetCell = refl
    operation_same_names (operation.CellGet c) = rw (source_same_name c) refl
    operation_same_names (operation.CellSet c o) = rw (source_same_name c, operand_same_names o) refl
    operation_same_names (operation.MakeClosure c) =
        rw (length_sources place c.fields) (ap (λ t. t && (true && closure_known names.entries c)) (ap (atoms_known names) (sources_atoms_at c.fields) ∙ atoms_same_names (source_atoms c.fields)))

    member_atoms_at : (members : List (Member ℕ)) → member_atoms (members_at place members) ≡ atoms_at place (member_atoms members)
    member_atoms_at [] = refl
    member_atoms_at (m ∷ members) = rw (sources_atoms_at m.closure.fields, member_atoms_at members) (sym (atoms_at_append (source_atoms m.closure.fields) (member_atoms members)))

    members_same_names : (members : List (Member ℕ)) → members_known names.entries (members_at place members) ≡ members_known names.entries members
    members_same_names [] = refl
    members_same_names (m ∷ members) = rw (length_sources place m.closure.fields, members_same_names members) refl

    group_same_names : (members : List (Member ℕ)) → group_known names (members_at place members) ≡ group_known names members
    group_same_names members =
        ap (λ b. b && members_known names.entries (members_at place members)) (ap (atoms_known names) (member_atoms_at members) ∙ atoms_same_names (member_atoms members))
        ∙ ap (λ b. atoms_known names (member_atoms members) && b) (members_same_names members)

-- ## Expressions

module _ (plan : Plan) (takes : Takes plan) where
  given_shaped : (operands : List (Operand ℕ)) → operands_shaped operands ≡ true → Given plan takes instruction_shaped shaped_steers unplaced_shaped operands
  given_shaped [] h = tt
  given_shaped (o ∷ operands) h = let parts = and_parts _ _ h in (operand_same_shape plan.place o ∙ parts.0, given_shaped operands parts.1)

  pub parts_shaped : (e : Expression) → shaped e ≡ true → Passes plan instruction_shaped shaped_steers e
  parts_shaped (perform o) h = operation_same_shape plan.place o ∙ h
  parts_shaped (bind x a b) h = let more = and_parts _ _ h in (refl, (parts_shaped a more.0, parts_shaped b more.1))
  parts_shaped (sequence a b) h = let more = and_parts _ _ h in (parts_shaped a more.0, parts_shaped b more.1)
  parts_shaped (branch a b c) h =
      let more = and_parts _ _ h in
      let most = and_parts _ _ more.1 in
      (parts_shaped a more.0, (parts_shaped b most.0, parts_shaped c most.1))
  parts_shaped (return e) h = parts_shaped e h
  parts_shaped (end e) h = (refl, parts_shaped e h)
  parts_shaped (fix members e) h = let parts = and_parts _ _ h in (group_same_shape plan.place members ∙ parts.0, parts_shaped e parts.1)
  parts_shaped (call a restores) h =
      let parts = and_parts _ _ h in
      let more = and_parts _ _ parts.1 in
      (moves_pass plan takes instruction_shaped shaped_steers unplaced_shaped false a (given_shaped (a.operator ∷ a.operands) more.1), and_from _ _ parts.0 more.0)
  parts_shaped (tail_call a) h =
      let parts = and_parts _ _ h in
      let more = and_parts _ _ parts.1 in
      (moves_pass plan takes instruction_shaped shaped_steers unplaced_shaped true a (given_shaped (a.operator ∷ a.operands) more.1), and_from _ _ parts.0 more.0)
  parts_shaped (save saves e) h = parts_shaped e h

  module _ (names : Names) where
    abbrev parts_known : Expression → Bool
    parts_known e = each_part (record { operation = operation_known names; application = application_known names; group = group_known names }) e

    known_left : (xs ys : List (Atom ℕ)) → atoms_known names (xs ++ ys) ≡ true → atoms_known names xs ≡ true
    known_left [] ys h = refl
    known_left (x ∷ xs) ys h = let parts = and_parts _ _ h in and_from _ _ parts.0 (known_left xs ys parts.1)

    known_right : (xs ys : List (Atom ℕ)) → atoms_known names (xs ++ ys) ≡ true → atoms_known names ys ≡ true
    known_right [] ys h = h
    known_right (x ∷ xs) ys h = known_right xs ys (and_parts _ _ h).1

    given_named : (operands : List (Operand ℕ)) → atoms_known names (operands_atoms operands) ≡ true → Given plan takes (instruction_known names) (known_steers names) (unplaced_known names) operands
    given_named [] h = tt
    given_named (o ∷ operands) h = (operation_same_names plan.place names (operation.Operand o) ∙ and_from _ _ (known_left (operand_atoms o) _ h) refl, given_named operands (known_right (operand_atoms o) _ h))

    pub parts_named : (e : Expression) → parts_known e ≡ true → Passes plan (instruction_known names) (known_steers names) e
    parts_named (perform o) h = operation_same_names plan.place names o ∙ h
    parts_named (bind x a b) h = let more = and_parts _ _ h in (refl, (parts_named a more.0, parts_named b more.1))
    parts_named (sequence a b) h = let more = and_parts _ _ h in (parts_named a more.0, parts_named b more.1)
    parts_named (branch a b c) h =
        let more = and_parts _ _ h in
        let most = and_parts _ _ more.1 in
        (parts_named a more.0, (parts_named b most.0, parts_named c most.1))
    parts_named (return e) h = parts_named e h
    parts_named (end e) h = (refl, parts_named e h)
    parts_named (fix members e) h = let parts = and_parts _ _ h in (group_same_names plan.place names members ∙ parts.0, parts_named e parts.1)
    parts_named (call a restores) h = (moves_pass plan takes (instruction_known names) (known_steers names) (unplaced_known names) false a (given_named (a.operator ∷ a.operands) h), refl)
    parts_named (tail_call a) h = (moves_pass plan takes (instruction_known names) (known_steers names) (unplaced_known names) true a (given_named (a.operator ∷ a.operands) h), refl)
    parts_named (save saves e) h = parts_named e h
