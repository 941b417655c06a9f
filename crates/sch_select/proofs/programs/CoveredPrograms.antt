-- A valid frame program that is covered is selected.
use Rattle.std.proofs.Common.{◌≡◌, ℕ, zero, suc, ◌+◌, ◌<◌, ◌≤◌, List, [], ◌∷◌, ◌++◌, length, Option, Some, None}
use Rattle.std.proofs.Common.{Bool, true, false, refl, sym, ap, ◌∙◌, subst, arith, ◌&&◌, ◌||◌, eq-eqb}
use Rattle.std.specs.Prelude.{not, nat_eq, nat_le, nat_lt, slice_get}
use Rattle.std.specs.List.{list_all}
use Rattle.std.proofs.lemmas.Bool.{and_parts, and_from, leb-true, le-leb, ltb-true, lt-ltb, eqb-true}
use Rattle.sch_word.specs.declared.place.Place.{Place}
use Rattle.sch_word.specs.declared.place.Place.TheVariants.{Reg, Slot}
use Rattle.sch_word.specs.declared.primitive.Primitive.{Primitive}
use Rattle.sch_word.specs.declared.primitive.Primitive.TheVariants.{Eq}
use Rattle.sch_word.specs.values.Literals.{count_literals, literals_known, literals_in_range}
use Rattle.sch_word.specs.values.Primitives.{operands_of}
use Rattle.sch_word.specs.runs.Runs.{statics_size, max_statics, statics_valid, statics_in_range, library_known}
use Rattle.sch_word.specs.trees.Covered.{is_covered_primitive}
use Rattle.sch_word.specs.trees.Shape.{max_library, max_operands}
use Rattle.sch_word.specs.values.Values.{are_bytes}
use Rattle.sch_control.specs.declared.operation.Atom.{Atom}
use Rattle.sch_control.specs.declared.operation.Atom.TheVariants.{Constant, Literal, Variable}
use Rattle.sch_control.specs.declared.operation.Operand.{Operand}
use Rattle.sch_control.specs.declared.operation.Operand.TheVariants as operand
use Rattle.sch_control.specs.declared.body.Entry.{Entry}
use Rattle.sch_control.specs.declared.operation.Source.{Source}
use Rattle.sch_control.specs.declared.operation.Source.TheVariants as source
use Rattle.sch_control.specs.declared.operation.Closure.{Closure}
use Rattle.sch_control.specs.declared.operation.Member.{Member}
use Rattle.sch_control.specs.declared.operation.Operation.{Operation}
use Rattle.sch_frames.specs.Tree.{Code}
use Rattle.sch_frames.specs.Run.{entries_of}
use Rattle.sch_select_operations.proofs.simulation.SelectedPrograms.{takes, atom_selected, read_selected, operand_selected}
use Rattle.sch_select_operations.proofs.simulation.SelectedPrograms.{source_selected, closure_selected, members_selected}
use Rattle.sch_select_operations.proofs.simulation.SelectedPrograms.{primitive_selected, operation_selected, instruction_selected}
use Rattle.sch_select_operations.proofs.simulation.SelectedPrograms.{form_selected, entry_selected, members_few, operation_few}
use Rattle.sch_select_operations.proofs.simulation.SelectedPrograms.{labels_few, selects}
use Rattle.sch_control.specs.Covered.{is_covered_source, is_covered_closure, is_covered_member, is_covered_operation}
use Rattle.sch_frames.specs.Covered.{is_covered_code, is_covered_instruction, is_covered_program, marks_settled}
use Rattle.sch_frames.specs.Covered.{closure_low, instruction_low, member_low, operation_low, source_low}
use Rattle.sch_select.proofs.programs.FreeCodes.{code_parts}
use Rattle.sch_control.specs.declared.operation.Operation.TheVariants as operation
use Rattle.sch_control.specs.AtomsAndSites.{operand_atoms, operands_atoms, operation_atoms, source_atom, source_atoms, member_atoms}
use Rattle.sch_control.specs.CoveredOperands.{is_covered_atom, is_covered_operand}
use Rattle.sch_control.specs.Valid.{Names, only_reads, operand_shaped, operands_shaped, operation_shaped}
use Rattle.sch_control.specs.Valid.{closure_shaped, members_shaped, atom_known, atoms_known, global_known}
use Rattle.sch_control.specs.Valid.{closure_known, members_known, label_known, operation_known, enters, entry_shaped}
use Rattle.sch_control.specs.Valid.{without_fields}
use Rattle.sch_frames.specs.declared.frame_body.FrameBody.{FrameBody}
use Rattle.sch_frames.specs.declared.instruction.Instruction.{Instruction}
use Rattle.sch_frames.specs.declared.instruction.Instruction.TheVariants.{Do, Store, Copy, Pass, Fix, Call}
use Rattle.sch_frames.specs.declared.instruction.Instruction.TheVariants.{Tail, Return, End, IfFalse, Jump, Label}
use Rattle.sch_frames.specs.declared.instruction.Instruction.TheVariants.{Mark}
use Rattle.sch_frames.specs.declared.frame_program.FrameProgram.{FrameProgram}
use Rattle.sch_frames.specs.ProgramView as view
use Rattle.sch_frames.specs.SourceView.{code_of, codes_of}
use Rattle.sch_word.specs.values.Places.{is_slot}
use Rattle.sch_control.specs.flow.Places.{formals_of}
use Rattle.sch_frames.specs.Valid.{is_place, is_atom, are_members, call_shaped, handed_over, in_slots, max_words}
use Rattle.sch_frames.specs.Valid.{instruction_placed, instruction_shaped, instruction_known, names_of}

-- ## Counts of operands

some_operands : (which : Primitive) → nat_le 1 (operands_of which) ≡ true
some_operands Eq = refl
some_operands _ = refl

-- what reads has two operands at most, and any primitive three
two_operands : (which : Primitive) → (only_reads which && nat_le 3 (operands_of which)) ≡ false
two_operands Eq = refl
two_operands _ = refl

three_operands : (which : Primitive) → nat_le 4 (operands_of which) ≡ false
three_operands Eq = refl
three_operands _ = refl

none : (which : Primitive) → nat_eq 0 (operands_of which) ≡ true → ⊥
none which e =
    let i = eqb-true 0 (operands_of which) e in
    let l = leb-true 1 (operands_of which) (some_operands which) in
    omega (arith, i, l)

many_read : (which : Primitive) (n : ℕ) → 3 ≤ n → only_reads which ≡ true → nat_eq n (operands_of which) ≡ true → ⊥
many_read which n le s e =
    let i = eqb-true n (operands_of which) e in
    let l = le-leb 3 (operands_of which) (omega (arith, i, le)) in
    let bad : true ≡ false = sym (and_from (only_reads which) (nat_le 3 (operands_of which)) s l) ∙ two_operands which in
    absurd cc

many : (which : Primitive) (n : ℕ) → 4 ≤ n → nat_eq n (operands_of which) ≡ true → ⊥
many which n le e =
    let i = eqb-true n (operands_of which) e in
    let l = le-leb 4 (operands_of which) (omega (arith, i, le)) in
    let bad : true ≡ false = sym l ∙ three_operands which in
    absurd cc

counted : (count : ℕ) (which : Primitive) → nat_eq count (operands_of which) ≡ true → takes count which ≡ true
counted count which e = eq-eqb (operands_of which) count (sym (eqb-true count (operands_of which) e))

-- ## Operations

module _ (w words : ℕ) (names : Names) (narrow : w ≤ words) where
  place_taken : (p : Place) → is_place w p ≡ true → is_place words p ≡ true
  place_taken (Reg r) e = e
  place_taken (Slot j) e = let lt = ltb-true j w e in lt-ltb j words (omega (arith, lt, narrow))

  atom_taken : (a : Atom Place) → is_covered_atom a ≡ true → is_atom w a ≡ true
      → atom_known names.symbols names.literals a ≡ true → atom_selected words names.globals names.symbols names.literals a ≡ true
  atom_taken (Constant c) s p k = k
  atom_taken (Literal n) s p k = k
  atom_taken (Variable q) s p k = place_taken q p

  read_taken : (which : Primitive) (atoms : List (Atom Place)) → is_covered_primitive which ≡ true
      → only_reads which ≡ true → nat_eq (length atoms) (operands_of which) ≡ true
      → list_all is_covered_atom atoms ≡ true → list_all (is_atom w) atoms ≡ true → atoms_known names atoms ≡ true
      → read_selected words names.globals names.symbols names.literals which atoms ≡ true
  read_taken which [] s r n a p k = absurd (none which n)
  read_taken which (x ∷ []) s r n a p k =
      and_from (only_reads which && takes 1 which) (atom_selected words names.globals names.symbols names.literals x)
      (and_from (only_reads which) (takes 1 which) r (counted 1 which n))
      (atom_taken x (and_parts _ _ a).0 (and_parts _ _ p).0 (and_parts _ _ k).0)
  read_taken which (x ∷ (y ∷ [])) s r n a p k =
      let a' = and_parts _ _ a in
      let p' = and_parts _ _ p in
      let k' = and_parts _ _ k in
      and_from (only_reads which && takes 2 which)
      (atom_selected words names.globals names.symbols names.literals x && atom_selected words names.globals names.symbols names.literals y)
      (and_from (only_reads which) (takes 2 which) r (counted 2 which n))
      (and_from (atom_selected words names.globals names.symbols names.literals x) (atom_selected words names.globals names.symbols names.literals y)
      (atom_taken x a'.0 p'.0 k'.0) (atom_taken y (and_parts _ _ a'.1).0 (and_parts _ _ p'.1).0
      (and_parts _ _ k'.1).0))
  read_taken which (x ∷ (y ∷ (z ∷ atoms))) s r n a p k = absurd
      (many_read which (length (x ∷ (y ∷ (z ∷ atoms)))) (omega arith) r n)

  operand_taken : (o : Operand Place) → is_covered_operand o ≡ true → operand_shaped o ≡ true
      → list_all (is_atom w) (operand_atoms o) ≡ true → atoms_known names (operand_atoms o) ≡ true
      → operand_selected words names.globals names.symbols names.literals o ≡ true
  operand_taken (operand.Atom a) s h p k = atom_taken a s (and_parts _ _ p).0 (and_parts _ _ k).0
  operand_taken (operand.Read site which atoms) s h p k =
      let s' = and_parts (is_covered_primitive which) (list_all is_covered_atom atoms) s in
      let h' = and_parts (only_reads which) (nat_eq (length atoms) (operands_of which)) h in
      read_taken which atoms s'.0 h'.0 h'.1 s'.1 p k

  -- what the operands of a primitive are known to be
  record Operands (operands : List (Operand Place)) : Type 0 where
    straight : list_all is_covered_operand operands ≡ true
    shaped : operands_shaped operands ≡ true
    placed : list_all (is_atom w) (operands_atoms operands) ≡ true
    known : atoms_known names (operands_atoms operands) ≡ true

  placed_split : (xs ys : List (Atom Place)) → list_all (is_atom w) (xs ++ ys) ≡ true
      → (list_all (is_atom w) xs ≡ true) × (list_all (is_atom w) ys ≡ true)
  placed_split [] ys h = (refl, h)
  placed_split (x ∷ xs) ys h = let p = and_parts _ _ h in let q = placed_split xs ys p.1 in (and_from _ _ p.0 q.0, q.1)

  known_split : (xs ys : List (Atom Place)) → atoms_known names (xs ++ ys) ≡ true → (atoms_known names xs ≡ true)
      × (atoms_known names ys ≡ true)
  known_split [] ys h = (refl, h)
  known_split (x ∷ xs) ys h = let p = and_parts _ _ h in let q = known_split xs ys p.1 in (and_from _ _ p.0 q.0, q.1)

  first_taken : (o : Operand Place) (operands : List (Operand Place)) → Operands (o ∷ operands)
      → operand_selected words names.globals names.symbols names.literals o ≡ true
  first_taken o operands h =
      operand_taken o (and_parts _ _ h.straight).0 (and_parts _ _ h.shaped).0
      (placed_split (operand_atoms o) (operands_atoms operands) h.placed).0
      (known_split (operand_atoms o) (operands_atoms operands) h.known).0

  others : (o : Operand Place) (operands : List (Operand Place)) → Operands (o ∷ operands) → Operands operands
  others o operands h = record {
    straight = (and_parts _ _ h.straight).1;
    shaped = (and_parts _ _ h.shaped).1;
    placed = (placed_split (operand_atoms o) (operands_atoms operands) h.placed).1;
    known = (known_split (operand_atoms o) (operands_atoms operands) h.known).1;
  }

  abbrev selected : Operand Place → Bool
  selected o = operand_selected words names.globals names.symbols names.literals o

  primitive_taken : (which : Primitive) (operands : List (Operand Place)) → is_covered_primitive which ≡ true
      → nat_eq (length operands) (operands_of which) ≡ true → Operands operands
      → primitive_selected words names.globals names.symbols names.literals which operands ≡ true
  primitive_taken which [] s n h = absurd (none which n)
  primitive_taken which (o ∷ []) s n h = and_from (takes 1 which) (operand_selected words names.globals names.symbols names.literals o)
      (counted 1 which n) (first_taken o [] h)
  primitive_taken which (o ∷ (q ∷ [])) s n h =
      and_from (takes 2 which) (operand_selected words names.globals names.symbols names.literals o && operand_selected words names.globals names.symbols names.literals q)
      (counted 2 which n)
      (and_from (operand_selected words names.globals names.symbols names.literals o) (operand_selected words names.globals names.symbols names.literals q)
      (first_taken o (q ∷ []) h) (first_taken q [] (others o (q ∷ []) h)))
  primitive_taken which (o ∷ (q ∷ (r ∷ []))) s n h =
      let rest = others o (q ∷ (r ∷ [])) h in
      and_from (takes 3 which) (selected o && (selected q && selected r)) (counted 3 which n)
      (and_from (selected o) (selected q && selected r) (first_taken o (q ∷ (r ∷ [])) h)
      (and_from (selected q) (selected r) (first_taken q (r ∷ []) rest) (first_taken r [] (others q (r ∷ []) rest))))
  primitive_taken which (o ∷ (q ∷ (r ∷ (t ∷ operands)))) s n h = absurd
      (many which (length (o ∷ (q ∷ (r ∷ (t ∷ operands))))) (omega arith) n)

  -- ## Closures

  source_taken : (x : Source Place) → is_covered_source x ≡ true → source_low x ≡ true → is_atom w (source_atom x) ≡ true
      → atom_known names.symbols names.literals (source_atom x) ≡ true → source_selected words names.globals names.symbols names.literals x ≡ true
  source_taken (source.Atom a) s l p k = atom_taken a s p k
  source_taken (source.Field q n) s l p k = and_from (is_place words q) (nat_lt n 1000) (place_taken q p) l

  sources_taken : (sources : List (Source Place)) → list_all is_covered_source sources ≡ true
      → list_all source_low sources ≡ true
      → list_all (is_atom w) (source_atoms sources) ≡ true → atoms_known names (source_atoms sources) ≡ true
      → list_all (source_selected words names.globals names.symbols names.literals) sources ≡ true
  sources_taken [] s l p k = refl
  sources_taken (x ∷ sources) s l p k =
      let s' = and_parts _ _ s in
      let l' = and_parts _ _ l in
      let p' = and_parts _ _ p in
      let k' = and_parts _ _ k in
      and_from _ _ (source_taken x s'.0 l'.0 p'.0 k'.0) (sources_taken sources s'.1 l'.1 p'.1 k'.1)

  closure_taken : (c : Closure Place) → is_covered_closure c ≡ true → closure_low c ≡ true → closure_shaped c ≡ true
      → list_all (is_atom w) (source_atoms c.fields) ≡ true → atoms_known names (source_atoms c.fields) ≡ true
      → closure_selected words names.globals names.symbols names.literals c ≡ true
  closure_taken c s l h p k = and_from (nat_le (length c.fields) 1000)
      (list_all (source_selected words names.globals names.symbols names.literals) c.fields) h (sources_taken c.fields s l p k)

  members_taken : (members : List (Member Place)) → list_all is_covered_member members ≡ true
      → list_all member_low members ≡ true → members_shaped members ≡ true
      → are_members w members ≡ true → list_all (is_atom w) (member_atoms members) ≡ true
      → atoms_known names (member_atoms members) ≡ true → members_selected words names.globals names.symbols names.literals members ≡ true
  members_taken [] s l h a p k = refl
  members_taken (m ∷ members) s l h a p k =
      let s' = and_parts (is_covered_member m) (list_all is_covered_member members) s in
      let l' = and_parts (member_low m) (list_all member_low members) l in
      let h' = and_parts (closure_shaped m.closure) (members_shaped members) h in
      let a' = and_parts (is_place w m.at) (are_members w members) a in
      let p' = placed_split (source_atoms m.closure.fields) (member_atoms members) p in
      let k' = known_split (source_atoms m.closure.fields) (member_atoms members) k in
      and_from (is_place words m.at) (closure_selected words names.globals names.symbols names.literals m.closure && members_selected words
      names.globals names.symbols names.literals members) (place_taken m.at a'.0)
      (and_from (closure_selected words names.globals names.symbols names.literals m.closure) (members_selected words names.globals names.symbols names.literals members)
      (closure_taken m.closure s'.0 l'.0 h'.0 p'.0 k'.0) (members_taken members s'.1 l'.1 h'.1 a'.1 p'.1 k'.1))

  operation_taken : (o : Operation Place) → is_covered_operation o ≡ true → operation_low o ≡ true
      → operation_shaped o ≡ true
      → list_all (is_atom w) (operation_atoms o) ≡ true → operation_known names o ≡ true
      → operation_selected words names.globals names.symbols names.literals o ≡ true
  operation_taken (operation.Operand o) s l h p k = operand_taken o s h p (and_parts _ _ k).0
  operation_taken (operation.Prim site which operands) s l h p k =
      let s' = and_parts (is_covered_primitive which) (list_all is_covered_operand operands) s in
      let h' = and_parts (nat_eq (length operands) (operands_of which)) (operands_shaped operands) h in
      primitive_taken which operands s'.0 h'.0
      (record { straight = s'.1; shaped = h'.1; placed = p; known = (and_parts _ _ k).0 })
  operation_taken (operation.Global g) s l h p k = (and_parts (nat_lt g names.globals) true k).0
  operation_taken (operation.SetGlobal g o) s l h p k =
      let k' = and_parts (atoms_known names (operand_atoms o)) (nat_lt g names.globals && true) k in
      and_from (nat_lt g names.globals) (operand_selected words names.globals names.symbols names.literals o)
      (and_parts (nat_lt g names.globals) true k'.1).0 (operand_taken o s h p k'.0)
  operation_taken (operation.Field q n) s l h p k = and_from (is_place words q) (nat_lt n 1000)
      (place_taken q (and_parts _ _ p).0) l
  operation_taken (operation.NewCell x) s l h p k = source_taken x s l (and_parts _ _ p).0
      (and_parts _ _ (and_parts _ _ k).0).0
  operation_taken operation.UnsetCell s l h p k = refl
  operation_taken (operation.CellGet x) s l h p k = source_taken x s l (and_parts _ _ p).0
      (and_parts _ _ (and_parts _ _ k).0).0
  operation_taken (operation.CellSet x o) s l h p k =
      let s' = and_parts (is_covered_source x) (is_covered_operand o) s in
      let p' = and_parts (is_atom w (source_atom x)) (list_all (is_atom w) (operand_atoms o)) p in
      let k' = and_parts (atom_known names.symbols names.literals (source_atom x))
      (atoms_known names (operand_atoms o)) (and_parts (atoms_known names (source_atom x ∷ operand_atoms o)) _
      k).0 in
      and_from (source_selected words names.globals names.symbols names.literals x) (operand_selected words names.globals names.symbols names.literals o)
      (source_taken x s'.0 l p'.0 k'.0) (operand_taken o s'.1 h p'.1 k'.1)
  operation_taken (operation.MakeClosure c) s l h p k = closure_taken c s l h p
      (and_parts (atoms_known names (source_atoms c.fields)) _ k).0

  -- ## Bodies

  -- the operands of a call
  call_taken : (spread : Bool) (count : ℕ) → not spread ≡ true → handed_over w count ≡ true
      → call_shaped spread count ≡ true
      → (not spread && (nat_le count max_operands && handed_over words count)) ≡ true
  call_taken spread count s p h =
      let le = leb-true count (6 + w) p in
      and_from (not spread) _ s (and_from (nat_le count max_operands) (handed_over words count)
      (and_parts (nat_le count max_operands) (not spread || nat_le 1 count) h).0
      (le-leb count (6 + words) (omega (arith, le, narrow))))

  instruction_taken : (i : Instruction) → is_covered_instruction i ≡ true → instruction_low i ≡ true
      → instruction_placed w i ≡ true
      → instruction_shaped i ≡ true → instruction_known names i ≡ true
      → instruction_selected words names.globals names.symbols names.literals i ≡ true
  instruction_taken (Do o) s l p h k = operation_taken o s l h p k
  instruction_taken (Store q) s l p h k = place_taken q p
  instruction_taken (Copy to from) s l p h k =
      let q = and_parts (not (is_slot to && is_slot from)) (is_place w to && is_place w from) p in
      let p' = and_parts (is_place w to) (is_place w from) q.1 in
      and_from (not (is_slot to && is_slot from)) (is_place words to && is_place words from) q.0
      (and_from (is_place words to) (is_place words from) (place_taken to p'.0) (place_taken from p'.1))
  instruction_taken (Pass j) s l p h k = let lt = ltb-true j w p in lt-ltb j words (omega (arith, lt, narrow))
  instruction_taken (Call spread count) s l p h k = call_taken spread count s p h
  instruction_taken (Tail spread count) s l p h k = call_taken spread count s p h
  instruction_taken (Fix members spills) s l p h k =
      let q = and_parts (nat_eq (length spills) (in_slots members)) (are_members w members && list_all (is_atom w) (member_atoms members)) p in
      let p' = and_parts (are_members w members) (list_all (is_atom w) (member_atoms members)) q.1 in
      let h' = and_parts (nat_le (length members) max_operands) (members_shaped members) h in
      let k' = and_parts (atoms_known names (member_atoms members)) (members_known names.entries members) k in
      and_from (nat_eq (length spills) (in_slots members)) _ q.0
      (and_from (nat_le (length members) max_operands) (members_selected words names.globals names.symbols names.literals members) h'.0
      (members_taken members s l h'.1 p'.0 p'.1 k'.0))
  instruction_taken Return s l p h k = refl
  instruction_taken End s l p h k = refl
  instruction_taken (IfFalse j) s l p h k = refl
  instruction_taken (Jump j) s l p h k = refl
  instruction_taken (Label j) s l p h k = refl
  instruction_taken (Mark m) s l p h k = refl

  instructions_taken : (is : List Instruction) → list_all is_covered_instruction is ≡ true
      → list_all instruction_low is ≡ true
      → list_all (instruction_placed w) is ≡ true → list_all instruction_shaped is ≡ true
      → list_all (instruction_known names) is ≡ true → list_all (instruction_selected words names.globals names.symbols names.literals) is ≡ true
  instructions_taken [] s l p h k = refl
  instructions_taken (i ∷ is) s l p h k =
      let s' = and_parts _ _ s in
      let l' = and_parts _ _ l in
      let p' = and_parts _ _ p in
      let h' = and_parts _ _ h in
      let k' = and_parts _ _ k in
      and_from _ _ (instruction_taken i s'.0 l'.0 p'.0 h'.0 k'.0) (instructions_taken is s'.1 l'.1 p'.1 h'.1 k'.1)

formals_few : (o : Option Entry) → entry_shaped o ≡ true → nat_le (formals_of o) max_operands ≡ true
formals_few None e = refl
formals_few (Some q) e = (and_parts (nat_le q.formals max_operands) _ e).0

forms_taken : (words : ℕ) (names : Names) (bodies : List FrameBody)
    → list_all is_covered_code (codes_of bodies) ≡ true
    → list_all (λ c. list_all (instruction_known names) c.instructions) (codes_of bodies) ≡ true
    → list_all (λ c. nat_le c.words words) (codes_of bodies) ≡ true
    → list_all (form_selected words names.globals names.symbols names.literals) (codes_of bodies) ≡ true
forms_taken words names [] s k l = refl
forms_taken words names (b ∷ bodies) s k l =
    let s' = and_parts _ _ s in
    let k' = and_parts _ _ k in
    let l' = and_parts _ _ l in
    let form = code_parts (code_of b) s'.0 in
    let placed = and_parts _ _ (and_parts _ _ b.placed).1 in
    and_from _ _ (and_from _ _ (formals_few b.entry (and_parts _ _ b.shaped).0)
    (instructions_taken b.words words names (leb-true b.words words l'.0) b.instructions form.free form.low placed.1
    (and_parts _ _ b.shaped).1 k'.0)) (forms_taken words names bodies s'.1 k'.1 l'.1)

entry_taken : (o : Option Entry) (w words : ℕ) → w ≤ words → entry_shaped o ≡ true → handed_over w (formals_of o) ≡ true
    → entry_selected words o ≡ true
entry_taken None w words le e h = refl
entry_taken (Some q) w words le e h =
    let some = (and_parts (not q.rest || nat_le 1 q.formals) _ (and_parts (nat_le q.formals max_operands) _ e).1).0 in
    let few = leb-true q.formals (6 + w) h in
    and_from (nat_le 1 q.formals || not q.rest) (nat_le q.formals (6 + words)) (other_way q.rest (nat_le 1 q.formals) some)
    (le-leb q.formals (6 + words) (omega (arith, few, le)))
  where
    other_way : (r a : Bool) → (not r || a) ≡ true → (a || not r) ≡ true
    other_way r true e = refl
    other_way true false e = e
    other_way false false e = refl

entries_taken : (words : ℕ) (bodies : List FrameBody) → list_all (λ c. nat_le c.words words) (codes_of bodies) ≡ true
    → list_all (λ c. entry_selected words c.entry) (codes_of bodies) ≡ true
entries_taken words [] l = refl
entries_taken words (b ∷ bodies) l =
    let l' = and_parts _ _ l in
    let placed = and_parts _ _ (and_parts _ _ b.placed).1 in
    and_from _ _ (entry_taken b.entry b.words words (leb-true b.words words l'.0) (and_parts _ _ b.shaped).0 placed.0)
    (entries_taken words bodies l'.1)

forms_settled : (codes : List Code) → list_all is_covered_code codes ≡ true
    → list_all (λ c. marks_settled true c.instructions) codes ≡ true
forms_settled [] s = refl
forms_settled (c ∷ codes) s =
    let s' = and_parts (is_covered_code c) (list_all is_covered_code codes) s in
    and_from _ _ (code_parts c s'.0).settled (forms_settled codes s'.1)

-- ## Labels

-- an entry that there is
entered : (entries : List (Option Entry)) (label fields : ℕ) → enters (slice_get entries label) fields ≡ true
    → label < length entries
entered [] label fields e = absurd (let bad : false ≡ true = e in cc)
entered (x ∷ entries) zero fields e = omega arith
entered (x ∷ entries) (suc label) fields e = let h = entered entries label fields e in omega (arith, h)

entries_count : (codes : List Code) → length (entries_of codes) ≡ length codes
entries_count [] = refl
entries_count (c ∷ codes) = ap suc (entries_count codes)

module _ (names : Names) where
  closure_few : (c : Closure Place) → closure_known names.entries c ≡ true
      → nat_lt c.label (length names.entries) ≡ true
  closure_few c k = lt-ltb c.label (length names.entries) (entered names.entries c.label (length c.fields) k)

  group_few : (members : List (Member Place)) → members_known names.entries members ≡ true
      → members_few (length names.entries) members ≡ true
  group_few [] k = refl
  group_few (m ∷ members) k = let p = and_parts (closure_known names.entries m.closure)
      (members_known names.entries members) k in and_from _ _ (closure_few m.closure p.0) (group_few members p.1)

  one_few : (o : Operation Place) → label_known names.entries o ≡ true → operation_few (length names.entries) o ≡ true
  one_few (operation.MakeClosure c) k = closure_few c k
  one_few (operation.Operand o) k = refl
  one_few _ k = refl

  instruction_few : (i : Instruction) → instruction_known names i ≡ true → labels_few (length names.entries) i ≡ true
  instruction_few (Do o) k = one_few o (and_parts (global_known names.globals o) (label_known names.entries o)
      (and_parts (atoms_known names (operation_atoms o)) _ k).1).1
  instruction_few (Fix members spills) k = group_few members
      (and_parts (atoms_known names (member_atoms members)) (members_known names.entries members) k).1
  instruction_few (Store q) k = refl
  instruction_few _ k = refl

  body_few : (is : List Instruction) → list_all (instruction_known names) is ≡ true
      → list_all (labels_few (length names.entries)) is ≡ true
  body_few [] k = refl
  body_few (i ∷ is) k = let p = and_parts _ _ k in and_from _ _ (instruction_few i p.0) (body_few is p.1)

  bodies_few : (codes : List Code) → list_all (λ c. list_all (instruction_known names) c.instructions) codes ≡ true
      → list_all (λ c. list_all (labels_few (length names.entries)) c.instructions) codes ≡ true
  bodies_few [] k = refl
  bodies_few (c ∷ codes) k = let p = and_parts _ _ k in and_from _ _ (body_few c.instructions p.0)
      (bodies_few codes p.1)

library_few_by : (entries : List (Option Entry)) (library : List ℕ) → without_fields entries library ≡ true
    → list_all (λ l. nat_lt l (length entries)) library ≡ true
library_few_by entries [] k = refl
library_few_by entries (l ∷ library) k = let p = and_parts (enters (slice_get entries l) 0)
    (without_fields entries library) k in and_from _ _ (lt-ltb l (length entries) (entered entries l 0 p.0))
    (library_few_by entries library p.1)

pub labels_known : (p : FrameProgram) → list_all (λ c. list_all (labels_few (length (codes_of p.bodies)))
    c.instructions) (codes_of p.bodies) ≡ true
labels_known p = subst (λ n. list_all (λ c. list_all (labels_few n) c.instructions) (codes_of p.bodies) ≡ true)
    (entries_count (codes_of p.bodies)) (bodies_few (names_of (view.source p)) (codes_of p.bodies) p.known)

pub procedures_known : (p : FrameProgram) → list_all (λ l. nat_lt l (length (codes_of p.bodies))) p.library ≡ true
procedures_known p = subst (λ n. list_all (λ l. nat_lt l n) p.library ≡ true) (entries_count (codes_of p.bodies))
    (library_few_by (entries_of (codes_of p.bodies)) p.library p.free)

-- ## Programs

pub library_small : (p : FrameProgram) → is_covered_program (view.source p) ≡ true → length p.library ≤ max_library
library_small p s = leb-true (length p.library) max_library
    (and_parts (nat_le (length p.library) max_library) (list_all is_covered_code (codes_of p.bodies)) s).0

pub codes_free : (p : FrameProgram) → is_covered_program (view.source p) ≡ true
    → list_all is_covered_code (codes_of p.bodies) ≡ true
codes_free p s = (and_parts (nat_le (length p.library) max_library) (list_all is_covered_code (codes_of p.bodies)) s).1

pub globals_known : (p : FrameProgram) → library_known (length p.library) p.statics.globals ≡ true
globals_known p =
    let q = view.source p in
    let valid = (and_parts (statics_valid (length p.library) q.statics) (statics_in_range q.statics) p.ready).0 in
    let few = and_parts (nat_le (statics_size q.statics) max_statics)
    (literals_known (length q.statics.symbols) q.statics.literals && library_known (length p.library)
    q.statics.globals) valid in
    (and_parts (literals_known (length q.statics.symbols) q.statics.literals)
    (library_known (length p.library) q.statics.globals) few.1).1

-- what is static is in range
pub texts_are : (p : FrameProgram) → list_all are_bytes p.statics.symbols ≡ true
texts_are p =
    let s = (view.source p).statics in
    let ranges = (and_parts (statics_valid (length p.library) s) (statics_in_range s) p.ready).1 in
    (and_parts (list_all are_bytes s.symbols) (literals_in_range s.literals) ranges).0

pub literals_are : (p : FrameProgram) → literals_in_range (view.source p).statics.literals ≡ true
literals_are p =
    let s = (view.source p).statics in
    let ranges = (and_parts (statics_valid (length p.library) s) (statics_in_range s) p.ready).1 in
    (and_parts (list_all are_bytes s.symbols) (literals_in_range s.literals) ranges).1

pub literals_named : (p : FrameProgram) → literals_known (length p.statics.symbols) (view.source p).statics.literals ≡ true
literals_named p =
    let s = (view.source p).statics in
    let valid = (and_parts (statics_valid (length p.library) s) (statics_in_range s) p.ready).0 in
    (and_parts (literals_known (length s.symbols) s.literals) (library_known (length p.library) s.globals)
    (and_parts (nat_le (statics_size s) max_statics) (literals_known (length s.symbols) s.literals && library_known (length p.library)
    s.globals) valid).1).0

pub entries_selected : (p : FrameProgram)
    → list_all (λ c. entry_selected p.words c.entry) (view.source p).bodies ≡ true
entries_selected p =
    let within = and_parts (nat_le p.words max_words) (list_all (λ c. nat_le c.words p.words) (view.source p).bodies) p.within in
    entries_taken p.words p.bodies within.1

pub covered_selected : (p : FrameProgram) → is_covered_program (view.source p) ≡ true
    → selects (view.source p) ≡ true
covered_selected p s =
    let q = view.source p in
    let within = and_parts (nat_le p.words max_words) (list_all (λ c. nat_le c.words p.words) q.bodies) p.within in
    and_from (list_all (form_selected p.words (length p.statics.globals) (length p.statics.symbols) (count_literals q.statics.literals)) q.bodies)
    (list_all (λ c. marks_settled true c.instructions) q.bodies)
    (forms_taken p.words (names_of q) p.bodies (codes_free p s) p.known within.1)
    (forms_settled q.bodies (codes_free p s))
