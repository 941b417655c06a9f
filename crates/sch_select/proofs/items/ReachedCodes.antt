-- Items can be made for the instructions of a selected program.
use Rattle.std.proofs.Common.{◌≡◌, ℕ, ◌≤◌, List, [], ◌∷◌, length, Option, Some, None, true, refl, ap, ◌∙◌, arith, ◌&&◌}
use Rattle.std.specs.Prelude.{◌+◌, ◌||◌, false, Bool, not, nat_eq, nat_le, nat_lt}
use Rattle.std.specs.List.{list_all}
use Rattle.std.proofs.lemmas.Bool.{and_parts, and_from, eqb-true, le-leb, ltb-true, lt-ltb}
use Rattle.sch_word.specs.declared.place.Place.{Place}
use Rattle.sch_word.specs.declared.place.Place.TheVariants.{Reg, Slot}
use Rattle.sch_word.specs.declared.primitive.Primitive.{Primitive}
use Rattle.sch_word.specs.trees.Shape.{max_free_variables, max_operands}
use Rattle.sch_control.specs.declared.body.Entry.{Entry}
use Rattle.sch_control.specs.declared.operation.Atom.{Atom}
use Rattle.sch_control.specs.declared.operation.Atom.TheVariants.{Constant, Literal, Variable}
use Rattle.sch_control.specs.declared.operation.Operand.{Operand}
use Rattle.sch_control.specs.declared.operation.Operand.TheVariants as operand
use Rattle.sch_control.specs.declared.operation.Source.{Source}
use Rattle.sch_control.specs.declared.operation.Source.TheVariants as source
use Rattle.sch_control.specs.declared.operation.Closure.{Closure}
use Rattle.sch_control.specs.declared.operation.Member.{Member}
use Rattle.sch_control.specs.declared.operation.Operation.{Operation}
use Rattle.sch_control.specs.declared.operation.Operation.TheVariants as operation
use Rattle.sch_control.specs.Valid.{only_reads}
use Rattle.sch_frames.specs.declared.instruction.Instruction.{Instruction}
use Rattle.sch_frames.specs.declared.instruction.Instruction.TheVariants.{Do, Store, Copy, Pass, Fix, Call}
use Rattle.sch_frames.specs.declared.instruction.Instruction.TheVariants.{Tail, Return, End, IfFalse, Jump, Label}
use Rattle.sch_frames.specs.declared.instruction.Instruction.TheVariants.{Mark}
use Rattle.sch_frames.specs.Covered.{marks_settled}
use Rattle.sch_word.specs.values.Places.{is_slot}
use Rattle.sch_frames.specs.Tree.{Code}
use Rattle.sch_frames.specs.Tree as tree
use Rattle.sch_word.specs.trees.NumberSets.{has}
use Rattle.sch_control.specs.flow.Places.{formals_of}
use Rattle.sch_frames.specs.Valid.{forward, handed_over, in_slots, is_place, jumps_ahead, labels_in, max_words}
use Rattle.sch_word.specs.values.Literals.{count_literals}
use Rattle.sch_select_memory.specs.Addresses.{max_labels}
use Rattle.sch_select_memory.specs.Reach.{is_reached_label, is_reached_place}
use Rattle.sch_select_operations.specs.Reach.{is_reached_atom, is_reached_operand, is_reached_source, is_reached_closure}
use Rattle.sch_select_operations.specs.Reach.{is_reached_member, is_reached_operation}
use Rattle.sch_select_operations.proofs.simulation.SelectedPrograms.{atom_selected, read_selected, operand_selected, primitive_selected}
use Rattle.sch_select_operations.proofs.simulation.SelectedPrograms.{source_selected, closure_selected, members_selected, operation_selected}
use Rattle.sch_select_operations.proofs.simulation.SelectedPrograms.{instruction_selected, form_selected, labels_few, members_few, operation_few, selects, takes, three_selected}
use Rattle.sch_select.specs.Reach.{is_reached_code, is_reached_entry, is_reached_instruction, names_below}

module _ (words globals symbols literals count : ℕ) (narrow : words ≤ max_words) (low : count ≤ max_labels) where
  place_reached : (p : Place) → is_place words p ≡ true → is_reached_place p ≡ true
  place_reached (Reg r) e = refl
  place_reached (Slot j) e = let lt = ltb-true j words e in lt-ltb j 4096 (omega (arith, lt, narrow))

  atom_reached : (a : Atom Place) → atom_selected words globals symbols literals a ≡ true → is_reached_atom a ≡ true
  atom_reached (Constant c) e = refl
  atom_reached (Variable p) e = place_reached p e
  atom_reached (Literal n) e = refl

  read_reached : (which : Primitive) (atoms : List (Atom Place)) → read_selected words globals symbols literals which atoms ≡ true
      → list_all is_reached_atom atoms ≡ true
  read_reached which [] e = refl
  read_reached which (a ∷ []) e =
      let p = and_parts (only_reads which && takes 1 which) (atom_selected words globals symbols literals a) e in
      and_from (is_reached_atom a) true (atom_reached a p.1) refl
  read_reached which (a ∷ (b ∷ [])) e =
      let p = and_parts (only_reads which && takes 2 which)
      (atom_selected words globals symbols literals a && atom_selected words globals symbols literals b) e in
      let q = and_parts (atom_selected words globals symbols literals a) (atom_selected words globals symbols literals b) p.1 in
      and_from (is_reached_atom a) (is_reached_atom b && true) (atom_reached a q.0)
      (and_from (is_reached_atom b) true (atom_reached b q.1) refl)
  read_reached which (a ∷ (b ∷ (c ∷ atoms))) e = absurd cc

  operand_reached : (o : Operand Place) → operand_selected words globals symbols literals o ≡ true → is_reached_operand o ≡ true
  operand_reached (operand.Atom a) e = atom_reached a e
  operand_reached (operand.Read site which atoms) e = read_reached which atoms e

  operands_reached : (which : Primitive) (operands : List (Operand Place))
      → primitive_selected words globals symbols literals which operands ≡ true → list_all is_reached_operand operands ≡ true
  operands_reached which [] e = refl
  operands_reached which (a ∷ []) e =
      let p = and_parts (takes 1 which) (operand_selected words globals symbols literals a) e in
      and_from (is_reached_operand a) true (operand_reached a p.1) refl
  operands_reached which (a ∷ (b ∷ [])) e =
      let p = and_parts (takes 2 which)
      (operand_selected words globals symbols literals a && operand_selected words globals symbols literals b) e in
      let q = and_parts (operand_selected words globals symbols literals a) (operand_selected words globals symbols literals b) p.1 in
      and_from (is_reached_operand a) (is_reached_operand b && true) (operand_reached a q.0)
      (and_from (is_reached_operand b) true (operand_reached b q.1) refl)
  operands_reached which (a ∷ (b ∷ (c ∷ []))) e =
      let t = three_selected words globals symbols literals which a b c e in
      and_from (is_reached_operand a) (is_reached_operand b && (is_reached_operand c && true)) (operand_reached a t.0)
      (and_from (is_reached_operand b) (is_reached_operand c && true) (operand_reached b t.1.0)
      (and_from (is_reached_operand c) true (operand_reached c t.1.1) refl))
  operands_reached which (a ∷ (b ∷ (c ∷ (d ∷ operands)))) e = absurd cc

  source_reached : (x : Source Place) → source_selected words globals symbols literals x ≡ true → is_reached_source x ≡ true
  source_reached (source.Atom a) e = atom_reached a e
  source_reached (source.Field p k) e =
      let q = and_parts (is_place words p) (nat_lt k max_free_variables) e in
      and_from (is_reached_place p) (nat_lt k max_free_variables) (place_reached p q.0) q.1

  sources_reached : (sources : List (Source Place)) → list_all (source_selected words globals symbols literals) sources ≡ true
      → list_all is_reached_source sources ≡ true
  sources_reached [] e = refl
  sources_reached (x ∷ sources) e =
      let p = and_parts (source_selected words globals symbols literals x) (list_all (source_selected words globals symbols literals) sources) e in
      and_from (is_reached_source x) (list_all is_reached_source sources) (source_reached x p.0) (sources_reached sources p.1)

  label_reached : (l : ℕ) → nat_lt l count ≡ true → is_reached_label l ≡ true
  label_reached l e = let lt = ltb-true l count e in le-leb l max_labels (omega (arith, lt, low))

  closure_reached : (c : Closure Place) → closure_selected words globals symbols literals c ≡ true → nat_lt c.label count ≡ true → is_reached_closure c ≡ true
  closure_reached c e f =
      let p = and_parts (nat_le (length c.fields) max_free_variables) (list_all (source_selected words globals symbols literals) c.fields) e in
      and_from (is_reached_label c.label) (nat_le (length c.fields) max_free_variables && list_all is_reached_source c.fields) (label_reached c.label f)
      (and_from (nat_le (length c.fields) max_free_variables) (list_all is_reached_source c.fields) p.0 (sources_reached c.fields p.1))

  members_reached : (members : List (Member Place)) → members_selected words globals symbols literals members ≡ true
      → members_few count members ≡ true → list_all is_reached_member members ≡ true
  members_reached [] e f = refl
  members_reached (m ∷ members) e f =
      let r = and_parts (nat_lt m.closure.label count) (members_few count members) f in
      let p = and_parts (is_place words m.at) (closure_selected words globals symbols literals m.closure && members_selected words globals symbols literals members) e in
      let q = and_parts (closure_selected words globals symbols literals m.closure) (members_selected words globals symbols literals members) p.1 in
      and_from (is_reached_member m) (list_all is_reached_member members)
      (and_from (is_reached_place m.at) (is_reached_closure m.closure) (place_reached m.at p.0) (closure_reached m.closure q.0 r.0))
      (members_reached members q.1 r.1)

  operation_reached : (o : Operation Place) → operation_selected words globals symbols literals o ≡ true → operation_few count o ≡ true → is_reached_operation o ≡ true
  operation_reached (operation.Operand o) e f = operand_reached o e
  operation_reached (operation.Prim site which operands) e f = operands_reached which operands e
  operation_reached (operation.Global g) e f = refl
  operation_reached (operation.SetGlobal g o) e f =
      operand_reached o (and_parts (nat_lt g globals) (operand_selected words globals symbols literals o) e).1
  operation_reached (operation.Field p k) e f =
      let q = and_parts (is_place words p) (nat_lt k max_free_variables) e in
      and_from (is_reached_place p) (nat_lt k max_free_variables) (place_reached p q.0) q.1
  operation_reached (operation.NewCell x) e f = source_reached x e
  operation_reached operation.UnsetCell e f = refl
  operation_reached (operation.CellGet x) e f = source_reached x e
  operation_reached (operation.CellSet x o) e f =
      let p = and_parts (source_selected words globals symbols literals x) (operand_selected words globals symbols literals o) e in
      and_from (is_reached_source x) (is_reached_operand o) (source_reached x p.0) (operand_reached o p.1)
  operation_reached (operation.MakeClosure c) e f = closure_reached c e f

  counted : (spread : _) (count : ℕ) → (not spread && (nat_le count max_operands && handed_over words count)) ≡ true
      → nat_le count max_operands ≡ true
  counted spread count e =
      let p = and_parts (not spread) (nat_le count max_operands && handed_over words count) e in
      (and_parts (nat_le count max_operands) (handed_over words count) p.1).0

  instruction_reached : (i : Instruction) → instruction_selected words globals symbols literals i ≡ true → labels_few count i ≡ true → is_reached_instruction i ≡ true
  instruction_reached (Do o) e f = operation_reached o e f
  instruction_reached (Store p) e f = place_reached p e
  instruction_reached (Copy to from) e f =
      let p = and_parts (is_place words to) (is_place words from)
      (and_parts (not (is_slot to && is_slot from)) (is_place words to && is_place words from) e).1 in
      and_from (is_reached_place to) (is_reached_place from) (place_reached to p.0) (place_reached from p.1)
  instruction_reached (Pass k) e f = let lt = ltb-true k words e in lt-ltb k 2048 (omega (arith, lt, narrow))
  instruction_reached (Call spread count) e f = counted spread count e
  instruction_reached (Tail spread count) e f = counted spread count e
  instruction_reached (Fix members spills) e f =
      let q = (and_parts (nat_eq (length spills) (in_slots members))
      (nat_le (length members) max_operands && members_selected words globals symbols literals members) e).1 in
      let p = and_parts (nat_le (length members) max_operands) (members_selected words globals symbols literals members) q in
      and_from (nat_le (length members) max_operands) (list_all is_reached_member members) p.0 (members_reached members p.1 f)
  instruction_reached Return e f = refl
  instruction_reached End e f = refl
  instruction_reached (IfFalse l) e f = refl
  instruction_reached (Jump l) e f = refl
  instruction_reached (Label l) e f = refl
  instruction_reached (Mark m) e f = refl

  instructions_reached : (is : List Instruction) → list_all (instruction_selected words globals symbols literals) is ≡ true
      → list_all (labels_few count) is ≡ true → list_all is_reached_instruction is ≡ true
  instructions_reached [] e f = refl
  instructions_reached (i ∷ is) e f =
      let r = and_parts (labels_few count i) (list_all (labels_few count) is) f in
      let p = and_parts (instruction_selected words globals symbols literals i) (list_all (instruction_selected words globals symbols literals) is) e in
      and_from (is_reached_instruction i) (list_all is_reached_instruction is) (instruction_reached i p.0 r.0) (instructions_reached is p.1 r.1)

  entry_reached : (o : Option Entry) → nat_le (formals_of o) max_operands ≡ true → is_reached_entry o ≡ true
  entry_reached None e = refl
  entry_reached (Some q) e = e

  codes_reached : (cs : List Code) → list_all (form_selected words globals symbols literals) cs ≡ true
      → list_all (λ c. list_all (labels_few count) c.instructions) cs ≡ true → list_all is_reached_code cs ≡ true
  codes_reached [] e f = refl
  codes_reached (c ∷ cs) e f =
      let r = and_parts (list_all (labels_few count) c.instructions) (list_all (λ c. list_all (labels_few count) c.instructions) cs) f in
      let p = and_parts (form_selected words globals symbols literals c) (list_all (form_selected words globals symbols literals) cs) e in
      let q = and_parts (nat_le (formals_of c.entry) max_operands)
      (list_all (instruction_selected words globals symbols literals) c.instructions) p.0 in
      and_from (is_reached_code c) (list_all is_reached_code cs)
      (and_from (is_reached_entry c.entry) (list_all is_reached_instruction c.instructions) (entry_reached c.entry q.0)
      (instructions_reached c.instructions q.1 r.0)) (codes_reached cs p.1 r.1)

pub program_reached : (p : tree.Source) → p.words ≤ max_words → length p.bodies ≤ max_labels → selects p ≡ true
    → list_all (λ c. list_all (labels_few (length p.bodies)) c.instructions) p.bodies ≡ true → list_all is_reached_code p.bodies ≡ true
program_reached p narrow low e f =
    let globals = length p.statics.globals in
    let symbols = length p.statics.symbols in
    let literals = count_literals p.statics.literals in
    codes_reached p.words globals symbols literals (length p.bodies) narrow low p.bodies
    (and_parts (list_all (form_selected p.words globals symbols literals) p.bodies) (list_all (λ c. marks_settled true c.instructions) p.bodies) e).0 f

-- ## The bodies of the library's procedures

labels_reached : (count : ℕ) → count ≤ max_labels → (ls : List ℕ) → list_all (λ l. nat_lt l count) ls ≡ true → list_all is_reached_label ls ≡ true
labels_reached count low [] e = refl
labels_reached count low (l ∷ ls) e =
    let p = and_parts (nat_lt l count) (list_all (λ l. nat_lt l count) ls) e in
    let lt = ltb-true l count p.0 in
    and_from (is_reached_label l) (list_all is_reached_label ls) (le-leb l max_labels (omega (arith, lt, low))) (labels_reached count low ls p.1)

pub library_reached : (p : tree.Source) → length p.bodies ≤ max_labels → list_all (λ l. nat_lt l (length p.bodies)) p.library ≡ true → list_all is_reached_label p.library ≡ true
library_reached p low e = labels_reached (length p.bodies) low p.library e

-- ## The labels of a body

module _ (base labels : ℕ) where
  abbrev is_own : ℕ → Bool
  is_own l = nat_lt l labels

  own_below : (l : ℕ) → is_own l ≡ true → nat_lt (base + l) (base + labels) ≡ true
  own_below l e = let lt = ltb-true l labels e in lt-ltb (base + l) (base + labels) (omega (arith, lt))

  own_there : (l : ℕ) (ls : List ℕ) → has l ls ≡ true → list_all is_own ls ≡ true → is_own l ≡ true
  own_there l [] h e = absurd (cc)
  own_there l (k ∷ ls) h e = by (nat_eq l k) refl h (own_there l ls) where
    by : (b : Bool) → nat_eq l k ≡ b → (b || has l ls) ≡ true → (has l ls ≡ true → list_all is_own ls ≡ true → is_own l ≡ true) → is_own l ≡ true
    by true same h later = ap is_own (eqb-true l k same) ∙ (and_parts (is_own k) (list_all is_own ls) e).0
    by false other h later = later h (and_parts (is_own k) (list_all is_own ls) e).1

  named_below : (is : List Instruction) → list_all is_own (labels_in is) ≡ true → jumps_ahead is ≡ true → list_all (names_below base (base + labels)) is ≡ true
  named_below [] e j = refl
  named_below (IfFalse l ∷ is) e j =
      let p = and_parts (has l (labels_in is)) (jumps_ahead is) j in
      and_from (nat_lt (base + l) (base + labels)) (list_all (names_below base (base + labels)) is) (own_below l (own_there l (labels_in is) p.0 e)) (named_below is e p.1)
  named_below (Jump l ∷ is) e j =
      let p = and_parts (has l (labels_in is)) (jumps_ahead is) j in
      and_from (nat_lt (base + l) (base + labels)) (list_all (names_below base (base + labels)) is) (own_below l (own_there l (labels_in is) p.0 e)) (named_below is e p.1)
  named_below (Label l ∷ is) e j =
      let p = and_parts (is_own l) (list_all is_own (labels_in is)) e in
      and_from (nat_lt (base + l) (base + labels)) (list_all (names_below base (base + labels)) is) (own_below l p.0) (named_below is p.1 j)
  named_below (Do o ∷ is) e j = named_below is e j
  named_below (Store p ∷ is) e j = named_below is e j
  named_below (Copy to from ∷ is) e j = named_below is e j
  named_below (Pass k ∷ is) e j = named_below is e j
  named_below (Fix members spills ∷ is) e j = named_below is e j
  named_below (Call spread count ∷ is) e j = named_below is e j
  named_below (Tail spread count ∷ is) e j = named_below is e j
  named_below (Return ∷ is) e j = named_below is e j
  named_below (End ∷ is) e j = named_below is e j
  named_below (Mark m ∷ is) e j = named_below is e j

  pub body_below : (is : List Instruction) → forward labels is ≡ true → list_all (names_below base (base + labels)) is ≡ true
  body_below is e =
      let p = and_parts (list_all is_own (labels_in is)) _ e in
      named_below is p.0 (and_parts _ (jumps_ahead is) p.1).1
