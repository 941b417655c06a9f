-- In a program's items the address that the routine of lists leaves in RCX is overwritten before it is read, also by a routine, and it is
-- known what the bases of all operands have.
use Rattle.std.proofs.Common.{◌≡◌, ℕ, suc, ◌+◌, ◌-◌, ◌≤◌, ◌<◌, List, [], ◌∷◌, length, Bool, Option, Some, None, true, false, cond}
use Rattle.std.proofs.Common.{refl, ap, sym, ◌∙◌, subst, ◌&&◌, ◌||◌, arith}
use Rattle.std.specs.Prelude.{ℤ, IsTrue, pos, not, nat_eq, nat_lt, nat_le}
use Rattle.std.specs.List.{list_all}
use Rattle.std.proofs.lemmas.Bool.{and_parts, and_from, eqb-true, le-ltb, ltb-true, ne_eqb, not_from_false, or_from, or_left, or_right}
use Rattle.sch_word.specs.trees.NumberSets.{has}
use Rattle.sch_word.specs.trees.Shape.{max_operands}
use Rattle.sch_word.specs.values.Literals.{count_literals}
use Rattle.sch_word.specs.values.Registers.{body_registers}
use Rattle.sch_word.specs.declared.mark.MarkKind.{MarkKind}
use Rattle.sch_word.specs.declared.mark.MarkKind.TheVariants.{Enter}
use Rattle.sch_word.specs.declared.place.Place.{Place}
use Rattle.sch_word.specs.declared.place.Place.TheVariants.{Reg as Register, Slot}
use Rattle.sch_word.specs.declared.primitive.Primitive.{Primitive}
use Rattle.sch_word.specs.declared.primitive.Primitive.TheVariants.{Eq, Eqv, IsBoolean, IsPair, IsNull, IsSymbol, IsInteger, IsChar, IsString, IsVector}
use Rattle.sch_word.specs.declared.primitive.Primitive.TheVariants.{IsProcedure, Modulo, Equal, Less, Greater, LessEqual, GreaterEqual, Put, Cons, StringSet}
use Rattle.sch_word.specs.declared.primitive.Primitive.TheVariants.{MakeString, MakeVector}
use Rattle.sch_control.specs.declared.body.Entry.{Entry}
use Rattle.sch_control.specs.declared.operation.Atom.{Atom}
use Rattle.sch_control.specs.declared.operation.Atom.TheVariants.{Constant, Literal, Variable}
use Rattle.sch_control.specs.declared.operation.Operand.{Operand}
use Rattle.sch_control.specs.declared.operation.Operand.TheVariants as operand
use Rattle.sch_control.specs.declared.operation.Source.{Source}
use Rattle.sch_control.specs.declared.operation.Source.TheVariants as source
use Rattle.sch_control.specs.declared.operation.Closure.{Closure}
use Rattle.sch_control.specs.declared.operation.Member.{Member}
use Rattle.sch_control.specs.declared.operation.Operation.{Operation}
use Rattle.sch_control.specs.declared.operation.Operation.TheVariants as operation
use Rattle.sch_control.specs.flow.Places.{formals_of}
use Rattle.sch_control.specs.Valid.{only_reads}
use Rattle.sch_frames.specs.declared.instruction.Instruction.{Instruction}
use Rattle.sch_frames.specs.declared.instruction.Instruction.TheVariants as instruction
use Rattle.sch_frames.specs.Covered.{marks_settled}
use Rattle.sch_frames.specs.Tree.{Code}
use Rattle.sch_frames.specs.Tree as tree
use Rattle.sch_frames.specs.Valid.{forward, in_slots, is_place, is_register}
use Rattle.sch_insn.specs.declared.condition.TheConstants.{E, GE, L}
use Rattle.sch_insn.specs.declared.insn.Arg.TheVariants.{Reg, Base8, Base32}
use Rattle.sch_insn.specs.declared.insn.Insn.{Insn}
use Rattle.sch_insn.specs.declared.insn.Insn.TheVariants.{MovTo, MovFrom, MovNumber, AddTo, AddNumber, AndNumber, CmpNumber}
use Rattle.sch_asm.specs.declared.item.Item.{Item}
use Rattle.sch_asm.specs.declared.item.Item.TheVariants as item
use Rattle.sch_asm.specs.declared.routine.Routine.TheVariants as routine
use Rattle.sch_asm.specs.declared.routine.TheConstants.{FIRST_LABEL}
use Rattle.sch_asm.specs.Routines.{label_of}
use Rattle.sch_asm.specs.Narrow.{narrow, narrowed, operand_of, short_number, with_operand}
use Rattle.sch_asm.proofs.NarrowItems.{item_same}
use Rattle.sch_asm.proofs.Shortest.{narrow_same}
use Rattle.sch_runtime.specs.FrameRegister.{has_base, is_itself}
use Rattle.sch_runtime.specs.HandedWord.{is_handed, reads_register, sets_register}
use Rattle.sch_select_memory.specs.Addresses.{body_label, place_operand, global_address, part_operand}
use Rattle.sch_select_memory.specs.RestCode.{list_code, list_label}
use Rattle.sch_select_operations.specs.ArithmeticCode.{modulo_code}
use Rattle.sch_select_operations.specs.CellCode.{source_code, new_cell_code, read_cell_code, unset_cell_code, write_cell_code}
use Rattle.sch_select_operations.specs.ClosureCode.{closure_bytes, fields_code, group_code, places_code, record_code, records_code, spill_code, group_bytes}
use Rattle.sch_select_memory.specs.Encoded.{procedure_tag, unspecified_word}
use Rattle.sch_select_operations.specs.ClosureCode.{spills_behind}
use Rattle.sch_select_operations.specs.OperandCode.{atom_code, unary_code, binary_code, read_code, operand_code, second_code}
use Rattle.sch_select_operations.specs.OperationCode.{operation_code}
use Rattle.sch_select_operations.specs.ObjectCode.{check_heap, part_code}
use Rattle.sch_select_operations.specs.PrimitiveCode.{global_code, index_operand, pair_or_binary, ternary_code}
use Rattle.sch_select_operations.proofs.simulation.SelectedPrograms.{atom_selected, closure_selected, form_selected, instruction_selected, labels_few}
use Rattle.sch_select_operations.proofs.simulation.SelectedPrograms.{members_few, members_selected, operand_selected, operation_few, operation_selected}
use Rattle.sch_select_operations.proofs.simulation.SelectedPrograms.{read_selected, selects, source_selected, takes, three_selected}
use Rattle.sch_select_data.specs.Data.{heap_of}
use Rattle.sch_select.specs.KnownBases.{bases_known, compares_tag, has_known_base, has_word, knows, masks_tag, tests_tag}
use Rattle.sch_select.specs.SlotAddress.{overwrites_slot, reached_labels}
use Rattle.sch_select.specs.Program.{count_code, entry_code, form_code, forms_code, labels_end, own_label, passed_code, selected_code}
use Rattle.sch_select.specs.Reach.{names_below}
use Rattle.sch_select.specs.Select.{all_labels_needed, body_code, copy_insn, instruction_code, labels_needed, operand_needs, operation_needs}
use Rattle.sch_select.proofs.items.ReachedCodes.{body_below}

-- ## Labels: those that have been reached are below a number

abbrev Below : ℕ → List ℕ → Type 0
Below n labels = (m : ℕ) → n ≤ m → has m labels ≡ false

below_more : (n k : ℕ) (labels : List ℕ) → n ≤ k → Below n labels → Below k labels
below_more n k labels le b m lt = b m (omega (arith, le, lt))

below_with : (n l : ℕ) (labels : List ℕ) → l < n → Below n labels → Below n (l ∷ labels)
below_with n l labels lt b m le = or_from (nat_eq m l) (has m labels) (ne_eqb m l (λ e. omega (arith, e, lt, le))) (b m le)

below_reached : (may : Bool) (n l : ℕ) (labels : List ℕ) → l < n → Below n labels → Below n (reached_labels may l labels)
below_reached may n l labels lt b = by (nat_lt l FIRST_LABEL) may
  where
    by : (low may : Bool) → Below n (cond low labels (cond may (l ∷ labels) labels))
    by true may = b
    by false true = below_with n l labels lt b
    by false false = b

-- a jump from where RCX has been set reaches none
below_clean : (n l : ℕ) (labels : List ℕ) → Below n labels → Below n (reached_labels false l labels)
below_clean n l labels b = by (nat_lt l FIRST_LABEL)
  where
    by : (low : Bool) → Below n (cond low labels labels)
    by true = b
    by false = b

-- ## Labels of routines that are handed a word in RCX

unhanded : (l : ℕ) → 17 < l → nat_eq l 24 ≡ false → is_handed l ≡ false
unhanded l lt last =
    or_from (nat_eq l 13) _ (ne_eqb l 13 (λ e. omega (arith, e, lt))) (or_from (nat_eq l 14) _ (ne_eqb l 14 (λ e. omega (arith, e, lt)))
    (or_from (nat_eq l 16) _ (ne_eqb l 16 (λ e. omega (arith, e, lt))) (or_from (nat_eq l 17) _ (ne_eqb l 17 (λ e. omega (arith, e, lt)))
    (or_from (nat_eq l 24) false last refl))))

-- Labels of bodies are none, nor is that of a routine that makes a list whose first operand is in a register:
loadable : (l : ℕ) → FIRST_LABEL ≤ l → not (is_handed l) ≡ true
loadable l low = not_from_false _ (unhanded l (omega (arith, low)) (ne_eqb l 24 (λ e. omega (arith, e, low))))

-- jumps go to them whatever RCX has
passable : (may : Bool) (l : ℕ) → FIRST_LABEL ≤ l → (not (is_handed l) || not may) ≡ true
passable may l low = or_left (not (is_handed l)) (not may) (loadable l low)

listed : (may : Bool) (required : ℕ) → required < 6 → (not (is_handed (list_label required)) || not may) ≡ true
listed may required few =
    let l = list_label required in
    or_left (not (is_handed l)) (not may) (not_from_false _ (unhanded l (omega (arith, few)) (ne_eqb l 24 (λ e. omega (arith, e, few)))))

-- ## Registers of bodies

apart : (r other : ℕ) → is_register other ≡ false → is_register r ≡ true → nat_eq r other ≡ false
apart r other none e = by (nat_eq r other) refl
  where
    by : (b : Bool) → nat_eq r other ≡ b → nat_eq r other ≡ false
    by false f = f
    by true f = absurd (let bad : false ≡ true = sym none ∙ subst (λ k. is_register k ≡ true) (eqb-true r other f) e in cc)

module _ (count words globals symbols literals heap_end : ℕ) where
  -- the own labels of bodies are behind those at which they begin
  abbrev own : ℕ
  own = body_label count

  -- The items are right whatever RCX has, and whatever is known, where all labels that have been reached are below a number.
  abbrev Fine : ℕ → List Item → Type 0
  Fine n is = (may : Bool) (labels : List ℕ) → Below n labels → (rax rcx closure : Bool)
      → (overwrites_slot own may labels is ≡ true) × (bases_known rax rcx closure is ≡ true)

  -- They are where RCX has been set.
  abbrev Set : ℕ → List Item → Type 0
  Set n is = (labels : List ℕ) → Below n labels → (rax rcx closure : Bool)
      → (overwrites_slot own false labels is ≡ true) × (bases_known rax rcx closure is ≡ true)

  -- behind a test of a label that holds
  both : (a b c : Bool) → a ≡ true → (b ≡ true) × (c ≡ true) → ((a && b) ≡ true) × (c ≡ true)
  both a b c e p = (and_from a b e p.0, p.1)

  earlier : (n k : ℕ) (is : List Item) → n ≤ k → Fine k is → Fine n is
  earlier n k is le h may labels b = h may labels (below_more n k labels le b)

  earlier_set : (n k : ℕ) (is : List Item) → n ≤ k → Set k is → Set n is
  earlier_set n k is le h labels b = h labels (below_more n k labels le b)

  -- ## Places

  place_other : (p : Place) → is_place words p ≡ true → (is_itself 1 (place_operand p) || has_base 1 (place_operand p)) ≡ false
  place_other (Register r) e = or_from (nat_eq r 1) false (apart r 1 refl e) refl
  place_other (Slot j) e = refl

  place_based : (p : Place) (rax rcx closure : Bool) → has_known_base rax rcx closure (place_operand p) ≡ true
  place_based (Register r) rax rcx closure = refl
  place_based (Slot j) rax rcx closure = refl

  place_word : (p : Place) → is_place words p ≡ true → has_word (place_operand p) ≡ true
  place_word (Register r) e = or_right (nat_eq r 12) (has r body_registers) e
  place_word (Slot j) e = refl

  -- what a load from a place does not read
  unread : (p : Place) (may : Bool) → is_place words p ≡ true
      → (not (is_itself 1 (place_operand p) || has_base 1 (place_operand p)) || not may) ≡ true
  unread p may e = or_left _ (not may) (not_from_false _ (place_other p e))

  loaded : (n r : ℕ) (p : Place) (rest : List Item) → is_place words p ≡ true → Fine n rest → Fine n (item.Plain (MovFrom r (place_operand p)) ∷ rest)
  loaded n r p rest e h may labels b rax rcx closure =
      (and_from _ _ (unread p may e) (h _ labels b rax rcx closure).0, and_from _ _ (place_based p rax rcx closure) (h may labels b _ _ _).1)

  loaded_set : (n : ℕ) (p : Place) (rest : List Item) → is_place words p ≡ true → Set n rest → Fine n (item.Plain (MovFrom 1 (place_operand p)) ∷ rest)
  loaded_set n p rest e h may labels b rax rcx closure =
      (and_from _ _ (unread p may e) (h labels b rax rcx closure).0, and_from _ _ (place_based p rax rcx closure) (h labels b _ _ _).1)

  -- another register is stored
  stored : (n r : ℕ) (p : Place) (rest : List Item) → nat_eq r 1 ≡ false → Fine n rest → Fine n (item.Plain (MovTo (place_operand p) r) ∷ rest)
  stored n r p rest other h may labels b rax rcx closure = (and_from _ _ (by p) (h _ labels b rax rcx closure).0, and_from _ _ (place_based p rax rcx closure) (h may labels b _ _ _).1)
    where
      by : (p : Place) → (not (nat_eq r 1 || has_base 1 (place_operand p)) || not may) ≡ true
      by (Register q) = or_left _ (not may) (not_from_false _ (or_from (nat_eq r 1) false other refl))
      by (Slot j) = or_left _ (not may) (not_from_false _ (or_from (nat_eq r 1) false other refl))

  -- RCX is, which has been set
  stored_set : (n : ℕ) (p : Place) (rest : List Item) → Fine n rest → Set n (item.Plain (MovTo (place_operand p) 1) ∷ rest)
  stored_set n p rest h labels b rax rcx closure =
      let free = not (reads_register 1 (MovTo (place_operand p) 1)) in
      let still = not (sets_register 1 (MovTo (place_operand p) 1)) && false in (
        and_from (free || true) (overwrites_slot own still labels rest) (or_right free true refl) (h still labels b rax rcx closure).0,
        and_from _ _ (place_based p rax rcx closure) (h false labels b _ _ _).1,
      )

  -- ## Primitives over registers

  -- at a label that only such jumps reach RCX has been set
  set_label : (n l : ℕ) (is : List Item) → own ≤ l → n ≤ l → Set n is → Set n (item.Label l ∷ is)
  set_label n l is low le h labels b rax rcx closure =
      let clean : (nat_lt l own || has l labels) ≡ false = or_from (nat_lt l own) (has l labels) (le-ltb l own low) (b l le) in
      (subst (λ may. overwrites_slot own may labels is ≡ true) (sym clean) (h labels b false false false).0, (h labels b false false false).1)

  set_jump_if : (n c l : ℕ) (is : List Item) → own ≤ l → Set n is → Set n (item.JumpIf c l ∷ is)
  set_jump_if n c l is low h labels b rax rcx closure =
      both _ _ _ (passable false l (omega (arith, low))) (h (reached_labels false l labels) (below_clean n l labels b) rax rcx closure)

  set_jump : (n l : ℕ) (is : List Item) → own ≤ l → Set n is → Set n (item.Jump l ∷ is)
  set_jump n l is low h labels b rax rcx closure =
      both _ _ _ (passable false l (omega (arith, low))) (h (reached_labels false l labels) (below_clean n l labels b) rax rcx closure)

  module _ (n : ℕ) (rest : List Item) (h : Fine (n + 4) rest) (low : own ≤ n) where
    free : FIRST_LABEL ≤ n
    free = omega (arith, low)

    more : (labels : List ℕ) → Below n labels → Below (n + 4) labels
    more labels b = below_more n (n + 4) labels (omega arith) b

    tested : (may : Bool) (labels : List ℕ) → Below n labels → Below (n + 4) (reached_labels may n labels)
    tested may labels b = below_reached may (n + 4) n labels (omega arith) (more labels b)

    returned : (labels : List ℕ) → Below n labels → Below (n + 4) (n ∷ labels)
    returned labels b = below_with (n + 4) n labels (omega arith) (more labels b)

    unary_fine : (which : Primitive) → Fine n (unary_code n which rest)
    unary_fine IsBoolean may labels b rax rcx closure = both _ _ _ (passable may n free) (h _ _ (tested may labels b) _ _ _)
    unary_fine IsPair may labels b rax rcx closure = both _ _ _ (passable may n free) (h _ _ (tested may labels b) _ _ _)
    unary_fine IsNull may labels b rax rcx closure = both _ _ _ (passable may n free) (h _ _ (tested may labels b) _ _ _)
    unary_fine IsSymbol may labels b rax rcx closure = both _ _ _ (passable may n free) (h _ _ (tested may labels b) _ _ _)
    unary_fine IsInteger may labels b rax rcx closure = both _ _ _ (passable may n free) (h _ _ (tested may labels b) _ _ _)
    unary_fine IsChar may labels b rax rcx closure = both _ _ _ (passable may n free) (h _ _ (tested may labels b) _ _ _)
    unary_fine IsString may labels b rax rcx closure = both _ _ _ (passable may n free) (h _ _ (tested may labels b) _ _ _)
    unary_fine IsVector may labels b rax rcx closure = both _ _ _ (passable may n free) (h _ _ (tested may labels b) _ _ _)
    unary_fine IsProcedure may labels b rax rcx closure = both _ _ _ (passable may n free) (h _ _ (tested may labels b) _ _ _)
    unary_fine Put may labels b rax rcx closure = both _ _ _ (loadable n free) (h _ _ (returned labels b) _ _ _)
    unary_fine _ may labels b rax rcx closure = h _ _ (more labels b) _ _ _

    -- The own labels are reached by these jumps alone.
    -- behind its labels n + 2 and n + 1, and all of it but the first comparison
    abbrev adding : List Item
    adding = item.Plain (AddTo (Reg 0) 1) ∷ (item.Label n ∷ rest)

    abbrev negative : List Item
    negative = item.Plain (CmpNumber (Reg 1) (pos 0)) ∷ (item.JumpIf L n ∷ (item.Label (n + 2) ∷ adding))

    abbrev positive : List Item
    positive = item.Plain (CmpNumber (Reg 1) (pos 0)) ∷ (item.JumpIf GE n ∷ (item.Jump (n + 2) ∷ (item.Label (n + 1) ∷ negative)))

    adding_set : Set n adding
    adding_set labels b rax rcx closure = h _ _ (more labels b) _ _ _

    negative_set : Set n negative
    negative_set labels b rax rcx closure =
        let last = set_label n (n + 2) adding (omega (arith, low)) (omega arith) adding_set in
        set_jump_if n L n (item.Label (n + 2) ∷ adding) low last labels b rax rcx closure

    positive_set : Set n positive
    positive_set labels b rax rcx closure =
        let last = set_label n (n + 1) negative (omega (arith, low)) (omega arith) negative_set in
        set_jump_if n GE n (item.Jump (n + 2) ∷ (item.Label (n + 1) ∷ negative)) low
        (set_jump n (n + 2) (item.Label (n + 1) ∷ negative) (omega (arith, low)) last) labels b rax rcx closure

    modulo_set : Set n (modulo_code n rest)
    modulo_set labels b rax rcx closure =
        set_jump_if n E n (item.JumpIf L (n + 1) ∷ positive) low (set_jump_if n L (n + 1) positive (omega (arith, low)) positive_set) labels b rax rcx closure

    binary_set : (which : Primitive) → Set n (binary_code n which rest)
    binary_set Eq labels b rax rcx closure = both _ _ _ (passable false n free) (h _ _ (tested false labels b) _ _ _)
    binary_set Eqv labels b rax rcx closure = both _ _ _ (passable false n free) (h _ _ (tested false labels b) _ _ _)
    binary_set Equal labels b rax rcx closure = both _ _ _ (passable false n free) (h _ _ (tested false labels b) _ _ _)
    binary_set Less labels b rax rcx closure = both _ _ _ (passable false n free) (h _ _ (tested false labels b) _ _ _)
    binary_set Greater labels b rax rcx closure = both _ _ _ (passable false n free) (h _ _ (tested false labels b) _ _ _)
    binary_set LessEqual labels b rax rcx closure = both _ _ _ (passable false n free) (h _ _ (tested false labels b) _ _ _)
    binary_set GreaterEqual labels b rax rcx closure = both _ _ _ (passable false n free) (h _ _ (tested false labels b) _ _ _)
    binary_set Modulo labels b rax rcx closure = modulo_set labels b rax rcx closure
    binary_set MakeString labels b rax rcx closure = both _ _ _ (loadable n free) (h _ _ (returned labels b) _ _ _)
    binary_set MakeVector labels b rax rcx closure = both _ _ _ (loadable n free) (h _ _ (returned labels b) _ _ _)
    binary_set _ labels b rax rcx closure = h _ _ (more labels b) _ _ _

    pair_set : (which : Primitive) → Set n (pair_or_binary heap_end n which rest)
    pair_set Cons labels b rax rcx closure = h _ _ (more labels b) _ _ _
    pair_set which labels b rax rcx closure = binary_set which labels b rax rcx closure

  ternary_set : (n : ℕ) (which : Primitive) (rest : List Item) → Fine n rest → Set n (ternary_code which rest)
  ternary_set n StringSet rest h labels b rax rcx closure = h _ _ b _ _ _
  ternary_set n _ rest h labels b rax rcx closure = h _ _ b _ _ _

  -- ## Operands

  atom_fine : (n : ℕ) (a : Atom Place) (rest : List Item) → atom_selected words globals symbols literals a ≡ true → Fine n rest → Fine n (atom_code 0 a rest)
  atom_fine n (Constant c) rest e h may labels b rax rcx closure = h _ _ b _ _ _
  atom_fine n (Variable p) rest e h may labels b rax rcx closure = loaded n 0 p rest e h may labels b rax rcx closure
  atom_fine n (Literal k) rest e h may labels b rax rcx closure = h _ _ b _ _ _

  second_fine_atom : (n : ℕ) (a : Atom Place) (rest : List Item) → atom_selected words globals symbols literals a ≡ true → Set n rest → Fine n (atom_code 1 a rest)
  second_fine_atom n (Constant c) rest e h may labels b rax rcx closure = h _ b _ _ _
  second_fine_atom n (Variable p) rest e h may labels b rax rcx closure = loaded_set n p rest e h may labels b rax rcx closure
  second_fine_atom n (Literal k) rest e h may labels b rax rcx closure = h _ b _ _ _

  read_fine : (n : ℕ) → own ≤ n → (which : Primitive) (atoms : List (Atom Place)) (rest : List Item)
      → read_selected words globals symbols literals which atoms ≡ true → Fine (n + 4) rest → Fine n (read_code n which atoms rest)
  read_fine n low which [] rest e h = earlier n (n + 4) rest (omega arith) h
  read_fine n low which (a ∷ []) rest e h =
      let p = and_parts (only_reads which && takes 1 which) (atom_selected words globals symbols literals a) e in
      atom_fine n a (unary_code n which rest) p.1 (unary_fine n rest h low which)
  read_fine n low which (a ∷ (d ∷ [])) rest e h =
      let p = and_parts (only_reads which && takes 2 which) (atom_selected words globals symbols literals a && atom_selected words globals symbols literals d) e in
      let q = and_parts (atom_selected words globals symbols literals a) (atom_selected words globals symbols literals d) p.1 in
      let code = binary_code n which rest in
      atom_fine n a (atom_code 1 d code) q.0 (second_fine_atom n d code q.1 (binary_set n rest h low which))
  read_fine n low which (a ∷ (d ∷ (f ∷ atoms))) rest e h = earlier n (n + 4) rest (omega arith) h

  needs_four : (o : Operand Place) → operand_needs o ≤ 4
  needs_four (operand.Atom a) = omega arith
  needs_four (operand.Read site which atoms) = omega arith

  operand_fine : (n : ℕ) → own ≤ n → (o : Operand Place) (rest : List Item) → operand_selected words globals symbols literals o ≡ true
      → Fine (n + operand_needs o) rest → Fine n (operand_code n o rest)
  operand_fine n low (operand.Atom a) rest e h = atom_fine n a rest e (earlier n (n + 0) rest (omega arith) h)
  operand_fine n low (operand.Read site which atoms) rest e h = read_fine n low which atoms rest e h

  -- with room for any operand
  any_fine : (n : ℕ) → own ≤ n → (o : Operand Place) (rest : List Item) → operand_selected words globals symbols literals o ≡ true
      → Fine (n + 4) rest → Fine n (operand_code n o rest)
  any_fine n low o rest e h =
      let few = needs_four o in operand_fine n low o rest e (earlier (n + operand_needs o) (n + 4) rest (omega (arith, few)) h)

  -- a second operand goes through RAX
  exchanged : (n : ℕ) (rest : List Item) → Set n rest → Fine n (item.Plain (MovTo (Reg 1) 0) ∷ (item.Plain (MovTo (Reg 0) 11) ∷ rest))
  exchanged n rest h may labels b rax rcx closure = h _ b _ _ _

  -- the accumulator is set aside
  aside : (n : ℕ) (rest : List Item) → Fine n rest → Fine n (item.Plain (MovTo (Reg 11) 0) ∷ rest)
  aside n rest h may labels b rax rcx closure = h _ _ b _ _ _

  second_fine : (n : ℕ) → own ≤ n → (o : Operand Place) (rest : List Item) → operand_selected words globals symbols literals o ≡ true
      → Set (n + 4) rest → Fine n (second_code n o rest)
  second_fine n low (operand.Atom a) rest e h = second_fine_atom n a rest e (earlier_set n (n + 4) rest (omega arith) h)
  second_fine n low (operand.Read site which atoms) rest e h =
      let code = item.Plain (MovTo (Reg 1) 0) ∷ (item.Plain (MovTo (Reg 0) 11) ∷ rest) in
      aside n (read_code n which atoms code) (read_fine n low which atoms code e (exchanged (n + 4) rest h))

  index_fine : (n : ℕ) (o : Operand Place) (rest : List Item) → operand_selected words globals symbols literals o ≡ true
      → Set n rest → Fine n (index_operand o rest)
  index_fine n (operand.Atom a) rest e h may labels b rax rcx closure = second_fine_atom n a rest e h may labels b rax rcx closure
  index_fine n (operand.Read site which atoms) rest e h may labels b rax rcx closure = h _ b _ _ _

  -- ## What closures capture, and cells

  -- a field, through RAX and through RCX
  source_fine : (n : ℕ) (x : Source Place) (rest : List Item) → source_selected words globals symbols literals x ≡ true → Fine n rest → Fine n (source_code 0 x rest)
  source_fine n (source.Atom a) rest e h may labels b rax rcx closure = atom_fine n a rest e h may labels b rax rcx closure
  source_fine n (source.Field p k) rest e h may labels b rax rcx closure =
      let there = (and_parts (is_place words p) (nat_lt k 1000) e).0 in (
        and_from _ _ (unread p may there) (h may labels b rax rcx closure).0,
        and_from _ _ (place_based p rax rcx closure) (and_from _ _ (or_left _ _ (or_left _ _ (place_word p there))) (h may labels b _ _ _).1),
      )

  captured : (n : ℕ) (x : Source Place) (rest : List Item) → source_selected words globals symbols literals x ≡ true → Set n rest → Fine n (source_code 1 x rest)
  captured n (source.Atom a) rest e h may labels b rax rcx closure = second_fine_atom n a rest e h may labels b rax rcx closure
  captured n (source.Field p k) rest e h may labels b rax rcx closure =
      let there = (and_parts (is_place words p) (nat_lt k 1000) e).0 in (
        and_from _ _ (unread p may there) (h labels b rax rcx closure).0,
        and_from _ _ (place_based p rax rcx closure) (and_from _ _ (or_left _ _ (or_left _ _ (place_word p there))) (h labels b _ _ _).1),
      )

  -- RCX, which has been set, into the heap
  written : (n offset : ℕ) (rest : List Item) → Fine n rest → Set n (item.Plain (MovTo (part_operand offset) 1) ∷ rest)
  written n offset rest h labels b rax rcx closure = h _ _ b _ _ _

  fields_fine : (n offset : ℕ) (sources : List (Source Place)) (rest : List Item) → list_all (source_selected words globals symbols literals) sources ≡ true
      → Fine n rest → Fine n (fields_code offset sources rest)
  fields_fine n offset [] rest e h = h
  fields_fine n offset (x ∷ sources) rest e h =
      let p = and_parts (source_selected words globals symbols literals x) (list_all (source_selected words globals symbols literals) sources) e in
      let others = fields_code (offset + 8) sources rest in
      captured n x (item.Plain (MovTo (part_operand offset) 1) ∷ others) p.0 (written n offset others (fields_fine n (offset + 8) sources rest p.1 h))

  record_fine : (n offset : ℕ) (c : Closure Place) (rest : List Item) → own ≤ n → nat_lt c.label count ≡ true
      → closure_selected words globals symbols literals c ≡ true → Fine n rest → Fine n (record_code offset c rest)
  record_fine n offset c rest low few e h may labels b rax rcx closure =
      let lt = ltb-true c.label count few in
      let p = and_parts (nat_le (length c.fields) 1000) (list_all (source_selected words globals symbols literals) c.fields) e in
      both _ _ _ (loadable (body_label c.label) (omega arith))
      (written n offset (fields_code (offset + 8) c.fields rest) (fields_fine n (offset + 8) c.fields rest p.1 h) (body_label c.label ∷ labels)
      (below_with n (body_label c.label) labels (omega (arith, lt, low)) b) rax false closure)

  -- ## Groups

  spill_set : (n : ℕ) (p : Place) (spills : List ℕ) (is : List Item) → Set n is → Set n (spill_code p spills is)
  spill_set n (Slot j) (x ∷ spills) is h labels b rax rcx closure = h labels b rax rcx closure
  spill_set n (Slot j) [] is h labels b rax rcx closure = h labels b rax rcx closure
  spill_set n (Register r) spills is h labels b rax rcx closure = h labels b rax rcx closure

  -- the word of a closure in the heap
  named : (n offset : ℕ) (rest : List Item) → Set n rest
      → Fine n (item.Plain (MovTo (Reg 1) 12) ∷ (item.Plain (AddNumber (Reg 1) (pos offset)) ∷ rest))
  named n offset rest h may labels b rax rcx closure = h _ b _ _ _

  places_fine : (n offset : ℕ) (members : List (Member Place)) (spills : List ℕ) (rest : List Item) → Fine n rest → Fine n (places_code offset members spills rest)
  places_fine n offset [] spills rest h = h
  places_fine n offset (m ∷ members) spills rest h =
      let others = places_fine n (offset + closure_bytes m.closure) members (spills_behind m.at spills) rest h in
      let code = places_code (offset + closure_bytes m.closure) members (spills_behind m.at spills) rest in
      let store = item.Plain (MovTo (place_operand m.at) 1) ∷ code in
      named n (offset + procedure_tag) (spill_code m.at spills store) (spill_set n m.at spills store (stored_set n m.at code others))

  records_fine : (n offset : ℕ) (members : List (Member Place)) (rest : List Item) → own ≤ n → members_few count members ≡ true
      → members_selected words globals symbols literals members ≡ true → Fine n rest → Fine n (records_code offset members rest)
  records_fine n offset [] rest low few e h = h
  records_fine n offset (m ∷ members) rest low few e h =
      let f = and_parts (nat_lt m.closure.label count) (members_few count members) few in
      let p = and_parts (is_place words m.at) (closure_selected words globals symbols literals m.closure && members_selected words globals symbols literals members) e in
      let q = and_parts (closure_selected words globals symbols literals m.closure) (members_selected words globals symbols literals members) p.1 in
      let next = offset + closure_bytes m.closure in
      record_fine n offset m.closure (records_code next members rest) low f.0 q.0 (records_fine n next members rest low f.1 q.1 h)

  -- the heap has room, and its register goes on
  checked : (n bytes : ℕ) (rest : List Item) → Fine n rest → Fine n (check_heap heap_end bytes rest)
  checked n bytes rest h may labels b rax rcx closure = h _ _ b _ _ _

  advanced : (n bytes : ℕ) (rest : List Item) → Fine n rest → Fine n (item.Plain (AddNumber (Reg 12) (pos bytes)) ∷ rest)
  advanced n bytes rest h may labels b rax rcx closure = h _ _ b _ _ _

  group_fine : (n : ℕ) (members : List (Member Place)) (spills : List ℕ) (rest : List Item) → own ≤ n → members_few count members ≡ true
      → members_selected words globals symbols literals members ≡ true → Fine n rest → Fine n (group_code heap_end members spills rest)
  group_fine n members spills rest low few e h =
      let bytes = group_bytes members in
      let last = item.Plain (AddNumber (Reg 12) (pos bytes)) ∷ rest in
      let records = records_code 0 members last in
      checked n bytes (places_code 0 members spills records)
      (places_fine n 0 members spills records (records_fine n 0 members last low few e (advanced n bytes rest h)))

  -- ## Operations

  parted : (n tag bytes : ℕ) (rest : List Item) → Fine n rest → Fine n (part_code tag bytes rest)
  parted n tag bytes rest h may labels b rax rcx closure = h _ _ b _ _ _

  new_cell_fine : (n : ℕ) (rest : List Item) → Fine n rest → Fine n (new_cell_code heap_end rest)
  new_cell_fine n rest h may labels b rax rcx closure = h _ _ b _ _ _

  unset_cell_fine : (n : ℕ) (rest : List Item) → Fine n rest → Fine n (unset_cell_code heap_end rest)
  unset_cell_fine n rest h may labels b rax rcx closure = h _ _ b _ _ _

  read_cell_fine : (n : ℕ) (rest : List Item) → Fine n rest → Fine n (read_cell_code rest)
  read_cell_fine n rest h may labels b rax rcx closure = h _ _ b _ _ _

  write_cell_set : (n : ℕ) (rest : List Item) → Fine n rest → Set n (write_cell_code rest)
  write_cell_set n rest h labels b rax rcx closure = h _ _ b _ _ _

  global_fine : (n g : ℕ) (rest : List Item) → Fine n rest → Fine n (global_code literals g rest)
  global_fine n g rest h may labels b rax rcx closure = h _ _ b _ _ _

  global_set : (n g : ℕ) (rest : List Item) → Fine n rest
      → Fine n (item.StoreWord (global_address literals g) 0 ∷ (item.Plain (MovNumber (Reg 0) (pos unspecified_word)) ∷ rest))
  global_set n g rest h may labels b rax rcx closure = h _ _ b _ _ _

  operation_fine : (n : ℕ) (o : Operation Place) (rest : List Item) → own ≤ n → operation_few count o ≡ true
      → operation_selected words globals symbols literals o ≡ true → Fine (n + operation_needs o) rest → Fine n (operation_code heap_end literals n o rest)
  operation_fine n (operation.Operand o) rest low few e h = operand_fine n low o rest e h
  operation_fine n (operation.Prim site which []) rest low few e h = earlier n (n + 12) rest (omega arith) h
  operation_fine n (operation.Prim site which (o ∷ [])) rest low few e h =
      let p = and_parts (takes 1 which) (operand_selected words globals symbols literals o) e in
      let last = unary_fine (n + 8) rest (earlier (n + 8 + 4) (n + 12) rest (omega arith) h) (omega (arith, low)) which in
      let code = unary_code (n + 8) which rest in
      any_fine n low o code p.1 (earlier (n + 4) (n + 8) code (omega arith) last)
  operation_fine n (operation.Prim site which (o ∷ (q ∷ []))) rest low few e h =
      let p = and_parts (takes 2 which) (operand_selected words globals symbols literals o && operand_selected words globals symbols literals q) e in
      let both = and_parts (operand_selected words globals symbols literals o) (operand_selected words globals symbols literals q) p.1 in
      let last = pair_set (n + 8) rest (earlier (n + 8 + 4) (n + 12) rest (omega arith) h) (omega (arith, low)) which in
      let code = pair_or_binary heap_end (n + 8) which rest in
      any_fine n low o (second_code (n + 4) q code) both.0
      (second_fine (n + 4) (omega (arith, low)) q code both.1 (earlier_set (n + 4 + 4) (n + 8) code (omega arith) last))
  operation_fine n (operation.Prim site which (o ∷ (q ∷ (r ∷ [])))) rest low few e h =
      let t = three_selected words globals symbols literals which o q r e in
      let last = ternary_set (n + 8) which rest (earlier (n + 8) (n + 12) rest (omega arith) h) in
      let index = index_operand q (ternary_code which rest) in
      let indexed = index_fine (n + 8) q (ternary_code which rest) t.1.0 last in
      let code = operand_code (n + 4) o index in
      let first = any_fine (n + 4) (omega (arith, low)) o index t.0 (earlier (n + 4 + 4) (n + 8) index (omega arith) indexed) in
      any_fine n low r (item.Plain (MovTo (Reg 11) 0) ∷ code) t.1.1 (aside (n + 4) code first)
  operation_fine n (operation.Prim site which (o ∷ (q ∷ (r ∷ (s ∷ operands))))) rest low few e h = earlier n (n + 12) rest (omega arith) h
  operation_fine n (operation.Global g) rest low few e h = global_fine n g rest (earlier n (n + 0) rest (omega arith) h)
  operation_fine n (operation.SetGlobal g o) rest low few e h =
      let p = and_parts (nat_lt g globals) (operand_selected words globals symbols literals o) e in
      let code = item.StoreWord (global_address literals g) 0 ∷ (item.Plain (MovNumber (Reg 0) (pos unspecified_word)) ∷ rest) in
      operand_fine n low o code p.1 (global_set (n + operand_needs o) g rest h)
  operation_fine n (operation.Field p k) rest low few e h = source_fine n (source.Field p k) rest e (earlier n (n + 0) rest (omega arith) h)
  operation_fine n (operation.NewCell x) rest low few e h =
      source_fine n x (new_cell_code heap_end rest) e (new_cell_fine n rest (earlier n (n + 0) rest (omega arith) h))
  operation_fine n operation.UnsetCell rest low few e h = unset_cell_fine n rest (earlier n (n + 0) rest (omega arith) h)
  operation_fine n (operation.CellGet x) rest low few e h =
      source_fine n x (read_cell_code rest) e (read_cell_fine n rest (earlier n (n + 0) rest (omega arith) h))
  operation_fine n (operation.CellSet x o) rest low few e h =
      let p = and_parts (source_selected words globals symbols literals x) (operand_selected words globals symbols literals o) e in
      let code = write_cell_code rest in
      operand_fine n low o (source_code 1 x code) p.1 (captured (n + operand_needs o) x code p.0 (write_cell_set (n + operand_needs o) rest h))
  operation_fine n (operation.MakeClosure c) rest low few e h =
      let bytes = closure_bytes c in
      let part = part_code procedure_tag bytes rest in
      let last = parted n procedure_tag bytes rest (earlier n (n + 0) rest (omega arith) h) in
      checked n bytes (record_code 0 c part) (record_fine n 0 c part low few e last)

  -- ## Bodies

  copied : (n : ℕ) (to from : Place) (rest : List Item) → is_place words to ≡ true → is_place words from ≡ true → Fine n rest
      → Fine n (item.Plain (copy_insn to from) ∷ rest)
  copied n to (Register r) rest e f h = stored n r to rest (apart r 1 refl f) h
  copied n (Register r) (Slot j) rest e f h = loaded n r (Slot j) rest f h
  copied n (Slot i) (Slot j) rest e f h = loaded n 0 (Slot j) rest f h

  -- a label inside a body is below its own labels
  inside : (n out l : ℕ) → out < n → nat_lt l out ≡ true → l < n
  inside n out l lt e = let below = ltb-true l out e in omega (arith, lt, below)

  -- The labels of a body are numbered from `base` on, and `out` is the last one.
  instruction_fine : (base out n : ℕ) → out < n → own ≤ base → base ≤ out → (i : Instruction) (rest : List Item) → labels_few count i ≡ true
      → names_below base out i ≡ true → instruction_selected words globals symbols literals i ≡ true → Fine (n + labels_needed i) rest
      → Fine n (instruction_code base out words heap_end literals n i rest)
  instruction_fine base out n lt low wide (instruction.Do o) rest few below e h may labels b rax rcx closure =
      operation_fine n o rest (omega (arith, lt, low, wide)) few e h may labels b rax rcx closure
  instruction_fine base out n lt low wide (instruction.Store p) rest few below e h may labels b rax rcx closure =
      stored n 0 p rest refl (earlier n (n + 0) rest (omega arith) h) may labels b rax rcx closure
  instruction_fine base out n lt low wide (instruction.Copy to from) rest few below e h may labels b rax rcx closure =
      let p = and_parts (is_place words to) (is_place words from) (and_parts _ _ e).1 in
      copied n to from rest p.0 p.1 (earlier n (n + 0) rest (omega arith) h) may labels b rax rcx closure
  instruction_fine base out n lt low wide (instruction.Pass k) rest few below e h may labels b rax rcx closure =
      stored n 0 (Slot (words + k)) rest refl (earlier n (n + 0) rest (omega arith) h) may labels b rax rcx closure
  instruction_fine base out n lt low wide (instruction.Fix members spills) rest few below e h may labels b rax rcx closure =
      let q = and_parts (nat_eq (length spills) (in_slots members)) (nat_le (length members) max_operands && members_selected words globals symbols literals members) e in
      let p = and_parts (nat_le (length members) max_operands) (members_selected words globals symbols literals members) q.1 in
      group_fine n members spills rest (omega (arith, lt, low, wide)) few p.1 (earlier n (n + 0) rest (omega arith) h) may labels b rax rcx closure
  instruction_fine base out n lt low wide (instruction.Call spread k) rest few below e h may labels b rax rcx closure =
      both _ _ _ (loadable n (omega (arith, lt, low, wide)))
      (h _ _ (below_with (n + 1) n labels (omega arith) (below_more n (n + 1) labels (omega arith) b)) _ _ _)
  instruction_fine base out n lt low wide (instruction.Tail spread k) rest few below e h may labels b rax rcx closure =
      earlier n (n + 0) rest (omega arith) h _ _ b _ _ _
  instruction_fine base out n lt low wide instruction.Return rest few below e h may labels b rax rcx closure =
      earlier n (n + 0) rest (omega arith) h _ _ b _ _ _
  instruction_fine base out n lt low wide instruction.End rest few below e h may labels b rax rcx closure =
      both _ _ _ (passable may out (omega (arith, low, wide)))
      (earlier n (n + 0) rest (omega arith) h _ _ (below_reached may n out labels lt b) _ _ _)
  instruction_fine base out n lt low wide (instruction.IfFalse l) rest few below e h may labels b rax rcx closure =
      both _ _ _ (passable may (base + l) (omega (arith, low)))
      (earlier n (n + 0) rest (omega arith) h _ _ (below_reached may n (base + l) labels (inside n out (base + l) lt below) b) _ _ _)
  instruction_fine base out n lt low wide (instruction.Jump l) rest few below e h may labels b rax rcx closure =
      both _ _ _ (passable may (base + l) (omega (arith, low)))
      (earlier n (n + 0) rest (omega arith) h _ _ (below_reached may n (base + l) labels (inside n out (base + l) lt below) b) _ _ _)
  instruction_fine base out n lt low wide (instruction.Label l) rest few below e h may labels b rax rcx closure =
      earlier n (n + 0) rest (omega arith) h _ _ b _ _ _
  instruction_fine base out n lt low wide (instruction.Mark m) rest few below e h may labels b rax rcx closure =
      earlier n (n + 0) rest (omega arith) h _ _ b _ _ _

  body_fine : (base out n : ℕ) → out < n → own ≤ base → base ≤ out → (is : List Instruction) (rest : List Item) → list_all (labels_few count) is ≡ true
      → list_all (names_below base out) is ≡ true → list_all (instruction_selected words globals symbols literals) is ≡ true
      → Fine (n + all_labels_needed is) rest → Fine n (body_code base out words heap_end literals n is rest)
  body_fine base out n lt low wide [] rest few named e h = earlier n (n + 0) rest (omega arith) h
  body_fine base out n lt low wide (i ∷ is) rest few named e h =
      let f = and_parts (labels_few count i) (list_all (labels_few count) is) few in
      let m = and_parts (names_below base out i) (list_all (names_below base out) is) named in
      let p = and_parts (instruction_selected words globals symbols literals i) (list_all (instruction_selected words globals symbols literals) is) e in
      let next = n + labels_needed i in
      let same = earlier (next + all_labels_needed is) (n + (labels_needed i + all_labels_needed is)) rest (omega arith) h in
      let code = body_code base out words heap_end literals next is rest in
      instruction_fine base out n lt low wide i code f.0 m.0 p.0
      (body_fine base out next (omega (arith, lt)) low wide is rest f.1 m.1 p.1 same)

  -- ## Entries

  labelled : (n l : ℕ) (rest : List Item) → Fine n rest → Fine n (item.Label l ∷ rest)
  labelled n l rest h may labels b rax rcx closure = h _ _ b _ _ _

  marked : (n : ℕ) (m : MarkKind) (rest : List Item) → Fine n rest → Fine n (item.Mark m ∷ rest)
  marked n m rest h may labels b rax rcx closure = h _ _ b _ _ _

  passed_fine : (n : ℕ) (o : Option Entry) (out : ℕ) (rest : List Item) → own ≤ out → out < n → Fine n rest → Fine n (passed_code o out rest)
  passed_fine n None out rest low lt h may labels b rax rcx closure = h may labels b rax rcx closure
  passed_fine n (Some e) out rest low lt h may labels b rax rcx closure =
      both _ _ _ (passable may out (omega (arith, low))) (h _ _ (below_reached may n out labels lt b) _ _ _)

  list_fine : (n : ℕ) (b : Bool) (required l : ℕ) (rest : List Item) → nat_lt required 6 ≡ b → own ≤ l → l < n → Fine n rest
      → Fine n (list_code b required l rest)
  list_fine n true required l rest e low lt h may labels b rax rcx closure =
      let few = ltb-true required 6 e in
      both _ _ _ (loadable l (omega (arith, low))) (both _ _ _ (listed may required few)
      (h _ _ (below_reached _ n (list_label required) (l ∷ labels) (omega (arith, few, low, lt)) (below_with n l labels lt b)) _ _ _))
  list_fine n false required l rest e low lt h may labels b rax rcx closure =
      both _ _ _ (loadable l (omega (arith, low))) (h _ _ (below_with n l labels lt b) _ _ _)

  count_fine : (n : ℕ) (b : Bool) (formals l : ℕ) (rest : List Item) → own ≤ l → l < n → Fine n rest → Fine n (count_code b formals l rest)
  count_fine n false formals l rest low lt h may labels b rax rcx closure = h _ _ b _ _ _
  count_fine n true formals l rest low lt h may labels b rax rcx closure =
      list_fine n (nat_lt (formals - 1) 6) (formals - 1) l rest refl low lt h _ _ b _ _ _

  entry_fine : (n : ℕ) (o : Option Entry) (l : ℕ) (rest : List Item) → own ≤ l → l < n → Fine n rest → Fine n (entry_code o l rest)
  entry_fine n None l rest low lt h = h
  entry_fine n (Some e) l rest low lt h = count_fine n e.rest e.formals l rest low lt h

  form_fine : (label n : ℕ) (c : Code) (rest : List Item) → own ≤ n → forward c.labels c.instructions ≡ true
      → list_all (labels_few count) c.instructions ≡ true → list_all (instruction_selected words globals symbols literals) c.instructions ≡ true
      → Fine (labels_end n c) rest → Fine n (form_code words heap_end literals label n c rest)
  form_fine label n c rest low ahead few e h =
      let out = n + c.labels in
      let first = n + c.labels + 2 in
      let code = body_code n out words heap_end literals first c.instructions (item.Label out ∷ rest) in
      let body = body_fine n out first (omega arith) low (omega arith) c.instructions (item.Label out ∷ rest) few
      (body_below n c.labels c.instructions ahead) e (labelled (labels_end n c) out rest h) in
      let marks = item.Mark (Enter label) ∷ code in
      let checks = entry_code c.entry (n + c.labels + 1) marks in
      let entry = entry_fine first c.entry (n + c.labels + 1) marks (omega (arith, low)) (omega arith) (marked first (Enter label) code body) in
      earlier n first (form_code words heap_end literals label n c rest) (omega arith)
      (passed_fine first c.entry out (item.Label (body_label label) ∷ checks) (omega (arith, low)) (omega arith) (labelled first (body_label label) checks entry))

  forms_fine : (label n : ℕ) (cs : List Code) (rest : List Item) → own ≤ n → list_all (λ c. forward c.labels c.instructions) cs ≡ true
      → list_all (λ c. list_all (labels_few count) c.instructions) cs ≡ true → list_all (form_selected words globals symbols literals) cs ≡ true
      → ((k : ℕ) → Fine k rest) → Fine n (forms_code words heap_end literals label n cs rest)
  forms_fine label n [] rest low ahead few e h = h n
  forms_fine label n (c ∷ cs) rest low ahead few e h =
      let a = and_parts (forward c.labels c.instructions) (list_all (λ c. forward c.labels c.instructions) cs) ahead in
      let f = and_parts (list_all (labels_few count) c.instructions) (list_all (λ c. list_all (labels_few count) c.instructions) cs) few in
      let p = and_parts (form_selected words globals symbols literals c) (list_all (form_selected words globals symbols literals) cs) e in
      let q = and_parts (nat_le (formals_of c.entry) max_operands) (list_all (instruction_selected words globals symbols literals) c.instructions) p.0 in
      let others = forms_code words heap_end literals (suc label) (labels_end n c) cs rest in
      form_fine label n c others low a.0 f.0 q.1
      (forms_fine (suc label) (labels_end n c) cs rest (omega (arith, low)) a.1 f.1 p.1 h)

-- ## The shortest forms

module _ (own : ℕ) where
  slot_numbers : (may : Bool) (labels : List ℕ) (rest : List Item) (i : Insn)
      → overwrites_slot own may labels (item.Plain (short_number i) ∷ rest) ≡ overwrites_slot own may labels (item.Plain i ∷ rest)
  slot_numbers may labels rest (AddNumber m n) = refl
  slot_numbers may labels rest _ = refl

  slot_operands : (may : Bool) (labels : List ℕ) (rest : List Item) (i : Insn) (b : ℕ) (d : ℤ)
      → overwrites_slot own may labels (item.Plain (with_operand (Base8 b d) i) ∷ rest) ≡ overwrites_slot own may labels (item.Plain (with_operand (Base32 b d) i) ∷ rest)
  slot_operands may labels rest (MovTo m r) b d = refl
  slot_operands may labels rest _ b d = refl

  narrowed_slot : (may : Bool) (labels : List ℕ) (is : List Item) → overwrites_slot own may labels (narrowed is) ≡ overwrites_slot own may labels is
  narrowed_slot may labels [] = refl
  narrowed_slot may labels (item.Plain i ∷ is) =
      item_same (λ k. overwrites_slot own may labels (k ∷ narrowed is)) (slot_numbers may labels (narrowed is)) (slot_operands may labels (narrowed is)) (item.Plain i)
      ∙ ap (λ b. (not (reads_register 1 i) || not may) && b) (narrowed_slot (not (sets_register 1 i) && may) labels is)
  narrowed_slot may labels (item.Label l ∷ is) = narrowed_slot (may || (nat_lt l own || has l labels)) labels is
  narrowed_slot may labels (item.Jump l ∷ is) = ap (λ b. (not (is_handed l) || not may) && b) (narrowed_slot false (reached_labels may l labels) is)
  narrowed_slot may labels (item.JumpIf c l ∷ is) = ap (λ b. (not (is_handed l) || not may) && b) (narrowed_slot may (reached_labels may l labels) is)
  narrowed_slot may labels (item.LoadLabel r l ∷ is) = ap (λ b. not (is_handed l) && b) (narrowed_slot (not (nat_eq r 1) && may) (l ∷ labels) is)
  narrowed_slot may labels (item.LoadWord r a ∷ is) = narrowed_slot (not (nat_eq r 1) && may) labels is
  narrowed_slot may labels (item.StoreWord a r ∷ is) = ap (λ b. (not (nat_eq r 1) || not may) && b) (narrowed_slot may labels is)
  narrowed_slot may labels (item.Mark m ∷ is) = narrowed_slot may labels is

masks_numbers : (i : Insn) → masks_tag (short_number i) ≡ masks_tag i
masks_numbers (AndNumber m n) = refl
masks_numbers _ = refl

masks_operands : (i : Insn) (b : ℕ) (d : ℤ) → masks_tag (with_operand (Base8 b d) i) ≡ masks_tag (with_operand (Base32 b d) i)
masks_operands (AndNumber m n) b d = refl
masks_operands _ b d = refl

compares_numbers : (i : Insn) → compares_tag (short_number i) ≡ compares_tag i
compares_numbers (CmpNumber m n) = refl
compares_numbers _ = refl

compares_operands : (i : Insn) (b : ℕ) (d : ℤ) → compares_tag (with_operand (Base8 b d) i) ≡ compares_tag (with_operand (Base32 b d) i)
compares_operands (CmpNumber m n) b d = refl
compares_operands _ b d = refl

tests_same : (is : List Item) → tests_tag (narrowed is) ≡ tests_tag is
tests_same (item.Plain i ∷ (item.Plain j ∷ (item.JumpIf c l ∷ is))) =
    ap (λ b. b && (compares_tag (narrow j) && (nat_eq c 5 && nat_lt l FIRST_LABEL))) (narrow_same masks_tag masks_numbers masks_operands i)
    ∙ ap (λ b. masks_tag i && (b && (nat_eq c 5 && nat_lt l FIRST_LABEL))) (narrow_same compares_tag compares_numbers compares_operands j)
tests_same (item.Plain i ∷ (item.Plain j ∷ [])) = refl
tests_same (item.Plain i ∷ (item.Plain j ∷ (_ ∷ is))) = refl
tests_same (item.Plain i ∷ []) = refl
tests_same (item.Plain i ∷ (_ ∷ is)) = refl
tests_same [] = refl
tests_same (_ ∷ is) = refl

bases_numbers : (rax rcx closure : Bool) (rest : List Item) (i : Insn)
    → bases_known rax rcx closure (item.Plain (short_number i) ∷ rest) ≡ bases_known rax rcx closure (item.Plain i ∷ rest)
bases_numbers rax rcx closure rest (AddNumber m n) = refl
bases_numbers rax rcx closure rest _ = refl

bases_operands : (rax rcx closure : Bool) (rest : List Item) (i : Insn) (b : ℕ) (d : ℤ)
    → bases_known rax rcx closure (item.Plain (with_operand (Base8 b d) i) ∷ rest) ≡ bases_known rax rcx closure (item.Plain (with_operand (Base32 b d) i) ∷ rest)
bases_operands rax rcx closure rest (MovTo m r) b d = refl
bases_operands rax rcx closure rest _ b d = refl

narrowed_bases : (rax rcx closure : Bool) (is : List Item) → bases_known rax rcx closure (narrowed is) ≡ bases_known rax rcx closure is
narrowed_bases rax rcx closure [] = refl
narrowed_bases rax rcx closure (item.Plain i ∷ is) =
    item_same (λ k. bases_known rax rcx closure (k ∷ narrowed is)) (bases_numbers rax rcx closure (narrowed is)) (bases_operands rax rcx closure (narrowed is)) (item.Plain i)
    ∙ ap (λ t. has_known_base rax rcx closure (operand_of i) && bases_known (knows 0 t rax i) (knows 1 t rcx i) (knows 14 t closure i) (narrowed is)) (tests_same is)
    ∙ ap (λ b. has_known_base rax rcx closure (operand_of i) && b) (narrowed_bases (knows 0 (tests_tag is) rax i) (knows 1 (tests_tag is) rcx i) (knows 14 (tests_tag is) closure i) is)
narrowed_bases rax rcx closure (item.Label l ∷ is) = narrowed_bases false false false is
narrowed_bases rax rcx closure (item.LoadLabel r l ∷ is) =
    narrowed_bases (not (nat_eq r 0) && rax) (not (nat_eq r 1) && rcx) (not (nat_eq r 14) && closure) is
narrowed_bases rax rcx closure (item.LoadWord r a ∷ is) = narrowed_bases (nat_eq r 0 || rax) (nat_eq r 1 || rcx) (nat_eq r 14 || closure) is
narrowed_bases rax rcx closure (_ ∷ is) = narrowed_bases rax rcx closure is

-- ## Programs

module _ (p : tree.Source) (limit depth : ℕ) (e : selects p ≡ true) (ahead : list_all (λ c. forward c.labels c.instructions) p.bodies ≡ true)
    (few : list_all (λ c. list_all (labels_few (length p.bodies)) c.instructions) p.bodies ≡ true) where
  program_fine : (overwrites_slot (own_label p) true [] (selected_code p limit depth) ≡ true) × (bases_known false false false (selected_code p limit depth) ≡ true)
  program_fine =
      let globals = length p.statics.globals in
      let symbols = length p.statics.symbols in
      let literals = count_literals p.statics.literals in
      let forms = (and_parts (list_all (form_selected p.words globals symbols literals) p.bodies) (list_all (λ c. marks_settled true c.instructions) p.bodies) e).0 in
      forms_fine (length p.bodies) p.words globals symbols literals (heap_of p + limit) 0 (own_label p) p.bodies (item.Jump (label_of routine.End) ∷ [])
      (omega arith) ahead few forms (λ k may labels b rax rcx closure. (refl, refl)) true [] (λ m le. refl) _ _ _

  pub program_slot : IsTrue (overwrites_slot (own_label p) true [] (narrowed (selected_code p limit depth)))
  program_slot = narrowed_slot (own_label p) true [] (selected_code p limit depth) ∙ program_fine.0

  pub program_bases : IsTrue (bases_known false false false (narrowed (selected_code p limit depth)))
  program_bases = narrowed_bases false false false (selected_code p limit depth) ∙ program_fine.1
