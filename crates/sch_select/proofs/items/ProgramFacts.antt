-- What the type of frame programs keeps, as select needs it, and that a program's labels are its own.
use Rattle.std.proofs.Common.{◌≡◌, ℕ, suc, ◌+◌, ◌*◌, ◌≤◌, List, [], ◌∷◌, ◌++◌, length, true, refl}
use Rattle.std.proofs.Common.{sym, ap, ◌∙◌, subst, arith, ◌&&◌}
use Rattle.std.specs.Prelude.{nat_le}
use Rattle.std.specs.List.{list_all, AllByRecursion}
use Rattle.std.proofs.lemmas.Bool.{and_parts, and_from, leb-true}
use Rattle.std.proofs.lemmas.List.Elements.{All-from_recursion}
use Rattle.sch_word.specs.trees.NumberSets.{has}
use Rattle.sch_word.proofs.facts.NumberSets.{in_here, in_more}
use Rattle.sch_word.specs.values.Literals.{count_literals, literals_known}
use Rattle.sch_word.specs.runs.ProgramLayout.{max_data_size, data_address}
use Rattle.sch_word.specs.runs.Runs.{max_statics, statics_size, statics_valid, statics_in_range, library_known}
use Rattle.sch_word.specs.declared.place.Place.{Place}
use Rattle.sch_control.specs.declared.operation.Operand.{Operand}
use Rattle.sch_control.specs.declared.operation.Operand.TheVariants as operand
use Rattle.sch_control.specs.declared.operation.Operation.{Operation}
use Rattle.sch_control.specs.declared.operation.Operation.TheVariants as operation
use Rattle.sch_frames.specs.declared.frame_body.FrameBody.{FrameBody}
use Rattle.sch_frames.specs.declared.frame_program.FrameProgram.{FrameProgram}
use Rattle.sch_frames.specs.declared.instruction.Instruction.{Instruction}
use Rattle.sch_frames.specs.declared.instruction.Instruction.TheVariants.{Do, Store, Copy, Pass, Fix, Call, Tail, Return, End, IfFalse, Jump, Label, Mark}
use Rattle.sch_frames.specs.ProgramView.{source}
use Rattle.sch_frames.specs.SourceView.{codes_of}
use Rattle.sch_frames.specs.Tree.{Source}
use Rattle.sch_frames.specs.Valid.{forward, max_words}
use Rattle.sch_asm.specs.declared.item.Item.{Item}
use Rattle.sch_asm.specs.declared.routine.TheConstants.{FIRST_LABEL}
use Rattle.sch_asm.specs.Items.{AreOwn, labels_in}
use Rattle.sch_asm.specs.Narrow.{narrowed}
use Rattle.sch_select_data.specs.Data.{heap_of, max_heap_address}
use Rattle.sch_word.proofs.values.NameSizes.{names_few}
use Rattle.sch_word.specs.declared.limits.TheConstants.{MAX_HEAP}
use Rattle.sch_select_data.proofs.StaticSizes.{literals_few}
use Rattle.sch_select.specs.Program.{laid_code, program_code, selected_code, program_zeros, max_stack, own_label}
use Rattle.sch_select.specs.Program.{stack_bytes}
use Rattle.sch_select.specs.Select.{all_labels_needed, operand_needs, operation_needs}
use Rattle.sch_select.proofs.items.ProgramLabels.{labels_low, forms_labels, forms_labelled, last_code}

pub words_few : (p : FrameProgram) → p.words ≤ max_words
words_few p = leb-true p.words max_words (and_parts (nat_le p.words max_words)
    (list_all (λ c. nat_le c.words p.words) (codes_of p.bodies)) p.within).0

pub statics_small : (p : FrameProgram) → statics_size (source p).statics ≤ max_statics
statics_small p =
    let s = (source p).statics in
    let valid = (and_parts (statics_valid (length p.library) s) (statics_in_range s) p.ready).0 in
    leb-true (statics_size s) max_statics (and_parts (nat_le (statics_size s) max_statics)
    (literals_known (length s.symbols) s.literals && library_known (length p.library) s.globals) valid).0

pub statics_few : (p : FrameProgram)
    → count_literals (source p).statics.literals + length (source p).statics.globals ≤ max_statics
statics_few p =
    let s = (source p).statics in
    let small = statics_small p in
    let l = literals_few s.literals in
    omega (arith, small, l)

pub symbols_few : (p : FrameProgram) → length (source p).statics.symbols ≤ max_statics
symbols_few p =
    let small = statics_small p in
    let n = names_few (source p).statics.symbols in
    omega (arith, small, n)

pub all_forward : (bodies : List FrameBody) → list_all (λ c. forward c.labels c.instructions) (codes_of bodies) ≡ true
all_forward [] = refl
all_forward (b ∷ bodies) = and_from (forward b.labels b.instructions)
    (list_all (λ c. forward c.labels c.instructions) (codes_of bodies)) b.forward (all_forward bodies)

-- ---- an instruction needs twelve labels at most

operand_few : (o : Operand Place) → operand_needs o ≤ 4
operand_few (operand.Atom a) = omega arith
operand_few (operand.Read site which atoms) = omega arith

operation_few : (o : Operation Place) → operation_needs o ≤ 12
operation_few (operation.Operand o) = let h = operand_few o in omega (arith, h)
operation_few (operation.Prim site which operands) = omega arith
operation_few (operation.Global g) = omega arith
operation_few (operation.SetGlobal g o) = let h = operand_few o in omega (arith, h)
operation_few (operation.Field p k) = omega arith
operation_few (operation.NewCell x) = omega arith
operation_few operation.UnsetCell = omega arith
operation_few (operation.CellGet x) = omega arith
operation_few (operation.CellSet x o) = let h = operand_few o in omega (arith, h)
operation_few (operation.MakeClosure c) = omega arith

pub needed_few : (is : List Instruction) → all_labels_needed is ≤ 12 * length is
needed_few [] = omega arith
needed_few (Do o ∷ is) = let h = operation_few o in let more = needed_few is in omega (arith, h, more)
needed_few (Call spread count ∷ is) = let more = needed_few is in omega (arith, more)
needed_few (Store p ∷ is) = let more = needed_few is in omega (arith, more)
needed_few (Copy to from ∷ is) = let more = needed_few is in omega (arith, more)
needed_few (Pass k ∷ is) = let more = needed_few is in omega (arith, more)
needed_few (Fix members spills ∷ is) = let more = needed_few is in omega (arith, more)
needed_few (Tail spread count ∷ is) = let more = needed_few is in omega (arith, more)
needed_few (Return ∷ is) = let more = needed_few is in omega (arith, more)
needed_few (End ∷ is) = let more = needed_few is in omega (arith, more)
needed_few (IfFalse l ∷ is) = let more = needed_few is in omega (arith, more)
needed_few (Jump l ∷ is) = let more = needed_few is in omega (arith, more)
needed_few (Label l ∷ is) = let more = needed_few is in omega (arith, more)
needed_few (Mark m ∷ is) = let more = needed_few is in omega (arith, more)

-- ---- a program's labels are its own

each : (ls : List ℕ) (low : ℕ) → ((y : ℕ) → has y ls ≡ true → low ≤ y) → AllByRecursion (λ l. low ≤ l) ls
each [] low h = tt
each (l ∷ ls) low h = (h l (in_here l ls), each ls low (λ y e. h y (in_more y l ls e)))

each_append : (xs ys : List ℕ) (low : ℕ) → AllByRecursion (λ l. low ≤ l) xs → AllByRecursion (λ l. low ≤ l) ys
    → AllByRecursion (λ l. low ≤ l) (xs ++ ys)
each_append [] ys low a b = b
each_append (x ∷ xs) ys low a b = (a.0, each_append xs ys low a.1 b)

each_says : (ls : List ℕ) (low : ℕ) → list_all (λ l. nat_le low l) ls ≡ true → AllByRecursion (λ l. low ≤ l) ls
each_says [] low e = tt
each_says (l ∷ ls) low e = let p = and_parts (nat_le low l) (list_all (λ l. nat_le low l) ls) e in
    (leb-true low l p.0, each_says ls low p.1)

pub program_own : (p : Source) (limit depth : ℕ) → list_all (λ c. forward c.labels c.instructions) p.bodies ≡ true
    → AreOwn (selected_code p limit depth)
program_own p limit depth e =
    let rest = last_code in
    let forms = forms_labels 0 (own_label p) p.bodies in
    let is : labels_in (selected_code p limit depth) ≡ forms ++ labels_in rest = forms_labelled p.words
    (heap_of p + limit) (count_literals p.statics.literals) 0 (own_label p) p.bodies rest in
    All-from_recursion (λ l. FIRST_LABEL ≤ l) (labels_in (selected_code p limit depth))
    (subst (AllByRecursion (λ l. FIRST_LABEL ≤ l)) (sym is) (each_append forms (labels_in rest) FIRST_LABEL
    (each forms FIRST_LABEL (labels_low p e)) (each_says (labels_in rest) FIRST_LABEL refl)))

-- ---- what is made

pub whole_items : (p : Source) (limit depth stack literals heap n : ℕ) (items : List Item) → stack ≡ heap_of p + limit
    → literals ≡ count_literals p.statics.literals → heap ≡ heap_of p → n ≡ length p.bodies
    → items ≡ narrowed (laid_code p.words stack literals heap depth n p.bodies) → items ≡ program_code p limit depth
whole_items p limit depth stack literals heap n items a b c d e =
    e ∙ ap (λ s. narrowed (laid_code p.words s literals heap depth n p.bodies)) a
    ∙ ap (λ l. narrowed (laid_code p.words (heap_of p + limit) l heap depth n p.bodies)) b
    ∙ ap (λ h. narrowed (laid_code p.words (heap_of p + limit) (count_literals p.statics.literals) h depth n p.bodies)) c
    ∙ ap (λ n. narrowed (laid_code p.words (heap_of p + limit) (count_literals p.statics.literals) (heap_of p) depth n p.bodies)) d

pub bodies_count : (bodies : List FrameBody) → length (codes_of bodies) ≡ length bodies
bodies_count [] = refl
bodies_count (b ∷ bodies) = ap suc (bodies_count bodies)

-- ---- where the data end

-- the words end where the heap begins
pub data_end : (p : Source) (limit depth count : ℕ) → stack_bytes p.words depth ≤ max_stack + 16384
    → data_address + 8 * count ≡ heap_of p → heap_of p ≤ max_heap_address → limit ≤ MAX_HEAP
    → 8 * count + program_zeros p limit depth ≤ max_data_size
data_end p limit depth count stack words low heap = omega (arith, stack, words, low, heap)
