use Rattle.std.proofs.Common.{◌≡◌, ℕ, List, [], true, ap, ◌∙◌, ◌+◌, ◌*◌, ◌≤◌, length, map, sym, subst, refl, arith}
use Rattle.std.specs.Prelude.{IsTrue, None, false}
use Rattle.std.specs.List.{list_all}
use Rattle.std.proofs.Math.Nat.{le_trans}
use Rattle.sch_word.specs.runs.ProgramLayout.{max_data_size, data_address}
use Rattle.sch_word.specs.values.LiteralView.{literals_of}
use Rattle.sch_word.specs.values.StaticsView.{statics}
use Rattle.sch_word.specs.declared.limits.TheConstants.{MAX_HEAP}
use Rattle.sch_asm.specs.declared.assembly.Word.{Word}
use Rattle.sch_asm.specs.declared.assembly.Word.TheVariants.{Fixed}
use Rattle.sch_asm.specs.declared.item.Item.{Item}
use Rattle.sch_asm.specs.Items.{AreItems, AreKnown, AreOwn, IsEachOnce, labels_in, marks_arrive}
use Rattle.sch_asm.specs.Codes.{instructions_in, text_size}
use Rattle.sch_asm.specs.Narrow.{is_narrow_item}
use Rattle.sch_asm.proofs.NarrowItems.{all_narrow, narrowed_marked, narrowed_size, narrowed_sound}
use Rattle.sch_frames.specs.ProgramView.{source}
use Rattle.sch_frames.specs.Tree.{Source}
use Rattle.sch_frames.specs.Sizes.{program_copies, program_work}
use Rattle.sch_select_data.proofs.literals.PlacedLiterals.{placed_objects, placed_literals}
use Rattle.sch_select_data.proofs.literals.Rows.{count_rows}
use Rattle.sch_select_data.specs.Data.{static_count, objects_unit, names_of, closures_of, heap_of, max_heap_address}
use Rattle.sch_select_data.specs.Data.{data_words, program_words}
use Rattle.sch_select.specs.Program.{labels_of, max_stack, program_code, program_zeros, own_label, selected_code, stack_bytes}
use Rattle.sch_select_memory.specs.Addresses.{max_heap_end, max_labels, names_address}
use Rattle.sch_select.specs.MarkedStores.{stores_marked}
use Rattle.sch_select.specs.FrameWords.{keeps_frames}
use Rattle.sch_select.specs.KnownBases.{bases_known}
use Rattle.sch_select.specs.SlotAddress.{overwrites_slot}
use Rattle.sch_select.specs.Sizes.{kinds_in, kinds_of, steps_size}
use Rattle.sch_select.proofs.programs.CoveredPrograms.{codes_free, entries_selected, globals_known, labels_known}
use Rattle.sch_select.proofs.programs.CoveredPrograms.{covered_selected, texts_are, literals_are, literals_named}
use Rattle.sch_select.proofs.programs.CoveredPrograms.{library_small, procedures_known}
use Rattle.sch_select.proofs.programs.OwnWays.{takes_frames}
use Rattle.sch_select.proofs.programs.JoinedProgram.{IsSelected, program_selected}
use Rattle.sch_select_data.proofs.StartData.{words_end}
use Rattle.sch_select_data.proofs.StaticSizes.{heap_low, made_heap, names_below}
use Rattle.sch_select.proofs.items.ProgramFacts.{all_forward, bodies_count, data_end, program_own, statics_few}
use Rattle.sch_select.proofs.items.ProgramFacts.{statics_small, symbols_few, whole_items, words_few}
use Rattle.sch_select.proofs.items.ProgramKnown.{program_known}
use Rattle.sch_select.proofs.items.ProgramLabels.{program_once}
use Rattle.sch_select.proofs.items.ProgramMarks.{program_marked}
use Rattle.sch_select.proofs.items.ProgramSound.{program_sound}
use Rattle.sch_select.proofs.items.InstructionCounts.{program_instructions}
use Rattle.sch_select.proofs.items.MarkKinds.{program_kinds}
use Rattle.sch_select.proofs.items.NarrowProgram.{narrowed_ahead, narrowed_instructions, narrowed_kinds, narrowed_known, narrowed_once, narrowed_own, narrowed_stores}
use Rattle.sch_select.proofs.items.ProgramStores.{program_stands}
use Rattle.sch_select.proofs.frame.ProgramBases.{program_bases, program_slot}
use Rattle.sch_select.proofs.frame.ProgramFrames.{program_reach}
use Rattle.sch_select.proofs.items.JumpsAhead.{program_ahead}
use Rattle.sch_select.specs.Jumps.{jumps_ahead}
use Rattle.sch_select.proofs.items.TextSize.{text_small}
use Rattle.sch_select.proofs.items.ReachedCodes.{library_reached, program_reached}
use Rattle.sch_select.proofs.selecting.select.Goals as goal

-- a program with few labels has few bodies
bodies_few : (p : Source) → labels_of p.bodies ≤ max_labels → length p.bodies ≤ max_labels
bodies_few p few = omega (arith, few)

pub heap_behind-heap-requires : goal.heap_behind-heap-requires
heap_behind-heap-requires c =
    let p = c.args.p.now in
    let s = statics p.statics in
    let behind = made_heap s (length p.library) _ _ _ c.in_ok-literals.ensures.objects
    (16 * c.lay_out-places.result.unit + 8 * c.len-2.result) c.len-2.ensures
    (c.lay_out-places.ensures.unit ∙ ap (objects_unit (static_count s)) c.len.ensures) refl in
    record {
      low = subst (λ h. h ≤ max_heap_address) (sym behind) (heap_low s (length p.library) (statics_small p)
          (library_small p c.requires.covered));
    }

pub words_of-requires-clause-names : goal.words_of-requires-clause-names
words_of-requires-clause-names c = names_below c.args.p.now.statics _ _ c.lay_out-places.ensures.names c.lay_out-places.ensures.closures

pub words_of-requires-clause-values : goal.words_of-requires-clause-values
words_of-requires-clause-values c = c.in_ok-literals.ensures.values
    ∙ ap (map Fixed) (placed_literals c.lay_out-places.result.unit (literals_of c.args.p.now.statics.literals))

pub words_of-requires-clause-objects : goal.words_of-requires-clause-objects
words_of-requires-clause-objects c = c.in_ok-literals.ensures.objects
    ∙ ap (map Fixed) (placed_objects c.lay_out-places.result.unit (literals_of c.args.p.now.statics.literals))

pub items_of-requires-clause-reached : goal.items_of-requires-clause-reached
items_of-requires-clause-reached c =
    let p = c.args.p.now in
    program_reached (source p) (words_few p) (bodies_few (source p) c.requires.labels) (covered_selected p c.requires.covered) (labels_known p)

pub items_of-requires-clause-labels : goal.items_of-requires-clause-labels
items_of-requires-clause-labels c =
    let few = c.requires.labels in
    let count = bodies_count c.args.p.now.bodies in
    omega (arith, few, count)

pub words_of-requires-clause-library : goal.words_of-requires-clause-library
words_of-requires-clause-library c =
    let p = c.args.p.now in library_reached (source p) (bodies_few (source p) c.requires.labels) (procedures_known p)

pub items_of-requires-clause-few : goal.items_of-requires-clause-few
items_of-requires-clause-few c =
    let p = c.args.p.now in
    let few = statics_few p in
    let rows = count_rows p.statics.literals in
    omega (arith, few, rows)

-- ---- what is made

few_bytes : (n m : ℕ) → n ≡ m → n ≤ max_stack + 16384 → m ≤ max_stack + 16384
few_bytes n m e le = omega (arith, e, le)

stack_few : (c : goal.In_ok-words) → stack_bytes c.args.p.now.words c.args.limits.depth ≤ max_stack + 16384
stack_few c = few_bytes _ _ c.stack_of.ensures.bytes c.stack_of.ensures.few

heap_made : (c : goal.In_ok-words) → c.heap_behind-heap.result ≡ heap_of (source c.args.p.now)
heap_made c =
    made_heap (statics c.args.p.now.statics) (length c.args.p.now.library) _ _ _ c.in_ok-literals.ensures.objects c.heap_behind-heap.result
    c.len-2.ensures
    (c.lay_out-places.ensures.unit ∙ ap (objects_unit (static_count (statics c.args.p.now.statics))) c.len.ensures)
    c.heap_behind-heap.ensures.start

low : (c : goal.In_ok-words) → heap_of (source c.args.p.now) ≤ max_heap_address
low c = subst (λ h. h ≤ max_heap_address) (heap_made c) c.heap_behind-heap.ensures.low

items_made : (c : goal.In_ok-words) → program_code (source c.args.p.now) c.args.limits.heap c.args.limits.depth ≡
    c.in_ok-items.items
items_made c =
    let p = c.args.p.now in
    sym (whole_items (source p) c.args.limits.heap c.args.limits.depth _ _ _ _ c.in_ok-items.items
    (ap (λ h. h + c.args.limits.heap) (heap_made c)) (sym (count_rows p.statics.literals)) (heap_made c)
    (sym (bodies_count p.bodies)) c.in_ok-items.ensures)

-- the items that are selected
abbrev wide : (c : goal.In_ok-words) → List Item
wide c = selected_code (source c.args.p.now) c.args.limits.heap c.args.limits.depth

words_made : (c : goal.In_ok-words) → program_words (source c.args.p.now) ≡ c.in_ok-words.words
words_made c =
    let s = c.args.p.now.statics in
    let l = c.args.p.now.library in
    let places = c.lay_out-places in
    sym (c.in_ok-words.ensures
    ∙ ap (λ n. data_words n places.result.closures places.result.unit (statics s) l) (places.ensures.names
    ∙ ap (λ n. names_address n (length s.globals)) (sym (count_rows s.literals)))
    ∙ ap (λ k. data_words (names_of (source c.args.p.now)) k places.result.unit (statics s) l) places.ensures.closures
    ∙ ap (λ u. data_words (names_of (source c.args.p.now)) (closures_of (source c.args.p.now)) u (statics s) l) (places.ensures.unit
    ∙ ap (objects_unit (static_count (statics s))) c.len.ensures))

zeros_made : (c : goal.In_ok-words) → program_zeros (source c.args.p.now) c.args.limits.heap c.args.limits.depth ≡
    c.args.limits.heap + c.stack_of.result
zeros_made c = sym (ap (λ n. c.args.limits.heap + n) c.stack_of.ensures.bytes)

ends_there : (c : goal.In_ok-words) → data_address + 8 * length (program_words (source c.args.p.now)) ≡ heap_of (source c.args.p.now)
ends_there c = words_end (λ l. 0) (λ l. omega arith) (statics c.args.p.now.statics) c.args.p.now.library 0 (low c)

-- what is so of the program's items, words and zeros is so of those that are made
made : (c : goal.In_ok-words) (P : List Item → List Word → ℕ → Type 0)
    → P (program_code (source c.args.p.now) c.args.limits.heap c.args.limits.depth) (program_words (source c.args.p.now))
    (program_zeros (source c.args.p.now) c.args.limits.heap c.args.limits.depth)
    → P c.in_ok-items.items c.in_ok-words.words (c.args.limits.heap + c.stack_of.result)
made c P h =
    let zeros = program_zeros (source c.args.p.now) c.args.limits.heap c.args.limits.depth in
    subst (P c.in_ok-items.items c.in_ok-words.words) (zeros_made c)
    (subst (λ ws. P c.in_ok-items.items ws zeros) (words_made c)
    (subst (λ is. P is (program_words (source c.args.p.now)) zeros) (items_made c) h))

selected : (c : goal.In_ok-words) → IsSelected (source c.args.p.now) c.args.limits.heap c.args.limits.depth
    c.in_ok-items.items c.in_ok-words.words (c.args.limits.heap + c.stack_of.result)
selected c =
    let p = c.args.p.now in
    let l = c.args.limits in
    let free = c.requires.covered in
    made c (IsSelected (source p) l.heap l.depth) (program_selected (source p) l.heap l.depth (words_few p) (low c)
    l.admitted.heap_high l.admitted.depth_high (stack_few c) (texts_are p) (covered_selected p free) (codes_free p free) (entries_selected p)
    (globals_known p) (literals_are p) (literals_named p))

near_by : (heap limit : ℕ) → heap ≤ max_heap_address → limit ≤ MAX_HEAP → heap + limit ≤ max_heap_end
near_by heap limit h l = omega (arith, h, l)

-- ---- the invariant of the answer, and its clauses

pub invariant_of-result : goal.invariant_of-result
invariant_of-result c =
    let p = c.args.p.now in
    let q = source p in
    let l = c.args.limits in
    let free = c.requires.covered in
    let s = covered_selected p free in
    record {
      sound = subst AreItems (items_made c) (narrowed_sound (wide c) (program_sound q l.heap l.depth (words_few p) (statics_few p) (symbols_few p)
          (near_by _ _ (low c) l.admitted.heap_high) l.admitted.depth_high s));
      once = subst (λ is. IsEachOnce (labels_in is)) (items_made c) (narrowed_once (wide c) (program_once q l.heap l.depth
          (all_forward p.bodies)));
      known = made c (λ is ws z. AreKnown is ws) (narrowed_known (wide c) (program_words q) (program_known q l.heap l.depth (all_forward p.bodies)
          (labels_known p) (procedures_known p)));
      marked = subst (λ is. IsTrue (marks_arrive false is)) (items_made c)
          (subst IsTrue (sym (narrowed_marked (wide c) false)) (program_marked q l.heap l.depth s));
    }

pub returns-clause-follows : goal.returns-clause-follows
returns-clause-follows c = (selected c.before).follows

pub returns-clause-steps : goal.returns-clause-steps
returns-clause-steps c = (selected c.before).ends

pub returns-clause-passes : goal.returns-clause-passes
returns-clause-passes c = (selected c.before).passes

pub returns-clause-entries : goal.returns-clause-entries
returns-clause-entries c = (selected c.before).enters

pub returns-clause-takes : goal.returns-clause-takes
returns-clause-takes c =
    let p = c.before.args.p.now in
    takes_frames (source p) c.before.args.limits.heap c.before.args.limits.depth (codes_free p c.before.requires.covered) _ _ _ (selected c.before).passes

pub returns-clause-items : goal.returns-clause-items
returns-clause-items c = sym (items_made c.before)

pub returns-clause-own : goal.returns-clause-own
returns-clause-own c =
    let p = c.args.p.now in
    subst AreOwn (items_made c.before) (narrowed_own (wide c.before) (program_own (source p) c.args.limits.heap c.args.limits.depth (all_forward p.bodies)))

pub returns-clause-narrow : goal.returns-clause-narrow
returns-clause-narrow c = subst (λ is. IsTrue (list_all is_narrow_item is)) (items_made c.before) (all_narrow (wide c.before))

pub returns-clause-text : goal.returns-clause-text
returns-clause-text c =
    let q = source c.args.p.now in
    subst (λ is. text_size is ≤ 64 + (64 * program_work q + 8 * program_copies q)) (items_made c.before)
    (le_trans (narrowed_size (wide c.before)) (text_small q c.args.limits.heap c.args.limits.depth))

pub returns-clause-ahead : goal.returns-clause-ahead
returns-clause-ahead c =
    let p = c.args.p.now in
    let q = source p in
    subst (λ is. IsTrue (jumps_ahead (own_label q) is)) (items_made c.before)
    (narrowed_ahead (own_label q) (wide c.before) ∙ program_ahead q c.args.limits.heap c.args.limits.depth (all_forward p.bodies) (labels_known p))

pub returns-clause-instructions : goal.returns-clause-instructions
returns-clause-instructions c =
    let p = c.args.p.now in
    let q = source p in
    subst (λ is. steps_size q ≤ 3 * instructions_in is) (items_made c.before)
    (subst (λ n. steps_size q ≤ 3 * n) (sym (narrowed_instructions (wide c.before)))
    (program_instructions q c.args.limits.heap c.args.limits.depth (covered_selected p c.requires.covered)))

pub returns-clause-marks : goal.returns-clause-marks
returns-clause-marks c =
    let p = c.args.p.now in
    let q = source p in
    subst (λ is. kinds_in is ≡ kinds_of 0 q.bodies) (items_made c.before)
    (narrowed_kinds (wide c.before) ∙ program_kinds q c.args.limits.heap c.args.limits.depth (covered_selected p c.requires.covered))

pub returns-clause-stores : goal.returns-clause-stores
returns-clause-stores c = λ stand.
    subst (λ is. IsTrue (stores_marked None is)) (items_made c.before)
    (narrowed_stores None (wide c.before) ∙ program_stands (source c.args.p.now) c.args.limits.heap c.args.limits.depth stand)

pub returns-clause-frame : goal.returns-clause-frame
returns-clause-frame c =
    let p = c.args.p.now in
    let l = c.args.limits in
    subst (λ is. IsTrue (keeps_frames (source p) l.heap is)) (items_made c.before)
    (program_reach (source p) l.heap l.depth (covered_selected p c.requires.covered))

pub returns-clause-slot : goal.returns-clause-slot
returns-clause-slot c =
    let p = c.args.p.now in
    let l = c.args.limits in
    subst (λ is. IsTrue (overwrites_slot (own_label (source p)) true [] is)) (items_made c.before)
    (program_slot (source p) l.heap l.depth (covered_selected p c.requires.covered) (all_forward p.bodies) (labels_known p))

pub returns-clause-bases : goal.returns-clause-bases
returns-clause-bases c =
    let p = c.args.p.now in
    let l = c.args.limits in
    subst (λ is. IsTrue (bases_known false false false is)) (items_made c.before)
    (program_bases (source p) l.heap l.depth (covered_selected p c.requires.covered) (all_forward p.bodies) (labels_known p))

pub returns-clause-words : goal.returns-clause-words
returns-clause-words c = subst (λ ws. data_address + 8 * length ws ≡ heap_of (source c.args.p.now)) (words_made c.before) (ends_there c.before)

pub returns-clause-low : goal.returns-clause-low
returns-clause-low c = low c.before

pub returns-clause-ends : goal.returns-clause-ends
returns-clause-ends c =
    let p = c.args.p.now in
    let l = c.args.limits in
    made c.before (λ is ws z. 8 * length ws + z ≤ max_data_size) (data_end (source p) l.heap l.depth
    (length (program_words (source p))) (stack_few c.before) (ends_there c.before) (low c.before) l.admitted.heap_high)

pub returns-clause-zeros : goal.returns-clause-zeros
returns-clause-zeros c = sym (zeros_made c.before)
