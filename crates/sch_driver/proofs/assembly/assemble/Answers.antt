use Rattle.std.proofs.Common.{◌≡◌, ◌≤◌, ℕ, ◌+◌, ◌*◌, ◌∙◌, ap, subst, sym, length, arith}
use Rattle.std.specs.Prelude.{IsTrue}
use Rattle.sch_word.proofs.facts.KnownErrors.{kept_error}
use Rattle.sch_word.specs.runs.ProgramLayout.{data_address}
use Rattle.sch_word.specs.declared.limits.TheConstants.{MAX_HEAP}
use Rattle.sch_control.specs.ProgramView.{source}
use Rattle.sch_control.specs.Work.{codes_work}
use Rattle.sch_frames.specs.ProgramView as frames
use Rattle.sch_frames.specs.Standing.{all_marks_stand}
use Rattle.sch_registers.specs.MadeFrom.{AreMadeFrom}
use Rattle.sch_runtime.specs.Code.{all_routines}
use Rattle.sch_select_data.specs.Data.{max_heap_address}
use Rattle.sch_select_memory.specs.Addresses.{max_heap_end}
use Rattle.sch_select.specs.Sizes.{kinds_of}
use Rattle.sch_driver.specs.Assembled.{IsFrameSize, IsUnfit, assembled_bound}
use Rattle.sch_driver.specs.ListedCycles.{listed_cycles}
use Rattle.sch_select.proofs.items.ProgramFacts.{words_few}
use Rattle.sch_driver.proofs.Images.{assembled, framed_parts, refused_for, size_of_frames, text_within, unfit}
use Rattle.sch_driver.proofs.Resolved.{resolved_kinds}
use Rattle.sch_driver.proofs.labels.FewLabels.{few_tests, frames_labelled}
use Rattle.sch_driver.proofs.assembly.assemble.Goals as goal

-- where the heap ends
heap_end_is : (end words count heap start : ℕ) → end ≡ data_address + 8 * count + heap → count ≡ words → data_address + 8 * words ≡ start → end ≡ start + heap
heap_end_is end words count heap start a b d = omega (arith, a, b, d)

heap_end_near : (words count heap start : ℕ) → count ≡ words → data_address + 8 * words ≡ start → start ≤ max_heap_address → heap ≤ MAX_HEAP
    → data_address + 8 * count + heap ≤ max_heap_end
heap_end_near words count heap start a b low few = omega (arith, a, b, low, few)

end_near : (end count heap : ℕ) → end ≡ data_address + 8 * count + heap → data_address + 8 * count + heap ≤ max_heap_end → end ≤ max_heap_end
end_near end count heap e le = omega (arith, e, le)

pub end_of_heap-heap_end-requires : goal.end_of_heap-heap_end-requires
end_of_heap-heap_end-requires c =
    let code = c.in_ok-code.ensures in
    record { near = heap_end_near (length c.in_ok-code.code.words) c.len.result c.args.limits.heap _ c.len.ensures code.words code.low c.args.limits.admitted.heap_high }

pub routines-requires : goal.routines-requires
routines-requires c =
    let code = c.in_ok-code.ensures in
    end_near c.end_of_heap-heap_end.result c.len.result c.args.limits.heap c.end_of_heap-heap_end.ensures
    (heap_end_near (length c.in_ok-code.code.words) c.len.result c.args.limits.heap _ c.len.ensures code.words code.low c.args.limits.admitted.heap_high)

pub frame_program-requires : goal.frame_program-requires
frame_program-requires c = record { tests = few_tests (source c.args.p) c.requires.labels }

pub select-requires : goal.select-requires
select-requires c =
    let made = c.in_ok-framed.ensures in
    record {
      covered = made.covered c.requires.covered;
      stack = c.in_ok-check_stack.ensures.fits;
      labels = frames_labelled (source c.args.p) (frames.source c.in_ok-framed.framed.frames) made.made made.chain c.requires.labels;
    }

pub returns-clause-marks : goal.returns-clause-marks
returns-clause-marks c =
    let r = c.in_ok-resolved in
    resolved_kinds c.in_ok-code.code.items c.in_ok-routines.routines.items c.in_ok-code.code.words r.resolved.code r.resolved.marks r.resolved.words
    c.end_of_heap-heap_end.result c.in_ok-routines.ensures.items r.ensures.stands
    ∙ (c.in_ok-code.ensures.marks ∙ ap (kinds_of 0) c.in_ok-framed.ensures.made)

pub returns-clause-cycles : goal.returns-clause-cycles
returns-clause-cycles c = c.in_ok-cycles.ensures ∙ ap listed_cycles c.in_ok-framed.ensures.calls

pub returns-clause-stand : goal.returns-clause-stand
returns-clause-stand c =
    let made = c.in_ok-framed.ensures in
    subst (λ codes. IsTrue (all_marks_stand codes)) made.made made.stand

pub returns-clause-chain : goal.returns-clause-chain
returns-clause-chain c =
    let made = c.in_ok-framed.ensures in
    subst (AreMadeFrom (source c.args.p).bodies) made.made made.chain

pub returns-in_err-resolved-clause-refused : goal.returns-in_err-resolved-clause-refused
returns-in_err-resolved-clause-refused c =
    let p = source c.args.p in
    let f = frames.source c.in_ok-framed.framed.frames in
    let depth = c.args.limits.depth in
    let made = c.in_ok-framed.ensures in
    let cause = c.in_err-resolved.field-0.0 in
    let items = c.in_ok-code.code.items in
    let routines = c.in_ok-routines.routines.items in
    let n = text_within f items routines (codes_work p.bodies) c.in_ok-code.ensures.text made.fits c.in_ok-routines.ensures.short in
    let ends = heap_end_is c.end_of_heap-heap_end.result (length c.in_ok-code.code.words) c.len.result c.args.limits.heap _ c.end_of_heap-heap_end.ensures c.len.ensures c.in_ok-code.ensures.words in
    let size = size_of_frames p f c.args.limits.heap depth items routines c.in_ok-code.ensures.items (c.in_ok-routines.ensures.items ∙ ap all_routines ends)
    (framed_parts p f made.statics made.library made.made made.words) in
    refused_for p depth c.from_residual-in_err-resolved.result cause c.from_residual-in_err-resolved.ensures.1
    (unfit p f.words depth _ cause (record { largest = made.words; few = words_few c.in_ok-framed.framed.frames; bound = made.covered_words c.requires.covered })
    c.in_ok-check_stack.ensures.fits size n c.in_err-resolved.ensures.too_large)

pub returns-in_err-check_stack-clause-refused : goal.returns-in_err-check_stack-clause-refused
returns-in_err-check_stack-clause-refused c =
    let p = source c.args.p in
    let depth = c.args.limits.depth in
    let made = c.in_ok-framed.ensures in
    let frame : IsFrameSize p c.in_ok-framed.framed.frames.words = record { largest = made.words; few = words_few c.in_ok-framed.framed.frames; bound = made.covered_words c.requires.covered } in
    let large = c.in_err-check_stack.ensures.refused in
    kept_error c.from_residual-in_err-check_stack.result c.in_err-check_stack.field-0.0 (IsUnfit p depth) c.from_residual-in_err-check_stack.ensures.1
    (subst (IsUnfit p depth) (sym large.0) (large.1, frame))

pub returns-clause-does : goal.returns-clause-does
returns-clause-does c =
    let r = c.in_ok-resolved in
    let p = source c.args.p in
    let f = frames.source c.in_ok-framed.framed.frames in
    let made = c.in_ok-framed.ensures in
    let code = c.in_ok-code.ensures in
    let n = text_within f c.in_ok-code.code.items c.in_ok-routines.routines.items (codes_work p.bodies) code.text made.fits c.in_ok-routines.ensures.short in
    let ends = heap_end_is c.end_of_heap-heap_end.result (length c.in_ok-code.code.words) c.len.result c.args.limits.heap _ c.end_of_heap-heap_end.ensures c.len.ensures code.words in
    assembled p f c.args.limits.heap c.args.limits.depth c.in_ok-code.code c.in_ok-routines.routines
    r.resolved.code r.resolved.marks r.resolved.words c.into_bytes-text.result r.resolved.zeros c.in_ok-image.image c.len-instructions.result c.len-instructions.ensures
    made.same (framed_parts p f made.statics made.library made.made made.words)
    (record { follows = code.follows; ends = code.steps; passes = code.passes; enters = code.entries; takes = code.takes; stand = made.stand; stores = code.stores made.stand; followed = made.called; units = code.instructions; zeros = code.zeros; items = code.items; words_end = code.words })
    (c.in_ok-routines.ensures.items ∙ ap all_routines ends)
    (record { largest = made.words; few = words_few c.in_ok-framed.framed.frames; bound = made.covered_words c.requires.covered })
    c.in_ok-check_stack.ensures.fits r.ensures.words
    c.in_ok-routines.ensures.effective r.ensures.stands r.ensures.valid r.ensures.fits r.ensures.size (subst (λ k. k ≤ assembled_bound p) (sym r.ensures.size) n)
    c.into_bytes-text.ensures r.ensures.zeros c.in_ok-image.ensures.layout
