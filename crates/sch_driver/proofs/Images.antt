-- The image of a program whose items follow the runs of its frames.
use Rattle.std.proofs.Common.{◌≡◌, ◌≤◌, ℕ, true, suc, ◌+◌, ◌*◌, List, [], ◌∷◌, ◌++◌, length, map, refl, Some, None, sym, ap, ◌∙◌, subst, arith}
use Rattle.std.specs.Prelude.{IfErr, IsErrAnd, IsTrue, Result, Ok, Err, replicate}
use Rattle.std.specs.List.{flat_map}
use Rattle.std.proofs.lemmas.List.{append-nil}
use Rattle.sch_frames.proofs.EndsAlike.{follows_some}
use Rattle.sch_word.specs.declared.answer.Answer.{Answer}
use Rattle.sch_word.specs.runs.ProgramLayout.{data_address, max_text_size, text_address}
use Rattle.sch_word.specs.runs.Runs.{Run, Statics}
use Rattle.sch_word.specs.values.Memory.{Segment}
use Rattle.sch_insn.specs.declared.insn.Insn.{Insn}
use Rattle.sch_insn.specs.Behaves.{FollowsRuns}
use Rattle.sch_insn.specs.Spelling.{AllValid, spelling}
use Rattle.sch_asm.specs.declared.assembly.Asm.{Asm}
use Rattle.sch_asm.specs.declared.error.AsmError.{AsmError}
use Rattle.sch_asm.specs.declared.error.AsmError.TheVariants.{TextTooLarge, Memory}
use Rattle.sch_asm.specs.declared.item.Item.{Item}
use Rattle.sch_asm.specs.declared.item.Mark.{Mark}
use Rattle.sch_asm.specs.Codes.{AreResolved, Codes, instructions_in, text_size, IsTooLarge}
use Rattle.sch_asm.specs.Pieces.{shortest_size}
use Rattle.sch_asm.specs.Data.{data_at}
use Rattle.sch_asm.specs.Effects.{AreEffective}
use Rattle.sch_asm.specs.Stands.{marks_at}
use Rattle.sch_asm.specs.Views.{text_at}
use Rattle.sch_asm.proofs.Skeleton.{at_most_sum, same_append, same_shortest}
use Rattle.sch_asm.proofs.Tables.{size_append}
use Rattle.sch_elf.specs.declared.image.Image.{Image}
use Rattle.sch_elf.specs.Layout.{memory}
use Rattle.sch_elf.specs.Program.{IsProgramImage}
use Rattle.sch_control.specs.Sizes.{most_variables}
use Rattle.sch_control.specs.Work.{codes_work}
use Rattle.sch_control.specs.declared.body.Body.{Body}
use Rattle.sch_control.specs.SourceView.{codes_of}
use Rattle.sch_control.specs.Tree as control
use Rattle.sch_control.specs.Run as control_run
use Rattle.sch_frames.specs.Standing.{all_marks_stand}
use Rattle.sch_frames.specs.Does.{SameRuns}
use Rattle.sch_frames.specs.Run as frames_run
use Rattle.sch_frames.specs.Tree as frames
use Rattle.sch_asm.specs.Narrow.{narrowed}
use Rattle.sch_runtime.specs.Code.{all_routines, routine_items}
use Rattle.sch_select_memory.specs.ValueCode.{StandInFront, value_code}
use Rattle.sch_select_data.specs.Data.{heap_of}
use Rattle.sch_select.specs.Ends.{EndsWithin}
use Rattle.sch_frames.specs.Run.{entries_of}
use Rattle.sch_frames.specs.Sizes.{program_copies, program_work}
use Rattle.sch_registers.specs.Registers.{registers_code, registers_words}
use Rattle.sch_select.specs.Follows.{AreRuns, EndsFrames, EntersFrames, FollowsFrames, PassesFrames, TakesFrames}
use Rattle.sch_select.specs.Marks.{CountsEntries, PassesMarks, TakesWays, marks_passed}
use Rattle.sch_select.specs.Program.{frames_bytes, max_stack, program_code, program_zeros}
use Rattle.sch_select.specs.Sizes.{steps_bound, steps_size}
use Rattle.sch_lang.specs.Bodies as bodies
use Rattle.sch_lang.specs.Measures as core
use Rattle.sch_lang.specs.Tree as lang
use Rattle.sch_driver.specs.declared.error.CompileError.{CompileError}
use Rattle.sch_driver.specs.declared.error.CompileError.TheVariants as compile_error
use Rattle.sch_driver.specs.Causes.{IsErrorOf, HasFrames, Means, text_bound}
use Rattle.sch_driver.specs.FitsProgram.{FitsProgram}
use Rattle.sch_driver.specs.Framed.{IsMarked, framed, framed_size}
use Rattle.sch_driver.specs.Assembled.{IsAssembled, IsFrameSize, IsUnfit, assembled_bound, of_assembly, steps_of}
use Rattle.sch_select.proofs.items.NarrowProgram.{narrowed_stores}
use Rattle.sch_select.proofs.items.SameSize.{same_pieces, same_routines}
use Rattle.sch_select.specs.MarkedStores.{stores_marked}
use Rattle.sch_registers.specs.OwnMarks.{EachSaveCalled}
use Rattle.sch_driver.proofs.LazyWays.{lazy_ways}
use Rattle.sch_driver.proofs.Resolved.{resolved_many}
use Rattle.sch_driver.proofs.Steps.{ends_later, steps_fit}
use Rattle.sch_driver.proofs.StoresMarked.{both_marked, stores_resolved}

-- the memory of an image is its text and its data
memory_is : (text words : List ℕ) (zeros : ℕ) (image : Image) → IsProgramImage text words zeros image → memory image.segments ≡ text_at text ∷ data_at (words ++ replicate zeros 0) ∷ []
memory_is text words zeros image lies =
    ap memory lies.segments ∙ ap (λ bytes. text_at bytes ∷ data_at (words ++ replicate zeros 0) ∷ []) (append-nil text)

-- what is so of its text and its data is so of the memory of an image
in_image : (P : ℕ → List Segment → Type 0) (text words : List ℕ) (zeros : ℕ) (image : Image) → IsProgramImage text words zeros image
    → P text_address (text_at text ∷ data_at (words ++ replicate zeros 0) ∷ []) → P image.entry (memory image.segments)
in_image P text words zeros image lies h =
    subst (λ a. P a (memory image.segments)) (sym lies.entry) (subst (P text_address) (sym (memory_is text words zeros image lies)) h)

frames_runs : (p : control.Source) (f : frames.Source) (heap depth : ℕ) → SameRuns p f → (runs : List Answer → ℕ → Run)
    → ((answers : List Answer) (entries : ℕ) → control_run.run p heap depth answers entries ≡ Some (runs answers entries)) → AreRuns f heap depth runs
frames_runs p f heap depth same runs are = record {
  are = λ answers entries.
      follows_some (control_run.run p heap depth answers entries) (frames_run.run f heap depth answers entries) (runs answers entries) (are answers entries) (same heap depth answers entries);
}

-- bodies have the names of their codes
pub names_of_codes : (bs : List Body) → map (λ b. b.name) bs ≡ map (λ c. c.name) (codes_of bs)
names_of_codes [] = refl
names_of_codes (b ∷ bs) = ap (λ names. b.name ∷ names) (names_of_codes bs)

-- the frame program of a program, by its parts
pub framed_parts : (p : control.Source) (f : frames.Source) → f.statics ≡ p.statics → f.library ≡ p.library → f.bodies ≡ map registers_code p.bodies → f.words ≡ registers_words p.bodies → f ≡ framed p
framed_parts p f statics library bodies words =
    ap (λ s. framed_of s f.library f.bodies f.words) statics
    ∙ ap (λ l. framed_of p.statics l f.bodies f.words) library
    ∙ ap (λ bs. framed_of p.statics p.library bs f.words) bodies
    ∙ ap (framed_of p.statics p.library (map registers_code p.bodies)) words
  where
    framed_of : Statics → List ℕ → List frames.Code → ℕ → frames.Source
    framed_of s l bs n = record { statics = s; library = l; bodies = bs; words = n }

-- the items of its frame program and the routines are as long as its text
pub size_of_frames : (p : control.Source) (f : frames.Source) (heap depth : ℕ) (items routines : List Item)
    → items ≡ program_code f heap depth → routines ≡ all_routines (heap_of f + heap) → f ≡ framed p
    → shortest_size (items ++ routines) ≡ framed_size p
size_of_frames p f heap depth items routines made are is_framed =
    ap (λ is. shortest_size (is ++ routines)) made
    ∙ ap (λ rs. shortest_size (program_code f heap depth ++ rs)) are
    ∙ same_shortest (program_code f heap depth ++ all_routines (heap_of f + heap)) (program_code f 0 0 ++ all_routines (heap_of f))
    (same_append (program_code f heap depth) (program_code f 0 0) (all_routines (heap_of f + heap)) (all_routines (heap_of f)) (same_pieces f heap depth) (same_routines f heap))
    ∙ ap (λ g. shortest_size (program_code g 0 0 ++ all_routines (heap_of g))) is_framed

-- what `select` says of the items and the data of a frame program
pub record AreSelected (f : frames.Source) (heap depth : ℕ) (a : Asm) : Type 0 where
  pub follows : FollowsFrames f heap depth a.items a.words a.zeros
  pub ends : EndsFrames f heap depth a.items a.words a.zeros
  pub passes : PassesFrames f heap depth a.items a.words a.zeros
  pub enters : EntersFrames f heap depth a.items a.words a.zeros
  pub takes : TakesFrames f heap depth a.items a.words a.zeros
  pub stand : IsTrue (all_marks_stand f.bodies)
  pub stores : IsTrue (stores_marked None a.items)
  pub followed : EachSaveCalled f.bodies
  pub units : steps_size f ≤ 3 * instructions_in a.items
  pub zeros : a.zeros ≡ program_zeros f heap depth
  pub items : a.items ≡ program_code f heap depth
  pub words_end : data_address + 8 * length a.words ≡ heap_of f

-- the routines that know how values are in the machine have no marks, and write no word through the frame's register
value_stored : (heap_end : ℕ) → stores_marked None (value_code heap_end) ≡ true
value_stored heap_end = refl

routines_stored : (heap_end : ℕ) → IsTrue (stores_marked None (all_routines heap_end))
routines_stored heap_end = both_marked None (narrowed (value_code heap_end)) routine_items (narrowed_stores None (value_code heap_end) ∙ value_stored heap_end) refl

-- What is selected of the frames, with the routines, follows the runs of the control program, exits in time and passes
-- the marks.
pub assembled : (p : control.Source) (f : frames.Source) (heap depth : ℕ) (a routines : Asm) (code : List Insn) (marks : List Mark) (words text : List ℕ) (zeros : ℕ) (image : Image) (instructions : ℕ)
    → instructions ≡ length code → SameRuns p f → f ≡ framed p → AreSelected f heap depth a
    → routines.items ≡ all_routines (heap_of f + heap) → IsFrameSize p f.words → frames_bytes f.words depth ≤ max_stack
    → length words ≡ 8 * length a.words
    → AreEffective routines.items → AreResolved (a.items ++ routines.items) a.words code marks words → AllValid code
    → length (flat_map spelling code) ≤ max_text_size → length (flat_map spelling code) ≡ shortest_size (a.items ++ routines.items)
    → length (flat_map spelling code) ≤ assembled_bound p → text ≡ flat_map spelling code → zeros ≡ a.zeros
    → IsProgramImage text words zeros image → IsAssembled p heap depth f.words instructions marks image
assembled p f heap depth a routines code marks words text zeros image instructions counted same is_framed selected items frame stack long effective resolved valid short size bound text_is zeros_are lies =
    let many : suc (instructions_in a.items) ≤ instructions =
    subst (λ n. suc (instructions_in a.items) ≤ n) (sym counted) (resolved_many a.items routines.items a.words code marks words (heap_of f + heap) items resolved) in
    let lies' : IsProgramImage (flat_map spelling code) words a.zeros image =
    subst (λ t. IsProgramImage t words a.zeros image) text_is (subst (λ z. IsProgramImage text words z image) zeros_are lies) in
    let run : (runs : List Answer → ℕ → Run) → ((answers : List Answer) (entries : ℕ) → control_run.run p heap depth answers entries ≡ Some (runs answers entries)) → AreRuns f heap depth runs =
    frames_runs p f heap depth same in
    let front : StandInFront (heap_of f + heap) routines.items = record { others = routine_items; parts = items } in
    record {
      laid_out = record { code = code; valid = valid; short = short; words = words; zeros = a.zeros; lies = lies' };
      counted = counted;
      size = size ∙ size_of_frames p f heap depth a.items routines.items selected.items items is_framed;
      bound = bound;
      words_end = ap (λ n. data_address + n) long ∙ selected.words_end ∙ ap heap_of is_framed;
      room = selected.zeros;
      frame = frame;
      fits = stack;
      follows = λ runs are.
          in_image (λ entry segments. FollowsRuns entry segments runs) (flat_map spelling code) words a.zeros image lies'
          (selected.follows.follows routines.items code marks words front effective a.marked routines.marked resolved valid short runs (run runs are));
      ends = λ runs are.
          in_image (λ entry segments. EndsWithin entry segments runs (steps_of instructions)) (flat_map spelling code) words a.zeros image lies'
          (ends_later text_address (text_at (flat_map spelling code) ∷ data_at (words ++ replicate a.zeros 0) ∷ []) runs (steps_bound f) (steps_of instructions)
          (λ entries answers charged. steps_fit (steps_size f) (instructions_in a.items) instructions entries answers charged selected.units many)
          (selected.ends.ends routines.items code marks words front effective a.marked routines.marked resolved valid short runs (run runs are)));
      stores = stores_resolved (a.items ++ routines.items) resolved.place_of text_address code marks
          (both_marked None a.items routines.items selected.stores (subst (λ is. IsTrue (stores_marked None is)) (sym items) (routines_stored (heap_of f + heap)))) resolved.codes;
      lazily = λ runs are. record {
        ended = λ g answers m.
            lazy_ways f.bodies selected.followed _
            ((in_image (λ entry segments. TakesWays entry segments (marks_at marks) f.bodies) (flat_map spelling code) words a.zeros image lies'
            (selected.takes.takes routines.items code marks words front effective a.marked routines.marked resolved valid short runs (run runs are) selected.stand)).ways g answers m);
      };
      marked = λ runs are.
          subst (λ g. IsMarked image code marks g heap depth runs) is_framed
          (record {
            coded = (
              resolved.place_of,
              subst (λ is. Codes resolved.place_of text_address is code marks)
                  (ap (λ is. is ++ routines.items) selected.items ∙ ap (λ rs. program_code f heap depth ++ rs) items) resolved.codes,
            );
            frames_run = run runs are;
            passes = in_image (λ entry segments. PassesMarks entry segments (marks_at marks) (marks_passed f heap depth)) (flat_map spelling code) words a.zeros image lies'
                (selected.passes.passes routines.items code marks words front effective a.marked routines.marked resolved valid short);
            enters = in_image (λ entry segments. CountsEntries entry segments (marks_at marks) (entries_of f.bodies) runs) (flat_map spelling code) words a.zeros image lies'
                (selected.enters.enters routines.items code marks words front effective a.marked routines.marked resolved valid short runs (run runs are));
            takes = in_image (λ entry segments. TakesWays entry segments (marks_at marks) f.bodies) (flat_map spelling code) words a.zeros image lies'
                (selected.takes.takes routines.items code marks words front effective a.marked routines.marked resolved valid short runs (run runs are) selected.stand);
          });
    }

-- ## What is too large

-- the text of a program's items and of the routines, by the work in its bodies
pub text_within : (f : frames.Source) (a routines : List Item) (work : ℕ) → text_size a ≤ 64 + (64 * program_work f + 8 * program_copies f) → 64 * program_work f + 8 * program_copies f ≤ 72 * work
    → text_size routines ≤ 2560 → shortest_size (a ++ routines) ≤ 65536 + 72 * work
text_within f a routines work text fits short = let e = size_append a routines in let m = at_most_sum (a ++ routines) in omega (arith, e, m, text, fits, short)

pub unfit : (p : control.Source) (words depth n : ℕ) (error : AsmError) → IsFrameSize p words → frames_bytes words depth ≤ max_stack → n ≡ framed_size p → n ≤ assembled_bound p → IsTooLarge n error
    → IsUnfit p depth (of_assembly error)
unfit p words depth n (TextTooLarge bytes) frame stack size bound t =
    record { words = words; frame = frame; fits = stack; large = t.1; size = t.0 ∙ size; bound = subst (λ k. k ≤ assembled_bound p) (sym t.0) bound }
unfit p words depth n Memory frame stack size bound t = tt

pub refused_for : {A : Type 0} (p : control.Source) (depth : ℕ) (r : Result A CompileError) (cause : AsmError)
    → IsErrAnd r (λ e. e ≡ of_assembly cause) → IsUnfit p depth (of_assembly cause) → IfErr r (IsUnfit p depth)
refused_for p depth (Ok a) cause h u = tt
refused_for p depth (Err e) cause h u = subst (IsUnfit p depth) (sym h) u

-- the bound by the control program is one by the core program
pub bound_chain : (p : lang.Source) (q : control.Source) (code : List Insn) → length (flat_map spelling code) ≤ assembled_bound q → codes_work q.bodies ≤ 7 * core.program_size p
    → length (flat_map spelling code) ≤ text_bound p
bound_chain p q code h size = omega (arith, h, size)

-- the frames of the control program are of the core program
pub frame_chain : (p : lang.Source) (q : control.Source) (words : ℕ) → FitsProgram p q → IsFrameSize q words → most_variables q.bodies ≤ 2 + bodies.most_variables p → HasFrames p words
frame_chain p q words fits f h = let bound = f.bound in record { control = q; fits_program = fits; largest = f.largest; few = f.few; bound = omega (arith, bound, h) }

-- a text that means a program, and unfit for its control program
pub too_large : (library text : List ℕ) (p : lang.Source) (q : control.Source) (depth : ℕ) (e : CompileError) → Means library text p → FitsProgram p q → codes_work q.bodies ≤ 7 * core.program_size p
    → most_variables q.bodies ≤ 2 + bodies.most_variables p → IsUnfit q depth e → IsErrorOf library text depth e
unfolding frame_chain
too_large library text p q depth (compile_error.TextTooLarge bytes) means fits size most unfit =
    let bound = unfit.bound in
    record {
      program = p;
      means = means;
      words = unfit.words;
      frame = frame_chain p q unfit.words fits unfit.frame most;
      fits = unfit.fits;
      large = unfit.large;
      size = unfit.size;
      bound = omega (arith, bound, size);
    }
too_large library text p q depth (compile_error.StackTooLarge words) means fits size most unfit =
    record { program = p; means = means; large = unfit.0; frame = frame_chain p q words fits unfit.1 most }
too_large library text p q depth compile_error.Memory means fits size most unfit = tt
too_large library text p q depth (compile_error.Read part e) means fits size most unfit = absurd unfit
too_large library text p q depth (compile_error.Core part e) means fits size most unfit = absurd unfit
