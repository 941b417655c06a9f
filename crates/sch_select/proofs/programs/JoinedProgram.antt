-- A program joined with its routines and resolved follows its runs.
use Rattle.std.proofs.Common.{◌≡◌, ℕ, ◌+◌, ◌-◌, ◌*◌, ◌^◌, ◌<◌, ◌≤◌, List, [], ◌∷◌, ◌++◌, length, replicate}
use Rattle.std.proofs.Common.{true, false, refl, sym, ap, ◌∙◌, subst, arith}
use Rattle.std.specs.Prelude.{IsTrue}
use Rattle.std.specs.List.{list_all, flat_map}
use Rattle.std.proofs.lemmas.Bool.{and_parts}
use Rattle.sch_word.specs.declared.answer.Answer.{Answer}
use Rattle.sch_word.specs.runs.Runs.{Run}
use Rattle.sch_word.specs.runs.Runs.{library_known}
use Rattle.sch_frames.specs.Tree.{Source}
use Rattle.sch_insn.specs.declared.insn.Insn.{Insn}
use Rattle.sch_insn.specs.Behaves.{FollowsRuns}
use Rattle.sch_insn.specs.Spelling.{AllValid, spelling}
use Rattle.sch_asm.specs.declared.assembly.Word.{Word}
use Rattle.sch_asm.specs.declared.item.Item.{Item}
use Rattle.sch_asm.specs.declared.item.Item.TheVariants as item
use Rattle.sch_asm.specs.declared.item.Mark as mark
use Rattle.sch_asm.specs.Codes.{AreResolved, bytes_of}
use Rattle.sch_asm.specs.Data.{data_at}
use Rattle.sch_asm.specs.Effects.{AreEffective}
use Rattle.sch_asm.specs.Items.{marks_arrive}
use Rattle.sch_asm.specs.Stands.{Setting, Stands}
use Rattle.sch_asm.specs.Views.{text_at}
use Rattle.sch_asm.proofs.Joined.{joined}
use Rattle.sch_asm.proofs.NarrowItems.{stands_wide}
use Rattle.sch_asm.specs.Narrow.{narrowed}
use Rattle.sch_asm.proofs.Standing.{setting_of, stands_front, stands_part}
use Rattle.sch_select_memory.specs.RestCode.{rest_routine}
use Rattle.sch_select_memory.specs.Addresses.{put_label, vector_label, string_label}
use Rattle.sch_select_data.specs.NameWords.{symbol_words, symbols_count}
use Rattle.sch_select_data.specs.Data.{program_words, names_of, closures_of, heap_of, max_heap_address}
use Rattle.sch_select_memory.specs.StaticBytes.{static_bytes}
use Rattle.sch_select.specs.Program.{program_code, program_zeros, max_stack, selected_code, stack_bytes}
use Rattle.sch_select_memory.specs.ValueCode.{StandInFront, value_code}
use Rattle.sch_select_memory.specs.PutCode.{put_value_code}
use Rattle.sch_select_memory.specs.MakeCode.{make_vector_code, make_string_code}
use Rattle.sch_word.specs.values.Values.{are_bytes}
use Rattle.sch_word.specs.values.Literals.{count_literals, literals_known, literals_in_range}
use Rattle.sch_select_data.proofs.literals.WordBytes.{word_bytes, word_bytes_length}
use Rattle.sch_word.specs.runs.ProgramLayout.{max_text_size, data_address, text_address}
use Rattle.sch_word.specs.declared.limits.TheConstants.{MAX_HEAP, MAX_DEPTH}
use Rattle.sch_asm.specs.Stands.{marks_at}
use Rattle.sch_select.specs.Ends.{EndsWithin}
use Rattle.sch_select.specs.Sizes.{steps_bound}
use Rattle.sch_select.specs.Marks.{PassesMarks, marks_passed}
use Rattle.sch_select.specs.Follows.{AreRuns, EndsFrames, EntersFrames, FollowsFrames, PassesFrames}
use Rattle.sch_select_memory.proofs.Places.{Plan, Room}
use Rattle.sch_select.proofs.items.AppendedItems.{behind}
use Rattle.sch_select_memory.proofs.simulation.Outcomes.{Laid}
use Rattle.sch_select.proofs.programs.Procedures.{bodies_cost}
use Rattle.sch_select_data.proofs.SymbolNames.{are_named, symbol_words_count}
use Rattle.sch_select_data.proofs.StartData.{parts_at_start, bytes_count, texts_there, table_there, literals_there}
use Rattle.sch_select_data.proofs.StartData.{globals_there, names_there, ends_at, contents_there, new_there}
use Rattle.sch_select.proofs.programs.EnterCounts.{counts_entries}
use Rattle.sch_select.proofs.programs.Whole.{Starts, program_ends, program_follows, program_passes}
use Rattle.sch_select_operations.proofs.simulation.SelectedPrograms.{form_selected, entry_selected, selects}
use Rattle.sch_frames.specs.Covered.{is_covered_code, marks_settled}
use Rattle.sch_frames.specs.Valid.{max_words}

-- what items, with the words and the zeros of data, do of a program
pub record IsSelected (p : Source) (heap depth : ℕ) (items : List Item) (data_words : List Word) (zeros : ℕ) : Type
    0 where
  pub follows : FollowsFrames p heap depth items data_words zeros
  pub ends : EndsFrames p heap depth items data_words zeros
  pub passes : PassesFrames p heap depth items data_words zeros
  pub enters : EntersFrames p heap depth items data_words zeros

-- ---- the routines that know how values are in the machine

-- what stands behind the routine that puts any value
abbrev string_tail : (heap_end : ℕ) → List Item
string_tail heap_end = make_string_code heap_end (rest_routine heap_end [])

abbrev making_tail : (heap_end : ℕ) → List Item
making_tail heap_end = make_vector_code heap_end (item.Label string_label ∷ string_tail heap_end)

module _ (setting : Setting) (heap_end a : ℕ) (h : Stands setting [] a (value_code heap_end)) where
  -- each stands where its label does
  put_there : Stands setting [] (setting.place_of put_label) put_value_code
  put_there = stands_part setting put_label put_value_code (item.Label vector_label ∷ making_tail heap_end) [] a h

  making_there : Stands setting [] (setting.place_of vector_label) (making_tail heap_end)
  making_there =
      let m = behind setting (item.Label put_label ∷ put_value_code) (item.Label vector_label ∷ making_tail heap_end) [] a h in
      subst (λ a. Stands setting [] a (making_tail heap_end)) (sym m.stands.1) m.stands.2

  vector_there : Stands setting [] (setting.place_of vector_label) (make_vector_code heap_end [])
  vector_there = stands_front setting (make_vector_code heap_end []) (item.Label string_label ∷ string_tail heap_end) [] _ making_there

  string_there : Stands setting [] (setting.place_of string_label) (make_string_code heap_end [])
  string_there =
      let s = behind setting (make_vector_code heap_end []) (item.Label string_label ∷ string_tail heap_end) [] _ making_there in
      subst (λ a. Stands setting [] a (make_string_code heap_end [])) (sym s.stands.1)
      (stands_front setting (make_string_code heap_end []) (rest_routine heap_end []) [] _ s.stands.2)

  -- and the routine of lists behind these
  lists_there : (a : ℕ) × Stands setting [] a (rest_routine heap_end [])
  lists_there =
      let s = behind setting (make_vector_code heap_end []) (item.Label string_label ∷ string_tail heap_end) [] _ making_there in
      let l = behind setting (make_string_code heap_end []) (rest_routine heap_end []) [] _ s.stands.2 in
      (l.place, subst (λ waiting. Stands setting waiting l.place (rest_routine heap_end [])) l.stands.0 l.stands)

-- routines that begin with them
values_stand : (setting : Setting) (heap_end a : ℕ) (routines : List Item) → StandInFront heap_end routines → Stands setting [] a routines
    → Stands setting [] a (value_code heap_end)
values_stand setting heap_end a routines front h =
    stands_wide setting (value_code heap_end) [] a
    (stands_front setting (narrowed (value_code heap_end)) front.others [] a (subst (Stands setting [] a) front.parts h))

-- ---- where things lie

size_by : (n heap zeros : ℕ) → n + data_address ≡ heap + zeros → n ≡ heap + zeros - data_address
size_by n heap zeros e = omega (arith, e)

module _ (p : Source) (limit depth : ℕ) (words_few : p.words ≤ max_words) (low : heap_of p ≤ max_heap_address)
    (limit_few : limit ≤ MAX_HEAP) (depth_few : depth ≤ MAX_DEPTH)
    (stack_few : stack_bytes p.words depth ≤ max_stack + 16384)
    (texts : list_all are_bytes p.statics.symbols ≡ true) where
  abbrev globals : ℕ
  globals = length p.statics.globals

  abbrev literals : ℕ
  literals = count_literals p.statics.literals

  abbrev stack_size : ℕ
  stack_size = stack_bytes p.words depth

  abbrev bytes_at : (ℕ → ℕ) → List ℕ
  bytes_at place_of = flat_map (bytes_of place_of) (program_words p) ++ replicate (program_zeros p limit depth) 0

  -- the names are in front of the closures
  names_end : names_of p + 8 * symbols_count p.statics.symbols ≤ closures_of p
  names_end = omega arith

  closures_before : closures_of p ≤ heap_of p
  closures_before = omega arith

  names_length : length (word_bytes (symbol_words (names_of p) p.statics.symbols)) ≡ 8 * symbols_count p.statics.symbols
  names_length = word_bytes_length (symbol_words (names_of p) p.statics.symbols)
      ∙ ap (λ n. 8 * n) (symbol_words_count (names_of p) p.statics.symbols)

  plan_of : (setting : Setting) → ((l : ℕ) → setting.place_of l < 2 ^ 31) → Plan
  plan_of setting labels = record {
    setting = setting;
    size = heap_of p + program_zeros p limit depth - data_address;
    words = p.words;
    literals = literals;
    globals = globals;
    symbols = p.statics.symbols;
    names = word_bytes (symbol_words (names_of p) p.statics.symbols);
    closures = closures_of p;
    heap = heap_of p;
    stack = heap_of p + limit;
    static = static_bytes;
    named = are_named (names_of p) p.statics.symbols texts
        (let a = names_end in let b = closures_before in let c = low in omega (arith, a, b, c));
    closures_low = (let a = names_end in let b = names_length in omega (arith, a, b));
    heap_low = closures_before;
    stack_low = omega arith;
    near = omega (arith, low, limit_few);
    small = omega (arith, low, limit_few, stack_few);
    narrow = words_few;
    labels = λ l. let k = labels l in omega (arith, k);
  }

  -- A text that the items and the routines resolve to does what the program does, in few steps, and passes its marks.
  record Done (bytes : List ℕ) (code : List Insn) (marks : List mark.Mark) : Type 0 where
    follows : (runs : List Answer → ℕ → Run) → AreRuns p limit depth runs
        → FollowsRuns text_address (text_at (flat_map spelling code) ∷ data_at
        (bytes ++ replicate (program_zeros p limit depth) 0) ∷ []) runs
    ends : (runs : List Answer → ℕ → Run) → AreRuns p limit depth runs
        → EndsWithin text_address (text_at (flat_map spelling code) ∷ data_at
        (bytes ++ replicate (program_zeros p limit depth) 0) ∷ []) runs (steps_bound p)
    passes : PassesMarks text_address (text_at (flat_map spelling code) ∷ data_at
        (bytes ++ replicate (program_zeros p limit depth) 0) ∷ []) (marks_at marks) (marks_passed p limit depth)

  module _ (selected : selects p ≡ true) (covered : list_all is_covered_code p.bodies ≡ true)
      (entered_so : list_all (λ c. entry_selected p.words c.entry) p.bodies ≡ true)
      (known : library_known (length p.library) p.statics.globals ≡ true)
      (range : literals_in_range p.statics.literals ≡ true)
      (among : literals_known (length p.statics.symbols) p.statics.literals ≡ true) where
    forms : list_all (form_selected p.words globals (length p.statics.symbols) literals) p.bodies ≡ true
    forms = (and_parts (list_all (form_selected p.words globals (length p.statics.symbols) literals) p.bodies)
        (list_all (λ c. marks_settled true c.instructions) p.bodies) selected).0

    done : (routines : List Item) (code : List Insn) (marks : List mark.Mark) (words : List ℕ) → StandInFront (heap_of p + limit) routines → AreEffective routines
        → IsTrue (marks_arrive false (program_code p limit depth)) → IsTrue (marks_arrive false routines)
        → AreResolved (program_code p limit depth ++ routines) (program_words p) code marks words → AllValid code
        → length (flat_map spelling code) ≤ max_text_size → Done words code marks
    unfolding plan_of
    done routines code marks words front effective arrive arrive' r valid small =
        let j = joined (program_code p limit depth) routines (program_words p) code marks words r valid small arrive
        arrive' in
        let setting = setting_of (text_at (flat_map spelling code)) r.place_of marks j.apart in
        let stand = stands_wide setting (selected_code p limit depth) [] text_address j.first in
        let plan = plan_of setting r.small in
        let zeros = program_zeros p limit depth in
        let heap_end = heap_of p + limit in
        let values = values_stand setting heap_end j.second.0 routines front j.second.1 in
        let laid : Laid plan (bodies_cost p.bodies) = record {
          routine = effective.does setting j.second.0 j.second.1;
          put_stands = put_there setting heap_end j.second.0 values;
          make_vector_stands = vector_there setting heap_end j.second.0 values;
          lists = lists_there setting heap_end j.second.0 values;
          make_string_stands = string_there setting heap_end j.second.0 values;
          static_is = refl;
        } in
        let room : Room plan plan.stack depth = record {
          low = omega arith;
          high = omega arith;
          few = omega
              (arith, depth_few);
        } in
        let s = p.statics in
        let parts = parts_at_start r.place_of r.small s p.library zeros low in
        let count = bytes_count r.place_of r.small s p.library zeros low in
        let starts : Starts plan (bodies_cost p.bodies) laid depth room parts p limit (bytes_at r.place_of) =
        record {
          size_is = size_by _ (heap_of p) zeros count;
          texts = texts_there r.place_of r.small s p.library zeros low;
          table = table_there r.place_of r.small s p.library zeros low;
          literal_count = refl;
          literal = literals_there r.place_of r.small s p.library zeros low range among;
          count = refl;
          values = globals_there r.place_of r.small s p.library zeros low known;
          symbols_are = refl;
          known = refl;
          names_are = names_there r.place_of r.small s p.library zeros low;
          first = refl;
          next = ends_at r.place_of r.small s p.library zeros low;
          limited = refl;
          contents = contents_there r.place_of r.small s p.library zeros low range among;
          new = new_there r.place_of r.small s p.library zeros low;
        } in
        subst (λ w. Done w code marks) (sym r.bytes)
        (record {
          follows = program_follows plan (bodies_cost p.bodies) laid depth room p limit parts
              (bytes_at r.place_of) [] forms covered entered_so (omega arith) stand starts;
          ends = program_ends plan (bodies_cost p.bodies) laid depth room p limit parts (bytes_at r.place_of)
              [] forms covered entered_so (omega arith) stand starts refl;
          passes = program_passes plan (bodies_cost p.bodies) laid depth room p limit parts
              (bytes_at r.place_of) [] forms covered entered_so (omega arith) stand starts;
        })

    pub program_selected : IsSelected p limit depth (program_code p limit depth) (program_words p) (program_zeros p limit depth)
    program_selected = record {
      follows = record {
        follows = λ routines code marks words front effective arrive arrive' r valid small.
            (done routines code marks words front effective arrive arrive' r valid small).follows;
      };
      ends = record {
        ends = λ routines code marks words front effective arrive arrive' r valid small.
            (done routines code marks words front effective arrive arrive' r valid small).ends;
      };
      passes = record {
        passes = λ routines code marks words front effective arrive arrive' r valid small.
            (done routines code marks words front effective arrive arrive' r valid small).passes;
      };
      enters = record {
        enters = λ routines code marks words front effective arrive arrive' r valid small runs are.
            let d = done routines code marks words front effective arrive arrive' r valid small in
            counts_entries p limit depth covered text_address
            (text_at (flat_map spelling code) ∷ data_at (words ++ replicate (program_zeros p limit depth) 0) ∷ [])
            (marks_at marks) runs d.passes (d.follows runs are) are;
      };
    }
