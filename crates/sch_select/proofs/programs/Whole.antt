-- A whole program follows its runs.
use Rattle.std.proofs.Common.{◌≡◌, ℕ, zero, suc, ◌+◌, ◌-◌, ◌*◌, ◌≤◌, List, [], ◌∷◌, ◌++◌, length, take, drop}
use Rattle.std.proofs.Common.{true, Option, Some, None, refl, sym, ap, ◌∙◌, subst, arith, append-nil, inl, inr}
use Rattle.std.specs.Prelude.{pos, slice_get}
use Rattle.std.specs.List.{flat_map, list_all}
use Rattle.sch_word.specs.declared.answer.Answer.{Answer}
use Rattle.sch_word.specs.runs.Stops.{status_of}
use Rattle.sch_word.specs.runs.Store.{Store}
use Rattle.sch_word.specs.values.Literals.{count_literals, literal_values, objects_of_each}
use Rattle.sch_word.specs.values.Values.{Value}
use Rattle.sch_word.proofs.values.LiteralObjects.{literal_values_length}
use Rattle.sch_word.specs.runs.Computation.{gives, stops, spent}
use Rattle.sch_word.specs.runs.Runs.{Run, ended, going, run_with, starting_store, starting_value, starting_values}
use Rattle.sch_control.specs.Meaning.{World, Result, Callee}
use Rattle.sch_control.specs.Run.{seen_of, do_forms, enter, entry_at, starting_world}
use Rattle.sch_word.specs.runs.Procedures.{library_procedures}
use Rattle.sch_control.specs.declared.body.Entry.{Entry}
use Rattle.sch_frames.specs.Tree.{Code, Source}
use Rattle.sch_frames.specs.Run.{bodies_of, entries_of}
use Rattle.sch_frames.specs.Covered.{is_covered_code}
use Rattle.sch_insn.specs.declared.insn.Insn.TheVariants.{MovWord}
use Rattle.sch_insn.specs.Behaves.{Given, exit_of, FollowsRuns}
use Rattle.sch_insn.specs.Step.{go_on, mach}
use Rattle.sch_insn.specs.Machine.{set_register}
use Rattle.sch_insn.specs.Path.{Does, Exits, passed}
use Rattle.sch_insn.proofs.Clauses.{follows}
use Rattle.sch_insn.proofs.Paths.{leads_on, leads_then, path_mach}
use Rattle.sch_asm.specs.declared.item.Item.{Item}
use Rattle.sch_asm.specs.declared.item.Item.TheVariants as item
use Rattle.sch_asm.specs.declared.routine.Routine.TheVariants as routine
use Rattle.sch_asm.specs.Routines.{label_of}
use Rattle.sch_asm.specs.Stands.{Stands}
use Rattle.sch_asm.specs.Data.{data_at, word_in}
use Rattle.sch_asm.specs.Views.{View, Leads, full}
use Rattle.sch_asm.proofs.EachItem.{goes}
use Rattle.sch_asm.specs.Effects.{own_size}
use Rattle.sch_select_memory.specs.Parts.{Parts, end_of}
use Rattle.sch_select_memory.specs.Encoded.{IsWord, IsHeld}
use Rattle.sch_select_memory.specs.Heap.{HeapAt, AreNew}
use Rattle.sch_select_memory.specs.Addresses.{table_address, literal_address, global_address, names_address}
use Rattle.sch_select.specs.Program.{own_label, forms_code}
use Rattle.sch_word.specs.declared.mark.MarkKind.{MarkKind}
use Rattle.sch_word.specs.runs.ProgramLayout.{data_address, text_address}
use Rattle.sch_select.specs.Ends.{EndsWithin}
use Rattle.sch_select.specs.Sizes.{steps_bound}
use Rattle.sch_select.proofs.programs.Steps.{steps_within}
use Rattle.sch_select.specs.Marks.{PassesMarks, marks_of, marks_passed}
use Rattle.sch_select.specs.Follows.{AreRuns}
use Rattle.sch_select.proofs.programs.PathEvents.{Passes, traces}
use Rattle.sch_select_memory.proofs.Places.{Plan, code_of, Room, StoreAt}
use Rattle.sch_select_memory.proofs.simulation.Outcomes.{Ends, Laid}
use Rattle.sch_select_memory.proofs.simulation.ProcedureEntries.{Enters}
use Rattle.sch_select.proofs.programs.Procedures.{BodyAt, bodies_cost, enter_sim}
use Rattle.sch_select.proofs.programs.StandingBodies.{bodies_stand}
use Rattle.sch_select.proofs.programs.Forms.{Owed, forms_sim, forms_cost}
use Rattle.sch_select_operations.proofs.simulation.SelectedPrograms.{form_selected, entry_selected}

-- ---- globals, when a program starts

-- what a global holds then
record Begins (globals : List (Option ℕ)) (g : ℕ) (o : Option Value) : Type 0 where
  held : Option ℕ
  there : slice_get globals g ≡ Some held
  is : o ≡ starting_value held

begins : (globals : List (Option ℕ)) (g : ℕ) (o : Option Value) → slice_get (starting_values globals) g ≡ Some o
    → Begins globals g o
begins [] g o h = absurd (let bad : None ≡ Some o = h in cc)
begins (x ∷ globals) zero o h = let e : Some (starting_value x) ≡ Some o = h in let same : starting_value x ≡ o =
    cc in record { held = x; there = refl; is = sym same }
begins (x ∷ globals) (suc g) o h = let b = begins globals g o h in record { held = b.held; there = b.there; is = b.is }

pub values_count : (gs : List (Option ℕ)) → length (starting_values gs) ≡ length gs
values_count [] = refl
values_count (g ∷ gs) = ap suc (values_count gs)

module _ (plan : Plan) (body_steps : ℕ) (laid : Laid plan body_steps) (depth : ℕ) (room : Room plan plan.stack depth) where
  open plan use {setting, size, words, literals, globals, symbols, names, closures, heap, stack, static, labels}

  -- the registers of the frame, the heap and the depth are set, and the forms follow
  abbrev pub started : List Item → List Item
  started rest = item.Plain (MovWord 5 (pos stack)) ∷
      (item.Plain (MovWord 12 (pos heap)) ∷ (item.Plain (MovWord 13 (pos depth)) ∷ rest))

  exits_from : (t : Store) (x z : View) (c status : ℕ) (w : World) → Leads setting 3 3 [] x z
      → Ends plan body_steps [] t z c status w → Exits (full setting x) status w.state.store.output
  exits_from t x z c status w p e = let q = leads_then setting.marks p e.leads in record
      { way = q.way; last = full setting e.last; path = q.path; exits = e.exits; output_is = e.output_is }

  -- from a result to what is seen
  seen_does : (p : Source) (n : ℕ) (callee : Callee) (enters : Enters plan body_steps callee n)
      (t : Store) (x z : View) (c : ℕ) (answers : List Answer) (result : Result) (r : Run) → t.entries ≡ n
      → Leads setting 3 3 [] x z → Owed plan body_steps laid depth room n p.bodies callee enters [] t z c result
      → seen_of answers n result ≡ Some r → Does (full setting x) n r.end r.output
  seen_does p n callee enters t x z c answers None r e l s h = absurd cc
  seen_does p n callee enters t x z c answers (Some (gives v w)) r e l s h =
      let same : run_with (ended 0) answers n w.state.store ≡ r = cc in
      subst (λ r. Does (full setting x) n r.end r.output) same (exits_from t x z c 0 w l s)
  seen_does p n callee enters t x z c answers (Some (stops why w)) r e l s h =
      let same : run_with (ended (status_of why)) answers n w.state.store ≡ r = cc in
      subst (λ r. Does (full setting x) n r.end r.output) same (exits_from t x z c (status_of why) w l s)
  seen_does p n callee enters t x z c answers (Some (spent w)) r e l s h =
      let same : run_with going answers n w.state.store ≡ r = cc in
      let q = leads_then setting.marks l s.leads in
      subst (λ r. Does (full setting x) n r.end r.output) same
      (record {
        way = q.way;
        last = full setting s.last;
        path = q.path;
        long =
            (let a = q.at_least in let b = s.long in omega (arith, a, b, e));
        output_is = s.output_is;
      })

  -- from a result to how many steps there are
  exits_by : (t : Store) (x z : View) (c status m : ℕ) (w : World) → Leads setting 3 3 [] x z
      → (e : Ends plan body_steps [] t z c status w) → 3 + e.steps + 1 ≤ m
      → exit_of (mach m (full setting x)) ≡ Some (status, w.state.store.output)
  exits_by t x z c status m w p e le =
      let q = leads_then setting.marks p e.leads in
      let most = q.at_most in
      let j = m - suc (length q.way) in
      let split : m ≡ length q.way + suc j = omega (arith, most, le) in
      ap (λ k. exit_of (mach k (full setting x))) split ∙ ap exit_of
      (path_mach (full setting x) q.way (full setting e.last) q.path (suc j))
      ∙ ap (λ u. exit_of (go_on u (mach j))) e.exits ∙ ap (λ o. Some (status, o)) e.output_is

  ended_does : (p : Source) (n : ℕ) → bodies_cost p.bodies ≡ body_steps
      → (t : Store) (x z : View) (answers : List Answer) (k : ℕ) (w : World) (r : Run) → t.entries ≡ n
      → t.answers ≡ answers → t.charged ≡ 0 → Leads setting 3 3 [] x z
      → Ends plan body_steps [] t z (forms_cost p.bodies) k w
      → Some (run_with (ended k) answers n w.state.store) ≡ Some r
      → (status : ℕ) → r.end ≡ ended status → exit_of (mach (steps_bound p r.entries r.answers r.charged) (full setting x)) ≡
      Some (status, r.output)
  ended_does p n all t x z answers k w r e i o l s h status q =
      let same : run_with (ended k) answers n w.state.store ≡ r = cc in
      let left = length w.state.store.answers in let charged = w.state.store.charged in
      let cost = s.cost in let a = ap length i in
      let b1 = ap (λ b. b * t.entries) all in let b2 = ap (λ b. b * w.state.store.entries) all in let b3 = ap
      (λ k. bodies_cost p.bodies * k) e in
      let m = steps_bound p (n - w.state.store.entries) (length answers - left) charged in
      let le : 3 + s.steps + 1 ≤ m = steps_within p s.steps n w.state.store.entries (length answers) left charged
      (omega (arith, cost, a, b1, b2, b3, o)) in
      subst (λ r. (status : ℕ) → r.end ≡ ended status → exit_of
      (mach (steps_bound p r.entries r.answers r.charged) (full setting x)) ≡ Some (status, r.output)) same
      (λ status q. let is : k ≡ status = cc in subst (λ j. exit_of (mach m (full setting x)) ≡ Some
      (j, w.state.store.output)) is (exits_by t x z (forms_cost p.bodies) k m w l s le)) status q

  ends_does : (p : Source) (n : ℕ) (callee : Callee) (enters : Enters plan body_steps callee n)
      → bodies_cost p.bodies ≡ body_steps → (t : Store) (x z : View) (answers : List Answer) (result : Result)
      (r : Run) → t.entries ≡ n → t.answers ≡ answers → t.charged ≡ 0 → Leads setting 3 3 [] x z
      → Owed plan body_steps laid depth room n p.bodies callee enters [] t z (forms_cost p.bodies) result
      → seen_of answers n result ≡ Some r
      → (status : ℕ) → r.end ≡ ended status → exit_of (mach (steps_bound p r.entries r.answers r.charged) (full setting x)) ≡
      Some (status, r.output)
  ends_does p n callee enters all t x z answers None r e i o l s h status q = absurd (let bad : None ≡ Some r = h in cc)
  ends_does p n callee enters all t x z answers (Some (gives v w)) r e i o l s h status q = ended_does p n all t x
      z answers 0 w r e i o l s h status q
  ends_does p n callee enters all t x z answers (Some (stops why w)) r e i o l s h status q = ended_does p n all t
      x z answers (status_of why) w r e i o l s h status q
  ends_does p n callee enters all t x z answers (Some (spent w)) r e i o l s h status q =
      let f : Some (run_with going answers n w.state.store) ≡ Some r = h in
      let same : run_with going answers n w.state.store ≡ r = cc in
      absurd (let bad : going ≡ ended status = ap (λ r. r.end) same ∙ q in cc)

  -- from a result to the marks that are passed
  marks_exit : (t : Store) (x z : View) (c status : ℕ) (w : World) (n : ℕ) → Leads setting 3 3 [] x z
      → Ends plan body_steps [] t z c status w → Passes setting.marks (full setting x) n w.marks
  marks_exit t x z c status w n p e =
      let q = leads_then setting.marks p e.leads in
      record {
        way = q.way;
        last = full setting e.last;
        path = q.path;
        rest = [];
        are = append-nil
            (flat_map setting.marks (passed (full setting x) q.way)) ∙ q.events_are
            ∙ sym e.marked;
        ends = inr (status, e.exits, e.silent, refl);
      }

  marks_does : (p : Source) (n : ℕ) (callee : Callee) (enters : Enters plan body_steps callee n)
      (t : Store) (x z : View) (c : ℕ) (result : Result) (marks : List MarkKind) → t.entries ≡ n
      → Leads setting 3 3 [] x z → Owed plan body_steps laid depth room n p.bodies callee enters [] t z c result
      → marks_of result ≡ Some marks → Passes setting.marks (full setting x) n marks
  marks_does p n callee enters t x z c None marks e l s h = absurd (let bad : None ≡ Some marks = h in cc)
  marks_does p n callee enters t x z c (Some (gives v w)) marks e l s h =
      let i : Some w.marks ≡ Some marks = h in let same : w.marks ≡ marks = cc in
      subst (λ m. Passes setting.marks (full setting x) n m) same (marks_exit t x z c 0 w n l s)
  marks_does p n callee enters t x z c (Some (stops why w)) marks e l s h =
      let i : Some w.marks ≡ Some marks = h in let same : w.marks ≡ marks = cc in
      subst (λ m. Passes setting.marks (full setting x) n m) same
      (marks_exit t x z c (status_of why) w n l s)
  marks_does p n callee enters t x z c (Some (spent w)) marks e l s h =
      let i : Some w.marks ≡ Some marks = h in let same : w.marks ≡ marks = cc in
      let q = leads_then setting.marks l s.leads in
      subst (λ m. Passes setting.marks (full setting x) n m) same
      (record {
        way = q.way;
        last = full setting s.last;
        path = q.path;
        rest = s.ahead;
        are = ap (λ l. l ++ s.ahead)
            q.events_are ∙ sym s.marked;
        ends = inl (let a = q.at_least in let b = s.long in omega (arith, a, b, e));
      })

  -- the data of a program at its start, with the records of the library's procedures
  pub record Starts (parts : Parts) (p : Source) (limit : ℕ) (bytes : List ℕ) : Type 0 where
    pub size_is : length bytes ≡ size
    pub texts : take 288 (drop own_size bytes) ≡ static
    pub table : word_in bytes table_address ≡ names_address literals globals
    pub literal_count : count_literals p.statics.literals ≡ literals
    pub literal : (n : ℕ) (v : Value) → slice_get (literal_values p.statics.literals 0) n ≡ Some v
        → IsWord parts v (word_in bytes (literal_address n))
    pub count : length p.statics.globals ≡ globals
    pub values : (g : ℕ) (o : Option ℕ) → slice_get p.statics.globals g ≡ Some o
        → IsHeld parts (starting_value o) (word_in bytes (global_address literals g))
    pub symbols_are : p.statics.symbols ≡ symbols
    pub known : parts.symbols ≡ length symbols
    pub names_are : take (length names) (drop (names_address literals globals - data_address) bytes) ≡ names
    pub first : 16 * parts.first ≡ closures
    pub next : 16 * end_of parts ≡ heap
    pub limited : heap + limit ≡ stack
    pub contents : HeapAt (code_of plan) parts [] (library_procedures p.library) (objects_of_each p.statics.literals 0) bytes
    pub new : AreNew parts 0 (length (library_procedures p.library))

  module _ (p : Source) (limit : ℕ) (parts : Parts) (bytes : List ℕ) (rest : List Item)
      (selected : list_all (form_selected words globals (length symbols) literals) p.bodies ≡ true)
      (covered : list_all is_covered_code p.bodies ≡ true)
      (entered_so : list_all (λ c. entry_selected words c.entry) p.bodies ≡ true)
      (short : bodies_cost p.bodies ≤ body_steps)
      (h : Stands setting [] text_address
      (started (forms_code words stack literals 0 (own_label p) p.bodies (item.Jump (label_of routine.End) ∷ rest))))
      (s : Starts parts p limit bytes) where
    stood : (label : ℕ) (c : Code) (e : Entry) → slice_get p.bodies label ≡ Some c → c.entry ≡ Some e
        → BodyAt plan label c e
    stood label c e is o =
        let z : 0 + label ≡ label = omega arith in
        subst (λ l. BodyAt plan l c e) z (bodies_stand plan p.bodies 0 (own_label p) _
        (item.Jump (label_of routine.End) ∷ rest) h.2.2.2 label c e is o)

    abbrev callee : ℕ → Callee
    callee n = enter (entry_at (entries_of p.bodies)) (bodies_of p.bodies) n

    enters : (n : ℕ) → Enters plan body_steps (callee n) n
    enters n = enter_sim plan body_steps laid p.bodies selected covered short stood entered_so n

    -- the machine at its start, and where the forms begin
    abbrev first : Given → List Answer → View
    first g answers = record {
      registers = g.registers;
      flags = g.flags;
      place = text_address;
      bytes = bytes;
      output = [];
      answers = answers;
      spare = g.spare;
    }

    abbrev ready : Given → List Answer → View
    ready g answers = record (first g answers) {
      registers = set_register
          (set_register (set_register g.registers 5 stack) 12 heap) 13 depth;
      place = text_address + h.0 + h.2.0 + h.2.2.0;
    }

    abbrev outcome : List Answer → ℕ → Result
    outcome answers n = do_forms (entries_of p.bodies) 0 (bodies_of p.bodies) (callee n) depth
        (starting_world p.statics p.library limit answers n)

    gets_ready : (g : Given) (answers : List Answer) → Leads setting 3 3 [] (first g answers) (ready g answers)
    gets_ready g answers =
        let x = first g answers in
        let y1 : View = record x { registers = set_register x.registers 5 stack; place = x.place + h.0 } in
        let y2 : View = record y1 { registers = set_register y1.registers 12 heap; place = y1.place + h.2.0 } in
        leads_on setting.marks (leads_on setting.marks (goes setting x y1 (MovWord 5 (pos stack)) h.0 [] h.1 refl)
        (goes setting y1 y2 (MovWord 12 (pos heap)) h.2.0 [] h.2.1 refl))
        (goes setting y2 (ready g answers) (MovWord 13 (pos depth)) h.2.2.0 [] h.2.2.1 refl)

    forms_done : (g : Given) (answers : List Answer) (n : ℕ)
        → Owed plan body_steps laid depth room n p.bodies (callee n) (enters n) []
        (starting_store p.statics limit answers n) (ready g answers) (forms_cost p.bodies) (outcome answers n)
    forms_done g answers n =
        let w = starting_world p.statics p.library limit answers n in
        let free : heap ≡ heap + 0 = omega arith in
        let world : StoreAt plan parts w.state bytes [] answers = record {
          size_is = s.size_is;
          printed = refl;
          left = refl;
          limit = s.limited;
          within = (let a = plan.stack_low in omega (arith, a));
          begins = s.first;
          ends = s.next ∙ free;
          texts = s.texts;
          table = s.table;
          literal_count = literal_values_length p.statics.literals 0 ∙ s.literal_count;
          literal = s.literal;
          count = values_count p.statics.globals ∙ s.count;
          global = λ i o e. let b = begins p.statics.globals i o e in subst
              (λ o. IsHeld parts o (word_in bytes (global_address literals i))) (sym b.is) (s.values i b.held b.there);
          symbols_are = s.symbols_are;
          known = s.known;
          names_are = s.names_are;
          contents = s.contents;
          new = s.new;
        } in
        forms_sim plan body_steps laid depth room n p.bodies (callee n) (enters n) p.bodies 0 (own_label p) rest
        selected covered (λ j c e. let sum : 0 + j ≡ j = omega arith in ap (slice_get p.bodies) sum ∙ e) [] w
        (ready g answers) h.2.2.2
        (record { parts = parts; frame = refl; deep = refl; few = omega arith; free = free; world = world }) refl

    pub program_follows : (runs : List Answer → ℕ → Run) → AreRuns p limit depth runs
        → FollowsRuns text_address (setting.text ∷ data_at bytes ∷ []) runs
    program_follows runs r = follows text_address (setting.text ∷ data_at bytes ∷ []) runs (λ g answers n.
        seen_does p n (callee n) (enters n) (starting_store p.statics limit answers n) (first g answers)
        (ready g answers) (forms_cost p.bodies) answers (outcome answers n) (runs answers n) refl
        (gets_ready g answers) (forms_done g answers n) (r.are answers n))

    pub program_ends : bodies_cost p.bodies ≡ body_steps → (runs : List Answer → ℕ → Run) → AreRuns p limit depth runs
        → EndsWithin text_address (setting.text ∷ data_at bytes ∷ []) runs (steps_bound p)
    program_ends all runs r = record {
      within = λ g answers n status e.
          ends_does p n (callee n) (enters n) all (starting_store p.statics limit answers n) (first g answers)
          (ready g answers) answers (outcome answers n) (runs answers n) refl refl refl (gets_ready g answers)
          (forms_done g answers n) (r.are answers n) status e;
    }

    pub program_passes : PassesMarks text_address (setting.text ∷ data_at bytes ∷ []) setting.marks
        (marks_passed p limit depth)
    program_passes = record {
      along = λ g answers m marks e. (traces setting.marks (full setting (first g answers)) m marks
          (passes g answers m marks e)).begins;
      all = λ g answers m marks e status output x. (traces setting.marks (full setting (first g answers)) m
          marks (passes g answers m marks e)).all status output x;
    }
      where
        passes : (g : Given) (answers : List Answer) (m : ℕ) (marks : List MarkKind)
            → marks_passed p limit depth answers m ≡ Some marks
            → Passes setting.marks (full setting (first g answers)) m marks
        passes g answers m marks e =
            marks_does p m (callee m) (enters m) (starting_store p.statics limit answers m) (first g answers)
            (ready g answers) (forms_cost p.bodies) (outcome answers m) marks refl (gets_ready g answers)
            (forms_done g answers m) e
