-- The machine does the forms of a program, one after the other, and ends as they do.
use Rattle.std.proofs.Common.{◌≡◌, ℕ, suc, ◌+◌, ◌≤◌, List, [], ◌∷◌, ◌++◌, length, true, false, Option, Some, None}
use Rattle.std.proofs.Common.{refl, sym, ap, ◌∙◌, subst, arith, append-nil, append_assoc}
use Rattle.std.specs.Prelude.{nat_le, slice_get}
use Rattle.std.specs.List.{list_all}
use Rattle.std.proofs.lemmas.Bool.{and_parts}
use Rattle.sch_word.specs.values.Values.{unspecified}
use Rattle.sch_word.specs.runs.Store.{Store}
use Rattle.sch_word.specs.runs.Stops.{status_of}
use Rattle.sch_word.specs.runs.Computation.{gives, stops, spent}
use Rattle.sch_control.specs.declared.body.Entry.{Entry}
use Rattle.sch_control.specs.Meaning.{World, Result, Callee, marked, on_return}
use Rattle.sch_control.specs.Run.{do_forms}
use Rattle.sch_word.specs.trees.Shape.{max_operands}
use Rattle.sch_control.specs.flow.Places.{formals_of}
use Rattle.sch_frames.specs.Tree.{Code}
use Rattle.sch_frames.specs.Meaning.{beginning, execute_each}
use Rattle.sch_frames.specs.Run.{bodies_of, entries_of, do_known}
use Rattle.sch_insn.proofs.Paths.{leads_then, leads_on}
use Rattle.sch_asm.specs.declared.item.Item.{Item}
use Rattle.sch_asm.specs.declared.item.Item.TheVariants as item
use Rattle.sch_word.specs.declared.mark.MarkKind.{MarkKind}
use Rattle.sch_word.specs.declared.mark.MarkKind.TheVariants.{Enter}
use Rattle.sch_asm.specs.declared.routine.Routine.TheVariants as routine
use Rattle.sch_asm.specs.Routines.{label_of}
use Rattle.sch_asm.specs.Stands.{Stands}
use Rattle.sch_asm.specs.Views.{View, Leads}
use Rattle.sch_asm.proofs.EachItem.{jumps}
use Rattle.sch_select_memory.specs.Parts.{Parts}
use Rattle.sch_control.specs.CoveredOperands.{is_form}
use Rattle.sch_frames.specs.Covered.{is_covered_code, may_stand}
use Rattle.sch_select.proofs.programs.FreeCodes.{code_parts}
use Rattle.sch_select_memory.specs.Addresses.{body_label}
use Rattle.sch_select.specs.Program.{passed_code, count_code, entry_code, form_code, forms_code, labels_end}
use Rattle.sch_select_memory.proofs.Places.{Plan, Room, Activation, StoreAt, PlacesAt}
use Rattle.sch_select_memory.proofs.simulation.ProcedureEntries.{Enters}
use Rattle.sch_select.proofs.programs.StandingBodies.{count_past, after_body, entered_code}
use Rattle.sch_select_memory.proofs.simulation.Outcomes.{Ends, Goes_on, Sim, Laid, ends_after, paid}
use Rattle.sch_select.proofs.programs.Bodies.{body_cost, body_sim}
use Rattle.sch_select_operations.proofs.simulation.SelectedPrograms.{form_selected, instruction_selected}

-- how many steps forms take at most
abbrev pub forms_cost : List Code → ℕ
forms_cost [] = 4
forms_cost (c ∷ cs) = suc (body_cost c.instructions) + forms_cost cs

-- a form ends as forms do
form_stands : (c : Code) → c.entry ≡ None → is_covered_code c ≡ true
    → list_all (may_stand true) c.instructions ≡ true
form_stands c i e = subst (λ o. list_all (may_stand (is_form o)) c.instructions ≡ true) i (code_parts c e).stands

module _ (plan : Plan) (body_steps : ℕ) (laid : Laid plan body_steps) (depth : ℕ) (room : Room plan plan.stack depth)
    (nested : ℕ) (all : List Code) (callee : Callee) (enters : Enters plan body_steps callee nested) where
  open plan use {setting, words, literals, globals, symbols, heap, stack, labels}

  -- between two forms, with some parts of the heap
  pub record Ready (w : World) (x : View) : Type 0 where
    pub parts : Parts
    pub frame : x.registers 5 ≡ stack
    pub deep : x.registers 13 ≡ depth
    pub few : w.state.store.entries ≤ nested
    pub free : x.registers 12 ≡ heap + w.state.store.charged
    pub world : StoreAt plan parts w.state x.bytes x.output x.answers

  -- what is owed for all forms that are left
  abbrev pub Owed : List MarkKind → Store → View → ℕ → Result → Type 0
  Owed before t x c None = Unit {0}
  Owed before t x c (Some (gives v w)) = Ends plan body_steps before t x c 0 w
  Owed before t x c (Some (stops why w)) = Ends plan body_steps before t x c (status_of why) w
  Owed before t x c (Some (spent w)) = Goes_on plan body_steps before t x w

  owed_after : (before events : List MarkKind) (t t' : Store) (x y : View) (a b c most : ℕ) (r : Result)
      → Leads setting a b events x y → t.entries ≤ a + t'.entries
      → b + c + paid plan body_steps t' ≤ most + paid plan body_steps t → Owed (before ++ events) t' y c r
      → Owed before t x most r
  owed_after before events t t' x y a b c most None p l le s = tt
  owed_after before events t t' x y a b c most (Some (gives v w)) p l le s = ends_after plan body_steps before events
      t t' x y a b c most 0 w p le s
  owed_after before events t t' x y a b c most (Some (stops why w)) p l le s = ends_after plan body_steps before
      events t t' x y a b c most (status_of why) w p le s
  owed_after before events t t' x y a b c most (Some (spent w)) p l le s = record {
    last = s.last;
    events = events ++ s.events;
    least = a + s.least;
    steps = b + s.steps;
    ahead = s.ahead;
    leads = leads_then setting.marks p s.leads;
    long = (let e = s.long in omega (arith, e, l));
    output_is = s.output_is;
    marked = s.marked ∙ append_assoc before events (s.events ++ s.ahead)
        ∙ ap (λ l. before ++ l) (sym (append_assoc events s.events s.ahead));
  }

  abbrev rest_code : List Item → List Item
  rest_code behind_all = item.Jump (label_of routine.End) ∷ behind_all

  -- the bodies of the forms that are left stand where their labels say
  abbrev Are : ℕ → List Code → Type 0
  Are label cs = (j : ℕ) (c : Code) → slice_get cs j ≡ Some c → slice_get all (label + j) ≡ Some c

  -- what is owed for some forms, wherever the machine comes to them
  abbrev Rest : List Code → ℕ → List Item → Type 0
  Rest cs label code = (before : List MarkKind) (w : World) (x : View) → Stands setting [] x.place code → Ready w x
      → w.marks ≡ before → Owed before w.state.store x (forms_cost cs)
      (do_forms (entries_of cs) label (bodies_of all) callee depth w)

  one_form : (c : Code) (cs : List Code) (label n : ℕ) (following : List Item) → form_selected words globals (length symbols) literals c ≡ true
      → is_covered_code c ≡ true → slice_get all label ≡ Some c → Rest cs (suc label) following
      → (before : List MarkKind) (w : World) (x : View) → Stands setting [] x.place
      (form_code words stack literals label n c following) → Ready w x → w.marks ≡ before
      → Owed before w.state.store x (suc (body_cost c.instructions) + forms_cost cs)
      (do_forms (c.entry ∷ entries_of cs) label (bodies_of all) callee depth w)
  one_form c cs label n following e e' at rec before w x h r m = by c.entry refl h
    where
      out : ℕ
      out = n + c.labels

      entered : World
      entered = marked (Enter label) w

      act : Activation plan
      act = record {
        back = setting.place_of out;
        frame = stack;
        left = depth;
        nested = nested;
        entered = false;
        back_fits = labels out;
        room = room;
      }

      here : PlacesAt plan act r.parts w.state.store.charged (beginning None unspecified []).places
          (beginning None unspecified []).outgoing x.registers x.bytes
      here = record {
        frame = r.frame;
        depth = r.deep;
        free = r.free;
        register = λ k i. tt;
        slot = λ j lt. tt;
        next =
            λ j lt. tt;
      }

      done : c.entry ≡ None → Stands setting [] x.place (entered_code plan label n c following)
          → Sim plan body_steps act r.parts before w.state.store x (body_cost c.instructions)
          (execute_each callee depth c.instructions None (beginning None unspecified []) entered)
      done i h = body_sim plan body_steps laid act n out (λ z. refl) callee enters (n + c.labels + 2)
          c.instructions (item.Label out ∷ following) (and_parts (nat_le (formals_of c.entry) max_operands)
          (list_all (instruction_selected words globals (length symbols) literals) c.instructions) e).1 (form_stands c i e')
          None r.parts before (Enter label ∷ []) (beginning None unspecified []) entered x h here r.world tt
          (ap (λ l. l ++ Enter label ∷ []) m)

      goes_on : Stands setting [] (setting.place_of out) following → (res : Result)
          → Sim plan body_steps act r.parts before w.state.store x (body_cost c.instructions) res
          → Owed before w.state.store x (suc (body_cost c.instructions) + forms_cost cs)
          (on_return res (λ v u. do_forms (entries_of cs) (suc label) (bodies_of all) callee depth u))
      goes_on next None s = tt
      goes_on next (Some (stops why u)) s = record {
        last = s.last;
        events = s.events;
        least = s.least;
        steps =
            s.steps;
        leads = s.leads;
        cost = (let k = s.cost in omega (arith, k));
        exits = s.exits;
        output_is =
            s.output_is;
        marked = s.marked;
        silent = s.silent;
      }
      goes_on next (Some (spent u)) s = s r.few
      goes_on next (Some (gives v u)) s =
          owed_after before s.events w.state.store u.state.store x s.y s.least s.steps (forms_cost cs)
          (suc (body_cost c.instructions) + forms_cost cs) _ s.leads s.entries (let k = s.cost in omega (arith, k))
          (rec (before ++ s.events) u s.y (subst (λ a. Stands setting [] a following) (sym s.at) next)
          (record {
            parts = s.parts_after;
            frame = s.frame;
            deep = s.depth;
            few =
                (let f = s.fewer in let q = r.few in omega (arith, f, q));
            free = s.free;
            world = s.world;
          }) s.marked)

      -- a procedure's body is jumped over
      passed : (q : Entry) → Stands setting [] x.place (item.Jump out ∷
          (item.Label (body_label label) ∷ count_code q.rest q.formals (n + c.labels + 1) (entered_code plan label n c following)))
          → Owed before w.state.store x (suc (body_cost c.instructions) + forms_cost cs)
          (do_forms (entries_of cs) (suc label) (bodies_of all) callee depth w)
      passed q h =
          let y : View = record x { place = setting.place_of out } in
          let b = count_past setting q.rest q.formals (n + c.labels + 1) _ (entered_code plan label n c following) h.4.2 in
          let next = after_body plan label n b.0 c following b.1 in
          owed_after before [] w.state.store w.state.store x y 1 1 (forms_cost cs)
          (suc (body_cost c.instructions) + forms_cost cs) _ (jumps setting x out
          (item.Label (body_label label) ∷ count_code q.rest q.formals (n + c.labels + 1) (entered_code plan label n c following)) [] h)
          (omega arith) (omega arith)
          (subst (λ l. Owed l w.state.store y (forms_cost cs)
          (do_forms (entries_of cs) (suc label) (bodies_of all) callee depth w)) (sym (append-nil before))
          (rec before w y next (record {
            parts = r.parts;
            frame = r.frame;
            deep = r.deep;
            few = r.few;
            free =
                r.free;
            world = r.world;
          }) m))

      by : (o : Option Entry) → c.entry ≡ o → Stands setting [] x.place
          (passed_code o out (item.Label (body_label label) ∷ entry_code o (n + c.labels + 1) (entered_code plan label n c following)))
          → Owed before w.state.store x (suc (body_cost c.instructions) + forms_cost cs)
          (do_forms (o ∷ entries_of cs) label (bodies_of all) callee depth w)
      by (Some q) i h = passed q h
      by None i h =
          subst (λ k. Owed before w.state.store x (suc (body_cost c.instructions) + forms_cost cs)
          (on_return (do_known k callee depth unspecified [] entered)
          (λ v u. do_forms (entries_of cs) (suc label) (bodies_of all) callee depth u))) (sym at)
          (subst (λ o. Owed before w.state.store x (suc (body_cost c.instructions) + forms_cost cs)
          (on_return (execute_each callee depth c.instructions None (beginning o unspecified []) entered)
          (λ v u. do_forms (entries_of cs) (suc label) (bodies_of all) callee depth u))) (sym i)
          (goes_on (after_body plan label n x.place c following h.2) _ (done i h.2)))

  pub forms_sim : (cs : List Code) (label n : ℕ) (behind_all : List Item)
      → list_all (form_selected words globals (length symbols) literals) cs ≡ true → list_all is_covered_code cs ≡ true → Are label cs
      → (before : List MarkKind) (w : World) (x : View) → Stands setting [] x.place
      (forms_code words stack literals label n cs (rest_code behind_all)) → Ready w x → w.marks ≡ before
      → Owed before w.state.store x (forms_cost cs) (do_forms (entries_of cs) label (bodies_of all) callee depth w)
  forms_sim [] label n behind_all e e' at before w x h r m =
      let y : View = record x { place = setting.place_of (label_of routine.End) } in
      let s = laid.routine routine.End y refl in
      let first = jumps setting x (label_of routine.End) behind_all [] h in
      record {
        last = s.last;
        events = [];
        least = 1 + s.least;
        steps = 1 + s.most;
        leads = leads_on setting.marks first s.leads;
        cost = (let f = s.few in omega (arith, f));
        exits = s.exits;
        output_is = s.output_is ∙ r.world.printed;
        marked = m ∙ sym (append-nil before);
        silent = s.silent;
      }
  forms_sim (c ∷ cs) label n behind_all e e' at before w x h r m =
      let parts' = and_parts (is_covered_code c) (list_all is_covered_code cs) e' in
      let parts = and_parts (form_selected words globals (length symbols) literals c) (list_all (form_selected words globals (length symbols) literals) cs) e in
      let sum : label + 0 ≡ label = omega arith in
      one_form c cs label n (forms_code words stack literals (suc label) (labels_end n c) cs (rest_code behind_all)) parts.0
      parts'.0 (ap (slice_get all) (sym sum) ∙ at 0 c refl)
      (λ before w x h r m. forms_sim cs (suc label) (labels_end n c) behind_all parts.1 parts'.1
      (λ j k i. let sum : label + suc j ≡ suc label + j = omega arith in ap (slice_get all) (sym sum)
      ∙ at (suc j) k i) before w x h r m)
      before w x h r m
