-- The machine does what the body of a procedure does, wherever the procedure is entered.
use Rattle.std.proofs.Common.{◌≡◌, ℕ, zero, suc, ◌+◌, ◌-◌, ◌*◌, ◌^◌, ◌<◌, ◌≤◌, List, [], ◌∷◌, ◌++◌, length, drop, Bool}
use Rattle.std.proofs.Common.{true, false, Option, Some, None, refl, sym, ap, ◌∙◌, subst, arith, append-nil, ◌==◌}
use Rattle.std.specs.Prelude.{pos, not, nat_eq, nat_le, slice_get, ◌&&◌, ◌||◌}
use Rattle.std.specs.List.{list_all}
use Rattle.std.proofs.lemmas.Bool.{and_parts, leb-true}
use Rattle.std.proofs.Math.Nat.{mul-suc}
use Rattle.sch_word.specs.declared.answer.Answer.{Answer}
use Rattle.sch_word.specs.declared.stop.Stop.TheVariants.{WrongCount}
use Rattle.sch_word.specs.trees.Shape.{max_operands}
use Rattle.sch_word.specs.values.Values.{Value}
use Rattle.sch_word.specs.runs.Charges.{fit}
use Rattle.sch_word.specs.runs.Store.{Store}
use Rattle.sch_word.specs.runs.Stops.{status_of}
use Rattle.sch_word.specs.runs.Computation.{Outcome, State, gives, stops, spent, in_store, require, take_entry, taken, with_rest}
use Rattle.sch_control.specs.declared.body.Entry.{Entry}
use Rattle.sch_word.specs.runs.Procedures.{Procedure}
use Rattle.sch_control.specs.Meaning.{World, Result, Callee, marked, on_outcome}
use Rattle.sch_control.specs.Run.{enter, enter_body, entry_at}
use Rattle.sch_control.specs.CoveredOperands.{is_form}
use Rattle.sch_frames.specs.Tree.{Code}
use Rattle.sch_frames.specs.Run.{bodies_of, do_known, entries_of}
use Rattle.sch_frames.specs.Meaning.{Junk, beginning, entry_places, execute_each}
use Rattle.sch_control.specs.flow.Places.{formals_of}
use Rattle.sch_insn.specs.declared.condition.TheConstants.{NE}
use Rattle.sch_insn.specs.declared.insn.Arg.TheVariants.{Reg}
use Rattle.sch_insn.specs.declared.insn.Insn.TheVariants.{CmpNumber}
use Rattle.sch_insn.specs.Machine.{difference_of, condition}
use Rattle.sch_insn.proofs.Conditions.{compared_ne}
use Rattle.sch_insn.proofs.Paths.{leads_here, leads_on}
use Rattle.sch_asm.specs.declared.item.Item.{Item}
use Rattle.sch_asm.specs.declared.item.Item.TheVariants as item
use Rattle.sch_word.specs.declared.mark.MarkKind.{MarkKind}
use Rattle.sch_word.specs.declared.mark.MarkKind.TheVariants.{Enter}
use Rattle.sch_word.proofs.facts.Lists.{each_at}
use Rattle.sch_asm.specs.Stands.{Stands}
use Rattle.sch_asm.specs.Data.{word_in}
use Rattle.sch_asm.specs.Views.{View, Leads, full}
use Rattle.sch_asm.proofs.EachItem.{goes, branches}
use Rattle.sch_select_memory.specs.Parts.{Parts}
use Rattle.sch_select_memory.specs.Encoded.{Words}
use Rattle.sch_frames.specs.Covered.{is_covered_code, may_stand}
use Rattle.sch_select.proofs.programs.FreeCodes.{IsFree, code_parts}
use Rattle.sch_select.specs.Program.{count_code}
use Rattle.sch_select_memory.specs.RestCode.{rest_entry}
use Rattle.sch_select.specs.Select.{body_code}
use Rattle.sch_select_operations.specs.CallCode.{check_count}
use Rattle.sch_select_memory.specs.Addresses.{stop_label}
use Rattle.sch_select_memory.proofs.Straight.{Halts}
use Rattle.sch_select_memory.proofs.Places.{Plan, code_of, Activation, StoreAt, PlacesAt}
use Rattle.sch_select_memory.proofs.simulation.Outcomes.{Ends, Goes_on, Lands, Sim, Laid, after, ends_after, no_entries}
use Rattle.sch_select_memory.proofs.simulation.Outcomes.{goes_on_after, stops_here, paid}
use Rattle.sch_select_memory.proofs.simulation.ProcedureEntries.{Enters}
use Rattle.sch_select.proofs.programs.Bodies.{body_cost, body_sim}
use Rattle.sch_select_memory.proofs.lists.RestLoop.{changed}
use Rattle.sch_select_memory.proofs.lists.Rests.{Fits, fitted}
use Rattle.sch_select_operations.proofs.simulation.SelectedPrograms.{form_selected, entry_selected, instruction_selected}

-- ---- bodies by their labels

abbrev entry_in : Option Code → Option Entry
entry_in None = None
entry_in (Some c) = c.entry

entry_is : (codes : List Code) (label : ℕ) → entry_at (entries_of codes) label ≡ entry_in (slice_get codes label)
entry_is [] label = refl
entry_is (c ∷ codes) zero = refl
entry_is (c ∷ codes) (suc label) = entry_is codes label

-- how many steps all bodies take at most
abbrev pub bodies_cost : List Code → ℕ
bodies_cost [] = 0
bodies_cost (c ∷ codes) = body_cost c.instructions + bodies_cost codes

pub cost_within : (codes : List Code) (label : ℕ) (c : Code) → slice_get codes label ≡ Some c
    → body_cost c.instructions ≤ bodies_cost codes
cost_within [] label c i = absurd (let bad : None ≡ Some c = i in cc)
cost_within (k ∷ codes) zero c i = let j : Some k ≡ Some c = i in let same : k ≡ c = cc in subst
    (λ c. body_cost c.instructions ≤ body_cost k.instructions + bodies_cost codes) same (omega arith)
cost_within (k ∷ codes) (suc label) c i = let h = cost_within codes label c i in omega (arith, h)

-- the body of a procedure stands where its label does
pub record BodyAt (plan : Plan) (label : ℕ) (c : Code) (e : Entry) : Type 0 where
  pub n : ℕ
  pub following : List Item
  pub stands : Stands plan.setting [] (code_of plan label)
      (count_code e.rest e.formals (n + c.labels + 1) (item.Mark (Enter label) ∷ body_code n (n + c.labels) plan.words plan.stack
      plan.literals (n + c.labels + 2) c.instructions (item.Label (n + c.labels) ∷ following)))

module _ (plan : Plan) (body_steps : ℕ) (laid : Laid plan body_steps) where
  open plan use {setting, words, literals, globals, symbols, stack}

  -- an entry is taken
  store_taken : (parts : Parts) (s : State Procedure) (left : ℕ) (bytes output : List ℕ) (answers : List Answer)
      → StoreAt plan parts s bytes output answers → StoreAt plan parts
      (record s { store = record s.store { entries = left } }) bytes output answers
  store_taken parts s left bytes output answers g = record {
    size_is = g.size_is;
    printed = g.printed;
    left = g.left;
    limit = g.limit;
    within = g.within;
    begins = g.begins;
    ends = g.ends;
    texts = g.texts;
    table = g.table;
    literal_count = g.literal_count;
    literal = g.literal;
    count = g.count;
    global = g.global;
    symbols_are = g.symbols_are;
    known = g.known;
    names_are = g.names_are;
    contents = g.contents;
    new = g.new;
  }

  -- What is owed inside a body, where one entry less may be nested, after its entry is taken.
  module _ (act : Activation plan) (n : ℕ) (nested_is : act.nested ≡ suc n) where
    abbrev inside : Activation plan
    inside = record act { nested = n }

    taken_after : (parts parts' : Parts) → Words parts parts' → (before : List MarkKind) (t t' : Store) (x y : View)
        (a b c most : ℕ) (r : Result)
        → ((q : ℕ) → stack ≤ q → q + 8 ≤ act.frame → word_in y.bytes q ≡ word_in x.bytes q)
        → Leads setting a b [] x y → 1 ≤ a → t.entries ≡ suc t'.entries
        → b + c + paid plan body_steps t' ≤ most + paid plan body_steps t
        → Sim plan body_steps inside parts' before t' y c r → Sim plan body_steps act parts before t x most r
    taken_after parts parts' words' before t t' x y a b c most None below l some e le s = tt
    taken_after parts parts' words' before t t' x y a b c most (Some (stops why u)) below l some e le s =
        ends_after plan body_steps before [] t t' x y a b c most (status_of why) u l le
        (subst (λ b. Ends plan body_steps b t' y c (status_of why) u) (sym (append-nil before)) s)
    taken_after parts parts' words' before t t' x y a b c most (Some (spent u)) below l some e le s = λ few.
        goes_on_after plan body_steps before [] t t' x y a b u l (omega (arith, e, some))
        (subst (λ b. Goes_on plan body_steps b t' y u) (sym (append-nil before))
        (s (omega (arith, few, e, nested_is))))
    taken_after parts parts' words' before t t' x y a b c most (Some (gives v u)) below l some e le s =
        let q : Lands plan body_steps inside parts before t x most v u =
        after plan body_steps inside parts parts' words' before [] t t' x y a b c most (Some (gives v u)) l
        below (omega (arith, e, some)) (omega (arith, e)) le
        (subst (λ b. Lands plan body_steps inside parts' b t' y c v u) (sym (append-nil before)) s) in
        record {
          y = q.y;
          events = q.events;
          least = q.least;
          steps = q.steps;
          leads = q.leads;
          entries = q.entries;
          fewer = q.fewer;
          cost = q.cost;
          at = q.at;
          frame = q.frame;
          depth = q.depth;
          free = q.free;
          below = q.below;
          parts_after = q.parts_after;
          words = q.words;
          value = q.value;
          world = q.world;
          marked = q.marked;
        }

  module _ (codes : List Code) (selected : list_all (form_selected words globals (length symbols) literals) codes ≡
      true)
      (covered : list_all is_covered_code codes ≡ true) (short : bodies_cost codes ≤ body_steps)
      (stood : (label : ℕ) (c : Code) (e : Entry) → slice_get codes label ≡ Some c → c.entry ≡ Some e
      → BodyAt plan label c e)
      (entered_so : list_all (λ c. entry_selected words c.entry) codes ≡ true) where
    abbrev callee : ℕ → Callee
    callee n = enter (entry_at (entries_of codes)) (bodies_of codes) n

    -- a body that is entered, with one entry less to be nested in it
    module _ (n : ℕ) (enters : Enters plan body_steps (callee n) n) (act : Activation plan)
        (nested_is : act.nested ≡ suc n) (is_entered : act.entered ≡ true) (self : Value) (p : Procedure)
        (vs : List Value) (parts : Parts) (before : List MarkKind) (w : World) (x : View)
        (at : x.place ≡ code_of plan p.label) (counted : x.registers 0 ≡ length vs) (small : length vs < 2 ^ 31)
        (many : length vs ≤ 6 + words)
        (places_at : PlacesAt plan act parts w.state.store.charged (entry_places self vs) (λ k. Junk) x.registers
        x.bytes) (g : StoreAt plan parts w.state x.bytes x.output x.answers) (m : w.marks ≡ before) where
      abbrev t : Store
      t = w.state.store

      abbrev Owed : Result → Type 0
      Owed r = Sim plan body_steps act parts before t x 40 r

      -- what follows once the arguments fit
      abbrev entering : ℕ → List Value → World → Result
      entering label arguments w = on_outcome w.marks (in_store take_entry w.state)
          (λ _ w. bodies_of codes label (callee n) act.left self arguments (marked (Enter label) w))

      module _ (c : Code) (e : Entry) (is : slice_get codes p.label ≡ Some c) (entry_of : c.entry ≡ Some e) where
        abbrev b : BodyAt plan p.label c e
        b = stood p.label c e is entry_of

        abbrev out : ℕ
        out = b.n + c.labels

        abbrev body : List Item
        body = item.Mark (Enter p.label) ∷ body_code b.n out words stack literals (out + 2) c.instructions
            (item.Label out ∷ b.following)

        kept : IsFree c
        kept = code_parts c (each_at is_covered_code codes p.label c covered is)

        there : Stands setting [] x.place (count_code e.rest e.formals (out + 1) body)
        there = subst (λ a. Stands setting [] a (count_code e.rest e.formals (out + 1) body)) (sym at) b.stands

        checks : (nat_le (formals_of c.entry) max_operands ≡ true)
            × (list_all (instruction_selected words globals (length symbols) literals) c.instructions ≡ true)
        checks = and_parts (nat_le (formals_of c.entry) max_operands)
            (list_all (instruction_selected words globals (length symbols) literals) c.instructions)
            (each_at (form_selected words globals (length symbols) literals) codes p.label c selected is)

        formals_few : e.formals ≤ max_operands
        formals_few = leb-true e.formals max_operands (subst (λ o. nat_le (formals_of o) max_operands ≡ true) entry_of
            checks.0)

        placed : (nat_le 1 e.formals || not e.rest) && nat_le e.formals (6 + words) ≡ true
        placed = subst (λ o. entry_selected words o ≡ true) entry_of
            (each_at (λ c. entry_selected words c.entry) codes p.label c entered_so is)

        -- the body itself, with the arguments, in the state in which it begins: an entry is taken
        module _ (us : List Value) (parts' : Parts) (words' : Words parts parts') (u0 : World) (y : View) (a b' : ℕ)
            (reaches : Leads setting a b' [] x y) (some : 1 ≤ a)
            (below : (q : ℕ) → stack ≤ q → q + 8 ≤ act.frame → word_in y.bytes q ≡ word_in x.bytes q)
            (first : PlacesAt plan act parts' u0.state.store.charged (entry_places self us) (λ k. Junk) y.registers
            y.bytes) (g' : StoreAt plan parts' u0.state y.bytes y.output y.answers)
            (entries_are : u0.state.store.entries ≡ t.entries) (printed : u0.state.store.output ≡ t.output)
            (m' : u0.marks ≡ before) (st : Stands setting [] y.place body)
            (cost : b' + paid plan body_steps u0.state.store ≤ 40 + paid plan body_steps t) where
          module _ (left : ℕ) (left_is : t.entries ≡ suc left) where
            abbrev u : World
            u = record u0 { state = record u0.state { store = record u0.state.store { entries = left } } }

            abbrev v : World
            v = marked (Enter p.label) u

            inside_at : PlacesAt plan (inside act n nested_is) parts' u0.state.store.charged (entry_places self us)
                (λ k. Junk) y.registers y.bytes
            inside_at = record {
              frame = first.frame;
              depth = first.depth;
              free = first.free;
              register = first.register;
              slot = first.slot;
              next = first.next;
            }

            runs : Sim plan body_steps (inside act n nested_is) parts' before v.state.store y (body_cost c.instructions)
                (execute_each (callee n) act.left c.instructions None (beginning (Some e) self us) v)
            runs = body_sim plan body_steps laid (inside act n nested_is) b.n out
                (λ q. absurd (let bad : true ≡ false = sym is_entered ∙ q in cc)) (callee n) enters
                (out + 2) c.instructions (item.Label out ∷ b.following) checks.1
                (subst (λ a. list_all (may_stand (not a)) c.instructions ≡ true) (sym is_entered)
                (subst (λ o. list_all (may_stand (is_form o)) c.instructions ≡ true) entry_of kept.stands))
                None parts' before (Enter p.label ∷ []) (beginning (Some e) self us) v y st inside_at
                (store_taken parts' u0.state left y.bytes y.output y.answers g') tt
                (ap (λ l. l ++ Enter p.label ∷ []) m')

            enters_body : Owed (bodies_of codes p.label (callee n) act.left self us v)
            enters_body =
                let within = cost_within codes p.label c is in let split = mul-suc body_steps left in
                let paid_for = ap (λ k. body_steps * k) left_is in let same = ap (λ k. body_steps * k) entries_are in
                taken_after act n nested_is parts parts' words' before t v.state.store x y a b' (body_cost c.instructions) 40
                (bodies_of codes p.label (callee n) act.left self us v) below reaches some left_is
                (omega (arith, within, short, split, paid_for, same, cost))
                (subst (λ o. Sim plan body_steps (inside act n nested_is) parts' before v.state.store y
                (body_cost c.instructions) (do_known o (callee n) act.left self us v)) (sym is)
                (subst (λ o. Sim plan body_steps (inside act n nested_is) parts' before v.state.store y
                (body_cost c.instructions) (execute_each (callee n) act.left c.instructions None
                (beginning o self us) v)) (sym entry_of) runs))

          by_entries : (k : ℕ) → u0.state.store.entries ≡ k
              → Owed (on_outcome u0.marks (with_rest u0.state.cells u0.state.procedures (taken k u0.state.store))
              (λ _ w. bodies_of codes p.label (callee n) act.left self us (marked (Enter p.label) w)))
          by_entries zero z = λ few. record {
            last = x;
            events = [];
            least = 0;
            steps = 0;
            ahead = [];
            leads = leads_here setting.marks (full setting x);
            long = omega (arith, z, entries_are);
            output_is = g.printed ∙ sym printed;
            marked = m' ∙ sym (append-nil before);
          }
          by_entries (suc left) z = enters_body left (sym entries_are ∙ z)

          begins_here : Owed (entering p.label us u0)
          begins_here = by_entries u0.state.store.entries refl

        -- ---- without a rest variable

        module _ (h : Stands setting [] x.place (check_count e.formals body)) where
          abbrev y1 : View
          y1 = record x { flags = (difference_of (x.registers 0) e.formals).flags; place = x.place + h.0 }

          compared : Leads setting 1 1 [] x y1
          compared = goes setting x y1 (CmpNumber (Reg 0) (pos e.formals)) h.0 [] h.1 refl

          abbrev y : View
          y = record y1 { place = y1.place + h.2.0 }

          tested : (b : Bool) → nat_eq (length vs) e.formals ≡ b → condition y1.flags NE ≡ Some (not b)
          tested b q = let f = formals_few in compared_ne (x.registers 0) e.formals (omega (arith, counted, small))
              (omega (arith, f)) ∙ ap (λ k. Some (not (k == e.formals))) counted ∙ ap (λ b. Some (not b)) q

          wrong : nat_eq (length vs) e.formals ≡ false → Ends plan body_steps before t x 40 (status_of WrongCount) w
          wrong q =
              let halts : Halts setting x [] 2 WrongCount = record {
                registers = y1.registers;
                flags = y1.flags;
                least = 2;
                steps = 2;
                leads = leads_on setting.marks
                    compared (branches setting y1 NE (stop_label WrongCount) body [] true h.2 (tested false q));
                few =
                    omega arith;
              } in
              stops_here plan body_steps laid before [] x 2 40 WrongCount w halts g.printed
              (m ∙ sym (append-nil before)) (omega arith)

          by_count : (b : Bool) → nat_eq (length vs) e.formals ≡ b
              → Owed (on_outcome w.marks (with_rest w.state.cells w.state.procedures
              (require b WrongCount (gives vs) t)) (entering p.label))
          by_count false q = wrong q
          by_count true q = begins_here vs parts (λ v n h. h) w y 2 2
              (leads_on setting.marks compared (branches setting y1 NE (stop_label WrongCount) body [] false h.2
              (tested true q))) (omega arith) (λ q lo hi. refl) places_at g refl refl m h.2.4 (omega arith)

        -- ---- with one

        rest_here : (formals : ℕ) → e.formals ≡ formals → e.rest ≡ true
            → Stands setting [] x.place (count_code true formals (out + 1) body)
            → Owed (on_outcome w.marks (in_store (fit formals true vs) w.state) (entering p.label))
        rest_here zero f r h = absurd (bad e.rest r (subst (λ k. ((nat_le 1 k || not e.rest) && nat_le k (6 + words)) ≡ true)
            f placed))
          where
            bad : (b : Bool) → b ≡ true → ((nat_le 1 0 || not b) && nat_le 0 (6 + words)) ≡ true → ⊥
            bad true r e = let no : false ≡ true = e in cc
            bad false r e = let no : false ≡ true = r in cc
        rest_here (suc required) f r h = by (fit (suc required) true vs t)
            (fitted plan act parts laid.lists.0 [] laid.lists.1 self vs w.state x required (out + 1) body many few counted
            places_at g (subst (λ k. Stands setting [] x.place (rest_entry k (out + 1) body)) less h))
          where
            less : suc required - 1 ≡ required
            less = omega arith

            few : required < 6 + words
            few = let k = leb-true e.formals (6 + words) (and_parts (nat_le 1 e.formals || not e.rest)
                (nat_le e.formals (6 + words)) placed).1 in omega (arith, k, f)

            by : (o : Outcome Store (List Value))
                → Fits plan act parts laid.lists.0 [] laid.lists.1 x w.state self (length (drop required vs)) body o
                → Owed (on_outcome w.marks (with_rest w.state.cells w.state.procedures o) (entering p.label))
            by (gives us t') q =
                let most = q.few in let entries = q.entries in let charged = q.charged in let room = q.store.within in
                let answers = ap length q.answers in let same = ap (λ k. body_steps * k) q.entries in
                begins_here us q.parts_after q.words (record w { state = record w.state { store = t' } })
                (changed x q.registers q.flags q.place q.bytes) q.least q.steps q.leads q.some q.below q.places_at q.store
                q.entries (sym q.store.printed ∙ g.printed) m q.ahead
                (omega (arith, most, entries, charged, room, answers, same))
            by (stops why t') q = subst (λ t'. Owed (on_outcome w.marks (with_rest w.state.cells w.state.procedures
                (stops why t')) (entering p.label))) (sym q.0)
                (stops_here plan body_steps laid before [] x 13 40 why w q.1 g.printed (m ∙ sym (append-nil before))
                (omega arith))
            by (spent t') q = absurd q

        into : Owed (enter_body (bodies_of codes) (callee n) (Some e) self p vs act.left w)
        into = by e.rest refl
          where
            by : (r : Bool) → e.rest ≡ r
                → Owed (on_outcome w.marks (in_store (fit e.formals r vs) w.state) (entering p.label))
            by false r = by_count (subst (λ r. Stands setting [] x.place (count_code r e.formals (out + 1) body)) r there)
                (nat_eq (length vs) e.formals) refl
            by true r = rest_here e.formals refl r
                (subst (λ r. Stands setting [] x.place (count_code r e.formals (out + 1) body)) r there)

      by_entry : (c : Code) → slice_get codes p.label ≡ Some c → (q : Option Entry) → c.entry ≡ q
          → Owed (enter_body (bodies_of codes) (callee n) q self p vs act.left w)
      by_entry c i None j = tt
      by_entry c i (Some e) j = into c e i j

      by_code : (o : Option Code) → slice_get codes p.label ≡ o
          → Owed (enter_body (bodies_of codes) (callee n) (entry_in o) self p vs act.left w)
      by_code None i = tt
      by_code (Some c) i = by_entry c i c.entry refl

      entered : Owed (enter_body (bodies_of codes) (callee n) (entry_at (entries_of codes) p.label) self p vs act.left
          w)
      entered = subst (λ o. Owed (enter_body (bodies_of codes) (callee n) o self p vs act.left w))
          (sym (entry_is codes p.label)) (by_code (slice_get codes p.label) refl)

    pub enter_sim : (n : ℕ) → Enters plan body_steps (callee n) n
    enter_sim zero act nested_is en self p vs parts before w x at counted small many pl g m = λ few. no_entries plan body_steps before
        [] w x g.printed (m ∙ sym (append-nil before)) (omega (arith, few, nested_is))
    enter_sim (suc n) act nested_is en self p vs parts before w x at counted small many pl g m = entered n (enter_sim n)
        act nested_is en self p vs parts before w x at counted small many pl g m
