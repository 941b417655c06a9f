-- The machine does what the body of a form does.
use Rattle.std.proofs.Common.{◌≡◌, ℕ, ◌+◌, ◌*◌, ◌^◌, ◌<◌, ◌≤◌, List, [], ◌∷◌, ◌++◌, length, Bool, true, false}
use Rattle.std.proofs.Common.{cond, Option, Some, None, refl, sym, ap, ◌∙◌, subst, arith, append-nil, append_assoc}
use Rattle.std.proofs.Common.{◌&&◌}
use Rattle.std.specs.Prelude.{pos, not, nat_eq, nat_le}
use Rattle.std.specs.List.{list_all}
use Rattle.std.proofs.lemmas.Bool.{and_parts, eqb-true, leb-true, ltb-true}
use Rattle.sch_word.specs.values.Values.{Value, is_true}
use Rattle.sch_word.specs.runs.Computation.{gives}
use Rattle.sch_word.specs.values.Options.{when_some}
use Rattle.sch_control.specs.Meaning.{World, Result, Callee, marked}
use Rattle.sch_frames.specs.declared.instruction.Instruction.{Instruction}
use Rattle.sch_frames.specs.declared.instruction.Instruction.TheVariants.{Do, Store, Copy, Pass, Fix, Call}
use Rattle.sch_frames.specs.declared.instruction.Instruction.TheVariants.{Tail, Return, End, IfFalse, Jump, Label}
use Rattle.sch_frames.specs.declared.instruction.Instruction.TheVariants.{Mark}
use Rattle.sch_word.specs.values.Places.{link_place}
use Rattle.sch_frames.specs.Meaning.{Frame, Cell, Is, Link, Junk, More, value_in, if_link}
use Rattle.sch_frames.specs.Meaning.{with_place, with_outgoing, sought, execute, execute_each}
use Rattle.sch_word.specs.trees.Shape.{max_operands}
use Rattle.sch_word.specs.declared.place.Place.TheVariants.{Reg as Register, Slot}
use Rattle.sch_frames.specs.Valid.{handed_over, in_slots, is_place, is_register}
use Rattle.sch_insn.specs.declared.condition.TheConstants.{E}
use Rattle.sch_insn.specs.declared.insn.Arg.TheVariants.{Reg}
use Rattle.sch_insn.specs.declared.insn.Insn.TheVariants.{CmpNumber, JumpTo}
use Rattle.sch_insn.specs.Machine.{set_register, difference_of, condition}
use Rattle.sch_insn.proofs.Conditions.{compared_e}
use Rattle.sch_insn.proofs.Paths.{leads_here, leads_on}
use Rattle.sch_asm.specs.declared.item.Item.{Item}
use Rattle.sch_word.specs.declared.mark.MarkKind.{MarkKind}
use Rattle.sch_word.proofs.facts.Booleans.{not_true}
use Rattle.sch_asm.specs.Stands.{Stands}
use Rattle.sch_asm.specs.Data.{word_in}
use Rattle.sch_asm.specs.Views.{View, Leads, full}
use Rattle.sch_asm.proofs.EachItem.{goes, branches, jumps}
use Rattle.sch_select_memory.specs.Parts.{Parts}
use Rattle.sch_select_memory.specs.Encoded.{IsWord}
use Rattle.sch_frames.specs.Covered.{may_stand}
use Rattle.sch_select.specs.Select.{labels_needed, instruction_code, body_code}
use Rattle.sch_select_memory.proofs.heap.Encodings.{fits, false_tested}
use Rattle.sch_select_memory.proofs.Straight.{moved_to}
use Rattle.sch_select_memory.proofs.Places.{Plan, Activation, Holds, held_value, loaded, written, handed}
use Rattle.sch_select_memory.proofs.Places.{other_register, register_filled}
use Rattle.sch_select.proofs.items.AppendedItems.{instruction_appends, Behind, behind}
use Rattle.sch_select_memory.proofs.simulation.Outcomes.{Laid}
use Rattle.sch_select_operations.proofs.simulation.Operations.{Std, FrameOf, StoreOf, SimOf, onward, none_waits}
use Rattle.sch_select_memory.proofs.simulation.ProcedureEntries.{Enters}
use Rattle.sch_select_operations.proofs.simulation.Calls.{call_sim, tail_sim}
use Rattle.sch_select_operations.proofs.simulation.EachOperation.{operation_cost, operation_sim}
use Rattle.sch_select_operations.proofs.simulation.Closures.{group_sim}
use Rattle.sch_select_operations.proofs.simulation.Records.{records_cost}
use Rattle.sch_select_operations.proofs.simulation.SelectedPrograms.{instruction_selected, members_selected}

-- how many steps an instruction takes at most
abbrev pub instruction_cost : Instruction → ℕ
instruction_cost (Do o) = operation_cost o
instruction_cost (Fix members spills) = 250 + (3 * length members + records_cost members)
instruction_cost (Label l) = 0
instruction_cost (Mark m) = 0
instruction_cost _ = 250

-- how many steps a body takes at most
abbrev pub body_cost : List Instruction → ℕ
body_cost [] = 0
body_cost (i ∷ instructions) = instruction_cost i + body_cost instructions

module _ (plan : Plan) (body_steps : ℕ) (laid : Laid plan body_steps) (act : Activation plan) (base out : ℕ)
    (out_is : act.entered ≡ false → plan.setting.place_of out ≡ act.back) (callee : Callee)
    (enters : Enters plan body_steps callee act.nested) where
  open plan use {setting, size, words, literals, globals, symbols, stack}

  abbrev Here : List MarkKind → ℕ → List Item → Type 0
  Here waiting a is = Std plan body_steps laid act waiting a is

  abbrev In : Parts → Frame → World → View → Type 0
  In parts f w x = FrameOf plan body_steps laid act parts f w x

  abbrev Kept : Parts → World → View → Type 0
  Kept parts w x = StoreOf plan body_steps laid act parts w x

  abbrev Owed : Parts → List MarkKind → World → View → ℕ → Result → Type 0
  Owed parts before w x c r = SimOf plan body_steps laid act parts before w x c r

  -- where a label is sought, the machine is there already, and the items are somewhere
  abbrev pub At : Option ℕ → List MarkKind → View → List Item → Type 0
  At None waiting x is = Here waiting x.place is
  At (Some l) waiting x is = (waiting ≡ []) × (x.place ≡ setting.place_of (base + l)) × Behind setting is

  -- the rest of a body
  abbrev pub Cont : More → ℕ → List Item → Type 0
  Cont k c rest = (look : Option ℕ) (parts : Parts) (before waiting : List MarkKind) (f : Frame) (w : World)
      (x : View) → At look waiting x rest → In parts f w x → Kept parts w x
      → Holds act.back parts f.accumulator (x.registers 0) → w.marks ≡ before ++ waiting
      → Owed parts before w x c (k look f w)

  not_entered : not act.entered ≡ true → act.entered ≡ false
  not_entered e = not_true act.entered e

  go_on : (parts : Parts) (before events : List MarkKind) (w : World) (x y : View) (a b c most : ℕ) (r : Result)
      → Leads setting a b events x y → ((p : ℕ) → stack ≤ p → p + 8 ≤ act.frame → word_in y.bytes p ≡ word_in x.bytes
      p) → b + c ≤ most → Owed parts (before ++ events) w y c r → Owed parts before w x most r
  go_on parts before events w x y a b c most r p low le s = onward plan body_steps laid act parts before events w x y
      a b c most r p low le s

  -- fewer steps are allowed to be more
  more : (parts : Parts) (before : List MarkKind) (w : World) (x : View) (c most : ℕ) (r : Result) → c ≤ most
      → Owed parts before w x c r → Owed parts before w x most r
  more parts before w x c most r le s = go_on parts before [] w x x 0 0 c most r
      (leads_here setting.marks (full setting x)) (λ p lo hi. refl) (omega (arith, le))
      (subst (λ l. Owed parts l w x c r) (sym (append-nil before)) s)

  few_operands : (count : ℕ) → (nat_le count max_operands && handed_over words count) ≡ true
      → (count < 2 ^ 31) × (count ≤ 6 + words)
  few_operands count e =
      let both = and_parts (nat_le count max_operands) (handed_over words count) e in
      let le = leb-true count max_operands both.0 in
      let fits = leb-true count (6 + words) both.1 in (omega (arith, le), fits)

  instruction_sim : (n : ℕ) (i : Instruction) (k : More) (c : ℕ) (rest : List Item) → Cont k c rest
      → (parts : Parts) (before waiting : List MarkKind) (f : Frame) (w : World) (x : View)
      → instruction_selected words globals (length symbols) literals i ≡ true → may_stand (not act.entered) i ≡ true
      → Here waiting x.place (instruction_code base out words stack literals n i rest) → In parts f w x → Kept parts w x
      → Holds act.back parts f.accumulator (x.registers 0) → w.marks ≡ before ++ waiting
      → Owed parts before w x (instruction_cost i + c) (execute callee act.left i k f w)
  instruction_sim n (Do o) k c rest K parts before waiting f w x e e' h p g a m =
      operation_sim plan body_steps laid act (k None) c rest
      (λ parts before waiting f w x h p g a m. K None parts before waiting f w x h p g a m) parts before waiting f
      w x p g m n o e h
  instruction_sim n (Store q) k c rest K parts before waiting f w x e e' h p g a m =
      let u = written plan act parts w.state.store.charged f.places f.outgoing q f.accumulator 0 x waiting rest e a p
      g.size_is h in
      go_on parts before waiting w x u.y 1 1 c (250 + c) _ u.leads u.below (omega arith)
      (K None parts (before ++ waiting) [] (with_place f q f.accumulator) w u.y u.ahead u.places_at
      (u.world parts w.state g) (subst (Holds act.back parts f.accumulator) (sym u.accumulator) a)
      (none_waits w.marks before waiting m))
  instruction_sim n (Copy to (Register r)) k c rest K parts before waiting f w x e e' h p g a m =
      let checks = and_parts (is_place words to) (is_register r) (and_parts _ _ e).1 in
      let u = written plan act parts w.state.store.charged f.places f.outgoing to (f.places (Register r)) r x waiting rest checks.0
      (p.register r checks.1) p g.size_is h in
      go_on parts before waiting w x u.y 1 1 c (250 + c) _ u.leads u.below (omega arith)
      (K None parts (before ++ waiting) [] (with_place f to (f.places (Register r))) w u.y u.ahead u.places_at
      (u.world parts w.state g) (subst (Holds act.back parts f.accumulator) (sym u.accumulator) a)
      (none_waits w.marks before waiting m))
  instruction_sim n (Copy (Register r) (Slot j)) k c rest K parts before waiting f w x e e' h p g a m =
      let checks = and_parts (is_register r) (is_place words (Slot j)) e in
      let l = loaded plan act parts w.state.store.charged f.places f.outgoing (Slot j) r x waiting rest checks.1 p g.size_is h in
      go_on parts before waiting w x (moved_to x (set_register x.registers r l.value) x.flags l.place) 1 1 c (250 + c) _ l.leads (λ q lo hi. refl) (omega arith)
      (K None parts (before ++ waiting) [] (with_place f (Register r) (f.places (Slot j))) w _ l.ahead
      (register_filled plan act parts w.state.store.charged f.places f.outgoing r (f.places (Slot j)) l.value x.registers x.bytes checks.0 l.holds p)
      g (subst (Holds act.back parts f.accumulator) (sym (other_register x.registers r 0 l.value checks.0 refl)) a)
      (none_waits w.marks before waiting m))
  instruction_sim n (Copy (Slot i) (Slot j)) k c rest K parts before waiting f w x e e' h p g a m = absurd
      (let bad : false ≡ true = e in cc)
  instruction_sim n End k c rest K parts before waiting f w x e e' h p g a m = record {
    y = record x { place = setting.place_of out };
    events = waiting;
    least = 1;
    steps = 1;
    leads = jumps setting x out rest waiting h;
    entries = omega arith;
    fewer = omega arith;
    cost = omega arith;
    at = out_is (not_entered e');
    frame = p.frame;
    depth = p.depth;
    free = p.free;
    below = λ q lo hi. refl;
    parts_after = parts;
    words = λ v n h. h;
    value = λ z. absurd (let bad : false ≡ true = sym (not_entered e') ∙ z in cc);
    world = g;
    marked = m;
  }
  instruction_sim n (IfFalse l) k c rest K parts before waiting f w x e e' h p g a m = by (value_in f.accumulator) refl
    where
      y : View
      y = moved_to x x.registers (difference_of (x.registers 0) 6).flags (x.place + h.0)

      first : Leads setting 1 1 waiting x y
      first = goes setting x y (CmpNumber (Reg 0) (pos 6)) h.0 waiting h.1 refl

      jumped : (v : Value) → value_in f.accumulator ≡ Some v → (b : Bool) → is_true v ≡ b
          → Owed parts before w x (250 + c) (cond b (k None f w) (k (Some l) f w))
      jumped v q b t = arm b (compared_e (x.registers 0) 6 (fits parts v _ hv) (omega arith)
          ∙ ap Some (false_tested parts v _ hv ∙ ap not t))
        where
          hv : IsWord parts v (x.registers 0)
          hv = held_value act.back parts f.accumulator (x.registers 0) v a q

          arm : (b : Bool) → condition y.flags E ≡ Some (not b)
              → Owed parts before w x (250 + c) (cond b (k None f w) (k (Some l) f w))
          arm true t =
              go_on parts before waiting w x (record y { place = y.place + h.2.0 }) 2 2 c (250 + c) _
              (leads_on setting.marks first (branches setting y E (base + l) rest [] false h.2 t))
              (λ q lo hi. refl) (omega arith)
              (K None parts (before ++ waiting) [] f w (record y { place = y.place + h.2.0 }) h.2.4 p g a
              (none_waits w.marks before waiting m))
          arm false t =
              go_on parts before waiting w x (record y { place = setting.place_of (base + l) }) 2 2 c (250 + c) _
              (leads_on setting.marks first (branches setting y E (base + l) rest [] true h.2 t))
              (λ q lo hi. refl) (omega arith)
              (K (Some l) parts (before ++ waiting) [] f w (record y { place = setting.place_of (base + l) })
              (refl, refl, record { place = y.place + h.2.0; waiting = []; stands = h.2.4 }) p g a
              (none_waits w.marks before waiting m))

      by : (o : Option Value) → value_in f.accumulator ≡ o
          → Owed parts before w x (250 + c) (when_some o (λ v. cond (is_true v) (k None f w) (k (Some l) f w)))
      by None q = tt
      by (Some v) q = jumped v q (is_true v) refl
  instruction_sim n (Jump l) k c rest K parts before waiting f w x e e' h p g a m =
      go_on parts before waiting w x (record x { place = setting.place_of (base + l) }) 1 1 c (250 + c) _
      (jumps setting x (base + l) rest waiting h) (λ q lo hi. refl) (omega arith)
      (K (Some l) parts (before ++ waiting) [] f w (record x { place = setting.place_of (base + l) })
      (refl, refl, record { place = x.place + h.0; waiting = []; stands = h.4 }) p g a
      (none_waits w.marks before waiting m))
  instruction_sim n (Label l) k c rest K parts before waiting f w x e e' h p g a m =
      more parts before w x c (0 + c) _ (omega arith) (K None parts before [] f w x h.2 p g a
      (m ∙ ap (λ v. before ++ v) h.0))
  instruction_sim n (Mark k') k c rest K parts before waiting f w x e e' h p g a m =
      more parts before w x c (0 + c) _ (omega arith)
      (K None parts before (waiting ++ k' ∷ []) f (marked k' w) x h p g a
      (ap (λ l. l ++ k' ∷ []) m ∙ append_assoc before waiting (k' ∷ [])))
  instruction_sim n (Pass j) k c rest K parts before waiting f w x e e' h p g a m =
      let u = handed plan act parts w.state.store.charged f.places f.outgoing j f.accumulator 0 x waiting rest (ltb-true j words e) a p
      g.size_is h in
      go_on parts before waiting w x u.y 1 1 c (250 + c) _ u.leads u.below (omega arith)
      (K None parts (before ++ waiting) [] (with_outgoing f j f.accumulator) w u.y u.ahead u.places_at
      (u.world parts w.state g) (subst (Holds act.back parts f.accumulator) (sym u.accumulator) a)
      (none_waits w.marks before waiting m))
  instruction_sim n (Call true count) k c rest K parts before waiting f w x e e' h p g a m = absurd
      (let bad : false ≡ true = e in cc)
  instruction_sim n (Call false count) k c rest K parts before waiting f w x e e' h p g a m =
      call_sim plan body_steps laid act callee enters (k None) c rest
      (λ parts before waiting f w x h p g a m. K None parts before waiting f w x h p g a m) parts before waiting f
      w x p g m n count (few_operands count e) h
  instruction_sim n (Tail true count) k c rest K parts before waiting f w x e e' h p g a m = absurd
      (let bad : false ≡ true = e in cc)
  instruction_sim n (Tail false count) k c rest K parts before waiting f w x e e' h p g a m =
      tail_sim plan body_steps laid act callee enters (k None) c rest
      (λ parts before waiting f w x h p g a m. K None parts before waiting f w x h p g a m) parts before waiting f
      w x p g m count (few_operands count e) h
  instruction_sim n (Fix members spills) k c rest K parts before waiting f w x e e' h p g a m =
      let some = and_parts (nat_eq (length spills) (in_slots members)) (nat_le (length members) max_operands && members_selected words globals
      (length symbols) literals members) e in
      let checks = and_parts (nat_le (length members) max_operands) (members_selected words globals
      (length symbols) literals members) some.1 in
      group_sim plan body_steps laid act (k None) c rest (λ parts before waiting f w x h p g a m. K None parts before
      waiting f w x h p g a m) parts before waiting f w x p g m members spills (eqb-true (length spills) (in_slots members) some.0)
      checks.0 checks.1 a h
  instruction_sim n Return k c rest K parts before waiting f w x e e' h p g a m = by (f.places link_place)
      (p.register 15 refl)
    where
      by : (q : Cell) → Holds act.back parts q (x.registers 15)
          → Owed parts before w x (250 + c) (if_link q (when_some (value_in f.accumulator) (λ v. Some (gives v w))))
      by Junk hq = tt
      by (Is v) hq = tt
      by Link hq = of (value_in f.accumulator) refl
        where
          of : (o : Option Value) → value_in f.accumulator ≡ o
              → Owed parts before w x (250 + c) (when_some o (λ v. Some (gives v w)))
          of None q = tt
          of (Some v) q = record {
            y = record x { place = x.registers 15 };
            events = waiting;
            least = 1;
            steps = 1;
            leads = goes setting x (record x { place = x.registers 15 }) (JumpTo (Reg 15)) h.0 waiting h.1 refl;
            entries = omega arith;
            fewer = omega arith;
            cost = omega arith;
            at = hq;
            frame = p.frame;
            depth = p.depth;
            free = p.free;
            below = λ q lo hi. refl;
            parts_after = parts;
            words = λ v n h. h;
            value = λ z. held_value act.back parts f.accumulator (x.registers 0) v a q;
            world = g;
            marked = m;
          }

  -- ---- a label is sought

  behind_it : (n : ℕ) (i : Instruction) (rest : List Item)
      → Behind setting (instruction_code base out words stack literals n i rest) → Behind setting rest
  behind_it n i rest b = behind setting (instruction_code base out words stack literals n i []) rest b.waiting b.place
      (subst (Stands setting b.waiting b.place) (instruction_appends base out words stack literals n i rest) b.stands)

  passed_over : (n : ℕ) (i : Instruction) (k : More) (c : ℕ) (rest : List Item) → Cont k c rest
      → (l : ℕ) (parts : Parts) (before waiting : List MarkKind) (f : Frame) (w : World) (x : View)
      → At (Some l) waiting x (instruction_code base out words stack literals n i rest) → In parts f w x
      → Kept parts w x
      → Holds act.back parts f.accumulator (x.registers 0) → w.marks ≡ before ++ waiting
      → Owed parts before w x (instruction_cost i + c) (k (sought l i) f w)
  passed_over n (Label j) k c rest K l parts before waiting f w x h p g a m = by (nat_eq j l) refl
    where
      by : (b : Bool) → nat_eq j l ≡ b → Owed parts before w x (0 + c) (k (cond b None (Some l)) f w)
      by true e =
          let same : j ≡ l = eqb-true j l e in
          let s = h.2.stands in
          let at : h.2.place ≡ x.place = sym s.1 ∙ ap (λ j. setting.place_of (base + j)) same ∙ sym h.1 in
          more parts before w x c (0 + c) _ (omega arith) (K None parts before [] f w x
          (subst (λ a. Here [] a rest) at s.2) p g a (m ∙ ap (λ v. before ++ v) h.0))
      by false e = more parts before w x c (0 + c) _ (omega arith)
          (K (Some l) parts before waiting f w x (h.0, h.1, behind_it n (Label j) rest h.2) p g a m)
  passed_over n (Do o) k c rest K l parts before waiting f w x h p g a m = more parts before w x c
      (operation_cost o + c) _ (omega arith) (K (Some l) parts before waiting f w x
      (h.0, h.1, behind_it n (Do o) rest h.2) p g a m)
  passed_over n (Store q) k c rest K l parts before waiting f w x h p g a m = more parts before w x c (250 + c) _
      (omega arith) (K (Some l) parts before waiting f w x (h.0, h.1, behind_it n (Store q) rest h.2) p g a m)
  passed_over n (Copy to from) k c rest K l parts before waiting f w x h p g a m = more parts before w x c (250 + c) _
      (omega arith) (K (Some l) parts before waiting f w x (h.0, h.1, behind_it n (Copy to from) rest h.2) p g a m)
  passed_over n (Pass j) k c rest K l parts before waiting f w x h p g a m = more parts before w x c (250 + c) _
      (omega arith) (K (Some l) parts before waiting f w x (h.0, h.1, behind_it n (Pass j) rest h.2) p g a m)
  passed_over n (Fix members spills) k c rest K l parts before waiting f w x h p g a m = more parts before w x c
      (250 + (3 * length members + records_cost members) + c) _ (omega arith)
      (K (Some l) parts before waiting f w x (h.0, h.1, behind_it n (Fix members spills) rest h.2) p g a m)
  passed_over n (Call spread count) k c rest K l parts before waiting f w x h p g a m = more parts before w x c
      (250 + c) _ (omega arith) (K (Some l) parts before waiting f w x
      (h.0, h.1, behind_it n (Call spread count) rest h.2) p g a m)
  passed_over n (Tail spread count) k c rest K l parts before waiting f w x h p g a m = more parts before w x c
      (250 + c) _ (omega arith) (K (Some l) parts before waiting f w x
      (h.0, h.1, behind_it n (Tail spread count) rest h.2) p g a m)
  passed_over n Return k c rest K l parts before waiting f w x h p g a m = more parts before w x c (250 + c) _
      (omega arith) (K (Some l) parts before waiting f w x (h.0, h.1, behind_it n Return rest h.2) p g a m)
  passed_over n End k c rest K l parts before waiting f w x h p g a m = more parts before w x c (250 + c) _
      (omega arith) (K (Some l) parts before waiting f w x (h.0, h.1, behind_it n End rest h.2) p g a m)
  passed_over n (IfFalse j) k c rest K l parts before waiting f w x h p g a m = more parts before w x c (250 + c) _
      (omega arith) (K (Some l) parts before waiting f w x (h.0, h.1, behind_it n (IfFalse j) rest h.2) p g a m)
  passed_over n (Jump j) k c rest K l parts before waiting f w x h p g a m = more parts before w x c (250 + c) _
      (omega arith) (K (Some l) parts before waiting f w x (h.0, h.1, behind_it n (Jump j) rest h.2) p g a m)
  passed_over n (Mark j) k c rest K l parts before waiting f w x h p g a m = more parts before w x c (0 + c) _
      (omega arith) (K (Some l) parts before waiting f w x (h.0, h.1, behind_it n (Mark j) rest h.2) p g a m)

  -- ---- a body

  pub body_sim : (n : ℕ) (instructions : List Instruction) (rest : List Item)
      → list_all (instruction_selected words globals (length symbols) literals) instructions ≡ true
      → list_all (may_stand (not act.entered)) instructions ≡ true
      → Cont (execute_each callee act.left instructions) (body_cost instructions)
      (body_code base out words stack literals n instructions rest)
  body_sim n [] rest e e' look parts before waiting f w x h p g a m = tt
  body_sim n (i ∷ instructions) rest e e' None parts before waiting f w x h p g a m =
      let checks = and_parts (instruction_selected words globals (length symbols) literals i)
      (list_all (instruction_selected words globals (length symbols) literals) instructions) e in
      let checks' = and_parts (may_stand (not act.entered) i)
      (list_all (may_stand (not act.entered)) instructions) e' in
      instruction_sim n i (execute_each callee act.left instructions) (body_cost instructions)
      (body_code base out words stack literals (n + labels_needed i) instructions rest)
      (body_sim (n + labels_needed i) instructions rest checks.1 checks'.1) parts before waiting f w x checks.0
      checks'.0 h p g
      a m
  body_sim n (i ∷ instructions) rest e e' (Some l) parts before waiting f w x h p g a m =
      let checks = and_parts (instruction_selected words globals (length symbols) literals i)
      (list_all (instruction_selected words globals (length symbols) literals) instructions) e in
      let checks' = and_parts (may_stand (not act.entered) i)
      (list_all (may_stand (not act.entered)) instructions) e' in
      passed_over n i (execute_each callee act.left instructions) (body_cost instructions)
      (body_code base out words stack literals (n + labels_needed i) instructions rest)
      (body_sim (n + labels_needed i) instructions rest checks.1 checks'.1) l parts before waiting f w x h p g a m
