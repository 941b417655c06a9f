-- The machine does what an operation of an operand or of a global does, and what a put does, with the rest of the
-- body as any continuation.
use Rattle.std.proofs.Common.{◌≡◌, ℕ, ◌+◌, ◌^◌, ◌<◌, ◌≤◌, List, [], ◌∷◌, ◌++◌, length, Bool, true}
use Rattle.std.proofs.Common.{false, Option, Some, None, refl, sym, ap, ◌∙◌, subst, arith, append-nil, eq-eqb}
use Rattle.std.specs.Prelude.{pos, slice_get, slice_set}
use Rattle.sch_word.specs.declared.answer.Answer.{Answer}
use Rattle.sch_word.specs.declared.place.Place.{Place}
use Rattle.sch_word.specs.declared.primitive.Primitive.TheVariants as prim
use Rattle.sch_word.specs.declared.stop.Stop.TheVariants.{WrongType, Unset, OutputFailed}
use Rattle.sch_word.specs.runs.Stops.{status_of}
use Rattle.sch_word.specs.values.Values.{Value, unspecified}
use Rattle.sch_word.specs.runs.Store.{Store}
use Rattle.sch_word.specs.values.Put.{put}
use Rattle.sch_word.specs.runs.Computation.{Outcome, gives, stops, spent, read_global, set_or_stop, with_rest, require}
use Rattle.sch_word.specs.values.PrimitiveRows.{piece, primitive, put_piece}
use Rattle.sch_control.specs.declared.operation.Operand.{Operand}
use Rattle.sch_control.specs.declared.operation.Operation.TheVariants as operation
use Rattle.sch_control.specs.Operations.{operate, operand_value}
use Rattle.sch_word.specs.values.Options.{when_some}
use Rattle.sch_control.specs.Meaning.{World, Result, on_ending, on_outcome}
use Rattle.sch_frames.specs.Meaning.{Frame, Is, held}
use Rattle.sch_insn.specs.declared.condition.TheConstants.{E}
use Rattle.sch_insn.specs.declared.insn.Arg.TheVariants.{Reg}
use Rattle.sch_insn.specs.declared.insn.Insn.TheVariants.{MovNumber, CmpNumber}
use Rattle.sch_insn.specs.Machine.{set_register, difference_of}
use Rattle.sch_insn.proofs.Conditions.{compared_e}
use Rattle.sch_insn.proofs.Paths.{leads_on}
use Rattle.sch_asm.specs.declared.item.Item.{Item}
use Rattle.sch_asm.specs.declared.item.Item.TheVariants as item
use Rattle.sch_word.specs.declared.mark.MarkKind.{MarkKind}
use Rattle.sch_word.proofs.facts.Lists.{get_there}
use Rattle.sch_asm.specs.Stands.{Stands}
use Rattle.sch_asm.specs.Data.{word_in, with_word}
use Rattle.sch_asm.specs.Effects.{is_scratch, IsReady, PutEnds}
use Rattle.sch_asm.specs.Views.{View, Leads}
use Rattle.sch_asm.proofs.EachItem.{goes, branches, jumps, loads_label, loads_data, stores_data}
use Rattle.sch_select_memory.specs.Parts.{Parts}
use Rattle.sch_select_memory.specs.Encoded.{IsWord}
use Rattle.sch_select_memory.specs.Addresses.{global_address, put_label, stop_label}
use Rattle.sch_select_operations.specs.OperandCode.{operand_code, put_code}
use Rattle.sch_select_operations.specs.PrimitiveCode.{global_code, set_global_code}
use Rattle.sch_select_memory.proofs.heap.Encodings.{fits, unset_tested}
use Rattle.sch_select_memory.proofs.Straight.{halts_after, is_free, kept_set, kept_then, moved_to, Yields}
use Rattle.sch_select_memory.proofs.Straight.{Comes}
use Rattle.sch_select_memory.proofs.Places.{Plan, heap_above, Activation, StoreAt, PlacesAt, heap_within, stack_within}
use Rattle.sch_select_memory.proofs.Places.{places_kept, Holds}
use Rattle.sch_select_operations.proofs.simulation.Operands.{Reads, operand_here, free_scratch}
use Rattle.sch_select_memory.proofs.simulation.PutValue.{PutsPiece, puts_value}
use Rattle.sch_select_memory.proofs.Changes.{global_inside, global_written, store_behind, places_written}
use Rattle.sch_select_memory.proofs.Changes.{below_written, places_behind, word_behind}
use Rattle.sch_select_memory.proofs.simulation.Outcomes.{Ends, Sim, after, Laid, stops_here}
use Rattle.sch_select_operations.proofs.simulation.SelectedPrograms.{operand_selected}

pub none_waits : (l before waiting : List MarkKind) → l ≡ before ++ waiting → l ≡ (before ++ waiting) ++ []
none_waits l before waiting e = e ∙ sym (append-nil (before ++ waiting))

not_past : (o : Option (Option Value)) → o ≡ None → ((x : Option Value) × (o ≡ Some x)) → ⊥
not_past o e s = let bad : None ≡ Some s.0 = sym e ∙ s.1 in absurd cc

module _ (plan : Plan) (body_steps : ℕ) (laid : Laid plan body_steps) (act : Activation plan) where
  open plan use {setting, size, words, literals, globals, symbols, heap, stack}

  abbrev pub Std : List MarkKind → ℕ → List Item → Type 0
  Std waiting a is = Stands setting waiting a is

  abbrev pub FrameOf : Parts → Frame → World → View → Type 0
  FrameOf parts f w x = PlacesAt plan act parts w.state.store.charged f.places f.outgoing x.registers x.bytes

  abbrev pub StoreOf : Parts → World → View → Type 0
  StoreOf parts w x = StoreAt plan parts w.state x.bytes x.output x.answers

  abbrev pub SimOf : Parts → List MarkKind → World → View → ℕ → Result → Type 0
  SimOf parts before w x c r = Sim plan body_steps act parts before w.state.store x c r

  -- The rest of a body. In place of an accumulator that holds nothing it may find any word.
  abbrev pub Rest : (Frame → World → Result) → ℕ → List Item → Type 0
  Rest k c rest = (parts : Parts) (before waiting : List MarkKind) (f : Frame) (w : World) (x : View)
      → Std waiting x.place rest → FrameOf parts f w x → StoreOf parts w x
      → Holds act.back parts f.accumulator (x.registers 0) → w.marks ≡ before ++ waiting
      → SimOf parts before w x c (k f w)

  pub onward : (parts : Parts) (before events : List MarkKind) (w : World) (x y : View) (a b c most : ℕ) (r : Result)
      → Leads setting a b events x y → ((p : ℕ) → stack ≤ p → p + 8 ≤ act.frame → word_in y.bytes p ≡ word_in x.bytes
      p) → b + c ≤ most → SimOf parts (before ++ events) w y c r → SimOf parts before w x most r
  onward parts before events w x y a b c most r p low le s = after plan body_steps act parts parts (λ v n h. h) before
      events w.state.store w.state.store x y a b c most r p low (omega arith) (omega arith) (omega (arith, le)) s

  pub comes_scratch : (parts : Parts) (x : View) (waiting : List MarkKind) (c : ℕ) (t : Store) (rest : List Item)
      (o : Outcome Store Value) → Comes setting parts is_free x waiting c t rest o
      → Comes setting parts is_scratch x waiting c t rest o
  comes_scratch parts x waiting c t rest (gives v u) s = let y = s.1 in (
    s.0,
    record {
      registers = y.registers;
      flags = y.flags;
      place = y.place;
      least = y.least;
      steps = y.steps;
      leads = y.leads;
      few = y.few;
      kept = free_scratch x.registers y.registers y.kept;
      value = y.value;
      ahead =
          y.ahead;
    },
  )
  comes_scratch parts x waiting c t rest (stops why u) s = s
  comes_scratch parts x waiting c t rest (spent u) s = absurd s

  -- ---- one operation

  -- what the operation's value is followed by
  abbrev pub next_of : (Frame → World → Result) → Frame → Value → World → Result
  next_of k f v w = k (record f { accumulator = Is v }) w

  module _ (k : Frame → World → Result) (c : ℕ) (rest : List Item) (K : Rest k c rest) (parts : Parts)
      (before waiting : List MarkKind) (f : Frame) (w : World) (x : View) (p : FrameOf parts f w x)
      (g : StoreOf parts w x) (marked : w.marks ≡ before ++ waiting) where
    yields_sim : (v : Value) (m : ℕ) → m ≤ 100 → Yields setting parts is_scratch x waiting m v rest
        → SimOf parts before w x (250 + c) (next_of k f v w)
    yields_sim v m le s =
        onward parts before waiting w x (moved_to x s.registers s.flags s.place) s.least s.steps c (250 + c) _ s.leads
        (λ a lo hi. refl) (let q = s.few in omega (arith, q, le))
        (K parts (before ++ waiting) [] (record f { accumulator = Is v }) w (moved_to x s.registers s.flags s.place)
        s.ahead (places_kept plan act parts w.state.store.charged f.places f.outgoing x.registers s.registers
        x.bytes s.kept p) g s.value (none_waits w.marks before waiting marked))

    -- an outcome over the store as it is
    pub comes_sim : (m : ℕ) (o : Outcome Store Value) → m ≤ 100
        → Comes setting parts is_scratch x waiting m w.state.store rest o
        → SimOf parts before w x (250 + c) (on_outcome w.marks (with_rest w.state.cells w.state.procedures o)
        (next_of k f))
    comes_sim m (gives v u) le s =
        subst (λ u. SimOf parts before w x (250 + c) (next_of k f v
        (record {
          state = record { cells = w.state.cells; store = u; procedures = w.state.procedures };
          marks =
              w.marks;
        }))) (sym s.0)
        (yields_sim v m le s.1)
    comes_sim m (stops why u) le s =
        subst (λ u. Ends plan body_steps before w.state.store x (250 + c) (status_of why)
        (record {
          state = record { cells = w.state.cells; store = u; procedures = w.state.procedures };
          marks =
              w.marks;
        })) (sym s.0)
        (stops_here plan body_steps laid before waiting x m (250 + c) why w s.1 g.printed marked (omega (arith, le)))
    comes_sim m (spent u) le s = absurd s

    -- an operand's value
    pub operand_sim : (n : ℕ) (o : Operand Place) → operand_selected words globals (length symbols) literals o ≡ true
        → Std waiting x.place (operand_code n o rest) → SimOf parts before w x (250 + c)
        (on_ending w.marks (operate (held f) (operation.Operand o) w.state) (next_of k f))
    operand_sim n o e h = by (operand_value (held f) w.state.store o)
        (operand_here plan act parts n o w.state.store.charged f w.state x waiting rest e p g h)
      where
        by : (v : Option Value) → Reads plan act parts x waiting 32 rest v
            → SimOf parts before w x (250 + c) (on_ending w.marks (when_some v (λ v. Some (gives v w.state)))
            (next_of k f))
        by None s = tt
        by (Some v) s = comes_sim 32 (gives v w.state.store) (omega arith)
            (comes_scratch parts x waiting 32 w.state.store rest (gives v w.state.store) (refl, s))

    -- ---- globals

    pub global_here : (i : ℕ) → i < globals → Std waiting x.place (global_code literals i rest)
        → Comes setting parts is_free x waiting 3 w.state.store rest (read_global i w.state.store)
    global_here i lt h = by (slice_get w.state.store.globals i) refl
      where
        n : ℕ
        n = word_in x.bytes (global_address literals i)

        y : View
        y = moved_to x (set_register x.registers 0 n) x.flags (x.place + h.0)

        z : View
        z = moved_to x y.registers (difference_of n 38).flags (y.place + h.4.0)

        first : Leads setting 2 2 waiting x z
        first = leads_on setting.marks (loads_data setting x 0 (global_address literals i)
            (item.Plain (CmpNumber (Reg 0) (pos 38)) ∷ (item.JumpIf E (stop_label Unset) ∷ rest)) waiting h
            (global_inside plan i x.bytes lt (heap_within plan act) g.size_is))
            (goes setting y z (CmpNumber (Reg 0) (pos 38)) h.4.0 [] h.4.1 refl)

        by : (o : Option (Option Value)) → slice_get w.state.store.globals i ≡ o
            → Comes setting parts is_free x waiting 3 w.state.store rest (set_or_stop o w.state.store)
        by None e = absurd (let m = g.count in not_past (slice_get w.state.store.globals i) e
            (get_there w.state.store.globals i (omega (arith, m, lt))))
        by (Some None) e =
            let is : n ≡ 38 = g.global i None e in (
              refl,
              record {
                registers = y.registers;
                flags = z.flags;
                least = 3;
                steps = 3;
                leads = leads_on setting.marks first (branches setting z E (stop_label Unset) rest [] true h.4.2
                    (compared_e n 38 (omega (arith, is)) (omega arith) ∙ ap Some (eq-eqb n 38 is)));
                few = omega arith;
              },
            )
        by (Some (Some v)) e =
            let hv : IsWord parts v n = g.global i (Some v) e in (
              refl,
              record {
                registers = y.registers;
                flags = z.flags;
                place = z.place + h.4.2.0;
                least = 3;
                steps = 3;
                leads = leads_on setting.marks first (branches setting z E (stop_label Unset) rest [] false h.4.2
                    (compared_e n 38 (fits parts v n hv) (omega arith) ∙ ap Some (unset_tested parts v n hv)));
                few = omega arith;
                kept = kept_set is_free x.registers 0 n refl;
                value = hv;
                ahead = h.4.2.4;
              },
            )

    -- a value into a global
    pub set_sim : (n i : ℕ) (o : Operand Place) → i < globals → operand_selected words globals (length symbols) literals o ≡ true
        → Std waiting x.place (set_global_code literals n i o rest)
        → SimOf parts before w x (250 + c) (on_ending w.marks (operate (held f) (operation.SetGlobal i o) w.state)
        (next_of k f))
    set_sim n i o lt e h = by (operand_value (held f) w.state.store o)
        (operand_here plan act parts n o w.state.store.charged f w.state x waiting behind e p g h)
      where
        behind : List Item
        behind = item.StoreWord (global_address literals i) 0 ∷ (item.Plain (MovNumber (Reg 0) (pos 30)) ∷ rest)

        by : (v : Option Value) → Reads plan act parts x waiting 32 behind v
            → SimOf parts before w x (250 + c) (on_ending w.marks
            (when_some v (λ v. Some (gives unspecified (record w.state
            { store = record w.state.store { globals = slice_set w.state.store.globals i (Some v) } })))) (next_of k f))
        by None s = tt
        by (Some v) s =
            let y = moved_to x s.registers s.flags s.place in
            let a = s.ahead in
            let z : View = record y {
              bytes = with_word x.bytes (global_address literals i) (s.registers 0);
              place = y.place +
                  a.0;
            } in
            let u : View = record z { registers = set_register s.registers 0 30; place = z.place + a.4.0 } in
            let w' : World = record w {
              state = record w.state {
                store = record w.state.store
                    { globals = slice_set w.state.store.globals i (Some v) };
              };
            } in
            let kept = kept_then is_scratch x.registers s.registers u.registers
            (free_scratch x.registers s.registers s.kept) (kept_set is_scratch s.registers 0 30 refl) in
            after plan body_steps act parts parts (λ v n h. h) before waiting w.state.store w'.state.store x u
            (s.least + 1 + 1) (s.steps + 1 + 1) c (250 + c) _
            (leads_on setting.marks (leads_on setting.marks s.leads
            (stores_data setting y 0 (global_address literals i) (item.Plain (MovNumber (Reg 0) (pos 30)) ∷ rest) [] a
            (global_inside plan i x.bytes lt (heap_within plan act) g.size_is)))
            (goes setting z u (MovNumber (Reg 0) (pos 30)) a.4.0 [] a.4.1 refl))
            (λ q lo hi. below_written plan act x.bytes i (s.registers 0) lt (heap_within plan act) g.size_is q lo)
            (omega arith) (omega arith) (let q = s.few in omega (arith, q))
            (K parts (before ++ waiting) [] (record f { accumulator = Is unspecified }) w' u a.4.2
            (places_written plan act parts w.state.store.charged f.places f.outgoing u.registers x.bytes i
            (s.registers 0) lt (heap_within plan act) g.size_is (places_kept plan act parts w.state.store.charged f.places
            f.outgoing x.registers u.registers x.bytes kept p))
            (global_written plan parts w.state i v (s.registers 0) x.bytes x.output x.answers lt (heap_within plan act) s.value g)
            refl (none_waits w.marks before waiting marked))

    -- ---- a put, whose value is in RAX

    pub put_sim : (n : ℕ) (v : Value) → IsWord parts v (x.registers 0) → Std waiting x.place (put_code n rest)
        → SimOf parts before w x (216 + c) (on_outcome w.marks
        (with_rest w.state.cells w.state.procedures (primitive prim.Put (v ∷ []) w.state.store)) (next_of k f))
    put_sim n v hv h = by_piece (piece v t) q
      where
        t : Store
        t = w.state.store

        y1 : View
        y1 = record x { registers = set_register x.registers 11 (setting.place_of n); place = x.place + h.0 }

        y2 : View
        y2 = record y1 { place = setting.place_of put_label }

        called : Leads setting 2 2 waiting x y2
        called = leads_on setting.marks (loads_label setting x 11 n
            (item.Jump put_label ∷ (item.Label n ∷ (item.Plain (MovNumber (Reg 0) (pos 30)) ∷ rest))) waiting h)
            (jumps setting y1 put_label (item.Label n ∷ (item.Plain (MovNumber (Reg 0) (pos 30)) ∷ rest)) [] h.4)

        ready : IsReady y2
        ready = let a = heap_above plan in let b = heap_within plan act in let e = g.size_is in let s = plan.small in record
            { own_words = omega (arith, a, b, e); within = omega (arith, e, s); back = plan.labels n }

        q : PutsPiece plan laid.routine y2 (piece v t)
        q = puts_value plan laid.routine parts w.state y2 ready (g.texts ∙ laid.static_is) (stack_within plan act) g v hv laid.put_stands

        far : heap + t.charged < 2 ^ 64
        far = let a = g.within in let b = act.room.low in let e = act.room.high in let s = plan.small in omega
            (arith, a, b, e, s)

        after_put : List ℕ → List Answer → World
        after_put taken left = record w {
          state = record w.state
              { store = record t { output = t.output ++ taken; answers = left } };
        }

        by_whole : (b : Bool) (taken : List ℕ) (left : List Answer)
            → PutEnds setting b y2 200 (x.output ++ taken) left
            → SimOf parts before w x (216 + c) (on_outcome w.marks
            (with_rest w.state.cells w.state.procedures (require b OutputFailed (gives unspecified)
            (record t { output = t.output ++ taken; answers = left }))) (next_of k f))
        by_whole true taken left s =
            let z = s.y in
            let hz : Std [] z.place (item.Plain (MovNumber (Reg 0) (pos 30)) ∷ rest) = subst
            (λ a. Std [] a (item.Plain (MovNumber (Reg 0) (pos 30)) ∷ rest)) (sym (s.at ∙ h.4.4.1)) h.4.4.2 in
            let u : View = record z { registers = set_register z.registers 0 30; place = z.place + hz.0 } in
            let w' = after_put taken left in
            let printed : z.output ≡ t.output ++ taken = s.output_is ∙ ap (λ l. l ++ taken) g.printed in
            let few = s.few in let many : length x.answers ≡ length t.answers = ap length g.left in
            let world : StoreAt plan parts w'.state z.bytes z.output z.answers =
            subst (λ o. StoreAt plan parts w'.state z.bytes o z.answers) (sym printed)
            (subst (λ l. StoreAt plan parts w'.state z.bytes (t.output ++ taken) l) (sym s.left_is)
            (store_behind plan parts w.state x.bytes z.bytes x.output (t.output ++ taken) x.answers left s.size
            s.others g)) in
            after plan body_steps act parts parts (λ v n h. h) before waiting t w'.state.store x u (2 + s.least + 1)
            (2 + s.most + 1) c (216 + c) _
            (leads_on setting.marks (leads_on setting.marks called s.leads)
            (goes setting z u (MovNumber (Reg 0) (pos 30)) hz.0 [] hz.1 refl))
            (λ a lo hi. let hl = heap_above plan in let sl = plan.stack_low in word_behind x.bytes z.bytes a s.others
            (omega (arith, lo, hl, sl)))
            (omega arith) (omega arith) (omega (arith, few, many))
            (K parts (before ++ waiting) [] (record f { accumulator = Is unspecified }) w' u hz.2
            (places_kept plan act parts t.charged f.places f.outgoing z.registers u.registers z.bytes
            (kept_set is_scratch z.registers 0 30 refl)
            (places_behind plan act parts t.charged f.places f.outgoing y2.registers z.registers x.bytes z.bytes far
            s.registers s.others
            (places_kept plan act parts t.charged f.places f.outgoing x.registers y2.registers x.bytes
            (kept_set is_scratch x.registers 11 (setting.place_of n) refl) p)))
            world refl (none_waits w.marks before waiting marked))
        by_whole false taken left s =
            let few = s.few in let many : length x.answers ≡ length t.answers = ap length g.left in
            record {
              last = s.last;
              events = waiting;
              least = 2 + s.least;
              steps = 2 + s.most;
              leads = leads_on setting.marks called s.leads;
              cost = omega (arith, few, many);
              exits = s.exits;
              output_is = s.output_is ∙ ap (λ l. l ++ taken) g.printed;
              marked = marked;
              silent = s.silent;
            }

        by_piece : (o : Option (List ℕ)) → PutsPiece plan laid.routine y2 o
            → SimOf parts before w x (216 + c) (on_outcome w.marks
            (with_rest w.state.cells w.state.procedures (put_piece o t)) (next_of k f))
        by_piece None s = stops_here plan body_steps laid before waiting x 202 (216 + c) WrongType w
            (halts_after setting x y2.registers y2.flags y2.place waiting 2 2 200 202 WrongType called (omega arith)
            s) g.printed marked (omega arith)
        by_piece (Some bytes) s =
            by_whole (put bytes t.answers).whole (put bytes t.answers).taken (put bytes t.answers).left
            (subst (λ l. PutEnds setting (put bytes l).whole y2 200 (x.output ++ (put bytes l).taken)
            (put bytes l).left) g.left s)
