-- The machine makes cells, reads them and sets them.
use Rattle.std.proofs.Common.{◌≡◌, ℕ, zero, suc, ◌+◌, ◌*◌, ◌<◌, ◌≤◌, List, [], ◌∷◌, ◌++◌, length, Bool, true}
use Rattle.std.proofs.Common.{false, Option, Some, None, refl, sym, ap, ◌∙◌, subst, arith, append-nil, ◌==◌, eq-eqb}
use Rattle.std.proofs.Common.{inr}
use Rattle.std.specs.Prelude.{pos, negsuc, not, nat_le, slice_get, slice_set}
use Rattle.std.proofs.lemmas.Bool.{leb-true, eqb-true}
use Rattle.sch_word.specs.declared.place.Place.{Place}
use Rattle.sch_word.specs.declared.stop.Stop.TheVariants.{HeapLimit, Unset}
use Rattle.sch_word.specs.values.Values.{Value, fixnum, character, boolean, nil, unspecified, symbol, object, procedure, cell}
use Rattle.sch_word.specs.runs.Store.{Store}
use Rattle.sch_word.specs.runs.Computation.{Outcome, gives, stops, State, on_value, require, with_rest, set_or_stop, read_cell, write_cell, with_cell}
use Rattle.sch_control.specs.declared.operation.Operand.{Operand}
use Rattle.sch_control.specs.declared.operation.Operation.TheVariants as operation
use Rattle.sch_control.specs.declared.operation.Source.{Source}
use Rattle.sch_control.specs.Operations.{operate, operand_value, source_value, new_cell}
use Rattle.sch_word.specs.runs.Procedures.{Procedure}
use Rattle.sch_word.specs.values.Options.{when_some}
use Rattle.sch_control.specs.Meaning.{World, Result, on_ending, on_outcome}
use Rattle.sch_frames.specs.Meaning.{Frame, Is, held}
use Rattle.sch_insn.specs.declared.condition.TheConstants.{E, NE}
use Rattle.sch_insn.specs.declared.insn.Arg.TheVariants.{Reg, Base32}
use Rattle.sch_insn.specs.declared.insn.Insn.TheVariants.{MovTo, MovFrom, MovNumber, AddNumber, CmpNumber}
use Rattle.sch_insn.specs.declared.state.Flags.{Flags}
use Rattle.sch_insn.specs.Machine.{set_register, sum_of, bits_of, difference_of, condition, add64, word}
use Rattle.sch_insn.proofs.Conditions.{compared_e, compared_ne}
use Rattle.sch_insn.proofs.Paths.{leads_on, leads_here}
use Rattle.sch_asm.specs.declared.item.Item.{Item}
use Rattle.sch_asm.specs.declared.item.Item.TheVariants as item
use Rattle.sch_word.specs.declared.mark.MarkKind.{MarkKind}
use Rattle.sch_word.proofs.facts.Lists.{get_there}
use Rattle.sch_asm.specs.declared.routine.Routine.TheVariants as routine
use Rattle.sch_asm.specs.Data.{Inside, word_in, with_word}
use Rattle.sch_asm.specs.Effects.{is_scratch}
use Rattle.sch_asm.specs.Views.{View, Leads, full}
use Rattle.sch_asm.proofs.EachItem.{goes, branches, loads_word, stores_word, stores_number}
use Rattle.sch_asm.proofs.Words.{word_same}
use Rattle.sch_select_memory.specs.Parts.{a_cell, Part, Parts, end_of, Spot, spot, grown}
use Rattle.sch_select_memory.specs.Encoded.{IsWord, IsHeld}
use Rattle.sch_select_memory.specs.Heap.{CellAt, AreNew}
use Rattle.sch_select_memory.proofs.heap.Spots.{spot_within, spot_newest}
use Rattle.sch_select_memory.proofs.heap.Encodings.{fits, is_cell, cell_tested, unset_tested}
use Rattle.sch_select_memory.proofs.heap.Contents.{words_stay, held_words, held_fits, cell_taken, cell_there}
use Rattle.sch_select_memory.specs.Addresses.{stop_label, part_operand}
use Rattle.sch_select_operations.specs.CellCode.{source_code, check_cell, cell_operand}
use Rattle.sch_select_operations.specs.ObjectCode.{check_heap, part_code}
use Rattle.sch_select_operations.specs.OperationCode.{operation_code}
use Rattle.sch_select_memory.proofs.Straight.{halts_after, Halts, Kept, kept_set, kept_then, moved_to}
use Rattle.sch_select_memory.proofs.Straight.{Masked, masked, tagged, by_7, is_one}
use Rattle.sch_select_memory.proofs.Places.{Plan, heap_above, Activation, StoreAt, PlacesAt, stack_within}
use Rattle.sch_select_memory.proofs.Places.{places_kept}
use Rattle.sch_select_operations.proofs.simulation.Operands.{Reads, operand_here, free_scratch}
use Rattle.sch_select_memory.proofs.HeapWrites.{one_cell, Wrote, other_word, wrote_one, store_wrote}
use Rattle.sch_select_memory.proofs.HeapWrites.{heap_inside, places_wrote, places_grown, store_grown}
use Rattle.sch_select_memory.proofs.HeapWrites.{cell_written, room_tested}
use Rattle.sch_select_operations.proofs.simulation.Sources.{Sources, source_here}
use Rattle.sch_select_operations.proofs.objects.HeapTests.{Tested, room_here}
use Rattle.sch_select_memory.proofs.simulation.Outcomes.{after, Laid, stops_here}
use Rattle.sch_select_operations.proofs.simulation.Operations.{Std, FrameOf, StoreOf, SimOf, Rest, next_of, onward}
use Rattle.sch_select_operations.proofs.simulation.Operations.{none_waits}
use Rattle.sch_select_operations.proofs.simulation.SelectedPrograms.{source_selected, operand_selected}

-- one register that is a scratch register
pub one_scratch : (r : ℕ) (registers registers' : ℕ → ℕ) → is_scratch r ≡ true → Kept (is_one r) registers registers'
    → Kept is_scratch registers registers'
one_scratch r registers registers' s k j e = k j (other (j == r) refl)
  where
    other : (b : Bool) → (j == r) ≡ b → (j == r) ≡ false
    other false i = i
    other true i = absurd (let same : j ≡ r = eqb-true j r i in let bad : true ≡ false = sym s
        ∙ ap is_scratch (sym same) ∙ e in cc)

module _ (plan : Plan) (body_steps : ℕ) (laid : Laid plan body_steps) (act : Activation plan) where
  open plan use {setting, size, words, literals, globals, symbols, closures, heap, stack, near}

  abbrev Here : List MarkKind → ℕ → List Item → Type 0
  Here waiting a is = Std plan body_steps laid act waiting a is

  abbrev In : Parts → Frame → World → View → Type 0
  In parts f w x = FrameOf plan body_steps laid act parts f w x

  abbrev At : Parts → World → View → Type 0
  At parts w x = StoreOf plan body_steps laid act parts w x

  abbrev Owed : Parts → List MarkKind → World → View → ℕ → Result → Type 0
  Owed parts before w x c r = SimOf plan body_steps laid act parts before w x c r

  abbrev Goes : (Frame → World → Result) → ℕ → List Item → Type 0
  Goes k c rest = Rest plan body_steps laid act k c rest

  -- ---- a new cell

  -- its contents are stored where the next part begins
  pub record Stores (parts : Parts) (contents : Option Value) (next : ℕ) (z : View) (rest : List Item) : Type 0 where
    pub value : ℕ
    pub place : ℕ
    pub leads : Leads setting 1 1 [] z (record z { bytes = with_word z.bytes next value; place = place })
    pub holds : IsHeld parts contents value
    pub ahead : Here [] place rest

  module _ (k : Frame → World → Result) (c : ℕ) (rest : List Item) (K : Goes k c rest) (parts : Parts)
      (before waiting : List MarkKind) (f : Frame) (w : World) (x : View) (p : In parts f w x) (g : At parts w x)
      (marked : w.marks ≡ before ++ waiting) where
    abbrev Next : Value → World → Result
    Next v w = next_of plan body_steps laid act k f v w

    abbrev next : ℕ
    next = heap + w.state.store.charged

    abbrev part : List Item
    part = part_code 7 16 rest

    make_cell : (contents : Option Value) (code : List Item → List Item)
        → Here waiting x.place (check_heap stack 16 (code part))
        → ((registers : ℕ → ℕ) → Kept (is_one 2) x.registers registers → (z : View) → z.registers ≡ registers
        → z.bytes ≡ x.bytes → Inside (length x.bytes) next → Here [] z.place (code part)
        → Stores parts contents next z part)
        → Owed parts before w x (30 + c) (on_outcome w.marks (new_cell contents w.state) Next)
    make_cell contents code h stores = by (nat_le (w.state.store.charged + 16) w.state.store.constants.heap) refl
        (subst (λ b. Tested plan b x waiting (code part))
        (room_tested plan parts w.state x.bytes x.output x.answers 16 g)
        (room_here plan next 16 x waiting (code part) p.free (let hl = plan.heap_low in let cl = plan.closures_low in omega (arith, hl, cl))
        g.within (omega arith) h))
      where
        t : Store
        t = w.state.store

        made : Bool → Outcome (State Procedure) Value
        made b = on_value (with_rest w.state.cells w.state.procedures
            (require b HeapLimit (λ u. gives unspecified (record u { charged = u.charged + 16 })) t))
            (λ _ s. gives (cell (length s.cells)) (record s { cells = s.cells ++ contents ∷ [] }))

        by : (b : Bool) → nat_le (t.charged + 16) t.constants.heap ≡ b
            → Tested plan b x waiting (code part)
            → Owed parts before w x (30 + c) (on_outcome w.marks (made b) Next)
        by false e s = stops_here plan body_steps laid before waiting x 4 (30 + c) HeapLimit w s g.printed marked
            (omega arith)
        by true e s =
            let z = moved_to x s.registers s.flags s.place in
            let enough : t.charged + 16 ≤ t.constants.heap = leb-true (t.charged + 16) t.constants.heap e in
            let lim = g.limit in let n = near in let hl = plan.heap_low in let cl = plan.closures_low in
            let fits_in : next + 16 ≤ stack = omega (arith, enough, lim) in
            let within : Inside (length x.bytes) next = heap_inside plan act next x.bytes g.size_is
            (omega (arith, hl)) (omega (arith, fits_in)) in
            let st = stores s.registers s.kept z refl refl within s.ahead in
            let a = st.ahead in
            let bytes = with_word x.bytes next st.value in
            let z1 : View = record z { bytes = bytes; place = st.place } in
            let u1 : View = record z1 {
              registers = set_register s.registers 0 (s.registers 12);
              place = st.place +
                  a.0;
            } in
            let s1 = sum_of (s.registers 12) 7 in
            let u2 : View = record u1 {
              registers = set_register u1.registers 0 s1.value;
              flags = s1.flags;
              place =
                  u1.place + a.2.0;
            } in
            let s2 = sum_of (s.registers 12) 16 in
            let u3 : View = record u2 {
              registers = set_register u2.registers 12 s2.value;
              flags = s2.flags;
              place =
                  u2.place + a.2.2.0;
            } in
            let others : List Part = record { owner = a_cell (length w.state.cells); more = 0 } ∷ [] in
            let parts' = grown parts others in
            let at : Spot = record { unit = end_of parts; more = 0 } in
            let there : spot parts' (a_cell (length w.state.cells)) ≡ Some at = spot_newest parts
            (a_cell (length w.state.cells)) 0 [] (g.new.cell (length w.state.cells) (omega arith)) in
            let ends = g.ends in
            let same : s.registers 12 ≡ next = s.kept 12 refl ∙ p.free in
            let wrote : Wrote next (next + 16) x.bytes bytes = wrote_one next (next + 16) next st.value x.bytes within
            (omega arith) (omega arith) in
            let unit : 16 * end_of parts ≡ next = ends in
            let written : word_in bytes (16 * end_of parts) ≡ st.value = ap (word_in bytes) unit
            ∙ word_same x.bytes next st.value within (held_fits parts contents st.value st.holds) in
            let w' : World = record {
              state = record {
                cells = w.state.cells ++ contents ∷ [];
                store = record t
                    { charged = t.charged + 16 };
                procedures = w.state.procedures;
              };
              marks = w.marks;
            } in
            let cells_at : (i : ℕ) (q : Option Value) → slice_get (contents ∷ []) i ≡ Some q
            → CellAt parts' bytes (length w.state.cells + i) q = λ i q. cell_at at there bytes st.value written
            st.holds i q in
            let new = cell_taken parts (length w.state.cells) (length w.state.procedures) 0 g.new in
            let g1 = store_wrote plan parts w.state x.bytes bytes x.output x.answers next (next + 16) (omega arith)
            fits_in wrote g in
            let one : suc (length w.state.cells) ≡ length w.state.cells + 1 = omega arith in
            let none : length w.state.procedures ≡ length w.state.procedures + 0 = omega arith in
            let g2 = store_grown plan parts others w.state bytes x.output x.answers 16 refl (omega (arith, fits_in))
            (one_cell (length w.state.cells) 0) g1 (contents ∷ []) [] cells_at
            (λ i q e. absurd (let bad : None ≡ Some q = e in cc))
            (subst (λ m. AreNew parts' m (length w.state.procedures + 0)) one
            (subst (AreNew parts' (suc (length w.state.cells))) none new)) in
            let g' : At parts' w' u3 = subst (λ ps. StoreAt plan parts'
            (record {
              cells = w.state.cells ++ contents ∷ [];
              store = record t { charged = t.charged + 16 };
              procedures = ps;
            }) bytes x.output x.answers) (append-nil w.state.procedures) g2 in
            let free : s2.value ≡ heap + (t.charged + 16) = omega (arith, same, fits_in, n) in
            let kept = kept_then is_scratch x.registers s.registers u2.registers
            (one_scratch 2 x.registers s.registers refl s.kept)
            (kept_then is_scratch s.registers u1.registers u2.registers
            (kept_set is_scratch s.registers 0 (s.registers 12) refl)
            (kept_set is_scratch u1.registers 0 s1.value refl)) in
            let p1 = places_kept plan act parts t.charged f.places f.outgoing x.registers u2.registers x.bytes kept p in
            let p2 = places_wrote plan act parts t.charged f.places f.outgoing u2.registers x.bytes bytes next
            (next + 16) fits_in wrote p1 in
            let p' : In parts' f w' u3 = places_grown plan act parts parts' (words_stay parts others) t.charged
            (t.charged + 16) f.places f.outgoing u2.registers u3.registers bytes
            (λ j i. kept_set (is_one 12) u2.registers 12 s2.value refl j i) free p2 in
            let named : IsWord parts' (cell (length w.state.cells)) (u3.registers 0) = record {
              at = at;
              there = there;
              is = omega (arith, same, unit, fits_in, n);
              fits = omega
                  (arith, same, fits_in, n);
            } in
            after plan body_steps act parts parts' (words_stay parts others) before waiting t w'.state.store x u3 8 8
            c (30 + c) _
            (leads_on setting.marks (leads_on setting.marks (leads_on setting.marks
            (leads_on setting.marks s.leads st.leads) (goes setting z1 u1 (MovTo (Reg 0) 12) a.0 [] a.1 refl))
            (goes setting u1 u2 (AddNumber (Reg 0) (pos 7)) a.2.0 [] a.2.1 refl))
            (goes setting u2 u3 (AddNumber (Reg 12) (pos 16)) a.2.2.0 [] a.2.2.1 refl))
            (λ q lo hi. other_word next (next + 16) x.bytes bytes wrote q (omega (arith, lo, hl, cl, fits_in))
            (inr (omega (arith, lo, fits_in))))
            (omega arith) (omega arith) (omega arith)
            (K parts' (before ++ waiting) [] (record f { accumulator = Is (cell (length w.state.cells)) }) w' u3
            a.2.2.2 p' g' named (none_waits w.marks before waiting marked))
          where
            cell_at : (at : Spot) → spot
                (grown parts (record { owner = a_cell (length w.state.cells); more = 0 } ∷ []))
                (a_cell (length w.state.cells)) ≡ Some at → (bytes : List ℕ) (v : ℕ)
                → word_in bytes (16 * at.unit) ≡ v → IsHeld parts contents v → (i : ℕ) (q : Option Value)
                → slice_get (contents ∷ []) i ≡ Some q → CellAt (grown parts
                (record { owner = a_cell (length w.state.cells); more = 0 } ∷ [])) bytes (length w.state.cells + i) q
            cell_at at there bytes v written holds zero q e =
                let is : contents ≡ q = cc in
                let z : length w.state.cells ≡ length w.state.cells + 0 = omega arith in
                let others : List Part = record { owner = a_cell (length w.state.cells); more = 0 } ∷ [] in
                record {
                  at = at;
                  there = ap (λ n. spot (grown parts others) (a_cell n)) (sym z) ∙ there;
                  holds = subst (λ q. IsHeld (grown parts others) q (word_in bytes (16 * at.unit))) is
                      (subst (IsHeld (grown parts others) contents) (sym written)
                      (held_words parts (grown parts others) (words_stay parts others) contents v holds));
                }
            cell_at at there bytes v written holds (suc i) q e = absurd (let bad : None ≡ Some q = e in cc)

  -- ---- cells

  module _ (k : Frame → World → Result) (c : ℕ) (rest : List Item) (K : Goes k c rest) (parts : Parts)
      (before waiting : List MarkKind) (f : Frame) (w : World) (x : View) (p : In parts f w x) (g : At parts w x)
      (marked : w.marks ≡ before ++ waiting) where
    abbrev After : Value → World → Result
    After v w = next_of plan body_steps laid act k f v w

    abbrev Found : ℕ → View → List MarkKind → List Item → Option Value → Type 0
    Found r y waiting rest o = Sources plan act parts parts (λ o at e. e) r y waiting rest o

    -- a cell with a value
    pub new_cell_sim : (n : ℕ) (q : Source Place) → source_selected words globals (length symbols) literals q ≡ true
        → Here waiting x.place (operation_code stack literals n (operation.NewCell q) rest)
        → Owed parts before w x (250 + c) (on_ending w.marks (operate (held f) (operation.NewCell q) w.state) After)
    new_cell_sim n q e h = by (source_value (held f) w.state q)
        (source_here plan act parts parts (λ o at e. e) 0 q w.state.store.charged f w.state x waiting code (omega arith)
        e p g h)
      where
        code : List Item
        code = check_heap stack 16 (item.Plain (MovTo (part_operand 0) 0) ∷ part_code 7 16 rest)

        by : (o : Option Value) → Found 0 x waiting code o → Owed parts before w x (250 + c)
            (on_ending w.marks (when_some o (λ v. Some (new_cell (Some v) w.state))) After)
        by None s = tt
        by (Some v) s =
            let y = moved_to x s.registers x.flags s.place in
            onward plan body_steps laid act parts before waiting w x y s.least s.steps (30 + c) (250 + c) _ s.leads
            (λ a lo hi. refl) (let q = s.few in omega (arith, q))
            (make_cell k c rest K parts (before ++ waiting) [] f w y
            (places_kept plan act parts w.state.store.charged f.places f.outgoing x.registers s.registers x.bytes
            (one_scratch 0 x.registers s.registers refl s.kept) p) g
            (none_waits w.marks before waiting marked)
            (Some v) (λ rest. item.Plain (MovTo (part_operand 0) 0) ∷ rest) s.ahead (stored y s.kept v s.value))
          where
            stored : (y : View) → Kept (is_one 0) x.registers y.registers → (v : Value)
                → IsWord parts v (y.registers 0) → (registers : ℕ → ℕ) → Kept (is_one 2) y.registers registers
                → (z : View) → z.registers ≡ registers → z.bytes ≡ x.bytes
                → Inside (length x.bytes) (heap + w.state.store.charged)
                → Here [] z.place (item.Plain (MovTo (part_operand 0) 0) ∷ part_code 7 16 rest)
                → Stores parts (Some v) (heap + w.state.store.charged) z (part_code 7 16 rest)
            stored y k0 v hv registers k2 z r b within h =
                let same : z.registers 0 ≡ y.registers 0 = ap (λ r. r 0) r ∙ k2 0 refl in
                let at : z.registers 12 ≡ heap + w.state.store.charged = ap (λ r. r 12) r ∙ k2 12 refl ∙ k0 12 refl
                ∙ p.free in
                let i = g.within in let n = near in let hl = plan.heap_low in
                record {
                  value = z.registers 0;
                  place = z.place + h.0;
                  leads = stores_word setting z 0 h.0 (heap + w.state.store.charged) (Base32 12 (pos 0)) [] h.1
                      (omega (arith, at, i, n)) (subst (λ b. Inside (length b) (heap + w.state.store.charged)) (sym b)
                      within);
                  holds = subst (IsWord parts v) (sym same) hv;
                  ahead = h.2;
                }

    -- a cell without one
    pub unset_cell_sim : (n : ℕ) → Here waiting x.place (operation_code stack literals n operation.UnsetCell rest)
        → Owed parts before w x (250 + c) (on_ending w.marks (operate (held f) operation.UnsetCell w.state) After)
    unset_cell_sim n h =
        onward plan body_steps laid act parts before [] w x x 0 0 (30 + c) (250 + c) _
        (leads_here setting.marks (full setting x)) (λ a lo hi. refl) (omega arith)
        (subst (λ l. Owed parts l w x (30 + c) (on_outcome w.marks (new_cell None w.state) After))
        (sym (append-nil before))
        (make_cell k c rest K parts before waiting f w x p g marked None
        (λ rest. item.Plain (MovNumber (part_operand 0) (pos 38)) ∷ rest) h stored))
      where
        stored : (registers : ℕ → ℕ) → Kept (is_one 2) x.registers registers → (z : View) → z.registers ≡ registers
            → z.bytes ≡ x.bytes → Inside (length x.bytes) (heap + w.state.store.charged)
            → Here [] z.place (item.Plain (MovNumber (part_operand 0) (pos 38)) ∷ part_code 7 16 rest)
            → Stores parts None (heap + w.state.store.charged) z (part_code 7 16 rest)
        stored registers k2 z r b within h =
            let at : z.registers 12 ≡ heap + w.state.store.charged = ap (λ r. r 12) r ∙ k2 12 refl ∙ p.free in
            let i = g.within in let n = near in
            record {
              value = 38;
              place = z.place + h.0;
              leads = stores_number setting z (pos 38) h.0 (heap + w.state.store.charged) (Base32 12 (pos 0)) [] h.1
                  (omega (arith, at, i, n)) (subst (λ b. Inside (length b) (heap + w.state.store.charged)) (sym b)
                  within);
              holds = refl;
              ahead = h.2;
            }

    -- a field of a closure
    pub field_sim : (n : ℕ) (q : Source Place) → source_selected words globals (length symbols) literals q ≡ true
        → Here waiting x.place (source_code 0 q rest) → Owed parts before w x (250 + c)
        (on_ending w.marks (when_some (source_value (held f) w.state q) (λ u. Some (gives u w.state))) After)
    field_sim n q e h = by (source_value (held f) w.state q)
        (source_here plan act parts parts (λ o at e. e) 0 q w.state.store.charged f w.state x waiting rest
        (omega arith) e p g h)
      where
        by : (o : Option Value) → Found 0 x waiting rest o → Owed parts before w x (250 + c)
            (on_ending w.marks (when_some o (λ u. Some (gives u w.state))) After)
        by None s = tt
        by (Some v) s =
            let y = moved_to x s.registers x.flags s.place in
            onward plan body_steps laid act parts before waiting w x y s.least s.steps c (250 + c) _ s.leads
            (λ a lo hi. refl) (let q = s.few in omega (arith, q))
            (K parts (before ++ waiting) [] (record f { accumulator = Is v }) w y s.ahead
            (places_kept plan act parts w.state.store.charged f.places f.outgoing x.registers s.registers x.bytes
            (one_scratch 0 x.registers s.registers refl s.kept) p) g s.value
            (none_waits w.marks before waiting marked))

    -- ---- a cell that a register has

    -- a cell's word is at the address that the operand names
    record IsThere (n r : ℕ) (y : View) : Type 0 where
      at : Spot
      there : spot parts (a_cell n) ≡ Some at
      contents : Option Value
      is : slice_get w.state.cells n ≡ Some contents
      holds : IsHeld parts contents (word_in y.bytes (16 * at.unit))
      named : add64 (y.registers r) (word (negsuc 6)) ≡ 16 * at.unit
      inside : Inside (length y.bytes) (16 * at.unit)
      below : 16 * at.unit + 8 ≤ stack
      few : n < length w.state.cells

    cell_here : (n r : ℕ) (y : View) → At parts w y → IsWord parts (cell n) (y.registers r) → IsThere n r y
    cell_here n r y g h = by (get_there w.state.cells n lt)
      where
        lt : n < length w.state.cells
        lt = cell_there parts (length w.state.cells) (length w.state.procedures) n h.at g.new h.there

        by : (o : Option Value) × (slice_get w.state.cells n ≡ Some o) → IsThere n r y
        by q =
            let cl = g.contents.cell n q.0 q.1 in
            let e : Some h.at ≡ Some cl.at = sym h.there ∙ cl.there in
            let same : h.at ≡ cl.at = cc in
            let v : y.registers r ≡ 16 * cl.at.unit + 7 = h.is ∙ ap (λ s. 16 * s.unit + 7) same in
            let inside = spot_within parts (a_cell n) cl.at cl.there in
            let lo = inside.0 in let hi = inside.1 in let b = g.begins in let z = g.ends in let i = g.within in let
            m = near in
            record {
              at = cl.at;
              there = cl.there;
              contents = q.0;
              is = q.1;
              holds = cl.holds;
              named = omega (arith, v, hi, z, i, m);
              inside = heap_inside plan act (16 * cl.at.unit) y.bytes g.size_is (omega (arith, lo, b))
                  (omega (arith, hi, z, i));
              below = omega (arith, hi, z, i);
              few = lt;
            }

    -- what a register has is tested for a cell
    record IsCell (r : ℕ) (y : View) (waits : List MarkKind) (following : List Item) : Type 0 where
      registers : ℕ → ℕ
      flags : Flags
      place : ℕ
      leads : Leads setting 4 4 waits y (moved_to y registers flags place)
      kept : Kept (is_one 2) y.registers registers
      ahead : Here [] place following

    abbrev Checked : Bool → ℕ → View → List MarkKind → List Item → Type 0
    Checked true r y waits following = IsCell r y waits following
    Checked false r y waits following = Halts setting y waits 4 Unset

    cell_checked : (r : ℕ) (v : Value) (y : View) (waits : List MarkKind) (following : List Item)
        → IsWord parts v (y.registers r) → Here waits y.place (check_cell r following)
        → Checked (is_cell v) r y waits following
    cell_checked r v y waits following hv h = by (is_cell v) refl
      where
        m : Masked setting y r 8 waits (item.Plain (CmpNumber (Reg 2) (pos 7)) ∷
            (item.JumpIf NE (stop_label Unset) ∷ following))
        m = masked setting y r 7 8 waits (item.Plain (CmpNumber (Reg 2) (pos 7)) ∷
            (item.JumpIf NE (stop_label Unset) ∷ following)) by_7 h

        z1 : View
        z1 = tagged setting y r m.tag (bits_of m.tag).flags m.place

        z : View
        z = tagged setting y r m.tag (difference_of m.tag 7).flags (m.place + m.ahead.0)

        first : Leads setting 3 3 waits y z
        first = leads_on setting.marks m.leads (goes setting z1 z (CmpNumber (Reg 2) (pos 7)) m.ahead.0 [] m.ahead.1
            refl)

        at : (b : Bool) → is_cell v ≡ b → condition z.flags NE ≡ Some (not b)
        at b e = compared_ne m.tag 7 (let i = m.tag_is in omega (arith, i)) (omega arith)
            ∙ ap (λ k. Some (not (k == 7))) m.tag_is ∙ ap (λ b. Some (not b))
            (cell_tested parts v (y.registers r) hv ∙ e)

        kept : Kept (is_one 2) y.registers z.registers
        kept = kept_then (is_one 2) y.registers (set_register y.registers 2 (y.registers r)) z.registers
            (kept_set (is_one 2) y.registers 2 (y.registers r) refl)
            (kept_set (is_one 2) (set_register y.registers 2 (y.registers r)) 2 m.tag refl)

        by : (b : Bool) → is_cell v ≡ b → Checked b r y waits following
        by true e = record {
          registers = z.registers;
          flags = z.flags;
          place = z.place + m.ahead.2.0;
          leads = leads_on
              setting.marks first (branches setting z NE (stop_label Unset) following [] false m.ahead.2 (at true e));
          kept = kept;
          ahead = m.ahead.2.4;
        }
        by false e = record {
          registers = z.registers;
          flags = z.flags;
          least = 4;
          steps = 4;
          leads = leads_on
              setting.marks first (branches setting z NE (stop_label Unset) following [] true m.ahead.2 (at false e));
          few = omega arith;
        }

    -- a cell is read
    pub cell_get_sim : (n : ℕ) (q : Source Place) → source_selected words globals (length symbols) literals q ≡ true
        → Here waiting x.place (operation_code stack literals n (operation.CellGet q) rest)
        → Owed parts before w x (250 + c) (on_ending w.marks (operate (held f) (operation.CellGet q) w.state) After)
    cell_get_sim n q e h = by (source_value (held f) w.state q)
        (source_here plan act parts parts (λ o at e. e) 0 q w.state.store.charged f w.state x waiting code (omega arith)
        e p g h)
      where
        read : List Item
        read = item.Plain (MovFrom 0 (cell_operand 0)) ∷ (item.Plain (CmpNumber (Reg 0) (pos 38)) ∷
            (item.JumpIf E (stop_label Unset) ∷ rest))

        code : List Item
        code = check_cell 0 read

        -- the cell is there
        reads : (m : ℕ) (y : View) (events : List MarkKind) (a b : ℕ) → b ≤ 6 → Leads setting a b events x y
            → y.bytes ≡ x.bytes → y.output ≡ x.output → y.answers ≡ x.answers
            → Kept is_scratch x.registers y.registers → IsWord parts (cell m) (y.registers 0) → events ≡ waiting
            → Here [] y.place read → Owed parts before w x (250 + c) (on_outcome w.marks (read_cell m w.state) After)
        reads m y events a b le l eb eo ea kept hv same st = at
            (cell_here m 0 y (subst (λ bytes. StoreAt plan parts w.state bytes y.output y.answers) (sym eb)
            (subst (λ o. StoreAt plan parts w.state x.bytes o y.answers) (sym eo)
            (subst (StoreAt plan parts w.state x.bytes x.output) (sym ea) g))) hv)
          where
            at : IsThere m 0 y → Owed parts before w x (250 + c) (on_outcome w.marks (read_cell m w.state) After)
            at i = subst (λ o. Owed parts before w x (250 + c) (on_outcome w.marks (set_or_stop o w.state) After))
                (sym i.is) (by_contents i.contents i.holds)
              where
                a0 : ℕ
                a0 = 16 * i.at.unit

                v : ℕ
                v = word_in y.bytes a0

                y1 : View
                y1 = record y { registers = set_register y.registers 0 v; place = y.place + st.0 }

                y2 : View
                y2 = record y1 { flags = (difference_of v 38).flags; place = y1.place + st.2.0 }

                first : Leads setting (a + 1 + 1) (b + 1 + 1) waiting x y2
                first = subst (λ e. Leads setting (a + 1 + 1) (b + 1 + 1) e x y2) same
                    (leads_on setting.marks (leads_on setting.marks l (loads_word setting y 0 st.0 a0
                    (Base32 0 (negsuc 6)) [] st.1 i.named i.inside)) (goes setting y1 y2 (CmpNumber (Reg 0) (pos 38))
                    st.2.0 [] st.2.1 refl))

                by_contents : (o : Option Value) → IsHeld parts o v
                    → Owed parts before w x (250 + c) (on_outcome w.marks (set_or_stop (Some o) w.state) After)
                by_contents None hv =
                    let u = record y2 { place = setting.place_of (stop_label Unset) } in
                    let r = laid.routine (routine.Stop Unset) u refl in
                    let k1 : Leads setting (a + 1 + 1 + 1) (b + 1 + 1 + 1) waiting x u = leads_on setting.marks first
                    (branches setting y2 E (stop_label Unset) rest [] true st.2.2
                    (compared_e v 38 (omega (arith, hv)) (omega arith) ∙ ap Some (eq-eqb v 38 hv))) in
                    record {
                      last = r.last;
                      events = waiting;
                      least = a + 1 + 1 + 1 + r.least;
                      steps = b + 1 + 1 + 1 + r.most;
                      leads = leads_on setting.marks k1 r.leads;
                      cost = (let q = r.few in let m = ap length ea in omega (arith, q, le, m));
                      exits = r.exits;
                      output_is = r.output_is ∙ eo ∙ g.printed;
                      marked = marked;
                      silent = r.silent;
                    }
                by_contents (Some u) hv =
                    let z = record y2 { place = y2.place + st.2.2.0 } in
                    let kz = kept_then is_scratch x.registers y.registers z.registers kept
                    (kept_set is_scratch y.registers 0 v refl) in
                    let gz : StoreAt plan parts w.state y.bytes y.output y.answers = subst
                    (λ bytes. StoreAt plan parts w.state bytes y.output y.answers) (sym eb)
                    (subst (λ o. StoreAt plan parts w.state x.bytes o y.answers) (sym eo)
                    (subst (StoreAt plan parts w.state x.bytes x.output) (sym ea) g)) in
                    onward plan body_steps laid act parts before waiting w x z (a + 1 + 1 + 1) (b + 1 + 1 + 1) c
                    (250 + c) _
                    (leads_on setting.marks first (branches setting y2 E (stop_label Unset) rest [] false st.2.2
                    (compared_e v 38 (fits parts u v hv) (omega arith) ∙ ap Some (unset_tested parts u v hv))))
                    (λ q lo hi. ap (λ bytes. word_in bytes q) eb) (omega (arith, le))
                    (K parts (before ++ waiting) [] (record f { accumulator = Is u }) w z st.2.2.4
                    (subst (λ bytes. PlacesAt plan act parts w.state.store.charged f.places f.outgoing z.registers
                    bytes) (sym eb) (places_kept plan act parts w.state.store.charged f.places f.outgoing
                    x.registers z.registers x.bytes kz p)) gz hv (none_waits w.marks before waiting
                    marked))

        by : (o : Option Value) → Found 0 x waiting code o → Owed parts before w x (250 + c)
            (on_ending w.marks (when_some o (λ v. Some (with_cell v read_cell w.state))) After)
        by None s = tt
        by (Some v) s = tested_as v s.value (cell_checked 0 v y [] read s.value s.ahead)
          where
            y : View
            y = moved_to x s.registers x.flags s.place

            stopped : Halts setting y [] 4 Unset → Owed parts before w x (250 + c) (Some (stops Unset w))
            stopped r = stops_here plan body_steps laid before waiting x 6 (250 + c) Unset w
                (halts_after setting x s.registers x.flags s.place waiting s.least s.steps 4 6 Unset s.leads
                (let q = s.few in omega (arith, q)) r) g.printed marked (omega arith)

            tested_as : (v : Value) → IsWord parts v (s.registers 0) → Checked (is_cell v) 0 y [] read
                → Owed parts before w x (250 + c) (on_outcome w.marks (with_cell v read_cell w.state) After)
            tested_as (cell m) hv r =
                let z = moved_to x r.registers r.flags r.place in
                let q = s.few in
                reads m z waiting (s.least + 4) (s.steps + 4) (omega (arith, q))
                (leads_on setting.marks s.leads r.leads) refl refl refl
                (kept_then is_scratch x.registers s.registers r.registers
                (one_scratch 0 x.registers s.registers refl s.kept)
                (one_scratch 2 s.registers r.registers refl r.kept))
                (subst (IsWord parts (cell m)) (sym (r.kept 0 refl)) hv) refl r.ahead
            tested_as (fixnum m) hv r = stopped r
            tested_as (character m) hv r = stopped r
            tested_as (boolean m) hv r = stopped r
            tested_as nil hv r = stopped r
            tested_as unspecified hv r = stopped r
            tested_as (symbol m) hv r = stopped r
            tested_as (object m) hv r = stopped r
            tested_as (procedure m) hv r = stopped r

    -- a cell is set
    pub cell_set_sim : (n : ℕ) (q : Source Place) (o : Operand Place) → source_selected words globals
        (length symbols) literals q ≡ true
        → operand_selected words globals (length symbols) literals o ≡ true → Here waiting x.place
        (operation_code stack literals n (operation.CellSet q o) rest)
        → Owed parts before w x (250 + c) (on_ending w.marks (operate (held f) (operation.CellSet q o) w.state) After)
    cell_set_sim n q o e e' h = by_operand (operand_value (held f) w.state.store o)
        (operand_here plan act parts n o w.state.store.charged f w.state x waiting (source_code 1 q code) e' p g h)
      where
        write : List Item
        write = item.Plain (MovTo (cell_operand 1) 0) ∷ (item.Plain (MovNumber (Reg 0) (pos 30)) ∷ rest)

        code : List Item
        code = check_cell 1 write

        set : Option Value → Option Value → Result
        set a b = on_ending w.marks
            (when_some a (λ v. when_some b (λ u. Some (with_cell v (λ n. write_cell n u) w.state)))) After

        none : (a : Option Value) → Owed parts before w x (250 + c) (set a None)
        none None = tt
        none (Some v) = tt

        by_operand : (b : Option Value) → Reads plan act parts x waiting 32 (source_code 1 q code) b
            → Owed parts before w x (250 + c) (set (source_value (held f) w.state q) b)
        by_operand None s = none (source_value (held f) w.state q)
        by_operand (Some u) s = by_source (source_value (held f) w.state q)
            (source_here plan act parts parts (λ o at e. e) 1 q w.state.store.charged f w.state y [] code
            (omega arith) e
            (places_kept plan act parts w.state.store.charged f.places f.outgoing x.registers s.registers x.bytes
            (free_scratch x.registers s.registers s.kept) p) g s.ahead)
          where
            y : View
            y = moved_to x s.registers s.flags s.place

            by_source : (a : Option Value) → Found 1 y [] code a → Owed parts before w x (250 + c) (set a (Some u))
            by_source None r = tt
            by_source (Some v) r = tested_as v r.value (cell_checked 1 v z [] write r.value r.ahead)
              where
                z : View
                z = moved_to x r.registers s.flags r.place

                reach : Leads setting (s.least + r.least) (s.steps + r.steps) waiting x z
                reach = leads_on setting.marks s.leads r.leads

                stopped : Halts setting z [] 4 Unset → Owed parts before w x (250 + c) (Some (stops Unset w))
                stopped i = stops_here plan body_steps laid before waiting x 40 (250 + c) Unset w
                    (halts_after setting x r.registers s.flags r.place waiting (s.least + r.least) (s.steps + r.steps)
                    4 40 Unset reach (let a = s.few in let b = r.few in omega (arith, a, b)) i) g.printed marked
                    (omega arith)

                tested_as : (v : Value) → IsWord parts v (r.registers 1) → Checked (is_cell v) 1 z [] write
                    → Owed parts before w x (250 + c) (on_outcome w.marks (with_cell v (λ n. write_cell n u) w.state)
                    After)
                tested_as (cell m) hv i =
                    let z1 = moved_to x i.registers i.flags i.place in
                    let named = subst (IsWord parts (cell m)) (sym (i.kept 1 refl)) hv in
                    let there = cell_here m 1 z1 g named in
                    let a0 = 16 * there.at.unit in
                    let value : IsWord parts u (i.registers 0) = subst (IsWord parts u)
                    (sym (i.kept 0 refl ∙ r.kept 0 refl)) s.value in
                    let bytes = with_word x.bytes a0 (i.registers 0) in
                    let z2 : View = record z1 { bytes = bytes; place = z1.place + i.ahead.0 } in
                    let z3 : View = record z2 {
                      registers = set_register i.registers 0 30;
                      place = z2.place +
                          i.ahead.2.0;
                    } in
                    let w' : World = record w {
                      state = record w.state { cells = slice_set w.state.cells m (Some u) };
                    } in
                    let kept = kept_then is_scratch x.registers s.registers z3.registers
                    (free_scratch x.registers s.registers s.kept)
                    (kept_then is_scratch s.registers r.registers z3.registers
                    (one_scratch 1 s.registers r.registers refl r.kept)
                    (kept_then is_scratch r.registers i.registers z3.registers
                    (one_scratch 2 r.registers i.registers refl i.kept)
                    (kept_set is_scratch i.registers 0 30 refl))) in
                    let wrote : Wrote a0 (a0 + 8) x.bytes bytes = wrote_one a0 (a0 + 8) a0 (i.registers 0) x.bytes
                    there.inside (omega arith) (omega arith) in
                    let sa = s.few in let ra = r.few in let be = there.below in
                    after plan body_steps act parts parts (λ v n h. h) before waiting w.state.store w'.state.store x
                    z3 (s.least + r.least + 4 + 1 + 1) (s.steps + r.steps + 4 + 1 + 1) c (250 + c) _
                    (leads_on setting.marks (leads_on setting.marks (leads_on setting.marks reach i.leads)
                    (stores_word setting z1 0 i.ahead.0 a0 (Base32 1 (negsuc 6)) [] i.ahead.1 there.named
                    there.inside)) (goes setting z2 z3 (MovNumber (Reg 0) (pos 30)) i.ahead.2.0 [] i.ahead.2.1
                    refl))
                    (λ a lo hi. let st = plan.stack_low in let hl = heap_above plan in
                    other_word a0 (a0 + 8) x.bytes bytes wrote a
                    (omega (arith, lo, st, hl)) (inr (omega (arith, lo, be))))
                    (omega arith) (omega arith) (omega (arith, sa, ra))
                    (K parts (before ++ waiting) [] (record f { accumulator = Is unspecified }) w' z3 i.ahead.2.2
                    (places_wrote plan act parts w.state.store.charged f.places f.outgoing z3.registers x.bytes bytes
                    a0 (a0 + 8) be wrote (places_kept plan act parts w.state.store.charged f.places f.outgoing
                    x.registers z3.registers x.bytes kept p))
                    (cell_written plan parts w.state x.bytes x.output x.answers m u there.at (i.registers 0) there.few
                    there.there value (stack_within plan act) g)
                    refl (none_waits w.marks before waiting marked))
                tested_as (fixnum m) hv i = stopped i
                tested_as (character m) hv i = stopped i
                tested_as (boolean m) hv i = stopped i
                tested_as nil hv i = stopped i
                tested_as unspecified hv i = stopped i
                tested_as (symbol m) hv i = stopped i
                tested_as (object m) hv i = stopped i
                tested_as (procedure m) hv i = stopped i
