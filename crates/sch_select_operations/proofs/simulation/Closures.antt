-- The machine makes closures: one, and a group that know one another.
use Rattle.std.proofs.Common.{◌≡◌, ℕ, zero, suc, ◌+◌, ◌-◌, ◌*◌, ◌^◌, ◌<◌, ◌≤◌, List, [], ◌∷◌, ◌++◌, length, map, Bool}
use Rattle.std.proofs.Common.{true, false, cond, Option, Some, None, refl, sym, ap, ◌∙◌, subst, arith, append-nil, append_assoc}
use Rattle.std.proofs.Common.{inr, add-one}
use Rattle.std.proofs.Math.Nat.{le_refl}
use Rattle.std.proofs.lemmas.Option.{none-some}
use Rattle.std.specs.Prelude.{pos, nat_le, slice_get, ◌&&◌}
use Rattle.std.specs.List.{list_all}
use Rattle.std.proofs.lemmas.Bool.{and_parts, leb-true, le-leb}
use Rattle.std.proofs.lemmas.Bool.Decides.{nat_tests}
use Rattle.sch_word.specs.runs.ProgramLayout.{data_address}
use Rattle.sch_word.specs.trees.Shape.{max_operands}
use Rattle.sch_word.specs.declared.mark.MarkKind.TheVariants.{Spill}
use Rattle.sch_word.specs.declared.place.Place.{Place}
use Rattle.sch_word.specs.declared.place.Place.TheVariants.{Reg as Register, Slot}
use Rattle.sch_word.specs.declared.stop.Stop.TheVariants.{HeapLimit}
use Rattle.sch_word.specs.values.Values.{Value, unspecified, procedure}
use Rattle.sch_word.specs.runs.Store.{Store}
use Rattle.sch_word.specs.runs.Charges.{charge, charge_each, procedure_bytes}
use Rattle.sch_word.specs.runs.Computation.{Outcome, gives, stops, State, on_value, require, with_rest, in_store, procedures_from}
use Rattle.sch_control.specs.declared.operation.Closure.{Closure}
use Rattle.sch_control.specs.declared.operation.Member.{Member}
use Rattle.sch_control.specs.declared.operation.Operation.TheVariants as operation
use Rattle.sch_control.specs.declared.operation.Atom.TheVariants.{Constant, Literal, Variable}
use Rattle.sch_control.specs.declared.operation.Source.{Source}
use Rattle.sch_control.specs.declared.operation.Source.TheVariants as source
use Rattle.sch_control.specs.Operations.{operate, and_value, source_value, source_values}
use Rattle.sch_word.specs.runs.Procedures.{Procedure}
use Rattle.sch_word.specs.values.Options.{when_some}
use Rattle.sch_control.specs.Operations.{close, member_bytes, members_made, with_procedures}
use Rattle.sch_control.specs.Meaning.{World, Result, on_ending, on_outcome}
use Rattle.sch_word.specs.values.Places.{is_slot}
use Rattle.sch_frames.specs.Meaning.{Frame, Is, held, with_place, with_members}
use Rattle.sch_frames.specs.Valid.{in_slots, is_place}
use Rattle.sch_insn.specs.declared.insn.Arg.TheVariants.{Reg}
use Rattle.sch_insn.specs.declared.insn.Insn.TheVariants.{MovTo, AddNumber}
use Rattle.sch_insn.specs.Machine.{set_register, sum_of}
use Rattle.sch_insn.proofs.Paths.{leads_on, leads_here, leads_then}
use Rattle.sch_asm.specs.declared.item.Item.{Item}
use Rattle.sch_asm.specs.declared.item.Item.TheVariants as item
use Rattle.sch_word.specs.declared.mark.MarkKind.{MarkKind}
use Rattle.sch_asm.specs.Data.{word_in}
use Rattle.sch_asm.specs.Effects.{is_scratch}
use Rattle.sch_asm.specs.Views.{View, Leads, full}
use Rattle.sch_asm.proofs.EachItem.{goes}
use Rattle.sch_select_memory.specs.Addresses.{max_heap_end}
use Rattle.sch_select_memory.specs.Parts.{a_procedure, Part, Parts, end_of, Spot, spot, grown}
use Rattle.sch_select_memory.specs.Encoded.{IsWord}
use Rattle.sch_select_memory.specs.Heap.{RecordAt, AreNew}
use Rattle.sch_select_memory.proofs.heap.Spots.{spot_stays, spot_newest}
use Rattle.sch_select_memory.proofs.heap.Contents.{words_stay, procedure_taken}
use Rattle.sch_select_operations.specs.ObjectCode.{part_code}
use Rattle.sch_select_operations.specs.ClosureCode.{record_code, closure_bytes, group_bytes, places_code, records_code, spill_code, spills_behind}
use Rattle.sch_select_operations.specs.ClosureCode.{group_code}
use Rattle.sch_select_operations.specs.OperationCode.{operation_code}
use Rattle.sch_select_memory.proofs.Straight.{Halts, kept_set, kept_then, moved_to, is_one}
use Rattle.sch_select_memory.proofs.Places.{Plan, code_of, heap_above, Activation, StoreAt, PlacesAt}
use Rattle.sch_select_memory.proofs.Places.{places_kept, Holds, holds_words, written}
use Rattle.sch_select_memory.proofs.HeapWrites.{one_procedure, Wrote, other_word, wrote_within, store_wrote}
use Rattle.sch_select_memory.proofs.HeapWrites.{places_wrote, places_grown, store_grown, room_tested}
use Rattle.sch_select_operations.proofs.objects.HeapTests.{HasRoom, Tested, room_here}
use Rattle.sch_select_operations.proofs.simulation.Records.{group_no_objects, more_of, bytes_are, fields_fit, values_count, group_parts}
use Rattle.sch_select_operations.proofs.simulation.Records.{group_units, AreSpots, group_spots, group_new, recorded, records_made}
use Rattle.sch_select_operations.proofs.simulation.Records.{records_cost, both_there}
use Rattle.sch_select_memory.proofs.simulation.Outcomes.{after, Laid, stops_here}
use Rattle.sch_select_operations.proofs.simulation.Operations.{Std, FrameOf, StoreOf, SimOf, Rest, next_of, none_waits}
use Rattle.sch_select_operations.proofs.simulation.Cells.{one_scratch}
use Rattle.sch_select_operations.proofs.simulation.SelectedPrograms.{source_selected, closure_selected, members_selected}
use Rattle.sch_select_operations.specs.Reach.{max_record_bytes}

-- ---- sums, each by itself: in the proofs below every fact in sight would be read for each of them

-- a sum with nothing
plus_none : (n : ℕ) → n ≡ n + 0
plus_none n = omega arith

no_further : (n : ℕ) → n ≤ n + 0
no_further n = omega arith

none_between : (n m : ℕ) → n + 0 + m ≤ n + m
none_between n m = omega arith

from_none : (n m high : ℕ) → n + m ≤ high → n + 0 + m ≤ high
from_none n m high le = omega arith

joined : (a b c : ℕ) → a + b + c ≡ a + (b + c)
joined a b c = omega arith

joined_within : (a b c high : ℕ) → a + b + c ≤ high → a + (b + c) ≤ high
joined_within a b c high le = omega arith

up_to : (a b c : ℕ) → a ≤ b → b ≤ c → a ≤ c
up_to a b c le le' = omega arith

equal_le : (a b : ℕ) → a ≡ b → a ≤ b
equal_le a b e = omega arith

more_entries : (a n : ℕ) → n ≤ a + n
more_entries a n = omega arith

stop_cost : (n c : ℕ) → 7 ≤ 250 + n + c
stop_cost n c = omega arith

-- where the parts are
behind_data : (plan : Plan) (charged : ℕ) → data_address ≤ plan.heap + charged
behind_data plan charged = let a = plan.closures_low in let b = plan.heap_low in omega (arith, a, b)

stack_behind_data : (plan : Plan) (a : ℕ) → plan.stack ≤ a → data_address ≤ a
stack_behind_data plan a le = let h = heap_above plan in let s = plan.stack_low in omega (arith, h, s, le)

part_within : (heap charged sum total limit stack : ℕ) → charged + sum ≤ limit → heap + limit ≡ stack → sum ≡ total → heap + charged + total ≤ stack
part_within heap charged sum total limit stack le e f = omega arith

charged_within : (heap charged limit stack : ℕ) → heap + limit ≡ stack → heap + charged ≤ stack → charged ≤ limit
charged_within heap charged limit stack e le = omega arith

behind_first : (n o a b stack : ℕ) → n + o + (a + b) ≤ stack → n + (o + a) + b ≤ stack
behind_first n o a b stack le = omega arith

closure_low : (q : Closure Place) → length q.fields ≤ 1000 → closure_bytes q ≤ data_address
closure_low q few = omega (arith, few)

group_low : (bytes count : ℕ) → bytes ≤ max_record_bytes * count → count ≤ max_operands → bytes ≤ data_address
group_low bytes count le few = omega arith

record_within : (next total values fields units : ℕ) → values ≤ fields → 8 + 8 * fields ≤ 16 * units → total ≡ 16 * units
    → next + 0 + 8 + 8 * values ≤ next + total
record_within next total values fields units le fit e = omega arith

one_unit : (total more : ℕ) → total ≡ 16 * suc more → 16 * (suc more + 0) ≡ total
one_unit total more e = omega arith

-- the word of a closure, by the register that has where the parts of its group begin, and where the next part begins
named_at : (register next o unit bytes stack : ℕ) → register ≡ next → 16 * unit ≡ next + o → next + o + bytes ≤ stack → stack ≤ max_heap_end
    → (sum_of register (o + 4)).value ≡ 16 * unit + 4
named_at register next o unit bytes stack same at le near = omega arith

named_fits : (a b : ℕ) → (sum_of a b).value < 2 ^ 64
named_fits a b = omega arith

next_free : (register heap charged total stack : ℕ) → register ≡ heap + charged → heap + charged + total ≤ stack → stack ≤ max_heap_end
    → (sum_of register total).value ≡ heap + (charged + total)
next_free register heap charged total stack same le near = omega arith

-- steps, and what is paid for them
closure_cost : (steps values fields c work heap charged total stack : ℕ) → steps ≤ 2 + 3 * values → values ≤ fields
    → 4 + steps + 1 + 1 + 1 + c + (work + 8 * (stack - (heap + (charged + total)))) ≤ 250 + 3 * fields + c + (work + 8 * (stack - (heap + charged)))
closure_cost steps values fields c work heap charged total stack few le = omega arith

three_more : (n : ℕ) → 1 + 1 + 1 + 3 * n ≡ 3 * suc n
three_more n = omega arith

group_cost : (members steps most c work heap charged total stack : ℕ) → steps ≤ most
    → 4 + members + steps + 1 + c + (work + 8 * (stack - (heap + (charged + total)))) ≤ 250 + (members + most) + c + (work + 8 * (stack - (heap + charged)))
group_cost members steps most c work heap charged total stack few = omega arith

not_none : (n : ℕ) → suc n ≡ 0 → ⊥
not_none n e = cc

same_item : {X : Type 0} (x y : X) → Some x ≡ Some y → x ≡ y
same_item x y e = cc

-- ---- charges

-- several charges are one where all of them have room, and stop 71 elsewhere
abbrev charged_all : (sizes : List ℕ) → ℕ
charged_all [] = 0
charged_all (n ∷ sizes) = n + charged_all sizes

-- the state after several charges, and whether they had room
record Charges (sizes : List ℕ) (t : Store) : Type 0 where
  ends : Store
  outcome : charge_each sizes t ≡ cond (nat_le (t.charged + charged_all sizes) t.constants.heap)
      (gives unspecified (record t { charged = t.charged + charged_all sizes })) (stops HeapLimit ends)
  same : ends.output ≡ t.output
  answers : ends.answers ≡ t.answers
  entries : ends.entries ≡ t.entries
  more : t.charged ≤ ends.charged

charges : (sizes : List ℕ) (t : Store) → t.charged ≤ t.constants.heap → Charges sizes t
charges [] t le = record {
  ends = t;
  outcome =
      let z : t.charged ≡ t.charged + 0 = omega arith in
      ap (λ c. gives unspecified (record t { charged = c })) z
      ∙ ap (λ b. cond b (gives unspecified (record t { charged = t.charged + 0 })) (stops HeapLimit t))
      (sym (le-leb (t.charged + 0) t.constants.heap (omega (arith, le))));
  same = refl;
  answers = refl;
  entries = refl;
  more = omega arith;
}
charges (n ∷ sizes) t le = by (nat_le (t.charged + n) t.constants.heap) refl
    (λ le. charges sizes (record t { charged = t.charged + n }) le)
  where
    step : Bool → Outcome Store Value
    step b = on_value (require b HeapLimit (λ u. gives unspecified (record u { charged = u.charged + n })) t)
        (λ _. charge_each sizes)

    by : (b : Bool) → nat_le (t.charged + n) t.constants.heap ≡ b
        → (t.charged + n ≤ t.constants.heap → Charges sizes (record t { charged = t.charged + n }))
        → Charges (n ∷ sizes) t
    by true e rec =
        let r = rec (leb-true (t.charged + n) t.constants.heap e) in
        let a : t.charged + n + charged_all sizes ≡ t.charged + (n + charged_all sizes) = omega arith in
        record {
          ends = r.ends;
          outcome = ap step e ∙ r.outcome ∙ ap (λ c. cond (nat_le c t.constants.heap)
              (gives unspecified (record t { charged = c })) (stops HeapLimit r.ends)) a;
          same = r.same;
          answers = r.answers;
          entries = r.entries;
          more = (let m = r.more in omega (arith, m));
        }
    by false e rec = record {
      ends = t;
      outcome = ap step e ∙ ap (λ b. cond b (gives unspecified
          (record t { charged = t.charged + (n + charged_all sizes) })) (stops HeapLimit t))
          (sym (more t.charged (charged_all sizes) t.constants.heap e));
      same = refl;
      answers = refl;
      entries = refl;
      more = omega arith;
    }
      where
        more : (c m l : ℕ) → nat_le (c + n) l ≡ false → nat_le (c + (n + m)) l ≡ false
        more c m l e = grind (arith, nat_tests)

group_charged : (members : List (Member Place)) → charged_all (member_bytes members) ≡ group_bytes members
group_charged [] = refl
group_charged (m ∷ members) = ap (λ n. closure_bytes m.closure + n) (group_charged members)

-- a group takes less than 2 ^ 31 bytes
pub group_small : (words globals symbols literals : ℕ) (members : List (Member Place))
    → members_selected words globals symbols literals members ≡ true
    → group_bytes members ≤ max_record_bytes * length members
group_small words globals symbols literals [] e = omega arith
group_small words globals symbols literals (m ∷ members) e =
    let c = and_parts (is_place words m.at) (closure_selected words globals symbols literals m.closure &&
    members_selected words
    globals symbols literals members) e in
    let d = and_parts (closure_selected words globals symbols literals m.closure)
    (members_selected words globals symbols literals members) c.1 in
    let f = and_parts (nat_le (length m.closure.fields) 1000)
    (list_all (source_selected words globals symbols literals) m.closure.fields) d.0 in
    let n = leb-true (length m.closure.fields) 1000 f.0 in
    let b = bytes_are m.closure in
    let h = group_small words globals symbols literals members d.1 in
    omega (arith, n, b, h)

-- ---- what does not depend on the charge

same_source : (at : Place → Option Value) (s : State Procedure) (c : ℕ) (q : Source Place)
    → source_value at (record s { store = record s.store { charged = c } }) q ≡ source_value at s q
same_source at s c (source.Atom (Constant n)) = refl
same_source at s c (source.Atom (Literal n)) = refl
same_source at s c (source.Atom (Variable p)) = refl
same_source at s c (source.Field p k) = refl

same_sources : (at : Place → Option Value) (s : State Procedure) (c : ℕ) (sources : List (Source Place))
    → source_values at (record s { store = record s.store { charged = c } }) sources ≡ source_values at s sources
same_sources at s c [] = refl
same_sources at s c (q ∷ sources) =
    ap (λ o. and_value o (source_values at (record s { store = record s.store { charged = c } }) sources))
    (same_source at s c q) ∙ ap (and_value (source_value at s q)) (same_sources at s c sources)

same_members : (at : Place → Option Value) (s : State Procedure) (c : ℕ) (members : List (Member Place))
    → members_made at (record s { store = record s.store { charged = c } }) members ≡ members_made at s members
same_members at s c [] = refl
same_members at s c (m ∷ members) =
    ap (λ o. and_value (when_some o (λ vs. Some (record { label = m.closure.label; fields = vs })))
    (members_made at (record s { store = record s.store { charged = c } }) members))
    (same_sources at s c m.closure.fields)
    ∙ ap (and_value (when_some (source_values at s m.closure.fields)
    (λ vs. Some (record { label = m.closure.label; fields = vs })))) (same_members at s c members)

-- the accumulator stays
same_accumulator : (f : Frame) (members : List (Member Place)) (vs : List Value)
    → (with_members f members vs).accumulator ≡ f.accumulator
same_accumulator f [] vs = refl
same_accumulator f (m ∷ members) [] = refl
same_accumulator f (m ∷ members) (v ∷ vs) = same_accumulator (with_place f m.at (Is v)) members vs

made_count : (at : Place → Option Value) (s : State Procedure) (members : List (Member Place)) (made : List Procedure)
    → members_made at s members ≡ Some made → length made ≡ length members
made_count at s [] made e = let f : Some [] ≡ Some made = e in let is : [] ≡ made = cc in ap length (sym is)
made_count at s (m ∷ members) made e =
    let b = both_there (when_some (source_values at s m.closure.fields)
    (λ vs. Some (record { label = m.closure.label; fields = vs }))) (members_made at s members) made e in
    let h = made_count at s members b.1 b.3 in
    ap length b.4 ∙ ap suc h

-- the mark before what is stored in a place
abbrev mark_before : Place → List ℕ → List MarkKind
mark_before (Slot j) (s ∷ spills) = Spill s ∷ []
mark_before q spills = []

marks_split : (q : Place) (spills : List ℕ) → map Spill spills ≡ mark_before q spills ++ map Spill (spills_behind q spills)
marks_split (Slot j) (s ∷ spills) = refl
marks_split (Slot j) [] = refl
marks_split (Register r) spills = refl

spills_left : (q : Place) (spills : List ℕ) (n : ℕ) → length spills ≡ cond (is_slot q) (suc n) n → length (spills_behind q spills) ≡ n
spills_left (Slot j) (s ∷ spills) n e = omega (arith, e)
spills_left (Slot j) [] n e = absurd (cc)
spills_left (Register r) spills n e = e

module _ (plan : Plan) (body_steps : ℕ) (laid : Laid plan body_steps) (act : Activation plan) where
  open plan use {setting, size, words, literals, globals, symbols, closures, heap, stack, near}

  abbrev Here : List MarkKind → ℕ → List Item → Type 0
  Here waiting a is = Std plan body_steps laid act waiting a is

  abbrev In : Parts → Frame → World → View → Type 0
  In parts f w x = FrameOf plan body_steps laid act parts f w x

  abbrev At : Parts → World → View → Type 0
  At parts w x = StoreOf plan body_steps laid act parts w x

  abbrev Owed : Parts → List MarkKind → World → View → ℕ → Result → Type 0
  Owed parts before w x c r = SimOf plan body_steps laid act parts before w x c r

  abbrev Goes : (Frame → World → Result) → ℕ → List Item → Type 0
  Goes k c rest = Rest plan body_steps laid act k c rest

  module _ (k : Frame → World → Result) (c : ℕ) (rest : List Item) (K : Goes k c rest) (parts : Parts)
      (before waiting : List MarkKind) (f : Frame) (w : World) (x : View) (p : In parts f w x) (g : At parts w x)
      (marked : w.marks ≡ before ++ waiting) where
    abbrev After : Value → World → Result
    After v w = next_of plan body_steps laid act k f v w

    -- one closure
    pub make_closure_sim : (n : ℕ) (q : Closure Place) → closure_selected words globals
        (length symbols) literals q ≡ true
        → Here waiting x.place (operation_code stack literals n (operation.MakeClosure q) rest)
        → Owed parts before w x (250 + 3 * length q.fields + c)
        (on_ending w.marks (operate (held f) (operation.MakeClosure q) w.state) After)
    make_closure_sim n q e h = by (source_values (held f) w.state q.fields) refl
      where
        t : Store
        t = w.state.store

        next : ℕ
        next = heap + t.charged

        total : ℕ
        total = closure_bytes q

        last : List Item
        last = part_code 4 total rest

        code : List Item
        code = record_code 0 q last

        made : Bool → List Value → Outcome (State Procedure) Value
        made b vs = on_value (with_rest w.state.cells w.state.procedures
            (require b HeapLimit (λ u. gives unspecified (record u { charged = u.charged + total })) t))
            (λ _ s. gives (procedure (length s.procedures)) (record s
            { procedures = s.procedures ++ record { label = q.label; fields = vs } ∷ [] }))

        few : length q.fields ≤ 1000
        few = leb-true (length q.fields) 1000 (and_parts (nat_le (length q.fields) 1000)
            (list_all (source_selected words globals (length symbols) literals) q.fields) e).0

        size_is : total ≡ 16 * suc (more_of q)
        size_is = bytes_are q

        tested : Tested plan (nat_le (t.charged + total) t.constants.heap) x waiting code
        tested = subst (λ b. Tested plan b x waiting code)
            (room_tested plan parts w.state x.bytes x.output x.answers total g)
            (room_here plan next total x waiting code p.free (behind_data plan t.charged) g.within
            (closure_low q few) h)

        by_room : (vs : List Value) → source_values (held f) w.state q.fields ≡ Some vs → (b : Bool)
            → nat_le (t.charged + total) t.constants.heap ≡ b → Tested plan b x waiting
            code → Owed parts before w x (250 + 3 * length q.fields + c) (on_outcome w.marks (made b vs) After)
        by_room vs v false i s = stops_here plan body_steps laid before waiting x 4 (250 + 3 * length q.fields + c)
            HeapLimit w s g.printed marked (stop_cost (3 * length q.fields) c)
        by_room vs v true i s =
            let label = length w.state.procedures in
            let one : Procedure = record { label = q.label; fields = vs } in
            let others : List Part = record { owner = a_procedure label; more = more_of q } ∷ [] in
            let parts' = grown parts others in
            let at : Spot = record { unit = end_of parts; more = more_of q } in
            let there : spot parts' (a_procedure label) ≡ Some at = spot_newest parts (a_procedure label) (more_of q)
            [] (g.new.procedure label (le_refl label)) in
            let enough = leb-true (t.charged + total) t.constants.heap i in
            let lim = g.limit in let ends = g.ends in let m = near in let sz = size_is in
            let fits_in : next + total ≤ stack = part_within heap t.charged total total t.constants.heap stack enough lim refl in
            let z = moved_to x s.registers s.flags s.place in
            let pz = places_kept plan act parts t.charged f.places f.outgoing x.registers s.registers x.bytes
            (one_scratch 2 x.registers s.registers refl s.kept) p in
            let pz' = places_grown plan act parts parts' (words_stay parts others) t.charged t.charged f.places
            f.outgoing s.registers s.registers x.bytes (λ j e. refl) pz.free pz in
            let r = recorded plan act parts parts' (spot_stays parts others)
            (le_refl parts.symbols) f w.state next refl 0 label q vs at z
            last e v there (ends ∙ plus_none next) refl (from_none next total stack fits_in) pz' g s.ahead in
            let a = r.ahead in
            let z1 : View = record z { registers = r.registers; bytes = r.bytes; place = r.place } in
            let u1 : View = record z1 {
              registers = set_register r.registers 0 (r.registers 12);
              place = r.place + a.0;
            } in
            let s1 = sum_of (r.registers 12) 4 in
            let u2 : View = record u1 {
              registers = set_register u1.registers 0 s1.value;
              flags = s1.flags;
              place =
                  u1.place + a.2.0;
            } in
            let s2 = sum_of (r.registers 12) total in
            let u3 : View = record u2 {
              registers = set_register u2.registers 12 s2.value;
              flags = s2.flags;
              place =
                  u2.place + a.2.2.0;
            } in
            let same : r.registers 12 ≡ next = r.kept 12 refl ∙ s.kept 12 refl ∙ p.free in
            let fields : length one.fields ≤ length q.fields = fields_count vs v in
            let fit = fields_fit q in
            let wrote : Wrote next (next + total) x.bytes r.bytes = wrote_within next (next + total) (next + 0)
            (next + 0 + 8 + 8 * length vs) x.bytes r.bytes (no_further next)
            (record_within next total (length vs) (length q.fields) (suc (more_of q)) fields fit sz) r.wrote in
            let w' : World = record {
              state = record {
                cells = w.state.cells;
                store = record t
                    { charged = t.charged + total };
                procedures = w.state.procedures ++ one ∷ [];
              };
              marks = w.marks;
            } in
            let g1 = store_wrote plan parts w.state x.bytes r.bytes x.output x.answers next (next + total)
            (le_refl next) fits_in wrote g in
            let new = procedure_taken parts (length w.state.cells) label (more_of q) g.new in
            let plus : suc label ≡ label + 1 = sym (add-one label) in
            let none : length w.state.cells ≡ length w.state.cells + 0 = plus_none (length w.state.cells) in
            let g2 = store_grown plan parts others w.state r.bytes x.output x.answers total (one_unit total (more_of q) sz)
            (joined_within heap t.charged total stack fits_in) (one_procedure label (more_of q)) g1 [] (one ∷ [])
            (λ j o e. absurd (none-some o e))
            (only parts' r.bytes label one r.is) (subst (λ m. AreNew parts' (length w.state.cells + 0) m) plus
            (subst (λ m. AreNew parts' m (suc label)) none new)) in
            let g' : At parts' w' u3 = subst (λ cs. StoreAt plan parts'
            (record {
              cells = cs;
              store = record t { charged = t.charged + total };
              procedures =
                  w.state.procedures ++ one ∷ [];
            }) r.bytes x.output x.answers) (append-nil w.state.cells) g2 in
            let free : s2.value ≡ heap + (t.charged + total) = next_free (r.registers 12) heap t.charged total stack same fits_in m in
            let kept = kept_then is_scratch x.registers s.registers u2.registers
            (one_scratch 2 x.registers s.registers refl s.kept)
            (kept_then is_scratch s.registers r.registers u2.registers
            (one_scratch 1 s.registers r.registers refl r.kept)
            (kept_then is_scratch r.registers u1.registers u2.registers
            (kept_set is_scratch r.registers 0 (r.registers 12) refl)
            (kept_set is_scratch u1.registers 0 s1.value refl))) in
            let p1 = places_wrote plan act parts t.charged f.places f.outgoing u2.registers x.bytes r.bytes next
            (next + total) fits_in wrote (places_kept plan act parts t.charged f.places f.outgoing x.registers
            u2.registers x.bytes kept p) in
            let p' : In parts' f w' u3 = places_grown plan act parts parts' (words_stay parts others) t.charged
            (t.charged + total) f.places f.outgoing u2.registers u3.registers r.bytes
            (λ j i. kept_set (is_one 12) u2.registers 12 s2.value refl j i) free p1 in
            let named : IsWord parts' (procedure label) (u3.registers 0) = record {
              at = at;
              there = there;
              is = named_at (r.registers 12) next 0 (end_of parts) total stack same (ends ∙ plus_none next)
                  (from_none next total stack fits_in) m;
              fits = named_fits (r.registers 12) 4;
            } in
            after plan body_steps act parts parts' (words_stay parts others) before waiting t w'.state.store x u3
            (4 + r.least + 1 + 1 + 1) (4 + r.steps + 1 + 1 + 1) c (250 + 3 * length q.fields + c) _
            (leads_on setting.marks (leads_on setting.marks (leads_on setting.marks
            (leads_on setting.marks s.leads r.leads) (goes setting z1 u1 (MovTo (Reg 0) 12) a.0 [] a.1 refl))
            (goes setting u1 u2 (AddNumber (Reg 0) (pos 4)) a.2.0 [] a.2.1 refl))
            (goes setting u2 u3 (AddNumber (Reg 12) (pos total)) a.2.2.0 [] a.2.2.1 refl))
            (λ b lo hi. other_word next (next + total) x.bytes r.bytes wrote b (stack_behind_data plan b lo)
            (inr (up_to (next + total) stack b fits_in lo)))
            (more_entries (4 + r.least + 1 + 1 + 1) t.entries) (le_refl t.entries)
            (closure_cost r.steps (length vs) (length q.fields) c (body_steps * t.entries + 10 * length t.answers) heap t.charged total stack
            r.few fields)
            (K parts' (before ++ waiting) [] (record f { accumulator = Is (procedure label) }) w' u3 a.2.2.2 p' g'
            named (none_waits w.marks before waiting marked))
          where
            fields_count : (vs : List Value) → source_values (held f) w.state q.fields ≡ Some vs
                → length vs ≤ length q.fields
            fields_count vs v = equal_le (length vs) (length q.fields)
                (values_count plan act parts parts (λ o at e. e) (le_refl parts.symbols) f w.state next refl q.fields vs v)

            only : (ps : Parts) (bytes : List ℕ) (label : ℕ) (one : Procedure)
                → RecordAt (code_of plan) ps bytes label one → (j : ℕ) (o : Procedure)
                → slice_get (one ∷ []) j ≡ Some o → RecordAt (code_of plan) ps bytes (label + j) o
            only ps bytes label one r zero o e =
                subst (λ n. RecordAt (code_of plan) ps bytes n o) (plus_none label)
                (subst (RecordAt (code_of plan) ps bytes label) (same_item one o e) r)
            only ps bytes label one r (suc j) o e = absurd (none-some o e)

        by : (o : Option (List Value)) → source_values (held f) w.state q.fields ≡ o
            → Owed parts before w x (250 + 3 * length q.fields + c)
            (on_ending w.marks (when_some o (λ vs. Some (close q.label vs w.state))) After)
        by None v = tt
        by (Some vs) v = subst (λ n. Owed parts before w x (250 + 3 * length q.fields + c)
            (on_outcome w.marks (on_value (with_rest w.state.cells w.state.procedures (charge (procedure_bytes n) t))
            (λ _ s. gives (procedure (length s.procedures)) (record s
            { procedures = s.procedures ++ record { label = q.label; fields = vs } ∷ [] }))) After))
            (sym (values_count plan act parts parts (λ o at e. e) (le_refl parts.symbols) f w.state next refl q.fields vs v))
            (by_room vs v (nat_le (t.charged + total) t.constants.heap) refl tested)

    -- ---- a group

    marked_store : (q : Place) (spills : List ℕ) (a : ℕ) (is : List Item) → Here [] a (spill_code q spills is) → Here (mark_before q spills) a is
    marked_store (Slot j) (s ∷ spills) a is h = h
    marked_store (Slot j) [] a is h = h
    marked_store (Register r) spills a is h = h

    abbrev next_part : ℕ
    next_part = heap + w.state.store.charged

    -- each member has its word in its place, past these marks
    record Placed (parts' : Parts) (f1 : Frame) (y : View) (steps : ℕ) (events : List MarkKind) (following : List Item) : Type 0
      where
        z : View
        leads : Leads setting steps steps events y z
        ahead : Here [] z.place following
        places_at : PlacesAt plan act parts' w.state.store.charged f1.places f1.outgoing z.registers z.bytes
        world : (ps : Parts) (s : State Procedure) → StoreAt plan ps s y.bytes y.output y.answers
            → StoreAt plan ps s z.bytes z.output z.answers
        accumulator : z.registers 0 ≡ y.registers 0
        below : (a : ℕ) → stack ≤ a → a + 8 ≤ act.frame → word_in z.bytes a ≡ word_in y.bytes a

    placed : (parts' : Parts) (o n : ℕ) (members : List (Member Place)) (spills : List ℕ) (f0 : Frame) (y : View)
        (following : List Item) → length spills ≡ in_slots members
        → members_selected words globals (length symbols) literals members ≡ true
        → AreSpots parts' (next_part + o) n members → next_part + o + group_bytes members ≤ stack
        → length y.bytes ≡ size
        → PlacesAt plan act parts' w.state.store.charged f0.places f0.outgoing y.registers y.bytes
        → Here [] y.place (places_code o members spills following)
        → Placed parts' (with_members f0 members (procedures_from n (length members))) y (3 * length members)
        (map Spill spills) following
    placed parts' o n [] (s ∷ spills) f0 y following some e spots le long q h = absurd (not_none (length spills) some)
    placed parts' o n [] [] f0 y following some e spots le long q h = record {
      z = y;
      leads = leads_here setting.marks (full setting y);
      ahead = h;
      places_at = q;
      world = λ ps s at. at;
      accumulator = refl;
      below = λ a lo hi. refl;
    }
    placed parts' o n (m ∷ members) spills f0 y following some e spots le long q h =
        let checks = and_parts (is_place words m.at) (closure_selected words globals
        (length symbols) literals m.closure && members_selected
        words globals (length symbols) literals members) e in
        let shaped = and_parts (closure_selected words globals (length symbols) literals m.closure)
        (members_selected words globals (length symbols) literals members)
        checks.1 in
        let y1 : View = record y { registers = set_register y.registers 1 (y.registers 12); place = y.place + h.0 } in
        let s1 = sum_of (y.registers 12) (o + 4) in
        let y2 : View = record y1 {
          registers = set_register y1.registers 1 s1.value;
          flags = s1.flags;
          place =
              y1.place + h.2.0;
        } in
        let kept = kept_then is_scratch y.registers y1.registers y2.registers
        (kept_set is_scratch y.registers 1 (y.registers 12) refl)
        (kept_set is_scratch y1.registers 1 s1.value refl) in
        let named : IsWord parts' (procedure n) s1.value = record {
          at = spots.0.0;
          there = spots.0.1;
          is = named_at (y.registers 12) next_part o spots.0.0.unit (group_bytes (m ∷ members)) stack q.free spots.0.2 le near;
          fits = named_fits (y.registers 12) (o + 4);
        } in
        let u = written plan act parts' w.state.store.charged f0.places f0.outgoing m.at (Is (procedure n)) 1 y2
        (mark_before m.at spills) (places_code (o + closure_bytes m.closure) members (spills_behind m.at spills) following)
        checks.0 named
        (places_kept plan act parts' w.state.store.charged f0.places f0.outgoing y.registers y2.registers y.bytes
        kept q) long (marked_store m.at spills y2.place _ h.2.2) in
        let shift = joined next_part o (closure_bytes m.closure) in
        let lengths : length u.y.bytes ≡ size = u.size ∙ long in
        let rec = placed parts' (o + closure_bytes m.closure) (suc n) members (spills_behind m.at spills)
        (with_place f0 m.at (Is (procedure n))) u.y following (spills_left m.at spills (in_slots members) some) shaped.1 (subst (λ a. AreSpots parts' a (suc n) members) shift spots.1)
        (behind_first next_part o (closure_bytes m.closure) (group_bytes members) stack le)
        lengths u.places_at u.ahead in
        let three : 1 + 1 + 1 + 3 * length members ≡ 3 * length (m ∷ members) = three_more (length members) in
        record {
          z = rec.z;
          leads = subst (λ events. Leads setting (3 * length (m ∷ members)) (3 * length (m ∷ members)) events y rec.z)
              (sym (marks_split m.at spills)) (subst (λ k. Leads setting k k (mark_before m.at spills ++ map Spill (spills_behind m.at spills)) y rec.z) three
              (leads_then setting.marks (leads_then setting.marks (leads_on setting.marks
              (goes setting y y1 (MovTo (Reg 1) 12) h.0 [] h.1 refl)
              (goes setting y1 y2 (AddNumber (Reg 1) (pos (o + 4))) h.2.0 [] h.2.1 refl)) u.leads) rec.leads));
          ahead = rec.ahead;
          places_at = rec.places_at;
          world = λ ps s at. rec.world ps s (u.world ps s at);
          accumulator = rec.accumulator ∙ u.accumulator;
          below = λ a lo hi. rec.below a lo hi ∙ u.below a lo hi;
        }

    pub group_sim : (members : List (Member Place)) (spills : List ℕ) → length spills ≡ in_slots members
        → nat_le (length members) max_operands ≡ true
        → members_selected words globals (length symbols) literals members ≡ true
        → Holds act.back parts f.accumulator (x.registers 0)
        → Here waiting x.place (group_code stack members spills rest)
        → Owed parts before w x (250 + (3 * length members + records_cost members) + c)
        (on_outcome w.marks (in_store (charge_each (member_bytes members)) w.state)
        (λ _ w. when_some (with_procedures w.state (members_made
        (held (with_members f members (procedures_from (length w.state.procedures) (length members)))) w.state
        members)) (λ s. k (with_members f members (procedures_from (length w.state.procedures) (length members)))
        (record { state = s; marks = w.marks ++ map Spill spills }))))
    group_sim members spills some few e acc h = subst (λ o. Owed parts before w x cost (result o)) (sym all.outcome)
        (by_room (nat_le (t.charged + charged_all (member_bytes members)) t.constants.heap) refl)
      where
        t : Store
        t = w.state.store

        cost : ℕ
        cost = 250 + (3 * length members + records_cost members) + c

        total : ℕ
        total = group_bytes members

        inner : Frame
        inner = with_members f members (procedures_from (length w.state.procedures) (length members))

        then_made : World → Result
        then_made w = when_some (with_procedures w.state (members_made
            (held (with_members f members (procedures_from (length w.state.procedures) (length members)))) w.state
            members)) (λ s. k (with_members f members (procedures_from (length w.state.procedures) (length members)))
            (record { state = s; marks = w.marks ++ map Spill spills }))

        result : Outcome Store Value → Result
        result o = on_outcome w.marks (with_rest w.state.cells w.state.procedures o) (λ _ w. then_made w)

        small : total ≤ data_address
        small = group_low total (length members) (group_small words globals (length symbols) literals members e)
            (leb-true (length members) max_operands few)

        all : Charges (member_bytes members) t
        all = charges (member_bytes members) t (charged_within heap t.charged t.constants.heap stack g.limit g.within)

        sum_is : charged_all (member_bytes members) ≡ total
        sum_is = group_charged members

        records : List Item
        records = records_code 0 members (item.Plain (AddNumber (Reg 12) (pos total)) ∷ rest)

        code : List Item
        code = places_code 0 members spills records

        tested : Tested plan (nat_le (t.charged + charged_all (member_bytes members))
            t.constants.heap) x waiting code
        tested = subst (λ b. Tested plan b x waiting code)
            (room_tested plan parts w.state x.bytes x.output x.answers total g
            ∙ ap (λ n. nat_le (t.charged + n) t.constants.heap) (sym sum_is))
            (room_here plan next_part total x waiting code p.free (behind_data plan t.charged) g.within small h)

        no_room : Halts setting x waiting 4 HeapLimit → Owed parts before w x cost (result (stops HeapLimit all.ends))
        no_room s =
            let q = stops_here plan body_steps laid before waiting x 4 cost HeapLimit w s g.printed marked
            (stop_cost (3 * length members + records_cost members) c) in
            let a = ap (λ n. body_steps * n) all.entries in let b = ap length all.answers in let m = all.more in
            record {
              last = q.last;
              events = q.events;
              least = q.least;
              steps = q.steps;
              leads = q.leads;
              cost = (let k = q.cost in omega (arith, k, a, b, m));
              exits = q.exits;
              output_is = q.output_is ∙ sym all.same;
              marked = q.marked;
              silent = q.silent;
            }

        charged_world : World
        charged_world = record {
          state = record {
            cells = w.state.cells;
            store = record t
                { charged = t.charged + charged_all (member_bytes members) };
            procedures = w.state.procedures;
          };
          marks =
              w.marks;
        }

        by_room : (b : Bool) → nat_le (t.charged + charged_all (member_bytes members)) t.constants.heap ≡ b
            → Owed parts before w x cost
            (result (cond b (gives unspecified
            (record t { charged = t.charged + charged_all (member_bytes members) })) (stops HeapLimit all.ends)))
        by_room false i = no_room (subst (λ b. Tested plan b x waiting code) i tested)
        by_room true i = by_made (members_made (held inner) charged_world.state members) refl
          where
            s : HasRoom plan x waiting code
            s = subst (λ b. Tested plan b x waiting code) i tested

            fits_in : next_part + total ≤ stack
            fits_in = part_within heap t.charged (charged_all (member_bytes members)) total t.constants.heap stack
                (leb-true (t.charged + charged_all (member_bytes members)) t.constants.heap i) g.limit sum_is

            by_made : (o : Option (List Procedure)) → members_made (held inner) charged_world.state members ≡ o
                → Owed parts before w x cost (when_some (with_procedures charged_world.state o)
                (λ s. k inner (record { state = s; marks = w.marks ++ map Spill spills })))
            by_made None v = tt
            by_made (Some made) v =
                let n = length w.state.procedures in
                let others = group_parts n members in
                let parts' = grown parts others in
                let first : 16 * end_of parts ≡ next_part + 0 = g.ends ∙ plus_none next_part in
                let spots = group_spots parts (length w.state.cells) n (next_part + 0) members g.new first in
                let y = moved_to x s.registers s.flags s.place in
                let py = places_kept plan act parts t.charged f.places f.outgoing x.registers s.registers x.bytes
                (one_scratch 2 x.registers s.registers refl s.kept) p in
                let py' = places_grown plan act parts parts' (words_stay parts others) t.charged t.charged f.places
                f.outgoing s.registers s.registers x.bytes (λ j e. refl) py.free py in
                let low : next_part + 0 + total ≤ stack = from_none next_part total stack fits_in in
                let pl = placed parts' 0 n members spills f y records some e spots low g.size_is py' s.ahead in
                let made_is : members_made (held inner) w.state members ≡ Some made = sym
                (same_members (held inner) w.state (t.charged + charged_all (member_bytes members)) members) ∙ v in
                let gz = pl.world parts w.state g in
                let r = records_made plan act parts parts' (spot_stays parts others)
                (le_refl parts.symbols) inner w.state next_part refl 0 n
                members made pl.z (item.Plain (AddNumber (Reg 12) (pos total)) ∷ rest) e made_is spots
                low pl.places_at gz pl.ahead in
                let a = r.ahead in
                let z1 : View = record pl.z { registers = r.registers; bytes = r.bytes; place = r.place } in
                let s2 = sum_of (r.registers 12) total in
                let u : View = record z1 {
                  registers = set_register r.registers 12 s2.value;
                  flags = s2.flags;
                  place =
                      r.place + a.0;
                } in
                let same : r.registers 12 ≡ next_part = r.kept 12 refl ∙ pl.places_at.free in
                let wrote : Wrote next_part (next_part + total) pl.z.bytes r.bytes = wrote_within next_part
                (next_part + total) (next_part + 0) (next_part + 0 + total) pl.z.bytes r.bytes (no_further next_part)
                (none_between next_part total) r.wrote in
                let g1 = store_wrote plan parts w.state pl.z.bytes r.bytes pl.z.output pl.z.answers next_part
                (next_part + total) (le_refl next_part) fits_in wrote gz in
                let count = made_count (held inner) w.state members made made_is in
                let none : length w.state.cells ≡ length w.state.cells + 0 = plus_none (length w.state.cells) in
                let new = group_new parts (length w.state.cells) n members g.new in
                let g2 = store_grown plan parts others w.state r.bytes pl.z.output pl.z.answers total
                (group_units n members) (joined_within heap t.charged total stack fits_in) (group_no_objects n members) g1 [] made
                (λ j o e. absurd (none-some o e)) r.each
                (subst (λ m. AreNew parts' (length w.state.cells + 0) (n + m)) (sym count)
                (subst (λ m. AreNew parts' m (n + length members)) none new)) in
                let w' : World = record {
                  state = record {
                    cells = w.state.cells;
                    store = record t
                        { charged = t.charged + charged_all (member_bytes members) };
                    procedures = w.state.procedures ++
                        made;
                  };
                  marks = w.marks ++ map Spill spills;
                } in
                let g' : At parts' w' u =
                subst (λ m. StoreAt plan parts'
                (record {
                  cells = w.state.cells;
                  store = record t { charged = t.charged + m };
                  procedures =
                      w.state.procedures ++ made;
                }) r.bytes pl.z.output pl.z.answers) (sym sum_is)
                (subst (λ cs. StoreAt plan parts'
                (record {
                  cells = cs;
                  store = record t { charged = t.charged + total };
                  procedures =
                      w.state.procedures ++ made;
                }) r.bytes pl.z.output pl.z.answers) (append-nil w.state.cells) g2) in
                let free : s2.value ≡ heap + (t.charged + charged_all (member_bytes members)) =
                next_free (r.registers 12) heap t.charged total stack same fits_in near ∙ ap (λ m. heap + (t.charged + m)) (sym sum_is) in
                let p1 = places_wrote plan act parts' t.charged inner.places inner.outgoing r.registers pl.z.bytes
                r.bytes next_part (next_part + total) fits_in wrote
                (places_kept plan act parts' t.charged inner.places inner.outgoing pl.z.registers r.registers
                pl.z.bytes (one_scratch 1 pl.z.registers r.registers refl r.kept) pl.places_at) in
                let p' : In parts' inner w' u = places_grown plan act parts' parts' (λ v n h. h) t.charged
                (t.charged + charged_all (member_bytes members)) inner.places inner.outgoing r.registers
                u.registers r.bytes (λ j i. kept_set (is_one 12) r.registers 12 s2.value refl j i) free p1 in
                let zero : u.registers 0 ≡ x.registers 0 = r.kept 0 refl ∙ pl.accumulator ∙ s.kept 0 refl in
                let acc' : Holds act.back parts' inner.accumulator (u.registers 0) = subst
                (λ c. Holds act.back parts' c (u.registers 0)) (sym
                (same_accumulator f members (procedures_from n (length members))))
                (subst (Holds act.back parts' f.accumulator) (sym zero)
                (holds_words act.back parts parts' (words_stay parts others) f.accumulator (x.registers 0) acc)) in
                after plan body_steps act parts parts' (words_stay parts others) before (waiting ++ map Spill spills) t
                w'.state.store x u (4 + 3 * length members + r.least + 1) (4 + 3 * length members + r.steps + 1) c cost _
                (leads_on setting.marks (leads_on setting.marks (leads_then setting.marks s.leads pl.leads) r.leads)
                (goes setting z1 u (AddNumber (Reg 12) (pos total)) a.0 [] a.1 refl))
                (λ b lo hi. other_word next_part (next_part + total) pl.z.bytes r.bytes wrote b
                (stack_behind_data plan b lo) (inr (up_to (next_part + total) stack b fits_in lo))
                ∙ pl.below b lo hi)
                (more_entries (4 + 3 * length members + r.least + 1) t.entries) (le_refl t.entries)
                (group_cost (3 * length members) r.steps (records_cost members) c (body_steps * t.entries + 10 * length t.answers) heap t.charged
                (charged_all (member_bytes members)) stack r.few)
                (K parts' (before ++ (waiting ++ map Spill spills)) [] inner w' u a.2 p' g' acc'
                (none_waits w'.marks before (waiting ++ map Spill spills)
                (ap (λ l. l ++ map Spill spills) marked ∙ append_assoc before waiting (map Spill spills))))
