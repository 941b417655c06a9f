-- The machine writes the records of procedures into the heap.
use Rattle.std.proofs.Common.{◌≡◌, ℕ, zero, suc, ◌+◌, ◌-◌, ◌*◌, ◌/◌, ◌^◌, ◌<◌, ◌≤◌, List, [], ◌∷◌, length, true}
use Rattle.std.proofs.Common.{Option, Some, None, refl, sym, ap, ◌∙◌, subst, arith, inl, append_assoc, append-nil}
use Rattle.std.specs.Prelude.{pos, nat_le, slice_get, ◌&&◌}
use Rattle.std.specs.List.{list_all}
use Rattle.std.proofs.lemmas.Bool.{and_parts}
use Rattle.std.proofs.lemmas.Option.{slice_get_within}
use Rattle.sch_word.specs.declared.place.Place.{Place}
use Rattle.sch_word.specs.values.Values.{Value}
use Rattle.sch_word.specs.runs.Computation.{State}
use Rattle.sch_control.specs.declared.operation.Closure.{Closure}
use Rattle.sch_control.specs.declared.operation.Member.{Member}
use Rattle.sch_control.specs.declared.operation.Source.{Source}
use Rattle.sch_control.specs.Operations.{and_value, source_value, source_values, members_made}
use Rattle.sch_word.specs.runs.Procedures.{Procedure}
use Rattle.sch_word.specs.values.Options.{when_some}
use Rattle.sch_frames.specs.Meaning.{Frame, held}
use Rattle.sch_frames.specs.Valid.{is_place}
use Rattle.sch_insn.specs.declared.insn.Arg.TheVariants.{Base32}
use Rattle.sch_insn.specs.declared.insn.Insn.TheVariants.{MovTo}
use Rattle.sch_insn.specs.Machine.{set_register}
use Rattle.sch_insn.proofs.Paths.{leads_on, leads_here}
use Rattle.sch_asm.specs.declared.item.Item.{Item}
use Rattle.sch_asm.specs.declared.item.Item.TheVariants as item
use Rattle.sch_word.specs.declared.mark.MarkKind.{MarkKind}
use Rattle.sch_word.specs.runs.ProgramLayout.{data_address}
use Rattle.sch_asm.specs.Stands.{Stands}
use Rattle.sch_asm.specs.Data.{Inside, word_in, with_word}
use Rattle.sch_asm.specs.Views.{View, Leads, full}
use Rattle.sch_asm.proofs.EachItem.{loads_label, stores_word}
use Rattle.sch_asm.proofs.Words.{word_same}
use Rattle.sch_select_memory.specs.Parts.{a_procedure, Part, Parts, units, end_of, Spot, spot, grown}
use Rattle.sch_select_memory.specs.Encoded.{IsWord}
use Rattle.sch_select_memory.specs.Heap.{RecordAt, AreNew, field_address}
use Rattle.sch_select_memory.proofs.heap.Spots.{spot_newest, end_grown}
use Rattle.sch_select_memory.proofs.heap.Encodings.{fits}
use Rattle.sch_select_memory.proofs.heap.Contents.{NoObjects, Stay, procedure_taken}
use Rattle.sch_select_memory.specs.Addresses.{body_label, part_operand}
use Rattle.sch_select_operations.specs.ClosureCode.{fields_code, record_code, closure_bytes, group_bytes, records_code}
use Rattle.sch_select_memory.proofs.Straight.{Kept, kept_set, kept_then, moved_to, is_one}
use Rattle.sch_select_memory.proofs.Places.{Plan, code_of, heap_above, Activation, StoreAt, PlacesAt}
use Rattle.sch_select_memory.proofs.Places.{places_kept}
use Rattle.sch_select_memory.proofs.HeapWrites.{Wrote, other_word, wrote_none, wrote_one, wrote_then}
use Rattle.sch_select_memory.proofs.HeapWrites.{wrote_within, store_wrote, heap_inside, places_wrote}
use Rattle.sch_select_operations.proofs.simulation.Sources.{Sourced, Sources, source_here}
use Rattle.sch_select_operations.proofs.simulation.Cells.{one_scratch}
use Rattle.sch_select_operations.proofs.simulation.SelectedPrograms.{source_selected, closure_selected, members_selected}

-- ---- sizes

-- how many units a record has beside its first
abbrev pub more_of : Closure Place → ℕ
more_of c = (8 + 8 * length c.fields + 15) / 16 - 1

pub bytes_are : (c : Closure Place) → closure_bytes c ≡ 16 * suc (more_of c)
bytes_are c = omega arith

pub fields_fit : (c : Closure Place) → 8 + 8 * length c.fields ≤ 16 * suc (more_of c)
fields_fit c = omega arith

-- the parts of a group, whose first procedure has the number n
abbrev pub group_parts : ℕ → List (Member Place) → List Part
group_parts n [] = []
group_parts n (m ∷ members) = record { owner = a_procedure n; more = more_of m.closure } ∷ group_parts (suc n) members

pub group_units : (n : ℕ) (members : List (Member Place)) → 16 * units (group_parts n members) ≡ group_bytes members
group_units n [] = refl
group_units n (m ∷ members) = let h = group_units (suc n) members in let b = bytes_are m.closure in omega (arith, h, b)

-- Where the records of a group are.
abbrev pub AreSpots : Parts → (next n : ℕ) → List (Member Place) → Type 0
AreSpots parts next n [] = Unit {0}
AreSpots parts next n (m ∷ members) =
    ((at : Spot) × (spot parts (a_procedure n) ≡ Some at) × (16 * at.unit ≡ next) × (at.more ≡ more_of m.closure))
    × AreSpots parts (next + closure_bytes m.closure) (suc n) members

-- a group's parts lie behind the others, one behind the other
pub group_spots : (parts : Parts) (cells n next : ℕ) (members : List (Member Place)) → AreNew parts cells n
    → 16 * end_of parts ≡ next → AreSpots (grown parts (group_parts n members)) next n members
group_spots parts cells n next [] new at = tt
group_spots parts cells n next (m ∷ members) new at =
    let one : List Part = record { owner = a_procedure n; more = more_of m.closure } ∷ [] in
    let e = end_grown parts one in let b = bytes_are m.closure in (
      (
        record { unit = end_of parts; more = more_of m.closure },
        spot_newest parts (a_procedure n) (more_of m.closure)
            (group_parts (suc n) members) (new.procedure n (omega arith)),
        at,
        refl,
      ),
      subst (λ l. AreSpots (record parts { list = l }) (next + closure_bytes m.closure) (suc n) members)
          (append_assoc parts.list one (group_parts (suc n) members))
          (group_spots (grown parts one) cells (suc n) (next + closure_bytes m.closure) members
          (procedure_taken parts cells n (more_of m.closure) new) (omega (arith, e, b, at))),
    )

-- and there are no others
pub group_new : (parts : Parts) (cells n : ℕ) (members : List (Member Place)) → AreNew parts cells n
    → AreNew (grown parts (group_parts n members)) cells (n + length members)
group_new parts cells n [] new =
    let z : n ≡ n + 0 = omega arith in
    subst (λ l. AreNew (record parts { list = l }) cells (n + 0)) (sym (append-nil parts.list))
    (subst (AreNew parts cells) z new)
group_new parts cells n (m ∷ members) new =
    let one : List Part = record { owner = a_procedure n; more = more_of m.closure } ∷ [] in
    let s : suc n + length members ≡ n + length (m ∷ members) = omega arith in
    subst (λ l. AreNew (record parts { list = l }) cells (n + length (m ∷ members)))
    (append_assoc parts.list one (group_parts (suc n) members))
    (subst (AreNew (grown (grown parts one) (group_parts (suc n) members)) cells) s
    (group_new (grown parts one) cells (suc n) members (procedure_taken parts cells n (more_of m.closure) new)))

-- and none is an object's
pub group_no_objects : (n : ℕ) (members : List (Member Place)) → NoObjects (group_parts n members)
group_no_objects n [] = record { pairs = λ k. refl; vectors = λ k. refl; strings = λ k. refl }
group_no_objects n (m ∷ members) =
    let h = group_no_objects (suc n) members in
    record { pairs = λ k. h.pairs k; vectors = λ k. h.vectors k; strings = λ k. h.strings k }

-- in how many steps the records of a group are written at most
abbrev pub records_cost : List (Member Place) → ℕ
records_cost [] = 0
records_cost (m ∷ members) = 2 + 3 * length m.closure.fields + records_cost members

-- ---- two values that are both there

pub both_there : {A : Type 0} (a : Option A) (others : Option (List A)) (all : List A) → and_value a others ≡ Some all
    → (x : A) × (xs : List A) × (a ≡ Some x) × (others ≡ Some xs) × (all ≡ x ∷ xs)
both_there (Some x) (Some xs) all e = let f : Some (x ∷ xs) ≡ Some all = e in let s : x ∷ xs ≡ all = cc in
    (x, xs, refl, refl, sym s)
both_there None others all e = absurd (let bad : None ≡ Some all = e in cc)
both_there (Some x) None all e = absurd (let bad : None ≡ Some all = e in cc)

module _ (plan : Plan) (act : Activation plan) (old parts : Parts) (stay : Stay old parts)
    (more : old.symbols ≤ parts.symbols) (f : Frame)
    (s : State Procedure) (next : ℕ) (next_is : plan.heap + s.store.charged ≡ next) where
  open plan use {setting, size, words, literals, globals, symbols, closures, heap, stack, near}

  abbrev Std : List MarkKind → ℕ → List Item → Type 0
  Std waiting a is = Stands setting waiting a is

  abbrev In : View → Type 0
  In x = PlacesAt plan act parts s.store.charged f.places f.outgoing x.registers x.bytes

  abbrev At : View → Type 0
  At x = StoreAt plan old s x.bytes x.output x.answers

  -- a word of the free heap is stored from RCX
  record Stored (o v : ℕ) (x : View) (following : List Item) : Type 0 where
    place : ℕ
    leads : Leads setting 1 1 [] x (record x { bytes = with_word x.bytes (next + o) v; place = place })
    wrote : Wrote (next + o) (next + o + 8) x.bytes (with_word x.bytes (next + o) v)
    same : v < 2 ^ 64 → word_in (with_word x.bytes (next + o) v) (next + o) ≡ v
    ahead : Std [] place following

  stored : (o : ℕ) (x : View) (following : List Item) → In x → At x → next + o + 8 ≤ stack
      → Std [] x.place (item.Plain (MovTo (part_operand o) 1) ∷ following) → Stored o (x.registers 1) x following
  stored o x following p g le h =
      let e = p.free in let i = next_is in let n = near in let hl = plan.heap_low in let cl = plan.closures_low in
      let within : Inside (length x.bytes) (next + o) = heap_inside plan act (next + o) x.bytes g.size_is
      (omega (arith, i, hl)) (omega (arith, le)) in
      record {
        place = x.place + h.0;
        leads = stores_word setting x 1 h.0 (next + o) (Base32 12 (pos o)) [] h.1 (omega (arith, e, i, n, le)) within;
        wrote = wrote_one (next + o) (next + o + 8) (next + o) (x.registers 1) x.bytes within (omega arith)
            (omega arith);
        same = λ small. word_same x.bytes (next + o) (x.registers 1) within small;
        ahead = h.2;
      }

  -- the state and the places, after words of the free heap were written
  at_after : (x : View) (registers : ℕ → ℕ) (bytes : List ℕ) (from to place : ℕ) → next ≤ from → to ≤ stack
      → Wrote from to x.bytes bytes → At x → At (record x { registers = registers; bytes = bytes; place = place })
  at_after x registers bytes from to place lo hi w g = let i = next_is in store_wrote plan old s x.bytes bytes
      x.output x.answers from to (omega (arith, lo, i)) hi w g

  in_after : (x : View) (registers : ℕ → ℕ) (bytes : List ℕ) (from to place : ℕ) → to ≤ stack
      → Kept (is_one 1) x.registers registers → Wrote from to x.bytes bytes → In x
      → In (record x { registers = registers; bytes = bytes; place = place })
  in_after x registers bytes from to place hi k w p =
      places_wrote plan act parts s.store.charged f.places f.outgoing registers x.bytes bytes from to hi w
      (places_kept plan act parts s.store.charged f.places f.outgoing x.registers registers x.bytes
      (one_scratch 1 x.registers registers refl k) p)

  -- ---- the fields of a record

  record Filled (o : ℕ) (vs : List Value) (x : View) (following : List Item) : Type 0 where
    registers : ℕ → ℕ
    bytes : List ℕ
    place : ℕ
    least : ℕ
    steps : ℕ
    leads : Leads setting least steps [] x (record x { registers = registers; bytes = bytes; place = place })
    few : steps ≤ 3 * length vs
    kept : Kept (is_one 1) x.registers registers
    wrote : Wrote (next + o) (next + o + 8 * length vs) x.bytes bytes
    field : (k : ℕ) (v : Value) → slice_get vs k ≡ Some v → IsWord parts v (word_in bytes (next + o + 8 * k))
    ahead : Std [] place following

  fields_filled : (o : ℕ) (sources : List (Source Place)) (vs : List Value) (x : View) (following : List Item)
      → list_all (source_selected words globals (length symbols) literals) sources ≡ true
      → source_values (held f) s sources ≡ Some vs
      → next + o + 8 * length sources ≤ stack → In x → At x → Std [] x.place (fields_code o sources following)
      → Filled o vs x following
  fields_filled o [] vs x following e v le p g h =
      let f : Some [] ≡ Some vs = v in
      let is : [] ≡ vs = cc in
      subst (λ vs. Filled o vs x following) is
      (record {
        registers = x.registers;
        bytes = x.bytes;
        place = x.place;
        least = 0;
        steps = 0;
        leads = leads_here
            setting.marks (full setting x);
        few = omega arith;
        kept = λ k i. refl;
        wrote = wrote_none (next + o)
            (next + o + 0) x.bytes;
        field = λ k v i. absurd (let bad : None ≡ Some v = i in cc);
        ahead = h;
      })
  fields_filled o (q ∷ sources) all x following e v le p g h =
      let b = both_there (source_value (held f) s q) (source_values (held f) s sources) all v in
      let u = b.0 in let us = b.1 in
      let checks = and_parts (source_selected words globals (length symbols) literals q)
      (list_all (source_selected words globals (length symbols) literals) sources) e in
      let code = item.Plain (MovTo (part_operand o) 1) ∷ fields_code (o + 8) sources following in
      let r : Sourced plan act old parts stay 1 x [] u code = subst
      (λ o. Sources plan act old parts stay 1 x [] code o) b.2
      (source_here plan act old parts stay 1 q s.store.charged f s x [] code more checks.0 p g h) in
      let y = moved_to x r.registers x.flags r.place in
      let py = in_after x r.registers x.bytes (next + o) (next + o) r.place (omega (arith, le)) r.kept
      (wrote_none (next + o) (next + o) x.bytes) p in
      let st = stored o y (fields_code (o + 8) sources following) py g (omega (arith, le)) r.ahead in
      let bytes1 = with_word x.bytes (next + o) (r.registers 1) in
      let z : View = record y { bytes = bytes1; place = st.place } in
      let pz = in_after y r.registers bytes1 (next + o) (next + o + 8) st.place (omega (arith, le)) (λ k i. refl)
      st.wrote py in
      let gz = at_after y r.registers bytes1 (next + o) (next + o + 8) st.place (omega arith) (omega (arith, le))
      st.wrote g in
      let rec = fields_filled (o + 8) sources us z following checks.1 b.3 (omega (arith, le)) pz gz st.ahead in
      subst (λ vs. Filled o vs x following) (sym b.4)
      (record {
        registers = rec.registers;
        bytes = rec.bytes;
        place = rec.place;
        least = r.least + 1 + rec.least;
        steps = r.steps + 1 + rec.steps;
        leads = leads_on setting.marks (leads_on setting.marks r.leads st.leads) rec.leads;
        few = (let a = r.few in let b = rec.few in omega (arith, a, b));
        kept = kept_then (is_one 1) x.registers r.registers rec.registers r.kept rec.kept;
        wrote = wrote_then (next + o) (next + o + 8 * length (u ∷ us)) x.bytes bytes1 rec.bytes
            (wrote_within (next + o) (next + o + 8 * length (u ∷ us)) (next + o) (next + o + 8) x.bytes bytes1
            (omega arith) (omega arith) st.wrote)
            (wrote_within (next + o) (next + o + 8 * length (u ∷ us)) (next + (o + 8))
            (next + (o + 8) + 8 * length us) bytes1 rec.bytes (omega arith) (omega arith) rec.wrote);
        field = field_at u us r.value bytes1 rec.bytes (st.same (fits parts u (r.registers 1) r.value)) rec.wrote
            rec.field;
        ahead = rec.ahead;
      })
    where
      low : data_address ≤ next
      low = let i = next_is in let hl = heap_above plan in omega (arith, i, hl)

      field_at : (u : Value) (us : List Value) {n : ℕ} → IsWord parts u n → (bytes1 bytes2 : List ℕ)
          → word_in bytes1 (next + o) ≡ n → Wrote (next + (o + 8)) (next + (o + 8) + 8 * length us) bytes1 bytes2
          → ((k : ℕ) (v : Value) → slice_get us k ≡ Some v → IsWord parts v (word_in bytes2 (next + (o + 8) + 8 * k)))
          → (k : ℕ) (v : Value) → slice_get (u ∷ us) k ≡ Some v → IsWord parts v (word_in bytes2 (next + o + 8 * k))
      field_at u us hu bytes1 bytes2 same w rec zero v i =
          let is : u ≡ v = cc in
          let z : next + o + 8 * 0 ≡ next + o = omega arith in
          let l = low in
          subst (λ v. IsWord parts v (word_in bytes2 (next + o + 8 * 0))) is
          (subst (IsWord parts u) (sym (ap (word_in bytes2) z ∙ other_word (next + (o + 8))
          (next + (o + 8) + 8 * length us) bytes1 bytes2 w (next + o) (omega (arith, l)) (inl (omega arith)) ∙ same))
          hu)
      field_at u us hu bytes1 bytes2 same w rec (suc k) v i =
          let z : next + (o + 8) + 8 * k ≡ next + o + 8 * suc k = omega arith in
          subst (λ a. IsWord parts v (word_in bytes2 a)) z (rec k v i)

  -- ---- a record

  pub record Recorded (o n : ℕ) (p : Procedure) (x : View) (following : List Item) : Type 0 where
    pub registers : ℕ → ℕ
    pub bytes : List ℕ
    pub place : ℕ
    pub least : ℕ
    pub steps : ℕ
    pub leads : Leads setting least steps [] x (record x { registers = registers; bytes = bytes; place = place })
    pub few : steps ≤ 2 + 3 * length p.fields
    pub kept : Kept (is_one 1) x.registers registers
    pub wrote : Wrote (next + o) (next + o + 8 + 8 * length p.fields) x.bytes bytes
    pub is : RecordAt (code_of plan) parts bytes n p
    pub ahead : Std [] place following

  pub values_count : (sources : List (Source Place)) (vs : List Value) → source_values (held f) s sources ≡ Some vs
      → length vs ≡ length sources
  values_count [] vs e = let f : Some [] ≡ Some vs = e in let is : [] ≡ vs = cc in ap length (sym is)
  values_count (q ∷ sources) vs e =
      let b = both_there (source_value (held f) s q) (source_values (held f) s sources) vs e in
      let h = values_count sources b.1 b.3 in
      ap length b.4 ∙ ap suc h

  pub recorded : (o n : ℕ) (c : Closure Place) (vs : List Value) (at : Spot) (x : View) (following : List Item)
      → closure_selected words globals (length symbols) literals c ≡ true → source_values (held f) s c.fields ≡ Some vs
      → spot parts (a_procedure n) ≡ Some at → 16 * at.unit ≡ next + o → at.more ≡ more_of c
      → next + o + closure_bytes c ≤ stack → In x → At x → Std [] x.place (record_code o c following)
      → Recorded o n (record { label = c.label; fields = vs }) x following
  recorded o n c vs at x following e v there unit more le p g h =
      let checks = and_parts (nat_le (length c.fields) 1000) (list_all (source_selected words globals
      (length symbols) literals) c.fields) e in
      let count = values_count c.fields vs v in
      let b = bytes_are c in let ff = fields_fit c in
      let y : View = record x { registers = set_register x.registers 1 (code_of plan c.label); place = x.place + h.0 }
      in
      let ky = kept_set (is_one 1) x.registers 1 (code_of plan c.label) refl in
      let py = in_after x y.registers x.bytes (next + o) (next + o) y.place (omega (arith, le)) ky
      (wrote_none (next + o) (next + o) x.bytes) p in
      let st = stored o y (fields_code (o + 8) c.fields following) py g (omega (arith, le, b, ff)) h.4 in
      let bytes1 = with_word x.bytes (next + o) (code_of plan c.label) in
      let z : View = record y { bytes = bytes1; place = st.place } in
      let pz = in_after y y.registers bytes1 (next + o) (next + o + 8) st.place (omega (arith, le, b, ff))
      (λ k i. refl) st.wrote py in
      let gz = at_after y y.registers bytes1 (next + o) (next + o + 8) st.place (omega arith)
      (omega (arith, le, b, ff)) st.wrote g in
      let rec = fields_filled (o + 8) c.fields vs z following checks.1 v (omega (arith, le, b, ff)) pz gz st.ahead in
      let i = next_is in let hl = heap_above plan in
      let code : word_in rec.bytes (16 * at.unit) ≡ code_of plan c.label = ap (word_in rec.bytes) unit
      ∙ other_word (next + (o + 8)) (next + (o + 8) + 8 * length vs) bytes1 rec.bytes rec.wrote (next + o)
      (omega (arith, i, hl)) (inl (omega arith))
      ∙ st.same (plan.labels (body_label c.label)) in
      record {
        registers = rec.registers;
        bytes = rec.bytes;
        place = rec.place;
        least = 1 + 1 + rec.least;
        steps = 1 + 1 + rec.steps;
        leads = leads_on setting.marks (leads_on setting.marks
            (loads_label setting x 1 (body_label c.label) (item.Plain (MovTo (part_operand o) 1) ∷ fields_code (o + 8)
            c.fields following) [] h) st.leads) rec.leads;
        few = (let q = rec.few in omega (arith, q));
        kept = kept_then (is_one 1) x.registers y.registers rec.registers ky rec.kept;
        wrote = wrote_then (next + o) (next + o + 8 + 8 * length vs) x.bytes bytes1 rec.bytes
            (wrote_within (next + o) (next + o + 8 + 8 * length vs) (next + o) (next + o + 8) x.bytes bytes1
            (omega arith) (omega arith) st.wrote)
            (wrote_within (next + o) (next + o + 8 + 8 * length vs) (next + (o + 8)) (next + (o + 8) + 8 * length vs)
            bytes1 rec.bytes (omega arith) (omega arith) rec.wrote);
        is = record {
          at = at;
          there = there;
          room = omega (arith, count, ff, more);
          code = code;
          field = λ k v q. let a : next + (o + 8) + 8 * k ≡ field_address at.unit k = omega (arith, unit) in subst
              (λ a. IsWord parts v (word_in rec.bytes a)) a (rec.field k v q);
        };
        ahead = rec.ahead;
      }

  -- ---- the records of a group

  pub record Grouped (o n : ℕ) (made : List Procedure) (total most : ℕ) (x : View) (following : List Item) : Type
      0 where
    pub registers : ℕ → ℕ
    pub bytes : List ℕ
    pub place : ℕ
    pub least : ℕ
    pub steps : ℕ
    pub leads : Leads setting least steps [] x (record x { registers = registers; bytes = bytes; place = place })
    pub few : steps ≤ most
    pub kept : Kept (is_one 1) x.registers registers
    pub wrote : Wrote (next + o) (next + o + total) x.bytes bytes
    pub each : (i : ℕ) (p : Procedure) → slice_get made i ≡ Some p → RecordAt (code_of plan) parts bytes (n + i) p
    pub ahead : Std [] place following

  -- a record stays where words behind it are written
  record_stays : (n : ℕ) (p : Procedure) (at : Spot) (bytes bytes' : List ℕ) (from to : ℕ)
      → spot parts (a_procedure n) ≡ Some at → 16 * at.unit + 16 * suc at.more ≤ from → data_address ≤ 16 * at.unit
      → Wrote from to bytes bytes' → RecordAt (code_of plan) parts bytes n p → RecordAt (code_of plan) parts bytes' n p
  record_stays n p at bytes bytes' from to there le low w r =
      let e : Some r.at ≡ Some at = sym r.there ∙ there in
      let same : r.at ≡ at = cc in
      let u : r.at.unit ≡ at.unit = ap (λ s. s.unit) same in
      let m : r.at.more ≡ at.more = ap (λ s. s.more) same in
      let room = r.room in
      record {
        at = r.at;
        there = r.there;
        room = r.room;
        code = other_word from to bytes bytes' w (16 * r.at.unit) (omega (arith, u, low))
            (inl (omega (arith, u, m, le))) ∙ r.code;
        field = λ k v i. let lt = slice_get_within p.fields k v i in
            subst (IsWord parts v) (sym (other_word from to bytes bytes' w (field_address r.at.unit k)
            (omega (arith, u, low)) (inl (omega (arith, u, m, le, room, lt))))) (r.field k v i);
      }

  -- what a member is made of
  record IsMade (m : Member Place) (p : Procedure) : Type 0 where
    vs : List Value
    values : source_values (held f) s m.closure.fields ≡ Some vs
    is : record { label = m.closure.label; fields = vs } ≡ p

  member_made : (m : Member Place) (p : Procedure) → when_some (source_values (held f) s m.closure.fields)
      (λ vs. Some (record { label = m.closure.label; fields = vs })) ≡ Some p → IsMade m p
  member_made m p e = by (source_values (held f) s m.closure.fields) refl e
    where
      by : (o : Option (List Value)) → source_values (held f) s m.closure.fields ≡ o
          → when_some o (λ vs. Some (record { label = m.closure.label; fields = vs })) ≡ Some p → IsMade m p
      by None v e = absurd (let bad : None ≡ Some p = e in cc)
      by (Some vs) v e = let g : Some (record { label = m.closure.label; fields = vs }) ≡ Some p = e in record
          { vs = vs; values = v; is = cc }

  pub records_made : (o n : ℕ) (members : List (Member Place)) (made : List Procedure) (x : View)
      (following : List Item) → members_selected words globals (length symbols) literals members ≡ true
      → members_made (held f) s members ≡ Some made → AreSpots parts (next + o) n members
      → next + o + group_bytes members ≤ stack → In x → At x → Std [] x.place (records_code o members following)
      → Grouped o n made (group_bytes members) (records_cost members) x following
  records_made o n [] made x following e v spots le p g h =
      let g : Some [] ≡ Some made = v in
      let is : [] ≡ made = cc in
      subst (λ made. Grouped o n made 0 0 x following) is
      (record {
        registers = x.registers;
        bytes = x.bytes;
        place = x.place;
        least = 0;
        steps = 0;
        leads = leads_here
            setting.marks (full setting x);
        few = omega arith;
        kept = λ k i. refl;
        wrote = wrote_none (next + o)
            (next + o + 0) x.bytes;
        each = λ i p q. absurd (let bad : None ≡ Some p = q in cc);
        ahead = h;
      })
  records_made o n (m ∷ members) made x following e v spots le p g h =
      let b = both_there (when_some (source_values (held f) s m.closure.fields)
      (λ vs. Some (record { label = m.closure.label; fields = vs }))) (members_made (held f) s members) made v in
      let own = member_made m b.0 b.2 in
      let checks = and_parts (is_place words m.at) (closure_selected words globals
      (length symbols) literals m.closure && members_selected words
      globals (length symbols) literals members) e in
      let shaped = and_parts (closure_selected words globals (length symbols) literals m.closure)
      (members_selected words globals (length symbols) literals members)
      checks.1 in
      let at = spots.0.0 in let there = spots.0.1 in let unit = spots.0.2 in let more = spots.0.3 in
      let size = closure_bytes m.closure in
      let first : Recorded o n b.0 x (records_code (o + size) members following) =
      subst (λ p. Recorded o n p x (records_code (o + size) members following)) own.is
      (recorded o n m.closure own.vs at x (records_code (o + size) members following) shaped.0 own.values there unit
      more (omega (arith, le)) p g h) in
      let fields : length b.0.fields ≡ length m.closure.fields = ap (λ p. length p.fields) (sym own.is)
      ∙ values_count m.closure.fields own.vs own.values in
      let fit = fields_fit m.closure in let sz = bytes_are m.closure in
      let z : View = record x { registers = first.registers; bytes = first.bytes; place = first.place } in
      let wrote1 : Wrote (next + o) (next + o + size) x.bytes first.bytes = wrote_within (next + o) (next + o + size)
      (next + o) (next + o + 8 + 8 * length b.0.fields) x.bytes first.bytes (omega arith)
      (omega (arith, fields, fit, sz)) first.wrote in
      let pz = in_after x first.registers first.bytes (next + o) (next + o + size) first.place (omega (arith, le))
      first.kept wrote1 p in
      let gz = at_after x first.registers first.bytes (next + o) (next + o + size) first.place (omega arith)
      (omega (arith, le)) wrote1 g in
      let shift : next + o + size ≡ next + (o + size) = omega arith in
      let rec = records_made (o + size) (suc n) members b.1 z following shaped.1 b.3
      (subst (λ a. AreSpots parts a (suc n) members) shift spots.1) (omega (arith, le)) pz gz first.ahead in
      let i = next_is in let hl = heap_above plan in
      let kept_head : RecordAt (code_of plan) parts rec.bytes n b.0 = record_stays n b.0 at first.bytes rec.bytes
      (next + (o + size)) (next + (o + size) + group_bytes members) there (omega (arith, unit, more, sz))
      (omega (arith, unit, i, hl)) rec.wrote first.is in
      subst (λ made. Grouped o n made (group_bytes (m ∷ members)) (records_cost (m ∷ members)) x following) (sym b.4)
      (record {
        registers = rec.registers;
        bytes = rec.bytes;
        place = rec.place;
        least = first.least + rec.least;
        steps = first.steps + rec.steps;
        leads = leads_on setting.marks first.leads rec.leads;
        few = (let a = first.few in let b = rec.few in omega (arith, a, b, fields));
        kept = kept_then (is_one 1) x.registers first.registers rec.registers first.kept rec.kept;
        wrote = wrote_then (next + o) (next + o + group_bytes (m ∷ members)) x.bytes first.bytes rec.bytes
            (wrote_within (next + o) (next + o + group_bytes (m ∷ members)) (next + o) (next + o + size) x.bytes
            first.bytes (omega arith) (omega arith) wrote1)
            (wrote_within (next + o) (next + o + group_bytes (m ∷ members)) (next + (o + size))
            (next + (o + size) + group_bytes members) first.bytes rec.bytes (omega arith) (omega arith) rec.wrote);
        each = each_at b.0 b.1 rec.bytes kept_head rec.each;
        ahead = rec.ahead;
      })
    where
      each_at : (p : Procedure) (ps : List Procedure) (bytes : List ℕ) → RecordAt (code_of plan) parts bytes n p
          → ((i : ℕ) (q : Procedure) → slice_get ps i ≡ Some q → RecordAt (code_of plan) parts bytes (suc n + i) q)
          → (i : ℕ) (q : Procedure) → slice_get (p ∷ ps) i ≡ Some q → RecordAt (code_of plan) parts bytes (n + i) q
      each_at p ps bytes h r zero q e =
          let is : p ≡ q = cc in
          let z : n ≡ n + 0 = omega arith in
          subst (λ n. RecordAt (code_of plan) parts bytes n q) z (subst (RecordAt (code_of plan) parts bytes n) is h)
      each_at p ps bytes h r (suc i) q e = let z : suc n + i ≡ n + suc i = omega arith in subst
          (λ n. RecordAt (code_of plan) parts bytes n q) z (r i q e)
