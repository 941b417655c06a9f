-- The machine reads vectors and sets their elements (R5RS 6.3.6).
use Rattle.std.proofs.Common.{◌≡◌, ℕ, suc, ◌+◌, ◌*◌, ◌^◌, ◌<◌, ◌≤◌, List, [], ◌∷◌, ◌++◌, length, Bool, true}
use Rattle.std.proofs.Common.{false, Some, refl, sym, ap, ◌∙◌, subst, arith, inl, inr, ⊎_elim, ◌==◌, ◌⊎◌}
use Rattle.std.specs.Prelude.{ℤ, pos, negsuc, nat_abs, slice_get, slice_set}
use Rattle.std.proofs.lemmas.Bool.{eqb-true, eqb-false, cases_lt}
use Rattle.std.proofs.lemmas.List.{length-set}
use Rattle.sch_word.specs.declared.answer.Answer.{Answer}
use Rattle.sch_word.specs.declared.stop.Stop.TheVariants.{WrongType, OutOfRange}
use Rattle.sch_word.specs.values.Values.{Value, fixnum, unspecified, object, Object, vector}
use Rattle.sch_word.specs.values.PrimitiveRows.{is_vector, is_index, is_integer, object_at, vector_or_stop, as_vector, as_fixnum}
use Rattle.sch_word.specs.values.PrimitiveRows.{in_range, element, write_object}
use Rattle.sch_word.specs.runs.Store.{Store}
use Rattle.sch_word.specs.runs.Computation.{Outcome, Action, gives, require, State, with_rest}
use Rattle.sch_word.specs.runs.Procedures.{Procedure}
use Rattle.sch_control.specs.Meaning.{World, Result, on_outcome}
use Rattle.sch_frames.specs.Meaning.{Frame, Is}
use Rattle.sch_insn.specs.declared.insn.Arg.TheVariants.{Reg, Base32}
use Rattle.sch_insn.specs.declared.insn.Insn.TheVariants.{MovTo, MovFrom, MovNumber, AddTo}
use Rattle.sch_insn.specs.declared.state.Flags.{Flags}
use Rattle.sch_insn.specs.Machine.{set_register, add64, word, sum_of}
use Rattle.sch_insn.proofs.Paths.{leads_on}
use Rattle.sch_asm.specs.declared.item.Item.{Item}
use Rattle.sch_asm.specs.declared.item.Item.TheVariants as item
use Rattle.sch_word.specs.declared.mark.MarkKind.{MarkKind}
use Rattle.sch_asm.specs.Stands.{Stands}
use Rattle.sch_asm.specs.Data.{FixnumWord, Inside, word_in, with_word}
use Rattle.sch_asm.specs.Effects.{is_scratch}
use Rattle.sch_asm.specs.Views.{View, Leads}
use Rattle.sch_asm.proofs.EachItem.{goes, loads_word, stores_word}
use Rattle.sch_asm.proofs.Words.{word_same, word_other}
use Rattle.sch_select_memory.specs.Addresses.{max_heap_end}
use Rattle.sch_select_memory.specs.Parts.{a_vector, Parts, Spot, spot}
use Rattle.sch_select_memory.specs.Encoded.{IsWord}
use Rattle.sch_select_memory.specs.Heap.{VectorAt, field_address}
use Rattle.sch_select_memory.proofs.heap.Spots.{spot_within}
use Rattle.sch_select_memory.proofs.heap.Encodings.{fits, integer_tested}
use Rattle.sch_word.proofs.facts.Lists.{set_here, set_elsewhere, get_there}
use Rattle.sch_word.specs.runs.ProgramLayout.{data_address}
use Rattle.sch_select_memory.proofs.heap.Elements.{index_word}
use Rattle.sch_select_memory.proofs.heap.Objects.{vector_of, vector_tested, vector_named, no_vector, one_spot}
use Rattle.sch_select_memory.proofs.heap.Quotients.{positive_word}
use Rattle.sch_select_operations.specs.ObjectCode.{length_code, vector_ref_code, vector_set_code, check_index}
use Rattle.sch_select_memory.specs.Checks.{check_fixnum}
use Rattle.sch_select_memory.proofs.Straight.{halts_after, Kept, is_free, kept_set, kept_then, moved_to}
use Rattle.sch_select_memory.proofs.Straight.{tagged, Comes, comes_after, fixnum_checked}
use Rattle.sch_select_memory.proofs.Places.{Plan, Activation, StoreAt, heap_above, places_kept}
use Rattle.sch_select_memory.proofs.HeapWrites.{Wrote, wrote_one, other_word, heap_inside, places_wrote}
use Rattle.sch_select_operations.proofs.objects.ObjectWrites.{object_written}
use Rattle.sch_select_operations.proofs.objects.Tags.{TagTested, tag_checked, one_of}
use Rattle.sch_select_operations.proofs.objects.Indices.{fixnum_of, no_fixnum, Checked, fixnum_decided, Ranged}
use Rattle.sch_select_operations.proofs.objects.Indices.{index_decided}
use Rattle.sch_select_memory.proofs.simulation.Outcomes.{after, Laid, stops_here}
use Rattle.sch_select_operations.proofs.simulation.Operations.{Std, FrameOf, StoreOf, SimOf, Rest, next_of, none_waits}

-- ---- the words of a vector

-- the element's address, from the vector's word and the index's
element_named : (unit k w : ℕ) → w ≡ 16 * unit + 2 → 16 * unit + 8 + 8 * k < 2 ^ 32
    → add64 (add64 w (8 * k)) (word (pos 6)) ≡ field_address unit k
element_named unit k w e lt = omega (arith, e, lt)

length_named : (unit w : ℕ) → w ≡ 16 * unit + 2 → 16 * unit < 2 ^ 32 → add64 w (word (negsuc 1)) ≡ 16 * unit
length_named unit w e lt = omega (arith, e, lt)

module _ (plan : Plan) (act : Activation plan) (parts : Parts) (s : State Procedure) where
  open plan use {setting, size, closures, heap, stack, near}

  -- a value that is a vector, with its words
  pub record VectorHere (v : Value) (x : ℕ) (bytes : List ℕ) : Type 0 where
    pub number : ℕ
    pub value : v ≡ object number
    pub elements : List Value
    pub there : slice_get s.store.objects number ≡ Some (vector elements)
    pub at : Spot
    pub spotted : spot parts (a_vector number) ≡ Some at
    pub is : x ≡ 16 * at.unit + 2
    pub room : 8 + 8 * length elements ≤ 16 * suc at.more
    pub size_word : word_in bytes (16 * at.unit) ≡ 8 * length elements
    pub element_word : (k : ℕ) (u : Value) → slice_get elements k ≡ Some u
        → IsWord parts u (word_in bytes (field_address at.unit k))
    pub low : closures ≤ 16 * at.unit
    pub high : 16 * at.unit + 16 * suc at.more ≤ stack

  pub vector_here : (v : Value) (x : ℕ) (bytes output : List ℕ) (answers : List Answer)
      → StoreAt plan parts s bytes output answers → IsWord parts v x → is_vector (object_at v s.store) ≡ true
      → VectorHere v x bytes
  vector_here v x bytes output answers g h e =
      let p = vector_of s.store v e in
      let named = vector_named parts s.store g.contents.kinds p.number x p.elements
      (subst (λ v. IsWord parts v x) p.value h) p.there in
      let q : VectorAt parts bytes p.number p.elements = g.contents.object p.number (vector p.elements) p.there in
      let same = one_spot parts (a_vector p.number) named.at q.at named.there q.there in
      let inside = spot_within parts (a_vector p.number) q.at q.there in
      let lo = inside.0 in let hi = inside.1 in let b = g.begins in let z = g.ends in let i = g.within in
      record {
        number = p.number;
        value = p.value;
        elements = p.elements;
        there = p.there;
        at = q.at;
        spotted = q.there;
        is = named.is ∙ ap (λ s. 16 * s.unit + 2) same;
        room = q.room;
        size_word = q.size;
        element_word = q.element;
        low = omega (arith, lo, b);
        high = omega (arith, hi, z, i);
      }

  -- what is done with a vector, and with anything else
  pub with_vector : (v : Value) (x : ℕ) (bytes : List ℕ) (next : List Value → Action Value) (p : VectorHere v x bytes)
      → as_vector v next s.store ≡ next p.elements s.store
  with_vector v x bytes next p = ap (λ v. as_vector v next s.store) p.value
      ∙ ap (λ o. vector_or_stop o next s.store) p.there

  -- ---- the length

  pub vector_length_here : (v : Value) (x : View) (waiting : List MarkKind) (rest : List Item)
      → StoreAt plan parts s x.bytes x.output x.answers → IsWord parts v (x.registers 0)
      → Stands setting waiting x.place (length_code 2 (Base32 0 (negsuc 1)) rest)
      → Comes setting parts is_free x waiting 5 s.store rest
      (as_vector v (λ vs. gives (fixnum (pos (length vs)))) s.store)
  vector_length_here v x waiting rest g h st =
      by (is_vector (object_at v s.store)) refl (tag_checked setting 0 2 (is_vector (object_at v s.store)) x waiting code
      (omega arith) (vector_tested parts s.store g.contents.kinds v (x.registers 0) h) st)
    where
      code : List Item
      code = item.Plain (MovFrom 0 (Base32 0 (negsuc 1))) ∷ rest

      next : List Value → Action Value
      next vs = gives (fixnum (pos (length vs)))

      by : (b : Bool) → is_vector (object_at v s.store) ≡ b → TagTested setting b x waiting code
          → Comes setting parts is_free x waiting 5 s.store rest (as_vector v next s.store)
      by false e r = subst (Comes setting parts is_free x waiting 5 s.store rest)
          (sym (no_vector (object_at v s.store) next s.store e)) (
            refl,
            record {
              registers = r.registers;
              flags = r.flags;
              least = r.least;
              steps = r.steps;
              leads = r.leads;
              few = (let q = r.few in omega (arith, q));
            },
          )
      by true e r =
          let p = vector_here v (x.registers 0) x.bytes x.output x.answers g h e in
          let y : View = moved_to x r.registers r.flags r.place in
          let a = 16 * p.at.unit in
          let n = word_in x.bytes a in
          let m = near in let hi = p.high in let lo = p.low in let is = r.kept 0 refl ∙ p.is in let room = p.room in
          subst (Comes setting parts is_free x waiting 5 s.store rest)
          (sym (with_vector v (x.registers 0) x.bytes next p)) (
            refl,
            record {
              registers = set_register r.registers 0 n;
              flags = r.flags;
              place = r.place + r.ahead.0;
              least = 5;
              steps = 5;
              leads = leads_on setting.marks r.leads (loads_word setting y 0 r.ahead.0 a (Base32 0 (negsuc 1)) [] r.ahead.1
                  (length_named p.at.unit (r.registers 0) is (omega (arith, hi, m)))
                  (heap_inside plan act a x.bytes g.size_is (omega (arith, lo)) (omega (arith, hi))));
              few = omega arith;
              kept = kept_then is_free x.registers r.registers (set_register r.registers 0 n)
                  (one_of is_free 2 x.registers r.registers refl r.kept) (kept_set is_free r.registers 0 n refl);
              value = subst (FixnumWord (pos (length p.elements))) (sym p.size_word)
                  (positive_word (length p.elements) (omega (arith, hi, m, room)));
              ahead = r.ahead.2;
            },
          )

  -- ---- an element

  -- at an index in RCX, from a vector in RAX: the index is tested, and an element read
  ranged_here : (v : Value) (n : ℤ) (x : View) (rest : List Item) (w : ℕ) → (p : VectorHere v w x.bytes)
      → StoreAt plan parts s x.bytes x.output x.answers → x.registers 0 ≡ w → FixnumWord n (x.registers 1)
      → Stands setting [] x.place (check_index (Base32 0 (negsuc 1))
      (item.Plain (AddTo (Reg 0) 1) ∷ (item.Plain (MovFrom 0 (Base32 0 (pos 6))) ∷ rest)))
      → Comes setting parts is_free x [] 4 s.store rest
      (in_range n (length p.elements) (λ k. element (slice_get p.elements k)) s.store)
  ranged_here v n x rest w p g same hn st =
      by (is_index n (length p.elements)) refl (index_decided setting x n (negsuc 1) a (length p.elements) code hn
      (length_named p.at.unit (x.registers 0) is (omega (arith, hi, m)))
      (heap_inside plan act a x.bytes g.size_is lo (omega (arith, hi))) p.size_word (omega (arith, hi, m, room)) st)
    where
      a : ℕ
      a = 16 * p.at.unit

      code : List Item
      code = item.Plain (AddTo (Reg 0) 1) ∷ (item.Plain (MovFrom 0 (Base32 0 (pos 6))) ∷ rest)

      is : x.registers 0 ≡ 16 * p.at.unit + 2
      is = same ∙ p.is

      m : stack ≤ max_heap_end
      m = near

      hi : 16 * p.at.unit + 16 * suc p.at.more ≤ stack
      hi = p.high

      lo : closures ≤ 16 * p.at.unit
      lo = p.low

      room : 8 + 8 * length p.elements ≤ 16 * suc p.at.more
      room = p.room

      by : (b : Bool) → is_index n (length p.elements) ≡ b → Ranged setting b x code
          → Comes setting parts is_free x [] 4 s.store rest
          (require b OutOfRange (λ t. element (slice_get p.elements (nat_abs n)) t) s.store)
      by false e r = (
        refl,
        record {
          registers = r.registers;
          flags = r.flags;
          least = r.least;
          steps = r.steps;
          leads = r.leads;
          few = (let q = r.few in omega (arith, q));
        },
      )
      by true e r =
          let at = index_word n (x.registers 1) (length p.elements) hn e in
          let k = nat_abs n in
          let one = get_there p.elements k at.1 in
          let index = at.0 in let below = at.1 in
          let y : View = moved_to x x.registers r.flags r.place in
          let sum = sum_of (x.registers 0) (x.registers 1) in
          let z : View = moved_to x (set_register x.registers 0 sum.value) sum.flags (r.place + r.ahead.0) in
          let b = field_address p.at.unit k in
          let u = word_in x.bytes b in
          let named : add64 sum.value (word (pos 6)) ≡ b = ap (λ i. add64 (add64 (x.registers 0) i) (word (pos 6))) index
          ∙ element_named p.at.unit k (x.registers 0) is (omega (arith, hi, m, room, below)) in
          subst (λ o. Comes setting parts is_free x [] 4 s.store rest (element o s.store)) (sym one.1) (
            refl,
            record {
              registers = set_register z.registers 0 u;
              flags = sum.flags;
              place = z.place + r.ahead.2.0;
              least = 4;
              steps = 4;
              leads = leads_on setting.marks (leads_on setting.marks r.leads
                  (goes setting y z (AddTo (Reg 0) 1) r.ahead.0 [] r.ahead.1 refl))
                  (loads_word setting z 0 r.ahead.2.0 b (Base32 0 (pos 6)) [] r.ahead.2.1 named
                  (heap_inside plan act b x.bytes g.size_is (omega (arith, lo)) (omega (arith, hi, room, below))));
              few = omega arith;
              kept = kept_then is_free x.registers z.registers (set_register z.registers 0 u)
                  (kept_set is_free x.registers 0 sum.value refl) (kept_set is_free z.registers 0 u refl);
              value = p.element_word k one.0 one.1;
              ahead = r.ahead.2.2;
            },
          )

  pub vector_ref_here : (v i : Value) (x : View) (waiting : List MarkKind) (rest : List Item)
      → StoreAt plan parts s x.bytes x.output x.answers → IsWord parts v (x.registers 0)
      → IsWord parts i (x.registers 1) → Stands setting waiting x.place (vector_ref_code rest)
      → Comes setting parts is_free x waiting 11 s.store rest
      (as_vector v (λ vs. as_fixnum i (λ n. in_range n (length vs) (λ k. element (slice_get vs k)))) s.store)
  vector_ref_here v i x waiting rest g h hi st =
      by (is_vector (object_at v s.store)) refl (tag_checked setting 0 2 (is_vector (object_at v s.store)) x waiting code
      (omega arith) (vector_tested parts s.store g.contents.kinds v (x.registers 0) h) st)
    where
      indexed : List Item
      indexed = check_index (Base32 0 (negsuc 1))
          (item.Plain (AddTo (Reg 0) 1) ∷ (item.Plain (MovFrom 0 (Base32 0 (pos 6))) ∷ rest))

      code : List Item
      code = check_fixnum 1 indexed

      next : List Value → Action Value
      next vs = as_fixnum i (λ n. in_range n (length vs) (λ k. element (slice_get vs k)))

      by : (b : Bool) → is_vector (object_at v s.store) ≡ b → TagTested setting b x waiting code
          → Comes setting parts is_free x waiting 11 s.store rest (as_vector v next s.store)
      by false e r = subst (Comes setting parts is_free x waiting 11 s.store rest)
          (sym (no_vector (object_at v s.store) next s.store e)) (
            refl,
            record {
              registers = r.registers;
              flags = r.flags;
              least = r.least;
              steps = r.steps;
              leads = r.leads;
              few = (let q = r.few in omega (arith, q));
            },
          )
      by true e r =
          let p = vector_here v (x.registers 0) x.bytes x.output x.answers g h e in
          let y : View = moved_to x r.registers r.flags r.place in
          subst (Comes setting parts is_free x waiting 11 s.store rest)
          (sym (with_vector v (x.registers 0) x.bytes next p))
          (comes_after setting parts is_free x r.registers r.flags r.place waiting 4 4 7 11 s.store rest _ r.leads
          (one_of is_free 2 x.registers r.registers refl r.kept) (omega arith)
          (fixnum_checked setting parts 1 i (λ n. in_range n (length p.elements) (λ k. element (slice_get p.elements k)))
          y [] 4 s.store indexed rest (subst (IsWord parts i) (sym (r.kept 1 refl)) hi) r.ahead
          (λ n tag flags place hn st. ranged_here v n (tagged setting y 1 tag flags place) rest (x.registers 0) p g
          (r.kept 0 refl) hn st)))

-- ---- an element is set

-- the words of a vector, after that of an element is written
module _ (parts : Parts) (elements : List Value) (unit k y : ℕ) (u : Value) (bytes : List ℕ)
    (within : Inside (length bytes) (field_address unit k)) (low : data_address ≤ 16 * unit) (below : k < length elements)
    (hu : IsWord parts u y)
    (words : (j : ℕ) (v : Value) → slice_get elements j ≡ Some v → IsWord parts v (word_in bytes (field_address unit j))) where
  set_words : (j : ℕ) (v : Value) → slice_get (slice_set elements k u) j ≡ Some v
      → IsWord parts v (word_in (with_word bytes (field_address unit k) y) (field_address unit j))
  set_words j v e = by (j == k) refl
    where
      by : (b : Bool) → (j == k) ≡ b
          → IsWord parts v (word_in (with_word bytes (field_address unit k) y) (field_address unit j))
      by true i =
          let z : j ≡ k = eqb-true j k i in
          let f : Some u ≡ Some v = sym (set_here elements k u below) ∙ ap (slice_get (slice_set elements k u)) (sym z) ∙ e in
          let is : u ≡ v = cc in
          subst (λ v. IsWord parts v (word_in (with_word bytes (field_address unit k) y) (field_address unit j))) is
          (subst (λ j. IsWord parts u (word_in (with_word bytes (field_address unit k) y) (field_address unit j))) (sym z)
          (subst (IsWord parts u) (sym (word_same bytes (field_address unit k) y within (fits parts u y hu))) hu))
      by false i =
          let ne = eqb-false j k i in
          let far : (field_address unit j + 8 ≤ field_address unit k) ⊎ (field_address unit k + 8 ≤ field_address unit j) =
          ⊎_elim (λ lt. inl (omega (arith, lt))) (λ ge. ⊎_elim (λ lt. inr (omega (arith, lt)))
          (λ le. absurd (ne (omega (arith, ge, le)))) (cases_lt k j)) (cases_lt j k) in
          subst (IsWord parts v) (sym (word_other bytes (field_address unit k) y (field_address unit j) within
          (omega (arith, low)) far)) (words j v (sym (set_elsewhere elements k j u ne) ∙ e))

module _ (plan : Plan) (body_steps : ℕ) (laid : Laid plan body_steps) (act : Activation plan) where
  open plan use {setting, size, closures, heap, stack, near}

  abbrev Here : List MarkKind → ℕ → List Item → Type 0
  Here waiting a is = Std plan body_steps laid act waiting a is

  abbrev Owed : Parts → List MarkKind → World → View → ℕ → Result → Type 0
  Owed parts before w x c r = SimOf plan body_steps laid act parts before w x c r

  module _ (k : Frame → World → Result) (c : ℕ) (rest : List Item) (K : Rest plan body_steps laid act k c rest)
      (parts : Parts) (before waiting : List MarkKind) (f : Frame) (w : World) (x : View)
      (q : FrameOf plan body_steps laid act parts f w x) (g : StoreOf plan body_steps laid act parts w x)
      (marked : w.marks ≡ before ++ waiting) where
    abbrev Next : Value → World → Result
    Next v w = next_of plan body_steps laid act k f v w

    abbrev t : Store
    t = w.state.store

    -- what an outcome over the store comes to
    abbrev Done : Outcome Store Value → Type 0
    Done o = Owed parts before w x (30 + c) (on_outcome w.marks (with_rest w.state.cells w.state.procedures o) Next)

    abbrev stored : List Item
    stored = item.Plain (AddTo (Reg 0) 1) ∷ (item.Plain (MovTo (Base32 0 (pos 6)) 11)
        ∷ (item.Plain (MovNumber (Reg 0) (pos 30)) ∷ rest))

    -- the vector in RAX and the index in RCX are checked, and R11 has the element
    element_set : (v u : Value) (n : ℤ) (p : VectorHere plan act parts w.state v (x.registers 0) x.bytes)
        (registers : ℕ → ℕ) (flags : Flags) (place steps : ℕ)
        → Leads setting steps steps waiting x (moved_to x registers flags place)
        → Kept (λ r. r == 2) x.registers registers → steps ≤ 10 → FixnumWord n (registers 1)
        → IsWord parts u (registers 11) → Here [] place (check_index (Base32 0 (negsuc 1)) stored)
        → Done (in_range n (length p.elements) (λ k. write_object v (vector (slice_set p.elements k u))) t)
    element_set v u n p registers flags place steps leads kept few hn hu st =
        by (is_index n (length p.elements)) refl (index_decided setting y n (negsuc 1) a (length p.elements) stored hn
        (length_named p.at.unit (registers 0) is (omega (arith, hi, m)))
        (heap_inside plan act a x.bytes g.size_is lo (omega (arith, hi))) p.size_word (omega (arith, hi, m, room)) st)
      where
        y : View
        y = moved_to x registers flags place

        a : ℕ
        a = 16 * p.at.unit

        is : registers 0 ≡ 16 * p.at.unit + 2
        is = kept 0 refl ∙ p.is

        m : stack ≤ max_heap_end
        m = near

        hi : 16 * p.at.unit + 16 * suc p.at.more ≤ stack
        hi = p.high

        lo : closures ≤ 16 * p.at.unit
        lo = p.low

        room : 8 + 8 * length p.elements ≤ 16 * suc p.at.more
        room = p.room

        by : (b : Bool) → is_index n (length p.elements) ≡ b → Ranged setting b y stored
            → Done (require b OutOfRange (write_object v (vector (slice_set p.elements (nat_abs n) u))) t)
        by false e r =
            stops_here plan body_steps laid before waiting x 12 (30 + c) OutOfRange w
            (halts_after setting x registers flags place waiting steps steps 2 12 OutOfRange leads (omega (arith, few)) r)
            g.printed marked (omega arith)
        by true e r =
            let at = index_word n (registers 1) (length p.elements) hn e in
            let j = nat_abs n in
            let index = at.0 in let below = at.1 in
            let o : Object = vector (slice_set p.elements j u) in
            let sum = sum_of (registers 0) (registers 1) in
            let b = field_address p.at.unit j in
            let z0 : View = moved_to x registers r.flags r.place in
            let z1 : View = moved_to x (set_register registers 0 sum.value) sum.flags (r.place + r.ahead.0) in
            let bytes = with_word x.bytes b (registers 11) in
            let z2 : View = record z1 { bytes = bytes; place = z1.place + r.ahead.2.0 } in
            let z3 : View = record z2 {
              registers = set_register z1.registers 0 30;
              place = z2.place + r.ahead.2.2.0;
            } in
            let w' : World = record w {
              state = record w.state { store = record t { objects = slice_set t.objects p.number o } };
            } in
            let named : add64 sum.value (word (pos 6)) ≡ b = ap (λ i. add64 (add64 (registers 0) i) (word (pos 6))) index
            ∙ element_named p.at.unit j (registers 0) is (omega (arith, hi, m, room, below)) in
            let cl = plan.closures_low in let sl = plan.stack_low in let hl = heap_above plan in
            let within : Inside (length x.bytes) b = heap_inside plan act b x.bytes g.size_is (omega (arith, lo))
            (omega (arith, hi, room, below)) in
            let scratch = kept_then is_scratch x.registers registers z3.registers
            (one_of is_scratch 2 x.registers registers refl kept) (kept_then is_scratch registers z1.registers z3.registers
            (kept_set is_scratch registers 0 sum.value refl) (kept_set is_scratch z1.registers 0 30 refl)) in
            let wrote : Wrote (16 * p.at.unit) (16 * p.at.unit + 16 * suc p.at.more) x.bytes bytes = wrote_one
            (16 * p.at.unit) (16 * p.at.unit + 16 * suc p.at.more) b (registers 11) x.bytes within (omega arith)
            (omega (arith, room, below)) in
            let filled : VectorAt parts bytes p.number (slice_set p.elements j u) = record {
              at = p.at;
              there = p.spotted;
              room = (let n = length-set p.elements j u in omega (arith, n, room));
              size = word_other x.bytes b (registers 11) a within (omega (arith, lo, cl)) (inl (omega arith)) ∙ p.size_word
                  ∙ ap (λ n. 8 * n) (sym (length-set p.elements j u));
              element = set_words parts p.elements p.at.unit j (registers 11) u x.bytes within (omega (arith, lo, cl)) below
                  hu p.element_word;
            } in
            subst Done (sym (ap (λ v. write_object v o t) p.value))
            (after plan body_steps act parts parts (λ v n h. h) before waiting t w'.state.store x z3 (steps + 2 + 1 + 1 + 1)
            (steps + 2 + 1 + 1 + 1) c (30 + c) _
            (leads_on setting.marks (leads_on setting.marks (leads_on setting.marks (leads_on setting.marks leads r.leads)
            (goes setting z0 z1 (AddTo (Reg 0) 1) r.ahead.0 [] r.ahead.1 refl))
            (stores_word setting z1 11 r.ahead.2.0 b (Base32 0 (pos 6)) [] r.ahead.2.1 named within))
            (goes setting z2 z3 (MovNumber (Reg 0) (pos 30)) r.ahead.2.2.0 [] r.ahead.2.2.1 refl))
            (λ q l n. other_word (16 * p.at.unit) (16 * p.at.unit + 16 * suc p.at.more) x.bytes bytes wrote q
            (omega (arith, l, sl, hl)) (inr (omega (arith, l, hi))))
            (omega arith) (omega arith) (omega (arith, few))
            (K parts (before ++ waiting) [] (record f { accumulator = Is unspecified }) w' z3 r.ahead.2.2.2
            (places_wrote plan act parts t.charged f.places f.outgoing z3.registers x.bytes bytes (16 * p.at.unit)
            (16 * p.at.unit + 16 * suc p.at.more) hi wrote (places_kept plan act parts t.charged f.places f.outgoing
            x.registers z3.registers x.bytes scratch q))
            (object_written plan parts w.state x.bytes bytes x.output x.answers p.number (vector p.elements) o p.at
            p.there refl p.spotted wrote filled g)
            refl (none_waits w.marks before waiting marked)))

    pub vector_set_sim : (v i u : Value) → IsWord parts v (x.registers 0) → IsWord parts i (x.registers 1)
        → IsWord parts u (x.registers 11) → Here waiting x.place (vector_set_code rest)
        → Done (as_vector v (λ vs. as_fixnum i (λ n. in_range n (length vs)
        (λ k. write_object v (vector (slice_set vs k u))))) t)
    vector_set_sim v i u hv hi hu st =
        by (is_vector (object_at v t)) refl (tag_checked setting 0 2 (is_vector (object_at v t)) x waiting
        (check_fixnum 1 (check_index (Base32 0 (negsuc 1)) stored)) (omega arith)
        (vector_tested parts t g.contents.kinds v (x.registers 0) hv) st)
      where
        within : List Value → ℤ → Action Value
        within vs n = in_range n (length vs) (λ k. write_object v (vector (slice_set vs k u)))

        by : (b : Bool) → is_vector (object_at v t) ≡ b
            → TagTested setting b x waiting (check_fixnum 1 (check_index (Base32 0 (negsuc 1)) stored))
            → Done (as_vector v (λ vs. as_fixnum i (within vs)) t)
        by false e r = subst Done (sym (no_vector (object_at v t) (λ vs. as_fixnum i (within vs)) t e))
            (stops_here plan body_steps laid before waiting x 4 (30 + c) WrongType w r g.printed marked (omega arith))
        by true e r =
            subst Done (sym (with_vector plan act parts w.state v (x.registers 0) x.bytes (λ vs. as_fixnum i (within vs)) p))
            (index (is_integer i) refl (fixnum_decided setting 1 (is_integer i) y []
            (check_index (Base32 0 (negsuc 1)) stored) (integer_tested parts i (r.registers 1)
            (subst (IsWord parts i) (sym (r.kept 1 refl)) hi)) r.ahead))
          where
            p : VectorHere plan act parts w.state v (x.registers 0) x.bytes
            p = vector_here plan act parts w.state v (x.registers 0) x.bytes x.output x.answers g hv e

            y : View
            y = moved_to x r.registers r.flags r.place

            index : (b : Bool) → is_integer i ≡ b
                → Checked setting b y [] 3 (check_index (Base32 0 (negsuc 1)) stored)
                → Done (as_fixnum i (within p.elements) t)
            index false n s = subst Done (sym (no_fixnum i (within p.elements) t n))
                (stops_here plan body_steps laid before waiting x 7 (30 + c) WrongType w
                (halts_after setting x r.registers r.flags r.place waiting 4 4 3 7 WrongType r.leads (omega arith) s)
                g.printed marked (omega arith))
            index true n s =
                let z = fixnum_of i n in
                let kept = kept_then (λ r. r == 2) x.registers r.registers s.registers r.kept s.kept in
                subst Done (sym (ap (λ i. as_fixnum i (within p.elements) t) z.1))
                (element_set v u z.0 p s.registers s.flags s.place 7 (leads_on setting.marks r.leads s.leads) kept
                (omega arith) (subst (λ i. IsWord parts i (s.registers 1)) z.1
                (subst (IsWord parts i) (sym (kept 1 refl)) hi)) (subst (IsWord parts u) (sym (kept 11 refl)) hu) s.ahead)
