-- The machine reads the parts of pairs and sets them (R5RS 6.3.2).
use Rattle.std.proofs.Common.{◌≡◌, ℕ, suc, ◌+◌, ◌*◌, ◌^◌, ◌<◌, ◌≤◌, List, [], ◌∷◌, ◌++◌, length, Bool, true}
use Rattle.std.proofs.Common.{false, Some, refl, sym, ap, ◌∙◌, subst, arith, inl, inr}
use Rattle.std.specs.Prelude.{ℤ, pos, negsuc, slice_get, slice_set}
use Rattle.sch_word.specs.declared.answer.Answer.{Answer}
use Rattle.sch_word.specs.declared.stop.Stop.TheVariants.{WrongType}
use Rattle.sch_word.specs.values.Values.{Value, unspecified, object, Object, pair}
use Rattle.sch_word.specs.values.PrimitiveRows.{is_pair, object_at, pair_or_stop, as_pair, write_object}
use Rattle.sch_word.specs.runs.Store.{Store}
use Rattle.sch_word.specs.runs.Computation.{Outcome, Action, gives, State, with_rest}
use Rattle.sch_word.specs.runs.Procedures.{Procedure}
use Rattle.sch_control.specs.Meaning.{World, Result, on_outcome}
use Rattle.sch_frames.specs.Meaning.{Frame, Is}
use Rattle.sch_insn.specs.declared.insn.Arg.TheVariants.{Reg, Base32}
use Rattle.sch_insn.specs.declared.insn.Insn.TheVariants.{MovTo, MovFrom, MovNumber}
use Rattle.sch_insn.specs.Machine.{set_register, add64, word}
use Rattle.sch_insn.proofs.Paths.{leads_on}
use Rattle.sch_asm.specs.declared.item.Item.{Item}
use Rattle.sch_asm.specs.declared.item.Item.TheVariants as item
use Rattle.sch_word.specs.declared.mark.MarkKind.{MarkKind}
use Rattle.sch_word.specs.runs.ProgramLayout.{data_address}
use Rattle.sch_asm.specs.Stands.{Stands}
use Rattle.sch_asm.specs.Data.{Inside, word_in, with_word}
use Rattle.sch_asm.specs.Effects.{is_scratch}
use Rattle.sch_asm.specs.Views.{View}
use Rattle.sch_asm.proofs.EachItem.{goes, loads_word, stores_word}
use Rattle.sch_asm.proofs.Words.{word_same, word_other}
use Rattle.sch_select_memory.specs.Parts.{a_pair, Parts, Spot, spot}
use Rattle.sch_select_memory.specs.Encoded.{IsWord}
use Rattle.sch_select_memory.specs.Heap.{PairAt}
use Rattle.sch_select_memory.proofs.heap.Spots.{spot_within}
use Rattle.sch_select_memory.proofs.heap.Encodings.{fits}
use Rattle.sch_select_memory.proofs.heap.Objects.{pair_of, pair_tested, pair_named, no_pair, one_spot}
use Rattle.sch_select_operations.specs.ObjectCode.{part_of_pair, set_part_of_pair}
use Rattle.sch_select_memory.proofs.Straight.{is_free, kept_set, kept_then, moved_to, Comes}
use Rattle.sch_select_memory.proofs.Places.{Plan, Activation, StoreAt, heap_above, places_kept}
use Rattle.sch_select_memory.proofs.HeapWrites.{Wrote, wrote_one, other_word, heap_inside, places_wrote}
use Rattle.sch_select_operations.proofs.objects.ObjectWrites.{object_written}
use Rattle.sch_select_operations.proofs.objects.Tags.{TagTested, tag_checked, one_of}
use Rattle.sch_select_memory.proofs.simulation.Outcomes.{after, Laid, stops_here}
use Rattle.sch_select_operations.proofs.simulation.Operations.{Std, FrameOf, StoreOf, SimOf, Rest, next_of, none_waits}

-- ---- the words of a pair

-- One of the two words: its address, by the unit at which a pair begins, lies at an offset from the word of the pair.
pub record IsPart (d : ℤ) (address : ℕ → ℕ) : Type 0 where
  pub named : (unit w : ℕ) → w ≡ 16 * unit + 1 → 16 * unit + 16 < 2 ^ 32 → add64 w (word d) ≡ address unit
  pub low : (unit : ℕ) → 16 * unit ≤ address unit
  pub high : (unit : ℕ) → address unit + 8 ≤ 16 * unit + 16

abbrev pub first_address : ℕ → ℕ
first_address unit = 16 * unit

abbrev pub rest_address : ℕ → ℕ
rest_address unit = 16 * unit + 8

pub is_first : IsPart (negsuc 0) first_address
is_first = record {
  named = λ unit w e lt. omega (arith, e, lt);
  low = λ unit. omega arith;
  high = λ unit. omega arith;
}

pub is_rest : IsPart (pos 7) rest_address
is_rest = record {
  named = λ unit w e lt. omega (arith, e, lt);
  low = λ unit. omega arith;
  high = λ unit. omega arith;
}

module _ (plan : Plan) (act : Activation plan) (parts : Parts) (s : State Procedure) where
  open plan use {setting, size, closures, heap, stack, near}

  -- a value that is a pair, with its words
  pub record PairHere (v : Value) (x : ℕ) (bytes : List ℕ) : Type 0 where
    pub number : ℕ
    pub value : v ≡ object number
    pub first : Value
    pub rest : Value
    pub there : slice_get s.store.objects number ≡ Some (pair first rest)
    pub at : Spot
    pub spotted : spot parts (a_pair number) ≡ Some at
    pub is : x ≡ 16 * at.unit + 1
    pub first_word : IsWord parts first (word_in bytes (first_address at.unit))
    pub rest_word : IsWord parts rest (word_in bytes (rest_address at.unit))
    pub low : closures ≤ 16 * at.unit
    pub high : 16 * at.unit + 16 ≤ stack

  pub pair_here : (v : Value) (x : ℕ) (bytes output : List ℕ) (answers : List Answer)
      → StoreAt plan parts s bytes output answers → IsWord parts v x → is_pair (object_at v s.store) ≡ true
      → PairHere v x bytes
  pair_here v x bytes output answers g h e =
      let p = pair_of s.store v e in
      let named = pair_named parts s.store g.contents.kinds p.number x p.first p.rest
      (subst (λ v. IsWord parts v x) p.value h) p.there in
      let q : PairAt parts bytes p.number p.first p.rest = g.contents.object p.number (pair p.first p.rest) p.there in
      let same = one_spot parts (a_pair p.number) named.at q.at named.there q.there in
      let inside = spot_within parts (a_pair p.number) q.at q.there in
      let lo = inside.0 in let hi = inside.1 in let b = g.begins in let z = g.ends in let i = g.within in
      record {
        number = p.number;
        value = p.value;
        first = p.first;
        rest = p.rest;
        there = p.there;
        at = q.at;
        spotted = q.there;
        is = named.is ∙ ap (λ s. 16 * s.unit + 1) same;
        first_word = q.first;
        rest_word = q.rest;
        low = omega (arith, lo, b);
        high = omega (arith, hi, z, i);
      }

  -- what is done with a pair, and with anything else
  pub with_pair : (v : Value) (x : ℕ) (bytes : List ℕ) (next : Value → Value → Action Value) (p : PairHere v x bytes)
      → as_pair v next s.store ≡ next p.first p.rest s.store
  with_pair v x bytes next p = ap (λ v. as_pair v next s.store) p.value
      ∙ ap (λ o. pair_or_stop o next s.store) p.there

  -- ---- a part of a pair is read

  pub part_read : (d : ℤ) (address : ℕ → ℕ) → IsPart d address → (pick : Value → Value → Value) →
      ((a e : Value) (unit : ℕ) (bytes : List ℕ) → IsWord parts a (word_in bytes (first_address unit))
      → IsWord parts e (word_in bytes (rest_address unit)) → IsWord parts (pick a e) (word_in bytes (address unit)))
      → (v : Value) (x : View) (waiting : List MarkKind) (rest : List Item)
      → StoreAt plan parts s x.bytes x.output x.answers → IsWord parts v (x.registers 0)
      → Stands setting waiting x.place (part_of_pair (Base32 0 d) rest)
      → Comes setting parts is_free x waiting 5 s.store rest (as_pair v (λ a e. gives (pick a e)) s.store)
  part_read d address part pick picked v x waiting rest g h st =
      by (is_pair (object_at v s.store)) refl (tag_checked setting 0 1 (is_pair (object_at v s.store)) x waiting code
      (omega arith) (pair_tested parts s.store g.contents.kinds v (x.registers 0) h) st)
    where
      code : List Item
      code = item.Plain (MovFrom 0 (Base32 0 d)) ∷ rest

      next : Value → Value → Action Value
      next a e = gives (pick a e)

      by : (b : Bool) → is_pair (object_at v s.store) ≡ b → TagTested setting b x waiting code
          → Comes setting parts is_free x waiting 5 s.store rest (as_pair v next s.store)
      by false e r = subst (Comes setting parts is_free x waiting 5 s.store rest)
          (sym (no_pair (object_at v s.store) next s.store e)) (
            refl,
            record {
              registers = r.registers;
              flags = r.flags;
              least = r.least;
              steps = r.steps;
              leads = r.leads;
              few = (let q = r.few in omega (arith, q));
            },
          )
      by true e r =
          let p = pair_here v (x.registers 0) x.bytes x.output x.answers g h e in
          let y : View = moved_to x r.registers r.flags r.place in
          let a = address p.at.unit in
          let n = word_in x.bytes a in
          let m = near in let hi = p.high in let lo = p.low in let is = r.kept 0 refl ∙ p.is in
          let above = part.low p.at.unit in let below = part.high p.at.unit in
          subst (Comes setting parts is_free x waiting 5 s.store rest)
          (sym (with_pair v (x.registers 0) x.bytes next p)) (
            refl,
            record {
              registers = set_register r.registers 0 n;
              flags = r.flags;
              place = r.place + r.ahead.0;
              least = 5;
              steps = 5;
              leads = leads_on setting.marks r.leads (loads_word setting y 0 r.ahead.0 a (Base32 0 d) [] r.ahead.1
                  (part.named p.at.unit (r.registers 0) is (omega (arith, hi, m)))
                  (heap_inside plan act a x.bytes g.size_is (omega (arith, lo, above)) (omega (arith, hi, below))));
              few = omega arith;
              kept = kept_then is_free x.registers r.registers (set_register r.registers 0 n)
                  (one_of is_free 2 x.registers r.registers refl r.kept) (kept_set is_free r.registers 0 n refl);
              value = picked p.first p.rest p.at.unit x.bytes p.first_word p.rest_word;
              ahead = r.ahead.2;
            },
          )

  pub car_here : (v : Value) (x : View) (waiting : List MarkKind) (rest : List Item)
      → StoreAt plan parts s x.bytes x.output x.answers → IsWord parts v (x.registers 0)
      → Stands setting waiting x.place (part_of_pair (Base32 0 (negsuc 0)) rest)
      → Comes setting parts is_free x waiting 5 s.store rest (as_pair v (λ a e. gives a) s.store)
  car_here v x waiting rest g h st = part_read (negsuc 0) first_address is_first (λ a e. a)
      (λ a e unit bytes ha he. ha) v x waiting rest g h st

  pub cdr_here : (v : Value) (x : View) (waiting : List MarkKind) (rest : List Item)
      → StoreAt plan parts s x.bytes x.output x.answers → IsWord parts v (x.registers 0)
      → Stands setting waiting x.place (part_of_pair (Base32 0 (pos 7)) rest)
      → Comes setting parts is_free x waiting 5 s.store rest (as_pair v (λ a e. gives e) s.store)
  cdr_here v x waiting rest g h st = part_read (pos 7) rest_address is_rest (λ a e. e)
      (λ a e unit bytes ha he. he) v x waiting rest g h st

-- ---- a word of a pair is written

-- what the words of a pair are of, after one of them is written
pub record Writes (parts : Parts) (u : Value) (address : ℕ → ℕ) (one two : Value → Value → Value) : Type 0 where
  pub first : (a e : Value) (unit y : ℕ) (bytes : List ℕ) → Inside (length bytes) (address unit)
      → data_address ≤ 16 * unit → IsWord parts u y → IsWord parts a (word_in bytes (first_address unit))
      → IsWord parts (one a e) (word_in (with_word bytes (address unit) y) (first_address unit))
  pub rest : (a e : Value) (unit y : ℕ) (bytes : List ℕ) → Inside (length bytes) (address unit)
      → data_address ≤ 16 * unit → IsWord parts u y → IsWord parts e (word_in bytes (rest_address unit))
      → IsWord parts (two a e) (word_in (with_word bytes (address unit) y) (rest_address unit))

pub writes_first : (parts : Parts) (u : Value) → Writes parts u first_address (λ a e. u) (λ a e. e)
writes_first parts u = record {
  first = λ a e unit y bytes within low hy h. subst (IsWord parts u)
      (sym (word_same bytes (first_address unit) y within (fits parts u y hy))) hy;
  rest = λ a e unit y bytes within low hy h. subst (IsWord parts e)
      (sym (word_other bytes (first_address unit) y (rest_address unit) within (omega (arith, low))
      (inr (omega arith)))) h;
}

pub writes_rest : (parts : Parts) (u : Value) → Writes parts u rest_address (λ a e. a) (λ a e. u)
writes_rest parts u = record {
  first = λ a e unit y bytes within low hy h. subst (IsWord parts a)
      (sym (word_other bytes (rest_address unit) y (first_address unit) within low (inl (omega arith)))) h;
  rest = λ a e unit y bytes within low hy h. subst (IsWord parts u)
      (sym (word_same bytes (rest_address unit) y within (fits parts u y hy))) hy;
}

module _ (plan : Plan) (body_steps : ℕ) (laid : Laid plan body_steps) (act : Activation plan) where
  open plan use {setting, size, closures, heap, stack, near}

  abbrev Here : List MarkKind → ℕ → List Item → Type 0
  Here waiting a is = Std plan body_steps laid act waiting a is

  abbrev In : Parts → Frame → World → View → Type 0
  In parts f w x = FrameOf plan body_steps laid act parts f w x

  abbrev At : Parts → World → View → Type 0
  At parts w x = StoreOf plan body_steps laid act parts w x

  abbrev Owed : Parts → List MarkKind → World → View → ℕ → Result → Type 0
  Owed parts before w x c r = SimOf plan body_steps laid act parts before w x c r

  module _ (k : Frame → World → Result) (c : ℕ) (rest : List Item) (K : Rest plan body_steps laid act k c rest)
      (parts : Parts) (before waiting : List MarkKind) (f : Frame) (w : World) (x : View) (p : In parts f w x)
      (g : At parts w x) (marked : w.marks ≡ before ++ waiting) where
    abbrev Next : Value → World → Result
    Next v w = next_of plan body_steps laid act k f v w

    -- what an outcome over the store comes to
    abbrev Done : Outcome Store Value → Type 0
    Done o = Owed parts before w x (30 + c) (on_outcome w.marks (with_rest w.state.cells w.state.procedures o) Next)

    -- a part of the pair in RAX becomes RCX
    part_set : (d : ℤ) (address : ℕ → ℕ) → IsPart d address → (v u : Value) (one two : Value → Value → Value)
        → Writes parts u address one two → IsWord parts v (x.registers 0) → IsWord parts u (x.registers 1)
        → Here waiting x.place (set_part_of_pair (Base32 0 d) rest)
        → Done (as_pair v (λ a e. write_object v (pair (one a e) (two a e))) w.state.store)
    part_set d address part v u one two writes hv hu st =
        by (is_pair (object_at v t)) refl (tag_checked setting 0 1 (is_pair (object_at v t)) x waiting code
        (omega arith) (pair_tested parts t g.contents.kinds v (x.registers 0) hv) st)
      where
        t : Store
        t = w.state.store

        code : List Item
        code = item.Plain (MovTo (Base32 0 d) 1) ∷ (item.Plain (MovNumber (Reg 0) (pos 30)) ∷ rest)

        next : Value → Value → Action Value
        next a e = write_object v (pair (one a e) (two a e))

        by : (b : Bool) → is_pair (object_at v t) ≡ b → TagTested setting b x waiting code → Done (as_pair v next t)
        by false e r = subst Done (sym (no_pair (object_at v t) next t e))
            (stops_here plan body_steps laid before waiting x 4 (30 + c) WrongType w r g.printed marked (omega arith))
        by true e r =
            let h = pair_here plan act parts w.state v (x.registers 0) x.bytes x.output x.answers g hv e in
            let o : Object = pair (one h.first h.rest) (two h.first h.rest) in
            let a0 = address h.at.unit in
            let m = near in let hi = h.high in let lo = h.low in let is = r.kept 0 refl ∙ h.is in
            let above = part.low h.at.unit in let below = part.high h.at.unit in
            let cl = plan.closures_low in let sl = plan.stack_low in let hl = heap_above plan in
            let within : Inside (length x.bytes) a0 = heap_inside plan act a0 x.bytes g.size_is
            (omega (arith, lo, above)) (omega (arith, hi, below)) in
            let value : IsWord parts u (r.registers 1) = subst (IsWord parts u) (sym (r.kept 1 refl)) hu in
            let bytes = with_word x.bytes a0 (r.registers 1) in
            let z1 : View = moved_to x r.registers r.flags r.place in
            let z2 : View = record z1 { bytes = bytes; place = r.place + r.ahead.0 } in
            let z3 : View = record z2 { registers = set_register r.registers 0 30; place = z2.place + r.ahead.2.0 } in
            let w' : World = record w {
              state = record w.state { store = record t { objects = slice_set t.objects h.number o } };
            } in
            let kept = kept_then is_scratch x.registers r.registers z3.registers
            (one_of is_scratch 2 x.registers r.registers refl r.kept) (kept_set is_scratch r.registers 0 30 refl) in
            let wrote : Wrote (16 * h.at.unit) (16 * h.at.unit + 16) x.bytes bytes = wrote_one (16 * h.at.unit)
            (16 * h.at.unit + 16) a0 (r.registers 1) x.bytes within above below in
            let filled : PairAt parts bytes h.number (one h.first h.rest) (two h.first h.rest) = record {
              at = h.at;
              there = h.spotted;
              first = writes.first h.first h.rest h.at.unit (r.registers 1) x.bytes within (omega (arith, lo, cl))
                  value h.first_word;
              rest = writes.rest h.first h.rest h.at.unit (r.registers 1) x.bytes within (omega (arith, lo, cl)) value
                  h.rest_word;
            } in
            let whole : Wrote (16 * h.at.unit) (16 * h.at.unit + 16 * suc h.at.more) x.bytes bytes = wrote_one
            (16 * h.at.unit) (16 * h.at.unit + 16 * suc h.at.more) a0 (r.registers 1) x.bytes within above
            (omega (arith, below)) in
            subst Done (sym (with_pair plan act parts w.state v (x.registers 0) x.bytes next h
            ∙ ap (λ v. write_object v o t) h.value))
            (after plan body_steps act parts parts (λ v n h. h) before waiting t w'.state.store x z3 6 6 c (30 + c) _
            (leads_on setting.marks (leads_on setting.marks r.leads
            (stores_word setting z1 1 r.ahead.0 a0 (Base32 0 d) [] r.ahead.1
            (part.named h.at.unit (r.registers 0) is (omega (arith, hi, m))) within))
            (goes setting z2 z3 (MovNumber (Reg 0) (pos 30)) r.ahead.2.0 [] r.ahead.2.1 refl))
            (λ q l n. other_word (16 * h.at.unit) (16 * h.at.unit + 16) x.bytes bytes wrote q
            (omega (arith, l, sl, hl)) (inr (omega (arith, l, hi))))
            (omega arith) (omega arith) (omega arith)
            (K parts (before ++ waiting) [] (record f { accumulator = Is unspecified }) w' z3 r.ahead.2.2
            (places_wrote plan act parts t.charged f.places f.outgoing z3.registers x.bytes bytes (16 * h.at.unit)
            (16 * h.at.unit + 16) hi wrote (places_kept plan act parts t.charged f.places f.outgoing x.registers
            z3.registers x.bytes kept p))
            (object_written plan parts w.state x.bytes bytes x.output x.answers h.number (pair h.first h.rest) o h.at
            h.there refl h.spotted whole filled g)
            refl (none_waits w.marks before waiting marked)))

    pub set_car_sim : (v u : Value) → IsWord parts v (x.registers 0) → IsWord parts u (x.registers 1)
        → Here waiting x.place (set_part_of_pair (Base32 0 (negsuc 0)) rest)
        → Done (as_pair v (λ a e. write_object v (pair u e)) w.state.store)
    set_car_sim v u hv hu st = part_set (negsuc 0) first_address is_first v u (λ a e. u) (λ a e. e)
        (writes_first parts u) hv hu st

    pub set_cdr_sim : (v u : Value) → IsWord parts v (x.registers 0) → IsWord parts u (x.registers 1)
        → Here waiting x.place (set_part_of_pair (Base32 0 (pos 7)) rest)
        → Done (as_pair v (λ a e. write_object v (pair a u)) w.state.store)
    set_cdr_sim v u hv hu st = part_set (pos 7) rest_address is_rest v u (λ a e. a) (λ a e. u)
        (writes_rest parts u) hv hu st
