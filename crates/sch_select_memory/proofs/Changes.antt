-- The relation of a store and of an activation to the machine, after a global is written and after a routine.
use Rattle.std.proofs.Common.{◌≡◌, ℕ, ◌+◌, ◌-◌, ◌*◌, ◌^◌, ◌<◌, ◌≤◌, List, length, take, drop, Bool, true, false}
use Rattle.std.proofs.Common.{Option, Some, refl, sym, ap, ◌∙◌, subst, arith, ◌==◌, ⊎_elim, inl, inr, ◌⊎◌}
use Rattle.std.specs.Prelude.{slice_get, slice_set}
use Rattle.std.proofs.lemmas.Bool.{eqb-true, eqb-false, cases_lt}
use Rattle.std.proofs.lemmas.List.{drop-drop, length-set}
use Rattle.std.proofs.lemmas.Option.{slice_get_within}
use Rattle.sch_word.specs.declared.answer.Answer.{Answer}
use Rattle.sch_word.specs.declared.place.Place.{Place}
use Rattle.sch_word.specs.declared.place.Place.TheVariants.{Reg, Slot}
use Rattle.sch_word.specs.values.Values.{Value}
use Rattle.sch_word.specs.runs.Computation.{State}
use Rattle.sch_word.specs.runs.Procedures.{Procedure}
use Rattle.sch_frames.specs.Meaning.{Cell}
use Rattle.sch_asm.specs.Data.{Inside, word_in, with_word}
use Rattle.sch_asm.specs.Effects.{is_scratch, own_size}
use Rattle.sch_asm.proofs.Words.{word_same, word_other, size_kept}
use Rattle.sch_select_memory.specs.Parts.{Parts}
use Rattle.sch_select_memory.specs.Encoded.{IsWord, IsHeld}
use Rattle.sch_select_memory.proofs.heap.Ranges.{BytesStay, piece_in, word_stays, piece_beside}
use Rattle.sch_select_memory.proofs.heap.Contents.{heap_kept}
use Rattle.sch_word.proofs.facts.Lists.{set_here, set_elsewhere}
use Rattle.sch_word.specs.runs.ProgramLayout.{data_address}
use Rattle.sch_select_memory.specs.Addresses.{table_address, literal_address, global_address, names_address, bytes_address}
use Rattle.sch_select_memory.proofs.heap.Encodings.{fits}
use Rattle.sch_select_memory.proofs.Places.{Plan, code_of, heap_above, Activation, StoreAt, store_changed}
use Rattle.sch_select_memory.proofs.Places.{PlacesAt, Holds, same_word, no_scratch}

-- ---- bytes behind the routines' own words

pub piece_behind : (bytes bytes' : List ℕ) (a n : ℕ) → drop own_size bytes' ≡ drop own_size bytes → bytes_address ≤ a
    → piece_in bytes' a n ≡ piece_in bytes a n
piece_behind bytes bytes' a n e le =
    let k = a - bytes_address in
    let at : own_size + k ≡ a - data_address = omega (arith, le) in
    let cut : (xs : List ℕ) → drop (a - data_address) xs ≡ drop k (drop own_size xs) = λ xs. ap (λ n. drop n xs) (sym at)
    ∙ sym (drop-drop k own_size xs) in
    ap (take n) (cut bytes' ∙ ap (drop k) e ∙ sym (cut bytes))

pub word_behind : (bytes bytes' : List ℕ) (a : ℕ) → drop own_size bytes' ≡ drop own_size bytes → bytes_address ≤ a
    → word_in bytes' a ≡ word_in bytes a
word_behind bytes bytes' a e le = word_stays bytes bytes' a (piece_behind bytes bytes' a 8 e le)

module _ (plan : Plan) where
  open plan use {setting, size, words, literals, globals, names, heap, stack, stack_low, small, narrow, labels}

  pub global_inside : (g : ℕ) (bytes : List ℕ) → g < globals → heap ≤ data_address + size → length bytes ≡ size
      → Inside (length bytes) (global_address literals g)
  global_inside g bytes lt le e = let h = heap_above plan in record
      { low = omega arith; high = omega (arith, h, lt, le, e) }

  -- ---- a global has a value

  pub global_written : (parts : Parts) (s : State Procedure) (g : ℕ) (v : Value) (x : ℕ) (bytes output : List ℕ)
      (answers : List Answer) → g < globals → heap ≤ data_address + size → IsWord parts v x
      → StoreAt plan parts s bytes output answers → StoreAt plan parts
      (record s { store = record s.store { globals = slice_set s.store.globals g (Some v) } })
      (with_word bytes (global_address literals g) x) output answers
  global_written parts s g v x bytes output answers lt le h at =
      let within = global_inside g bytes lt le at.size_is in
      let b = at.begins in let cl = plan.closures_low in
      let beside : (a n : ℕ) → data_address ≤ a → (a + n ≤ global_address literals g) ⊎
      (global_address literals g + 8 ≤ a) → piece_in (with_word bytes (global_address literals g) x) a n
      ≡ piece_in bytes a n = λ a n low far. piece_beside bytes (global_address literals g) x a n within low far in
      record {
        size_is = size_kept bytes (global_address literals g) x within ∙ at.size_is;
        printed = at.printed;
        left = at.left;
        limit = at.limit;
        within = at.within;
        begins = at.begins;
        ends = at.ends;
        texts = beside bytes_address 288 (omega arith) (inl (omega arith)) ∙ at.texts;
        table = word_other bytes (global_address literals g) x table_address within (omega arith) (inl (omega arith))
            ∙ at.table;
        literal_count = at.literal_count;
        literal = λ k u i. let l = slice_get_within s.store.constants.literals k u i in let c = at.literal_count in
            subst (IsWord parts u) (sym (word_other bytes (global_address literals g) x (literal_address k) within
            (omega arith) (inl (omega (arith, l, c))))) (at.literal k u i);
        count = length-set s.store.globals g (Some v) ∙ at.count;
        global = λ k o e. by k o e (k == g) refl;
        symbols_are = at.symbols_are;
        known = at.known;
        names_are = beside (names_address literals globals) (length names) (omega arith) (inr (omega (arith, lt)))
            ∙ at.names_are;
        contents = heap_kept (code_of plan) parts s.cells s.procedures s.store.objects bytes
            (with_word bytes (global_address literals g) x)
            (λ a n lo hi. beside a n (omega (arith, lo, b, cl)) (inr (omega (arith, lo, b, cl, lt)))) at.contents;
        new = at.new;
      }
    where
      by : (k : ℕ) (o : Option Value) → slice_get (slice_set s.store.globals g (Some v)) k ≡ Some o → (b : Bool)
          → (k == g) ≡ b → IsHeld parts o (word_in (with_word bytes (global_address literals g) x)
          (global_address literals k))
      by k o e true b =
          let same : k ≡ g = eqb-true k g b in
          let c = at.count in
          let put : Some (Some v) ≡ Some o = sym (set_here s.store.globals g (Some v) (omega (arith, c, lt)))
          ∙ ap (slice_get (slice_set s.store.globals g (Some v))) (sym same) ∙ e in
          let is : Some v ≡ o = cc in
          subst (λ o. IsHeld parts o (word_in (with_word bytes (global_address literals g) x)
          (global_address literals k))) is
          (subst (λ k. IsWord parts v (word_in (with_word bytes (global_address literals g) x)
          (global_address literals k))) (sym same)
          (subst (IsWord parts v) (sym (word_same bytes (global_address literals g) x
          (global_inside g bytes lt le at.size_is)
          (fits parts v x h))) h))
      by k o e false b =
          let ne = eqb-false k g b in
          let far : (global_address literals k + 8 ≤ global_address literals g) ⊎
          (global_address literals g + 8 ≤ global_address literals k) = ⊎_elim
          (λ lt. inl (omega (arith, lt))) (λ ge. ⊎_elim (λ lt. inr (omega (arith, lt)))
          (λ le. absurd (ne (omega (arith, ge, le)))) (cases_lt g k)) (cases_lt k g) in
          subst (IsHeld parts o) (sym (word_other bytes (global_address literals g) x (global_address literals k)
          (global_inside g bytes lt le at.size_is) (omega arith) far))
          (at.global k o (sym (set_elsewhere s.store.globals g k (Some v) ne) ∙ e))

  -- ---- after a routine

  pub store_behind : (parts : Parts) (s : State Procedure) (bytes bytes' output output' : List ℕ)
      (answers answers' : List Answer) → length bytes' ≡ length bytes → drop own_size bytes' ≡ drop own_size bytes
      → StoreAt plan parts s bytes output answers → StoreAt plan parts
      (record s { store = record s.store { output = output'; answers = answers' } }) bytes' output' answers'
  store_behind parts s bytes bytes' output output' answers answers' n e at =
      let b = at.begins in let cl = plan.closures_low in
      let stay : BytesStay bytes_address stack bytes bytes' = λ a n lo hi. piece_behind bytes bytes' a n e lo in
      let sl = plan.stack_low in let hl = plan.heap_low in let w = at.within in let z = at.ends in
      let kept : StoreAt plan parts s bytes' output answers =
      store_changed plan parts parts s s.cells s.procedures s.store.objects s.store.charged bytes bytes' output
      answers (λ v x h. h) at.begins at.known n (λ a n lo hi. stay a n lo (omega (arith, hi, hl, sl))) at.within at.ends
      (heap_kept (code_of plan) parts s.cells s.procedures s.store.objects bytes bytes'
      (λ a n lo hi. stay a n (omega (arith, lo, b, cl)) (omega (arith, hi, z, w))) at.contents) at.new at in
      record {
        size_is = kept.size_is;
        printed = refl;
        left = refl;
        limit = kept.limit;
        within = kept.within;
        begins = kept.begins;
        ends = kept.ends;
        texts = kept.texts;
        table = kept.table;
        literal_count = kept.literal_count;
        literal = kept.literal;
        count = kept.count;
        global = kept.global;
        symbols_are = kept.symbols_are;
        known = kept.known;
        names_are = kept.names_are;
        contents = kept.contents;
        new = kept.new;
      }

  module _ (act : Activation plan) where
    -- a store to a global leaves the frame
    pub places_written : (parts : Parts) (charged : ℕ) (places : Place → Cell) (outgoing : ℕ → Cell)
        (registers : ℕ → ℕ) (bytes : List ℕ) (g x : ℕ) → g < globals → heap ≤ data_address + size → length bytes ≡ size
        → PlacesAt plan act parts charged places outgoing registers bytes
        → PlacesAt plan act parts charged places outgoing registers (with_word bytes (global_address literals g) x)
    places_written parts charged places outgoing registers bytes g x lt le e p = record {
      frame = p.frame;
      depth = p.depth;
      free = p.free;
      register = p.register;
      slot = λ j lj. let low = act.room.low in let hl = heap_above plan in let sl = stack_low in
          subst (Holds act.back parts (places (Slot j))) (sym
          (word_other bytes (global_address literals g) x (act.frame + 8 * j) (global_inside g bytes lt le e)
          (omega (arith, low, hl, sl)) (inr (omega (arith, low, hl, sl, lt))))) (p.slot j lj);
      next = λ j lj. let low = act.room.low in let hl = heap_above plan in let sl = stack_low in
          subst (Holds act.back parts (outgoing j))
          (sym (word_other bytes (global_address literals g) x (act.frame + 8 * (words + j))
          (global_inside g bytes lt le e) (omega (arith, low, hl, sl)) (inr (omega (arith, low, hl, sl, lt)))))
          (p.next j lj);
    }

    pub below_written : (bytes : List ℕ) (g x : ℕ) → g < globals → heap ≤ data_address + size → length bytes ≡ size
        → (a : ℕ) → stack ≤ a → word_in (with_word bytes (global_address literals g) x) a ≡ word_in bytes a
    below_written bytes g x lt le e a low = let hl = heap_above plan in let sl = stack_low in word_other bytes
        (global_address literals g) x a (global_inside g bytes lt le e) (omega (arith, low, hl, sl))
        (inr (omega (arith, low, hl, sl, lt)))

    -- after a routine, which keeps registers whose words fit
    pub places_behind : (parts : Parts) (charged : ℕ) (places : Place → Cell) (outgoing : ℕ → Cell)
        (registers registers' : ℕ → ℕ) (bytes bytes' : List ℕ) → heap + charged < 2 ^ 64
        → ((r : ℕ) → is_scratch r ≡ false → registers r < 2 ^ 64 → registers' r ≡ registers r)
        → drop own_size bytes' ≡ drop own_size bytes → PlacesAt plan act parts charged places outgoing registers bytes
        → PlacesAt plan act parts charged places outgoing registers' bytes'
    places_behind parts charged places outgoing registers registers' bytes bytes' far k e p =
        let low = act.room.low in let high = act.room.high in let s = small in let few = act.room.few in let f =
        p.frame in let dp = p.depth in let fe = p.free in
        record {
          frame = k 5 refl (omega (arith, f, high, s)) ∙ p.frame;
          depth = k 13 refl (omega (arith, dp, few)) ∙ p.depth;
          free = k 12 refl (omega (arith, fe, far)) ∙ p.free;
          register = λ r i. same_word act.back parts act.back_fits (places (Reg r)) (registers r) (registers' r)
              (p.register r i) (k r (no_scratch r i));
          slot = λ j lj. let hl = heap_above plan in let sl = stack_low in
              subst (Holds act.back parts (places (Slot j)))
              (sym (word_behind bytes bytes' (act.frame + 8 * j) e (omega (arith, low, hl, sl)))) (p.slot j lj);
          next = λ j lj. let hl = heap_above plan in let sl = stack_low in subst (Holds act.back parts (outgoing j))
              (sym (word_behind bytes bytes' (act.frame + 8 * (words + j)) e (omega (arith, low, hl, sl))))
              (p.next j lj);
        }
