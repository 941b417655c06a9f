-- The machine reads the names of symbols (R5RS 6.3.3).
use Rattle.std.proofs.Common.{◌≡◌, ℕ, ◌+◌, ◌-◌, ◌*◌, ◌^◌, ◌/◌, ◌%◌, ◌<◌, ◌≤◌, List, [], ◌∷◌, length, take, drop}
use Rattle.std.proofs.Common.{Bool, true, false, refl, sym, ap, ◌∙◌, subst, arith}
use Rattle.std.specs.Prelude.{ℤ, pos, negsuc, nat_abs, slice_get, slice_index}
use Rattle.std.proofs.Math.Seq.{take-append_seam}
use Rattle.sch_word.specs.declared.stop.Stop.TheVariants.{WrongType, OutOfRange}
use Rattle.sch_word.specs.values.Values.{Value, fixnum, character, boolean, nil, unspecified, symbol, object, procedure, cell}
use Rattle.sch_word.specs.values.PrimitiveRows.{is_symbol, is_index, as_symbol, as_fixnum, in_range}
use Rattle.sch_word.specs.runs.Store.{Store}
use Rattle.sch_word.specs.runs.Computation.{Action, gives, stops, require, State, when_known}
use Rattle.sch_word.specs.runs.Procedures.{Procedure}
use Rattle.sch_insn.specs.declared.insn.Arg.TheVariants.{Reg, Base32}
use Rattle.sch_insn.specs.declared.insn.Insn.TheVariants.{MovFrom, AddTo, AddNumber, Shl, Shr, LoadByte}
use Rattle.sch_insn.specs.declared.state.Flags.{Flags}
use Rattle.sch_word.specs.values.Options.{first_or_0}
use Rattle.sch_insn.specs.Machine.{set_register, add64, word, sum_of, unknown_flags}
use Rattle.sch_insn.proofs.Paths.{leads_on}
use Rattle.sch_asm.specs.declared.item.Item.{Item}
use Rattle.sch_asm.specs.declared.item.Item.TheVariants as item
use Rattle.sch_word.specs.declared.mark.MarkKind.{MarkKind}
use Rattle.sch_word.specs.runs.ProgramLayout.{data_address}
use Rattle.sch_asm.specs.Stands.{Stands}
use Rattle.sch_asm.specs.Data.{FixnumWord, word_in}
use Rattle.sch_asm.specs.Views.{View}
use Rattle.sch_asm.proofs.EachItem.{goes, loads_word, loads_data, loads_one_byte}
use Rattle.sch_select_memory.specs.Addresses.{max_heap_end}
use Rattle.sch_select_memory.specs.Parts.{Parts}
use Rattle.sch_select_memory.specs.Encoded.{IsWord}
use Rattle.sch_select_memory.proofs.heap.Encodings.{symbol_tested}
use Rattle.sch_select_memory.proofs.heap.Elements.{index_word, byte_at_offset, byte_below}
use Rattle.sch_select_memory.proofs.heap.Quotients.{positive_word}
use Rattle.sch_select_memory.specs.Addresses.{table_address}
use Rattle.sch_select_operations.specs.ObjectCode.{name_code, symbol_length_code, symbol_ref_code, check_index}
use Rattle.sch_select_memory.specs.Checks.{check_fixnum}
use Rattle.sch_select_memory.proofs.Straight.{is_free, kept_set, kept_then, moved_to, tagged, Comes}
use Rattle.sch_select_memory.proofs.Straight.{comes_after, fixnum_checked}
use Rattle.sch_select_memory.proofs.Places.{Plan, Activation, StoreAt, heap_above, heap_within}
use Rattle.sch_select_operations.proofs.objects.Tags.{TagTested, tag_checked, one_of}
use Rattle.sch_select_operations.proofs.objects.Indices.{Ranged, index_decided}
use Rattle.sch_select_operations.proofs.objects.Strings.{index_shifted, character_word}
use Rattle.sch_select_memory.proofs.StoredNames.{first_name, SymbolAt, symbol_at}

-- ---- values that are symbols, and others

symbol_of : (v : Value) → is_symbol v ≡ true → (n : ℕ) × (v ≡ symbol n)
symbol_of (symbol n) e = (n, refl)
symbol_of (fixnum n) e = absurd cc
symbol_of (character c) e = absurd cc
symbol_of (boolean b) e = absurd cc
symbol_of nil e = absurd cc
symbol_of unspecified e = absurd cc
symbol_of (object n) e = absurd cc
symbol_of (procedure n) e = absurd cc
symbol_of (cell n) e = absurd cc

no_symbol : (v : Value) (next : List ℕ → Action Value) (t : Store) → is_symbol v ≡ false
    → as_symbol v next t ≡ stops WrongType t
no_symbol (symbol n) next t e = absurd cc
no_symbol (fixnum n) next t e = refl
no_symbol (character c) next t e = refl
no_symbol (boolean b) next t e = refl
no_symbol nil next t e = refl
no_symbol unspecified next t e = refl
no_symbol (object n) next t e = refl
no_symbol (procedure n) next t e = refl
no_symbol (cell n) next t e = refl

-- the entry's address, from the symbol's word and the table's
entry_named : (n w first : ℕ) → w ≡ 8 * n + 5 → first + 8 * n + 8 < 2 ^ 32 → add64 (add64 w first) (word (negsuc 4)) ≡ first + 8 * n
entry_named n w first e lt = omega (arith, e, lt)

size_named : (at w : ℕ) → w ≡ at → at < 2 ^ 32 → add64 w (word (pos 0)) ≡ at
size_named at w e lt = omega (arith, e, lt)

letter_named : (k w at : ℕ) → w ≡ at → at + 8 + k < 2 ^ 32 → add64 (add64 w k) (word (pos 8)) ≡ at + 8 + k
letter_named k w at e lt = omega (arith, e, lt)

module _ (plan : Plan) (act : Activation plan) (parts : Parts) (s : State Procedure) where
  open plan use {setting, size, heap, stack, near, stack_low}

  abbrev named_code : List Item → List Item
  named_code code = item.LoadWord 2 table_address ∷ (item.Plain (AddTo (Reg 0) 2)
      ∷ (item.Plain (MovFrom 0 (Base32 0 (negsuc 4))) ∷ code))

  -- what follows the name of a symbol is done with it, and anything else is stop 65
  name_here : (v : Value) (next : List ℕ → Action Value) (x : View) (waiting : List MarkKind) (c : ℕ)
      (code rest : List Item) → StoreAt plan parts s x.bytes x.output x.answers → IsWord parts v (x.registers 0)
      → Stands setting waiting x.place (name_code code)
      → ((n : ℕ) (q : SymbolAt plan s x.bytes n) (registers : ℕ → ℕ) (place : ℕ) (flags : Flags) → registers 0 ≡ q.at
      → registers 1 ≡ x.registers 1 → Stands setting [] place code
      → Comes setting parts is_free (moved_to x registers flags place) [] c s.store rest (next q.name s.store))
      → Comes setting parts is_free x waiting (c + 7) s.store rest (as_symbol v next s.store)
  name_here v next x waiting c code rest g h st K =
      by (is_symbol v) refl (tag_checked setting 0 5 (is_symbol v) x waiting (named_code code) (omega arith)
      (symbol_tested parts v (x.registers 0) h) st)
    where
      by : (b : Bool) → is_symbol v ≡ b → TagTested setting b x waiting (named_code code)
          → Comes setting parts is_free x waiting (c + 7) s.store rest (as_symbol v next s.store)
      by false e r = subst (Comes setting parts is_free x waiting (c + 7) s.store rest)
          (sym (no_symbol v next s.store e)) (
            refl,
            record {
              registers = r.registers;
              flags = r.flags;
              least = r.least;
              steps = r.steps;
              leads = r.leads;
              few = (let q = r.few in omega (arith, q));
            },
          )
      by true e r =
          let m = symbol_of v e in
          let hw : IsWord parts (symbol m.0) (x.registers 0) = subst (λ v. IsWord parts v (x.registers 0)) m.1 h in
          let q = symbol_at plan parts s x.bytes x.output x.answers m.0 (x.registers 0) (heap_within plan act) g hw in
          let y0 : View = moved_to x r.registers r.flags r.place in
          let first = first_name plan in
          let y1 : View = moved_to x (set_register r.registers 2 (word_in x.bytes table_address)) r.flags (r.place + r.ahead.0) in
          let sum = sum_of (r.registers 0) (word_in x.bytes table_address) in
          let y2 : View = moved_to x (set_register y1.registers 0 sum.value) sum.flags (y1.place + r.ahead.4.0) in
          let a = first + 8 * m.0 in
          let y3 : View = moved_to x (set_register y2.registers 0 (word_in x.bytes a)) sum.flags (y2.place + r.ahead.4.2.0) in
          let w = hw.0 in let n = near in let low = stack_low in let in_entry = q.entry_inside in
          let high = in_entry.high in let z = g.size_is in let u = plan.small in
          let entry = (plan.named.each m.0 q.name (sym (ap (λ l. slice_get l m.0) g.symbols_are) ∙ q.is)).entry_high in
          let above = heap_above plan in
          let named : add64 sum.value (word (negsuc 4)) ≡ a = ap (λ t. add64 (add64 (r.registers 0) t) (word (negsuc 4))) q.table
          ∙ entry_named m.0 (r.registers 0) first (r.kept 0 refl ∙ w) (omega (arith, entry, above, low, n)) in
          subst (Comes setting parts is_free x waiting (c + 7) s.store rest)
          (sym (ap (λ v. as_symbol v next s.store) m.1 ∙ ap (λ o. when_known o next s.store) q.is))
          (comes_after setting parts is_free x y3.registers y3.flags y3.place waiting 7 7 c (c + 7) s.store rest _
          (leads_on setting.marks (leads_on setting.marks (leads_on setting.marks r.leads
          (loads_data setting y0 2 table_address (item.Plain (AddTo (Reg 0) 2)
          ∷ (item.Plain (MovFrom 0 (Base32 0 (negsuc 4))) ∷ code)) [] r.ahead q.table_inside))
          (goes setting y1 y2 (AddTo (Reg 0) 2) r.ahead.4.0 [] r.ahead.4.1 refl))
          (loads_word setting y2 0 r.ahead.4.2.0 a (Base32 0 (negsuc 4)) [] r.ahead.4.2.1 named q.entry_inside))
          (kept_then is_free x.registers r.registers y3.registers (one_of is_free 2 x.registers r.registers refl r.kept)
          (kept_then is_free r.registers y1.registers y3.registers
          (kept_set is_free r.registers 2 (word_in x.bytes table_address) refl)
          (kept_then is_free y1.registers y2.registers y3.registers (kept_set is_free y1.registers 0 sum.value refl)
          (kept_set is_free y2.registers 0 (word_in x.bytes a) refl)))) (omega arith)
          (K m.0 q y3.registers y3.place y3.flags q.entry (r.kept 1 refl) r.ahead.4.2.2))

  pub symbol_length_here : (v : Value) (x : View) (waiting : List MarkKind) (rest : List Item)
      → StoreAt plan parts s x.bytes x.output x.answers → IsWord parts v (x.registers 0)
      → Stands setting waiting x.place (symbol_length_code rest)
      → Comes setting parts is_free x waiting 8 s.store rest
      (as_symbol v (λ name. gives (fixnum (pos (length name)))) s.store)
  symbol_length_here v x waiting rest g h st =
      name_here v (λ name. gives (fixnum (pos (length name)))) x waiting 1
      (item.Plain (MovFrom 0 (Base32 0 (pos 0))) ∷ rest) rest g h st
      (λ n q registers place flags at second st.
      let y : View = moved_to x registers flags place in
      let w = word_in x.bytes q.at in
      let high = q.high in let m = near in let low = stack_low in (
        refl,
        record {
          registers = set_register registers 0 w;
          flags = flags;
          place = place + st.0;
          least = 1;
          steps = 1;
          leads = loads_word setting y 0 st.0 q.at (Base32 0 (pos 0)) [] st.1
              (size_named q.at (registers 0) at (omega (arith, high, m, low))) q.size_inside;
          few = omega arith;
          kept = kept_set is_free registers 0 w refl;
          value = subst (FixnumWord (pos (length q.name))) (sym q.size_is)
              (positive_word (length q.name) (omega (arith, high, m, low)));
          ahead = st.2;
        },
      ))

  abbrev read_at : List Item → List Item
  read_at rest = item.Plain (Shr (Reg 1) 3) ∷ (item.Plain (AddTo (Reg 0) 1) ∷ (item.Plain (LoadByte 0 (Base32 0 (pos 8)))
      ∷ (item.Plain (Shl (Reg 0) 8) ∷ (item.Plain (AddNumber (Reg 0) (pos 46)) ∷ rest))))

  ranged_here : (m : ℕ) (n : ℤ) (x : View) (rest : List Item) (q : SymbolAt plan s x.bytes m) → length x.bytes ≡ size
      → x.registers 0 ≡ q.at → FixnumWord n (x.registers 1)
      → Stands setting [] x.place (check_index (Base32 0 (pos 0)) (read_at rest))
      → Comes setting parts is_free x [] 7 s.store rest
      (in_range n (length q.name) (λ k. gives (character (slice_index q.name k))) s.store)
  ranged_here m n x rest q size_is same hn st =
      by (is_index n (length q.name)) refl (index_decided setting x n (pos 0) q.at (length q.name) (read_at rest) hn
      (size_named q.at (x.registers 0) same (omega (arith, high, near_is, low))) q.size_inside q.size_is
      (omega (arith, high, near_is, low)) st)
    where
      high : q.at + 8 + length q.name ≤ heap
      high = q.high

      near_is : stack ≤ max_heap_end
      near_is = near

      low : heap ≤ stack
      low = stack_low

      from : first_name plan ≤ q.at
      from = q.low

      by : (b : Bool) → is_index n (length q.name) ≡ b → Ranged setting b x (read_at rest)
          → Comes setting parts is_free x [] 7 s.store rest
          (require b OutOfRange (gives (character (slice_index q.name (nat_abs n)))) s.store)
      by false e r = (
        refl,
        record {
          registers = r.registers;
          flags = r.flags;
          least = r.least;
          steps = r.steps;
          leads = r.leads;
          few = (let q = r.few in omega (arith, q));
        },
      )
      by true e r =
          let at = index_word n (x.registers 1) (length q.name) hn e in
          let k = nat_abs n in
          let index = at.0 in let below = at.1 in
          let i = x.registers 1 / 2 ^ 3 in
          let shifted : i ≡ k = index_shifted k (x.registers 1) index in
          let y0 : View = moved_to x x.registers r.flags r.place in
          let y1 : View = moved_to x (set_register x.registers 1 i) unknown_flags (r.place + r.ahead.0) in
          let sum = sum_of (x.registers 0) i in
          let y2 : View = moved_to x (set_register y1.registers 0 sum.value) sum.flags (y1.place + r.ahead.2.0) in
          let b = q.at + 8 + k in
          let u = first_or_0 (drop (b - data_address) x.bytes) in
          let y3 : View = moved_to x (set_register y2.registers 0 u) sum.flags (y2.place + r.ahead.2.2.0) in
          let h = u * 2 ^ 8 % 2 ^ 64 in
          let y4 : View = moved_to x (set_register y3.registers 0 h) unknown_flags (y3.place + r.ahead.2.2.2.0) in
          let last = sum_of h 46 in
          let named : add64 sum.value (word (pos 8)) ≡ b = ap (λ i. add64 (add64 (x.registers 0) i) (word (pos 8))) shifted
          ∙ letter_named k (x.registers 0) q.at same (omega (arith, high, near_is, low, below)) in
          let text = q.text in
          let whole : take (length q.name) (drop (q.at + 8 - data_address) x.bytes) ≡ q.name = ap (take (length q.name)) text.is
          ∙ take-append_seam q.name text.rest in
          let off : q.at + 8 - data_address + k ≡ b - data_address = omega (arith, from) in
          let byte : u ≡ slice_index q.name k = ap (λ j. first_or_0 (drop j x.bytes)) (sym off)
          ∙ byte_at_offset x.bytes q.name (q.at + 8 - data_address) k whole below in
          let t = heap_within plan act in (
            refl,
            record {
              registers = set_register y4.registers 0 last.value;
              flags = last.flags;
              place = y4.place + r.ahead.2.2.2.2.0;
              least = 7;
              steps = 7;
              leads = leads_on setting.marks (leads_on setting.marks (leads_on setting.marks (leads_on setting.marks
                  (leads_on setting.marks r.leads (goes setting y0 y1 (Shr (Reg 1) 3) r.ahead.0 [] r.ahead.1 refl))
                  (goes setting y1 y2 (AddTo (Reg 0) 1) r.ahead.2.0 [] r.ahead.2.1 refl))
                  (loads_one_byte setting y2 0 r.ahead.2.2.0 b (Base32 0 (pos 8)) [] r.ahead.2.2.1 named
                  (omega (arith, from)) (omega (arith, high, below, size_is, t))))
                  (goes setting y3 y4 (Shl (Reg 0) 8) r.ahead.2.2.2.0 [] r.ahead.2.2.2.1 refl))
                  (goes setting y4 _ (AddNumber (Reg 0) (pos 46)) r.ahead.2.2.2.2.0 [] r.ahead.2.2.2.2.1 refl);
              few = omega arith;
              kept = kept_then is_free x.registers y1.registers (set_register y4.registers 0 last.value)
                  (kept_set is_free x.registers 1 i refl) (kept_then is_free y1.registers y2.registers
                  (set_register y4.registers 0 last.value) (kept_set is_free y1.registers 0 sum.value refl)
                  (kept_then is_free y2.registers y3.registers (set_register y4.registers 0 last.value)
                  (kept_set is_free y2.registers 0 u refl) (kept_then is_free y3.registers y4.registers
                  (set_register y4.registers 0 last.value) (kept_set is_free y3.registers 0 h refl)
                  (kept_set is_free y4.registers 0 last.value refl))));
              value = subst (λ c. IsWord parts (character c) last.value) byte
                  (character_word parts u (subst (λ c. c < 256) (sym byte) (byte_below q.name k q.are_bytes below)));
              ahead = r.ahead.2.2.2.2.2;
            },
          )

  pub symbol_ref_here : (v i : Value) (x : View) (waiting : List MarkKind) (rest : List Item)
      → StoreAt plan parts s x.bytes x.output x.answers → IsWord parts v (x.registers 0)
      → IsWord parts i (x.registers 1) → Stands setting waiting x.place (symbol_ref_code rest)
      → Comes setting parts is_free x waiting 17 s.store rest
      (as_symbol v (λ name. as_fixnum i (λ n. in_range n (length name) (λ k. gives (character (slice_index name k))))) s.store)
  symbol_ref_here v i x waiting rest g h hi st =
      name_here v (λ name. as_fixnum i (λ n. in_range n (length name) (λ k. gives (character (slice_index name k))))) x
      waiting 10 (check_fixnum 1 (check_index (Base32 0 (pos 0)) (read_at rest))) rest g h st
      (λ m q registers place flags at second st.
      let y : View = moved_to x registers flags place in
      fixnum_checked setting parts 1 i (λ n. in_range n (length q.name) (λ k. gives (character (slice_index q.name k))))
      y [] 7 s.store (check_index (Base32 0 (pos 0)) (read_at rest)) rest
      (subst (IsWord parts i) (sym second) hi) st
      (λ n tag flags place hn st. ranged_here m n (tagged setting y 1 tag flags place) rest q g.size_is at hn st))
