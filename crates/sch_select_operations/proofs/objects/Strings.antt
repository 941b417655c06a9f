-- The machine reads strings and sets their characters (R5RS 6.3.5).
use Rattle.std.proofs.Common.{◌≡◌, ℕ, suc, ◌+◌, ◌-◌, ◌*◌, ◌^◌, ◌/◌, ◌%◌, ◌<◌, ◌≤◌, List, [], ◌∷◌, length, drop}
use Rattle.std.proofs.Common.{Bool, true, false, Some, refl, sym, ap, ◌∙◌, subst, arith}
use Rattle.std.specs.Prelude.{ℤ, pos, negsuc, nat_abs, slice_get, slice_index}
use Rattle.sch_word.specs.declared.answer.Answer.{Answer}
use Rattle.sch_word.specs.declared.stop.Stop.TheVariants.{OutOfRange}
use Rattle.sch_word.specs.values.Values.{Value, fixnum, character, object, string, are_bytes}
use Rattle.sch_word.specs.values.PrimitiveRows.{is_string, is_index, object_at, string_or_stop}
use Rattle.sch_word.specs.values.PrimitiveRows.{as_string, as_fixnum, in_range}
use Rattle.sch_word.specs.runs.Computation.{Action, gives, require, State}
use Rattle.sch_word.specs.runs.Procedures.{Procedure}
use Rattle.sch_insn.specs.declared.insn.Arg.TheVariants.{Reg, Base32}
use Rattle.sch_insn.specs.declared.insn.Insn.TheVariants.{MovFrom, AddTo, AddNumber, Shl, Shr, LoadByte}
use Rattle.sch_word.specs.values.Options.{first_or_0}
use Rattle.sch_insn.specs.Machine.{set_register, add64, word, sum_of, unknown_flags}
use Rattle.sch_insn.proofs.Paths.{leads_on}
use Rattle.sch_asm.specs.declared.item.Item.{Item}
use Rattle.sch_asm.specs.declared.item.Item.TheVariants as item
use Rattle.sch_word.specs.declared.mark.MarkKind.{MarkKind}
use Rattle.sch_word.specs.runs.ProgramLayout.{data_address}
use Rattle.sch_asm.specs.Stands.{Stands}
use Rattle.sch_asm.specs.Data.{FixnumWord, word_in}
use Rattle.sch_asm.specs.Views.{View}
use Rattle.sch_asm.proofs.EachItem.{goes, loads_word, loads_one_byte}
use Rattle.sch_select_memory.specs.Addresses.{max_heap_end}
use Rattle.sch_select_memory.specs.Parts.{a_string, Parts, Spot, spot}
use Rattle.sch_select_memory.specs.Encoded.{IsWord}
use Rattle.sch_select_memory.specs.Heap.{StringAt, text_address}
use Rattle.sch_select_memory.proofs.heap.Spots.{spot_within}
use Rattle.sch_select_memory.proofs.heap.Ranges.{piece_in}
use Rattle.sch_select_memory.proofs.heap.Elements.{index_word, byte_at_offset, byte_below}
use Rattle.sch_select_memory.proofs.heap.Objects.{string_of, string_tested, string_named, no_string, one_spot}
use Rattle.sch_select_memory.proofs.heap.Quotients.{positive_word}
use Rattle.sch_select_operations.specs.ObjectCode.{length_code, string_ref_code, check_index}
use Rattle.sch_select_memory.specs.Checks.{check_fixnum}
use Rattle.sch_select_memory.proofs.Straight.{is_free, kept_set, kept_then, moved_to, tagged, Comes}
use Rattle.sch_select_memory.proofs.Straight.{comes_after, fixnum_checked}
use Rattle.sch_select_memory.proofs.Places.{Plan, Activation, StoreAt}
use Rattle.sch_select_memory.proofs.HeapWrites.{heap_inside}
use Rattle.sch_select_operations.proofs.objects.Tags.{TagTested, tag_checked, one_of}
use Rattle.sch_select_operations.proofs.objects.Indices.{Ranged, index_decided}

-- ---- the words of a string

-- the address of a character, from the string's word and the index
pub character_named : (unit k w : ℕ) → w ≡ 16 * unit + 3 → 16 * unit + 8 + k < 2 ^ 32
    → add64 (add64 w k) (word (pos 5)) ≡ text_address unit + k
character_named unit k w e lt = omega (arith, e, lt)

pub length_named : (unit w : ℕ) → w ≡ 16 * unit + 3 → 16 * unit < 2 ^ 32 → add64 w (word (negsuc 2)) ≡ 16 * unit
length_named unit w e lt = omega (arith, e, lt)

pub index_shifted : (k w : ℕ) → w ≡ 8 * k → w / 2 ^ 3 ≡ k
index_shifted k w e = omega (arith, e)

-- a byte becomes the word of its character
pub character_word : (parts : Parts) (b : ℕ) → b < 256 → IsWord parts (character b) (add64 (b * 2 ^ 8 % 2 ^ 64) 46)
character_word parts b lt = (omega (arith, lt), lt)

module _ (plan : Plan) (act : Activation plan) (parts : Parts) (s : State Procedure) where
  open plan use {setting, size, closures, heap, stack, near}

  -- a value that is a string, with its words
  pub record StringHere (v : Value) (x : ℕ) (bytes : List ℕ) : Type 0 where
    pub number : ℕ
    pub value : v ≡ object number
    pub text : List ℕ
    pub there : slice_get s.store.objects number ≡ Some (string text)
    pub at : Spot
    pub spotted : spot parts (a_string number) ≡ Some at
    pub is : x ≡ 16 * at.unit + 3
    pub room : 8 + length text ≤ 16 * suc at.more
    pub size_word : word_in bytes (16 * at.unit) ≡ 8 * length text
    pub text_is : piece_in bytes (text_address at.unit) (length text) ≡ text
    pub are_bytes : are_bytes text ≡ true
    pub low : closures ≤ 16 * at.unit
    pub high : 16 * at.unit + 16 * suc at.more ≤ stack

  pub string_here : (v : Value) (x : ℕ) (bytes output : List ℕ) (answers : List Answer)
      → StoreAt plan parts s bytes output answers → IsWord parts v x → is_string (object_at v s.store) ≡ true
      → StringHere v x bytes
  string_here v x bytes output answers g h e =
      let p = string_of s.store v e in
      let named = string_named parts s.store g.contents.kinds p.number x p.text
      (subst (λ v. IsWord parts v x) p.value h) p.there in
      let q : StringAt parts bytes p.number p.text = g.contents.object p.number (string p.text) p.there in
      let same = one_spot parts (a_string p.number) named.at q.at named.there q.there in
      let inside = spot_within parts (a_string p.number) q.at q.there in
      let lo = inside.0 in let hi = inside.1 in let b = g.begins in let z = g.ends in let i = g.within in
      record {
        number = p.number;
        value = p.value;
        text = p.text;
        there = p.there;
        at = q.at;
        spotted = q.there;
        is = named.is ∙ ap (λ s. 16 * s.unit + 3) same;
        room = q.room;
        size_word = q.size;
        text_is = q.text_is;
        are_bytes = q.are_bytes;
        low = omega (arith, lo, b);
        high = omega (arith, hi, z, i);
      }

  -- what is done with a string, and with anything else
  pub with_string : (v : Value) (x : ℕ) (bytes : List ℕ) (next : List ℕ → Action Value) (p : StringHere v x bytes)
      → as_string v next s.store ≡ next p.text s.store
  with_string v x bytes next p = ap (λ v. as_string v next s.store) p.value
      ∙ ap (λ o. string_or_stop o next s.store) p.there

  -- ---- the length

  pub string_length_here : (v : Value) (x : View) (waiting : List MarkKind) (rest : List Item)
      → StoreAt plan parts s x.bytes x.output x.answers → IsWord parts v (x.registers 0)
      → Stands setting waiting x.place (length_code 3 (Base32 0 (negsuc 2)) rest)
      → Comes setting parts is_free x waiting 5 s.store rest
      (as_string v (λ text. gives (fixnum (pos (length text)))) s.store)
  string_length_here v x waiting rest g h st =
      by (is_string (object_at v s.store)) refl (tag_checked setting 0 3 (is_string (object_at v s.store)) x waiting code
      (omega arith) (string_tested parts s.store g.contents.kinds v (x.registers 0) h) st)
    where
      code : List Item
      code = item.Plain (MovFrom 0 (Base32 0 (negsuc 2))) ∷ rest

      next : List ℕ → Action Value
      next text = gives (fixnum (pos (length text)))

      by : (b : Bool) → is_string (object_at v s.store) ≡ b → TagTested setting b x waiting code
          → Comes setting parts is_free x waiting 5 s.store rest (as_string v next s.store)
      by false e r = subst (Comes setting parts is_free x waiting 5 s.store rest)
          (sym (no_string (object_at v s.store) next s.store e)) (
            refl,
            record {
              registers = r.registers;
              flags = r.flags;
              least = r.least;
              steps = r.steps;
              leads = r.leads;
              few = (let q = r.few in omega (arith, q));
            },
          )
      by true e r =
          let p = string_here v (x.registers 0) x.bytes x.output x.answers g h e in
          let y : View = moved_to x r.registers r.flags r.place in
          let a = 16 * p.at.unit in
          let n = word_in x.bytes a in
          let m = near in let hi = p.high in let lo = p.low in let is = r.kept 0 refl ∙ p.is in let room = p.room in
          subst (Comes setting parts is_free x waiting 5 s.store rest)
          (sym (with_string v (x.registers 0) x.bytes next p)) (
            refl,
            record {
              registers = set_register r.registers 0 n;
              flags = r.flags;
              place = r.place + r.ahead.0;
              least = 5;
              steps = 5;
              leads = leads_on setting.marks r.leads (loads_word setting y 0 r.ahead.0 a (Base32 0 (negsuc 2)) [] r.ahead.1
                  (length_named p.at.unit (r.registers 0) is (omega (arith, hi, m)))
                  (heap_inside plan act a x.bytes g.size_is (omega (arith, lo)) (omega (arith, hi))));
              few = omega arith;
              kept = kept_then is_free x.registers r.registers (set_register r.registers 0 n)
                  (one_of is_free 2 x.registers r.registers refl r.kept) (kept_set is_free r.registers 0 n refl);
              value = subst (FixnumWord (pos (length p.text))) (sym p.size_word)
                  (positive_word (length p.text) (omega (arith, hi, m, room)));
              ahead = r.ahead.2;
            },
          )

  -- ---- a character

  abbrev read_at : List Item → List Item
  read_at rest = item.Plain (Shr (Reg 1) 3) ∷ (item.Plain (AddTo (Reg 0) 1) ∷ (item.Plain (LoadByte 0 (Base32 0 (pos 5)))
      ∷ (item.Plain (Shl (Reg 0) 8) ∷ (item.Plain (AddNumber (Reg 0) (pos 46)) ∷ rest))))

  -- at an index in RCX, from a string in RAX: the index is tested, and a character read
  ranged_here : (v : Value) (n : ℤ) (x : View) (rest : List Item) (w : ℕ) → (p : StringHere v w x.bytes)
      → StoreAt plan parts s x.bytes x.output x.answers → x.registers 0 ≡ w → FixnumWord n (x.registers 1)
      → Stands setting [] x.place (check_index (Base32 0 (negsuc 2)) (read_at rest))
      → Comes setting parts is_free x [] 7 s.store rest
      (in_range n (length p.text) (λ k. gives (character (slice_index p.text k))) s.store)
  ranged_here v n x rest w p g same hn st =
      by (is_index n (length p.text)) refl (index_decided setting x n (negsuc 2) a (length p.text) (read_at rest) hn
      (length_named p.at.unit (x.registers 0) is (omega (arith, hi, m)))
      (heap_inside plan act a x.bytes g.size_is lo (omega (arith, hi))) p.size_word (omega (arith, hi, m, room)) st)
    where
      a : ℕ
      a = 16 * p.at.unit

      is : x.registers 0 ≡ 16 * p.at.unit + 3
      is = same ∙ p.is

      m : stack ≤ max_heap_end
      m = near

      hi : 16 * p.at.unit + 16 * suc p.at.more ≤ stack
      hi = p.high

      lo : closures ≤ 16 * p.at.unit
      lo = p.low

      room : 8 + length p.text ≤ 16 * suc p.at.more
      room = p.room

      by : (b : Bool) → is_index n (length p.text) ≡ b → Ranged setting b x (read_at rest)
          → Comes setting parts is_free x [] 7 s.store rest
          (require b OutOfRange (gives (character (slice_index p.text (nat_abs n)))) s.store)
      by false e r = (
        refl,
        record {
          registers = r.registers;
          flags = r.flags;
          least = r.least;
          steps = r.steps;
          leads = r.leads;
          few = (let q = r.few in omega (arith, q));
        },
      )
      by true e r =
          let at = index_word n (x.registers 1) (length p.text) hn e in
          let k = nat_abs n in
          let index = at.0 in let below = at.1 in
          let i = x.registers 1 / 2 ^ 3 in
          let shifted : i ≡ k = index_shifted k (x.registers 1) index in
          let y0 : View = moved_to x x.registers r.flags r.place in
          let y1 : View = moved_to x (set_register x.registers 1 i) unknown_flags (r.place + r.ahead.0) in
          let sum = sum_of (x.registers 0) i in
          let y2 : View = moved_to x (set_register y1.registers 0 sum.value) sum.flags (y1.place + r.ahead.2.0) in
          let b = text_address p.at.unit + k in
          let u = first_or_0 (drop (b - data_address) x.bytes) in
          let y3 : View = moved_to x (set_register y2.registers 0 u) sum.flags (y2.place + r.ahead.2.2.0) in
          let h = u * 2 ^ 8 % 2 ^ 64 in
          let y4 : View = moved_to x (set_register y3.registers 0 h) unknown_flags (y3.place + r.ahead.2.2.2.0) in
          let last = sum_of h 46 in
          let named : add64 sum.value (word (pos 5)) ≡ b = ap (λ i. add64 (add64 (x.registers 0) i) (word (pos 5))) shifted
          ∙ character_named p.at.unit k (x.registers 0) is (omega (arith, hi, m, room, below)) in
          let z = g.size_is in let cl = plan.closures_low in
          let top = act.room.low in let end = act.room.high in
          let off : text_address p.at.unit - data_address + k ≡ b - data_address = omega (arith, lo, cl) in
          let byte : u ≡ slice_index p.text k = ap (λ j. first_or_0 (drop j x.bytes)) (sym off)
          ∙ byte_at_offset x.bytes p.text (text_address p.at.unit - data_address) k p.text_is below in (
            refl,
            record {
              registers = set_register y4.registers 0 last.value;
              flags = last.flags;
              place = y4.place + r.ahead.2.2.2.2.0;
              least = 7;
              steps = 7;
              leads = leads_on setting.marks (leads_on setting.marks (leads_on setting.marks (leads_on setting.marks
                  (leads_on setting.marks r.leads (goes setting y0 y1 (Shr (Reg 1) 3) r.ahead.0 [] r.ahead.1 refl))
                  (goes setting y1 y2 (AddTo (Reg 0) 1) r.ahead.2.0 [] r.ahead.2.1 refl))
                  (loads_one_byte setting y2 0 r.ahead.2.2.0 b (Base32 0 (pos 5)) [] r.ahead.2.2.1 named
                  (omega (arith, lo, cl)) (omega (arith, hi, room, below, z, top, end))))
                  (goes setting y3 y4 (Shl (Reg 0) 8) r.ahead.2.2.2.0 [] r.ahead.2.2.2.1 refl))
                  (goes setting y4 _ (AddNumber (Reg 0) (pos 46)) r.ahead.2.2.2.2.0 [] r.ahead.2.2.2.2.1 refl);
              few = omega arith;
              kept = kept_then is_free x.registers y1.registers (set_register y4.registers 0 last.value)
                  (kept_set is_free x.registers 1 i refl) (kept_then is_free y1.registers y2.registers
                  (set_register y4.registers 0 last.value) (kept_set is_free y1.registers 0 sum.value refl)
                  (kept_then is_free y2.registers y3.registers (set_register y4.registers 0 last.value)
                  (kept_set is_free y2.registers 0 u refl) (kept_then is_free y3.registers y4.registers
                  (set_register y4.registers 0 last.value) (kept_set is_free y3.registers 0 h refl)
                  (kept_set is_free y4.registers 0 last.value refl))));
              value = subst (λ c. IsWord parts (character c) last.value) byte
                  (character_word parts u (subst (λ c. c < 256) (sym byte) (byte_below p.text k p.are_bytes below)));
              ahead = r.ahead.2.2.2.2.2;
            },
          )

  pub string_ref_here : (v i : Value) (x : View) (waiting : List MarkKind) (rest : List Item)
      → StoreAt plan parts s x.bytes x.output x.answers → IsWord parts v (x.registers 0)
      → IsWord parts i (x.registers 1) → Stands setting waiting x.place (string_ref_code rest)
      → Comes setting parts is_free x waiting 14 s.store rest
      (as_string v (λ text. as_fixnum i (λ n. in_range n (length text) (λ k. gives (character (slice_index text k))))) s.store)
  string_ref_here v i x waiting rest g h hi st =
      by (is_string (object_at v s.store)) refl (tag_checked setting 0 3 (is_string (object_at v s.store)) x waiting code
      (omega arith) (string_tested parts s.store g.contents.kinds v (x.registers 0) h) st)
    where
      code : List Item
      code = check_fixnum 1 (check_index (Base32 0 (negsuc 2)) (read_at rest))

      next : List ℕ → Action Value
      next text = as_fixnum i (λ n. in_range n (length text) (λ k. gives (character (slice_index text k))))

      by : (b : Bool) → is_string (object_at v s.store) ≡ b → TagTested setting b x waiting code
          → Comes setting parts is_free x waiting 14 s.store rest (as_string v next s.store)
      by false e r = subst (Comes setting parts is_free x waiting 14 s.store rest)
          (sym (no_string (object_at v s.store) next s.store e)) (
            refl,
            record {
              registers = r.registers;
              flags = r.flags;
              least = r.least;
              steps = r.steps;
              leads = r.leads;
              few = (let q = r.few in omega (arith, q));
            },
          )
      by true e r =
          let p = string_here v (x.registers 0) x.bytes x.output x.answers g h e in
          let y : View = moved_to x r.registers r.flags r.place in
          subst (Comes setting parts is_free x waiting 14 s.store rest)
          (sym (with_string v (x.registers 0) x.bytes next p))
          (comes_after setting parts is_free x r.registers r.flags r.place waiting 4 4 10 14 s.store rest _ r.leads
          (one_of is_free 2 x.registers r.registers refl r.kept) (omega arith)
          (fixnum_checked setting parts 1 i (λ n. in_range n (length p.text) (λ k. gives (character (slice_index p.text k))))
          y [] 7 s.store (check_index (Base32 0 (negsuc 2)) (read_at rest)) rest
          (subst (IsWord parts i) (sym (r.kept 1 refl)) hi) r.ahead
          (λ n tag flags place hn st. ranged_here v n (tagged setting y 1 tag flags place) rest (x.registers 0) p g
          (r.kept 0 refl) hn st)))
