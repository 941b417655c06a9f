-- The routine makes the list of the operands that are left over, wherever the first of them is.
use Rattle.std.proofs.Common.{◌≡◌, ℕ, suc, ◌+◌, ◌*◌, ◌^◌, ◌<◌, ◌≤◌, List, [], ◌∷◌, length, Bool, true, false, cond, refl}
use Rattle.std.proofs.Common.{sym, ap, ◌∙◌, subst, arith, inl, inr, ◌⊎◌, ◌==◌, eq-eqb, Some}
use Rattle.std.specs.Prelude.{pos, not}
use Rattle.std.proofs.lemmas.Bool.{ne_eqb, eqb-false}
use Rattle.sch_word.specs.declared.place.Place.{Place}
use Rattle.sch_word.specs.declared.place.Place.TheVariants.{Reg, Slot}
use Rattle.sch_word.specs.values.Values.{Value}
use Rattle.sch_word.specs.runs.Computation.{State}
use Rattle.sch_word.specs.runs.Procedures.{Procedure}
use Rattle.sch_word.specs.values.Places.{same_place}
use Rattle.sch_word.specs.runs.ProgramLayout.{data_address}
use Rattle.sch_insn.specs.declared.condition.TheConstants.{NE}
use Rattle.sch_insn.specs.declared.insn.Arg.TheVariants as arg
use Rattle.sch_insn.specs.declared.insn.Insn.TheVariants.{MovTo, MovFrom, MovNumber, AddNumber, CmpNumber, JumpTo}
use Rattle.sch_insn.specs.declared.state.Flags.{Flags}
use Rattle.sch_insn.specs.Machine.{set_register, sum_of, difference_of, condition}
use Rattle.sch_insn.proofs.Conditions.{compared_ne}
use Rattle.sch_insn.proofs.Paths.{leads_on}
use Rattle.sch_asm.specs.declared.item.Item.{Item}
use Rattle.sch_asm.specs.declared.item.Item.TheVariants as item
use Rattle.sch_asm.specs.Stands.{Stands}
use Rattle.sch_asm.specs.Data.{Inside, word_in, with_word}
use Rattle.sch_asm.specs.Views.{View, Leads}
use Rattle.sch_asm.proofs.EachItem.{goes, branches, jumps, loads_word, stores_word, stores_number}
use Rattle.sch_asm.proofs.Words.{word_same, word_other, size_kept}
use Rattle.sch_select_memory.specs.Parts.{Parts}
use Rattle.sch_select_memory.specs.Encoded.{IsWord}
use Rattle.sch_select_memory.proofs.heap.Encodings.{fits}
use Rattle.sch_select_memory.specs.Addresses.{part_operand}
use Rattle.sch_select_memory.specs.RestCode.{next_pair, loop_code, loop_label, slots_code, more_label, registers_code}
use Rattle.sch_select_memory.specs.RestCode.{first_code, first_slot_code, some_label, slot_operand}
use Rattle.sch_select_memory.proofs.Straight.{Kept, kept_set, kept_then, set_one}
use Rattle.sch_select_memory.proofs.Places.{Plan, Activation, StoreAt, store_kept}
use Rattle.sch_select_memory.proofs.HeapWrites.{Wrote, wrote_one, wrote_then, wrote_within, other_word}
use Rattle.sch_select_memory.proofs.HeapWrites.{heap_inside, store_wrote}
use Rattle.sch_select_memory.proofs.lists.RestLoop.{changed, is_loose, InSlots, PairsFrom, Made, slots_kept, next_here}
use Rattle.sch_select_memory.proofs.lists.RestLoop.{made_before, last_here, loop_here}

-- registers that none of the free ones is among
abbrev pub Outside : (free : ℕ → Bool) → List ℕ → Type 0
Outside free [] = Unit {0}
Outside free (r ∷ rs) = (free r ≡ false) × Outside free rs

-- one more free register
abbrev pub or_one : ℕ → (ℕ → Bool) → ℕ → Bool
or_one r free k = cond (k == r) true (free k)

pub kept_more : (r : ℕ) (free : ℕ → Bool) (registers registers' : ℕ → ℕ) → Kept free registers registers'
    → Kept (or_one r free) registers registers'
kept_more r free registers registers' kept k e = kept k (by (k == r) refl)
  where
    by : (b : Bool) → (k == r) ≡ b → free k ≡ false
    by true i = absurd (let bad : true ≡ false = sym (ap (λ b. cond b true (free k)) i) ∙ e in cc)
    by false i = sym (ap (λ b. cond b true (free k)) i) ∙ e

pub kept_one : (r : ℕ) (free : ℕ → Bool) (registers : ℕ → ℕ) (v : ℕ)
    → Kept (or_one r free) registers (set_register registers r v)
kept_one r free registers v = kept_set (or_one r free) registers r v
    (ap (λ b. cond b true (free r)) (eq-eqb r r refl))

-- a register that is none of the free ones is another one than these
pub apart_loose : (k r : ℕ) → is_loose r ≡ false → is_loose k ≡ true → (k == r) ≡ false
apart_loose k r firm loose = ne_eqb k r
    (λ e. let bad : true ≡ false = sym loose ∙ ap is_loose e ∙ firm in absurd cc)

pub turned : (r k : ℕ) → (r == k) ≡ false → (k == r) ≡ false
turned r k f = ne_eqb k r (λ e. eqb-false r k f (sym e))

pub untouched : (k r : ℕ) (registers : ℕ → ℕ) (v : ℕ) → (k == r) ≡ false → set_register registers r v k ≡ registers k
untouched k r registers v f = ap (λ b. cond b v (registers k)) f

pub untouched_twice : (k r : ℕ) (registers : ℕ → ℕ) (u v : ℕ) → (k == r) ≡ false
    → set_register (set_register registers r u) r v k ≡ registers k
untouched_twice k r registers u v f = untouched k r (set_register registers r u) v f ∙ untouched k r registers u f

-- the word of a list from an address on
abbrev pub list_word : ℕ → List Value → ℕ
list_word a [] = 22
list_word a (v ∷ vs) = a + 1

module _ (plan : Plan) (act : Activation plan) (parts : Parts) where
  open plan use {setting, size, closures, heap, stack, near, small, closures_low, heap_low, stack_low}

  -- the words of operands in registers, and then in slots from an address on
  abbrev pub AtPlaces : List ℕ → (ℕ → ℕ) → List ℕ → ℕ → List Value → Type 0
  AtPlaces [] registers bytes p vs = InSlots plan act parts bytes p vs
  AtPlaces (r ∷ rs) registers bytes p [] = Unit {0}
  AtPlaces (r ∷ rs) registers bytes p (v ∷ vs) = IsWord parts v (registers r) × AtPlaces rs registers bytes p vs

  abbrev pub ListAt : List ℕ → ℕ → List Value → Type 0
  ListAt bytes a [] = Unit {0}
  ListAt bytes a (v ∷ vs) = PairsFrom plan act parts bytes a v vs

  at_places_kept : (free : ℕ → Bool) (registers registers' : ℕ → ℕ) (bytes bytes' : List ℕ)
      → Kept free registers registers' → ((q : ℕ) → stack ≤ q → word_in bytes' q ≡ word_in bytes q) → (p : ℕ)
      → stack ≤ p → (rs : List ℕ) → Outside free rs → (vs : List Value) → AtPlaces rs registers bytes p vs
      → AtPlaces rs registers' bytes' p vs
  at_places_kept free registers registers' bytes bytes' kept same p lo [] out vs h = slots_kept plan act parts
      stack bytes bytes' same p lo vs h
  at_places_kept free registers registers' bytes bytes' kept same p lo (r ∷ rs) out [] h = tt
  at_places_kept free registers registers' bytes bytes' kept same p lo (r ∷ rs) out (v ∷ vs) h = (
    subst (IsWord parts v) (sym (kept r out.0)) h.0,
    at_places_kept free registers registers' bytes bytes' kept same p lo rs out.1 vs h.1,
  )

  -- What the routine does: the list has its word in a place, and nothing else has changed but the free bytes of the
  -- heap and free registers.
  abbrev pub word_of : Place → (ℕ → ℕ) → List ℕ → ℕ
  word_of (Reg r) registers bytes = registers r
  word_of (Slot j) registers bytes = word_in bytes (act.frame + 8 * j)

  pub record Listed (x : View) (a : ℕ) (to : Place) (vs : List Value) (most : ℕ) : Type 0 where
    pub registers : ℕ → ℕ
    pub flags : Flags
    pub place : ℕ
    pub bytes : List ℕ
    pub least : ℕ
    pub steps : ℕ
    pub leads : Leads setting least steps [] x (changed x registers flags place bytes)
    pub few : steps ≤ 10 * length vs + most
    pub at : place ≡ x.registers 11
    pub kept : (r : ℕ) → is_loose r ≡ false → same_place to (Reg r) ≡ false → registers r ≡ x.registers r
    pub free : registers 12 ≡ a + 16 * length vs
    pub size_is : length bytes ≡ size
    pub slots : (q : ℕ) → stack ≤ q → ((j : ℕ) → to ≡ Slot j
        → (q + 8 ≤ act.frame + 8 * j) ⊎ (act.frame + 8 * j + 8 ≤ q)) → word_in bytes q ≡ word_in x.bytes q
    pub store : (s : State Procedure) → heap + s.store.charged ≤ a → StoreAt plan parts s x.bytes x.output x.answers
        → StoreAt plan parts s bytes x.output x.answers
    pub value : word_of to registers bytes ≡ list_word a vs
    pub pairs : ListAt bytes a vs

  module _ (rest : List Item) (stands : Stands setting [] (setting.place_of loop_label) (loop_code rest)) where
    -- ---- the operands in registers, and then those in slots

    pub more_here : (m : ℕ) (rs : List ℕ) → Outside is_loose rs → (vs : List Value) (v : Value) (x : View) (a n : ℕ)
        → Stands setting [] x.place (registers_code m rs (slots_code rest)) → x.registers 0 ≡ suc (length vs)
        → length vs < 2 ^ 31 → x.registers 12 ≡ a → x.registers 5 ≡ act.frame → closures ≤ a
        → a + 16 * length vs + 16 ≤ stack → length x.bytes ≡ size → length vs ≤ length rs + n
        → act.frame + 8 * n ≤ data_address + size → IsWord parts v (word_in x.bytes a)
        → AtPlaces rs x.registers x.bytes act.frame vs → Made plan act parts x a v vs 6
    more_here m [] out vs v x a n st left few at framed low high sized many room hv hs =
        let h = st.2 in
        let y1 : View = record x
        { registers = set_register x.registers 1 (x.registers 5); place = x.place + h.0 } in
        let lo = act.room.low in
        let s = loop_here plan act parts rest stands vs v y1 a act.frame (sym h.2.1) left few framed at lo
        (omega (arith, many, room)) low high sized hv hs in
        let f = s.few in
        record {
          registers = s.registers;
          flags = s.flags;
          place = s.place;
          bytes = s.bytes;
          least = 1 + s.least;
          steps = 1 + s.steps;
          leads = leads_on setting.marks (goes setting x y1 (MovTo (arg.Reg 1) 5) h.0 [] h.1 refl) s.leads;
          few = omega (arith, f);
          at = s.at;
          kept = kept_then is_loose x.registers y1.registers s.registers
              (kept_set is_loose x.registers 1 (x.registers 5) refl) s.kept;
          free = s.free;
          wrote = s.wrote;
          pairs = s.pairs;
        }
    more_here m (r ∷ rs) out [] v x a n st left few at framed low high sized many room hv hs =
        let l = last_here plan act parts rest stands v x a
        (next_pair (item.Plain (MovTo (part_operand 0) r) ∷ registers_code (suc m) rs (slots_code rest))) left at low
        (omega (arith, high)) sized hv st.2 in
        let f = l.few in
        record {
          registers = l.registers;
          flags = l.flags;
          place = l.place;
          bytes = l.bytes;
          least = l.least;
          steps = l.steps;
          leads = l.leads;
          few = omega (arith, f);
          at = l.at;
          kept = l.kept;
          free = l.free;
          wrote = l.wrote;
          pairs = l.pairs;
        }
    more_here m (r ∷ rs) out (w ∷ vs) v x a n st left few at framed low high sized many room hv hs =
        let code = item.Plain (MovTo (part_operand 0) r) ∷ registers_code (suc m) rs (slots_code rest) in
        let q = next_here plan act parts x a (length vs) code left (omega (arith, few)) at low (omega (arith, high))
        sized st.2 in
        let k = near in let hl = heap_low in let cl = closures_low in let sl = stack_low in
        let qf = q.free in let h = q.ahead in let lo = act.room.low in
        let bytes1 = with_word x.bytes (a + 8) (a + 17) in
        let z : View = changed x q.registers q.flags q.place bytes1 in
        let sized1 : length bytes1 ≡ size = size_kept x.bytes (a + 8) (a + 17) q.within ∙ sized in
        let next_in : Inside (length bytes1) (a + 16) = heap_inside plan act (a + 16) bytes1 sized1 (omega (arith, low))
        (omega (arith, high)) in
        let word = q.registers r in
        let bytes2 = with_word bytes1 (a + 16) word in
        let z1 : View = record z { bytes = bytes2; place = z.place + h.0 } in
        let sized2 : length bytes2 ≡ size = size_kept bytes1 (a + 16) word next_in ∙ sized1 in
        let wrote : Wrote (a + 8) (a + 24) x.bytes bytes2 = wrote_then (a + 8) (a + 24) x.bytes bytes1 bytes2
        (wrote_one (a + 8) (a + 24) (a + 8) (a + 17) x.bytes q.within (omega arith) (omega arith))
        (wrote_one (a + 8) (a + 24) (a + 16) word bytes1 next_in (omega arith) (omega arith)) in
        let hw : IsWord parts w word = subst (IsWord parts w) (sym (q.kept r out.0)) hs.0 in
        let m' : Made plan act parts z1 (a + 16) w vs 6 = more_here (suc m) rs out.1 vs w z1 (a + 16) n h.2 q.left
        (omega (arith, few)) qf (q.kept 5 refl ∙ framed) (omega (arith, low)) (omega (arith, high)) sized2
        (omega (arith, many)) room
        (subst (IsWord parts w) (sym (word_same bytes1 (a + 16) word next_in (fits parts w word hw))) hw)
        (at_places_kept is_loose x.registers q.registers x.bytes bytes2 q.kept
        (λ p above. other_word (a + 8) (a + 24) x.bytes bytes2 wrote p (omega (arith, above, hl, cl, sl))
        (inr (omega (arith, high, above)))) act.frame lo rs out.1 vs hs.1) in
        made_before plan act parts x a (length vs) code q v w vs q.registers q.flags z1.place bytes2 7 6 low
        (leads_on setting.marks q.leads
        (stores_word setting z r h.0 (a + 16) (part_operand 0) [] h.1 (omega (arith, qf, high, k)) next_in))
        (omega arith) q.kept q.back wrote
        (word_other bytes1 (a + 16) word (a + 8) next_in (omega (arith, low, cl)) (inl (omega arith))
        ∙ word_same x.bytes (a + 8) (a + 17) q.within (omega (arith, high, k))) hv m'

    -- ---- the first operand is in a register

    -- whether an operand is left
    tested : (x : View) (n : ℕ) (b : Bool) → x.registers 0 ≡ n → n < 2 ^ 32 → (n == 0) ≡ b
        → condition (difference_of (x.registers 0) 0).flags NE ≡ Some (not b)
    tested x n b e few is = compared_ne (x.registers 0) 0 (omega (arith, e, few)) (omega arith)
        ∙ ap (λ k. Some (not (k == 0))) e ∙ ap (λ b. Some (not b)) is

    abbrev first_behind : (m r : ℕ) → List Item → List Item
    first_behind m r tail =
        item.Plain (MovTo (part_operand 0) r) ∷ (item.Plain (MovTo (arg.Reg r) 12) ∷
        (item.Plain (AddNumber (arg.Reg r) (pos 1)) ∷ (item.Jump (more_label (suc m)) ∷ tail)))

    abbrev none_behind : (m r : ℕ) → List Item → List Item
    none_behind m r tail =
        item.Plain (MovNumber (arg.Reg r) (pos 22)) ∷ (item.Plain (JumpTo (arg.Reg 11)) ∷
        (item.Label (some_label m) ∷ first_behind m r tail))

    pub first_register : (m r : ℕ) (rs : List ℕ) (tail : List Item) → is_loose r ≡ false → (5 == r) ≡ false
        → Outside is_loose rs → Outside (or_one r is_loose) rs → (vs : List Value) (x : View) (a n : ℕ)
        → Stands setting [] x.place (first_code m r tail)
        → Stands setting [] (setting.place_of (more_label (suc m))) (registers_code (suc m) rs (slots_code rest))
        → x.registers 0 ≡ length vs → length vs < 2 ^ 31 → x.registers 12 ≡ a → x.registers 5 ≡ act.frame
        → closures ≤ a → a + 16 * length vs ≤ stack → length x.bytes ≡ size → length vs ≤ suc (length rs) + n
        → act.frame + 8 * n ≤ data_address + size → AtPlaces (r ∷ rs) x.registers x.bytes act.frame vs
        → Listed x a (Reg r) vs 12
    first_register m r rs tail firm no_frame out more [] x a n st behind left few at framed low high sized many room hs =
        let h = st.2 in
        let y1 : View = record x { flags = (difference_of (x.registers 0) 0).flags; place = x.place + h.0 } in
        let y2 : View = record y1 { place = y1.place + h.2.0 } in
        let h2 = h.2.4 in
        let y3 : View = record y2 { registers = set_register x.registers r 22; place = y2.place + h2.0 } in
        let loose12 = untouched 12 r x.registers 22 (apart_loose 12 r firm refl) in
        let loose11 = untouched 11 r x.registers 22 (apart_loose 11 r firm refl) in
        record {
          registers = y3.registers;
          flags = y3.flags;
          place = y3.registers 11;
          bytes = x.bytes;
          least = 4;
          steps = 4;
          leads = leads_on setting.marks (leads_on setting.marks (leads_on setting.marks
              (goes setting x y1 (CmpNumber (arg.Reg 0) (pos 0)) h.0 [] h.1 refl)
              (branches setting y1 NE (some_label m) (none_behind m r tail) [] false h.2 (tested x 0 true left (omega arith) refl)))
              (goes setting y2 y3 (MovNumber (arg.Reg r) (pos 22)) h2.0 [] h2.1 refl))
              (goes setting y3 (record y3 { place = y3.registers 11 }) (JumpTo (arg.Reg 11)) h2.2.0 [] h2.2.1 refl);
          few = omega arith;
          at = loose11;
          kept = λ k e f. untouched k r x.registers 22 (turned r k f);
          free = loose12 ∙ at ∙ (let z : a ≡ a + 16 * 0 = omega arith in z);
          size_is = sized;
          slots = λ q lo far. refl;
          store = λ s le g. g;
          value = set_one x.registers r 22;
          pairs = tt;
        }
    first_register m r rs tail firm no_frame out more (v ∷ vs) x a n st behind left few at framed low high sized many room hs =
        let h = st.2 in
        let y1 : View = record x { flags = (difference_of (x.registers 0) 0).flags; place = x.place + h.0 } in
        let y2 : View = record y1 { place = setting.place_of (some_label m) } in
        let label = h.2.4.2.2 in
        let body = subst (λ p. Stands setting [] p (first_behind m r tail)) (sym label.1) label.2 in
        let k = near in let hl = heap_low in let cl = closures_low in let sl = stack_low in let lo = act.room.low in
        let within : Inside (length x.bytes) a = heap_inside plan act a x.bytes sized low (omega (arith, high)) in
        let bytes1 = with_word x.bytes a (x.registers r) in
        let y3 : View = record y2 { bytes = bytes1; place = y2.place + body.0 } in
        let y4 : View = record y3
        { registers = set_register x.registers r (x.registers 12); place = y3.place + body.2.0 } in
        let s = sum_of (y4.registers r) 1 in
        let y5 : View = record y4
        { registers = set_register y4.registers r s.value; flags = s.flags; place = y4.place + body.2.2.0 } in
        let y6 : View = record y5 { place = setting.place_of (more_label (suc m)) } in
        let same : y4.registers r ≡ a = set_one x.registers r (x.registers 12) ∙ at in
        let value : s.value ≡ a + 1 = omega (arith, same, high, k) in
        let kept : Kept (or_one r is_loose) x.registers y5.registers = kept_then (or_one r is_loose) x.registers
        y4.registers y5.registers (kept_one r is_loose x.registers (x.registers 12))
        (kept_one r is_loose y4.registers s.value) in
        let wrote : Wrote a (a + 16 * length (v ∷ vs)) x.bytes bytes1 = wrote_one a (a + 16 * length (v ∷ vs)) a
        (x.registers r) x.bytes within (omega arith) (omega arith) in
        let sized1 : length bytes1 ≡ size = size_kept x.bytes a (x.registers r) within ∙ sized in
        let m' : Made plan act parts y6 a v vs 6 = more_here (suc m) rs out vs v y6 a n behind
        (untouched_twice 0 r x.registers (x.registers 12) s.value (apart_loose 0 r firm refl) ∙ left) (omega (arith, few))
        (untouched_twice 12 r x.registers (x.registers 12) s.value (apart_loose 12 r firm refl) ∙ at)
        (untouched_twice 5 r x.registers (x.registers 12) s.value no_frame ∙ framed)
        low (omega (arith, high)) sized1 (omega (arith, many)) room
        (subst (IsWord parts v) (sym (word_same x.bytes a (x.registers r) within (fits parts v (x.registers r) hs.0)))
        hs.0)
        (at_places_kept (or_one r is_loose) x.registers y5.registers x.bytes bytes1 kept
        (λ q above. other_word a (a + 16 * length (v ∷ vs)) x.bytes bytes1 wrote q (omega (arith, above, hl, cl, sl))
        (inr (omega (arith, high, above)))) act.frame lo rs more vs hs.1) in
        let f = m'.few in let fr = m'.free in
        let all : Wrote a (a + 16 * length (v ∷ vs)) x.bytes m'.bytes = wrote_then a (a + 16 * length (v ∷ vs)) x.bytes
        bytes1 m'.bytes wrote (wrote_within a (a + 16 * length (v ∷ vs)) (a + 8) (a + 16 * length vs + 16) bytes1
        m'.bytes (omega arith) (omega arith) m'.wrote) in
        record {
          registers = m'.registers;
          flags = m'.flags;
          place = m'.place;
          bytes = m'.bytes;
          least = 6 + m'.least;
          steps = 6 + m'.steps;
          leads = leads_on setting.marks (leads_on setting.marks (leads_on setting.marks (leads_on setting.marks
              (leads_on setting.marks (leads_on setting.marks
              (goes setting x y1 (CmpNumber (arg.Reg 0) (pos 0)) h.0 [] h.1 refl)
              (branches setting y1 NE (some_label m) (none_behind m r tail) [] true h.2
              (tested x (suc (length vs)) false left (omega (arith, few)) (ne_eqb (suc (length vs)) 0 (λ e. omega (arith, e))))))
              (stores_word setting y2 r body.0 a (part_operand 0) [] body.1 (omega (arith, at, high, k)) within))
              (goes setting y3 y4 (MovTo (arg.Reg r) 12) body.2.0 [] body.2.1 refl))
              (goes setting y4 y5 (AddNumber (arg.Reg r) (pos 1)) body.2.2.0 [] body.2.2.1 refl))
              (jumps setting y5 (more_label (suc m)) tail [] body.2.2.2)) m'.leads;
          few = omega (arith, f);
          at = m'.at ∙ untouched_twice 11 r x.registers (x.registers 12) s.value (apart_loose 11 r firm refl);
          kept = λ j e q. m'.kept j e ∙ untouched_twice j r x.registers (x.registers 12) s.value (turned r j q);
          free = omega (arith, fr);
          size_is = m'.wrote.size ∙ sized1;
          slots = λ q above far. other_word a (a + 16 * length (v ∷ vs)) x.bytes m'.bytes all q
              (omega (arith, above, hl, cl, sl)) (inr (omega (arith, high, above)));
          store = λ t le g. store_wrote plan parts t x.bytes m'.bytes x.output x.answers a (a + 16 * length (v ∷ vs)) le
              high all g;
          value = m'.kept r firm ∙ set_one y4.registers r s.value ∙ value;
          pairs = m'.pairs;
        }

    -- ---- the first operand is in a slot

    abbrev slot_behind : List Item → List Item
    slot_behind tail =
        item.Plain (MovFrom 2 slot_operand) ∷ (item.Plain (MovTo (part_operand 0) 2) ∷ (item.Plain (MovTo (arg.Reg 2) 12)
        ∷ (item.Plain (AddNumber (arg.Reg 2) (pos 1)) ∷ (item.Plain (MovTo slot_operand 2) ∷
        (item.Plain (AddNumber (arg.Reg 1) (pos 8)) ∷ (item.Jump loop_label ∷ tail))))))

    abbrev slot_none : List Item → List Item
    slot_none tail =
        item.Plain (MovNumber slot_operand (pos 22)) ∷ (item.Plain (JumpTo (arg.Reg 11)) ∷
        (item.Label (some_label 6) ∷ slot_behind tail))

    pub first_slot : (j : ℕ) (tail : List Item) (vs : List Value) (x : View) (a : ℕ)
        → Stands setting [] x.place (first_slot_code tail) → x.registers 0 ≡ length vs → length vs < 2 ^ 31
        → x.registers 1 ≡ act.frame + 8 * j → x.registers 12 ≡ a → closures ≤ a → a + 16 * length vs ≤ stack
        → length x.bytes ≡ size → act.frame + 8 * j + 8 ≤ data_address + size
        → act.frame + 8 * j + 8 * length vs ≤ data_address + size → InSlots plan act parts x.bytes (act.frame + 8 * j) vs
        → Listed x a (Slot j) vs 12
    first_slot j tail [] x a st left few slot at low high sized one room hs =
        let h = st.2 in
        let hl = heap_low in let cl = closures_low in let sl = stack_low in let lo = act.room.low in let sm = small in
        let p = act.frame + 8 * j in
        let y1 : View = record x { flags = (difference_of (x.registers 0) 0).flags; place = x.place + h.0 } in
        let y2 : View = record y1 { place = y1.place + h.2.0 } in
        let h2 = h.2.4 in
        let within : Inside (length x.bytes) p = record
        { low = omega (arith, lo, hl, cl, sl); high = omega (arith, one, sized) } in
        let y3 : View = record y2 { bytes = with_word x.bytes p 22; place = y2.place + h2.0 } in
        record {
          registers = x.registers;
          flags = y3.flags;
          place = x.registers 11;
          bytes = y3.bytes;
          least = 4;
          steps = 4;
          leads = leads_on setting.marks (leads_on setting.marks (leads_on setting.marks
              (goes setting x y1 (CmpNumber (arg.Reg 0) (pos 0)) h.0 [] h.1 refl)
              (branches setting y1 NE (some_label 6) (slot_none tail) [] false h.2
              (tested x 0 true left (omega arith) refl)))
              (stores_number setting y2 (pos 22) h2.0 p slot_operand [] h2.1 (omega (arith, slot, one, sm)) within))
              (goes setting y3 (record y3 { place = x.registers 11 }) (JumpTo (arg.Reg 11)) h2.2.0 [] h2.2.1 refl);
          few = omega arith;
          at = refl;
          kept = λ k e f. refl;
          free = at ∙ (let z : a ≡ a + 16 * 0 = omega arith in z);
          size_is = size_kept x.bytes p 22 within ∙ sized;
          slots = λ q above far. word_other x.bytes p 22 q within (omega (arith, above, hl, cl, sl)) (far j refl);
          store = λ s le g. store_kept plan act parts s x.bytes x.output x.answers p 22 within (omega (arith, lo)) g;
          value = word_same x.bytes p 22 within (omega arith);
          pairs = tt;
        }
    first_slot j tail (v ∷ vs) x a st left few slot at low high sized one room hs =
        let h = st.2 in
        let k = near in let hl = heap_low in let cl = closures_low in let sl = stack_low in let lo = act.room.low in
        let sm = small in
        let p = act.frame + 8 * j in
        let y1 : View = record x { flags = (difference_of (x.registers 0) 0).flags; place = x.place + h.0 } in
        let y2 : View = record y1 { place = setting.place_of (some_label 6) } in
        let label = h.2.4.2.2 in
        let body = subst (λ p. Stands setting [] p (slot_behind tail)) (sym label.1) label.2 in
        let slot_in : Inside (length x.bytes) p = record
        { low = omega (arith, lo, hl, cl, sl); high = omega (arith, one, sized) } in
        let word = word_in x.bytes p in
        let y3 : View = record y2 { registers = set_register x.registers 2 word; place = y2.place + body.0 } in
        let within : Inside (length x.bytes) a = heap_inside plan act a x.bytes sized low (omega (arith, high)) in
        let bytes1 = with_word x.bytes a word in
        let sized1 : length bytes1 ≡ size = size_kept x.bytes a word within ∙ sized in
        let y4 : View = record y3 { bytes = bytes1; place = y3.place + body.2.0 } in
        let y5 : View = record y4
        { registers = set_register y3.registers 2 (x.registers 12); place = y4.place + body.2.2.0 } in
        let s = sum_of (x.registers 12) 1 in
        let y6 : View = record y5
        { registers = set_register y5.registers 2 s.value; flags = s.flags; place = y5.place + body.2.2.2.0 } in
        let slot_in1 : Inside (length bytes1) p = record
        { low = omega (arith, lo, hl, cl, sl); high = omega (arith, one, sized1) } in
        let bytes2 = with_word bytes1 p s.value in
        let sized2 : length bytes2 ≡ size = size_kept bytes1 p s.value slot_in1 ∙ sized1 in
        let y7 : View = record y6 { bytes = bytes2; place = y6.place + body.2.2.2.2.0 } in
        let t = sum_of (x.registers 1) 8 in
        let y8 : View = record y7
        { registers = set_register y6.registers 1 t.value; flags = t.flags; place = y7.place + body.2.2.2.2.2.0 } in
        let y9 : View = record y8 { place = setting.place_of loop_label } in
        let value : s.value ≡ a + 1 = omega (arith, at, high, k) in
        let kept : Kept is_loose x.registers y8.registers = kept_then is_loose x.registers y3.registers y8.registers
        (kept_set is_loose x.registers 2 word refl) (kept_then is_loose y3.registers y5.registers y8.registers
        (kept_set is_loose y3.registers 2 (x.registers 12) refl) (kept_then is_loose y5.registers y6.registers
        y8.registers (kept_set is_loose y5.registers 2 s.value refl) (kept_set is_loose y6.registers 1 t.value refl)))
        in
        let wrote : Wrote a (a + 16 * length (v ∷ vs)) x.bytes bytes1 = wrote_one a (a + 16 * length (v ∷ vs)) a
        word x.bytes within (omega arith) (omega arith) in
        let same1 : (q : ℕ) → stack ≤ q → word_in bytes1 q ≡ word_in x.bytes q = λ q above. other_word a
        (a + 16 * length (v ∷ vs)) x.bytes bytes1 wrote q (omega (arith, above, hl, cl, sl))
        (inr (omega (arith, high, above))) in
        let first : word_in bytes2 a ≡ word = word_other bytes1 p s.value a slot_in1 (omega (arith, low, cl))
        (inl (omega (arith, high, lo))) ∙ word_same x.bytes a word within (fits parts v word hs.0) in
        let m : Made plan act parts y9 a v vs 5 = loop_here plan act parts rest stands vs v y9 a (p + 8) refl left
        (omega (arith, few)) (omega (arith, slot, one, sm)) at (omega (arith, lo)) (omega (arith, room)) low
        (omega (arith, high)) sized2 (subst (IsWord parts v) (sym first) hs.0)
        (slots_kept plan act parts (p + 8) x.bytes bytes2
        (λ q above. word_other bytes1 p s.value q slot_in1 (omega (arith, above, lo, hl, cl, sl)) (inr above)
        ∙ same1 q (omega (arith, above, lo))) (p + 8) (omega arith) vs hs.1) in
        let f = m.few in let fr = m.free in
        let behind : Wrote (a + 8) (a + 16 * length vs + 16) bytes2 m.bytes = m.wrote in
        let same2 : (q : ℕ) → stack ≤ q → word_in m.bytes q ≡ word_in bytes2 q = λ q above. other_word (a + 8)
        (a + 16 * length vs + 16) bytes2 m.bytes behind q (omega (arith, above, hl, cl, sl))
        (inr (omega (arith, high, above))) in
        record {
          registers = m.registers;
          flags = m.flags;
          place = m.place;
          bytes = m.bytes;
          least = 9 + m.least;
          steps = 9 + m.steps;
          leads = leads_on setting.marks (leads_on setting.marks (leads_on setting.marks (leads_on setting.marks
              (leads_on setting.marks (leads_on setting.marks (leads_on setting.marks (leads_on setting.marks
              (leads_on setting.marks
              (goes setting x y1 (CmpNumber (arg.Reg 0) (pos 0)) h.0 [] h.1 refl)
              (branches setting y1 NE (some_label 6) (slot_none tail) [] true h.2
              (tested x (suc (length vs)) false left (omega (arith, few)) (ne_eqb (suc (length vs)) 0 (λ e. omega (arith, e))))))
              (loads_word setting y2 2 body.0 p slot_operand [] body.1 (omega (arith, slot, one, sm)) slot_in))
              (stores_word setting y3 2 body.2.0 a (part_operand 0) [] body.2.1 (omega (arith, at, high, k)) within))
              (goes setting y4 y5 (MovTo (arg.Reg 2) 12) body.2.2.0 [] body.2.2.1 refl))
              (goes setting y5 y6 (AddNumber (arg.Reg 2) (pos 1)) body.2.2.2.0 [] body.2.2.2.1 refl))
              (stores_word setting y6 2 body.2.2.2.2.0 p slot_operand [] body.2.2.2.2.1 (omega (arith, slot, one, sm))
              slot_in1))
              (goes setting y7 y8 (AddNumber (arg.Reg 1) (pos 8)) body.2.2.2.2.2.0 [] body.2.2.2.2.2.1 refl))
              (jumps setting y8 loop_label tail [] body.2.2.2.2.2.2)) m.leads;
          few = omega (arith, f);
          at = m.at;
          kept = λ j e q. m.kept j e ∙ kept j e;
          free = omega (arith, fr);
          size_is = m.wrote.size ∙ sized2;
          slots = λ q above far. same2 q above ∙ word_other bytes1 p s.value q slot_in1
              (omega (arith, above, hl, cl, sl)) (far j refl) ∙ same1 q above;
          store = λ z le g. store_wrote plan parts z bytes2 m.bytes x.output x.answers (a + 8) (a + 16 * length vs + 16)
              (omega (arith, le)) (omega (arith, high)) behind
              (store_kept plan act parts z bytes1 x.output x.answers p s.value slot_in1 (omega (arith, lo))
              (store_wrote plan parts z x.bytes bytes1 x.output x.answers a (a + 16 * length (v ∷ vs)) le high wrote g));
          value = same2 p (omega (arith, lo)) ∙ word_same bytes1 p s.value slot_in1 (omega (arith, value, high, k))
              ∙ value;
          pairs = m.pairs;
        }
