-- Where the values of an activation and of a store are in the machine, and what loads and stores of them do.
use Rattle.std.proofs.Common.{◌≡◌, ℕ, ◌+◌, ◌-◌, ◌*◌, ◌^◌, ◌<◌, ◌≤◌, List, [], ◌∷◌, length, take, drop, Bool, true, false}
use Rattle.std.proofs.Common.{cond, Option, Some, refl, sym, ap, ◌∙◌, subst, arith, ◌==◌, ⊎_elim, inl, inr, ◌⊎◌}
use Rattle.std.specs.Prelude.{pos, nat_eq, slice_get}
use Rattle.std.proofs.lemmas.Bool.{ne_eqb, ltb-true, eqb-true, eqb-false, cases_lt}
use Rattle.std.proofs.lemmas.Option.{slice_get_within}
use Rattle.sch_word.specs.declared.answer.Answer.{Answer}
use Rattle.sch_word.specs.declared.place.Place.{Place}
use Rattle.sch_word.specs.declared.place.Place.TheVariants.{Reg, Slot}
use Rattle.sch_word.specs.values.Values.{Value, Object}
use Rattle.sch_word.specs.runs.Computation.{State}
use Rattle.sch_word.specs.runs.Procedures.{Procedure}
use Rattle.sch_frames.specs.Meaning.{Cell, Is, Link, Junk, value_in, set}
use Rattle.sch_frames.specs.Valid.{is_place, is_register, max_words}
use Rattle.sch_insn.specs.declared.insn.Arg.TheVariants as arg
use Rattle.sch_insn.specs.declared.insn.Insn.TheVariants.{MovTo, MovFrom}
use Rattle.sch_insn.specs.Machine.{set_register, add64, word}
use Rattle.sch_asm.specs.declared.item.Item.{Item}
use Rattle.sch_asm.specs.declared.item.Item.TheVariants.{Plain}
use Rattle.sch_word.specs.declared.mark.MarkKind.{MarkKind}
use Rattle.sch_word.proofs.facts.Lists.{get_there}
use Rattle.sch_word.specs.runs.ProgramLayout.{data_address}
use Rattle.sch_asm.specs.Stands.{Setting, Stands}
use Rattle.sch_asm.specs.Data.{Inside, word_in, with_word}
use Rattle.sch_asm.specs.Effects.{is_scratch, own_size}
use Rattle.sch_asm.specs.Views.{View, Leads}
use Rattle.sch_asm.proofs.EachItem.{goes, loads_word, stores_word}
use Rattle.sch_asm.proofs.Words.{word_same, word_other, size_kept}
use Rattle.sch_select_memory.specs.Parts.{Parts, end_of}
use Rattle.sch_select_memory.specs.Encoded.{IsWord, IsHeld, Words}
use Rattle.sch_select_memory.specs.Heap.{HeapAt, AreNew}
use Rattle.sch_select_memory.proofs.heap.Ranges.{BytesStay, word_stays, piece_beside}
use Rattle.sch_select_memory.proofs.heap.Contents.{heap_kept, held_words}
use Rattle.sch_select_memory.specs.Addresses.{max_heap_end, place_operand, table_address, literal_address, global_address, bytes_address}
use Rattle.sch_select_memory.specs.Addresses.{names_address, body_label}
use Rattle.sch_select_memory.specs.Names.{AreNamed}
use Rattle.sch_select_memory.proofs.heap.Encodings.{fits}
use Rattle.sch_select_memory.proofs.Straight.{Kept, moved_to}

-- Where a program lies: its text, the size of its data and of its frames; where its globals begin and how many there
-- are; the names of its symbols, with the bytes that stand behind the globals for them; and where its closures, its
-- heap and its stack begin. The static bytes of puts, the address of the names and the words of literals stand before
-- the globals.
pub record Plan : Type 0 where
  pub setting : Setting
  pub size : ℕ
  pub words : ℕ
  pub literals : ℕ
  pub globals : ℕ
  pub symbols : List (List ℕ)
  pub names : List ℕ
  pub closures : ℕ
  pub heap : ℕ
  pub stack : ℕ
  pub static : List ℕ
  pub named : AreNamed symbols names (names_address literals globals)
  pub closures_low : names_address literals globals + length names ≤ closures
  pub heap_low : closures ≤ heap
  pub stack_low : heap ≤ stack
  pub near : stack ≤ max_heap_end
  pub small : data_address + size < 2 ^ 63
  pub narrow : words ≤ max_words
  pub labels : (l : ℕ) → setting.place_of l < 2 ^ 64

-- the heap is behind the names of symbols, and those are few
pub heap_above : (plan : Plan) → names_address plan.literals plan.globals + length plan.names ≤ plan.heap
heap_above plan = let a = plan.closures_low in let b = plan.heap_low in omega (arith, a, b)

pub few_symbols : (plan : Plan) → length plan.symbols ≤ 4294967296
few_symbols plan = ⊎_elim (λ lt. absurd (many lt)) (λ le. le) (cases_lt 4294967296 (length plan.symbols))
  where
    many : 4294967296 < length plan.symbols → ⊥
    many lt =
        let s = get_there plan.symbols 4294967296 lt in
        let p = (plan.named.each 4294967296 s.0 s.1).entry_high in
        let a = plan.closures_low in let b = plan.heap_low in let c = plan.stack_low in let d = plan.near in
        omega (arith, a, b, c, d, p)

-- where the code of a body is
abbrev pub code_of : Plan → ℕ → ℕ
code_of plan label = plan.setting.place_of (body_label label)

-- registers of variables are none of the others
pub not_register : (r k : ℕ) → is_register r ≡ true → is_register k ≡ false → (r == k) ≡ false
not_register r k e f = ne_eqb r k (λ same. let bad : true ≡ false = sym e ∙ ap is_register same ∙ f in absurd cc)

-- so they stay where the register of a variable is set
pub other_register : (registers : ℕ → ℕ) (q k v : ℕ) → is_register q ≡ true → is_register k ≡ false
    → set_register registers q v k ≡ registers k
other_register registers q k v e i = ap (λ b. cond b v (registers k))
    (ne_eqb k q (λ same. let bad : true ≡ false = sym e ∙ ap is_register (sym same) ∙ i in absurd cc))

pub no_scratch : (r : ℕ) → is_register r ≡ true → is_scratch r ≡ false
no_scratch r e = rw (
  not_register r 0 e refl,
  not_register r 1 e refl,
  not_register r 2 e refl,
  not_register r 11 e
      refl,
) refl

-- What a word is to what a place holds, in an activation that returns to an address.
abbrev pub Holds : ℕ → Parts → Cell → ℕ → Type 0
Holds back parts (Is v) x = IsWord parts v x
Holds back parts Link x = x ≡ back
Holds back parts Junk x = Unit {0}

pub held_value : (back : ℕ) (parts : Parts) (c : Cell) (x : ℕ) (v : Value) → Holds back parts c x
    → value_in c ≡ Some v → IsWord parts v x
held_value back parts (Is u) x v h e = let same : u ≡ v = cc in subst (λ v. IsWord parts v x) same h
held_value back parts Link x v h e = absurd cc
held_value back parts Junk x v h e = absurd cc

pub holds_words : (back : ℕ) (before after : Parts) → Words before after → (c : Cell) (x : ℕ) → Holds back before c x
    → Holds back after c x
holds_words back before after w (Is v) x h = w v x h
holds_words back before after w Link x h = h
holds_words back before after w Junk x h = tt

-- only a value or a link has to fit a word
pub same_word : (back : ℕ) (parts : Parts) → back < 2 ^ 64 → (c : Cell) (x y : ℕ) → Holds back parts c x
    → (x < 2 ^ 64 → y ≡ x) → Holds back parts c y
same_word back parts small (Is v) x y h e = subst (IsWord parts v) (sym (e (fits parts v x h))) h
same_word back parts small Link x y h e = e (subst (λ x. x < 2 ^ 64) (sym h) small) ∙ h
same_word back parts small Junk x y h e = tt

-- The data have room from an address on for a frame, for one at each depth that is left, and for one more, into
-- which operands are handed over before the depth is looked at.
pub record Room (plan : Plan) (frame left : ℕ) : Type 0 where
  pub low : plan.stack ≤ frame
  pub high : frame + 8 * (plan.words * left) + 8 * (plan.words + plan.words) ≤ data_address + plan.size
  pub few : left < 2 ^ 63

-- An activation: the address to which it returns, where its frame begins, the depth that is left in it, how many
-- entries may be nested in it at most, and whether it is a procedure's and gives a value.
pub record Activation (plan : Plan) : Type 0 where
  pub back : ℕ
  pub frame : ℕ
  pub left : ℕ
  pub nested : ℕ
  pub entered : Bool
  pub back_fits : back < 2 ^ 64
  pub room : Room plan frame left

-- The heap ends within the data, and so it begins there.
pub stack_within : (plan : Plan) → Activation plan → plan.stack ≤ data_address + plan.size
stack_within plan act = let low = act.room.low in let high = act.room.high in omega (arith, low, high)

pub heap_within : (plan : Plan) → Activation plan → plan.heap ≤ data_address + plan.size
heap_within plan act = let within = stack_within plan act in let low = plan.stack_low in omega (arith, within, low)

module _ (plan : Plan) where
  open plan use {
    setting,
    size,
    words,
    literals,
    globals,
    symbols,
    names,
    closures,
    heap,
    stack,
    static,
    closures_low,
    heap_low,
    stack_low,
    small,
    narrow,
    labels,
  }

  -- What the state has stands in the data: the globals, the static bytes of puts, and the heap.
  pub record StoreAt (parts : Parts) (s : State Procedure) (bytes : List ℕ) (output : List ℕ)
      (answers : List Answer) : Type 0 where
    pub size_is : length bytes ≡ size
    pub printed : output ≡ s.store.output
    pub left : answers ≡ s.store.answers
    pub limit : heap + s.store.constants.heap ≡ stack
    pub within : heap + s.store.charged ≤ stack
    pub begins : 16 * parts.first ≡ closures
    pub ends : 16 * end_of parts ≡ heap + s.store.charged
    pub texts : take 288 (drop own_size bytes) ≡ static
    pub table : word_in bytes table_address ≡ names_address literals globals
    pub literal_count : length s.store.constants.literals ≡ literals
    pub literal : (n : ℕ) (v : Value) → slice_get s.store.constants.literals n ≡ Some v
        → IsWord parts v (word_in bytes (literal_address n))
    pub count : length s.store.globals ≡ globals
    pub global : (g : ℕ) (o : Option Value) → slice_get s.store.globals g ≡ Some o
        → IsHeld parts o (word_in bytes (global_address literals g))
    pub symbols_are : s.store.constants.symbols ≡ symbols
    pub known : parts.symbols ≡ length symbols
    pub names_are : take (length names) (drop (names_address literals globals - data_address) bytes) ≡ names
    pub contents : HeapAt (code_of plan) parts s.cells s.procedures s.store.objects bytes
    pub new : AreNew parts (length s.cells) (length s.procedures)

  -- ---- the store with another heap

  -- The data below the closures stay, and the heap may have other cells, procedures, objects and parts.
  pub store_changed : (parts parts' : Parts) (s : State Procedure) (cells : List (Option Value))
      (procedures : List Procedure) (objects : List Object) (charged : ℕ) (bytes bytes' : List ℕ) (output : List ℕ)
      (answers : List Answer) → Words parts parts' → 16 * parts'.first ≡ closures → parts'.symbols ≡ length symbols
      → length bytes' ≡ length bytes
      → BytesStay bytes_address closures bytes bytes' → heap + charged ≤ stack → 16 * end_of parts' ≡ heap + charged
      → HeapAt (code_of plan) parts' cells procedures objects bytes' → AreNew parts' (length cells) (length procedures)
      → StoreAt parts s bytes output answers → StoreAt parts'
      (record {
        cells = cells;
        store = record s.store { objects = objects; charged = charged };
        procedures = procedures;
      }) bytes' output answers
  store_changed parts parts' s cells procedures objects charged bytes bytes' output answers moved first known long stay
      room ends contents new g =
      let cl = closures_low in
      record {
        size_is = long ∙ g.size_is;
        printed = g.printed;
        left = g.left;
        limit = g.limit;
        within = room;
        begins = first;
        ends = ends;
        texts = stay bytes_address 288 (omega arith) (omega (arith, cl)) ∙ g.texts;
        table = word_stays bytes bytes' table_address (stay table_address 8 (omega arith) (omega (arith, cl)))
            ∙ g.table;
        literal_count = g.literal_count;
        literal = λ k v i. let lt = slice_get_within s.store.constants.literals k v i in let c = g.literal_count in
            subst (IsWord parts' v) (sym (word_stays bytes bytes' (literal_address k)
            (stay (literal_address k) 8 (omega arith) (omega (arith, lt, c, cl))))) (moved v _ (g.literal k v i));
        count = g.count;
        global = λ k o i. let lt = slice_get_within s.store.globals k o i in let c = g.count in
            subst (IsHeld parts' o) (sym (word_stays bytes bytes' (global_address literals k)
            (stay (global_address literals k) 8 (omega arith) (omega (arith, lt, c, cl)))))
            (held_words parts parts' moved o _ (g.global k o i));
        symbols_are = g.symbols_are;
        known = known;
        names_are = stay (names_address literals globals) (length names) (omega arith) (omega (arith, cl))
            ∙ g.names_are;
        contents = contents;
        new = new;
      }

  module _ (act : Activation plan) where
    -- The frame of the next call is behind the own one.
    pub record PlacesAt (parts : Parts) (charged : ℕ) (places : Place → Cell) (outgoing : ℕ → Cell)
        (registers : ℕ → ℕ) (bytes : List ℕ) : Type 0 where
      pub frame : registers 5 ≡ act.frame
      pub depth : registers 13 ≡ act.left
      pub free : registers 12 ≡ heap + charged
      pub register : (r : ℕ) → is_register r ≡ true → Holds act.back parts (places (Reg r)) (registers r)
      pub slot : (j : ℕ) → j < words → Holds act.back parts (places (Slot j)) (word_in bytes (act.frame + 8 * j))
      pub next : (j : ℕ) → j < words → Holds act.back parts (outgoing j) (word_in bytes (act.frame + 8 * (words + j)))

    -- other scratch registers
    pub places_kept : (parts : Parts) (charged : ℕ) (places : Place → Cell) (outgoing : ℕ → Cell)
        (registers registers' : ℕ → ℕ) (bytes : List ℕ) → Kept is_scratch registers registers'
        → PlacesAt parts charged places outgoing registers bytes
        → PlacesAt parts charged places outgoing registers' bytes
    places_kept parts charged places outgoing registers registers' bytes k p = record {
      frame = k 5 refl ∙ p.frame;
      depth = k 13 refl ∙ p.depth;
      free = k 12 refl ∙ p.free;
      register = λ r e. subst (Holds act.back parts (places (Reg r))) (sym (k r (no_scratch r e))) (p.register r e);
      slot = p.slot;
      next = p.next;
    }

    pub slot_inside : (j : ℕ) (bytes : List ℕ) → length bytes ≡ size → j < words + words
        → Inside (length bytes) (act.frame + 8 * j)
    slot_inside j bytes e lt = let a = act.room.low in let b = act.room.high in let c = heap_above plan in
        let f = stack_low in record { low = omega (arith, a, c, f); high = omega (arith, b, e, lt) }

    pub slot_named : (j : ℕ) (x : View) → length x.bytes ≡ size → j < words + words → x.registers 5 ≡ act.frame
        → add64 (x.registers 5) (word (pos (8 * j))) ≡ act.frame + 8 * j
    slot_named j x e lt f = let b = act.room.high in let s = small in omega (arith, f, b, e, lt, s)

    -- ---- a place into a register

    pub record Loaded (parts : Parts) (c : Cell) (r : ℕ) (x : View) (waiting : List MarkKind) (rest : List Item) :
        Type 0 where
      pub value : ℕ
      pub place : ℕ
      pub leads : Leads setting 1 1 waiting x (moved_to x (set_register x.registers r value) x.flags place)
      pub holds : Holds act.back parts c value
      pub ahead : Stands setting [] place rest

    pub loaded : (parts : Parts) (charged : ℕ) (places : Place → Cell) (outgoing : ℕ → Cell) (p : Place) (r : ℕ)
        (x : View) (waiting : List MarkKind) (rest : List Item) → is_place words p ≡ true
        → PlacesAt parts charged places outgoing x.registers x.bytes → length x.bytes ≡ size
        → Stands setting waiting x.place (Plain (MovFrom r (place_operand p)) ∷ rest)
        → Loaded parts (places p) r x waiting rest
    loaded parts charged places outgoing (Reg q) r x waiting rest e f s h = record {
      value = x.registers q;
      place = x.place + h.0;
      leads = goes setting x _ (MovFrom r (arg.Reg q)) h.0 waiting h.1 refl;
      holds = f.register q e;
      ahead = h.2;
    }
    loaded parts charged places outgoing (Slot j) r x waiting rest e f s h =
        let lt = ltb-true j words e in
        record {
          value = word_in x.bytes (act.frame + 8 * j);
          place = x.place + h.0;
          leads = loads_word setting x r h.0 (act.frame + 8 * j) (arg.Base32 5 (pos (8 * j))) waiting h.1
              (slot_named j x s (omega (arith, lt)) f.frame) (slot_inside j x.bytes s (omega (arith, lt)));
          holds = f.slot j lt;
          ahead = h.2;
        }

    -- ---- a state that stays, where a word of the stack is written

    pub store_kept : (parts : Parts) (s : State Procedure) (bytes : List ℕ) (output : List ℕ) (answers : List Answer)
        (a v : ℕ) → Inside (length bytes) a → stack ≤ a → StoreAt parts s bytes output answers
        → StoreAt parts s (with_word bytes a v) output answers
    store_kept parts s bytes output answers a v within above g =
        let hl = heap_low in let sl = stack_low in let cl = closures_low in
        let w = g.within in let b = g.begins in let e = g.ends in
        let stay : BytesStay data_address (heap + s.store.charged) bytes (with_word bytes a v) = λ p n lo hi.
        piece_beside bytes a v p n within lo (inl (omega (arith, hi, w, above))) in
        store_changed parts parts s s.cells s.procedures s.store.objects s.store.charged bytes (with_word bytes a v)
        output answers (λ v x h. h) g.begins g.known (size_kept bytes a v within)
        (λ p n lo hi. stay p n (omega (arith, lo)) (omega (arith, hi, hl))) g.within g.ends
        (heap_kept (code_of plan) parts s.cells s.procedures s.store.objects bytes (with_word bytes a v)
        (λ p n lo hi. stay p n (omega (arith, lo, b, cl)) (omega (arith, hi, e))) g.contents) g.new g

    -- ---- a register into a place

    pub record Written (parts : Parts) (charged : ℕ) (places : Place → Cell) (outgoing : ℕ → Cell) (x : View)
        (waiting : List MarkKind) (rest : List Item) : Type 0 where
      pub y : View
      pub leads : Leads setting 1 1 waiting x y
      pub ahead : Stands setting [] y.place rest
      pub places_at : PlacesAt parts charged places outgoing y.registers y.bytes
      pub world : (ps : Parts) (s : State Procedure) → StoreAt ps s x.bytes x.output x.answers
          → StoreAt ps s y.bytes y.output y.answers
      pub size : length y.bytes ≡ length x.bytes
      pub accumulator : y.registers 0 ≡ x.registers 0
      pub below : (a : ℕ) → stack ≤ a → a + 8 ≤ act.frame → word_in y.bytes a ≡ word_in x.bytes a

    either_holds : (parts : Parts) (b : Bool) (c e : Cell) (x y : ℕ) → Holds act.back parts c x
        → Holds act.back parts e y → Holds act.back parts (cond b c e) (cond b x y)
    either_holds parts true c e x y h g = h
    either_holds parts false c e x y h g = g

    -- a word of the own frame or the next, where one of them is written
    slot_written : (parts : Parts) (c e : Cell) (v i j : ℕ) (bytes : List ℕ) → length bytes ≡ size → i < words + words
        → j < words + words → Holds act.back parts c v → Holds act.back parts e (word_in bytes (act.frame + 8 * i))
        → (b : Bool) → (b ≡ true → i ≡ j) → (b ≡ false → i ≡ j → ⊥)
        → Holds act.back parts (cond b c e) (word_in (with_word bytes (act.frame + 8 * j) v) (act.frame + 8 * i))
    slot_written parts c e v i j bytes s li lj h g true same other =
        subst (λ i. Holds act.back parts c (word_in (with_word bytes (act.frame + 8 * j) v) (act.frame + 8 * i)))
        (sym (same refl))
        (same_word act.back parts act.back_fits c v _ h (λ f. word_same bytes (act.frame + 8 * j) v
        (slot_inside j bytes s lj) f))
    slot_written parts c e v i j bytes s li lj h g false same other =
        let l = (slot_inside i bytes s li).low in
        let far : (act.frame + 8 * i + 8 ≤ act.frame + 8 * j) ⊎ (act.frame + 8 * j + 8 ≤ act.frame + 8 * i) =
        ⊎_elim (λ lt. inl (omega (arith, lt))) (λ le. ⊎_elim (λ lt. inr (omega (arith, lt)))
        (λ ge. absurd (other refl (omega (arith, le, ge)))) (cases_lt j i)) (cases_lt i j) in
        subst (Holds act.back parts e)
        (sym (word_other bytes (act.frame + 8 * j) v (act.frame + 8 * i) (slot_inside j bytes s lj) l far)) g

    -- a register into one of these words
    word_written : (parts : Parts) (charged : ℕ) (places places' : Place → Cell) (outgoing outgoing' : ℕ → Cell)
        (j r : ℕ) (x : View) (waiting : List MarkKind) (rest : List Item) → j < words + words
        → PlacesAt parts charged places outgoing x.registers x.bytes → length x.bytes ≡ size
        → ((k : ℕ) → is_register k ≡ true → Holds act.back parts (places' (Reg k)) (x.registers k))
        → ((i : ℕ) → i < words → Holds act.back parts (places' (Slot i))
        (word_in (with_word x.bytes (act.frame + 8 * j) (x.registers r)) (act.frame + 8 * i)))
        → ((i : ℕ) → i < words → Holds act.back parts (outgoing' i)
        (word_in (with_word x.bytes (act.frame + 8 * j) (x.registers r)) (act.frame + 8 * (words + i))))
        → Stands setting waiting x.place (Plain (MovTo (arg.Base32 5 (pos (8 * j))) r) ∷ rest)
        → Written parts charged places' outgoing' x waiting rest
    word_written parts charged places places' outgoing outgoing' j r x waiting rest lt f z regs slots nexts st =
        let within = slot_inside j x.bytes z lt in
        let y : View = record x {
          bytes = with_word x.bytes (act.frame + 8 * j) (x.registers r);
          place = x.place +
              st.0;
        } in
        let low = act.room.low in let hl = heap_above plan in let sl = stack_low in
        record {
          y = y;
          leads = stores_word setting x r st.0 (act.frame + 8 * j) (arg.Base32 5 (pos (8 * j))) waiting st.1
              (slot_named j x z lt f.frame) within;
          ahead = st.2;
          places_at = record {
            frame = f.frame;
            depth = f.depth;
            free = f.free;
            register = regs;
            slot = slots;
            next = nexts;
          };
          world = λ ps s at. store_kept ps s x.bytes x.output x.answers (act.frame + 8 * j) (x.registers r) within
              (omega (arith, low)) at;
          size = size_kept x.bytes (act.frame + 8 * j) (x.registers r) within;
          accumulator = refl;
          below = λ a lo hi. word_other x.bytes (act.frame + 8 * j) (x.registers r) a within
              (omega (arith, lo, hl, sl)) (inl (omega (arith, hi)));
        }

    -- a register of a variable is filled
    pub register_filled : (parts : Parts) (charged : ℕ) (places : Place → Cell) (outgoing : ℕ → Cell) (q : ℕ) (c : Cell)
        (v : ℕ) (registers : ℕ → ℕ) (bytes : List ℕ) → is_register q ≡ true → Holds act.back parts c v
        → PlacesAt parts charged places outgoing registers bytes
        → PlacesAt parts charged (set places (Reg q) c) outgoing (set_register registers q v) bytes
    register_filled parts charged places outgoing q c v registers bytes e h f = record {
      frame = other_register registers q 5 v e refl ∙ f.frame;
      depth = other_register registers q 13 v e refl ∙ f.depth;
      free = other_register registers q 12 v e refl ∙ f.free;
      register = λ k i. either_holds parts (k == q) c (places (Reg k)) v (registers k) h (f.register k i);
      slot = f.slot;
      next = f.next;
    }

    pub written : (parts : Parts) (charged : ℕ) (places : Place → Cell) (outgoing : ℕ → Cell) (p : Place) (c : Cell)
        (r : ℕ) (x : View) (waiting : List MarkKind) (rest : List Item) → is_place words p ≡ true
        → Holds act.back parts c (x.registers r) → PlacesAt parts charged places outgoing x.registers x.bytes
        → length x.bytes ≡ size → Stands setting waiting x.place (Plain (MovTo (place_operand p) r) ∷ rest)
        → Written parts charged (set places p c) outgoing x waiting rest
    written parts charged places outgoing (Reg q) c r x waiting rest e h f g st =
        let y : View = record x { registers = set_register x.registers q (x.registers r); place = x.place + st.0 } in
        record {
          y = y;
          leads = goes setting x y (MovTo (arg.Reg q) r) st.0 waiting st.1 refl;
          ahead = st.2;
          places_at = register_filled parts charged places outgoing q c (x.registers r) x.registers x.bytes e h f;
          world = λ ps s at. at;
          size = refl;
          accumulator = other_register x.registers q 0 (x.registers r) e refl;
          below = λ a lo hi. refl;
        }
    written parts charged places outgoing (Slot j) c r x waiting rest e h f z st =
        let lt = ltb-true j words e in
        word_written parts charged places (set places (Slot j) c) outgoing outgoing j r x waiting rest
        (omega (arith, lt)) f z f.register
        (λ i li. slot_written parts c (places (Slot i)) (x.registers r) i j x.bytes z (omega (arith, li))
        (omega (arith, lt)) h (f.slot i li) (nat_eq i j) (eqb-true i j) (eqb-false i j))
        (λ i li. slot_written parts Junk (outgoing i) (x.registers r) (words + i) j x.bytes z (omega (arith, li))
        (omega (arith, lt)) tt (f.next i li) false (λ b. absurd (let bad : false ≡ true = b in cc))
        (λ b same. omega (arith, same, lt)))
        st

    -- a register into a slot of the next frame
    pub handed : (parts : Parts) (charged : ℕ) (places : Place → Cell) (outgoing : ℕ → Cell) (k : ℕ) (c : Cell)
        (r : ℕ) (x : View) (waiting : List MarkKind) (rest : List Item) → k < words
        → Holds act.back parts c (x.registers r) → PlacesAt parts charged places outgoing x.registers x.bytes
        → length x.bytes ≡ size
        → Stands setting waiting x.place (Plain (MovTo (arg.Base32 5 (pos (8 * (words + k)))) r) ∷ rest)
        → Written parts charged places (λ j. cond (nat_eq j k) c (outgoing j)) x waiting rest
    handed parts charged places outgoing k c r x waiting rest lt h f z st =
        word_written parts charged places places outgoing (λ j. cond (nat_eq j k) c (outgoing j)) (words + k) r x
        waiting rest (omega (arith, lt)) f z f.register
        (λ i li. slot_written parts Junk (places (Slot i)) (x.registers r) i (words + k) x.bytes z (omega (arith, li))
        (omega (arith, lt)) tt (f.slot i li) false (λ b. absurd (let bad : false ≡ true = b in cc))
        (λ b same. omega (arith, same, li)))
        (λ i li. slot_written parts c (outgoing i) (x.registers r) (words + i) (words + k) x.bytes z
        (omega (arith, li)) (omega (arith, lt)) h (f.next i li) (nat_eq i k)
        (λ b. let same = eqb-true i k b in omega (arith, same)) (λ b same. eqb-false i k b (omega (arith, same))))
        st
