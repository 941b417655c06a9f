-- The routine puts what a value's piece is.
use Rattle.std.proofs.Common.{◌≡◌, ℕ, zero, suc, ◌+◌, ◌-◌, ◌*◌, ◌/◌, ◌%◌, ◌^◌, ◌<◌, ◌≤◌, List, [], ◌∷◌, ◌++◌, length}
use Rattle.std.proofs.Common.{take, drop, Bool, true, false, Option, Some, None, refl, sym, ap, ◌∙◌, subst, arith}
use Rattle.std.proofs.Common.{inl, inr, ◌==◌, eq-eqb, length-take, length-drop, append_assoc}
use Rattle.std.specs.Prelude.{pos, negsuc, not, codes, slice_get}
use Rattle.std.specs.Fmt.{signed_decimal}
use Rattle.std.proofs.lemmas.Bool.{ne_eqb}
use Rattle.std.proofs.lemmas.List.{drop-drop, take-append-drop}
use Rattle.sch_word.specs.trees.Bindings.{numbers}
use Rattle.sch_word.specs.declared.answer.Answer.{Answer}
use Rattle.sch_word.specs.values.Values.{Value, fixnum, character, boolean, nil, unspecified, symbol, object, procedure, cell, Object, pair, vector, string}
use Rattle.sch_word.specs.declared.stop.Stop.TheVariants.{WrongType}
use Rattle.sch_word.specs.runs.Computation.{State}
use Rattle.sch_word.specs.runs.Procedures.{Procedure}
use Rattle.sch_word.specs.values.PrimitiveRows.{piece, object_piece, is_pair, is_vector, is_string}
use Rattle.sch_word.specs.values.Put.{put}
use Rattle.sch_insn.specs.declared.condition.TheConstants.{E, NE}
use Rattle.sch_insn.specs.declared.insn.Arg.TheVariants.{Reg, Base32}
use Rattle.sch_insn.specs.declared.insn.Insn.TheVariants.{MovFrom, MovNumber, AddTo, AddNumber, CmpNumber, Shr}
use Rattle.sch_insn.specs.declared.state.Flags.{Flags}
use Rattle.sch_insn.specs.Machine.{set_register, bits_of, sum_of, difference_of, condition, unknown_flags}
use Rattle.sch_insn.proofs.Conditions.{on_e, compared_e, compared_ne}
use Rattle.sch_insn.proofs.Paths.{leads_on, leads_here}
use Rattle.sch_asm.specs.declared.item.Item.{Item}
use Rattle.sch_asm.specs.declared.item.Item.TheVariants.{Label, Plain, JumpIf}
use Rattle.sch_word.specs.declared.mark.MarkKind.{MarkKind}
use Rattle.sch_word.specs.runs.ProgramLayout.{data_address}
use Rattle.sch_asm.specs.declared.routine.Routine.{Routine}
use Rattle.sch_asm.specs.declared.routine.Routine.TheVariants as routine
use Rattle.sch_asm.specs.Routines.{label_of}
use Rattle.sch_asm.specs.Stands.{Stands}
use Rattle.sch_asm.specs.Data.{Inside, PieceAt, word_in}
use Rattle.sch_asm.specs.Effects.{is_scratch, IsReady, PutEnds, Puts, Effect, own_size}
use Rattle.sch_asm.specs.Views.{View, Leads, full}
use Rattle.sch_asm.proofs.EachItem.{goes, branches, jumps, loads_word, loads_data}
use Rattle.sch_select_memory.specs.Parts.{a_string, Parts}
use Rattle.sch_select_memory.specs.Encoded.{IsWord, Names}
use Rattle.sch_select_memory.specs.Heap.{StringAt, text_address}
use Rattle.sch_select_memory.specs.Addresses.{stop_label, texts_address, bytes_address, table_address}
use Rattle.sch_select_memory.specs.Checks.{string_length}
use Rattle.sch_select_memory.specs.PutCode.{put_value_code, procedure_put, text_code, either_text, character_put}
use Rattle.sch_select_memory.specs.PutCode.{bytes_put, symbol_put, objects_put, immediate_put, where_tag, false_code}
use Rattle.sch_select_memory.specs.PutCode.{nil_code, unspecified_code, texts_code}
use Rattle.sch_select_memory.specs.StaticBytes.{all_texts, static_bytes}
use Rattle.sch_select_memory.proofs.heap.Spots.{spot_within}
use Rattle.sch_select_memory.proofs.heap.Encodings.{tag_of, tagged as low_bits_of, character_tested}
use Rattle.sch_select_memory.proofs.Places.{Plan, StoreAt}
use Rattle.sch_select_memory.proofs.StoredNames.{piece_at, SymbolAt, symbol_at, first_name}
use Rattle.sch_select_memory.proofs.Straight.{Halts, Kept, kept_set, kept_then, moved_to, tagged, Masked}
use Rattle.sch_select_memory.proofs.Straight.{masked, by_7, by_255}

-- ---- static bytes

numbers_at : (n k m : ℕ) (more : List ℕ) → n < m → drop n (numbers k m ++ more) ≡ (k + n) ∷ drop (suc n)
    (numbers k m ++ more)
numbers_at zero k zero more lt = absurd (omega (arith, lt))
numbers_at zero k (suc m) more lt = let e : k ≡ k + 0 = omega arith in ap (λ n. n ∷ (numbers (suc k) m ++ more)) e
numbers_at (suc n) k zero more lt = absurd (omega (arith, lt))
numbers_at (suc n) k (suc m) more lt = let e : suc k + n ≡ k + suc n = omega arith in numbers_at n (suc k) m more
    (omega (arith, lt)) ∙ ap (λ j. j ∷ drop (suc n) (numbers (suc k) m ++ more)) e

-- how many bytes stand there
enough : (bytes : List ℕ) → take 288 (drop own_size bytes) ≡ static_bytes → 800 ≤ length bytes
enough bytes e =
    let n : length (take 288 (drop own_size bytes)) ≡ 288 = ap length e in
    let m = length-take 288 (drop own_size bytes) in
    let k = length-drop own_size bytes in
    omega (arith, n, m, k)

-- what stands from an offset of the static bytes on
static_from : (bytes : List ℕ) (k : ℕ) → take 288 (drop own_size bytes) ≡ static_bytes
    → drop (own_size + k) bytes ≡ drop k (static_bytes ++ drop 288 (drop own_size bytes))
static_from bytes k e =
    let sum : k + own_size ≡ own_size + k = omega arith in
    sym (drop-drop k own_size bytes ∙ ap (λ n. drop n bytes) (let s : own_size + k ≡ own_size + k = refl in s))
    ∙ ap (drop k) (sym (take-append-drop 288 (drop own_size bytes)) ∙ ap (λ l. l ++ drop 288 (drop own_size bytes)) e)

-- a text at an offset
text_there : (bytes : List ℕ) (k : ℕ) (text rest : List ℕ) → take 288 (drop own_size bytes) ≡ static_bytes
    → k + length text ≤ 288 → drop k (static_bytes ++ drop 288 (drop own_size bytes)) ≡ text ++ rest
    → PieceAt bytes (bytes_address + k) text
text_there bytes k text rest e le is =
    let same : bytes_address + k - data_address ≡ own_size + k = omega arith in
    let many = enough bytes e in
    record {
      rest = rest;
      is = ap (λ n. drop n bytes) same ∙ static_from bytes k e
          ∙ is;
      low = omega arith;
      high = omega (arith, many, le);
    }

module _ (plan : Plan) (routines : (k : Routine) (x : View) → x.place ≡ plan.setting.place_of (label_of k)
    → Effect plan.setting k x) where
  open plan use {setting, size, stack}
  open setting use {place_of}

  abbrev Std : List MarkKind → ℕ → List Item → Type 0
  Std waiting a is = Stands setting waiting a is

  -- ---- what a routine does, some steps before

  ends_after : (x : View) (registers : ℕ → ℕ) (flags : Flags) (place a b c most : ℕ) (output : List ℕ)
      (left : List Answer) → Leads setting a b [] x (moved_to x registers flags place)
      → Kept is_scratch x.registers registers → registers 11 ≡ x.registers 11 → b + c ≤ most → (whole : Bool)
      → PutEnds setting whole (moved_to x registers flags place) c output left
      → PutEnds setting whole x most output left
  ends_after x registers flags place a b c most output left p k eleven le true s = record {
    y = s.y;
    least = a + s.least;
    most = b + s.most;
    leads = leads_on setting.marks p s.leads;
    few = (let f = s.few in omega (arith, f, le));
    at = s.at ∙ eleven;
    registers = λ r e f. s.registers r e (subst (λ n. n < 2 ^ 64) (sym (k r e)) f) ∙ k r e;
    size = s.size;
    others = s.others;
    output_is = s.output_is;
    left_is = s.left_is;
  }
  ends_after x registers flags place a b c most output left p k eleven le false s = record {
    last = s.last;
    least = a + s.least;
    most = b + s.most;
    leads = leads_on setting.marks p s.leads;
    few = (let f = s.few in omega (arith, f, le));
    exits = s.exits;
    output_is = s.output_is;
    left_is = s.left_is;
    silent = s.silent;
  }

  puts_after : (x : View) (registers : ℕ → ℕ) (flags : Flags) (place a b c most : ℕ) (bytes : List ℕ)
      → Leads setting a b [] x (moved_to x registers flags place) → Kept is_scratch x.registers registers
      → registers 11 ≡ x.registers 11 → b + c ≤ most → Puts setting (moved_to x registers flags place) c bytes
      → Puts setting x most bytes
  puts_after x registers flags place a b c most bytes p k eleven le s = ends_after x registers flags place a b c most
      (x.output ++ (put bytes x.answers).taken) (put bytes x.answers).left p k eleven le (put bytes x.answers).whole s

  puts_within : (x : View) (c most : ℕ) (bytes : List ℕ) → c ≤ most → Puts setting x c bytes → Puts setting x most bytes
  puts_within x c most bytes le s = puts_after x x.registers x.flags x.place 0 0 c most bytes
      (leads_here setting.marks (full setting x)) (λ r e. refl) refl (omega (arith, le)) s

  -- ---- a text

  text_put : (address size : ℕ) (text : List ℕ) (x : View) (rest : List Item)
      → Std [] x.place (text_code address size rest) → IsReady x → bytes_address ≤ address → size ≡ length text
      → PieceAt x.bytes address text → Puts setting x 23 text
  text_put address size text x rest h ready low count at =
      let y = moved_to x (set_register x.registers 0 address) x.flags (x.place + h.0) in
      let z = moved_to x (set_register y.registers 2 size) x.flags (y.place + h.2.0) in
      let u = moved_to x z.registers x.flags (place_of (label_of routine.Put)) in
      puts_after x u.registers u.flags u.place 3 3 20 23 text
      (leads_on setting.marks (leads_on setting.marks (goes setting x y (MovNumber (Reg 0) (pos address)) h.0 [] h.1
      refl) (goes setting y z (MovNumber (Reg 2) (pos size)) h.2.0 [] h.2.1 refl))
      (jumps setting z (label_of routine.Put) rest [] h.2.2))
      (kept_then is_scratch x.registers y.registers z.registers (kept_set is_scratch x.registers 0 address refl)
      (kept_set is_scratch y.registers 2 size refl)) refl (omega arith)
      (routines routine.Put u refl text
      (record { own_words = ready.own_words; within = ready.within; back = ready.back }) low count at)

  -- the text of one word
  first_text : (word address size next : ℕ) (text : List ℕ) (x : View) (rest : List Item) → x.registers 0 ≡ word
      → word < 2 ^ 64 → Std [] x.place (either_text word address size next rest) → IsReady x → bytes_address ≤ address
      → size ≡ length text → PieceAt x.bytes address text → Puts setting x 25 text
  first_text word address size next text x rest is small h ready low count at =
      let y = moved_to x x.registers (difference_of (x.registers 0) word).flags (x.place + h.0) in
      let e : condition y.flags NE ≡ Some false = compared_ne (x.registers 0) word (omega (arith, is, small)) small
      ∙ ap (λ b. Some (not b)) (eq-eqb (x.registers 0) word is) in
      let z = moved_to x x.registers y.flags (y.place + h.2.0) in
      puts_after x z.registers z.flags z.place 2 2 23 25 text
      (leads_on setting.marks (goes setting x y (CmpNumber (Reg 0) (pos word)) h.0 [] h.1 refl)
      (branches setting y NE next (text_code address size (Label next ∷ rest)) [] false h.2 e))
      (λ r e. refl) refl (omega arith)
      (text_put address size text z (Label next ∷ rest) h.2.4
      (record { own_words = ready.own_words; within = ready.within; back = ready.back }) low count at)

  -- or one of those behind it
  other_text : (word address size next c : ℕ) (text : List ℕ) (x : View) (rest : List Item)
      → (x.registers 0 == word) ≡ false → x.registers 0 < 2 ^ 64 → word < 2 ^ 64
      → Std [] x.place (either_text word address size next rest)
      → ((flags : Flags) → Std [] (place_of next) rest → Puts setting (moved_to x x.registers flags (place_of next)) c
      text) → Puts setting x (c + 2) text
  other_text word address size next c text x rest is fit small h K =
      let y = moved_to x x.registers (difference_of (x.registers 0) word).flags (x.place + h.0) in
      let e : condition y.flags NE ≡ Some true = compared_ne (x.registers 0) word fit small
      ∙ ap (λ b. Some (not b)) is in
      puts_after x x.registers y.flags (place_of next) 2 2 c (c + 2) text
      (leads_on setting.marks (goes setting x y (CmpNumber (Reg 0) (pos word)) h.0 [] h.1 refl)
      (branches setting y NE next (text_code address size (Label next ∷ rest)) [] true h.2 e))
      (λ r e. refl) refl (omega arith)
      (K y.flags (subst (λ a. Std [] a rest) (sym h.2.4.2.2.4.1) h.2.4.2.2.4.2))

  -- ---- what is no fixnum and no character

  module _ (x : View) (ready : IsReady x) (static : take 288 (drop own_size x.bytes) ≡ static_bytes) where
    abbrev more : List ℕ
    more = drop 288 (drop own_size x.bytes)

    abbrev At : Flags → ℕ → View
    At flags a = moved_to x x.registers flags a

    ready_at : (flags : Flags) (a : ℕ) → IsReady (At flags a)
    ready_at flags a = record { own_words = ready.own_words; within = ready.within; back = ready.back }

    there : (k : ℕ) (text rest : List ℕ) → k + length text ≤ 288 → drop k (static_bytes ++ more) ≡ text ++ rest
        → PieceAt x.bytes (bytes_address + k) text
    there k text rest le is = text_there x.bytes k text rest static le is

    true_put : (flags : Flags) (a : ℕ) → x.registers 0 ≡ 134 → Std [] a texts_code
        → Puts setting (At flags a) 40 (codes "#t")
    true_put flags a is h = puts_within (At flags a) 25 40 (codes "#t") (omega arith)
        (first_text 134 texts_address 2 75 (codes "#t") (At flags a) false_code is (omega arith) h
        (ready_at flags a) (omega arith) refl (there 256 (codes "#t") (drop 258 (static_bytes ++ more)) (omega arith)
        refl))

    false_put : (flags : Flags) (a : ℕ) → x.registers 0 ≡ 6 → Std [] a texts_code
        → Puts setting (At flags a) 40 (codes "#f")
    false_put flags a is h =
        puts_within (At flags a) 27 40 (codes "#f") (omega arith)
        (other_text 134 texts_address 2 75 25 (codes "#f") (At flags a) false_code
        (ne_eqb _ _ (λ e. omega (arith, is, e))) (omega (arith, is)) (omega arith) h (λ flags h.
        first_text 6 (texts_address + 2) 2 76 (codes "#f") (At flags (place_of 75)) nil_code is (omega arith) h
        (ready_at flags (place_of 75)) (omega arith) refl
        (there 258 (codes "#f") (drop 260 (static_bytes ++ more)) (omega arith) refl)))

    nil_put : (flags : Flags) (a : ℕ) → x.registers 0 ≡ 22 → Std [] a texts_code
        → Puts setting (At flags a) 40 (codes "()")
    nil_put flags a is h =
        puts_within (At flags a) 29 40 (codes "()") (omega arith)
        (other_text 134 texts_address 2 75 27 (codes "()") (At flags a) false_code
        (ne_eqb _ _ (λ e. omega (arith, is, e))) (omega (arith, is)) (omega arith) h (λ flags h.
        other_text 6 (texts_address + 2) 2 76 25 (codes "()") (At flags (place_of 75)) nil_code
        (ne_eqb _ _ (λ e. omega (arith, is, e))) (omega (arith, is)) (omega arith) h (λ flags h.
        first_text 22 (texts_address + 4) 2 77 (codes "()") (At flags (place_of 76)) unspecified_code is
        (omega arith) h (ready_at flags (place_of 76)) (omega arith) refl
        (there 260 (codes "()") (drop 262 (static_bytes ++ more)) (omega arith) refl))))

    unspecified_put : (flags : Flags) (a : ℕ) → x.registers 0 ≡ 30 → Std [] a texts_code
        → Puts setting (At flags a) 40 (codes "#<unspecified>")
    unspecified_put flags a is h =
        puts_within (At flags a) 29 40 (codes "#<unspecified>") (omega arith)
        (other_text 134 texts_address 2 75 27 (codes "#<unspecified>") (At flags a) false_code
        (ne_eqb _ _ (λ e. omega (arith, is, e))) (omega (arith, is)) (omega arith) h (λ flags h.
        other_text 6 (texts_address + 2) 2 76 25 (codes "#<unspecified>") (At flags (place_of 75)) nil_code
        (ne_eqb _ _ (λ e. omega (arith, is, e))) (omega (arith, is)) (omega arith) h (λ flags h.
        other_text 22 (texts_address + 4) 2 77 23 (codes "#<unspecified>") (At flags (place_of 76))
        unspecified_code (ne_eqb _ _ (λ e. omega (arith, is, e))) (omega (arith, is)) (omega arith) h (λ flags h.
        text_put (texts_address + 6) 14 (codes "#<unspecified>") (At flags (place_of 77))
        (Label 78 ∷ procedure_put) h (ready_at flags (place_of 77)) (omega arith) refl
        (there 262 (codes "#<unspecified>") (drop 276 (static_bytes ++ more)) (omega arith) refl)))))

    -- ---- a character

    character_here : (byte : ℕ) (registers : ℕ → ℕ) (flags : Flags) (a : ℕ) (rest : List Item)
        → registers 0 ≡ 256 * byte + 46 → byte < 256 → registers 11 ≡ x.registers 11 → Std [] a (character_put rest)
        → Puts setting (moved_to x registers flags a) 24 (byte ∷ [])
    character_here byte registers flags a rest is low eleven h =
        let y = moved_to x registers flags a in
        let b = registers 0 / 2 ^ 8 in
        let z = moved_to x (set_register registers 0 b) unknown_flags (a + h.0) in
        let c = sum_of b bytes_address in
        let u = moved_to x (set_register z.registers 0 c.value) c.flags (z.place + h.2.0) in
        let w = moved_to x (set_register u.registers 2 1) c.flags (u.place + h.2.2.0) in
        let o = moved_to x w.registers c.flags (place_of (label_of routine.Put)) in
        let at : c.value ≡ bytes_address + byte = omega (arith, is, low) in
        let kept = kept_then is_scratch registers z.registers w.registers (kept_set is_scratch registers 0 b refl)
        (kept_then is_scratch z.registers u.registers w.registers (kept_set is_scratch z.registers 0 c.value refl)
        (kept_set is_scratch u.registers 2 1 refl)) in
        puts_after y o.registers o.flags o.place 4 4 20 24 (byte ∷ [])
        (leads_on setting.marks (leads_on setting.marks (leads_on setting.marks
        (goes setting y z (Shr (Reg 0) 8) h.0 [] h.1 refl) (goes setting z u
        (AddNumber (Reg 0) (pos bytes_address)) h.2.0 [] h.2.1 refl))
        (goes setting u w (MovNumber (Reg 2) (pos 1)) h.2.2.0 [] h.2.2.1 refl))
        (jumps setting w (label_of routine.Put) rest [] h.2.2.2))
        kept refl (omega arith)
        (routines routine.Put o refl (byte ∷ [])
        (record {
          own_words = ready.own_words;
          within = ready.within;
          back = subst (λ r. r < 2 ^ 64) (sym eleven)
              ready.back;
        }) (omega (arith, at)) refl
        (subst (λ a. PieceAt x.bytes a (byte ∷ [])) (sym at)
        (there byte (byte ∷ []) (drop (suc byte) (static_bytes ++ more)) (omega (arith, low))
        (all_bytes byte low))))
      where
        all_bytes : (byte : ℕ) → byte < 256 → drop byte (static_bytes ++ more) ≡ byte ∷ drop (suc byte)
            (static_bytes ++ more)
        all_bytes byte low = let e = append_assoc (numbers 0 256) all_texts more in ap (drop byte) e
            ∙ numbers_at byte 0 256 (all_texts ++ more) low ∙
            (let z : 0 + byte ≡ byte = omega arith in ap (λ n. n ∷ drop (suc byte)
            (numbers 0 256 ++ (all_texts ++ more))) z) ∙ ap (λ l. byte ∷ drop (suc byte) l) (sym e)

  -- ---- any value

  -- what is owed for a piece: it is put, and where there is none it is stop 65
  abbrev pub PutsPiece : View → Option (List ℕ) → Type 0
  PutsPiece x None = Halts setting x [] 200 WrongType
  PutsPiece x (Some bytes) = Puts setting x 200 bytes

  module _ (parts : Parts) (s : State Procedure) (x : View) (ready : IsReady x)
      (static : take 288 (drop own_size x.bytes) ≡ static_bytes) (top : stack ≤ data_address + size)
      (g : StoreAt plan parts s x.bytes x.output x.answers) where
    -- ---- bytes of the data, whose length is known

    bytes_here : (text : List ℕ) (registers : ℕ → ℕ) (flags : Flags) (a offset address : ℕ) (rest : List Item)
        → registers 2 ≡ 8 * length text → registers 0 + offset ≡ address → registers 11 ≡ x.registers 11
        → bytes_address ≤ address → PieceAt x.bytes address text → Std [] a (bytes_put offset rest)
        → Puts setting (moved_to x registers flags a) 23 text
    bytes_here text registers flags a offset address rest count at eleven low piece h =
        let y = moved_to x registers flags a in
        let n = registers 2 / 2 ^ 3 in
        let z = moved_to x (set_register registers 2 n) unknown_flags (a + h.0) in
        let c = sum_of (registers 0) offset in
        let u = moved_to x (set_register z.registers 0 c.value) c.flags (z.place + h.2.0) in
        let o = moved_to x u.registers c.flags (place_of (label_of routine.Put)) in
        let high = piece.high in let small = ready.within in
        let is : c.value ≡ address = omega (arith, at, high, small) in
        puts_after y o.registers o.flags o.place 3 3 20 23 text
        (leads_on setting.marks (leads_on setting.marks (goes setting y z (Shr (Reg 2) 3) h.0 [] h.1 refl)
        (goes setting z u (AddNumber (Reg 0) (pos offset)) h.2.0 [] h.2.1 refl))
        (jumps setting u (label_of routine.Put) rest [] h.2.2))
        (kept_then is_scratch registers z.registers u.registers (kept_set is_scratch registers 2 n refl)
        (kept_set is_scratch z.registers 0 c.value refl)) refl (omega arith)
        (routines routine.Put o refl text
        (record {
          own_words = ready.own_words;
          within = ready.within;
          back = subst (λ r. r < 2 ^ 64) (sym eleven) ready.back;
        }) (omega (arith, is, low)) (omega (arith, count))
        (subst (λ a. PieceAt x.bytes a text) (sym is) piece))

    -- ---- a string

    string_here : (n : ℕ) (text : List ℕ) (registers : ℕ → ℕ) (flags : Flags)
        → slice_get s.store.objects n ≡ Some (string text) → Names parts (a_string n) 3 (registers 0)
        → registers 11 ≡ x.registers 11 → Std [] (place_of 79) objects_put
        → Puts setting (moved_to x registers flags (place_of 79)) 24 text
    string_here n text registers flags is name eleven h =
        let q : StringAt parts x.bytes n text = g.contents.object n (string text) is in
        let e : Some name.at ≡ Some q.at = sym name.there ∙ q.there in
        let same : name.at ≡ q.at = cc in
        let v : registers 0 ≡ 16 * q.at.unit + 3 = name.is ∙ ap (λ s. 16 * s.unit + 3) same in
        let w = spot_within parts (a_string n) q.at q.there in
        let lo = w.0 in let hi = w.1 in let room = q.room in let b = g.begins in let z = g.ends in
        let cl = plan.closures_low in let i = g.within in let long = g.size_is in let near = plan.near in
        let a = 16 * q.at.unit in
        let inside : Inside (length x.bytes) a = record
        { low = omega (arith, lo, b, cl); high = omega (arith, hi, room, z, i, long, top) } in
        let y = moved_to x registers flags (place_of 79) in
        let k = word_in x.bytes a in
        let u = moved_to x (set_register registers 2 k) flags (place_of 79 + h.0) in
        puts_after y u.registers u.flags u.place 1 1 23 24 text
        (loads_word setting y 2 h.0 a string_length [] h.1 (omega (arith, v, hi, z, i, near)) inside)
        (kept_set is_scratch registers 2 k refl) refl (omega arith)
        (bytes_here text u.registers flags u.place 5 (text_address q.at.unit) (Label 80 ∷ symbol_put []) q.size
        (omega (arith, v)) eleven (omega (arith, lo, b, cl))
        (piece_at x.bytes (text_address q.at.unit) text q.text_is (omega (arith, lo, b, cl))
        (omega (arith, hi, room, z, i, long, top))) h.2)

    -- ---- a symbol

    symbol_here : (n : ℕ) (registers : ℕ → ℕ) (flags : Flags) (q : SymbolAt plan s x.bytes n)
        → registers 0 ≡ 8 * n + 5 → registers 11 ≡ x.registers 11 → Std [] (place_of 80) (symbol_put [])
        → Puts setting (moved_to x registers flags (place_of 80)) 27 q.name
    symbol_here n registers flags q v eleven h =
        let y = moved_to x registers flags (place_of 80) in
        let first = word_in x.bytes table_address in
        let y1 = moved_to x (set_register registers 2 first) flags (place_of 80 + h.0) in
        let c = sum_of (registers 0) first in
        let y2 = moved_to x (set_register y1.registers 0 c.value) c.flags (y1.place + h.4.0) in
        let entry = first_name plan + 8 * n in
        let at = word_in x.bytes entry in
        let y3 = moved_to x (set_register y2.registers 0 at) c.flags (y2.place + h.4.2.0) in
        let long = word_in x.bytes q.at in
        let y4 = moved_to x (set_register y3.registers 2 long) c.flags (y3.place + h.4.2.2.0) in
        let table = q.table in let en = q.entry_inside.high in let small = ready.within in let is = q.entry in
        let high = q.size_inside.high in let low = q.low in
        let sum : c.value ≡ entry + 5 = omega (arith, v, table, en, small) in
        puts_after y y4.registers y4.flags y4.place 4 4 23 27 q.name
        (leads_on setting.marks (leads_on setting.marks (leads_on setting.marks
        (loads_data setting y 2 table_address (Plain (AddTo (Reg 0) 2) ∷ (Plain (MovFrom 0 (Base32 0 (negsuc 4))) ∷
        (Plain (MovFrom 2 (Base32 0 (pos 0))) ∷ bytes_put 8 []))) [] h q.table_inside)
        (goes setting y1 y2 (AddTo (Reg 0) 2) h.4.0 [] h.4.1 refl))
        (loads_word setting y2 0 h.4.2.0 entry (Base32 0 (negsuc 4)) [] h.4.2.1 (omega (arith, sum, en, small))
        q.entry_inside))
        (loads_word setting y3 2 h.4.2.2.0 q.at (Base32 0 (pos 0)) [] h.4.2.2.1 (omega (arith, is, high, small))
        q.size_inside))
        (kept_then is_scratch registers y1.registers y4.registers (kept_set is_scratch registers 2 first refl)
        (kept_then is_scratch y1.registers y2.registers y4.registers (kept_set is_scratch y1.registers 0 c.value refl)
        (kept_then is_scratch y2.registers y3.registers y4.registers (kept_set is_scratch y2.registers 0 at refl)
        (kept_set is_scratch y3.registers 2 long refl)))) refl (omega arith)
        (bytes_here q.name y4.registers c.flags y4.place 8 (q.at + 8) [] q.size_is (omega (arith, is)) eleven
        (omega (arith, low)) q.text h.4.2.2.2)

    -- ---- tests of the tag, one after the other

    -- n steps are done, and these items follow
    record Reached (registers : ℕ → ℕ) (n : ℕ) (code : List Item) : Type 0 where
      flags : Flags
      place : ℕ
      leads : Leads setting n n [] x (moved_to x registers flags place)
      ahead : Std [] place code

    -- a tag is another one, or it is not
    record Tried (registers : ℕ → ℕ) (n tag t label : ℕ) (code : List Item) : Type 0 where
      flags : Flags
      taken : (tag == t) ≡ true → Leads setting (n + 1 + 1) (n + 1 + 1) [] x
          (moved_to x registers flags (place_of label))
      passed : (tag == t) ≡ false → Reached registers (n + 1 + 1) code

    tried : (registers : ℕ → ℕ) (n tag t label : ℕ) (code : List Item) → registers 2 ≡ tag → tag < 8 → t < 8
        → Reached registers n (where_tag t label code) → Tried registers n tag t label code
    tried registers n tag t label code is small low r =
        let y = moved_to x registers r.flags r.place in
        let z = moved_to x registers (difference_of (registers 2) t).flags (r.place + r.ahead.0) in
        let first : Leads setting (n + 1) (n + 1) [] x z = leads_on setting.marks r.leads
        (goes setting y z (CmpNumber (Reg 2) (pos t)) r.ahead.0 [] r.ahead.1 refl) in
        let at : (b : Bool) → (tag == t) ≡ b → condition z.flags E ≡ Some b = λ b e.
        compared_e (registers 2) t (omega (arith, is, small)) (omega (arith, low)) ∙ ap (λ k. Some (k == t)) is
        ∙ ap Some e in
        record {
          flags = z.flags;
          taken = λ e. leads_on setting.marks first (branches setting z E label code [] true r.ahead.2 (at true e));
          passed = λ e. record {
            flags = z.flags;
            place = z.place + r.ahead.2.0;
            leads = leads_on setting.marks first (branches setting z E label code [] false r.ahead.2 (at false e));
            ahead = r.ahead.2.4;
          };
        }

    -- RAX's low eight bits are compared with a character's tag
    record Compared : Type 0 where
      registers : ℕ → ℕ
      flags : Flags
      place : ℕ
      leads : Leads setting 18 18 [] x (moved_to x registers flags place)
      kept : Kept is_scratch x.registers registers
      same : registers 0 ≡ x.registers 0
      eleven : registers 11 ≡ x.registers 11
      is_character : (b : Bool) → (x.registers 0 % 256 == 46) ≡ b → condition flags NE ≡ Some (not b)
      ahead : Std [] place (JumpIf NE 74 ∷ character_put (Label 74 ∷ texts_code))

    compared_here : (registers : ℕ → ℕ) → Kept is_scratch x.registers registers → registers 0 ≡ x.registers 0
        → registers 11 ≡ x.registers 11 → Reached registers 15 immediate_put → Compared
    compared_here registers kept same eleven r =
        let code : List Item = Plain (CmpNumber (Reg 2) (pos 46)) ∷ (JumpIf NE 74 ∷ character_put
        (Label 74 ∷ texts_code)) in
        let z = moved_to x registers r.flags r.place in
        let k = masked setting z 0 255 256 [] code by_255 r.ahead in
        let u = tagged setting z 0 k.tag (bits_of k.tag).flags k.place in
        let w = moved_to x u.registers (difference_of k.tag 46).flags (k.place + k.ahead.0) in
        record {
          registers = u.registers;
          flags = w.flags;
          place = w.place;
          leads = leads_on setting.marks (leads_on setting.marks r.leads k.leads)
              (goes setting u w (CmpNumber (Reg 2) (pos 46)) k.ahead.0 [] k.ahead.1 refl);
          kept = kept_then is_scratch x.registers registers u.registers kept
              (kept_then is_scratch registers (set_register registers 2 (registers 0)) u.registers
              (kept_set is_scratch registers 2 (registers 0) refl)
              (kept_set is_scratch (set_register registers 2 (registers 0)) 2 k.tag refl));
          same = same;
          eleven = eleven;
          is_character = λ b e. compared_ne k.tag 46 (let i = k.tag_is in omega (arith, i)) (omega arith)
              ∙ ap (λ j. Some (not (j == 46))) (k.tag_is ∙ ap (λ n. n % 256) same) ∙ ap (λ b. Some (not b)) e;
          ahead = k.ahead.2;
        }

    behind_tag : (t label : ℕ) (code : List Item) → ((a : ℕ) × Std [] a (where_tag t label code))
        → (a : ℕ) × Std [] a code
    behind_tag t label code h = (h.0 + h.1.0 + h.1.2.0, h.1.2.4)

    pub puts_value : (v : Value) → IsWord parts v (x.registers 0) → Std [] x.place put_value_code
        → PutsPiece x (piece v s.store)
    puts_value v hv h = by v hv
      where
        symbol_code : List Item
        symbol_code = where_tag 5 80 immediate_put

        string_code : List Item
        string_code = where_tag 3 79 symbol_code

        vector_code : List Item
        vector_code = where_tag 2 (stop_label WrongType) string_code

        pair_code : List Item
        pair_code = where_tag 1 (stop_label WrongType) vector_code

        cell_code : List Item
        cell_code = where_tag 7 (stop_label WrongType) pair_code

        procedure_code : List Item
        procedure_code = where_tag 4 78 cell_code

        m : Masked setting x 0 8 [] (JumpIf E (label_of routine.PutFixnum) ∷ procedure_code)
        m = masked setting x 0 7 8 [] (JumpIf E (label_of routine.PutFixnum) ∷ procedure_code) by_7 h

        y : View
        y = tagged setting x 0 m.tag (bits_of m.tag).flags m.place

        kept : Kept is_scratch x.registers y.registers
        kept = kept_then is_scratch x.registers (set_register x.registers 2 (x.registers 0)) y.registers
            (kept_set is_scratch x.registers 2 (x.registers 0) refl)
            (kept_set is_scratch (set_register x.registers 2 (x.registers 0)) 2 m.tag refl)

        fixnum_is : (b : Bool) → (m.tag == 0) ≡ b → condition y.flags E ≡ Some b
        fixnum_is b e = on_e y.flags ∙ ap Some e

        small : m.tag < 8
        small = let i = m.tag_is in omega (arith, i)

        -- the low bits are a number
        has : (v : Value) (h : IsWord parts v (x.registers 0)) → m.tag ≡ tag_of parts v _ h
        has v h = m.tag_is ∙ low_bits_of parts v _ h

        other : (k : ℕ) → m.tag ≡ k → (t : ℕ) (b : Bool) → (k == t) ≡ b → (m.tag == t) ≡ b
        other k is t b e = ap (λ n. n == t) is ∙ e

        past_fixnum : (m.tag == 0) ≡ false → Reached y.registers 3 procedure_code
        past_fixnum e = record {
          flags = y.flags;
          place = y.place + m.ahead.0;
          leads = leads_on setting.marks m.leads
              (branches setting y E (label_of routine.PutFixnum) procedure_code [] false m.ahead (fixnum_is false e));
          ahead = m.ahead.4;
        }

        procedure_test : (m.tag == 0) ≡ false → Tried y.registers 3 m.tag 4 78 cell_code
        procedure_test e = tried y.registers 3 m.tag 4 78 cell_code refl small (omega arith) (past_fixnum e)

        cell_test : (k : ℕ) → m.tag ≡ k → (k == 0) ≡ false → (k == 4) ≡ false
            → Tried y.registers 5 m.tag 7 (stop_label WrongType) pair_code
        cell_test k i a b = tried y.registers 5 m.tag 7 (stop_label WrongType) pair_code refl small (omega arith)
            ((procedure_test (other k i 0 false a)).passed (other k i 4 false b))

        pair_test : (k : ℕ) → m.tag ≡ k → (k == 0) ≡ false → (k == 4) ≡ false → (k == 7) ≡ false
            → Tried y.registers 7 m.tag 1 (stop_label WrongType) vector_code
        pair_test k i a b c = tried y.registers 7 m.tag 1 (stop_label WrongType) vector_code refl small (omega arith)
            ((cell_test k i a b).passed (other k i 7 false c))

        vector_test : (k : ℕ) → m.tag ≡ k → (k == 0) ≡ false → (k == 4) ≡ false → (k == 7) ≡ false
            → (k == 1) ≡ false → Tried y.registers 9 m.tag 2 (stop_label WrongType) string_code
        vector_test k i a b c d = tried y.registers 9 m.tag 2 (stop_label WrongType) string_code refl small
            (omega arith) ((pair_test k i a b c).passed (other k i 1 false d))

        string_test : (k : ℕ) → m.tag ≡ k → (k == 0) ≡ false → (k == 4) ≡ false → (k == 7) ≡ false
            → (k == 1) ≡ false → (k == 2) ≡ false → Tried y.registers 11 m.tag 3 79 symbol_code
        string_test k i a b c d e = tried y.registers 11 m.tag 3 79 symbol_code refl small (omega arith)
            ((vector_test k i a b c d).passed (other k i 2 false e))

        symbol_test : (k : ℕ) → m.tag ≡ k → (k == 0) ≡ false → (k == 4) ≡ false → (k == 7) ≡ false
            → (k == 1) ≡ false → (k == 2) ≡ false → (k == 3) ≡ false → Tried y.registers 13 m.tag 5 80 immediate_put
        symbol_test k i a b c d e f = tried y.registers 13 m.tag 5 80 immediate_put refl small (omega arith)
            ((string_test k i a b c d e).passed (other k i 3 false f))

        -- where the texts are, and what stands behind them
        texts_stand : Std [] (place_of 74) texts_code
        texts_stand =
            let a = behind_tag 5 80 immediate_put (behind_tag 3 79 symbol_code
            (behind_tag 2 (stop_label WrongType) string_code (behind_tag 1 (stop_label WrongType) vector_code
            (behind_tag 7 (stop_label WrongType) pair_code (behind_tag 4 78 cell_code
            (m.place + m.ahead.0, m.ahead.4)))))) in
            subst (λ a. Std [] a texts_code) (sym a.1.2.2.2.4.2.2.2.4.1) a.1.2.2.2.4.2.2.2.4.2

        procedure_stands : Std [] (place_of 78) procedure_put
        procedure_stands = subst (λ a. Std [] a procedure_put)
            (sym texts_stand.2.4.2.2.4.2.2.4.2.2.4.2.2.4.2.2.4.2.2.2.4.1)
            texts_stand.2.4.2.2.4.2.2.4.2.2.4.2.2.4.2.2.4.2.2.2.4.2

        string_stands : Std [] (place_of 79) objects_put
        string_stands = subst (λ a. Std [] a objects_put) (sym procedure_stands.2.2.4.1) procedure_stands.2.2.4.2

        symbol_stands : Std [] (place_of 80) (symbol_put [])
        symbol_stands = subst (λ a. Std [] a (symbol_put [])) (sym string_stands.2.2.2.4.1) string_stands.2.2.2.4.2

        -- ---- what is no fixnum, no procedure, no cell, no object and no symbol

        immediate : m.tag ≡ 6 → Compared
        immediate is = compared_here y.registers kept refl refl
            ((symbol_test 6 is refl refl refl refl refl refl).passed (other 6 is 5 false refl))

        far : Compared → View
        far c = moved_to x c.registers c.flags (place_of 74)

        far_ready : (c : Compared) → IsReady (far c)
        far_ready c = record {
          own_words = ready.own_words;
          within = ready.within;
          back = subst (λ r. r < 2 ^ 64) (sym c.eleven) ready.back;
        }

        texts_at : (text : List ℕ) (c : Compared) → (x.registers 0 % 256 == 46) ≡ false → Puts setting (far c) 40 text
            → Puts setting x 200 text
        texts_at text c f s = puts_after x c.registers c.flags (place_of 74) 19 19 40 200 text
            (leads_on setting.marks c.leads (branches setting (moved_to x c.registers c.flags c.place) NE 74
            (character_put (Label 74 ∷ texts_code)) [] true c.ahead (c.is_character false f))) c.kept c.eleven
            (omega arith) s

        -- ---- what has no piece

        stopped : (n : ℕ) (flags : Flags) → n ≤ 200 → Leads setting n n [] x
            (moved_to x y.registers flags (place_of (stop_label WrongType))) → Halts setting x [] 200 WrongType
        stopped n flags le l = record
            { registers = y.registers; flags = flags; least = n; steps = n; leads = l; few = le }

        no_pair : (o : Option Object) → is_pair o ≡ true → Halts setting x [] 200 WrongType
            → PutsPiece x (object_piece o)
        no_pair (Some (pair a d)) e h = h
        no_pair (Some (vector vs)) e h = absurd (let bad : false ≡ true = e in cc)
        no_pair (Some (string bs)) e h = absurd (let bad : false ≡ true = e in cc)
        no_pair None e h = absurd (let bad : false ≡ true = e in cc)

        no_vector : (o : Option Object) → is_vector o ≡ true → Halts setting x [] 200 WrongType
            → PutsPiece x (object_piece o)
        no_vector (Some (pair a d)) e h = absurd (let bad : false ≡ true = e in cc)
        no_vector (Some (vector vs)) e h = h
        no_vector (Some (string bs)) e h = absurd (let bad : false ≡ true = e in cc)
        no_vector None e h = absurd (let bad : false ≡ true = e in cc)

        strings : (n : ℕ) → Names parts (a_string n) 3 (x.registers 0) → m.tag ≡ 3 → (o : Option Object)
            → slice_get s.store.objects n ≡ o → is_string o ≡ true → PutsPiece x (object_piece o)
        strings n name is (Some (pair a d)) e i = absurd (let bad : false ≡ true = i in cc)
        strings n name is (Some (vector vs)) e i = absurd (let bad : false ≡ true = i in cc)
        strings n name is None e i = absurd (let bad : false ≡ true = i in cc)
        strings n name is (Some (string text)) e i =
            let t = string_test 3 is refl refl refl refl refl in
            puts_after x y.registers t.flags (place_of 79) 13 13 24 200 text (t.taken (other 3 is 3 true refl)) kept
            refl (omega arith) (string_here n text y.registers t.flags e name refl string_stands)

        heap_top : plan.heap ≤ data_address + size
        heap_top = let l = plan.stack_low in omega (arith, l, top)

        by : (v : Value) → IsWord parts v (x.registers 0) → PutsPiece x (piece v s.store)
        by (fixnum n) hv =
            puts_after x y.registers y.flags (place_of (label_of routine.PutFixnum)) 3 3 167 200 (signed_decimal n)
            (leads_on setting.marks m.leads (branches setting y E (label_of routine.PutFixnum) procedure_code [] true
            m.ahead (fixnum_is true (other 0 (has (fixnum n) hv) 0 true refl))))
            kept refl (omega arith)
            (routines routine.PutFixnum (moved_to x y.registers y.flags (place_of (label_of routine.PutFixnum))) refl
            n (record { own_words = ready.own_words; within = ready.within; back = ready.back }) hv)
        by (character byte) hv =
            let c = immediate (has (character byte) hv) in
            puts_after x c.registers c.flags (c.place + c.ahead.0) 19 19 24 200 (byte ∷ [])
            (leads_on setting.marks c.leads (branches setting (moved_to x c.registers c.flags c.place) NE 74
            (character_put (Label 74 ∷ texts_code)) [] false c.ahead
            (c.is_character true (character_tested parts (character byte) _ hv)))) c.kept c.eleven (omega arith)
            (character_here x ready static byte c.registers c.flags (c.place + c.ahead.0) (Label 74 ∷ texts_code)
            (c.same ∙ hv.0) hv.1 c.eleven c.ahead.4)
        by (boolean true) hv =
            let c = immediate (has (boolean true) hv) in
            texts_at (codes "#t") c (character_tested parts (boolean true) _ hv)
            (true_put (far c) (far_ready c) static c.flags (place_of 74) (c.same ∙ hv) texts_stand)
        by (boolean false) hv =
            let c = immediate (has (boolean false) hv) in
            texts_at (codes "#f") c (character_tested parts (boolean false) _ hv)
            (false_put (far c) (far_ready c) static c.flags (place_of 74) (c.same ∙ hv) texts_stand)
        by nil hv =
            let c = immediate (has nil hv) in
            texts_at (codes "()") c (character_tested parts nil _ hv)
            (nil_put (far c) (far_ready c) static c.flags (place_of 74) (c.same ∙ hv) texts_stand)
        by unspecified hv =
            let c = immediate (has unspecified hv) in
            texts_at (codes "#<unspecified>") c (character_tested parts unspecified _ hv)
            (unspecified_put (far c) (far_ready c) static c.flags (place_of 74) (c.same ∙ hv) texts_stand)
        by (symbol n) hv =
            let is = has (symbol n) hv in
            let t = symbol_test 5 is refl refl refl refl refl refl in
            let q = symbol_at plan parts s x.bytes x.output x.answers n (x.registers 0) heap_top g hv in
            subst (PutsPiece x) (sym q.is)
            (puts_after x y.registers t.flags (place_of 80) 15 15 27 200 q.name (t.taken (other 5 is 5 true refl))
            kept refl (omega arith) (symbol_here n y.registers t.flags q hv.0 refl symbol_stands))
        by (object n) (inl name) =
            let is = has (object n) (inl name) in
            let t = pair_test 1 is refl refl refl in
            no_pair (slice_get s.store.objects n) (g.contents.kinds.pairs n name.at name.there)
            (stopped 9 t.flags (omega arith) (t.taken (other 1 is 1 true refl)))
        by (object n) (inr (inl name)) =
            let is = has (object n) (inr (inl name)) in
            let t = vector_test 2 is refl refl refl refl in
            no_vector (slice_get s.store.objects n) (g.contents.kinds.vectors n name.at name.there)
            (stopped 11 t.flags (omega arith) (t.taken (other 2 is 2 true refl)))
        by (object n) (inr (inr name)) = strings n name (has (object n) (inr (inr name)))
            (slice_get s.store.objects n) refl (g.contents.kinds.strings n name.at name.there)
        by (procedure n) hv =
            let is = has (procedure n) hv in
            let t = procedure_test (other 4 is 0 false refl) in
            let o : View = moved_to x y.registers t.flags (place_of 78) in
            puts_after x y.registers t.flags (place_of 78) 5 5 23 200 (codes "#<procedure>")
            (t.taken (other 4 is 4 true refl)) kept refl (omega arith)
            (text_put (texts_address + 20) 12 (codes "#<procedure>") o (Label 79 ∷ objects_put) procedure_stands
            (record { own_words = ready.own_words; within = ready.within; back = ready.back }) (omega arith) refl
            (text_there x.bytes 276 (codes "#<procedure>") (drop 288 (static_bytes ++ drop 288 (drop own_size x.bytes)))
            static (omega arith) refl))
        by (cell n) hv =
            let is = has (cell n) hv in
            let t = cell_test 7 is refl refl in
            stopped 7 t.flags (omega arith) (t.taken (other 7 is 7 true refl))
