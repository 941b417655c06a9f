-- What stands where: instructions and bytes in a list of segments.
use Rattle.std.proofs.Common.{◌≡◌, ℕ, suc, ◌+◌, ◌-◌, ◌<◌, ◌≤◌, List, [], ◌∷◌, ◌++◌, length, drop, Bool, true, false, cond, Option, Some, None, sym, ap, ◌∙◌, subst, ⊎_elim, arith, append_assoc, length-append, length-drop, nat_le, ◌&&◌}
use Rattle.std.specs.List.{flat_map}
use Rattle.std.proofs.lemmas.Bool.Decides.{nat_tests}
use Rattle.std.proofs.lemmas.List.{drop-append-le, drop-drop}
use Rattle.std.proofs.Math.Seq.{drop-append_seam, take-append_seam, drop-append-add}
use Rattle.sch_word.specs.values.Memory.{Segment}
use Rattle.sch_insn.specs.declared.insn.Insn.{Insn}
use Rattle.sch_insn.specs.declared.insn.Insn.TheVariants.{MovTo, MovFrom, MovNumber, MovWord, StoreByte, LoadByte, Lea, AddTo, OrTo, AndTo, SubTo, XorTo, CmpTo, AddFrom, OrFrom, AndFrom, SubFrom, XorFrom, CmpFrom, AddNumber, OrNumber, AndNumber, SubNumber, XorNumber, CmpNumber, AddNumber8, OrNumber8, AndNumber8, SubNumber8, XorNumber8, CmpNumber8, TestTo, Imul, Neg, Idiv, Cqo, Shl, Shr, Sar, Jump, Jump8, JumpTo, JumpIf, JumpIf8, Syscall}
use Rattle.sch_word.specs.declared.registers.TheConstants.{RDX, RSI}
use Rattle.sch_insn.specs.Spelling.{spelling, AllValid}
use Rattle.sch_insn.specs.Decode.{decode}
use Rattle.sch_word.specs.values.Options.{when_some}
use Rattle.sch_insn.specs.Machine.{State, holds, bytes_from}
use Rattle.sch_insn.specs.Step.{Progress, Runs, write_row, piece_written, answered, perform, fetched, step}
use Rattle.sch_insn.proofs.Reading.{decode_spelling}
use Rattle.sch_insn.specs.Stands.{StandsAt, HasAt, HasBytes, Apart, ApartFrom}

inside : (low high a b : ℕ) → low ≤ a → b ≤ high → (nat_le low a && nat_le b high) ≡ true
inside low high a b h k = grind (arith, nat_tests)

below : (low high a b : ℕ) → a < low → (nat_le low a && nat_le b high) ≡ false
below low high a b h = grind (arith, nat_tests)

above : (low high a b : ℕ) → high < b → (nat_le low a && nat_le b high) ≡ false
above low high a b h = grind (arith, nat_tests)

other : (g h : Segment) (a n : ℕ) → g.address ≤ a → a + n ≤ g.address + length g.bytes → 0 < n → Apart g h → holds h a n ≡ false
other g h a n low high some apart =
    ⊎_elim
    (λ le. below h.address (h.address + length h.bytes) a (a + n) (omega arith))
    (λ le. above h.address (h.address + length h.bytes) a (a + n) (omega arith))
    apart

-- The bytes from an address on, where they lie in one of a list of segments.
pub bytes_from_one : (right : Segment → Bool) (before after : List Segment) (g : Segment) (a n : ℕ) → ApartFrom g before → right g ≡ true → g.address ≤ a → a + n ≤ g.address + length g.bytes
    → 0 < n → bytes_from right (before ++ g ∷ after) a n ≡ Some (drop (a - g.address) g.bytes)
bytes_from_one right [] after g a n apart r low high some =
    let none : Option (List ℕ) = None in
    let found : Option (List ℕ) = Some (drop (a - g.address) g.bytes) in
    ap (λ t. cond t (cond (right g) found none) (bytes_from right after a n)) (inside g.address (g.address + length g.bytes) a (a + n) low high)
    ∙ ap (λ t. cond t found none) r
bytes_from_one right (h ∷ hs) after g a n apart r low high some =
    let none : Option (List ℕ) = None in
    ap (λ t. cond t (cond (right h) (Some (drop (a - h.address) h.bytes)) none) (bytes_from right (hs ++ g ∷ after) a n)) (other g h a n low high some apart.0)
    ∙ bytes_from_one right hs after g a n apart.1 r low high some

-- The step where the instruction is known.
pub stands_step : (s : State) (i : Insn) (e : Progress) → StandsAt s.core.segments s.core.place i → perform i (s.core.place + length (spelling i)) s ≡ e → step s ≡ e
stands_step s i e h a = ap (fetched s) h ∙ a

-- No spelling is empty.
pub spelling_some : (i : Insn) → 0 < length (spelling i)
spelling_some (MovTo m r) = omega arith
spelling_some (MovFrom r m) = omega arith
spelling_some (MovNumber m n) = omega arith
spelling_some (MovWord r n) = omega arith
spelling_some (StoreByte m r) = omega arith
spelling_some (LoadByte r m) = omega arith
spelling_some (Lea r m) = omega arith
spelling_some (AddTo m r) = omega arith
spelling_some (OrTo m r) = omega arith
spelling_some (AndTo m r) = omega arith
spelling_some (SubTo m r) = omega arith
spelling_some (XorTo m r) = omega arith
spelling_some (CmpTo m r) = omega arith
spelling_some (AddFrom r m) = omega arith
spelling_some (OrFrom r m) = omega arith
spelling_some (AndFrom r m) = omega arith
spelling_some (SubFrom r m) = omega arith
spelling_some (XorFrom r m) = omega arith
spelling_some (CmpFrom r m) = omega arith
spelling_some (AddNumber m n) = omega arith
spelling_some (OrNumber m n) = omega arith
spelling_some (AndNumber m n) = omega arith
spelling_some (SubNumber m n) = omega arith
spelling_some (XorNumber m n) = omega arith
spelling_some (CmpNumber m n) = omega arith
spelling_some (AddNumber8 m n) = omega arith
spelling_some (OrNumber8 m n) = omega arith
spelling_some (AndNumber8 m n) = omega arith
spelling_some (SubNumber8 m n) = omega arith
spelling_some (XorNumber8 m n) = omega arith
spelling_some (CmpNumber8 m n) = omega arith
spelling_some (TestTo m r) = omega arith
spelling_some (Imul r m) = omega arith
spelling_some (Neg m) = omega arith
spelling_some (Idiv m) = omega arith
spelling_some Cqo = omega arith
spelling_some (Shl m k) = omega arith
spelling_some (Shr m k) = omega arith
spelling_some (Sar m k) = omega arith
spelling_some (Jump d) = omega arith
spelling_some (Jump8 d) = omega arith
spelling_some (JumpTo m) = omega arith
spelling_some (JumpIf c d) = omega arith
spelling_some (JumpIf8 c d) = omega arith
spelling_some Syscall = omega arith

-- The instructions whose spellings stand in an executable segment behind some bytes of it.
pub has_all : (before after : List Segment) (g : Segment) (is : List Insn) (front rest : List ℕ) → ApartFrom g before → g.executable ≡ true → g.bytes ≡ front ++ (flat_map spelling is ++ rest)
    → AllValid is → HasAt (before ++ g ∷ after) (g.address + length front) is
has_all before after g [] front rest apart x e v = tt
has_all before after g (i ∷ is) front rest apart x e v =
    let gs = before ++ g ∷ after in
    let a = g.address + length front in
    let more = flat_map spelling is ++ rest in
    let whole : g.bytes ≡ front ++ (spelling i ++ more) = e ∙ ap (λ l. front ++ l) (append_assoc (spelling i) (flat_map spelling is) rest) in
    let some = spelling_some i in
    let fits : a + 1 ≤ g.address + length g.bytes = omega (arith, ap length whole, length-append front (spelling i ++ more), length-append (spelling i) more) in
    let at : a - g.address ≡ length front = omega arith in
    let here : drop (a - g.address) g.bytes ≡ spelling i ++ more = ap (λ n. drop n g.bytes) at ∙ ap (drop (length front)) whole ∙ drop-append_seam front (spelling i ++ more) in
    let stands : StandsAt gs a i = ap (λ o. when_some o decode) (bytes_from_one (λ g. g.executable) before after g a 1 apart x (omega arith) fits (omega arith)) ∙ ap decode here
    ∙ decode_spelling i more v.0 in
    let later : g.bytes ≡ (front ++ spelling i) ++ more = whole ∙ sym (append_assoc front (spelling i) more) in
    let place : g.address + length (front ++ spelling i) ≡ a + length (spelling i) = omega (arith, length-append front (spelling i)) in
    (stands, subst (λ p. HasAt gs p is) place (has_all before after g is (front ++ spelling i) rest apart x later v.1))

-- Bytes stand from a later place on too.
pub has_later : (gs : List Segment) (a : ℕ) (xs : List ℕ) (j : ℕ) → HasBytes gs a xs → HasBytes gs (a + j) (drop j xs)
has_later gs a xs j h = record {
  from = λ k l.
      let len = length-drop j xs in
      let within : j + k < length xs = omega (arith, len) in
      let f = h.from (j + k) within in
      let place : a + (j + k) ≡ a + j + k = omega arith in
      let size : length xs - (j + k) ≡ length (drop j xs) - k = omega (arith, len) in (
        f.0,
        sym (ap (λ p. bytes_from (λ g. g.readable) gs p (length (drop j xs) - k)) place)
            ∙ sym (ap (λ n. bytes_from (λ g. g.readable) gs (a + (j + k)) n) size)
            ∙ f.1
            ∙ ap (λ l. Some (l ++ f.0)) (sym (drop-drop k j xs)),
      );
}

-- The bytes that stand in a readable segment behind some bytes of it.
pub has_bytes : (before after : List Segment) (g : Segment) (xs front rest : List ℕ) → ApartFrom g before → g.readable ≡ true → g.bytes ≡ front ++ (xs ++ rest)
    → HasBytes (before ++ g ∷ after) (g.address + length front) xs
has_bytes before after g xs front rest apart r e = record {
  from = λ k l.
      let a = g.address + length front in
      let whole = length-append front (xs ++ rest) in
      let part = length-append xs rest in
      let len = ap length e in
      let low : g.address ≤ a + k = omega arith in
      let fits : a + k + (length xs - k) ≤ g.address + length g.bytes = omega arith in
      let at : a + k - g.address ≡ length front + k = omega arith in
      let some : 0 < length xs - k = omega arith in
      let here : drop (a + k - g.address) g.bytes ≡ drop k xs ++ rest =
      ap (λ n. drop n g.bytes) at ∙ ap (drop (length front + k)) e ∙ drop-append-add front (xs ++ rest) k ∙ drop-append-le k xs rest (omega arith) in
      (rest, bytes_from_one (λ g. g.readable) before after g (a + k) (length xs - k) apart r low fits some ∙ ap Some here);
}

-- A write of bytes that stand at rsi, rdx many: they meet the kernel's next answer.
pub write_answered : (s : State) (next : ℕ) (xs : List ℕ) → 0 < length xs → s.core.registers RDX ≡ length xs → HasBytes s.core.segments (s.core.registers RSI) xs
    → write_row s next (s.core.registers RDX) ≡ Runs (answered s next xs s.answers)
write_answered s next [] some two has = absurd (omega arith)
write_answered s next (x ∷ xs) some two has =
    let ys = x ∷ xs in
    let a = s.core.registers RSI in
    let f = has.from 0 some in
    let n = length xs in
    let size : length ys - 0 ≡ suc n = omega arith in
    let place : a + 0 ≡ a = omega arith in
    let found : bytes_from (λ g. g.readable) s.core.segments a (suc n) ≡ Some (ys ++ f.0) =
    sym (ap (λ p. bytes_from (λ g. g.readable) s.core.segments p (suc n)) place)
    ∙ sym (ap (λ k. bytes_from (λ g. g.readable) s.core.segments (a + 0) k) size)
    ∙ f.1 in
    ap (write_row s next) two
    ∙ ap (piece_written s next (suc n)) found
    ∙ ap (λ l. Runs (answered s next l s.answers)) (take-append_seam ys f.0)
