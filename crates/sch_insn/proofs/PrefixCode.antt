-- Spellings are a prefix code.
use Rattle.std.proofs.Common.{◌≡◌, ℕ, zero, suc, ◌≤◌, ◌%◌, List, [], ◌∷◌, ◌++◌, length, take, Bool, true, false, ◌==◌, Some, sym, ap, ◌∙◌, arith, length-append, append-nil}
use Rattle.sch_word.proofs.facts.Lists.{length_none}
use Rattle.sch_insn.specs.declared.insn.Arg.{Arg}
use Rattle.sch_insn.specs.declared.insn.Arg.TheVariants.{Reg, Base, Base8, Base32, Rip}
use Rattle.sch_insn.specs.declared.insn.Insn.{Insn}
use Rattle.sch_insn.specs.declared.insn.Insn.TheVariants.{MovTo, MovFrom, MovNumber, MovWord, StoreByte, LoadByte, Lea, AddTo, OrTo, AndTo, SubTo, XorTo, CmpTo, AddFrom, OrFrom, AndFrom, SubFrom, XorFrom, CmpFrom, AddNumber, OrNumber, AndNumber, SubNumber, XorNumber, CmpNumber, AddNumber8, OrNumber8, AndNumber8, SubNumber8, XorNumber8, CmpNumber8, TestTo, Imul, Neg, Idiv, Cqo, Shl, Shr, Sar, Jump, Jump8, JumpTo, JumpIf, JumpIf8, Syscall}
use Rattle.sch_insn.specs.Spelling.{one_byte, four_bytes, wide, sib, operand, spelling, Spells, AreBytes}
use Rattle.sch_insn.specs.Decode.{decode}
use Rattle.sch_insn.proofs.Reading.{decode_spelling, sib_bytes}
use Rattle.sch_insn.proofs.ReadingsAreSpelled.{Bytes, decode_back}

pub one_spelling : (i : Insn) (xs ys : List ℕ) → Spells i xs → Spells i ys → xs ≡ ys
one_spelling i xs ys a b = a.same ∙ sym b.same

-- What a spelling is read as, also before other bytes.
read : (i : Insn) (xs rest : List ℕ) → Spells i xs → decode (xs ++ rest) ≡ Some (i, length xs)
read i xs rest a =
    ap (λ l. decode (l ++ rest)) a.same ∙ decode_spelling i rest a.valid ∙ ap (λ n. Some (i, n)) (ap length (sym a.same))

alone : (i : Insn) (xs : List ℕ) → Spells i xs → decode xs ≡ Some (i, length xs)
alone i xs a = ap decode (sym (append-nil xs)) ∙ read i xs [] a

pub one_instruction : (i j : Insn) (xs : List ℕ) → Spells i xs → Spells j xs → i ≡ j
one_instruction i j xs a b =
    let one : Insn × ℕ = (i, length xs) in
    let other : Insn × ℕ = (j, length xs) in
    let both : Some one ≡ Some other = sym (alone i xs a) ∙ alone j xs b in
    let pair : one ≡ other = cc in
    ap (λ p. p.0) pair

pub no_proper_prefix : (i j : Insn) (xs rest : List ℕ) → Spells i xs → Spells j (xs ++ rest) → rest ≡ []
no_proper_prefix i j xs rest a b =
    let one : Insn × ℕ = (i, length xs) in
    let other : Insn × ℕ = (j, length (xs ++ rest)) in
    let both : Some one ≡ Some other = sym (read i xs rest a) ∙ alone j (xs ++ rest) b in
    let pair : one ≡ other = cc in
    let size : length xs ≡ length (xs ++ rest) = ap (λ p. p.1) pair in
    length_none rest (omega (arith, size, length-append xs rest))

one_or_none : (t : Bool) → length (sib_bytes t) ≤ 1
one_or_none true = omega arith
one_or_none false = omega arith

operand_short : (m : Arg) (r : ℕ) → length (operand r m) ≤ 6
operand_short (Reg b) r = omega arith
operand_short (Base b) r = omega (arith, one_or_none (b % 8 == 4))
operand_short (Base8 b d) r = omega (arith, one_or_none (b % 8 == 4), length-append (sib b) (one_byte d))
operand_short (Base32 b d) r = omega (arith, one_or_none (b % 8 == 4), length-append (sib b) (four_bytes d))
operand_short (Rip d) r = omega arith

ended_short : (op d : ℕ) (m : Arg) (tail : List ℕ) → length tail ≤ 4 → length (wide op d m ++ tail) ≤ 15
ended_short op d m tail h = omega (arith, h, operand_short m d, length-append (wide op d m) tail)

pub spelling_short : (i : Insn) → length (spelling i) ≤ 15
spelling_short (MovTo m r) = omega (arith, operand_short m r)
spelling_short (MovFrom r m) = omega (arith, operand_short m r)
spelling_short (MovNumber m n) = ended_short 199 0 m (four_bytes n) (omega arith)
spelling_short (MovWord r n) = omega arith
spelling_short (StoreByte m r) = omega (arith, operand_short m r)
spelling_short (LoadByte r m) = omega (arith, operand_short m r)
spelling_short (Lea r m) = omega (arith, operand_short m r)
spelling_short (AddTo m r) = omega (arith, operand_short m r)
spelling_short (OrTo m r) = omega (arith, operand_short m r)
spelling_short (AndTo m r) = omega (arith, operand_short m r)
spelling_short (SubTo m r) = omega (arith, operand_short m r)
spelling_short (XorTo m r) = omega (arith, operand_short m r)
spelling_short (CmpTo m r) = omega (arith, operand_short m r)
spelling_short (AddFrom r m) = omega (arith, operand_short m r)
spelling_short (OrFrom r m) = omega (arith, operand_short m r)
spelling_short (AndFrom r m) = omega (arith, operand_short m r)
spelling_short (SubFrom r m) = omega (arith, operand_short m r)
spelling_short (XorFrom r m) = omega (arith, operand_short m r)
spelling_short (CmpFrom r m) = omega (arith, operand_short m r)
spelling_short (AddNumber m n) = ended_short 129 0 m (four_bytes n) (omega arith)
spelling_short (OrNumber m n) = ended_short 129 1 m (four_bytes n) (omega arith)
spelling_short (AndNumber m n) = ended_short 129 4 m (four_bytes n) (omega arith)
spelling_short (SubNumber m n) = ended_short 129 5 m (four_bytes n) (omega arith)
spelling_short (XorNumber m n) = ended_short 129 6 m (four_bytes n) (omega arith)
spelling_short (CmpNumber m n) = ended_short 129 7 m (four_bytes n) (omega arith)
spelling_short (AddNumber8 m n) = ended_short 131 0 m (one_byte n) (omega arith)
spelling_short (OrNumber8 m n) = ended_short 131 1 m (one_byte n) (omega arith)
spelling_short (AndNumber8 m n) = ended_short 131 4 m (one_byte n) (omega arith)
spelling_short (SubNumber8 m n) = ended_short 131 5 m (one_byte n) (omega arith)
spelling_short (XorNumber8 m n) = ended_short 131 6 m (one_byte n) (omega arith)
spelling_short (CmpNumber8 m n) = ended_short 131 7 m (one_byte n) (omega arith)
spelling_short (TestTo m r) = omega (arith, operand_short m r)
spelling_short (Imul r m) = omega (arith, operand_short m r)
spelling_short (Neg m) = omega (arith, operand_short m 3)
spelling_short (Idiv m) = omega (arith, operand_short m 7)
spelling_short Cqo = omega arith
spelling_short (Shl m k) = ended_short 193 4 m (k ∷ []) (omega arith)
spelling_short (Shr m k) = ended_short 193 5 m (k ∷ []) (omega arith)
spelling_short (Sar m k) = ended_short 193 7 m (k ∷ []) (omega arith)
spelling_short (Jump d) = omega arith
spelling_short (Jump8 d) = omega arith
spelling_short (JumpTo m) = omega (arith, operand_short m 4)
spelling_short (JumpIf c d) = omega arith
spelling_short (JumpIf8 c d) = omega arith
spelling_short Syscall = omega arith

pub spells_short : (i : Insn) (xs : List ℕ) → Spells i xs → length xs ≤ 15
spells_short i xs a = omega (arith, ap length a.same, spelling_short i)

-- Bytes, also where the answer past the end is 0.
below : (bs : List ℕ) → AreBytes bs → Bytes bs
below [] h k = omega arith
below (b ∷ bs) h zero = h 0 0 (omega arith)
below (b ∷ bs) h (suc k) = below bs (λ j d lt. h (suc j) d (omega arith)) k

pub was_spelled : (bs : List ℕ) (i : Insn) (n : ℕ) → AreBytes bs → decode bs ≡ Some (i, n) → Spells i (take n bs)
was_spelled bs i n h e = let s = (decode_back bs (below bs h)).by (i, n) e in record { valid = s.is; same = s.same }

pub within : (bs : List ℕ) (i : Insn) (n : ℕ) → AreBytes bs → decode bs ≡ Some (i, n) → n ≤ length bs
within bs i n h e = ((decode_back bs (below bs h)).by (i, n) e).within
