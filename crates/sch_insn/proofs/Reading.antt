-- What is spelled is read back: `decode` of a spelling, whatever follows it, is its instruction.
use Rattle.std.proofs.Common.{◌≡◌, ◌≢◌, ℕ, suc, ◌+◌, ◌*◌, ◌/◌, ◌%◌, ◌^◌, ◌<◌, ◌≤◌, List, [], ◌∷◌, ◌++◌, length, drop, Bool, true, false, cond, Option, Some, None, refl, sym, ap, ◌∙◌, arith, append_assoc, length-append, nat_lt, ◌==◌, ◌&&◌, add-one}
use Rattle.std.specs.Prelude.{ℤ, not, slice_index}
use Rattle.std.specs.Int.{w8, w32, w64, cast_signed, cast_unsigned, from_le_bytes}
use Rattle.std.specs.Int.RustNames.{FitsSigned}
use Rattle.std.proofs.lemmas.List.{drop_at}
use Rattle.std.proofs.lemmas.Nat.{from_le_bytes-to_le_bytes_4, from_le_bytes-to_le_bytes_8}
use Rattle.std.proofs.lemmas.Int.{to_z-of_z, ints}
use Rattle.std.proofs.lemmas.Bool.{ne_eqb, eq-eqb}
use Rattle.std.proofs.lemmas.Bool.Decides.{nat_tests}
use Rattle.sch_insn.specs.declared.insn.Arg.{Arg}
use Rattle.sch_insn.specs.declared.insn.Arg.TheVariants.{Reg, Base, Base8, Base32, Rip}
use Rattle.sch_insn.specs.declared.insn.Insn.{Insn}
use Rattle.sch_insn.specs.declared.insn.Insn.TheVariants.{MovTo, MovFrom, MovNumber, MovWord, StoreByte, LoadByte, Lea, AddTo, OrTo, AndTo, SubTo, XorTo, CmpTo, AddFrom, OrFrom, AndFrom, SubFrom, XorFrom, CmpFrom, AddNumber, OrNumber, AndNumber, SubNumber, XorNumber, CmpNumber, AddNumber8, OrNumber8, AndNumber8, SubNumber8, XorNumber8, CmpNumber8, TestTo, Imul, Neg, Idiv, Cqo, Shl, Shr, Sar, Jump, Jump8, JumpTo, JumpIf, JumpIf8, Syscall}
use Rattle.sch_insn.specs.Spelling.{one_byte, four_bytes, eight_bytes, high_bit, modrm, sib, operand, wide, spelling, IsArg, in_memory, IsCondition, IsValid}
use Rattle.sch_insn.specs.Decode.{number_of_1, number_of_4, number_of_8, sib_size, arg_of, operand_of, count_of, wide_of, narrow_of, long_of, whole_word_of, full_of, rexed_of, is_jump_if, escaped_of, decode}
use Rattle.sch_word.specs.values.Options.{when_some}
use Rattle.sch_insn.proofs.Lists.{drop_1}
use Rattle.sch_insn.proofs.OnAnswer.{answer}

-- Tests of numbers, as `decode` makes them.
pub not_below : (a b : ℕ) → b ≤ a → nat_lt a b ≡ false
not_below a b h = grind (arith, nat_tests)

some_bytes : (x : ℕ) (bs : List ℕ) → nat_lt (length (x ∷ bs)) 1 ≡ false
some_bytes x bs = not_below (length (x ∷ bs)) 1 (omega arith)

-- Numbers: their bytes are read as the number.
word_of_4 : (d : ℤ) → FitsSigned w32 d → cast_unsigned w32 d < 2 ^ 32
word_of_4 d fits = omega (arith, ints)

word_of_8 : (d : ℤ) → FitsSigned w64 d → cast_unsigned w64 d < 2 ^ 64
word_of_8 d fits = omega (arith, ints)

number_of_1_read : (d : ℤ) (rest : List ℕ) → FitsSigned w8 d → number_of_1 (one_byte d ++ rest) ≡ Some d
number_of_1_read d rest fits =
    let n = cast_unsigned w8 d in
    let none : Option ℤ = None in
    ap (λ b. cond b none (Some (cast_signed w8 n))) (some_bytes n rest)
    ∙ ap (λ z. Some z) (to_z-of_z w8 d fits)

number_of_4_read : (d : ℤ) (rest : List ℕ) → FitsSigned w32 d → number_of_4 (four_bytes d ++ rest) ≡ Some d
number_of_4_read d rest fits =
    let n = cast_unsigned w32 d in
    let long : 4 ≤ length (four_bytes d ++ rest) = omega arith in
    let none : Option ℤ = None in
    ap (λ b. cond b none (Some (cast_signed w32 (from_le_bytes w32 (four_bytes d ++ rest))))) (not_below (length (four_bytes d ++ rest)) 4 long)
    ∙ ap (λ m. Some (cast_signed w32 m)) (from_le_bytes-to_le_bytes_4 n (word_of_4 d fits))
    ∙ ap (λ z. Some z) (to_z-of_z w32 d fits)

number_of_8_read : (d : ℤ) (rest : List ℕ) → FitsSigned w64 d → number_of_8 (eight_bytes d ++ rest) ≡ Some d
number_of_8_read d rest fits =
    let n = cast_unsigned w64 d in
    let long : 8 ≤ length (eight_bytes d ++ rest) = omega arith in
    let none : Option ℤ = None in
    ap (λ b. cond b none (Some (cast_signed w64 (from_le_bytes w64 (eight_bytes d ++ rest))))) (not_below (length (eight_bytes d ++ rest)) 8 long)
    ∙ ap (λ m. Some (cast_signed w64 m)) (from_le_bytes-to_le_bytes_8 n (word_of_8 d fits))
    ∙ ap (λ z. Some z) (to_z-of_z w64 d fits)

-- SIB.
abbrev pub sib_bytes : Bool → List ℕ
sib_bytes t = cond t (36 ∷ []) []

abbrev sib_answer : Bool → List ℕ → Option ℕ
sib_answer t bs = cond t (cond (nat_lt (length bs) 1) None (cond (slice_index bs 0 == 36) (Some 1) None)) (Some 0)

sib_of : (t : Bool) (bs : List ℕ) → sib_answer t (sib_bytes t ++ bs) ≡ Some (length (sib_bytes t))
sib_of true bs = let none : Option ℕ = None in ap (λ b. cond b none (Some 1)) (some_bytes 36 bs)
sib_of false bs = refl

sib_read : (b : ℕ) (bs : List ℕ) → sib_size (b % 8) (sib b ++ bs) ≡ Some (length (sib b))
sib_read b bs = sib_of (b % 8 == 4) bs

-- The parts of ModRM, and a register from its bits.
mode_part : (mode r b : ℕ) → modrm mode r b / 64 ≡ mode
mode_part mode r b = omega arith

low_part : (mode r b : ℕ) → modrm mode r b % 8 ≡ b % 8
low_part mode r b = omega arith

reg_part : (mode r b : ℕ) → 8 * (r / 8) + modrm mode r b / 8 % 8 ≡ r
reg_part mode r b = omega arith

register_again : (r : ℕ) → 8 * (r / 8) + r % 8 ≡ r
register_again r = omega arith

abbrev with_operand : ℕ → Arg × ℕ → Option (ℕ × Arg × ℕ)
with_operand r p = Some (r, p.0, p.1 + 1)

-- ModRM is taken apart.
parts_read : (mode r b high : ℕ) (rest : List ℕ) → operand_of (r / 8) high (modrm mode r b ∷ rest) ≡ when_some (arg_of mode high (b % 8) rest) (with_operand r)
unfolding operand_of
parts_read mode r b high rest =
    let x = modrm mode r b in
    let none : Option (ℕ × Arg × ℕ) = None in
    ap (λ t. cond t none (when_some (arg_of (x / 64) high (x % 8) rest) (with_operand (8 * (r / 8) + x / 8 % 8)))) (some_bytes x rest)
    ∙ ap (λ m. when_some (arg_of m high (x % 8) rest) (with_operand (8 * (r / 8) + x / 8 % 8))) (mode_part mode r b)
    ∙ ap (λ m. when_some (arg_of mode high m rest) (with_operand (8 * (r / 8) + x / 8 % 8))) (low_part mode r b)
    ∙ ap (λ n. when_some (arg_of mode high (b % 8) rest) (with_operand n)) (reg_part mode r b)

-- An operand is read as itself, with its register and its length.
operand_read : (m : Arg) (r : ℕ) (rest : List ℕ) → IsArg m → operand_of (r / 8) (high_bit m) (operand r m ++ rest) ≡ Some (r, m, length (operand r m))
operand_read (Reg b) r rest h = parts_read 3 r b (b / 8) rest ∙ ap (λ n. Some (r, Reg n, 1)) (register_again b)
operand_read (Base b) r rest h =
    let none : Option (Arg × ℕ) = None in
    let bs = sib b ++ rest in
    parts_read 0 r b (b / 8) bs
    ∙ ap (λ t. when_some (cond t (cond ((b / 8) == 0) (when_some (number_of_4 bs) (λ d. Some (Rip d, 4))) none) (when_some (sib_size (b % 8) bs) (λ n. Some (Base (8 * (b / 8) + b % 8), n))))
    (with_operand r)) (ne_eqb (b % 8) 5 h.1)
    ∙ ap (λ o. when_some (when_some o (λ n. Some (Base (8 * (b / 8) + b % 8), n))) (with_operand r)) (sib_read b rest)
    ∙ ap (λ n. Some (r, Base n, length (sib b) + 1)) (register_again b)
    ∙ ap (λ n. Some (r, Base b, n)) (add-one (length (sib b)))
operand_read (Base8 b d) r rest h =
    let bs = sib b ++ (one_byte d ++ rest) in
    let near : ℕ → List ℕ → Option (Arg × ℕ) = λ n more. when_some (number_of_1 more) (λ d. Some (Base8 (8 * (b / 8) + b % 8) d, n + 1)) in
    let k = length (sib b) in
    let size : k + 1 + 1 ≡ length (operand r (Base8 b d)) = omega (arith, length-append (sib b) (one_byte d)) in
    ap (λ l. operand_of (r / 8) (b / 8) (modrm 1 r b ∷ l)) (append_assoc (sib b) (one_byte d) rest)
    ∙ parts_read 1 r b (b / 8) bs
    ∙ ap (λ o. when_some (when_some o (λ n. near n (drop n bs))) (with_operand r)) (sib_read b (one_byte d ++ rest))
    ∙ ap (λ more. when_some (near k more) (with_operand r)) (drop_at (sib b) (one_byte d ++ rest) k refl)
    ∙ ap (λ o. when_some (when_some o (λ d. Some (Base8 (8 * (b / 8) + b % 8) d, k + 1))) (with_operand r)) (number_of_1_read d rest h.1)
    ∙ ap (λ n. Some (r, Base8 n d, k + 1 + 1)) (register_again b)
    ∙ ap (λ n. Some (r, Base8 b d, n)) size
operand_read (Base32 b d) r rest h =
    let bs = sib b ++ (four_bytes d ++ rest) in
    let far : ℕ → List ℕ → Option (Arg × ℕ) = λ n more. when_some (number_of_4 more) (λ d. Some (Base32 (8 * (b / 8) + b % 8) d, n + 4)) in
    let k = length (sib b) in
    let size : k + 4 + 1 ≡ length (operand r (Base32 b d)) = omega (arith, length-append (sib b) (four_bytes d)) in
    ap (λ l. operand_of (r / 8) (b / 8) (modrm 2 r b ∷ l)) (append_assoc (sib b) (four_bytes d) rest)
    ∙ parts_read 2 r b (b / 8) bs
    ∙ ap (λ o. when_some (when_some o (λ n. far n (drop n bs))) (with_operand r)) (sib_read b (four_bytes d ++ rest))
    ∙ ap (λ more. when_some (far k more) (with_operand r)) (drop_at (sib b) (four_bytes d ++ rest) k refl)
    ∙ ap (λ o. when_some (when_some o (λ d. Some (Base32 (8 * (b / 8) + b % 8) d, k + 4))) (with_operand r)) (number_of_4_read d rest h.1)
    ∙ ap (λ n. Some (r, Base32 n d, k + 4 + 1)) (register_again b)
    ∙ ap (λ n. Some (r, Base32 b d, n)) size
operand_read (Rip d) r rest h =
    parts_read 0 r 5 0 (four_bytes d ++ rest)
    ∙ ap (λ o. when_some (when_some o (λ d. Some (Rip d, 4))) (with_operand r)) (number_of_4_read d rest h)

high_below : (m : Arg) → IsArg m → high_bit m < 2
high_below (Reg b) h = omega arith
high_below (Base b) h = omega (arith, h.0)
high_below (Base8 b d) h = omega (arith, h.0)
high_below (Base32 b d) h = omega (arith, h.0)
high_below (Rip d) h = omega arith

-- REX is read as its bits, and what follows is read with them.
second_branch : {A : Type 0} (a b c : Bool) (u v w : A) → a ≡ false → b ≡ true → c ≡ true → cond a u (cond (b && c) v w) ≡ v
second_branch a b c u v w p q r = rw (p, q, r) refl

rex_read : (w r high : ℕ) (rest : List ℕ) → w < 2 → r < 16 → high < 2 → decode ((64 + 8 * w + 4 * (r / 8) + high) ∷ rest) ≡ rexed_of w (r / 8) high rest
rex_read w r high rest hw hr hh =
    let x = 64 + 8 * w + 4 * (r / 8) + high in
    let a : x / 16 ≡ 4 = omega arith in
    let m : x / 2 % 2 ≡ 0 = omega arith in
    let e1 : x / 8 % 2 ≡ w = omega arith in
    let e2 : x / 4 % 2 ≡ r / 8 = omega arith in
    let e3 : x % 2 ≡ high = omega arith in
    second_branch (nat_lt (length (x ∷ rest)) 1) (x / 16 == 4) (x / 2 % 2 == 0) _ _ _ (some_bytes x rest) (eq-eqb (x / 16) 4 a) (eq-eqb (x / 2 % 2) 0 m)
    ∙ ap (λ n. rexed_of n (x / 4 % 2) (x % 2) rest) e1
    ∙ ap (λ n. rexed_of w n (x % 2) rest) e2
    ∙ ap (λ n. rexed_of w (r / 8) n rest) e3

full_read : (r high op : ℕ) (rest : List ℕ) → rexed_of 1 r high (op ∷ rest) ≡ full_of r high (op ∷ rest)
unfolding rexed_of
full_read r high op rest = let none : Option (Insn × ℕ) = None in ap (λ b. cond b none (full_of r high (op ∷ rest))) (some_bytes op rest)

-- The forms with W and an opcode of one byte.
last_branch : {A : Type 0} (a b c : Bool) (u v w x : A) → a ≡ false → b ≡ false → c ≡ false → cond a u (cond b v (cond c w x)) ≡ x
last_branch a b c u v w x p q r = rw (p, q, r) refl

wide_read : (op : ℕ) (m : Arg) (r : ℕ) (rest : List ℕ) → (op / 8 == 23) ≡ false → (op == 153) ≡ false → (op == 15) ≡ false → IsArg m → r < 16
    → decode (wide op r m ++ rest) ≡ wide_of op r m (length (operand r m) + 2) rest
wide_read op m r rest e1 e2 e3 h hr =
    let bs = operand r m ++ rest in
    let k = length (operand r m) in
    rex_read 1 r (high_bit m) (op ∷ bs) (omega arith) hr (high_below m h)
    ∙ full_read (r / 8) (high_bit m) op bs
    ∙ last_branch (op / 8 == 23) (op == 153) (op == 15) _ _ _ _ e1 e2 e3
    ∙ ap (λ o. when_some o (λ p. wide_of op p.0 p.1 (p.2 + 2) (drop (p.2 + 1) (op ∷ bs)))) (operand_read m r rest h)
    ∙ ap (λ l. wide_of op r m (k + 2) l) (drop_1 k op bs ∙ drop_at (operand r m) rest k refl)

sized : (i : Insn) {a b : ℕ} → a ≡ b → answer i a ≡ answer i b
sized i e = ap (answer i) e

-- Lengths.
plus_2 : (n : ℕ) → n + 2 ≡ suc (suc n)
plus_2 n = omega arith

plus_3 : (n : ℕ) → n + 3 ≡ suc (suc (suc n))
plus_3 n = omega arith

-- A form that ends with a number or a count.
ended : (i : Insn) (op d : ℕ) (m : Arg) (tail rest : List ℕ) → spelling i ≡ wide op d m ++ tail → (op / 8 == 23) ≡ false → (op == 153) ≡ false → (op == 15) ≡ false → d < 16 → IsArg m
    → wide_of op d m (length (operand d m) + 2) (tail ++ rest) ≡ Some (i, length (operand d m) + 2 + length tail) → decode (spelling i ++ rest) ≡ Some (i, length (spelling i))
ended i op d m tail rest s e1 e2 e3 low h go =
    let size : length (operand d m) + 2 + length tail ≡ length (wide op d m ++ tail) = omega (arith, length-append (wide op d m) tail) in
    ap (λ l. decode (l ++ rest)) s
    ∙ ap decode (append_assoc (wide op d m) tail rest)
    ∙ wide_read op m d (tail ++ rest) e1 e2 e3 h low
    ∙ go
    ∙ sized i (size ∙ ap length (sym s))

not_above_63 : (k : ℕ) → k < 64 → nat_lt 63 k ≡ false
not_above_63 k h = grind (arith, nat_tests)

count_read : (k : ℕ) (rest : List ℕ) → k < 64 → count_of (k ∷ rest) ≡ Some k
count_read k rest h =
    let none : Option ℕ = None in
    ap (λ b. cond b none (cond (nat_lt 63 k) none (Some k))) (some_bytes k rest)
    ∙ ap (λ b. cond b none (Some k)) (not_above_63 k h)

-- What begins with 0F.
escape_read : (x : ℕ) (bs : List ℕ) → decode (15 ∷ x ∷ bs) ≡ escaped_of (x ∷ bs)
escape_read x bs = let none : Option (Insn × ℕ) = None in ap (λ b. cond b none (escaped_of (x ∷ bs))) (some_bytes 15 (x ∷ bs))

-- The opcode of a jump with a condition, and where it stands alone.
jump_op : (high c : ℕ) → IsCondition c → is_jump_if high (16 * high + c) ≡ true
jump_op high c h =
    let top : (16 * high + c) / 16 ≡ high = omega (arith, h.0) in
    let low : (16 * high + c) % 16 ≡ c = omega (arith, h.0) in
    ap (λ n. (n == high) && not ((16 * high + c) % 16 == 10) && not ((16 * high + c) % 16 == 11)) top
    ∙ ap (λ n. (high == high) && not (n == 10) && not (n == 11)) low
    ∙ ap (λ t. t && not (c == 10) && not (c == 11)) (eq-eqb high high refl)
    ∙ ap (λ t. not t && not (c == 11)) (ne_eqb c 10 h.1)
    ∙ ap (λ t. not t) (ne_eqb c 11 h.2)

seventh_branch : {A : Type 0} (a b c d e f g : Bool) (t u v w x y z : A) → a ≡ false → b ≡ false → d ≡ false → e ≡ false → f ≡ false → g ≡ true
    → cond a t (cond (b && c) u (cond d v (cond e w (cond f x (cond g y z))))) ≡ y
seventh_branch a b c d e f g t u v w x y z p q r s k l = rw (p, q, r, s, k, l) refl

-- The law, one case for each form.
pub decode_spelling : (i : Insn) (rest : List ℕ) → IsValid i → decode (spelling i ++ rest) ≡ Some (i, length (spelling i))
unfolding wide_of narrow_of long_of rexed_of escaped_of
decode_spelling (AddTo m r) rest h = wide_read 1 m r rest refl refl refl h.0 h.1 ∙ sized (AddTo m r) (plus_2 (length (operand r m)))
decode_spelling (OrTo m r) rest h = wide_read 9 m r rest refl refl refl h.0 h.1 ∙ sized (OrTo m r) (plus_2 (length (operand r m)))
decode_spelling (AndTo m r) rest h = wide_read 33 m r rest refl refl refl h.0 h.1 ∙ sized (AndTo m r) (plus_2 (length (operand r m)))
decode_spelling (SubTo m r) rest h = wide_read 41 m r rest refl refl refl h.0 h.1 ∙ sized (SubTo m r) (plus_2 (length (operand r m)))
decode_spelling (XorTo m r) rest h = wide_read 49 m r rest refl refl refl h.0 h.1 ∙ sized (XorTo m r) (plus_2 (length (operand r m)))
decode_spelling (CmpTo m r) rest h = wide_read 57 m r rest refl refl refl h.0 h.1 ∙ sized (CmpTo m r) (plus_2 (length (operand r m)))
decode_spelling (TestTo m r) rest h = wide_read 133 m r rest refl refl refl h.0 h.1 ∙ sized (TestTo m r) (plus_2 (length (operand r m)))
decode_spelling (MovTo m r) rest h = wide_read 137 m r rest refl refl refl h.0 h.1 ∙ sized (MovTo m r) (plus_2 (length (operand r m)))
decode_spelling (AddFrom r m) rest h = wide_read 3 m r rest refl refl refl h.0 h.1 ∙ sized (AddFrom r m) (plus_2 (length (operand r m)))
decode_spelling (OrFrom r m) rest h = wide_read 11 m r rest refl refl refl h.0 h.1 ∙ sized (OrFrom r m) (plus_2 (length (operand r m)))
decode_spelling (AndFrom r m) rest h = wide_read 35 m r rest refl refl refl h.0 h.1 ∙ sized (AndFrom r m) (plus_2 (length (operand r m)))
decode_spelling (SubFrom r m) rest h = wide_read 43 m r rest refl refl refl h.0 h.1 ∙ sized (SubFrom r m) (plus_2 (length (operand r m)))
decode_spelling (XorFrom r m) rest h = wide_read 51 m r rest refl refl refl h.0 h.1 ∙ sized (XorFrom r m) (plus_2 (length (operand r m)))
decode_spelling (CmpFrom r m) rest h = wide_read 59 m r rest refl refl refl h.0 h.1 ∙ sized (CmpFrom r m) (plus_2 (length (operand r m)))
decode_spelling (MovFrom r m) rest h = wide_read 139 m r rest refl refl refl h.0 h.1 ∙ sized (MovFrom r m) (plus_2 (length (operand r m)))
decode_spelling (Lea r m) rest h = wide_read 141 m r rest refl refl refl h.0 h.1 ∙ ap (λ b. when_some (cond b (Some (Lea r m)) None) (λ i. Some (i, length (operand r m) + 2))) h.2
    ∙ sized (Lea r m) (plus_2 (length (operand r m)))
decode_spelling (AddNumber m n) rest h = ended (AddNumber m n) 129 0 m (four_bytes n) rest refl refl refl refl (omega arith) h.0
    (ap (λ o. when_some o (λ n. Some (AddNumber m n, length (operand 0 m) + 2 + 4))) (number_of_4_read n rest h.1))
decode_spelling (OrNumber m n) rest h = ended (OrNumber m n) 129 1 m (four_bytes n) rest refl refl refl refl (omega arith) h.0
    (ap (λ o. when_some o (λ n. Some (OrNumber m n, length (operand 1 m) + 2 + 4))) (number_of_4_read n rest h.1))
decode_spelling (AndNumber m n) rest h = ended (AndNumber m n) 129 4 m (four_bytes n) rest refl refl refl refl (omega arith) h.0
    (ap (λ o. when_some o (λ n. Some (AndNumber m n, length (operand 4 m) + 2 + 4))) (number_of_4_read n rest h.1))
decode_spelling (SubNumber m n) rest h = ended (SubNumber m n) 129 5 m (four_bytes n) rest refl refl refl refl (omega arith) h.0
    (ap (λ o. when_some o (λ n. Some (SubNumber m n, length (operand 5 m) + 2 + 4))) (number_of_4_read n rest h.1))
decode_spelling (XorNumber m n) rest h = ended (XorNumber m n) 129 6 m (four_bytes n) rest refl refl refl refl (omega arith) h.0
    (ap (λ o. when_some o (λ n. Some (XorNumber m n, length (operand 6 m) + 2 + 4))) (number_of_4_read n rest h.1))
decode_spelling (CmpNumber m n) rest h = ended (CmpNumber m n) 129 7 m (four_bytes n) rest refl refl refl refl (omega arith) h.0
    (ap (λ o. when_some o (λ n. Some (CmpNumber m n, length (operand 7 m) + 2 + 4))) (number_of_4_read n rest h.1))
decode_spelling (AddNumber8 m n) rest h = ended (AddNumber8 m n) 131 0 m (one_byte n) rest refl refl refl refl (omega arith) h.0
    (ap (λ o. when_some o (λ n. Some (AddNumber8 m n, length (operand 0 m) + 2 + 1))) (number_of_1_read n rest h.1))
decode_spelling (OrNumber8 m n) rest h = ended (OrNumber8 m n) 131 1 m (one_byte n) rest refl refl refl refl (omega arith) h.0
    (ap (λ o. when_some o (λ n. Some (OrNumber8 m n, length (operand 1 m) + 2 + 1))) (number_of_1_read n rest h.1))
decode_spelling (AndNumber8 m n) rest h = ended (AndNumber8 m n) 131 4 m (one_byte n) rest refl refl refl refl (omega arith) h.0
    (ap (λ o. when_some o (λ n. Some (AndNumber8 m n, length (operand 4 m) + 2 + 1))) (number_of_1_read n rest h.1))
decode_spelling (SubNumber8 m n) rest h = ended (SubNumber8 m n) 131 5 m (one_byte n) rest refl refl refl refl (omega arith) h.0
    (ap (λ o. when_some o (λ n. Some (SubNumber8 m n, length (operand 5 m) + 2 + 1))) (number_of_1_read n rest h.1))
decode_spelling (XorNumber8 m n) rest h = ended (XorNumber8 m n) 131 6 m (one_byte n) rest refl refl refl refl (omega arith) h.0
    (ap (λ o. when_some o (λ n. Some (XorNumber8 m n, length (operand 6 m) + 2 + 1))) (number_of_1_read n rest h.1))
decode_spelling (CmpNumber8 m n) rest h = ended (CmpNumber8 m n) 131 7 m (one_byte n) rest refl refl refl refl (omega arith) h.0
    (ap (λ o. when_some o (λ n. Some (CmpNumber8 m n, length (operand 7 m) + 2 + 1))) (number_of_1_read n rest h.1))
decode_spelling (MovNumber m n) rest h = ended (MovNumber m n) 199 0 m (four_bytes n) rest refl refl refl refl (omega arith) h.0
    (ap (λ o. when_some o (λ n. Some (MovNumber m n, length (operand 0 m) + 2 + 4))) (number_of_4_read n rest h.1))
decode_spelling (Shl m k) rest h = ended (Shl m k) 193 4 m (k ∷ []) rest refl refl refl refl (omega arith) h.0 (ap (λ o. when_some o (λ n. Some (Shl m n, length (operand 4 m) + 2 + 1))) (count_read k rest h.1))
decode_spelling (Shr m k) rest h = ended (Shr m k) 193 5 m (k ∷ []) rest refl refl refl refl (omega arith) h.0 (ap (λ o. when_some o (λ n. Some (Shr m n, length (operand 5 m) + 2 + 1))) (count_read k rest h.1))
decode_spelling (Sar m k) rest h = ended (Sar m k) 193 7 m (k ∷ []) rest refl refl refl refl (omega arith) h.0 (ap (λ o. when_some o (λ n. Some (Sar m n, length (operand 7 m) + 2 + 1))) (count_read k rest h.1))
decode_spelling (Neg m) rest h = wide_read 247 m 3 rest refl refl refl h (omega arith) ∙ sized (Neg m) (plus_2 (length (operand 3 m)))
decode_spelling (Idiv m) rest h = wide_read 247 m 7 rest refl refl refl h (omega arith) ∙ sized (Idiv m) (plus_2 (length (operand 7 m)))
decode_spelling (Imul r m) rest h =
    let bs = operand r m ++ rest in
    let none : Option (Insn × ℕ) = None in
    rex_read 1 r (high_bit m) (15 ∷ 175 ∷ bs) (omega arith) h.1 (high_below m h.0)
    ∙ full_read (r / 8) (high_bit m) 15 (175 ∷ bs)
    ∙ ap (λ b. cond b none (when_some (operand_of (r / 8) (high_bit m) bs) (λ p. Some (Imul p.0 p.1, p.2 + 3)))) (some_bytes 175 bs)
    ∙ ap (λ o. when_some o (λ p. Some (Imul p.0 p.1, p.2 + 3))) (operand_read m r rest h.0)
    ∙ sized (Imul r m) (plus_3 (length (operand r m)))
decode_spelling (LoadByte r m) rest h =
    let bs = operand r m ++ rest in
    let none : Option (Insn × ℕ) = None in
    rex_read 1 r (high_bit m) (15 ∷ 182 ∷ bs) (omega arith) h.1 (high_below m h.0)
    ∙ full_read (r / 8) (high_bit m) 15 (182 ∷ bs)
    ∙ ap (λ b. cond b none (when_some (operand_of (r / 8) (high_bit m) bs) (λ p. cond (in_memory p.1) (Some (LoadByte p.0 p.1, p.2 + 3)) none))) (some_bytes 182 bs)
    ∙ ap (λ o. when_some o (λ p. cond (in_memory p.1) (Some (LoadByte p.0 p.1, p.2 + 3)) none)) (operand_read m r rest h.0)
    ∙ ap (λ b. cond b (Some (LoadByte r m, length (operand r m) + 3)) none) h.2
    ∙ sized (LoadByte r m) (plus_3 (length (operand r m)))
decode_spelling (StoreByte m r) rest h =
    let bs = operand r m ++ rest in
    let none : Option (Insn × ℕ) = None in
    rex_read 0 r (high_bit m) (136 ∷ bs) (omega arith) h.1 (high_below m h.0)
    ∙ ap (λ b. cond b none (when_some (operand_of (r / 8) (high_bit m) bs) (λ p. cond (in_memory p.1) (Some (StoreByte p.1 p.0, p.2 + 2)) none))) (some_bytes 136 bs)
    ∙ ap (λ o. when_some o (λ p. cond (in_memory p.1) (Some (StoreByte p.1 p.0, p.2 + 2)) none)) (operand_read m r rest h.0)
    ∙ ap (λ b. cond b (Some (StoreByte m r, length (operand r m) + 2)) none) h.2
    ∙ sized (StoreByte m r) (plus_2 (length (operand r m)))
decode_spelling (JumpTo m) rest h =
    let bs = operand 4 m ++ rest in
    let none : Option (Insn × ℕ) = None in
    rex_read 0 4 (high_bit m) (255 ∷ bs) (omega arith) (omega arith) (high_below m h)
    ∙ ap (λ b. cond b none (when_some (operand_of (4 / 8) (high_bit m) bs) (λ p. cond (p.0 == 4) (Some (JumpTo p.1, p.2 + 2)) none))) (some_bytes 255 bs)
    ∙ ap (λ o. when_some o (λ p. cond (p.0 == 4) (Some (JumpTo p.1, p.2 + 2)) none)) (operand_read m 4 rest h)
    ∙ sized (JumpTo m) (plus_2 (length (operand 4 m)))
decode_spelling (MovWord r n) rest h =
    let op = 184 + r % 8 in
    let high : r / 8 < 2 = omega (arith, h.0) in
    let bs = eight_bytes n ++ rest in
    let o : op / 8 ≡ 23 = omega arith in
    let same : 8 * (r / 8) + op % 8 ≡ r = omega arith in
    let other : Option (Insn × ℕ) = cond (op == 153) (cond (((0 / 8) == 0) && ((r / 8) == 0)) (Some (Cqo, 2)) None)
    (cond (op == 15) (long_of 0 (r / 8) bs) (when_some (operand_of 0 (r / 8) bs) (λ p. wide_of op p.0 p.1 (p.2 + 2) (drop (p.2 + 1) (op ∷ bs))))) in
    rex_read 1 0 (r / 8) (op ∷ bs) (omega arith) (omega arith) high
    ∙ full_read 0 (r / 8) op bs
    ∙ ap (λ b. cond b (whole_word_of 0 (8 * (r / 8) + op % 8) bs) other) (eq-eqb (op / 8) 23 o)
    ∙ ap (λ o. when_some o (λ n. Some (MovWord (8 * (r / 8) + op % 8) n, 10))) (number_of_8_read n rest h.1)
    ∙ ap (λ k. Some (MovWord k n, 10)) same
decode_spelling Cqo rest h = rex_read 1 0 0 (153 ∷ rest) (omega arith) (omega arith) (omega arith) ∙ full_read 0 0 153 rest
decode_spelling (Jump d) rest h =
    let none : Option (Insn × ℕ) = None in
    ap (λ b. cond b none (when_some (number_of_4 (four_bytes d ++ rest)) (λ d. Some (Jump d, 1 + 4)))) (some_bytes 233 (four_bytes d ++ rest))
    ∙ ap (λ o. when_some o (λ d. Some (Jump d, 1 + 4))) (number_of_4_read d rest h)
decode_spelling (Jump8 d) rest h =
    let none : Option (Insn × ℕ) = None in
    ap (λ b. cond b none (when_some (number_of_1 (one_byte d ++ rest)) (λ d. Some (Jump8 d, 1 + 1)))) (some_bytes 235 (one_byte d ++ rest))
    ∙ ap (λ o. when_some o (λ d. Some (Jump8 d, 1 + 1))) (number_of_1_read d rest h)
decode_spelling (JumpIf c d) rest h =
    let none : Option (Insn × ℕ) = None in
    let x = 128 + c in
    let bs = four_bytes d ++ rest in
    let five : x ≢ 5 = omega arith in
    let same : x % 16 ≡ c = omega (arith, h.0.0) in
    let jump : Option (Insn × ℕ) = when_some (number_of_4 bs) (λ d. Some (JumpIf (x % 16) d, 2 + 4)) in
    escape_read x bs
    ∙ ap (λ b. cond b none (cond (x == 5) (Some (Syscall, 2)) (cond (is_jump_if 8 x) jump none))) (some_bytes x bs)
    ∙ ap (λ b. cond b (Some (Syscall, 2)) (cond (is_jump_if 8 x) jump none)) (ne_eqb x 5 five)
    ∙ ap (λ b. cond b jump none) (jump_op 8 c h.0)
    ∙ ap (λ o. when_some o (λ d. Some (JumpIf (x % 16) d, 2 + 4))) (number_of_4_read d rest h.1)
    ∙ ap (λ k. Some (JumpIf k d, 6)) same
decode_spelling (JumpIf8 c d) rest h =
    let x = 112 + c in
    let bs = one_byte d ++ rest in
    let same : x % 16 ≡ c = omega (arith, h.0.0) in
    let rex : x / 16 ≢ 4 = omega (arith, h.0.0) in
    let escape : x ≢ 15 = omega arith in
    let long : x ≢ 233 = omega (arith, h.0.0) in
    let short : x ≢ 235 = omega (arith, h.0.0) in
    seventh_branch (nat_lt (length (x ∷ bs)) 1) (x / 16 == 4) (x / 2 % 2 == 0) (x == 15) (x == 233) (x == 235) (is_jump_if 7 x) _ _ _ _ _ _ _
    (some_bytes x bs) (ne_eqb (x / 16) 4 rex) (ne_eqb x 15 escape) (ne_eqb x 233 long) (ne_eqb x 235 short) (jump_op 7 c h.0)
    ∙ ap (λ o. when_some o (λ d. Some (JumpIf8 (x % 16) d, 1 + 1))) (number_of_1_read d rest h.1)
    ∙ ap (λ k. Some (JumpIf8 k d, 2)) same
decode_spelling Syscall rest h =
    let none : Option (Insn × ℕ) = None in
    escape_read 5 rest ∙ ap (λ b. cond b none (Some (Syscall, 2))) (some_bytes 5 rest)
