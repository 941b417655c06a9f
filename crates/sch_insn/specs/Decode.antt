-- Reading an instruction: the instruction that a list of bytes begins with, and how many bytes it
-- takes. The laws of `spelling` say that this is its inverse.
use Rattle.std.specs.Prelude.{Bool, ℕ, ◌+◌, ◌*◌, ◌/◌, ◌%◌, List, length, drop, ◌&&◌, not, nat_lt, ◌==◌, Option, Some, None, ℤ, if◌then◌else◌, slice_index}
use Rattle.std.specs.Int.{w8, w32, w64, cast_signed, from_le_bytes}
use Rattle.sch_word.specs.values.Options.{when_some}
use Rattle.sch_insn.specs.declared.insn.Arg.{Arg}
use Rattle.sch_insn.specs.declared.insn.Arg.TheVariants.{Reg, Base, Base8, Base32, Rip}
use Rattle.sch_insn.specs.declared.insn.Insn.{Insn}
use Rattle.sch_insn.specs.declared.insn.Insn.TheVariants.{MovTo, MovFrom, MovNumber, MovWord, StoreByte, LoadByte, Lea, AddTo, OrTo, AndTo, SubTo, XorTo, CmpTo}
use Rattle.sch_insn.specs.declared.insn.Insn.TheVariants.{AddFrom, OrFrom, AndFrom, SubFrom, XorFrom, CmpFrom, AddNumber, OrNumber, AndNumber, SubNumber}
use Rattle.sch_insn.specs.declared.insn.Insn.TheVariants.{XorNumber, CmpNumber, AddNumber8, OrNumber8, AndNumber8, SubNumber8, XorNumber8, CmpNumber8}
use Rattle.sch_insn.specs.declared.insn.Insn.TheVariants.{TestTo, Imul, Neg, Idiv, Cqo, Shl, Shr, Sar, Jump, Jump8, JumpTo, JumpIf, JumpIf8, Syscall}
use Rattle.sch_insn.specs.Spelling.{in_memory}

abbrev pub number_of_1 : List ℕ → Option ℤ
number_of_1 bs = if nat_lt (length bs) 1 then None else Some (cast_signed w8 (slice_index bs 0))

abbrev pub number_of_4 : List ℕ → Option ℤ
number_of_4 bs = if nat_lt (length bs) 4 then None else Some (cast_signed w32 (from_le_bytes w32 bs))

abbrev pub number_of_8 : List ℕ → Option ℤ
number_of_8 bs = if nat_lt (length bs) 8 then None else Some (cast_signed w64 (from_le_bytes w64 bs))

-- How many bytes SIB takes after ModRM with these low bits.
abbrev pub sib_size : ℕ → List ℕ → Option ℕ
sib_size low bs =
    if low == 4 then (if nat_lt (length bs) 1 then None else if slice_index bs 0 == 0x24 then Some 1 else None)
    else Some 0

-- An operand at a base register: with a displacement of four bytes, with one of one byte, and with none; and
-- how many bytes it takes after ModRM with these low bits.
abbrev pub at_base_32_of : ℕ → ℕ → List ℕ → Option (Arg × ℕ)
at_base_32_of base low bs = when_some (sib_size low bs) (λ n. when_some (number_of_4 (drop n bs)) (λ d. Some (Base32 base d, n + 4)))

abbrev pub at_base_8_of : ℕ → ℕ → List ℕ → Option (Arg × ℕ)
at_base_8_of base low bs = when_some (sib_size low bs) (λ n. when_some (number_of_1 (drop n bs)) (λ d. Some (Base8 base d, n + 1)))

abbrev pub at_base_of : ℕ → ℕ → List ℕ → Option (Arg × ℕ)
at_base_of base low bs = when_some (sib_size low bs) (λ n. Some (Base base, n))

-- An operand relative to RIP. The bit B is 0.
abbrev pub at_rip_of : ℕ → List ℕ → Option (Arg × ℕ)
at_rip_of b bs = if b == 0 then when_some (number_of_4 bs) (λ d. Some (Rip d, 4)) else None

-- The operand of a mode, the bit B and low bits, and how many bytes it takes after ModRM.
abbrev pub arg_of : ℕ → ℕ → ℕ → List ℕ → Option (Arg × ℕ)
arg_of mode b low bs =
    if mode == 3 then Some (Reg (8 * b + low), 0)
    else if mode == 2 then at_base_32_of (8 * b + low) low bs
    else if mode == 1 then at_base_8_of (8 * b + low) low bs
    else if low == 5 then at_rip_of b bs
    else at_base_of (8 * b + low) low bs

-- The register of the form, the operand, and how many bytes they take, from ModRM on. The bits R and B
-- come from REX.
unfoldable pub operand_of : ℕ → ℕ → List ℕ → Option (ℕ × Arg × ℕ)
operand_of r b bs =
    if nat_lt (length bs) 1 then None
    else when_some (arg_of (slice_index bs 0 / 64) b (slice_index bs 0 % 8) (drop 1 bs)) (λ p. Some (8 * r + slice_index bs 0 / 8 % 8, p.0, p.1 + 1))

-- A count of a shift: one byte, below 64.
abbrev pub count_of : List ℕ → Option ℕ
count_of bs = if nat_lt (length bs) 1 then None else if nat_lt 63 (slice_index bs 0) then None else Some (slice_index bs 0)

-- A form that ends in a number of four bytes, in one of one byte, or in a count, behind k bytes.
abbrev pub with_number_of_4 : (ℤ → Option Insn) → ℕ → List ℕ → Option (Insn × ℕ)
with_number_of_4 form k bs = when_some (number_of_4 bs) (λ n. when_some (form n) (λ i. Some (i, k + 4)))

abbrev pub with_number_of_1 : (ℤ → Option Insn) → ℕ → List ℕ → Option (Insn × ℕ)
with_number_of_1 form k bs = when_some (number_of_1 bs) (λ n. when_some (form n) (λ i. Some (i, k + 1)))

abbrev pub with_count : (ℕ → Option Insn) → ℕ → List ℕ → Option (Insn × ℕ)
with_count form k bs = when_some (count_of bs) (λ n. when_some (form n) (λ i. Some (i, k + 1)))

-- The forms that the register field of ModRM tells apart: those with a number, of four bytes or of one, and shifts.
abbrev pub number_form_of_4 : ℕ → Arg → ℤ → Option Insn
number_form_of_4 r m n =
    if r == 0 then Some (AddNumber m n)
    else if r == 1 then Some (OrNumber m n)
    else if r == 4 then Some (AndNumber m n)
    else if r == 5 then Some (SubNumber m n)
    else if r == 6 then Some (XorNumber m n)
    else if r == 7 then Some (CmpNumber m n)
    else None

abbrev pub number_form_of_1 : ℕ → Arg → ℤ → Option Insn
number_form_of_1 r m n =
    if r == 0 then Some (AddNumber8 m n)
    else if r == 1 then Some (OrNumber8 m n)
    else if r == 4 then Some (AndNumber8 m n)
    else if r == 5 then Some (SubNumber8 m n)
    else if r == 6 then Some (XorNumber8 m n)
    else if r == 7 then Some (CmpNumber8 m n)
    else None

abbrev pub shift_form : ℕ → Arg → ℕ → Option Insn
shift_form r m n =
    if r == 4 then Some (Shl m n)
    else if r == 5 then Some (Shr m n)
    else if r == 7 then Some (Sar m n)
    else None

-- `mov` of a number into an operand, for which that field is 0.
abbrev pub mov_number_of : ℕ → Arg → ℕ → List ℕ → Option (Insn × ℕ)
mov_number_of r m k bs = if r == 0 then with_number_of_4 (λ n. Some (MovNumber m n)) k bs else None

-- The form of an opcode of one byte with W that ends with its operand.
abbrev pub plain_form : ℕ → ℕ → Arg → Option Insn
plain_form op r m =
    if op == 0x01 then Some (AddTo m r)
    else if op == 0x03 then Some (AddFrom r m)
    else if op == 0x09 then Some (OrTo m r)
    else if op == 0x0B then Some (OrFrom r m)
    else if op == 0x21 then Some (AndTo m r)
    else if op == 0x23 then Some (AndFrom r m)
    else if op == 0x29 then Some (SubTo m r)
    else if op == 0x2B then Some (SubFrom r m)
    else if op == 0x31 then Some (XorTo m r)
    else if op == 0x33 then Some (XorFrom r m)
    else if op == 0x39 then Some (CmpTo m r)
    else if op == 0x3B then Some (CmpFrom r m)
    else if op == 0x85 then Some (TestTo m r)
    else if op == 0x89 then Some (MovTo m r)
    else if op == 0x8B then Some (MovFrom r m)
    else if (op == 0x8D) && in_memory m then Some (Lea r m)
    else if (op == 0xF7) && (r == 3) then Some (Neg m)
    else if (op == 0xF7) && (r == 7) then Some (Idiv m)
    else None

-- The form of an opcode of one byte with W, where k bytes stand before its number.
unfoldable pub wide_of : ℕ → ℕ → Arg → ℕ → List ℕ → Option (Insn × ℕ)
wide_of op r m k bs =
    if op == 0x81 then with_number_of_4 (number_form_of_4 r m) k bs
    else if op == 0x83 then with_number_of_1 (number_form_of_1 r m) k bs
    else if op == 0xC1 then with_count (shift_form r m) k bs
    else if op == 0xC7 then mov_number_of r m k bs
    else when_some (plain_form op r m) (λ i. Some (i, k))

-- The forms without W.
unfoldable pub narrow_of : ℕ → ℕ → ℕ → List ℕ → Option (Insn × ℕ)
narrow_of op r b bs =
    when_some (operand_of r b bs) (λ p.
    if (op == 0x88) && in_memory p.1 then Some (StoreByte p.1 p.0, p.2 + 2)
    else if (op == 0xFF) && (p.0 == 4) then Some (JumpTo p.1, p.2 + 2)
    else None)

-- The forms with W and an opcode that begins with 0F.
unfoldable pub long_of : ℕ → ℕ → List ℕ → Option (Insn × ℕ)
long_of r b bs =
    if nat_lt (length bs) 1 then None
    else when_some (operand_of r b (drop 1 bs)) (λ p.
    if (slice_index bs 0 == 0xB6) && in_memory p.1 then Some (LoadByte p.0 p.1, p.2 + 3)
    else if slice_index bs 0 == 0xAF then Some (Imul p.0 p.1, p.2 + 3)
    else None)

-- `mov` of a whole word into a register, whose low bits stand in the opcode. The bit R is 0.
abbrev pub whole_word_of : ℕ → ℕ → List ℕ → Option (Insn × ℕ)
whole_word_of r register bs = if r == 0 then when_some (number_of_8 bs) (λ n. Some (MovWord register n, 10)) else None

-- The form with W that has no operand. The bits R and B are 0.
abbrev pub without_operand_of : ℕ → ℕ → Option (Insn × ℕ)
without_operand_of r b = if (r == 0) && (b == 0) then Some (Cqo, 2) else None

-- What stands after REX with W.
abbrev pub full_of : ℕ → ℕ → List ℕ → Option (Insn × ℕ)
full_of r b bs =
    if slice_index bs 0 / 8 == 0xB8 / 8 then whole_word_of r (8 * b + slice_index bs 0 % 8) (drop 1 bs)
    else if slice_index bs 0 == 0x99 then without_operand_of r b
    else if slice_index bs 0 == 0x0F then long_of r b (drop 1 bs)
    else when_some (operand_of r b (drop 1 bs)) (λ p. wide_of (slice_index bs 0) p.0 p.1 (p.2 + 2) (drop (p.2 + 1) bs))

-- What stands after REX with the bits W, R and B.
unfoldable pub rexed_of : ℕ → ℕ → ℕ → List ℕ → Option (Insn × ℕ)
rexed_of w r b bs =
    if nat_lt (length bs) 1 then None
    else if w == 0 then narrow_of (slice_index bs 0) r b (drop 1 bs)
    else full_of r b bs

-- Whether a byte is the opcode of a jump with a condition, in whose low half the condition's number stands:
-- with the high half 8 behind 0F, and with 7 alone.
abbrev pub is_jump_if : ℕ → ℕ → Bool
is_jump_if high op = (op / 16 == high) && not (op % 16 == 10) && not (op % 16 == 11)

-- What stands after a first byte 0F.
unfoldable pub escaped_of : List ℕ → Option (Insn × ℕ)
escaped_of bs =
    if nat_lt (length bs) 1 then None
    else if slice_index bs 0 == 0x05 then Some (Syscall, 2)
    else if is_jump_if 8 (slice_index bs 0) then with_number_of_4 (λ d. Some (JumpIf (slice_index bs 0 % 16) d)) 2 (drop 1 bs)
    else None

-- A jump whose opcode is the first byte.
abbrev pub jump_of : ℕ → List ℕ → Option (Insn × ℕ)
jump_of op bs =
    if op == 0xE9 then with_number_of_4 (λ d. Some (Jump d)) 1 bs
    else if op == 0xEB then with_number_of_1 (λ d. Some (Jump8 d)) 1 bs
    else if is_jump_if 7 op then with_number_of_1 (λ d. Some (JumpIf8 (op % 16) d)) 1 bs
    else None

-- Whether a byte is REX with the bit X 0.
abbrev pub is_rex : ℕ → Bool
is_rex first = (first / 16 == 4) && (first / 2 % 2 == 0)

abbrev pub decode : List ℕ → Option (Insn × ℕ)
decode bs =
    if nat_lt (length bs) 1 then None
    else if is_rex (slice_index bs 0) then rexed_of (slice_index bs 0 / 8 % 2) (slice_index bs 0 / 4 % 2) (slice_index bs 0 % 2) (drop 1 bs)
    else if slice_index bs 0 == 0x0F then escaped_of (drop 1 bs)
    else jump_of (slice_index bs 0) (drop 1 bs)
