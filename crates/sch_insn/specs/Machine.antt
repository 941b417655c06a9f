-- The state of a machine: registers, flags, the address of the next instruction and memory, and the
-- outside: what it wrote, and what the kernel still has for it.
-- Source: Intel SDM, volume 1, section 3.4 (basic program execution registers).
use Rattle.std.specs.Prelude.{slice_index, ℕ, ◌+◌, ◌-◌, ◌*◌, ◌/◌, ◌%◌, ◌^◌, List, [], ◌∷◌, ◌++◌, length, take, drop, Bool, true, false, cond, ◌&&◌, ◌||◌, not}
use Rattle.std.specs.Prelude.{nat_lt, nat_le, ◌==◌, Option, Some, None, ℤ, Result, Ok, Err, if◌then◌else◌}
use Rattle.std.specs.Int.{w64, cast_unsigned, to_le_bytes, from_le_bytes}
use Rattle.sch_word.specs.values.Memory.{Segment}
use Rattle.sch_word.specs.declared.answer.Answer.{Answer}
use Rattle.sch_word.specs.values.Options.{first_or_0, when_ok}
use Rattle.sch_insn.specs.declared.insn.Arg.{Arg}
use Rattle.sch_insn.specs.declared.insn.Arg.TheVariants.{Reg, Base, Base8, Base32, Rip}
use Rattle.sch_insn.specs.declared.state.Flags.{Flags}
use Rattle.sch_insn.specs.declared.state.Regs.{Regs}
use Rattle.sch_insn.specs.declared.state.StuckCause.{StuckCause}
use Rattle.sch_insn.specs.declared.state.StuckCause.TheVariants.{Access}
use Rattle.sch_insn.specs.declared.condition.TheConstants.{O, B, E, BE, S, L, LE}

-- The words of the sixteen registers, by their numbers; the flags; the address of the instruction that
-- comes next; and memory.
pub record Core : Type 0 where
  pub registers : ℕ → ℕ
  pub flags : Flags
  pub place : ℕ
  pub segments : List Segment

-- A core, the bytes written so far, the answers that the kernel has left, and the words that it has left
-- for registers whose new word no program may rely on.
pub record State : Type 0 where
  pub core : Core
  pub output : List ℕ
  pub answers : List Answer
  pub spare : List ℕ

-- ---- the parts of a core

abbrev pub set_register : (ℕ → ℕ) → ℕ → ℕ → (ℕ → ℕ)
set_register registers r v = λ k. cond (k == r) v (registers k)

abbrev pub with_register : ℕ → ℕ → Core → Core
with_register r v c = record { registers = set_register c.registers r v; flags = c.flags; place = c.place; segments = c.segments }

abbrev pub with_flags : Flags → Core → Core
with_flags f c = record { registers = c.registers; flags = f; place = c.place; segments = c.segments }

abbrev pub with_place : ℕ → Core → Core
with_place p c = record { registers = c.registers; flags = c.flags; place = p; segments = c.segments }

abbrev pub with_segments : List Segment → Core → Core
with_segments gs c = record { registers = c.registers; flags = c.flags; place = c.place; segments = gs }

-- The words of the type that a program keeps them in.
abbrev pub registers_of : Regs → (ℕ → ℕ)
registers_of r = λ k. slice_index r.words k

-- ---- numbers of 64 bits

-- A signed number as a word.
abbrev pub word : ℤ → ℕ
word n = cast_unsigned w64 n

abbrev pub add64 : ℕ → ℕ → ℕ
add64 a b = (a + b) % 2 ^ 64

abbrev pub sub64 : ℕ → ℕ → ℕ
sub64 a b = (a + (2 ^ 64 - b)) % 2 ^ 64

abbrev pub is_negative : ℕ → Bool
is_negative a = nat_le (2 ^ 63) a

-- The absolute value of a word that is read as a signed number.
abbrev pub magnitude : ℕ → ℕ
magnitude a = cond (is_negative a) (2 ^ 64 - a) a

abbrev pub differ : Bool → Bool → Bool
differ false b = b
differ true b = not b

-- The word of a number with a sign.
abbrev pub signed : Bool → ℕ → ℕ
signed negative n = cond negative (sub64 0 n) n

-- ---- memory

-- Whether n bytes from an address on lie in a segment.
abbrev pub holds : Segment → ℕ → ℕ → Bool
holds g a n = nat_le g.address a && nat_le (a + n) (g.address + length g.bytes)

-- The bytes from an address on, to the end of their segment, where n of them lie in a segment with the
-- right. Segments of an image do not overlap, so at most one holds them.
abbrev pub bytes_from : (Segment → Bool) → List Segment → ℕ → ℕ → Option (List ℕ)
bytes_from right [] a n = None
bytes_from right (g ∷ gs) a n =
    cond (holds g a n) (cond (right g) (Some (drop (a - g.address) g.bytes)) None) (bytes_from right gs a n)

-- The list with other bytes from place k on.
abbrev pub put_bytes : List ℕ → ℕ → List ℕ → List ℕ
put_bytes xs k ys = take k xs ++ (ys ++ drop (k + length ys) xs)

abbrev pub with_bytes : Segment → List ℕ → Segment
with_bytes g bs = record { address = g.address; readable = g.readable; writable = g.writable; executable = g.executable; bytes = bs }

abbrev pub behind_segment : Segment → Option (List Segment) → Option (List Segment)
behind_segment g None = None
behind_segment g (Some gs) = Some (g ∷ gs)

-- Memory with other bytes from an address on, where they lie in a segment with the right to write.
abbrev pub stored : List Segment → ℕ → List ℕ → Option (List Segment)
stored [] a ys = None
stored (g ∷ gs) a ys =
    cond (holds g a (length ys))
    (cond g.writable (Some (with_bytes g (put_bytes g.bytes (a - g.address) ys) ∷ gs)) None)
    (behind_segment g (stored gs a ys))

abbrev pub or_access : {A : Type 0} → ℕ → Option A → Result A StuckCause
or_access a None = Err (Access a)
or_access a (Some x) = Ok x

-- The word in the 8 bytes at an address, the lowest byte first, and the number in one byte.
abbrev pub word_at : List Segment → ℕ → Result ℕ StuckCause
word_at gs a = when_ok (or_access a (bytes_from (λ g. g.readable) gs a 8)) (λ bs. Ok (from_le_bytes w64 bs))

abbrev pub byte_at : List Segment → ℕ → Result ℕ StuckCause
byte_at gs a = when_ok (or_access a (bytes_from (λ g. g.readable) gs a 1)) (λ bs. Ok (first_or_0 bs))

abbrev pub write_bytes : Core → ℕ → List ℕ → Result Core StuckCause
write_bytes c a ys = when_ok (or_access a (stored c.segments a ys)) (λ gs. Ok (with_segments gs c))

-- ---- operands

-- The address that an operand in memory names. While an instruction is done, the place is that of the
-- next instruction.
abbrev pub address_of : Core → Arg → ℕ
address_of c (Reg r) = 0
address_of c (Base b) = c.registers b
address_of c (Base8 b d) = add64 (c.registers b) (word d)
address_of c (Base32 b d) = add64 (c.registers b) (word d)
address_of c (Rip d) = add64 c.place (word d)

-- The word in an operand.
abbrev pub load : Core → Arg → Result ℕ StuckCause
load c (Reg r) = Ok (c.registers r)
load c m = word_at c.segments (address_of c m)

-- The core with a word in an operand.
abbrev pub store : Core → Arg → ℕ → Result Core StuckCause
store c (Reg r) v = Ok (with_register r v c)
store c m v = write_bytes c (address_of c m) (to_le_bytes w64 v)

-- ---- flags

abbrev pub unknown_flags : Flags
unknown_flags = record { overflow = None; sign = None; zero = None; carry = None }

-- A word and the flags that its computation sets.
pub record Computed : Type 0 where
  pub value : ℕ
  pub flags : Flags

-- SDM, ADD: OF where both terms have one sign and the sum the other, CF where a bit is carried out.
abbrev pub sum_of : ℕ → ℕ → Computed
sum_of a b =
    let r = add64 a b in
    record {
      value = r;
      flags = record {
        overflow = Some (not (differ (is_negative a) (is_negative b)) && differ (is_negative a) (is_negative r));
        sign = Some (is_negative r);
        zero = Some (r == 0);
        carry = Some (nat_le (2 ^ 64) (a + b));
      };
    }

-- SDM, SUB, CMP and NEG: OF where the signs differ and the difference has not the sign of a, CF where a
-- bit is borrowed.
abbrev pub difference_of : ℕ → ℕ → Computed
difference_of a b =
    let r = sub64 a b in
    record {
      value = r;
      flags = record {
        overflow = Some (differ (is_negative a) (is_negative b) && differ (is_negative a) (is_negative r));
        sign = Some (is_negative r);
        zero = Some (r == 0);
        carry = Some (nat_lt a b);
      };
    }

-- SDM, AND, OR, XOR and TEST: OF and CF are cleared.
abbrev pub bits_of : ℕ → Computed
bits_of r = record { value = r; flags = record { overflow = Some false; sign = Some (is_negative r); zero = Some (r == 0); carry = Some false } }

-- Whether a signed product fits 64 bits: -2^63 does, 2^63 does not.
abbrev pub product_fits : ℕ → ℕ → Bool
product_fits a b =
    cond (differ (is_negative a) (is_negative b))
    (nat_le (magnitude a * magnitude b) (2 ^ 63))
    (nat_lt (magnitude a * magnitude b) (2 ^ 63))

-- SDM, IMUL with two operands: OF and CF where the signed product does not fit; SF and ZF are undefined.
abbrev pub product_of : ℕ → ℕ → Computed
product_of a b =
    record {
      value = a * b % 2 ^ 64;
      flags = record { overflow = Some (not (product_fits a b)); sign = None; zero = None; carry = Some (not (product_fits a b)) };
    }

-- A shift leaves every flag unknown here, as the table has it.
abbrev pub shifted : ℕ → Computed
shifted v = record { value = v; flags = unknown_flags }

-- SDM, SAR: the sign is shifted in.
abbrev pub shift_right_signed : ℕ → ℕ → ℕ
shift_right_signed v k = cond (is_negative v) (2 ^ 64 - 1 - (2 ^ 64 - 1 - v) / 2 ^ k) (v / 2 ^ k)

-- ---- conditions

abbrev pub both : (Bool → Bool → Bool) → Option Bool → Option Bool → Option Bool
both f None b = None
both f (Some a) None = None
both f (Some a) (Some b) = Some (f a b)

abbrev pub negated : Option Bool → Option Bool
negated None = None
negated (Some b) = Some (not b)

-- SDM, Jcc: what a condition with an even number tests, by half that number. An odd number is the
-- opposite of the even one before it.
unfoldable pub test_of : Flags → ℕ → Option Bool
test_of f t =
    if t == O / 2 then f.overflow
    else if t == B / 2 then f.carry
    else if t == E / 2 then f.zero
    else if t == BE / 2 then both (λ a b. a || b) f.carry f.zero
    else if t == S / 2 then f.sign
    else if t == L / 2 then both differ f.sign f.overflow
    else if t == LE / 2 then both (λ a b. a || b) f.zero (both differ f.sign f.overflow)
    else None

abbrev pub condition : Flags → ℕ → Option Bool
condition f c = cond (c % 2 == 0) (test_of f (c / 2)) (negated (test_of f (c / 2)))
