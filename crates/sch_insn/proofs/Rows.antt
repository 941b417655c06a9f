-- The definitions on worked values: what an x86-64 processor gave for them, and small runs.
use Rattle.std.proofs.Common.{◌≡◌, ℕ, List, [], ◌∷◌, ◌++◌, Bool, true, false, cond, ◌==◌, Option, Some, None, refl}
use Rattle.std.specs.Prelude.{bit_and, bit_or, bit_xor, Result, Ok, Err}
use Rattle.sch_word.specs.declared.answer.Answer.{Answer}
use Rattle.sch_word.specs.declared.answer.Answer.TheVariants.{Took, Failed}
use Rattle.sch_insn.specs.declared.insn.Arg.TheVariants.{Reg}
use Rattle.sch_insn.specs.declared.insn.Insn.{Insn}
use Rattle.sch_insn.specs.declared.insn.Insn.TheVariants.{Shl, Shr, Sar}
use Rattle.sch_insn.specs.declared.state.StuckCause.{StuckCause}
use Rattle.sch_insn.specs.declared.state.StuckCause.TheVariants.{Fetch, Access, Flag, Divide, Kernel}
use Rattle.sch_word.specs.declared.registers.TheConstants.{RAX, RDX}
use Rattle.sch_insn.specs.declared.condition.TheConstants.{O, NO, B, AE, E, NE, BE, A, S, NS, L, GE, LE, G}
use Rattle.sch_insn.specs.Decode.{operand_of, wide_of, narrow_of, long_of, rexed_of, escaped_of}
use Rattle.sch_insn.specs.Machine.{Core, State, Computed, sum_of, difference_of, bits_of, product_of, shifted, shift_right_signed, unknown_flags, test_of, condition}
use Rattle.sch_insn.specs.Step.{Progress, Runs, Exited, Stuck, perform, divide, mach}
use Rattle.sch_insn.specs.Path.{traced}
use Rattle.sch_insn.specs.Behaves.{exit_of}

-- A word with the flags OF, SF, ZF and CF.
abbrev flagged : ℕ → Bool → Bool → Bool → Bool → Computed
flagged v o s z c = record { value = v; flags = record { overflow = Some o; sign = Some s; zero = Some z; carry = Some c } }

-- A word with OF and CF alike, and no other flag known.
abbrev half_flagged : ℕ → Bool → Computed
half_flagged v o = record { value = v; flags = record { overflow = Some o; sign = None; zero = None; carry = Some o } }

sums :
    (sum_of 0x8000000000000000 0xFFFFFFFFFFFFFFFF ≡ flagged 0x7FFFFFFFFFFFFFFF true false false true)
    × (sum_of 0x8000000000000000 0x100000000 ≡ flagged 0x8000000100000000 false true false false)
    × (sum_of 0x100000000 1 ≡ flagged 0x100000001 false false false false)
    × (sum_of 1 0x7FFFFFFFFFFFFFFF ≡ flagged 0x8000000000000000 true true false false)
    × (sum_of 2 0xFFFFFFFFFFFFFFFF ≡ flagged 1 false false false true)
    × (sum_of 0xFFFFFFFFFFFFFFFF 0xFFFFFFFFFFFFFFFF ≡ flagged 0xFFFFFFFFFFFFFFFE false true false true)
    × (sum_of 0 0 ≡ flagged 0 false false true false)
    × (sum_of 1 0xFFFFFFFFFFFFFFFF ≡ flagged 0 false false true true)
    × (sum_of 0x8000000000000000 0x8000000000000000 ≡ flagged 0 true false true true)
sums = (refl, refl, refl, refl, refl, refl, refl, refl, refl)

differences :
    (difference_of 1 1 ≡ flagged 0 false false true false)
    × (difference_of 0 1 ≡ flagged 0xFFFFFFFFFFFFFFFF false true false true)
    × (difference_of 5 0 ≡ flagged 5 false false false false)
    × (difference_of 0x7FFFFFFFFFFFFFFF 0x8000000000000000 ≡ flagged 0xFFFFFFFFFFFFFFFF true true false true)
    × (difference_of 0xFFFFFFFFFFFFFFFF 0xB2D05E00 ≡ flagged 0xFFFFFFFF4D2FA1FF false true false false)
    × (difference_of 0xB2D05E00 0xFFFFFFFFFFFFFFFF ≡ flagged 0xB2D05E01 false false false true)
    × (difference_of 0x8000000000000000 1 ≡ flagged 0x7FFFFFFFFFFFFFFF true false false false)
differences = (refl, refl, refl, refl, refl, refl, refl)

negations :
    (difference_of 0 0 ≡ flagged 0 false false true false)
    × (difference_of 0 5 ≡ flagged 0xFFFFFFFFFFFFFFFB false true false true)
    × (difference_of 0 0xFFFFFFFFFFFFFFFF ≡ flagged 1 false false false true)
    × (difference_of 0 0x8000000000000000 ≡ flagged 0x8000000000000000 true true false true)
negations = (refl, refl, refl, refl)

conjunctions :
    (bits_of (bit_and 0x100000000 0x7FFFFFFFFFFFFFFF) ≡ flagged 0x100000000 false false false false)
    × (bits_of (bit_and 0x100000000 0xB2D05E00) ≡ flagged 0 false false true false)
    × (bits_of (bit_and 0xFFFFFFFFFFFFFFF9 0x8000000000000000) ≡ flagged 0x8000000000000000 false true false false)
conjunctions = (refl, refl, refl)

disjunctions :
    (bits_of (bit_or 1 5) ≡ flagged 5 false false false false)
    × (bits_of (bit_or 0xFFFFFFFFFFFFFFFF 0x7FFFFFFFFFFFFFFF) ≡ flagged 0xFFFFFFFFFFFFFFFF false true false false)
    × (bits_of (bit_or 0 0) ≡ flagged 0 false false true false)
disjunctions = (refl, refl, refl)

exclusive_disjunctions :
    (bits_of (bit_xor 0x7FFFFFFFFFFFFFFF 0x100000000) ≡ flagged 0x7FFFFFFEFFFFFFFF false false false false)
    × (bits_of (bit_xor 0x5555555555555555 0x5555555555555555) ≡ flagged 0 false false true false)
    × (bits_of (bit_xor 0x100000000 0xFFFFFFFFFFFFFFFF) ≡ flagged 0xFFFFFFFEFFFFFFFF false true false false)
exclusive_disjunctions = (refl, refl, refl)

products :
    (product_of 0x8000000000000000 2 ≡ half_flagged 0 true)
    × (product_of 0x100000000 1 ≡ half_flagged 0x100000000 false)
    × (product_of 0x100000000 0 ≡ half_flagged 0 false)
    × (product_of 0 0xB2D05E00 ≡ half_flagged 0 false)
    × (product_of 0xB2D05E00 0xFFFFFFFFFFFFFFFF ≡ half_flagged 0xFFFFFFFF4D2FA200 false)
    × (product_of 0xB2D05E00 0x5555555555555555 ≡ half_flagged 0xFFFFFFFFC4653600 true)
    × (product_of 2 0 ≡ half_flagged 0 false)
    × (product_of 0x7FFFFFFFFFFFFFFF 0xFFFFFFFFFFFFFFFF ≡ half_flagged 0x8000000000000001 false)
    × (product_of 0x7FFFFFFFFFFFFFFF 0x7FFFFFFFFFFFFFFF ≡ half_flagged 1 true)
    × (product_of 0xFFFFFFFFFFFFFFF9 0x7FFFFFFFFFFFFFFF ≡ half_flagged 0x8000000000000007 true)
    × (product_of 0x5555555555555555 5 ≡ half_flagged 0xAAAAAAAAAAAAAAA9 true)
    × (product_of 0xFFFFFFFFFFFFFFF9 0x100000000 ≡ half_flagged 0xFFFFFFF900000000 false)
    × (product_of 0x7FFFFFFFFFFFFFFF 0x100000000 ≡ half_flagged 0xFFFFFFFF00000000 true)
    × (product_of 0xFFFFFFFFFFFFFFFF 0x5555555555555555 ≡ half_flagged 0xAAAAAAAAAAAAAAAB false)
    × (product_of 0x100000000 0x8000000000000000 ≡ half_flagged 0 true)
    × (product_of 0x8000000000000000 0xB2D05E00 ≡ half_flagged 0 true)
    × (product_of 0xFFFFFFFFFFFFFFF9 0xFFFFFFFFFFFFFFFF ≡ half_flagged 7 false)
    × (product_of 0x8000000000000000 0xFFFFFFFFFFFFFFFF ≡ half_flagged 0x8000000000000000 true)
    × (product_of 0x8000000000000000 1 ≡ half_flagged 0x8000000000000000 false)
    × (product_of 0xB2D05E00 0x100000000 ≡ half_flagged 0xB2D05E0000000000 true)
    × (product_of 0x5555555555555555 2 ≡ half_flagged 0xAAAAAAAAAAAAAAAA true)
products = (refl, refl, refl, refl, refl, refl, refl, refl, refl, refl, refl, refl, refl, refl, refl, refl, refl, refl, refl, refl, refl)

signed_shifts :
    (shift_right_signed 0xB2D05E00 21 ≡ 1430)
    × (shift_right_signed 0 63 ≡ 0)
    × (shift_right_signed 0x8000000000000000 21 ≡ 0xFFFFFC0000000000)
    × (shift_right_signed 0x8000000000000000 63 ≡ 0xFFFFFFFFFFFFFFFF)
    × (shift_right_signed 0x100000000 63 ≡ 0)
    × (shift_right_signed 0xFFFFFFFFFFFFFFFF 63 ≡ 0xFFFFFFFFFFFFFFFF)
    × (shift_right_signed 0x8000000000000000 42 ≡ 0xFFFFFFFFFFE00000)
    × (shift_right_signed 0xB2D05E00 63 ≡ 0)
signed_shifts = (refl, refl, refl, refl, refl, refl, refl, refl)

-- rdx and rax before a division, and both after it.
abbrev dividend : ℕ → ℕ → Core
dividend high low = record { registers = λ k. cond (k == RDX) high low; flags = unknown_flags; place = 0; segments = [] }

abbrev quotient_and_remainder : Result Core StuckCause → Option (ℕ × ℕ)
quotient_and_remainder (Ok c) = Some (c.registers RAX, c.registers RDX)
quotient_and_remainder (Err cause) = None

abbrev found : ℕ → ℕ → Option (ℕ × ℕ)
found quotient remainder = Some (quotient, remainder)

quotients :
    (quotient_and_remainder (divide (dividend 0xFFFFFFFFFFFFFFFF 0xFFFFFFFFFFFFFFF9) 2) ≡ found 0xFFFFFFFFFFFFFFFD 0xFFFFFFFFFFFFFFFF)
    × (quotient_and_remainder (divide (dividend 0 7) 0xFFFFFFFFFFFFFFFE) ≡ found 0xFFFFFFFFFFFFFFFD 1)
    × (quotient_and_remainder (divide (dividend 0xFFFFFFFFFFFFFFFF 0xFFFFFFFFFFFFFFF9) 0xFFFFFFFFFFFFFFFE) ≡ found 3 0xFFFFFFFFFFFFFFFF)
    × (quotient_and_remainder (divide (dividend 0 7) 2) ≡ found 3 1)
    × (quotient_and_remainder (divide (dividend 0xFFFFFFFFFFFFFFFF 0x8000000000000000) 1) ≡ found 0x8000000000000000 0)
    × (quotient_and_remainder (divide (dividend 5 3) 11) ≡ found 0x745D1745D1745D17 6)
    × (quotient_and_remainder (divide (dividend 0xFFFFFFFFFFFFFFFA 3) 12) ≡ found 0x8000000000000001 0xFFFFFFFFFFFFFFF7)
    × (quotient_and_remainder (divide (dividend 1 0) 4) ≡ found 0x4000000000000000 0)
    × (quotient_and_remainder (divide (dividend 0xFFFFFFFFFFFFFFFF 0) 2) ≡ found 0x8000000000000000 0)
    × (divide (dividend 0 7) 0 ≡ Err Divide)
    × (divide (dividend 1 0) 2 ≡ Err Divide)
    × (divide (dividend 0xFFFFFFFFFFFFFFFF 0x8000000000000000) 0xFFFFFFFFFFFFFFFF ≡ Err Divide)
quotients = (refl, refl, refl, refl, refl, refl, refl, refl, refl, refl, refl, refl)

-- After `cmp` of a and b the conditions compare them, without a sign (B, AE, BE and A) and with one (L, GE, LE
-- and G).
conditions :
    (condition (difference_of 1 2).flags B ≡ Some true)
    × (condition (difference_of 1 2).flags NE ≡ Some true)
    × (condition (difference_of 1 2).flags L ≡ Some true)
    × (condition (difference_of 1 2).flags G ≡ Some false)
    × (condition (difference_of 2 1).flags B ≡ Some false)
    × (condition (difference_of 2 1).flags NE ≡ Some true)
    × (condition (difference_of 2 1).flags L ≡ Some false)
    × (condition (difference_of 2 1).flags G ≡ Some true)
    × (condition (difference_of 5 5).flags B ≡ Some false)
    × (condition (difference_of 5 5).flags NE ≡ Some false)
    × (condition (difference_of 5 5).flags L ≡ Some false)
    × (condition (difference_of 5 5).flags G ≡ Some false)
    × (condition (difference_of 0xFFFFFFFFFFFFFFFF 1).flags B ≡ Some false)
    × (condition (difference_of 0xFFFFFFFFFFFFFFFF 1).flags NE ≡ Some true)
    × (condition (difference_of 0xFFFFFFFFFFFFFFFF 1).flags L ≡ Some true)
    × (condition (difference_of 0xFFFFFFFFFFFFFFFF 1).flags G ≡ Some false)
    × (condition (difference_of 1 0xFFFFFFFFFFFFFFFF).flags B ≡ Some true)
    × (condition (difference_of 1 0xFFFFFFFFFFFFFFFF).flags NE ≡ Some true)
    × (condition (difference_of 1 0xFFFFFFFFFFFFFFFF).flags L ≡ Some false)
    × (condition (difference_of 1 0xFFFFFFFFFFFFFFFF).flags G ≡ Some true)
    × (condition (difference_of 0x8000000000000000 1).flags B ≡ Some false)
    × (condition (difference_of 0x8000000000000000 1).flags NE ≡ Some true)
    × (condition (difference_of 0x8000000000000000 1).flags L ≡ Some true)
    × (condition (difference_of 0x8000000000000000 1).flags G ≡ Some false)
unfolding test_of
conditions = (refl, refl, refl, refl, refl, refl, refl, refl, refl, refl, refl, refl, refl, refl, refl, refl, refl, refl, refl, refl, refl, refl, refl, refl)

-- The conditions that read other flags or two of them, and GE and LE beside L and G.
more_conditions :
    (condition (difference_of 1 2).flags O ≡ Some false)
    × (condition (difference_of 1 2).flags NO ≡ Some true)
    × (condition (difference_of 1 2).flags AE ≡ Some false)
    × (condition (difference_of 1 2).flags E ≡ Some false)
    × (condition (difference_of 1 2).flags BE ≡ Some true)
    × (condition (difference_of 1 2).flags A ≡ Some false)
    × (condition (difference_of 1 2).flags S ≡ Some true)
    × (condition (difference_of 1 2).flags NS ≡ Some false)
    × (condition (difference_of 1 2).flags GE ≡ Some false)
    × (condition (difference_of 1 2).flags LE ≡ Some true)
    × (condition (difference_of 2 1).flags BE ≡ Some false)
    × (condition (difference_of 2 1).flags A ≡ Some true)
    × (condition (difference_of 2 1).flags LE ≡ Some false)
    × (condition (difference_of 5 5).flags E ≡ Some true)
    × (condition (difference_of 5 5).flags BE ≡ Some true)
    × (condition (difference_of 5 5).flags A ≡ Some false)
    × (condition (difference_of 5 5).flags S ≡ Some false)
    × (condition (difference_of 5 5).flags GE ≡ Some true)
    × (condition (difference_of 5 5).flags LE ≡ Some true)
    × (condition (difference_of 0x8000000000000000 1).flags O ≡ Some true)
    × (condition (difference_of 0x8000000000000000 1).flags NO ≡ Some false)
    × (condition (difference_of 0x8000000000000000 1).flags S ≡ Some false)
unfolding test_of
more_conditions = (refl, refl, refl, refl, refl, refl, refl, refl, refl, refl, refl, refl, refl, refl, refl, refl, refl, refl, refl, refl, refl, refl)

abbrev no_answer : Option Bool
no_answer = None

-- After `imul` overflow and carry are known alone; after a shift no flag is. No condition number is 10 or 11.
unknown_conditions :
    (condition (product_of 2 2).flags O ≡ Some false)
    × (condition (product_of 2 2).flags B ≡ Some false)
    × (condition (product_of 2 2).flags E ≡ no_answer)
    × (condition (product_of 2 2).flags BE ≡ no_answer)
    × (condition (product_of 2 2).flags S ≡ no_answer)
    × (condition (product_of 2 2).flags L ≡ no_answer)
    × (condition (shifted 1).flags O ≡ no_answer)
    × (condition (shifted 1).flags AE ≡ no_answer)
    × (condition (shifted 1).flags NE ≡ no_answer)
    × (condition (difference_of 1 2).flags 10 ≡ no_answer)
    × (condition (difference_of 1 2).flags 11 ≡ no_answer)
unfolding test_of
unknown_conditions = (refl, refl, refl, refl, refl, refl, refl, refl, refl, refl, refl)

abbrev word_left : Progress → Option ℕ
word_left (Runs s) = Some (s.core.registers RAX)
word_left (Exited status s) = None
word_left (Stuck cause s) = None

-- rax after an instruction, where it was this before.
abbrev rax_after : Insn → ℕ → Option ℕ
rax_after i rax = word_left (perform i 0 (record { core = dividend 0 rax; output = []; answers = []; spare = [] }))

shifts :
    (rax_after (Shl (Reg RAX) 4) 0x1000000000000001 ≡ Some 16)
    × (rax_after (Shl (Reg RAX) 0) 7 ≡ Some 7)
    × (rax_after (Shl (Reg RAX) 63) 3 ≡ Some 0x8000000000000000)
    × (rax_after (Shr (Reg RAX) 3) 0xFFFFFFFFFFFFFFFF ≡ Some 0x1FFFFFFFFFFFFFFF)
    × (rax_after (Shr (Reg RAX) 63) 0x8000000000000000 ≡ Some 1)
    × (rax_after (Sar (Reg RAX) 3) 0xFFFFFFFFFFFFFFF8 ≡ Some 0xFFFFFFFFFFFFFFFF)
shifts = (refl, refl, refl, refl, refl, refl)

-- A text entered at 0x400000, with all registers 0.
abbrev begun : List ℕ → List Answer → State
begun bytes answers =
    record {
      core = record {
        registers = λ k. 0;
        flags = unknown_flags;
        place = 0x400000;
        segments = record { address = 0x400000; readable = true; writable = false; executable = true; bytes = bytes } ∷ [];
      };
      output = [];
      answers = answers;
      spare = [];
    }

abbrev cause_and_place : Progress → Option (StuckCause × ℕ)
cause_and_place (Runs s) = None
cause_and_place (Exited status s) = None
cause_and_place (Stuck cause s) = Some (cause, s.core.place)

abbrev exits_with : ℕ → List ℕ → Option (ℕ × List ℕ)
exits_with status output = Some (status, output)

abbrev stuck_at : StuckCause → ℕ → Option (StuckCause × ℕ)
stuck_at cause place = Some (cause, place)

-- mov rax, 60; mov rdi, 263; syscall
abbrev exiting : List ℕ
exiting = 0x48 ∷ 0xC7 ∷ 0xC0 ∷ 0x3C ∷ 0x00 ∷ 0x00 ∷ 0x00 ∷ 0x48 ∷ 0xC7 ∷ 0xC7 ∷ 0x07 ∷ 0x01 ∷ 0x00 ∷ 0x00 ∷ 0x0F ∷ 0x05 ∷ []

-- mov rax, 1; mov rdi, 1; lea rsi, [rip+21]; mov rdx, 2; syscall; mov rdi, rax; mov rax, 60; syscall; "Hi"
abbrev writing : List ℕ
writing = 0x48 ∷ 0xC7 ∷ 0xC0 ∷ 0x01 ∷ 0x00 ∷ 0x00 ∷ 0x00 ∷ 0x48 ∷ 0xC7 ∷ 0xC7 ∷ 0x01 ∷ 0x00 ∷ 0x00 ∷ 0x00 ∷ 0x48 ∷ 0x8D ∷ 0x35 ∷ 0x15 ∷ 0x00 ∷ 0x00 ∷ 0x00 ∷ 0x48 ∷ 0xC7 ∷ 0xC2 ∷ 0x02 ∷ 0x00 ∷ 0x00
    ∷ 0x00 ∷ 0x0F ∷ 0x05 ∷ 0x48 ∷ 0x89 ∷ 0xC7 ∷ 0x48 ∷ 0xC7 ∷ 0xC0 ∷ 0x3C ∷ 0x00 ∷ 0x00 ∷ 0x00 ∷ 0x0F ∷ 0x05 ∷ 0x48 ∷ 0x69 ∷ []

-- mov rax, 1; mov rdi, 1; mov rdx, 0; syscall; mov rdi, REGISTER; mov rax, 60; syscall
abbrev exiting_with : List ℕ → List ℕ
exiting_with register = 0x48 ∷ 0xC7 ∷ 0xC0 ∷ 0x01 ∷ 0x00 ∷ 0x00 ∷ 0x00 ∷ 0x48 ∷ 0xC7 ∷ 0xC7 ∷ 0x01 ∷ 0x00 ∷ 0x00 ∷ 0x00 ∷ 0x48 ∷ 0xC7 ∷ 0xC2 ∷ 0x00 ∷ 0x00 ∷ 0x00 ∷ 0x00 ∷ 0x0F ∷ 0x05 ∷ register
    ++ 0x48 ∷ 0xC7 ∷ 0xC0 ∷ 0x3C ∷ 0x00 ∷ 0x00 ∷ 0x00 ∷ 0x0F ∷ 0x05 ∷ []

-- The same text with these spare words.
abbrev with_spare : List ℕ → State → State
with_spare words s = record { core = s.core; output = s.output; answers = s.answers; spare = words }

abbrev answers_left : Progress → Option (List Answer)
answers_left (Runs s) = None
answers_left (Exited status s) = Some s.answers
answers_left (Stuck cause s) = None

-- A write of no bytes uses no answer, and puts two spare words into rcx and r11, or 0 where there is none.
writes_of_nothing :
    (exit_of (mach 7 (begun (exiting_with (0x48 ∷ 0x89 ∷ 0xC7 ∷ [])) (Took 1 ∷ []))) ≡ exits_with 0 [])
    × (answers_left (mach 7 (begun (exiting_with (0x48 ∷ 0x89 ∷ 0xC7 ∷ [])) (Took 1 ∷ []))) ≡ Some (Took 1 ∷ []))
    × (exit_of (mach 7 (with_spare (5 ∷ 9 ∷ 3 ∷ []) (begun (exiting_with (0x48 ∷ 0x89 ∷ 0xCF ∷ [])) []))) ≡ exits_with 5 [])
    × (exit_of (mach 7 (with_spare (5 ∷ 9 ∷ 3 ∷ []) (begun (exiting_with (0x4C ∷ 0x89 ∷ 0xDF ∷ [])) []))) ≡ exits_with 9 [])
    × (exit_of (mach 7 (with_spare (5 ∷ []) (begun (exiting_with (0x4C ∷ 0x89 ∷ 0xDF ∷ [])) []))) ≡ exits_with 0 [])
unfolding operand_of wide_of narrow_of long_of rexed_of escaped_of test_of
writes_of_nothing = (refl, refl, refl, refl, refl)

runs :
    (exit_of (mach 3 (begun exiting [])) ≡ exits_with 7 [])
    × (exit_of (mach 9 (begun exiting [])) ≡ exits_with 7 [])
    × (exit_of (mach 8 (begun writing [])) ≡ exits_with 2 (0x48 ∷ 0x69 ∷ []))
    × (exit_of (mach 8 (begun writing (Took 1 ∷ []))) ≡ exits_with 1 (0x48 ∷ []))
    × (exit_of (mach 8 (begun writing (Took 9 ∷ []))) ≡ exits_with 2 (0x48 ∷ 0x69 ∷ []))
    × (exit_of (mach 8 (begun writing (Failed ∷ []))) ≡ exits_with 251 [])
    × (cause_and_place (mach 1 (begun (0xC3 ∷ []) [])) ≡ stuck_at Fetch 0x400000)
    × (cause_and_place (mach 2 (begun (0x48 ∷ 0xC7 ∷ 0xC0 ∷ 0x3C ∷ 0x00 ∷ 0x00 ∷ 0x00 ∷ []) [])) ≡ stuck_at Fetch 0x400007)
    × (cause_and_place (mach 1 (begun (0x0F ∷ 0x8C ∷ 0x05 ∷ 0x00 ∷ 0x00 ∷ 0x00 ∷ []) [])) ≡ stuck_at Flag 0x400000)
    × (cause_and_place (mach 1 (begun (0x0F ∷ 0x05 ∷ []) [])) ≡ stuck_at (Kernel 0) 0x400000)
    × (cause_and_place (mach 2 (begun (0x48 ∷ 0xC7 ∷ 0xC3 ∷ 0x03 ∷ 0x00 ∷ 0x00 ∷ 0x00 ∷ 0x40 ∷ 0xFF ∷ 0x23 ∷ []) [])) ≡ stuck_at (Access 3) 0x400007)
    × (cause_and_place (mach 2 (begun (0x48 ∷ 0x8D ∷ 0x1D ∷ 0x00 ∷ 0x00 ∷ 0x00 ∷ 0x00 ∷ 0x48 ∷ 0x89 ∷ 0x03 ∷ []) [])) ≡ stuck_at (Access 0x400007) 0x400007)
    × (cause_and_place (mach 1 (begun (0x48 ∷ 0xF7 ∷ 0xF9 ∷ []) [])) ≡ stuck_at Divide 0x400000)
    × (cause_and_place (mach 1 (begun (0x48 ∷ 0xF7 ∷ 0x39 ∷ []) [])) ≡ stuck_at (Access 0) 0x400000)
unfolding operand_of wide_of narrow_of long_of rexed_of escaped_of test_of
runs = (refl, refl, refl, refl, refl, refl, refl, refl, refl, refl, refl, refl, refl, refl)

-- The text under `begun`, with these rights.
abbrev with_rights : Bool → Bool → List ℕ → State
with_rights readable executable bytes =
    let s = begun bytes [] in
    record {
      core = record {
        registers = s.core.registers;
        flags = s.core.flags;
        place = s.core.place;
        segments = record { address = 0x400000; readable = readable; writable = false; executable = executable; bytes = bytes } ∷ [];
      };
      output = [];
      answers = [];
      spare = [];
    }

-- lea rbx, [rip-7], and what then stores to the text or loads from it
abbrev at_text : List ℕ → List ℕ
at_text more = 0x48 ∷ 0x8D ∷ 0x1D ∷ 0xF9 ∷ 0xFF ∷ 0xFF ∷ 0xFF ∷ more

-- Bytes that lie in a segment without the right are not fetched, loaded or stored to.
rights :
    (cause_and_place (mach 1 (with_rights true false (0xE9 ∷ 0xFB ∷ 0xFF ∷ 0xFF ∷ 0xFF ∷ []))) ≡ stuck_at Fetch 0x400000)
    × (cause_and_place (mach 2 (with_rights true true (at_text (0x48 ∷ 0x89 ∷ 0x03 ∷ [])))) ≡ stuck_at (Access 0x400000) 0x400007)
    × (cause_and_place (mach 2 (with_rights true true (at_text (0x40 ∷ 0x88 ∷ 0x03 ∷ [])))) ≡ stuck_at (Access 0x400000) 0x400007)
    × (cause_and_place (mach 2 (with_rights false true (at_text (0x48 ∷ 0x8B ∷ 0x03 ∷ [])))) ≡ stuck_at (Access 0x400000) 0x400007)
    × (cause_and_place (mach 2 (with_rights false true (at_text (0x48 ∷ 0x0F ∷ 0xB6 ∷ 0x03 ∷ [])))) ≡ stuck_at (Access 0x400000) 0x400007)
unfolding operand_of wide_of narrow_of long_of rexed_of escaped_of test_of
rights = (refl, refl, refl, refl, refl)

-- mov rax, 1; mov rdi, 1; mov rdx, 0; syscall; mov rax, 1; syscall; mov rdi, rcx; mov rax, 60; syscall
abbrev writing_nothing_twice : List ℕ
writing_nothing_twice = 0x48 ∷ 0xC7 ∷ 0xC0 ∷ 0x01 ∷ 0x00 ∷ 0x00 ∷ 0x00 ∷ 0x48 ∷ 0xC7 ∷ 0xC7 ∷ 0x01 ∷ 0x00 ∷ 0x00 ∷ 0x00 ∷ 0x48 ∷ 0xC7 ∷ 0xC2 ∷ 0x00 ∷ 0x00 ∷ 0x00 ∷ 0x00 ∷ 0x0F ∷ 0x05 ∷ 0x48 ∷ 0xC7
    ∷ 0xC0 ∷ 0x01 ∷ 0x00 ∷ 0x00 ∷ 0x00 ∷ 0x0F ∷ 0x05 ∷ 0x48 ∷ 0x89 ∷ 0xCF ∷ 0x48 ∷ 0xC7 ∷ 0xC0 ∷ 0x3C ∷ 0x00 ∷ 0x00 ∷ 0x00 ∷ 0x0F ∷ 0x05 ∷ []

-- mov rax, 1; mov rdi, 1; lea rsi, [rip+30]; mov rdx, 2; syscall; mov rax, 1; syscall; mov rdi, rax; mov rax, 60; syscall; "Hi"
abbrev writing_twice : List ℕ
writing_twice = 0x48 ∷ 0xC7 ∷ 0xC0 ∷ 0x01 ∷ 0x00 ∷ 0x00 ∷ 0x00 ∷ 0x48 ∷ 0xC7 ∷ 0xC7 ∷ 0x01 ∷ 0x00 ∷ 0x00 ∷ 0x00 ∷ 0x48 ∷ 0x8D ∷ 0x35 ∷ 0x1E ∷ 0x00 ∷ 0x00 ∷ 0x00 ∷ 0x48 ∷ 0xC7 ∷ 0xC2 ∷ 0x02 ∷ 0x00
    ∷ 0x00 ∷ 0x00 ∷ 0x0F ∷ 0x05 ∷ 0x48 ∷ 0xC7 ∷ 0xC0 ∷ 0x01 ∷ 0x00 ∷ 0x00 ∷ 0x00 ∷ 0x0F ∷ 0x05 ∷ 0x48 ∷ 0x89 ∷ 0xC7 ∷ 0x48 ∷ 0xC7 ∷ 0xC0 ∷ 0x3C ∷ 0x00 ∷ 0x00 ∷ 0x00 ∷ 0x0F
    ∷ 0x05 ∷ 0x48 ∷ 0x69 ∷ []

-- Each write uses up its two spare words and its answer.
used_up :
    (exit_of (mach 9 (with_spare (5 ∷ 9 ∷ 3 ∷ 4 ∷ []) (begun writing_nothing_twice []))) ≡ exits_with 3 [])
    × (exit_of (mach 10 (begun writing_twice (Took 1 ∷ Took 2 ∷ []))) ≡ exits_with 2 (0x48 ∷ 0x48 ∷ 0x69 ∷ []))
    × (exit_of (mach 10 (begun writing_twice (Failed ∷ Took 2 ∷ []))) ≡ exits_with 2 (0x48 ∷ 0x69 ∷ []))
unfolding operand_of wide_of narrow_of long_of rexed_of escaped_of test_of
used_up = (refl, refl, refl)

-- A text with data behind it in the list of segments, which can be written, and read where it is said.
abbrev with_data : Bool → List ℕ → List ℕ → State
with_data readable text contents =
    let s = begun text [] in
    record s { core = record s.core { segments = s.core.segments ++ record { address = 0x10000000; readable = readable; writable = true; executable = false; bytes = contents } ∷ [] } }

-- mov rbx, 0x10000000; mov rdi, [rbx]; mov rax, 60; syscall
abbrev loading : List ℕ
loading = 0x48 ∷ 0xC7 ∷ 0xC3 ∷ 0x00 ∷ 0x00 ∷ 0x00 ∷ 0x10 ∷ 0x48 ∷ 0x8B ∷ 0x3B ∷ 0x48 ∷ 0xC7 ∷ 0xC0 ∷ 0x3C ∷ 0x00 ∷ 0x00 ∷ 0x00 ∷ 0x0F ∷ 0x05 ∷ []

-- mov rbx, 0x10000000; mov rcx, 9; mov [rbx], rcx; mov rdi, [rbx]; mov rax, 60; syscall
abbrev storing : List ℕ
storing = 0x48 ∷ 0xC7 ∷ 0xC3 ∷ 0x00 ∷ 0x00 ∷ 0x00 ∷ 0x10 ∷ 0x48 ∷ 0xC7 ∷ 0xC1 ∷ 0x09 ∷ 0x00 ∷ 0x00 ∷ 0x00 ∷ 0x48 ∷ 0x89 ∷ 0x0B ∷ 0x48 ∷ 0x8B ∷ 0x3B ∷ 0x48 ∷ 0xC7 ∷ 0xC0 ∷ 0x3C ∷ 0x00 ∷ 0x00
    ∷ 0x00 ∷ 0x0F ∷ 0x05 ∷ []

-- mov rax, 1; mov rdi, 1; mov rsi, 0x10000000; mov rdx, SIZE; syscall; mov rdi, rax; mov rax, 60; syscall
abbrev writing_data : ℕ → List ℕ
writing_data size = 0x48 ∷ 0xC7 ∷ 0xC0 ∷ 0x01 ∷ 0x00 ∷ 0x00 ∷ 0x00 ∷ 0x48 ∷ 0xC7 ∷ 0xC7 ∷ 0x01 ∷ 0x00 ∷ 0x00 ∷ 0x00 ∷ 0x48 ∷ 0xC7 ∷ 0xC6 ∷ 0x00 ∷ 0x00 ∷ 0x00 ∷ 0x10 ∷ 0x48 ∷ 0xC7 ∷ 0xC2 ∷ size
    ∷ 0x00 ∷ 0x00 ∷ 0x00 ∷ 0x0F ∷ 0x05 ∷ 0x48 ∷ 0x89 ∷ 0xC7 ∷ 0x48 ∷ 0xC7 ∷ 0xC0 ∷ 0x3C ∷ 0x00 ∷ 0x00 ∷ 0x00 ∷ 0x0F ∷ 0x05 ∷ []

-- Data are found behind other segments; a write from them ends with them, and they can be read.
in_data :
    (exit_of (mach 4 (with_data true loading (0x2A ∷ 0x01 ∷ 0x00 ∷ 0x00 ∷ 0x00 ∷ 0x00 ∷ 0x00 ∷ 0x00 ∷ []))) ≡ exits_with 0x2A [])
    × (exit_of (mach 6 (with_data true storing (0x2A ∷ 0x01 ∷ 0x00 ∷ 0x00 ∷ 0x00 ∷ 0x00 ∷ 0x00 ∷ 0x00 ∷ []))) ≡ exits_with 9 [])
    × (exit_of (mach 8 (with_data true (writing_data 2) (0x48 ∷ 0x69 ∷ []))) ≡ exits_with 2 (0x48 ∷ 0x69 ∷ []))
    × (cause_and_place (mach 8 (with_data true (writing_data 3) (0x48 ∷ 0x69 ∷ []))) ≡ stuck_at (Kernel 1) 0x40001C)
    × (cause_and_place (mach 8 (with_data false (writing_data 2) (0x48 ∷ 0x69 ∷ []))) ≡ stuck_at (Kernel 1) 0x40001C)
unfolding operand_of wide_of narrow_of long_of rexed_of escaped_of test_of
in_data = (refl, refl, refl, refl, refl)

-- A write to another stream has no row; after a write no flag is known, whatever was known before; and a state
-- without a row is stuck also where no step is left.
no_rows :
    (cause_and_place (mach 3 (begun (0x48 ∷ 0xC7 ∷ 0xC0 ∷ 0x01 ∷ 0x00 ∷ 0x00 ∷ 0x00 ∷ 0x48 ∷ 0xC7 ∷ 0xC7 ∷ 0x02 ∷ 0x00 ∷ 0x00 ∷ 0x00 ∷ 0x0F ∷ 0x05 ∷ []) [])) ≡ stuck_at (Kernel 1) 0x40000E)
    × (cause_and_place (mach 6 (begun (0x48 ∷ 0xC7 ∷ 0xC0 ∷ 0x01 ∷ 0x00 ∷ 0x00 ∷ 0x00 ∷ 0x48 ∷ 0xC7 ∷ 0xC7 ∷ 0x01 ∷ 0x00 ∷ 0x00 ∷ 0x00 ∷ 0x48 ∷ 0xC7 ∷ 0xC2 ∷ 0x00 ∷ 0x00 ∷ 0x00 ∷ 0x00 ∷ 0x48
    ∷ 0x81 ∷ 0xF9 ∷ 0x00 ∷ 0x00 ∷ 0x00 ∷ 0x00 ∷ 0x0F ∷ 0x05 ∷ 0x0F ∷ 0x8C ∷ 0x05 ∷ 0x00 ∷ 0x00 ∷ 0x00 ∷ []) [])) ≡ stuck_at Flag 0x40001E)
    × (cause_and_place (mach 0 (begun (0xC3 ∷ []) [])) ≡ stuck_at Fetch 0x400000)
unfolding operand_of wide_of narrow_of long_of rexed_of escaped_of test_of
no_rows = (refl, refl, refl)

-- An instruction that has no row is not begun; the one that exits is.
traces :
    ((traced 0 (begun exiting [])).trace ≡ [])
    × ((traced 2 (begun exiting [])).trace ≡ 0x400000 ∷ 0x400007 ∷ [])
    × ((traced 3 (begun exiting [])).trace ≡ 0x400000 ∷ 0x400007 ∷ 0x40000E ∷ [])
    × ((traced 9 (begun exiting [])).trace ≡ 0x400000 ∷ 0x400007 ∷ 0x40000E ∷ [])
    × ((traced 9 (begun (0x48 ∷ 0xC7 ∷ 0xC0 ∷ 0x3C ∷ 0x00 ∷ 0x00 ∷ 0x00 ∷ []) [])).trace ≡ 0x400000 ∷ [])
    × ((traced 9 (begun (0xC3 ∷ []) [])).trace ≡ [])
    × ((traced 3 (begun (0xE9 ∷ 0xFB ∷ 0xFF ∷ 0xFF ∷ 0xFF ∷ []) [])).trace ≡ 0x400000 ∷ 0x400000 ∷ 0x400000 ∷ [])
unfolding operand_of wide_of narrow_of long_of rexed_of escaped_of test_of
traces = (refl, refl, refl, refl, refl, refl, refl)
