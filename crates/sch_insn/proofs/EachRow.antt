-- One instruction of each row, done by an x86-64 processor: with 0xF123456789ABCDEF in rax, 0xFFFFFFFB in rcx,
-- 3 in rdx, 0x10000000 in rbx, the words 0x8070605040302010 and 0x0123456789ABCDEF from there on, OF and ZF
-- cleared and SF and CF set.
use Rattle.std.proofs.Common.{◌≡◌, ℕ, [], ◌∷◌, ◌++◌, Bool, true, false, cond, ◌==◌, Option, Some, None, refl}
use Rattle.std.specs.Prelude.{pos, negsuc, Result, Ok}
use Rattle.std.specs.Int.{w64, to_le_bytes}
use Rattle.sch_insn.specs.declared.insn.Arg.TheVariants.{Reg, Base, Base8, Base32}
use Rattle.sch_insn.specs.declared.insn.Insn.{Insn}
use Rattle.sch_insn.specs.declared.insn.Insn.TheVariants.{MovTo, MovFrom, MovNumber, MovWord, StoreByte, LoadByte, Lea, AddTo, OrTo, AndTo, SubTo, XorTo, CmpTo, AddFrom, OrFrom, AndFrom, SubFrom, XorFrom, CmpFrom, AddNumber, OrNumber, AndNumber, SubNumber, XorNumber, CmpNumber, AddNumber8, OrNumber8, AndNumber8, SubNumber8, XorNumber8, CmpNumber8, TestTo, Imul, Neg, Idiv, Cqo, Shl, Shr, Sar, Jump, Jump8, JumpTo, JumpIf, JumpIf8}
use Rattle.sch_insn.specs.declared.state.Flags.{Flags}
use Rattle.sch_insn.specs.declared.state.StuckCause.{StuckCause}
use Rattle.sch_word.specs.declared.registers.TheConstants.{RAX, RCX, RDX, RBX}
use Rattle.sch_insn.specs.declared.condition.TheConstants.{E, NE, B, AE}
use Rattle.sch_insn.specs.Machine.{State, unknown_flags, word_at, test_of}
use Rattle.sch_insn.specs.Step.{Progress, Runs, Exited, Stuck, perform}

abbrev flags : Bool → Bool → Bool → Bool → Flags
flags o s z c = record { overflow = Some o; sign = Some s; zero = Some z; carry = Some c }

-- OF and CF alike, and no other flag known.
abbrev half_flags : Bool → Flags
half_flags o = record { overflow = Some o; sign = None; zero = None; carry = Some o }

abbrev before : State
before = record {
  core = record {
    registers = λ k. cond (k == RAX) 0xF123456789ABCDEF (cond (k == RCX) 0xFFFFFFFB (cond (k == RDX) 3 0x10000000));
    flags = flags false true false true;
    place = 0x400000;
    segments = record { address = 0x10000000; readable = true; writable = true; executable = false; bytes = to_le_bytes w64 0x8070605040302010 ++ to_le_bytes w64 0x0123456789ABCDEF } ∷ [];
  };
  output = [];
  answers = [];
  spare = [];
}

-- rax, rcx and rdx, the first word of memory, the flags, and where the machine goes on.
record Left : Type 0 where
  rax : ℕ
  rcx : ℕ
  rdx : ℕ
  word : Result ℕ StuckCause
  flags : Flags
  place : ℕ

abbrev seen : Progress → Option Left
seen (Runs s) = Some (record {
  rax = s.core.registers RAX;
  rcx = s.core.registers RCX;
  rdx = s.core.registers RDX;
  word = word_at s.core.segments 0x10000000;
  flags = s.core.flags;
  place = s.core.place;
})
seen (Exited status s) = None
seen (Stuck cause s) = None

-- What an instruction leaves behind which 0x400007 is the next one.
abbrev after : Insn → Option Left
after i = seen (perform i 0x400007 before)

abbrev left : ℕ → ℕ → ℕ → ℕ → Flags → Option Left
left rax rcx rdx word flags = Some (record { rax = rax; rcx = rcx; rdx = rdx; word = Ok word; flags = flags; place = 0x400007 })

-- Nothing is left but that the machine goes on at an address.
abbrev goes_to : ℕ → Option Left
goes_to place = Some (record { rax = 0xF123456789ABCDEF; rcx = 0xFFFFFFFB; rdx = 3; word = Ok 0x8070605040302010; flags = flags false true false true; place = place })

each_row :
    (after (MovTo (Base RBX) RAX) ≡ left 0xF123456789ABCDEF 0xFFFFFFFB 3 0xF123456789ABCDEF (flags false true false true))
    × (after (MovTo (Reg RCX) RAX) ≡ left 0xF123456789ABCDEF 0xF123456789ABCDEF 3 0x8070605040302010 (flags false true false true))
    × (after (MovFrom RAX (Base32 RBX (pos 8))) ≡ left 0x123456789ABCDEF 0xFFFFFFFB 3 0x8070605040302010 (flags false true false true))
    × (after (MovNumber (Base RBX) (negsuc 4)) ≡ left 0xF123456789ABCDEF 0xFFFFFFFB 3 0xFFFFFFFFFFFFFFFB (flags false true false true))
    × (after (MovWord RAX (negsuc 0x7FFFFFFFFFFFFFFE)) ≡ left 0x8000000000000001 0xFFFFFFFB 3 0x8070605040302010 (flags false true false true))
    × (after (StoreByte (Base RBX) RAX) ≡ left 0xF123456789ABCDEF 0xFFFFFFFB 3 0x80706050403020EF (flags false true false true))
    × (after (LoadByte RAX (Base32 RBX (pos 7))) ≡ left 0x80 0xFFFFFFFB 3 0x8070605040302010 (flags false true false true))
    × (after (Lea RAX (Base32 RCX (negsuc 0xF))) ≡ left 0xFFFFFFEB 0xFFFFFFFB 3 0x8070605040302010 (flags false true false true))
    × (after (AddTo (Base RBX) RAX) ≡ left 0xF123456789ABCDEF 0xFFFFFFFB 3 0x7193A5B7C9DBEDFF (flags true false false true))
    × (after (AddFrom RAX (Base RBX)) ≡ left 0x7193A5B7C9DBEDFF 0xFFFFFFFB 3 0x8070605040302010 (flags true false false true))
    × (after (AddNumber (Base RBX) (negsuc 0xFEDCBA9)) ≡ left 0xF123456789ABCDEF 0xFFFFFFFB 3 0x8070605030425466 (flags false true false true))
    × (after (OrTo (Base RBX) RAX) ≡ left 0xF123456789ABCDEF 0xFFFFFFFB 3 0xF1736577C9BBEDFF (flags false true false false))
    × (after (OrFrom RAX (Base RBX)) ≡ left 0xF1736577C9BBEDFF 0xFFFFFFFB 3 0x8070605040302010 (flags false true false false))
    × (after (OrNumber (Base RBX) (negsuc 0xFEDCBA9)) ≡ left 0xF123456789ABCDEF 0xFFFFFFFB 3 0xFFFFFFFFF0323456 (flags false true false false))
    × (after (AndTo (Base RBX) RAX) ≡ left 0xF123456789ABCDEF 0xFFFFFFFB 3 0x8020404000200000 (flags false true false false))
    × (after (AndFrom RAX (Base RBX)) ≡ left 0x8020404000200000 0xFFFFFFFB 3 0x8070605040302010 (flags false true false false))
    × (after (AndNumber (Base RBX) (negsuc 0xFEDCBA9)) ≡ left 0xF123456789ABCDEF 0xFFFFFFFB 3 0x8070605040102010 (flags false true false false))
    × (after (SubTo (Base RBX) RAX) ≡ left 0xF123456789ABCDEF 0xFFFFFFFB 3 0x8F4D1AE8B6845221 (flags false true false true))
    × (after (SubFrom RAX (Base RBX)) ≡ left 0x70B2E517497BADDF 0xFFFFFFFB 3 0x8070605040302010 (flags false false false false))
    × (after (SubNumber (Base RBX) (negsuc 0xFEDCBA9)) ≡ left 0xF123456789ABCDEF 0xFFFFFFFB 3 0x80706050501DEBBA (flags false true false true))
    × (after (XorTo (Base RBX) RAX) ≡ left 0xF123456789ABCDEF 0xFFFFFFFB 3 0x71532537C99BEDFF (flags false false false false))
    × (after (XorFrom RAX (Base RBX)) ≡ left 0x71532537C99BEDFF 0xFFFFFFFB 3 0x8070605040302010 (flags false false false false))
    × (after (XorNumber (Base RBX) (negsuc 0xFEDCBA9)) ≡ left 0xF123456789ABCDEF 0xFFFFFFFB 3 0x7F8F9FAFB0221446 (flags false false false false))
    × (after (CmpTo (Base RBX) RAX) ≡ left 0xF123456789ABCDEF 0xFFFFFFFB 3 0x8070605040302010 (flags false true false true))
    × (after (CmpFrom RAX (Base RBX)) ≡ left 0xF123456789ABCDEF 0xFFFFFFFB 3 0x8070605040302010 (flags false false false false))
    × (after (CmpNumber (Base RBX) (negsuc 0xFEDCBA9)) ≡ left 0xF123456789ABCDEF 0xFFFFFFFB 3 0x8070605040302010 (flags false true false true))
    × (after (CmpNumber (Reg RDX) (pos 3)) ≡ left 0xF123456789ABCDEF 0xFFFFFFFB 3 0x8070605040302010 (flags false false true false))
    × (after (TestTo (Base RBX) RAX) ≡ left 0xF123456789ABCDEF 0xFFFFFFFB 3 0x8070605040302010 (flags false true false false))
    × (after (Imul RAX (Base32 RBX (pos 8))) ≡ left 0xECA5E20890F2A521 0xFFFFFFFB 3 0x8070605040302010 (half_flags true))
    × (after (Imul RCX (Reg RDX)) ≡ left 0xF123456789ABCDEF 0x2FFFFFFF1 3 0x8070605040302010 (half_flags false))
    × (after (Neg (Base RBX)) ≡ left 0xF123456789ABCDEF 0xFFFFFFFB 3 0x7F8F9FAFBFCFDFF0 (flags false false false true))
    × (after (Idiv (Reg RCX)) ≡ left 0x3F123457B 0xFFFFFFFB 0x3F5C2956 0x8070605040302010 unknown_flags)
    × (after Cqo ≡ left 0xF123456789ABCDEF 0xFFFFFFFB 0xFFFFFFFFFFFFFFFF 0x8070605040302010 (flags false true false true))
    × (after (Shl (Reg RAX) 12) ≡ left 0x3456789ABCDEF000 0xFFFFFFFB 3 0x8070605040302010 unknown_flags)
    × (after (Shr (Reg RAX) 12) ≡ left 0xF123456789ABC 0xFFFFFFFB 3 0x8070605040302010 unknown_flags)
    × (after (Sar (Reg RAX) 12) ≡ left 0xFFFF123456789ABC 0xFFFFFFFB 3 0x8070605040302010 unknown_flags)
each_row = (
  refl,
  refl,
  refl,
  refl,
  refl,
  refl,
  refl,
  refl,
  refl,
  refl,
  refl,
  refl,
  refl,
  refl,
  refl,
  refl,
  refl,
  refl,
  refl,
  refl,
  refl,
  refl,
  refl,
  refl,
  refl,
  refl,
  refl,
  refl,
  refl,
  refl,
  refl,
  refl,
  refl,
  refl,
  refl,
  refl,
)

-- Displacements and numbers of one byte.
short_rows :
    (after (MovFrom RAX (Base8 RBX (pos 8))) ≡ left 0x123456789ABCDEF 0xFFFFFFFB 3 0x8070605040302010 (flags false true false true))
    × (after (Lea RAX (Base8 RBX (pos 0x7F))) ≡ left 0x1000007F 0xFFFFFFFB 3 0x8070605040302010 (flags false true false true))
    × (after (Lea RAX (Base8 RBX (negsuc 0x7F))) ≡ left 0xFFFFF80 0xFFFFFFFB 3 0x8070605040302010 (flags false true false true))
    × (after (LoadByte RAX (Base8 RBX (pos 7))) ≡ left 0x80 0xFFFFFFFB 3 0x8070605040302010 (flags false true false true))
    × (after (StoreByte (Base8 RBX (pos 1)) RAX) ≡ left 0xF123456789ABCDEF 0xFFFFFFFB 3 0x807060504030EF10 (flags false true false true))
    × (after (Imul RAX (Base8 RBX (pos 8))) ≡ left 0xECA5E20890F2A521 0xFFFFFFFB 3 0x8070605040302010 (half_flags true))
    × (after (AddNumber8 (Base RBX) (negsuc 0x7F)) ≡ left 0xF123456789ABCDEF 0xFFFFFFFB 3 0x8070605040301F90 (flags false true false true))
    × (after (AddNumber8 (Reg RDX) (pos 0x7F)) ≡ left 0xF123456789ABCDEF 0xFFFFFFFB 0x82 0x8070605040302010 (flags false false false false))
    × (after (OrNumber8 (Base RBX) (negsuc 0xF)) ≡ left 0xF123456789ABCDEF 0xFFFFFFFB 3 0xFFFFFFFFFFFFFFF0 (flags false true false false))
    × (after (AndNumber8 (Base RBX) (pos 0x7F)) ≡ left 0xF123456789ABCDEF 0xFFFFFFFB 3 0x10 (flags false false false false))
    × (after (AndNumber8 (Reg RAX) (negsuc 7)) ≡ left 0xF123456789ABCDE8 0xFFFFFFFB 3 0x8070605040302010 (flags false true false false))
    × (after (SubNumber8 (Base RBX) (negsuc 0x7F)) ≡ left 0xF123456789ABCDEF 0xFFFFFFFB 3 0x8070605040302090 (flags false true false true))
    × (after (XorNumber8 (Base RBX) (negsuc 0)) ≡ left 0xF123456789ABCDEF 0xFFFFFFFB 3 0x7F8F9FAFBFCFDFEF (flags false false false false))
    × (after (CmpNumber8 (Base RBX) (negsuc 0x7F)) ≡ left 0xF123456789ABCDEF 0xFFFFFFFB 3 0x8070605040302010 (flags false true false true))
    × (after (CmpNumber8 (Reg RDX) (pos 3)) ≡ left 0xF123456789ABCDEF 0xFFFFFFFB 3 0x8070605040302010 (flags false false true false))
short_rows = (refl, refl, refl, refl, refl, refl, refl, refl, refl, refl, refl, refl, refl, refl, refl)

-- Both words of memory.
abbrev words_of : Progress → Option (Result ℕ StuckCause × Result ℕ StuckCause)
words_of (Runs s) = Some (word_at s.core.segments 0x10000000, word_at s.core.segments 0x10000008)
words_of (Exited status s) = None
words_of (Stuck cause s) = None

abbrev words : ℕ → ℕ → Option (Result ℕ StuckCause × Result ℕ StuckCause)
words first second = Some (Ok first, Ok second)

-- A word is stored where its address says, and the bytes before it and behind it stay.
stored_words :
    (words_of (perform (MovTo (Base32 RBX (pos 8)) RAX) 0x400007 before) ≡ words 0x8070605040302010 0xF123456789ABCDEF)
    × (words_of (perform (MovTo (Base32 RBX (pos 4)) RAX) 0x400007 before) ≡ words 0x89ABCDEF40302010 0x1234567F1234567)
    × (words_of (perform (MovTo (Base8 RBX (pos 4)) RAX) 0x400007 before) ≡ words 0x89ABCDEF40302010 0x1234567F1234567)
stored_words = (refl, refl, refl)

jumps :
    (after (Jump (pos 0x10)) ≡ goes_to 0x400017)
    × (after (Jump (negsuc 0x1F)) ≡ goes_to 0x3FFFE7)
    × (after (JumpTo (Reg RAX)) ≡ goes_to 0xF123456789ABCDEF)
    × (after (JumpTo (Base RBX)) ≡ goes_to 0x8070605040302010)
    × (after (JumpIf E (pos 0x10)) ≡ goes_to 0x400007)
    × (after (JumpIf NE (pos 0x10)) ≡ goes_to 0x400017)
    × (after (JumpIf B (pos 0x10)) ≡ goes_to 0x400017)
    × (after (JumpIf AE (pos 0x10)) ≡ goes_to 0x400007)
    × (after (Jump8 (pos 0x7F)) ≡ goes_to 0x400086)
    × (after (Jump8 (negsuc 0x7F)) ≡ goes_to 0x3FFF87)
    × (after (JumpIf8 NE (pos 0x7F)) ≡ goes_to 0x400086)
    × (after (JumpIf8 B (negsuc 0x7F)) ≡ goes_to 0x3FFF87)
    × (after (JumpIf8 AE (negsuc 0x7F)) ≡ goes_to 0x400007)
unfolding test_of
jumps = (refl, refl, refl, refl, refl, refl, refl, refl, refl, refl, refl, refl, refl)
