-- The one spelling of each instruction, and which instructions there are.
-- Source: Intel SDM, volume 2: section 2.1 (ModR/M and SIB), 2.2.1 (REX prefixes), and the opcode
-- column of each mnemonic's page.
use Rattle.std.specs.Prelude.{◌≡◌, ◌≢◌, ℕ, ◌+◌, ◌*◌, ◌/◌, ◌%◌, ◌<◌, List, [], ◌∷◌, ◌++◌, Bool, true, false, cond, ◌==◌, ℤ, FitsSigned, All}
use Rattle.std.specs.Int.{w8, w32, w64, cast_unsigned, to_le_bytes}
use Rattle.sch_insn.specs.declared.insn.Arg.{Arg}
use Rattle.sch_insn.specs.declared.insn.Arg.TheVariants.{Reg, Base, Base8, Base32, Rip}
use Rattle.sch_insn.specs.declared.insn.Insn.{Insn}
use Rattle.sch_insn.specs.declared.insn.Insn.TheVariants.{MovTo, MovFrom, MovNumber, MovWord, StoreByte, LoadByte, Lea, AddTo, OrTo, AndTo, SubTo, XorTo, CmpTo}
use Rattle.sch_insn.specs.declared.insn.Insn.TheVariants.{AddFrom, OrFrom, AndFrom, SubFrom, XorFrom, CmpFrom, AddNumber, OrNumber, AndNumber, SubNumber}
use Rattle.sch_insn.specs.declared.insn.Insn.TheVariants.{XorNumber, CmpNumber, AddNumber8, OrNumber8, AndNumber8, SubNumber8, XorNumber8, CmpNumber8}
use Rattle.sch_insn.specs.declared.insn.Insn.TheVariants.{TestTo, Imul, Neg, Idiv, Cqo, Shl, Shr, Sar, Jump, Jump8, JumpTo, JumpIf, JumpIf8, Syscall}

-- A signed number in one byte, in four and in eight, the lowest byte first.
abbrev pub one_byte : ℤ → List ℕ
one_byte n = cast_unsigned w8 n ∷ []

abbrev pub four_bytes : ℤ → List ℕ
four_bytes n = to_le_bytes w32 (cast_unsigned w32 n)

abbrev pub eight_bytes : ℤ → List ℕ
eight_bytes n = to_le_bytes w64 (cast_unsigned w64 n)

-- The high bit of an operand's register number, which REX holds as its bit B.
abbrev pub high_bit : Arg → ℕ
high_bit (Reg r) = r / 8
high_bit (Base b) = b / 8
high_bit (Base8 b d) = b / 8
high_bit (Base32 b d) = b / 8
high_bit (Rip d) = 0

-- REX with the bit W, the register of the form (its high bit is R) and the operand. X is always 0.
abbrev pub rex : ℕ → ℕ → Arg → ℕ
rex w r m = 0x40 + 8 * w + 4 * (r / 8) + high_bit m

-- ModRM: the mode, the low bits of the register of the form, the low bits of the operand's register.
abbrev pub modrm : ℕ → ℕ → ℕ → ℕ
modrm mode r b = 0x40 * mode + 8 * (r % 8) + b % 8

-- SIB stands only where the low bits of the base are 100, and then it names that base and no index.
abbrev pub sib : ℕ → List ℕ
sib b = cond (b % 8 == 4) (0x24 ∷ []) []

-- ModRM and what follows it.
abbrev pub operand : ℕ → Arg → List ℕ
operand r (Reg b) = modrm 3 r b ∷ []
operand r (Base b) = modrm 0 r b ∷ sib b
operand r (Base8 b d) = modrm 1 r b ∷ (sib b ++ one_byte d)
operand r (Base32 b d) = modrm 2 r b ∷ (sib b ++ four_bytes d)
operand r (Rip d) = modrm 0 r 5 ∷ four_bytes d

-- REX with W, one byte of opcode, and the operand.
abbrev pub wide : ℕ → ℕ → Arg → List ℕ
wide op r m = rex 1 r m ∷ op ∷ operand r m

abbrev pub spelling : Insn → List ℕ
spelling (MovTo m r) = wide 0x89 r m
spelling (MovFrom r m) = wide 0x8B r m
spelling (MovNumber m n) = wide 0xC7 0 m ++ four_bytes n
spelling (MovWord r n) = (0x48 + r / 8) ∷ (0xB8 + r % 8) ∷ eight_bytes n
spelling (StoreByte m r) = rex 0 r m ∷ 0x88 ∷ operand r m
spelling (LoadByte r m) = rex 1 r m ∷ 0x0F ∷ 0xB6 ∷ operand r m
spelling (Lea r m) = wide 0x8D r m
spelling (AddTo m r) = wide 0x01 r m
spelling (OrTo m r) = wide 0x09 r m
spelling (AndTo m r) = wide 0x21 r m
spelling (SubTo m r) = wide 0x29 r m
spelling (XorTo m r) = wide 0x31 r m
spelling (CmpTo m r) = wide 0x39 r m
spelling (AddFrom r m) = wide 0x03 r m
spelling (OrFrom r m) = wide 0x0B r m
spelling (AndFrom r m) = wide 0x23 r m
spelling (SubFrom r m) = wide 0x2B r m
spelling (XorFrom r m) = wide 0x33 r m
spelling (CmpFrom r m) = wide 0x3B r m
spelling (AddNumber m n) = wide 0x81 0 m ++ four_bytes n
spelling (OrNumber m n) = wide 0x81 1 m ++ four_bytes n
spelling (AndNumber m n) = wide 0x81 4 m ++ four_bytes n
spelling (SubNumber m n) = wide 0x81 5 m ++ four_bytes n
spelling (XorNumber m n) = wide 0x81 6 m ++ four_bytes n
spelling (CmpNumber m n) = wide 0x81 7 m ++ four_bytes n
spelling (AddNumber8 m n) = wide 0x83 0 m ++ one_byte n
spelling (OrNumber8 m n) = wide 0x83 1 m ++ one_byte n
spelling (AndNumber8 m n) = wide 0x83 4 m ++ one_byte n
spelling (SubNumber8 m n) = wide 0x83 5 m ++ one_byte n
spelling (XorNumber8 m n) = wide 0x83 6 m ++ one_byte n
spelling (CmpNumber8 m n) = wide 0x83 7 m ++ one_byte n
spelling (TestTo m r) = wide 0x85 r m
spelling (Imul r m) = rex 1 r m ∷ 0x0F ∷ 0xAF ∷ operand r m
spelling (Neg m) = wide 0xF7 3 m
spelling (Idiv m) = wide 0xF7 7 m
spelling Cqo = 0x48 ∷ 0x99 ∷ []
spelling (Shl m k) = wide 0xC1 4 m ++ k ∷ []
spelling (Shr m k) = wide 0xC1 5 m ++ k ∷ []
spelling (Sar m k) = wide 0xC1 7 m ++ k ∷ []
spelling (Jump d) = 0xE9 ∷ four_bytes d
spelling (Jump8 d) = 0xEB ∷ one_byte d
spelling (JumpTo m) = rex 0 4 m ∷ 0xFF ∷ operand 4 m
spelling (JumpIf c d) = 0x0F ∷ (0x80 + c) ∷ four_bytes d
spelling (JumpIf8 c d) = (0x70 + c) ∷ one_byte d
spelling Syscall = 0x0F ∷ 0x05 ∷ []

-- The operands that there are. With the mode 00 the low bits 101 would mean an address from rip.
abbrev pub IsArg : Arg → Type 0
IsArg (Reg r) = r < 16
IsArg (Base b) = (b < 16) × (b % 8 ≢ 5)
IsArg (Base8 b d) = (b < 16) × FitsSigned w8 d
IsArg (Base32 b d) = (b < 16) × FitsSigned w32 d
IsArg (Rip d) = FitsSigned w32 d

abbrev pub in_memory : Arg → Bool
in_memory (Reg r) = false
in_memory (Base b) = true
in_memory (Base8 b d) = true
in_memory (Base32 b d) = true
in_memory (Rip d) = true

-- The conditions O to NS and L to G. The two between them, 10 and 11, read the parity flag, which the table
-- leaves out.
abbrev pub IsCondition : ℕ → Type 0
IsCondition c = (c < 16) × (c ≢ 10) × (c ≢ 11)

-- An instruction is valid where the table has its form with these numbers and this operand.
abbrev pub IsValid : Insn → Type 0
IsValid (MovTo m r) = IsArg m × (r < 16)
IsValid (MovFrom r m) = IsArg m × (r < 16)
IsValid (MovNumber m n) = IsArg m × FitsSigned w32 n
IsValid (MovWord r n) = (r < 16) × FitsSigned w64 n
IsValid (StoreByte m r) = IsArg m × (r < 16) × (in_memory m ≡ true)
IsValid (LoadByte r m) = IsArg m × (r < 16) × (in_memory m ≡ true)
IsValid (Lea r m) = IsArg m × (r < 16) × (in_memory m ≡ true)
IsValid (AddTo m r) = IsArg m × (r < 16)
IsValid (OrTo m r) = IsArg m × (r < 16)
IsValid (AndTo m r) = IsArg m × (r < 16)
IsValid (SubTo m r) = IsArg m × (r < 16)
IsValid (XorTo m r) = IsArg m × (r < 16)
IsValid (CmpTo m r) = IsArg m × (r < 16)
IsValid (AddFrom r m) = IsArg m × (r < 16)
IsValid (OrFrom r m) = IsArg m × (r < 16)
IsValid (AndFrom r m) = IsArg m × (r < 16)
IsValid (SubFrom r m) = IsArg m × (r < 16)
IsValid (XorFrom r m) = IsArg m × (r < 16)
IsValid (CmpFrom r m) = IsArg m × (r < 16)
IsValid (AddNumber m n) = IsArg m × FitsSigned w32 n
IsValid (OrNumber m n) = IsArg m × FitsSigned w32 n
IsValid (AndNumber m n) = IsArg m × FitsSigned w32 n
IsValid (SubNumber m n) = IsArg m × FitsSigned w32 n
IsValid (XorNumber m n) = IsArg m × FitsSigned w32 n
IsValid (CmpNumber m n) = IsArg m × FitsSigned w32 n
IsValid (AddNumber8 m n) = IsArg m × FitsSigned w8 n
IsValid (OrNumber8 m n) = IsArg m × FitsSigned w8 n
IsValid (AndNumber8 m n) = IsArg m × FitsSigned w8 n
IsValid (SubNumber8 m n) = IsArg m × FitsSigned w8 n
IsValid (XorNumber8 m n) = IsArg m × FitsSigned w8 n
IsValid (CmpNumber8 m n) = IsArg m × FitsSigned w8 n
IsValid (TestTo m r) = IsArg m × (r < 16)
IsValid (Imul r m) = IsArg m × (r < 16)
IsValid (Neg m) = IsArg m
IsValid (Idiv m) = IsArg m
IsValid Cqo = Unit {0}
IsValid (Shl m k) = IsArg m × (k < 64)
IsValid (Shr m k) = IsArg m × (k < 64)
IsValid (Sar m k) = IsArg m × (k < 64)
IsValid (Jump d) = FitsSigned w32 d
IsValid (Jump8 d) = FitsSigned w8 d
IsValid (JumpTo m) = IsArg m
IsValid (JumpIf c d) = IsCondition c × FitsSigned w32 d
IsValid (JumpIf8 c d) = IsCondition c × FitsSigned w8 d
IsValid Syscall = Unit {0}

-- All these instructions are valid.
abbrev pub AllValid : List Insn → Type 0
AllValid [] = Unit {0}
AllValid (i ∷ is) = IsValid i × AllValid is

-- A list of bytes is the spelling of an instruction that there is.
pub record Spells (i : Insn) (bs : List ℕ) : Type 0 where
  pub valid : IsValid i
  pub same : bs ≡ spelling i

-- Each element is a byte.
abbrev pub AreBytes : List ℕ → Type 0
AreBytes bs = All (λ b. b < 256) bs
