-- What has a displacement or a number of one byte does what the same has in four.
use Rattle.std.proofs.Common.{◌≡◌, ℕ, refl}
use Rattle.std.specs.Prelude.{ℤ}
use Rattle.sch_insn.specs.declared.insn.Arg.{Arg}
use Rattle.sch_insn.specs.declared.insn.Arg.TheVariants.{Base8, Base32}
use Rattle.sch_insn.specs.declared.insn.Insn.TheVariants.{AddNumber, OrNumber, AndNumber, SubNumber, XorNumber, CmpNumber, AddNumber8, OrNumber8, AndNumber8, SubNumber8, XorNumber8, CmpNumber8, Jump, Jump8, JumpIf, JumpIf8}
use Rattle.sch_insn.specs.Machine.{Core, address_of, load, store}
use Rattle.sch_insn.specs.Step.{row}

pub short_numbers : (m : Arg) (n : ℤ) → (row (AddNumber8 m n) ≡ row (AddNumber m n)) × (row (OrNumber8 m n) ≡ row (OrNumber m n)) × (row (AndNumber8 m n) ≡ row (AndNumber m n))
    × (row (SubNumber8 m n) ≡ row (SubNumber m n)) × (row (XorNumber8 m n) ≡ row (XorNumber m n)) × (row (CmpNumber8 m n) ≡ row (CmpNumber m n))
short_numbers m n = (refl, refl, refl, refl, refl, refl)

pub short_jumps : (c : ℕ) (d : ℤ) → (row (Jump8 d) ≡ row (Jump d)) × (row (JumpIf8 c d) ≡ row (JumpIf c d))
short_jumps c d = (refl, refl)

pub short_displacements : (c : Core) (b : ℕ) (d : ℤ) → (address_of c (Base8 b d) ≡ address_of c (Base32 b d)) × (load c (Base8 b d) ≡ load c (Base32 b d))
    × ((v : ℕ) → store c (Base8 b d) v ≡ store c (Base32 b d) v)
short_displacements c b d = (refl, refl, λ v. refl)
