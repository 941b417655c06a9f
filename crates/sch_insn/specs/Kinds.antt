-- Kinds of instructions.
use Rattle.sch_insn.specs.declared.insn.Insn.{Insn}
use Rattle.sch_insn.specs.declared.insn.Insn.TheVariants.{AddNumber, OrNumber, AndNumber, SubNumber, XorNumber, CmpNumber, AddNumber8, OrNumber8, AndNumber8, SubNumber8, XorNumber8, CmpNumber8}

-- An add, a subtraction or a comparison, or one that goes bit by bit, whose second word is a number: with the
-- opcode 81 of four bytes, with 83 of one.
abbrev pub EndsInNumber : Insn → Type 0
EndsInNumber (AddNumber m n) = Unit {0}
EndsInNumber (OrNumber m n) = Unit {0}
EndsInNumber (AndNumber m n) = Unit {0}
EndsInNumber (SubNumber m n) = Unit {0}
EndsInNumber (XorNumber m n) = Unit {0}
EndsInNumber (CmpNumber m n) = Unit {0}
EndsInNumber (AddNumber8 m n) = Unit {0}
EndsInNumber (OrNumber8 m n) = Unit {0}
EndsInNumber (AndNumber8 m n) = Unit {0}
EndsInNumber (SubNumber8 m n) = Unit {0}
EndsInNumber (XorNumber8 m n) = Unit {0}
EndsInNumber (CmpNumber8 m n) = Unit {0}
EndsInNumber _ = ⊥
