-- Comparisons and arithmetic (R5RS 6.2.5): the operands are in RAX and RCX; the labels from n to n + 3 are theirs.
use Rattle.std.specs.Prelude.{ℕ, ◌+◌, List, ◌∷◌, pos}
use Rattle.sch_word.specs.declared.stop.Stop.TheVariants.{DivideByZero}
use Rattle.sch_insn.specs.declared.condition.TheConstants.{E, L, GE}
use Rattle.sch_insn.specs.declared.insn.Arg.TheVariants.{Reg}
use Rattle.sch_insn.specs.declared.insn.Insn.TheVariants.{AddTo, CmpTo, CmpNumber, Idiv, Cqo}
use Rattle.sch_word.specs.declared.registers.TheConstants.{RAX, RCX}
use Rattle.sch_asm.specs.declared.item.Item.{Item}
use Rattle.sch_asm.specs.declared.item.Item.TheVariants.{Label, Plain, Jump, JumpIf}
use Rattle.sch_select_memory.specs.Addresses.{stop_label}
use Rattle.sch_select_memory.specs.Checks.{check_fixnum, boolean_code}

abbrev pub compare_code : (n condition : ℕ) → List Item → List Item
compare_code n condition rest = Plain (CmpTo (Reg RAX) RCX) ∷ boolean_code n condition rest

abbrev pub comparison_code : (n condition : ℕ) → List Item → List Item
comparison_code n condition rest = check_fixnum RAX (check_fixnum RCX (compare_code n condition rest))

-- the quotient into RAX and the remainder into RDX, or stop 69
abbrev pub division_code : List Item → List Item
division_code rest =
    check_fixnum RAX (check_fixnum RCX
    (Plain (CmpNumber (Reg RCX) (pos 0)) ∷ (JumpIf E (stop_label DivideByZero) ∷
    (Plain Cqo ∷ (Plain (Idiv (Reg RCX)) ∷ rest)))))

-- RAX has a remainder: the divisor is added where their signs differ
abbrev pub modulo_code : (n : ℕ) → List Item → List Item
modulo_code n rest =
    Plain (CmpNumber (Reg RAX) (pos 0)) ∷ (JumpIf E n ∷ (JumpIf L (n + 1)
    ∷ (Plain (CmpNumber (Reg RCX) (pos 0)) ∷ (JumpIf GE n ∷ (Jump (n + 2)
    ∷ (Label (n + 1) ∷ (Plain (CmpNumber (Reg RCX) (pos 0)) ∷ (JumpIf L n
    ∷ (Label (n + 2) ∷ (Plain (AddTo (Reg RAX) RCX) ∷ (Label n ∷ rest)))))))))))
