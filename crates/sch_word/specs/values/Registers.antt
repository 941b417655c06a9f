-- The registers of compiled code, by their numbers (Intel SDM, volume 2, section 3.1.1.1).
use Rattle.std.specs.Prelude.{ℕ, List, [], ◌∷◌, ◌++◌}
use Rattle.sch_word.specs.declared.registers.TheConstants.{ARGUMENT_REGISTERS, CLOSURE_REGISTER, LINK_REGISTER}

-- where variables live, and where the first operands of a call arrive, in this order: RBX, R8, R9, R10, RSI and RDI
abbrev pub argument_registers : List ℕ
argument_registers = ARGUMENT_REGISTERS

-- what a body may read and write: these, and where its closure and its return address arrive
abbrev pub body_registers : List ℕ
body_registers = argument_registers ++ CLOSURE_REGISTER ∷ LINK_REGISTER ∷ []
