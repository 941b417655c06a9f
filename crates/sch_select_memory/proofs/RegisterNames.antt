-- What compiled code uses each register for, in the names of the instructions (Intel SDM, volume 2, section 3.1.1.1).
use Rattle.std.proofs.Common.{◌≡◌, [], ◌∷◌, refl}
use Rattle.sch_word.specs.declared.registers.TheConstants.{CLOSURE_REGISTER, DEPTH_REGISTER, FRAME_REGISTER, HEAP_REGISTER, LINK_REGISTER, SCRATCH_REGISTERS, RAX, RCX, RDX, RBX, RBP, RSI, RDI, R8, R9, R10, R11, R12, R13, R14, R15}
use Rattle.sch_word.specs.values.Registers.{argument_registers}

arguments_are : argument_registers ≡ RBX ∷ R8 ∷ R9 ∷ R10 ∷ RSI ∷ RDI ∷ []
arguments_are = refl

frame_is : FRAME_REGISTER ≡ RBP
frame_is = refl

heap_is : HEAP_REGISTER ≡ R12
heap_is = refl

depth_is : DEPTH_REGISTER ≡ R13
depth_is = refl

closure_is : CLOSURE_REGISTER ≡ R14
closure_is = refl

link_is : LINK_REGISTER ≡ R15
link_is = refl

scratch_are : SCRATCH_REGISTERS ≡ RAX ∷ RCX ∷ RDX ∷ R11 ∷ []
scratch_are = refl
