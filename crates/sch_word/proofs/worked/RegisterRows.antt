-- The registers of compiled code are fifteen different ones of the sixteen; RSP is left.
use Rattle.std.proofs.Common.{◌≡◌, List, [], ◌∷◌, ◌++◌, ℕ, refl}
use Rattle.sch_word.specs.declared.registers.TheConstants.{DEPTH_REGISTER, FRAME_REGISTER, HEAP_REGISTER, SCRATCH_REGISTERS}
use Rattle.sch_word.specs.values.Registers.{argument_registers, body_registers}

rbx_to_rdi : argument_registers ≡ 3 ∷ 8 ∷ 9 ∷ 10 ∷ 6 ∷ 7 ∷ []
rbx_to_rdi = refl

closure_then_link : body_registers ≡ argument_registers ++ 14 ∷ 15 ∷ []
closure_then_link = refl

used : List ℕ
used = body_registers ++ FRAME_REGISTER ∷ HEAP_REGISTER ∷ DEPTH_REGISTER ∷ SCRATCH_REGISTERS

all_but_stack : used ≡ 3 ∷ 8 ∷ 9 ∷ 10 ∷ 6 ∷ 7 ∷ 14 ∷ 15 ∷ 5 ∷ 12 ∷ 13 ∷ 0 ∷ 1 ∷ 2 ∷ 11 ∷ []
unfolding used
all_but_stack = refl
