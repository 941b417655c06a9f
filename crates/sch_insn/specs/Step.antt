-- What a machine does: one row for each instruction, that of the kernel's call among them.
-- Source: Intel SDM, volume 2, the pages of the mnemonics; Linux on x86-64, the calls `write` (1) and
-- `exit` (60) (System V ABI, AMD64 supplement, appendix A.2).
use Rattle.std.specs.Prelude.{ℕ, zero, suc, ◌+◌, ◌-◌, ◌*◌, ◌/◌, ◌%◌, ◌^◌, min, List, [], ◌∷◌, ◌++◌, length, take, Bool, cond, ◌&&◌, nat_lt, nat_le, ◌==◌}
use Rattle.std.specs.Prelude.{Option, Some, None, ℤ, Result, Ok, Err, bit_and, bit_or, bit_xor}
use Rattle.sch_word.specs.values.Memory.{Segment}
use Rattle.sch_word.specs.declared.answer.Answer.{Answer}
use Rattle.sch_word.specs.declared.answer.Answer.TheVariants.{Took, Failed}
use Rattle.sch_insn.specs.declared.insn.Arg.{Arg}
use Rattle.sch_insn.specs.declared.insn.Insn.{Insn}
use Rattle.sch_insn.specs.declared.insn.Insn.TheVariants.{MovTo, MovFrom, MovNumber, MovWord, StoreByte, LoadByte, Lea, AddTo, OrTo, AndTo, SubTo, XorTo, CmpTo}
use Rattle.sch_insn.specs.declared.insn.Insn.TheVariants.{AddFrom, OrFrom, AndFrom, SubFrom, XorFrom, CmpFrom, AddNumber, OrNumber, AndNumber, SubNumber}
use Rattle.sch_insn.specs.declared.insn.Insn.TheVariants.{XorNumber, CmpNumber, AddNumber8, OrNumber8, AndNumber8, SubNumber8, XorNumber8, CmpNumber8}
use Rattle.sch_insn.specs.declared.insn.Insn.TheVariants.{TestTo, Imul, Neg, Idiv, Cqo, Shl, Shr, Sar, Jump, Jump8, JumpTo, JumpIf, JumpIf8, Syscall}
use Rattle.sch_insn.specs.declared.state.StuckCause.{StuckCause}
use Rattle.sch_word.specs.declared.registers.TheConstants.{RAX, RCX, RDX, RSI, RDI, R11}
use Rattle.sch_insn.specs.declared.state.StuckCause.TheVariants.{Fetch, Flag, Divide, Kernel}
use Rattle.sch_insn.specs.Decode.{decode}
use Rattle.sch_word.specs.values.Options.{when_some, first_or_0, when_ok, rest_of}
use Rattle.sch_insn.specs.Machine.{Core, State, Computed, with_register, with_flags, with_place, word, add64, is_negative, magnitude, differ, signed}
use Rattle.sch_insn.specs.Machine.{bytes_from, byte_at, write_bytes, address_of, load, store, unknown_flags, sum_of, difference_of, bits_of, product_of}
use Rattle.sch_insn.specs.Machine.{shifted, shift_right_signed, condition, set_register}
use Rattle.sch_insn.specs.declared.system_call.TheConstants.{SYS_EXIT, SYS_WRITE, STDOUT}

-- What a machine has come to: it runs on; it has exited with a status, from a state that stays as it was;
-- or it is stuck in a state that has no row.
pub data Progress : Type 0 where
  Runs : (state : State) → Progress
  Exited : (status : ℕ) (state : State) → Progress
  Stuck : (cause : StuckCause) (state : State) → Progress

-- ---- the shapes of the rows

-- The operand becomes what is computed from its word.
abbrev pub change : Core → Arg → (ℕ → Computed) → Result Core StuckCause
change c m f = when_ok (load c m) (λ v. when_ok (store c m (f v).value) (λ d. Ok (with_flags (f v).flags d)))

-- The register becomes what is computed from the operand's word.
abbrev pub gather : Core → ℕ → Arg → (ℕ → Computed) → Result Core StuckCause
gather c r m f = when_ok (load c m) (λ v. Ok (with_flags (f v).flags (with_register r (f v).value c)))

-- Only the flags change.
abbrev pub compare : Core → Arg → (ℕ → Computed) → Result Core StuckCause
compare c m f = when_ok (load c m) (λ v. Ok (with_flags (f v).flags c))

-- SDM, IDIV: rdx:rax by the divisor, truncated toward zero; the remainder has the sign of the dividend.
abbrev pub is_quotient : Bool → ℕ → Bool
is_quotient negative q = cond negative (nat_le q (2 ^ 63)) (nat_lt q (2 ^ 63))

abbrev pub dividend_magnitude : ℕ → ℕ → ℕ
dividend_magnitude high low = cond (is_negative high) (2 ^ 128 - (2 ^ 64 * high + low)) (2 ^ 64 * high + low)

abbrev pub quotient_of : ℕ → ℕ → ℕ → Result (ℕ × ℕ) StuckCause
quotient_of high low v =
    let q = dividend_magnitude high low / magnitude v in
    let r = dividend_magnitude high low % magnitude v in
    let negative = differ (is_negative high) (is_negative v) in
    cond (v == 0) (Err Divide)
    (cond (is_quotient negative q) (Ok (signed negative q, signed (is_negative high) r)) (Err Divide))

abbrev pub divide : Core → ℕ → Result Core StuckCause
divide c v = when_ok (quotient_of (c.registers RDX) (c.registers RAX) v) (λ p. Ok (with_flags unknown_flags (with_register RDX p.1 (with_register RAX p.0 c))))

-- SDM, CQO: rdx becomes the sign of rax in every bit.
abbrev pub sign_word : ℕ → ℕ
sign_word a = cond (is_negative a) (2 ^ 64 - 1) 0

abbrev pub jump_if : Core → ℤ → Option Bool → Result Core StuckCause
jump_if c d None = Err Flag
jump_if c d (Some holds) = Ok (with_place (cond holds (add64 c.place (word d)) c.place) c)

-- ---- the kernel

-- After a write rax has the answer, rcx and r11 have the next two spare words, or 0, every flag is
-- unknown, and the bytes taken have joined the output.
abbrev pub after_write : State → ℕ → ℕ → List ℕ → List Answer → State
after_write s next rax taken left =
    record {
      core = record {
        registers = set_register (set_register (set_register s.core.registers RAX rax) RCX (first_or_0 s.spare)) R11 (first_or_0 (rest_of s.spare));
        flags = unknown_flags;
        place = next;
        segments = s.core.segments;
      };
      output = s.output ++ taken;
      answers = left;
      spare = rest_of (rest_of s.spare);
    }

-- A piece against the next answer: as many bytes as it names, at most all; minus 5, which is an input or
-- output error; and past the last answer the whole piece.
abbrev pub answered : State → ℕ → List ℕ → List Answer → State
answered s next piece [] = after_write s next (length piece) piece []
answered s next piece (Took k ∷ left) = after_write s next (min k (length piece)) (take (min k (length piece)) piece) left
answered s next piece (Failed ∷ left) = after_write s next (2 ^ 64 - 5) [] left

abbrev pub piece_written : State → ℕ → ℕ → Option (List ℕ) → Progress
piece_written s next n None = Stuck (Kernel (s.core.registers RAX)) s
piece_written s next n (Some bs) = Runs (answered s next (take n bs) s.answers)

-- `write` of n bytes from rsi on. No bytes have to lie anywhere, and use no answer.
abbrev pub write_row : State → ℕ → ℕ → Progress
write_row s next zero = Runs (after_write s next 0 [] s.answers)
write_row s next (suc n) = piece_written s next (suc n) (bytes_from (λ g. g.readable) s.core.segments (s.core.registers RSI) (suc n))

-- An exit has the low byte of RDI as its status, and what goes to the standard output is written; nothing else has a row.
abbrev pub kernel : State → ℕ → Progress
kernel s next =
    cond (s.core.registers RAX == SYS_EXIT) (Exited (s.core.registers RDI % 256) s)
    (cond ((s.core.registers RAX == SYS_WRITE) && (s.core.registers RDI == STDOUT)) (write_row s next (s.core.registers RDX))
    (Stuck (Kernel (s.core.registers RAX)) s))

-- ---- the table

-- A row changes the core, whose place is already that of the next instruction; or it calls the kernel, to
-- which that place is told beside the state.
pub data Row : Type 0 where
  Acts : (act : Core → Result Core StuckCause) → Row
  Calls : (call : State → (next : ℕ) → Progress) → Row

abbrev pub row : Insn → Row
row (MovTo m r) = Acts (λ c. store c m (c.registers r))
row (MovFrom r m) = Acts (λ c. when_ok (load c m) (λ v. Ok (with_register r v c)))
row (MovNumber m n) = Acts (λ c. store c m (word n))
row (MovWord r n) = Acts (λ c. Ok (with_register r (word n) c))
row (StoreByte m r) = Acts (λ c. write_bytes c (address_of c m) (c.registers r % 256 ∷ []))
row (LoadByte r m) = Acts (λ c. when_ok (byte_at c.segments (address_of c m)) (λ v. Ok (with_register r v c)))
row (Lea r m) = Acts (λ c. Ok (with_register r (address_of c m) c))
row (AddTo m r) = Acts (λ c. change c m (λ v. sum_of v (c.registers r)))
row (OrTo m r) = Acts (λ c. change c m (λ v. bits_of (bit_or v (c.registers r))))
row (AndTo m r) = Acts (λ c. change c m (λ v. bits_of (bit_and v (c.registers r))))
row (SubTo m r) = Acts (λ c. change c m (λ v. difference_of v (c.registers r)))
row (XorTo m r) = Acts (λ c. change c m (λ v. bits_of (bit_xor v (c.registers r))))
row (CmpTo m r) = Acts (λ c. compare c m (λ v. difference_of v (c.registers r)))
row (AddFrom r m) = Acts (λ c. gather c r m (λ v. sum_of (c.registers r) v))
row (OrFrom r m) = Acts (λ c. gather c r m (λ v. bits_of (bit_or (c.registers r) v)))
row (AndFrom r m) = Acts (λ c. gather c r m (λ v. bits_of (bit_and (c.registers r) v)))
row (SubFrom r m) = Acts (λ c. gather c r m (λ v. difference_of (c.registers r) v))
row (XorFrom r m) = Acts (λ c. gather c r m (λ v. bits_of (bit_xor (c.registers r) v)))
row (CmpFrom r m) = Acts (λ c. compare c m (λ v. difference_of (c.registers r) v))
row (AddNumber m n) = Acts (λ c. change c m (λ v. sum_of v (word n)))
row (OrNumber m n) = Acts (λ c. change c m (λ v. bits_of (bit_or v (word n))))
row (AndNumber m n) = Acts (λ c. change c m (λ v. bits_of (bit_and v (word n))))
row (SubNumber m n) = Acts (λ c. change c m (λ v. difference_of v (word n)))
row (XorNumber m n) = Acts (λ c. change c m (λ v. bits_of (bit_xor v (word n))))
row (CmpNumber m n) = Acts (λ c. compare c m (λ v. difference_of v (word n)))
row (AddNumber8 m n) = Acts (λ c. change c m (λ v. sum_of v (word n)))
row (OrNumber8 m n) = Acts (λ c. change c m (λ v. bits_of (bit_or v (word n))))
row (AndNumber8 m n) = Acts (λ c. change c m (λ v. bits_of (bit_and v (word n))))
row (SubNumber8 m n) = Acts (λ c. change c m (λ v. difference_of v (word n)))
row (XorNumber8 m n) = Acts (λ c. change c m (λ v. bits_of (bit_xor v (word n))))
row (CmpNumber8 m n) = Acts (λ c. compare c m (λ v. difference_of v (word n)))
row (TestTo m r) = Acts (λ c. compare c m (λ v. bits_of (bit_and v (c.registers r))))
row (Imul r m) = Acts (λ c. gather c r m (λ v. product_of (c.registers r) v))
row (Neg m) = Acts (λ c. change c m (λ v. difference_of 0 v))
row (Idiv m) = Acts (λ c. when_ok (load c m) (divide c))
row Cqo = Acts (λ c. Ok (with_register RDX (sign_word (c.registers RAX)) c))
row (Shl m k) = Acts (λ c. change c m (λ v. shifted (v * 2 ^ k % 2 ^ 64)))
row (Shr m k) = Acts (λ c. change c m (λ v. shifted (v / 2 ^ k)))
row (Sar m k) = Acts (λ c. change c m (λ v. shifted (shift_right_signed v k)))
row (Jump d) = Acts (λ c. Ok (with_place (add64 c.place (word d)) c))
row (Jump8 d) = Acts (λ c. Ok (with_place (add64 c.place (word d)) c))
row (JumpTo m) = Acts (λ c. when_ok (load c m) (λ v. Ok (with_place v c)))
row (JumpIf n d) = Acts (λ c. jump_if c d (condition c.flags n))
row (JumpIf8 n d) = Acts (λ c. jump_if c d (condition c.flags n))
row Syscall = Calls kernel

-- ---- steps

abbrev pub with_core : State → Core → State
with_core s c = record { core = c; output = s.output; answers = s.answers; spare = s.spare }

abbrev pub moved : State → Result Core StuckCause → Progress
moved s (Ok c) = Runs (with_core s c)
moved s (Err cause) = Stuck cause s

abbrev pub done : Row → (next : ℕ) → State → Progress
done (Acts act) next s = moved s (act (with_place next s.core))
done (Calls call) next s = call s next

-- One instruction in a state, where `next` is the address after it.
abbrev pub perform : Insn → (next : ℕ) → State → Progress
perform i next s = done (row i) next s

-- The instruction at an address, which lies in one executable segment, and its length.
abbrev pub fetch : List Segment → ℕ → Option (Insn × ℕ)
fetch gs p = when_some (bytes_from (λ g. g.executable) gs p 1) decode

-- What stands behind the instruction is the next place. No segment of an image reaches beyond 2^47, so
-- this sum never passes 64 bits.
abbrev pub fetched : State → Option (Insn × ℕ) → Progress
fetched s None = Stuck Fetch s
fetched s (Some p) = perform p.0 (s.core.place + p.1) s

abbrev pub step : State → Progress
step s = fetched s (fetch s.core.segments s.core.place)

abbrev pub go_on : Progress → (State → Progress) → Progress
go_on (Runs s) f = f s
go_on (Exited status s) f = Exited status s
go_on (Stuck cause s) f = Stuck cause s

-- A state is stuck where it has no row, whether a step is tried or not.
abbrev pub standing : State → Progress → Progress
standing s (Runs t) = Runs s
standing s (Exited status t) = Runs s
standing s (Stuck cause t) = Stuck cause t

-- The bounded run: what a machine has come to after at most n steps. It has exited, is stuck, or runs on.
abbrev pub mach : ℕ → State → Progress
mach zero s = standing s (step s)
mach (suc n) s = go_on (step s) (mach n)
