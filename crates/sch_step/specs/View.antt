-- A processor of the program as a core of the definitions.
use Rattle.std.specs.Prelude.{◌≡◌, ℕ, Result, Ok, Err, OnErr}
use Rattle.sch_insn.specs.declared.state.Flags.{Flags}
use Rattle.sch_insn.specs.declared.state.StuckCause.{StuckCause}
use Rattle.sch_insn.specs.declared.insn.Insn.{Insn}
use Rattle.sch_insn.specs.declared.state.StuckCause.TheVariants.{Kernel}
use Rattle.sch_word.specs.declared.registers.TheConstants.{RAX}
use Rattle.sch_insn.specs.Step.{Row, Acts, Calls, row}
use Rattle.sch_insn.specs.Machine.{Core, registers_of, with_place, unknown_flags, sum_of, difference_of, bits_of, product_of}
use Rattle.sch_step.specs.declared.flags.LastFlags.{LastFlags}
use Rattle.sch_step.specs.declared.flags.LastFlags.TheVariants.{Unknown, Sum, Difference, Bits, Product}
use Rattle.sch_step.specs.declared.processor.Processor.{Processor}
use Rattle.sch_step.specs.Layout.{segments_view}

-- The flags that an operation has left, from its operands or its result.
abbrev pub flags_of : LastFlags → Flags
flags_of Unknown = unknown_flags
flags_of (Sum a b) = (sum_of a b).flags
flags_of (Difference a b) = (difference_of a b).flags
flags_of (Bits r) = (bits_of r).flags
flags_of (Product a b) = (product_of a b).flags

abbrev pub core_of : Processor → Core
core_of m = record { registers = registers_of m.regs; flags = flags_of m.flags; place = m.at; segments = segments_view m.segments }

-- The core after a row that says where it goes on, or why it is stuck.
abbrev pub gone_on : Result ℕ StuckCause → Core → Result Core StuckCause
gone_on (Ok place) c = Ok (with_place place c)
gone_on (Err cause) c = Err cause

-- A row was done, where the next instruction has this address: what comes of the core is this, and where the row is
-- stuck the core is as it was.
pub record Goes (result : Result ℕ StuckCause) (next : ℕ) (before after : Core) (does : Core → Result Core StuckCause) : Type 0 where
  pub value : gone_on result after ≡ does (with_place next before)
  pub same : OnErr result (after ≡ before)

-- The core after a change that was made, or why it was not.
abbrev pub changed : Result Unit StuckCause → Core → Result Core StuckCause
changed (Ok done) c = Ok c
changed (Err cause) c = Err cause

-- What a row does to a core. A call of the kernel is not done so: the code for it stands apart.
abbrev pub acted : Row → Core → Result Core StuckCause
acted (Acts f) c = f c
acted (Calls call) c = Err (Kernel (c.registers RAX))

abbrev pub act : Insn → Core → Result Core StuckCause
act i c = acted (row i) c
