use Rattle.std.proofs.Common.{◌≡◌, ◌<◌, ℕ}
use Rattle.std.specs.Prelude.{filter}
use Rattle.sch_elf.specs.Elf.{first_headers, is_load}
use Rattle.sch_elf.specs.Stands.{IsSound}
use Rattle.sch_elf.proofs.read.read_loads.Given as goal

abbrev pub invariant-loop-index : goal.invariant-loop-index
invariant-loop-index l = (l.loads.items ≡ filter is_load (first_headers l.file l.index)) × ((i : ℕ) → i < l.index → IsSound l.file i)
