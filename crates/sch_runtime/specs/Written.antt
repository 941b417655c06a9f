-- Which instructions write their operand, where that is in memory (SDM volume 2, the page of each mnemonic).
use Rattle.std.specs.Prelude.{Bool, false}
use Rattle.sch_insn.specs.declared.insn.Arg.{Arg}
use Rattle.sch_insn.specs.declared.insn.Insn.{Insn}
use Rattle.sch_insn.specs.declared.insn.Insn.TheVariants as insn

-- whether an instruction writes an operand of which the test holds
abbrev pub writes_where : (is_such : Arg → Bool) → Insn → Bool
writes_where is_such (insn.MovTo m r) = is_such m
writes_where is_such (insn.MovNumber m n) = is_such m
writes_where is_such (insn.StoreByte m r) = is_such m
writes_where is_such (insn.AddTo m r) = is_such m
writes_where is_such (insn.OrTo m r) = is_such m
writes_where is_such (insn.AndTo m r) = is_such m
writes_where is_such (insn.SubTo m r) = is_such m
writes_where is_such (insn.XorTo m r) = is_such m
writes_where is_such (insn.AddNumber m n) = is_such m
writes_where is_such (insn.OrNumber m n) = is_such m
writes_where is_such (insn.AndNumber m n) = is_such m
writes_where is_such (insn.SubNumber m n) = is_such m
writes_where is_such (insn.XorNumber m n) = is_such m
writes_where is_such (insn.AddNumber8 m n) = is_such m
writes_where is_such (insn.OrNumber8 m n) = is_such m
writes_where is_such (insn.AndNumber8 m n) = is_such m
writes_where is_such (insn.SubNumber8 m n) = is_such m
writes_where is_such (insn.XorNumber8 m n) = is_such m
writes_where is_such (insn.Neg m) = is_such m
writes_where is_such (insn.Shl m k) = is_such m
writes_where is_such (insn.Shr m k) = is_such m
writes_where is_such (insn.Sar m k) = is_such m
writes_where is_such _ = false
