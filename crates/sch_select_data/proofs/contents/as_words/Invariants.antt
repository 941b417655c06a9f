use Rattle.std.proofs.Common.{◌≡◌, map, take}
use Rattle.sch_asm.specs.declared.assembly.Word.TheVariants.{Fixed}
use Rattle.sch_select_data.proofs.contents.as_words.Given as goal

abbrev pub invariant-loop-n : goal.invariant-loop-n
invariant-loop-n l = l.words ≡ map Fixed (take l.n-index l.n-items)
