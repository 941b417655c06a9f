-- Literals of lists of the program's own type.
use Rattle.std.proofs.Common.{◌≡◌, List, length, sym, ◌∙◌}
use Rattle.sch_word.specs.declared.literal.Lit.{Lit}
use Rattle.sch_word.specs.values.Literals.{count_literals}
use Rattle.sch_word.specs.values.LiteralView.{literals_of}
use Rattle.sch_word.proofs.values.LiteralSteps.{each_count, plain_count}

pub count_rows : (ls : List Lit) → count_literals (literals_of ls) ≡ length ls
count_rows ls = sym (each_count (literals_of ls)) ∙ plain_count ls
