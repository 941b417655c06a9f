-- Literals that are made, the first one first.
use Rattle.std.specs.Prelude.{List, reverse}
use Rattle.sch_word.specs.declared.made_literals.MadeLiterals.{MadeLiterals}
use Rattle.sch_word.specs.values.Literals.{Literal}
use Rattle.sch_word.specs.values.LiteralParts.{plain}

abbrev pub made : MadeLiterals → List Literal
made ls = reverse (plain ls.items.items)
