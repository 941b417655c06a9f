use Rattle.std.proofs.Common.{ap, arith}
use Rattle.sch_word.specs.values.LiteralView.{literal}
use Rattle.sch_select_data.specs.PlacedWords.{own_units}
use Rattle.sch_select_data.proofs.literals.Rows.{count_rows}
use Rattle.sch_select_data.proofs.units.own_units.Goals as goal

pub returns-in-List : goal.returns-in-List
returns-in-List c = let e = ap (λ l. own_units (literal l)) c.in-List.is in omega (arith, e, count_rows c.in-List.items, c.len-in-List.ensures)

pub returns-in-Vector : goal.returns-in-Vector
returns-in-Vector c = let e = ap (λ l. own_units (literal l)) c.in-Vector.is in omega (arith, e, count_rows c.in-Vector.items, c.len-in-Vector.ensures)
