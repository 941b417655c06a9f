use Rattle.sch_anf.proofs.ScopeTables.{longer_table}
use Rattle.sch_anf.proofs.variables.Variables.make_room.Goals as goal

pub invariant_of-self : goal.invariant_of-self
invariant_of-self c = let v = c.args.self.now in record { tabled = longer_table v.table.items c.lengthen.new.table.items v.bound.items _ c.lengthen.ensures.zeros v.tabled }
