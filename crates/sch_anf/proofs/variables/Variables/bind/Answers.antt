use Rattle.std.proofs.Common.{◌∙◌, IsTrue, get_or, set, subst, sym, ap}
use Rattle.sch_anf.specs.declared.variables.Binding.{Binding}
use Rattle.sch_anf.specs.ScopeTable.{is_table}
use Rattle.sch_anf.proofs.ScopeTables.{bound_more}
use Rattle.sch_anf.proofs.variables.Variables.bind.Goals as goal

pub invariant_of-self-2 : goal.invariant_of-self-2
invariant_of-self-2 c =
    let v = c.make_room.new.self in
    let b : Binding = record { variable = c.args.variable; number = c.args.number; before = c.entry-before.result } in
    let pushed = c.in_ok-push.ensures.items in
    record {
      tabled = subst (λ bs. IsTrue (is_table (set v.table.items b.variable b.number) bs)) (sym pushed)
          (bound_more v.table.items v.bound.items b c.in_ok-make_room.ensures.room (c.entry-before.ensures ∙ ap (λ t. get_or t c.args.variable 0) c.as_slice.ensures.value) v.tabled);
    }
