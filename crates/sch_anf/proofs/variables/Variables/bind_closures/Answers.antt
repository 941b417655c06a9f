use Rattle.std.proofs.Common.{◌∙◌, Result, Ok, Err, ap}
use Rattle.std.specs.Prelude.{OnOk}
use Rattle.sch_word.specs.trees.Bindings.{numbers, with_variables}
use Rattle.sch_flat.specs.View.{made}
use Rattle.sch_anf.specs.ScopeTable.{scope_of}
use Rattle.sch_anf.proofs.BindingLists.{numbers_are}
use Rattle.sch_anf.proofs.variables.Variables.bind_closures.Goals as goal

on_ok : {A E P Q : Type 0} (r : Result A E) → OnOk r P → (P → Q) → OnOk r Q
on_ok (Ok a) h f = f h
on_ok (Err e) h f = h

pub returns-clause-scope : goal.returns-clause-scope
returns-clause-scope c =
    let v = c.args.self.now in
    on_ok c.bind_group.result c.bind_group.ensures.scope
    (λ h. h ∙ ap (λ n. with_variables c.args.first (numbers v.next n) (scope_of v.bound.items)) c.len.ensures
    ∙ ap (λ ns. with_variables c.args.first ns (scope_of v.bound.items)) (numbers_are made c.args.closures.now v.next))
