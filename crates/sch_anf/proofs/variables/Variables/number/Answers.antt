use Rattle.std.proofs.Common.{◌∙◌, ap, get_or}
use Rattle.sch_anf.proofs.ScopeTables.{number_found}
use Rattle.sch_anf.proofs.variables.Variables.number.Goals as goal

pub returns : goal.returns
returns c =
    let v = c.args.self.now in
    c.entry.ensures ∙ ap (λ t. get_or t c.args.x 0) c.as_slice.ensures.value ∙ number_found v.table.items v.bound.items c.args.x v.tabled
