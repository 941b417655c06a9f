use Rattle.std.proofs.Common.{ap, ◌∙◌, ◌++◌, ◌∷◌, []}
use Rattle.sch_names.proofs.ScopeLists.{tabled_less, tabled_last}
use Rattle.sch_names.proofs.scope.Scope.unbind.Goals as goal

pub unreachable-requires : goal.unreachable-requires
unreachable-requires c =
    tabled_last c.self.inside c.in-Some-last.field-0 c.pop.new.self.items
    (c.in-Some.ensures.items ∙ ap (λ b. c.pop.new.self.items ++ b ∷ []) c.in-Some-last.is) c.self.invariant c.in-Err.ensures.absent

pub invariant_of-self-2 : goal.invariant_of-self-2
invariant_of-self-2 c =
    tabled_less c.self.inside _ c.in-Some-last.field-0 (c.in-Some.ensures.items ∙ ap (λ b. c.pop.new.self.items ++ b ∷ []) c.in-Some-last.is)
    c.in_default-insert.ensures.entries c.self.invariant
