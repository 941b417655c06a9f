use Rattle.std.proofs.Common.{ap, sym, ◌∙◌, ◌++◌, ◌∷◌, [], Some}
use Rattle.std.specs.Option.{option_flatten}
use Rattle.sch_names.specs.declared.scope.Binding.{Binding}
use Rattle.sch_names.proofs.ScopeLists.{tabled_more}
use Rattle.sch_names.proofs.scope.Scope.bind_name.Goals as goal

pub invariant_of-self-2 : goal.invariant_of-self-2
invariant_of-self-2 c =
    let b : Binding = record { name = c.in_ok-name.name; shadowed = c.flatten-shadowed.result } in
    tabled_more c.self.inside _ b c.in_ok-key.key c.len-depth.result
    (c.in_ok-push.ensures.items ∙ ap (λ l. l ++ Some b ∷ []) c.reserve.ensures.items)
    (c.in_ok-key.ensures.items ∙ sym c.in_ok-name.ensures.items)
    (c.len-depth.ensures ∙ c.self.inside.bound.ok.0)
    (c.flatten-shadowed.ensures ∙ ap option_flatten c.in_ok-insert.ensures.old)
    c.in_ok-insert.ensures.entries c.self.invariant
