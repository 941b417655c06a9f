use Rattle.std.proofs.Common.{◌-◌, arith, ap, sym, ◌∙◌, Some}
use Rattle.std.specs.Option.{option_flatten}
use Rattle.sch_names.specs.Scope.{find}
use Rattle.sch_names.proofs.ScopeLists.{tabled_found, tabled_missing}
use Rattle.sch_names.proofs.scope.Scope.find.Goals as goal

pub overflow_sub-result : goal.overflow_sub-result
overflow_sub-result c =
    let f = tabled_found c.self.inside c.args.x.now c.flatten.result c.in-Some.farther c.self.invariant (c.flatten.ensures ∙ ap option_flatten (c.copied.ensures ∙ c.get.ensures.value)) c.in-Some.is in
    let within = f.0 in
    let size = c.len.ensures ∙ c.self.inside.bound.ok.0 in
    omega (arith, within, size)

pub overflow_sub-result-in-Some : goal.overflow_sub-result-in-Some
overflow_sub-result-in-Some c =
    let f = tabled_found c.self.inside c.args.x.now c.flatten.result c.in-Some.farther c.self.invariant (c.flatten.ensures ∙ ap option_flatten (c.copied.ensures ∙ c.get.ensures.value)) c.in-Some.is in
    let within = f.0 in
    let size = c.len.ensures ∙ c.self.inside.bound.ok.0 in
    omega (arith, within, size)

pub returns-in-Some : goal.returns-in-Some
returns-in-Some c =
    let f = tabled_found c.self.inside c.args.x.now c.flatten.result c.in-Some.farther c.self.invariant (c.flatten.ensures ∙ ap option_flatten (c.copied.ensures ∙ c.get.ensures.value)) c.in-Some.is in
    let size = c.len.ensures ∙ c.self.inside.bound.ok.0 in
    ap (λ n. Some (n - 1 - c.in-Some.farther)) size ∙ sym f.1 ∙ ap (λ s. find s c.args.x.now) c.self.view_is

pub returns-in-None : goal.returns-in-None
returns-in-None c =
    sym (tabled_missing c.self.inside c.args.x.now c.flatten.result c.self.invariant (c.flatten.ensures ∙ ap option_flatten (c.copied.ensures ∙ c.get.ensures.value)) c.in-None.is) ∙ ap (λ s. find s c.args.x.now) c.self.view_is
