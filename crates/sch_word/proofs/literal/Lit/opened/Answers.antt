use Rattle.std.proofs.Common.{◌≡◌, ◌+◌, ◌<◌, Some, None, ap, subst, arith}
use Rattle.sch_word.specs.values.Effort.{effort}
use Rattle.sch_word.specs.values.LiteralParts.{plain, sizes, size_next, size_behind}
use Rattle.sch_word.specs.values.LiteralView.{literal}
use Rattle.sch_word.specs.values.Literals.{literal_size}
use Rattle.sch_word.proofs.values.LiteralSteps.{sizes_of}
use Rattle.sch_word.proofs.literal.Lit.opened.Goals as goal

pub returns-in-List-clause-less : goal.returns-in-List-clause-less
returns-in-List-clause-less c =
    let e = ap (λ l. literal_size (literal l)) c.in-List.is in
    let v = ap (λ ls. sizes (plain ls)) c.into_vec.ensures in
    let same : 1 + sizes (plain c.into_vec.result.items) + size_behind (Some c.in-List.tail) ≡ literal_size (literal c.args.self) = omega (arith, e, v, sizes_of c.in-List.items) in
    subst (λ n. effort (size_next c.joined.result.0) (sizes (plain c.joined.result.1.items)) < effort n (sizes (plain c.args.rest.items))) same c.joined.ensures.less

pub returns-in-Vector-clause-less : goal.returns-in-Vector-clause-less
returns-in-Vector-clause-less c =
    let e = ap (λ l. literal_size (literal l)) c.in-Vector.is in
    let v = ap (λ ls. sizes (plain ls)) c.into_vec-in-Vector.ensures in
    let same : 1 + sizes (plain c.into_vec-in-Vector.result.items) + size_behind None ≡ literal_size (literal c.args.self) = omega (arith, e, v, sizes_of c.in-Vector.items) in
    subst (λ n. effort (size_next c.joined-in-Vector.result.0) (sizes (plain c.joined-in-Vector.result.1.items)) < effort n (sizes (plain c.args.rest.items))) same c.joined-in-Vector.ensures.less
