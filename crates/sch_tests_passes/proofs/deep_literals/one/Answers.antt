use Rattle.std.proofs.Common.{◌≡◌, ◌∷◌, [], ◌++◌, ap, ◌∙◌, arith}
use Rattle.sch_word.specs.values.LiteralParts.{sizes, plain}
use Rattle.sch_word.proofs.values.LiteralSteps.{sizes_of}
use Rattle.sch_tests_passes.proofs.deep_literals.one.Goals as goal

pub returns : goal.returns
returns c =
    let all : c.push.new.self ≡ c.args.l ∷ [] = c.in_ok-push.ensures.ok ∙ ap (λ l. l ++ c.args.l ∷ []) c.new-ls.ensures in
    let n = sizes_of c.push.new.self ∙ ap (λ l. sizes (plain l)) all in
    omega (arith, n)
