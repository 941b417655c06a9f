use Rattle.std.proofs.Common.{◌≡◌, [], ◌∷◌, ◌++◌, ap, sym, ◌∙◌, subst}
use Rattle.sch_word.specs.values.LiteralView.{literal}
use Rattle.sch_word.specs.values.LiteralParts.{parts, plain}
use Rattle.sch_word.proofs.values.LiteralSteps.{list_entered, vector_entered}
use Rattle.sch_word.proofs.literal_order.enter_parts.Goals as goal

pub returns-in_ok-enter-in-List-2 : goal.returns-in_ok-enter-in-List-2
returns-in_ok-enter-in-List-2 c =
    let f : c.enter.new.self ≡ c.in-List.tail.value ∷ c.args.left.now =
    c.in_ok-enter-in-List.ensures ∙ ap (λ l. l ++ c.args.left.now) (c.from_ref.ensures.value ∙ ap (λ x. x ∷ []) c.deref-end.ensures) in
    let s : c.enter-in-List.new.self ≡ c.in-List.items ++ c.enter.new.self = c.in_ok-enter-in-List-2.ensures ∙ ap (λ l. l ++ c.enter.new.self) c.as_slice.ensures in
    subst (λ l. plain c.enter-in-List.new.self ≡ parts (literal l) ++ plain c.args.left.now) (sym c.in-List.is)
    (list_entered c.in-List.items c.enter.new.self c.enter-in-List.new.self c.in-List.tail.value c.args.left.now f s)

pub returns-in_ok-enter-in-Vector : goal.returns-in_ok-enter-in-Vector
returns-in_ok-enter-in-Vector c =
    let s : c.enter-in-Vector.new.self ≡ c.in-Vector.items ++ c.args.left.now = c.in_ok-enter-in-Vector.ensures ∙ ap (λ l. l ++ c.args.left.now) c.as_slice-in-Vector.ensures in
    subst (λ l. plain c.enter-in-Vector.new.self ≡ parts (literal l) ++ plain c.args.left.now) (sym c.in-Vector.is)
    (vector_entered c.in-Vector.items c.enter-in-Vector.new.self c.args.left.now s)
