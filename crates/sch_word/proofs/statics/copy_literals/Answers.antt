use Rattle.std.proofs.Common.{◌≡◌, [], ◌∷◌, ◌++◌, length, take, sym, ap, ◌∙◌, subst, arith}
use Rattle.std.proofs.lemmas.List.{map-append, append_cancel_left}
use Rattle.std.proofs.lemmas.Result.{IfOk-weaker}
use Rattle.std.proofs.Math.Seq.{take-length}
use Rattle.sch_word.specs.trees.InOrder.{AreInOrder}
use Rattle.sch_word.specs.values.LiteralView.{literal}
use Rattle.sch_word.specs.values.LiteralParts.{parts, plain, lent, lent_literal}
use Rattle.sch_word.specs.values.MadeView.{made}
use Rattle.sch_word.proofs.facts.Lists.{map_length}
use Rattle.sch_word.proofs.facts.TreesInOrder.{ComeBefore, back_begun, parts_there, back_ended}
use Rattle.sch_word.proofs.worked.LiteralRows.{same_literals}
use Rattle.sch_word.proofs.statics.copy_literals.Goals as goal

pub each-init : goal.each-init
each-init c =
    let order = c.in_ok-order.order in
    subst (λ m. ComeBefore parts (lent order) m (plain c.args.ls.now)) (sym c.new-copies.ensures)
    (back_begun parts (lent order) (plain c.args.ls.now) (subst (λ l. AreInOrder parts (lent order) (plain l)) c.as_slice.ensures c.in_ok-order.ensures))

pub copy_literal-requires : goal.copy_literal-requires
copy_literal-requires c =
    let order : lent c.each.order ≡ lent c.pop.new.self ++ literal c.in-Some.l.now ∷ [] =
    ap lent c.in-Some.ensures ∙ map-append lent_literal c.pop.new.self (c.in-Some.l ∷ []) in
    let there = parts_there parts (lent c.pop.new.self) (literal c.in-Some.l.now) (made c.each.copies) (plain c.args.ls.now)
    (subst (λ o. ComeBefore parts o (made c.each.copies) (plain c.args.ls.now)) order c.each.invariant) in
    (there.0, there.1)

pub each-preserved : goal.each-preserved
each-preserved c =
    let l = literal c.in-Some.l.now in
    let order : lent c.each.order ≡ lent c.pop.new.self ++ l ∷ [] = ap lent c.in-Some.ensures ∙ map-append lent_literal c.pop.new.self (c.in-Some.l ∷ []) in
    let there = parts_there parts (lent c.pop.new.self) l (made c.each.copies) (plain c.args.ls.now)
    (subst (λ o. ComeBefore parts o (made c.each.copies) (plain c.args.ls.now)) order c.each.invariant) in
    let rest : there.0 ≡ made c.copy_literal.new.copies = append_cancel_left (parts l) _ _ (sym there.1 ∙ c.in_ok-copy.ensures.taken) in
    subst (λ m. ComeBefore parts (lent c.pop.new.self) m (plain c.args.ls.now))
    (ap (λ r. l ∷ r) rest ∙ ap (λ x. x ∷ made c.copy_literal.new.copies) (sym c.in_ok-copy.ensures.same) ∙ sym c.in_ok-push.ensures) there.2

pub take-requires : goal.take-requires
take-requires c =
    let none = ap lent c.in_default.ensures.0 in
    let all = back_ended parts (made c.each.copies) (plain c.args.ls.now) (subst (λ o. ComeBefore parts o (made c.each.copies) (plain c.args.ls.now)) none c.each.invariant) in
    let n = ap length all in
    let m = c.len.ensures in
    omega (arith, n, m, map_length literal c.args.ls.now)

pub returns : goal.returns
returns c =
    let none = ap lent c.in_default.ensures.0 in
    let all = back_ended parts (made c.each.copies) (plain c.args.ls.now) (subst (λ o. ComeBefore parts o (made c.each.copies) (plain c.args.ls.now)) none c.each.invariant) in
    let whole : take c.len.result (made c.each.copies) ≡ plain c.args.ls.now =
    ap (take c.len.result) all ∙ ap (λ k. take k (plain c.args.ls.now)) (c.len.ensures ∙ sym (map_length literal c.args.ls.now)) ∙ take-length (plain c.args.ls.now) in
    IfOk-weaker c.take.result _ _ (λ copies h. same_literals copies c.args.ls.now (h ∙ whole)) c.take.ensures.taken
