use Rattle.std.proofs.Common.{◌≡◌, ◌∷◌, [], ◌++◌, length, take, drop, sym, ap, ◌∙◌, arith, append_assoc}
use Rattle.sch_word.specs.values.Literals.{list, elements}
use Rattle.sch_word.specs.values.LiteralView.{literal, literals_of}
use Rattle.sch_word.specs.values.LiteralParts.{each_of, parts, plain}
use Rattle.sch_word.specs.values.MadeView.{made}
use Rattle.sch_word.proofs.facts.Lists.{head_same, tail_same}
use Rattle.sch_word.proofs.values.LiteralSteps.{enough, front, behind}
use Rattle.sch_word.proofs.worked.LiteralRows.{same_literals}
use Rattle.sch_word.proofs.statics.copy_literal.Goals as goal

pub take-requires : goal.take-requires
take-requires c =
    let items = c.in-List.items in
    let end = literal c.in-List.field-1.value in
    let h : made c.args.copies.now ≡ each_of (literals_of items) ++ end ∷ c.requires.0 =
    c.requires.1 ∙ ap (λ x. parts (literal x) ++ c.requires.0) c.in-List.is ∙ append_assoc (each_of (literals_of items)) (end ∷ []) c.requires.0 in
    let n = c.len.ensures in
    omega (arith, n, enough items _ _ h)

pub pop-requires : goal.pop-requires
pop-requires c =
    let items = c.in-List.items in
    let end = literal c.in-List.field-1.value in
    let h : made c.args.copies.now ≡ each_of (literals_of items) ++ end ∷ c.requires.0 =
    c.requires.1 ∙ ap (λ x. parts (literal x) ++ c.requires.0) c.in-List.is ∙ append_assoc (each_of (literals_of items)) (end ∷ []) c.requires.0 in
    let left : made c.take.new.self ≡ end ∷ c.requires.0 =
    c.in_ok-items-in-List.ensures.left ∙ ap (λ k. drop k (made c.args.copies.now)) c.len.ensures ∙ behind items _ _ h in
    let n = ap length left in
    omega (arith, n)

pub take-requires-in-Vector : goal.take-requires-in-Vector
take-requires-in-Vector c =
    let items = c.in-Vector.items in
    let h : made c.args.copies.now ≡ each_of (literals_of items) ++ c.requires.0 = c.requires.1 ∙ ap (λ x. parts (literal x) ++ c.requires.0) c.in-Vector.is in
    let n = c.len-in-Vector.ensures in
    omega (arith, n, enough items _ _ h)

pub returns-in_ok-tail-in-List-clause-same : goal.returns-in_ok-tail-in-List-clause-same
returns-in_ok-tail-in-List-clause-same c =
    let items = c.in-List.items in
    let end = literal c.in-List.field-1.value in
    let h : made c.args.copies.now ≡ each_of (literals_of items) ++ end ∷ c.requires.0 =
    c.requires.1 ∙ ap (λ x. parts (literal x) ++ c.requires.0) c.in-List.is ∙ append_assoc (each_of (literals_of items)) (end ∷ []) c.requires.0 in
    let left : made c.take.new.self ≡ end ∷ c.requires.0 =
    c.in_ok-items-in-List.ensures.left ∙ ap (λ k. drop k (made c.args.copies.now)) c.len.ensures ∙ behind items _ _ h in
    let same : plain c.in_ok-items-in-List.items ≡ plain items =
    c.in_ok-items-in-List.ensures.taken ∙ ap (λ k. take k (made c.args.copies.now)) c.len.ensures ∙ front items _ _ h in
    let tail : literal c.in_ok-tail-in-List.tail.value ≡ end = ap literal c.in_ok-tail-in-List.ensures.ok ∙ head_same (sym c.pop.ensures ∙ left) in
    ap (λ x. list x (literal c.in_ok-tail-in-List.tail.value)) (same_literals c.in_ok-items-in-List.items items same) ∙ ap (list (literals_of items)) tail ∙ sym (ap literal c.in-List.is)

pub returns-in_ok-tail-in-List-clause-taken : goal.returns-in_ok-tail-in-List-clause-taken
returns-in_ok-tail-in-List-clause-taken c =
    let items = c.in-List.items in
    let end = literal c.in-List.field-1.value in
    let h : made c.args.copies.now ≡ each_of (literals_of items) ++ end ∷ c.requires.0 =
    c.requires.1 ∙ ap (λ x. parts (literal x) ++ c.requires.0) c.in-List.is ∙ append_assoc (each_of (literals_of items)) (end ∷ []) c.requires.0 in
    let left : made c.take.new.self ≡ end ∷ c.requires.0 =
    c.in_ok-items-in-List.ensures.left ∙ ap (λ k. drop k (made c.args.copies.now)) c.len.ensures ∙ behind items _ _ h in
    c.requires.1 ∙ ap (λ m. parts (literal c.args.l.now) ++ m) (sym (tail_same (sym c.pop.ensures ∙ left)))

pub returns-in_ok-items-in-Vector-clause-same : goal.returns-in_ok-items-in-Vector-clause-same
returns-in_ok-items-in-Vector-clause-same c =
    let items = c.in-Vector.items in
    let h : made c.args.copies.now ≡ each_of (literals_of items) ++ c.requires.0 = c.requires.1 ∙ ap (λ x. parts (literal x) ++ c.requires.0) c.in-Vector.is in
    let same : plain c.in_ok-items-in-Vector.items ≡ plain items =
    c.in_ok-items-in-Vector.ensures.taken ∙ ap (λ k. take k (made c.args.copies.now)) c.len-in-Vector.ensures ∙ front items _ _ h in
    ap elements (same_literals c.in_ok-items-in-Vector.items items same) ∙ sym (ap literal c.in-Vector.is)

pub returns-in_ok-items-in-Vector-clause-taken : goal.returns-in_ok-items-in-Vector-clause-taken
returns-in_ok-items-in-Vector-clause-taken c =
    let items = c.in-Vector.items in
    let h : made c.args.copies.now ≡ each_of (literals_of items) ++ c.requires.0 = c.requires.1 ∙ ap (λ x. parts (literal x) ++ c.requires.0) c.in-Vector.is in
    let left : made c.take-in-Vector.new.self ≡ c.requires.0 =
    c.in_ok-items-in-Vector.ensures.left ∙ ap (λ k. drop k (made c.args.copies.now)) c.len-in-Vector.ensures ∙ behind items _ _ h in
    c.requires.1 ∙ ap (λ m. parts (literal c.args.l.now) ++ m) (sym left)
