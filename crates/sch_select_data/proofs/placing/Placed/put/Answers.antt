use Rattle.std.proofs.Common.{◌≡◌, ◌≤◌, ℕ, ◌+◌, ◌-◌, ◌/◌, List, [], ◌∷◌, ◌++◌, length, sym, ap, subst, ◌∙◌, arith, length-append, length-drop}
use Rattle.std.proofs.lemmas.Result.{on_ok_weaker}
use Rattle.sch_word.specs.declared.literal.Lit.{Lit}
use Rattle.sch_word.specs.values.Literals.{list, elements, count_literals}
use Rattle.sch_word.specs.values.LiteralView.{literal, literals_of}
use Rattle.sch_word.specs.values.LiteralParts.{each_of, parts}
use Rattle.sch_word.proofs.values.LiteralSteps.{plain_count}
use Rattle.sch_select_data.specs.ObjectWords.{string_contents}
use Rattle.sch_select_data.specs.PlacedView.{in_turn, IsPut}
use Rattle.sch_select_data.specs.PlacedWords.{own_units}
use Rattle.sch_select_data.proofs.literals.PutLiterals.{taken_count, text_units, text_put, vector_units, vector_put, list_put}
use Rattle.sch_select_data.proofs.literals.Rows.{count_rows}
use Rattle.sch_select_data.proofs.placing.Placed.put.Goals as goal

-- how many items there are, where a list or a vector may be put
list_ready : (l : Lit) (items : List Lit) (tail : Lit) (values : List ℕ) (count unit : ℕ) → literal l ≡ list (literals_of items) (literal tail) → count ≡ length items
    → length (parts (literal l)) ≤ length values → own_units (literal l) ≤ unit → (count + 1 ≤ length values) × (count ≤ unit) × (count ≡ count_literals (literals_of items))
list_ready l items tail values count unit is n enough room =
    let p = ap (λ k. length (parts k)) is in
    let q = ap own_units is in
    let m = length-append (each_of (literals_of items)) (literal tail ∷ []) in
    (omega (arith, p, m, plain_count items, n, enough), omega (arith, q, count_rows items, n, room), n ∙ sym (count_rows items))

vector_ready : (l : Lit) (items : List Lit) (values : List ℕ) (count unit : ℕ) → literal l ≡ elements (literals_of items) → count ≡ length items
    → length (parts (literal l)) ≤ length values → own_units (literal l) ≤ unit → (count ≤ length values) × (1 + count / 2 ≤ unit) × (count ≡ count_literals (literals_of items))
vector_ready l items values count unit is n enough room =
    let p = ap (λ k. length (parts k)) is in
    let q = ap own_units is in
    let h = ap (λ k. k / 2) (n ∙ sym (count_rows items)) in
    (omega (arith, p, plain_count items, n, enough), omega (arith, q, h, room), n ∙ sym (count_rows items))

pub put_object-requires-clause-room : goal.put_object-requires-clause-room
put_object-requires-clause-room c =
    let e = ap (λ l. own_units (literal l)) c.in-Text.is in
    let n = text_units c.in-Text.text c.in_ok-contents-in-Text.contents (c.in_ok-contents-in-Text.ensures ∙ ap string_contents c.as_slice.ensures) in
    omega (arith, e, n, c.requires.room)

pub take-requires : goal.take-requires
take-requires c =
    let r = list_ready c.args.l.now c.in-List.items c.in-List.field-1.value _ c.len.result _ (ap literal c.in-List.is) c.len.ensures c.requires.parts c.requires.room in
    let more = r.0 in
    omega (arith, more)

pub pop-last-requires : goal.pop-last-requires
pop-last-requires c =
    let r = list_ready c.args.l.now c.in-List.items c.in-List.field-1.value _ c.len.result _ (ap literal c.in-List.is) c.len.ensures c.requires.parts c.requires.room in
    let left = ap length c.in_ok-values-in-List.ensures.left ∙ length-drop c.len.result (in_turn c.args.self.now.values) in
    let more = r.0 in
    omega (arith, left, more)

pub put_pairs-requires-clause-room : goal.put_pairs-requires-clause-room
put_pairs-requires-clause-room c =
    let r = list_ready c.args.l.now c.in-List.items c.in-List.field-1.value _ c.len.result _ (ap literal c.in-List.is) c.len.ensures c.requires.parts c.requires.room in
    let more = r.0 in
    let room = r.1 in
    let n = taken_count c.in_ok-values-in-List.values (in_turn c.args.self.now.values) c.len.result (omega (arith, more)) c.in_ok-values-in-List.ensures.taken in
    omega (arith, n, room)

pub overflow_sub-self : goal.overflow_sub-self
overflow_sub-self c =
    let r = list_ready c.args.l.now c.in-List.items c.in-List.field-1.value _ c.len-in-List.result _ (ap literal c.in-List.is) c.len-in-List.ensures c.requires.parts c.requires.room in
    r.1

pub take-requires-in-Vector : goal.take-requires-in-Vector
take-requires-in-Vector c =
    let r = vector_ready c.args.l.now c.in-Vector.items _ c.len-in-Vector.result _ (ap literal c.in-Vector.is) c.len-in-Vector.ensures c.requires.parts c.requires.room in
    r.0

pub vector_words-requires : goal.vector_words-requires
vector_words-requires c =
    let r = vector_ready c.args.l.now c.in-Vector.items _ c.len-in-Vector.result _ (ap literal c.in-Vector.is) c.len-in-Vector.ensures c.requires.parts c.requires.room in
    let room = r.1 in
    let n = taken_count c.in_ok-values-in-Vector.values (in_turn c.args.self.now.values) c.len-in-Vector.result r.0 c.in_ok-values-in-Vector.ensures.taken in
    omega (arith, n, room, c.requires.small)

pub put_object-requires-in-Vector-clause-room : goal.put_object-requires-in-Vector-clause-room
put_object-requires-in-Vector-clause-room c =
    let r = vector_ready c.args.l.now c.in-Vector.items _ c.len-in-Vector.result _ (ap literal c.in-Vector.is) c.len-in-Vector.ensures c.requires.parts c.requires.room in
    let room = r.1 in
    let n = taken_count c.in_ok-values-in-Vector.values (in_turn c.args.self.now.values) c.len-in-Vector.result r.0 c.in_ok-values-in-Vector.ensures.taken in
    let m = vector_units c.len-in-Vector.result c.in_ok-values-in-Vector.values c.in_ok-contents-in-Vector.contents n c.in_ok-contents-in-Vector.ensures in
    omega (arith, m, room)

pub returns-in_ok-contents-in-Text : goal.returns-in_ok-contents-in-Text
returns-in_ok-contents-in-Text c =
    on_ok_weaker c.put_object.result
    (λ g. subst (λ l. IsPut (literal l) c.args.self.now c.put_object.new.self) (sym c.in-Text.is)
    (text_put c.in-Text.text c.in_ok-contents-in-Text.contents c.args.self.now c.put_object.new.self (c.in_ok-contents-in-Text.ensures ∙ ap string_contents c.as_slice.ensures) g))
    c.put_object.ensures

pub returns-in_ok-value-in-List : goal.returns-in_ok-value-in-List
returns-in_ok-value-in-List c =
    let before = c.args.self.now in
    let r = list_ready c.args.l.now c.in-List.items c.in-List.field-1.value (in_turn before.values) c.len.result before.unit (ap literal c.in-List.is) c.len.ensures c.requires.parts c.requires.room in
    let more = r.0 in
    let count : before.unit - c.len-in-List.result ≡ before.unit - c.len.result = ap (λ n. before.unit - n) (c.len-in-List.ensures ∙ sym c.len.ensures) in
    on_ok_weaker c.push-in-List.result
    (λ pushed. subst (λ l. IsPut (literal l) before (record { words = c.put_pairs.new.words; values = c.push-in-List.new.self; unit = before.unit - c.len-in-List.result })) (sym c.in-List.is)
    (list_put (literals_of c.in-List.items) (literal c.in-List.field-1.value) c.len.result before
    (record { words = c.put_pairs.new.words; values = c.push-in-List.new.self; unit = before.unit - c.len-in-List.result })
    c.pop-last.new.self c.in_ok-values-in-List.values c.pop-last.result c.in_ok-value-in-List.value
    r.2 r.1 (omega (arith, more)) count c.in_ok-values-in-List.ensures.taken (sym c.pop-last.ensures ∙ c.in_ok-values-in-List.ensures.left)
    c.in_ok-value-in-List.ensures.value c.in_ok-value-in-List.ensures.words pushed))
    c.push-in-List.ensures

pub returns-in_ok-contents-in-Vector : goal.returns-in_ok-contents-in-Vector
returns-in_ok-contents-in-Vector c =
    let before = c.args.self.now in
    let r = vector_ready c.args.l.now c.in-Vector.items (in_turn before.values) c.len-in-Vector.result before.unit (ap literal c.in-Vector.is) c.len-in-Vector.ensures c.requires.parts c.requires.room in
    on_ok_weaker c.put_object-in-Vector.result
    (λ g. subst (λ l. IsPut (literal l) before c.put_object-in-Vector.new.self) (sym c.in-Vector.is)
    (vector_put (literals_of c.in-Vector.items) c.len-in-Vector.result before c.put_object-in-Vector.new.self c.take-in-Vector.new.self c.in_ok-values-in-Vector.values
    c.in_ok-contents-in-Vector.contents r.2 r.0 c.in_ok-values-in-Vector.ensures.taken c.in_ok-values-in-Vector.ensures.left c.in_ok-contents-in-Vector.ensures g))
    c.put_object-in-Vector.ensures
