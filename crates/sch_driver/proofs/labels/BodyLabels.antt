-- The labels that selection gives to bodies that are laid out: twelve at most for each site, and two for each test.
use Rattle.std.proofs.Common.{◌≡◌, ℕ, zero, suc, ◌+◌, ◌*◌, ◌≤◌, Bool, true, false, cond, List, [], ◌∷◌, ◌++◌, length, map, Option, Some, None, refl, sym, ap, ◌∙◌, arith, length-append}
use Rattle.std.specs.Prelude.{filter}
use Rattle.std.proofs.lemmas.List.{length-map}
use Rattle.sch_word.specs.declared.mark.MarkKind.{MarkKind}
use Rattle.sch_word.specs.declared.mark.MarkKind.TheVariants as mark
use Rattle.sch_word.specs.declared.place.Place.{Place}
use Rattle.sch_word.specs.values.Places.{is_slot, same_place}
use Rattle.sch_control.specs.declared.body.Entry.{Entry}
use Rattle.sch_control.specs.declared.operation.Operand.{Operand}
use Rattle.sch_control.specs.declared.operation.Operand.TheVariants as operand
use Rattle.sch_control.specs.declared.operation.Operation.{Operation}
use Rattle.sch_control.specs.declared.operation.Operation.TheVariants as operation
use Rattle.sch_control.specs.AtomsAndSites.{operand_sites, operation_sites}
use Rattle.sch_control.specs.Meaning.{heads, no_region, with_region}
use Rattle.sch_control.specs.Sizes.{tests_in, tests_of}
use Rattle.sch_control.specs.Tree.{Code, Expression, perform, bind, sequence, branch, fix, call, tail_call, return, end, save}
use Rattle.sch_control.specs.Valid.{member_variables, sites_of, sites_of_each}
use Rattle.sch_control.specs.flow.Bare.{erased}
use Rattle.sch_orders.proofs.CallsFit.{sites_erased}
use Rattle.sch_frames.specs.declared.instruction.Instruction.{Instruction}
use Rattle.sch_frames.specs.declared.instruction.Instruction.TheVariants.{Call, Copy, End, Jump, Label, Mark, Return, Store, Tail}
use Rattle.sch_frames.specs.Tree as frames
use Rattle.sch_layout.specs.BodyLayout.{Plan, arrivals, brought, carried, entering, labels, lay, leave, loaded, operand_at, operation_at, spill, stored, under}
use Rattle.sch_control.specs.flow.Places.{variable_arrival}
use Rattle.sch_layout.proofs.layouts.LabelsCounted.{labels_counted}
use Rattle.sch_registers.specs.GreedyCalls.{IsGreedyCall}
use Rattle.sch_control.specs.EachCall.{EachCall}
use Rattle.sch_registers.specs.MadeFrom.{AreMadeFrom, IsMadeFrom}
use Rattle.sch_registers.specs.Registers.{registers_code, registers_tree}
use Rattle.sch_registers.proofs.ListedProgram.{tree_erased}
use Rattle.sch_select.specs.Program.{labels_of, own_labels}
use Rattle.sch_select.specs.Select.{all_labels_needed, operand_needs, operation_needs}
use Rattle.sch_driver.proofs.labels.MoveLabels.{greedy_needs, under_needs}

-- ## Operations

operand_need : (place : ℕ → Place) (o : Operand ℕ) → operand_needs (operand_at place o) ≤ 12 * length (operand_sites o)
operand_need place (operand.Atom a) = omega arith
operand_need place (operand.Read site which atoms) = omega arith

operation_need : (place : ℕ → Place) (o : Operation ℕ) → operation_needs (operation_at place o) ≤ 12 * length (operation_sites o)
operation_need place (operation.Operand o) = operand_need place o
operation_need place (operation.Prim site which operands) = omega arith
operation_need place (operation.Global g) = omega arith
operation_need place (operation.SetGlobal g o) = operand_need place o
operation_need place (operation.Field x k) = omega arith
operation_need place (operation.NewCell c) = omega arith
operation_need place operation.UnsetCell = omega arith
operation_need place (operation.CellGet c) = omega arith
operation_need place (operation.CellSet c o) = operand_need place o
operation_need place (operation.MakeClosure c) = omega arith

-- ## What is copied needs none

leave_needs : (test : Option ℕ) (rest : List Instruction) → all_labels_needed (leave test rest) ≡ all_labels_needed rest
leave_needs None rest = refl
leave_needs (Some l) rest = omega arith

module _ (plan : Plan) where
  carried_needs : (kind : ℕ → MarkKind) (to from : ℕ → Place) (xs : List ℕ) (rest : List Instruction) → all_labels_needed (carried plan kind to from xs rest) ≡ all_labels_needed rest
  carried_needs kind to from [] rest = refl
  carried_needs kind to from (x ∷ xs) rest = by (is_slot (plan.place x)) (carried_needs kind to from xs rest) where
    by : (b : Bool) → all_labels_needed (carried plan kind to from xs rest) ≡ all_labels_needed rest
        → all_labels_needed (cond b (carried plan kind to from xs rest) (Mark (kind x) ∷ (Copy (to x) (from x) ∷ carried plan kind to from xs rest))) ≡ all_labels_needed rest
    by true more = more
    by false more = omega (arith, more)

  stored_needs : (xs : List ℕ) (rest : List Instruction) → all_labels_needed (stored plan xs rest) ≡ all_labels_needed rest
  stored_needs xs rest = carried_needs mark.Save plan.home plan.place xs rest

  brought_needs : (x : ℕ) (rest : List Instruction) → all_labels_needed (brought plan x rest) ≡ all_labels_needed rest
  brought_needs x rest = by (same_place (plan.place x) (variable_arrival x)) where
    by : (b : Bool) → all_labels_needed (cond b rest (under (spill plan x) (Copy (plan.place x) (variable_arrival x)) rest)) ≡ all_labels_needed rest
    by true = refl
    by false = let u = under_needs (spill plan x) (Copy (plan.place x) (variable_arrival x)) rest in omega (arith, u)

  arrivals_need : (from count : ℕ) (rest : List Instruction) → all_labels_needed (arrivals plan from count rest) ≡ all_labels_needed rest
  arrivals_need from zero rest = refl
  arrivals_need from (suc count) rest = brought_needs from (arrivals plan (suc from) count rest) ∙ arrivals_need (suc from) count rest

  entering_needs : (entry : Option Entry) (rest : List Instruction) → all_labels_needed (entering plan entry rest) ≡ all_labels_needed rest
  entering_needs None rest = refl
  entering_needs (Some e) rest = arrivals_need 1 (suc e.formals) rest

  -- ## Expressions

  lay_needs : (e : Expression) → EachCall (IsGreedyCall plan) e → (inside : ℕ → Bool) (n : ℕ) (test : Option ℕ) (rest : List Instruction)
      → all_labels_needed (lay plan e inside n test rest) ≤ 12 * length (sites_of e) + all_labels_needed rest
  lay_needs (perform o) g inside n test rest = let here = operation_need plan.place o in let more = leave_needs test rest in omega (arith, here, more)
  lay_needs (bind x a b) g inside n test rest =
      let behind = lay plan b inside (n + labels a) test rest in
      let middle = stored plan (filter inside (x ∷ [])) behind in
      let first = lay_needs a g.0 inside n None (under (spill plan x) (Store (plan.place x)) middle) in
      let u = under_needs (spill plan x) (Store (plan.place x)) middle in
      let s = stored_needs (filter inside (x ∷ [])) behind in
      let second = lay_needs b g.1 inside (n + labels a) test rest in
      omega (arith, first, u, s, second, length-append (sites_of a) (sites_of b))
  lay_needs (sequence a b) g inside n test rest =
      let first = lay_needs a g.0 inside n None (lay plan b inside (n + labels a) test rest) in
      let second = lay_needs b g.1 inside (n + labels a) test rest in
      omega (arith, first, second, length-append (sites_of a) (sites_of b))
  lay_needs (branch a b c) g inside n test rest =
      let third = lay plan c inside (suc (suc (n + labels a + labels b))) test (Label (suc n) ∷ rest) in
      let arms = lay plan b inside (suc (suc (n + labels a))) test (Jump (suc n) ∷ (Label n ∷ third)) in
      let one = lay_needs a g.0 inside (suc (suc n)) (Some n) arms in
      let two = lay_needs b g.1.0 inside (suc (suc (n + labels a))) test (Jump (suc n) ∷ (Label n ∷ third)) in
      let three = lay_needs c g.1.1 inside (suc (suc (n + labels a + labels b))) test (Label (suc n) ∷ rest) in
      omega (arith, one, two, three, length-append (sites_of a) (sites_of b ++ sites_of c), length-append (sites_of b) (sites_of c))
  lay_needs (fix members e) g inside n test rest =
      let s = stored_needs (filter inside (member_variables members)) (lay plan e inside n test rest) in
      let more = lay_needs e g inside n test rest in
      omega (arith, s, more)
  lay_needs (call a restores) g inside n test rest =
      let behind = loaded plan restores (leave test rest) in
      let moves = greedy_needs plan false a g (Mark (mark.Call a.site) ∷ (Call a.spread (length a.operands) ∷ behind)) in
      let back = carried_needs mark.Restore plan.place plan.home restores (leave test rest) in
      let more = leave_needs test rest in
      omega (arith, moves, back, more)
  lay_needs (tail_call a) g inside n test rest =
      let moves = greedy_needs plan true a g (Mark (mark.Tail a.site) ∷ (Tail a.spread (length a.operands) ∷ rest)) in
      omega (arith, moves)
  lay_needs (return e) g inside n test rest = let more = lay_needs e g inside n None (Mark mark.Return ∷ (Return ∷ rest)) in omega (arith, more)
  lay_needs (end e) g inside n test rest = let more = lay_needs e g inside n None (End ∷ rest) in omega (arith, more)
  lay_needs (save saves e) g inside n test rest =
      let s = stored_needs (heads e saves) (lay plan e (with_region saves inside) n test rest) in
      let more = lay_needs e g (with_region saves inside) n test rest in
      omega (arith, s, more)

-- ## Tests

tests_erased : (e : Expression) → tests_in (erased e) ≡ tests_in e
tests_erased (perform o) = refl
tests_erased (bind x a b) = let p = tests_erased a in let q = tests_erased b in omega (arith, p, q)
tests_erased (sequence a b) = let p = tests_erased a in let q = tests_erased b in omega (arith, p, q)
tests_erased (branch a b c) = let p = tests_erased a in let q = tests_erased b in let r = tests_erased c in omega (arith, p, q, r)
tests_erased (fix members e) = tests_erased e
tests_erased (call a restores) = refl
tests_erased (tail_call a) = refl
tests_erased (return e) = tests_erased e
tests_erased (end e) = tests_erased e
tests_erased (save saves e) = tests_erased e

code_labels : (c : Code) → (registers_code c).labels ≡ 2 * tests_in c.expression
unfolding registers_code
code_labels c =
    let e : Expression = registers_tree c.variables c.expression in
    let all = labels_counted e in
    let same : tests_in (erased e) ≡ tests_in c.expression = ap tests_in (tree_erased c.variables c.expression) ∙ tests_erased c.expression in
    omega (arith, all, same)

-- ## Bodies

code_needs : (c : Code) (f : frames.Code) → IsMadeFrom c f → all_labels_needed f.instructions ≤ 12 * length (sites_of c.expression)
code_needs c f m =
    let body = lay m.plan m.tree no_region 0 None [] in
    let laid = ap all_labels_needed m.laid.instructions ∙ entering_needs m.plan c.entry body in
    let need = lay_needs m.plan m.tree m.moves no_region 0 None [] in
    let same : length (sites_of m.tree) ≡ length (sites_of c.expression) = ap length (sym (sites_erased m.tree) ∙ ap sites_of m.body) in
    omega (arith, laid, need, same)

own_within : (cs : List Code) → AreMadeFrom cs (map registers_code cs)
    → own_labels (map registers_code cs) ≤ 12 * length (sites_of_each cs) + (2 * tests_of cs + 2 * length cs)
own_within [] h = omega arith
own_within (c ∷ cs) h =
    let labels = code_labels c in
    let need = code_needs c (registers_code c) h.0 in
    let more = own_within cs h.1 in
    omega (arith, labels, need, more, length-append (sites_of c.expression) (sites_of_each cs))

-- the labels of the frame bodies of a program are within what its sites, its tests and its bodies make room for
pub labels_within : (cs : List Code) → AreMadeFrom cs (map registers_code cs)
    → labels_of (map registers_code cs) ≤ 12 * length (sites_of_each cs) + (2 * tests_of cs + 3 * length cs)
labels_within cs h = let own = own_within cs h in omega (arith, own, length-map cs registers_code)
