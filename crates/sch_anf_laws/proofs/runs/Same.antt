-- A normal form does what the flat tree does that it was made from.
use Rattle.std.proofs.Common.{◌≡◌, ℕ, suc, ◌+◌, ◌≤◌, Bool, true, false, cond, List, [], ◌∷◌, ◌++◌, length, map, Option, Some, None, refl, sym, ap, ◌∙◌, subst, arith, append_assoc, length-append}
use Rattle.std.specs.Prelude.{slice_get, slice_set}
use Rattle.std.specs.List.{list_all}
use Rattle.std.proofs.lemmas.List.{length-map, map-append, append-nil}
use Rattle.std.proofs.lemmas.List.Folds.{list_all-append}
use Rattle.std.proofs.Math.Seq.{set-append_seam}
use Rattle.sch_word.specs.declared.constant.Const.{Const}
use Rattle.sch_word.specs.declared.primitive.Primitive.{Primitive}
use Rattle.sch_word.specs.values.Values.{Value, unspecified, cell, constant_value, is_true, procedure}
use Rattle.sch_word.specs.runs.Store.{Store}
use Rattle.sch_word.specs.trees.Bindings.{numbers, scope_with, with_variables}
use Rattle.sch_word.specs.runs.Computation as computation
use Rattle.sch_word.specs.runs.Computation.{Outcome, Action, gives, stops, spent, State, on_value, in_store, with_rest, read_global, write_global, read_cell, write_cell, set_or_stop, numbers_from, procedures_from, new_procedure, in_order, in_turn, all_values, blanks, call_with, with_cell}
use Rattle.sch_word.specs.runs.Charges.{charge, charge_each, procedure_bytes, cell_bytes}
use Rattle.sch_word.specs.values.CellBytes.{cells_bytes}
use Rattle.sch_word.specs.values.PrimitiveRows.{primitive}
use Rattle.sch_word.proofs.Lengths.{procedures_length}
use Rattle.sch_word.proofs.Steady.{OutcomeGrows, steady_charge, steady_charge_each, steady_read_global, steady_write_global, steady_primitive}
use Rattle.sch_word.proofs.facts.Booleans.{and_left, and_right}
use Rattle.sch_word.proofs.facts.Lists.{get_seam, get_grown}
use Rattle.sch_flat.specs.Tree.{Tree, Trees, Variable, bound, free, Made, NewCell, constant, literal, variable, global, set_global, define, branch, sequence, bind, make_closure, fix_closures, call, operation, new_cells, cell_get, cell_set, no_trees, and_tree, count}
use Rattle.sch_flat.specs.Meaning as from
use Rattle.sch_flat.specs.Meaning.{value_in, values_in, and_values, closure, closures, closures_bytes}
use Rattle.sch_flat.specs.Valid.{is_known, is_content, is_made, has_fields, cells_scope}
use Rattle.sch_word.specs.declared.mark.MarkKind.{MarkKind}
use Rattle.sch_word.specs.declared.mark.MarkKind.TheVariants.{Call, Return, Tail}
use Rattle.sch_word.specs.values.Options.{when_some}
use Rattle.sch_control.specs.declared.operation.Atom.TheVariants as atom
use Rattle.sch_control.specs.declared.operation.Operand.TheVariants as operand
use Rattle.sch_control.specs.declared.operation.Member.{Member}
use Rattle.sch_control.specs.declared.operation.Operation.{Operation}
use Rattle.sch_control.specs.declared.operation.Operation.TheVariants as does
use Rattle.sch_control.specs.declared.operation.Application.{Application}
use Rattle.sch_control.specs.Tree.{Expression}
use Rattle.sch_control.specs.Tree as tree
use Rattle.sch_control.specs.Operations.{operand_value, part_values, source_values, operate, members_made, member_bytes, with_procedures}
use Rattle.sch_word.specs.runs.Procedures.{Procedure}
use Rattle.sch_control.specs.Operations as operations
use Rattle.sch_control.specs.Sizes.{is_bare_atom}
use Rattle.sch_control.specs.Meaning as to
use Rattle.sch_control.specs.Meaning.{World, Result, Then, Callee, plain, no_region, marked, on_outcome, on_return, call_in, put, put_each, put_inside, mark_members}
use Rattle.sch_control.proofs.PlainMarks.{members_unmarked, none_saved}
use Rattle.sch_control.proofs.Environments.{put_same}
use Rattle.sch_anf_laws.specs.Normal.{Scope, source_of, is_simple, simple_operand, operand_at, operands_at, part_binds, operands_bind, inits_bind, init_numbers, numbers_for, binds, unless_atom, ends_in_call, finished, called, bound_unless, normal, normal_parts, with_operands, with_inits, with_new_cells, cell_operation, closure_of, members_of, bound_places, operator_place}
use Rattle.sch_anf_laws.specs.Normal as normal
use Rattle.sch_anf_laws.proofs.runs.Orders.{Parts}
use Rattle.sch_anf_laws.proofs.runs.Worlds.{Setting, Reached, Same, SameEnter, image, images, state_of, world_of, is_procedure_of, reached_self, reached_on, reached_store, same_after, same_action, same_call}
use Rattle.sch_anf_laws.proofs.runs.Fine.{Fine, FineEach, simples, operands_rest, call_rest, inits_order}
use Rattle.sch_anf_laws.proofs.runs.Agree.{Below, below_self, below_on, below_put, Held, filled_below, Agrees, agrees_below, agrees_push, agrees_with, push, source_given, simple_given, Filled, part_given, parts_given, init_numbers_length, numbers_for_length}
use Rattle.sch_anf_laws.proofs.DroppedAtoms.{dropped_as}

found : {A : Type 0} (cs before more : List A) (c : A) (place : ℕ) → place ≡ length before → cs ≡ before ++ c ∷ more → slice_get cs place ≡ Some c
found cs before more c place p e = rw (e, p) (get_seam before more c)

written : (vs done more : List Value) (u : Value) (place : ℕ) → place ≡ length done → vs ≡ done ++ unspecified ∷ more → slice_set vs place u ≡ (done ++ u ∷ []) ++ more
written vs done more u place p e = rw (e, p) (set-append_seam done unspecified more u ∙ sym (append_assoc done (u ∷ []) more))

on_after : {V W : Type 0} (marks : List MarkKind) (o : Outcome (State Procedure) V) (f : V → State Procedure → Outcome (State Procedure) W) (next : W → World → Result)
    → on_outcome marks (on_value o f) next ≡ on_outcome marks o (λ v w. on_outcome w.marks (f v w.state) next)
on_after marks (gives v s) f next = refl
on_after marks (stops why s) f next = refl
on_after marks (spent s) f next = refl

rest_after : {P V W : Type 0} (cells : List (Option Value)) (ps : List P) (o : Outcome Store V) (f : V → Action W)
    → with_rest cells ps (on_value o f) ≡ on_value (with_rest cells ps o) (λ v. in_store (f v))
rest_after cells ps (gives v t) f = refl
rest_after cells ps (stops why t) f = refl
rest_after cells ps (spent t) f = refl

module _ (a : Setting) (start : State Procedure) (fields : ℕ) (enter : from.Enter) (callee : Callee) (same_enter : SameEnter a enter callee) (depth : ℕ) where
  abbrev pub value : Tree → from.Environment → Bool → State Procedure → Outcome (State Procedure) Value
  value e h tail s = from.evaluate a.orders enter e h depth tail s

  abbrev values : Trees → from.Environment → List (State Procedure → Outcome (State Procedure) Value)
  values es h = from.each a.orders enter es h depth

  abbrev pub result : Expression → to.Environment → (saved : to.Environment) → World → Then → Result
  result x environment saved w next = to.evaluate plain callee depth x no_region environment saved w next

  abbrev pub world : State Procedure → List MarkKind → World
  world s marks = world_of a.starts s marks

  abbrev pub Next : Type 0 → Type 0
  Next V = V → State Procedure → Outcome (State Procedure) Value

  -- what a value is followed by: the return of the procedure, or what comes next
  abbrev pub ends : (tail : Bool) → Then → Then
  ends true next v environment saved w = when_some (environment 0) (λ link. Some (gives v (marked Return w)))
  ends false next v environment saved w = next v environment saved w

  -- What follows on both sides does the same, at each value, each state that is reached, and each environment in
  -- which what is below n stays. In a tail context nothing follows but the return.
  pub record Goes (tail : Bool) (n : ℕ) (environment saved : to.Environment) (k : Next Value) (next : Then) : Type 0 where
    pub follows : (v : Value) (s : State Procedure) (after : to.Environment) (marks : List MarkKind) → Reached a start s → Below n environment after
        → Same a start (k v s) (ends tail next v after saved (world s marks))
    pub whole : tail ≡ true → (v : Value) (s : State Procedure) → k v s ≡ gives v s
    pub link : tail ≡ true → (l : Value) × (environment 0 ≡ Some l)

  goes_on : (tail : Bool) (n m : ℕ) (environment after saved : to.Environment) (k : Next Value) (next : Then) → 2 ≤ n → n ≤ m → Below n environment after → Goes tail n environment saved k next
      → Goes tail m after saved k next
  goes_on tail n m environment after saved k next t l b g = record {
    follows = λ v s later marks r q. g.follows v s later marks r (below_on n m environment after later l b q);
    whole = g.whole;
    link = λ e. let h = g.link e in (h.0, b.at 0 (omega (arith, t)) ∙ h.1);
  }

  same_by : (o : Outcome (State Procedure) Value) (r r' : Result) → r ≡ r' → Same a start o r' → Same a start o r
  same_by o r r' e h = subst (λ x. Same a start o x) (sym e) h

  same_of : (o o' : Outcome (State Procedure) Value) (r : Result) → o ≡ o' → Same a start o' r → Same a start o r
  same_of o o' r e h = subst (λ x. Same a start x r) (sym e) h

  -- ## Operations that end a tree

  finishes : (tail : Bool) (o : Operation ℕ) (environment saved : to.Environment) (w : World) (next : Then) (out : Outcome (State Procedure) Value) → operate environment o w.state ≡ Some out
      → result (finished tail (tree.perform o)) environment saved w next ≡ on_outcome w.marks out (λ v w. ends tail next v environment saved w)
  finishes true o environment saved w next out e = rw e refl
  finishes false o environment saved w next out e = rw e refl

  done_value : (tail : Bool) (o : Operation ℕ) (n : ℕ) (environment saved : to.Environment) (s : State Procedure) (marks : List MarkKind) (k : Next Value) (next : Then) (v : Value)
      → operate environment o (state_of a.starts s) ≡ Some (gives v (state_of a.starts s)) → Reached a start s → Goes tail n environment saved k next
      → Same a start (k v s) (result (finished tail (tree.perform o)) environment saved (world s marks) next)
  done_value tail o n environment saved s marks k next v e r g =
      same_by _ _ _ (finishes tail o environment saved (world s marks) next (gives v (state_of a.starts s)) e) (g.follows v s environment marks r (below_self n environment))

  done_action : (tail : Bool) (o : Operation ℕ) (n : ℕ) (environment saved : to.Environment) (s : State Procedure) (marks : List MarkKind) (k : Next Value) (next : Then) (action : Action Value)
      → operate environment o (state_of a.starts s) ≡ Some (in_store action (state_of a.starts s)) → OutcomeGrows s.store (action s.store) → Reached a start s → Goes tail n environment saved k next
      → Same a start (on_value (in_store action s) k) (result (finished tail (tree.perform o)) environment saved (world s marks) next)
  done_action tail o n environment saved s marks k next action e grows r g =
      same_by _ _ _ (finishes tail o environment saved (world s marks) next (in_store action (state_of a.starts s)) e)
      (same_action a start s (action s.store) s.cells marks k (λ v w. ends tail next v environment saved w) r grows
      (λ v t c. g.follows v (record { cells = s.cells; store = t; procedures = s.procedures }) environment marks (reached_store a start s s.cells t r c) (below_self n environment)))

  -- ## Cells

  read_same : (tail : Bool) (n : ℕ) (environment saved : to.Environment) (s : State Procedure) (marks : List MarkKind) (k : Next Value) (next : Then) (o : Option (Option Value)) → Reached a start s
      → Goes tail n environment saved k next
      → Same a start (on_value (set_or_stop o s) k) (on_outcome marks (set_or_stop o (state_of a.starts s)) (λ v w. ends tail next v environment saved w))
  read_same tail n environment saved s marks k next None r g = (_, refl, refl)
  read_same tail n environment saved s marks k next (Some None) r g = (_, refl, refl)
  read_same tail n environment saved s marks k next (Some (Some v)) r g = g.follows v s environment marks r (below_self n environment)

  get_same : (tail : Bool) (n : ℕ) (environment saved : to.Environment) (s : State Procedure) (marks : List MarkKind) (k : Next Value) (next : Then) (v : Value) → Reached a start s
      → Goes tail n environment saved k next
      → Same a start (on_value (with_cell v read_cell s) k) (on_outcome marks (with_cell v read_cell (state_of a.starts s)) (λ v w. ends tail next v environment saved w))
  get_same tail n environment saved s marks k next (cell c) r g = read_same tail n environment saved s marks k next (slice_get s.cells c) r g
  get_same tail n environment saved s marks k next _ r g = (_, refl, refl)

  set_same : (tail : Bool) (n : ℕ) (environment saved : to.Environment) (s : State Procedure) (marks : List MarkKind) (k : Next Value) (next : Then) (v u : Value) → Reached a start s
      → Goes tail n environment saved k next
      → Same a start (on_value (with_cell v (λ c. write_cell c u) s) k)
      (on_outcome marks (with_cell v (λ c. write_cell c u) (state_of a.starts s)) (λ v w. ends tail next v environment saved w))
  set_same tail n environment saved s marks k next (cell c) u r g =
      g.follows unspecified (record { cells = slice_set s.cells c (Some u); store = s.store; procedures = s.procedures }) environment marks
      (reached_store a start s (slice_set s.cells c (Some u)) s.store r r.constants) (below_self n environment)
  set_same tail n environment saved s marks k next _ u r g = (_, refl, refl)

  -- ## Trees

  abbrev pub Claim : Tree → Type 0
  Claim e = (tail : Bool) (names : List ℕ) (scope : Scope) (n : ℕ) (h : from.Environment) (environment saved : to.Environment) (s : State Procedure) (marks : List MarkKind) (k : Next Value)
      (next : Then)
      → Fine a fields e names → Agrees a start fields names scope n h environment → Reached a start s → Goes tail n environment saved k next
      → Same a start (on_value (value e h tail s) k) (result (normal a.starts tail e scope n) environment saved (world s marks) next)

  abbrev EachClaim : Trees → Type 0
  EachClaim no_trees = Unit {0}
  EachClaim (and_tree e es) = Claim e × EachClaim es

  -- ## Parts

  -- a part that is bound to variable n
  bound_same : (e : Tree) → Claim e → (names : List ℕ) (scope : Scope) (n : ℕ) (h : from.Environment) (environment saved : to.Environment) (s : State Procedure) (marks : List MarkKind)
      (k : Next Value) (body : Expression) (next : Then)
      → Fine a fields e names → Agrees a start fields names scope n h environment → Reached a start s
      → ((v : Value) (t : State Procedure) (after : to.Environment) (m : List MarkKind) → Reached a start t → Below n environment after → after n ≡ Some v
      → Same a start (k v t) (result body after saved (world t m) next))
      → Same a start (on_value (value e h false s) k) (result (tree.bind n (normal a.starts false e scope (suc n)) body) environment saved (world s marks) next)
  bound_same e claim names scope n h environment saved s marks k body next f w r follows =
      claim false names scope (suc n) h environment saved s marks k (λ v environment saved w. result body (put environment n v) saved w next) f
      (agrees_below a start fields names scope n (suc n) h environment environment (omega arith) (below_self n environment) w) r
      (record {
        follows = λ v t after m q b. follows v t (put after n v) m q (below_put n environment after v (record { at = λ x l. b.at x (omega (arith, l)) })) (put_same after n v);
        whole = λ e. absurd (cc);
        link = λ e. absurd (cc);
      })

  -- a part that is bound where it is not simple
  part_same : (e : Tree) → Claim e → (b : Bool) → is_simple e ≡ b
      → (names : List ℕ) (scope : Scope) (n : ℕ) (h : from.Environment) (environment saved : to.Environment) (s : State Procedure) (marks : List MarkKind) (k : Next Value) (body : Expression)
      (next : Then)
      → Fine a fields e names → Agrees a start fields names scope n h environment → Reached a start s
      → ((v : Value) (t : State Procedure) (after : to.Environment) (m : List MarkKind) → Reached a start t → Below n environment after
      → operand_value after t.store (cond b (simple_operand scope e) (operand.Atom (atom.Variable n))) ≡ Some v → Same a start (k v t) (result body after saved (world t m) next))
      → Same a start (on_value (value e h false s) k) (result (bound_unless b n (normal a.starts false e scope (suc n)) body) environment saved (world s marks) next)
  part_same e claim true i names scope n h environment saved s marks k body next f w r follows =
      let g = simple_given a start fields enter names scope h environment depth n e i f w s r in
      same_of _ _ _ (ap (λ o. on_value o k) g.1) (follows g.0 s environment marks r (below_self n environment) g.2)
  part_same e claim false i names scope n h environment saved s marks k body next f w r follows =
      bound_same e claim names scope n h environment saved s marks k body next f w r follows

  -- the operands, from left to right
  abbrev OperandsClaim : Trees → Type 0
  OperandsClaim es = (names : List ℕ) (scope : Scope) (n : ℕ) (h : from.Environment) (environment saved : to.Environment) (s : State Procedure) (marks : List MarkKind) (k : Next (List Value))
      (body : Expression) (next : Then)
      (place : ℕ) (cs before : List (State Procedure → Outcome (State Procedure) Value)) (vs done : List Value) (last : List ℕ)
      → place ≡ length before → place ≡ length done → cs ≡ before ++ values es h → vs ≡ done ++ blanks (values es h)
      → FineEach a fields es names → Agrees a start fields names scope n h environment → Reached a start s
      → ((ws : List Value) (t : State Procedure) (after : to.Environment) (m : List MarkKind) → Reached a start t → Below n environment after → Filled es n ws after
      → Same a start (on_value (in_order last cs (done ++ ws) t) k) (result body after saved (world t m) next))
      → Same a start (on_value (in_order (bound_places place es last) cs vs s) k) (result (with_operands a.starts es scope n body) environment saved (world s marks) next)

  operands_step : (b : Bool) (e : Tree) (es : Trees) → Claim e → OperandsClaim es
      → (names : List ℕ) (scope : Scope) (n : ℕ) (h : from.Environment) (environment saved : to.Environment) (s : State Procedure) (marks : List MarkKind) (k : Next (List Value))
      (body : Expression) (next : Then)
      (place : ℕ) (cs before : List (State Procedure → Outcome (State Procedure) Value)) (vs done : List Value) (last : List ℕ)
      → place ≡ length before → place ≡ length done → cs ≡ before ++ value e h false ∷ values es h → vs ≡ done ++ unspecified ∷ blanks (values es h)
      → Fine a fields e names → FineEach a fields es names → Agrees a start fields names scope n h environment → Reached a start s
      → ((w : Value) (ws : List Value) (t : State Procedure) (after : to.Environment) (m : List MarkKind) → Reached a start t → Below n environment after → (b ≡ false → after n ≡ Some w)
      → Filled es (n + part_binds b (binds e)) ws after
      → Same a start (on_value (in_order last cs (done ++ w ∷ ws) t) k) (result body after saved (world t m) next))
      → Same a start (on_value (in_order (cond b (bound_places (suc place) es last) (place ∷ bound_places (suc place) es last)) cs vs s) k)
      (result (bound_unless b n (normal a.starts false e scope (suc n)) (with_operands a.starts es scope (n + part_binds b (binds e)) body)) environment saved (world s marks) next)
  operands_step true e es claim more names scope n h environment saved s marks k body next place cs before vs done last p q c v f fs w r follows =
      more names scope (n + 0) h environment saved s marks k body next (suc place) cs (before ++ value e h false ∷ []) vs (done ++ unspecified ∷ []) last
      (omega (arith, p, length-append before (value e h false ∷ []))) (omega (arith, q, length-append done (unspecified ∷ [])))
      (c ∙ sym (append_assoc before (value e h false ∷ []) (values es h))) (v ∙ sym (append_assoc done (unspecified ∷ []) (blanks (values es h)))) fs
      (agrees_below a start fields names scope n (n + 0) h environment environment (omega arith) (below_self n environment) w) r
      (λ ws t after m q b l. same_of _ _ _ (ap (λ l. on_value (in_order last cs l t) k) (append_assoc done (unspecified ∷ []) ws))
      (follows unspecified ws t after m q (record { at = λ x l. b.at x (omega (arith, l)) }) (λ e. absurd (cc)) l))
  operands_step false e es claim more names scope n h environment saved s marks k body next place cs before vs done last p q c v f fs w r follows =
      same_of _ _ _ (ap (λ o. on_value (on_value (computation.at_place o s) (λ u. in_order (bound_places (suc place) es last) cs (slice_set vs place u))) k)
      (found cs before (values es h) (value e h false) place p c))
      (same_after a start (value e h false s) (λ u. in_order (bound_places (suc place) es last) cs (slice_set vs place u)) k _
      (bound_same e claim names scope n h environment saved s marks (λ u t. on_value (in_order (bound_places (suc place) es last) cs (slice_set vs place u) t) k)
      (with_operands a.starts es scope (n + suc (binds e)) body) next f w r
      (λ u t after m g b x.
      more names scope (n + suc (binds e)) h after saved t m k body next (suc place) cs (before ++ value e h false ∷ []) (slice_set vs place u) (done ++ u ∷ []) last
      (omega (arith, p, length-append before (value e h false ∷ []))) (omega (arith, q, length-append done (u ∷ [])))
      (c ∙ sym (append_assoc before (value e h false ∷ []) (values es h))) (written vs done (blanks (values es h)) u place q v) fs
      (agrees_below a start fields names scope n (n + suc (binds e)) h environment after (omega arith) b w) g
      (λ ws t later m g b' l. same_of _ _ _ (ap (λ l. on_value (in_order last cs l t) k) (append_assoc done (u ∷ []) ws))
      (follows u ws t later m g (below_on n (n + suc (binds e)) environment after later (omega arith) b b') (λ _. b'.at n (omega arith) ∙ x) l)))))

  operands_same : (es : Trees) → EachClaim es → OperandsClaim es
  operands_same no_trees claims names scope n h environment saved s marks k body next place cs before vs done last p q c v f w r follows =
      same_of _ _ _ (ap (λ l. on_value (in_order last cs l s) k) v) (follows [] s environment marks r (below_self n environment) tt)
  operands_same (and_tree e es) claims names scope n h environment saved s marks k body next place cs before vs done last p q c v f w r follows =
      operands_step (is_simple e) e es claims.0 (operands_same es claims.1) names scope n h environment saved s marks k body next place cs before vs done last p q c v f.0 f.1 w r
      (λ w ws t after m g b x l. follows (w ∷ ws) t after m g b (x, l))

  -- the inits of a binding, all of which are bound
  abbrev InitsClaim : Trees → Type 0
  InitsClaim es = (names : List ℕ) (scope : Scope) (n last : ℕ) (h : from.Environment) (environment saved : to.Environment) (s : State Procedure) (marks : List MarkKind) (k : Next (List Value))
      (body : Expression) (next : Then)
      (place : ℕ) (cs before : List (State Procedure → Outcome (State Procedure) Value)) (vs done : List Value)
      → place ≡ length before → place ≡ length done → cs ≡ before ++ values es h → vs ≡ done ++ blanks (values es h) → n + inits_bind es ≤ last
      → FineEach a fields es names → Agrees a start fields names scope n h environment → Reached a start s
      → ((ws : List Value) (t : State Procedure) (after : to.Environment) (m : List MarkKind) → Reached a start t → Below n environment after → Held last after (init_numbers es n) ws
      → Same a start (k (done ++ ws) t) (result body after saved (world t m) next))
      → Same a start (on_value (in_order (numbers place (count es)) cs vs s) k) (result (with_inits a.starts es scope n body) environment saved (world s marks) next)

  inits_same : (es : Trees) → EachClaim es → InitsClaim es
  inits_same no_trees claims names scope n last h environment saved s marks k body next place cs before vs done p q c v l f w r follows =
      same_of _ _ _ (ap (λ l. k l s) v) (follows [] s environment marks r (below_self n environment) tt)
  inits_same (and_tree e es) claims names scope n last h environment saved s marks k body next place cs before vs done p q c v l f w r follows =
      same_of _ _ _ (ap (λ o. on_value (on_value (computation.at_place o s) (λ u. in_order (numbers (suc place) (count es)) cs (slice_set vs place u))) k)
      (found cs before (values es h) (value e h false) place p c))
      (same_after a start (value e h false s) (λ u. in_order (numbers (suc place) (count es)) cs (slice_set vs place u)) k _
      (bound_same e claims.0 names scope n h environment saved s marks (λ u t. on_value (in_order (numbers (suc place) (count es)) cs (slice_set vs place u) t) k)
      (with_inits a.starts es scope (suc n + binds e) body) next f.0 w r
      (λ u t after m g b x.
      inits_same es claims.1 names scope (suc n + binds e) last h after saved t m k body next (suc place) cs (before ++ value e h false ∷ []) (slice_set vs place u) (done ++ u ∷ [])
      (omega (arith, p, length-append before (value e h false ∷ []))) (omega (arith, q, length-append done (u ∷ [])))
      (c ∙ sym (append_assoc before (value e h false ∷ []) (values es h))) (written vs done (blanks (values es h)) u place q v) (omega (arith, l)) f.1
      (agrees_below a start fields names scope n (suc n + binds e) h environment after (omega arith) b w) g
      (λ ws t later m g b' held. same_of _ _ _ (ap (λ l. k l t) (append_assoc done (u ∷ []) ws))
      (follows (u ∷ ws) t later m g (below_on n (suc n + binds e) environment after later (omega arith) b b') (omega (arith, l), b'.at n (omega arith) ∙ x, held))))))

  -- ## Calls

  returned : (n : ℕ) (environment saved : to.Environment) (s : State Procedure) (k : Next Value) (next : Then) (o : Outcome (State Procedure) Value) (r : Result) → Reached a start s → Same a s o r
      → Goes false n environment saved k next
      → Same a start (on_value o k) (on_return r (λ v w. next v environment saved w))
  returned n environment saved s k next (gives v t) r q h g =
      same_by _ _ _ (ap (λ r. on_return r (λ v w. next v environment saved w)) h.1) (g.follows v t environment h.0 (reached_on a start s t q h.2) (below_self n environment))
  returned n environment saved s k next (stops why t) r q h g =
      let end : Same a start (stops why t) (Some (stops why h.0)) = (h.0, refl, h.2) in
      same_by (stops why t) (on_return r (λ v w. next v environment saved w)) (Some (stops why h.0)) (ap (λ r. on_return r (λ v w. next v environment saved w)) h.1) end
  returned n environment saved s k next (spent t) r q h g =
      let end : Same a start (spent t) (Some (spent h.0)) = (h.0, refl, h.2) in
      same_by (spent t) (on_return r (λ v w. next v environment saved w)) (Some (spent h.0)) (ap (λ r. on_return r (λ v w. next v environment saved w)) h.1) end

  last_called : (s : State Procedure) (k : Next Value) (o : Outcome (State Procedure) Value) (r : Result) → Reached a start s → Same a s o r → ((v : Value) (t : State Procedure) → k v t ≡ gives v t)
      → Same a start (on_value o k) r
  last_called s k (gives v t) r q h whole = same_of _ _ _ (whole v t) (h.0, h.1, reached_on a start s t q h.2)
  last_called s k (stops why t) r q h whole = h
  last_called s k (spent t) r q h whole = h

  called_same : (tail : Bool) (x : Application ℕ) (n : ℕ) (environment saved : to.Environment) (s : State Procedure) (marks : List MarkKind) (us : List Value) (k : Next Value) (next : Then)
      → part_values environment s.store x ≡ Some us → Reached a start s → Goes tail n environment saved k next
      → Same a start (on_value (call_with enter x.spread tail depth us s) k) (result (called tail x) environment saved (world s marks) next)
  called_same false x n environment saved s marks us k next e r g =
      same_by _ _ _ (ap (λ o. when_some o (λ vs. on_return (call_in callee x.spread false depth vs (marked (Call x.site) (world s marks))) (λ v w. next v environment saved w))) e)
      (returned n environment saved s k next _ _ r (same_call a enter callee same_enter s (marks ++ Call x.site ∷ []) x.spread false depth us (reached_self a start s r)) g)
  called_same true x n environment saved s marks us k next e r g =
      let l = g.link refl in
      same_by _ _ _ (ap (λ o. when_some o (λ link. when_some (part_values environment s.store x) (λ vs. call_in callee x.spread true depth vs (marked (Tail x.site) (world s marks))))) l.1)
      (same_by _ _ _ (ap (λ o. when_some o (λ vs. call_in callee x.spread true depth vs (marked (Tail x.site) (world s marks)))) e)
      (last_called s k _ _ r (same_call a enter callee same_enter s (marks ++ Tail x.site ∷ []) x.spread true depth us (reached_self a start s r)) (g.whole refl)))

  -- a call, once its operator and its operands are bound: the parts that are left change nothing
  parts_called : (b : Bool) (f : Tree) → is_simple f ≡ b → (es : Trees) (site : ℕ) (spread tail : Bool) (names : List ℕ) (scope : Scope) (n m x : ℕ) (h : from.Environment)
      (environment saved : to.Environment) (s : State Procedure) (marks : List MarkKind) (k : Next Value) (next : Then) (w : Value) (ws : List Value) (rest : List ℕ)
      → ((t : State Procedure) (us vs : List Value) → Parts t (value f h false ∷ values es h) vs us (b ∷ simples es) → in_order rest (value f h false ∷ values es h) vs t ≡ gives us t)
      → Fine a fields f names → FineEach a fields es names → Filled es n ws environment → (b ≡ false → environment x ≡ Some w)
      → Agrees a start fields names scope m h environment → Reached a start s → Goes tail m environment saved k next
      → Same a start (on_value (in_order rest (value f h false ∷ values es h) (w ∷ ws) s) (λ us t. on_value (call_with enter spread tail depth us t) k))
      (result (called tail (record {
        site = site;
        spread = spread;
        operator = cond b (simple_operand scope f) (operand.Atom (atom.Variable x));
        operands =
            operands_at scope es n;
      })) environment saved (world s marks) next)
  parts_called b f i es site spread tail names scope n m x h environment saved s marks k next w ws rest settles ff fs filled o g r goes =
      let operator = part_given a start fields enter names scope h environment depth m x f w b i ff g s r o in
      let others = parts_given a start fields enter names scope h environment depth m n es ws fs g s r filled in
      let us : List Value = operator.0 ∷ others.0 in
      same_of _ _ _ (ap (λ o. on_value o (λ us t. on_value (call_with enter spread tail depth us t) k)) (settles s us (w ∷ ws) (operator.1 (values es h) ws others.0 (simples es) others.1)))
      (called_same tail (record {
        site = site;
        spread = spread;
        operator = cond b (simple_operand scope f) (operand.Atom (atom.Variable x));
        operands =
            operands_at scope es n;
      }) m environment saved s marks us k next (rw (operator.2, others.2) refl) r goes)

  -- a call, once its operands are bound
  operator_same : (b : Bool) (f : Tree) → is_simple f ≡ b → Claim f
      → (es : Trees) (site : ℕ) (spread tail : Bool) (names : List ℕ) (scope : Scope) (n x : ℕ) (h : from.Environment) (environment saved : to.Environment) (s : State Procedure)
      (marks : List MarkKind) (k : Next Value) (next : Then) (ws : List Value) (rest : List ℕ)
      → ((t : State Procedure) (us vs : List Value) → Parts t (value f h false ∷ values es h) vs us (b ∷ simples es) → in_order rest (value f h false ∷ values es h) vs t ≡ gives us t)
      → Fine a fields f names → FineEach a fields es names → n + operands_bind es ≤ x → Filled es n ws environment
      → Agrees a start fields names scope x h environment → Reached a start s → Goes tail x environment saved k next
      → Same a start (on_value (in_order (cond b [] (0 ∷ []) ++ rest) (value f h false ∷ values es h) (unspecified ∷ ws) s) (λ us t. on_value (call_with enter spread tail depth us t) k))
      (result (bound_unless b x (normal a.starts false f scope (suc x))
      (called tail (record {
        site = site;
        spread = spread;
        operator = cond b (simple_operand scope f) (operand.Atom (atom.Variable x));
        operands =
            operands_at scope es n;
      }))) environment saved (world s marks) next)
  operator_same true f i claim es site spread tail names scope n x h environment saved s marks k next ws rest settles ff fs l filled g r goes =
      parts_called true f i es site spread tail names scope n x x h environment saved s marks k next unspecified ws rest settles ff fs filled (λ e. absurd (cc)) g r goes
  operator_same false f i claim es site spread tail names scope n x h environment saved s marks k next ws rest settles ff fs l filled g r goes =
      same_after a start (value f h false s) (λ u. in_order rest (value f h false ∷ values es h) (u ∷ ws)) (λ us t. on_value (call_with enter spread tail depth us t) k) _
      (bound_same f claim names scope x h environment saved s marks
      (λ u t. on_value (in_order rest (value f h false ∷ values es h) (u ∷ ws) t) (λ us t. on_value (call_with enter spread tail depth us t) k))
      (called tail (record { site = site; spread = spread; operator = operand.Atom (atom.Variable x); operands = operands_at scope es n })) next ff g r
      (λ u t after m q b e. parts_called false f i es site spread tail names scope n x x h after saved t m k next u ws rest settles ff fs (filled_below es n x ws environment after l b filled) (λ _. e)
      (agrees_below a start fields names scope x x h environment after (omega arith) b g) q (goes_on tail x x environment after saved k next g.two (omega arith) b goes)))

  call_same : (f : Tree) → Claim f → (es : Trees) → EachClaim es → (site : ℕ) (spread : Bool) → Claim (call site spread f es)
  call_same f claim es claims site spread tail names scope n h environment saved s marks k next fine w r g =
      let order = call_rest (State Procedure) f es (a.orders site) fine.0 in
      same_after a start (all_values (a.orders site) (value f h false ∷ values es h) s) (call_with enter spread tail depth) k _
      (same_of _ _ _ (ap (λ o. on_value (in_order o (value f h false ∷ values es h) (unspecified ∷ blanks (values es h)) s) (λ us t. on_value (call_with enter spread tail depth us t) k)) order.is)
      (operands_same es claims names scope n h environment saved s marks (λ us t. on_value (call_with enter spread tail depth us t) k) _ next 1 (value f h false ∷ values es h)
      (value f h false ∷ []) (unspecified ∷ blanks (values es h)) (unspecified ∷ []) (operator_place f ++ order.rest)
      refl refl refl refl fine.2 w r
      (λ ws t after m q b filled. operator_same (is_simple f) f refl claim es site spread tail names scope n (n + operands_bind es) h after saved t m k next ws order.rest
      (λ t us vs parts. order.settles parts) fine.1 fine.2 (omega arith) filled
      (agrees_below a start fields names scope n (n + operands_bind es) h environment after (omega arith) b w) q
      (goes_on tail n (n + operands_bind es) environment after saved k next w.two (omega arith) b g))))

  operation_same : (es : Trees) → EachClaim es → (site : ℕ) (which : Primitive) → Claim (operation site which es)
  operation_same es claims site which tail names scope n h environment saved s marks k next fine w r g =
      let order = operands_rest (State Procedure) es (a.orders site) fine.0 in
      same_after a start (all_values (a.orders site) (values es h) s) (λ us. in_store (primitive which us)) k _
      (same_of _ _ _ (ap (λ o. on_value (in_order o (values es h) (blanks (values es h)) s) (λ us t. on_value (in_store (primitive which us) t) k)) order.is)
      (operands_same es claims names scope n h environment saved s marks (λ us t. on_value (in_store (primitive which us) t) k) _ next 0 (values es h) [] (blanks (values es h)) [] order.rest
      refl refl refl refl fine.2 w r
      (λ ws t after m q b filled.
      let parts = parts_given a start fields enter names scope h after depth n n es ws fine.2 (agrees_below a start fields names scope n n h environment after (omega arith) b w) t q filled in
      same_of _ _ _ (ap (λ o. on_value o (λ us t. on_value (in_store (primitive which us) t) k)) (order.settles parts.1))
      (done_action tail (does.Prim site which (operands_at scope es n)) n after saved t m k next (primitive which parts.0) (rw parts.2 refl) ((steady_primitive which parts.0).grows t.store) q
      (goes_on tail n n environment after saved k next w.two (omega arith) b g)))))

  -- ## Bindings

  bind_same : (es : Trees) → EachClaim es → (e : Tree) → Claim e → (site first : ℕ) → Claim (bind site first es e)
  bind_same es claims e claim site first tail names scope n h environment saved s marks k next fine w r g =
      same_after a start (all_values (a.orders site) (values es h) s) (λ vs. value e (and_values first vs h) tail) k _
      (same_of _ _ _ (ap (λ o. on_value (in_order o (values es h) (blanks (values es h)) s) (λ vs t. on_value (value e (and_values first vs h) tail t) k))
      (inits_order (count es) (a.orders site) fine.0))
      (inits_same es claims names scope n (n + inits_bind es) h environment saved s marks (λ vs t. on_value (value e (and_values first vs h) tail t) k) _ next 0 (values es h) []
      (blanks (values es h)) []
      refl refl refl refl (omega arith) fine.1 w r
      (λ ws t after m q b held. claim tail (scope_with first (count es) names) (with_variables first (init_numbers es n) scope) (n + inits_bind es)
      (and_values first ws h) after saved t m k next fine.2
      (agrees_with a start fields names scope (n + inits_bind es) h after first (count es) (init_numbers es n) ws (init_numbers_length es n) held
      (agrees_below a start fields names scope n (n + inits_bind es) h environment after (omega arith) b w)) q
      (goes_on tail n (n + inits_bind es) environment after saved k next w.two (omega arith) b g))))

  -- ## Closures

  sources_given : (vs : List Variable) (names : List ℕ) (scope : Scope) (n : ℕ) (h : from.Environment) (environment : to.Environment) (s : State Procedure)
      → list_all (is_known names fields) vs ≡ true → Agrees a start fields names scope n h environment → Reached a start s
      → source_values environment (state_of a.starts s) (map (source_of scope) vs) ≡ Some (values_in h vs)
  sources_given [] names scope n h environment s i w r = refl
  sources_given (v ∷ vs) names scope n h environment s i w r =
      let here = source_given a start fields names scope n h environment v (and_left (is_known names fields v) (list_all (is_known names fields) vs) i) w s r in
      let more = sources_given vs names scope n h environment s (and_right (is_known names fields v) (list_all (is_known names fields) vs) i) w r in
      rw (here, more) refl

  values_length : (h : from.Environment) (vs : List Variable) → length (values_in h vs) ≡ length vs
  values_length h [] = refl
  values_length h (v ∷ vs) = ap suc (values_length h vs)

  -- more procedures, each with a body
  reached_more : (s : State Procedure) (cells : List (Option Value)) (t : Store) (cs : List Procedure) → Reached a start s → t.constants ≡ a.constants → list_all (is_procedure_of a.bodies) cs ≡ true
      → Reached a start (record { cells = cells; store = t; procedures = s.procedures ++ cs })
  reached_more s cells t cs r e k = record {
    kept = λ i c h. get_grown s.procedures cs i c (r.kept i c h);
    constants = e;
    known = list_all-append (is_procedure_of a.bodies) s.procedures cs ∙ rw (r.known, k) refl;
  }

  is_made_known : (m : Made) (names : List ℕ) → is_made a.bodies names fields m ≡ true → list_all (is_known names fields) m.fields ≡ true
  is_made_known m names i = and_left (list_all (is_known names fields) m.fields) _ i

  made_procedure : (m : Made) (names : List ℕ) (h : from.Environment) → is_made a.bodies names fields m ≡ true → is_procedure_of a.bodies (closure h m) ≡ true
  made_procedure m names h i = rw (values_length h m.fields) (and_right (list_all (is_known names fields) m.fields) (has_fields (slice_get a.bodies m.label) (length m.fields)) i)

  closure_same : (m : Made) → Claim (make_closure m)
  closure_same m tail names scope n h environment saved s marks k next fine w r g =
      let us : List Value = values_in h m.fields in
      let given : source_values environment (state_of a.starts s) (map (source_of scope) m.fields) ≡ Some us = sources_given m.fields names scope n h environment s (is_made_known m names fine) w r in
      same_by _ _ _ (finishes tail (does.MakeClosure (closure_of a.starts scope m)) environment saved (world s marks) next
      (operations.close (normal.new_label a.starts m.label) us (state_of a.starts s)) (rw given refl))
      (same_of _ _ _ (ap (λ b. on_value (on_value (in_store (charge (procedure_bytes b)) s) (λ _. new_procedure (closure h m))) k) (sym (values_length h m.fields)))
      (same_after a start (in_store (charge (procedure_bytes (length us))) s) (λ _. new_procedure (closure h m)) k _
      (same_by _ _ _ (on_after marks (in_store (charge (procedure_bytes (length us))) (state_of a.starts s)) (λ _. new_procedure (image a.starts (closure h m)))
      (λ v w. ends tail next v environment saved w))
      (same_action a start s (charge (procedure_bytes (length us)) s.store) s.cells marks (λ u t. on_value (new_procedure (closure h m) t) k)
      (λ u w. on_outcome w.marks (new_procedure (image a.starts (closure h m)) w.state) (λ v w. ends tail next v environment saved w)) r
      ((steady_charge (procedure_bytes (length us))).grows s.store)
      (λ u t c. same_by _ _ _ (made_state t)
      (g.follows (procedure (length s.procedures)) (record { cells = s.cells; store = t; procedures = s.procedures ++ closure h m ∷ [] }) environment marks
      (reached_more s s.cells t (closure h m ∷ []) r c (rw (made_procedure m names h fine) refl)) (below_self n environment)))))))
    where
      made_state : (t : Store) → ends tail next (procedure (length (images a.starts s.procedures))) environment saved
          (record { state = record { cells = s.cells; store = t; procedures = images a.starts s.procedures ++ image a.starts (closure h m) ∷ [] }; marks = marks })
          ≡ ends tail next (procedure (length s.procedures)) environment saved (world (record { cells = s.cells; store = t; procedures = s.procedures ++ closure h m ∷ [] }) marks)
      made_state t = rw (length-map s.procedures (image a.starts), map-append (image a.starts) s.procedures (closure h m ∷ [])) refl

  -- ## Groups of procedures

  group_bytes : (scope : Scope) (ms : List Made) (n : ℕ) → member_bytes (members_of a.starts scope ms n) ≡ closures_bytes ms
  group_bytes scope [] n = refl
  group_bytes scope (m ∷ ms) n = rw (length-map m.fields (source_of scope), group_bytes scope ms (suc n)) refl

  group_length : (scope : Scope) (ms : List Made) (n : ℕ) → length (members_of a.starts scope ms n) ≡ length ms
  group_length scope [] n = refl
  group_length scope (m ∷ ms) n = ap suc (group_length scope ms (suc n))

  group_made : (ms : List Made) (names : List ℕ) (scope : Scope) (n x : ℕ) (h : from.Environment) (environment : to.Environment) (s : State Procedure)
      → list_all (is_made a.bodies names fields) ms ≡ true → Agrees a start fields names scope x h environment → Reached a start s
      → members_made environment (state_of a.starts s) (members_of a.starts scope ms n) ≡ Some (images a.starts (closures h ms))
  group_made [] names scope n x h environment s i w r = refl
  group_made (m ∷ ms) names scope n x h environment s i w r =
      let here = and_left (is_made a.bodies names fields m) (list_all (is_made a.bodies names fields) ms) i in
      let more = group_made ms names scope (suc n) x h environment s (and_right (is_made a.bodies names fields m) (list_all (is_made a.bodies names fields) ms) i) w r in
      rw (sources_given m.fields names scope x h environment s (is_made_known m names here) w r, more) refl

  group_known : (ms : List Made) (names : List ℕ) (h : from.Environment) → list_all (is_made a.bodies names fields) ms ≡ true → list_all (is_procedure_of a.bodies) (closures h ms) ≡ true
  group_known [] names h i = refl
  group_known (m ∷ ms) names h i =
      rw (made_procedure m names h (and_left (is_made a.bodies names fields m) (list_all (is_made a.bodies names fields) ms) i))
      (group_known ms names h (and_right (is_made a.bodies names fields m) (list_all (is_made a.bodies names fields) ms) i))

  put_each_below : (scope : Scope) (ms : List Made) (n : ℕ) (vs : List Value) (environment : to.Environment) → Below n environment (put_each environment (members_of a.starts scope ms n) vs)
  put_each_below scope [] n vs environment = below_self n environment
  put_each_below scope (m ∷ ms) n [] environment = below_self n environment
  put_each_below scope (m ∷ ms) n (v ∷ vs) environment =
      below_on n (suc n) environment (put environment n v) _ (omega arith) (below_put n environment environment v (below_self n environment)) (put_each_below scope ms (suc n) vs (put environment n v))

  put_each_held : (scope : Scope) (ms : List Made) (n last : ℕ) (vs : List Value) (environment : to.Environment) → n + length ms ≤ last → length vs ≡ length ms
      → Held last (put_each environment (members_of a.starts scope ms n) vs) (numbers_for ms n) vs
  put_each_held scope [] n last [] environment l e = tt
  put_each_held scope [] n last (v ∷ vs) environment l e = absurd (omega (arith, e))
  put_each_held scope (m ∷ ms) n last [] environment l e = absurd (omega (arith, e))
  put_each_held scope (m ∷ ms) n last (v ∷ vs) environment l e = (
    omega (arith, l),
    (put_each_below scope ms (suc n) vs (put environment n v)).at n (omega arith)
        ∙ put_same environment n v,
    put_each_held scope ms (suc n) last vs (put environment n v) (omega (arith, l)) (omega (arith, e)),
  )

  -- the rest of a group, once it is charged
  abbrev Grouped : (x : Expression) → List (Member ℕ) → to.Environment → (saved : to.Environment) → State Procedure → List MarkKind → Then → List Value → Result
  Grouped x members environment saved t marks next vs =
      when_some (with_procedures t (members_made (put_each environment members vs) t members))
      (λ u. to.evaluate plain callee depth x no_region (put_each environment members vs) (put_inside no_region saved members vs)
      (mark_members plain no_region members (record { state = u; marks = marks })) next)

  grouped : (x : Expression) (members : List (Member ℕ)) (environment saved : to.Environment) (t : State Procedure) (marks : List MarkKind) (next : Then) (vs : List Value) (made : List Procedure)
      → members_made (put_each environment members vs) t members ≡ Some made
      → Grouped x members environment saved t marks next vs ≡ result x (put_each environment members vs) saved
      (record { state = record { cells = t.cells; store = t.store; procedures = t.procedures ++ made }; marks = marks }) next
  grouped x members environment saved t marks next vs made e =
      rw (e, none_saved saved members vs, members_unmarked members (record { state = record { cells = t.cells; store = t.store; procedures = t.procedures ++ made }; marks = marks })) refl

  fix_same : (ms : List Made) (e : Tree) → Claim e → (first : ℕ) → Claim (fix_closures first ms e)
  fix_same ms e claim first tail names scope n h environment saved s marks k next fine w r g =
      same_by _ _ _ (ap (λ l. on_outcome marks (in_store (charge_each l) (state_of a.starts s))
      (λ _ w. Grouped body members environment saved w.state w.marks next (procedures_from (length w.state.procedures) (length members)))) (group_bytes inner ms n))
      (same_after a start (in_store (charge_each (closures_bytes ms)) s)
      (λ _. computation.after (computation.new_group (length ms) (λ vs. closures (and_values first vs h) ms)) (λ vs. value e (and_values first vs h) tail)) k _
      (same_action a start s (charge_each (closures_bytes ms) s.store) s.cells marks
      (λ _ t. on_value (computation.after (computation.new_group (length ms) (λ vs. closures (and_values first vs h) ms)) (λ vs. value e (and_values first vs h) tail) t) k)
      (λ _ w. Grouped body members environment saved w.state w.marks next (procedures_from (length w.state.procedures) (length members))) r
      ((steady_charge_each (closures_bytes ms)).grows s.store)
      (λ u t c. same_by _ _ _ (made_state t c)
      (claim tail inside inner (n + length ms) (and_values first vs h) after saved
      (record { cells = s.cells; store = t; procedures = s.procedures ++ closures (and_values first vs h) ms }) marks k next fine.1 agrees
      (reached_more s s.cells t (closures (and_values first vs h) ms) r c (group_known ms inside (and_values first vs h) fine.0))
      (goes_on tail n (n + length ms) environment after saved k next w.two (omega arith) (put_each_below inner ms n vs environment) g)))))
    where
      inside : List ℕ
      inside = scope_with first (length ms) names

      inner : Scope
      inner = with_variables first (numbers_for ms n) scope

      members : List (Member ℕ)
      members = members_of a.starts inner ms n

      body : Expression
      body = normal a.starts tail e inner (n + length ms)

      vs : List Value
      vs = procedures_from (length s.procedures) (length ms)

      after : to.Environment
      after = put_each environment members vs

      agrees : Agrees a start fields inside inner (n + length ms) (and_values first vs h) after
      agrees =
          agrees_with a start fields names scope (n + length ms) h after first (length ms) (numbers_for ms n) vs (numbers_for_length ms n)
          (put_each_held inner ms n (n + length ms) vs environment (omega arith) (procedures_length (length s.procedures) (length ms)))
          (agrees_below a start fields names scope n (n + length ms) h environment after (omega arith) (put_each_below inner ms n vs environment) w)

      same_numbers : procedures_from (length (images a.starts s.procedures)) (length members) ≡ vs
      same_numbers = rw (length-map s.procedures (image a.starts), group_length inner ms n) refl

      made_state : (t : Store) → t.constants ≡ a.constants
          → Grouped body members environment saved (record { cells = s.cells; store = t; procedures = images a.starts s.procedures }) marks next
          (procedures_from (length (images a.starts s.procedures)) (length members))
          ≡ result body after saved (world (record { cells = s.cells; store = t; procedures = s.procedures ++ closures (and_values first vs h) ms }) marks) next
      made_state t c =
          ap (λ l. Grouped body members environment saved (record { cells = s.cells; store = t; procedures = images a.starts s.procedures }) marks next l) same_numbers
          ∙ (grouped body members environment saved (record { cells = s.cells; store = t; procedures = images a.starts s.procedures }) marks next vs
          (images a.starts (closures (and_values first vs h) ms))
          (group_made ms inside inner n (n + length ms) (and_values first vs h) after (record { cells = s.cells; store = t; procedures = s.procedures }) fine.0 agrees
          (reached_store a start s s.cells t r c))
          ∙ ap (λ l. result body after saved (record { state = record { cells = s.cells; store = t; procedures = l }; marks = marks }) next)
          (sym (map-append (image a.starts) s.procedures (closures (and_values first vs h) ms))))

  -- ## Cells that are made one after another

  abbrev cell_values : {A : Type 0} → ℕ → List A → List Value
  cell_values m [] = []
  cell_values m (x ∷ xs) = cell m ∷ cell_values (suc m) xs

  abbrev state_with : List (Option Value) → Store → State Procedure → State Procedure
  state_with cells t s = record { cells = cells; store = t; procedures = images a.starts s.procedures }

  content_given : (o : Option Variable) (names : List ℕ) (scope : Scope) (n : ℕ) (h : from.Environment) (environment : to.Environment) (s : State Procedure) (cells : List (Option Value))
      → is_content names fields o ≡ true → Agrees a start fields names scope n h environment → Reached a start s
      → operate environment (cell_operation scope o) (state_with cells s.store s) ≡ Some (operations.new_cell (from.content h o) (state_with cells s.store s))
  content_given None names scope n h environment s cells i w r = refl
  content_given (Some (bound x)) names scope n h environment s cells i w r = rw (w.at x i).1 refl
  content_given (Some (free k)) names scope n h environment s cells i w r = rw (w.field k i s r) refl

  abbrev CellsClaim : List NewCell → Type 0
  CellsClaim cs = (names : List ℕ) (scope : Scope) (n m last : ℕ) (h : from.Environment) (environment saved : to.Environment) (s : State Procedure) (marks : List MarkKind)
      (added : List (Option Value)) (k : State Procedure → Outcome (State Procedure) Value) (body : Expression) (next : Then)
      → list_all (λ c. is_content names fields c.content) cs ≡ true → m ≡ length s.cells + length added → n + length cs ≤ last → Agrees a start fields names scope n h environment → Reached a start s
      → ((t : Store) (after : to.Environment) (marks : List MarkKind) → t.constants ≡ a.constants → Below n environment after → Held last after (numbers_for cs n) (cell_values m cs)
      → Same a start (k (record { cells = s.cells; store = t; procedures = s.procedures }))
      (result body after saved (record { state = state_with (s.cells ++ (added ++ from.contents h cs)) t s; marks = marks }) next))
      → Same a start (on_value (in_store (charge_each (cells_bytes (length cs))) s) (λ _ t. k t))
      (result (with_new_cells scope cs n body) environment saved (record { state = state_with (s.cells ++ added) s.store s; marks = marks }) next)

  cells_same : (cs : List NewCell) → CellsClaim cs
  cells_same [] names scope n m last h environment saved s marks added k body next i e l w r follows =
      same_by _ _ _ (ap (λ d. result body environment saved (record { state = state_with (s.cells ++ d) s.store s; marks = marks }) next) (sym (append-nil added)))
      (follows s.store environment marks r.constants (below_self n environment) tt)
  cells_same (c ∷ cs) names scope n m last h environment saved s marks added k body next i e l w r follows =
      same_of _ _ _ (ap (λ o. on_value o (λ _ t. k t)) (rest_after s.cells s.procedures (charge cell_bytes s.store) (λ _. charge_each (cells_bytes (length cs)))))
      (same_after a start (in_store (charge cell_bytes) s) (λ _. in_store (charge_each (cells_bytes (length cs)))) (λ _ t. k t) _
      (same_by _ _ _ (bound_cell (from.content h c.content) (content_given c.content names scope n h environment s (s.cells ++ added) here w r))
      (same_action a start s (charge cell_bytes s.store) (s.cells ++ added) marks (λ _ t. on_value (in_store (charge_each (cells_bytes (length cs))) t) (λ _ t. k t))
      (λ _ u. result (with_new_cells scope cs (suc n) body) (put environment n (cell (length u.state.cells))) saved
      (record { state = record { cells = u.state.cells ++ from.content h c.content ∷ []; store = u.state.store; procedures = u.state.procedures }; marks = u.marks }) next) r
      ((steady_charge cell_bytes).grows s.store)
      (λ u t c'. same_by _ _ _ (placed t)
      (cells_same cs names scope (suc n) (suc m) last h (put environment n (cell m)) saved (record { cells = s.cells; store = t; procedures = s.procedures }) marks
      (added ++ from.content h c.content ∷ []) k body next
      (and_right (is_content names fields c.content) (list_all (λ c. is_content names fields c.content) cs) i) (omega (arith, e, length-append added (from.content h c.content ∷ [])))
      (omega (arith, l))
      (agrees_below a start fields names scope n (suc n) h environment (put environment n (cell m)) (omega arith) (below_put n environment environment (cell m) (below_self n environment)) w)
      (reached_store a start s s.cells t r c')
      (λ t after marks c' b held. same_by _ _ _ (ap (λ d. result body after saved (record { state = state_with (s.cells ++ d) t s; marks = marks }) next)
      (append_assoc added (from.content h c.content ∷ []) (from.contents h cs)))
      (follows t after marks c' (below_on n (suc n) environment (put environment n (cell m)) after (omega arith) (below_put n environment environment (cell m) (below_self n environment)) b)
      (omega (arith, l), b.at n (omega arith) ∙ put_same environment n (cell m), held))))))))
    where
      here : is_content names fields c.content ≡ true
      here = and_left (is_content names fields c.content) (list_all (λ c. is_content names fields c.content) cs) i

      placed : (t : Store) → result (with_new_cells scope cs (suc n) body) (put environment n (cell (length (s.cells ++ added)))) saved
          (record { state = state_with ((s.cells ++ added) ++ from.content h c.content ∷ []) t s; marks = marks }) next
          ≡ result (with_new_cells scope cs (suc n) body) (put environment n (cell m)) saved
          (record { state = state_with (s.cells ++ (added ++ from.content h c.content ∷ [])) t s; marks = marks }) next
      placed t =
          ap (λ j. result (with_new_cells scope cs (suc n) body) (put environment n (cell j)) saved
          (record { state = state_with ((s.cells ++ added) ++ from.content h c.content ∷ []) t s; marks = marks }) next) (length-append s.cells added ∙ sym e)
          ∙ ap (λ d. result (with_new_cells scope cs (suc n) body) (put environment n (cell m)) saved (record { state = state_with d t s; marks = marks }) next)
          (append_assoc s.cells added (from.content h c.content ∷ []))

      bound_cell : (o : Option Value) → operate environment (cell_operation scope c.content) (state_with (s.cells ++ added) s.store s)
          ≡ Some (operations.new_cell o (state_with (s.cells ++ added) s.store s))
          → result (with_new_cells scope (c ∷ cs) n body) environment saved (record { state = state_with (s.cells ++ added) s.store s; marks = marks }) next
          ≡ on_outcome marks (in_store (charge cell_bytes) (state_with (s.cells ++ added) s.store s))
          (λ _ u. result (with_new_cells scope cs (suc n) body) (put environment n (cell (length u.state.cells))) saved
          (record { state = record { cells = u.state.cells ++ o ∷ []; store = u.state.store; procedures = u.state.procedures }; marks = u.marks }) next)
      bound_cell o q =
          ap (λ out. to.on_ending marks out (λ v u. result (with_new_cells scope cs (suc n) body) (put environment n v) saved u next)) q
          ∙ on_after marks (in_store (charge cell_bytes) (state_with (s.cells ++ added) s.store s))
          (λ _ u. gives (cell (length u.cells)) (record { cells = u.cells ++ o ∷ []; store = u.store; procedures = u.procedures }))
          (λ v u. result (with_new_cells scope cs (suc n) body) (put environment n v) saved u next)

  -- the variables of new cells
  agrees_cells : {A : Type 0} (cs : List NewCell) (xs : List A) (names : List ℕ) (scope : Scope) (n m last : ℕ) (h : from.Environment) (environment : to.Environment) → length xs ≡ length cs
      → Held last environment (numbers_for cs n) (cell_values m cs) → Agrees a start fields names scope last h environment
      → Agrees a start fields (cells_scope cs names) (normal.cells_scope cs n scope) last (from.and_cells cs (numbers_from m xs) h) environment
  agrees_cells [] [] names scope n m last h environment l k w = w
  agrees_cells [] (x ∷ xs) names scope n m last h environment l k w = w
  agrees_cells (c ∷ cs) [] names scope n m last h environment l k w = absurd (omega (arith, l))
  agrees_cells (c ∷ cs) (x ∷ xs) names scope n m last h environment l k w =
      agrees_cells cs xs (c.variable ∷ names) ((c.variable, n) ∷ scope) (suc n) (suc m) last (push a start fields c.variable (cell m) h) environment (omega (arith, l)) k.2
      (agrees_push a start fields names scope last h environment c.variable n (cell m) k.0 k.1 w)

  contents_length : (h : from.Environment) (cs : List NewCell) → length (from.contents h cs) ≡ length cs
  contents_length h [] = refl
  contents_length h (c ∷ cs) = ap suc (contents_length h cs)

  new_cells_same : (cs : List NewCell) (e : Tree) → Claim e → Claim (new_cells cs e)
  new_cells_same cs e claim tail names scope n h environment saved s marks k next fine w r g =
      same_after a start (in_store (charge_each (cells_bytes (length cs))) s) (λ _. computation.after (computation.new_cells (from.contents h cs)) (λ ns. value e (from.and_cells cs ns h) tail)) k _
      (same_by _ _ _ (ap (λ cells. result (with_new_cells scope cs n (normal a.starts tail e (normal.cells_scope cs n scope) (n + length cs))) environment saved
      (record { state = state_with cells s.store s; marks = marks }) next) (sym (append-nil s.cells)))
      (cells_same cs names scope n (length s.cells) (n + length cs) h environment saved s marks []
      (λ t. on_value (computation.after (computation.new_cells (from.contents h cs)) (λ ns. value e (from.and_cells cs ns h) tail) t) k)
      (normal a.starts tail e (normal.cells_scope cs n scope) (n + length cs)) next fine.0 (omega arith) (omega arith) w r
      (λ t after m c b held. claim tail (cells_scope cs names) (normal.cells_scope cs n scope) (n + length cs) (from.and_cells cs (numbers_from (length s.cells) (from.contents h cs)) h) after saved
      (record { cells = s.cells ++ from.contents h cs; store = t; procedures = s.procedures }) m k next fine.1
      (agrees_cells cs (from.contents h cs) names scope n (length s.cells) (n + length cs) h after (contents_length h cs) held
      (agrees_below a start fields names scope n (n + length cs) h environment after (omega arith) b w))
      (reached_store a start s (s.cells ++ from.contents h cs) t r c) (goes_on tail n (n + length cs) environment after saved k next w.two (omega arith) b g))))

  -- ## Tests and sequences

  branch_same : (x y z : Tree) → Claim x → Claim y → Claim z → Claim (branch x y z)
  branch_same x y z test consequent alternative tail names scope n h environment saved s marks k next fine w r g =
      same_after a start (value x h false s) (λ v. cond (is_true v) (value y h tail) (value z h tail)) k _
      (test false names scope n h environment saved s marks (λ v t. on_value (cond (is_true v) (value y h tail) (value z h tail) t) k)
      (λ v environment saved u. cond (is_true v) (result (normal a.starts tail y scope (n + binds x)) environment saved u next)
      (result (normal a.starts tail z scope (n + binds x + binds y)) environment saved u next)) fine.0 w r
      (record {
        follows = λ v t after m q b. chosen (is_true v) t after m q b;
        whole = λ e. absurd (cc);
        link = λ e. absurd (cc);
      }))
    where
      chosen : (c : Bool) (t : State Procedure) (after : to.Environment) (m : List MarkKind) → Reached a start t → Below n environment after
          → Same a start (on_value (cond c (value y h tail) (value z h tail) t) k)
          (cond c (result (normal a.starts tail y scope (n + binds x)) after saved (world t m) next) (result (normal a.starts tail z scope (n + binds x + binds y)) after saved (world t m) next))
      chosen true t after m q b = consequent tail names scope (n + binds x) h after saved t m k next fine.1
          (agrees_below a start fields names scope n (n + binds x) h environment after (omega arith) b w) q (goes_on tail n (n + binds x) environment after saved k next w.two (omega arith) b g)
      chosen false t after m q b = alternative tail names scope (n + binds x + binds y) h after saved t m k next fine.2
          (agrees_below a start fields names scope n (n + binds x + binds y) h environment after (omega arith) b w) q
          (goes_on tail n (n + binds x + binds y) environment after saved k next w.two (omega arith) b g)

  -- where nothing is wrong, an atom before other parts does nothing
  never : (o : Outcome (State Procedure) Value) → Same a start o None → ⊥
  never (gives v s) h = absurd (let e = h.1 in cc)
  never (stops why s) h = absurd (let e = h.1 in cc)
  never (spent s) h = absurd (let e = h.1 in cc)

  atom_left : (first : Expression) → is_bare_atom first ≡ true → (rest : Expression) (environment saved : to.Environment) (s : State Procedure) (marks : List MarkKind) (next : Then)
      (o : Outcome (State Procedure) Value)
      → Same a start o (result (tree.sequence first rest) environment saved (world s marks) next) → Same a start o (result rest environment saved (world s marks) next)
  atom_left (tree.perform (does.Operand (operand.Atom x))) i rest environment saved s marks next o h =
      read (operations.atom_value environment s.store x) h
    where
      read : (v : Option Value)
          → Same a start o (to.on_ending marks (when_some v (λ v. Some (gives v (state_of a.starts s)))) (λ v w. result rest environment saved w next))
          → Same a start o (result rest environment saved (world s marks) next)
      read None h = absurd (never o h)
      read (Some v) h = h
  atom_left (tree.perform (does.Field v k)) i rest environment saved s marks next o h =
      read (operations.field (environment v) k (images a.starts s.procedures)) h
    where
      read : (v : Option Value)
          → Same a start o (to.on_ending marks (when_some v (λ v. Some (gives v (state_of a.starts s)))) (λ v w. result rest environment saved w next))
          → Same a start o (result rest environment saved (world s marks) next)
      read None h = absurd (never o h)
      read (Some v) h = h
  atom_left _ i rest environment saved s marks next o h = absurd (cc)

  -- a part of a sequence before the last, which is bound or not
  either_part : (bound : Bool) (e : Tree) → Claim e → (es : Trees) (e' : Tree) (tail : Bool) (names : List ℕ) (scope : Scope) (n : ℕ) (h : from.Environment) (environment saved : to.Environment)
      (s : State Procedure) (marks : List MarkKind) (k : Next Value) (next : Then)
      → Fine a fields e names → Agrees a start fields names scope n h environment → Reached a start s
      → ((u : Value) (t : State Procedure) (after : to.Environment) (m : List MarkKind) (last : ℕ) → Reached a start t → Below n environment after → n ≤ last
      → Same a start (on_value (in_turn (from.parts a.orders enter (and_tree e' es) h depth tail) u t) k)
      (result (normal_parts a.starts tail (and_tree e' es) scope last) after saved (world t m) next))
      → Same a start (on_value (value e h false s) (λ u t. on_value (in_turn (from.parts a.orders enter (and_tree e' es) h depth tail) u t) k))
      (result (cond bound (tree.bind n (normal a.starts false e scope (suc n)) (normal_parts a.starts tail (and_tree e' es) scope (suc n + binds e)))
      (unless_atom (normal a.starts false e scope n) (normal_parts a.starts tail (and_tree e' es) scope (n + binds e)))) environment saved (world s marks) next)
  either_part true e claim es e' tail names scope n h environment saved s marks k next fine w r more =
      bound_same e claim names scope n h environment saved s marks (λ u t. on_value (in_turn (from.parts a.orders enter (and_tree e' es) h depth tail) u t) k)
      (normal_parts a.starts tail (and_tree e' es) scope (suc n + binds e)) next fine w r
      (λ u t after m q b x. more u t after m (suc n + binds e) q b (omega arith))
  either_part false e claim es e' tail names scope n h environment saved s marks k next fine w r more =
      let first = normal a.starts false e scope n in
      let rest = normal_parts a.starts tail (and_tree e' es) scope (n + binds e) in
      let goes = λ (u : Value) (t : State Procedure). on_value (in_turn (from.parts a.orders enter (and_tree e' es) h depth tail) u t) k in
      let done : Same a start (on_value (value e h false s) goes) (result (tree.sequence first rest) environment saved (world s marks) next) =
      claim false names scope n h environment saved s marks goes (λ u environment saved w. result rest environment saved w next) fine w r
      (record {
        follows = λ u t after m q b. more u t after m (n + binds e) q b (omega arith);
        whole = λ e. absurd (cc);
        link = λ e. absurd (cc);
      }) in
      dropped_as (λ z. Same a start (on_value (value e h false s) goes) (result z environment saved (world s marks) next)) first rest (λ i. done)
      (λ i. atom_left first i rest environment saved s marks next (on_value (value e h false s) goes) done)

  -- a sequence without a part has the unspecified value
  abbrev Started : Trees → Value → Type 0
  Started no_trees v = v ≡ unspecified
  Started (and_tree e es) v = Unit {0}

  parts_same : (es : Trees) → EachClaim es → (tail : Bool) (names : List ℕ) (scope : Scope) (n : ℕ) (h : from.Environment) (environment saved : to.Environment) (s : State Procedure)
      (marks : List MarkKind) (v : Value) (k : Next Value) (next : Then)
      → Started es v → FineEach a fields es names → Agrees a start fields names scope n h environment → Reached a start s → Goes tail n environment saved k next
      → Same a start (on_value (in_turn (from.parts a.orders enter es h depth tail) v s) k) (result (normal_parts a.starts tail es scope n) environment saved (world s marks) next)
  parts_same no_trees claims tail names scope n h environment saved s marks v k next i fine w r g =
      same_of _ _ _ (ap (λ v. k v s) i) (done_value tail _ n environment saved s marks k next unspecified refl r g)
  parts_same (and_tree e no_trees) claims tail names scope n h environment saved s marks v k next i fine w r g =
      same_after a start (value e h tail s) (in_turn []) k _ (claims.0 tail names scope n h environment saved s marks k next fine.0 w r g)
  parts_same (and_tree e (and_tree e' es)) claims tail names scope n h environment saved s marks v k next i fine w r g =
      same_after a start (value e h false s) (in_turn (from.parts a.orders enter (and_tree e' es) h depth tail)) k _
      (either_part (ends_in_call e) e claims.0 es e' tail names scope n h environment saved s marks k next fine.0 w r
      (λ u t after m last q b l. parts_same (and_tree e' es) claims.1 tail names scope last h after saved t m u k next tt fine.1
      (agrees_below a start fields names scope n last h environment after l b w) q (goes_on tail n last environment after saved k next w.two l b g)))

  -- ## Values that are set

  global_same : (e : Tree) → Claim e → (j : ℕ) → Claim (set_global j e)
  global_same e claim j tail names scope n h environment saved s marks k next fine w r g =
      same_after a start (value e h false s) (λ v. in_store (write_global j v)) k _
      (part_same e claim (is_simple e) refl names scope n h environment saved s marks (λ v t. on_value (in_store (write_global j v) t) k)
      (finished tail (tree.perform (does.SetGlobal j (operand_at scope e n)))) next fine w r
      (λ v t after m q b o. done_action tail (does.SetGlobal j (operand_at scope e n)) n after saved t m k next (write_global j v) (rw o refl) ((steady_write_global j v).grows t.store) q
      (goes_on tail n n environment after saved k next w.two (omega arith) b g)))

  cell_set_same : (v : Variable) (e : Tree) → Claim e → Claim (cell_set v e)
  cell_set_same x e claim tail names scope n h environment saved s marks k next fine w r g =
      same_after a start (value e h false s) (λ u. with_cell (value_in h x) (λ c. write_cell c u)) k _
      (part_same e claim (is_simple e) refl names scope n h environment saved s marks (λ u t. on_value (with_cell (value_in h x) (λ c. write_cell c u) t) k)
      (finished tail (tree.perform (does.CellSet (source_of scope x) (operand_at scope e n)))) next fine.1 w r
      (λ u t after m q b o.
      let given = source_given a start fields names scope n h after x fine.0 (agrees_below a start fields names scope n n h environment after (omega arith) b w) t q in
      same_by _ _ _ (finishes tail (does.CellSet (source_of scope x) (operand_at scope e n)) after saved (world t m) next
      (with_cell (value_in h x) (λ c. write_cell c u) (state_of a.starts t)) (rw (given, o) refl))
      (set_same tail n after saved t m k next (value_in h x) u q (goes_on tail n n environment after saved k next w.two (omega arith) b g))))

  cell_get_same : (v : Variable) → Claim (cell_get v)
  cell_get_same x tail names scope n h environment saved s marks k next fine w r g =
      let given = source_given a start fields names scope n h environment x fine w s r in
      same_by _ _ _ (finishes tail (does.CellGet (source_of scope x)) environment saved (world s marks) next (with_cell (value_in h x) read_cell (state_of a.starts s)) (rw given refl))
      (get_same tail n environment saved s marks k next (value_in h x) r g)

  literal_same : (j : ℕ) → Claim (literal j)
  literal_same j tail names scope n h environment saved s marks k next fine w r g =
      let found = a.literal j fine in
      let there : slice_get s.store.constants.literals j ≡ Some found.0 = ap (λ c. slice_get c.literals j) r.constants ∙ found.1 in
      same_of _ _ _ (ap (λ o. on_value (with_rest s.cells s.procedures (computation.known_value o s.store)) k) there)
      (done_value tail (does.Operand (operand.Atom (atom.Literal j))) n environment saved s marks k next found.0 (rw there refl) r g)

  constant_same : (c : Const) → Claim (constant c)
  constant_same c tail names scope n h environment saved s marks k next fine w r g = done_value tail _ n environment saved s marks k next (constant_value c) refl r g

  variable_same : (v : Variable) → Claim (variable v)
  variable_same (bound x) tail names scope n h environment saved s marks k next fine w r g =
      done_value tail _ n environment saved s marks k next (value_in h (bound x)) (rw (w.at x fine).1 refl) r g
  variable_same (free j) tail names scope n h environment saved s marks k next fine w r g =
      done_value tail _ n environment saved s marks k next (value_in h (free j)) (rw (w.field j fine s r) refl) r g

  global_get_same : (j : ℕ) → Claim (global j)
  global_get_same j tail names scope n h environment saved s marks k next fine w r g =
      done_action tail (does.Global j) n environment saved s marks k next (read_global j) refl ((steady_read_global j).grows s.store) r g

  started : (es : Trees) → Started es unspecified
  started no_trees = refl
  started (and_tree e es) = tt

  sequence_same : (es : Trees) → EachClaim es → Claim (sequence es)
  sequence_same es claims tail names scope n h environment saved s marks k next fine w r g =
      parts_same es claims tail names scope n h environment saved s marks unspecified k next (started es) fine w r g

  define_same : (e : Tree) → Claim e → (j : ℕ) → Claim (define j e)
  define_same e claim j = global_same e claim j

  -- ## All trees

  mutual
    pub same : (e : Tree) → Claim e
    same (constant c) = constant_same c
    same (literal j) = literal_same j
    same (variable v) = variable_same v
    same (global j) = global_get_same j
    same (set_global j e) = global_same e (same e) j
    same (define j e) = define_same e (same e) j
    same (branch x y z) = branch_same x y z (same x) (same y) (same z)
    same (sequence es) = sequence_same es (same_each es)
    same (bind site first es e) = bind_same es (same_each es) e (same e) site first
    same (make_closure m) = closure_same m
    same (fix_closures first ms e) = fix_same ms e (same e) first
    same (call site spread f es) = call_same f (same f) es (same_each es) site spread
    same (operation site which es) = operation_same es (same_each es) site which
    same (new_cells cs e) = new_cells_same cs e (same e)
    same (cell_get v) = cell_get_same v
    same (cell_set v e) = cell_set_same v e (same e)

    same_each : (es : Trees) → EachClaim es
    same_each no_trees = tt
    same_each (and_tree e es) = (same e, same_each es)
