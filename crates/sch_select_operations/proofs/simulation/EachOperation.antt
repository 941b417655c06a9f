-- The machine does what any operation does, with the rest of the body as any continuation.
use Rattle.std.proofs.Common.{◌≡◌, ℕ, ◌+◌, ◌*◌, List, [], ◌∷◌, ◌++◌, length, Bool, true, false, arith, ◌&&◌}
use Rattle.std.specs.Prelude.{nat_lt}
use Rattle.std.proofs.lemmas.Bool.{and_parts, ltb-true}
use Rattle.sch_word.specs.declared.place.Place.{Place}
use Rattle.sch_word.specs.runs.Computation.{read_global}
use Rattle.sch_control.specs.declared.operation.Operand.{Operand}
use Rattle.sch_control.specs.declared.operation.Operation.{Operation}
use Rattle.sch_control.specs.declared.operation.Operation.TheVariants as operation
use Rattle.sch_control.specs.declared.operation.Source.TheVariants as source
use Rattle.sch_control.specs.Operations.{operate}
use Rattle.sch_control.specs.Meaning.{World, Result, on_ending}
use Rattle.sch_frames.specs.Meaning.{Frame, held}
use Rattle.sch_asm.specs.declared.item.Item.{Item}
use Rattle.sch_word.specs.declared.mark.MarkKind.{MarkKind}
use Rattle.sch_asm.specs.Views.{View}
use Rattle.sch_select_memory.specs.Parts.{Parts}
use Rattle.sch_select_operations.specs.OperationCode.{operation_code}
use Rattle.sch_select_memory.proofs.Places.{Plan, Activation}
use Rattle.sch_select_memory.proofs.simulation.Outcomes.{Laid}
use Rattle.sch_select_operations.proofs.simulation.Operations.{Std, FrameOf, StoreOf, SimOf, Rest, next_of, comes_scratch}
use Rattle.sch_select_operations.proofs.simulation.Operations.{comes_sim, operand_sim, global_here, set_sim}
use Rattle.sch_select_operations.proofs.simulation.PrimitiveOperations.{unary_sim, binary_sim}
use Rattle.sch_select_operations.proofs.objects.Three.{three_sim}
use Rattle.sch_select_operations.proofs.simulation.Cells.{new_cell_sim, unset_cell_sim, field_sim, cell_get_sim, cell_set_sim}
use Rattle.sch_select_operations.proofs.simulation.Closures.{make_closure_sim}
use Rattle.sch_select_operations.proofs.simulation.SelectedPrograms.{operand_selected, source_selected, operation_selected, takes}

-- how many steps an operation takes at most
abbrev pub operation_cost : Operation Place → ℕ
operation_cost (operation.MakeClosure c) = 250 + 3 * length c.fields
operation_cost _ = 250

module _ (plan : Plan) (body_steps : ℕ) (laid : Laid plan body_steps) (act : Activation plan) where
  open plan use {words, literals, globals, symbols, stack}

  module _ (k : Frame → World → Result) (c : ℕ) (rest : List Item) (K : Rest plan body_steps laid act k c rest)
      (parts : Parts) (before waiting : List MarkKind) (f : Frame) (w : World) (x : View)
      (p : FrameOf plan body_steps laid act parts f w x) (g : StoreOf plan body_steps laid act parts w x)
      (marked : w.marks ≡ before ++ waiting) where
    abbrev selected : Operand Place → Bool
    selected o = operand_selected words globals (length symbols) literals o

    pub operation_sim : (n : ℕ) (o : Operation Place) → operation_selected words globals (length symbols) literals o ≡ true
        → Std plan body_steps laid act waiting x.place (operation_code stack literals n o rest)
        → SimOf plan body_steps laid act parts before w x (operation_cost o + c)
        (on_ending w.marks (operate (held f) o w.state) (next_of plan body_steps laid act k f))
    operation_sim n (operation.Operand o) e h = operand_sim plan body_steps laid act k c rest K parts before waiting f
        w x p g marked n o e h
    operation_sim n (operation.Prim site which (o ∷ [])) e h = let checks = and_parts (takes 1 which)
        (operand_selected words globals (length symbols) literals o) e in unary_sim plan body_steps laid act k c rest K parts before waiting f w
        x p g marked n which o checks.0 checks.1 h
    operation_sim n (operation.Prim site which (o ∷ (q ∷ []))) e h =
        let checks = and_parts (takes 2 which) (operand_selected words globals (length symbols) literals o && operand_selected words globals (length symbols) literals q)
        e in
        let both = and_parts (operand_selected words globals (length symbols) literals o) (operand_selected words globals (length symbols) literals q) checks.1 in
        binary_sim plan body_steps laid act k c rest K parts before waiting f w x p g marked n which o q checks.0
        both.0 both.1 h
    operation_sim n (operation.Prim site which []) e h = absurd (let bad : false ≡ true = e in cc)
    operation_sim n (operation.Prim site which (o ∷ (q ∷ (r ∷ [])))) e h =
        let checks = and_parts (takes 3 which) (selected o && (selected q && selected r)) e in
        let two = and_parts (selected o) (selected q && selected r) checks.1 in
        let both = and_parts (selected q) (selected r) two.1 in
        three_sim plan body_steps laid act k c rest K parts before waiting f w x p g marked n which o q r checks.0 two.0
        both.0 both.1 h
    operation_sim n (operation.Prim site which (o ∷ (q ∷ (r ∷ (a ∷ operands))))) e h = absurd
        (let bad : false ≡ true = e in cc)
    operation_sim n (operation.Global i) e h =
        comes_sim plan body_steps laid act k c rest K parts before waiting f w x p g marked 3
        (read_global i w.state.store) (omega arith)
        (comes_scratch plan body_steps laid act parts x waiting 3 w.state.store rest _
        (global_here plan body_steps laid act k c rest K parts before waiting f w x p g marked i
        (ltb-true i globals e) h))
    operation_sim n (operation.SetGlobal i o) e h =
        let checks = and_parts (nat_lt i globals) (operand_selected words globals (length symbols) literals o) e in
        set_sim plan body_steps laid act k c rest K parts before waiting f w x p g marked n i o
        (ltb-true i globals checks.0) checks.1 h
    operation_sim n (operation.Field q j) e h = field_sim plan body_steps laid act k c rest K parts before waiting f w
        x p g marked n (source.Field q j) e h
    operation_sim n (operation.NewCell q) e h = new_cell_sim plan body_steps laid act k c rest K parts before waiting
        f w x p g marked n q e h
    operation_sim n operation.UnsetCell e h = unset_cell_sim plan body_steps laid act k c rest K parts before waiting
        f w x p g marked n h
    operation_sim n (operation.CellGet q) e h = cell_get_sim plan body_steps laid act k c rest K parts before waiting
        f w x p g marked n q e h
    operation_sim n (operation.CellSet q o) e h =
        let checks = and_parts (source_selected words globals (length symbols) literals q) (operand_selected words globals (length symbols) literals o) e in
        cell_set_sim plan body_steps laid act k c rest K parts before waiting f w x p g marked n q o checks.0 checks.1 h
    operation_sim n (operation.MakeClosure q) e h = make_closure_sim plan body_steps laid act k c rest K parts before
        waiting f w x p g marked n q e h
