-- The machine does what a primitive does as an operation: its operands are read into RAX and RCX before.
use Rattle.std.proofs.Common.{◌≡◌, ℕ, ◌+◌, ◌≤◌, List, [], ◌∷◌, ◌++◌, length, Bool, true, false, Option, Some, None}
use Rattle.std.proofs.Common.{refl, sym, ap, subst, arith}
use Rattle.std.specs.Prelude.{not}
use Rattle.std.proofs.lemmas.Bool.{false≢true}
use Rattle.sch_word.specs.declared.place.Place.{Place}
use Rattle.sch_word.specs.declared.primitive.Primitive.{Primitive}
use Rattle.sch_word.specs.declared.primitive.Primitive.TheVariants as prim
use Rattle.sch_word.specs.values.Values.{Value}
use Rattle.sch_word.specs.runs.Store.{Store}
use Rattle.sch_word.specs.runs.Computation.{with_rest, in_store}
use Rattle.sch_word.specs.values.PrimitiveRows.{primitive}
use Rattle.sch_control.specs.declared.operation.Operand.{Operand}
use Rattle.sch_control.specs.Operations.{operand_value, and_value}
use Rattle.sch_word.specs.values.Options.{when_some}
use Rattle.sch_control.specs.Meaning.{World, Result, on_ending, on_outcome}
use Rattle.sch_frames.specs.Meaning.{Frame, held}
use Rattle.sch_insn.proofs.Paths.{leads_on}
use Rattle.sch_asm.specs.declared.item.Item.{Item}
use Rattle.sch_word.specs.declared.mark.MarkKind.{MarkKind}
use Rattle.sch_asm.specs.Effects.{is_scratch}
use Rattle.sch_asm.specs.Views.{View, Leads}
use Rattle.sch_select_memory.specs.Parts.{Parts}
use Rattle.sch_select_memory.specs.Encoded.{IsWord}
use Rattle.sch_select_operations.specs.OperandCode.{operand_code, second_code, unary_code, binary_code}
use Rattle.sch_select_operations.specs.PrimitiveCode.{pair_or_binary}
use Rattle.sch_select_memory.proofs.Straight.{is_free, Kept, kept_then, moved_to, Comes, comes_after}
use Rattle.sch_select_operations.proofs.simulation.Primitives.{unary_here, binary_here}
use Rattle.sch_select_memory.proofs.Places.{Plan, Activation, places_kept}
use Rattle.sch_select_operations.proofs.simulation.Operands.{Reads, ReadsSecond, operand_here, second_here, free_scratch}
use Rattle.sch_select_memory.proofs.simulation.Outcomes.{Laid}
use Rattle.sch_select_operations.proofs.simulation.Operations.{Std, FrameOf, StoreOf, SimOf, Rest, next_of, onward}
use Rattle.sch_select_operations.proofs.simulation.Operations.{none_waits, comes_scratch, comes_sim, put_sim}
use Rattle.sch_select_operations.proofs.objects.Pairs.{car_here, cdr_here, set_car_sim, set_cdr_sim}
use Rattle.sch_select_operations.proofs.objects.NewObjects.{cons_sim}
use Rattle.sch_select_operations.proofs.objects.Makes.{make_vector_sim, make_string_sim}
use Rattle.sch_select_operations.proofs.objects.Vectors.{vector_length_here, vector_ref_here}
use Rattle.sch_select_operations.proofs.objects.Strings.{string_length_here, string_ref_here}
use Rattle.sch_select_operations.proofs.objects.Symbols.{symbol_length_here, symbol_ref_here}
use Rattle.sch_select_operations.proofs.simulation.SelectedPrograms.{operand_selected, takes, is_computed, not_both}

-- only a primitive that makes an object looks at the end of the heap
computed_code : (heap_end n : ℕ) (which : Primitive) → is_computed which ≡ true → (rest : List Item)
    → pair_or_binary heap_end n which rest ≡ binary_code n which rest
computed_code heap_end n prim.Cons e rest = absurd (false≢true e)
computed_code heap_end n _ e rest = refl

module _ (plan : Plan) (body_steps : ℕ) (laid : Laid plan body_steps) (act : Activation plan) where
  open plan use {setting, words, literals, globals, symbols, stack}

  abbrev Here : List MarkKind → ℕ → List Item → Type 0
  Here waiting a is = Std plan body_steps laid act waiting a is

  abbrev Owed : Parts → List MarkKind → World → View → ℕ → Result → Type 0
  Owed parts before w x c r = SimOf plan body_steps laid act parts before w x c r

  module _ (k : Frame → World → Result) (c : ℕ) (rest : List Item) (K : Rest plan body_steps laid act k c rest)
      (parts : Parts) (before waiting : List MarkKind) (f : Frame) (w : World) (x : View)
      (p : FrameOf plan body_steps laid act parts f w x) (g : StoreOf plan body_steps laid act parts w x)
      (marked : w.marks ≡ before ++ waiting) where
    abbrev Next : Value → World → Result
    Next v w = next_of plan body_steps laid act k f v w

    abbrev t : Store
    t = w.state.store

    abbrev selected : Operand Place → Bool
    selected o = operand_selected words globals (length symbols) literals o

    -- what a primitive of some values comes to
    abbrev Done : ℕ → Primitive → List Value → Type 0
    Done most which vs = Owed parts before w x most
        (on_outcome w.marks (with_rest w.state.cells w.state.procedures (primitive which vs t)) Next)

    -- and one of operands
    abbrev Does : Primitive → Option (List Value) → Type 0
    Does which o = Owed parts before w x (250 + c)
        (on_ending w.marks (when_some o (λ vs. Some (in_store (primitive which vs) w.state))) Next)

    -- one that leaves the store alone, after some steps
    left_alone : (which : Primitive) (vs : List Value) (y : View) (least steps most : ℕ) → steps + most ≤ 100
        → Leads setting least steps waiting x (moved_to x y.registers y.flags y.place)
        → Kept is_scratch x.registers y.registers
        → Comes setting parts is_free (moved_to x y.registers y.flags y.place) [] most t rest (primitive which vs t)
        → Done (250 + c) which vs
    left_alone which vs y least steps most few leads kept comes =
        let z = moved_to x y.registers y.flags y.place in
        comes_sim plan body_steps laid act k c rest K parts before waiting f w x p g marked 100
        (primitive which vs t) (omega arith)
        (comes_after setting parts is_scratch x y.registers y.flags y.place waiting least steps most 100 t rest _ leads
        kept few (comes_scratch plan body_steps laid act parts z [] most t rest _ comes))

    -- ---- of one operand

    pub unary_sim : (n : ℕ) (which : Primitive) (o : Operand Place) → takes 1 which ≡ true → selected o ≡ true
        → Here waiting x.place (operand_code n o (unary_code (n + 8) which rest))
        → Does which (and_value (operand_value (held f) t o) (Some []))
    unary_sim n which o allowed e h = by (operand_value (held f) t o)
        (operand_here plan act parts n o t.charged f w.state x waiting (unary_code (n + 8) which rest) e p g h)
      where
        by : (v : Option Value) → Reads plan act parts x waiting 32 (unary_code (n + 8) which rest) v
            → Does which (and_value v (Some []))
        by None s = tt
        by (Some v) s = by_kind (is_computed which) refl
          where
            y : View
            y = moved_to x s.registers s.flags s.place

            few : s.steps ≤ 32
            few = s.few

            kept : Kept is_scratch x.registers s.registers
            kept = free_scratch x.registers s.registers s.kept

            put : Here [] s.place (unary_code (n + 8) prim.Put rest) → Done (250 + c) prim.Put (v ∷ [])
            put st =
                onward plan body_steps laid act parts before waiting w x y s.least s.steps (216 + c) (250 + c) _ s.leads
                (λ a lo hi. refl) (omega (arith, few))
                (put_sim plan body_steps laid act k c rest K parts (before ++ waiting) [] f w y
                (places_kept plan act parts t.charged f.places f.outgoing x.registers s.registers x.bytes kept p) g
                (none_waits w.marks before waiting marked) (n + 8) v s.value st)

            of : (other : Primitive) → takes 1 other ≡ true → is_computed other ≡ false
                → Here [] s.place (unary_code (n + 8) other rest) → Done (250 + c) other (v ∷ [])
            of prim.Put is i st = put st
            of prim.Car is i st = left_alone prim.Car (v ∷ []) y s.least s.steps 5 (omega (arith, few)) s.leads kept
                (car_here plan act parts w.state v y [] rest g s.value st)
            of prim.Cdr is i st = left_alone prim.Cdr (v ∷ []) y s.least s.steps 5 (omega (arith, few)) s.leads kept
                (cdr_here plan act parts w.state v y [] rest g s.value st)
            of prim.VectorLength is i st = left_alone prim.VectorLength (v ∷ []) y s.least s.steps 5 (omega (arith, few))
                s.leads kept (vector_length_here plan act parts w.state v y [] rest g s.value st)
            of prim.StringLength is i st = left_alone prim.StringLength (v ∷ []) y s.least s.steps 5 (omega (arith, few))
                s.leads kept (string_length_here plan act parts w.state v y [] rest g s.value st)
            of prim.SymbolLength is i st = left_alone prim.SymbolLength (v ∷ []) y s.least s.steps 8 (omega (arith, few))
                s.leads kept (symbol_length_here plan act parts w.state v y [] rest g s.value st)
            of other is i st = absurd (not_both (takes 1 other) (not (is_computed other)) refl is (ap not i))

            by_kind : (b : Bool) → is_computed which ≡ b → Done (250 + c) which (v ∷ [])
            by_kind true i = left_alone which (v ∷ []) y s.least s.steps 20 (omega (arith, few)) s.leads kept
                (unary_here plan parts (n + 8) which v y [] w.state rest allowed i g s.value s.ahead)
            by_kind false i = of which allowed i s.ahead

    -- ---- of two operands

    pub binary_sim : (n : ℕ) (which : Primitive) (o q : Operand Place) → takes 2 which ≡ true → selected o ≡ true
        → selected q ≡ true
        → Here waiting x.place (operand_code n o (second_code (n + 4) q (pair_or_binary stack (n + 8) which rest)))
        → Does which (and_value (operand_value (held f) t o) (and_value (operand_value (held f) t q) (Some [])))
    binary_sim n which o q allowed e e' h = by (operand_value (held f) t o)
        (operand_here plan act parts n o t.charged f w.state x waiting (second_code (n + 4) q code) e p g h)
      where
        code : List Item
        code = pair_or_binary stack (n + 8) which rest

        by : (v : Option Value) → Reads plan act parts x waiting 32 (second_code (n + 4) q code) v
            → Does which (and_value v (and_value (operand_value (held f) t q) (Some [])))
        by None s = none (operand_value (held f) t q)
          where
            none : (u : Option Value) → Does which (and_value None (and_value u (Some [])))
            none None = tt
            none (Some u) = tt
        by (Some v) s = second (operand_value (held f) t q)
            (second_here plan act parts (n + 4) q t.charged f w.state y [] code e'
            (places_kept plan act parts t.charged f.places f.outgoing x.registers s.registers x.bytes
            (free_scratch x.registers s.registers s.kept) p) g s.ahead)
          where
            y : View
            y = moved_to x s.registers s.flags s.place

            second : (u : Option Value) → ReadsSecond plan act parts y [] 35 code u
                → Does which (and_value (Some v) (and_value u (Some [])))
            second None r = tt
            second (Some u) r = by_kind (is_computed which) refl
              where
                z : View
                z = moved_to x r.registers r.flags r.place

                few : s.steps + r.steps ≤ 67
                few = let a = s.few in let b = r.few in omega (arith, a, b)

                leads : Leads setting (s.least + r.least) (s.steps + r.steps) waiting x z
                leads = leads_on setting.marks s.leads r.leads

                kept : Kept is_scratch x.registers r.registers
                kept = kept_then is_scratch x.registers s.registers r.registers
                    (free_scratch x.registers s.registers s.kept) r.kept

                first : IsWord parts v (r.registers 0)
                first = subst (IsWord parts v) (sym r.first) s.value

                there : FrameOf plan body_steps laid act parts f w z
                there = places_kept plan act parts t.charged f.places f.outgoing x.registers r.registers x.bytes kept p

                marked' : w.marks ≡ (before ++ waiting) ++ []
                marked' = none_waits w.marks before waiting marked

                -- from where both operands are in their registers on
                from_there : (other : Primitive) → Owed parts (before ++ waiting) w z (30 + c)
                    (on_outcome w.marks (with_rest w.state.cells w.state.procedures
                    (primitive other (v ∷ (u ∷ [])) t)) Next) → Done (250 + c) other (v ∷ (u ∷ []))
                from_there other s' = onward plan body_steps laid act parts before waiting w x z (s.least + r.least)
                    (s.steps + r.steps) (30 + c) (250 + c) _ leads (λ a lo hi. refl) (omega (arith, few)) s'

                of : (other : Primitive) → takes 2 other ≡ true → is_computed other ≡ false
                    → Here [] r.place (pair_or_binary stack (n + 8) other rest)
                    → Done (250 + c) other (v ∷ (u ∷ []))
                of prim.SetCar is i st = from_there prim.SetCar (set_car_sim plan body_steps laid act k c rest K parts
                    (before ++ waiting) [] f w z there g marked' v u first r.second st)
                of prim.SetCdr is i st = from_there prim.SetCdr (set_cdr_sim plan body_steps laid act k c rest K parts
                    (before ++ waiting) [] f w z there g marked' v u first r.second st)
                of prim.Cons is i st = from_there prim.Cons (cons_sim plan body_steps laid act k c rest K parts
                    (before ++ waiting) [] f w z there g marked' v u first r.second st)
                of prim.MakeVector is i st = from_there prim.MakeVector (make_vector_sim plan body_steps laid act k c rest
                    K parts (before ++ waiting) [] f w z there g marked' (n + 8) v u first r.second st)
                of prim.MakeString is i st = from_there prim.MakeString (make_string_sim plan body_steps laid act k c rest
                    K parts (before ++ waiting) [] f w z there g marked' (n + 8) v u first r.second st)
                of prim.VectorRef is i st = left_alone prim.VectorRef (v ∷ (u ∷ [])) z (s.least + r.least)
                    (s.steps + r.steps) 11 (omega (arith, few)) leads kept
                    (vector_ref_here plan act parts w.state v u z [] rest g first r.second st)
                of prim.StringRef is i st = left_alone prim.StringRef (v ∷ (u ∷ [])) z (s.least + r.least)
                    (s.steps + r.steps) 14 (omega (arith, few)) leads kept
                    (string_ref_here plan act parts w.state v u z [] rest g first r.second st)
                of prim.SymbolRef is i st = left_alone prim.SymbolRef (v ∷ (u ∷ [])) z (s.least + r.least)
                    (s.steps + r.steps) 17 (omega (arith, few)) leads kept
                    (symbol_ref_here plan act parts w.state v u z [] rest g first r.second st)
                of other is i st = absurd (not_both (takes 2 other) (not (is_computed other)) refl is (ap not i))

                by_kind : (b : Bool) → is_computed which ≡ b → Done (250 + c) which (v ∷ (u ∷ []))
                by_kind true i = left_alone which (v ∷ (u ∷ [])) z (s.least + r.least) (s.steps + r.steps) 30
                    (omega (arith, few)) leads kept
                    (binary_here plan parts (n + 8) which v u z [] w.state rest allowed i g first r.second
                    (subst (Here [] r.place) (computed_code stack (n + 8) which i rest) r.ahead))
                by_kind false i = of which allowed i r.ahead
