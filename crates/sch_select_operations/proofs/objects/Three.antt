-- The machine does what a primitive of three operands does: the last is read into R11, the first into RAX, and the
-- second, which is an index, into RCX.
use Rattle.std.proofs.Common.{◌≡◌, ℕ, ◌+◌, ◌≤◌, List, [], ◌∷◌, ◌++◌, length, Bool, true, Option, Some, None}
use Rattle.std.proofs.Common.{refl, sym, ap, ◌∙◌, subst, arith, ◌&&◌}
use Rattle.std.specs.Prelude.{ℤ, slice_set}
use Rattle.std.proofs.lemmas.Bool.{and_parts, false≢true}
use Rattle.sch_word.specs.declared.place.Place.{Place}
use Rattle.sch_word.specs.declared.primitive.Primitive.{Primitive}
use Rattle.sch_word.specs.declared.primitive.Primitive.TheVariants as prim
use Rattle.sch_word.specs.declared.stop.Stop.TheVariants.{WrongType}
use Rattle.sch_word.specs.values.Values.{Value, boolean, Object, pair, vector, string, same_value}
use Rattle.sch_word.specs.values.PrimitiveRows.{primitive, unary, binary, object_at, object_test, as_fixnum, as_character}
use Rattle.sch_word.specs.values.PrimitiveRows.{vector_or_stop, string_or_stop, in_range, write_object, is_boolean, is_pair}
use Rattle.sch_word.specs.values.PrimitiveRows.{is_null, is_symbol, is_integer, is_character, is_string, is_vector, is_procedure}
use Rattle.sch_word.specs.runs.Store.{Store}
use Rattle.sch_word.specs.runs.Computation.{Action, gives, stops, with_rest, in_store}
use Rattle.sch_control.specs.declared.operation.Atom.{Atom}
use Rattle.sch_control.specs.declared.operation.Operand.{Operand}
use Rattle.sch_control.specs.declared.operation.Operand.TheVariants as operand
use Rattle.sch_control.specs.Operations.{given, atom_value, atom_values, read, operand_value, and_value}
use Rattle.sch_word.specs.values.Options.{when_some}
use Rattle.sch_control.specs.Meaning.{World, Result, on_ending, on_outcome}
use Rattle.sch_control.specs.Valid.{only_reads}
use Rattle.sch_frames.specs.Meaning.{Frame, held}
use Rattle.sch_insn.specs.declared.insn.Arg.TheVariants.{Reg}
use Rattle.sch_insn.specs.declared.insn.Insn.TheVariants.{MovTo}
use Rattle.sch_insn.specs.Machine.{set_register}
use Rattle.sch_insn.proofs.Paths.{leads_on}
use Rattle.sch_asm.specs.declared.item.Item.{Item}
use Rattle.sch_asm.specs.declared.item.Item.TheVariants as item
use Rattle.sch_word.specs.declared.mark.MarkKind.{MarkKind}
use Rattle.sch_asm.specs.Effects.{is_scratch}
use Rattle.sch_asm.specs.Views.{View, Leads}
use Rattle.sch_asm.proofs.EachItem.{goes, jumps}
use Rattle.sch_select_memory.specs.Parts.{Parts}
use Rattle.sch_select_memory.specs.Encoded.{IsWord}
use Rattle.sch_select_memory.specs.Addresses.{stop_label}
use Rattle.sch_select_operations.specs.OperandCode.{operand_code}
use Rattle.sch_select_operations.specs.PrimitiveCode.{index_operand, three_code, ternary_code}
use Rattle.sch_select_memory.proofs.Straight.{Halts, Kept, kept_set, kept_then, moved_to}
use Rattle.sch_select_memory.proofs.Places.{Plan, Activation, places_kept}
use Rattle.sch_select_operations.proofs.simulation.Operands.{Reads, operand_here, free_scratch, Atomic, atomic}
use Rattle.sch_select_memory.proofs.simulation.Outcomes.{Laid, stops_here}
use Rattle.sch_select_operations.proofs.simulation.Operations.{Std, FrameOf, StoreOf, SimOf, Rest, next_of, onward}
use Rattle.sch_select_operations.proofs.simulation.Operations.{none_waits}
use Rattle.sch_select_operations.proofs.objects.Vectors.{vector_set_sim}
use Rattle.sch_select_operations.proofs.objects.StringWrites.{string_set_sim}
use Rattle.sch_select_operations.proofs.simulation.SelectedPrograms.{operand_selected, read_selected, takes}

-- ---- an index that a primitive reads is a boolean

of_unary : (row : Value → Action Value) → ((a : Value) (t : Store) → (b : Bool) × (row a t ≡ gives (boolean b) t))
    → (vs : List Value) (t : Store) (v : Value) → given (unary vs row t) ≡ Some v → (b : Bool) × (v ≡ boolean b)
of_unary row is [] t v r = absurd (let bad : None ≡ Some v = r in cc)
of_unary row is (a ∷ []) t v r = ((is a t).0, let s : Some (boolean (is a t).0) ≡ Some v = sym (ap given (is a t).1) ∙ r in cc)
of_unary row is (a ∷ (b ∷ vs)) t v r = absurd (let bad : None ≡ Some v = r in cc)

of_binary : (row : Value → Value → Action Value)
    → ((a c : Value) (t : Store) → (b : Bool) × (row a c t ≡ gives (boolean b) t))
    → (vs : List Value) (t : Store) (v : Value) → given (binary vs row t) ≡ Some v → (b : Bool) × (v ≡ boolean b)
of_binary row is [] t v r = absurd (let bad : None ≡ Some v = r in cc)
of_binary row is (a ∷ []) t v r = absurd (let bad : None ≡ Some v = r in cc)
of_binary row is (a ∷ (c ∷ [])) t v r =
    ((is a c t).0, let s : Some (boolean (is a c t).0) ≡ Some v = sym (ap given (is a c t).1) ∙ r in cc)
of_binary row is (a ∷ (c ∷ (d ∷ vs))) t v r = absurd (let bad : None ≡ Some v = r in cc)

read_boolean : (which : Primitive) (t : Store) (o : Option (List Value)) (v : Value) → only_reads which ≡ true
    → read which t o ≡ Some v → (b : Bool) × (v ≡ boolean b)
read_boolean which t None v e r = absurd (let bad : None ≡ Some v = r in cc)
read_boolean prim.Eq t (Some vs) v e r = of_binary (λ a b. gives (boolean (same_value a b))) (λ a c t. (same_value a c, refl)) vs t v r
read_boolean prim.Eqv t (Some vs) v e r = of_binary (λ a b. gives (boolean (same_value a b))) (λ a c t. (same_value a c, refl)) vs t v r
read_boolean prim.IsBoolean t (Some vs) v e r = of_unary (λ a. gives (boolean (is_boolean a))) (λ a t. (is_boolean a, refl)) vs t v r
read_boolean prim.IsPair t (Some vs) v e r = of_unary (object_test is_pair) (λ a t. (is_pair (object_at a t), refl)) vs t v r
read_boolean prim.IsNull t (Some vs) v e r = of_unary (λ a. gives (boolean (is_null a))) (λ a t. (is_null a, refl)) vs t v r
read_boolean prim.IsSymbol t (Some vs) v e r = of_unary (λ a. gives (boolean (is_symbol a))) (λ a t. (is_symbol a, refl)) vs t v r
read_boolean prim.IsInteger t (Some vs) v e r = of_unary (λ a. gives (boolean (is_integer a))) (λ a t. (is_integer a, refl)) vs t v r
read_boolean prim.IsChar t (Some vs) v e r = of_unary (λ a. gives (boolean (is_character a))) (λ a t. (is_character a, refl)) vs t v r
read_boolean prim.IsString t (Some vs) v e r = of_unary (object_test is_string) (λ a t. (is_string (object_at a t), refl)) vs t v r
read_boolean prim.IsVector t (Some vs) v e r = of_unary (object_test is_vector) (λ a t. (is_vector (object_at a t), refl)) vs t v r
read_boolean prim.IsProcedure t (Some vs) v e r = of_unary (λ a. gives (boolean (is_procedure a))) (λ a t. (is_procedure a, refl)) vs t v r
read_boolean _ t (Some vs) v e r = absurd (false≢true e)

no_index_vector : (o : Option Object) (b : Bool) (next : List Value → ℤ → Action Value) (t : Store)
    → vector_or_stop o (λ vs. as_fixnum (boolean b) (next vs)) t ≡ stops WrongType t
no_index_vector (Some (vector vs)) b next t = refl
no_index_vector (Some (pair a d)) b next t = refl
no_index_vector (Some (string bs)) b next t = refl
no_index_vector None b next t = refl

no_index_string : (o : Option Object) (b : Bool) (next : List ℕ → ℤ → Action Value) (t : Store)
    → string_or_stop o (λ bs. as_fixnum (boolean b) (next bs)) t ≡ stops WrongType t
no_index_string (Some (string bs)) b next t = refl
no_index_string (Some (pair a d)) b next t = refl
no_index_string (Some (vector vs)) b next t = refl
no_index_string None b next t = refl

-- so it is no index
no_index : (which : Primitive) (a c : Value) (b : Bool) (t : Store) → takes 3 which ≡ true
    → primitive which (a ∷ (boolean b ∷ (c ∷ []))) t ≡ stops WrongType t
no_index prim.VectorSet a c b t e = no_index_vector (object_at a t) b
    (λ vs n. in_range n (length vs) (λ k. write_object a (vector (slice_set vs k c)))) t
no_index prim.StringSet a c b t e = no_index_string (object_at a t) b
    (λ bs n. as_character c (λ byte. in_range n (length bs) (λ k. write_object a (string (slice_set bs k byte))))) t
no_index _ a c b t e = absurd (false≢true e)

module _ (plan : Plan) (body_steps : ℕ) (laid : Laid plan body_steps) (act : Activation plan) where
  open plan use {setting, words, literals, globals, symbols, stack}

  abbrev Here : List MarkKind → ℕ → List Item → Type 0
  Here waiting a is = Std plan body_steps laid act waiting a is

  abbrev Owed : Parts → List MarkKind → World → View → ℕ → Result → Type 0
  Owed parts before w x c r = SimOf plan body_steps laid act parts before w x c r

  module _ (k : Frame → World → Result) (c : ℕ) (rest : List Item) (K : Rest plan body_steps laid act k c rest)
      (parts : Parts) (before waiting : List MarkKind) (f : Frame) (w : World) (x : View)
      (p : FrameOf plan body_steps laid act parts f w x) (g : StoreOf plan body_steps laid act parts w x)
      (marked : w.marks ≡ before ++ waiting) where
    abbrev Next : Value → World → Result
    Next v w = next_of plan body_steps laid act k f v w

    abbrev t : Store
    t = w.state.store

    abbrev selected : Operand Place → Bool
    selected o = operand_selected words globals (length symbols) literals o

    abbrev value : Operand Place → Option Value
    value o = operand_value (held f) t o

    -- what a primitive of some values comes to, and one of operands
    abbrev Done : Primitive → List Value → Type 0
    Done which vs = Owed parts before w x (250 + c)
        (on_outcome w.marks (with_rest w.state.cells w.state.procedures (primitive which vs t)) Next)

    abbrev Does : Primitive → Option (List Value) → Type 0
    Does which o = Owed parts before w x (250 + c)
        (on_ending w.marks (when_some o (λ vs. Some (in_store (primitive which vs) w.state))) Next)

    none_first : (which : Primitive) (u v : Option Value) → Does which (and_value None (and_value u (and_value v (Some []))))
    none_first which None None = tt
    none_first which None (Some v) = tt
    none_first which (Some u) None = tt
    none_first which (Some u) (Some v) = tt

    none_second : (which : Primitive) (a : Value) (v : Option Value) → Does which (and_value (Some a) (and_value None (and_value v (Some []))))
    none_second which a None = tt
    none_second which a (Some v) = tt

    none_third : (which : Primitive) (a b : Option Value) → Does which (and_value a (and_value b (and_value None (Some []))))
    none_third which None None = tt
    none_third which None (Some b) = tt
    none_third which (Some a) None = tt
    none_third which (Some a) (Some b) = tt

    -- all three are in their registers
    stored : (which : Primitive) (a b d : Value) (z : View) (least steps : ℕ) → takes 3 which ≡ true
        → Leads setting least steps waiting x z → z ≡ moved_to x z.registers z.flags z.place → steps ≤ 66
        → Kept is_scratch x.registers z.registers → IsWord parts a (z.registers 0) → IsWord parts b (z.registers 1)
        → IsWord parts d (z.registers 11) → Here [] z.place (ternary_code which rest)
        → Done which (a ∷ (b ∷ (d ∷ [])))
    stored which a b d z least steps allowed leads is few kept ha hb hd st = by which allowed st
      where
        y : View
        y = moved_to x z.registers z.flags z.place

        there : FrameOf plan body_steps laid act parts f w y
        there = places_kept plan act parts t.charged f.places f.outgoing x.registers z.registers x.bytes kept p

        marked' : w.marks ≡ (before ++ waiting) ++ []
        marked' = none_waits w.marks before waiting marked

        from_there : (o : Primitive) → Owed parts (before ++ waiting) w y (30 + c)
            (on_outcome w.marks (with_rest w.state.cells w.state.procedures (primitive o (a ∷ (b ∷ (d ∷ []))) t)) Next)
            → Done o (a ∷ (b ∷ (d ∷ [])))
        from_there o s = onward plan body_steps laid act parts before waiting w x y least steps (30 + c) (250 + c) _
            (subst (Leads setting least steps waiting x) is leads) (λ a lo hi. refl) (omega (arith, few)) s

        by : (o : Primitive) → takes 3 o ≡ true → Here [] z.place (ternary_code o rest) → Done o (a ∷ (b ∷ (d ∷ [])))
        by prim.VectorSet e st = from_there prim.VectorSet (vector_set_sim plan body_steps laid act k c rest K parts
            (before ++ waiting) [] f w y there g marked' a b d ha hb hd st)
        by prim.StringSet e st = from_there prim.StringSet (string_set_sim plan body_steps laid act k c rest K parts
            (before ++ waiting) [] f w y there g marked' a b d ha hb hd st)
        by _ e st = absurd (false≢true e)

    -- the index
    index_here : (which : Primitive) (o : Operand Place) (a d : Value) (z : View) (least steps : ℕ) → takes 3 which ≡ true
        → selected o ≡ true → Leads setting least steps waiting x z → z ≡ moved_to x z.registers z.flags z.place
        → steps ≤ 65 → Kept is_scratch x.registers z.registers → IsWord parts a (z.registers 0)
        → IsWord parts d (z.registers 11) → Here [] z.place (index_operand o (ternary_code which rest))
        → Does which (and_value (Some a) (and_value (value o) (and_value (Some d) (Some []))))
    index_here which (operand.Atom q) a d z least steps allowed e leads is few kept ha hd st = by (atom_value (held f) t q) refl
      where
        y : View
        y = moved_to x z.registers z.flags z.place

        l : Atomic plan act parts 1 y [] (ternary_code which rest) (atom_value (held f) t q)
        l = atomic plan act parts parts (λ o at e. e) (omega arith) 1 q t.charged f w.state y [] (ternary_code which rest) e
            (places_kept plan act parts t.charged f.places f.outgoing x.registers z.registers x.bytes kept p) g st

        by : (o : Option Value) → atom_value (held f) t q ≡ o
            → Does which (and_value (Some a) (and_value o (and_value (Some d) (Some []))))
        by None i = tt
        by (Some b) i =
            let u : View = moved_to x (set_register z.registers 1 l.value) z.flags l.place in
            stored which a b d u (least + 1) (steps + 1) allowed
            (leads_on setting.marks (subst (Leads setting least steps waiting x) is leads) l.leads) refl
            (omega (arith, few)) (kept_then is_scratch x.registers z.registers u.registers kept
            (kept_set is_scratch z.registers 1 l.value refl)) ha (l.word b i) hd l.ahead
    index_here which (operand.Read site r atoms) a d z least steps allowed e leads is few kept ha hd st =
        by (read r t (atom_values (held f) t atoms)) refl
      where
        reads : only_reads r ≡ true
        reads = of_atoms atoms e
          where
            of_atoms : (atoms : List (Atom Place)) → read_selected words globals (length symbols) literals r atoms ≡ true
                → only_reads r ≡ true
            of_atoms [] e = absurd (false≢true e)
            of_atoms (a ∷ []) e = (and_parts (only_reads r) (takes 1 r) (and_parts (only_reads r && takes 1 r) _ e).0).0
            of_atoms (a ∷ (b ∷ [])) e = (and_parts (only_reads r) (takes 2 r) (and_parts (only_reads r && takes 2 r) _ e).0).0
            of_atoms (a ∷ (b ∷ (c ∷ atoms))) e = absurd (false≢true e)

        y : View
        y = moved_to x z.registers z.flags z.place

        halts : Halts setting x waiting (steps + 1) WrongType
        halts = record {
          registers = z.registers;
          flags = z.flags;
          least = least + 1;
          steps = steps + 1;
          leads = leads_on setting.marks (subst (Leads setting least steps waiting x) is leads)
              (jumps setting y (stop_label WrongType) (ternary_code which rest) [] st);
          few = omega arith;
        }

        by : (o : Option Value) → read r t (atom_values (held f) t atoms) ≡ o
            → Does which (and_value (Some a) (and_value o (and_value (Some d) (Some []))))
        by None i = tt
        by (Some b) i =
            let q = read_boolean r t (atom_values (held f) t atoms) b reads i in
            subst (λ b. Does which (and_value (Some a) (and_value (Some b) (and_value (Some d) (Some []))))) (sym q.1)
            (subst (λ o. Owed parts before w x (250 + c)
            (on_outcome w.marks (with_rest w.state.cells w.state.procedures o) Next)) (sym (no_index which a d q.0 t allowed))
            (stops_here plan body_steps laid before waiting x (steps + 1) (250 + c) WrongType w halts g.printed marked
            (omega (arith, few))))

    pub three_sim : (n : ℕ) (which : Primitive) (o q r : Operand Place) → takes 3 which ≡ true → selected o ≡ true
        → selected q ≡ true → selected r ≡ true
        → Here waiting x.place (three_code n o q r (ternary_code which rest))
        → Does which (and_value (value o) (and_value (value q) (and_value (value r) (Some []))))
    three_sim n which o q r allowed eo eq er h = by (value r) (operand_here plan act parts n r t.charged f w.state x waiting
        behind er p g h)
      where
        after_first : List Item
        after_first = operand_code (n + 4) o (index_operand q (ternary_code which rest))

        behind : List Item
        behind = item.Plain (MovTo (Reg 11) 0) ∷ after_first

        by : (d : Option Value) → Reads plan act parts x waiting 32 behind d
            → Does which (and_value (value o) (and_value (value q) (and_value d (Some []))))
        by None s = none_third which (value o) (value q)
        by (Some d) s = first (value o) (operand_here plan act parts (n + 4) o t.charged f w.state z [] index eo
            (places_kept plan act parts t.charged f.places f.outgoing x.registers z.registers x.bytes kept p) g s.ahead.2)
          where
            index : List Item
            index = index_operand q (ternary_code which rest)

            y : View
            y = moved_to x s.registers s.flags s.place

            z : View
            z = moved_to x (set_register s.registers 11 (s.registers 0)) s.flags (s.place + s.ahead.0)

            kept : Kept is_scratch x.registers z.registers
            kept = kept_then is_scratch x.registers s.registers z.registers (free_scratch x.registers s.registers s.kept)
                (kept_set is_scratch s.registers 11 (s.registers 0) refl)

            leads : Leads setting (s.least + 1) (s.steps + 1) waiting x z
            leads = leads_on setting.marks s.leads (goes setting y z (MovTo (Reg 11) 0) s.ahead.0 [] s.ahead.1 refl)

            few : s.steps ≤ 32
            few = s.few

            first : (a : Option Value) → Reads plan act parts z [] 32 index a
                → Does which (and_value a (and_value (value q) (and_value (Some d) (Some []))))
            first None u = none_first which (value q) (Some d)
            first (Some a) u =
                let v : View = moved_to x u.registers u.flags u.place in
                let less = u.few in
                index_here which q a d v (s.least + 1 + u.least) (s.steps + 1 + u.steps) allowed eq
                (leads_on setting.marks leads u.leads) refl (omega (arith, few, less))
                (kept_then is_scratch x.registers z.registers u.registers kept (free_scratch z.registers u.registers u.kept))
                u.value (subst (IsWord parts d) (sym (u.kept 11 refl)) s.value) u.ahead
