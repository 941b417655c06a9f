-- Each label that a selected program uses is a routine's or stands in its items.
use Rattle.std.proofs.Common.{◌≡◌, ℕ, zero, suc, ◌+◌, ◌-◌, ◌%◌, ◌<◌, List, [], ◌∷◌, ◌++◌, length, map, replicate, Option, Some}
use Rattle.std.proofs.Common.{None, Bool, true, false, refl, sym, ap, ◌∙◌, arith, ◌&&◌, ◌||◌, eq-eqb}
use Rattle.std.specs.Prelude.{nat_eq, nat_lt, IsTrue}
use Rattle.std.specs.List.{list_all, AllByRecursion}
use Rattle.std.proofs.lemmas.Bool.{and_parts, and_from, eqb-true, lt-ltb, ltb-true}
use Rattle.std.proofs.lemmas.List.Elements.{All-from_recursion}
use Rattle.std.proofs.Math.Bool.{or-true}
use Rattle.sch_word.specs.values.Literals.{count_literals}
use Rattle.sch_word.specs.trees.NumberSets.{has, without_repeats}
use Rattle.sch_word.proofs.facts.NumberSets.{in_here, in_more, append_left, append_right}
use Rattle.sch_word.specs.declared.place.Place.{Place}
use Rattle.sch_word.specs.declared.primitive.Primitive.{Primitive}
use Rattle.sch_word.specs.declared.primitive.Primitive.TheVariants.{Eq, Eqv, IsBoolean, IsPair, IsNull, IsSymbol}
use Rattle.sch_word.specs.declared.primitive.Primitive.TheVariants.{IsInteger, IsChar, IsString, IsVector}
use Rattle.sch_word.specs.declared.primitive.Primitive.TheVariants.{IsProcedure, Modulo, Equal, Less, Greater}
use Rattle.sch_word.specs.declared.primitive.Primitive.TheVariants.{LessEqual, GreaterEqual, Put, Cons}
use Rattle.sch_word.specs.declared.primitive.Primitive.TheVariants.{MakeString, MakeVector, StringSet}
use Rattle.sch_control.specs.declared.operation.Atom.{Atom}
use Rattle.sch_control.specs.declared.operation.Atom.TheVariants.{Constant, Literal, Variable}
use Rattle.sch_control.specs.declared.operation.Operand.{Operand}
use Rattle.sch_control.specs.declared.operation.Operand.TheVariants as operand
use Rattle.sch_control.specs.declared.body.Entry.{Entry}
use Rattle.sch_control.specs.declared.operation.Source.{Source}
use Rattle.sch_control.specs.declared.operation.Source.TheVariants as source
use Rattle.sch_control.specs.declared.operation.Closure.{Closure}
use Rattle.sch_control.specs.declared.operation.Member.{Member}
use Rattle.sch_control.specs.declared.operation.Operation.{Operation}
use Rattle.sch_control.specs.declared.operation.Operation.TheVariants as operation
use Rattle.sch_frames.specs.declared.instruction.Instruction.{Instruction}
use Rattle.sch_frames.specs.declared.instruction.Instruction.TheVariants.{Do, Store, Copy, Pass, Fix, Call}
use Rattle.sch_frames.specs.declared.instruction.Instruction.TheVariants.{Tail, Return, End, IfFalse, Jump, Label}
use Rattle.sch_frames.specs.declared.instruction.Instruction.TheVariants.{Mark}
use Rattle.sch_frames.specs.Tree.{Code}
use Rattle.sch_frames.specs.Tree as tree
use Rattle.sch_frames.specs.Valid as frames
use Rattle.sch_frames.specs.Valid.{forward, jumps_ahead}
use Rattle.sch_asm.specs.declared.assembly.Word.{Word}
use Rattle.sch_asm.specs.declared.assembly.Word.TheVariants.{Fixed, Address}
use Rattle.sch_asm.specs.declared.item.Item.{Item}
use Rattle.sch_asm.specs.declared.item.Item.TheVariants as item
use Rattle.sch_asm.specs.Items.{AreKnown, is_routine, labels_in, uses_in, word_uses}
use Rattle.sch_select.specs.Program.{count_code, passed_code, entry_code, form_code, forms_code, labels_end}
use Rattle.sch_select.specs.Program.{own_label, selected_code}
use Rattle.sch_select_memory.specs.RestCode.{list_code, list_label}
use Rattle.sch_select.proofs.items.RestItems.{count_labels}
use Rattle.sch_select_operations.specs.PrimitiveCode.{pair_or_binary, ternary_code, index_operand}
use Rattle.sch_select_memory.specs.Addresses.{vector_label, string_label, put_label, body_label}
use Rattle.sch_select_operations.specs.CellCode.{source_code}
use Rattle.sch_select_operations.specs.ClosureCode.{fields_code, record_code, closure_bytes, places_code, records_code, spills_behind}
use Rattle.sch_select_operations.specs.OperandCode.{atom_code, unary_code, binary_code, read_code, operand_code, second_code}
use Rattle.sch_select_operations.specs.OperationCode.{operation_code}
use Rattle.sch_select.specs.Select.{labels_needed, body_code}
use Rattle.sch_select_data.specs.Data.{heap_of, names_of, closures_of, objects_unit, static_count, program_words}
use Rattle.sch_select_data.specs.Data.{word_list, global_words, padding, closure_words}
use Rattle.sch_select_memory.specs.StaticBytes.{static_bytes}
use Rattle.sch_select_data.specs.NameWords.{symbol_words}
use Rattle.sch_select_data.specs.PlacedWords.{placed_values, placed_each}
use Rattle.sch_select_operations.proofs.simulation.SelectedPrograms.{members_few, operation_few, labels_few}
use Rattle.sch_select.proofs.items.Labels.{unary_labels, binary_labels, read_labels, operand_labels, operation_labels}
use Rattle.sch_select.proofs.items.ProgramLabels.{inner_labels, entry_labels, body_labels, labels_behind, form_labels}
use Rattle.sch_select.proofs.items.ProgramLabels.{forms_labels, forms_labelled, last_code}
use Rattle.sch_select.proofs.items.AppendedItems.{spill_same}
use Rattle.sch_select_memory.proofs.Sound.{in_front}

-- a label that stands in a body
pub label_in : (base n l : ℕ) (instructions : List Instruction) → has l (frames.labels_in instructions) ≡ true
    → has (base + l) (body_labels base n instructions) ≡ true
label_in base n l [] e = absurd (let bad : false ≡ true = e in cc)
label_in base n l (Label k ∷ instructions) e =
    by (nat_eq l k) refl e (label_in base (n + labels_needed (Label k)) l instructions)
  where
    by : (b : Bool) → nat_eq l k ≡ b → (b || has l (frames.labels_in instructions)) ≡ true
        → (has l (frames.labels_in instructions) ≡ true
        → has (base + l) (body_labels base (n + labels_needed (Label k)) instructions) ≡ true)
        → has (base + l) ((base + k) ∷ body_labels base (n + labels_needed (Label k)) instructions) ≡ true
    by true q e rec = let same : l ≡ k = eqb-true l k q in ap
        (λ b. b || has (base + l) (body_labels base (n + labels_needed (Label k)) instructions))
        (eq-eqb (base + l) (base + k) (omega (arith, same)))
    by false q e rec =
        in_more (base + l) (base + k) (body_labels base (n + labels_needed (Label k)) instructions) (rec e)
label_in base n l (Do o ∷ instructions) e =
    append_right (base + l) (operation_labels n o) (body_labels base (n + labels_needed (Do o)) instructions) (label_in base (n + labels_needed (Do o)) l instructions e)
label_in base n l (Store q ∷ instructions) e = label_in base (n + labels_needed (Store q)) l instructions e
label_in base n l (Copy to from ∷ instructions) e = label_in base (n + labels_needed (Copy to from)) l instructions e
label_in base n l (Pass j ∷ instructions) e = label_in base (n + labels_needed (Pass j)) l instructions e
label_in base n l (Fix members spills ∷ instructions) e = label_in base (n + labels_needed (Fix members spills)) l instructions e
label_in base n l (Call spread count ∷ instructions) e = in_more (base + l) n
    (body_labels base (n + labels_needed (Call spread count)) instructions)
    (label_in base (n + labels_needed (Call spread count)) l instructions e)
label_in base n l (Tail spread count ∷ instructions) e =
    label_in base (n + labels_needed (Tail spread count)) l instructions e
label_in base n l (Return ∷ instructions) e = label_in base (n + labels_needed Return) l instructions e
label_in base n l (Mark m ∷ instructions) e = label_in base (n + labels_needed (Mark m)) l instructions e
label_in base n l (End ∷ instructions) e = label_in base (n + labels_needed End) l instructions e
label_in base n l (IfFalse j ∷ instructions) e = label_in base (n + labels_needed (IfFalse j)) l instructions e
label_in base n l (Jump j ∷ instructions) e = label_in base (n + labels_needed (Jump j)) l instructions e

-- All these labels stand in the program.
module _ (all : List ℕ) where
  abbrev known : ℕ → Bool
  known l = is_routine l || has l all

  abbrev Among : List ℕ → Type 0
  Among ls = (y : ℕ) → has y ls ≡ true → has y all ≡ true

  among_left : (xs ys : List ℕ) → Among (xs ++ ys) → Among xs
  among_left xs ys h y e = h y (append_left y xs ys e)

  among_right : (xs ys : List ℕ) → Among (xs ++ ys) → Among ys
  among_right xs ys h y e = h y (append_right y xs ys e)

  is_known : (l : ℕ) → has l all ≡ true → known l ≡ true
  is_known l e = ap (λ b. is_routine l || b) e ∙ or-true (is_routine l)

  abbrev Uses : (List Item → List Item) → Type 0
  Uses f = (rest : List Item) → list_all known (uses_in (f rest)) ≡ list_all known (uses_in rest)

  one : (n : ℕ) (us : List ℕ) → has n all ≡ true → list_all known (n ∷ us) ≡ list_all known us
  one n us e = in_front (known n) (list_all known us) (is_known n e)

  -- the label of a routine
  to_routine : (n : ℕ) (us : List ℕ) → n < 25 → list_all known (n ∷ us) ≡ list_all known us
  to_routine n us lt = in_front (known n) (list_all known us) (ap (λ b. b || has n all) (lt-ltb n 25 lt))

  module _ (count : ℕ) (bodies_in : (l : ℕ) → l < count → has (body_label l) all ≡ true) (words heap_end literals : ℕ) where
    unary_uses : (n : ℕ) (which : Primitive) → Among (unary_labels n which) → Uses (unary_code n which)
    unary_uses n IsBoolean h rest = one n (uses_in rest) (h n (in_here n []))
    unary_uses n IsPair h rest = one n (uses_in rest) (h n (in_here n []))
    unary_uses n IsNull h rest = one n (uses_in rest) (h n (in_here n []))
    unary_uses n IsSymbol h rest = one n (uses_in rest) (h n (in_here n []))
    unary_uses n IsInteger h rest = one n (uses_in rest) (h n (in_here n []))
    unary_uses n IsChar h rest = one n (uses_in rest) (h n (in_here n []))
    unary_uses n IsString h rest = one n (uses_in rest) (h n (in_here n []))
    unary_uses n IsVector h rest = one n (uses_in rest) (h n (in_here n []))
    unary_uses n IsProcedure h rest = one n (uses_in rest) (h n (in_here n []))
    unary_uses n Put h rest = one n (put_label ∷ uses_in rest) (h n (in_here n []))
    unary_uses n _ h rest = refl

    binary_uses : (n : ℕ) (which : Primitive) → Among (binary_labels n which) → Uses (binary_code n which)
    binary_uses n Eq h rest = one n (uses_in rest) (h n (in_here n []))
    binary_uses n Eqv h rest = one n (uses_in rest) (h n (in_here n []))
    binary_uses n Equal h rest = one n (uses_in rest) (h n (in_here n []))
    binary_uses n Less h rest = one n (uses_in rest) (h n (in_here n []))
    binary_uses n Greater h rest = one n (uses_in rest) (h n (in_here n []))
    binary_uses n LessEqual h rest = one n (uses_in rest) (h n (in_here n []))
    binary_uses n GreaterEqual h rest = one n (uses_in rest) (h n (in_here n []))
    binary_uses n Modulo h rest =
        let us = uses_in rest in
        let zeroth = h n (in_more n (n + 1) ((n + 2) ∷ (n ∷ [])) (in_more n (n + 2) (n ∷ []) (in_here n []))) in
        let first = h (n + 1) (in_here (n + 1) ((n + 2) ∷ (n ∷ []))) in
        let second = h (n + 2) (in_more (n + 2) (n + 1) ((n + 2) ∷ (n ∷ [])) (in_here (n + 2) (n ∷ []))) in
        one n ((n + 1) ∷ (n ∷ ((n + 2) ∷ (n ∷ us)))) zeroth ∙ one (n + 1) (n ∷ ((n + 2) ∷ (n ∷ us))) first
        ∙ one n ((n + 2) ∷ (n ∷ us)) zeroth ∙ one (n + 2) (n ∷ us) second ∙ one n us zeroth
    binary_uses n MakeString h rest = one n (string_label ∷ uses_in rest) (h n (in_here n []))
    binary_uses n MakeVector h rest = one n (vector_label ∷ uses_in rest) (h n (in_here n []))
    binary_uses n _ h rest = refl

    pair_uses : (n : ℕ) (which : Primitive) → Among (binary_labels n which) → Uses (pair_or_binary heap_end n which)
    pair_uses n Cons h rest = refl
    pair_uses n which h rest = binary_uses n which h rest

    ternary_uses : (which : Primitive) → Uses (ternary_code which)
    ternary_uses StringSet rest = refl
    ternary_uses _ rest = refl

    atom_uses : (r : ℕ) (a : Atom Place) → Uses (atom_code r a)
    atom_uses r (Constant c) rest = refl
    atom_uses r (Variable p) rest = refl
    atom_uses r (Literal n) rest = refl

    read_uses : (n : ℕ) (which : Primitive) (atoms : List (Atom Place)) → Among (read_labels n which atoms)
        → Uses (read_code n which atoms)
    read_uses n which [] h rest = refl
    read_uses n which (a ∷ []) h rest = atom_uses 0 a (unary_code n which rest) ∙ unary_uses n which h rest
    read_uses n which (a ∷ (b ∷ [])) h rest = atom_uses 0 a (atom_code 1 b (binary_code n which rest))
        ∙ atom_uses 1 b (binary_code n which rest) ∙ binary_uses n which h rest
    read_uses n which (a ∷ (b ∷ (c ∷ atoms))) h rest = refl

    operand_uses : (n : ℕ) (o : Operand Place) → Among (operand_labels n o) → Uses (operand_code n o)
    operand_uses n (operand.Atom a) h rest = atom_uses 0 a rest
    operand_uses n (operand.Read site which atoms) h rest = read_uses n which atoms h rest

    second_uses : (n : ℕ) (o : Operand Place) → Among (operand_labels n o) → Uses (second_code n o)
    second_uses n (operand.Atom a) h rest = atom_uses 1 a rest
    second_uses n (operand.Read site which atoms) h rest = read_uses n which atoms h _

    index_uses : (o : Operand Place) → Uses (index_operand o)
    index_uses (operand.Atom a) rest = atom_uses 1 a rest
    index_uses (operand.Read site which atoms) rest = refl

    source_uses : (r : ℕ) (x : Source Place) → Uses (source_code r x)
    source_uses r (source.Atom a) rest = atom_uses r a rest
    source_uses r (source.Field p k) rest = refl

    fields_uses : (offset : ℕ) (sources : List (Source Place)) → Uses (fields_code offset sources)
    fields_uses offset [] rest = refl
    fields_uses offset (x ∷ sources) rest = source_uses 1 x _ ∙ fields_uses (offset + 8) sources rest

    record_uses : (offset : ℕ) (c : Closure Place) → nat_lt c.label count ≡ true → Uses (record_code offset c)
    record_uses offset c e rest = one (body_label c.label) (uses_in (fields_code (offset + 8) c.fields rest))
        (bodies_in c.label (ltb-true c.label count e)) ∙ fields_uses (offset + 8) c.fields rest

    places_uses : (offset : ℕ) (members : List (Member Place)) (spills : List ℕ) → Uses (places_code offset members spills)
    places_uses offset [] spills rest = refl
    places_uses offset (m ∷ members) spills rest =
        spill_same (λ is. list_all known (uses_in is)) (λ kind is. refl) m.at spills _ ∙ places_uses (offset + closure_bytes m.closure) members (spills_behind m.at spills) rest

    records_uses : (offset : ℕ) (members : List (Member Place)) → members_few count members ≡ true
        → Uses (records_code offset members)
    records_uses offset [] e rest = refl
    records_uses offset (m ∷ members) e rest =
        let p = and_parts (nat_lt m.closure.label count) (members_few count members) e in
        record_uses offset m.closure p.0 _ ∙ records_uses (offset + closure_bytes m.closure) members p.1 rest

    operation_uses : (n : ℕ) (o : Operation Place) → operation_few count o ≡ true → Among (operation_labels n o)
        → Uses (operation_code heap_end literals n o)
    operation_uses n (operation.Operand o) f h rest = operand_uses n o h rest
    operation_uses n (operation.Prim site which []) f h rest = refl
    operation_uses n (operation.Prim site which (o ∷ [])) f h rest =
        operand_uses n o (among_left (operand_labels n o) (unary_labels (n + 8) which) h)
        (unary_code (n + 8) which rest) ∙ unary_uses (n + 8) which
        (among_right (operand_labels n o) (unary_labels (n + 8) which) h) rest
    operation_uses n (operation.Prim site which (o ∷ (q ∷ []))) f h rest =
        let behind = among_right (operand_labels n o) (operand_labels (n + 4) q ++ binary_labels (n + 8) which) h in
        operand_uses n o (among_left (operand_labels n o) (operand_labels (n + 4) q ++ binary_labels (n + 8) which) h)
        _ ∙ second_uses (n + 4) q (among_left (operand_labels (n + 4) q) (binary_labels (n + 8) which) behind) _
        ∙ pair_uses (n + 8) which (among_right (operand_labels (n + 4) q) (binary_labels (n + 8) which) behind) rest
    operation_uses n (operation.Prim site which (o ∷ (q ∷ (r ∷ [])))) f h rest =
        operand_uses n r (among_left (operand_labels n r) (operand_labels (n + 4) o) h) _
        ∙ operand_uses (n + 4) o (among_right (operand_labels n r) (operand_labels (n + 4) o) h) _
        ∙ index_uses q _ ∙ ternary_uses which rest
    operation_uses n (operation.Prim site which (o ∷ (q ∷ (r ∷ (s ∷ operands))))) f h rest = refl
    operation_uses n (operation.Global g) f h rest = refl
    operation_uses n (operation.SetGlobal g o) f h rest = operand_uses n o h _
    operation_uses n (operation.Field p k) f h rest = refl
    operation_uses n (operation.NewCell x) f h rest = source_uses 0 x _
    operation_uses n operation.UnsetCell f h rest = refl
    operation_uses n (operation.CellGet x) f h rest = source_uses 0 x _
    operation_uses n (operation.CellSet x o) f h rest = operand_uses n o h _ ∙ source_uses 1 x _
    operation_uses n (operation.MakeClosure c) f h rest = record_uses 0 c f _

    module _ (base out : ℕ) (out_in : has out all ≡ true) where
      body_uses : (n : ℕ) (instructions : List Instruction) → jumps_ahead instructions ≡ true
          → list_all (labels_few count) instructions ≡ true → Among (body_labels base n instructions)
          → Uses (body_code base out words heap_end literals n instructions)
      body_uses n [] e f h rest = refl
      body_uses n (IfFalse l ∷ instructions) e f h rest =
          let p = and_parts (has l (frames.labels_in instructions)) (jumps_ahead instructions) e in
          one (base + l) (uses_in (body_code base out words heap_end literals (n + labels_needed (IfFalse l))
          instructions rest))
          (h (base + l) (label_in base (n + labels_needed (IfFalse l)) l instructions p.0)) ∙ body_uses
          (n + labels_needed (IfFalse l)) instructions p.1 f h rest
      body_uses n (Jump l ∷ instructions) e f h rest =
          let p = and_parts (has l (frames.labels_in instructions)) (jumps_ahead instructions) e in
          one (base + l) (uses_in (body_code base out words heap_end literals (n + labels_needed (Jump l))
          instructions rest))
          (h (base + l) (label_in base (n + labels_needed (Jump l)) l instructions p.0)) ∙ body_uses
          (n + labels_needed (Jump l)) instructions p.1 f h rest
      body_uses n (End ∷ instructions) e f h rest = one out
          (uses_in (body_code base out words heap_end literals (n + labels_needed End) instructions rest)) out_in
          ∙ body_uses (n + labels_needed End) instructions e f h rest
      body_uses n (Label l ∷ instructions) e f h rest = body_uses (n + labels_needed (Label l)) instructions e f
          (among_right ((base + l) ∷ []) (body_labels base (n + labels_needed (Label l)) instructions) h) rest
      body_uses n (Do o ∷ instructions) e f h rest =
          operation_uses n o (and_parts (operation_few count o) (list_all (labels_few count) instructions) f).0
          (among_left (operation_labels n o) (body_labels base (n + labels_needed (Do o)) instructions) h)
          (body_code base out words heap_end literals (n + labels_needed (Do o)) instructions rest)
          ∙ body_uses (n + labels_needed (Do o)) instructions e (and_parts (operation_few count o)
          (list_all (labels_few count) instructions) f).1 (among_right (operation_labels n o)
          (body_labels base (n + labels_needed (Do o)) instructions) h) rest
      body_uses n (Store q ∷ instructions) e f h rest =
          body_uses (n + labels_needed (Store q)) instructions e f h rest
      body_uses n (Copy to from ∷ instructions) e f h rest =
          body_uses (n + labels_needed (Copy to from)) instructions e f h rest
      body_uses n (Pass j ∷ instructions) e f h rest =
          body_uses (n + labels_needed (Pass j)) instructions e f h rest
      body_uses n (Fix members spills ∷ instructions) e f h rest =
          let p = and_parts (members_few count members) (list_all (labels_few count) instructions) f in
          places_uses 0 members spills _ ∙ records_uses 0 members p.0 _ ∙ body_uses (n + labels_needed (Fix members spills))
          instructions e p.1 h rest
      body_uses n (Call spread count ∷ instructions) e f h rest =
          one n (uses_in (body_code base out words heap_end literals (n + labels_needed (Call spread count))
          instructions rest))
          (h n (in_here n (body_labels base (n + labels_needed (Call spread count)) instructions)))
          ∙ body_uses (n + labels_needed (Call spread count)) instructions e f (among_right (n ∷ [])
          (body_labels base (n + labels_needed (Call spread count)) instructions) h) rest
      body_uses n (Tail spread count ∷ instructions) e f h rest =
          body_uses (n + labels_needed (Tail spread count)) instructions e f h rest
      body_uses n (Return ∷ instructions) e f h rest = body_uses (n + labels_needed Return) instructions e f h rest
      body_uses n (Mark m ∷ instructions) e f h rest = body_uses (n + labels_needed (Mark m)) instructions e f h rest

    passed_uses : (o : Option Entry) (out : ℕ) → has out all ≡ true → Uses (passed_code o out)
    passed_uses None out e rest = refl
    passed_uses (Some q) out e rest = one out (uses_in rest) e

    -- the list of a rest variable
    list_uses : (b : Bool) (required n : ℕ) → nat_lt required 6 ≡ b → has n all ≡ true
        → Uses (list_code b required n)
    list_uses true required n e h rest = one n (list_label required ∷ uses_in rest) h
        ∙ to_routine (list_label required) (uses_in rest) (let lt = ltb-true required 6 e in omega (arith, lt))
    list_uses false required n e h rest = one n (list_label 6 ∷ uses_in rest) h

    count_uses : (b : Bool) (formals n : ℕ) → Among (count_labels b n) → Uses (count_code b formals n)
    count_uses false formals n h rest = refl
    count_uses true formals n h rest = list_uses (nat_lt (formals - 1) 6) (formals - 1) n refl (h n (in_here n [])) rest

    entry_uses : (o : Option Entry) (n : ℕ) → Among (entry_labels o n) → Uses (entry_code o n)
    entry_uses None n h rest = refl
    entry_uses (Some e) n h rest = count_uses e.rest e.formals n h rest

    form_uses : (label n : ℕ) (c : Code) → forward c.labels c.instructions ≡ true
        → list_all (labels_few count) c.instructions ≡ true → Among (form_labels label n c)
        → Uses (form_code words heap_end literals label n c)
    form_uses label n c e f h rest =
        let body = body_labels n (n + c.labels + 2) c.instructions in
        let whole : Among (labels_behind n c) = among_right (body_label label ∷ []) (labels_behind n c) h in
        let list = n + c.labels + 1 in
        let own : Among (inner_labels n c) = among_right (entry_labels c.entry list) (inner_labels n c) whole in
        let out_in = own (n + c.labels) (append_right (n + c.labels) body ((n + c.labels) ∷ [])
        (in_here (n + c.labels) [])) in
        let p = and_parts (list_all (λ l. nat_lt l c.labels) (frames.labels_in c.instructions))
        (without_repeats (frames.labels_in c.instructions) && jumps_ahead c.instructions) e in
        let q = and_parts (without_repeats (frames.labels_in c.instructions)) (jumps_ahead c.instructions) p.1 in
        passed_uses c.entry (n + c.labels) out_in _ ∙ entry_uses c.entry list
        (among_left (entry_labels c.entry list) (inner_labels n c) whole) _
        ∙ body_uses n (n + c.labels) out_in (n + c.labels + 2) c.instructions q.1 f
        (among_left body ((n + c.labels) ∷ []) own) (item.Label (n + c.labels) ∷ rest)

    forms_uses : (label n : ℕ) (cs : List Code) → list_all (λ c. forward c.labels c.instructions) cs ≡ true
        → list_all (λ c. list_all (labels_few count) c.instructions) cs ≡ true → Among (forms_labels label n cs)
        → Uses (forms_code words heap_end literals label n cs)
    forms_uses label n [] e f h rest = refl
    forms_uses label n (c ∷ cs) e f h rest =
        let p = and_parts (forward c.labels c.instructions) (list_all (λ c. forward c.labels c.instructions) cs) e in
        let q = and_parts (list_all (labels_few count) c.instructions)
        (list_all (λ c. list_all (labels_few count) c.instructions) cs) f in
        form_uses label n c p.0 q.0 (among_left (form_labels label n c) (forms_labels (suc label) (labels_end n c) cs)
        h) (forms_code words heap_end literals (suc label) (labels_end n c) cs rest)
        ∙ forms_uses (suc label) (labels_end n c) cs p.1 q.1
        (among_right (form_labels label n c) (forms_labels (suc label) (labels_end n c) cs) h) rest

    -- the library's procedures
    library_uses : (library : List ℕ) → list_all (λ l. nat_lt l count) library ≡ true
        → list_all known (word_uses (closure_words library)) ≡ true
    library_uses [] e = refl
    library_uses (l ∷ library) e =
        let p = and_parts (nat_lt l count) (list_all (λ l. nat_lt l count) library) e in
        one (body_label l) (word_uses (closure_words library)) (bodies_in l (ltb-true l count p.0))
        ∙ library_uses library p.1

  all_known : (xs ys : List ℕ) → list_all known xs ≡ true → list_all known ys ≡ true → list_all known (xs ++ ys) ≡ true
  all_known [] ys e f = f
  all_known (x ∷ xs) ys e f = let p = and_parts (known x) (list_all known xs) e in and_from (known x)
      (list_all known (xs ++ ys)) p.0 (all_known xs ys p.1 f)

  says_all : (ls : List ℕ) → list_all known ls ≡ true → AllByRecursion (λ l. IsTrue (known l)) ls
  says_all [] e = tt
  says_all (l ∷ ls) e = let p = and_parts (known l) (list_all known ls) e in (p.0, says_all ls p.1)

-- ---- of the data, only the records of procedures have labels

uses_append : (xs ys : List Word) → word_uses xs ≡ [] → word_uses (xs ++ ys) ≡ word_uses ys
uses_append [] ys e = refl
uses_append (Fixed n ∷ xs) ys e = uses_append xs ys e
uses_append (Address l ∷ xs) ys e = absurd (cc)

no_uses : (n v : ℕ) → word_uses (replicate n (Fixed v)) ≡ []
no_uses zero v = refl
no_uses (suc n) v = no_uses n v

globals_use_none : (closures : ℕ) (globals : List (Option ℕ)) → word_uses (global_words closures globals) ≡ []
globals_use_none closures [] = refl
globals_use_none closures (None ∷ globals) = globals_use_none closures globals
globals_use_none closures (Some n ∷ globals) = globals_use_none closures globals

fixed_use_none : (ns : List ℕ) → word_uses (map Fixed ns) ≡ []
fixed_use_none [] = refl
fixed_use_none (n ∷ ns) = fixed_use_none ns

-- what has no labels stands behind the records
library_last : (library ns : List ℕ) → word_uses (closure_words library ++ map Fixed ns) ≡ word_uses
    (closure_words library)
library_last [] ns = fixed_use_none ns
library_last (l ∷ library) ns = ap (λ ls. body_label l ∷ ls) (library_last library ns)

words_use : (p : tree.Source) → word_uses (program_words p) ≡ word_uses (closure_words p.library)
words_use p =
    let s = p.statics in
    let unit = objects_unit (static_count s) (length p.library) in
    let closures = closures_of p in
    let last = closure_words p.library ++ map Fixed (placed_each s.literals unit) in
    let named = map Fixed (symbol_words (names_of p) s.symbols) ++ (padding (static_count s) ++ last) in
    uses_append (word_list static_bytes) (Fixed (names_of p) ∷ (map Fixed (placed_values s.literals unit) ++
    (global_words closures s.globals ++ named))) refl
    ∙ uses_append (map Fixed (placed_values s.literals unit)) (global_words closures s.globals ++ named)
    (fixed_use_none (placed_values s.literals unit))
    ∙ uses_append (global_words closures s.globals) named (globals_use_none closures s.globals)
    ∙ uses_append (map Fixed (symbol_words (names_of p) s.symbols)) (padding (static_count s) ++ last)
    (fixed_use_none (symbol_words (names_of p) s.symbols))
    ∙ uses_append (padding (static_count s)) last (no_uses (suc (static_count s) % 2) 0)
    ∙ library_last p.library (placed_each s.literals unit)

-- a body's label stands in front of it
body_in : (label n : ℕ) (cs : List Code) (j : ℕ) → j < length cs
    → has (body_label (label + j)) (forms_labels label n cs) ≡ true
body_in label n [] j lt = absurd (omega (arith, lt))
body_in label n (c ∷ cs) zero lt = ap (λ b. b || has (body_label (label + 0)) (labels_behind n c ++ forms_labels (suc label) (labels_end n c) cs))
    (eq-eqb (body_label (label + 0)) (body_label label) (omega arith))
body_in label n (c ∷ cs) (suc j) lt =
    let z : suc label + j ≡ label + suc j = omega arith in
    append_right (body_label (label + suc j)) (form_labels label n c) (forms_labels (suc label) (labels_end n c) cs)
    (ap (λ l. has (body_label l) (forms_labels (suc label) (labels_end n c) cs)) (sym z)
    ∙ body_in (suc label) (labels_end n c) cs j (omega (arith, lt)))

pub program_known : (p : tree.Source) (limit depth : ℕ)
    → list_all (λ c. forward c.labels c.instructions) p.bodies ≡ true
    → list_all (λ c. list_all (labels_few (length p.bodies)) c.instructions) p.bodies ≡ true
    → list_all (λ l. nat_lt l (length p.bodies)) p.library ≡ true
    → AreKnown (selected_code p limit depth) (program_words p)
program_known p limit depth e f g =
    let heap_end = heap_of p + limit in
    let literals = count_literals p.statics.literals in
    let forms = forms_labels 0 (own_label p) p.bodies in
    let all : List ℕ = labels_in (selected_code p limit depth) in
    let is : all ≡ forms ++ [] = forms_labelled p.words heap_end literals 0 (own_label p) p.bodies last_code in
    let at : (y : ℕ) → has y forms ≡ true → has y all ≡ true = λ y h. ap (has y) is ∙ append_left y forms [] h in
    let bodies_in : (l : ℕ) → l < length p.bodies → has (body_label l) all ≡ true = λ l lt. at (body_label l)
    (let z : 0 + l ≡ l = omega arith in ap (λ l. has (body_label l) forms) (sym z) ∙ body_in 0 (own_label p) p.bodies l lt) in
    let uses : list_all (known all) (uses_in (selected_code p limit depth)) ≡ true =
    forms_uses all (length p.bodies) bodies_in p.words heap_end literals 0 (own_label p) p.bodies e f at last_code in
    let words : list_all (known all) (word_uses (program_words p)) ≡ true = ap (list_all (known all)) (words_use p)
    ∙ library_uses all (length p.bodies) bodies_in p.words heap_end literals p.library g in
    All-from_recursion (λ l. IsTrue (is_routine l || has l all))
    (uses_in (selected_code p limit depth) ++ word_uses (program_words p))
    (says_all all (uses_in (selected_code p limit depth) ++ word_uses (program_words p))
    (all_known all (uses_in (selected_code p limit depth)) (word_uses (program_words p)) uses words))
