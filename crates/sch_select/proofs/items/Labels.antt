-- No label stands twice in a program's items.
use Rattle.std.proofs.Common.{◌≡◌, ◌≢◌, ℕ, ◌+◌, ◌<◌, ◌≤◌, List, [], ◌∷◌, ◌++◌, Bool, true, false, cond, refl, sym, ap}
use Rattle.std.proofs.Common.{◌∙◌, arith, append_assoc, ◌==◌}
use Rattle.std.specs.Prelude.{nat_lt, not}
use Rattle.std.proofs.lemmas.Bool.{and_from, and_parts, ne_eqb, ltb-true, ltb-false}
use Rattle.sch_word.specs.declared.place.Place.{Place}
use Rattle.sch_word.specs.declared.primitive.Primitive.{Primitive}
use Rattle.sch_word.specs.declared.primitive.Primitive.TheVariants.{Eq, Eqv, IsBoolean, IsPair, IsNull, IsSymbol}
use Rattle.sch_word.specs.declared.primitive.Primitive.TheVariants.{IsInteger, IsChar, IsString, IsVector}
use Rattle.sch_word.specs.declared.primitive.Primitive.TheVariants.{IsProcedure, Modulo, Equal, Less, Greater}
use Rattle.sch_word.specs.declared.primitive.Primitive.TheVariants.{LessEqual, GreaterEqual, Put, Cons}
use Rattle.sch_word.specs.declared.primitive.Primitive.TheVariants.{MakeString, MakeVector, StringSet}
use Rattle.sch_word.specs.trees.NumberSets.{has, without_repeats}
use Rattle.sch_word.proofs.facts.Booleans.{is_not_true, neither, not_true}
use Rattle.sch_word.proofs.facts.NumberSets.{has_append, in_here, in_more}
use Rattle.sch_control.specs.declared.operation.Atom.{Atom}
use Rattle.sch_control.specs.declared.operation.Atom.TheVariants.{Constant, Literal, Variable}
use Rattle.sch_control.specs.declared.operation.Operand.{Operand}
use Rattle.sch_control.specs.declared.operation.Operand.TheVariants as operand
use Rattle.sch_control.specs.declared.operation.Source.{Source}
use Rattle.sch_control.specs.declared.operation.Source.TheVariants as source
use Rattle.sch_control.specs.declared.operation.Member.{Member}
use Rattle.sch_control.specs.declared.operation.Operation.{Operation}
use Rattle.sch_control.specs.declared.operation.Operation.TheVariants as operation
use Rattle.sch_asm.specs.declared.item.Item.{Item}
use Rattle.sch_asm.specs.Items.{labels_in}
use Rattle.sch_select.specs.Select.{operand_needs, operation_needs}
use Rattle.sch_select_operations.specs.OperandCode.{atom_code, unary_code, binary_code, read_code, operand_code, second_code}
use Rattle.sch_select_operations.specs.CellCode.{source_code}
use Rattle.sch_select_operations.specs.ClosureCode.{fields_code, closure_bytes, places_code, records_code, group_code, spills_behind}
use Rattle.sch_select.proofs.items.AppendedItems.{spill_same}
use Rattle.sch_select_operations.specs.OperationCode.{operation_code}
use Rattle.sch_select_operations.specs.PrimitiveCode.{pair_or_binary, ternary_code, index_operand, three_code}

-- ---- lists whose elements are all different, in a range

pub record Block (low high : ℕ) (ls : List ℕ) : Type 0 where
  pub distinct : without_repeats ls ≡ true
  pub below : (y : ℕ) → y < low → has y ls ≡ false
  pub above : (y : ℕ) → high ≤ y → has y ls ≡ false

-- what is neither the first nor behind it
pub absent_more : (y x : ℕ) (xs : List ℕ) → y ≢ x → has y xs ≡ false → has y (x ∷ xs) ≡ false
absent_more y x xs d e = neither (y == x) (has y xs) (ne_eqb y x d) e

pub absent_append : (xs ys : List ℕ) (y : ℕ) → has y xs ≡ false → has y ys ≡ false → has y (xs ++ ys) ≡ false
absent_append xs ys y e f = has_append y xs ys ∙ neither (has y xs) (has y ys) e f

pub distinct_more : (x : ℕ) (xs : List ℕ) → has x xs ≡ false → without_repeats xs ≡ true → without_repeats (x ∷ xs) ≡ true
distinct_more x xs e f = and_from (not (has x xs)) (without_repeats xs) (is_not_true (has x xs) e) f

-- elements of the first are in none of the second
abbrev pub Apart : List ℕ → List ℕ → Type 0
Apart [] ys = Unit {0}
Apart (x ∷ xs) ys = (has x ys ≡ false) × Apart xs ys

pub distinct_append : (xs ys : List ℕ) → without_repeats xs ≡ true → without_repeats ys ≡ true → Apart xs ys
    → without_repeats (xs ++ ys) ≡ true
distinct_append [] ys e f a = f
distinct_append (x ∷ xs) ys e f a =
    let p = and_parts (not (has x xs)) (without_repeats xs) e in
    distinct_more x (xs ++ ys) (absent_append xs ys x (not_true (has x xs) p.0) a.0) (distinct_append xs ys p.1 f a.1)

-- an element of a block is below its end
inside : (low high : ℕ) (ls : List ℕ) → ((y : ℕ) → high ≤ y → has y ls ≡ false) → (y : ℕ) → has y ls ≡ true
    → y < high
inside low high ls above y e = by (nat_lt y high) refl
  where
    by : (b : Bool) → nat_lt y high ≡ b → y < high
    by true f = ltb-true y high f
    by false f = absurd (let bad : true ≡ false = sym e ∙ above y (ltb-false y high f) in cc)

apart_blocks : (xs all ys : List ℕ) (middle : ℕ) → ((y : ℕ) → has y xs ≡ true → has y all ≡ true)
    → ((y : ℕ) → middle ≤ y → has y all ≡ false) → ((y : ℕ) → y < middle → has y ys ≡ false) → Apart xs ys
apart_blocks [] all ys middle sub above below = tt
apart_blocks (x ∷ xs) all ys middle sub above below = (
  below x (inside 0 middle all above x (sub x (in_here x xs))),
  apart_blocks xs all ys middle (λ y e. sub y (in_more y x xs e)) above below,
)

pub blocks : (a b c d : ℕ) (xs ys : List ℕ) → b ≤ c → a ≤ c → b ≤ d → Block a b xs → Block c d ys → Block a d (xs ++ ys)
blocks a b c d xs ys le le' le'' p q = record {
  distinct = distinct_append xs ys p.distinct q.distinct
      (apart_blocks xs xs ys c (λ y e. e) (λ y h. p.above y (omega (arith, h, le))) q.below);
  below = λ y h. absent_append xs ys y (p.below y h) (q.below y (omega (arith, h, le')));
  above = λ y h. absent_append xs ys y (p.above y (omega (arith, h, le''))) (q.above y h);
}

pub no_labels : (a b : ℕ) → Block a b []
no_labels a b = record { distinct = refl; below = λ y h. refl; above = λ y h. refl }

pub wider : (a b c d : ℕ) (ls : List ℕ) → a ≤ c → d ≤ b → Block c d ls → Block a b ls
wider a b c d ls low high p = record {
  distinct = p.distinct;
  below = λ y h. p.below y (omega (arith, h, low));
  above = λ y h. p.above y (omega (arith, h, high));
}

pub one_label : (n : ℕ) → Block n (n + 1) (n ∷ [])
one_label n = record {
  distinct = refl;
  below = λ y h. absent_more y n [] (λ e. omega (arith, e, h)) refl;
  above = λ y h. absent_more y n [] (λ e. omega (arith, e, h)) refl;
}

one_of_four : (n : ℕ) → Block n (n + 4) (n ∷ [])
one_of_four n = wider n (n + 4) n (n + 1) _ (omega arith) (omega arith) (one_label n)

modulo_block : (n : ℕ) → Block n (n + 4) ((n + 1) ∷ ((n + 2) ∷ (n ∷ [])))
modulo_block n = record {
  distinct = distinct_more (n + 1) ((n + 2) ∷ (n ∷ []))
      (absent_more (n + 1) (n + 2) (n ∷ []) (λ e. omega (arith, e)) (absent_more (n + 1) n [] (λ e. omega (arith, e)) refl))
      (distinct_more (n + 2) (n ∷ []) (absent_more (n + 2) n [] (λ e. omega (arith, e)) refl) refl);
  below = λ y h. absent_more y (n + 1) ((n + 2) ∷ (n ∷ [])) (λ e. omega (arith, e, h))
      (absent_more y (n + 2) (n ∷ []) (λ e. omega (arith, e, h)) (absent_more y n [] (λ e. omega (arith, e, h)) refl));
  above = λ y h. absent_more y (n + 1) ((n + 2) ∷ (n ∷ [])) (λ e. omega (arith, e, h))
      (absent_more y (n + 2) (n ∷ []) (λ e. omega (arith, e, h)) (absent_more y n [] (λ e. omega (arith, e, h)) refl));
}

-- ---- the labels of each piece

abbrev pub has_test : Primitive → Bool
has_test IsBoolean = true
has_test IsPair = true
has_test IsNull = true
has_test IsSymbol = true
has_test IsInteger = true
has_test IsChar = true
has_test IsString = true
has_test IsVector = true
has_test IsProcedure = true
has_test Put = true
has_test _ = false

abbrev pub has_one_label : Primitive → Bool
has_one_label Eq = true
has_one_label Eqv = true
has_one_label Equal = true
has_one_label Less = true
has_one_label Greater = true
has_one_label LessEqual = true
has_one_label GreaterEqual = true
has_one_label MakeString = true
has_one_label MakeVector = true
has_one_label _ = false

abbrev pub is_modulo : Primitive → Bool
is_modulo Modulo = true
is_modulo _ = false

abbrev pub unary_labels : ℕ → Primitive → List ℕ
unary_labels n which = cond (has_test which) (n ∷ []) []

abbrev pub binary_labels : ℕ → Primitive → List ℕ
binary_labels n which = cond (has_one_label which) (n ∷ [])
    (cond (is_modulo which) ((n + 1) ∷ ((n + 2) ∷ (n ∷ []))) [])

either_block : (a b : ℕ) (t : Bool) (xs ys : List ℕ) → Block a b xs → Block a b ys → Block a b (cond t xs ys)
either_block a b true xs ys p q = p
either_block a b false xs ys p q = q

unary_block : (n : ℕ) (which : Primitive) → Block n (n + 4) (unary_labels n which)
unary_block n which = either_block n (n + 4) (has_test which) (n ∷ []) [] (one_of_four n) (no_labels n (n + 4))

binary_block : (n : ℕ) (which : Primitive) → Block n (n + 4) (binary_labels n which)
binary_block n which = either_block n (n + 4) (has_one_label which) (n ∷ []) _ (one_of_four n)
    (either_block n (n + 4) (is_modulo which) ((n + 1) ∷ ((n + 2) ∷ (n ∷ []))) [] (modulo_block n)
    (no_labels n (n + 4)))

abbrev pub Labelled : (List Item → List Item) → List ℕ → Type 0
Labelled f ls = (rest : List Item) → labels_in (f rest) ≡ ls ++ labels_in rest

unary_labelled : (n : ℕ) (which : Primitive) → Labelled (unary_code n which) (unary_labels n which)
unary_labelled n IsBoolean rest = refl
unary_labelled n _ rest = refl

binary_labelled : (n : ℕ) (which : Primitive) → Labelled (binary_code n which) (binary_labels n which)
binary_labelled n Eq rest = refl
binary_labelled n _ rest = refl

pair_labelled : (heap_end n : ℕ) (which : Primitive) → Labelled (pair_or_binary heap_end n which) (binary_labels n which)
pair_labelled heap_end n Cons rest = refl
pair_labelled heap_end n which rest = binary_labelled n which rest

ternary_labelled : (which : Primitive) → Labelled (ternary_code which) []
ternary_labelled StringSet rest = refl
ternary_labelled _ rest = refl

atom_labelled : (r : ℕ) (a : Atom Place) → Labelled (atom_code r a) []
atom_labelled r (Constant c) rest = refl
atom_labelled r (Variable p) rest = refl
atom_labelled r (Literal n) rest = refl

abbrev pub read_labels : ℕ → Primitive → List (Atom Place) → List ℕ
read_labels n which (a ∷ []) = unary_labels n which
read_labels n which (a ∷ (b ∷ [])) = binary_labels n which
read_labels n which atoms = []

read_labelled : (n : ℕ) (which : Primitive) (atoms : List (Atom Place))
    → Labelled (read_code n which atoms) (read_labels n which atoms)
read_labelled n which [] rest = refl
read_labelled n which (a ∷ []) rest = atom_labelled 0 a (unary_code n which rest) ∙ unary_labelled n which rest
read_labelled n which (a ∷ (b ∷ [])) rest = atom_labelled 0 a (atom_code 1 b (binary_code n which rest))
    ∙ atom_labelled 1 b (binary_code n which rest) ∙ binary_labelled n which rest
read_labelled n which (a ∷ (b ∷ (c ∷ atoms))) rest = refl

read_block : (n : ℕ) (which : Primitive) (atoms : List (Atom Place)) → Block n (n + 4) (read_labels n which atoms)
read_block n which [] = no_labels n (n + 4)
read_block n which (a ∷ []) = unary_block n which
read_block n which (a ∷ (b ∷ [])) = binary_block n which
read_block n which (a ∷ (b ∷ (c ∷ atoms))) = no_labels n (n + 4)

abbrev pub operand_labels : ℕ → Operand Place → List ℕ
operand_labels n (operand.Atom a) = []
operand_labels n (operand.Read site which atoms) = read_labels n which atoms

operand_labelled : (n : ℕ) (o : Operand Place) → Labelled (operand_code n o) (operand_labels n o)
operand_labelled n (operand.Atom a) rest = atom_labelled 0 a rest
operand_labelled n (operand.Read site which atoms) rest = read_labelled n which atoms rest

pub second_labelled : (n : ℕ) (o : Operand Place) → Labelled (second_code n o) (operand_labels n o)
second_labelled n (operand.Atom a) rest = atom_labelled 1 a rest
second_labelled n (operand.Read site which atoms) rest = read_labelled n which atoms _

pub operand_block : (n : ℕ) (o : Operand Place) → Block n (n + operand_needs o) (operand_labels n o)
operand_block n (operand.Atom a) = no_labels n _
operand_block n (operand.Read site which atoms) = read_block n which atoms

operand_of_four : (n : ℕ) (o : Operand Place) → Block n (n + 4) (operand_labels n o)
operand_of_four n (operand.Atom a) = no_labels n (n + 4)
operand_of_four n (operand.Read site which atoms) = read_block n which atoms

index_labelled : (o : Operand Place) → Labelled (index_operand o) []
index_labelled (operand.Atom a) rest = atom_labelled 1 a rest
index_labelled (operand.Read site which atoms) rest = refl

-- the first and the last of three operands
abbrev pub three_labels : ℕ → (a c : Operand Place) → List ℕ
three_labels n a c = operand_labels n c ++ operand_labels (n + 4) a

three_labelled : (n : ℕ) (a b c : Operand Place) → Labelled (three_code n a b c) (three_labels n a c)
three_labelled n a b c rest =
    operand_labelled n c _
    ∙ ap (λ l. operand_labels n c ++ l) (operand_labelled (n + 4) a (index_operand b rest) ∙ ap
    (λ l. operand_labels (n + 4) a ++ l) (index_labelled b rest))
    ∙ sym (append_assoc (operand_labels n c) (operand_labels (n + 4) a) (labels_in rest))

three_block : (n : ℕ) (a c : Operand Place) → Block n (n + 4 + 4) (three_labels n a c)
three_block n a c = blocks n (n + 4) (n + 4) (n + 4 + 4) _ _ (omega arith) (omega arith) (omega arith)
    (operand_of_four n c) (operand_of_four (n + 4) a)

source_labelled : (r : ℕ) (x : Source Place) → Labelled (source_code r x) []
source_labelled r (source.Atom a) rest = atom_labelled r a rest
source_labelled r (source.Field p k) rest = refl

fields_labelled : (offset : ℕ) (sources : List (Source Place)) → Labelled (fields_code offset sources) []
fields_labelled offset [] rest = refl
fields_labelled offset (x ∷ sources) rest = source_labelled 1 x _ ∙ fields_labelled (offset + 8) sources rest

places_labelled : (offset : ℕ) (members : List (Member Place)) (spills : List ℕ) → Labelled (places_code offset members spills) []
places_labelled offset [] spills rest = refl
places_labelled offset (m ∷ members) spills rest =
    spill_same labels_in (λ kind is. refl) m.at spills _ ∙ places_labelled (offset + closure_bytes m.closure) members (spills_behind m.at spills) rest

records_labelled : (offset : ℕ) (members : List (Member Place)) → Labelled (records_code offset members) []
records_labelled offset [] rest = refl
records_labelled offset (m ∷ members) rest = fields_labelled (offset + 8) m.closure.fields _
    ∙ records_labelled (offset + closure_bytes m.closure) members rest

pub group_labelled : (heap_end : ℕ) (members : List (Member Place)) (spills : List ℕ) → Labelled (group_code heap_end members spills) []
group_labelled heap_end members spills rest = places_labelled 0 members spills _ ∙ records_labelled 0 members _

abbrev pub operation_labels : ℕ → Operation Place → List ℕ
operation_labels n (operation.Operand o) = operand_labels n o
operation_labels n (operation.Prim site which (o ∷ [])) = operand_labels n o ++ unary_labels (n + 8) which
operation_labels n (operation.Prim site which (o ∷ (q ∷ []))) = operand_labels n o ++
    (operand_labels (n + 4) q ++ binary_labels (n + 8) which)
operation_labels n (operation.Prim site which (o ∷ (q ∷ (r ∷ [])))) = three_labels n o r
operation_labels n (operation.SetGlobal g o) = operand_labels n o
operation_labels n (operation.CellSet x o) = operand_labels n o
operation_labels n _ = []

pub operation_labelled : (heap_end literals n : ℕ) (o : Operation Place)
    → Labelled (operation_code heap_end literals n o) (operation_labels n o)
operation_labelled heap_end literals n (operation.Operand o) rest = operand_labelled n o rest
operation_labelled heap_end literals n (operation.Prim site which []) rest = refl
operation_labelled heap_end literals n (operation.Prim site which (o ∷ [])) rest = operand_labelled n o
    (unary_code (n + 8) which rest) ∙ ap (λ l. operand_labels n o ++ l) (unary_labelled (n + 8) which rest)
    ∙ sym (append_assoc (operand_labels n o) (unary_labels (n + 8) which) (labels_in rest))
operation_labelled heap_end literals n (operation.Prim site which (o ∷ (q ∷ []))) rest =
    operand_labelled n o (second_code (n + 4) q (pair_or_binary heap_end (n + 8) which rest))
    ∙ ap (λ l. operand_labels n o ++ l) (second_labelled (n + 4) q (pair_or_binary heap_end (n + 8) which rest) ∙ ap
    (λ l. operand_labels (n + 4) q ++ l) (pair_labelled heap_end (n + 8) which rest)
    ∙ sym (append_assoc (operand_labels (n + 4) q) (binary_labels (n + 8) which) (labels_in rest)))
    ∙ sym (append_assoc (operand_labels n o) (operand_labels (n + 4) q ++ binary_labels (n + 8) which) (labels_in rest))
operation_labelled heap_end literals n (operation.Prim site which (o ∷ (q ∷ (r ∷ [])))) rest = three_labelled n o q r
    (ternary_code which rest) ∙ ap (λ l. three_labels n o r ++ l) (ternary_labelled which rest)
operation_labelled heap_end literals n (operation.Prim site which (o ∷ (q ∷ (r ∷ (s ∷ operands))))) rest = refl
operation_labelled heap_end literals n (operation.Global g) rest = refl
operation_labelled heap_end literals n (operation.SetGlobal g o) rest = operand_labelled n o _
operation_labelled heap_end literals n (operation.Field p k) rest = refl
operation_labelled heap_end literals n (operation.NewCell x) rest = source_labelled 0 x _
operation_labelled heap_end literals n operation.UnsetCell rest = refl
operation_labelled heap_end literals n (operation.CellGet x) rest = source_labelled 0 x _
operation_labelled heap_end literals n (operation.CellSet x o) rest = operand_labelled n o _
    ∙ ap (λ l. operand_labels n o ++ l) (source_labelled 1 x _)
operation_labelled heap_end literals n (operation.MakeClosure c) rest = fields_labelled 8 c.fields _

pub operation_block : (n : ℕ) (o : Operation Place) → Block n (n + operation_needs o) (operation_labels n o)
operation_block n (operation.Operand o) = operand_block n o
operation_block n (operation.Prim site which []) = no_labels n (n + 12)
operation_block n (operation.Prim site which (o ∷ [])) = wider n (n + 12) n (n + 8 + 4) _ (omega arith) (omega arith)
    (blocks n (n + 4) (n + 8) (n + 8 + 4) _ _ (omega arith) (omega arith) (omega arith) (operand_of_four n o)
    (unary_block (n + 8) which))
operation_block n (operation.Prim site which (o ∷ (q ∷ []))) =
    wider n (n + 12) n (n + 8 + 4) _ (omega arith) (omega arith)
    (blocks n (n + 4) (n + 4) (n + 8 + 4) _ _ (omega arith) (omega arith) (omega arith) (operand_of_four n o)
    (blocks (n + 4) (n + 4 + 4) (n + 8) (n + 8 + 4) _ _ (omega arith) (omega arith) (omega arith)
    (operand_of_four (n + 4) q) (binary_block (n + 8) which)))
operation_block n (operation.Prim site which (o ∷ (q ∷ (r ∷ [])))) = wider n (n + 12) n (n + 4 + 4) _ (omega arith)
    (omega arith) (three_block n o r)
operation_block n (operation.Prim site which (o ∷ (q ∷ (r ∷ (s ∷ operands))))) = no_labels n (n + 12)
operation_block n (operation.CellSet x o) = operand_block n o
operation_block n (operation.SetGlobal g o) = operand_block n o
operation_block n _ = no_labels n _
