-- Which combinations are operations: the primitives' names, each with the counts of operands that it
-- admits (R5RS 6.1 to 6.4), and `not` (R5RS 6.3.1).
use Rattle.std.specs.Prelude.{ℕ, zero, suc, ℤ, pos, Bool, true, false, ◌&&◌, ◌||◌, not, cond, nat_eq, List, [], ◌∷◌, Option, Some, None, if◌then◌else◌, codes}
use Rattle.std.specs.Str.{bytes_eq}
use Rattle.sch_word.specs.declared.primitive.Primitive.{Primitive}
use Rattle.sch_word.specs.declared.primitive.Primitive.TheVariants.{Eq, Eqv, IsBoolean, IsPair, IsNull, IsSymbol, IsInteger, IsChar, IsString, IsVector, IsProcedure, Cons, Car, Cdr, SetCar}
use Rattle.sch_word.specs.declared.primitive.Primitive.TheVariants.{SetCdr, Add, Subtract, Multiply, Quotient, Remainder, Modulo, Equal, Less, Greater, LessEqual, GreaterEqual, CharToInteger}
use Rattle.sch_word.specs.declared.primitive.Primitive.TheVariants.{IntegerToChar, MakeString, StringLength, StringRef, StringSet, MakeVector, VectorLength, VectorRef, VectorSet, Put, SymbolLength, SymbolRef}
use Rattle.sch_word.specs.values.Primitives.{name_of, operands_of}
use Rattle.sch_names.specs.declared.operation.Arity.{Arity}
use Rattle.sch_names.specs.declared.operation.Arity.TheVariants.{Fixed, AnyNumber, OneOrMore, TwoOrMore, FillOptional}
use Rattle.sch_names.specs.declared.operation.Operation.{Operation}
use Rattle.sch_names.specs.declared.operation.Operation.TheVariants.{Exact, Unit, UnitAnd, Nested, Chained, Filled, Not}

-- ## Primitives by their names

-- a primitive with how many operands its name admits, and whether only the text of a library names it
pub record NamedPrimitive : Type 0 where
  pub primitive : Primitive
  pub arity : Arity
  pub internal : Bool

-- one of the code's
abbrev pub named_of : Primitive × Arity × Bool → NamedPrimitive
named_of r = record { primitive = r.0; arity = r.1; internal = r.2 }

abbrev pub row : Arity → Primitive → NamedPrimitive
row arity p = record { primitive = p; arity = arity; internal = false }

-- one that the text of a library alone names
abbrev pub internal_row : Primitive → NamedPrimitive
internal_row p = record { primitive = p; arity = Fixed; internal = true }

abbrev pub rows : List NamedPrimitive
rows =
    row Fixed Eqv ∷ (row Fixed Eq ∷ (row AnyNumber Add ∷ (row OneOrMore Subtract ∷ (row AnyNumber Multiply
    ∷ (row TwoOrMore Equal ∷ (row TwoOrMore Less ∷ (row TwoOrMore Greater ∷ (row TwoOrMore LessEqual
    ∷ (row TwoOrMore GreaterEqual ∷ (row Fixed Quotient ∷ (row Fixed Remainder ∷ (row Fixed Modulo ∷ (row Fixed IsInteger
    ∷ (row Fixed IsBoolean ∷ (row Fixed IsPair ∷ (row Fixed Cons ∷ (row Fixed Car ∷ (row Fixed Cdr ∷ (row Fixed SetCar
    ∷ (row Fixed SetCdr ∷ (row Fixed IsNull ∷ (row Fixed IsSymbol ∷ (row Fixed IsChar ∷ (row Fixed CharToInteger
    ∷ (row Fixed IntegerToChar ∷ (row Fixed IsString ∷ (row FillOptional MakeString ∷ (row Fixed StringLength
    ∷ (row Fixed StringRef ∷ (row Fixed StringSet ∷ (row Fixed IsVector ∷ (row FillOptional MakeVector
    ∷ (row Fixed VectorLength ∷ (row Fixed VectorRef ∷ (row Fixed VectorSet ∷ (row Fixed IsProcedure
    ∷ (internal_row Put ∷ (internal_row SymbolLength ∷ (internal_row SymbolRef ∷ [])))))))))))))))))))))))))))))))))))))))

-- the primitive of a name, among some, with how many operands it admits
abbrev pub primitive_among : (internal : Bool) → List ℕ → List NamedPrimitive → Option (Primitive × Arity)
primitive_among internal x [] = None
primitive_among internal x (r ∷ rs) =
    cond (bytes_eq x (name_of r.primitive) && (internal || not r.internal)) (Some (r.primitive, r.arity)) (primitive_among internal x rs)

-- ## Counts of operands

abbrev pub exactly : Primitive → ℕ → Option Operation
exactly p n = cond (nat_eq n (operands_of p)) (Some (Exact p)) None

-- `+`, `-` and `*`, and the comparisons
abbrev pub arithmetic : Primitive → ℕ → Option Operation
arithmetic p zero = Some (Unit p)
arithmetic p (suc zero) = Some (UnitAnd p)
arithmetic p (suc (suc zero)) = Some (Exact p)
arithmetic p _ = Some (Nested p)

abbrev pub comparison : Primitive → ℕ → Option Operation
comparison p zero = None
comparison p (suc zero) = None
comparison p (suc (suc zero)) = Some (Exact p)
comparison p _ = Some (Chained p)

-- `make-string` and `make-vector` may leave out what they fill with
abbrev pub filling : Primitive → ℕ → Option Operation
filling p (suc zero) = Some (Filled p)
filling p n = exactly p n

-- the operation of a primitive with n operands
abbrev pub admitted : Arity → Primitive → ℕ → Option Operation
admitted Fixed p n = exactly p n
admitted AnyNumber p n = arithmetic p n
admitted OneOrMore p n = cond (nat_eq n 0) None (arithmetic p n)
admitted TwoOrMore p n = comparison p n
admitted FillOptional p n = filling p n

-- ## Operations

-- `not` of one operand, whose name is that of no primitive
abbrev pub other_operation : List ℕ → ℕ → Option Operation
other_operation x n = if bytes_eq x (codes "not") then cond (nat_eq n 1) (Some Not) None else None

abbrev pub by_row : Option (Primitive × Arity) → List ℕ → ℕ → Option Operation
by_row (Some r) x n = admitted r.1 r.0 n
by_row None x n = other_operation x n

-- the operation of a name with n operands
unfoldable pub operation_of : (internal : Bool) → List ℕ → ℕ → Option Operation
operation_of internal x n = by_row (primitive_among internal x rows) x n

-- what the results of `+`, `-` and `*` begin with
abbrev pub unit_of : Primitive → ℤ
unit_of Multiply = pos 1
unit_of _ = pos 0
