-- Stop 65 for each operand of each primitive that must have a type: one value of a kind near to it, where
-- all other operands are right.
use Rattle.std.proofs.Common.{◌≡◌, refl, List, [], ◌∷◌, pos}
use Rattle.std.specs.Fmt.{digits}
use Rattle.sch_word.specs.declared.primitive.Primitive.{Primitive}
use Rattle.sch_word.specs.declared.primitive.Primitive.TheVariants.{Add, Car, Cdr, CharToInteger, Equal, Greater, GreaterEqual, IntegerToChar, Less, LessEqual, MakeString, MakeVector, Modulo, Multiply, Quotient, Remainder, SetCar, SetCdr, StringLength, StringRef, StringSet, Subtract, SymbolLength, SymbolRef, VectorLength, VectorRef, VectorSet}
use Rattle.sch_word.specs.declared.stop.Stop.TheVariants.{WrongType}
use Rattle.sch_word.specs.values.Values.{Value, fixnum, character, nil, symbol, object}
use Rattle.sch_word.specs.runs.Computation.{stops}
use Rattle.sch_word.specs.values.PrimitiveRows.{primitive}
use Rattle.sch_word.proofs.worked.PrimitiveExamples.{store}

abbrev a_pair : Value
a_pair = object 0

abbrev a_vector : Value
a_vector = object 1

abbrev a_string : Value
a_string = object 2

abbrev zero_number : Value
zero_number = fixnum (pos 0)

abbrev no_number : Value
no_number = character 0

abbrev Refuses : Primitive → List Value → Type 0
Refuses which vs = primitive which vs store ≡ stops WrongType store

pairs : Refuses Car (a_vector ∷ []) × Refuses Cdr (a_vector ∷ []) × Refuses SetCar (a_vector ∷ nil ∷ []) × Refuses SetCdr (a_vector ∷ nil ∷ []) × Refuses Car (nil ∷ [])
unfolding digits
pairs = (refl, refl, refl, refl, refl)

first_numbers :
    Refuses Add (no_number ∷ zero_number ∷ []) × Refuses Subtract (no_number ∷ zero_number ∷ []) × Refuses Multiply (no_number ∷ zero_number ∷ [])
    × Refuses Quotient (no_number ∷ zero_number ∷ []) × Refuses Remainder (no_number ∷ zero_number ∷ []) × Refuses Modulo (no_number ∷ zero_number ∷ [])
    × Refuses Equal (no_number ∷ zero_number ∷ []) × Refuses Less (no_number ∷ zero_number ∷ []) × Refuses Greater (no_number ∷ zero_number ∷ [])
    × Refuses LessEqual (no_number ∷ zero_number ∷ []) × Refuses GreaterEqual (no_number ∷ zero_number ∷ [])
unfolding digits
first_numbers = (refl, refl, refl, refl, refl, refl, refl, refl, refl, refl, refl)

second_numbers :
    Refuses Add (zero_number ∷ no_number ∷ []) × Refuses Subtract (zero_number ∷ no_number ∷ []) × Refuses Multiply (zero_number ∷ no_number ∷ [])
    × Refuses Quotient (zero_number ∷ no_number ∷ []) × Refuses Remainder (zero_number ∷ no_number ∷ []) × Refuses Modulo (zero_number ∷ no_number ∷ [])
    × Refuses Equal (zero_number ∷ no_number ∷ []) × Refuses Less (zero_number ∷ no_number ∷ []) × Refuses Greater (zero_number ∷ no_number ∷ [])
    × Refuses LessEqual (zero_number ∷ no_number ∷ []) × Refuses GreaterEqual (zero_number ∷ no_number ∷ [])
unfolding digits
second_numbers = (refl, refl, refl, refl, refl, refl, refl, refl, refl, refl, refl)

characters : Refuses CharToInteger (fixnum (pos 65) ∷ []) × Refuses IntegerToChar (character 65 ∷ [])
unfolding digits
characters = (refl, refl)

new_objects :
    Refuses MakeString (no_number ∷ character 65 ∷ []) × Refuses MakeString (zero_number ∷ fixnum (pos 65) ∷ [])
    × Refuses MakeVector (no_number ∷ nil ∷ [])
unfolding digits
new_objects = (refl, refl, refl)

strings :
    Refuses StringLength (a_vector ∷ []) × Refuses StringRef (a_vector ∷ zero_number ∷ []) × Refuses StringSet (a_vector ∷ zero_number ∷ character 65 ∷ [])
    × Refuses StringRef (a_string ∷ no_number ∷ []) × Refuses StringSet (a_string ∷ no_number ∷ character 65 ∷ [])
    × Refuses StringSet (a_string ∷ zero_number ∷ fixnum (pos 65) ∷ [])
unfolding digits
strings = (refl, refl, refl, refl, refl, refl)

vectors :
    Refuses VectorLength (a_string ∷ []) × Refuses VectorRef (a_string ∷ zero_number ∷ []) × Refuses VectorSet (a_string ∷ zero_number ∷ nil ∷ [])
    × Refuses VectorLength (a_pair ∷ []) × Refuses VectorRef (a_pair ∷ zero_number ∷ []) × Refuses VectorSet (a_pair ∷ zero_number ∷ nil ∷ [])
    × Refuses VectorRef (a_vector ∷ no_number ∷ []) × Refuses VectorSet (a_vector ∷ no_number ∷ nil ∷ [])
unfolding digits
vectors = (refl, refl, refl, refl, refl, refl, refl, refl)

symbols :
    Refuses SymbolLength (a_string ∷ []) × Refuses SymbolRef (a_string ∷ zero_number ∷ []) × Refuses SymbolRef (symbol 0 ∷ no_number ∷ [])
unfolding digits
symbols = (refl, refl, refl)
