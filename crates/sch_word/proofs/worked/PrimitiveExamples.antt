-- Worked rows of the primitives, computed: an answer or a stop of each, and which check comes first.
use Rattle.std.proofs.Common.{◌≡◌, refl, true, false, [], ◌∷◌, ◌++◌, pos, negsuc}
use Rattle.std.specs.Prelude.{codes, slice_set}
use Rattle.std.specs.Fmt.{digits}
use Rattle.sch_word.specs.declared.fix.TheConstants.{FIXNUM_MIN, FIXNUM_MAX}
use Rattle.sch_word.specs.declared.primitive.Primitive.TheVariants.{Add, Car, Cdr, CharToInteger, Cons, Eq, Equal, Eqv, Greater, GreaterEqual, IntegerToChar, IsBoolean, IsChar, IsInteger, IsNull, IsPair, IsProcedure, IsString, IsSymbol, IsVector, Less, LessEqual, MakeString, MakeVector, Modulo, Multiply, Put, Quotient, Remainder, SetCar, SetCdr, StringLength, StringRef, StringSet, Subtract, SymbolLength, SymbolRef, VectorLength, VectorRef, VectorSet}
use Rattle.sch_word.specs.declared.stop.Stop.TheVariants.{WrongType, OutOfRange, DivideByZero, Overflow, HeapLimit}
use Rattle.sch_word.specs.values.Values.{fixnum, character, boolean, nil, unspecified, symbol, object, procedure, pair, vector, string}
use Rattle.sch_word.specs.runs.Store.{Store}
use Rattle.sch_word.specs.runs.Computation.{gives, stops}
use Rattle.sch_word.specs.runs.Charges.{procedure_bytes, vector_bytes, string_bytes}
use Rattle.sch_word.specs.values.PrimitiveRows.{primitive}

-- a heap of 96 bytes; the pair (1), the vector #(1 2) and the string "abc"; and the symbol hl
abbrev pub store : Store
store = record {
  constants = record { heap = 96; symbols = codes "hl" ∷ []; literals = [] };
  globals = [];
  objects = pair (fixnum (pos 1)) nil ∷ vector (fixnum (pos 1) ∷ fixnum (pos 2) ∷ []) ∷ string (codes "abc") ∷ [];
  charged = 0;
  output = [];
  answers = [];
  entries = 0;
}

eq_objects_row : primitive Eq (object 2 ∷ object 2 ∷ []) store ≡ gives (boolean true) store
unfolding digits
eq_objects_row = refl

eq_differs_row : primitive Eqv (object 0 ∷ object 2 ∷ []) store ≡ gives (boolean false) store
unfolding digits
eq_differs_row = refl

eq_numbers_row : primitive Eqv (fixnum (negsuc 4) ∷ fixnum (negsuc 4) ∷ []) store ≡ gives (boolean true) store
unfolding digits
eq_numbers_row = refl

eq_kinds_row : primitive Eq (fixnum (pos 0) ∷ character 0 ∷ []) store ≡ gives (boolean false) store
unfolding digits
eq_kinds_row = refl

pair_test_row : primitive IsPair (object 0 ∷ []) store ≡ gives (boolean true) store
unfolding digits
pair_test_row = refl

pair_test_vector_row : primitive IsPair (object 1 ∷ []) store ≡ gives (boolean false) store
unfolding digits
pair_test_vector_row = refl

vector_test_row : primitive IsVector (object 1 ∷ []) store ≡ gives (boolean true) store
unfolding digits
vector_test_row = refl

string_test_row : primitive IsString (object 2 ∷ []) store ≡ gives (boolean true) store
unfolding digits
string_test_row = refl

string_test_symbol_row : primitive IsString (symbol 0 ∷ []) store ≡ gives (boolean false) store
unfolding digits
string_test_symbol_row = refl

symbol_test_row : primitive IsSymbol (symbol 0 ∷ []) store ≡ gives (boolean true) store
unfolding digits
symbol_test_row = refl

null_test_row : primitive IsNull (nil ∷ []) store ≡ gives (boolean true) store
unfolding digits
null_test_row = refl

boolean_test_row : primitive IsBoolean (boolean false ∷ []) store ≡ gives (boolean true) store
unfolding digits
boolean_test_row = refl

procedure_test_row : primitive IsProcedure (procedure 3 ∷ []) store ≡ gives (boolean true) store
unfolding digits
procedure_test_row = refl

integer_test_row : primitive IsInteger (fixnum (pos 3) ∷ []) store ≡ gives (boolean true) store
unfolding digits
integer_test_row = refl

char_test_row : primitive IsChar (character 65 ∷ []) store ≡ gives (boolean true) store
unfolding digits
char_test_row = refl

car_of_row : primitive Car (object 0 ∷ []) store ≡ gives (fixnum (pos 1)) store
unfolding digits
car_of_row = refl

cdr_of_row : primitive Cdr (object 0 ∷ []) store ≡ gives (nil) store
unfolding digits
cdr_of_row = refl

car_of_vector_row : primitive Car (object 1 ∷ []) store ≡ stops WrongType store
unfolding digits
car_of_vector_row = refl

set_car_type_row : primitive SetCar (object 1 ∷ fixnum (pos 1) ∷ []) store ≡ stops WrongType store
unfolding digits
set_car_type_row = refl

add_row : primitive Add (fixnum FIXNUM_MAX ∷ fixnum FIXNUM_MIN ∷ []) store ≡ gives (fixnum (negsuc 0)) store
unfolding digits
add_row = refl

add_over_row : primitive Add (fixnum FIXNUM_MAX ∷ fixnum (pos 1) ∷ []) store ≡ stops Overflow store
unfolding digits
add_over_row = refl

subtract_under_row : primitive Subtract (fixnum FIXNUM_MIN ∷ fixnum (pos 1) ∷ []) store ≡ stops Overflow store
unfolding digits
subtract_under_row = refl

multiply_row : primitive Multiply (fixnum (negsuc 6) ∷ fixnum (pos 6) ∷ []) store ≡ gives (fixnum (negsuc 41)) store
unfolding digits
multiply_row = refl

multiply_least_row : primitive Multiply (fixnum FIXNUM_MIN ∷ fixnum (pos 1) ∷ []) store ≡ gives (fixnum FIXNUM_MIN) store
unfolding digits
multiply_least_row = refl

multiply_over_row : primitive Multiply (fixnum FIXNUM_MIN ∷ fixnum (negsuc 0) ∷ []) store ≡ stops Overflow store
unfolding digits
multiply_over_row = refl

multiply_fits_word_row : primitive Multiply (fixnum FIXNUM_MAX ∷ fixnum (pos 2) ∷ []) store ≡ stops Overflow store
unfolding digits
multiply_fits_word_row = refl

first_operand_first_row : primitive Add (nil ∷ fixnum (pos 1) ∷ []) store ≡ stops WrongType store
unfolding digits
first_operand_first_row = refl

quotient_7_2_row : primitive Quotient (fixnum (pos 7) ∷ fixnum (pos 2) ∷ []) store ≡ gives (fixnum (pos 3)) store
unfolding digits
quotient_7_2_row = refl

remainder_7_2_row : primitive Remainder (fixnum (pos 7) ∷ fixnum (pos 2) ∷ []) store ≡ gives (fixnum (pos 1)) store
unfolding digits
remainder_7_2_row = refl

modulo_7_2_row : primitive Modulo (fixnum (pos 7) ∷ fixnum (pos 2) ∷ []) store ≡ gives (fixnum (pos 1)) store
unfolding digits
modulo_7_2_row = refl

quotient_m7_2_row : primitive Quotient (fixnum (negsuc 6) ∷ fixnum (pos 2) ∷ []) store ≡ gives (fixnum (negsuc 2)) store
unfolding digits
quotient_m7_2_row = refl

remainder_m7_2_row : primitive Remainder (fixnum (negsuc 6) ∷ fixnum (pos 2) ∷ []) store ≡ gives (fixnum (negsuc 0)) store
unfolding digits
remainder_m7_2_row = refl

modulo_m7_2_row : primitive Modulo (fixnum (negsuc 6) ∷ fixnum (pos 2) ∷ []) store ≡ gives (fixnum (pos 1)) store
unfolding digits
modulo_m7_2_row = refl

quotient_7_m2_row : primitive Quotient (fixnum (pos 7) ∷ fixnum (negsuc 1) ∷ []) store ≡ gives (fixnum (negsuc 2)) store
unfolding digits
quotient_7_m2_row = refl

remainder_7_m2_row : primitive Remainder (fixnum (pos 7) ∷ fixnum (negsuc 1) ∷ []) store ≡ gives (fixnum (pos 1)) store
unfolding digits
remainder_7_m2_row = refl

modulo_7_m2_row : primitive Modulo (fixnum (pos 7) ∷ fixnum (negsuc 1) ∷ []) store ≡ gives (fixnum (negsuc 0)) store
unfolding digits
modulo_7_m2_row = refl

quotient_m7_m2_row : primitive Quotient (fixnum (negsuc 6) ∷ fixnum (negsuc 1) ∷ []) store ≡ gives (fixnum (pos 3)) store
unfolding digits
quotient_m7_m2_row = refl

remainder_m7_m2_row : primitive Remainder (fixnum (negsuc 6) ∷ fixnum (negsuc 1) ∷ []) store ≡ gives (fixnum (negsuc 0)) store
unfolding digits
remainder_m7_m2_row = refl

modulo_m7_m2_row : primitive Modulo (fixnum (negsuc 6) ∷ fixnum (negsuc 1) ∷ []) store ≡ gives (fixnum (negsuc 0)) store
unfolding digits
modulo_m7_m2_row = refl

quotient_6_3_row : primitive Quotient (fixnum (pos 6) ∷ fixnum (pos 3) ∷ []) store ≡ gives (fixnum (pos 2)) store
unfolding digits
quotient_6_3_row = refl

remainder_6_3_row : primitive Remainder (fixnum (pos 6) ∷ fixnum (pos 3) ∷ []) store ≡ gives (fixnum (pos 0)) store
unfolding digits
remainder_6_3_row = refl

modulo_6_3_row : primitive Modulo (fixnum (pos 6) ∷ fixnum (pos 3) ∷ []) store ≡ gives (fixnum (pos 0)) store
unfolding digits
modulo_6_3_row = refl

quotient_m6_3_row : primitive Quotient (fixnum (negsuc 5) ∷ fixnum (pos 3) ∷ []) store ≡ gives (fixnum (negsuc 1)) store
unfolding digits
quotient_m6_3_row = refl

remainder_m6_3_row : primitive Remainder (fixnum (negsuc 5) ∷ fixnum (pos 3) ∷ []) store ≡ gives (fixnum (pos 0)) store
unfolding digits
remainder_m6_3_row = refl

modulo_m6_3_row : primitive Modulo (fixnum (negsuc 5) ∷ fixnum (pos 3) ∷ []) store ≡ gives (fixnum (pos 0)) store
unfolding digits
modulo_m6_3_row = refl

quotient_6_m3_row : primitive Quotient (fixnum (pos 6) ∷ fixnum (negsuc 2) ∷ []) store ≡ gives (fixnum (negsuc 1)) store
unfolding digits
quotient_6_m3_row = refl

remainder_6_m3_row : primitive Remainder (fixnum (pos 6) ∷ fixnum (negsuc 2) ∷ []) store ≡ gives (fixnum (pos 0)) store
unfolding digits
remainder_6_m3_row = refl

modulo_6_m3_row : primitive Modulo (fixnum (pos 6) ∷ fixnum (negsuc 2) ∷ []) store ≡ gives (fixnum (pos 0)) store
unfolding digits
modulo_6_m3_row = refl

quotient_over_row : primitive Quotient (fixnum FIXNUM_MIN ∷ fixnum (negsuc 0) ∷ []) store ≡ stops Overflow store
unfolding digits
quotient_over_row = refl

remainder_least_row : primitive Remainder (fixnum FIXNUM_MIN ∷ fixnum (negsuc 0) ∷ []) store ≡ gives (fixnum (pos 0)) store
unfolding digits
remainder_least_row = refl

modulo_zero_row : primitive Modulo (fixnum (pos 1) ∷ fixnum (pos 0) ∷ []) store ≡ stops DivideByZero store
unfolding digits
modulo_zero_row = refl

remainder_zero_row : primitive Remainder (fixnum (pos 1) ∷ fixnum (pos 0) ∷ []) store ≡ stops DivideByZero store
unfolding digits
remainder_zero_row = refl

quotient_type_first_row : primitive Quotient (nil ∷ fixnum (pos 0) ∷ []) store ≡ stops WrongType store
unfolding digits
quotient_type_first_row = refl

quotient_second_type_row : primitive Quotient (fixnum (pos 1) ∷ nil ∷ []) store ≡ stops WrongType store
unfolding digits
quotient_second_type_row = refl

equal_numbers_row : primitive Equal (fixnum (negsuc 2) ∷ fixnum (negsuc 2) ∷ []) store ≡ gives (boolean true) store
unfolding digits
equal_numbers_row = refl

less_row : primitive Less (fixnum (negsuc 2) ∷ fixnum (pos 2) ∷ []) store ≡ gives (boolean true) store
unfolding digits
less_row = refl

greater_row : primitive Greater (fixnum (negsuc 2) ∷ fixnum (pos 2) ∷ []) store ≡ gives (boolean false) store
unfolding digits
greater_row = refl

less_equal_row : primitive LessEqual (fixnum (pos 2) ∷ fixnum (pos 2) ∷ []) store ≡ gives (boolean true) store
unfolding digits
less_equal_row = refl

greater_equal_row : primitive GreaterEqual (fixnum (pos 2) ∷ fixnum (pos 3) ∷ []) store ≡ gives (boolean false) store
unfolding digits
greater_equal_row = refl

char_to_integer_row : primitive CharToInteger (character 255 ∷ []) store ≡ gives (fixnum (pos 255)) store
unfolding digits
char_to_integer_row = refl

integer_to_char_row : primitive IntegerToChar (fixnum (pos 255) ∷ []) store ≡ gives (character 255) store
unfolding digits
integer_to_char_row = refl

integer_to_char_over_row : primitive IntegerToChar (fixnum (pos 256) ∷ []) store ≡ stops OutOfRange store
unfolding digits
integer_to_char_over_row = refl

integer_to_char_under_row : primitive IntegerToChar (fixnum (negsuc 0) ∷ []) store ≡ stops OutOfRange store
unfolding digits
integer_to_char_under_row = refl

make_string_type_first_row : primitive MakeString (fixnum (negsuc 0) ∷ fixnum (pos 1) ∷ []) store ≡ stops WrongType store
unfolding digits
make_string_type_first_row = refl

make_string_negative_row : primitive MakeString (fixnum (negsuc 0) ∷ character 32 ∷ []) store ≡ stops OutOfRange store
unfolding digits
make_string_negative_row = refl

make_string_heap_row : primitive MakeString (fixnum (pos 89) ∷ character 32 ∷ []) store ≡ stops HeapLimit store
unfolding digits
make_string_heap_row = refl

make_vector_negative_row : primitive MakeVector (fixnum (negsuc 0) ∷ nil ∷ []) store ≡ stops OutOfRange store
unfolding digits
make_vector_negative_row = refl

make_vector_heap_row : primitive MakeVector (fixnum FIXNUM_MAX ∷ nil ∷ []) store ≡ stops HeapLimit store
unfolding digits
make_vector_heap_row = refl

string_length_row : primitive StringLength (object 2 ∷ []) store ≡ gives (fixnum (pos 3)) store
unfolding digits
string_length_row = refl

string_ref_row : primitive StringRef (object 2 ∷ fixnum (pos 2) ∷ []) store ≡ gives (character 99) store
unfolding digits
string_ref_row = refl

string_ref_end_row : primitive StringRef (object 2 ∷ fixnum (pos 3) ∷ []) store ≡ stops OutOfRange store
unfolding digits
string_ref_end_row = refl

string_ref_negative_row : primitive StringRef (object 2 ∷ fixnum (negsuc 0) ∷ []) store ≡ stops OutOfRange store
unfolding digits
string_ref_negative_row = refl

string_ref_type_row : primitive StringRef (object 2 ∷ nil ∷ []) store ≡ stops WrongType store
unfolding digits
string_ref_type_row = refl

string_set_type_before_range_row : primitive StringSet (object 2 ∷ fixnum (pos 9) ∷ fixnum (pos 1) ∷ []) store ≡ stops WrongType store
unfolding digits
string_set_type_before_range_row = refl

string_set_range_row : primitive StringSet (object 2 ∷ fixnum (pos 9) ∷ character 1 ∷ []) store ≡ stops OutOfRange store
unfolding digits
string_set_range_row = refl

vector_length_row : primitive VectorLength (object 1 ∷ []) store ≡ gives (fixnum (pos 2)) store
unfolding digits
vector_length_row = refl

vector_ref_row : primitive VectorRef (object 1 ∷ fixnum (pos 1) ∷ []) store ≡ gives (fixnum (pos 2)) store
unfolding digits
vector_ref_row = refl

vector_ref_end_row : primitive VectorRef (object 1 ∷ fixnum (pos 2) ∷ []) store ≡ stops OutOfRange store
unfolding digits
vector_ref_end_row = refl

vector_set_range_row : primitive VectorSet (object 1 ∷ fixnum (pos 2) ∷ nil ∷ []) store ≡ stops OutOfRange store
unfolding digits
vector_set_range_row = refl

put_pair_row : primitive Put (object 0 ∷ []) store ≡ stops WrongType store
unfolding digits
put_pair_row = refl

put_vector_row : primitive Put (object 1 ∷ []) store ≡ stops WrongType store
unfolding digits
put_vector_row = refl

symbol_length_row : primitive SymbolLength (symbol 0 ∷ []) store ≡ gives (fixnum (pos 2)) store
unfolding digits
symbol_length_row = refl

symbol_ref_row : primitive SymbolRef (symbol 0 ∷ fixnum (pos 1) ∷ []) store ≡ gives (character 108) store
unfolding digits
symbol_ref_row = refl

symbol_ref_end_row : primitive SymbolRef (symbol 0 ∷ fixnum (pos 2) ∷ []) store ≡ stops OutOfRange store
unfolding digits
symbol_ref_end_row = refl

symbol_length_string_row : primitive SymbolLength (object 2 ∷ []) store ≡ stops WrongType store
unfolding digits
symbol_length_string_row = refl

cons_row : primitive Cons (nil ∷ unspecified ∷ []) store ≡ gives (object 3) (record store { objects = store.objects ++ pair nil unspecified ∷ []; charged = 16 })
unfolding digits
cons_row = refl

set_cdr_row : primitive SetCdr (object 0 ∷ nil ∷ []) store ≡ gives unspecified (record store { objects = slice_set store.objects 0 (pair (fixnum (pos 1)) nil) })
unfolding digits
set_cdr_row = refl

string_set_row : primitive StringSet (object 2 ∷ fixnum (pos 0) ∷ character 7 ∷ []) store ≡ gives unspecified (record store { objects = slice_set store.objects 2 (string (7 ∷ 98 ∷ 99 ∷ [])) })
unfolding digits
string_set_row = refl

vector_set_row : primitive VectorSet (object 1 ∷ fixnum (pos 1) ∷ nil ∷ []) store ≡ gives unspecified (record store { objects = slice_set store.objects 1 (vector (fixnum (pos 1) ∷ nil ∷ [])) })
unfolding digits
vector_set_row = refl

make_string_row : primitive MakeString (fixnum (pos 9) ∷ character 97 ∷ []) store ≡ gives (object 3) (record store { objects = store.objects ++ string (codes "aaaaaaaaa") ∷ []; charged = 32 })
unfolding digits
make_string_row = refl

make_vector_row : primitive MakeVector (fixnum (pos 2) ∷ nil ∷ []) store ≡ gives (object 3) (record store { objects = store.objects ++ vector (nil ∷ nil ∷ []) ∷ []; charged = 32 })
unfolding digits
make_vector_row = refl

make_empty_row : primitive MakeVector (fixnum (pos 0) ∷ nil ∷ []) store ≡ gives (object 3) (record store { objects = store.objects ++ vector [] ∷ []; charged = 16 })
unfolding digits
make_empty_row = refl

put_number_row : primitive Put (fixnum (negsuc 41) ∷ []) store ≡ gives unspecified (record store { output = codes "-42" })
unfolding digits
put_number_row = refl

put_negative_row : primitive Put (fixnum (negsuc 1073741823) ∷ []) store ≡ gives unspecified (record store { output = codes "-1073741824" })
unfolding digits
put_negative_row = refl

put_zero_row : primitive Put (fixnum (pos 0) ∷ []) store ≡ gives unspecified (record store { output = codes "0" })
unfolding digits
put_zero_row = refl

put_string_row : primitive Put (object 2 ∷ []) store ≡ gives unspecified (record store { output = codes "abc" })
unfolding digits
put_string_row = refl

put_symbol_row : primitive Put (symbol 0 ∷ []) store ≡ gives unspecified (record store { output = codes "hl" })
unfolding digits
put_symbol_row = refl

put_true_row : primitive Put (boolean true ∷ []) store ≡ gives unspecified (record store { output = codes "#t" })
unfolding digits
put_true_row = refl

put_false_row : primitive Put (boolean false ∷ []) store ≡ gives unspecified (record store { output = codes "#f" })
unfolding digits
put_false_row = refl

put_nil_row : primitive Put (nil ∷ []) store ≡ gives unspecified (record store { output = codes "()" })
unfolding digits
put_nil_row = refl

put_unspecified_row : primitive Put (unspecified ∷ []) store ≡ gives unspecified (record store { output = codes "#<unspecified>" })
unfolding digits
put_unspecified_row = refl

put_procedure_row : primitive Put (procedure 0 ∷ []) store ≡ gives unspecified (record store { output = codes "#<procedure>" })
unfolding digits
put_procedure_row = refl

put_character_row : primitive Put (character 10 ∷ []) store ≡ gives unspecified (record store { output = 10 ∷ [] })
unfolding digits
put_character_row = refl

-- ## Charges

procedure_without_variables : procedure_bytes 0 ≡ 16
procedure_without_variables = refl

procedure_with_one : procedure_bytes 1 ≡ 16
procedure_with_one = refl

procedure_with_two : procedure_bytes 2 ≡ 32
procedure_with_two = refl

string_of_eight : string_bytes 8 ≡ 16
string_of_eight = refl

string_of_nine : string_bytes 9 ≡ 32
string_of_nine = refl

vector_of_three : vector_bytes 3 ≡ 32
vector_of_three = refl

char_to_integer_type_row : primitive CharToInteger (fixnum (pos 97) ∷ []) store ≡ stops WrongType store
unfolding digits
char_to_integer_type_row = refl

string_length_type_row : primitive StringLength (object 1 ∷ []) store ≡ stops WrongType store
unfolding digits
string_length_type_row = refl

vector_length_type_row : primitive VectorLength (object 2 ∷ []) store ≡ stops WrongType store
unfolding digits
vector_length_type_row = refl

vector_ref_type_row : primitive VectorRef (object 0 ∷ fixnum (pos 0) ∷ []) store ≡ stops WrongType store
unfolding digits
vector_ref_type_row = refl

vector_set_index_row : primitive VectorSet (object 1 ∷ character 0 ∷ nil ∷ []) store ≡ stops WrongType store
unfolding digits
vector_set_index_row = refl

vector_ref_negative_row : primitive VectorRef (object 1 ∷ fixnum (negsuc 0) ∷ []) store ≡ stops OutOfRange store
unfolding digits
vector_ref_negative_row = refl
