-- What each primitive does, a row for each, with its checks in their order: the types of its operands
-- from left to right, then range, then a zero divisor, then overflow, then the heap (R5RS 6).
use Rattle.std.specs.Prelude.{ℕ, Bool, true, false, cond, ◌&&◌, ◌||◌, not, nat_eq, ℤ, pos, negsuc, nat_abs, ◌+ℤ◌, ◌-ℤ◌, ◌*ℤ◌, int_le, int_lt, int_div, int_rem, List, [], ◌∷◌, ◌++◌, length, Option, Some, None, slice_get, slice_set, slice_index, replicate, codes}
use Rattle.std.specs.Fmt.{signed_decimal}
use Rattle.sch_word.specs.declared.stop.Stop.TheVariants.{WrongType, OutOfRange, DivideByZero, Overflow, OutputFailed}
use Rattle.sch_word.specs.declared.primitive.Primitive.{Primitive}
use Rattle.sch_word.specs.declared.primitive.Primitive.TheVariants.{Eq, Eqv, IsBoolean, IsPair, IsNull, IsSymbol, IsInteger, IsChar, IsString, IsVector, IsProcedure, Cons, Car, Cdr, SetCar, SetCdr, Add, Subtract, Multiply, Quotient, Remainder, Modulo, Equal, Less, Greater, LessEqual, GreaterEqual, CharToInteger, IntegerToChar, MakeString, StringLength, StringRef, StringSet, MakeVector, VectorLength, VectorRef, VectorSet, Put, SymbolLength, SymbolRef}
use Rattle.sch_word.specs.values.Fixnum.{is_fixnum}
use Rattle.sch_word.specs.values.Put as puts
use Rattle.sch_word.specs.values.Values.{Value, fixnum, character, boolean, nil, unspecified, symbol, object, procedure, cell, Object, pair, vector, string, same_value}
use Rattle.sch_word.specs.runs.Store.{Store}
use Rattle.sch_word.specs.runs.Computation.{Action, gives, stops, after, require, unreached, when_known}
use Rattle.sch_word.specs.runs.Charges.{pair_bytes, vector_bytes, string_bytes, charge, new_object, charged_object}

-- ## Operands by count

abbrev pub unary : List Value → (Value → Action Value) → Action Value
unary (a ∷ []) row = row a
unary _ row = unreached

abbrev pub binary : List Value → (Value → Value → Action Value) → Action Value
binary (a ∷ (b ∷ [])) row = row a b
binary _ row = unreached

abbrev pub ternary : List Value → (Value → Value → Value → Action Value) → Action Value
ternary (a ∷ (b ∷ (c ∷ []))) row = row a b c
ternary _ row = unreached

-- ## Operands by type: any other is stop 65

abbrev pub as_fixnum : Value → (ℤ → Action Value) → Action Value
as_fixnum (fixnum n) next = next n
as_fixnum _ next = stops WrongType

abbrev pub as_character : Value → (ℕ → Action Value) → Action Value
as_character (character byte) next = next byte
as_character _ next = stops WrongType

-- a symbol, by its name
abbrev pub as_symbol : Value → (List ℕ → Action Value) → Action Value
as_symbol (symbol n) next t = when_known (slice_get t.constants.symbols n) next t
as_symbol _ next t = stops WrongType t

-- the object that a value is
abbrev pub object_at : Value → Store → Option Object
object_at (object n) t = slice_get t.objects n
object_at _ t = None

abbrev pub pair_or_stop : Option Object → (Value → Value → Action Value) → Action Value
pair_or_stop (Some (pair a d)) next = next a d
pair_or_stop _ next = stops WrongType

abbrev pub vector_or_stop : Option Object → (List Value → Action Value) → Action Value
vector_or_stop (Some (vector elements)) next = next elements
vector_or_stop _ next = stops WrongType

abbrev pub string_or_stop : Option Object → (List ℕ → Action Value) → Action Value
string_or_stop (Some (string bytes)) next = next bytes
string_or_stop _ next = stops WrongType

abbrev pub as_pair : Value → (Value → Value → Action Value) → Action Value
as_pair v next t = pair_or_stop (object_at v t) next t

abbrev pub as_vector : Value → (List Value → Action Value) → Action Value
as_vector v next t = vector_or_stop (object_at v t) next t

abbrev pub as_string : Value → (List ℕ → Action Value) → Action Value
as_string v next t = string_or_stop (object_at v t) next t

-- ## Ranges

-- a number that is not negative, and one that is below a bound too
abbrev pub is_natural : ℤ → Bool
is_natural n = int_le (pos 0) n

abbrev pub is_index : ℤ → (bound : ℕ) → Bool
is_index n bound = is_natural n && int_lt n (pos bound)

-- an index below a bound; any other number is stop 66
abbrev pub in_range : ℤ → (bound : ℕ) → (ℕ → Action Value) → Action Value
in_range n bound next = require (is_index n bound) OutOfRange (next (nat_abs n))

-- a length that is asked for
abbrev pub as_length : ℤ → (ℕ → Action Value) → Action Value
as_length n next = require (is_natural n) OutOfRange (next (nat_abs n))

-- ## Answers

-- a result, or stop 70 where it is no fixnum
abbrev pub fixnum_or_stop : ℤ → Action Value
fixnum_or_stop n = require (is_fixnum n) Overflow (gives (fixnum n))

abbrev pub arithmetic : (ℤ → ℤ → ℤ) → Value → Value → Action Value
arithmetic f a b = as_fixnum a (λ x. as_fixnum b (λ y. fixnum_or_stop (f x y)))

abbrev pub comparison : (ℤ → ℤ → Bool) → Value → Value → Action Value
comparison f a b = as_fixnum a (λ x. as_fixnum b (λ y. gives (boolean (f x y))))

abbrev pub is_zero : ℤ → Bool
is_zero (pos n) = nat_eq n 0
is_zero (negsuc n) = false

abbrev pub division : (ℤ → ℤ → ℤ) → Value → Value → Action Value
division f a b = as_fixnum a (λ x. as_fixnum b (λ y. require (not (is_zero y)) DivideByZero (fixnum_or_stop (f x y))))

-- whether one of two numbers is negative and the other positive
abbrev pub signs_differ : ℤ → ℤ → Bool
signs_differ x y = (int_lt x (pos 0) && int_lt (pos 0) y) || (int_lt (pos 0) x && int_lt y (pos 0))

-- `modulo` has the sign of the divisor: where the remainder has the other sign, the divisor is added
-- (R5RS 6.2.5)
abbrev pub int_modulo : ℤ → ℤ → ℤ
int_modulo x divisor = cond (signs_differ (int_rem x divisor) divisor) (int_rem x divisor +ℤ divisor) (int_rem x divisor)

-- ## Types (R5RS 3.2)

abbrev pub is_boolean : Value → Bool
is_boolean (boolean b) = true
is_boolean _ = false

abbrev pub is_null : Value → Bool
is_null nil = true
is_null _ = false

abbrev pub is_symbol : Value → Bool
is_symbol (symbol n) = true
is_symbol _ = false

abbrev pub is_integer : Value → Bool
is_integer (fixnum n) = true
is_integer _ = false

abbrev pub is_character : Value → Bool
is_character (character byte) = true
is_character _ = false

abbrev pub is_procedure : Value → Bool
is_procedure (procedure n) = true
is_procedure _ = false

abbrev pub is_pair : Option Object → Bool
is_pair (Some (pair a d)) = true
is_pair _ = false

abbrev pub is_vector : Option Object → Bool
is_vector (Some (vector elements)) = true
is_vector _ = false

abbrev pub is_string : Option Object → Bool
is_string (Some (string bytes)) = true
is_string _ = false

-- whether the object that a value is, if any, is of a type
abbrev pub object_test : (Option Object → Bool) → Value → Action Value
object_test test v t = gives (boolean (test (object_at v t))) t

-- ## Writes to objects

-- the object that a value is, replaced
abbrev pub write_object : Value → Object → Action Value
write_object (object n) o t = gives unspecified (record t { objects = slice_set t.objects n o })
write_object _ o t = stops WrongType t

abbrev pub element : Option Value → Action Value
element (Some v) = gives v
element None = stops OutOfRange

-- ## Output

abbrev pub object_piece : Option Object → Option (List ℕ)
object_piece (Some (string bytes)) = Some bytes
object_piece _ = None

-- what a put of a value writes: nothing for a pair, a vector and a cell
abbrev pub piece : Value → Store → Option (List ℕ)
piece (fixnum n) t = Some (signed_decimal n)
piece (character byte) t = Some (byte ∷ [])
piece (boolean true) t = Some (codes "#t")
piece (boolean false) t = Some (codes "#f")
piece nil t = Some (codes "()")
piece unspecified t = Some (codes "#<unspecified>")
piece (symbol n) t = slice_get t.constants.symbols n
piece (object n) t = object_piece (slice_get t.objects n)
piece (procedure n) t = Some (codes "#<procedure>")
piece (cell n) t = None

-- the store after a put, or stop 74 where not all of the piece was taken
abbrev pub wrote : puts.Put → Action Value
wrote p t = require p.whole OutputFailed (gives unspecified) (record t { output = t.output ++ p.taken; answers = p.left })

abbrev pub put_piece : Option (List ℕ) → Action Value
put_piece (Some bytes) t = wrote (puts.put bytes t.answers) t
put_piece None t = stops WrongType t

-- ## The rows

abbrev pub primitive : Primitive → List Value → Action Value
primitive Eq vs = binary vs (λ a b. gives (boolean (same_value a b)))
primitive Eqv vs = binary vs (λ a b. gives (boolean (same_value a b)))
primitive IsBoolean vs = unary vs (λ a. gives (boolean (is_boolean a)))
primitive IsPair vs = unary vs (object_test is_pair)
primitive IsNull vs = unary vs (λ a. gives (boolean (is_null a)))
primitive IsSymbol vs = unary vs (λ a. gives (boolean (is_symbol a)))
primitive IsInteger vs = unary vs (λ a. gives (boolean (is_integer a)))
primitive IsChar vs = unary vs (λ a. gives (boolean (is_character a)))
primitive IsString vs = unary vs (object_test is_string)
primitive IsVector vs = unary vs (object_test is_vector)
primitive IsProcedure vs = unary vs (λ a. gives (boolean (is_procedure a)))
primitive Cons vs = binary vs (λ a d. charged_object pair_bytes (pair a d))
primitive Car vs = unary vs (λ p. as_pair p (λ a d. gives a))
primitive Cdr vs = unary vs (λ p. as_pair p (λ a d. gives d))
primitive SetCar vs = binary vs (λ p v. as_pair p (λ a d. write_object p (pair v d)))
primitive SetCdr vs = binary vs (λ p v. as_pair p (λ a d. write_object p (pair a v)))
primitive Add vs = binary vs (arithmetic (λ x y. x +ℤ y))
primitive Subtract vs = binary vs (arithmetic (λ x y. x -ℤ y))
primitive Multiply vs = binary vs (arithmetic (λ x y. x *ℤ y))
primitive Quotient vs = binary vs (division int_div)
primitive Remainder vs = binary vs (division int_rem)
primitive Modulo vs = binary vs (division int_modulo)
primitive Equal vs = binary vs (comparison (λ x y. int_le x y && int_le y x))
primitive Less vs = binary vs (comparison int_lt)
primitive Greater vs = binary vs (comparison (λ x y. int_lt y x))
primitive LessEqual vs = binary vs (comparison int_le)
primitive GreaterEqual vs = binary vs (comparison (λ x y. int_le y x))
primitive CharToInteger vs = unary vs (λ c. as_character c (λ byte. gives (fixnum (pos byte))))
primitive IntegerToChar vs = unary vs (λ n. as_fixnum n (λ x. in_range x 256 (λ byte. gives (character byte))))
primitive MakeString vs = binary vs (λ n c. as_fixnum n (λ x. as_character c (λ byte. as_length x
    (λ k. after (charge (string_bytes k)) (λ _. new_object (string (replicate k byte)))))))
primitive StringLength vs = unary vs (λ s. as_string s (λ bytes. gives (fixnum (pos (length bytes)))))
primitive StringRef vs = binary vs (λ s n. as_string s (λ bytes. as_fixnum n (λ x. in_range x (length bytes)
    (λ k. gives (character (slice_index bytes k))))))
primitive StringSet vs = ternary vs (λ s n c. as_string s (λ bytes. as_fixnum n (λ x. as_character c (λ byte. in_range x (length bytes)
    (λ k. write_object s (string (slice_set bytes k byte)))))))
primitive MakeVector vs = binary vs (λ n v. as_fixnum n (λ x. as_length x
    (λ k. after (charge (vector_bytes k)) (λ _. new_object (vector (replicate k v))))))
primitive VectorLength vs = unary vs (λ v. as_vector v (λ elements. gives (fixnum (pos (length elements)))))
primitive VectorRef vs = binary vs (λ v n. as_vector v (λ elements. as_fixnum n (λ x. in_range x (length elements)
    (λ k. element (slice_get elements k)))))
primitive VectorSet vs = ternary vs (λ v n w. as_vector v (λ elements. as_fixnum n (λ x. in_range x (length elements)
    (λ k. write_object v (vector (slice_set elements k w))))))
primitive Put vs = unary vs (λ v t. put_piece (piece v t) t)
primitive SymbolLength vs = unary vs (λ s. as_symbol s (λ name. gives (fixnum (pos (length name)))))
primitive SymbolRef vs = binary vs (λ s n. as_symbol s (λ name. as_fixnum n (λ x. in_range x (length name)
    (λ k. gives (character (slice_index name k))))))
