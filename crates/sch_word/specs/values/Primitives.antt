-- The names of the primitives and how many operands each takes.
use Rattle.std.specs.Prelude.{ℕ, List, codes}
use Rattle.sch_word.specs.declared.primitive.Primitive.{Primitive}
use Rattle.sch_word.specs.declared.primitive.Primitive.TheVariants.{Eq, Eqv, IsBoolean, IsPair, IsNull, IsSymbol, IsInteger, IsChar, IsString, IsVector, IsProcedure, Cons, Car, Cdr, SetCar, SetCdr, Add, Subtract, Multiply, Quotient, Remainder, Modulo, Equal, Less, Greater, LessEqual, GreaterEqual, CharToInteger, IntegerToChar, MakeString, StringLength, StringRef, StringSet, MakeVector, VectorLength, VectorRef, VectorSet, Put, SymbolLength, SymbolRef}

abbrev pub name_of : Primitive → List ℕ
name_of Eq = codes "eq?"
name_of Eqv = codes "eqv?"
name_of IsBoolean = codes "boolean?"
name_of IsPair = codes "pair?"
name_of IsNull = codes "null?"
name_of IsSymbol = codes "symbol?"
name_of IsInteger = codes "integer?"
name_of IsChar = codes "char?"
name_of IsString = codes "string?"
name_of IsVector = codes "vector?"
name_of IsProcedure = codes "procedure?"
name_of Cons = codes "cons"
name_of Car = codes "car"
name_of Cdr = codes "cdr"
name_of SetCar = codes "set-car!"
name_of SetCdr = codes "set-cdr!"
name_of Add = codes "+"
name_of Subtract = codes "-"
name_of Multiply = codes "*"
name_of Quotient = codes "quotient"
name_of Remainder = codes "remainder"
name_of Modulo = codes "modulo"
name_of Equal = codes "="
name_of Less = codes "<"
name_of Greater = codes ">"
name_of LessEqual = codes "<="
name_of GreaterEqual = codes ">="
name_of CharToInteger = codes "char->integer"
name_of IntegerToChar = codes "integer->char"
name_of MakeString = codes "make-string"
name_of StringLength = codes "string-length"
name_of StringRef = codes "string-ref"
name_of StringSet = codes "string-set!"
name_of MakeVector = codes "make-vector"
name_of VectorLength = codes "vector-length"
name_of VectorRef = codes "vector-ref"
name_of VectorSet = codes "vector-set!"
name_of Put = codes "%put"
name_of SymbolLength = codes "%symbol-length"
name_of SymbolRef = codes "%symbol-ref"

abbrev pub operands_of : Primitive → ℕ
operands_of Eq = 2
operands_of Eqv = 2
operands_of IsBoolean = 1
operands_of IsPair = 1
operands_of IsNull = 1
operands_of IsSymbol = 1
operands_of IsInteger = 1
operands_of IsChar = 1
operands_of IsString = 1
operands_of IsVector = 1
operands_of IsProcedure = 1
operands_of Cons = 2
operands_of Car = 1
operands_of Cdr = 1
operands_of SetCar = 2
operands_of SetCdr = 2
operands_of Add = 2
operands_of Subtract = 2
operands_of Multiply = 2
operands_of Quotient = 2
operands_of Remainder = 2
operands_of Modulo = 2
operands_of Equal = 2
operands_of Less = 2
operands_of Greater = 2
operands_of LessEqual = 2
operands_of GreaterEqual = 2
operands_of CharToInteger = 1
operands_of IntegerToChar = 1
operands_of MakeString = 2
operands_of StringLength = 1
operands_of StringRef = 2
operands_of StringSet = 3
operands_of MakeVector = 2
operands_of VectorLength = 1
operands_of VectorRef = 2
operands_of VectorSet = 3
operands_of Put = 1
operands_of SymbolLength = 1
operands_of SymbolRef = 2
