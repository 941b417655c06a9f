-- Worked rows of the table of forms (R5RS 4 and 5.2): what a datum stands for where it stands.
use Rattle.std.proofs.Common.{◌≡◌, ℕ, pos, List, true, false, [], ◌∷◌, Some, None, codes, refl}
use Rattle.sch_word.specs.declared.constant.Const.TheVariants.{Fixnum}
use Rattle.sch_word.specs.declared.primitive.Primitive.TheVariants.{Car, Put, Subtract}
use Rattle.sch_read.specs.Grammar.{Datum, Data, atom, list, dotted, none, cons, text as string, symbol}
use Rattle.sch_names.specs.declared.keyword.Keyword.TheVariants.{If, Else, Define}
use Rattle.sch_names.specs.Operations.{operation_of}
use Rattle.sch_names.specs.Scope.{Globals}
use Rattle.sch_names.specs.Words.{keyword_of}
use Rattle.sch_sketch.specs.declared.fault.Fault.TheVariants.{BadForm, Unbound}
use Rattle.sch_sketch.specs.declared.sketch.Position.TheVariants.{Value}
use Rattle.sch_sketch.specs.declared.sketch.Row.TheVariants.{Form}
use Rattle.sch_sketch.specs.Draft.{constant, literal, local, global}
use Rattle.sch_sketch.specs.Sketch.{text, rest, wrong, leaf, node, operating, calling}
use Rattle.sch_sketch.specs.Small.{one, two}
use Rattle.sch_sketch.proofs.WorkedData.{number, named}
use Rattle.sch_expansion.specs.Outline.{row_form, outline_datum}

car : List ℕ
car = codes "car"

-- the globals of a text that defines and assigns nothing, of one that assigns `car` somewhere, and of a
-- library
plain : Globals
plain = record { bound = car ∷ []; own = []; internal = false }

assigned : Globals
assigned = record { bound = car ∷ []; own = car ∷ []; internal = false }

library : Globals
library = record { bound = []; own = []; internal = true }

applied : ℕ → List ℕ → Data → Datum
applied at x xs = list at (cons (atom 2 (symbol x)) xs)

-- `(car 5)` is an operation, unless the text defines or assigns `car`, or a variable of that name is bound
car_row : outline_datum plain [] (applied 1 car (cons (number 5) none)) ≡ node (operating Car) 1 (one (text (number 5)))
unfolding plain applied car keyword_of operation_of
car_row = refl

own_car_row : outline_datum assigned [] (applied 1 car (cons (number 5) none)) ≡ node (calling []) 1 (two (text (atom 2 (symbol car))) (text (number 5)))
unfolding assigned applied car keyword_of
own_car_row = refl

local_car_row : outline_datum plain (Some car ∷ []) (applied 1 car (cons (number 5) none)) ≡ node (calling []) 1 (two (text (atom 2 (symbol car))) (text (number 5)))
unfolding plain applied car
local_car_row = refl

-- with another number of operands it is a call
car_of_none_row : outline_datum plain [] (applied 1 car none) ≡ node (calling []) 1 (one (text (atom 2 (symbol car))))
unfolding plain applied car keyword_of operation_of
car_of_none_row = refl

-- `(-)`, and a comparison of one operand, are calls; `(+)` is 0, and `(- 5)` is 0 without 5
minus_row : outline_datum plain [] (applied 1 (codes "-") none) ≡ node (calling []) 1 (one (text (named 2 (codes "-"))))
unfolding plain applied keyword_of operation_of
minus_row = refl

compared_row : outline_datum plain [] (applied 1 (codes "<") (cons (number 5) none)) ≡ node (calling []) 1 (two (text (named 2 (codes "<"))) (text (number 5)))
unfolding plain applied keyword_of operation_of
compared_row = refl

sum_row : outline_datum plain [] (applied 1 (codes "+") none) ≡ leaf 1 (constant (Fixnum (pos 0)))
unfolding plain applied keyword_of operation_of
sum_row = refl

negative_row : outline_datum plain [] (applied 1 (codes "-") (cons (number 5) none)) ≡
    node (operating Subtract) 1 (two (leaf 1 (constant (Fixnum (pos 0)))) (text (number 5)))
unfolding plain applied keyword_of operation_of
negative_row = refl

-- `(display 5)` is a call: the name is that of no operation
display_row : outline_datum plain [] (applied 1 (codes "display") (cons (number 5) none)) ≡ node (calling []) 1 (two (text (named 2 (codes "display"))) (text (number 5)))
unfolding plain applied car keyword_of operation_of
display_row = refl

-- `(%put 5)` is an operation in a library, and a call in another text
put_row : outline_datum library [] (applied 1 (codes "%put") (cons (number 5) none)) ≡ node (operating Put) 1 (one (text (number 5)))
unfolding library applied keyword_of operation_of
put_row = refl

outside_put_row : outline_datum plain [] (applied 1 (codes "%put") (cons (number 5) none)) ≡
    node (calling []) 1 (two (text (atom 2 (symbol (codes "%put")))) (text (number 5)))
unfolding plain applied keyword_of operation_of
outside_put_row = refl

-- a local `if` is called
local_if_row : outline_datum plain (Some (codes "if") ∷ []) (applied 1 (codes "if") (cons (number 5) none)) ≡
    node (calling []) 1 (two (text (atom 2 (symbol (codes "if")))) (text (number 5)))
unfolding plain applied
local_if_row = refl

if_row : outline_datum plain [] (applied 1 (codes "if") (cons (number 5) none)) ≡ rest (Form If) 1 (cons (number 5) none) none
unfolding plain applied keyword_of
if_row = refl

-- names, a number as an operator, a string, the empty list, and a list with a dot
name_row : outline_datum plain (None ∷ Some car ∷ []) (atom 3 (symbol car)) ≡ leaf 3 (local 1)
unfolding plain car
name_row = refl

global_row : outline_datum plain [] (atom 3 (symbol car)) ≡ leaf 3 (global car)
unfolding plain car keyword_of
global_row = refl

unbound_row : outline_datum library [] (atom 3 (symbol car)) ≡ wrong (Unbound 3 car)
unfolding library car keyword_of
unbound_row = refl

keyword_row : outline_datum plain [] (atom 3 (symbol (codes "if"))) ≡ wrong (BadForm 3)
unfolding plain keyword_of
keyword_row = refl

number_called_row : outline_datum plain [] (list 1 (cons (number 5) none)) ≡ node (calling []) 1 (one (text (number 5)))
unfolding plain
number_called_row = refl

string_row : outline_datum plain [] (atom 3 (string (codes "a"))) ≡ leaf 3 (literal (atom 3 (string (codes "a"))))
string_row = refl

empty_row : outline_datum plain [] (list 1 none) ≡ wrong (BadForm 1)
empty_row = refl

dotted_row : outline_datum plain [] (dotted 1 (cons (number 5) none) (number 6)) ≡ wrong (BadForm 1)
dotted_row = refl

-- `else` and `define` are no forms of expressions
else_row : row_form plain Else [] Value 1 none ≡ wrong (BadForm 1)
else_row = refl

define_row : row_form plain Define [] Value 1 none ≡ wrong (BadForm 1)
define_row = refl
