-- What is charged to the heap, and the objects that are made for a charge (the project's own).
use Rattle.std.specs.Prelude.{ℕ, zero, suc, ◌+◌, ◌*◌, ◌/◌, Bool, true, false, List, [], ◌∷◌, ◌++◌, length, nat_eq, nat_le, take, drop}
use Rattle.sch_word.specs.declared.stop.Stop.TheVariants.{WrongCount, HeapLimit}
use Rattle.sch_word.specs.values.Values.{Value, nil, unspecified, object, Object, pair}
use Rattle.sch_word.specs.runs.Computation.{Action, gives, stops, on_value, after, require}

-- bytes, rounded up to a multiple of 16
abbrev pub rounded : ℕ → ℕ
rounded bytes = 16 * ((bytes + 15) / 16)

abbrev pub pair_bytes : ℕ
pair_bytes = 16

-- the cell of a variable that is assigned anywhere or belongs to a Rec, at each binding
abbrev pub cell_bytes : ℕ
cell_bytes = 16

abbrev pub vector_bytes : ℕ → ℕ
vector_bytes elements = rounded (8 + 8 * elements)

abbrev pub string_bytes : ℕ → ℕ
string_bytes characters = rounded (8 + characters)

-- a procedure, by the number of its distinct free local variables
abbrev pub procedure_bytes : ℕ → ℕ
procedure_bytes free = rounded (8 + 8 * free)

-- charges bytes, or stop 71 where they would pass the limit
abbrev pub charge : ℕ → Action Value
charge bytes t = require (nat_le (t.charged + bytes) t.constants.heap) HeapLimit (λ u. gives unspecified (record u { charged = u.charged + bytes })) t

-- several charges, in their order
abbrev pub charge_each : List ℕ → Action Value
charge_each [] t = gives unspecified t
charge_each (bytes ∷ more) t = on_value (charge bytes t) (λ _. charge_each more)

-- a new object, for its number; nothing is charged for it here
abbrev pub new_object : Object → Action Value
new_object o t = gives (object (length t.objects)) (record t { objects = t.objects ++ o ∷ [] })

-- a new object for its charge
abbrev pub charged_object : ℕ → Object → Action Value
charged_object bytes o = after (charge bytes) (λ _. new_object o)

-- ## Lists

-- the pairs of a list whose first has the number n and whose end is `last`
abbrev pub linked : ℕ → List Value → Value → List Object
linked n [] last = []
linked n (v ∷ []) last = pair v last ∷ []
linked n (v ∷ (w ∷ vs)) last = pair v (object (suc n)) ∷ linked (suc n) (w ∷ vs) last

-- what such a list is as a value
abbrev pub list_value : ℕ → List Value → Value → Value
list_value n [] last = last
list_value n (v ∷ vs) last = object n

-- a new list of these values, charged as a whole
abbrev pub new_list : List Value → Action Value
new_list vs = after (charge (pair_bytes * length vs)) (λ _ t. gives (list_value (length t.objects) vs nil) (record t { objects = t.objects ++ linked (length t.objects) vs nil }))

-- ## Operands and formals (R5RS 4.1.4)

-- The values of a procedure's formals, from the operands' values: stop 68 where the count is wrong.
-- With a rest variable, which counts as the last formal, it is a new list of the operands that are
-- left over, which may be stop 71.
abbrev pub fit : (formals : ℕ) → (rest : Bool) → List Value → Action (List Value)
fit formals false vs = require (nat_eq (length vs) formals) WrongCount (gives vs)
fit zero true vs = stops WrongCount
fit (suc required) true vs =
    require (nat_le required (length vs)) WrongCount
    (after (new_list (drop required vs)) (λ list. gives (take required vs ++ list ∷ [])))
