-- What a heap has in its parts: the contents of cells, the records of procedures, and objects.
use Rattle.std.specs.Prelude.{◌≡◌, ℕ, suc, ◌+◌, ◌-◌, ◌*◌, ◌≤◌, true, List, length, take, drop, Option, Some, None, slice_get}
use Rattle.sch_word.specs.values.Values.{Value, are_bytes, Object, pair, vector, string}
use Rattle.sch_word.specs.values.PrimitiveRows.{is_pair, is_vector, is_string}
use Rattle.sch_word.specs.runs.ProgramLayout.{data_address}
use Rattle.sch_word.specs.runs.Procedures.{Procedure}
use Rattle.sch_asm.specs.Data.{word_in}
use Rattle.sch_select_memory.specs.Parts.{Owner, a_procedure, a_cell, a_pair, a_vector, a_string, Parts, Spot, spot}
use Rattle.sch_select_memory.specs.Encoded.{IsWord, IsHeld}

-- The first word of a cell is that of its contents.
pub record CellAt (parts : Parts) (bytes : List ℕ) (n : ℕ) (contents : Option Value) : Type 0 where
  pub at : Spot
  pub there : spot parts (a_cell n) ≡ Some at
  pub holds : IsHeld parts contents (word_in bytes (16 * at.unit))

-- where a field of a record is, or an element of a vector, from the unit at which it begins
abbrev pub field_address : (unit k : ℕ) → ℕ
field_address unit k = 16 * unit + 8 + 8 * k

-- A record begins with the address of its code, and its fields follow.
pub record RecordAt (code_of : ℕ → ℕ) (parts : Parts) (bytes : List ℕ) (n : ℕ) (p : Procedure) : Type 0 where
  pub at : Spot
  pub there : spot parts (a_procedure n) ≡ Some at
  pub room : 8 + 8 * length p.fields ≤ 16 * suc at.more
  pub code : word_in bytes (16 * at.unit) ≡ code_of p.label
  pub field : (k : ℕ) (v : Value) → slice_get p.fields k ≡ Some v → IsWord parts v (word_in bytes (field_address at.unit k))

-- ## Objects (R5RS 6.3)

-- The two words of a pair are those of its parts.
pub record PairAt (parts : Parts) (bytes : List ℕ) (n : ℕ) (a d : Value) : Type 0 where
  pub at : Spot
  pub there : spot parts (a_pair n) ≡ Some at
  pub first : IsWord parts a (word_in bytes (16 * at.unit))
  pub rest : IsWord parts d (word_in bytes (16 * at.unit + 8))

-- A vector begins with the word of its length, and those of its elements follow.
pub record VectorAt (parts : Parts) (bytes : List ℕ) (n : ℕ) (elements : List Value) : Type 0 where
  pub at : Spot
  pub there : spot parts (a_vector n) ≡ Some at
  pub room : 8 + 8 * length elements ≤ 16 * suc at.more
  pub size : word_in bytes (16 * at.unit) ≡ 8 * length elements
  pub element : (k : ℕ) (v : Value) → slice_get elements k ≡ Some v → IsWord parts v (word_in bytes (field_address at.unit k))

-- where the bytes of a string are, from the unit at which it begins
abbrev pub text_address : (unit : ℕ) → ℕ
text_address unit = 16 * unit + 8

-- A string begins with the word of its length, and its bytes follow.
pub record StringAt (parts : Parts) (bytes : List ℕ) (n : ℕ) (text : List ℕ) : Type 0 where
  pub at : Spot
  pub there : spot parts (a_string n) ≡ Some at
  pub room : 8 + length text ≤ 16 * suc at.more
  pub size : word_in bytes (16 * at.unit) ≡ 8 * length text
  pub text_is : take (length text) (drop (text_address at.unit - data_address) bytes) ≡ text
  pub are_bytes : are_bytes text ≡ true

abbrev pub ObjectAt : Parts → List ℕ → ℕ → Object → Type 0
ObjectAt parts bytes n (pair a d) = PairAt parts bytes n a d
ObjectAt parts bytes n (vector elements) = VectorAt parts bytes n elements
ObjectAt parts bytes n (string text) = StringAt parts bytes n text

-- whose part an object's is
abbrev pub owner_of : ℕ → Object → Owner
owner_of n (pair a d) = a_pair n
owner_of n (vector elements) = a_vector n
owner_of n (string text) = a_string n

-- A part of an object is that of an object of its kind.
pub record AreKinds (parts : Parts) (objects : List Object) : Type 0 where
  pub pairs : (n : ℕ) (at : Spot) → spot parts (a_pair n) ≡ Some at → is_pair (slice_get objects n) ≡ true
  pub vectors : (n : ℕ) (at : Spot) → spot parts (a_vector n) ≡ Some at → is_vector (slice_get objects n) ≡ true
  pub strings : (n : ℕ) (at : Spot) → spot parts (a_string n) ≡ Some at → is_string (slice_get objects n) ≡ true

-- Every cell, every procedure and every object has its part; `code_of` is where the code of a label is.
pub record HeapAt (code_of : ℕ → ℕ) (parts : Parts) (cells : List (Option Value)) (procedures : List Procedure)
    (objects : List Object) (bytes : List ℕ) : Type 0 where
  pub cell : (n : ℕ) (contents : Option Value) → slice_get cells n ≡ Some contents → CellAt parts bytes n contents
  pub procedure : (n : ℕ) (p : Procedure) → slice_get procedures n ≡ Some p → RecordAt code_of parts bytes n p
  pub object : (n : ℕ) (o : Object) → slice_get objects n ≡ Some o → ObjectAt parts bytes n o
  pub kinds : AreKinds parts objects

-- No part is that of a cell or a procedure which is not yet there.
pub record AreNew (parts : Parts) (cells procedures : ℕ) : Type 0 where
  pub cell : (n : ℕ) → cells ≤ n → spot parts (a_cell n) ≡ None
  pub procedure : (n : ℕ) → procedures ≤ n → spot parts (a_procedure n) ≡ None
