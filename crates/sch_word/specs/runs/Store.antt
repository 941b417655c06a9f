-- The store, the part of a state that all languages share.
use Rattle.std.specs.Prelude.{ℕ, List, Option}
use Rattle.sch_word.specs.declared.answer.Answer.{Answer}
use Rattle.sch_word.specs.values.Values.{Value, Object}

-- what a run never changes: the limit of its heap in bytes, the names of its symbols and the values
-- of its literals
pub record Constants : Type 0 where
  pub heap : ℕ
  pub symbols : List (List ℕ)
  pub literals : List Value

-- The global variables, each with a value or unset; the objects, each known by its place; the bytes
-- charged to the heap; the output; the answers that the kernel has left; and how many procedure
-- entries may still be taken.
pub record Store : Type 0 where
  pub constants : Constants
  pub globals : List (Option Value)
  pub objects : List Object
  pub charged : ℕ
  pub output : List ℕ
  pub answers : List Answer
  pub entries : ℕ
