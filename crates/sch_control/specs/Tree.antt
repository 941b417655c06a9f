-- The language Control as plain data. After the language of flat closures: operands are simple, what is
-- not is bound, and a body says where its procedure returns.
use Rattle.std.specs.Prelude.{ℕ, List, Option}
use Rattle.sch_word.specs.runs.Runs.{Statics}
use Rattle.sch_control.specs.declared.body.Entry.{Entry}
use Rattle.sch_control.specs.declared.operation.Operation.{Operation}
use Rattle.sch_control.specs.declared.operation.Application.{Application}
use Rattle.sch_control.specs.declared.operation.Member.{Member}

-- An expression of a body. A call has the variables that are restored directly after it from where they
-- are saved, and a region the variables that are saved at its head and, where they are bound inside, as
-- they are bound. A body of the language Control has neither; later readings of the same tree have them.
pub data Expression : Type 0 where
  perform : Operation ℕ → Expression
  bind : (x : ℕ) → (value body : Expression) → Expression
  sequence : (first rest : Expression) → Expression
  branch : (test consequent alternative : Expression) → Expression
  fix : List (Member ℕ) → Expression → Expression
  call : Application ℕ → (restores : List ℕ) → Expression
  tail_call : Application ℕ → Expression
  return : Expression → Expression
  end : Expression → Expression
  save : (saves : List ℕ) → Expression → Expression

-- A body: of a procedure, or of a top-level form, which is not entered. Each of its variables is below the
-- number of variables.
pub record Code : Type 0 where
  pub name : List ℕ
  pub entry : Option Entry
  pub variables : ℕ
  pub expression : Expression

-- A program: what stands ready when it starts; the bodies of the library's procedures, in the order of
-- their numbers; all bodies, by label, the top-level forms in their order; for each site how many parts
-- it has, the operator of a call among them; and for each site the numbers of the parts that are bound,
-- in the order in which they are.
pub record Source : Type 0 where
  pub statics : Statics
  pub library : List ℕ
  pub bodies : List Code
  pub sites : List ℕ
  pub bound : List (List ℕ)
