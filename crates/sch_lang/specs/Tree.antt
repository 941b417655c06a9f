-- The core language's trees as plain data.
use Rattle.std.specs.Prelude.{ℕ, suc, Bool, List, [], ◌∷◌}
use Rattle.sch_word.specs.declared.constant.Const.{Const}
use Rattle.sch_word.specs.declared.primitive.Primitive.{Primitive}
use Rattle.sch_word.specs.runs.Runs.{Statics}

mutual
  pub data Expression : Type 0 where
    constant : Const → Expression
    literal : ℕ → Expression
    local : ℕ → Expression
    global : ℕ → Expression
    set_local : ℕ → Expression → Expression
    set_global : ℕ → Expression → Expression
    define : ℕ → Expression → Expression
    branch : Expression → Expression → Expression → Expression
    sequence : Expressions → Expression
    bind : (site : ℕ) → Expressions → Expression → Expression
    fix : Lambdas → Expression → Expression
    letrec : (site : ℕ) → Expressions → Expression → Expression
    lambda : (name : List ℕ) → (formals : ℕ) → (rest : Bool) → Expression → Expression
    call : (site : ℕ) → Expression → Expressions → Expression
    operation : (site : ℕ) → Primitive → Expressions → Expression

  pub data Expressions : Type 0 where
    no_expressions : Expressions
    and_expression : Expression → Expressions → Expressions

  pub data Lambdas : Type 0 where
    no_lambdas : Lambdas
    and_lambda : (name : List ℕ) → (formals : ℕ) → (rest : Bool) → Expression → Lambdas → Lambdas

abbrev pub count : Expressions → ℕ
count no_expressions = 0
count (and_expression e es) = suc (count es)

abbrev pub count_lambdas : Lambdas → ℕ
count_lambdas no_lambdas = 0
count_lambdas (and_lambda name formals rest e ls) = suc (count_lambdas ls)

-- a list of trees, as a tree has it
abbrev pub expressions : List Expression → Expressions
expressions [] = no_expressions
expressions (e ∷ es) = and_expression e (expressions es)

-- a lambda as plain data
pub record Function : Type 0 where
  pub name : List ℕ
  pub formals : ℕ
  pub rest : Bool
  pub body : Expression

-- a list of lambdas, as a tree has it
abbrev pub lambdas : List Function → Lambdas
lambdas [] = no_lambdas
lambdas (l ∷ ls) = and_lambda l.name l.formals l.rest l.body (lambdas ls)

-- A program: what stands ready when it starts, the library's procedures, its top-level forms, and
-- for each site how many parts it has, the operator of a call among them.
pub record Source : Type 0 where
  pub statics : Statics
  pub library : Lambdas
  pub forms : Expressions
  pub sites : List ℕ
