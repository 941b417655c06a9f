-- The procedures of a run of a cell program, and what they are charged.
use Rattle.std.specs.Prelude.{ℕ, Bool, List, [], ◌∷◌, length}
use Rattle.sch_word.specs.runs.Charges.{procedure_bytes}
use Rattle.sch_word.specs.trees.Bindings.{Bindings, without}
use Rattle.sch_cells.specs.Tree.{Tree, Lambdas, no_lambdas, and_lambda}
use Rattle.sch_cells.specs.Variables.{free}

-- a lambda with its environment, in which a variable has a cell or a value
pub record Closure (A : Type 0) : Type 0 where
  pub first : ℕ
  pub formals : ℕ
  pub rest : Bool
  pub body : Tree
  pub environment : Bindings A

-- the procedures of a group of lambdas in an environment
abbrev pub closures : {A : Type 0} → Lambdas → Bindings A → List (Closure A)
closures no_lambdas environment = []
closures (and_lambda name first formals rest e ls) environment = record { first = first; formals = formals; rest = rest; body = e; environment = environment } ∷ closures ls environment

-- what a procedure of this body is charged, with its formals from a variable on
abbrev pub lambda_bytes : (first formals : ℕ) → Tree → ℕ
lambda_bytes first formals e = procedure_bytes (length (without first formals (free e)))

-- what the procedures of a group are charged, in the order of the text
abbrev pub lambdas_bytes : Lambdas → List ℕ
lambdas_bytes no_lambdas = []
lambdas_bytes (and_lambda name first formals rest e ls) = lambda_bytes first formals e ∷ lambdas_bytes ls
