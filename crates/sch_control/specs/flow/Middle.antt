-- The trees of bodies between control and frames: with what is live after each call, with the regions that save, and with
-- what each call restores.
use Rattle.std.specs.Prelude.{ℕ, Bool, List, [], Option, false}
use Rattle.std.specs.FinSet as set
use Rattle.sch_sets.specs.Members.{NumberSet}
use Rattle.sch_control.specs.declared.body.Entry.{Entry}
use Rattle.sch_control.specs.declared.tree.Exp.{Exp}
use Rattle.sch_control.specs.Meaning.{Reading}
use Rattle.sch_control.specs.Tree.{Expression, Code}
use Rattle.sch_control.specs.View.{expression_with}

-- with what is live after each call
abbrev pub listed : Exp NumberSet → Expression
listed = expression_with set.items

-- a body as plain data, from its parts
abbrev pub code_with : List ℕ → Option Entry → ℕ → Expression → Code
code_with name entry variables e = record { name = name; entry = entry; variables = variables; expression = e }

-- How a body with regions and restores is read: a call leaves in a variable what it keeps and what it restores, and no
-- other value.
abbrev pub silent : (keeps : ℕ → Bool) → Reading
silent keeps = record { keeps = keeps; spills = λ x. false; is_marked = λ x. false; moves = λ site. [] }

abbrev pub restoring : Reading
restoring = silent (λ x. false)
