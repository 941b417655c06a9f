-- The text that is made of a number: a definition of each of 1,000 procedures, and then a call of each, one on a line.
use Rattle.std.specs.Prelude.{ℕ, List, [], ◌∷◌, ◌++◌, codes, zero, suc}
use Rattle.std.specs.List.{concat}
use Rattle.std.specs.Fmt.{decimal}
use Rattle.sch_generator.specs.Draws.{draw}
use Rattle.sch_generator.specs.DrawnBody.{operand_bound, drawn_body, body_text}
use Rattle.sch_generator.specs.declared.drawn_body.Body.{Body}

-- the lines 0 to n - 1, one after the other
unfoldable pub lines_below : (ℕ → List ℕ) → ℕ → List ℕ
lines_below line zero = []
lines_below line (suc n) = lines_below line n ++ line n

-- ## The definitions

-- the definition of procedure i with this body
unfoldable pub definition_text : ℕ → Body → List ℕ
definition_text i body = concat (codes "(define (f" ∷ decimal i ∷ codes " a b) " ∷ body_text body ∷ codes ")\n" ∷ [])

-- the state before procedure i is drawn, where the first is drawn at x
unfoldable pub definition_state : ℕ → ℕ → ℕ
definition_state x zero = x
definition_state x (suc i) = (drawn_body i (definition_state x i)).state

-- the line that defines procedure i
unfoldable pub definition_line : ℕ → ℕ → List ℕ
definition_line x i = definition_text i (drawn_body i (definition_state x i)).body

-- ## The calls

-- the call of procedure i with the operands p and q, whose answer is displayed
unfoldable pub call_text : ℕ → ℕ → ℕ → List ℕ
call_text i p q =
    concat (codes "(display (f" ∷ decimal i ∷ codes " " ∷ decimal p ∷ codes " " ∷ decimal q ∷ codes "))(newline)\n" ∷ [])

-- the state before the operands of procedure i are drawn, where those of the first are drawn at x
unfoldable pub call_state : ℕ → ℕ → ℕ
call_state x zero = x
call_state x (suc i) = (draw (draw (call_state x i) operand_bound).state operand_bound).state

-- the line that calls procedure i
unfoldable pub call_line : ℕ → ℕ → List ℕ
call_line x i =
    let first = draw (call_state x i) operand_bound in let second = draw first.state operand_bound in call_text i first.answer second.answer

-- ## The text

-- the text of a program of n procedures, whose draws begin at x
unfoldable pub program_text : ℕ → ℕ → List ℕ
program_text n x = lines_below (definition_line x) n ++ lines_below (call_line (definition_state x n)) n

-- how many procedures a text has
abbrev pub procedure_count : ℕ
procedure_count = 1000

-- the text that is made of a number
abbrev pub generated_text : ℕ → List ℕ
generated_text number = program_text procedure_count number
