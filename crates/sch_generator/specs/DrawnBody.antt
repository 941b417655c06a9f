-- The body of a procedure, which is drawn in one of four cases. It is an expression of `a` and `b`.
use Rattle.std.specs.Prelude.{ℕ, List, [], ◌∷◌, ◌==◌, codes, if◌then◌else◌}
use Rattle.std.specs.List.{concat}
use Rattle.std.specs.Fmt.{decimal}
use Rattle.sch_generator.specs.Draws.{draw}
use Rattle.sch_generator.specs.declared.drawn_body.Body.{Body}
use Rattle.sch_generator.specs.declared.drawn_body.Body.TheVariants.{Comparison, Binding, TwoCalls, TailCall}

-- a number that is drawn for an operand is below it
abbrev pub operand_bound : ℕ
operand_bound = 1000

-- what is drawn for a procedure, and the state after it
pub record DrawnBody : Type 0 where
  pub body : Body
  pub state : ℕ

-- the body of procedure i in case c at the state x: first its callee is drawn, an earlier procedure, and then its addend,
-- where it has them
unfoldable pub body_in_case : ℕ → ℕ → ℕ → DrawnBody
body_in_case c i x =
    if c == 0 then record { body = Comparison; state = x }
    else (if c == 1 then (let addend = draw x operand_bound in record { body = Binding addend.answer; state = addend.state })
    else (if c == 2 then (let callee = draw x i in record { body = TwoCalls callee.answer; state = callee.state })
    else (let callee = draw x i in let addend = draw callee.state operand_bound in
    record { body = TailCall callee.answer addend.answer; state = addend.state })))

-- the body of procedure i at the state x: first its case is drawn, of the first procedure one of the two without a callee
unfoldable pub drawn_body : ℕ → ℕ → DrawnBody
drawn_body i x = let c = draw x (if i == 0 then 2 else 4) in body_in_case c.answer i c.state

-- the expression of a body
unfoldable pub body_text : Body → List ℕ
body_text Comparison = codes "(if (< a b) (remainder (+ a (* 3 b)) 1000) (remainder (+ (* 5 a) b) 1000))"
body_text (Binding addend) = concat (codes "(let ((t (remainder (+ a " ∷ decimal addend ∷ codes ") 1000))) (remainder (+ t b) 1000))" ∷ [])
body_text (TwoCalls callee) =
    concat (codes "(remainder (+ (f" ∷ decimal callee ∷ codes " a b) (f" ∷ decimal callee ∷ codes " b a)) 1000)" ∷ [])
body_text (TailCall callee addend) =
    concat (codes "(f" ∷ decimal callee ∷ codes " b (remainder (+ a " ∷ decimal addend ∷ codes ") 1000))" ∷ [])
