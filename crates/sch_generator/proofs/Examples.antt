-- Worked values of what is drawn and written.
use Rattle.std.proofs.Common.{◌≡◌, ℕ, List, [], ◌∷◌, ◌++◌, zero, suc, refl}
use Rattle.std.specs.Prelude.{codes}
use Rattle.std.specs.Fmt.{digits}
use Rattle.sch_generator.specs.declared.drawn_body.Body.TheVariants.{Comparison, Binding, TwoCalls, TailCall}
use Rattle.sch_generator.specs.Draws.{draw, next_state}
use Rattle.sch_generator.specs.DrawnBody.{body_in_case, drawn_body, body_text}
use Rattle.sch_generator.specs.GeneratedText.{lines_below, definition_text, definition_line, definition_state, call_text, call_line, call_state, program_text}

-- ## Draws

states_from_zero : (next_state 0 ≡ 12345) × (next_state 12345 ≡ 1406932606)
states_from_zero = (refl, refl)

-- the first n numbers that are drawn below k at the state x
drawn_from : ℕ → ℕ → ℕ → List ℕ
drawn_from zero k x = []
drawn_from (suc n) k x = (draw x k).answer ∷ drawn_from n k (draw x k).state

-- what ISO C's `rand` answers after `srand(1)`, where RAND_MAX is 32767
numbers_of_rand : drawn_from 5 32768 1 ≡ 16838 ∷ 5758 ∷ 10113 ∷ 17515 ∷ 31051 ∷ []
unfolding drawn_from draw
numbers_of_rand = refl

-- ## Bodies

-- of procedure 7 at the state 99, in each case
bodies_by_case :
    (body_in_case 0 7 99 ≡ record { body = Comparison; state = 99 })
    × (body_in_case 1 7 99 ≡ record { body = Binding 592; state = 1873839200 })
    × (body_in_case 2 7 99 ≡ record { body = TwoCalls 4; state = 1873839200 })
    × (body_in_case 3 7 99 ≡ record { body = TailCall 4 333; state = 415091993 })
unfolding body_in_case draw
bodies_by_case = (refl, refl, refl, refl)

-- the first procedures of the numbers 0 and 1, and procedure 5 at the state 1, which has calls
first_bodies :
    (drawn_body 0 0 ≡ record { body = Comparison; state = 12345 })
    × (drawn_body 1 12345 ≡ record { body = Comparison; state = 1406932606 })
    × (drawn_body 0 1 ≡ record { body = Comparison; state = 1103527590 })
    × (drawn_body 5 1 ≡ record { body = TwoCalls 3; state = 377401575 })
unfolding drawn_body body_in_case draw
first_bodies = (refl, refl, refl, refl)

-- ## Lines

-- the first six of the number 0, with a body of each case among them
first_definitions :
    lines_below (definition_line 0) 6
    ≡ codes "(define (f0 a b) (if (< a b) (remainder (+ a (* 3 b)) 1000) (remainder (+ (* 5 a) b) 1000)))\n"
    ++ codes "(define (f1 a b) (if (< a b) (remainder (+ a (* 3 b)) 1000) (remainder (+ (* 5 a) b) 1000)))\n"
    ++ codes "(define (f2 a b) (if (< a b) (remainder (+ a (* 3 b)) 1000) (remainder (+ (* 5 a) b) 1000)))\n"
    ++ codes "(define (f3 a b) (let ((t (remainder (+ a 498) 1000))) (remainder (+ t b) 1000)))\n"
    ++ codes "(define (f4 a b) (f1 b (remainder (+ a 741) 1000)))\n"
    ++ codes "(define (f5 a b) (remainder (+ (f0 a b) (f0 b a)) 1000))\n"
unfolding lines_below definition_line definition_state definition_text drawn_body body_in_case body_text draw digits
first_definitions = refl

-- the calls go on from the state that the definitions leave
text_of_two_procedures :
    program_text 2 2147483647
    ≡ codes "(define (f0 a b) (let ((t (remainder (+ a 409) 1000))) (remainder (+ t b) 1000)))\n"
    ++ codes "(define (f1 a b) (remainder (+ (f0 a b) (f0 b a)) 1000))\n"
    ++ codes "(display (f0 713 226))(newline)\n"
    ++ codes "(display (f1 80 63))(newline)\n"
unfolding program_text lines_below definition_line definition_state definition_text drawn_body body_in_case body_text call_line call_state call_text draw digits
text_of_two_procedures = refl
