-- How long a text is at most, line by line.
use Rattle.std.proofs.Common.{◌≤◌, ◌<◌, ℕ, List, ◌*◌, ◌^◌, ◌/◌, ◌%◌, zero, suc, length, Bool, true, false, if◌then◌else◌, ◌==◌, arith, lit≤, length-append}
use Rattle.std.specs.Fmt.{decimal}
use Rattle.std.proofs.Math.Nat.{mod-le}
use Rattle.std.proofs.lemmas.Fmt.{length-decimal-le}
use Rattle.sch_generator.specs.declared.drawn_body.Body.{Body}
use Rattle.sch_generator.specs.declared.drawn_body.Body.TheVariants.{Comparison, Binding, TwoCalls, TailCall}
use Rattle.sch_generator.specs.Draws.{draw, divisor, next_state}
use Rattle.sch_generator.specs.DrawnBody.{operand_bound, DrawnBody, body_in_case, drawn_body, body_text}
use Rattle.sch_generator.specs.GeneratedText.{procedure_count, lines_below, definition_text, definition_line, definition_state, call_text, call_line, call_state, program_text, generated_text}

-- a number of at most five digits
record IsShort (n : ℕ) : Type 0 where
  digits : length (decimal n) ≤ 5

short_number : (n : ℕ) → n < 10 ^ 5 → IsShort n
short_number n small = record { digits = length-decimal-le 5 n (omega arith) small (omega arith) }

-- what is drawn is below 2 ^ 15, since the state is below 2 ^ 31
short_draw : (x k : ℕ) → IsShort (draw x k).answer
unfolding draw
short_draw x k = short_number (next_state x / divisor % k) (omega (arith, mod-le (next_state x / divisor) k))

-- ## Bodies

length_comparison : length (body_text Comparison) ≤ 80
unfolding body_text
length_comparison = lit≤ tt

length_binding : (k : ℕ) → IsShort k → length (body_text (Binding k)) ≤ 80
unfolding body_text
length_binding k short = simp length-append (omega (arith, short.digits))

length_two_calls : (j : ℕ) → IsShort j → length (body_text (TwoCalls j)) ≤ 80
unfolding body_text
length_two_calls j short = simp length-append (omega (arith, short.digits))

length_tail_call : (j k : ℕ) → IsShort j → IsShort k → length (body_text (TailCall j k)) ≤ 80
unfolding body_text
length_tail_call j k callee addend = simp length-append (omega (arith, callee.digits, addend.digits))

-- what holds of both branches holds of a choice
either : (P : DrawnBody → Type 0) (b : Bool) (d e : DrawnBody) → P d → P e → P (if b then d else e)
either P b d e p q = elim b as (λ v. P (if v then d else e)) [ true ↦ p | false ↦ q ]

abbrev IsShortBody : DrawnBody → Type 0
IsShortBody d = length (body_text d.body) ≤ 80

length_body_in_case : (c i x : ℕ) → length (body_text (body_in_case c i x).body) ≤ 80
unfolding body_in_case
length_body_in_case c i x =
    either IsShortBody (c == 0) _ _ length_comparison
    (either IsShortBody (c == 1) _ _ (length_binding _ (short_draw x operand_bound))
    (either IsShortBody (c == 2) _ _ (length_two_calls _ (short_draw x i))
    (length_tail_call _ _ (short_draw x i) (short_draw (draw x i).state operand_bound))))

length_drawn_body : (i x : ℕ) → length (body_text (drawn_body i x).body) ≤ 80
unfolding drawn_body
length_drawn_body i x = let c = draw x (if i == 0 then 2 else 4) in length_body_in_case c.answer i c.state

-- ## Lines

length_definition : (i : ℕ) (body : Body) → IsShort i → length (body_text body) ≤ 80 → length (definition_text i body) ≤ 110
unfolding definition_text
length_definition i body short small = simp length-append (omega (arith, short.digits))

length_call : (i p q : ℕ) → IsShort i → IsShort p → IsShort q → length (call_text i p q) ≤ 110
unfolding call_text
length_call i p q a b c = simp length-append (omega (arith, a.digits, b.digits, c.digits))

length_lines : (line : ℕ → List ℕ) (n : ℕ) → ((i : ℕ) → i < n → length (line i) ≤ 110) → length (lines_below line n) ≤ n * 110
unfolding lines_below
length_lines line zero h = omega arith
length_lines line (suc n) h = omega (arith, length-append (lines_below line n) (line n), length_lines line n (λ i below. h i (omega arith)), h n (omega arith))

length_definition_line : (x i : ℕ) → i < procedure_count → length (definition_line x i) ≤ 110
unfolding definition_line
length_definition_line x i below =
    length_definition i (drawn_body i (definition_state x i)).body (short_number i (omega arith)) (length_drawn_body i (definition_state x i))

length_call_line : (x i : ℕ) → i < procedure_count → length (call_line x i) ≤ 110
unfolding call_line
length_call_line x i below =
    let p = draw (call_state x i) operand_bound in
    length_call i _ _ (short_number i (omega arith)) (short_draw (call_state x i) operand_bound) (short_draw p.state operand_bound)

-- a text is no longer than a source may be: it has 2,000 lines of at most 110 bytes
pub length-generated_text : (number : ℕ) → length (generated_text number) ≤ 2 ^ 20
unfolding program_text
length-generated_text number =
    let calls = definition_state number procedure_count in
    omega (
      arith,
      length-append (lines_below (definition_line number) procedure_count) (lines_below (call_line calls) procedure_count),
      length_lines (definition_line number) procedure_count (length_definition_line number),
      length_lines (call_line calls) procedure_count (length_call_line calls),
    )
