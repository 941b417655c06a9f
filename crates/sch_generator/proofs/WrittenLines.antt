-- Where the first lines were written, one more follows, and all of them are the text.
use Rattle.std.proofs.Common.{◌≡◌, ◌++◌, ℕ, List, [], ◌+◌, sym, refl, ap, ◌∙◌, append_assoc, add-one}
use Rattle.std.proofs.lemmas.List.{append-nil}
use Rattle.sch_generator.specs.declared.drawn_body.Body.{Body}
use Rattle.sch_generator.specs.Draws.{draw}
use Rattle.sch_generator.specs.DrawnBody.{operand_bound, drawn_body}
use Rattle.sch_generator.specs.GeneratedText.{procedure_count, lines_below, definition_text, definition_line, definition_state, call_text, call_line, call_state, program_text, generated_text}

-- before the first line nothing was written
pub no_lines : (out : List ℕ) (line : ℕ → List ℕ) → out ≡ out ++ lines_below line 0
unfolding lines_below
no_lines out line = sym (append-nil out)

one_more_line : (out written : List ℕ) (line : ℕ → List ℕ) (i : ℕ) → written ≡ out ++ lines_below line i →
    written ++ line i ≡ out ++ lines_below line (i + 1)
unfolding lines_below
one_more_line out written line i e = rw add-one (ap (λ w. w ++ line i) e ∙ append_assoc out (lines_below line i) (line i))

-- ## The definitions

pub definition_state_first : (x : ℕ) → x ≡ definition_state x 0
unfolding definition_state
definition_state_first x = refl

-- what is drawn for procedure i leaves the state for the next
pub definition_state_next : (x i s after : ℕ) → s ≡ definition_state x i → after ≡ (drawn_body i s).state → after ≡ definition_state x (i + 1)
unfolding definition_state
definition_state_next x i s after at drawn = rw add-one (drawn ∙ ap (λ y. (drawn_body i y).state) at)

-- the definition of procedure i is the next line
pub definition_line_next : (x i s : ℕ) (out written after : List ℕ) (body : Body) → s ≡ definition_state x i →
    written ≡ out ++ lines_below (definition_line x) i → body ≡ (drawn_body i s).body → after ≡ written ++ definition_text i body →
    after ≡ out ++ lines_below (definition_line x) (i + 1)
unfolding definition_line
definition_line_next x i s out written after body at before drawn wrote =
    let line : definition_text i body ≡ definition_line x i = ap (definition_text i) (drawn ∙ ap (λ y. (drawn_body i y).body) at) in
    wrote ∙ ap (λ l. written ++ l) line ∙ one_more_line out written (definition_line x) i before

-- ## The calls

pub call_state_first : (x : ℕ) → x ≡ call_state x 0
unfolding call_state
call_state_first x = refl

-- the two operands of procedure i leave the state for the next
pub call_state_next : (x i s between after : ℕ) → s ≡ call_state x i → between ≡ (draw s operand_bound).state →
    after ≡ (draw between operand_bound).state → after ≡ call_state x (i + 1)
unfolding call_state
call_state_next x i s between after at first second =
    rw add-one (second ∙ ap (λ y. (draw y operand_bound).state) (first ∙ ap (λ y. (draw y operand_bound).state) at))

-- the call of procedure i with them is the next line
pub call_line_next : (x i s between p q : ℕ) (out written after : List ℕ) → s ≡ call_state x i →
    written ≡ out ++ lines_below (call_line x) i → p ≡ (draw s operand_bound).answer → between ≡ (draw s operand_bound).state →
    q ≡ (draw between operand_bound).answer → after ≡ written ++ call_text i p q →
    after ≡ out ++ lines_below (call_line x) (i + 1)
unfolding call_line
call_line_next x i s between p q out written after at before first passed second wrote =
    let first_is : p ≡ (draw (call_state x i) operand_bound).answer = first ∙ ap (λ y. (draw y operand_bound).answer) at in
    let passed_is : between ≡ (draw (call_state x i) operand_bound).state = passed ∙ ap (λ y. (draw y operand_bound).state) at in
    let second_is : q ≡ (draw (draw (call_state x i) operand_bound).state operand_bound).answer =
    second ∙ ap (λ y. (draw y operand_bound).answer) passed_is in
    let line : call_text i p q ≡ call_line x i = ap (λ v. call_text i v q) first_is ∙ ap (call_text i (draw (call_state x i) operand_bound).answer) second_is in
    wrote ∙ ap (λ l. written ++ l) line ∙ one_more_line out written (call_line x) i before

-- ## The text

-- the definitions, and then the calls, which go on from the state that the definitions leave
pub text_written : (number s : ℕ) (out defined text : List ℕ) → out ≡ [] →
    defined ≡ out ++ lines_below (definition_line number) procedure_count → s ≡ definition_state number procedure_count →
    text ≡ defined ++ lines_below (call_line s) procedure_count → text ≡ generated_text number
unfolding program_text
text_written number s out defined text none definitions at calls =
    let is_defined : defined ≡ lines_below (definition_line number) procedure_count =
    definitions ∙ ap (λ l. l ++ lines_below (definition_line number) procedure_count) none in
    calls ∙ ap (λ y. defined ++ lines_below (call_line y) procedure_count) at
    ∙ ap (λ l. l ++ lines_below (call_line (definition_state number procedure_count)) procedure_count) is_defined
