-- Each row of choices and of operations leaves less text.
use Rattle.std.proofs.Common.{◌≡◌, ◌≤◌, ◌<◌, ◌+◌, ◌*◌, ℕ, zero, suc, Bool, true, false, cond, Option, Some, None, refl, sym, arith}
use Rattle.sch_word.specs.declared.primitive.Primitive.{Primitive}
use Rattle.sch_word.specs.declared.primitive.Primitive.TheVariants.{MakeString}
use Rattle.sch_word.proofs.facts.Lists.{some_same}
use Rattle.sch_read.specs.Grammar.{Datum, Data, atom, list, dotted, vector, none, cons}
use Rattle.sch_read.specs.Parts.{how_many, offset}
use Rattle.sch_names.specs.declared.keyword.Keyword.TheVariants.{Or}
use Rattle.sch_names.specs.declared.operation.Operation.{Operation}
use Rattle.sch_names.specs.declared.operation.Operation.TheVariants.{Exact, Unit, UnitAnd, Nested, Chained, Filled, Not}
use Rattle.sch_names.specs.Scope.{Scope}
use Rattle.sch_sketch.specs.declared.sketch.Position.{Position}
use Rattle.sch_sketch.specs.declared.sketch.Row.TheVariants.{Form, Chain, Join}
use Rattle.sch_sketch.specs.Measure.{datum_measure, data_measure, sketch_measure}
use Rattle.sch_sketch.specs.Sketch.{text as datum, rest, no_sketch, but_one}
use Rattle.sch_sketch.specs.Small.{one}
use Rattle.sch_sketch.proofs.SmallMeasures.{choice, some_measure, quoted_below, texts_measure, one_less, either_falls}
use Rattle.sch_sketch.proofs.SmallSound.{fresh_count}
use Rattle.sch_form_choices.specs.Choices.{row_quote, row_begin, row_if, row_and, row_or, row_cond, row_clauses, are_clauses, clause, other_clause, receiver, remaining, is_else, is_arrow, is_some_data}
use Rattle.sch_form_choices.specs.Cases.{row_case, row_cases, row_tests, are_cases}
use Rattle.sch_form_choices.specs.Combinations.{combination, denial, filler, row_chain, row_join}

-- ## Operations

denial_falls : (at : ℕ) (xs : Data) → sketch_measure (denial at xs) ≤ data_measure xs + 2
denial_falls at none = omega arith
denial_falls at (cons a none) = omega arith
denial_falls at (cons a (cons b bs)) = omega arith

filler_small : (at : ℕ) (p : Primitive) → sketch_measure (filler at p) ≡ 1
filler_small at MakeString = refl
filler_small at _ = refl

pub combination_falls : (o : Operation) (at : ℕ) (xs : Data) → sketch_measure (combination o at xs) < data_measure xs + 24
combination_falls (Exact p) at xs = omega (arith, texts_measure xs no_sketch)
combination_falls (Unit p) at xs = omega arith
combination_falls (UnitAnd p) at xs = omega (arith, texts_measure xs no_sketch)
combination_falls (Nested p) at xs =
    omega (arith, texts_measure xs (one (rest (Join p (but_one (how_many xs)) (but_one (how_many xs))) at none none)), fresh_count xs, one_less (how_many xs))
combination_falls (Chained p) at xs = omega (arith, texts_measure xs (one (rest (Chain p) at xs none)), fresh_count xs)
combination_falls (Filled p) at xs = omega (arith, texts_measure xs (one (filler at p)), filler_small at p)
combination_falls Not at xs = omega (arith, denial_falls at xs)

pub chain_falls : (p : Primitive) (at : ℕ) (xs : Data) → sketch_measure (row_chain p at xs) < 6 * how_many xs + 2
chain_falls p at none = omega arith
chain_falls p at (cons a none) = omega arith
chain_falls p at (cons a (cons b none)) = omega arith
chain_falls p at (cons a (cons b (cons c xs))) = omega arith

pub join_falls : (p : Primitive) (k far at : ℕ) → sketch_measure (row_join p k far at) < 3 * k + 2
join_falls p zero far at = omega arith
join_falls p (suc k) far at = omega arith

-- ## Choices

pub quote_falls : (at : ℕ) (xs : Data) → sketch_measure (row_quote at xs) < data_measure xs + 4
quote_falls at none = omega arith
quote_falls at (cons d none) = omega (arith, quoted_below at d)
quote_falls at (cons d (cons e es)) = omega arith

pub if_falls : (at : ℕ) (xs : Data) → sketch_measure (row_if at xs) < data_measure xs + 4
if_falls at none = omega arith
if_falls at (cons a none) = omega arith
if_falls at (cons a (cons b none)) = omega arith
if_falls at (cons a (cons b (cons c none))) = omega arith
if_falls at (cons a (cons b (cons c (cons e es)))) = omega arith

pub begin_falls : (at : ℕ) (xs : Data) → sketch_measure (row_begin at xs) < data_measure xs + 4
begin_falls at none = omega arith
begin_falls at (cons e none) = omega arith
begin_falls at (cons e (cons e' es)) = omega (arith, texts_measure es no_sketch)

pub and_falls : (at : ℕ) (xs : Data) → sketch_measure (row_and at xs) < data_measure xs + 4
and_falls at none = omega arith
and_falls at (cons a none) = omega arith
and_falls at (cons a (cons b bs)) = omega arith

pub or_falls : (t : Position) (at : ℕ) (xs : Data) → sketch_measure (row_or t at xs) < data_measure xs + 4
or_falls t at none = omega arith
or_falls t at (cons a none) = omega arith
or_falls t at (cons a (cons b bs)) = omega (arith, either_falls t at (datum a) (rest (Form Or) (offset b) (cons b bs) none))

pub cond_falls : (s : Scope) (at : ℕ) (xs : Data) → sketch_measure (row_cond s at xs) < data_measure xs + 4
cond_falls s at none = omega arith
cond_falls s at (cons c cs) = choice (are_clauses s (cons c cs)) _ _ _ (omega arith) (omega arith)

received_if : (b : Bool) (g f : Datum) (r : ℕ) → cond b (Some g) None ≡ Some f → datum_measure g + 24 ≤ r → datum_measure f + 24 ≤ r
received_if true g f r e h = rw (sym (some_same e)) h
received_if false g f r e h = cc

-- the receiver of a clause is in what follows its test
received : (s : Scope) (es : Data) (f : Datum) → receiver s es ≡ Some f → datum_measure f + 24 ≤ data_measure es
received s none f e = cc
received s (cons b none) f e = cc
received s (cons b (cons g none)) f e = received_if (is_arrow s b) g f _ e (omega (arith, some_measure b))
received s (cons b (cons g (cons h hs))) f e = cc

other_falls : (t : Position) (at : ℕ) (a : Datum) (o : Option Datum) (es cs : Data) → ((f : Datum) → o ≡ Some f → datum_measure f + 24 ≤ data_measure es) →
    sketch_measure (other_clause t at a o es cs) < datum_measure a + data_measure es + data_measure cs + 24
other_falls t at a (Some f) es cs h = omega (arith, h f refl)
other_falls t at a None es cs h = choice (is_some_data es) _ _ _ (omega arith) (omega (arith, either_falls t at (datum a) (remaining at cs)))

clause_falls : (s : Scope) (t : Position) (at : ℕ) (a : Datum) (es cs : Data) →
    sketch_measure (clause s t at a es cs) < datum_measure a + data_measure es + data_measure cs + 24
clause_falls s t at a es cs = choice (is_else s a) _ _ _ (omega arith) (other_falls t at a (receiver s es) es cs (λ f e. received s es f e))

pub clauses_fall : (s : Scope) (t : Position) (at : ℕ) (xs : Data) → sketch_measure (row_clauses s t at xs) < data_measure xs + 2
clauses_fall s t at none = omega arith
clauses_fall s t at (cons (list p (cons a es)) cs) = omega (arith, clause_falls s t at a es cs)
clauses_fall s t at (cons (list p none) cs) = omega arith
clauses_fall s t at (cons (atom p a) cs) = omega arith
clauses_fall s t at (cons (dotted p xs x) cs) = omega arith
clauses_fall s t at (cons (vector p xs) cs) = omega arith

pub case_falls : (s : Scope) (at : ℕ) (xs : Data) → sketch_measure (row_case s at xs) < data_measure xs + 4
case_falls s at none = omega arith
case_falls s at (cons k none) = omega arith
case_falls s at (cons k (cons c cs)) = choice (are_cases s (cons c cs)) _ _ _ (omega arith) (omega arith)

pub cases_fall : (at : ℕ) (xs : Data) → sketch_measure (row_cases at xs) < data_measure xs + 2
cases_fall at none = omega arith
cases_fall at (cons (list q (cons (list p ds) es)) cs) = omega arith
cases_fall at (cons (list q (cons (atom p a) es)) cs) = omega arith
cases_fall at (cons (list q (cons (dotted p xs x) es)) cs) = omega arith
cases_fall at (cons (list q (cons (vector p xs) es)) cs) = omega arith
cases_fall at (cons (list q none) cs) = omega arith
cases_fall at (cons (atom q a) cs) = omega arith
cases_fall at (cons (dotted q xs x) cs) = omega arith
cases_fall at (cons (vector q xs) cs) = omega arith

pub tests_fall : (at : ℕ) (xs : Data) → sketch_measure (row_tests at xs) < data_measure xs + 2
tests_fall at none = omega arith
tests_fall at (cons d none) = omega (arith, quoted_below at d)
tests_fall at (cons d (cons d' ds)) = omega (arith, quoted_below at d)
