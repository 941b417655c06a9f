-- Each row of choices and of operations makes a sound sketch.
use Rattle.std.proofs.Common.{◌≡◌, ◌≤◌, ◌<◌, ℕ, zero, suc, true, false, length, Option, Some, None, refl, sym, arith}
use Rattle.sch_word.specs.declared.primitive.Primitive.{Primitive}
use Rattle.sch_word.specs.declared.primitive.Primitive.TheVariants.{MakeString}
use Rattle.sch_word.specs.values.Primitives.{operands_of}
use Rattle.sch_read.specs.Grammar.{Datum, Data, atom, list, dotted, vector, none, cons}
use Rattle.sch_read.specs.Parts.{how_many}
use Rattle.sch_names.specs.declared.operation.Operation.{Operation}
use Rattle.sch_names.specs.declared.operation.Operation.TheVariants.{Exact, Unit as UnitOf, UnitAnd, Nested, Chained, Filled, Not}
use Rattle.sch_names.specs.Scope.{Scope, onto}
use Rattle.sch_names.proofs.Counts.{Admits}
use Rattle.sch_sketch.specs.declared.sketch.Position.{Position}
use Rattle.sch_sketch.specs.declared.sketch.Row.TheVariants.{Chain, Join}
use Rattle.sch_sketch.specs.Sketch.{text as datum, rest, no_sketch, but_one, binding, operating, sequencing}
use Rattle.sch_sketch.specs.Small.{one, fresh_each}
use Rattle.sch_sketch.specs.Soundness.{IsSound}
use Rattle.sch_sketch.proofs.SmallSound.{onto_length, choice, near, quoted_sound, texts_sound, texts_count, fresh_count, either_sound}
use Rattle.sch_form_choices.specs.Choices.{row_quote, row_begin, row_if, row_and, row_or, row_cond, row_clauses, are_clauses, clause, other_clause, receiver, remaining, is_else, is_some_data}
use Rattle.sch_form_choices.specs.Cases.{row_case, row_cases, row_tests, are_cases, equals}
use Rattle.sch_form_choices.specs.Combinations.{combination, denial, filler, row_chain, row_join}

-- ## Operations

denial_sound : (s : Scope) (at : ℕ) (xs : Data) → IsSound s (denial at xs)
denial_sound s at none = tt
denial_sound s at (cons a none) = (refl, (tt, (tt, (refl, (refl, tt)))))
denial_sound s at (cons a (cons b bs)) = tt

filler_sound : (s : Scope) (at : ℕ) (p : Primitive) → IsSound s (filler at p)
filler_sound s at MakeString = refl
filler_sound s at _ = refl

fresh_fits : (s : Scope) (xs : Data) → how_many xs ≤ length (onto (fresh_each xs) s)
fresh_fits s xs = omega (arith, onto_length (fresh_each xs) s, fresh_count xs)

join_fits : (n m : ℕ) → 2 < n → n ≤ m → but_one n < m
join_fits zero m h l = absurd (omega (arith, h))
join_fits (suc n) m h l = omega (arith, l)

pub combination_sound : (s : Scope) (o : Operation) (at : ℕ) (xs : Data) → Admits o (how_many xs) → IsSound s (combination o at xs)
combination_sound s (Exact p) at xs a = (omega (arith, texts_count xs no_sketch, a), (tt, texts_sound (operating p) true s xs no_sketch (λ b. tt)))
combination_sound s (UnitOf p) at xs a = refl
combination_sound s (UnitAnd p) at xs a =
    (omega (arith, texts_count xs no_sketch, a.0, a.1), (tt, (refl, texts_sound (operating p) false s xs no_sketch (λ b. tt))))
combination_sound s (Nested p) at xs a = (
  omega (arith, texts_count xs (one (rest (Join p (but_one (how_many xs)) (but_one (how_many xs))) at none none)), fresh_count xs),
  (tt, texts_sound (binding (fresh_each xs)) true s xs _ (λ b. ((a.1, join_fits _ _ a.0 (fresh_fits s xs)), tt))),
)
combination_sound s (Chained p) at xs a = (
  omega (arith, texts_count xs (one (rest (Chain p) at xs none)), fresh_count xs),
  (tt, texts_sound (binding (fresh_each xs)) true s xs _ (λ b. ((a.1, fresh_fits s xs), tt))),
)
combination_sound s (Filled p) at xs a = (
  omega (arith, texts_count xs (one (filler at p)), a.0, a.1),
  (tt, texts_sound (operating p) true s xs _ (λ b. (filler_sound s at p, tt))),
)
combination_sound s Not at xs a = denial_sound s at xs

pub chain_sound : (s : Scope) (p : Primitive) (at : ℕ) (xs : Data) → operands_of p ≡ 2 → how_many xs ≤ length s → IsSound s (row_chain p at xs)
chain_sound s p at (cons a (cons b none)) o h = (sym o, (tt, (omega (arith, h), (omega (arith, h), tt))))
chain_sound s p at (cons a (cons b (cons c xs))) o h =
    (refl, (tt, ((sym o, (tt, (omega (arith, h), (omega (arith, h), tt)))), ((o, omega (arith, h)), (refl, tt)))))
chain_sound s p at _ o h = tt

pub join_sound : (s : Scope) (p : Primitive) (k far at : ℕ) → operands_of p ≡ 2 → far < length s → IsSound s (row_join p k far at)
join_sound s p zero far at o h = h
join_sound s p (suc k) far at o h = (sym o, (tt, ((o, h), (omega (arith, h), tt))))

-- ## Choices

pub quote_sound : (s : Scope) (at : ℕ) (xs : Data) → IsSound s (row_quote at xs)
quote_sound s at none = tt
quote_sound s at (cons d none) = quoted_sound s at d
quote_sound s at (cons d (cons e es)) = tt

pub if_sound : (s : Scope) (at : ℕ) (xs : Data) → IsSound s (row_if at xs)
if_sound s at (cons a (cons b (cons c none))) = (refl, (tt, (tt, (tt, (tt, tt)))))
if_sound s at (cons a (cons b none)) = (refl, (tt, (tt, (tt, (refl, tt)))))
if_sound s at _ = tt

pub begin_sound : (s : Scope) (at : ℕ) (xs : Data) → IsSound s (row_begin at xs)
begin_sound s at none = tt
begin_sound s at (cons e none) = tt
begin_sound s at (cons e (cons e' es)) = (omega arith, (tt, texts_sound sequencing true s (cons e (cons e' es)) no_sketch (λ b. tt)))

pub and_sound : (s : Scope) (at : ℕ) (xs : Data) → IsSound s (row_and at xs)
and_sound s at none = refl
and_sound s at (cons a none) = tt
and_sound s at (cons a (cons b bs)) = (refl, (tt, (tt, (tt, (refl, tt)))))

pub or_sound : (s : Scope) (t : Position) (at : ℕ) (xs : Data) → IsSound s (row_or t at xs)
or_sound s t at none = refl
or_sound s t at (cons a none) = tt
or_sound s t at (cons a (cons b bs)) = either_sound s t at (datum a) _ tt (λ s'. tt)

pub cond_sound : (s : Scope) (at : ℕ) (xs : Data) → IsSound s (row_cond s at xs)
cond_sound s at none = tt
cond_sound s at (cons c cs) = choice s (are_clauses s (cons c cs)) _ _ tt tt

other_sound : (s : Scope) (t : Position) (at : ℕ) (a : Datum) (o : Option Datum) (es cs : Data) → IsSound s (other_clause t at a o es cs)
other_sound s t at a (Some f) es cs =
    (refl, (tt, (tt, ((refl, (tt, (near None s, ((omega arith, (tt, (tt, (near None s, tt)))), (tt, tt))))), tt))))
other_sound s t at a None es cs =
    choice s (is_some_data es) _ _ (refl, (tt, (tt, (tt, (tt, tt))))) (either_sound s t at (datum a) (remaining at cs) tt (λ s'. tt))

clause_sound : (s : Scope) (t : Position) (at : ℕ) (a : Datum) (es cs : Data) → IsSound s (clause s t at a es cs)
clause_sound s t at a es cs = choice s (is_else s a) _ _ tt (other_sound s t at a (receiver s es) es cs)

pub clauses_sound : (s : Scope) (t : Position) (at : ℕ) (xs : Data) → IsSound s (row_clauses s t at xs)
clauses_sound s t at none = refl
clauses_sound s t at (cons (list p (cons a es)) cs) = clause_sound s t at a es cs
clauses_sound s t at _ = tt

pub case_sound : (s : Scope) (at : ℕ) (xs : Data) → IsSound s (row_case s at xs)
case_sound s at none = tt
case_sound s at (cons k none) = tt
case_sound s at (cons k (cons c cs)) = choice s (are_cases s (cons c cs)) _ _ (refl, (tt, (tt, (near None s, tt)))) tt

pub cases_sound : (s : Scope) (at : ℕ) (xs : Data) → 0 < length s → IsSound s (row_cases at xs)
cases_sound s at none n = refl
cases_sound s at (cons (list q (cons (list p ds) es)) cs) n = (refl, (tt, (n, (tt, (n, tt)))))
cases_sound s at (cons (list q (cons (atom p a) es)) cs) n = tt
cases_sound s at (cons (list q (cons (dotted p xs x) es)) cs) n = tt
cases_sound s at (cons (list q (cons (vector p xs) es)) cs) n = tt
cases_sound s at _ n = tt

equals_sound : (s : Scope) (at : ℕ) (d : Datum) → 0 < length s → IsSound s (equals at d)
equals_sound s at d n = (refl, (tt, (n, (quoted_sound s at d, tt))))

pub tests_sound : (s : Scope) (at : ℕ) (xs : Data) → 0 < length s → IsSound s (row_tests at xs)
tests_sound s at none n = refl
tests_sound s at (cons d none) n = equals_sound s at d n
tests_sound s at (cons d (cons d' ds)) n = (refl, (tt, (equals_sound s at d n, (refl, (n, tt)))))
