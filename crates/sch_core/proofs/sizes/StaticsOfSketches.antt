-- What the symbols, the literals and the globals of a sketch's draft take at most, by the weight of the texts in it. Each
-- row of choices and of operations keeps to what its texts allow.
use Rattle.std.proofs.Common.{◌≡◌, ◌≤◌, ◌+◌, ◌*◌, ℕ, zero, suc, Bool, true, false, cond, Option, Some, None, arith}
use Rattle.sch_word.specs.declared.primitive.Primitive.{Primitive}
use Rattle.sch_word.specs.declared.primitive.Primitive.TheVariants.{MakeString}
use Rattle.sch_read.specs.Grammar.{Datum, Data, atom, list, dotted, vector, none, cons, boolean, integer, character, symbol as symbol_atom}
use Rattle.sch_read.specs.Grammar as grammar
use Rattle.sch_read.specs.Parts.{how_many}
use Rattle.sch_read.specs.Valid.{weight, weights}
use Rattle.sch_names.specs.declared.operation.Operation.{Operation}
use Rattle.sch_names.specs.declared.operation.Operation.TheVariants.{Exact, Unit as UnitOf, UnitAnd, Nested, Chained, Filled, Not}
use Rattle.sch_names.specs.Scope.{Scope}
use Rattle.sch_sketch.specs.declared.sketch.Position.{Position}
use Rattle.sch_sketch.specs.declared.sketch.Position.TheVariants.{Value, Test}
use Rattle.sch_sketch.specs.declared.sketch.Row.{Row}
use Rattle.sch_sketch.specs.declared.sketch.Row.TheVariants.{Chain, Join}
use Rattle.sch_sketch.specs.Measure.{literal_size, literal_sizes}
use Rattle.sch_sketch.specs.Sketch.{Kind, setting_global, defining, Sketch, Sketches, text as datum, rest, wrong, leaf, node, limited, no_sketch, and_sketch, but_one}
use Rattle.sch_sketch.specs.Small.{one, texts, quoted, either_of}
use Rattle.sch_form_choices.specs.Choices.{row_quote, row_begin, row_if, row_and, row_or, row_cond, row_clauses, are_clauses, clause, other_clause, receiver, remaining, is_else, is_arrow, is_some_data}
use Rattle.sch_form_choices.specs.Cases.{row_case, row_cases, row_tests, are_cases}
use Rattle.sch_form_choices.specs.Combinations.{combination, denial, filler, row_chain, row_join}
use Rattle.sch_core.specs.SizesOfStatics.{statics_in}

-- the operands of a chain and of a join are variables
abbrev pub rest_statics : Row → Data → Data → ℕ
rest_statics (Chain p) xs ys = 0
rest_statics (Join p k j) xs ys = 0
rest_statics _ xs ys = 2 * weights xs + 2 * weights ys

-- a global that is set or defined
abbrev pub global_here : Kind → ℕ
global_here (setting_global x) = 1
global_here (defining x) = 1
global_here _ = 0

abbrev mutual
  pub sketch_statics : Sketch → ℕ
  sketch_statics (datum d) = 2 * weight d
  sketch_statics (rest r at xs ys) = rest_statics r xs ys
  sketch_statics (wrong f) = 0
  sketch_statics (leaf at e) = statics_in e
  sketch_statics (node k at ks) = global_here k + sketches_statics ks
  sketch_statics (limited at count k) = sketch_statics k

  pub sketches_statics : Sketches → ℕ
  sketches_statics no_sketch = 0
  sketches_statics (and_sketch k ks) = sketch_statics k + sketches_statics ks

-- ## Small sketches

-- what two things measure at most, the one that is chosen does
pub chosen_within : {A : Type 0} (measure : A → ℕ) (b : Bool) (x y : A) (r : ℕ) → measure x ≤ r → measure y ≤ r → measure (cond b x y) ≤ r
chosen_within measure true x y r h k = h
chosen_within measure false x y r h k = k

pub texts_statics : (xs : Data) (ks : Sketches) → sketches_statics (texts xs ks) ≡ 2 * weights xs + sketches_statics ks
texts_statics none ks = omega arith
texts_statics (cons d ds) ks = omega (arith, texts_statics ds ks)

mutual
  literal_weighs : (d : Datum) → literal_size d ≤ 2 * weight d
  literal_weighs (atom at (boolean b)) = omega arith
  literal_weighs (atom at (integer z)) = omega arith
  literal_weighs (atom at (character c)) = omega arith
  literal_weighs (atom at (grammar.text bs)) = omega arith
  literal_weighs (atom at (symbol_atom x)) = omega arith
  literal_weighs (list at xs) = omega (arith, literals_weigh xs)
  literal_weighs (dotted at xs x) = omega (arith, literals_weigh xs, literal_weighs x)
  literal_weighs (vector at xs) = omega (arith, literals_weigh xs)

  literals_weigh : (xs : Data) → literal_sizes xs ≤ 2 * weights xs
  literals_weigh none = omega arith
  literals_weigh (cons x xs) = omega (arith, literal_weighs x, literals_weigh xs)

pub quoted_statics : (at : ℕ) (d : Datum) → sketch_statics (quoted at d) ≤ 2 * weight d
quoted_statics at (atom q (boolean b)) = omega arith
quoted_statics at (atom q (integer z)) = omega arith
quoted_statics at (atom q (character c)) = omega arith
quoted_statics at (atom q (grammar.text bs)) = omega arith
quoted_statics at (atom q (symbol_atom x)) = omega arith
quoted_statics at (list q none) = omega arith
quoted_statics at (list q (cons x xs)) = literal_weighs (list q (cons x xs))
quoted_statics at (dotted q xs x) = literal_weighs (dotted q xs x)
quoted_statics at (vector q xs) = literal_weighs (vector q xs)

either_statics : (t : Position) (at : ℕ) (a k : Sketch) → sketch_statics (either_of t at a k) ≤ sketch_statics a + sketch_statics k
either_statics Value at a k = omega arith
either_statics Test at a k = omega arith

-- ## Operations

denial_statics : (at : ℕ) (xs : Data) → sketch_statics (denial at xs) ≤ 2 * weights xs
denial_statics at none = omega arith
denial_statics at (cons a none) = omega arith
denial_statics at (cons a (cons b bs)) = omega arith

filler_statics : (at : ℕ) (p : Primitive) → sketch_statics (filler at p) ≤ 0
filler_statics at MakeString = omega arith
filler_statics at _ = omega arith

pub combination_statics : (o : Operation) (at : ℕ) (xs : Data) → sketch_statics (combination o at xs) ≤ 2 * weights xs
combination_statics (Exact p) at xs = omega (arith, texts_statics xs no_sketch)
combination_statics (UnitOf p) at xs = omega arith
combination_statics (UnitAnd p) at xs = omega (arith, texts_statics xs no_sketch)
combination_statics (Nested p) at xs = omega (arith, texts_statics xs (one (rest (Join p (but_one (how_many xs)) (but_one (how_many xs))) at none none)))
combination_statics (Chained p) at xs = omega (arith, texts_statics xs (one (rest (Chain p) at xs none)))
combination_statics (Filled p) at xs = omega (arith, texts_statics xs (and_sketch (filler at p) no_sketch), filler_statics at p)
combination_statics Not at xs = denial_statics at xs

pub chain_statics : (p : Primitive) (at : ℕ) (xs : Data) → sketch_statics (row_chain p at xs) ≤ 0
chain_statics p at (cons a (cons b none)) = omega arith
chain_statics p at (cons a (cons b (cons c xs))) = omega arith
chain_statics p at _ = omega arith

pub join_statics : (p : Primitive) (k j at : ℕ) → sketch_statics (row_join p k j at) ≤ 0
join_statics p zero j at = omega arith
join_statics p (suc k) j at = omega arith

-- ## Choices

pub quote_statics : (at : ℕ) (xs : Data) → sketch_statics (row_quote at xs) ≤ 2 * weights xs
quote_statics at none = omega arith
quote_statics at (cons d none) = omega (arith, quoted_statics at d)
quote_statics at (cons d (cons e es)) = omega arith

pub if_statics : (at : ℕ) (xs : Data) → sketch_statics (row_if at xs) ≤ 2 * weights xs
if_statics at (cons a (cons b (cons c none))) = omega arith
if_statics at (cons a (cons b none)) = omega arith
if_statics at _ = omega arith

pub begin_statics : (at : ℕ) (xs : Data) → sketch_statics (row_begin at xs) ≤ 2 * weights xs
begin_statics at none = omega arith
begin_statics at (cons e none) = omega arith
begin_statics at (cons e (cons e' es)) = omega (arith, texts_statics (cons e (cons e' es)) no_sketch)

pub and_statics : (at : ℕ) (xs : Data) → sketch_statics (row_and at xs) ≤ 2 * weights xs
and_statics at none = omega arith
and_statics at (cons a none) = omega arith
and_statics at (cons a (cons b bs)) = omega arith

pub or_statics : (t : Position) (at : ℕ) (xs : Data) → sketch_statics (row_or t at xs) ≤ 2 * weights xs
or_statics t at none = omega arith
or_statics t at (cons a none) = omega arith
or_statics Value at (cons a (cons b bs)) = omega arith
or_statics Test at (cons a (cons b bs)) = omega arith

pub cond_statics : (s : Scope) (at : ℕ) (xs : Data) → sketch_statics (row_cond s at xs) ≤ 2 * weights xs
cond_statics s at none = omega arith
cond_statics s at (cons c cs) = chosen_within sketch_statics (are_clauses s (cons c cs)) _ _ _ (omega arith) (omega arith)

abbrev receiver_weight : Option Datum → ℕ
receiver_weight None = 0
receiver_weight (Some f) = weight f

receiver_weighs : (s : Scope) (es : Data) → receiver_weight (receiver s es) ≤ weights es
receiver_weighs s (cons b (cons f none)) = go (is_arrow s b)
  where
    go : (c : Bool) → receiver_weight (cond c (Some f) None) ≤ weights (cons b (cons f none))
    go true = omega arith
    go false = omega arith
receiver_weighs s none = omega arith
receiver_weighs s (cons b none) = omega arith
receiver_weighs s (cons b (cons f (cons d ds))) = omega arith

other_statics : (t : Position) (at : ℕ) (a : Datum) (o : Option Datum) (es cs : Data) → receiver_weight o ≤ weights es →
    sketch_statics (other_clause t at a o es cs) ≤ 2 * weight a + (2 * weights es + 2 * weights cs)
other_statics t at a (Some f) es cs h = omega (arith, h)
other_statics t at a None es cs h = chosen_within sketch_statics (is_some_data es) _ _ _ (omega arith) (omega (arith, either_statics t at (datum a) (remaining at cs)))

clause_statics : (s : Scope) (t : Position) (at : ℕ) (a : Datum) (es cs : Data) → sketch_statics (clause s t at a es cs) ≤ 2 * weight a + (2 * weights es + 2 * weights cs)
clause_statics s t at a es cs = chosen_within sketch_statics (is_else s a) _ _ _ (omega arith) (other_statics t at a (receiver s es) es cs (receiver_weighs s es))

pub clauses_statics : (s : Scope) (t : Position) (at : ℕ) (xs : Data) → sketch_statics (row_clauses s t at xs) ≤ 2 * weights xs
clauses_statics s t at none = omega arith
clauses_statics s t at (cons (list p (cons a es)) cs) = omega (arith, clause_statics s t at a es cs)
clauses_statics s t at _ = omega arith

pub case_statics : (s : Scope) (at : ℕ) (xs : Data) → sketch_statics (row_case s at xs) ≤ 2 * weights xs
case_statics s at none = omega arith
case_statics s at (cons k none) = omega arith
case_statics s at (cons k (cons c cs)) = chosen_within sketch_statics (are_cases s (cons c cs)) _ _ _ (omega arith) (omega arith)

pub cases_statics : (at : ℕ) (xs : Data) → sketch_statics (row_cases at xs) ≤ 2 * weights xs
cases_statics at none = omega arith
cases_statics at (cons (list q (cons (list p ds) es)) cs) = omega arith
cases_statics at (cons (list q (cons (atom p a) es)) cs) = omega arith
cases_statics at (cons (list q (cons (dotted p xs x) es)) cs) = omega arith
cases_statics at (cons (list q (cons (vector p xs) es)) cs) = omega arith
cases_statics at _ = omega arith

pub tests_statics : (at : ℕ) (xs : Data) → sketch_statics (row_tests at xs) ≤ 2 * weights xs
tests_statics at none = omega arith
tests_statics at (cons d none) = omega (arith, quoted_statics at d)
tests_statics at (cons d (cons d' ds)) = omega (arith, quoted_statics at d)
