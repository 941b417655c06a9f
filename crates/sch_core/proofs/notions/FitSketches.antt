-- Each row of choices and of operations makes a sketch that fits a notion, where its data do.
use Rattle.std.proofs.Common.{ℕ, zero, suc, Bool, true, false, cond, Option, Some, None}
use Rattle.sch_word.specs.declared.primitive.Primitive.{Primitive}
use Rattle.sch_word.specs.declared.primitive.Primitive.TheVariants.{MakeString}
use Rattle.sch_read.specs.Grammar.{Datum, Data, atom, list, dotted, vector, none, cons, boolean, integer, character, symbol as symbol_atom}
use Rattle.sch_read.specs.Grammar as grammar
use Rattle.sch_names.specs.declared.operation.Operation.{Operation}
use Rattle.sch_names.specs.declared.operation.Operation.TheVariants.{Exact, Unit as UnitOf, UnitAnd, Nested, Chained, Filled, Not}
use Rattle.sch_names.specs.Scope.{Scope}
use Rattle.sch_names.specs.Scope.{Globals}
use Rattle.sch_sketch.specs.declared.sketch.Position.{Position}
use Rattle.sch_sketch.specs.declared.sketch.Position.TheVariants.{Value, Test}
use Rattle.sch_sketch.specs.Sketch.{Sketch, Sketches, text as datum, no_sketch}
use Rattle.sch_sketch.specs.Small.{texts, quoted, either_of}
use Rattle.sch_form_choices.specs.Choices.{row_quote, row_begin, row_if, row_and, row_or, row_cond, row_clauses, are_clauses, clause, other_clause, receiver, remaining, is_else, is_arrow, is_some_data}
use Rattle.sch_form_choices.specs.Cases.{row_case, row_cases, row_tests, are_cases, equals}
use Rattle.sch_form_choices.specs.Combinations.{unit, combination, denial, filler, row_chain, row_join}
use Rattle.sch_core.proofs.notions.Notions.{Notion, AllGood, IsKept, IsFit, AreFit}

abbrev SomeGood : Notion → Option Datum → Type 0
SomeGood n None = Unit {0}
SomeGood n (Some f) = n.Good f

module _ (globals : Globals) (n : Notion) (c : IsKept globals n) where
  -- ## Small sketches

  pub choice : (b : Bool) (k k' : Sketch) → IsFit n k → IsFit n k' → IsFit n (cond b k k')
  choice true k k' h h' = h
  choice false k k' h h' = h'

  pub texts_fits : (xs : Data) (ks : Sketches) → AllGood n xs → AreFit n ks → AreFit n (texts xs ks)
  texts_fits none ks g h = h
  texts_fits (cons d ds) ks g h = (g.0, texts_fits ds ks g.1 h)

  pub quoted_fits : (at : ℕ) (d : Datum) → n.Good d → IsFit n (quoted at d)
  quoted_fits at (atom q (boolean b)) g = c.truth b
  quoted_fits at (atom q (integer z)) g = c.integer_is q z g
  quoted_fits at (atom q (character k)) g = c.character_is q k g
  quoted_fits at (atom q (grammar.text bs)) g = g
  quoted_fits at (atom q (symbol_atom x)) g = c.symbol_is q x g
  quoted_fits at (list q none) g = c.empty
  quoted_fits at (list q (cons x xs)) g = g
  quoted_fits at (dotted q xs x) g = g
  quoted_fits at (vector q xs) g = g

  either_fits : (t : Position) (at : ℕ) (a k : Sketch) → IsFit n a → IsFit n k → IsFit n (either_of t at a k)
  either_fits Value at a k g h = (g, ((tt, (tt, (h, tt))), tt))
  either_fits Test at a k g h = (g, (c.truth true, (h, tt)))

  -- ## Operations

  denial_fits : (at : ℕ) (xs : Data) → AllGood n xs → IsFit n (denial at xs)
  denial_fits at none g = tt
  denial_fits at (cons a none) g = (g.0, (c.truth false, (c.truth true, tt)))
  denial_fits at (cons a (cons b bs)) g = tt

  unit_fits : (at : ℕ) (p : Primitive) → IsFit n (unit at p)
  unit_fits at p = c.unit p

  filler_fits : (at : ℕ) (p : Primitive) → IsFit n (filler at p)
  filler_fits at MakeString = c.space
  filler_fits at _ = c.nothing

  pub combination_fits : (o : Operation) (at : ℕ) (xs : Data) → AllGood n xs → IsFit n (combination o at xs)
  combination_fits (Exact p) at xs g = texts_fits xs no_sketch g tt
  combination_fits (UnitOf p) at xs g = unit_fits at p
  combination_fits (UnitAnd p) at xs g = (unit_fits at p, texts_fits xs no_sketch g tt)
  combination_fits (Nested p) at xs g = texts_fits xs _ g ((tt, tt), tt)
  combination_fits (Chained p) at xs g = texts_fits xs _ g ((g, tt), tt)
  combination_fits (Filled p) at xs g = texts_fits xs _ g (filler_fits at p, tt)
  combination_fits Not at xs g = denial_fits at xs g

  pub chain_fits : (p : Primitive) (at : ℕ) (xs : Data) → AllGood n xs → IsFit n (row_chain p at xs)
  chain_fits p at (cons a (cons b none)) g = (tt, (tt, tt))
  chain_fits p at (cons a (cons b (cons d xs))) g = ((tt, (tt, tt)), ((g.1, tt), (c.truth false, tt)))
  chain_fits p at _ g = tt

  pub join_fits : (p : Primitive) (k j at : ℕ) → IsFit n (row_join p k j at)
  join_fits p zero j at = tt
  join_fits p (suc k) j at = ((tt, tt), (tt, tt))

  -- ## Choices

  pub quote_fits : (at : ℕ) (xs : Data) → AllGood n xs → IsFit n (row_quote at xs)
  quote_fits at none g = tt
  quote_fits at (cons d none) g = quoted_fits at d g.0
  quote_fits at (cons d (cons e es)) g = tt

  pub if_fits : (at : ℕ) (xs : Data) → AllGood n xs → IsFit n (row_if at xs)
  if_fits at (cons a (cons b (cons c none))) g = (g.0, (g.1.0, (g.1.1.0, tt)))
  if_fits at (cons a (cons b none)) g = (g.0, (g.1.0, (c.nothing, tt)))
  if_fits at _ g = tt

  pub begin_fits : (at : ℕ) (xs : Data) → AllGood n xs → IsFit n (row_begin at xs)
  begin_fits at none g = tt
  begin_fits at (cons e none) g = g.0
  begin_fits at (cons e (cons e' es)) g = texts_fits (cons e (cons e' es)) no_sketch g tt

  pub and_fits : (at : ℕ) (xs : Data) → AllGood n xs → IsFit n (row_and at xs)
  and_fits at none g = c.truth true
  and_fits at (cons a none) g = g.0
  and_fits at (cons a (cons b bs)) g = (g.0, ((g.1, tt), (c.truth false, tt)))

  pub or_fits : (t : Position) (at : ℕ) (xs : Data) → AllGood n xs → IsFit n (row_or t at xs)
  or_fits t at none g = c.truth false
  or_fits t at (cons a none) g = g.0
  or_fits t at (cons a (cons b bs)) g = either_fits t at (datum a) _ g.0 (g.1, tt)

  pub cond_fits : (s : Scope) (at : ℕ) (xs : Data) → AllGood n xs → IsFit n (row_cond s at xs)
  cond_fits s at none g = tt
  cond_fits s at (cons c cs) g = choice (are_clauses s (cons c cs)) _ _ (g, tt) tt

  receiver_fits : (s : Scope) (es : Data) → AllGood n es → SomeGood n (receiver s es)
  receiver_fits s (cons b (cons f none)) g = go (is_arrow s b)
    where
      go : (b : Bool) → SomeGood n (cond b (Some f) None)
      go true = g.1.0
      go false = tt
  receiver_fits s none g = tt
  receiver_fits s (cons b none) g = tt
  receiver_fits s (cons b (cons f (cons d ds))) g = tt

  other_fits : (t : Position) (at : ℕ) (a : Datum) (o : Option Datum) (es cs : Data) → n.Good a → SomeGood n o → AllGood n es → AllGood n cs →
      IsFit n (other_clause t at a o es cs)
  other_fits t at a (Some f) es cs i j g h = (i, ((tt, ((j, (tt, tt)), ((h, tt), tt))), tt))
  other_fits t at a None es cs i j g h =
      choice (is_some_data es) _ _ (i, ((g, tt), ((h, tt), tt))) (either_fits t at (datum a) (remaining at cs) i (h, tt))

  clause_fits : (s : Scope) (t : Position) (at : ℕ) (a : Datum) (es cs : Data) → n.Good a → AllGood n es → AllGood n cs → IsFit n (clause s t at a es cs)
  clause_fits s t at a es cs i g h = choice (is_else s a) _ _ (g, tt) (other_fits t at a (receiver s es) es cs i (receiver_fits s es g) g h)

  pub clauses_fits : (s : Scope) (t : Position) (at : ℕ) (xs : Data) → AllGood n xs → IsFit n (row_clauses s t at xs)
  clauses_fits s t at none g = c.nothing
  clauses_fits s t at (cons (list p (cons a es)) cs) g = let l = c.parts p (cons a es) g.0 in clause_fits s t at a es cs l.0 l.1 g.1
  clauses_fits s t at _ g = tt

  pub case_fits : (s : Scope) (at : ℕ) (xs : Data) → AllGood n xs → IsFit n (row_case s at xs)
  case_fits s at none g = tt
  case_fits s at (cons k none) g = tt
  case_fits s at (cons k (cons c cs)) g = choice (are_cases s (cons c cs)) _ _ (g.0, ((g.1, tt), tt)) tt

  pub cases_fits : (at : ℕ) (xs : Data) → AllGood n xs → IsFit n (row_cases at xs)
  cases_fits at none g = c.nothing
  cases_fits at (cons (list q (cons (list p ds) es)) cs) g =
      let l = c.parts q (cons (list p ds) es) g.0 in
      ((c.parts p ds l.0, tt), ((l.1, tt), ((g.1, tt), tt)))
  cases_fits at (cons (list q (cons (atom p a) es)) cs) g = ((c.parts q (cons (atom p a) es) g.0).1, tt)
  cases_fits at (cons (list q (cons (dotted p xs x) es)) cs) g = ((c.parts q (cons (dotted p xs x) es) g.0).1, tt)
  cases_fits at (cons (list q (cons (vector p xs) es)) cs) g = ((c.parts q (cons (vector p xs) es) g.0).1, tt)
  cases_fits at _ g = tt

  equals_fits : (at : ℕ) (d : Datum) → n.Good d → IsFit n (equals at d)
  equals_fits at d g = (tt, (quoted_fits at d g, tt))

  pub tests_fits : (at : ℕ) (xs : Data) → AllGood n xs → IsFit n (row_tests at xs)
  tests_fits at none g = c.truth false
  tests_fits at (cons d none) g = equals_fits at d g.0
  tests_fits at (cons d (cons d' ds)) g = (equals_fits at d g.0, (c.truth true, ((g.1, tt), tt)))
