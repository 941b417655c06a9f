-- A program has no more nodes and bound variables than its drafts.
use Rattle.std.proofs.Common.{◌≡◌, ◌≤◌, ℕ, suc, ◌+◌, Bool, true, false, List, [], ◌∷◌, ◌++◌, length, Option, Some, None, refl, ap, arith}
use Rattle.sch_word.specs.trees.BoundVariables.{formals_in}
use Rattle.sch_lang.specs.Tree as tree
use Rattle.sch_lang.specs.Tree.{Expression, Expressions, no_expressions, and_expression, count_lambdas}
use Rattle.sch_lang.specs.Measures as measures
use Rattle.sch_lang.specs.Measures.{nodes_and_bound}
use Rattle.sch_lang.proofs.BodyCounts.{counted as nodes, counted_each as nodes_each, counted_lambdas as nodes_in_lambdas}
use Rattle.sch_sketch.specs.Draft.{Draft, Drafts, constant, symbol, literal, local, global, set_local, set_global, define, branch, sequence, bind, letrec, lambda, call, operation, no_drafts, and_draft, count}
use Rattle.sch_link_tables.specs.Assigned.{is_group}
use Rattle.sch_link_tables.specs.Named.{firsts, library_global, globals_in_each, symbols_in_each}
use Rattle.sch_link_tables.specs.Quoted.{quotes_in, quotes_in_each}
use Rattle.sch_link_tables.specs.Sites.{unless_group, widths, widths_of_each}
use Rattle.sch_names.specs.Scope.{is_among, VariableNames}
use Rattle.sch_word.specs.values.Options.{rest_of}
use Rattle.sch_link_tables.specs.Numbered.{numbered, numbered_each, grouped, procedures_of, first_of}
use Rattle.sch_link_tables.specs.Programs.{Definition, kept, held, named, with_definition, globals_of_each, symbols_of_each, quotes_of_each, widths_of_definitions, procedures, program_with, program_of}
use Rattle.sch_sketch.specs.DraftMeasures.{size, size_each}
use Rattle.sch_link_program.specs.Size.{size_of_definitions}

-- the nodes of a group with its variables
grouped_nodes : (group : Bool) (site : ℕ) (es : Expressions) (e : Expression) → nodes (grouped group site es e) ≤ 1 + tree.count es + (nodes_each es + nodes e)
grouped_nodes false site es e = omega arith
grouped_nodes true site es e = omega (arith, procedures_nodes es, procedures_count es)
  where
    procedures_count : (es : Expressions) → count_lambdas (procedures_of es) ≡ tree.count es
    procedures_count no_expressions = refl
    procedures_count (and_expression (tree.lambda name formals rest e) es) = ap suc (procedures_count es)
    procedures_count (and_expression e es) = ap suc (procedures_count es)

    procedures_nodes : (es : Expressions) → formals_in (measures.procedures (procedures_of es)) + nodes_in_lambdas (procedures_of es) ≤ nodes_each es
    procedures_nodes no_expressions = omega arith
    procedures_nodes (and_expression (tree.lambda name formals rest e) es) = omega (arith, procedures_nodes es)
    procedures_nodes (and_expression e es) = omega (arith, procedures_nodes es)

module _ (own globals symbols : List (List ℕ)) where
  pub count_numbered : (es : Drafts) (vs : VariableNames) (s l : ℕ) → tree.count (numbered_each own globals symbols vs es s l) ≡ count es
  count_numbered no_drafts vs s l = refl
  count_numbered (and_draft e es) vs s l = ap suc (count_numbered es (rest_of vs) (s + length (widths e)) (l + length (quotes_in e)))

  mutual
    pub numbered_size : (v : Option (List ℕ)) (e : Draft) (s l : ℕ) → nodes (numbered own globals symbols v e s l) ≤ size e
    numbered_size v (constant c) s l = omega arith
    numbered_size v (symbol x) s l = omega arith
    numbered_size v (literal d) s l = omega arith
    numbered_size v (local k) s l = omega arith
    numbered_size v (global x) s l = omega arith
    numbered_size v (set_local k e) s l = omega (arith, numbered_size None e s l)
    numbered_size v (set_global x e) s l = omega (arith, numbered_size None e s l)
    numbered_size v (define x e) s l = omega (arith, numbered_size (Some x) e s l)
    numbered_size v (branch a b c) s l =
        omega (
          arith,
          numbered_size None a s l,
          numbered_size None b (s + length (widths a)) (l + length (quotes_in a)),
          numbered_size None c (s + length (widths a) + length (widths b)) (l + length (quotes_in a) + length (quotes_in b)),
        )
    numbered_size v (sequence es) s l = omega (arith, numbered_sizes [] es s l)
    numbered_size v (bind vs es e) s l =
        omega (
          arith,
          count_numbered es vs (s + 1) l,
          numbered_sizes vs es (s + 1) l,
          numbered_size None e (s + 1 + length (widths_of_each es)) (l + length (quotes_in_each es)),
        )
    numbered_size v (letrec vs p es e) s l =
        let n = s + length (unless_group (is_group p es e) (count es)) in
        omega (
          arith,
          grouped_nodes (is_group p es e) s (numbered_each own globals symbols vs es n l) (numbered own globals symbols None e (n + length (widths_of_each es)) (l + length (quotes_in_each es))),
          count_numbered es vs n l,
          numbered_sizes vs es n l,
          numbered_size None e (n + length (widths_of_each es)) (l + length (quotes_in_each es)),
        )
    numbered_size v (lambda n r e) s l = omega (arith, numbered_size None e s l)
    numbered_size v (call vs f es) s l =
        omega (arith, numbered_size None f (s + 1) l, numbered_sizes vs es (s + 1 + length (widths f)) (l + length (quotes_in f)))
    numbered_size v (operation p es) s l = omega (arith, numbered_sizes [] es (s + 1) l)

    pub numbered_sizes : (vs : VariableNames) (es : Drafts) (s l : ℕ) → nodes_each (numbered_each own globals symbols vs es s l) ≤ size_each es
    numbered_sizes vs no_drafts s l = omega arith
    numbered_sizes vs (and_draft e es) s l =
        omega (arith, numbered_size (first_of vs) e s l, numbered_sizes (rest_of vs) es (s + length (widths e)) (l + length (quotes_in e)))

procedures_size : (globals symbols : List (List ℕ)) (ds : List Definition) (s l : ℕ) →
    count_lambdas (procedures globals symbols ds s l) + formals_in (measures.procedures (procedures globals symbols ds s l)) + nodes_in_lambdas (procedures globals symbols ds s l) ≤ size_of_definitions ds
procedures_size globals symbols [] s l = omega arith
procedures_size globals symbols (d ∷ ds) s l =
    omega (
      arith,
      numbered_size [] globals symbols None d.body s l,
      procedures_size globals symbols ds (s + length (widths d.body)) (l + length (quotes_in d.body)),
    )

pub program_with_size : (ds : List Definition) (own held : List (List ℕ)) (forms : Drafts) → nodes_and_bound (program_with ds own held forms) ≤ size_of_definitions ds + size_each forms
program_with_size ds own held forms =
    let globals = firsts [] (globals_of_each ds ++ globals_in_each own forms) in
    let symbols = firsts [] (symbols_of_each ds ++ symbols_in_each forms) in
    omega (
      arith,
      procedures_size globals symbols ds 0 0,
      numbered_sizes own globals symbols [] forms (length (widths_of_definitions ds)) (length (quotes_of_each ds)),
    )

pub kept_size : (ds : List Definition) (names : List (List ℕ)) → size_of_definitions (kept ds names) ≤ size_of_definitions ds
kept_size [] names = omega arith
kept_size (d ∷ ds) names = go (is_among (library_global d.name) (names ++ globals_of_each (kept ds names))) (kept_size ds names)
  where
    go : (b : Bool) → size_of_definitions (kept ds names) ≤ size_of_definitions ds → size_of_definitions (with_definition b d (kept ds names)) ≤ size_of_definitions (d ∷ ds)
    go true h = omega (arith, h)
    go false h = omega (arith, h)

-- the program of a text is no larger than the drafts of the library and of the text
pub program_size : (ds : List Definition) (own : List (List ℕ)) (forms : Drafts) → nodes_and_bound (program_of ds own forms) ≤ size_of_definitions ds + size_each forms
program_size ds own forms =
    omega (arith, program_with_size (kept ds (named ds own forms)) own (held ds own) forms, kept_size ds (named ds own forms))
