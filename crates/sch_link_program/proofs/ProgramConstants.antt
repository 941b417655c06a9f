-- The constants of a program are those of its drafts.
use Rattle.std.proofs.Common.{◌≡◌, ℕ, ◌+◌, Bool, true, false, ◌&&◌, List, [], ◌∷◌, ◌++◌, length, Option, Some, None, refl}
use Rattle.std.proofs.lemmas.Bool.{and_from, and_parts}
use Rattle.sch_word.specs.trees.Shape.{constant_in_range}
use Rattle.sch_lang.specs.Tree as tree
use Rattle.sch_lang.specs.Tree.{Expression, Expressions, no_expressions, and_expression, Lambdas}
use Rattle.sch_lang.specs.Measures.{over, over_each, over_lambdas, shape}
use Rattle.sch_names.specs.Scope.{VariableNames}
use Rattle.sch_sketch.specs.Draft.{Draft, Drafts, constant, symbol, literal, local, global, set_local, set_global, define, branch, sequence, bind, letrec, lambda, call, operation, no_drafts, and_draft, count}
use Rattle.sch_link_tables.specs.Assigned.{is_group}
use Rattle.sch_link_tables.specs.Constants.{draft_in_range, drafts_in_range, HasConstants, HaveConstants}
use Rattle.sch_link_tables.specs.Named.{firsts, globals_in_each, symbols_in_each}
use Rattle.sch_link_tables.specs.Quoted.{quotes_in, quotes_in_each}
use Rattle.sch_link_tables.specs.Sites.{unless_group, widths, widths_of_each}
use Rattle.sch_word.specs.values.Options.{rest_of}
use Rattle.sch_link_tables.specs.Numbered.{numbered, numbered_each, grouped, procedures_of, first_of}
use Rattle.sch_link_tables.specs.Programs.{Definition, globals_of_each, symbols_of_each, quotes_of_each, widths_of_definitions, procedures, program_with}
use Rattle.sch_lang.specs.Valid.{trees_in_range}
use Rattle.sch_link_program.specs.Ranged.{BodiesHaveConstants}

abbrev ranged : Expression → Bool
ranged = over true (λ a b. a && b) (λ x. constant_in_range (shape x))

abbrev ranged_each : Expressions → Bool
ranged_each = over_each true (λ a b. a && b) (λ x. constant_in_range (shape x))

abbrev ranged_lambdas : Lambdas → Bool
ranged_lambdas = over_lambdas true (λ a b. a && b) (λ x. constant_in_range (shape x))

grouped_ranged : (group : Bool) (site : ℕ) (es : Expressions) (e : Expression) → ranged_each es ≡ true → ranged e ≡ true → ranged (grouped group site es e) ≡ true
grouped_ranged false site es e h k = and_from _ _ h k
grouped_ranged true site es e h k = and_from _ _ (all es h) k
  where
    all : (es : Expressions) → ranged_each es ≡ true → ranged_lambdas (procedures_of es) ≡ true
    all no_expressions h = refl
    all (and_expression (tree.lambda name formals rest e) es) h = and_from _ _ (and_parts (ranged e) (ranged_each es) h).0 (all es (and_parts (ranged e) (ranged_each es) h).1)
    all (and_expression e es) h = and_from _ _ (and_parts (ranged e) (ranged_each es) h).0 (all es (and_parts (ranged e) (ranged_each es) h).1)

module _ (own globals symbols : List (List ℕ)) where
  mutual
    constants_kept : (v : Option (List ℕ)) (e : Draft) (s l : ℕ) → HasConstants e → ranged (numbered own globals symbols v e s l) ≡ true
    constants_kept v (constant c) s l h = h
    constants_kept v (symbol x) s l h = refl
    constants_kept v (literal d) s l h = refl
    constants_kept v (local k) s l h = refl
    constants_kept v (global x) s l h = refl
    constants_kept v (set_local k e) s l h = constants_kept None e s l h
    constants_kept v (set_global x e) s l h = constants_kept None e s l h
    constants_kept v (define x e) s l h = constants_kept (Some x) e s l h
    constants_kept v (branch a b c) s l h =
        let k = and_parts (draft_in_range a) _ h in
        let m = and_parts (draft_in_range b) _ k.1 in
        and_from _ _ (constants_kept None a s l k.0)
        (and_from _ _ (constants_kept None b (s + length (widths a)) (l + length (quotes_in a)) m.0)
        (constants_kept None c (s + length (widths a) + length (widths b)) (l + length (quotes_in a) + length (quotes_in b)) m.1))
    constants_kept v (sequence es) s l h = all_constants_kept [] es s l h
    constants_kept v (bind vs es e) s l h =
        let k = and_parts (drafts_in_range es) _ h in
        and_from _ _ (all_constants_kept vs es (s + 1) l k.0) (constants_kept None e (s + 1 + length (widths_of_each es)) (l + length (quotes_in_each es)) k.1)
    constants_kept v (letrec vs p es e) s l h =
        let n = s + length (unless_group (is_group p es e) (count es)) in
        let k = and_parts (drafts_in_range es) _ h in
        grouped_ranged (is_group p es e) s _ _ (all_constants_kept vs es n l k.0) (constants_kept None e (n + length (widths_of_each es)) (l + length (quotes_in_each es)) k.1)
    constants_kept v (lambda n r e) s l h = constants_kept None e s l h
    constants_kept v (call vs f es) s l h =
        let k = and_parts (draft_in_range f) _ h in
        and_from _ _ (constants_kept None f (s + 1) l k.0) (all_constants_kept vs es (s + 1 + length (widths f)) (l + length (quotes_in f)) k.1)
    constants_kept v (operation p es) s l h = all_constants_kept [] es (s + 1) l h

    all_constants_kept : (vs : VariableNames) (es : Drafts) (s l : ℕ) → HaveConstants es → ranged_each (numbered_each own globals symbols vs es s l) ≡ true
    all_constants_kept vs no_drafts s l h = refl
    all_constants_kept vs (and_draft e es) s l h =
        let k = and_parts (draft_in_range e) _ h in
        and_from _ _ (constants_kept (first_of vs) e s l k.0) (all_constants_kept (rest_of vs) es (s + length (widths e)) (l + length (quotes_in e)) k.1)

procedures_ranged : (globals symbols : List (List ℕ)) (ds : List Definition) (s l : ℕ) → BodiesHaveConstants ds → ranged_lambdas (procedures globals symbols ds s l) ≡ true
procedures_ranged globals symbols [] s l h = refl
procedures_ranged globals symbols (d ∷ ds) s l h =
    let k = and_parts (draft_in_range d.body) _ h in
    and_from _ _ (constants_kept [] globals symbols None d.body s l k.0) (procedures_ranged globals symbols ds (s + length (widths d.body)) (l + length (quotes_in d.body)) k.1)

pub program_ranged : (ds : List Definition) (own held : List (List ℕ)) (forms : Drafts) → BodiesHaveConstants ds → HaveConstants forms → trees_in_range (program_with ds own held forms) ≡ true
program_ranged ds own held forms h k =
    let globals = firsts [] (globals_of_each ds ++ globals_in_each own forms) in
    let symbols = firsts [] (symbols_of_each ds ++ symbols_in_each forms) in
    and_from _ _ (procedures_ranged globals symbols ds 0 0 h) (all_constants_kept own globals symbols [] forms (length (widths_of_definitions ds)) (length (quotes_of_each ds)) k)
