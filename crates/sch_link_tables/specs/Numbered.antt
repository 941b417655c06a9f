-- The expression of a draft: symbols, literals, globals and sites have numbers.
use Rattle.std.specs.Prelude.{ℕ, ◌+◌, Bool, true, false, List, [], ◌∷◌, length, Option, Some, None, codes}
use Rattle.sch_word.specs.declared.constant.Const.TheVariants.{Symbol}
use Rattle.sch_word.specs.values.Options.{rest_of}
use Rattle.sch_lang.specs.Tree as tree
use Rattle.sch_lang.specs.Tree.{Expression, Expressions, Lambdas, no_expressions, and_expression, no_lambdas, and_lambda}
use Rattle.sch_names.specs.NamesView.{number_of}
use Rattle.sch_names.specs.Scope.{VariableNames}
use Rattle.sch_sketch.specs.Draft.{Draft, Drafts, constant, symbol, literal, local, global, set_local, set_global, define, branch, sequence, bind, letrec, lambda, call, operation, no_drafts, and_draft, count}
use Rattle.sch_link_tables.specs.Named.{global_of}
use Rattle.sch_link_tables.specs.Quoted.{quotes_in, quotes_in_each}
use Rattle.sch_link_tables.specs.Assigned.{is_group}
use Rattle.sch_link_tables.specs.Sites.{unless_group, widths, widths_of_each}

-- the name of a procedure's body in a listing: that of the variable whose init it is, if that has one
abbrev pub body_name : Option (List ℕ) → List ℕ
body_name (Some x) = x
body_name None = codes "lambda"

-- the first of some names; where there is none, the variable has no name
abbrev pub first_of : VariableNames → Option (List ℕ)
first_of [] = None
first_of (v ∷ vs) = v

-- The procedures that expressions are. What is no procedure, which does not occur in a group, stands for one
-- without formals.
abbrev pub procedures_of : Expressions → Lambdas
procedures_of no_expressions = no_lambdas
procedures_of (and_expression (tree.lambda name formals rest e) es) = and_lambda name formals rest e (procedures_of es)
procedures_of (and_expression e es) = and_lambda [] 0 false e (procedures_of es)

abbrev pub grouped : (group : Bool) → (site : ℕ) → Expressions → Expression → Expression
grouped true site es e = tree.fix (procedures_of es) e
grouped false site es e = tree.letrec site es e

-- A draft with the numbers of its sites from s on and those of its literals from l on; `v` is the name of the
-- variable whose init it is.
module _ (own globals symbols : List (List ℕ)) where
  abbrev mutual
    pub numbered : (v : Option (List ℕ)) → Draft → (s l : ℕ) → Expression
    numbered v (constant c) s l = tree.constant c
    numbered v (symbol x) s l = tree.constant (Symbol (number_of x symbols))
    numbered v (literal d) s l = tree.literal l
    numbered v (local k) s l = tree.local k
    numbered v (global x) s l = tree.global (number_of (global_of own x) globals)
    numbered v (set_local k e) s l = tree.set_local k (numbered None e s l)
    numbered v (set_global x e) s l = tree.set_global (number_of (global_of own x) globals) (numbered None e s l)
    numbered v (define x e) s l = tree.define (number_of (global_of own x) globals) (numbered (Some x) e s l)
    numbered v (branch a b c) s l =
        tree.branch (numbered None a s l) (numbered None b (s + length (widths a)) (l + length (quotes_in a)))
        (numbered None c (s + length (widths a) + length (widths b)) (l + length (quotes_in a) + length (quotes_in b)))
    numbered v (sequence es) s l = tree.sequence (numbered_each [] es s l)
    numbered v (bind vs es e) s l =
        tree.bind s (numbered_each vs es (s + 1) l) (numbered None e (s + 1 + length (widths_of_each es)) (l + length (quotes_in_each es)))
    numbered v (letrec vs p es e) s l =
        grouped (is_group p es e) s (numbered_each vs es (s + length (unless_group (is_group p es e) (count es))) l)
        (numbered None e (s + length (unless_group (is_group p es e) (count es)) + length (widths_of_each es)) (l + length (quotes_in_each es)))
    numbered v (lambda n r e) s l = tree.lambda (body_name v) n r (numbered None e s l)
    numbered v (call vs f es) s l =
        tree.call s (numbered None f (s + 1) l) (numbered_each vs es (s + 1 + length (widths f)) (l + length (quotes_in f)))
    numbered v (operation p es) s l = tree.operation s p (numbered_each [] es (s + 1) l)

    pub numbered_each : VariableNames → Drafts → (s l : ℕ) → Expressions
    numbered_each vs no_drafts s l = no_expressions
    numbered_each vs (and_draft e es) s l =
        and_expression (numbered (first_of vs) e s l) (numbered_each (rest_of vs) es (s + length (widths e)) (l + length (quotes_in e)))
