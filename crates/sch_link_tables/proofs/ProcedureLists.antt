-- The procedures that expressions are, one after another.
use Rattle.std.proofs.Common.{◌≡◌, List, [], ◌∷◌, ◌++◌, map, reverse, refl, sym, ap, ◌∙◌}
use Rattle.std.proofs.lemmas.List.{map-append, reverse-append, reverse-reverse}
use Rattle.sch_lang.specs.declared.tree.Exp.{Exp}
use Rattle.sch_lang.specs.declared.tree.Lambda.{Lambda}
use Rattle.sch_lang.specs.Tree.{Expressions, Lambdas, Function, lambdas, and_expression, and_lambda, no_lambdas}
use Rattle.sch_lang.specs.View.{expression, expressions_of, function, lambdas_of}
use Rattle.sch_lang.proofs.ListViews.{expressions_of_list, lambdas_of_list, left}
use Rattle.sch_link_tables.specs.Numbered.{procedures_of}

-- lambdas that were made, and then others
abbrev pub onto : List Function → Lambdas → Lambdas
onto [] rest = rest
onto (f ∷ fs) rest = and_lambda f.name f.formals f.rest f.body (onto fs rest)

pub onto_none : (fs : List Function) → onto fs no_lambdas ≡ lambdas fs
onto_none [] = refl
onto_none (f ∷ fs) = ap (and_lambda f.name f.formals f.rest f.body) (onto_none fs)

pub onto_more : (fs : List Function) (f : Function) (rest : Lambdas) → onto (fs ++ f ∷ []) rest ≡ onto fs (and_lambda f.name f.formals f.rest f.body rest)
onto_more [] f rest = refl
onto_more (g ∷ fs) f rest = ap (and_lambda g.name g.formals g.rest g.body) (onto_more fs f rest)

pub next_procedure : (items rest : List Exp) (e : Exp) (all : List Lambda) (l : Lambda) (r : Lambdas) → items ≡ rest ++ e ∷ [] →
    ((es : Expressions) → procedures_of (and_expression (expression e) es) ≡ and_lambda l.name l.formals l.rest (expression l.body) (procedures_of es)) →
    onto (map function all) (procedures_of (left (reverse items))) ≡ r → onto (map function (all ++ l ∷ [])) (procedures_of (left (reverse rest))) ≡ r
next_procedure items rest e all l r h p k =
    let k' = rw (h, reverse-append rest (e ∷ []), p (left (reverse rest))) at k in
    rw (map-append, onto_more) k'

pub no_procedure : (items : List Exp) (all : List Lambda) (r : Lambdas) → items ≡ [] → onto (map function all) (procedures_of (left (reverse items))) ≡ r → lambdas_of all ≡ r
no_procedure items all r h k =
    let k' = rw h at k in
    lambdas_of_list all ∙ sym (onto_none (map function all)) ∙ k'

pub all_left : (es items : List Exp) (all : List Lambda) → all ≡ [] → items ≡ reverse es → onto (map function all) (procedures_of (left (reverse items))) ≡ procedures_of (expressions_of es)
all_left es items all e h = rw (e, h, reverse-reverse es) (ap procedures_of (sym (expressions_of_list es)))
