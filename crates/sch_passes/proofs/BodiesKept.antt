-- The bodies of a control program: their names, how many variables and sequences each has, and the most variables of one.
use Rattle.std.proofs.Common.{◌≡◌, ℕ, ◌+◌, ◌-◌, ◌≤◌, true, List, [], ◌∷◌, ◌++◌, map, take, drop, refl, sym, ap, ◌∙◌, arith}
use Rattle.std.specs.Prelude.{nat_le}
use Rattle.std.proofs.lemmas.Bool.{leb-true}
use Rattle.std.proofs.lemmas.List.{take-map, drop-map}
use Rattle.sch_word.specs.trees.Shape.{Procedure}
use Rattle.sch_word.proofs.facts.Booleans.{and_left, and_right}
use Rattle.sch_cells.specs.Tree as cells
use Rattle.sch_cells.specs.Bodies.{bodies_of}
use Rattle.sch_flat.specs.Tree.{Trees, no_trees, and_tree, Body, Source}
use Rattle.sch_flat.specs.Measures.{body_variables, variables}
use Rattle.sch_control.specs.Tree as control
use Rattle.sch_control.specs.Sizes.{most_variables}
use Rattle.sch_lang.specs.Bodies.{largest}
use Rattle.sch_closure.specs.Closed.{closed_source}
use Rattle.sch_closure.specs.Kept.{procedure_of, procedures_in, flat_forms, forms_in}
use Rattle.sch_control.specs.Sizes.{bind_within, sequences_within}
use Rattle.sch_anf_laws.specs.Counted.{in_order, form_variables, BindNoMore, FewSequences}
use Rattle.sch_anf_laws.specs.Normal.{normal_bodies, normal_source, procedure_code, form_code}
use Rattle.sch_passes.proofs.BodyOrder.{bodies_in_order, map_in_order}

-- the procedures and forms of a flat program, in the order of the bodies that are made of them
abbrev pub in_flat_order : Source → List Procedure
in_flat_order f = in_order 0 (map procedure_of f.bodies) (flat_forms f.forms) f.starts

pub flat_order : (f : Source) (p : cells.Source) → f ≡ closed_source p → map procedure_of f.bodies ≡ procedures_in p → flat_forms f.forms ≡ forms_in p.forms
    → in_flat_order f ≡ bodies_of p
flat_order f p made bodies forms =
    ap (λ l. in_order 0 l (flat_forms f.forms) f.starts) bodies
    ∙ ap (λ l. in_order 0 (procedures_in p) l f.starts) forms
    ∙ ap (λ s. in_order 0 (procedures_in p) (forms_in p.forms) s.starts) made
    ∙ bodies_in_order p

-- ## Names

abbrev procedure_name : Procedure → List ℕ
procedure_name p = p.name

abbrev code_name : control.Code → List ℕ
code_name c = c.name

module _ (places : List ℕ) where
  abbrev form_codes : Trees → List control.Code
  form_codes no_trees = []
  form_codes (and_tree e es) = form_code places e ∷ form_codes es

  codes_in_order : (forms : Trees) (left : List ℕ) (bodies : List Body) (before : ℕ)
      → normal_bodies places before bodies forms left ≡ in_order before (map (procedure_code places) bodies) (form_codes forms) left
  codes_in_order no_trees left bodies before = refl
  codes_in_order (and_tree e es) [] bodies before = ap (λ l. form_code places e ∷ l) (codes_in_order es [] bodies before)
  codes_in_order (and_tree e es) (place ∷ left) bodies before =
      rw (take-map (procedure_code places) (place - before) bodies, drop-map (procedure_code places) (place - before) bodies)
      (ap (λ l. map (procedure_code places) (take (place - before) bodies) ++ form_code places e ∷ l) (codes_in_order es left (drop (place - before) bodies) place))

  procedure_names : (bs : List Body) → map code_name (map (procedure_code places) bs) ≡ map procedure_name (map procedure_of bs)
  procedure_names [] = refl
  procedure_names (b ∷ bs) = ap (λ l. b.name ∷ l) (procedure_names bs)

  form_names : (es : Trees) → map code_name (form_codes es) ≡ map procedure_name (flat_forms es)
  form_names no_trees = refl
  form_names (and_tree e es) = ap (λ l. code_name (form_code places e) ∷ l) (form_names es)

names_in_order : (f : Source) → map code_name (normal_source f).bodies ≡ map procedure_name (in_flat_order f)
names_in_order f =
    let codes = map (procedure_code f.starts) f.bodies in
    let forms = form_codes f.starts f.forms in
    ap (map code_name) (codes_in_order f.starts f.forms f.starts f.bodies 0)
    ∙ map_in_order code_name forms f.starts codes 0
    ∙ ap (λ l. in_order 0 l (map code_name forms) f.starts) (procedure_names f.starts f.bodies)
    ∙ ap (λ l. in_order 0 (map procedure_name (map procedure_of f.bodies)) l f.starts) (form_names f.starts f.forms)
    ∙ sym (map_in_order procedure_name (flat_forms f.forms) f.starts (map procedure_of f.bodies) 0)

pub names_kept : (f : Source) (q : control.Source) (bodies : List Procedure) → q ≡ normal_source f → in_flat_order f ≡ bodies → map (λ c. c.name) q.bodies ≡ map (λ b. b.name) bodies
names_kept f q bodies made order = ap (λ s. map code_name s.bodies) made ∙ names_in_order f ∙ ap (map procedure_name) order

-- ## Variables and sequences

abbrev procedure_variables : Procedure → ℕ
procedure_variables p = p.variables

body_counts : (bs : List Body) → map procedure_variables (map procedure_of bs) ≡ map body_variables bs
body_counts [] = refl
body_counts (b ∷ bs) = ap (λ l. body_variables b ∷ l) (body_counts bs)

form_counts : (es : Trees) → map procedure_variables (flat_forms es) ≡ form_variables es
form_counts no_trees = refl
form_counts (and_tree e es) = ap (λ l. variables e ∷ l) (form_counts es)

counts_in_order : (f : Source) → map procedure_variables (in_flat_order f) ≡ in_order 0 (map body_variables f.bodies) (form_variables f.forms) f.starts
counts_in_order f =
    map_in_order procedure_variables (flat_forms f.forms) f.starts (map procedure_of f.bodies) 0
    ∙ ap (λ l. in_order 0 l (map procedure_variables (flat_forms f.forms)) f.starts) (body_counts f.bodies)
    ∙ ap (λ l. in_order 0 (map body_variables f.bodies) l f.starts) (form_counts f.forms)

within_largest : (cs : List control.Code) (ps : List Procedure) → bind_within cs (map procedure_variables ps) ≡ true → most_variables cs ≤ 2 + largest ps
within_largest [] [] h = omega arith
within_largest [] (p ∷ ps) h = absurd cc
within_largest (c ∷ cs) [] h = absurd cc
within_largest (c ∷ cs) (p ∷ ps) h =
    let here = leb-true c.variables (2 + p.variables) (and_left (nat_le c.variables (2 + p.variables)) (bind_within cs (map procedure_variables ps)) h) in
    let later = within_largest cs ps (and_right (nat_le c.variables (2 + p.variables)) (bind_within cs (map procedure_variables ps)) h) in
    omega (arith, here, later)

pub each_within : (f : Source) (q : control.Source) (bodies : List Procedure) → BindNoMore f q → in_flat_order f ≡ bodies → bind_within q.bodies (map (λ b. b.variables) bodies) ≡ true
each_within f q bodies within order = ap (λ l. bind_within q.bodies l) (sym (ap (map procedure_variables) order) ∙ counts_in_order f) ∙ within

pub variables_kept : (f : Source) (q : control.Source) (bodies : List Procedure) → BindNoMore f q → in_flat_order f ≡ bodies → most_variables q.bodies ≤ 2 + largest bodies
variables_kept f q bodies within order = within_largest q.bodies bodies (each_within f q bodies within order)

pub sequences_kept : (f : Source) (q : control.Source) (bodies : List Procedure) → FewSequences f q → in_flat_order f ≡ bodies
    → sequences_within q.bodies (map (λ b. b.variables) bodies) ≡ true
sequences_kept f q bodies few order =
    ap (λ l. sequences_within q.bodies l) (sym (ap (map procedure_variables) order) ∙ counts_in_order f) ∙ few
