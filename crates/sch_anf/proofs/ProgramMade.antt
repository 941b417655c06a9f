-- What is needed to make a whole program, and what is made of its parts.
use Rattle.std.proofs.Common.{◌≡◌, ℕ, zero, suc, ◌+◌, ◌-◌, ◌<◌, ◌≤◌, ◌^◌, Bool, true, List, [], ◌∷◌, length, map, get_or, refl, sym, ap, ◌∙◌, subst, arith}
use Rattle.std.specs.Prelude.{nat_eq, slice_get, ◌&&◌}
use Rattle.std.specs.List.{list_all}
use Rattle.std.specs.List.Sorted.{IsNonDecreasing}
use Rattle.std.proofs.lemmas.Bool.{eqb-true}
use Rattle.std.proofs.lemmas.List.{length-map}
use Rattle.sch_word.specs.declared.statics.Statics.{Statics}
use Rattle.sch_word.specs.values.StaticsView.{statics}
use Rattle.sch_word.proofs.facts.Booleans.{and_left, and_right}
use Rattle.sch_flat.specs.declared.tree.Body as flat_body
use Rattle.sch_flat.specs.declared.tree.Exp.{Exp}
use Rattle.sch_flat.specs.Tree.{Source, count}
use Rattle.sch_flat.specs.Valid.{is_closed, is_formed, in_order, sited, statics_known, constants_in_range, ascending, body_scoped, scoped_each, has_fields}
use Rattle.sch_flat.specs.View.{body, trees_of}
use Rattle.sch_control.specs.declared.body.Body as control_body
use Rattle.sch_control.specs.SourceView.{source_of, codes_of}
use Rattle.sch_control.specs.Valid.{code_valid}
use Rattle.sch_anf_laws.specs.LabelsFit.{LabelsFitEach, LabelsOfBodies}
use Rattle.sch_anf_laws.specs.Normal.{new_label, normal_bodies, normal_source, bound_parts}
use Rattle.sch_anf.proofs.CodeLists.{sorted, label_fits, labels_fit_each, labels_fit_bodies}
use Rattle.sch_anf_laws.proofs.valid.ValidProgram.{bodies_valid}

-- ## What the walk is given

pub record Given (starts : List ℕ) (bodies : List flat_body.Body) (forms : List Exp) : Type 0 where
  pub sorted : IsNonDecreasing starts
  pub starts_match : length starts ≡ count (trees_of forms)
  pub ascends : ascending 0 (length bodies) starts ≡ true
  pub bodies_fit : LabelsOfBodies (length starts) (map body bodies)
  pub forms_fit : LabelsFitEach (length starts) (trees_of forms)
  pub valid : list_all code_valid (normal_bodies starts 0 (map body bodies) (trees_of forms) starts) ≡ true

-- the labels of procedures and forms are numbers of 32 bits
pub few_labels : (p : Source) → in_order p ≡ true → length p.bodies + count p.forms < 2 ^ 32 - 2 ^ 10 → length p.bodies + length p.starts ≤ 2 ^ 32
few_labels p ascends few =
    let matched = eqb-true (length p.starts) (count p.forms) (and_left (nat_eq (length p.starts) (count p.forms)) (ascending 0 (length p.bodies) p.starts) ascends) in
    omega (arith, few, matched)

-- the same of the lists that the code has
pub few_bodies : (starts starts' : List ℕ) (bodies bodies' : List flat_body.Body) → starts' ≡ starts → bodies' ≡ bodies → length (map body bodies) + length starts ≤ 2 ^ 32
    → length bodies' + length starts' ≤ 2 ^ 32
few_bodies starts starts' bodies bodies' s b h = let m = length-map bodies body in let l = ap length s in let k = ap length b in omega (arith, h, m, l, k)

module _ (p : Source) (few : length p.bodies + length p.starts ≤ 2 ^ 32) where
  module _ (closed : is_closed p ≡ true) (ascends : in_order p ≡ true) where
    abbrev forms_scoped : Bool
    forms_scoped = scoped_each p.bodies p.forms [] 0

    abbrev library_scoped : Bool
    library_scoped = list_all (λ label. has_fields (slice_get p.bodies label) 0) p.library

    starts_match : length p.starts ≡ count p.forms
    starts_match = eqb-true (length p.starts) (count p.forms) (and_left (nat_eq (length p.starts) (count p.forms)) (ascending 0 (length p.bodies) p.starts) ascends)

    up : ascending 0 (length p.bodies) p.starts ≡ true
    up = and_right (nat_eq (length p.starts) (count p.forms)) (ascending 0 (length p.bodies) p.starts) ascends

    rising : IsNonDecreasing p.starts
    rising = sorted 0 (length p.bodies) p.starts up

    bodies_fit : LabelsOfBodies (length p.starts) p.bodies
    bodies_fit = labels_fit_bodies p.bodies (length p.starts) few p.bodies (and_left (list_all (body_scoped p.bodies) p.bodies) (forms_scoped && library_scoped) closed)

    forms_fit : LabelsFitEach (length p.starts) p.forms
    forms_fit = labels_fit_each p.bodies (length p.starts) few p.forms [] 0
        (and_left forms_scoped library_scoped (and_right (list_all (body_scoped p.bodies) p.bodies) (forms_scoped && library_scoped) closed))

    each_fits : (labels : List ℕ) → list_all (λ label. has_fields (slice_get p.bodies label) 0) labels ≡ true → (k : ℕ) → k < length labels → get_or labels k 0 + length p.starts < 2 ^ 32
    each_fits [] h k l = absurd (omega (arith, l))
    each_fits (label ∷ labels) h zero l = label_fits p.bodies (length p.starts) few label 0
        (and_left (has_fields (slice_get p.bodies label) 0) (list_all (λ label. has_fields (slice_get p.bodies label) 0) labels) h)
    each_fits (label ∷ labels) h (suc k) l = each_fits labels (and_right (has_fields (slice_get p.bodies label) 0) (list_all (λ label. has_fields (slice_get p.bodies label) 0) labels) h) k
        (omega (arith, l))

    pub library_fits : (k : ℕ) → k < length p.library → get_or p.library k 0 + length p.starts < 2 ^ 32
    library_fits = each_fits p.library (and_right forms_scoped library_scoped (and_right (list_all (body_scoped p.bodies) p.bodies) (forms_scoped && library_scoped) closed))

pub given : (starts : List ℕ) (bodies : List flat_body.Body) (forms : List Exp) (p : Source) → p.starts ≡ starts → p.bodies ≡ map body bodies → p.forms ≡ trees_of forms
    → length p.bodies + length p.starts ≤ 2 ^ 32 → is_closed p ≡ true → is_formed p ≡ true → in_order p ≡ true → sited p ≡ true → statics_known p ≡ true → constants_in_range p ≡ true
    → Given starts bodies forms
given starts bodies forms p s b f few closed formed ascends once ready words = record {
  sorted = subst IsNonDecreasing s (rising p few closed ascends);
  starts_match = ap length (sym s) ∙ starts_match p few closed ascends ∙ ap count f;
  ascends = subst (λ n. ascending 0 n starts ≡ true) (ap length b ∙ length-map bodies body) (subst (λ l. ascending 0 (length p.bodies) l ≡ true) s (up p few closed ascends));
  bodies_fit = subst (λ bs. LabelsOfBodies (length starts) bs) b (subst (λ l. LabelsOfBodies (length l) p.bodies) s (bodies_fit p few closed ascends));
  forms_fit = subst (λ ts. LabelsFitEach (length starts) ts) f (subst (λ l. LabelsFitEach (length l) p.forms) s (forms_fit p few closed ascends));
  valid = subst (λ ts. list_all code_valid (normal_bodies starts 0 (map body bodies) ts starts) ≡ true) f
      (subst (λ bs. list_all code_valid (normal_bodies starts 0 bs p.forms starts) ≡ true) b
      (subst (λ l. list_all code_valid (normal_bodies l 0 p.bodies p.forms l) ≡ true) s (bodies_valid p closed formed ascends once ready words)));
}

-- ## The program

pub made_program : (p : Source) (ready : Statics) (library sites : List ℕ) (bodies : List control_body.Body) (bound : List (List ℕ)) → statics ready ≡ p.statics
    → library ≡ map (new_label p.starts) p.library → codes_of bodies ≡ normal_bodies p.starts 0 p.bodies p.forms p.starts
    → sites ≡ p.sites → bound ≡ bound_parts p → source_of ready library bodies sites bound ≡ normal_source p
made_program p ready library sites bodies bound a b c d e = rw (a, b, c, d, e) refl
