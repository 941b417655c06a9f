-- What is needed to make the bodies of a program, and the turns of the loops that make them.
use Rattle.std.proofs.Common.{◌≡◌, ℕ, zero, suc, ◌+◌, ◌-◌, ◌<◌, ◌≤◌, ◌^◌, true, false, List, [], ◌∷◌, ◌++◌, length, map, take, drop, get_or, Option, Some, None, refl, sym, ap, ◌∙◌, subst, arith, add-one, length-drop, append_assoc, append-nil, drop-drop}
use Rattle.std.specs.Prelude.{slice_get, nat_le, ◌&&◌, codes}
use Rattle.std.specs.List.{list_all}
use Rattle.std.specs.List.Sorted.{IsNonDecreasing}
use Rattle.std.proofs.lemmas.Bool.{leb-true}
use Rattle.std.proofs.lemmas.List.{drop_all, drop-map, take-map, get_or_default}
use Rattle.std.proofs.lemmas.List.Folds.{list_all-append}
use Rattle.std.proofs.lemmas.Option.{slice_get_within}
use Rattle.std.proofs.Math.Seq.{take-length}
use Rattle.sch_word.proofs.Walking.{next_left}
use Rattle.sch_word.proofs.facts.Lists.{next_left as next_is}
use Rattle.sch_flat.specs.declared.tree.Exp.{Exp}
use Rattle.sch_flat.specs.declared.tree.Body as flat_body
use Rattle.sch_flat.specs.Tree.{Tree, Trees, Made, Body, constant, literal, variable, global, set_global, define, branch, sequence, bind, make_closure, fix_closures, call, operation, new_cells, cell_get, cell_set, no_trees, and_tree, count}
use Rattle.sch_flat.specs.Valid.{ascending, scoped, scoped_each, body_scoped, has_fields, is_made, is_known, is_content, all_new, cell_variables, cells_scope}
use Rattle.sch_flat.specs.View.{tree, body}
use Rattle.sch_word.specs.trees.Bindings.{numbers, scope_with, with_variables}
use Rattle.sch_word.proofs.facts.Booleans.{and_left, and_right}
use Rattle.sch_control.specs.declared.body.Body as control_body
use Rattle.sch_control.specs.SourceView.{code_of, codes_of}
use Rattle.sch_control.specs.Tree.{Code, Expression, end}
use Rattle.sch_control.specs.Valid.{code_valid, in_scope_whole, numbered, ended, shaped_whole, fields_known, max_body_variables}
use Rattle.sch_anf_laws.specs.LabelsFit.{LabelsOfMade, LabelsFit, LabelsFitEach, LabelsOfBodies}
use Rattle.sch_anf_laws.specs.Normal.{Scope, binds, normal, procedure_code, form_code, normal_bodies}
use Rattle.sch_anf_laws.proofs.runs.Bodies.{ascending_last}
use Rattle.sch_anf_laws.proofs.Items.{left}

-- ## Valid bodies

-- the promises of a body's type
pub record Promises (c : Code) : Type 0 where
  pub scoped : in_scope_whole c ≡ true
  pub numbered : numbered c ≡ true
  pub ended : ended c ≡ true
  pub shaped : shaped_whole c ≡ true
  pub fields : fields_known c ≡ true

pub promises : (c : Code) → code_valid c ≡ true → Promises c
promises c h =
    let h1 = and_right (in_scope_whole c) (numbered c && (ended c && (shaped_whole c && fields_known c))) h in
    let h2 = and_right (numbered c) (ended c && (shaped_whole c && fields_known c)) h1 in
    let h3 = and_right (ended c) (shaped_whole c && fields_known c) h2 in
    record {
      scoped = and_left (in_scope_whole c) (numbered c && (ended c && (shaped_whole c && fields_known c))) h;
      numbered = and_left (numbered c) (ended c && (shaped_whole c && fields_known c)) h1;
      ended = and_left (ended c) (shaped_whole c && fields_known c) h2;
      shaped = and_left (shaped_whole c) (fields_known c) h3;
      fields = and_right (shaped_whole c) (fields_known c) h3;
    }

pub few_variables : (c : Code) → code_valid c ≡ true → c.variables ≤ max_body_variables
few_variables c h = leb-true c.variables max_body_variables (and_left (nat_le c.variables max_body_variables) _ (promises c h).numbered)

-- ## Labels

module _ (bodies : List Body) (more : ℕ) (few : length bodies + more ≤ 2 ^ 32) where
  there : (o : Option Body) (n : ℕ) → has_fields o n ≡ true → (b : Body) × (o ≡ Some b)
  there None n h = absurd (cc)
  there (Some b) n h = (b, refl)

  pub label_fits : (label n : ℕ) → has_fields (slice_get bodies label) n ≡ true → label + more < 2 ^ 32
  label_fits label n h = let t = there (slice_get bodies label) n h in let k = slice_get_within bodies label t.0 t.1 in omega (arith, k, few)

  made_fits : (names : List ℕ) (fields : ℕ) (m : Made) → is_made bodies names fields m ≡ true → m.label + more < 2 ^ 32
  made_fits names fields m h = label_fits m.label (length m.fields) (and_right (list_all (is_known names fields) m.fields) (has_fields (slice_get bodies m.label) (length m.fields)) h)

  all_fit : (names : List ℕ) (fields : ℕ) (ms : List Made) → list_all (is_made bodies names fields) ms ≡ true → LabelsOfMade more ms
  all_fit names fields [] h = tt
  all_fit names fields (m ∷ ms) h = (
    made_fits names fields m (and_left (is_made bodies names fields m) (list_all (is_made bodies names fields) ms) h),
    all_fit names fields ms (and_right (is_made bodies names fields m) (list_all (is_made bodies names fields) ms) h),
  )

  mutual
    pub labels_fit : (e : Tree) (names : List ℕ) (fields : ℕ) → scoped bodies e names fields ≡ true → LabelsFit more e
    labels_fit (constant c) names fields h = tt
    labels_fit (literal k) names fields h = tt
    labels_fit (variable v) names fields h = tt
    labels_fit (global g) names fields h = tt
    labels_fit (set_global g e) names fields h = labels_fit e names fields h
    labels_fit (define g e) names fields h = labels_fit e names fields h
    labels_fit (branch a b c) names fields h =
        let h' = and_right (scoped bodies a names fields) (scoped bodies b names fields && scoped bodies c names fields) h in (
          labels_fit a names fields (and_left (scoped bodies a names fields) (scoped bodies b names fields && scoped bodies c names fields) h),
          labels_fit b names fields (and_left (scoped bodies b names fields) (scoped bodies c names fields) h'),
          labels_fit c names fields (and_right (scoped bodies b names fields) (scoped bodies c names fields) h'),
        )
    labels_fit (sequence es) names fields h = labels_fit_each es names fields h
    labels_fit (bind site first es e) names fields h =
        let inner = scope_with first (count es) names in
        let h' = and_right (scoped_each bodies es names fields) (all_new (numbers first (count es)) names && scoped bodies e inner fields) h in (
          labels_fit_each es names fields (and_left (scoped_each bodies es names fields) (all_new (numbers first (count es)) names && scoped bodies e inner fields) h),
          labels_fit e inner fields (and_right (all_new (numbers first (count es)) names) (scoped bodies e inner fields) h'),
        )
    labels_fit (make_closure m) names fields h = made_fits names fields m h
    labels_fit (fix_closures first ms e) names fields h =
        let inner = scope_with first (length ms) names in
        let h' = and_right (all_new (numbers first (length ms)) names) (list_all (is_made bodies inner fields) ms && scoped bodies e inner fields) h in (
          all_fit inner fields ms (and_left (list_all (is_made bodies inner fields) ms) (scoped bodies e inner fields) h'),
          labels_fit e inner fields (and_right (list_all (is_made bodies inner fields) ms) (scoped bodies e inner fields) h'),
        )
    labels_fit (call site spread f es) names fields h = (
      labels_fit f names fields (and_left (scoped bodies f names fields) (scoped_each bodies es names fields) h),
      labels_fit_each es names fields (and_right (scoped bodies f names fields) (scoped_each bodies es names fields) h),
    )
    labels_fit (operation site which es) names fields h = labels_fit_each es names fields h
    labels_fit (new_cells cs e) names fields h =
        let h' = and_right (list_all (λ c. is_content names fields c.content) cs) (all_new (cell_variables cs) names && scoped bodies e (cells_scope cs names) fields) h in
        labels_fit e (cells_scope cs names) fields (and_right (all_new (cell_variables cs) names) (scoped bodies e (cells_scope cs names) fields) h')
    labels_fit (cell_get v) names fields h = tt
    labels_fit (cell_set v e) names fields h = labels_fit e names fields (and_right (is_known names fields v) (scoped bodies e names fields) h)

    pub labels_fit_each : (es : Trees) (names : List ℕ) (fields : ℕ) → scoped_each bodies es names fields ≡ true → LabelsFitEach more es
    labels_fit_each no_trees names fields h = tt
    labels_fit_each (and_tree e es) names fields h = (
      labels_fit e names fields (and_left (scoped bodies e names fields) (scoped_each bodies es names fields) h),
      labels_fit_each es names fields (and_right (scoped bodies e names fields) (scoped_each bodies es names fields) h),
    )

  pub labels_fit_bodies : (bs : List Body) → list_all (body_scoped bodies) bs ≡ true → LabelsOfBodies more bs
  labels_fit_bodies [] h = tt
  labels_fit_bodies (b ∷ bs) h = (
    labels_fit b.code (scope_with b.first b.formals []) b.fields (and_left (body_scoped bodies b) (list_all (body_scoped bodies) bs) h),
    labels_fit_bodies bs (and_right (body_scoped bodies b) (list_all (body_scoped bodies) bs) h),
  )

-- ## Numbers in order

at_least : (from last : ℕ) (xs : List ℕ) → ascending from last xs ≡ true → (j d : ℕ) → j < length xs → from ≤ get_or xs j d
at_least from last [] h j d l = absurd (omega (arith, l))
at_least from last (x ∷ xs) h zero d l = leb-true from x (and_left (nat_le from x) (ascending x last xs) h)
at_least from last (x ∷ xs) h (suc j) d l =
    let here = leb-true from x (and_left (nat_le from x) (ascending x last xs) h) in
    let more = at_least x last xs (and_right (nat_le from x) (ascending x last xs) h) j d (omega (arith, l)) in
    omega (arith, here, more)

pub sorted : (from last : ℕ) (xs : List ℕ) → ascending from last xs ≡ true → IsNonDecreasing xs
sorted from last [] h i j d l m = absurd (omega (arith, m))
sorted from last (x ∷ xs) h zero zero d l m = omega arith
sorted from last (x ∷ xs) h zero (suc j) d l m = at_least x last xs (and_right (nat_le from x) (ascending x last xs) h) j d (omega (arith, m))
sorted from last (x ∷ xs) h (suc i) zero d l m = absurd (omega (arith, l))
sorted from last (x ∷ xs) h (suc i) (suc j) d l m = sorted x last xs (and_right (nat_le from x) (ascending x last xs) h) i j d (omega (arith, l)) (omega (arith, m))

-- ## Lists of bodies

pub codes_append : (xs ys : List control_body.Body) → codes_of (xs ++ ys) ≡ codes_of xs ++ codes_of ys
codes_append [] ys = refl
codes_append (x ∷ xs) ys = ap (λ r. code_of x ∷ r) (codes_append xs ys)

-- ## One body

pub procedure_is : (starts : List ℕ) (b : Body) (name : List ℕ) (first next : ℕ) (scope : Scope) (e : Expression) → name ≡ b.name → scope ≡ with_variables b.first (numbers 2 b.formals) []
    → first ≡ 2 + b.formals → next ≡ first + binds b.code → e ≡ normal starts true b.code scope first
    → record { name = name; entry = Some (record { formals = b.formals; rest = b.rest; fields = b.fields }); variables = next; expression = e } ≡ procedure_code starts b
procedure_is starts b name first next scope e p q r s t =
    let v : next ≡ 2 + (b.formals + binds b.code) = omega (arith, r, s) in
    rw (p, v, t, q, r) refl

pub form_is : (starts : List ℕ) (e : Tree) (name : List ℕ) (first next : ℕ) (scope : Scope) (x : Expression) → name ≡ codes "form" → scope ≡ [] → first ≡ 2 → next ≡ first + binds e
    → x ≡ normal starts false e scope first
    → record { name = name; entry = None; variables = next; expression = end x } ≡ form_code starts e
form_is starts e name first next scope x p q r s t =
    let v : next ≡ 2 + binds e = omega (arith, r, s) in
    rw (p, v, t, q, r) refl

-- ## Procedures, one after another

module _ (starts : List ℕ) (items : List flat_body.Body) (i : ℕ) (b : flat_body.Body) (l : i < length items) (is : b ≡ get_or items i b) where
  pub procedures_made : (all all' : List control_body.Body) (q : control_body.Body) (whole : List Code) → all' ≡ all ++ q ∷ [] → code_of q ≡ procedure_code starts (body b)
      → codes_of all ++ map (procedure_code starts) (map body (drop i items)) ≡ whole → codes_of all' ++ map (procedure_code starts) (map body (drop (i + 1) items)) ≡ whole
  procedures_made all all' q whole p h k =
      rw (p, add-one, codes_append all (q ∷ []), append_assoc (codes_of all) (code_of q ∷ []) (map (procedure_code starts) (map body (drop (suc i) items))), h)
      (next_left items i (λ r. codes_of all ++ map (procedure_code starts) (map body r) ≡ whole) b l is k)

  pub procedures_valid : list_all code_valid (map (procedure_code starts) (map body (drop i items))) ≡ true
      → (code_valid (procedure_code starts (body b)) ≡ true) × (list_all code_valid (map (procedure_code starts) (map body (drop (i + 1) items))) ≡ true)
  procedures_valid h =
      let h' = next_left items i (λ r. list_all code_valid (map (procedure_code starts) (map body r)) ≡ true) b l is h in
      let rest = list_all code_valid (map (procedure_code starts) (map body (drop (suc i) items))) in
      rw add-one (and_left (code_valid (procedure_code starts (body b))) rest h', and_right (code_valid (procedure_code starts (body b))) rest h')

  pub procedures_labels : (more : ℕ) → LabelsOfBodies more (map body (drop i items)) → LabelsFit more (tree b.code) × LabelsOfBodies more (map body (drop (i + 1) items))
  procedures_labels more h = rw add-one (next_left items i (λ r. LabelsOfBodies more (map body r)) b l is h)

pub procedures_end : (starts : List ℕ) (items : List flat_body.Body) (i : ℕ) (all : List control_body.Body) (whole : List Code) → length items ≤ i
    → codes_of all ++ map (procedure_code starts) (map body (drop i items)) ≡ whole → codes_of all ≡ whole
procedures_end starts items i all whole l h = let t = rw (drop_all i items l, append-nil (codes_of all)) at h in t

-- ## Forms, each before its procedures

labels_take : (more : ℕ) (bs : List Body) (n : ℕ) → LabelsOfBodies more bs → LabelsOfBodies more (take n bs)
labels_take more bs zero h = tt
labels_take more [] (suc n) h = tt
labels_take more (b ∷ bs) (suc n) h = (h.0, labels_take more bs n h.1)

labels_drop : (more : ℕ) (bs : List Body) (n : ℕ) → LabelsOfBodies more bs → LabelsOfBodies more (drop n bs)
labels_drop more bs zero h = h
labels_drop more [] (suc n) h = tt
labels_drop more (b ∷ bs) (suc n) h = labels_drop more bs n h.1

dropped_more : {A : Type 0} (xs : List A) (a b : ℕ) → a ≤ b → drop (b - a) (drop a xs) ≡ drop b xs
dropped_more xs a b l = drop-drop (b - a) a xs ∙ ap (λ n. drop n xs) (omega (arith, l))

module _ (starts : List ℕ) (bodies : List flat_body.Body) (items : List Exp) (before i : ℕ) (e : Exp) (place : ℕ) (l : i < length items) (is : e ≡ get_or items i e) (m : i < length starts)
    (p : place ≡ get_or starts i 0) (b : before ≤ place) where
  abbrev between : List flat_body.Body
  between = take (place - before) (drop before bodies)

  abbrev rest : List Code
  rest = normal_bodies starts place (map body (drop place bodies)) (left (drop (suc i) items)) (drop (suc i) starts)

  starts_left : drop i starts ≡ place ∷ drop (suc i) starts
  starts_left = next_is starts i (get_or starts i 0) m (get_or_default starts i 0 (get_or starts i 0) m) ∙ ap (λ x. x ∷ drop (suc i) starts) (sym p)

  after : drop (place - before) (map body (drop before bodies)) ≡ map body (drop place bodies)
  after = drop-map body (place - before) (drop before bodies) ∙ ap (map body) (dropped_more bodies before place b)

  unfolded : normal_bodies starts before (map body (drop before bodies)) (left (drop i items)) (drop i starts) ≡ map (procedure_code starts) (map body between) ++ form_code starts (tree e) ∷ rest
  unfolded =
      ap (λ r. normal_bodies starts before (map body (drop before bodies)) (left (drop i items)) r) starts_left
      ∙ ap (λ r. normal_bodies starts before (map body (drop before bodies)) (left r) (place ∷ drop (suc i) starts)) (next_is items i e l is)
      ∙ ap (λ r. map (procedure_code starts) r ++ form_code starts (tree e) ∷ normal_bodies starts place (drop (place - before) (map body (drop before bodies))) (left (drop (suc i) items))
      (drop (suc i) starts)) (take-map body (place - before) (drop before bodies))
      ∙ ap (λ r. map (procedure_code starts) (map body between) ++ form_code starts (tree e) ∷ normal_bodies starts place r (left (drop (suc i) items)) (drop (suc i) starts)) after

  valid_parts : (xs ys : List Code) (c : Code) → list_all code_valid (xs ++ c ∷ ys) ≡ true → (list_all code_valid xs ≡ true) × (code_valid c ≡ true) × (list_all code_valid ys ≡ true)
  valid_parts xs ys c h =
      let h' = sym (list_all-append code_valid xs (c ∷ ys)) ∙ h in
      let k = and_right (list_all code_valid xs) (code_valid c && list_all code_valid ys) h' in
      (and_left (list_all code_valid xs) (code_valid c && list_all code_valid ys) h', and_left (code_valid c) (list_all code_valid ys) k, and_right (code_valid c) (list_all code_valid ys) k)

  pub forms_valid : list_all code_valid (normal_bodies starts before (map body (drop before bodies)) (left (drop i items)) (drop i starts)) ≡ true
      → (list_all code_valid (map (procedure_code starts) (map body between)) ≡ true) × (code_valid (form_code starts (tree e)) ≡ true)
      × (list_all code_valid (normal_bodies starts place (map body (drop place bodies)) (left (drop (i + 1) items)) (drop (i + 1) starts)) ≡ true)
  forms_valid h = rw add-one (valid_parts (map (procedure_code starts) (map body between)) rest (form_code starts (tree e)) (subst (λ r. list_all code_valid r ≡ true) unfolded h))

  pub forms_made : (all all1 all2 : List control_body.Body) (q : control_body.Body) (whole : List Code) → codes_of all1 ≡ codes_of all ++ map (procedure_code starts) (map body between)
      → all2 ≡ all1 ++ q ∷ [] → code_of q ≡ form_code starts (tree e)
      → codes_of all ++ normal_bodies starts before (map body (drop before bodies)) (left (drop i items)) (drop i starts) ≡ whole
      → codes_of all2 ++ normal_bodies starts place (map body (drop place bodies)) (left (drop (i + 1) items)) (drop (i + 1) starts) ≡ whole
  forms_made all all1 all2 q whole h1 h2 h3 k =
      let k' : codes_of all ++ (map (procedure_code starts) (map body between) ++ form_code starts (tree e) ∷ rest) ≡ whole = subst (λ r. codes_of all ++ r ≡ whole) unfolded k in
      rw add-one (ap (λ x. codes_of x ++ rest) h2 ∙ ap (λ x. x ++ rest) (codes_append all1 (q ∷ [])) ∙ append_assoc (codes_of all1) (code_of q ∷ []) rest
      ∙ ap (λ c. codes_of all1 ++ c ∷ rest) h3 ∙ ap (λ x. x ++ form_code starts (tree e) ∷ rest) h1
      ∙ append_assoc (codes_of all) (map (procedure_code starts) (map body between)) (form_code starts (tree e) ∷ rest) ∙ k')

  pub forms_labels : (more : ℕ) → LabelsOfBodies more (map body (drop before bodies)) → LabelsOfBodies more (map body between) × LabelsOfBodies more (map body (drop place bodies))
  forms_labels more h = (
    subst (LabelsOfBodies more) (take-map body (place - before) (drop before bodies)) (labels_take more (map body (drop before bodies)) (place - before) h),
    subst (LabelsOfBodies more) after (labels_drop more (map body (drop before bodies)) (place - before) h),
  )

-- the next place is not before this one, nor behind the last
pub ascends_next : (starts : List ℕ) (before i last : ℕ) → i < length starts → ascending before last (drop i starts) ≡ true
    → (before ≤ get_or starts i 0) × (get_or starts i 0 ≤ last) × (ascending (get_or starts i 0) last (drop (i + 1) starts) ≡ true)
ascends_next starts before i last m h =
    let place = get_or starts i 0 in
    let h' : (nat_le before place && ascending place last (drop (suc i) starts)) ≡ true = next_left starts i (λ r. ascending before last r ≡ true) place m (get_or_default starts i 0 place m) h in
    let k = and_right (nat_le before place) (ascending place last (drop (suc i) starts)) h' in
    rw add-one (leb-true before place (and_left (nat_le before place) (ascending place last (drop (suc i) starts)) h'), ascending_last place last (drop (suc i) starts) k, k)

-- behind the last form
all_left : {A : Type 0} (xs : List A) (k : ℕ) → take (length xs - k) (drop k xs) ≡ drop k xs
all_left xs k = ap (λ n. take n (drop k xs)) (sym (length-drop k xs)) ∙ take-length (drop k xs)

pub forms_end : (starts : List ℕ) (bodies : List flat_body.Body) (items : List Exp) (before i : ℕ) → length items ≤ i
    → normal_bodies starts before (map body (drop before bodies)) (left (drop i items)) (drop i starts)
    ≡ map (procedure_code starts) (map body (take (length bodies - before) (drop before bodies)))
forms_end starts bodies items before i l =
    ap (λ r. normal_bodies starts before (map body (drop before bodies)) (left r) (drop i starts)) (drop_all i items l)
    ∙ ap (λ bs. map (procedure_code starts) (map body bs)) (sym (all_left bodies before))

pub before_last : (starts : List ℕ) (before i last : ℕ) → ascending before last (drop i starts) ≡ true → before ≤ last
before_last starts before i last h = ascending_last before last (drop i starts) h

-- the procedures between two forms
pub between_labels : (bodies : List flat_body.Body) (before place more : ℕ) → LabelsOfBodies more (map body (drop before bodies))
    → LabelsOfBodies more (map body (take (place - before) (drop before bodies)))
between_labels bodies before place more h = subst (LabelsOfBodies more) (take-map body (place - before) (drop before bodies)) (labels_take more (map body (drop before bodies)) (place - before) h)

pub between_valid : (starts : List ℕ) (bodies : List flat_body.Body) (items : List Exp) (before i last : ℕ) → i < length items → i < length starts → ascending before last (drop i starts) ≡ true
    → list_all code_valid (normal_bodies starts before (map body (drop before bodies)) (left (drop i items)) (drop i starts)) ≡ true
    → list_all code_valid (map (procedure_code starts) (map body (take (get_or starts i 0 - before) (drop before bodies)))) ≡ true
between_valid starts bodies [] before i last l m a h = absurd (omega (arith, l))
between_valid starts bodies (x ∷ items) before i last l m a h =
    let e = get_or (x ∷ items) i x in
    (forms_valid starts bodies (x ∷ items) before i e (get_or starts i 0) l (get_or_default (x ∷ items) i x e l) m refl (ascends_next starts before i last m a).0 h).0
