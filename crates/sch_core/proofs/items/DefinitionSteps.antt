-- The steps of the loops over the definitions of a library, over plain values.
use Rattle.std.proofs.Common.{◌≡◌, ◌≤◌, ◌⊎◌, inl, inr, true, ℕ, zero, suc, ◌+◌, ◌<◌, ◌^◌, min, List, [], ◌∷◌, ◌++◌, length, drop, get_or, map, reverse, Option, Some, None, refl, sym, ap, subst, ◌∙◌, add-one, arith, append_assoc, append-nil, drop-cons}
use Rattle.std.proofs.lemmas.List.{drop_all, reverse-append, reverse-reverse}
use Rattle.std.proofs.lemmas.Bool.{leb-true, and_parts}
use Rattle.std.specs.Borrow.{Bor}
use Rattle.sch_word.specs.trees.Shape.{max_operands}
use Rattle.sch_read.specs.declared.datum.Datum as code_datum
use Rattle.sch_read.specs.Parts.{offset}
use Rattle.sch_read.specs.Views.{tree_of, data_of}
use Rattle.sch_names.specs.ScopeView.{one_name, given_names}
use Rattle.sch_sketch.specs.declared.draft.Draft as code_draft
use Rattle.sch_sketch.specs.Draft.{Draft}
use Rattle.sch_sketch.specs.DraftMeasures.{size}
use Rattle.sch_sketch.specs.DraftView.{draft_of}
use Rattle.sch_link_tables.specs.Programs.{names_of_each, procedure_of}
use Rattle.sch_link_program.specs.declared.definition.Definition as code
use Rattle.sch_link_program.specs.Definitions.{definition_of, definitions_of}
use Rattle.sch_link_program.specs.Size.{size_of_definitions, have_few_formals, have_near_bodies}
use Rattle.sch_core.specs.LibraryDefinitions.{AreNamedProcedures}
use Rattle.sch_link_tables.specs.Room.{has_near_variables}
use Rattle.sch_core.specs.SoundDrafts.{IsProcedure}
use Rattle.sch_toplevel.specs.Items.{item_places}
use Rattle.sch_word.proofs.facts.Lists.{next_left}
use Rattle.sch_core.specs.declared.error.Kind.{Kind}
use Rattle.sch_core.specs.Excess.{definition_excess, first_definition_excess}

-- ## Definitions of names and drafts

abbrev pub defined : List code.Definition → List (Option (List ℕ))
defined ds = map Some (names_of_each (definitions_of ds))

abbrev pub procedures : List code.Definition → List Draft
procedures ds = map procedure_of (definitions_of ds)

defined_more : (all : List code.Definition) (d : code.Definition) → defined (all ++ d ∷ []) ≡ defined all ++ Some d.name.now ∷ []
defined_more [] d = refl
defined_more (x ∷ all) d = ap (λ l. Some x.name.now ∷ l) (defined_more all d)

procedures_more : (all : List code.Definition) (d : code.Definition) → procedures (all ++ d ∷ []) ≡ procedures all ++ procedure_of (definition_of d) ∷ []
procedures_more [] d = refl
procedures_more (x ∷ all) d = ap (λ l. procedure_of (definition_of x) ∷ l) (procedures_more all d)

-- at the start there is none
pub begin_defined : (vs : List (Option (Bor (List ℕ)))) (all : List code.Definition) → all ≡ [] → defined all ++ given_names vs ≡ given_names vs
begin_defined vs all e = rw e refl

pub begin_made : (es left : List code_draft.Draft) (all : List code.Definition) → all ≡ [] → left ≡ reverse es → procedures all ++ map draft_of (reverse left) ≡ map draft_of es
begin_made es left all e h = rw (e, h, reverse-reverse es) refl

-- one name more
pub next_defined : (vs : List (Option (Bor (List ℕ)))) (i : ℕ) (o : Option (Bor (List ℕ))) (all all' : List code.Definition) (d : code.Definition) (r : List (Option (List ℕ))) →
    i < length vs → all' ≡ all ++ d ∷ [] → one_name (get_or vs i o) ≡ Some d.name.now → defined all ++ given_names (drop i vs) ≡ r → defined all' ++ given_names (drop (i + 1) vs) ≡ r
next_defined vs i o all all' d r l h n k =
    let k' = rw (drop-cons vs i o l, n) at k in
    rw (add-one, h, defined_more all d) (append_assoc (defined all) (Some d.name.now ∷ []) (given_names (drop (suc i) vs)) ∙ k')

-- one draft more, the last of those that are left
pub next_made : (left others : List code_draft.Draft) (e : code_draft.Draft) (all all' : List code.Definition) (d : code.Definition) (r : List Draft) →
    left ≡ others ++ e ∷ [] → all' ≡ all ++ d ∷ [] → draft_of e ≡ procedure_of (definition_of d) → procedures all ++ map draft_of (reverse left) ≡ r → procedures all' ++ map draft_of (reverse others) ≡ r
next_made left others e all all' d r is h n k =
    let k' = rw (is, reverse-append others (e ∷ []), n) at k in
    rw (h, procedures_more all d) (append_assoc (procedures all) (procedure_of (definition_of d) ∷ []) (map draft_of (reverse others)) ∙ k')

-- ## Names and drafts that are left

pub begin_whole : (vs : List (Option (Bor (List ℕ)))) (es left : List code_draft.Draft) → left ≡ reverse es →
    AreNamedProcedures (given_names vs) (map draft_of es) → AreNamedProcedures (given_names vs) (map draft_of (reverse left))
begin_whole vs es left e h = subst (λ l. AreNamedProcedures (given_names vs) (map draft_of l)) (sym (ap reverse e ∙ reverse-reverse es)) h

none_named : (vs : List (Option (List ℕ))) (es : List Draft) → AreNamedProcedures (None ∷ vs) es → ⊥
none_named vs [] h = h
none_named vs (e ∷ es) h = h

none_drawn : (o : Option (List ℕ)) (vs : List (Option (List ℕ))) → AreNamedProcedures (o ∷ vs) [] → ⊥
none_drawn None vs h = h
none_drawn (Some v) vs h = h

first_drawn : (o : Option (List ℕ)) (vs : List (Option (List ℕ))) (e : Draft) (es : List Draft) → AreNamedProcedures (o ∷ vs) (e ∷ es) → IsProcedure e × AreNamedProcedures vs es
first_drawn None vs e es h = absurd h
first_drawn (Some v) vs e es h = h

all_drawn : (es : List Draft) → AreNamedProcedures [] es → es ≡ []
all_drawn [] h = refl
all_drawn (e ∷ es) h = absurd h

module _ (vs : List (Option (Bor (List ℕ)))) (i : ℕ) (left : List code_draft.Draft) (h : AreNamedProcedures (given_names (drop i vs)) (map draft_of (reverse left))) where
  module _ (o : Option (Bor (List ℕ))) (l : i < length vs) where
    here : AreNamedProcedures (one_name (get_or vs i o) ∷ given_names (drop (suc i) vs)) (map draft_of (reverse left))
    here = subst (λ z. AreNamedProcedures (given_names z) (map draft_of (reverse left))) (drop-cons vs i o l) h

    pub name_there : get_or vs i o ≡ None → ⊥
    name_there e = none_named (given_names (drop (suc i) vs)) (map draft_of (reverse left)) (subst (λ v. AreNamedProcedures (one_name v ∷ given_names (drop (suc i) vs)) (map draft_of (reverse left))) e here)

    pub draft_there : left ≡ [] → ⊥
    draft_there e = none_drawn (one_name (get_or vs i o)) (given_names (drop (suc i) vs)) (subst (λ z. AreNamedProcedures (one_name (get_or vs i o) ∷ given_names (drop (suc i) vs)) (map draft_of (reverse z))) e here)

    module _ (others : List code_draft.Draft) (e : code_draft.Draft) (is : left ≡ others ++ e ∷ []) where
      first_is : map draft_of (reverse left) ≡ draft_of e ∷ map draft_of (reverse others)
      first_is = ap (λ z. map draft_of z) (ap reverse is ∙ reverse-append others (e ∷ []))

      both : IsProcedure (draft_of e) × AreNamedProcedures (given_names (drop (suc i) vs)) (map draft_of (reverse others))
      both = first_drawn (one_name (get_or vs i o)) (given_names (drop (suc i) vs)) (draft_of e) (map draft_of (reverse others)) (subst (AreNamedProcedures (one_name (get_or vs i o) ∷ given_names (drop (suc i) vs))) first_is here)

      pub is_procedure : IsProcedure (draft_of e)
      is_procedure = both.0

      pub next_whole : AreNamedProcedures (given_names (drop (i + 1) vs)) (map draft_of (reverse others))
      next_whole = subst (λ k. AreNamedProcedures (given_names (drop k vs)) (map draft_of (reverse others))) (sym (add-one i)) both.1

  pub end_made : (all : List code.Definition) (r : List Draft) → length vs ≤ i → procedures all ++ map draft_of (reverse left) ≡ r → procedures all ≡ r
  end_made all r l k =
      let none : map draft_of (reverse left) ≡ [] =
      all_drawn (map draft_of (reverse left)) (subst (λ z. AreNamedProcedures (given_names z) (map draft_of (reverse left))) (drop_all i vs l) h) in
      sym (append-nil (procedures all)) ∙ (ap (λ z. procedures all ++ z) (sym none) ∙ k)

-- ## The first definition that has too much

-- each of some definitions has few enough formals
pub formals_at : (ds : List code.Definition) (i : ℕ) (d : code.Definition) → i < length ds → d ≡ get_or ds i d → have_few_formals (definitions_of ds) ≡ true → d.formals ≤ max_operands
formals_at [] i d l e h = absurd (omega (arith, l))
formals_at (x ∷ ds) zero d l e h = subst (λ y. y.formals ≤ max_operands) (sym e) (leb-true x.formals max_operands (and_parts _ _ h).0)
formals_at (x ∷ ds) (suc i) d l e h = formals_at ds i d (omega (arith, l)) e (and_parts _ _ h).1

-- and few enough nodes
pub few_at : (ds : List code.Definition) (i : ℕ) (d : code.Definition) → i < length ds → d ≡ get_or ds i d → size_of_definitions (definitions_of ds) < 2 ^ 32 → size (draft_of d.body) < 2 ^ 32
few_at [] i d l e h = absurd (omega (arith, l))
few_at (x ∷ ds) zero d l e h = subst (λ y. size (draft_of y.body) < 2 ^ 32) (sym e) (omega (arith, h))
few_at (x ∷ ds) (suc i) d l e h = few_at ds i d (omega (arith, l)) e (omega (arith, h))

-- and near variables
pub variables_at : (ds : List code.Definition) (i : ℕ) (d : code.Definition) → i < length ds → d ≡ get_or ds i d → have_near_bodies (definitions_of ds) ≡ true → has_near_variables (draft_of d.body) ≡ true
variables_at [] i d l e h = absurd (omega (arith, l))
variables_at (x ∷ ds) zero d l e h =
    subst (λ y. has_near_variables (draft_of y.body) ≡ true) (sym e) (and_parts (has_near_variables (draft_of x.body)) (have_near_bodies (definitions_of ds)) h).0
variables_at (x ∷ ds) (suc i) d l e h =
    variables_at ds i d (omega (arith, l)) e (and_parts (has_near_variables (draft_of x.body)) (have_near_bodies (definitions_of ds)) h).1

no_item : (places : List ℕ) → first_definition_excess places [] ≡ None
no_item [] = refl
no_item (at ∷ places) = refl

some_item : (items : List code_datum.Datum) (i : ℕ) → i < length items → (q : code_datum.Datum) × (drop i items ≡ q ∷ drop (suc i) items)
some_item [] i l = absurd (omega (arith, l))
some_item (x ∷ items) zero l = (x, refl)
some_item (x ∷ items) (suc i) l = some_item items i (omega (arith, l))

module _ (items : List code_datum.Datum) (ds : List code.Definition) (i n : ℕ) (m : n ≡ min (length items) (length ds)) (r : Option (Kind × ℕ)) (k : first_definition_excess (item_places (data_of (drop i items))) (definitions_of (drop i ds)) ≡ r) where
  next_item : (q : code_datum.Datum) → i < n → q ≡ get_or items i q → item_places (data_of (drop i items)) ≡ offset (tree_of q) ∷ item_places (data_of (drop (suc i) items))
  next_item q l is = ap (λ l. item_places (data_of l)) (next_left items i q (omega (arith, l, m)) is)

  next_definition : (d : code.Definition) → i < n → d ≡ get_or ds i d → definitions_of (drop i ds) ≡ definition_of d ∷ definitions_of (drop (suc i) ds)
  next_definition d l is = ap definitions_of (next_left ds i d (omega (arith, l, m)) is)

  pub definition_here : (d : code.Definition) (q : code_datum.Datum) (at : ℕ) (kind : Kind) → i < n → d ≡ get_or ds i d → q ≡ get_or items i q → at ≡ offset (tree_of q) →
      Some kind ≡ definition_excess (definition_of d) → ◌≡◌ {A = Option (Kind × ℕ)} (Some (kind, at)) r
  definition_here d q at kind l f g p h =
      let k' = rw (next_item q l g, next_definition d l f, sym h, sym p) at k in
      k'

  pub definition_later : (d : code.Definition) → i < n → d ≡ get_or ds i d → None ≡ definition_excess (definition_of d) →
      first_definition_excess (item_places (data_of (drop (i + 1) items))) (definitions_of (drop (i + 1) ds)) ≡ r
  definition_later d l f h =
      let q = some_item items i (omega (arith, l, m)) in
      let k' = rw (ap (λ l. item_places (data_of l)) q.1, next_definition d l f, sym h) at k in
      rw add-one k'

  pub definition_end : n ≤ i → ◌≡◌ {A = Option (Kind × ℕ)} None r
  definition_end l = elim (shorter (omega (arith, l, m))) [
    | inl a ↦ sym (ap (λ l. first_definition_excess (item_places (data_of l)) (definitions_of (drop i ds))) (drop_all i items a)) ∙ k
    | inr b ↦ sym (ap (λ l. first_definition_excess (item_places (data_of (drop i items))) (definitions_of l)) (drop_all i ds b) ∙ no_item (item_places (data_of (drop i items)))) ∙ k
  ]
    where
      shorter : min (length items) (length ds) ≤ i → (length items ≤ i) ⊎ (length ds ≤ i)
      shorter h = grind arith
