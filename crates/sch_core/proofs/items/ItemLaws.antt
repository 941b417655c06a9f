-- Items without faults have one list of definitions, and items with a fault have none.
use Rattle.std.proofs.Common.{◌≡◌, inl, inr, ℕ, Bool, List, [], ◌∷◌, map, Option, Some, None, refl, sym, ap, ◌∙◌, subst}
use Rattle.sch_read.specs.Grammar.{Datum, Data, none, cons}
use Rattle.sch_read.specs.Parts.{offset}
use Rattle.sch_sketch.specs.declared.fault.Fault.{Fault}
use Rattle.sch_sketch.specs.declared.sketch.Position.TheVariants.{Value}
use Rattle.sch_sketch.specs.Draft.{Draft, lambda}
use Rattle.sch_expansion.specs.Expands.{Expands}
use Rattle.sch_expansion.specs.Reads.{Reads}
use Rattle.sch_expansion.proofs.Best.{Best, none_new, and_then, none_before}
use Rattle.sch_expansion.proofs.Readings.{unique, clean, one_fault, read_best, read_made, is_read}
use Rattle.sch_link_tables.specs.Programs.{Definition, names_of_each, procedure_of}
use Rattle.sch_core.specs.LibraryDefinitions.{AreNamedProcedures}
use Rattle.sch_toplevel.specs.Forms.{form_sketch}
use Rattle.sch_toplevel.specs.Items.{behind, name_in, names_by, item_globals, procedure_in, item_names, ItemsExpand, ItemHasFault, ItemsRead}
use Rattle.sch_core.proofs.items.ItemShapes.{defines, shaped}
use Rattle.sch_core.proofs.drafts.Soundness.{procedure}
use Rattle.sch_word.proofs.facts.Lists.{some_same, head_same, tail_same}

nothing_here : {A : Type 0} {x : A} {xs : List A} → [] ≡ x ∷ xs → ⊥
nothing_here e = cc

-- the fault that is found is the least
pub items_best : (before : List (List ℕ)) (items : Data) (a b : Option Fault) (es : List Draft) → ItemsRead before items a b es → Best (ItemHasFault before items) a b
items_best before none a b es r = subst (λ o. Best (ItemHasFault before none) a o) (sym r.0) (none_new a)
items_best before (cons d items) a b es (m, e, more, w, x, y) = and_then (read_best (item_globals before d) x) (items_best (names_by before d) items m b more y)

-- ## Definitions

-- the item that is read before the others
here_made : (before : List (List ℕ)) (d : Datum) (items : Data) (a m : Option Fault) (e : Draft) (more : List Draft) → Reads (item_globals before d) 1 [] Value (procedure_in before d) a m e →
    ItemsRead (names_by before d) items m None more → Expands (item_globals before d) 1 [] Value (procedure_in before d) e
here_made before d items a m e more x y = read_made (item_globals before d) x (none_before (items_best (names_by before d) items m None more y) refl)

-- definitions of the names and the drafts that are read
pub items_expand : (before : List (List ℕ)) (items : Data) (ds : List Definition) (a : Option Fault) → ItemsRead before items a None (map procedure_of ds) →
    item_names items ≡ map Some (names_of_each ds) → ItemsExpand before items ds
items_expand before none [] a r n = tt
items_expand before none (x ∷ xs) a r n = absurd (nothing_here n)
items_expand before (cons d items) [] a r n = absurd (nothing_here (sym n))
items_expand before (cons d items) (x ∷ xs) a (m, e, more, w, q, y) n =
    let others = subst (λ l. ItemsRead (names_by before d) items m None l) (sym (tail_same w)) y in
    let here = here_made before d items a m e more q y in (
      head_same n,
      subst (λ z. Expands (item_globals before d) 1 [] Value (procedure_in before d) z) (sym (head_same w)) here,
      items_expand (names_by before d) items xs m others (tail_same n),
    )

-- items that are read without a fault have definitions
pub items_made : (before : List (List ℕ)) (items : Data) (a : Option Fault) (es : List Draft) → ItemsRead before items a None es → (ds : List Definition) × ItemsExpand before items ds
items_made before none a es r = ([], tt)
items_made before (cons d items) a es (m, e, more, w, q, y) =
    let g = item_globals before d in
    let here = here_made before d items a m e more q y in
    let s = shaped g before (offset d) (behind d) e (form_sketch d) here in
    let x = defines s.name e (procedure g s.expands refl) in
    let others = items_made (names_by before d) items m more y in
    (x.definition ∷ others.0, (s.named ∙ ap Some (sym x.named), subst (λ z. Expands g 1 [] Value (procedure_in before d) z) x.made here, others.1))

-- items that are read without a fault have names, and their drafts are those of procedures
pub items_named : (before : List (List ℕ)) (items : Data) (a : Option Fault) (es : List Draft) → ItemsRead before items a None es → AreNamedProcedures (item_names items) es
items_named before none a es r = subst (AreNamedProcedures []) (sym r.1) tt
items_named before (cons d items) a es (m, e, more, w, q, y) =
    let g = item_globals before d in
    let s = shaped g before (offset d) (behind d) e (form_sketch d) (here_made before d items a m e more q y) in
    let others = items_named (names_by before d) items m more y in
    subst (AreNamedProcedures (name_in d ∷ item_names items)) (sym w)
    (subst (λ v. AreNamedProcedures (v ∷ item_names items) (e ∷ more)) (sym s.named) (procedure g s.expands refl, others))

formals_are : {n n' : ℕ} {r r' : Bool} {e e' : Draft} → lambda n r e ≡ lambda n' r' e' → n ≡ n'
formals_are p = cc

rest_is : {n n' : ℕ} {r r' : Bool} {e e' : Draft} → lambda n r e ≡ lambda n' r' e' → r ≡ r'
rest_is p = cc

body_is : {n n' : ℕ} {r r' : Bool} {e e' : Draft} → lambda n r e ≡ lambda n' r' e' → e ≡ e'
body_is p = cc

definition_is : (x y : Definition) → x.name ≡ y.name → procedure_of x ≡ procedure_of y → x ≡ y
definition_is x y n p =
    let formals = formals_are p in
    let rest = rest_is p in
    let body = body_is p in
    λ i. record { name = n i; formals = formals i; rest = rest i; body = body i }

pub items_one : (before : List (List ℕ)) (items : Data) (ds ds' : List Definition) → ItemsExpand before items ds → ItemsExpand before items ds' → ds ≡ ds'
items_one before none [] [] p q = refl
items_one before none [] (y ∷ ys) p q = absurd q
items_one before none (x ∷ xs) ys p q = absurd p
items_one before (cons d items) [] ys p q = absurd p
items_one before (cons d items) (x ∷ xs) [] p q = absurd q
items_one before (cons d items) (x ∷ xs) (y ∷ ys) p q =
    let i = definition_is x y (some_same (sym p.0 ∙ q.0)) (unique (item_globals before d) p.1 q.1) in
    let j = items_one (names_by before d) items xs ys p.2 q.2 in
    λ k. i k ∷ j k

pub items_clean : (before : List (List ℕ)) (items : Data) (ds : List Definition) (f : Fault) → ItemsExpand before items ds → ItemHasFault before items f → ⊥
items_clean before none ds f p q = q
items_clean before (cons d items) [] f p q = p
items_clean before (cons d items) (x ∷ xs) f p q =
    elim q [ inl h ↦ clean (item_globals before d) p.1 h | inr h ↦ items_clean (names_by before d) items xs f p.2 h ]

-- ## Readings

pub reading_one : (before : List (List ℕ)) (items : Data) (a b b' : Option Fault) (es es' : List Draft) → ItemsRead before items a b es → ItemsRead before items a b' es' → b ≡ b'
reading_one before none a b b' es es' r q = r.0 ∙ sym q.0
reading_one before (cons d items) a b b' es es' (m, e, more, w, x, y) (m', e', more', w', x', y') =
    reading_one (names_by before d) items m' b b' more more' (subst (λ o. ItemsRead (names_by before d) items o b more) (one_fault (item_globals before d) x x') y) y'

pub items_read : (before : List (List ℕ)) (items : Data) (a : Option Fault) → (b : Option Fault) × (es : List Draft) × ItemsRead before items a b es
items_read before none a = (a, [], (refl, refl))
items_read before (cons d items) a =
    let r = is_read (item_globals before d) 1 [] Value (procedure_in before d) a in
    let others = items_read (names_by before d) items r.after in
    (others.0, r.draft ∷ others.1, (r.after, r.draft, others.1, refl, r.reads, others.2))
