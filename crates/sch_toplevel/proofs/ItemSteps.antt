-- The items of a library, one after the other.
use Rattle.std.proofs.Common.{◌≡◌, ℕ, suc, ◌+◌, ◌<◌, Bool, true, List, [], ◌∷◌, ◌++◌, length, drop, get_or, map, Option, refl, ap, ◌∙◌, subst, add-one}
use Rattle.std.proofs.lemmas.List.{map-append, append_assoc}
use Rattle.std.specs.Borrow.{Bor}
use Rattle.sch_word.proofs.facts.Lists.{next_left}
use Rattle.sch_read.specs.declared.datum.Datum as code
use Rattle.sch_read.specs.Views.{tree_of, data_of}
use Rattle.sch_names.specs.Scope.{Globals}
use Rattle.sch_names.specs.ScopeView.{given_names}
use Rattle.sch_sketch.specs.declared.draft.Draft as code_draft
use Rattle.sch_sketch.specs.declared.fault.Fault.{Fault}
use Rattle.sch_sketch.specs.declared.sketch.Position.TheVariants.{Value}
use Rattle.sch_sketch.specs.Draft.{Draft}
use Rattle.sch_sketch.specs.DraftView.{draft_of}
use Rattle.sch_expansion.specs.Reads.{Reads}
use Rattle.sch_toplevel.specs.Items.{name_in, names_by, item_globals, procedure_in, item_names, ItemsRead}

pub next_item_name : (items : List code.Datum) (i : ℕ) (d : code.Datum) (vs vs' : List (Option (Bor (List ℕ)))) (r : List (Option (List ℕ))) → i < length items → d ≡ get_or items i d →
    given_names vs' ≡ given_names vs ++ name_in (tree_of d) ∷ [] → given_names vs ++ item_names (data_of (drop i items)) ≡ r → given_names vs' ++ item_names (data_of (drop (i + 1) items)) ≡ r
next_item_name items i d vs vs' r l e h k =
    let n = next_left items i d l e in
    let k' = rw n at k in
    rw (add-one, h) (append_assoc (given_names vs) (name_in (tree_of d) ∷ []) (item_names (data_of (drop (suc i) items))) ∙ k')

pub next_item : (items : List code.Datum) (i : ℕ) (d : code.Datum) (before after : List (List ℕ)) (own : List (List ℕ)) (internal : Bool) (a m b : Option Fault) (e : Draft) (es : List Draft) →
    i < length items → d ≡ get_or items i d → after ≡ names_by before (tree_of d) → own ≡ [] → internal ≡ true →
    Reads (record { bound = after; own = own; internal = internal }) 1 [] Value (procedure_in before (tree_of d)) a m e →
    ItemsRead after (data_of (drop (i + 1) items)) m b es → ItemsRead before (data_of (drop i items)) a b (e ∷ es)
next_item items i d before after own internal a m b e es l is h o t x r =
    let n = next_left items i d l is in
    let g : ◌≡◌ {A = Globals} (record { bound = after; own = own; internal = internal }) (item_globals before (tree_of d)) = λ j. record { bound = h j; own = o j; internal = t j } in
    let x' = subst (λ g. Reads g 1 [] Value (procedure_in before (tree_of d)) a m e) g x in
    let r' = rw (add-one, h) at r in
    rw n (m, e, es, refl, x', r')

-- one draft more
pub one_draft_more : (drafts : List code_draft.Draft) (e : code_draft.Draft) (es : List Draft) → map draft_of (drafts ++ e ∷ []) ++ es ≡ map draft_of drafts ++ draft_of e ∷ es
one_draft_more drafts e es = ap (λ l. l ++ es) (map-append draft_of drafts (e ∷ [])) ∙ append_assoc (map draft_of drafts) (draft_of e ∷ []) es
