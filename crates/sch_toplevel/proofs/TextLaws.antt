-- A text without faults has one list of drafts, and one with a fault has none.
use Rattle.std.proofs.Common.{◌≡◌, inl, inr, ◌≤◌, ℕ, true, List, [], Option, Some, None, refl, sym, ap, ◌∙◌, subst}
use Rattle.std.proofs.lemmas.Option.{none-some}
use Rattle.sch_read.specs.Grammar.{Data}
use Rattle.sch_word.proofs.facts.Booleans.{false_true}
use Rattle.sch_word.proofs.facts.Lists.{some_same}
use Rattle.sch_names.specs.Scope.{Globals}
use Rattle.sch_sketch.specs.declared.fault.Fault.{Fault}
use Rattle.sch_sketch.specs.declared.sketch.Position.TheVariants.{Value}
use Rattle.sch_sketch.specs.Draft.{Draft, Drafts, sequence}
use Rattle.sch_sketch.specs.Sketch.{Sketch, Sketches, sketches, node, sequencing}
use Rattle.sch_expansion.specs.FaultOrder.{rank}
use Rattle.sch_expansion.specs.Expands.{Expands}
use Rattle.sch_expansion.specs.Expands as ex
use Rattle.sch_expansion.specs.Faults.{HasFault, PartHasFault}
use Rattle.sch_expansion.specs.Faults as no
use Rattle.sch_expansion.specs.Reads.{Reads, PartsRead}
use Rattle.sch_expansion.specs.Reads as re
use Rattle.sch_expansion.proofs.Readings.{unique, clean, one_fault, one_draft, read_best, read_made, is_read}
use Rattle.sch_toplevel.specs.Assigned.{assigned_in_each}
use Rattle.sch_toplevel.specs.Forms.{sketches_of, own_names, text_globals}
use Rattle.sch_toplevel.specs.Texts.{FormsExpand, FormHasFault, FormsRead, Assigns, TextExpands, IsFaultOf, IsRead}

-- ## The forms as the parts of a sequence

abbrev whole : Data → Sketch
whole items = node sequencing 0 (sketches (sketches_of items))

parts_of : {es fs : Drafts} → sequence es ≡ sequence fs → es ≡ fs
parts_of e = cc

module _ (g : Globals) (items : Data) where
  expanded : {es : Drafts} → FormsExpand g items es → Expands g 0 [] Value (whole items) (sequence es)
  expanded {es} p = ex.a_node 0 [] Value sequencing 0 (sketches (sketches_of items)) es refl refl p

  faulty : {f : Fault} → FormHasFault g items f → HasFault g 0 [] Value (whole items) f
  faulty {f} p = no.in_node 0 [] Value sequencing 0 (sketches (sketches_of items)) f refl p

  read : {o : Option Fault} {es : Drafts} → FormsRead g items o es → Reads g 0 [] Value (whole items) None o (sequence es)
  read {o} {es} p = re.reads_node 0 [] Value sequencing 0 (sketches (sketches_of items)) None o es refl p

module _ (g : Globals) where
  parts_expand : {ks : Sketches} {e : Draft} → Expands g 0 [] Value (node sequencing 0 ks) e → (es : Drafts) × (e ≡ sequence es) × ex.PartsExpand g sequencing true 1 [] Value ks es
  parts_expand (ex.a_node _ _ _ _ _ ks es l w p) = (es, refl, p)

  part_faulty : {ks : Sketches} {f : Fault} → HasFault g 0 [] Value (node sequencing 0 ks) f → PartHasFault g sequencing true 1 [] Value ks f
  part_faulty (no.node_deep _ _ _ _ _ ks l) = absurd (false_true refl l)
  part_faulty (no.node_wide _ _ _ _ _ ks w) = absurd (false_true refl w)
  part_faulty (no.in_node _ _ _ _ _ ks f l p) = p

  parts_read : {ks : Sketches} {o : Option Fault} {e : Draft} → Reads g 0 [] Value (node sequencing 0 ks) None o e → (es : Drafts) × PartsRead g sequencing true 1 [] Value ks None o es
  parts_read (re.reads_deep _ _ _ _ _ ks a l) = absurd (false_true refl l)
  parts_read (re.reads_node _ _ _ _ _ ks a b es l p) = (es, p)

-- ## The forms

module _ (g : Globals) (items : Data) where
  pub forms_one : {es fs : Drafts} → FormsExpand g items es → FormsExpand g items fs → es ≡ fs
  forms_one a b = parts_of (unique g (expanded g items a) (expanded g items b))

  pub forms_clean : {es : Drafts} {f : Fault} → FormsExpand g items es → FormHasFault g items f → ⊥
  forms_clean a b = clean g (expanded g items a) (faulty g items b)

  pub reading_one : {o o' : Option Fault} {es fs : Drafts} → FormsRead g items o es → FormsRead g items o' fs → (o ≡ o') × (es ≡ fs)
  reading_one a b = (one_fault g (read g items a) (read g items b), parts_of (one_draft g (read g items a) (read g items b)))

  pub forms_made : {es : Drafts} → FormsRead g items None es → FormsExpand g items es
  forms_made {es} a = let p = parts_expand g (read_made g (read g items a) refl) in subst (λ l. FormsExpand g items l) (parts_of (sym p.1)) p.2

  pub fault_there : {es : Drafts} (f : Fault) → FormsRead g items (Some f) es → FormHasFault g items f
  fault_there f a = elim ((read_best g (read g items a)).from f refl) [ inl i ↦ absurd (none-some _ i) | inr i ↦ part_faulty g i ]

  pub fault_least : {es : Drafts} (f : Fault) → FormsRead g items (Some f) es → (h : Fault) → FormHasFault g items h → rank f ≤ rank h
  fault_least f a h i = let m = (read_best g (read g items a)).below h (faulty g items i) in subst (λ k. rank k ≤ rank h) (sym (some_same m.is)) m.below

  pub forms_read : (o : Option Fault) × (es : Drafts) × FormsRead g items o es
  forms_read = let r = is_read g 0 [] Value (whole items) None in let p = parts_read g r.reads in (r.after, p.0, p.1)

-- ## Texts

module _ (seen : List (List ℕ)) (items : Data) where
  pub assigns_one : {a b : List (List ℕ)} → Assigns seen items a → Assigns seen items b → a ≡ b
  assigns_one p q = p.assigned ∙ ap assigned_in_each (reading_one (text_globals seen items []) items p.reads q.reads).1 ∙ sym q.assigned

  some_assigns : (names : List (List ℕ)) × Assigns seen items names
  some_assigns =
      let r = forms_read (text_globals seen items []) items in
      (assigned_in_each r.1, record { fault = r.0; drafts = r.1; reads = r.2; assigned = refl })

  -- each text is read
  pub text_read : (own : List (List ℕ)) × (o : Option Fault) × (es : Drafts) × IsRead seen items own o es
  text_read =
      let a = some_assigns in
      let r = forms_read (text_globals seen items a.0) items in
      (own_names items a.0, r.0, r.1, record { names = a.0; assigns = a.1; owned = refl; reads = r.2 })

  pub text_made : {own : List (List ℕ)} {es : Drafts} (r : IsRead seen items own None es) → TextExpands seen items r.names es
  text_made r = record { assigns = r.assigns; expands = forms_made (text_globals seen items r.names) items r.reads }

  pub text_fault : {own : List (List ℕ)} {es : Drafts} (f : Fault) → IsRead seen items own (Some f) es → IsFaultOf seen items f
  text_fault {own} {es} f r =
      let g = text_globals seen items r.names in
      record {
        names = r.names;
        assigns = r.assigns;
        there = fault_there g items f r.reads;
        least = fault_least g items f r.reads;
        drafts = es;
        first = r.reads;
      }

  pub names_one : {a b : List (List ℕ)} {es fs : Drafts} → TextExpands seen items a es → TextExpands seen items b fs → a ≡ b
  names_one p q = assigns_one p.assigns q.assigns

  pub text_one : {a b : List (List ℕ)} {es fs : Drafts} → TextExpands seen items a es → TextExpands seen items b fs → es ≡ fs
  text_one {a} {b} {es} {fs} p q =
      forms_one (text_globals seen items b) items (subst (λ n. FormsExpand (text_globals seen items n) items es) (names_one p q) p.expands) q.expands

  pub text_clean : {a : List (List ℕ)} {es : Drafts} {f : Fault} → TextExpands seen items a es → IsFaultOf seen items f → ⊥
  text_clean {a} {es} {f} p q =
      forms_clean (text_globals seen items q.names) items (subst (λ n. FormsExpand (text_globals seen items n) items es) (assigns_one p.assigns q.assigns) p.expands) q.there

  pub text_fault_one : {f h : Fault} → IsFaultOf seen items f → IsFaultOf seen items h → f ≡ h
  text_fault_one {f} {h} p q =
      some_same (reading_one (text_globals seen items q.names) items
      (subst (λ n. FormsRead (text_globals seen items n) items (Some f) p.drafts) (assigns_one p.assigns q.assigns) p.first) q.first).0
