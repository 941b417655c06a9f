-- Items have a library or an error, and never both.
use Rattle.std.proofs.Common.{◌≡◌, ◌≢◌, ◌⊎◌, inl, inr, ◌≤◌, ℕ, List, [], ◌∷◌, map, Option, Some, None, refl, sym, ◌∙◌, subst}
use Rattle.std.proofs.lemmas.Option.{none-some}
use Rattle.sch_read.specs.Grammar.{Data}
use Rattle.sch_sketch.specs.declared.fault.Fault.{Fault}
use Rattle.sch_sketch.specs.Draft.{Draft}
use Rattle.sch_expansion.specs.FaultOrder.{rank}
use Rattle.sch_link_tables.specs.Programs.{Definition, names_of_each, procedure_of}
use Rattle.sch_core.specs.LibraryDefinitions.{AreNamedProcedures}
use Rattle.sch_toplevel.specs.Items.{item_places, item_names, ItemsExpand, ItemsRead}
use Rattle.sch_core.specs.Answer.{IsErrorFor}
use Rattle.sch_core.specs.Excess.{definition_excess, first_definition_excess}
use Rattle.sch_core.specs.Libraries.{IsLibraryOf, LibraryExceedsAt, IsLibraryFault, IsLibraryError}
use Rattle.sch_core.specs.declared.error.CoreError.{CoreError}
use Rattle.sch_core.specs.declared.error.CoreError.TheVariants as errors
use Rattle.sch_core.specs.declared.error.Kind.{Kind}
use Rattle.sch_core.proofs.texts.ErrorLaws as laws
use Rattle.sch_core.proofs.texts.ErrorLaws.{IsCounted, excess_counted, place_counted}
use Rattle.sch_core.proofs.items.ItemLaws.{items_best, items_expand, items_named, items_made, items_one, items_clean, reading_one, items_read}
use Rattle.sch_word.proofs.facts.Lists.{some_same}

pub definitions_counted : (places : List ℕ) (ds : List Definition) (k : Kind) (at : ℕ) → first_definition_excess places ds ≡ Some (k, at) → IsCounted k
definitions_counted [] ds k at e = absurd (none-some _ e)
definitions_counted (p ∷ places) [] k at e = absurd (none-some _ e)
definitions_counted (p ∷ places) (d ∷ ds) k at e =
    place_counted p (definition_excess d) (first_definition_excess places ds) k at e (λ j i. excess_counted _ _ j i) (λ i. definitions_counted places ds k at i)

module _ (items : Data) where
  -- the least fault is that of the reading
  pub library_fault : (f : Fault) (es : List Draft) → ItemsRead [] items None (Some f) es → IsLibraryFault items f
  library_fault f es r =
      let best = items_best [] items None (Some f) es r in
      record {
        there = elim (best.from f refl) [ inl i ↦ absurd (none-some _ i) | inr h ↦ h ];
        least = λ g h. let m = best.below g h in subst (λ k. rank k ≤ rank g) (sym (some_same m.is)) m.below;
        drafts = es;
        first = r;
      }

  -- the error that a fault has, and that a definition has with too many variables
  pub faulty_error : (e : CoreError) (f : Fault) → IsErrorFor e f → IsLibraryFault items f → IsLibraryError items e
  faulty_error = laws.faulty_error (IsLibraryFault items) (LibraryExceedsAt items)

  pub excessive_error : (kind : Kind) (at : ℕ) → IsCounted kind → LibraryExceedsAt items kind at → IsLibraryError items (errors.Limit kind at)
  excessive_error = laws.excessive_error (IsLibraryFault items) (LibraryExceedsAt items)

  -- ## A library or an error

  abbrev Refused : Type 0
  Refused = laws.Refused (IsLibraryFault items) (LibraryExceedsAt items)

  counted : (ds : List Definition) → ItemsExpand [] items ds → (o : Option (Kind × ℕ)) → first_definition_excess (item_places items) ds ≡ o →
      ((ds : List Definition) × IsLibraryOf items ds) ⊎ Refused
  counted ds h None e = inl (ds, record { expands = h; fits = e })
  counted ds h (Some (kind, at)) e =
      inr (laws.exceeding (IsLibraryFault items) (LibraryExceedsAt items) kind at (definitions_counted (item_places items) ds kind at e) (record { definitions = ds; expands = h; exceeding = e }))

  walked : (o : Option Fault) (es : List Draft) → ItemsRead [] items None o es → ((ds : List Definition) × IsLibraryOf items ds) ⊎ Refused
  walked None es r = let m = items_made [] items None es r in counted m.0 m.1 _ refl
  walked (Some f) es r = inr (laws.refused (IsLibraryFault items) (LibraryExceedsAt items) f (library_fault f es r))

  pub library_or_error : ((ds : List Definition) × IsLibraryOf items ds) ⊎ ((e : CoreError) × (e ≢ errors.Memory) × IsLibraryError items e)
  library_or_error = let r = items_read [] items None in walked r.0 r.1 r.2

  -- ## Never two

  pub one_library : (ds ds' : List Definition) → IsLibraryOf items ds → IsLibraryOf items ds' → ds ≡ ds'
  one_library ds ds' a b = items_one [] items ds ds' a.expands b.expands

  faultless : (ds : List Definition) (f : Fault) → IsLibraryOf items ds → IsLibraryFault items f → ⊥
  faultless ds f a b = items_clean [] items ds f a.expands b.there

  fits : (ds : List Definition) (kind : Kind) (at : ℕ) → IsLibraryOf items ds → LibraryExceedsAt items kind at → ⊥
  fits ds kind at a b =
      none-some _ (sym (subst (λ l. first_definition_excess (item_places items) l ≡ None) (items_one [] items ds b.definitions a.expands b.expands) a.fits) ∙ b.exceeding)

  pub never_both : (ds : List Definition) (e : CoreError) → IsLibraryOf items ds → IsLibraryError items e → e ≡ errors.Memory
  never_both ds e a = laws.only_memory (IsLibraryFault items) (LibraryExceedsAt items) (λ f b. faultless ds f a b) (λ kind at b. fits ds kind at a b) e

  exceeds_one : {k k' : Kind} {at at' : ℕ} → LibraryExceedsAt items k at → LibraryExceedsAt items k' at' → ◌≡◌ {A = Option (Kind × ℕ)} (Some (k, at)) (Some (k', at'))
  exceeds_one {k} {k'} {at} {at'} a b =
      sym (subst (λ l. first_definition_excess (item_places items) l ≡ Some (k, at)) (items_one [] items a.definitions b.definitions a.expands b.expands) a.exceeding) ∙ b.exceeding

  fault_one : {f g : Fault} → IsLibraryFault items f → IsLibraryFault items g → f ≡ g
  fault_one {f} {g} a b = some_same (reading_one [] items None (Some f) (Some g) a.drafts b.drafts a.first b.first)

  exceeds_faultless : (k : Kind) (at : ℕ) (f : Fault) → LibraryExceedsAt items k at → IsLibraryFault items f → ⊥
  exceeds_faultless k at f a b = items_clean [] items a.definitions f a.expands b.there

  pub one_error : (e e' : CoreError) → e ≢ errors.Memory → e' ≢ errors.Memory → IsLibraryError items e → IsLibraryError items e' → e ≡ e'
  one_error = laws.one_error (IsLibraryFault items) (LibraryExceedsAt items) (λ f g a b. fault_one a b) (λ k k' at at' a b. exceeds_one a b) exceeds_faultless

-- ## Items that were read

module _ (items : Data) (names : List (Option (List ℕ))) (o : Option Fault) (es : List Draft) (n : names ≡ item_names items) (r : ItemsRead [] items None o es) where
  pub fault_found : (f : Fault) → o ≡ Some f → IsLibraryFault items f
  fault_found f e = library_fault items f es (subst (λ q. ItemsRead [] items None q es) e r)

  pub named_procedures : o ≡ None → AreNamedProcedures names es
  named_procedures e = subst (λ vs. AreNamedProcedures vs es) (sym n) (items_named [] items None es (subst (λ q. ItemsRead [] items None q es) e r))

  module _ (e : o ≡ None) (ds : List Definition) (i : names ≡ map Some (names_of_each ds)) (j : es ≡ map procedure_of ds) where
    pub expands : ItemsExpand [] items ds
    expands = items_expand [] items ds None (subst (λ l. ItemsRead [] items None None l) j (subst (λ q. ItemsRead [] items None q es) e r)) (sym n ∙ i)

    pub excess_found : (kind : Kind) (at : ℕ) → first_definition_excess (item_places items) ds ≡ Some (kind, at) → LibraryExceedsAt items kind at
    excess_found kind at h = record { definitions = ds; expands = expands; exceeding = h }

    pub library_found : first_definition_excess (item_places items) ds ≡ None → IsLibraryOf items ds
    library_found h = record { expands = expands; fits = h }
