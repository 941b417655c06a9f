-- What a text's readings have found. It is read once more only where it assigns a name that it does not define.
use Rattle.std.proofs.Common.{◌≡◌, ◌≤◌, ℕ, Bool, true, false, cond, List, [], ◌∷◌, ◌++◌, length, Option, None, refl, sym, ap, ◌∙◌, subst, arith, length-append}
use Rattle.sch_read.specs.Grammar.{Data}
use Rattle.sch_names.specs.NamesView.{with_name}
use Rattle.sch_names.specs.Scope.{Globals, is_among}
use Rattle.sch_sketch.specs.declared.fault.Fault.{Fault}
use Rattle.sch_sketch.specs.declared.sketch.Position.TheVariants.{Value}
use Rattle.sch_sketch.specs.Draft.{Drafts}
use Rattle.sch_sketch.specs.Sketch.{Sketch, sketches, sequencing}
use Rattle.sch_expansion.specs.Reads.{PartsRead}
use Rattle.sch_link_tables.specs.Named.{firsts}
use Rattle.sch_link_tables.proofs.NameSteps.{firsts_append}
use Rattle.sch_toplevel.specs.Assigned.{assigned_in_each}
use Rattle.sch_toplevel.specs.Forms.{sketches_of, defined_by_each, own_names, text_globals}
use Rattle.sch_toplevel.specs.Texts.{FormsRead, IsRead}

-- ## Names that are no more than before

with_grows : (x : List ℕ) (names : List (List ℕ)) → length names ≤ length (with_name x names)
with_grows x names = go (is_among x names)
  where
    go : (b : Bool) → length names ≤ length (cond b names (names ++ x ∷ []))
    go true = omega arith
    go false = rw length-append (omega arith)

firsts_grow : (names xs : List (List ℕ)) → length names ≤ length (firsts names xs)
firsts_grow names [] = omega arith
firsts_grow names (x ∷ xs) = let a = with_grows x names in let b = firsts_grow (with_name x names) xs in omega (arith, a, b)

pub firsts_same : (names xs : List (List ℕ)) → length (firsts names xs) ≡ length names → firsts names xs ≡ names
firsts_same names [] h = refl
firsts_same names (x ∷ xs) h = go (is_among x names) (firsts_same names xs) h
  where
    go : (b : Bool) → (length (firsts names xs) ≡ length names → firsts names xs ≡ names) → length (firsts (cond b names (names ++ x ∷ [])) xs) ≡ length names → firsts (cond b names (names ++ x ∷ [])) xs ≡ names
    go true more e = more e
    go false more e = let a = firsts_grow (names ++ x ∷ []) xs in let b = length-append names (x ∷ []) in absurd (omega (arith, a, b, e))

-- ## One reading, and two

module _ (seen : List (List ℕ)) (items : Data) (ks : List Sketch) (listed : ks ≡ sketches_of items) (bound own : List (List ℕ)) (internal : Bool)
    (bound_is : bound ≡ firsts (firsts [] seen) (defined_by_each ks)) (own_is : own ≡ firsts [] (defined_by_each ks)) (text_is : internal ≡ false) where
  -- the globals of a text with these names of its own
  abbrev in_text : List (List ℕ) → Globals
  in_text names = record { bound = bound; own = names; internal = internal }

  abbrev ReadIn : List (List ℕ) → (after : Option Fault) → Drafts → Type 0
  ReadIn names f es = PartsRead (in_text names) sequencing true 1 [] Value (sketches ks) None f es

  assigning : (own' assigned : List (List ℕ)) → own' ≡ firsts own assigned → own' ≡ own_names items assigned
  assigning own' assigned h =
      h ∙ ap (λ n. firsts n assigned) own_is ∙ sym (firsts_append [] (defined_by_each ks) assigned) ∙ ap (λ l. firsts [] (defined_by_each l ++ assigned)) listed

  globals_are : (own' assigned : List (List ℕ)) → own' ≡ own_names items assigned → in_text own' ≡ text_globals seen items assigned
  globals_are own' assigned h =
      let b = bound_is ∙ sym (firsts_append [] seen (defined_by_each ks)) ∙ ap (λ l. firsts [] (seen ++ defined_by_each l)) listed in
      λ i. record { bound = b i; own = h i; internal = text_is i }

  forms_read : (own' assigned : List (List ℕ)) (f : Option Fault) (es : Drafts) → own' ≡ own_names items assigned → ReadIn own' f es → FormsRead (text_globals seen items assigned) items f es
  forms_read own' assigned f es h r =
      subst (λ l. PartsRead (text_globals seen items assigned) sequencing true 1 [] Value (sketches l) None f es) listed
      (subst (λ g. PartsRead g sequencing true 1 [] Value (sketches ks) None f es) (globals_are own' assigned h) r)

  pub read_twice : (own' : List (List ℕ)) (f f' : Option Fault) (es es' : Drafts) → ReadIn own f es → own' ≡ firsts own (assigned_in_each es) → ReadIn own' f' es' →
      IsRead seen items own' f' es'
  read_twice own' f f' es es' r h r' =
      let owned = assigning own' (assigned_in_each es) h in
      record {
        names = assigned_in_each es;
        assigns = record { fault = f; drafts = es; reads = forms_read own [] f es (assigning own [] refl) r; assigned = refl };
        owned = owned;
        reads = forms_read own' (assigned_in_each es) f' es' owned r';
      }

  pub read_once : (own' : List (List ℕ)) (f : Option Fault) (es : Drafts) → ReadIn own f es → own' ≡ firsts own (assigned_in_each es) → own' ≡ own → IsRead seen items own' f es
  read_once own' f es r h same = read_twice own' f f es es r h (subst (λ n. ReadIn n f es) (sym same) r)
