-- With a library, data have a program or an error, and never both.
use Rattle.std.proofs.Common.{◌≡◌, ◌≢◌, ◌⊎◌, inl, inr, ℕ, List, [], ◌∷◌, Option, Some, None, refl, sym, ap, ◌∙◌, subst}
use Rattle.std.specs.Prelude.{Result, Ok, Err, IsErrAnd, MatchResult}
use Rattle.std.proofs.lemmas.Option.{none-some}
use Rattle.sch_lang.specs.Tree.{Source, Expressions, no_expressions, and_expression}
use Rattle.sch_read.specs.Grammar.{Data}
use Rattle.sch_sketch.specs.Draft.{Drafts}
use Rattle.sch_sketch.specs.declared.fault.Fault.{Fault}
use Rattle.sch_link_tables.specs.Programs.{Definition, seen, program_of}
use Rattle.sch_toplevel.specs.Forms.{own_names, form_places}
use Rattle.sch_toplevel.specs.Texts.{TextExpands, IsFaultOf, IsRead}
use Rattle.sch_toplevel.proofs.TextLaws.{text_read, text_made, text_fault, names_one, text_one, text_clean, text_fault_one}
use Rattle.sch_core.specs.Answer.{IsErrorFor, IsErrorIn}
use Rattle.sch_core.specs.Programs.{IsProgramOf, ExceedsAt}
use Rattle.sch_core.specs.Excess.{excess, first_excess}
use Rattle.sch_core.specs.declared.error.CoreError.{CoreError}
use Rattle.sch_core.specs.declared.error.CoreError.TheVariants as errors
use Rattle.sch_core.specs.declared.error.Kind.{Kind}
use Rattle.sch_core.proofs.texts.ErrorLaws as laws
use Rattle.sch_core.proofs.texts.ErrorLaws.{IsCounted, excess_counted, place_counted}

-- what is an error has no value
pub err_only : {A B : Type 0} (P : A → Type 0) (Q : B → Type 0) (r : Result A B) → IsErrAnd r Q → MatchResult r P Q
err_only P Q (Ok x) h = absurd h
err_only P Q (Err e) h = h

pub first_counted : (places : List ℕ) (es : Expressions) (k : Kind) (at : ℕ) → first_excess places es ≡ Some (k, at) → IsCounted k
first_counted [] es k at e = absurd (none-some _ e)
first_counted (p ∷ places) no_expressions k at e = absurd (none-some _ e)
first_counted (p ∷ places) (and_expression x es) k at e =
    place_counted p (excess 0 x) (first_excess places es) k at e (λ j i. excess_counted _ _ j i) (λ i. first_counted places es k at i)

module _ (ds : List Definition) (items : Data) where
  -- the error that a fault has, and that a form has with too many variables
  pub faulty_error : (e : CoreError) (f : Fault) → IsErrorFor e f → IsFaultOf (seen ds) items f → IsErrorIn ds items e
  faulty_error = laws.faulty_error (IsFaultOf (seen ds) items) (ExceedsAt ds items)

  pub excessive_error : (kind : Kind) (at : ℕ) → IsCounted kind → ExceedsAt ds items kind at → IsErrorIn ds items (errors.Limit kind at)
  excessive_error = laws.excessive_error (IsFaultOf (seen ds) items) (ExceedsAt ds items)

  -- ## A program or an error

  abbrev Refused : Type 0
  Refused = laws.Refused (IsFaultOf (seen ds) items) (ExceedsAt ds items)

  counted : (names : List (List ℕ)) (es : Drafts) → TextExpands (seen ds) items names es → (o : Option (Kind × ℕ)) →
      first_excess (form_places items) (program_of ds (own_names items names) es).forms ≡ o → ((p : Source) × IsProgramOf ds items p) ⊎ Refused
  counted names es h None e = inl (program_of ds (own_names items names) es, record { assigned = names; drafts = es; expands = h; numbered = refl; fits = e })
  counted names es h (Some (kind, at)) e =
      inr (laws.exceeding (IsFaultOf (seen ds) items) (ExceedsAt ds items) kind at (first_counted (form_places items) (program_of ds (own_names items names) es).forms kind at e)
      (record { assigned = names; drafts = es; expands = h; exceeding = e }))

  walked : (own : List (List ℕ)) (o : Option Fault) (es : Drafts) → IsRead (seen ds) items own o es → ((p : Source) × IsProgramOf ds items p) ⊎ Refused
  walked own None es r = counted r.names es (text_made (seen ds) items r) _ refl
  walked own (Some f) es r = inr (laws.refused (IsFaultOf (seen ds) items) (ExceedsAt ds items) f (text_fault (seen ds) items f r))

  pub program_or_error : ((p : Source) × IsProgramOf ds items p) ⊎ ((e : CoreError) × (e ≢ errors.Memory) × IsErrorIn ds items e)
  program_or_error = let r = text_read (seen ds) items in walked r.0 r.1 r.2 r.3

  -- ## Never two

  program_one : {a b : List (List ℕ)} {es fs : Drafts} → TextExpands (seen ds) items a es → TextExpands (seen ds) items b fs →
      program_of ds (own_names items a) es ≡ program_of ds (own_names items b) fs
  program_one {a} {b} {es} {fs} p q =
      ap (λ n. program_of ds (own_names items n) es) (names_one (seen ds) items p q) ∙ ap (program_of ds (own_names items b)) (text_one (seen ds) items p q)

  program_faultless : (p : Source) (f : Fault) → IsProgramOf ds items p → IsFaultOf (seen ds) items f → ⊥
  program_faultless p f a b = text_clean (seen ds) items a.expands b

  program_fits : (p : Source) (kind : Kind) (at : ℕ) → IsProgramOf ds items p → ExceedsAt ds items kind at → ⊥
  program_fits p kind at a b =
      none-some _ (sym (subst (λ q. first_excess (form_places items) q.forms ≡ None) (a.numbered ∙ program_one a.expands b.expands) a.fits) ∙ b.exceeding)

  pub never_both : (p : Source) (e : CoreError) → IsProgramOf ds items p → IsErrorIn ds items e → e ≡ errors.Memory
  never_both p e a =
      laws.only_memory (IsFaultOf (seen ds) items) (ExceedsAt ds items) (λ f b. program_faultless p f a b) (λ kind at b. program_fits p kind at a b) e

  pub one_program : (p q : Source) → IsProgramOf ds items p → IsProgramOf ds items q → p ≡ q
  one_program p q a b = a.numbered ∙ program_one a.expands b.expands ∙ sym b.numbered

  exceeds_one : {k k' : Kind} {at at' : ℕ} → ExceedsAt ds items k at → ExceedsAt ds items k' at' → ◌≡◌ {A = Option (Kind × ℕ)} (Some (k, at)) (Some (k', at'))
  exceeds_one {k} {k'} {at} {at'} a b =
      sym (subst (λ q. first_excess (form_places items) q.forms ≡ Some (k, at)) (program_one a.expands b.expands) a.exceeding) ∙ b.exceeding

  exceeds_faultless : (k : Kind) (at : ℕ) (f : Fault) → ExceedsAt ds items k at → IsFaultOf (seen ds) items f → ⊥
  exceeds_faultless k at f a b = text_clean (seen ds) items a.expands b

  pub one_error : (e e' : CoreError) → e ≢ errors.Memory → e' ≢ errors.Memory → IsErrorIn ds items e → IsErrorIn ds items e' → e ≡ e'
  one_error =
      laws.one_error (IsFaultOf (seen ds) items) (ExceedsAt ds items) (λ f g a b. text_fault_one (seen ds) items a b) (λ k k' at at' a b. exceeds_one a b) exceeds_faultless
