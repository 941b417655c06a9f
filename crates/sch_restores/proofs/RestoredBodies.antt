-- A body with regions, and its tree with what each call restores.
use Rattle.std.proofs.Common.{◌≡◌, ℕ, ◌<◌, ◌*◌, true, ap, sym, ◌∙◌, refl, subst}
use Rattle.std.specs.FinSet as set
use Rattle.std.proofs.Math.Logic.{∥∥₁_map}
use Rattle.std.proofs.Math.Path.{fun_ext}
use Rattle.sch_sets.specs.Members.{NumberSet}
use Rattle.sch_sets.proofs.Membership.{contains-empty}
use Rattle.sch_control.specs.declared.saved_body.SavedBody.{SavedBody}
use Rattle.sch_control.specs.Meaning.{no_region}
use Rattle.sch_control.specs.Tree.{Expression, Code}
use Rattle.sch_control.specs.Valid.{in_scope_whole, numbered}
use Rattle.sch_control.specs.View.{expression}
use Rattle.sch_control.specs.flow.Bare.{erased}
use Rattle.sch_control.specs.flow.LiveSets.{HasLiveSets}
use Rattle.sch_control.specs.flow.LiveTests.{behind}
use Rattle.sch_control.specs.flow.Middle.{listed}
use Rattle.sch_control.specs.flow.Reads.{VariablesBelow}
use Rattle.sch_control.specs.flow.Regions.{regions_apart, restores_saved, SavesBelow}
use Rattle.sch_control.proofs.ExactSets.{exact}
use Rattle.sch_control.proofs.SameBodies.{numbers, scoped, with_tree}
use Rattle.sch_control.proofs.SetTests.{one_set}
use Rattle.sch_paths.specs.EachLiveSaved.{EachLiveSaved}
use Rattle.sch_paths.specs.EachSoonRestored.{EachSoonRestored}
use Rattle.sch_paths.specs.Exact.{EagerRestores}
use Rattle.sch_paths.proofs.saves.VariablesBelow.{listed_below, some_below}
use Rattle.sch_restores.specs.Restores.{eager, eagerly_restored, RestoresSuffice}
use Rattle.sch_restores.proofs.EagerTrees.{all_eager, apart_below, apart_eager, erased_eager, saved_eager, soon_restored, suffices}

-- the sets are those of the body with regions
pub same_live : {N : ℕ} (b : SavedBody N) (r : Expression) → r ≡ listed b.exp → ∥ HasLiveSets r ∥₁
same_live b r is = subst (λ z. ∥ HasLiveSets z ∥₁) (sym is) b.live

none_there : (s : NumberSet) → s ≡ set.empty → (x : ℕ) → set.contains s x ≡ no_region x
none_there s none x = ap (λ z. set.contains z x) none ∙ contains-empty x

-- round a body stands no region, and behind it nothing is wanted
pub of_none : (n : ℕ) (e r : Expression) (s t : NumberSet) → s ≡ set.empty → t ≡ set.empty → r ≡ eager n (set.contains s) e (behind t t) → r ≡ eagerly_restored n e
of_none n e r s t none none' made =
    made
    ∙ (ap (λ f. eager n f e (behind t t)) (fun_ext (none_there s none)) ∙ ap (eager n no_region e) (one_set t _ (none_there t none')))

module _ {N : ℕ} (b : SavedBody N) where
  abbrev code_of : Code
  code_of = with_tree b.body.now (erased (listed b.exp)) b.bare

  scope : in_scope_whole code_of ≡ true
  scope = scoped b.body.now (erased (listed b.exp)) b.bare

  numbering : numbered code_of ≡ true
  numbering = numbers b.body.now (erased (listed b.exp)) b.bare

  pub some_words : 0 < 64 * N
  some_words = some_below code_of numbering (64 * N) b.fits

  pub variables_within : VariablesBelow (64 * N) (listed b.exp)
  variables_within = listed_below code_of numbering (64 * N) b.fits (listed b.exp) refl scope

  pub saves_within : SavesBelow (64 * N) (listed b.exp)
  saves_within = apart_below b.body.now.variables (64 * N) b.fits (listed b.exp) no_region b.apart

module _ {N : ℕ} (b : SavedBody N) (r : Expression) (made : r ≡ eagerly_restored b.body.now.variables (listed b.exp)) where
  pub bare : ∥ erased r ≡ expression b.body.now.exp ∥₁
  bare = ∥∥₁_map b.bare (λ is. ap erased made ∙ (erased_eager b.body.now.variables no_region (listed b.exp) _ ∙ is))

  pub apart : regions_apart b.body.now.variables r no_region ≡ true
  apart = ap (λ z. regions_apart b.body.now.variables z no_region) made ∙ (apart_eager b.body.now.variables (listed b.exp) no_region no_region _ ∙ b.apart)

  pub saved : restores_saved r no_region ≡ true
  saved = ap (λ z. restores_saved z no_region) made ∙ saved_eager b.body.now.variables (listed b.exp) no_region _

  pub eagerly : EagerRestores r
  eagerly = all_eager (code_of b) (listed b.exp) r refl (scope b) (numbering b) (exact (listed b.exp) b.live) made

  pub enough : EachLiveSaved (listed b.exp) → EachSoonRestored r
  enough saves = soon_restored (code_of b) (listed b.exp) r refl (scope b) (numbering b) (exact (listed b.exp) b.live) made saves

  pub runs : EachLiveSaved (listed b.exp) → RestoresSuffice (listed b.exp) r
  runs saves = suffices (code_of b) (listed b.exp) r refl (scope b) (numbering b) (exact (listed b.exp) b.live) made saves
