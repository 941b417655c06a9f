-- A body with live sets, and its tree with lazy regions.
use Rattle.std.proofs.Common.{◌≡◌, ℕ, true, ap, ◌∙◌, refl}
use Rattle.std.proofs.Math.Logic.{∥∥₁_map}
use Rattle.sch_word.proofs.facts.Booleans.{and_left}
use Rattle.sch_control.specs.declared.live_body.LiveBody.{LiveBody}
use Rattle.sch_control.specs.Meaning.{no_region}
use Rattle.sch_control.specs.Tree.{Expression, Code}
use Rattle.sch_control.specs.Valid.{in_scope_whole, is_bare, numbered}
use Rattle.sch_control.specs.View.{expression}
use Rattle.sch_control.specs.flow.Bare.{unlisted, unsaved, erased}
use Rattle.sch_control.specs.flow.LiveSets.{HasLiveSets}
use Rattle.sch_control.specs.flow.Middle.{listed}
use Rattle.sch_control.specs.flow.Regions.{regions_apart}
use Rattle.sch_control.proofs.ExactSets.{exact}
use Rattle.sch_control.proofs.SameBodies.{ending, numbers, scoped, with_tree}
use Rattle.sch_paths.specs.Exact.{LazySaves}
use Rattle.sch_paths.specs.EachLiveSaved.{EachLiveSaved}
use Rattle.sch_paths.specs.PlainlySame.{PlainlySame}
use Rattle.sch_paths.specs.Regions.{regions_stand}
use Rattle.sch_paths.proofs.saves.UnsavedSets.{same_sets}
use Rattle.sch_saves.specs.LazyRegions.{lazily_saved}
use Rattle.sch_saves.specs.Promises.{EachSaveFollowed}
use Rattle.sch_saves.proofs.LazyTrees.{unsaved_bare, stands, regions_are_apart}
use Rattle.sch_saves.proofs.LazySets.{without, erased_tree, saves_lazily, saves_followed, live_saved, does_the_same}

module _ {N : ℕ} (b : LiveBody N) (r : Expression) (made : r ≡ lazily_saved b.body.now.variables (listed b.exp)) where
  abbrev plain : Expression
  plain = unlisted (listed b.exp)

  abbrev c : Code
  c = with_tree b.body.now plain b.bare

  scope : in_scope_whole c ≡ true
  scope = scoped b.body.now plain b.bare

  numbering : numbered c ≡ true
  numbering = numbers b.body.now plain b.bare

  no_regions : unsaved (listed b.exp) ≡ listed b.exp
  no_regions = unsaved_bare (listed b.exp) (and_left (is_bare plain) _ (ending b.body.now plain b.bare))

  pub same : unsaved r ≡ listed b.exp
  same = without c (listed b.exp) r refl scope numbering no_regions made

  pub bare : ∥ erased r ≡ expression b.body.now.exp ∥₁
  bare = ∥∥₁_map b.bare (λ is. erased_tree c (listed b.exp) r refl scope numbering no_regions made ∙ is)

  pub live_sets : ∥ HasLiveSets r ∥₁
  live_sets = ∥∥₁_map b.live (same_sets (listed b.exp) r same)

  pub apart : regions_apart b.body.now.variables r no_region ≡ true
  apart = ap (λ z. regions_apart b.body.now.variables z no_region) made ∙ regions_are_apart b.body.now.variables (listed b.exp)

  pub stand : regions_stand true r ≡ true
  stand = ap (regions_stand true) made ∙ stands b.body.now.variables (listed b.exp)

  pub lazily : LazySaves r
  lazily = saves_lazily c (listed b.exp) r refl scope numbering no_regions made (exact (listed b.exp) b.live)

  pub followed : EachSaveFollowed r
  followed = saves_followed c (listed b.exp) r refl scope numbering no_regions made (exact (listed b.exp) b.live)

  pub saved : EachLiveSaved r
  saved = live_saved c (listed b.exp) r refl scope numbering no_regions made (exact (listed b.exp) b.live)

  pub runs : PlainlySame (listed b.exp) r
  runs = does_the_same c (listed b.exp) r refl scope numbering no_regions made
