-- The passes of one body, one after the other.
use Rattle.std.proofs.Common.{◌≡◌, ℕ, ◌+◌, ◌*◌, ◌<◌, List, false, true, ap, sym, ◌∙◌, subst}
use Rattle.sch_word.specs.declared.place.Place.{Place}
use Rattle.sch_control.specs.declared.body.Body.{Body}
use Rattle.sch_control.specs.declared.placed_body.PlacedBody.{PlacedBody}
use Rattle.sch_control.specs.declared.restored_body.RestoredBody.{RestoredBody}
use Rattle.sch_control.specs.declared.saved_body.SavedBody.{SavedBody}
use Rattle.sch_control.specs.Meaning.{no_region}
use Rattle.sch_control.specs.Sizes.{tests_in}
use Rattle.sch_control.specs.SourceView.{code_of}
use Rattle.sch_control.specs.Tree.{Code, Expression}
use Rattle.sch_control.specs.View.{expression}
use Rattle.sch_control.specs.flow.Bare.{erased, unlisted, unsaved}
use Rattle.sch_control.specs.flow.Middle.{code_with, listed}
use Rattle.sch_control.specs.flow.Places.{arrival, formals_of, place_of}
use Rattle.sch_control.specs.flow.Regions.{regions_apart}
use Rattle.sch_control.specs.flow.RestoredView.{restored}
use Rattle.sch_control.proofs.ExactSets.{exact}
use Rattle.sch_frames.specs.Tree as frames
use Rattle.sch_layout.specs.BodyLayout.{labels}
use Rattle.sch_layout.proofs.layouts.LabelsCounted.{labels_counted}
use Rattle.sch_paths.specs.Exact.{EagerRestores, LazySaves}
use Rattle.sch_paths.specs.Regions.{regions_stand}
use Rattle.sch_live.specs.LiveListed.{lists_in_order, live_listed}
use Rattle.sch_saves.specs.LazyRegions.{lazily_saved}
use Rattle.sch_saves.specs.Promises.{EachSaveFollowed}
use Rattle.sch_saves.proofs.LazyTrees.{erased_is}
use Rattle.sch_restores.specs.Restores.{eagerly_restored}
use Rattle.sch_restores.proofs.EagerTrees.{erased_eager}
use Rattle.sch_regs.specs.PlaceChoice.{places}
use Rattle.sch_regs.specs.Spills.{SlotsWhenFull}
use Rattle.sch_homes.specs.Homes.{homes_code}
use Rattle.sch_homes.specs.Laws.{IsPlaced}
use Rattle.sch_paths.specs.EachSoonRestored.{EachSoonRestored}
use Rattle.sch_homes.specs.ListedMoves.{homes_calls}
use Rattle.sch_homes.specs.View.{bare_code}
use Rattle.sch_homes.proofs.KeptByType.{body_placed}
use Rattle.sch_registers.specs.FramedBodies.{IsFramedBody}
use Rattle.sch_registers.specs.Registers.{registers_calls, registers_code, registers_tree}
use Rattle.sch_registers.proofs.FramedOne.{IsSavedWell, framed_body}
use Rattle.sch_registers.proofs.InOrder.{lazily_same, restored_same}
use Rattle.sch_registers.proofs.MadeOne.{IsExact}

-- what the passes say of what they made, from what is live after the calls on
pub record IsJoined {N : ℕ} (b : Body) (live : Expression) (s : SavedBody N) (r : RestoredBody N) (ps : List Place) : Type 0 where
  pub body : r.body.now ≡ b
  pub saved_body : s.body.now ≡ b
  pub bare : unlisted live ≡ expression b.exp
  pub made_live : lists_in_order b.variables live ≡ live_listed b.variables (expression b.exp)
  pub without_regions : unsaved (listed s.exp) ≡ live
  pub made_saved : listed s.exp ≡ lazily_saved b.variables live
  pub lazy : LazySaves (listed s.exp)
  pub stand : regions_stand true (listed s.exp) ≡ true
  pub followed : EachSaveFollowed (listed s.exp)
  pub made_restored : restored r.exp ≡ eagerly_restored b.variables (listed s.exp)
  pub soon : EachSoonRestored (restored r.exp)
  pub eager : EagerRestores (restored r.exp)
  pub made_places : ps ≡ places b.entry b.variables (restored r.exp)
  pub formals : (k : ℕ) → k < formals_of b.entry → place_of ps (2 + k) ≡ arrival k
  pub spills : SlotsWhenFull (place_of ps) (restored r.exp)

-- the passes put lists and regions into a tree, and change nothing else of it
pub tree_kept : (n : ℕ) (live saved tree e : Expression) → unlisted live ≡ e → unsaved saved ≡ live → tree ≡ eagerly_restored n saved → erased tree ≡ e
tree_kept n live saved tree e bare without made =
    ap erased made ∙ (erased_eager n no_region saved (λ x t. false) ∙ (erased_is saved ∙ (ap unlisted without ∙ bare)))

-- so it has the labels of a body of as many tests
pub labels_kept : (n : ℕ) (live saved tree e : Expression) → unlisted live ≡ e → unsaved saved ≡ live → tree ≡ eagerly_restored n saved → labels tree ≡ 2 * tests_in e
labels_kept n live saved tree e bare without made = labels_counted tree ∙ ap (λ e. 2 * tests_in e) (tree_kept n live saved tree e bare without made)

module _ {N : ℕ} (b : Body) (live : Expression) (s : SavedBody N) (p : PlacedBody N) (j : IsJoined b live s p.restored.now p.places) where
  abbrev c : Code
  c = code_of b

  abbrev r : RestoredBody N
  r = p.restored.now

  abbrev saved : Expression
  saved = listed s.exp

  abbrev tree : Expression
  tree = eagerly_restored b.variables saved

  body : erased saved ≡ expression b.exp
  body = erased_is saved ∙ (ap unlisted j.without_regions ∙ j.bare)

  well : IsSavedWell c saved
  well = record {
    valid = record { body = body; scopes = b.scoped; numbers = b.numbered; ending = b.ended; stand = j.stand; sets = exact saved s.live; saves = j.lazy };
    followed = j.followed;
    apart = ap (λ (b : Body). regions_apart b.variables saved no_region) (sym j.saved_body) ∙ s.apart;
  }

  bare_is : bare_code p ≡ c
  bare_is =
      ap (λ (b : Body). code_with b.name b.entry b.variables (erased (restored r.exp))) j.body
      ∙ ap (code_with b.name b.entry b.variables) (tree_kept b.variables live saved (restored r.exp) (expression b.exp) j.bare j.without_regions j.made_restored)

  placed : IsPlaced c tree (places b.entry b.variables tree)
  placed =
      subst (λ z. IsPlaced c z (places b.entry b.variables z)) j.made_restored
      (subst (IsPlaced c (restored r.exp)) j.made_places (subst (λ z. IsPlaced z (restored r.exp) p.places) bare_is (body_placed p)))

  exactly : IsExact c tree (places b.entry b.variables tree)
  exactly =
      subst (λ z. IsExact c z (places b.entry b.variables z)) j.made_restored
      (subst (IsExact c (restored r.exp)) j.made_places (record { restores = j.eager; formals = j.formals; spills = j.spills }))

  tree_is : registers_tree b.variables (expression b.exp) ≡ tree
  unfolding registers_tree
  tree_is =
      ap (λ z. eagerly_restored b.variables (lazily_saved b.variables z)) (sym j.made_live)
      ∙ (ap (eagerly_restored b.variables) (lazily_same b.variables live)
      ∙ (restored_same b.variables no_region (lazily_saved b.variables live) (λ x t. false)
      ∙ ap (eagerly_restored b.variables) (sym j.made_saved)))

  code_is : registers_code c ≡ homes_code b.entry tree (places b.entry b.variables tree)
  unfolding registers_code
  code_is = ap (λ z. homes_code b.entry z (places b.entry b.variables z)) tree_is

  frame_is : homes_code r.body.now.entry (restored r.exp) p.places ≡ homes_code b.entry tree (places b.entry b.variables tree)
  frame_is =
      ap (λ (b : Body). homes_code b.entry (restored r.exp) p.places) j.body
      ∙ (ap (homes_code b.entry (restored r.exp)) j.made_places ∙ ap (λ z. homes_code b.entry z (places b.entry b.variables z)) j.made_restored)

  pub joined_body : (f : frames.Code) → f ≡ homes_code r.body.now.entry (restored r.exp) p.places → IsFramedBody c f
  joined_body f is =
      subst (IsFramedBody c) (sym (is ∙ frame_is)) (framed_body c saved well placed (subst EachSoonRestored j.made_restored j.soon) exactly code_is)

  calls_are : registers_calls c ≡ homes_calls b.entry tree (places b.entry b.variables tree)
  unfolding registers_calls
  calls_are = ap (λ z. homes_calls b.entry z (places b.entry b.variables z)) tree_is

  pub joined_calls : homes_calls r.body.now.entry (restored r.exp) p.places ≡ registers_calls c
  joined_calls =
      ap (λ (b : Body). homes_calls b.entry (restored r.exp) p.places) j.body
      ∙ (ap (homes_calls b.entry (restored r.exp)) j.made_places
      ∙ (ap (λ z. homes_calls b.entry z (places b.entry b.variables z)) j.made_restored ∙ sym calls_are))
