-- The frame body that the passes make of a body owes what is asked of it.
use Rattle.std.proofs.Common.{◌≡◌, true, false, List, [], Option, None, Some, refl, ap, sym, ◌∙◌, subst, arith}
use Rattle.sch_word.specs.declared.place.Place.{Place}
use Rattle.sch_word.proofs.facts.Booleans.{and_right}
use Rattle.sch_control.specs.declared.body.Entry.{Entry}
use Rattle.sch_control.specs.Meaning.{heads, no_region}
use Rattle.sch_control.specs.Tree.{Code, Expression, perform, bind, sequence, branch, fix, call, tail_call, return, end, save}
use Rattle.sch_control.specs.Valid.{first_scope, in_scope, last_position, positioned}
use Rattle.sch_control.specs.flow.Apart.{PointsApart}
use Rattle.sch_control.specs.flow.Live.{nothing_later}
use Rattle.sch_control.specs.flow.Places.{place_of}
use Rattle.sch_control.specs.flow.Regions.{regions_apart}
use Rattle.sch_layout.specs.BodyLayout.{Plan}
use Rattle.sch_layout.specs.FewCopies.{in_registers, most_saved}
use Rattle.sch_layout.specs.Laws.{Laid}
use Rattle.sch_layout.proofs.marks.OwnMarks.{own_marks_stand}
use Rattle.sch_paths.specs.Laws.{IsSaved}
use Rattle.sch_paths.specs.Regions.{HeadsLive}
use Rattle.sch_paths.proofs.paths.UnlistedPaths.{called_alike, positioned_erased}
use Rattle.sch_paths.proofs.runs.RestoresAreEnough.{scope_erased}
use Rattle.sch_paths.proofs.saves.ValidBodies.{heads_are_live}
use Rattle.sch_homes.specs.FewKept.{BodyKeepsFew}
use Rattle.sch_homes.specs.Homes.{homes_code, homes_plan}
use Rattle.sch_homes.specs.Laws.{IsFramed, IsPlaced}
use Rattle.sch_paths.specs.EachSoonRestored.{EachSoonRestored}
use Rattle.sch_homes.proofs.FewKept.{homes_fit}
use Rattle.sch_homes.proofs.FrameValid.{homes_framed}
use Rattle.sch_regs.specs.PlaceChoice.{places}
use Rattle.sch_restores.specs.Restores.{eagerly_restored}
use Rattle.sch_restores.proofs.EagerTrees.{unlisted_eager}
use Rattle.sch_saves.specs.Promises.{EachSaveFollowed}
use Rattle.sch_registers.specs.FramedBodies.{IsFramedBody}
use Rattle.sch_registers.specs.OwnMarks.{CallsItsSaves}
use Rattle.sch_registers.specs.Registers.{registers_code}
use Rattle.sch_registers.proofs.DensePlaces.{dense}
use Rattle.sch_registers.proofs.FewRegions.{HeadFew, arm_head, few_regions, points_alike}
use Rattle.sch_registers.proofs.FewRegisters.{few_kept}
use Rattle.sch_registers.proofs.FormHeads.{nothing_saved}
use Rattle.sch_registers.proofs.MadeOne.{IsExact, made_from}

-- a body with its regions, of which `c` is what it is without them
pub record IsSavedWell (c : Code) (saved : Expression) : Type 0 where
  pub valid : IsSaved c saved
  pub followed : EachSaveFollowed saved
  pub apart : regions_apart c.variables saved no_region ≡ true

module _ (c : Code) (saved : Expression) (s : IsSavedWell c saved) where
  abbrev tree : Expression
  tree = eagerly_restored c.variables saved

  abbrev given : List Place
  given = places c.entry c.variables tree

  abbrev plan : Plan
  plan = homes_plan c.entry tree given

  module _ (p : IsPlaced c tree given) (soon : EachSoonRestored tree) where
    framed : IsFramed c tree given
    framed = homes_framed c tree given p s.valid.ending soon

    points : PointsApart (place_of given) saved (Unit {0}) nothing_later
    points = points_alike (place_of given) tree saved (unlisted_eager c.variables no_region saved (λ x t. false)) (Unit {0}) nothing_later p.points

    live : HeadsLive saved nothing_later
    live = heads_are_live c saved s.valid

    -- a form saves nothing at its head, and a procedure no more than an arm
    head_few : (entry : Option Entry) → c.entry ≡ entry → HeadFew c.variables (place_of given) plan (few_kept c tree given p) (Some (most_saved plan entry)) saved
    head_few (Some e) is =
        arm_head c.variables (place_of given) plan (few_kept c tree given p) no_region saved (Unit {0}) nothing_later s.valid.saves.0 s.valid.sets live points s.apart
    head_few None is =
        by saved live
        (sym (positioned_erased saved (last_position None))
        ∙ (ap (λ z. positioned z (last_position None)) s.valid.body
        ∙ (sym (ap (λ z. positioned c.expression (last_position z)) is) ∙ and_right _ _ s.valid.ending)))
        (sym (scope_erased saved (first_scope None))
        ∙ (ap (λ z. in_scope z (first_scope None)) s.valid.body ∙ (sym (ap (λ z. in_scope c.expression (first_scope z)) is) ∙ s.valid.scopes))) where
          by : (e : Expression) → HeadsLive e nothing_later → positioned e (last_position None) ≡ true → in_scope e (first_scope None) ≡ true
              → HeadFew c.variables (place_of given) plan (few_kept c tree given p) (Some 0) e
          by (save saves e) live at i =
              let none : heads e saves ≡ [] = nothing_saved (heads e saves) e at i live.0 in
              let no : in_registers plan (heads e saves) ≡ 0 = ap (in_registers plan) none in
              omega (arith, no)
          by (perform o) live at i = tt
          by (bind y a b) live at i = tt
          by (sequence a b) live at i = tt
          by (branch a b c) live at i = tt
          by (fix members e) live at i = tt
          by (call a listed) live at i = tt
          by (tail_call a) live at i = tt
          by (return e) live at i = tt
          by (end e) live at i = tt

    few : BodyKeepsFew c.entry tree given
    few =
        few_regions c.variables (place_of given) plan (few_kept c tree given p) no_region saved (λ x t. false) true (Some (most_saved plan c.entry)) (Unit {0}) nothing_later
        s.valid.stand (head_few c.entry refl) s.valid.sets live points s.valid.saves.1 s.apart

    called : CallsItsSaves (homes_code c.entry tree given)
    called codes own way is =
        own_marks_stand codes own way c plan tree (subst (λ z. Laid c plan tree z) (sym is) framed.laid)
        (called_alike saved tree (sym (unlisted_eager c.variables no_region saved (λ x t. false))) s.followed)

    pub framed_body : IsExact c tree given → registers_code c ≡ homes_code c.entry tree given → IsFramedBody c (homes_code c.entry tree given)
    framed_body exact is = record {
      made = sym is;
      same = framed.does;
      begins = framed.begins;
      stand = framed.stand;
      covered = framed.covered;
      words = framed.dense_words (dense c tree p.body p.scoped p.numbers s.valid.ending);
      fits = homes_fit c tree given p few;
      called = called;
      chain = made_from c tree given p saved s.valid s.followed (sym (unlisted_eager c.variables no_region saved (λ x t. false))) exact _ framed.laid;
    }
