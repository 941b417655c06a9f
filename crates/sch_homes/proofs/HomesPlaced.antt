-- A body with places, laid out in its frame, has what a layout asks for.
use Rattle.std.proofs.Common.{◌+◌, List, Option, Some, None, ap, ◌∙◌, arith}
use Rattle.sch_word.specs.declared.place.Place.{Place}
use Rattle.sch_control.specs.declared.body.Entry.{Entry}
use Rattle.sch_control.specs.Meaning.{no_region}
use Rattle.sch_control.specs.Tree.{Expression}
use Rattle.sch_control.specs.flow.Live.{Live, nothing_later}
use Rattle.sch_control.specs.flow.Places.{formals_of}
use Rattle.sch_layout.specs.Laws.{EntersSlots}
use Rattle.sch_layout.specs.SharedPlaces.{Arrives, entered_with}
use Rattle.sch_paths.proofs.runs.RestoresAreEnough.{valid_fresh}
use Rattle.sch_homes.specs.Homes.{homes_plan}
use Rattle.sch_homes.specs.Laws.{HomesPlaced}
use Rattle.sch_homes.proofs.BodyPlaces.{arrive_apart, enters_slots, listed_at}
use Rattle.sch_homes.proofs.FrameRoom.{calls_few, first_there, has_room, uses_low}
use Rattle.sch_homes.proofs.PlacedTrees.{placed_tree}
use Rattle.sch_homes.proofs.SlotsApart.{homes_are}

-- a form is entered with nothing
arrives_whole : (entry : Option Entry) (e : Expression) (places : List Place) → Arrives (homes_plan entry e places) (λ x. Live x e (nothing_later x)) (2 + formals_of entry)
    → Arrives (homes_plan entry e places) (λ x. Live x e (nothing_later x)) (entered_with entry)
arrives_whole None e places a = λ y ly s x lx l n. absurd (omega (arith, ly))
arrives_whole (Some i) e places a = a

slots_whole : (entry : Option Entry) (e : Expression) (places : List Place) → EntersSlots (homes_plan entry e places) (2 + formals_of entry)
    → EntersSlots (homes_plan entry e places) (entered_with entry)
slots_whole None e places a = λ x lt s i. absurd (omega (arith, lt))
slots_whole (Some i) e places a = a

pub homes_placed : HomesPlaced
homes_placed c e places p =
    let first = first_there c e places p in
    let room = has_room c e places p in (
      record {
        homes = homes_are c.entry e places room (listed_at places 0 (omega (arith, first)) ∙ ap Some p.link);
        arrives = arrives_whole c.entry e places (arrive_apart c.entry e places first p.link p.closure p.formals p.entered);
        placed = placed_tree c.entry e places room (omega (arith, first)) e (Unit {0}) no_region nothing_later (uses_low c e places p)
            (calls_few c e places p) (λ x t i. absurd i) p.alone p.points p.restores p.saved (valid_fresh c e p.body p.scoped p.numbers);
      },
      slots_whole c.entry e places (enters_slots c.entry e places first p.link p.closure p.formals),
    )
