-- A frame body that is laid out from a body with lazy saves, eager restores and places is made from it.
use Rattle.std.proofs.Common.{◌≡◌, ◌≢◌, ℕ, zero, suc, ◌+◌, ◌<◌, Bool, true, false, List, [], ◌∷◌, Option, None, Some, refl, ap, sym, ◌∙◌, subst, arith}
use Rattle.std.specs.Prelude.{slice_get}
use Rattle.sch_word.specs.declared.place.Place.{Place}
use Rattle.sch_word.specs.declared.place.Place.TheVariants.{Reg, Slot}
use Rattle.sch_word.specs.values.Registers.{argument_registers}
use Rattle.sch_word.proofs.facts.Booleans.{false_true}
use Rattle.sch_control.specs.Tree as control
use Rattle.sch_control.specs.Tree.{Expression}
use Rattle.sch_control.specs.flow.Bare.{unlisted}
use Rattle.sch_control.specs.flow.Live.{nothing_later}
use Rattle.sch_control.specs.flow.Places.{arrival, count_slots, formals_of, is_usual, place_of}
use Rattle.sch_control.proofs.VariableLists.{each_more}
use Rattle.sch_word.specs.values.Places.{same_place, is_slot}
use Rattle.sch_frames.specs.Tree as frames
use Rattle.sch_layout.specs.BodyLayout.{Plan}
use Rattle.sch_layout.specs.Laws.{Laid}
use Rattle.sch_word.proofs.facts.Places.{places_same}
use Rattle.sch_paths.specs.Exact.{EagerRestores}
use Rattle.sch_paths.specs.Laws.{IsSaved}
use Rattle.sch_paths.proofs.paths.CallEvents.{lists_live}
use Rattle.sch_paths.proofs.paths.EagerByPaths.{by_paths}
use Rattle.sch_regs.specs.Spills.{InSlotWhenFull, SlotsWhenFull}
use Rattle.sch_regs.proofs.ApartAtPoints.{each_binding}
use Rattle.sch_saves.specs.Promises.{EachSaveFollowed}
use Rattle.sch_homes.specs.Homes.{homes_plan, lives_in}
use Rattle.sch_homes.specs.Laws.{IsPlaced}
use Rattle.sch_homes.proofs.BodyPlaces.{from_register}
use Rattle.sch_homes.proofs.FrameRoom.{first_there}
use Rattle.sch_homes.proofs.HomesPlaced.{homes_placed}
use Rattle.sch_registers.proofs.GreedyMade.{greedy_calls}
use Rattle.sch_registers.specs.MadeFrom.{HasFewSlots, IsMadeFrom}

-- ## Registers stay as variables come into a frame, and slots stay slots

no_register : {A : Type 0} {p : Place} {r : ℕ} → is_slot p ≡ true → p ≡ Reg r → A
no_register s e = absurd (false_true s (ap is_slot e))

module _ (lives : Option Place → Place) (stays : (r : ℕ) → lives (Some (Reg r)) ≡ Reg r)
    (slot : (j : ℕ) → is_slot (lives (Some (Slot j))) ≡ true) (nowhere : is_slot (lives None) ≡ true) where
  register_kept : (places : List Place) (x r : ℕ) → place_of places x ≡ Reg r → lives (slice_get places x) ≡ Reg r
  register_kept [] x r e = absurd (cc)
  register_kept (p ∷ places) zero r e = ap (λ q. lives (Some q)) e ∙ stays r
  register_kept (p ∷ places) (suc x) r e = register_kept places x r e

  register_was : (places : List Place) (x r : ℕ) → lives (slice_get places x) ≡ Reg r → place_of places x ≡ Reg r
  register_was [] x r e = no_register nowhere e
  register_was (Reg q ∷ places) zero r e = sym (stays q) ∙ e
  register_was (Slot j ∷ places) zero r e = no_register (slot j) e
  register_was (p ∷ places) (suc x) r e = register_was places x r e

  slot_was : (places : List Place) (x : ℕ) → is_slot (lives (slice_get places x)) ≡ true → is_slot (place_of places x) ≡ true
  slot_was [] x e = refl
  slot_was (Reg q ∷ places) zero e = sym (ap is_slot (stays q)) ∙ e
  slot_was (Slot j ∷ places) zero e = refl
  slot_was (p ∷ places) (suc x) e = slot_was places x e

is_register : (p : Place) → is_slot p ≡ false → (r : ℕ) × (p ≡ Reg r)
is_register (Reg r) s = (r, refl)
is_register (Slot j) s = absurd (false_true refl s)

-- a register holds another variable that is live
abbrev HeldBy : (place : ℕ → Place) → (live : ℕ → Type 0) → ℕ → ℕ → Type 0
HeldBy place live y r = (x : ℕ) × ((x ≢ y) × (live x × (place x ≡ Reg r)))

-- what is promised of a body with restores and places, beside what its type keeps
pub record IsExact (c : control.Code) (tree : Expression) (places : List Place) : Type 0 where
  pub restores : EagerRestores tree
  pub formals : (k : ℕ) → k < formals_of c.entry → place_of places (2 + k) ≡ arrival k
  pub spills : SlotsWhenFull (place_of places) tree

-- ## The places of a body in its frame

module _ (c : control.Code) (tree : Expression) (places : List Place) (p : IsPlaced c tree places) where
  abbrev plan : Plan
  plan = homes_plan c.entry tree places

  abbrev lives : Option Place → Place
  lives = lives_in

  kept : (x r : ℕ) → place_of places x ≡ Reg r → plan.place x ≡ Reg r
  kept = register_kept lives (λ r. refl) (λ j. refl) refl places

  was : (x r : ℕ) → plan.place x ≡ Reg r → place_of places x ≡ Reg r
  was = register_was lives (λ r. refl) (λ j. refl) refl places

  spilled : (x : ℕ) → is_slot (plan.place x) ≡ true → is_slot (place_of places x) ≡ true
  spilled = slot_was lives (λ r. refl) (λ j. refl) refl places

  -- what is entered with stays where it arrives
  entered_at : (k : ℕ) → k < formals_of c.entry → place_of places (2 + k) ≡ arrival k → plan.place (2 + k) ≡ arrival k
  entered_at k lt given = subst (λ n. plan.place n ≡ arrival k) (sym two) (by (same_place (plan.place (suc (suc k))) (arrival k)) refl) where
    two : 2 + k ≡ suc (suc k)
    two = omega arith

    by : (t : Bool) → same_place (plan.place (suc (suc k))) (arrival k) ≡ t → plan.place (suc (suc k)) ≡ arrival k
    by true same = places_same (plan.place (suc (suc k))) (arrival k) same
    by false other =
        let first = first_there c tree places p in
        let r = is_register (arrival k) (from_register c.entry tree places first p.link p.closure p.formals (suc (suc k)) (omega (arith, lt)) other) in
        kept (suc (suc k)) r.0 (ap (place_of places) (sym two) ∙ (given ∙ r.1)) ∙ sym r.1

  full_there : (live : ℕ → Type 0) (y : ℕ) → InSlotWhenFull (place_of places) live y → InSlotWhenFull plan.place live y
  full_there live y h s = each_more (HeldBy (place_of places) live y) (HeldBy plan.place live y) (λ r h. more r h) argument_registers (h (spilled y s)) where
    more : (r : ℕ) → HeldBy (place_of places) live y r → HeldBy plan.place live y r
    more r h = (h.0, (h.1.0, (h.1.1.0, kept h.0 r h.1.1.1)))

  few_slots : IsExact c tree places → HasFewSlots c tree plan.place
  few_slots x = record {
    link = kept 0 _ p.link;
    closure = kept 1 _ p.closure;
    formals = λ k lt. entered_at k lt (x.formals k lt);
    others = λ y r more less e. ap (is_usual (count_slots places)) (sym (was y r e)) ∙ p.usual y more less;
    spills = each_binding (InSlotWhenFull (place_of places)) (InSlotWhenFull plan.place) full_there tree nothing_later x.spills;
  }

  -- ## The frame body

  pub made_from : (listed : Expression) → IsSaved c listed → EachSaveFollowed listed → unlisted listed ≡ unlisted tree → IsExact c tree places
      → (f : frames.Code) → Laid c (homes_plan c.entry tree places) tree f → IsMadeFrom c f
  made_from listed s followed alike x f laid = record {
    listed = listed;
    tree = tree;
    plan = plan;
    body = p.body;
    alike = alike;
    saves = record { sets = s.sets; live = lists_live listed s.sets; stand = s.stand; exact = s.saves; followed = followed };
    restores = record { exact = x.restores; by_paths = by_paths tree x.restores };
    places = few_slots x;
    placed = (homes_placed c tree places p).0;
    moves = greedy_calls c tree places p;
    laid = laid;
  }
