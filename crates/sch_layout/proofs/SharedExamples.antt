-- Worked rows: variables that share a place, and formals that stay where they arrive.
use Rattle.std.proofs.Common.{◌≡◌, ◌≢◌, refl, ap, arith, ℕ, zero, suc, ◌+◌, ◌<◌, ◌≤◌, true, false, List, [], ◌∷◌, Option, Some, None, pos, ◌⊎◌, inl, inr}
use Rattle.std.specs.Prelude.{cond, nat_eq, slice_get}
use Rattle.std.proofs.lemmas.Bool.{lt-ltb, ne_eqb, true≢false}
use Rattle.sch_word.proofs.facts.Booleans.{false_true}
use Rattle.sch_word.specs.declared.constant.Const.TheVariants.{Fixnum}
use Rattle.sch_word.specs.declared.place.Place.{Place}
use Rattle.sch_word.specs.declared.place.Place.TheVariants.{Reg, Slot}
use Rattle.sch_word.specs.declared.primitive.Primitive.TheVariants.{Subtract}
use Rattle.sch_word.specs.values.Values.{Value, constant_value}
use Rattle.sch_word.specs.runs.Computation.{State}
use Rattle.sch_word.specs.runs.Store.{Store as Memory}
use Rattle.sch_control.specs.declared.body.Entry.{Entry}
use Rattle.sch_word.specs.declared.mark.MarkKind.{MarkKind}
use Rattle.sch_word.specs.declared.mark.MarkKind.TheVariants as mark
use Rattle.sch_control.specs.declared.operation.Member.{Member}
use Rattle.sch_control.specs.declared.operation.Operand.{Operand}
use Rattle.sch_control.specs.declared.operation.Operation.TheVariants as operation
use Rattle.sch_control.specs.Meaning.{Callee, Environment, binds, do_body, falls_off, no_region, nothing}
use Rattle.sch_control.specs.AtomsAndSites.{member_atoms}
use Rattle.sch_control.specs.Operations.{operand_value}
use Rattle.sch_word.specs.runs.Procedures.{Procedure}
use Rattle.sch_control.specs.Valid.{member_variables}
use Rattle.sch_word.specs.trees.NumberSets.{has}
use Rattle.sch_control.specs.Tree.{Expression, perform, bind, fix, call, return, save}
use Rattle.sch_control.proofs.Examples.{applied, held_in, number, value_and_marks}
use Rattle.sch_frames.specs.declared.instruction.Instruction.TheVariants.{Do, Store, Copy, Call, Return, Mark}
use Rattle.sch_frames.specs.Does.{EndsAs, CalleesFollow, world}
use Rattle.sch_frames.specs.Meaning.{Frame, execute_each}
use Rattle.sch_word.specs.values.Places.{same_place, is_slot}
use Rattle.sch_layout.specs.BodyLayout.{Plan, arguments_at, entering, lay, target, unmarked_reading}
use Rattle.sch_layout.specs.Moves.{Contents, is_own, moved}
use Rattle.sch_control.specs.flow.Live.{Live, Mentions, nothing_later}
use Rattle.sch_control.proofs.VariableLists.{each_at}
use Rattle.sch_layout.specs.SharedPlaces.{Arrives, Brings, FreeInCall, HomeApart, Homes, Placed}
use Rattle.sch_layout.proofs.does.LayoutDoes.{Kept, same}
use Rattle.sch_layout.proofs.does.PlacesAgree.{Agrees}
use Rattle.sch_layout.proofs.LayoutExamples.{begun, gives_first, holding, variables}
use Rattle.sch_layout.proofs.MoveExamples.{given_by}
use Rattle.sch_layout.proofs.SlotPlan.{aside_moves}

-- ## Variables 2 and 3 live in one register, RBX

abbrev in_one : ℕ → Place
in_one zero = Reg 15
in_one (suc (suc zero)) = Reg 3
in_one (suc (suc (suc zero))) = Reg 3
in_one (suc (suc (suc (suc zero)))) = Slot 0
in_one x = Slot 25

abbrev sharing : Plan
sharing = record { place = in_one; home = λ x. Slot (10 + x); limit = 40; moves = aside_moves 1 in_one 40 }

not_there : (j : ℕ) → 1 ≤ j → j < 20 → (y : ℕ) → same_place (Slot j) (in_one y) ≡ false
not_there j low lt zero = refl
not_there j low lt (suc zero) = ne_eqb j 25 (λ e. omega (arith, e, lt))
not_there j low lt (suc (suc zero)) = refl
not_there j low lt (suc (suc (suc zero))) = refl
not_there j low lt (suc (suc (suc (suc zero)))) = ne_eqb j 0 (λ e. omega (arith, e, low))
not_there j low lt (suc (suc (suc (suc (suc y))))) = ne_eqb j 25 (λ e. omega (arith, e, lt))

sharing_homes : Homes sharing
sharing_homes = record { link = refl; home = home } where
  home_apart : (x : ℕ) → x < 10 → HomeApart sharing x
  home_apart x few = record {
    in_slot = refl;
    own = lt-ltb (10 + x) 40 (omega (arith, few));
    places = not_there (10 + x) (omega arith) (omega (arith, few));
    homes = λ y s n. ne_eqb (10 + x) (10 + y) (λ e. n (omega (arith, e)));
  }

  home : (x : ℕ) → is_slot (in_one x) ≡ false → HomeApart sharing x
  home zero s = home_apart 0 (omega arith)
  home (suc zero) s = absurd (cc)
  home (suc (suc zero)) s = home_apart 2 (omega arith)
  home (suc (suc (suc zero))) s = home_apart 3 (omega arith)
  home (suc (suc (suc (suc zero)))) s = absurd (cc)
  home (suc (suc (suc (suc (suc x))))) s = absurd (cc)

-- Variable 2 is read for the last time by the call whose value variable 3 is.
abbrev saved_round : Expression
saved_round =
    bind 2 (perform (operation.Operand (number 5)))
    (bind 3 (call (applied 0 (held_in 4) (held_in 2 ∷ [])) (0 ∷ [])) (return (perform (operation.Operand (held_in 3)))))

abbrev one_after_the_other : Expression
one_after_the_other = save (0 ∷ []) saved_round

own : (x : ℕ) → is_own 40 (in_one x) ≡ true
own zero = refl
own (suc zero) = refl
own (suc (suc zero)) = refl
own (suc (suc (suc zero))) = refl
own (suc (suc (suc (suc zero)))) = refl
own (suc (suc (suc (suc (suc x))))) = refl

-- Its two arguments are set aside in the slots 1 and 2, where no variable lives and none is saved.
abbrev behind : ℕ → Type 0
behind x = ((x ≢ 3) × Live x (return (perform (operation.Operand (held_in 3)))) (nothing_later x)) ⊎ ((x ≢ 3) × Live x (return (perform (operation.Operand (held_in 3)))) (nothing_later x))

shared_brings : Brings sharing false (FreeInCall sharing behind) (applied 0 (held_in 4) (held_in 2 ∷ []))
shared_brings = record {
  shuffled = record {
    carries = λ t start. ((_, (refl, refl)), ((_, (refl, refl)), ((_, (refl, refl)), ((_, (refl, refl)), tt))));
    arrives = arrives;
  };
  reads = (refl, (refl, (refl, (refl, tt))));
  writes = (free 1 (omega arith) (omega arith), (free 2 (omega arith) (omega arith), (refl, (refl, tt))));
  inside = λ x m. own x;
} where
  arrives : (t : Memory) (start : Contents) (k : ℕ) (o : Operand Place) → slice_get (arguments_at in_one (applied 0 (held_in 4) (held_in 2 ∷ []))) k ≡ Some o
      → moved t (sharing.moves false (applied 0 (held_in 4) (held_in 2 ∷ []))) start (target false 40 k) ≡ operand_value start t o
  arrives t start zero o e = ap (given_by start t) e
  arrives t start (suc zero) o e = ap (given_by start t) e
  arrives t start (suc (suc k)) o e = absurd (cc)

  lives_apart : (x j : ℕ) → 1 ≤ j → j < 10 → same_place (in_one x) (Slot j) ≡ false
  lives_apart zero j low lt = refl
  lives_apart (suc zero) j low lt = ne_eqb 25 j (λ e. omega (arith, e, lt))
  lives_apart (suc (suc zero)) j low lt = refl
  lives_apart (suc (suc (suc zero))) j low lt = refl
  lives_apart (suc (suc (suc (suc zero)))) j low lt = ne_eqb 0 j (λ e. omega (arith, e, low))
  lives_apart (suc (suc (suc (suc (suc x))))) j low lt = ne_eqb 25 j (λ e. omega (arith, e, lt))

  free : (j : ℕ) → 1 ≤ j → j < 10 → FreeInCall sharing behind (Slot j)
  free j low lt = (λ x l s. lives_apart x j low lt, λ x s. ne_eqb (10 + x) j (λ e. omega (arith, e, lt)))

-- so the plan is one for it
shared_placed : Placed sharing one_after_the_other no_region nothing_later
shared_placed = (fresh, (second, (tt, (third, ((shared_brings, (λ x l. own x, ((refl, link), tt))), tt))))) where
  -- the return address is not bound
  fresh : (x : ℕ) → has x (0 ∷ []) ≡ true → binds x saved_round ≡ true → Live x one_after_the_other (nothing_later x) → ⊥
  fresh x h b l = false_true b (each_at (λ x. binds x saved_round ≡ false) (0 ∷ []) (refl, tt) x h)

  link : (x : ℕ) → ((x ≢ 3) × Live x (return (perform (operation.Operand (held_in 3)))) (nothing_later x)) ⊎ ((x ≢ 3) × Live x (return (perform (operation.Operand (held_in 3)))) (nothing_later x))
      → x ≢ 0 → same_place (in_one x) (Reg 15) ≡ false
  link zero l n = absurd (n refl)
  link (suc zero) l n = refl
  link (suc (suc zero)) l n = refl
  link (suc (suc (suc zero))) l n = refl
  link (suc (suc (suc (suc zero)))) l n = refl
  link (suc (suc (suc (suc (suc x))))) l n = refl

  second : (x : ℕ) → Live x (bind 3 (call (applied 0 (held_in 4) (held_in 2 ∷ [])) (0 ∷ [])) (return (perform (operation.Operand (held_in 3))))) (nothing_later x)
      → x ≢ 2 → same_place (in_one x) (Reg 3) ≡ false
  second zero l n = refl
  second (suc zero) l n = refl
  second (suc (suc zero)) l n = absurd (n refl)
  second (suc (suc (suc zero))) (inl e) n = absurd (cc)
  second (suc (suc (suc zero))) (inr (inl l)) n = absurd (l.0 refl)
  second (suc (suc (suc zero))) (inr (inr l)) n = absurd (l.0 refl)
  second (suc (suc (suc (suc zero)))) l n = refl
  second (suc (suc (suc (suc (suc x))))) l n = refl

  third : (x : ℕ) → Live x (return (perform (operation.Operand (held_in 3)))) (nothing_later x) → x ≢ 3 → same_place (in_one x) (Reg 3) ≡ false
  third zero l n = refl
  third (suc zero) l n = refl
  third (suc (suc zero)) (inl e) n = absurd (cc)
  third (suc (suc zero)) (inr (inl e)) n = absurd (omega (arith, e))
  third (suc (suc zero)) (inr (inr e)) n = absurd (omega (arith, e))
  third (suc (suc (suc zero))) l n = absurd (n refl)
  third (suc (suc (suc (suc zero)))) l n = refl
  third (suc (suc (suc (suc (suc x))))) l n = refl

-- and its layout by it does what it does, from any frame with its live variables
shared_does : (callee callee' : Callee) → CalleesFollow callee callee' → (depth : ℕ) (environment : Environment) (f : Frame) (s : State Procedure) (marks marks' : List MarkKind)
    → Agrees sharing (λ x. Live x one_after_the_other (nothing_later x)) (Kept no_region (λ x. Live x one_after_the_other (nothing_later x))) environment nothing f.places
    → EndsAs (do_body (unmarked_reading sharing) callee depth one_after_the_other environment (world s marks))
    (execute_each callee' depth (lay sharing one_after_the_other no_region 0 None []) None f (world s marks'))
shared_does callee callee' follow depth environment f s marks marks' a =
    same sharing sharing_homes callee callee' follow depth one_after_the_other no_region nothing_later (tt, ((tt, tt), (tt, ((tt, (tt, tt)), (tt, tt))))) shared_placed 0 None [] tt
    environment nothing f s marks marks' falls_off a (λ v environment saved f s marks marks' r e. tt)

shared_layout : lay sharing one_after_the_other no_region 0 None [] ≡
    Mark (mark.Save 0) ∷ Copy (Slot 10) (Reg 15)
    ∷ Do (operation.Operand (number 5)) ∷ Store (Reg 3)
    ∷ Do (operation.Operand (held_in (Slot 0))) ∷ Mark mark.Temp ∷ Store (Slot 1) ∷ Mark mark.Temp ∷ Copy (Slot 2) (Reg 3)
    ∷ Copy (Reg 14) (Slot 1) ∷ Copy (Reg 3) (Slot 2) ∷ Mark (mark.Call 0) ∷ Call false 1
    ∷ Mark (mark.Restore 0) ∷ Copy (Reg 15) (Slot 10) ∷ Store (Reg 3)
    ∷ Do (operation.Operand (held_in (Reg 3))) ∷ Mark mark.Return ∷ Return ∷ []
shared_layout = refl

abbrev five : Value
five = constant_value (Fixnum (pos 5))

abbrev body_gives : Expression → Option (Value × List MarkKind)
body_gives e = value_and_marks (do_body (unmarked_reading sharing) gives_first 1 e variables begun)

abbrev layout_gives : Expression → Option (Value × List MarkKind)
layout_gives e = value_and_marks (execute_each gives_first 1 (lay sharing e no_region 0 None []) None holding begun)

shared_rows :
    (body_gives one_after_the_other ≡ Some (five, mark.Call 0 ∷ mark.Return ∷ []))
    × (layout_gives one_after_the_other ≡ Some (five, mark.Save 0 ∷ mark.Temp ∷ mark.Temp ∷ mark.Call 0 ∷ mark.Restore 0 ∷ mark.Return ∷ []))
shared_rows = (refl, refl)

-- ## Both are read at once: the plan is none for it, and its layout by it reads one of them twice

abbrev both_at_once : Expression
both_at_once =
    bind 2 (perform (operation.Operand (number 7))) (bind 3 (perform (operation.Operand (number 2)))
    (return (perform (operation.Prim 0 Subtract (held_in 2 ∷ held_in 3 ∷ [])))))

not_placed : Placed sharing both_at_once no_region nothing_later → ⊥
not_placed p = true≢false (p.1.1.0 2 (inl refl) (λ e. omega (arith, e)))

clash_rows :
    (body_gives both_at_once ≡ Some (five, mark.Return ∷ []))
    × (layout_gives both_at_once ≡ Some (constant_value (Fixnum (pos 0)), mark.Return ∷ []))
clash_rows = (refl, refl)

-- ## Seven members of a group that nobody reads live in one register

abbrev together : Plan
together = record { place = λ x. cond (nat_eq x 0) (Reg 15) (Reg 3); home = λ x. Slot (10 + x); limit = 40; moves = λ tail a. [] }

abbrev member : ℕ → Member ℕ
member x = record { at = x; closure = record { label = 1; fields = [] } }

abbrev seven : List (Member ℕ)
seven = member 2 ∷ member 3 ∷ member 4 ∷ member 5 ∷ member 6 ∷ member 7 ∷ member 8 ∷ []

abbrev gives_five : Expression
gives_five = return (perform (operation.Operand (number 5)))

-- none of them is live behind the group
members_placed : Placed together (fix seven gives_five) no_region nothing_later
members_placed = ((apart, (apart, (apart, (apart, (apart, (apart, (apart, tt))))))), tt) where
  apart : {y : ℕ} (x : ℕ) → Mentions x (member_atoms seven) ⊎ Live x gives_five (nothing_later x) → x ≢ y → same_place (together.place x) (Reg 3) ≡ false
  apart zero l n = refl
  apart (suc x) (inl l) n = absurd (cc)
  apart (suc x) (inr (inl l)) n = absurd (cc)
  apart (suc x) (inr (inr l)) n = absurd (omega (arith, l))

-- and so it is inside a region that saves two of them, whatever is saved
saved_members_placed : Placed together (save (2 ∷ 3 ∷ []) (fix seven gives_five)) no_region nothing_later
saved_members_placed = (λ x h b l. dead x l.0 h, members_placed) where
  dead : (x : ℕ) → has x (member_variables seven) ≡ false → has x (2 ∷ 3 ∷ []) ≡ true → ⊥
  dead x o h = false_true (each_at (λ x. has x (member_variables seven) ≡ true) (2 ∷ 3 ∷ []) (refl, (refl, tt)) x h) o

-- where one of them is read, the others live elsewhere
members_apart : Placed together (fix seven (return (perform (operation.Operand (held_in 3))))) no_region nothing_later → ⊥
members_apart p = true≢false (p.0.0 3 (inr (inl refl)) (λ e. omega (arith, e)))

-- where variables 2 and 3 live in RBX, those that live in slots are spilled
members_rows :
    (body_gives (fix seven gives_five) ≡ Some (five, mark.Return ∷ []))
    × (layout_gives (fix seven gives_five) ≡ Some (five, mark.Spill 4 ∷ mark.Spill 5 ∷ mark.Spill 6 ∷ mark.Spill 7 ∷ mark.Spill 8 ∷ mark.Return ∷ []))
members_rows = (refl, refl)

-- ## Entries

abbrev pub two_formals : Option Entry
two_formals = Some (record { formals = 2; rest = false; fields = 0 })

-- the closure and the first formal stay where they arrive, and the second is stored
abbrev staying_place : ℕ → Place
staying_place zero = Reg 15
staying_place (suc zero) = Reg 14
staying_place (suc (suc zero)) = Reg 3
staying_place x = Slot (20 + x)

abbrev staying : Plan
staying = record { place = staying_place; home = λ x. Slot (10 + x); limit = 40; moves = λ tail a. [] }

staying_layout : entering staying two_formals [] ≡ Mark (mark.Spill 3) ∷ Copy (Slot 23) (Reg 8) ∷ []
staying_layout = refl

-- whatever is live, the second comes where no other stands
staying_arrives : (live : ℕ → Type 0) → Arrives staying live 4
staying_arrives live zero lt s x few l n = absurd (cc)
staying_arrives live (suc zero) lt s x few l n = absurd (cc)
staying_arrives live (suc (suc zero)) lt s x few l n = absurd (cc)
staying_arrives live (suc (suc (suc zero))) lt s zero few l n = refl
staying_arrives live (suc (suc (suc zero))) lt s (suc zero) few l n = refl
staying_arrives live (suc (suc (suc zero))) lt s (suc (suc zero)) few l n = refl
staying_arrives live (suc (suc (suc zero))) lt s (suc (suc (suc zero))) few l n = absurd (n refl)
staying_arrives live (suc (suc (suc zero))) lt s (suc (suc (suc (suc x)))) few l n = absurd (omega (arith, few))
staying_arrives live (suc (suc (suc (suc y)))) lt s x few l n = absurd (omega (arith, lt))

-- the closure comes where the first formal stands, which is lost if it is live
abbrev crossing_place : ℕ → Place
crossing_place zero = Reg 15
crossing_place (suc zero) = Reg 3
crossing_place (suc (suc zero)) = Reg 14
crossing_place x = Slot (20 + x)

abbrev crossing : Plan
crossing = record { place = crossing_place; home = λ x. Slot (10 + x); limit = 40; moves = λ tail a. [] }

crossing_layout : entering crossing two_formals [] ≡ Copy (Reg 3) (Reg 14) ∷ Copy (Reg 14) (Reg 3) ∷ Mark (mark.Spill 3) ∷ Copy (Slot 23) (Reg 8) ∷ []
crossing_layout = refl

crossing_fails : (live : ℕ → Type 0) → live 2 → Arrives crossing live 4 → ⊥
crossing_fails live l come = true≢false (come 1 (omega arith) refl 2 (omega arith) l (λ e. omega (arith, e)))
