-- Worked rows: what is live, and which paths there are.
use Rattle.std.proofs.Common.{◌≡◌, ◌≢◌, refl, ℕ, true, false, List, [], ◌∷◌, Some, None, inl, inr, ◌⊎◌}
use Rattle.std.specs.Prelude.{nat_eq}
use Rattle.sch_word.specs.trees.NumberSets.{has}
use Rattle.sch_word.specs.declared.constant.Const.TheVariants.{Nil, Symbol}
use Rattle.sch_control.specs.declared.operation.Atom.TheVariants.{Constant, Literal, Variable}
use Rattle.sch_control.specs.declared.operation.Operand.TheVariants as operand
use Rattle.sch_control.specs.declared.operation.Member.{Member}
use Rattle.sch_control.specs.declared.operation.Source.TheVariants as source
use Rattle.sch_control.specs.declared.operation.Operation.TheVariants as operation
use Rattle.sch_control.specs.Tree.{Expression, perform, bind, branch, fix, call, tail_call, return, end, save}
use Rattle.sch_control.specs.Meaning.{no_region}
use Rattle.sch_control.specs.flow.Live.{known, MayGive, Live, Soon, Perhaps, nothing_later}
use Rattle.sch_control.specs.flow.Paths.{Event, Binds, References, Saves, Calls, Tails, Returns, grouping, IsPath, Meets, live, refers, soon, calls, some_call, SavesFollowed, SavesCalled}
use Rattle.sch_control.proofs.Examples.{truth, held_in, applied, value_of, global}

abbrev gives : ℕ → Expression
gives x = return (value_of x)

-- ## Results of constants: `#f` alone is false

results : known (operation.Operand (truth false)) ∷ known (operation.Operand (truth true)) ∷ known (operation.Operand (operand.Atom (Constant Nil)))
    ∷ known (operation.Operand (operand.Atom (Constant (Symbol 0)))) ∷ known (operation.Operand (operand.Atom (Literal 0))) ∷ known (operation.Operand (held_in 2))
    ∷ known (operation.Global 0) ∷ []
    ≡ Some false ∷ Some true ∷ Some true ∷ Some true ∷ None ∷ None ∷ None ∷ []
results = refl

-- ## A constant test, and an arm that is never taken

-- (if #f x2 x3): of its arms the second alone is met
abbrev never_first : Expression
never_first = branch (perform (operation.Operand (truth false))) (gives 2) (gives 3)

before_never_first : (x : ℕ) → Live x never_first (nothing_later x) ≡ ((false ≡ true) ⊎ ((has x (3 ∷ []) ≡ true) ⊎ Perhaps (λ t. x ≡ 0)))
before_never_first x = refl

-- (if (if x4 #t x5) x2 x3): where the inner test is true, the first arm follows
abbrev tested : ℕ → Type 0
tested x = (has x (2 ∷ []) ≡ true) ⊎ Perhaps (λ t. x ≡ 0)

abbrev nested : Expression
nested = branch (branch (value_of 4) (perform (operation.Operand (truth true))) (value_of 5)) (gives 2) (gives 3)

before_nested : (x : ℕ) → Live x nested (nothing_later x)
    ≡ ((has x (4 ∷ []) ≡ true) ⊎ (((false ≡ true) ⊎ tested x) ⊎ ((has x (5 ∷ []) ≡ true) ⊎ (tested x ⊎ ((has x (3 ∷ []) ≡ true) ⊎ Perhaps (λ t. x ≡ 0))))))
before_nested x = refl

-- a path goes through the second arm alone, and the variable of the first is on none
the_path : IsPath no_region never_first (References 3 ∷ References 0 ∷ Returns ∷ []) true
the_path = ([], References 3 ∷ References 0 ∷ Returns ∷ [], false, (refl, refl), (References 3 ∷ [], true, (refl, inl refl), refl), refl)

no_path_by_true : (es : List Event) → IsPath no_region (perform (operation.Operand (truth false))) es true ≡ ((es ≡ []) × (false ≡ true))
no_path_by_true es = refl

-- it gives both results, as nothing follows a return; the constant gives its own
given : MayGive never_first true × MayGive (perform (operation.Operand (truth false))) false
given = (inr (refl, tt), refl)

not_given : MayGive (perform (operation.Operand (truth false))) true ≡ (false ≡ true)
not_given = refl

-- ## A call in a body: nothing but what is read behind it, or read by it

-- ((x2 x3), then x4)
abbrev around_call : Expression
around_call = bind 5 (call (applied 0 (held_in 2) (held_in 3 ∷ [])) []) (gives 4)

before_call : (x : ℕ) → Live x around_call (nothing_later x)
    ≡ ((has x (2 ∷ 3 ∷ []) ≡ true) ⊎ Perhaps (λ t. (x ≢ 5) × ((has x (4 ∷ []) ≡ true) ⊎ Perhaps (λ t. x ≡ 0))))
before_call x = refl

soon_before_call : (x : ℕ) → Soon x around_call (nothing_later x) ≡ (has x (2 ∷ 3 ∷ []) ≡ true)
soon_before_call x = refl

-- a top-level form does not return
before_end : (x : ℕ) → Live x (end (value_of 4)) (nothing_later x) ≡ ((has x (4 ∷ []) ≡ true) ⊎ Perhaps (λ t. ⊥))
before_end x = refl

before_tail : (x : ℕ) → Live x (tail_call (applied 0 (held_in 2) (held_in 3 ∷ []))) (nothing_later x) ≡ ((x ≡ 0) ⊎ (has x (2 ∷ 3 ∷ []) ≡ true))
before_tail x = refl

-- ## A group: its members are bound, then its fields are read, then what a region has of them is saved

abbrev members : List (Member ℕ)
members =
    record { at = 4; closure = record { label = 1; fields = source.Atom (Variable 5) ∷ source.Field 1 0 ∷ [] } }
    ∷ record { at = 5; closure = record { label = 2; fields = source.Atom (Variable 3) ∷ [] } } ∷ []

before_group : (x : ℕ) → Live x (fix members (gives 4)) (nothing_later x)
    ≡ ((has x (4 ∷ 5 ∷ []) ≡ false) × ((has x (5 ∷ 1 ∷ 3 ∷ []) ≡ true) ⊎ ((has x (4 ∷ []) ≡ true) ⊎ Perhaps (λ t. x ≡ 0))))
before_group x = refl

group_events : grouping (λ x. nat_eq x 5) members ≡ Binds 4 ∷ Binds 5 ∷ References 5 ∷ References 1 ∷ References 3 ∷ Saves 5 ∷ []
group_events = refl

-- ## A region: 3 is saved at its head, 4 as it is bound inside

abbrev region : Expression
region = save (3 ∷ 4 ∷ []) (bind 4 global (bind 5 (call (applied 0 (held_in 2) []) (0 ∷ 3 ∷ 4 ∷ [])) (gives 4)))

before_region : (x : ℕ) → Live x region (nothing_later x)
    ≡ ((false ≡ true) ⊎ Perhaps (λ t. (x ≢ 4) × ((has x (2 ∷ []) ≡ true) ⊎ Perhaps (λ t. (x ≢ 5) × ((has x (4 ∷ []) ≡ true) ⊎ Perhaps (λ t. x ≡ 0))))))
before_region x = refl

soon_before_region : (x : ℕ) → Soon x region (nothing_later x)
    ≡ ((has x (3 ∷ []) ≡ true) ⊎ ((false ≡ true) ⊎ Perhaps (λ t. (x ≢ 4) × (has x (2 ∷ []) ≡ true))))
soon_before_region x = refl

abbrev region_events : List Event
region_events =
    Saves 3 ∷ Binds 4 ∷ Saves 4 ∷ References 2 ∷ Calls (applied 0 (held_in 2) []) (0 ∷ 3 ∷ 4 ∷ []) ∷ Binds 5 ∷ References 4 ∷ References 0 ∷ Returns ∷ []

region_path : IsPath no_region region region_events true
region_path = (
  Binds 4 ∷ Saves 4 ∷ References 2 ∷ Calls (applied 0 (held_in 2) []) (0 ∷ 3 ∷ 4 ∷ []) ∷ Binds 5 ∷ References 4 ∷ References 0 ∷ Returns ∷ [],
  (
    [],
    References 2 ∷ Calls (applied 0 (held_in 2) []) (0 ∷ 3 ∷ 4 ∷ []) ∷ Binds 5 ∷ References 4 ∷ References 0 ∷ Returns ∷ [],
    true,
    (refl, inl refl),
    (
      References 2 ∷ Calls (applied 0 (held_in 2) []) (0 ∷ 3 ∷ 4 ∷ []) ∷ [],
      References 4 ∷ References 0 ∷ Returns ∷ [],
      true,
      refl,
      (References 4 ∷ [], true, (refl, inl refl), refl),
      refl,
    ),
    refl,
  ),
  refl,
)

-- ## What is met on it

live_met : Meets (live 2) region_events ⊥ × Meets (refers 4) region_events ⊥ × Meets (soon 3) region_events ⊥ × Meets (live 0) region_events ⊥
live_met = (tt, tt, tt, tt)

-- 4 is bound before it is read, 3 is saved and not read, 5 is bound, 0 is read behind the call, and what is behind a return is not met
not_met : Meets (live 4) region_events (Unit {0}) ≡ ⊥
not_met = refl

saved_alone : Meets (refers 3) region_events (Unit {0}) ≡ ⊥
saved_alone = refl

not_soon : Meets (soon 0) region_events (Unit {0}) ≡ ⊥
not_soon = refl

called_for : calls 3 region_events ∷ calls 4 region_events ∷ calls 5 region_events ∷ some_call region_events ∷ some_call (Tails (applied 0 (held_in 2) []) ∷ []) ∷ []
    ≡ true ∷ true ∷ false ∷ true ∷ false ∷ []
called_for = refl

followed : SavesFollowed region_events × SavesCalled region_events
followed = ((refl, (refl, tt)), (refl, (refl, tt)))

not_followed : SavesFollowed (Calls (applied 0 (held_in 2) []) (3 ∷ []) ∷ Saves 3 ∷ []) ≡ ((false ≡ true) × Unit {0})
not_followed = refl
