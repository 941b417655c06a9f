-- Exactly what is saved and what is restored.
use Rattle.std.specs.Prelude.{◌≡◌, ◌↔◌, ℕ, Bool, true, false, List, []}
use Rattle.std.specs.Bool.{MatchBool}
use Rattle.sch_word.specs.trees.NumberSets.{has}
use Rattle.sch_control.specs.Meaning.{no_region, with_region}
use Rattle.sch_control.specs.Tree.{Expression, perform, bind, sequence, branch, fix, call, tail_call, return, end, save}
use Rattle.sch_control.specs.flow.Live.{Perhaps, Across, MayGive, Live, Soon, Later, nothing_later}
use Rattle.sch_control.specs.flow.Paths.{Needs}

-- ## Saves

-- the variables of the region round an expression, none where none stands there
abbrev pub saved_round : Expression → List ℕ
saved_round (save saves e) = saves
saved_round _ = []

-- they are exactly those that the expression needs, less those that an enclosing region has
abbrev pub SavesNeeds : (inside : ℕ → Bool) → Expression → Type 0
SavesNeeds inside e = (x : ℕ) → (has x (saved_round e) ≡ true) ↔ (Needs x e × (inside x ≡ false))

-- this is so of each arm inside an expression
abbrev pub ArmsSave : (inside : ℕ → Bool) → Expression → Type 0
ArmsSave inside (perform o) = Unit {0}
ArmsSave inside (bind y a b) = ArmsSave inside a × ArmsSave inside b
ArmsSave inside (sequence a b) = ArmsSave inside a × ArmsSave inside b
ArmsSave inside (branch a b c) =
    ArmsSave inside a × ((SavesNeeds inside b × ArmsSave inside b) × (SavesNeeds inside c × ArmsSave inside c))
ArmsSave inside (fix members e) = ArmsSave inside e
ArmsSave inside (call a listed) = Unit {0}
ArmsSave inside (tail_call a) = Unit {0}
ArmsSave inside (return e) = ArmsSave inside e
ArmsSave inside (end e) = ArmsSave inside e
ArmsSave inside (save saves e) = ArmsSave (with_region saves inside) e

-- lazy saves of a body
abbrev pub LazySaves : Expression → Type 0
LazySaves e = SavesNeeds no_region e × ArmsSave no_region e

-- ## Restores

-- each call restores exactly what is saved there, live after it and wanted before the next
abbrev pub EagerSets : Expression → (Met : Type 0) → (inside : ℕ → Bool) → (L S : Later) → Type 0
EagerSets (perform o) Met inside L S = Unit {0}
EagerSets (bind y a b) Met inside L S =
    EagerSets a Met inside (λ x t. Across y x (Live x b (L x))) (λ x t. Across y x (Soon x b (S x))) × EagerSets b Met inside L S
EagerSets (sequence a b) Met inside L S =
    EagerSets a Met inside (λ x t. Live x b (L x)) (λ x t. Soon x b (S x)) × EagerSets b Met inside L S
EagerSets (branch a b c) Met inside L S =
    EagerSets a Met inside (λ x t. MatchBool t (Live x b (L x)) (Live x c (L x))) (λ x t. MatchBool t (Soon x b (S x)) (Soon x c (S x)))
    × (EagerSets b (Met × MayGive a true) inside L S × EagerSets c (Met × MayGive a false) inside L S)
EagerSets (fix members e) Met inside L S = EagerSets e Met inside L S
EagerSets (call a restores) Met inside L S =
    (x : ℕ) → (has x restores ≡ true) ↔ (inside x ≡ true × (Met × (Perhaps (L x) × Perhaps (S x))))
EagerSets (tail_call a) Met inside L S = Unit {0}
EagerSets (return e) Met inside L S = EagerSets e Met inside (λ x t. x ≡ 0) (λ x t. x ≡ 0)
EagerSets (end e) Met inside L S = EagerSets e Met inside (λ x t. ⊥) (λ x t. ⊥)
EagerSets (save saves e) Met inside L S = EagerSets e Met (with_region saves inside) L S

-- eager restores of a body
abbrev pub EagerRestores : Expression → Type 0
EagerRestores e = EagerSets e (Unit {0}) no_region nothing_later nothing_later

-- Each call restores no more than what is saved there and live after it, and no less than what of that is wanted before the
-- next call.
abbrev pub RestoresBetween : Expression → (Met : Type 0) → (inside : ℕ → Bool) → (L S : Later) → Type 0
RestoresBetween (perform o) Met inside L S = Unit {0}
RestoresBetween (bind y a b) Met inside L S =
    RestoresBetween a Met inside (λ x t. Across y x (Live x b (L x))) (λ x t. Across y x (Soon x b (S x))) × RestoresBetween b Met inside L S
RestoresBetween (sequence a b) Met inside L S =
    RestoresBetween a Met inside (λ x t. Live x b (L x)) (λ x t. Soon x b (S x)) × RestoresBetween b Met inside L S
RestoresBetween (branch a b c) Met inside L S =
    RestoresBetween a Met inside (λ x t. MatchBool t (Live x b (L x)) (Live x c (L x))) (λ x t. MatchBool t (Soon x b (S x)) (Soon x c (S x)))
    × (RestoresBetween b (Met × MayGive a true) inside L S × RestoresBetween c (Met × MayGive a false) inside L S)
RestoresBetween (fix members e) Met inside L S = RestoresBetween e Met inside L S
RestoresBetween (call a restores) Met inside L S =
    (x : ℕ) → (has x restores ≡ true → (inside x ≡ true) × (Met × Perhaps (L x)))
    × ((inside x ≡ true) × (Met × (Perhaps (L x) × Perhaps (S x))) → has x restores ≡ true)
RestoresBetween (tail_call a) Met inside L S = Unit {0}
RestoresBetween (return e) Met inside L S = RestoresBetween e Met inside (λ x t. x ≡ 0) (λ x t. x ≡ 0)
RestoresBetween (end e) Met inside L S = RestoresBetween e Met inside (λ x t. ⊥) (λ x t. ⊥)
RestoresBetween (save saves e) Met inside L S = RestoresBetween e Met (with_region saves inside) L S

-- each call restores all that is saved there and live after it
abbrev pub AllSets : Expression → (Met : Type 0) → (inside : ℕ → Bool) → Later → Type 0
AllSets (perform o) Met inside L = Unit {0}
AllSets (bind y a b) Met inside L = AllSets a Met inside (λ x t. Across y x (Live x b (L x))) × AllSets b Met inside L
AllSets (sequence a b) Met inside L = AllSets a Met inside (λ x t. Live x b (L x)) × AllSets b Met inside L
AllSets (branch a b c) Met inside L =
    AllSets a Met inside (λ x t. MatchBool t (Live x b (L x)) (Live x c (L x)))
    × (AllSets b (Met × MayGive a true) inside L × AllSets c (Met × MayGive a false) inside L)
AllSets (fix members e) Met inside L = AllSets e Met inside L
AllSets (call a restores) Met inside L = (x : ℕ) → (has x restores ≡ true) ↔ (inside x ≡ true × (Met × Perhaps (L x)))
AllSets (tail_call a) Met inside L = Unit {0}
AllSets (return e) Met inside L = AllSets e Met inside (λ x t. x ≡ 0)
AllSets (end e) Met inside L = AllSets e Met inside (λ x t. ⊥)
AllSets (save saves e) Met inside L = AllSets e Met (with_region saves inside) L

-- a variable is live after each call
abbrev pub LiveAfterCalls : ℕ → Expression → (Bool → Type 0) → Type 0
LiveAfterCalls x (perform o) L = Unit {0}
LiveAfterCalls x (bind y a b) L = LiveAfterCalls x a (λ t. Across y x (Live x b L)) × LiveAfterCalls x b L
LiveAfterCalls x (sequence a b) L = LiveAfterCalls x a (λ t. Live x b L) × LiveAfterCalls x b L
LiveAfterCalls x (branch a b c) L = LiveAfterCalls x a (λ t. MatchBool t (Live x b L) (Live x c L)) × (LiveAfterCalls x b L × LiveAfterCalls x c L)
LiveAfterCalls x (fix members e) L = LiveAfterCalls x e L
LiveAfterCalls x (call a listed) L = Perhaps L
LiveAfterCalls x (tail_call a) L = Unit {0}
LiveAfterCalls x (return e) L = LiveAfterCalls x e (λ t. x ≡ 0)
LiveAfterCalls x (end e) L = LiveAfterCalls x e (λ t. ⊥)
LiveAfterCalls x (save saves e) L = LiveAfterCalls x e L
