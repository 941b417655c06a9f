-- What saves and restores owe to a body.
use Rattle.std.specs.Prelude.{◌≡◌, ℕ, List, Bool, true, false, Some, None}
use Rattle.std.specs.Bool.{MatchBool}
use Rattle.sch_word.specs.trees.NumberSets.{has}
use Rattle.sch_word.specs.values.Values.{Value}
use Rattle.sch_word.specs.runs.Computation.{gives, stops, spent}
use Rattle.sch_control.specs.Meaning.{Reading, World, Result, Environment, Callee, plain, do_body, with_region, binds}
use Rattle.sch_word.specs.runs.Procedures.{Procedure}
use Rattle.sch_control.specs.Run.{Bodies}
use Rattle.sch_control.specs.Tree.{Expression, perform, bind, sequence, branch, fix, call, tail_call, return, end, save, Code}
use Rattle.sch_control.specs.flow.Live.{Perhaps, Across, MayGive, Live, Soon, Later}

-- `keeps` has the variables that a call keeps where they are, which need neither saves nor restores. `Met` says that some
-- way comes to the expression: nothing is owed elsewhere.
module _ (keeps : ℕ → Bool) where
  -- at each call, what is live after it is saved: it stands inside a region of it
  abbrev pub Saved : Expression → (Met : Type 0) → (inside : ℕ → Bool) → Later → Type 0
  Saved (perform o) Met inside L = Unit {0}
  Saved (bind y a b) Met inside L = Saved a Met inside (λ x t. Across y x (Live x b (L x))) × Saved b Met inside L
  Saved (sequence a b) Met inside L = Saved a Met inside (λ x t. Live x b (L x)) × Saved b Met inside L
  Saved (branch a b c) Met inside L =
      Saved a Met inside (λ x t. MatchBool t (Live x b (L x)) (Live x c (L x)))
      × (Saved b (Met × MayGive a true) inside L × Saved c (Met × MayGive a false) inside L)
  Saved (fix members e) Met inside L = Saved e Met inside L
  Saved (call a restores) Met inside L = (x : ℕ) → Met → Perhaps (L x) → keeps x ≡ false → inside x ≡ true
  Saved (tail_call a) Met inside L = Unit {0}
  Saved (return e) Met inside L = Saved e Met inside (λ x t. x ≡ 0)
  Saved (end e) Met inside L = Saved e Met inside (λ x t. ⊥)
  Saved (save saves e) Met inside L = Saved e Met (with_region saves inside) L

  -- after each call, what is live and wanted soon is restored
  abbrev pub Restored : Expression → (Met : Type 0) → (L S : Later) → Type 0
  Restored (perform o) Met L S = Unit {0}
  Restored (bind y a b) Met L S =
      Restored a Met (λ x t. Across y x (Live x b (L x))) (λ x t. Across y x (Soon x b (S x))) × Restored b Met L S
  Restored (sequence a b) Met L S = Restored a Met (λ x t. Live x b (L x)) (λ x t. Soon x b (S x)) × Restored b Met L S
  Restored (branch a b c) Met L S =
      Restored a Met (λ x t. MatchBool t (Live x b (L x)) (Live x c (L x))) (λ x t. MatchBool t (Soon x b (S x)) (Soon x c (S x)))
      × (Restored b (Met × MayGive a true) L S × Restored c (Met × MayGive a false) L S)
  Restored (fix members e) Met L S = Restored e Met L S
  Restored (call a restores) Met L S = (x : ℕ) → Met → Perhaps (L x) → Perhaps (S x) → keeps x ≡ false → has x restores ≡ true
  Restored (tail_call a) Met L S = Unit {0}
  Restored (return e) Met L S = Restored e Met (λ x t. x ≡ 0) (λ x t. x ≡ 0)
  Restored (end e) Met L S = Restored e Met (λ x t. ⊥) (λ x t. ⊥)
  Restored (save saves e) Met L S = Restored e Met L S

-- what a region saves where it is bound inside is not live before the region, as each variable is bound once
abbrev pub Fresh : Expression → Later → Type 0
Fresh (perform o) L = Unit {0}
Fresh (bind y a b) L = Fresh a (λ x t. Across y x (Live x b (L x))) × Fresh b L
Fresh (sequence a b) L = Fresh a (λ x t. Live x b (L x)) × Fresh b L
Fresh (branch a b c) L = Fresh a (λ x t. MatchBool t (Live x b (L x)) (Live x c (L x))) × (Fresh b L × Fresh c L)
Fresh (fix members e) L = Fresh e L
Fresh (call a restores) L = Unit {0}
Fresh (tail_call a) L = Unit {0}
Fresh (return e) L = Fresh e (λ x t. x ≡ 0)
Fresh (end e) L = Fresh e (λ x t. ⊥)
Fresh (save saves e) L = ((x : ℕ) → has x saves ≡ true → binds x e ≡ true → Live x e (L x) → ⊥) × Fresh e L

-- ## The same but for marks

-- the second result is the first, but for the marks that were passed
abbrev pub Alike : Result → Result → Type 0
Alike None None = Unit {0}
Alike (Some (gives v w)) (Some (gives u w')) = (u ≡ v) × (w'.state ≡ w.state)
Alike (Some (stops why w)) (Some (stops why' w')) = (why' ≡ why) × (w'.state ≡ w.state)
Alike (Some (spent w)) (Some (spent w')) = w'.state ≡ w.state
Alike _ _ = ⊥

-- from states that are the same, two procedures are entered alike
abbrev pub CalleesAlike : Callee → Callee → Type 0
CalleesAlike callee callee' =
    (self : Value) (p : Procedure) (arguments : List Value) (depth : ℕ) (w w' : World) → w'.state ≡ w.state
    → Alike (callee self p arguments depth w) (callee' self p arguments depth w')

-- under every reading, a tree does what a body does, but for marks
abbrev pub DoesTheSame : Code → Expression → Type 0
DoesTheSame c e =
    (reading : Reading) (callee callee' : Callee) → CalleesAlike callee callee' → (depth : ℕ) (environment : Environment) (w w' : World) → w'.state ≡ w.state
    → Alike (do_body plain callee depth c.expression environment w) (do_body reading callee' depth e environment w')

-- bodies that call alike do alike
abbrev pub BodiesAlike : Bodies → Bodies → Type 0
BodiesAlike bodies bodies' =
    (label : ℕ) (callee callee' : Callee) → CalleesAlike callee callee' → (depth : ℕ) (self : Value) (arguments : List Value) (w w' : World)
    → w'.state ≡ w.state → Alike (bodies label callee depth self arguments w) (bodies' label callee' depth self arguments w')
