-- Which variables are live at a point, and which of them are wanted before the next call. Each definition goes backwards
-- over a body: it asks what holds before an expression, where it is known what holds behind it.
use Rattle.std.specs.Prelude.{◌≡◌, ◌≢◌, ℕ, List, [], ◌∷◌, Bool, true, false, ◌⊎◌, Option, Some, None}
use Rattle.std.specs.Bool.{MatchBool}
use Rattle.sch_word.specs.trees.NumberSets.{has}
use Rattle.sch_word.specs.values.Values.{constant_value, is_true}
use Rattle.sch_control.specs.declared.operation.Atom.{Atom}
use Rattle.sch_control.specs.declared.operation.Atom.TheVariants.{Constant, Variable}
use Rattle.sch_control.specs.declared.operation.Operand.TheVariants as operand
use Rattle.sch_control.specs.declared.operation.Operation.{Operation}
use Rattle.sch_control.specs.declared.operation.Operation.TheVariants as operation
use Rattle.sch_control.specs.AtomsAndSites.{operation_atoms, application_atoms, member_atoms}
use Rattle.sch_control.specs.Meaning.{heads}
use Rattle.sch_control.specs.Tree.{Expression, perform, bind, sequence, branch, fix, call, tail_call, return, end, save}
use Rattle.sch_control.specs.Valid.{member_variables}

-- ## Atoms

-- the variables among some atoms
abbrev pub named : List (Atom ℕ) → List ℕ
named [] = []
named (Variable y ∷ atoms) = y ∷ named atoms
named (_ ∷ atoms) = named atoms

-- a variable is among them
abbrev pub Mentions : ℕ → List (Atom ℕ) → Type 0
Mentions x atoms = has x (named atoms) ≡ true

-- ## Results: a value is `#f`, or it counts as true

-- this is so where a value is true, or where it is `#f`
abbrev pub Perhaps : (Bool → Type 0) → Type 0
Perhaps L = L true ⊎ L false

-- of a constant it is known which of them it is
abbrev pub known : Operation ℕ → Option Bool
known (operation.Operand (operand.Atom (Constant c))) = Some (is_true (constant_value c))
known _ = None

abbrev pub ByResult : Option Bool → (Bool → Type 0) → Type 0
ByResult (Some t) L = L t
ByResult None L = Perhaps L

-- this is so of the value of an operation
abbrev pub AfterValue : Operation ℕ → (Bool → Type 0) → Type 0
AfterValue o L = ByResult (known o) L

-- Some way through an expression gives a value of that result. What ends a body gives both, as nothing follows it.
abbrev pub MayGive : Expression → (result : Bool) → Type 0
MayGive (perform o) r = AfterValue o (λ t. t ≡ r)
MayGive (bind y a b) r = MayGive b r
MayGive (sequence a b) r = MayGive b r
MayGive (branch a b c) r = (MayGive a true × MayGive b r) ⊎ (MayGive a false × MayGive c r)
MayGive (fix members e) r = MayGive e r
MayGive (call a restores) r = Unit {0}
MayGive (tail_call a) r = Unit {0}
MayGive (return e) r = Unit {0}
MayGive (end e) r = Unit {0}
MayGive (save saves e) r = MayGive e r

-- ## Liveness

-- where a variable `y` is bound, another one is live if it is behind the binding
abbrev pub Across : (y x : ℕ) → (behind : Type 0) → Type 0
Across y x behind = (x ≢ y) × behind

-- A variable is live before an expression: some way from there reads it before it binds it, or it is live behind the
-- expression, as `L` says, where the expression's value is true, and where it is `#f`. A save is no read. What ends a body
-- of a procedure reads variable 0, which is where to return.
abbrev pub Live : ℕ → Expression → (Bool → Type 0) → Type 0
Live x (perform o) L = Mentions x (operation_atoms o) ⊎ AfterValue o L
Live x (bind y a b) L = Live x a (λ t. Across y x (Live x b L))
Live x (sequence a b) L = Live x a (λ t. Live x b L)
Live x (branch a b c) L = Live x a (λ t. MatchBool t (Live x b L) (Live x c L))
Live x (fix members e) L = (has x (member_variables members) ≡ false) × (Mentions x (member_atoms members) ⊎ Live x e L)
Live x (call a restores) L = Mentions x (application_atoms a) ⊎ Perhaps L
Live x (tail_call a) L = (x ≡ 0) ⊎ Mentions x (application_atoms a)
Live x (return e) L = Live x e (λ t. x ≡ 0)
Live x (end e) L = Live x e (λ t. ⊥)
Live x (save saves e) L = Live x e L

-- A variable is wanted soon before an expression: some way from there reads it, or saves it at a region's head, before it
-- binds it and before the next call.
abbrev pub Soon : ℕ → Expression → (Bool → Type 0) → Type 0
Soon x (perform o) S = Mentions x (operation_atoms o) ⊎ AfterValue o S
Soon x (bind y a b) S = Soon x a (λ t. Across y x (Soon x b S))
Soon x (sequence a b) S = Soon x a (λ t. Soon x b S)
Soon x (branch a b c) S = Soon x a (λ t. MatchBool t (Soon x b S) (Soon x c S))
Soon x (fix members e) S = (has x (member_variables members) ≡ false) × (Mentions x (member_atoms members) ⊎ Soon x e S)
Soon x (call a restores) S = Mentions x (application_atoms a)
Soon x (tail_call a) S = (x ≡ 0) ⊎ Mentions x (application_atoms a)
Soon x (return e) S = Soon x e (λ t. x ≡ 0)
Soon x (end e) S = Soon x e (λ t. ⊥)
Soon x (save saves e) S = (has x (heads e saves) ≡ true) ⊎ Soon x e S

-- what holds behind an expression of each variable, by whether the expression's value is true
abbrev pub Later : Type 1
Later = ℕ → Bool → Type 0

-- nothing holds behind a body
abbrev pub nothing_later : Later
nothing_later x t = ⊥
