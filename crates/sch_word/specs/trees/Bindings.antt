-- Environments of the languages in which a variable is a number: lists of variables, each with what it
-- has there, the last bound first.
use Rattle.std.specs.Prelude.{ℕ, zero, suc, cond, nat_eq, List, [], ◌∷◌, Option, Some, None}
use Rattle.sch_word.specs.trees.NumberSets.{unless}
use Rattle.sch_word.specs.values.Values.{Value, unspecified, cell}

abbrev pub Bindings : Type 0 → Type 0
Bindings A = List (ℕ × A)

-- what a variable has
abbrev pub bound_to : {A : Type 0} → ℕ → Bindings A → Option A
bound_to x [] = None
bound_to x (b ∷ environment) = cond (nat_eq x b.0) (Some b.1) (bound_to x environment)

-- the variables from x on have these, and the last is nearest
abbrev pub with_variables : {A : Type 0} → ℕ → List A → Bindings A → Bindings A
with_variables x [] environment = environment
with_variables x (a ∷ more) environment = with_variables (suc x) more ((x, a) ∷ environment)

-- the variables of new cells have these, and the last is nearest
abbrev pub with_cells : (variables cells : List ℕ) → Bindings Value → Bindings Value
with_cells (x ∷ xs) (n ∷ ns) environment = with_cells xs ns ((x, cell n) ∷ environment)
with_cells _ _ environment = environment

abbrev pub value_or : Option Value → Value
value_or None = unspecified
value_or (Some v) = v

-- the value of a variable; one that is not bound has the unspecified value
abbrev pub value_of : ℕ → Bindings Value → Value
value_of x environment = value_or (bound_to x environment)

-- ## Groups of variables

-- the numbers from x on, as many as the count says
abbrev pub numbers : (x count : ℕ) → List ℕ
numbers x zero = []
numbers x (suc count) = x ∷ numbers (suc x) count

-- a scope with the variables from x on, as many as the count, the last of them nearest
abbrev pub scope_with : (x count : ℕ) → List ℕ → List ℕ
scope_with x zero scope = scope
scope_with x (suc count) scope = scope_with (suc x) count (x ∷ scope)

-- a scope with these in front of it, the last of them nearest
abbrev pub pushed : {A : Type 0} → List A → List A → List A
pushed [] scope = scope
pushed (x ∷ xs) scope = pushed xs (x ∷ scope)

-- a set without a number, and without a count of them from x on
abbrev pub remove : ℕ → List ℕ → List ℕ
remove y [] = []
remove y (x ∷ xs) = unless (nat_eq x y) x (remove y xs)

abbrev pub without : (x count : ℕ) → List ℕ → List ℕ
without x zero xs = xs
without x (suc count) xs = remove x (without (suc x) count xs)
