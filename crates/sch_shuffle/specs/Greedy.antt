-- The greedy order of the arguments, and the moves that it makes.
use Rattle.std.specs.Prelude.{ℕ, zero, suc, ◌<◌, Bool, cond, ◌&&◌, ◌||◌, not, nat_eq, nat_lt, List, [], ◌∷◌, ◌++◌, length}
use Rattle.std.specs.List.{slice_index_or}
use Rattle.sch_word.specs.trees.Bindings.{numbers}
use Rattle.sch_word.specs.declared.place.Place.{Place}
use Rattle.sch_shuffle.specs.declared.choice.Choice.{Choice}
use Rattle.sch_shuffle.specs.declared.choice.Choice.TheVariants.{Direct, Aside}
use Rattle.sch_shuffle.specs.Tree.{Tree, uses}
use Rattle.sch_shuffle.specs.Assignment.{operand_at, place_at, Transfer}
use Rattle.sch_shuffle.specs.Plans.{Act, direct, aside, onward, transfers}

-- ## Numbers of arguments

abbrev pub remove_first : ℕ → List ℕ → List ℕ
remove_first k [] = []
remove_first k (j ∷ js) = cond (nat_eq j k) js (j ∷ remove_first k js)

-- ## Which argument goes next

-- whether argument j uses the target of argument k
abbrev pub uses_target : List Tree → List Place → ℕ → ℕ → Bool
uses_target args targets j k = uses (operand_at args j) (place_at targets k)

-- how many of the waiting arguments, k itself aside, use the target of k
abbrev pub needed : (ℕ → ℕ → Bool) → List ℕ → ℕ → ℕ
needed W [] k = 0
needed W (j ∷ js) k = cond (not (nat_eq j k) && W j k) (suc (needed W js k)) (needed W js k)

-- whether an argument whose target a others use goes before an earlier one whose target b others use:
-- a target that no other uses comes first, then the one that most use
abbrev pub goes_before : (a b : ℕ) → Bool
goes_before a b = not (nat_eq b 0) && (nat_eq a 0 || nat_lt b a)

-- the one that goes next, of `best` and some later ones
abbrev pub next : (ℕ → ℕ) → (best : ℕ) → List ℕ → ℕ
next needs best [] = best
next needs best (k ∷ ks) = next needs (cond (goes_before (needs k) (needs best)) k best) ks

abbrev pub next_of : (ℕ → ℕ) → List ℕ → ℕ
next_of needs [] = 0
next_of needs (k ∷ ks) = next needs k ks

-- to its target where no other uses that, else to a temporary
abbrev pub chosen : (users k : ℕ) → Choice
chosen zero k = Direct k
chosen (suc users) k = Aside k

-- how each of n waiting arguments goes, one after the other
abbrev pub choices : (ℕ → ℕ → Bool) → ℕ → List ℕ → List Choice
choices W zero waiting = []
choices W (suc n) ws =
    let k = next_of (needed W ws) ws in
    chosen (needed W ws k) k ∷ choices W n (remove_first k ws)

abbrev pub all_choices : List Tree → List Place → List Choice
all_choices args targets = choices (uses_target args targets) (length args) (numbers 0 (length args))

abbrev pub number_of : Choice → ℕ
number_of (Direct k) = k
number_of (Aside k) = k

abbrev pub AreBelow : ℕ → List Choice → Type 0
AreBelow n cs = (i : ℕ) → i < length cs → number_of (slice_index_or cs i (Direct 0)) < n

-- ## The moves

-- the evaluations, each to its target or to the next temporary, of which u are used
abbrev pub evaluations : List Place → (u : ℕ) → List Choice → List Act
evaluations free u [] = []
evaluations free u (Direct k ∷ cs) = direct k ∷ evaluations free u cs
evaluations free u (Aside k ∷ cs) = aside k (place_at free u) ∷ evaluations free (suc u) cs

-- what was set aside goes on, in the order in which it was set aside
abbrev pub onwards : List Place → (u : ℕ) → List Choice → List Act
onwards free u [] = []
onwards free u (Direct k ∷ cs) = onwards free u cs
onwards free u (Aside k ∷ cs) = onward k (place_at free u) ∷ onwards free (suc u) cs

abbrev pub acts : List Place → List Choice → List Act
acts free cs = evaluations free 0 cs ++ onwards free 0 cs

-- the moves for these arguments, targets and free places
abbrev pub made : List Tree → List Place → List Place → List Transfer
made args targets free = transfers args targets (acts free (all_choices args targets))
