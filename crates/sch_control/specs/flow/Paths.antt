-- The paths of an expression, and what is met on them. A path is a list of events with a result: its value is `#f`, or it
-- counts as true. A stop is no path.
use Rattle.std.specs.Prelude.{◌≡◌, ℕ, nat_eq, cond, Bool, true, false, List, [], ◌∷◌, ◌++◌, map, filter, ◌||◌}
use Rattle.std.specs.Bool.{MatchBool}
use Rattle.sch_word.specs.trees.NumberSets.{has}
use Rattle.sch_control.specs.declared.operation.Application.{Application}
use Rattle.sch_control.specs.declared.operation.Member.{Member}
use Rattle.sch_control.specs.AtomsAndSites.{operation_atoms, application_atoms, member_atoms}
use Rattle.sch_control.specs.Meaning.{heads, with_region, no_region}
use Rattle.sch_control.specs.Tree.{Expression, perform, bind, sequence, branch, fix, call, tail_call, return, end, save}
use Rattle.sch_control.specs.Valid.{member_variables}
use Rattle.sch_control.specs.flow.Live.{named, AfterValue}

-- A call is met with what it is, and with what is listed at it. What ends a body is a tail call, a return, or the end of a
-- form.
pub data Event : Type 0 where
  Binds : ℕ → Event
  References : ℕ → Event
  Saves : ℕ → Event
  Calls : Application ℕ → (listed : List ℕ) → Event
  Tails : Application ℕ → Event
  Returns : Event
  Ends : Event

-- A variable is bound; if it is inside a region of it, it is saved directly after that.
abbrev pub binding : (inside : ℕ → Bool) → ℕ → List Event
binding inside y = Binds y ∷ map Saves (filter inside (y ∷ []))

-- a group is bound and its fields are read; then those that are inside a region of them are saved
abbrev pub grouping : (inside : ℕ → Bool) → List (Member ℕ) → List Event
grouping inside members =
    map Binds (member_variables members)
    ++ (map References (named (member_atoms members)) ++ map Saves (filter inside (member_variables members)))

-- `es` are the events of a path through the expression that has that result, where `inside` has the variables of the regions
-- round it. What ends a body has both results, as nothing follows it.
abbrev pub IsPath : (inside : ℕ → Bool) → Expression → List Event → (result : Bool) → Type 0
IsPath inside (perform o) es r = (es ≡ map References (named (operation_atoms o))) × AfterValue o (λ t. t ≡ r)
IsPath inside (bind y a b) es r =
    (first second : List Event) × (t : Bool) × IsPath inside a first t × IsPath inside b second r
    × (es ≡ first ++ (binding inside y ++ second))
IsPath inside (sequence a b) es r =
    (first second : List Event) × (t : Bool) × IsPath inside a first t × IsPath inside b second r × (es ≡ first ++ second)
IsPath inside (branch a b c) es r =
    (first second : List Event) × (t : Bool) × IsPath inside a first t
    × MatchBool t (IsPath inside b second r) (IsPath inside c second r) × (es ≡ first ++ second)
IsPath inside (fix members e) es r =
    (rest : List Event) × IsPath inside e rest r
    × (es ≡ grouping inside members ++ rest)
IsPath inside (call a listed) es r = es ≡ map References (named (application_atoms a)) ++ Calls a listed ∷ []
IsPath inside (tail_call a) es r = es ≡ map References (named (application_atoms a)) ++ References 0 ∷ Tails a ∷ []
IsPath inside (return e) es r = (first : List Event) × (t : Bool) × IsPath inside e first t × (es ≡ first ++ References 0 ∷ Returns ∷ [])
IsPath inside (end e) es r = (first : List Event) × (t : Bool) × IsPath inside e first t × (es ≡ first ++ Ends ∷ [])
IsPath inside (save saves e) es r = (rest : List Event) × IsPath (with_region saves inside) e rest r × (es ≡ map Saves (heads e saves) ++ rest)

-- ## What is met first

-- what an event decides: yes, no, or nothing, so that the path goes on
pub data Act : Type 0 where
  Yes : Act
  No : Act
  On : Act

abbrev pub decided : Act → Type 0 → Type 0
decided Yes L = Unit {0}
decided No L = ⊥
decided On L = L

-- the first event that decides says yes, or where none does, what follows
abbrev pub Meets : (Event → Act) → List Event → Type 0 → Type 0
Meets act [] L = L
Meets act (e ∷ es) L = decided (act e) (Meets act es L)

-- some path through the expression, and then what follows, says yes
abbrev pub MayMeet : (Event → Act) → (inside : ℕ → Bool) → Expression → (Bool → Type 0) → Type 0
MayMeet act inside e L = (es : List Event) × (r : Bool) × IsPath inside e es r × Meets act es (L r)

-- a variable is live: it is referenced before it is bound
abbrev pub live : ℕ → Event → Act
live x (References y) = cond (nat_eq x y) Yes On
live x (Binds y) = cond (nat_eq x y) No On
live x (Saves y) = On
live x (Calls a listed) = On
live x (Tails a) = No
live x Returns = No
live x Ends = No

-- it is referenced, bound or not
abbrev pub refers : ℕ → Event → Act
refers x (References y) = cond (nat_eq x y) Yes On
refers x (Binds y) = On
refers x (Saves y) = On
refers x (Calls a listed) = On
refers x (Tails a) = No
refers x Returns = No
refers x Ends = No

-- it is wanted soon: it is referenced or saved before it is bound and before the next call
abbrev pub soon : ℕ → Event → Act
soon x (References y) = cond (nat_eq x y) Yes On
soon x (Binds y) = cond (nat_eq x y) No On
soon x (Saves y) = cond (nat_eq x y) Yes On
soon x (Calls a listed) = No
soon x (Tails a) = No
soon x Returns = No
soon x Ends = No

-- ## Calls that a path has

-- a call after which the variable is live, where what is listed at a call is what is live after it
abbrev pub is_call_with : ℕ → Event → Bool
is_call_with x (Calls a listed) = has x listed
is_call_with x _ = false

-- some call of the path is one
abbrev pub calls : ℕ → List Event → Bool
calls x [] = false
calls x (e ∷ es) = is_call_with x e || calls x es

-- every path through the expression has such a call
abbrev pub Needs : ℕ → Expression → Type 0
Needs x e = (es : List Event) (r : Bool) → IsPath no_region e es r → calls x es ≡ true

-- a call after which it is live follows each save of a variable
abbrev pub SavesFollowed : List Event → Type 0
SavesFollowed [] = Unit {0}
SavesFollowed (Saves x ∷ es) = (calls x es ≡ true) × SavesFollowed es
SavesFollowed (_ ∷ es) = SavesFollowed es

-- ## Calls, whatever is listed at them

abbrev pub unlisted_event : Event → Event
unlisted_event (Calls a listed) = Calls a []
unlisted_event e = e

abbrev pub is_call : Event → Bool
is_call (Calls a listed) = true
is_call _ = false

abbrev pub some_call : List Event → Bool
some_call [] = false
some_call (e ∷ es) = is_call e || some_call es

-- a call follows each save
abbrev pub SavesCalled : List Event → Type 0
SavesCalled [] = Unit {0}
SavesCalled (Saves x ∷ es) = (some_call es ≡ true) × SavesCalled es
SavesCalled (_ ∷ es) = SavesCalled es
