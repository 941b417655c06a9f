-- The laws of paths: what a public function of this crate promises is one of these.
use Rattle.std.specs.Prelude.{◌≡◌, ◌↔◌, ℕ, Bool, true, List, ◌⊎◌, Some}
use Rattle.sch_word.specs.trees.NumberSets.{has}
use Rattle.sch_control.specs.declared.body.Entry.{Entry}
use Rattle.sch_control.specs.Meaning.{World, Environment, Callee, Reading, plain, no_region, do_body}
use Rattle.sch_control.specs.Tree.{Expression, Code}
use Rattle.sch_control.specs.Valid.{in_scope, in_scope_whole, numbered, bound_in, ended}
use Rattle.sch_control.specs.flow.Bare.{erased, unlisted, unsaved}
use Rattle.sch_control.specs.flow.Live.{MayGive, Live, Soon, nothing_later}
use Rattle.sch_control.specs.flow.LiveSets.{HasLiveSets}
use Rattle.sch_control.specs.flow.Middle.{silent}
use Rattle.sch_control.specs.flow.Paths.{Event, IsPath, MayMeet, live, refers, soon, calls, Needs, SavesFollowed}
use Rattle.sch_paths.specs.Calls.{ListsLive}
use Rattle.sch_paths.specs.Conditions.{Saved, Alike, CalleesAlike}
use Rattle.sch_paths.specs.Exact.{LazySaves, RestoresBetween, LiveAfterCalls}
use Rattle.sch_paths.specs.Regions.{HeadsLive, regions_stand}
use Rattle.sch_paths.specs.Table.{saved_by, needs}

-- ## Paths

abbrev pub HasPath : Type 0
HasPath = (inside : ℕ → Bool) (e : Expression) → (r : Bool) × (es : List Event) × IsPath inside e es r

-- an expression may give a result where some path through it has that result
abbrev pub GivesByPaths : Type 0
GivesByPaths = (inside : ℕ → Bool) (e : Expression) (r : Bool) → MayGive e r ↔ ((es : List Event) × IsPath inside e es r)

-- a variable is live where some path references it before it binds it; `behind` says whether it is live behind the expression
abbrev pub LiveByPaths : Type 0
LiveByPaths =
    (x : ℕ) (inside : ℕ → Bool) (e : Expression) (behind : Bool → Bool)
    → MayMeet (live x) inside e (λ t. behind t ≡ true) ↔ Live x e (λ t. behind t ≡ true)

-- and wanted soon where some path references or saves it before it binds it and before the next call
abbrev pub SoonByPaths : Type 0
SoonByPaths =
    (x : ℕ) (inside : ℕ → Bool) (e : Expression) (behind : Bool → Bool)
    → MayMeet (soon x) inside e (λ t. behind t ≡ true) ↔ Soon x e (λ t. behind t ≡ true)

-- a variable that may be read: where to return, or one that is in scope
abbrev pub Readable : (scope : ℕ → Bool) → ℕ → Type 0
Readable scope x = (x ≡ 0) ⊎ (scope x ≡ true)

-- Before an expression that binds none of what is in scope, a variable is live where it is bound before, and some path from
-- there references it.
abbrev pub LiveWhereReferenced : Type 0
LiveWhereReferenced =
    (e : Expression) (scope : ℕ → Bool) → in_scope e scope ≡ true → ((x : ℕ) → has x (bound_in e) ≡ true → Readable scope x → ⊥)
    → (inside : ℕ → Bool) (behind : ℕ → Bool → Bool) → ((x : ℕ) (t : Bool) → behind x t ≡ true → Readable scope x)
    → (x : ℕ) → (Readable scope x × MayMeet (refers x) inside e (λ t. behind x t ≡ true)) ↔ Live x e (λ t. behind x t ≡ true)

-- at each call of a path, the live set of the call has what some path from there references before it binds it
abbrev pub SetsByPaths : Type 0
SetsByPaths = (e : Expression) → HasLiveSets e → ListsLive e

-- where to return is live after each call of a procedure
abbrev pub ReturnAddressLive : Type 0
ReturnAddressLive =
    (c : Code) (e : Entry) → c.entry ≡ Some e → ended c ≡ true → numbered c ≡ true → LiveAfterCalls 0 c.expression (nothing_later 0)

-- ## Saves

-- the two sets of an expression have what each path of that result has a call for, and so both have what each path has one for
abbrev pub TableByPaths : Type 0
TableByPaths =
    (x : ℕ) (inside : ℕ → Bool) (e : Expression)
    → ((r : Bool) → (saved_by x e r ≡ true) ↔ ((es : List Event) → IsPath inside e es r → calls x es ≡ true))
    × ((needs x e ≡ true) ↔ ((es : List Event) (r : Bool) → IsPath inside e es r → calls x es ≡ true))

-- regions change nothing of what an expression needs
abbrev pub NeedsWithoutRegions : Type 0
NeedsWithoutRegions = (x : ℕ) (e : Expression) → Needs x e ↔ Needs x (unsaved e)

-- A valid body with lazy saves and the live sets, whose regions stand round the body and round arms.
pub record IsSaved (c : Code) (listed : Expression) : Type 0 where
  pub body : erased listed ≡ c.expression
  pub scopes : in_scope_whole c ≡ true
  pub numbers : numbered c ≡ true
  pub ending : ended c ≡ true
  pub stand : regions_stand true listed ≡ true
  pub sets : HasLiveSets listed
  pub saves : LazySaves listed

-- on each path, a call after which it is live follows each save of a variable
abbrev pub SavesAreFollowed : Type 0
SavesAreFollowed = (c : Code) (listed : Expression) → IsSaved c listed → (es : List Event) (r : Bool) → IsPath no_region listed es r → SavesFollowed es

-- what is saved at the head of a region is live there
abbrev pub HeadsAreLive : Type 0
HeadsAreLive = (c : Code) (listed : Expression) → IsSaved c listed → HeadsLive listed nothing_later

-- what is live after each call is saved there, also where a tree differs in what is listed at calls
abbrev pub LiveIsSaved : Type 0
LiveIsSaved =
    (keeps : ℕ → Bool) (listed restored : Expression) → unlisted listed ≡ unlisted restored → HasLiveSets listed → LazySaves listed
    → Saved keeps restored (Unit {0}) no_region nothing_later

-- ## Restores

-- A valid body with saves and restores, read so that a call keeps these variables: what is live after each call is saved
-- there, and each call restores some of that, at least what is wanted before the next call.
pub record IsRestored (keeps : ℕ → Bool) (c : Code) (e : Expression) : Type 0 where
  pub body : erased e ≡ c.expression
  pub scopes : in_scope_whole c ≡ true
  pub numbers : numbered c ≡ true
  pub saved : Saved keeps e (Unit {0}) no_region nothing_later
  pub restores : RestoresBetween e (Unit {0}) no_region nothing_later nothing_later

-- it does the very same as the body without saves and restores, so no read is wrong where the body has none
abbrev pub RestoresAreEnough : Type 0
RestoresAreEnough =
    (keeps : ℕ → Bool) (c : Code) (e : Expression) → IsRestored keeps c e
    → (callee : Callee) (depth : ℕ) (environment : Environment) (w : World)
    → do_body plain callee depth c.expression environment w ≡ do_body (silent keeps) callee depth e environment w

-- under a reading that leaves marks it does the same but for these
abbrev pub MarksChangeNothing : Type 0
MarksChangeNothing =
    (reading : Reading) (c : Code) (e : Expression) → IsRestored reading.keeps c e
    → (callee callee' : Callee) → CalleesAlike callee callee' → (depth : ℕ) (environment : Environment) (w w' : World) → w'.state ≡ w.state
    → Alike (do_body plain callee depth c.expression environment w) (do_body reading callee' depth e environment w')

-- what is listed at calls changes nothing of a plain reading
abbrev pub ListsChangeNothing : Type 0
ListsChangeNothing =
    (e : Expression) (callee : Callee) (depth : ℕ) (environment : Environment) (w : World)
    → do_body plain callee depth (unlisted e) environment w ≡ do_body plain callee depth e environment w
