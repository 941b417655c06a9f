-- What a contract sees of a scope, and what its table says.
use Rattle.std.specs.Prelude.{◌≡◌, ℕ, cond, List, [], ◌∷◌, map, reverse, length, Option, Some, None}
use Rattle.std.specs.Borrow.{Bor}
use Rattle.std.specs.Option.{option_flatten}
use Rattle.std.specs.Str.{bytes_eq}
use Rattle.indexmap.specs.IndexMap.{get_by}
use Rattle.sch_names.specs.Scope.{Scope, is_named}
use Rattle.sch_names.specs.declared.scope.Binding.{Binding}
use Rattle.sch_names.specs.declared.scope.Scope.TheInside.{Inside}

-- the name of a variable, where it has one
abbrev pub name_of : Option Binding → Option (List ℕ)
name_of None = None
name_of (Some b) = Some b.name.items

-- the names of variables, the nearest first
abbrev pub names_of : List (Option Binding) → Scope
names_of bs = map name_of bs

abbrev pub scope_of : Inside → Scope
scope_of s = names_of (reverse s.bound.items)

-- the names of variables, where they have one
abbrev pub one_name : Option (Bor (List ℕ)) → Option (List ℕ)
one_name None = None
one_name (Some x) = Some x.now

abbrev pub given_names : List (Option (Bor (List ℕ))) → List (Option (List ℕ))
given_names vs = map one_name vs

-- how many variables are bound farther than the nearest one of this name
abbrev pub farther_than : List ℕ → List (Option Binding) → Option ℕ
farther_than x [] = None
farther_than x (b ∷ bs) = cond (is_named x (name_of b)) (Some (length bs)) (farther_than x bs)

-- each binding with a name knows the one that it shadows
abbrev pub IsShadow : Option Binding → List (Option Binding) → Type 0
IsShadow None bs = Unit {0}
IsShadow (Some b) bs = b.shadowed ≡ farther_than b.name.items bs

abbrev pub AreShadows : List (Option Binding) → Type 0
AreShadows [] = Unit {0}
AreShadows (b ∷ bs) = IsShadow b bs × AreShadows bs

-- the table has for each name where its nearest variable stands; one that is not bound has none
pub record IsTabled (s : Inside) : Type 0 where
  pub nearest : (x : List ℕ) → option_flatten (get_by (λ k. bytes_eq x k.items) s.nearest) ≡ farther_than x (reverse s.bound.items)
  pub shadows : AreShadows (reverse s.bound.items)
