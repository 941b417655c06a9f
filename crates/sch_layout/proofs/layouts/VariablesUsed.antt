-- The variables that a valid body reads and binds.
use Rattle.std.proofs.Common.{◌≡◌, ℕ, zero, suc, ◌+◌, ◌<◌, ◌≤◌, List, [], ◌∷◌, ◌++◌, Option, Some, None, Bool, true, sym, subst, ◌⊎◌, inl, inr, arith}
use Rattle.std.specs.Prelude.{nat_eq}
use Rattle.std.specs.List.{list_all}
use Rattle.std.proofs.lemmas.Bool.{and_parts, or_cases, eqb-true, ltb-true, leb-true}
use Rattle.sch_control.specs.flow.Apart.{EachHas}
use Rattle.sch_control.specs.declared.body.Entry.{Entry}
use Rattle.sch_control.specs.declared.operation.Atom.{Atom}
use Rattle.sch_control.specs.declared.operation.Atom.TheVariants.{Constant, Literal, Variable}
use Rattle.sch_control.specs.declared.operation.Member.{Member}
use Rattle.sch_control.specs.Tree.{Expression, perform, bind, sequence, branch, fix, call, tail_call, return, end, save, Code}
use Rattle.sch_control.specs.Valid.{in_scope_atoms, in_scope, with_variable, with_members, member_variables, bound_in, first_scope, first_bound, numbered, max_body_variables}
use Rattle.sch_control.proofs.VariableLists.{each_more}
use Rattle.sch_layout.specs.Laws.{AtomsHave, Behind, MembersUse, Uses}

-- behind the return address, and below a number
abbrev pub Within : ℕ → ℕ → Type 0
Within n x = Behind x × (x < n)

each_left : (P : ℕ → Type 0) (xs ys : List ℕ) → EachHas P (xs ++ ys) → EachHas P xs
each_left P [] ys h = tt
each_left P (x ∷ xs) ys h = (h.0, each_left P xs ys h.1)

each_right : (P : ℕ → Type 0) (xs ys : List ℕ) → EachHas P (xs ++ ys) → EachHas P ys
each_right P [] ys h = h
each_right P (x ∷ xs) ys h = each_right P xs ys h.1

each_from : (P : ℕ → Type 0) (test : ℕ → Bool) → ((x : ℕ) → test x ≡ true → P x) → (xs : List ℕ) → list_all test xs ≡ true → EachHas P xs
each_from P test f [] h = tt
each_from P test f (x ∷ xs) h = let parts = and_parts _ _ h in (f x parts.0, each_from P test f xs parts.1)

module _ (P : ℕ → Type 0) where
  atoms_used : (scope : ℕ → Bool) → ((x : ℕ) → scope x ≡ true → P x) → (atoms : List (Atom ℕ)) → in_scope_atoms scope atoms ≡ true → AtomsHave P atoms
  atoms_used scope f [] h = tt
  atoms_used scope f (Constant c ∷ atoms) h = (tt, atoms_used scope f atoms h)
  atoms_used scope f (Literal n ∷ atoms) h = (tt, atoms_used scope f atoms h)
  atoms_used scope f (Variable x ∷ atoms) h = let parts = and_parts _ _ h in (f x parts.0, atoms_used scope f atoms parts.1)

  with_one : (x : ℕ) (scope : ℕ → Bool) → P x → ((y : ℕ) → scope y ≡ true → P y) → (y : ℕ) → with_variable x scope y ≡ true → P y
  with_one x scope p f y h = by (or_cases (nat_eq y x) (scope y) h) where
    by : (nat_eq y x ≡ true) ⊎ (scope y ≡ true) → P y
    by (inl e) = subst P (sym (eqb-true y x e)) p
    by (inr e) = f y e

  -- members one by one
  with_group : (members : List (Member ℕ)) (scope : ℕ → Bool) → EachHas P (member_variables members) → ((y : ℕ) → scope y ≡ true → P y) → (y : ℕ) → with_members members scope y ≡ true → P y
  with_group [] scope p f = f
  with_group (m ∷ members) scope p f = with_group members (with_variable m.at scope) p.1 (with_one m.at scope p.0 f)

  members_used : (members : List (Member ℕ)) → EachHas P (member_variables members) → MembersUse P members
  members_used [] p = tt
  members_used (m ∷ members) p = (p.0, members_used members p.1)

  -- what is in scope and what is bound has the property
  pub used : (e : Expression) (scope : ℕ → Bool) → in_scope e scope ≡ true → ((x : ℕ) → scope x ≡ true → P x) → EachHas P (bound_in e) → Uses P e
  used (perform o) scope h f b = atoms_used scope f _ h
  used (bind x a e) scope h f b =
      let parts = and_parts _ _ h in
      (b.0, (used a scope parts.0 f (each_left P (bound_in a) _ b.1), used e (with_variable x scope) parts.1 (with_one x scope b.0 f) (each_right P (bound_in a) _ b.1)))
  used (sequence a e) scope h f b =
      let parts = and_parts _ _ h in
      (used a scope parts.0 f (each_left P (bound_in a) _ b), used e scope parts.1 f (each_right P (bound_in a) _ b))
  used (branch a e e') scope h f b =
      let parts = and_parts _ _ h in
      let more = and_parts _ _ parts.1 in
      let rest = each_right P (bound_in a) _ b in
      (used a scope parts.0 f (each_left P (bound_in a) _ b), (used e scope more.0 f (each_left P (bound_in e) _ rest), used e' scope more.1 f (each_right P (bound_in e) _ rest)))
  used (return e) scope h f b = used e scope h f b
  used (end e) scope h f b = used e scope h f b
  used (fix members e) scope h f b =
      let parts = and_parts _ _ h in
      let group = each_left P (member_variables members) _ b in
      let inside = with_group members scope group f in
      (members_used members group, (atoms_used (with_members members scope) inside _ parts.0, used e (with_members members scope) parts.1 inside (each_right P (member_variables members) _ b)))
  used (call a restores) scope h f b = atoms_used scope f _ h
  used (tail_call a) scope h f b = atoms_used scope f _ h
  used (save saves e) scope h f b = used e scope h f b

behind : (x : ℕ) → 0 < x → Behind x
behind zero h = omega (arith, h)
behind (suc x) h = tt

first_behind : (o : Option Entry) (x : ℕ) → first_bound o ≤ x → 0 < x
first_behind None x h = omega (arith, h)
first_behind (Some e) x h = omega (arith, h)

scoped : (o : Option Entry) (n x : ℕ) → first_scope o x ≡ true → first_bound o ≤ n → Within n x
scoped None n x s i = absurd (cc)
scoped (Some e) n x s i =
    let both = and_parts _ _ s in
    let low : 0 < x = ltb-true _ _ both.0 in
    let high : x < 2 + e.formals = ltb-true _ _ both.1 in
    (behind x low, omega (arith, high, i))

-- what is numbered: how many variables there are at most, where they begin, and each that is bound
pub record Numbered (c : Code) : Type 0 where
  pub most : c.variables ≤ max_body_variables
  pub first : first_bound c.entry ≤ c.variables
  pub each : EachHas (Within c.variables) (bound_in c.expression)

pub numbered_is : (c : Code) → numbered c ≡ true → Numbered c
numbered_is c h =
    let a = and_parts _ _ h in
    let b = and_parts _ _ a.1 in
    let d = and_parts _ _ b.1 in
    record {
      most = leb-true _ _ a.0;
      first = leb-true _ _ b.0;
      each = each_from (Within c.variables) _
          (λ x t. let both = and_parts _ _ t in (behind x (first_behind c.entry x (leb-true _ _ both.0)), ltb-true _ _ both.1))
          (bound_in c.expression) d.0;
    }

-- what holds of each variable within the number of them holds of all that a body uses
pub code_uses : (P : ℕ → Type 0) (c : Code) → ((x : ℕ) → Within c.variables x → P x) → in_scope c.expression (first_scope c.entry) ≡ true → Numbered c → Uses P c.expression
code_uses P c f h n =
    used P c.expression (first_scope c.entry) h (λ x s. f x (scoped c.entry c.variables x s n.first)) (each_more (Within c.variables) P f (bound_in c.expression) n.each)
