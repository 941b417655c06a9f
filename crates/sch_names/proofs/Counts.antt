-- With how many operands a name is an operation.
use Rattle.std.proofs.Common.{◌≡◌, ◌<◌, ℕ, zero, suc, Bool, true, false, cond, List, [], ◌∷◌, Option, Some, None, if◌then◌else◌, codes, refl, subst, arith}
use Rattle.std.specs.Prelude.{◌&&◌, ◌||◌, not, nat_eq}
use Rattle.std.specs.List.{list_all}
use Rattle.std.specs.Str.{bytes_eq}
use Rattle.std.proofs.lemmas.Bool.{and_parts, eqb-true}
use Rattle.sch_word.specs.declared.primitive.Primitive.{Primitive}
use Rattle.sch_word.specs.values.Primitives.{name_of, operands_of}
use Rattle.sch_names.specs.declared.keyword.Keyword.{Keyword}
use Rattle.sch_names.specs.declared.operation.Arity.{Arity}
use Rattle.sch_names.specs.declared.operation.Arity.TheVariants.{Fixed, AnyNumber, OneOrMore, TwoOrMore, FillOptional}
use Rattle.sch_names.specs.declared.operation.Operation.{Operation}
use Rattle.sch_names.specs.declared.operation.Operation.TheVariants.{Exact, Unit, UnitAnd, Nested, Chained, Filled, Not}
use Rattle.sch_names.specs.Operations.{exactly, arithmetic, comparison, filling, admitted, by_row, primitive_among, other_operation, operation_of, NamedPrimitive, row, rows}
use Rattle.sch_names.specs.Scope.{Scope, Globals, find, is_among, operating, head, head_of}
use Rattle.sch_names.specs.Words.{keyword_of}

abbrev pub Admits : Operation → ℕ → Type 0
Admits (Exact p) n = n ≡ operands_of p
Admits (Unit p) n = n ≡ 0
Admits (UnitAnd p) n = (n ≡ 1) × (operands_of p ≡ 2)
Admits (Nested p) n = (2 < n) × (operands_of p ≡ 2)
Admits (Chained p) n = (2 < n) × (operands_of p ≡ 2)
Admits (Filled p) n = (n ≡ 1) × (operands_of p ≡ 2)
Admits Not n = n ≡ 1

abbrev AdmitsIfAny : Option Operation → ℕ → Type 0
AdmitsIfAny None n = n ≡ n
AdmitsIfAny (Some o) n = Admits o n

exactly_admits : (p : Primitive) (n : ℕ) → AdmitsIfAny (exactly p n) n
exactly_admits p n = go (nat_eq n (operands_of p)) refl
  where
    go : (b : Bool) → nat_eq n (operands_of p) ≡ b → AdmitsIfAny (cond b (Some (Exact p)) None) n
    go true e = eqb-true n (operands_of p) e
    go false e = refl

arithmetic_admits : (p : Primitive) (n : ℕ) → operands_of p ≡ 2 → AdmitsIfAny (arithmetic p n) n
arithmetic_admits p zero e = refl
arithmetic_admits p (suc zero) e = (refl, e)
arithmetic_admits p (suc (suc zero)) e = rw e refl
arithmetic_admits p (suc (suc (suc n))) e = (omega arith, e)

comparison_admits : (p : Primitive) (n : ℕ) → operands_of p ≡ 2 → AdmitsIfAny (comparison p n) n
comparison_admits p zero e = refl
comparison_admits p (suc zero) e = refl
comparison_admits p (suc (suc zero)) e = rw e refl
comparison_admits p (suc (suc (suc n))) e = (omega arith, e)

either : (n : ℕ) (b : Bool) (o p : Option Operation) → AdmitsIfAny o n → AdmitsIfAny p n → AdmitsIfAny (if b then o else p) n
either n true o p h k = h
either n false o p h k = k

only_one : (n : ℕ) (b : Bool) → nat_eq n 1 ≡ b → AdmitsIfAny (cond b (Some Not) None) n
only_one n true e = eqb-true n 1 e
only_one n false e = refl

not_none : (n : ℕ) (b : Bool) (o : Option Operation) → AdmitsIfAny o n → AdmitsIfAny (cond b None o) n
not_none n true o h = refl
not_none n false o h = h

filling_admits : (p : Primitive) (n : ℕ) → operands_of p ≡ 2 → AdmitsIfAny (filling p n) n
filling_admits p zero e = exactly_admits p zero
filling_admits p (suc zero) e = (refl, e)
filling_admits p (suc (suc n)) e = exactly_admits p (suc (suc n))

-- where operands may be more or less than the primitive takes, it takes two
abbrev takes_two : NamedPrimitive → Bool
takes_two r = by r.arity
  where
    by : Arity → Bool
    by Fixed = true
    by _ = nat_eq (operands_of r.primitive) 2

rows_take_two : list_all takes_two rows ≡ true
rows_take_two = refl

found_takes_two : (internal : Bool) (x : List ℕ) (rs : List NamedPrimitive) (r : Primitive × Arity) → list_all takes_two rs ≡ true → primitive_among internal x rs ≡ Some r → takes_two (row r.1 r.0) ≡ true
found_takes_two internal x [] r h e = absurd cc
found_takes_two internal x (s ∷ rs) r h e =
    let p = and_parts (takes_two s) (list_all takes_two rs) h in
    by (bytes_eq x (name_of s.primitive) && (internal || not s.internal)) p.0 (found_takes_two internal x rs r p.1) e
  where
    by : (b : Bool) → takes_two s ≡ true → (primitive_among internal x rs ≡ Some r → takes_two (row r.1 r.0) ≡ true) → cond b (Some (s.primitive, s.arity)) (primitive_among internal x rs) ≡ Some r
        → takes_two (row r.1 r.0) ≡ true
    by true p later e = let same : (s.primitive, s.arity) ≡ r = cc in subst (λ r. takes_two (row r.1 r.0) ≡ true) same p
    by false p later e = later e

arity_admits : (a : Arity) (p : Primitive) (n : ℕ) → takes_two (row a p) ≡ true → AdmitsIfAny (admitted a p n) n
arity_admits Fixed p n e = exactly_admits p n
arity_admits AnyNumber p n e = arithmetic_admits p n (eqb-true (operands_of p) 2 e)
arity_admits OneOrMore p n e = not_none n (nat_eq n 0) _ (arithmetic_admits p n (eqb-true (operands_of p) 2 e))
arity_admits TwoOrMore p n e = comparison_admits p n (eqb-true (operands_of p) 2 e)
arity_admits FillOptional p n e = filling_admits p n (eqb-true (operands_of p) 2 e)

other_admits : (x : List ℕ) (n : ℕ) → AdmitsIfAny (other_operation x n) n
other_admits x n =
    either n (bytes_eq x (codes "not")) _ _ (only_one n (nat_eq n 1) refl) refl

row_admits : (o : Option (Primitive × Arity)) (x : List ℕ) (n : ℕ) → ((r : Primitive × Arity) → o ≡ Some r → takes_two (row r.1 r.0) ≡ true) → AdmitsIfAny (by_row o x n) n
row_admits (Some r) x n h = arity_admits r.1 r.0 n (h r refl)
row_admits None x n h = other_admits x n

name_admits : (internal : Bool) (x : List ℕ) (n : ℕ) → AdmitsIfAny (operation_of internal x n) n
unfolding operation_of
name_admits internal x n = row_admits (primitive_among internal x rows) x n (λ r e. found_takes_two internal x rows r rows_take_two e)

of_head : (v : Option ℕ) (g : Bool) (w : Option Keyword) (o : Option Operation) (p : Operation) → head v g w o ≡ operating p → o ≡ Some p
of_head (Some k) g w o p e = cc
of_head None g (Some k) o p e = cc
of_head None true None o p e = cc
of_head None false None None p e = cc
of_head None false None (Some o) p e = cc

pub operation_admits : (globals : Globals) (s : Scope) (x : List ℕ) (n : ℕ) (o : Operation) → head_of globals s x n ≡ operating o → Admits o n
operation_admits globals s x n o e =
    let f : operation_of globals.internal x n ≡ Some o = of_head (find s x) (is_among x globals.own) (keyword_of x) (operation_of globals.internal x n) o e in
    subst (λ p. AdmitsIfAny p n) f (name_admits globals.internal x n)
