-- Which variables a draft assigns, and which `letrec`s are groups of procedures.
use Rattle.std.specs.Prelude.{ℕ, zero, suc, ◌+◌, Bool, true, false, ◌&&◌, ◌||◌, not, nat_eq, List, [], ◌∷◌}
use Rattle.sch_sketch.specs.Draft.{Draft, Drafts, constant, symbol, literal, local, global, set_local, set_global, define, branch, sequence, bind, letrec, lambda, call, operation, no_drafts, and_draft, count}

-- whether the variable with j bound nearer is assigned anywhere
abbrev mutual
  pub assigns : Draft → ℕ → Bool
  assigns (constant c) j = false
  assigns (symbol x) j = false
  assigns (literal d) j = false
  assigns (local k) j = false
  assigns (global x) j = false
  assigns (set_local k e) j = nat_eq k j || assigns e j
  assigns (set_global x e) j = assigns e j
  assigns (define x e) j = assigns e j
  assigns (branch a b c) j = assigns a j || (assigns b j || assigns c j)
  assigns (sequence es) j = assigns_each es j
  assigns (bind vs es e) j = assigns_each es j || assigns e (j + count es)
  assigns (letrec vs p es e) j = assigns_each es (j + count es) || assigns e (j + count es)
  assigns (lambda n r e) j = assigns e (j + n)
  assigns (call vs f es) j = assigns f j || assigns_each es j
  assigns (operation p es) j = assigns_each es j

  pub assigns_each : Drafts → ℕ → Bool
  assigns_each no_drafts j = false
  assigns_each (and_draft e es) j = assigns e j || assigns_each es j

-- none of the n nearest variables is assigned
abbrev pub none_assigned : ℕ → Drafts → Draft → Bool
none_assigned zero es e = true
none_assigned (suc n) es e = not (assigns_each es n || assigns e n) && none_assigned n es e

-- a `letrec` is a group of procedures where each init is one by its form and no variable is assigned
abbrev pub is_group : (procedures : Bool) → Drafts → Draft → Bool
is_group procedures es e = procedures && none_assigned (count es) es e

-- no mark is set
abbrev pub none_marked : List Bool → Bool
none_marked [] = true
none_marked (b ∷ bs) = not b && none_marked bs
