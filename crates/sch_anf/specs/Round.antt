-- What the parts of a node put round what follows.
use Rattle.std.specs.Prelude.{ℕ, suc, false, cond, List}
use Rattle.sch_flat.specs.Tree.{Tree}
use Rattle.sch_control.specs.Tree as to
use Rattle.sch_control.specs.Tree.{Expression}
use Rattle.sch_anf_laws.specs.Normal.{Scope, is_simple, ends_in_call, bound_unless, unless_atom, normal}

module _ (starts : List ℕ) where
  -- a part that is bound in any case
  abbrev pub bound_before : Tree → Scope → (n : ℕ) → Expression → Expression
  bound_before e scope n body = to.bind n (normal starts false e scope (suc n)) body

  -- a part that is bound where it is not simple
  abbrev pub part_before : Tree → Scope → (n : ℕ) → Expression → Expression
  part_before e scope n body = bound_unless (is_simple e) n (normal starts false e scope (suc n)) body

  -- a part of a sequence before the last
  abbrev pub dropped_before : Tree → Scope → (n : ℕ) → Expression → Expression
  dropped_before e scope n body =
      cond (ends_in_call e) (to.bind n (normal starts false e scope (suc n)) body) (unless_atom (normal starts false e scope n) body)
