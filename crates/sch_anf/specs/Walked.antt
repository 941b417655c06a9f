-- What the walk over a tree has made, and how the variables and the steps stand before and after it.
use Rattle.std.specs.Prelude.{◌≡◌, ℕ, suc, ◌+◌, Bool, cond, List}
use Rattle.sch_flat.specs.Tree.{Tree, Trees}
use Rattle.sch_control.specs.declared.operation.Operand.{Operand}
use Rattle.sch_control.specs.Tree.{Expression}
use Rattle.sch_anf_laws.specs.Normal.{binds, binds_parts, ends_in_call, init_numbers, inits_bind, normal, normal_parts, operand_at, operand_binds, operands_at, operands_bind, with_inits, with_operands}
use Rattle.sch_anf.specs.declared.steps.Step.{Step}
use Rattle.sch_anf.specs.declared.variables.Variables.{Variables}
use Rattle.sch_anf.specs.ScopeTable.{scope_of}
use Rattle.sch_anf.specs.Steps.{Adds}
use Rattle.sch_anf.specs.Round.{bound_before, dropped_before, part_before}

module _ (starts : List ℕ) where
  abbrev pub Normalizes : (tail : Bool) → Tree → (v v' : Variables) → Expression → Type 0
  Normalizes tail e v v' q = record {
    made : q ≡ normal starts tail e (scope_of v.bound.items) v.next;
    next : v'.next ≡ v.next + binds e;
    scope : v'.bound.items ≡ v.bound.items;
  }

  -- the parts of a sequence
  abbrev pub NormalizesSequence : (tail : Bool) → Trees → (v v' : Variables) → Expression → Type 0
  NormalizesSequence tail es v v' q = record {
    made : q ≡ normal_parts starts tail es (scope_of v.bound.items) v.next;
    next : v'.next ≡ v.next + binds_parts es;
    scope : v'.bound.items ≡ v.bound.items;
  }

  -- a part that is bound in any case, to this variable
  abbrev pub BindsPart : Tree → (v v' : Variables) → (steps steps' : List Step) → (x : ℕ) → Type 0
  BindsPart e v v' steps steps' x = record {
    number : x ≡ v.next;
    steps : Adds steps steps' (bound_before starts e (scope_of v.bound.items) v.next);
    next : v'.next ≡ v.next + suc (binds e);
    scope : v'.bound.items ≡ v.bound.items;
  }

  -- the operand for a part
  abbrev pub NormalizesOperand : Tree → (v v' : Variables) → (steps steps' : List Step) → Operand ℕ → Type 0
  NormalizesOperand e v v' steps steps' o = record {
    operand : o ≡ operand_at (scope_of v.bound.items) e v.next;
    steps : Adds steps steps' (part_before starts e (scope_of v.bound.items) v.next);
    next : v'.next ≡ v.next + operand_binds e;
    scope : v'.bound.items ≡ v.bound.items;
  }

  abbrev pub NormalizesEachOperand : Trees → (v v' : Variables) → (steps steps' : List Step) → List (Operand ℕ) → Type 0
  NormalizesEachOperand es v v' steps steps' all = record {
    operands : all ≡ operands_at (scope_of v.bound.items) es v.next;
    steps : Adds steps steps' (with_operands starts es (scope_of v.bound.items) v.next);
    next : v'.next ≡ v.next + operands_bind es;
    scope : v'.bound.items ≡ v.bound.items;
  }

  abbrev pub NormalizesInits : Trees → (v v' : Variables) → (steps steps' : List Step) → List ℕ → Type 0
  NormalizesInits es v v' steps steps' all = record {
    numbers : all ≡ init_numbers es v.next;
    steps : Adds steps steps' (with_inits starts es (scope_of v.bound.items) v.next);
    next : v'.next ≡ v.next + inits_bind es;
    scope : v'.bound.items ≡ v.bound.items;
  }

  -- a part of a sequence before the last
  abbrev pub DropsPart : Tree → (v v' : Variables) → (steps steps' : List Step) → Type 0
  DropsPart e v v' steps steps' = record {
    steps : Adds steps steps' (dropped_before starts e (scope_of v.bound.items) v.next);
    next : v'.next ≡ v.next + cond (ends_in_call e) (suc (binds e)) (binds e);
    scope : v'.bound.items ≡ v.bound.items;
  }
