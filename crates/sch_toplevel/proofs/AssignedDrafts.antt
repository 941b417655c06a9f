-- What each kind of draft assigns.
use Rattle.std.proofs.Common.{◌≡◌, ℕ, Bool, List, ap, ◌∙◌}
use Rattle.sch_names.specs.NamesView.{with_name}
use Rattle.sch_names.specs.Scope.{VariableNames}
use Rattle.sch_sketch.specs.Draft.{Draft, Drafts, set_global, branch, bind, letrec, call}
use Rattle.sch_link_tables.specs.Named.{firsts}
use Rattle.sch_link_tables.proofs.NameSteps.{then_named, three_named}
use Rattle.sch_toplevel.specs.Assigned.{assigned_in, assigned_in_each}

module _ (n0 : List (List ℕ)) {d : Draft} {n1 n2 : List (List ℕ)} where
  pub set_assigned : {x : List ℕ} {e : Draft} → d ≡ set_global x e → n1 ≡ with_name x n0 → n2 ≡ firsts n1 (assigned_in e) → n2 ≡ firsts n0 (assigned_in d)
  set_assigned {x} {e} h p q = rw h (q ∙ ap (λ n. firsts n (assigned_in e)) p)

  pub bind_assigned : {vs : VariableNames} {es : Drafts} {e : Draft} → d ≡ bind vs es e → n1 ≡ firsts n0 (assigned_in_each es) → n2 ≡ firsts n1 (assigned_in e) → n2 ≡ firsts n0 (assigned_in d)
  bind_assigned {es = es} {e} h p q = rw h (then_named (assigned_in_each es) (assigned_in e) n0 p q)

  pub letrec_assigned : {vs : VariableNames} {g : Bool} {es : Drafts} {e : Draft} → d ≡ letrec vs g es e → n1 ≡ firsts n0 (assigned_in_each es) → n2 ≡ firsts n1 (assigned_in e) → n2 ≡ firsts n0 (assigned_in d)
  letrec_assigned {es = es} {e} h p q = rw h (then_named (assigned_in_each es) (assigned_in e) n0 p q)

  pub call_assigned : {vs : VariableNames} {f : Draft} {es : Drafts} → d ≡ call vs f es → n1 ≡ firsts n0 (assigned_in f) → n2 ≡ firsts n1 (assigned_in_each es) → n2 ≡ firsts n0 (assigned_in d)
  call_assigned {f = f} {es} h p q = rw h (then_named (assigned_in f) (assigned_in_each es) n0 p q)

  pub branch_assigned : {a b c : Draft} {n3 : List (List ℕ)} → d ≡ branch a b c → n1 ≡ firsts n0 (assigned_in a) → n2 ≡ firsts n1 (assigned_in b) → n3 ≡ firsts n2 (assigned_in c) →
      n3 ≡ firsts n0 (assigned_in d)
  branch_assigned {a} {b} {c} h p q r = rw h (three_named (assigned_in a) (assigned_in b) (assigned_in c) n0 p q r)
