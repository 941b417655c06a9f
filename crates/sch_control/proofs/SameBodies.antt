-- What is valid of a body is valid of it with a tree that is its own, where this is known as a fact alone.
use Rattle.std.proofs.Common.{◌≡◌, Bool, true, sym, subst}
use Rattle.std.proofs.Math.Bool.{Bool-set}
use Rattle.std.proofs.Math.Logic.{∥∥₁_elim}
use Rattle.sch_control.specs.declared.body.Body.{Body}
use Rattle.sch_control.specs.SourceView.{code_of}
use Rattle.sch_control.specs.Tree.{Code, Expression}
use Rattle.sch_control.specs.Valid.{ended, fields_known, in_scope_whole, numbered, shaped_whole}
use Rattle.sch_control.specs.View.{expression}
use Rattle.sch_control.specs.flow.Middle.{code_with}

module _ (b : Body) (e : Expression) (is : ∥ e ≡ expression b.exp ∥₁) where
  abbrev pub with_tree : Code
  with_tree = code_with b.name b.entry b.variables e

  tested : (test : Code → Bool) → test (code_of b) ≡ true → test with_tree ≡ true
  tested test h = ∥∥₁_elim is (Bool-set _ _) (λ same. subst (λ z. test (code_with b.name b.entry b.variables z) ≡ true) (sym same) h)

  pub scoped : in_scope_whole with_tree ≡ true
  scoped = tested in_scope_whole b.scoped

  pub numbers : numbered with_tree ≡ true
  numbers = tested numbered b.numbered

  pub ending : ended with_tree ≡ true
  ending = tested ended b.ended

  pub shapes : shaped_whole with_tree ≡ true
  shapes = tested shaped_whole b.shaped

  pub fields_there : fields_known with_tree ≡ true
  fields_there = tested fields_known b.fields
