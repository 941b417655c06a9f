use Rattle.std.proofs.Common.{◌≡◌, ◌∙◌, [], IsTrue, ap, sym, subst, arith}
use Rattle.sch_word.specs.trees.Bindings.{numbers, with_variables}
use Rattle.sch_flat.specs.View.{body}
use Rattle.sch_control.specs.Valid.{in_scope_whole, numbered, ended, shaped_whole, fields_known}
use Rattle.sch_control.specs.View.{expression}
use Rattle.sch_anf_laws.specs.Normal.{procedure_code}
use Rattle.sch_anf.specs.ScopeTable.{scope_of}
use Rattle.sch_anf.proofs.CodeLists.{promises, procedure_is}
use Rattle.sch_anf.proofs.body.normalize_procedure.Goals as goal

pub invariant_of-result : goal.invariant_of-result
invariant_of-result c =
    let b = c.args.b.now in
    let starts = c.args.starts.now in
    let g = c.in_ok-bind_group.ensures in
    let scope : scope_of c.bind_group.new.self.bound.items ≡ with_variables b.first (numbers 2 b.formals) [] =
    g.scope ∙ ap (λ n. with_variables b.first (numbers n b.formals) (scope_of c.begin.new.self.bound.items)) c.begin.ensures.next
    ∙ ap (λ bs. with_variables b.first (numbers 2 b.formals) (scope_of bs)) (c.begin.ensures.bound ∙ c.requires.none) in
    let whole =
    procedure_is starts (body b) c.in_ok-name.name c.bind_group.new.self.next c.release.new.self.next (scope_of c.bind_group.new.self.bound.items) _ (c.in_ok-name.ensures ∙ c.as_slice.ensures) scope
    (omega (arith, g.next, c.begin.ensures.next)) (c.release.ensures.next ∙ c.in_ok-exp.ensures.next) (ap expression c.into_inner.ensures ∙ c.in_ok-exp.ensures.made) in
    let p = promises (procedure_code starts (body b)) c.requires.valid in
    record {
      scoped = subst (λ q. IsTrue (in_scope_whole q)) (sym whole) p.scoped;
      numbered = subst (λ q. IsTrue (numbered q)) (sym whole) p.numbered;
      ended = subst (λ q. IsTrue (ended q)) (sym whole) p.ended;
      shaped = subst (λ q. IsTrue (shaped_whole q)) (sym whole) p.shaped;
      fields = subst (λ q. IsTrue (fields_known q)) (sym whole) p.fields;
    }

pub returns-clause-made : goal.returns-clause-made
returns-clause-made c =
    let b = c.args.b.now in
    let starts = c.args.starts.now in
    let g = c.in_ok-bind_group.ensures in
    let scope : scope_of c.bind_group.new.self.bound.items ≡ with_variables b.first (numbers 2 b.formals) [] =
    g.scope ∙ ap (λ n. with_variables b.first (numbers n b.formals) (scope_of c.begin.new.self.bound.items)) c.begin.ensures.next
    ∙ ap (λ bs. with_variables b.first (numbers 2 b.formals) (scope_of bs)) (c.begin.ensures.bound ∙ c.requires.none) in
    procedure_is starts (body b) c.in_ok-name.name c.bind_group.new.self.next c.release.new.self.next (scope_of c.bind_group.new.self.bound.items) _ (c.in_ok-name.ensures ∙ c.as_slice.ensures) scope
    (omega (arith, g.next, c.begin.ensures.next)) (c.release.ensures.next ∙ c.in_ok-exp.ensures.next) (ap expression c.into_inner.ensures ∙ c.in_ok-exp.ensures.made)
