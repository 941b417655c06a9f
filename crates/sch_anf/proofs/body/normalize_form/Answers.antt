use Rattle.std.proofs.Common.{◌∙◌, IsTrue, ap, sym, subst}
use Rattle.sch_flat.specs.View.{tree}
use Rattle.sch_control.specs.Valid.{in_scope_whole, numbered, ended, shaped_whole, fields_known}
use Rattle.sch_control.specs.View.{expression}
use Rattle.sch_anf_laws.specs.Normal.{form_code}
use Rattle.sch_anf.specs.ScopeTable.{scope_of}
use Rattle.sch_anf.proofs.CodeLists.{promises, form_is}
use Rattle.sch_anf.proofs.body.normalize_form.Goals as goal

pub invariant_of-result : goal.invariant_of-result
invariant_of-result c =
    let starts = c.args.starts.now in
    let e = tree c.args.e.now in
    let whole =
    form_is starts e c.in_ok-name.name c.begin.new.self.next c.normalize_expression.new.v.next (scope_of c.begin.new.self.bound.items) (expression c.in_ok-exp.exp.value) c.in_ok-name.ensures
    (ap scope_of (c.begin.ensures.bound ∙ c.requires.none))
    c.begin.ensures.next c.in_ok-exp.ensures.next c.in_ok-exp.ensures.made in
    let p = promises (form_code starts e) c.requires.valid in
    record {
      scoped = subst (λ q. IsTrue (in_scope_whole q)) (sym whole) p.scoped;
      numbered = subst (λ q. IsTrue (numbered q)) (sym whole) p.numbered;
      ended = subst (λ q. IsTrue (ended q)) (sym whole) p.ended;
      shaped = subst (λ q. IsTrue (shaped_whole q)) (sym whole) p.shaped;
      fields = subst (λ q. IsTrue (fields_known q)) (sym whole) p.fields;
    }

pub returns-clause-made : goal.returns-clause-made
returns-clause-made c =
    let starts = c.args.starts.now in
    let e = tree c.args.e.now in
    form_is starts e c.in_ok-name.name c.begin.new.self.next c.normalize_expression.new.v.next (scope_of c.begin.new.self.bound.items) (expression c.in_ok-exp.exp.value) c.in_ok-name.ensures
    (ap scope_of (c.begin.ensures.bound ∙ c.requires.none))
    c.begin.ensures.next c.in_ok-exp.ensures.next c.in_ok-exp.ensures.made
