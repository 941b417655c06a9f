use Rattle.std.proofs.Common.{◌∙◌, false, sym, subst, arith}
use Rattle.std.specs.Prelude.{IsTrue}
use Rattle.sch_lang.specs.ProgramView.{source}
use Rattle.sch_lang.proofs.Scopes.{program_is_closed}
use Rattle.sch_cells.specs.Valid.{scoped, formed, constants_in_range, within_limits, sited, statics_known}
use Rattle.sch_rename.proofs.BoundVariables.{program_binds}
use Rattle.sch_rename.proofs.Loops.{made_program}
use Rattle.sch_rename.proofs.ValidKept.{scoped_kept, formed_kept, words_kept, limited_kept, sited_kept, ready_kept}
use Rattle.sch_rename.proofs.rename_program.Goals as goal

pub rename_lambdas-requires-clause-inside : goal.rename_lambdas-requires-clause-inside
rename_lambdas-requires-clause-inside c = rw c.new-scope.ensures.items (program_is_closed (source c.args.p.now) c.args.p.now.numbered).library

pub rename_lambdas-requires-clause-few : goal.rename_lambdas-requires-clause-few
rename_lambdas-requires-clause-few c = omega (arith, program_binds (source c.args.p.now), c.requires.few)

pub rename_each-requires-clause-inside : goal.rename_each-requires-clause-inside
rename_each-requires-clause-inside c = rw (c.in_ok-library.ensures.scope, c.new-scope.ensures.items) (program_is_closed (source c.args.p.now) c.args.p.now.numbered).forms

pub rename_each-requires-clause-few : goal.rename_each-requires-clause-few
rename_each-requires-clause-few c = omega (arith, program_binds (source c.args.p.now), c.requires.few, c.in_ok-library.ensures.next)

pub invariant_of-result : goal.invariant_of-result
invariant_of-result c =
    let p = source c.args.p.now in
    let v = c.args.p.now in
    let closed = program_is_closed p v.numbered in
    let made = made_program p _ _ _ _ _ _ _ _ c.new-scope.ensures.items c.in_ok-library.ensures.made c.in_ok-library.ensures.next c.in_ok-library.ensures.scope
    c.in_ok-forms.ensures.made c.in_ok-forms.ensures.next c.in_ok-statics.ensures (c.in_ok-sites.ensures ∙ c.as_slice.ensures) in
    record {
      scoped = subst (λ q. IsTrue (scoped q)) (sym made) (scoped_kept p closed);
      formed = subst (λ q. IsTrue (formed false q)) (sym made) (formed_kept p closed v.numbered v.formed);
      words = subst (λ q. IsTrue (constants_in_range q)) (sym made) (words_kept p closed v.words);
      limited = subst (λ q. IsTrue (within_limits false q)) (sym made) (limited_kept p closed v.limited);
      sited = subst (λ q. IsTrue (sited q)) (sym made) (sited_kept p closed v.sited);
      ready = subst (λ q. IsTrue (statics_known q)) (sym made) (ready_kept p v.ready);
    }

pub returns : goal.returns
returns c =
    let p = source c.args.p.now in
    made_program p _ _ _ _ _ _ _ _ c.new-scope.ensures.items c.in_ok-library.ensures.made c.in_ok-library.ensures.next c.in_ok-library.ensures.scope
    c.in_ok-forms.ensures.made c.in_ok-forms.ensures.next c.in_ok-statics.ensures (c.in_ok-sites.ensures ∙ c.as_slice.ensures)
