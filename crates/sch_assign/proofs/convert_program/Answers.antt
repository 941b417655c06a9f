use Rattle.std.proofs.Common.{true, refl, sym, subst, ◌∙◌}
use Rattle.std.proofs.lemmas.Result.{IfOk-from_err}
use Rattle.std.specs.Prelude.{IsTrue}
use Rattle.sch_cells.specs.ProgramView.{source}
use Rattle.sch_cells.specs.Valid.{scoped, formed, constants_in_range, within_limits, sited, statics_known}
use Rattle.sch_assign.specs.Table.{table}
use Rattle.sch_assign.proofs.ConversionIsRight.{program_right}
use Rattle.sch_assign.proofs.Laws.{in_range, made_program}
use Rattle.sch_assign.proofs.kept.ValidKept.{scoped_kept, formed_kept, words_kept, limited_kept, sited_kept, ready_kept}
use Rattle.sch_assign.proofs.convert_program.Goals as goal

pub convert_lambdas-requires-clause-within : goal.convert_lambdas-requires-clause-within
convert_lambdas-requires-clause-within c = let v = c.args.p.now in (in_range (source v) v.variables refl v.scoped v.formed).library

pub convert_each-requires-clause-within : goal.convert_each-requires-clause-within
convert_each-requires-clause-within c = let v = c.args.p.now in (in_range (source v) v.variables refl v.scoped v.formed).forms

pub invariant_of-result : goal.invariant_of-result
invariant_of-result c =
    let v = c.args.p.now in
    let p = source v in
    let has_cell = table c.args.celled.now in
    let n = v.variables in
    let r = program_right has_cell p c.requires.celled v.scoped v.formed in
    let made = made_program has_cell p c.in_ok-statics.statics c.in_ok-library.library c.in_ok-forms.forms c.in_ok-sites.sites _ refl c.in_ok-library.ensures c.in_ok-forms.ensures c.in_ok-statics.ensures (c.in_ok-sites.ensures ∙ c.as_slice.ensures) in
    record {
      scoped = subst (λ q. IsTrue (scoped q)) (sym made) (scoped_kept has_cell n p r refl v.scoped);
      formed = subst (λ q. IsTrue (formed true q)) (sym made) (formed_kept has_cell n p r v.formed);
      words = subst (λ q. IsTrue (constants_in_range q)) (sym made) (words_kept has_cell n p r v.words);
      limited = subst (λ q. IsTrue (within_limits true q)) (sym made) (limited_kept has_cell n p r v.limited);
      sited = subst (λ q. IsTrue (sited q)) (sym made) (sited_kept has_cell n p r v.sited);
      ready = subst (λ q. IsTrue (statics_known q)) (sym made) (ready_kept has_cell n p r v.ready);
    }

pub returns : goal.returns
returns c =
    let v = c.args.p.now in
    made_program (table c.args.celled.now) (source v) c.in_ok-statics.statics c.in_ok-library.library c.in_ok-forms.forms c.in_ok-sites.sites _ refl c.in_ok-library.ensures c.in_ok-forms.ensures c.in_ok-statics.ensures (c.in_ok-sites.ensures ∙ c.as_slice.ensures)

-- ## What errors leave

pub returns-in_err-library : goal.returns-in_err-library
returns-in_err-library c = IfOk-from_err c.from_residual.result _ c.from_residual.ensures.0

pub returns-in_err-forms : goal.returns-in_err-forms
returns-in_err-forms c = IfOk-from_err c.from_residual-in_err-forms.result _ c.from_residual-in_err-forms.ensures.0

pub returns-in_err-statics : goal.returns-in_err-statics
returns-in_err-statics c = IfOk-from_err c.from_residual-in_err-statics.result _ c.from_residual-in_err-statics.ensures.0

pub returns-in_err-sites : goal.returns-in_err-sites
returns-in_err-sites c = IfOk-from_err c.from_residual-in_err-sites.result _ c.from_residual-in_err-sites.ensures.0
