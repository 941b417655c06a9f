use Rattle.std.proofs.Common.{◌≡◌, ◌∙◌, [], ap, refl, subst, arith}
use Rattle.std.specs.Prelude.{IfOk}
use Rattle.sch_names.specs.NamesView.{names_of}
use Rattle.sch_sketch.specs.DraftView.{drafts_of}
use Rattle.sch_link_program.specs.Definitions.{definitions_of, kept_definitions}
use Rattle.sch_link_program.specs.PartsView.{parts_of}
use Rattle.sch_link_program.proofs.FewDefinitions.{kept_few, kept_have_few, kept_bodies, kept_small, kept_few_symbols}
use Rattle.sch_link_program.proofs.ProgramMade.{whole_program}
use Rattle.sch_link_program.proofs.program.program_of_needed.Goals as goal

pub program_with-requires : goal.program_with-requires
program_with-requires c =
    let forms = drafts_of c.args.forms.now in
    let ds = c.args.definitions.now in
    let kept = ap kept_definitions c.as_slice.ensures ∙ c.in_ok-kept.ensures in
    record {
      formals = kept_have_few c.as_slice.result.now ds _ kept c.requires.formals;
      few = omega (arith, kept_few c.as_slice.result.now ds _ kept, c.requires.few);
      small = kept_small c.as_slice.result.now ds _ kept forms c.requires.small;
      few_symbols = kept_few_symbols c.as_slice.result.now ds _ kept forms c.requires.few_symbols;
      bodies = kept_bodies c.as_slice.result.now ds _ kept c.requires.bodies;
      variables = c.requires.variables;
      globals = c.requires.listed.0 ∙ c.requires.globals;
      symbols = c.requires.listed.1 ∙ c.requires.symbols;
    }

pub returns-clause-made : goal.returns-clause-made
returns-clause-made c =
    let own = names_of c.args.own.now in
    let held = names_of c.in_ok-held.held in
    let named = names_of c.args.named.now.globals.names in
    subst (λ q. IfOk c.program_with.result (λ p. parts_of p ≡ q))
    (whole_program (definitions_of c.args.definitions.now) (kept_definitions c.as_slice.result.now) own held named [] (drafts_of c.args.forms.now) refl c.requires.globals c.in_ok-held.ensures
    (ap kept_definitions c.as_slice.ensures ∙ c.in_ok-kept.ensures))
    c.program_with.ensures.made
