use Rattle.std.proofs.Common.{◌≡◌, ◌≤◌, Some, None, true, length, ap, sym, subst, ◌∙◌, arith, length-append, ◌*◌}
use Rattle.std.proofs.Math.Logic.{∥∥₁_elim}
use Rattle.std.proofs.Props.{props}
use Rattle.std.proofs.lemmas.List.{length-map}
use Rattle.sch_read.specs.Valid.{max_weight}
use Rattle.sch_core.proofs.drafts.NearVariables.{near_bodies}
use Rattle.sch_core.proofs.items.SoundItems.{few_formals}
use Rattle.sch_lang.specs.ProgramView.{source}
use Rattle.sch_lang.specs.Valid.{is_valid, trees_in_range}
use Rattle.sch_lang.specs.View.{expressions_of}
use Rattle.sch_read.specs.Views.{data_of}
use Rattle.sch_names.specs.NamesView.{names_of}
use Rattle.sch_sketch.specs.DraftMeasures.{size_each}
use Rattle.sch_sketch.specs.DraftView.{drafts_of}
use Rattle.sch_link_tables.specs.Named.{symbols_in_each}
use Rattle.sch_link_tables.specs.Programs.{seen, symbols_of_each, program_of, procedures_of_each}
use Rattle.sch_link_tables.specs.Room.{have_near_variables}
use Rattle.sch_link_program.specs.Definitions.{definition_of, definitions_of}
use Rattle.sch_link_program.specs.Size.{size_of_definitions, have_few_formals, have_near_bodies}
use Rattle.sch_link_program.specs.PartsView.{parts_of}
use Rattle.sch_toplevel.specs.Views.{given}
use Rattle.sch_core.specs.Excess.{first_excess}
use Rattle.sch_toplevel.specs.Forms.{form_places}
use Rattle.sch_core.proofs.texts.ProgramOfText.{faulty, exceeding, few_nodes, few_symbols, found, valid_once, small, places_are, near}
use Rattle.sch_core.proofs.sizes.StaticsOfPrograms.{symbols_counted}
use Rattle.sch_core.specs.SizesOfStatics.{statics_in_each}
use Rattle.sch_core.proofs.DataLaws.{faulty_error, excessive_error, first_counted, never_both, one_program}
use Rattle.sch_core.proofs.expander.core.Goals as goal

pub returns-in-Some-clause-fault : goal.returns-in-Some-clause-fault
returns-in-Some-clause-fault c =
    let ds = definitions_of c.args.library.now.definitions in
    let items = data_of c.args.items.now in
    let names = ap given c.as_slice.ensures ∙ (c.in_ok-seen.ensures ∙ ap (λ l. seen (definitions_of l)) c.as_slice-definitions.ensures) in
    let error = faulty_error ds items c.error_of.result c.in-Some.f c.error_of.ensures
    (faulty ds items _ _ _ _ names c.in_ok-own.ensures.read c.in-Some.f c.in-Some.is) in
    error

pub returns-in-Some-clause-only : goal.returns-in-Some-clause-only
returns-in-Some-clause-only c =
    let ds = definitions_of c.args.library.now.definitions in
    let items = data_of c.args.items.now in
    let names = ap given c.as_slice.ensures ∙ (c.in_ok-seen.ensures ∙ ap (λ l. seen (definitions_of l)) c.as_slice-definitions.ensures) in
    let error = faulty_error ds items c.error_of.result c.in-Some.f c.error_of.ensures
    (faulty ds items _ _ _ _ names c.in_ok-own.ensures.read c.in-Some.f c.in-Some.is) in
    λ p q. never_both ds items p c.error_of.result q error

pub returns-in-Some-2-clause-fault : goal.returns-in-Some-2-clause-fault
returns-in-Some-2-clause-fault c =
    let ds = definitions_of c.args.library.now.definitions in
    let items = data_of c.args.items.now in
    let own = names_of c.in_ok-own.field-0.own in
    let es = drafts_of c.in_ok-own.field-0.drafts in
    let names = ap given c.as_slice.ensures ∙ (c.in_ok-seen.ensures ∙ ap (λ l. seen (definitions_of l)) c.as_slice-definitions.ensures) in
    let places = c.as_slice-3.result.now in
    let forms = expressions_of c.as_slice-4.result.now in
    let at : places ≡ form_places items = c.as_slice-3.ensures ∙ c.in_ok-own.ensures.places in
    let made : parts_of c.in_ok-parts.parts ≡ program_of ds own es =
    c.in_ok-parts.ensures.made ∙ ap (λ x. program_of (definitions_of x) own (drafts_of c.as_slice-2.result.now)) c.as_slice-definitions.ensures
    ∙ ap (λ l. program_of ds own (drafts_of l)) c.as_slice-2.ensures in
    let n : forms ≡ (program_of ds own es).forms = ap expressions_of c.as_slice-4.ensures ∙ ap (λ p. p.forms) made in
    let none = c.in_default.is in
    let h : first_excess places forms ≡ Some (c.in-Some-2.kind, c.in-Some-2.at) = sym c.in_ok-kind.ensures ∙ c.in-Some-2.is in
    let error = excessive_error ds items c.in-Some-2.kind c.in-Some-2.at (first_counted places forms c.in-Some-2.kind c.in-Some-2.at h)
    (exceeding ds items _ _ _ es names c.in_ok-own.ensures.read none places own _ _ _ _ forms at n c.in-Some-2.kind c.in-Some-2.at h) in
    error

pub returns-in-Some-2-clause-only : goal.returns-in-Some-2-clause-only
returns-in-Some-2-clause-only c =
    let ds = definitions_of c.args.library.now.definitions in
    let items = data_of c.args.items.now in
    let own = names_of c.in_ok-own.field-0.own in
    let es = drafts_of c.in_ok-own.field-0.drafts in
    let names = ap given c.as_slice.ensures ∙ (c.in_ok-seen.ensures ∙ ap (λ l. seen (definitions_of l)) c.as_slice-definitions.ensures) in
    let places = c.as_slice-3.result.now in
    let forms = expressions_of c.as_slice-4.result.now in
    let at : places ≡ form_places items = c.as_slice-3.ensures ∙ c.in_ok-own.ensures.places in
    let made : parts_of c.in_ok-parts.parts ≡ program_of ds own es =
    c.in_ok-parts.ensures.made ∙ ap (λ x. program_of (definitions_of x) own (drafts_of c.as_slice-2.result.now)) c.as_slice-definitions.ensures
    ∙ ap (λ l. program_of ds own (drafts_of l)) c.as_slice-2.ensures in
    let n : forms ≡ (program_of ds own es).forms = ap expressions_of c.as_slice-4.ensures ∙ ap (λ p. p.forms) made in
    let none = c.in_default.is in
    let h : first_excess places forms ≡ Some (c.in-Some-2.kind, c.in-Some-2.at) = sym c.in_ok-kind.ensures ∙ c.in-Some-2.is in
    let error = excessive_error ds items c.in-Some-2.kind c.in-Some-2.at (first_counted places forms c.in-Some-2.kind c.in-Some-2.at h)
    (exceeding ds items _ _ _ es names c.in_ok-own.ensures.read none places own _ _ _ _ forms at n c.in-Some-2.kind c.in-Some-2.at h) in
    λ p q. never_both ds items p _ q error

pub assemble-requires : goal.assemble-requires
assemble-requires c =
    let ds = c.args.library.now.definitions in
    let same = c.as_slice-definitions.ensures in
    let formals : have_few_formals (definitions_of ds) ≡ true = ∥∥₁_elim c.args.library.now.sound (Prim.hlevel props) (λ s. few_formals (definitions_of ds) s.sound) in
    let few : length (definitions_of ds) ≤ max_weight = ∥∥₁_elim c.args.library.now.sound (Prim.hlevel props) (λ s. s.few_definitions) in
    let size : size_of_definitions (definitions_of ds) ≤ 16 * max_weight = ∥∥₁_elim c.args.library.now.sound (Prim.hlevel props) (λ s. s.few_nodes) in
    let bodies : have_near_bodies (definitions_of ds) ≡ true = ∥∥₁_elim c.args.library.now.sound (Prim.hlevel props) (λ s. near_bodies (definitions_of ds) s.sound (omega (arith, s.few_nodes))) in
    let symbols : statics_in_each (procedures_of_each (definitions_of ds)) ≤ 2 * max_weight = ∥∥₁_elim c.args.library.now.sound (Prim.hlevel props) (λ s. s.small) in
    let items = data_of c.args.items.now in
    let es = drafts_of c.in_ok-own.field-0.drafts in
    let names = ap given c.as_slice.ensures ∙ (c.in_ok-seen.ensures ∙ ap (λ l. seen (definitions_of l)) same) in
    let forms = drafts_of c.as_slice-2.result.now in
    let all = definitions_of c.as_slice-definitions.result.now in
    let light = c.requires.light in
    let nodes = few_nodes (definitions_of ds) items _ _ _ es names c.in_ok-own.ensures.read c.in_default.is in
    let variables = near (definitions_of ds) items _ _ _ es names c.in_ok-own.ensures.read c.in_default.is light in
    let named = few_symbols (definitions_of ds) items _ _ _ es names c.in_ok-own.ensures.read c.in_default.is in
    record {
      formals = subst (λ l. have_few_formals (definitions_of l) ≡ true) (sym same) formals;
      few = omega (arith, few, length-map ds definition_of, ap length same);
      small =
          omega (arith, size, nodes, light, ap (λ l. size_of_definitions (definitions_of l)) same, ap (λ l. size_each (drafts_of l)) c.as_slice-2.ensures);
      few_symbols =
          omega (
            arith,
            symbols,
            symbols_counted (procedures_of_each (definitions_of ds)),
            named,
            light,
            ap (λ l. length (symbols_of_each (definitions_of l))) same,
            ap (λ l. length (symbols_in_each (drafts_of l))) c.as_slice-2.ensures,
            length-append (symbols_of_each all) (symbols_in_each (drafts_of c.as_slice-2.result.now)),
          );
      bodies = subst (λ l. have_near_bodies (definitions_of l) ≡ true) (sym same) bodies;
      variables = subst (λ l. have_near_variables (drafts_of l) ≡ true) (sym c.as_slice-2.ensures) variables;
    }

pub into_program-requires : goal.into_program-requires
into_program-requires c =
    let ds = definitions_of c.args.library.now.definitions in
    let items = data_of c.args.items.now in
    let own = names_of c.in_ok-own.field-0.own in
    let es = drafts_of c.in_ok-own.field-0.drafts in
    let names = ap given c.as_slice.ensures ∙ (c.in_ok-seen.ensures ∙ ap (λ l. seen (definitions_of l)) c.as_slice-definitions.ensures) in
    let places = c.as_slice-3.result.now in
    let forms = expressions_of c.as_slice-4.result.now in
    let at : places ≡ form_places items = c.as_slice-3.ensures ∙ c.in_ok-own.ensures.places in
    let made : parts_of c.in_ok-parts.parts ≡ program_of ds own es =
    c.in_ok-parts.ensures.made ∙ ap (λ x. program_of (definitions_of x) own (drafts_of c.as_slice-2.result.now)) c.as_slice-definitions.ensures
    ∙ ap (λ l. program_of ds own (drafts_of l)) c.as_slice-2.ensures in
    let n : forms ≡ (program_of ds own es).forms = ap expressions_of c.as_slice-4.ensures ∙ ap (λ p. p.forms) made in
    let none = c.in_default.is in
    let h : first_excess places forms ≡ None = sym c.in_ok-kind.ensures ∙ c.in_default-2.is in
    let quotable = c.in_ok-know_data.ensures in
    record {
      valid =
          let v : is_valid (program_of ds own es) ≡ true =
          ∥∥₁_elim c.args.library.now.sound (Prim.hlevel props) (λ s.
          valid_once ds items _ _ _ es names c.in_ok-own.ensures.read none places own _ _ _ _ forms at n h s.sound s.ordered s.few (omega (arith, s.small, c.requires.light)) quotable
          (ap trees_in_range (sym made) ∙ c.in_ok-parts.ensures.ranged)) in
          ap is_valid made ∙ v;
    }

pub returns-clause-found : goal.returns-clause-found
returns-clause-found c =
    let ds = definitions_of c.args.library.now.definitions in
    let items = data_of c.args.items.now in
    let own = names_of c.in_ok-own.field-0.own in
    let es = drafts_of c.in_ok-own.field-0.drafts in
    let names = ap given c.as_slice.ensures ∙ (c.in_ok-seen.ensures ∙ ap (λ l. seen (definitions_of l)) c.as_slice-definitions.ensures) in
    let places = c.as_slice-3.result.now in
    let forms = expressions_of c.as_slice-4.result.now in
    let at : places ≡ form_places items = c.as_slice-3.ensures ∙ c.in_ok-own.ensures.places in
    let made : parts_of c.in_ok-parts.parts ≡ program_of ds own es =
    c.in_ok-parts.ensures.made ∙ ap (λ x. program_of (definitions_of x) own (drafts_of c.as_slice-2.result.now)) c.as_slice-definitions.ensures
    ∙ ap (λ l. program_of ds own (drafts_of l)) c.as_slice-2.ensures in
    let n : forms ≡ (program_of ds own es).forms = ap expressions_of c.as_slice-4.ensures ∙ ap (λ p. p.forms) made in
    let none = c.in_default.is in
    let h : first_excess places forms ≡ None = sym c.in_ok-kind.ensures ∙ c.in_default-2.is in
    let q : source c.into_program.result ≡ program_of ds own es = c.into_program.ensures ∙ made in
    found ds items _ _ _ es names c.in_ok-own.ensures.read none places own _ _ _ _ forms at n h _ q

pub returns-clause-size : goal.returns-clause-size
returns-clause-size c =
    let ds = definitions_of c.args.library.now.definitions in
    let items = data_of c.args.items.now in
    let own = names_of c.in_ok-own.field-0.own in
    let es = drafts_of c.in_ok-own.field-0.drafts in
    let names = ap given c.as_slice.ensures ∙ (c.in_ok-seen.ensures ∙ ap (λ l. seen (definitions_of l)) c.as_slice-definitions.ensures) in
    let places = c.as_slice-3.result.now in
    let forms = expressions_of c.as_slice-4.result.now in
    let at : places ≡ form_places items = c.as_slice-3.ensures ∙ c.in_ok-own.ensures.places in
    let made : parts_of c.in_ok-parts.parts ≡ program_of ds own es =
    c.in_ok-parts.ensures.made ∙ ap (λ x. program_of (definitions_of x) own (drafts_of c.as_slice-2.result.now)) c.as_slice-definitions.ensures
    ∙ ap (λ l. program_of ds own (drafts_of l)) c.as_slice-2.ensures in
    let n : forms ≡ (program_of ds own es).forms = ap expressions_of c.as_slice-4.ensures ∙ ap (λ p. p.forms) made in
    let none = c.in_default.is in
    let h : first_excess places forms ≡ None = sym c.in_ok-kind.ensures ∙ c.in_default-2.is in
    let q : source c.into_program.result ≡ program_of ds own es = c.into_program.ensures ∙ made in
    small ds items _ _ _ es names c.in_ok-own.ensures.read none places own _ _ _ _ forms at n h _ q

pub returns-clause-places : goal.returns-clause-places
returns-clause-places c =
    let ds = definitions_of c.args.library.now.definitions in
    let items = data_of c.args.items.now in
    let own = names_of c.in_ok-own.field-0.own in
    let es = drafts_of c.in_ok-own.field-0.drafts in
    let names = ap given c.as_slice.ensures ∙ (c.in_ok-seen.ensures ∙ ap (λ l. seen (definitions_of l)) c.as_slice-definitions.ensures) in
    let places = c.as_slice-3.result.now in
    let forms = expressions_of c.as_slice-4.result.now in
    let at : places ≡ form_places items = c.as_slice-3.ensures ∙ c.in_ok-own.ensures.places in
    let made : parts_of c.in_ok-parts.parts ≡ program_of ds own es =
    c.in_ok-parts.ensures.made ∙ ap (λ x. program_of (definitions_of x) own (drafts_of c.as_slice-2.result.now)) c.as_slice-definitions.ensures
    ∙ ap (λ l. program_of ds own (drafts_of l)) c.as_slice-2.ensures in
    let n : forms ≡ (program_of ds own es).forms = ap expressions_of c.as_slice-4.ensures ∙ ap (λ p. p.forms) made in
    let none = c.in_default.is in
    let h : first_excess places forms ≡ None = sym c.in_ok-kind.ensures ∙ c.in_default-2.is in
    let q : source c.into_program.result ≡ program_of ds own es = c.into_program.ensures ∙ made in
    places_are ds items _ _ _ es names c.in_ok-own.ensures.read none places own _ _ _ _ forms at n h _ q

pub returns-clause-only : goal.returns-clause-only
returns-clause-only c =
    let ds = definitions_of c.args.library.now.definitions in
    let items = data_of c.args.items.now in
    let own = names_of c.in_ok-own.field-0.own in
    let es = drafts_of c.in_ok-own.field-0.drafts in
    let names = ap given c.as_slice.ensures ∙ (c.in_ok-seen.ensures ∙ ap (λ l. seen (definitions_of l)) c.as_slice-definitions.ensures) in
    let places = c.as_slice-3.result.now in
    let forms = expressions_of c.as_slice-4.result.now in
    let at : places ≡ form_places items = c.as_slice-3.ensures ∙ c.in_ok-own.ensures.places in
    let made : parts_of c.in_ok-parts.parts ≡ program_of ds own es =
    c.in_ok-parts.ensures.made ∙ ap (λ x. program_of (definitions_of x) own (drafts_of c.as_slice-2.result.now)) c.as_slice-definitions.ensures
    ∙ ap (λ l. program_of ds own (drafts_of l)) c.as_slice-2.ensures in
    let n : forms ≡ (program_of ds own es).forms = ap expressions_of c.as_slice-4.ensures ∙ ap (λ p. p.forms) made in
    let none = c.in_default.is in
    let h : first_excess places forms ≡ None = sym c.in_ok-kind.ensures ∙ c.in_default-2.is in
    let q : source c.into_program.result ≡ program_of ds own es = c.into_program.ensures ∙ made in
    λ p r. one_program ds items _ p (found ds items _ _ _ es names c.in_ok-own.ensures.read none places own _ _ _ _ forms at n h _ q) r
