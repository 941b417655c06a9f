use Rattle.std.proofs.Common.{◌≡◌, ◌<◌, ◌^◌, [], true, ap, sym, subst, ◌∙◌, arith}
use Rattle.sch_read.specs.Views.{data_of}
use Rattle.sch_names.specs.ScopeView.{given_names}
use Rattle.sch_link_program.specs.Definitions.{definitions_of}
use Rattle.sch_link_program.specs.Size.{size_of_definitions, have_few_formals, have_near_bodies}
use Rattle.sch_toplevel.specs.Items.{item_places}
use Rattle.sch_core.specs.Excess.{first_definition_excess}
use Rattle.sch_core.proofs.items.LibraryLaws.{faulty_error, excessive_error, definitions_counted, never_both, one_library, fault_found, named_procedures, expands, excess_found, library_found}
use Rattle.sch_core.proofs.drafts.NearVariables.{near_bodies}
use Rattle.sch_core.proofs.items.SoundItems.{items_size, items_sound, few_formals, sound_library}
use Rattle.sch_core.proofs.definitions.library.Goals as goal

pub definitions-requires : goal.definitions-requires
definitions-requires c =
    let items = data_of c.args.items.now in
    let read = c.in_ok-names.ensures in
    record { whole = named_procedures items _ _ _ (ap given_names c.as_slice.ensures ∙ read.names) read.reads c.in_default.is }

pub first_definition_excess-requires : goal.first_definition_excess-requires
first_definition_excess-requires c =
    let items = data_of c.args.items.now in
    let read = c.in_ok-names.ensures in
    let ds = definitions_of c.in_ok-definitions.definitions in
    let i = sym (ap given_names c.as_slice.ensures) ∙ c.in_ok-definitions.ensures.named in
    let whole = expands items _ _ _ read.names read.reads c.in_default.is ds i c.in_ok-definitions.ensures.made in
    let sound = items_sound [] items ds whole (c.in_ok-know_data.ensures) in
    let few : size_of_definitions ds < 2 ^ 32 = omega (arith, items_size [] items ds whole, c.requires.light) in
    record {
      formals = subst (λ l. have_few_formals (definitions_of l) ≡ true) (sym c.as_slice-2.ensures) (few_formals ds sound);
      small = subst (λ l. size_of_definitions (definitions_of l) < 2 ^ 32) (sym c.as_slice-2.ensures) few;
      variables = subst (λ l. have_near_bodies (definitions_of l) ≡ true) (sym c.as_slice-2.ensures) (near_bodies ds sound few);
    }

pub returns-in-Some-clause-fault : goal.returns-in-Some-clause-fault
returns-in-Some-clause-fault c =
    let items = data_of c.args.items.now in
    let read = c.in_ok-names.ensures in
    faulty_error items c.error_of.result c.in-Some.f c.error_of.ensures (fault_found items _ _ _ read.names read.reads c.in-Some.f c.in-Some.is)

pub returns-in-Some-clause-only : goal.returns-in-Some-clause-only
returns-in-Some-clause-only c =
    let items = data_of c.args.items.now in
    let read = c.in_ok-names.ensures in
    let error = faulty_error items c.error_of.result c.in-Some.f c.error_of.ensures (fault_found items _ _ _ read.names read.reads c.in-Some.f c.in-Some.is) in
    λ ds q. never_both items ds c.error_of.result q error

pub returns-in-Some-2-clause-fault : goal.returns-in-Some-2-clause-fault
returns-in-Some-2-clause-fault c =
    let items = data_of c.args.items.now in
    let read = c.in_ok-names.ensures in
    let ds = definitions_of c.in_ok-definitions.definitions in
    let i = sym (ap given_names c.as_slice.ensures) ∙ c.in_ok-definitions.ensures.named in
    let h = ap (λ l. first_definition_excess (item_places items) (definitions_of l)) (sym c.as_slice-2.ensures) ∙ (sym c.in_ok-kind.ensures ∙ c.in-Some-2.is) in
    excessive_error items c.in-Some-2.kind c.in-Some-2.at (definitions_counted (item_places items) ds c.in-Some-2.kind c.in-Some-2.at h)
    (excess_found items _ _ _ read.names read.reads c.in_default.is ds i c.in_ok-definitions.ensures.made c.in-Some-2.kind c.in-Some-2.at h)

pub returns-in-Some-2-clause-only : goal.returns-in-Some-2-clause-only
returns-in-Some-2-clause-only c =
    let items = data_of c.args.items.now in
    let read = c.in_ok-names.ensures in
    let ds = definitions_of c.in_ok-definitions.definitions in
    let i = sym (ap given_names c.as_slice.ensures) ∙ c.in_ok-definitions.ensures.named in
    let h = ap (λ l. first_definition_excess (item_places items) (definitions_of l)) (sym c.as_slice-2.ensures) ∙ (sym c.in_ok-kind.ensures ∙ c.in-Some-2.is) in
    let error = excessive_error items c.in-Some-2.kind c.in-Some-2.at (definitions_counted (item_places items) ds c.in-Some-2.kind c.in-Some-2.at h)
    (excess_found items _ _ _ read.names read.reads c.in_default.is ds i c.in_ok-definitions.ensures.made c.in-Some-2.kind c.in-Some-2.at h) in
    λ l q. never_both items l _ q error

pub returns-clause-found : goal.returns-clause-found
returns-clause-found c =
    let items = data_of c.args.items.now in
    let read = c.in_ok-names.ensures in
    let ds = definitions_of c.in_ok-definitions.definitions in
    let i = sym (ap given_names c.as_slice.ensures) ∙ c.in_ok-definitions.ensures.named in
    let h = ap (λ l. first_definition_excess (item_places items) (definitions_of l)) (sym c.as_slice-2.ensures) ∙ (sym c.in_ok-kind.ensures ∙ c.in_default-2.is) in
    library_found items _ _ _ read.names read.reads c.in_default.is ds i c.in_ok-definitions.ensures.made h

pub returns-clause-size : goal.returns-clause-size
returns-clause-size c =
    let items = data_of c.args.items.now in
    let read = c.in_ok-names.ensures in
    let ds = definitions_of c.in_ok-definitions.definitions in
    let i = sym (ap given_names c.as_slice.ensures) ∙ c.in_ok-definitions.ensures.named in
    items_size [] items ds (expands items _ _ _ read.names read.reads c.in_default.is ds i c.in_ok-definitions.ensures.made)

pub returns-clause-only : goal.returns-clause-only
returns-clause-only c =
    let items = data_of c.args.items.now in
    let read = c.in_ok-names.ensures in
    let ds = definitions_of c.in_ok-definitions.definitions in
    let i = sym (ap given_names c.as_slice.ensures) ∙ c.in_ok-definitions.ensures.named in
    let h = ap (λ l. first_definition_excess (item_places items) (definitions_of l)) (sym c.as_slice-2.ensures) ∙ (sym c.in_ok-kind.ensures ∙ c.in_default-2.is) in
    λ l q. one_library items ds l (library_found items _ _ _ read.names read.reads c.in_default.is ds i c.in_ok-definitions.ensures.made h) q

pub invariant_of-result : goal.invariant_of-result
invariant_of-result c =
    let items = data_of c.args.items.now in
    let read = c.in_ok-names.ensures in
    let ds = definitions_of c.in_ok-definitions.definitions in
    let i = sym (ap given_names c.as_slice.ensures) ∙ c.in_ok-definitions.ensures.named in
    let h = ap (λ l. first_definition_excess (item_places items) (definitions_of l)) (sym c.as_slice-2.ensures) ∙ (sym c.in_ok-kind.ensures ∙ c.in_default-2.is) in
    record {
      sound = ∣ sound_library items ds (expands items _ _ _ read.names read.reads c.in_default.is ds i c.in_ok-definitions.ensures.made) (c.in_ok-know_data.ensures) c.requires.light h ∣₁;
    }
