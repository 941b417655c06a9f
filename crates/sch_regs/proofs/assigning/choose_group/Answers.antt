use Rattle.std.proofs.Common.{rules, arith, ◌≡◌, ◌*◌, ◌∙◌, sym, ap, subst, length, true}
use Rattle.std.specs.FinSet as set
use Rattle.std.specs.Prelude.{slice_index_or, nat_lt}
use Rattle.std.specs.List.{list_all}
use Rattle.std.proofs.lemmas.Grind.{common_steps}
use Rattle.sch_control.specs.Valid.{member_variables}
use Rattle.sch_word.specs.values.Options.{first_or_0}
use Rattle.sch_regs.specs.PlaceChoice as table
use Rattle.sch_regs.specs.SetsAsTests.{noted_in}
use Rattle.sch_regs.specs.Shows.{Shows}
use Rattle.sch_regs.proofs.ChoiceSteps.{first_some, first_none, first_below, all_within}
use Rattle.sch_regs.proofs.assigning.choose_group.Goals as goal

pub noted_under-live-requires : goal.noted_under-live-requires
noted_under-live-requires g c = (
  first_of (search rules, grind (arith, common_steps), omega arith),
  first_below c.args.members.now (length c.args.noted.now) c.in-Some.m.now c.in-Some.ensures.value c.requires.below,
)

pub choose_both-requires : goal.choose_both-requires
choose_both-requires g c = (
  first_of (search rules, grind (arith, common_steps), omega arith),
  (
    first_of (search rules, grind (arith, common_steps), omega arith),
    all_within (member_variables c.as_slice.result.now) (length c.args.noted.now) (64 * g.row.N) c.requires.fits
        (subst (λ ms. list_all (λ x. nat_lt x (length c.args.noted.now)) (member_variables ms) ≡ true) (sym c.as_slice.ensures) c.requires.below),
  ),
)

pub returns-in-Some : goal.returns-in-Some
returns-in-Some g c count t h =
    subst (λ ms. Shows count c.choose_both.new.placing (table.choose_each (noted_in c.args.noted.now (first_or_0 (member_variables c.args.members.now)))
    (table.live_first (noted_in c.args.noted.now (first_or_0 (member_variables c.args.members.now))) (member_variables ms)) t)) c.as_slice.ensures
    (subst (λ s. Shows count c.choose_both.new.placing (table.choose_each (set.contains s) (table.live_first (set.contains s) (member_variables c.as_slice.result.now)) t))
    (c.noted_under-live.ensures ∙ ap (λ y. slice_index_or c.args.noted.now y set.empty) (first_some c.args.members.now c.in-Some.m.now c.in-Some.ensures.value))
    (c.choose_both.ensures count t h))

pub returns-in-None : goal.returns-in-None
returns-in-None g c count t h =
    subst (λ ms. Shows count c.args.placing.now (table.choose_each (noted_in c.args.noted.now (first_or_0 (member_variables ms)))
    (table.live_first (noted_in c.args.noted.now (first_or_0 (member_variables ms))) (member_variables ms)) t))
    (sym (first_none c.args.members.now c.in-None.ensures.value)) h
