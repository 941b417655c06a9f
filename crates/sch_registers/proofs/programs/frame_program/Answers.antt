use Rattle.std.proofs.Common.{IsTrue, ◌≤◌, ◌+◌, ◌∙◌, ap, arith, max, refl, subst, sym}
use Rattle.std.proofs.lemmas.Bool.{and_from, and_parts}
use Rattle.std.specs.Prelude.{length, nat_le}
use Rattle.sch_word.specs.trees.Shape.{max_library, max_operands}
use Rattle.sch_control.specs.Sizes.{most_variables, tests_of}
use Rattle.sch_control.specs.SourceView as control
use Rattle.sch_frames.specs.Sizes.{frame_words, spread_words}
use Rattle.sch_control.specs.ProgramView.{source}
use Rattle.sch_orders.specs.ListedTable.{calls_fit, listed_table}
use Rattle.sch_registers.proofs.ListedProgram.{calls_from_none, listed_calls_fit}
use Rattle.sch_registers.proofs.EachFramed.{all_begin, all_called, all_covered, all_do, all_fit, all_made, all_made_from, all_stand, covered_within, handed_over, words_within}
use Rattle.sch_registers.proofs.programs.frame_program.Goals as goal

pub frame_bodies-requires : goal.frame_bodies-requires
frame_bodies-requires c =
    let few = c.requires in
    let same = ap (λ bodies. tests_of (control.codes_of bodies)) c.as_slice.ensures in
    omega (arith, few, same)

pub new-requires : goal.new-requires
new-requires c = record { frames = all_do _ _ (handed_over _ _ _ _ c.as_slice.ensures refl c.in_ok-bodies.ensures.bodies) }

pub returns-clause-made : goal.returns-clause-made
returns-clause-made c = all_made _ _ (handed_over _ _ _ _ c.as_slice.ensures c.in_ok-frames.ensures.bodies c.in_ok-bodies.ensures.bodies)

pub returns-clause-frames : goal.returns-clause-frames
returns-clause-frames c = all_do _ _ (handed_over _ _ _ _ c.as_slice.ensures c.in_ok-frames.ensures.bodies c.in_ok-bodies.ensures.bodies)

pub returns-clause-begin : goal.returns-clause-begin
returns-clause-begin c = all_begin _ _ (handed_over _ _ _ _ c.as_slice.ensures c.in_ok-frames.ensures.bodies c.in_ok-bodies.ensures.bodies)

pub returns-clause-stand : goal.returns-clause-stand
returns-clause-stand c = all_stand _ _ (handed_over _ _ _ _ c.as_slice.ensures c.in_ok-frames.ensures.bodies c.in_ok-bodies.ensures.bodies)

pub returns-clause-covered : goal.returns-clause-covered
returns-clause-covered c h =
    let parts = and_parts (nat_le (length c.args.p.now.library) max_library) _ h in
    and_from _ _ (ap (λ l. nat_le (length l) max_library) c.in_ok-frames.ensures.library ∙ parts.0)
    (all_covered _ _ (handed_over _ _ _ _ c.as_slice.ensures c.in_ok-frames.ensures.bodies c.in_ok-bodies.ensures.bodies) parts.1)

pub returns-clause-fits : goal.returns-clause-fits
returns-clause-fits c = all_fit _ _ (handed_over _ _ _ _ c.as_slice.ensures c.in_ok-frames.ensures.bodies c.in_ok-bodies.ensures.bodies)

pub returns-clause-words : goal.returns-clause-words
returns-clause-words c =
    c.in_ok-frames.ensures.words ∙ ap frame_words (all_made _ _ (handed_over _ _ _ _ c.as_slice.ensures refl c.in_ok-bodies.ensures.bodies))

pub returns-clause-frame_words : goal.returns-clause-frame_words
returns-clause-frame_words c =
    subst (λ n. n ≤ max spread_words (max_operands + most_variables (control.codes_of c.args.p.now.bodies))) (sym c.in_ok-frames.ensures.words)
    (words_within _ _ (handed_over _ _ _ _ c.as_slice.ensures refl c.in_ok-bodies.ensures.bodies))

pub returns-clause-covered_words : goal.returns-clause-covered_words
returns-clause-covered_words c h =
    subst (λ n. n ≤ max_operands + most_variables (control.codes_of c.args.p.now.bodies)) (sym c.in_ok-frames.ensures.words)
    (covered_within _ _ (handed_over _ _ _ _ c.as_slice.ensures refl c.in_ok-bodies.ensures.bodies) (and_parts _ _ h).1)

pub returns-clause-chain : goal.returns-clause-chain
returns-clause-chain c = all_made_from _ _ (handed_over _ _ _ _ c.as_slice.ensures c.in_ok-frames.ensures.bodies c.in_ok-bodies.ensures.bodies)

pub returns-clause-called : goal.returns-clause-called
returns-clause-called c = all_called _ _ (handed_over _ _ _ _ c.as_slice.ensures c.in_ok-frames.ensures.bodies c.in_ok-bodies.ensures.bodies)

pub listed_orders-requires : goal.listed_orders-requires
listed_orders-requires c =
    let p = source c.args.p.now in
    subst (λ calls. IsTrue (calls_fit p calls))
    (sym (c.as_slice-2.ensures ∙ calls_from_none c.in_ok-bodies.ensures.calls c.new-calls.ensures (ap control.codes_of c.as_slice.ensures)))
    (listed_calls_fit p c.args.p.now.sited)

pub returns-clause-calls : goal.returns-clause-calls
returns-clause-calls c = calls_from_none c.in_ok-bodies.ensures.calls c.new-calls.ensures (ap control.codes_of c.as_slice.ensures)

pub returns-clause-orders : goal.returns-clause-orders
returns-clause-orders c =
    c.in_ok-orders.ensures.orders
    ∙ ap (listed_table (source c.args.p.now))
    (c.as_slice-2.ensures ∙ calls_from_none c.in_ok-bodies.ensures.calls c.new-calls.ensures (ap control.codes_of c.as_slice.ensures))
