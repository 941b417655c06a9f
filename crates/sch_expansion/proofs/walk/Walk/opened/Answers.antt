use Rattle.std.proofs.Common.{◌+◌, ◌*◌, reverse, ap, ◌∙◌}
use Rattle.std.proofs.lemmas.List.{reverse-reverse}
use Rattle.sch_sketch.specs.Measure.{sketches_measure}
use Rattle.sch_sketch.specs.SketchView.{sketches_of}
use Rattle.sch_expansion.proofs.Stacks.{parts_opened}
use Rattle.sch_expansion.proofs.walk.Walk.opened.Goals as goal

pub returns-clause-ready : goal.returns-clause-ready
returns-clause-ready c = λ w os b f.
    parts_opened w _ os c.args.self.now.scope c.args.parts b c.depth.ensures c.reversed.ensures (c.from_vec.ensures ∙ c.in_ok-room.ensures.items) f

pub returns-clause-left : goal.returns-clause-left
returns-clause-left c = ap (λ d. 1 + 2 * sketches_measure (sketches_of d)) (ap reverse c.reversed.ensures ∙ reverse-reverse c.args.parts)
