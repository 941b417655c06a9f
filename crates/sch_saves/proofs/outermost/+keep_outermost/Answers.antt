use Rattle.std.proofs.Common.{ap, sym, ◌∙◌}
use Rattle.std.specs.Prelude.{◌||◌, not, filter}
use Rattle.std.specs.FinSet as set
use Rattle.sch_word.specs.trees.NumberSets.{has}
use Rattle.sch_control.specs.flow.Middle.{listed}
use Rattle.sch_saves.specs.LazyRegions as lazily
use Rattle.sch_saves.proofs.LazySteps.{save_made}
use Rattle.sch_saves.proofs.outermost.+keep_outermost.Goals as goal

pub returns-then-is_empty : goal.returns-then-is_empty
returns-then-is_empty g t c =
    record {
      made =
          save_made c.in-Save.saves c.in_ok-kept-in-Save.kept c.args.inside.now c.with_all-within.result (listed c.in-Save.body.value) (listed c.keep_outermost-in-Save.new.e) (listed c.replace.result)
          (c.in_ok-kept-in-Save.ensures ∙ ap (filter (λ y. not (set.contains c.args.inside.now y))) c.as_slice.ensures)
          (λ y. c.with_all-within.ensures y ∙ ap (λ z. has y z || set.contains c.args.inside.now y) c.as_slice-in-Save.ensures)
          (c.in_ok-keep_outermost-in-Save.ensures.made ∙ ap (λ z. lazily.outermost (set.contains c.with_all-within.result) (listed z)) c.deref_mut-in-Save.ensures.value)
          (ap listed (c.replace.ensures.value ∙ c.deref_mut-then-is_empty.ensures.value)
          ∙ ap (λ k. lazily.round k (listed c.keep_outermost-in-Save.new.e)) (sym (c.is_empty.ensures.0 c.if-is_empty.true)))
          ∙ ap (λ z. lazily.outermost (λ y. set.contains c.args.inside.now y) (listed z)) (sym c.in-Save.is);
    }
