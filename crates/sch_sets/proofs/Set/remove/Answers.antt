use Rattle.std.proofs.Common.{arith, length, ◌/◌, ◌<◌, ap, ◌∙◌}
use Rattle.std.specs.FinSet as fin
use Rattle.sch_sets.proofs.WordSets.{numbers_in-remove}
use Rattle.sch_sets.proofs.Set.remove.Goals as goal

pub returns : goal.returns
returns g c =
    let within : c.args.v / 64 < length c.self.inside.words = omega arith in
    numbers_in-remove c.self.inside.words c.args.v within ∙ ap (λ s. fin.remove s c.args.v) c.self.view_is
