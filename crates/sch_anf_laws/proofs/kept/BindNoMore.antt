-- No body that normalizing makes has more variables than its flat body may need.
use Rattle.std.proofs.Common.{◌≡◌, ◌+◌, true, arith}
use Rattle.std.specs.Prelude.{nat_le}
use Rattle.std.proofs.lemmas.Bool.{le-leb}
use Rattle.sch_flat.specs.Tree.{Tree, Body, Source}
use Rattle.sch_flat.specs.Measures.{variables, body_variables}
use Rattle.sch_control.specs.Sizes.{bind_within}
use Rattle.sch_anf_laws.specs.Counted.{most_variables}
use Rattle.sch_anf_laws.specs.Normal.{binds, normal_source}
use Rattle.sch_anf_laws.proofs.kept.EachBody.{program_holds}
use Rattle.sch_anf_laws.proofs.valid.Numbered.{few}

body_within : (b : Body) → nat_le (2 + (b.formals + binds b.code)) (2 + body_variables b) ≡ true
body_within b = let l = few b.code in le-leb _ _ (omega (arith, l))

form_within : (e : Tree) → nat_le (2 + binds e) (2 + variables e) ≡ true
form_within e = let l = few e in le-leb _ _ (omega (arith, l))

pub program_binds : (p : Source) → bind_within (normal_source p).bodies (most_variables p) ≡ true
program_binds p = program_holds (λ c n. nat_le c.variables (2 + n)) p body_within form_within
