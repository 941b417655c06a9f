use Rattle.sch_shuffle.proofs.MovesAssign as assign
use Rattle.sch_shuffle.proofs.acts_bring.Goals as goal

pub returns : goal.returns
returns c = λ args targets free t f apart free_apart spare value same start. assign.acts_bring value args targets free t f apart free_apart spare same start
