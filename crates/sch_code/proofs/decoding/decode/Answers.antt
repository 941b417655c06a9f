use Rattle.sch_code.proofs.Whole.{valid, within, spelled, found, none}
use Rattle.sch_code.proofs.decoding.decode.Goals as goal

pub returns-clause-valid : goal.returns-clause-valid
returns-clause-valid c = valid c.args.bytes.now c.read.result (λ i. (c.type_inv.bytes i).fits) c.read.ensures

pub returns-clause-within : goal.returns-clause-within
returns-clause-within c = within c.args.bytes.now c.read.result (λ i. (c.type_inv.bytes i).fits) c.read.ensures

pub returns-clause-spelled : goal.returns-clause-spelled
returns-clause-spelled c = spelled c.args.bytes.now c.read.result (λ i. (c.type_inv.bytes i).fits) c.read.ensures

pub returns-clause-found : goal.returns-clause-found
returns-clause-found c = found c.args.bytes.now c.read.result c.read.ensures

pub returns-clause-none : goal.returns-clause-none
returns-clause-none c = none c.args.bytes.now c.read.result c.read.ensures
