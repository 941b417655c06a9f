use Rattle.sch_read.proofs.texts.TextAnswers.{found_of, fault_of, only_of, only_fault_of, valid_of, light_of}
use Rattle.sch_read.proofs.reader.read_all.Goals as goal

pub returns-clause-found : goal.returns-clause-found
returns-clause-found c = found_of c.args.text.now c.read_text.result c.read_text.ensures

pub returns-clause-only : goal.returns-clause-only
returns-clause-only c = only_of c.args.text.now c.read_text.result c.read_text.ensures

pub returns-clause-fault : goal.returns-clause-fault
returns-clause-fault c = fault_of c.args.text.now c.read_text.result c.read_text.ensures

pub returns-clause-only_fault : goal.returns-clause-only_fault
returns-clause-only_fault c = only_fault_of c.args.text.now c.read_text.result c.read_text.ensures

pub returns-clause-valid : goal.returns-clause-valid
returns-clause-valid c = valid_of c.args.text.now c.read_text.result c.read_text.ensures

pub returns-clause-light : goal.returns-clause-light
returns-clause-light c = light_of c.args.text.now c.read_text.result c.read_text.ensures
