use Rattle.sch_driver.proofs.Meanings.{same_program}
use Rattle.sch_driver.proofs.laws.a_text_has_one_meaning.Goals as goal

pub returns : goal.returns
returns c = same_program
