use Rattle.sch_read.proofs.texts.TextAnswers.{spells_one}
use Rattle.sch_read.proofs.laws.a_text_spells_one_list_of_data.Goals as goal

pub returns : goal.returns
returns c = spells_one
