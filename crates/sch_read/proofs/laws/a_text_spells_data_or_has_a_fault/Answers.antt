use Rattle.sch_read.proofs.texts.TextAnswers.{spells_or_faulty, spells_faultless}
use Rattle.sch_read.proofs.laws.a_text_spells_data_or_has_a_fault.Goals as goal

pub returns-clause-one : goal.returns-clause-one
returns-clause-one c = spells_or_faulty

pub returns-clause-never_both : goal.returns-clause-never_both
returns-clause-never_both c = spells_faultless
