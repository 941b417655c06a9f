use Rattle.sch_driver.proofs.KeptBounds.{laid_bytes, listed_words, told_bytes, told_words}
use Rattle.sch_driver.proofs.laws.sizes_are_bounded.Goals as goal

pub returns-clause-words : goal.returns-clause-words
returns-clause-words c = listed_words

pub returns-clause-bytes : goal.returns-clause-bytes
returns-clause-bytes c = laid_bytes

pub returns-clause-refused_words : goal.returns-clause-refused_words
returns-clause-refused_words c = told_words

pub returns-clause-refused_bytes : goal.returns-clause-refused_bytes
returns-clause-refused_bytes c = told_bytes
