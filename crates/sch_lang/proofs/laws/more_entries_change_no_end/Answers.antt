use Rattle.sch_lang.proofs.MoreEntries.{more_entries}
use Rattle.sch_lang.proofs.laws.more_entries_change_no_end.Goals as goal

pub returns : goal.returns
returns c = more_entries _
