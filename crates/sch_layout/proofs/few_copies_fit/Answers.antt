use Rattle.sch_layout.proofs.layouts.FewCopies as copies
use Rattle.sch_layout.proofs.few_copies_fit.Goals as goal

pub returns : goal.returns
returns _ plan entry e f = copies.few_copies_fit plan entry e f
