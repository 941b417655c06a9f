use Rattle.sch_core.proofs.items.LibraryLaws.{one_error}
use Rattle.sch_core.proofs.library_laws.items_have_one_error.Goals as goal

pub returns : goal.returns
returns c = one_error
