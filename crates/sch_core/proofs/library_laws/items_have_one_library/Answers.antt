use Rattle.sch_core.proofs.items.LibraryLaws.{one_library}
use Rattle.sch_core.proofs.library_laws.items_have_one_library.Goals as goal

pub returns : goal.returns
returns c = one_library
