use Rattle.sch_core.proofs.items.LibraryLaws.{library_or_error, never_both}
use Rattle.sch_core.proofs.library_laws.items_have_a_library_or_an_error.Goals as goal

pub returns-clause-one : goal.returns-clause-one
returns-clause-one c = library_or_error

pub returns-clause-never_both : goal.returns-clause-never_both
returns-clause-never_both c = never_both
