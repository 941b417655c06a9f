-- The failures of a text.
use Rattle.std.specs.Prelude.{ℕ, List}
use Rattle.sch_cli.specs.Refusals.{IsOfText, IsRefused}
use Rattle.sch_cli.specs.declared.failure.Failure.{Failure}
use Rattle.sch_cli.specs.declared.failure.Failure.TheVariants as failure

-- one for which a text is refused can be that of a text
pub refused_of_text : (text : List ℕ) (depth : ℕ) (why : Failure) → IsRefused text depth why → IsOfText why
refused_of_text text depth failure.TooLong h = tt
refused_of_text text depth (failure.Compile error) h = tt
refused_of_text text depth failure.Memory h = tt
refused_of_text text depth failure.ReadFailed h = h
refused_of_text text depth failure.WriteFailed h = h
refused_of_text text depth failure.ListingFailed h = h
refused_of_text text depth (failure.Image error) h = h
refused_of_text text depth failure.StepsSpent h = h
refused_of_text text depth failure.OutputFailed h = h
