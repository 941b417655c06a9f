use Rattle.std.proofs.Common.{◌≡◌, ◌++◌, drop}
use Rattle.sch_listing.specs.Lines.{numbers_text}
use Rattle.sch_listing.proofs.numbers.write_numbers.Given as goal

abbrev pub invariant-loop-number : goal.invariant-loop-number
invariant-loop-number l = l.out ++ numbers_text (drop l.number-index l.numbers) ≡ l.fn.out ++ numbers_text l.numbers
