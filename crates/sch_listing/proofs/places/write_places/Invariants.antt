use Rattle.std.proofs.Common.{◌≡◌, ◌++◌, drop}
use Rattle.sch_listing.specs.Lines.{places_text}
use Rattle.sch_listing.proofs.places.write_places.Given as goal

abbrev pub invariant-loop-place : goal.invariant-loop-place
invariant-loop-place l = l.out ++ places_text (drop l.place-index l.places) ≡ l.fn.out ++ places_text l.places
