-- The cycles that are listed of calls, each with the site of its call, in the order of the calls.
use Rattle.std.specs.Prelude.{ℕ, List, map}
use Rattle.std.specs.List.{flat_map}
use Rattle.sch_word.specs.declared.place.Place.{Place}
use Rattle.sch_listing.specs.declared.listing.Cycle.{Cycle}
use Rattle.sch_orders.specs.declared.listed_call.ListedCall.{ListedCall}

abbrev pub cycles_at : (site : ℕ) → List (List Place) → List Cycle
cycles_at site cycles = map (λ places. record { site = site; places = places }) cycles

abbrev pub listed_cycles : List ListedCall → List Cycle
listed_cycles calls = flat_map (λ c. cycles_at c.site c.cycles) calls
