-- What is listed of a compiled text has a text.
use Rattle.std.proofs.Common.{◌≡◌, ◌+◌, ℕ, Bool, true, List, [], ◌∷◌, refl, arith, subst, sym}
use Rattle.std.specs.Prelude.{All, nat_lt}
use Rattle.std.specs.List.{list_all}
use Rattle.std.proofs.lemmas.Bool.{and_parts, ltb-true}
use Rattle.std.proofs.lemmas.List.Elements.{All-append, All-cons, All-nil}
use Rattle.sch_word.specs.declared.place.Place.{Place}
use Rattle.sch_word.specs.declared.place.Place.TheVariants.{Reg, Slot}
use Rattle.sch_orders.specs.declared.listed_call.ListedCall.{ListedCall}
use Rattle.sch_registers.specs.Registers.{all_calls}
use Rattle.sch_registers.proofs.ListedProgram.{all_pass}
use Rattle.sch_driver.specs.ListedCycles.{cycles_at, listed_cycles}
use Rattle.sch_word.specs.runs.ProgramLayout.{max_text_size, text_address}
use Rattle.sch_listing.proofs.MarkAddresses.{marks_listed}
use Rattle.sch_listing.specs.declared.listing.Listing.{Listing}
use Rattle.sch_listing.specs.Lines.{IsListedCycle, IsListedPlace}
use Rattle.sch_listing.specs.ListingText.{IsPrintable}
use Rattle.sch_driver.specs.Compiled.{IsCompiled}
use Rattle.sch_driver.specs.Framed.{framed}
use Rattle.sch_runtime.specs.Code.{all_routines}
use Rattle.sch_select_data.specs.Data.{heap_of}
use Rattle.sch_select.specs.Program.{program_code}
use Rattle.std.specs.Prelude.{◌++◌}

-- a register that has a name, or a slot
abbrev is_named : Place → Bool
is_named (Reg r) = nat_lt r 16
is_named (Slot j) = true

place_listed : (p : Place) → is_named p ≡ true → IsListedPlace p
place_listed (Reg r) h = ltb-true r 16 h
place_listed (Slot j) h = tt

places_listed : (ps : List Place) → list_all is_named ps ≡ true → All IsListedPlace ps
places_listed [] h = All-nil IsListedPlace
places_listed (p ∷ ps) h = let parts = and_parts (is_named p) (list_all is_named ps) h in All-cons IsListedPlace p ps (place_listed p parts.0) (places_listed ps parts.1)

at_listed : (site : ℕ) (cycles : List (List Place)) → list_all (list_all is_named) cycles ≡ true → All IsListedCycle (cycles_at site cycles)
at_listed site [] h = All-nil IsListedCycle
at_listed site (ps ∷ cycles) h =
    let parts = and_parts (list_all is_named ps) (list_all (list_all is_named) cycles) h in
    All-cons IsListedCycle (record { site = site; places = ps }) (cycles_at site cycles) (places_listed ps parts.0) (at_listed site cycles parts.1)

cycles_listed : (calls : List ListedCall) → list_all (λ c. list_all (list_all is_named) c.cycles) calls ≡ true → All IsListedCycle (listed_cycles calls)
cycles_listed [] h = All-nil IsListedCycle
cycles_listed (c ∷ calls) h =
    let parts = and_parts (list_all (list_all is_named) c.cycles) (list_all (λ c. list_all (list_all is_named) c.cycles) calls) h in
    All-append IsListedCycle (cycles_at c.site c.cycles) (listed_cycles calls) (at_listed c.site c.cycles parts.0) (cycles_listed calls parts.1)

-- its text ends below 2^32, and the registers of its cycles are those of calls
pub printable : (library text : List ℕ) (heap depth : ℕ) (file : List ℕ) (listing : Listing) → IsCompiled library text heap depth file listing → IsPrintable listing
printable library text heap depth file listing c =
    let code = c.is_program.does.laid_out.code in
    let coded = c.marked.coded in
    let short = c.is_program.does.laid_out.short in
    record {
      cycles = subst (All IsListedCycle) (sym c.listed.cycles)
          (cycles_listed (all_calls c.listed.program.bodies) (all_pass is_named (λ j. refl) refl refl refl c.listed.program.bodies));
      marks = marks_listed coded.0 (text_address + max_text_size) (omega arith) (program_code (framed c.listed.program) heap depth ++ all_routines (heap_of (framed c.listed.program) + heap)) text_address code listing.marks coded.1 (omega (arith, short));
    }
