-- What is promised of the places of a body with restores.
use Rattle.std.specs.Prelude.{◌≡◌, ℕ, List}
use Rattle.sch_word.specs.declared.place.Place.{Place}
use Rattle.sch_control.specs.Meaning.{World, Environment, Callee, do_body}
use Rattle.sch_control.specs.Tree.{Expression}
use Rattle.sch_control.specs.flow.Middle.{restoring, silent}
use Rattle.sch_word.specs.values.Places.{is_slot}
use Rattle.sch_control.specs.flow.Places.{place_of}

-- Where a call leaves a value in what it restores and in what has a slot, the second body does what the first does where a
-- call leaves a value in what it restores alone; with any callees.
abbrev pub KeepsRuns : Expression → Expression → List Place → Type 0
KeepsRuns e e' places =
    (callee : Callee) (depth : ℕ) (environment : Environment) (w : World)
    → do_body restoring callee depth e environment w ≡ do_body (silent (λ x. is_slot (place_of places x))) callee depth e' environment w
