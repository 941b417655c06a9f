-- What it is for two bodies to do the same.
use Rattle.std.specs.Prelude.{◌≡◌, ℕ}
use Rattle.sch_control.specs.Meaning.{World, Environment, Callee, plain, do_body}
use Rattle.sch_control.specs.Tree.{Expression}

-- read plainly, the second body does what the first does, with any callees
abbrev pub PlainlySame : Expression → Expression → Type 0
PlainlySame e e' =
    (callee : Callee) (depth : ℕ) (environment : Environment) (w : World)
    → do_body plain callee depth e environment w ≡ do_body plain callee depth e' environment w
