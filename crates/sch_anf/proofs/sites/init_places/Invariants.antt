use Rattle.std.proofs.Common.{◌≡◌, ◌++◌, ◌-◌, length}
use Rattle.sch_word.specs.trees.Bindings.{numbers}
use Rattle.sch_anf.proofs.sites.init_places.Given as goal

abbrev pub invariant-loop-place : goal.invariant-loop-place
invariant-loop-place l = l.all ++ numbers l.place (length l.es - l.place) ≡ numbers 0 (length l.es)
