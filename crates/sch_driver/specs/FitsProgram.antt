-- Which control programs a core program may be compiled through.
use Rattle.std.specs.Prelude.{◌≡◌, IsTrue, length, map}
use Rattle.std.specs.List.{list_all}
use Rattle.sch_lang.specs.Bodies.{bodies_of}
use Rattle.sch_lang.specs.Tree as tree
use Rattle.sch_control.specs.Covered.{is_covered_program}
use Rattle.sch_control.specs.Tree as control
use Rattle.sch_control.specs.Valid.{code_valid, is_valid}
use Rattle.sch_registers.specs.Registers.{registers_orders}
use Rattle.sch_driver.specs.FitsUnder.{FitsUnder}
use Rattle.sch_passes.specs.Chain.{RunsAs, control_of}

-- A control program fits a core program. It is the one that the passes are defined to make of it, one after the other;
-- so there is one alone. What follows is said of it without them. It is valid, and none of its calls spreads a list. It
-- runs as the core program under each order table that fits it, and fits the core program and the table that is listed for
-- it. It has the same symbols, literals and globals, as many procedures of the library, and the same bodies by their names.
pub record FitsProgram (p : tree.Source) (q : control.Source) : Type 0 where
  pub made : q ≡ control_of p
  pub valid : IsTrue (is_valid q)
  pub bodies : IsTrue (list_all code_valid q.bodies)
  pub covered : IsTrue (is_covered_program q)
  pub statics : q.statics ≡ p.statics
  pub library : length q.library ≡ tree.count_lambdas p.library
  pub runs : RunsAs p q
  pub under : FitsUnder p (registers_orders q) q
  pub names : map (λ c. c.name) q.bodies ≡ map (λ b. b.name) (bodies_of p)
