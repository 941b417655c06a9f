-- When a control program fits a core program and an order table. It is said without the passes that make the one of the
-- other, by four conditions: on the table, on the runs, on the sites, and on what is counted.
use Rattle.std.specs.Prelude.{◌≡◌, ◌≤◌, IsTrue, ℕ, List, Some, map, nat_eq}
use Rattle.std.specs.List.{count_by}
use Rattle.sch_word.specs.declared.answer.Answer.{Answer}
use Rattle.sch_lang.specs.Bodies.{bodies_of}
use Rattle.sch_lang.specs.Measures as measures
use Rattle.sch_lang.specs.Run as core_run
use Rattle.sch_lang.specs.Tree as tree
use Rattle.sch_control.specs.BoundParts.{parts_bound}
use Rattle.sch_control.specs.Fits.{table_fits}
use Rattle.sch_control.specs.Run as control_run
use Rattle.sch_control.specs.Sizes.{bind_within, dropped_of, tests_of}
use Rattle.sch_control.specs.Tree as control
use Rattle.sch_control.specs.Valid.{sites_of_each, sites_once}

-- The table has an order for each site, in which the parts that the control program binds come first, in the order in which
-- it binds them. Under any limits, answers of a kernel and number of entries its run is that of the core program under the
-- table, and never wrong. Its calls and primitives are those of the core program, each site once. It has as many tests, drops
-- no more atoms, and none of its bodies has more variables than are counted for the body of the core program at its place,
-- but its return address and its closure.
pub record FitsUnder (p : tree.Source) (table : List (List ℕ)) (q : control.Source) : Type 0 where
  pub orders : IsTrue (table_fits q table)
  pub bound : IsTrue (parts_bound q)
  pub runs : (heap depth : ℕ) (answers : List Answer) (entries : ℕ)
      → control_run.run q heap depth answers entries ≡ Some (core_run.run p table heap depth answers entries)
  pub calls : (n : ℕ) → count_by (λ at. nat_eq at.0 n) (sites_of_each q.bodies) ≡ count_by (λ x. nat_eq x n) (measures.call_sites_of p)
  pub once : IsTrue (sites_once q)
  pub tests : tests_of q.bodies ≡ measures.tests_of p
  pub dropped : dropped_of q.bodies ≤ measures.dropped_of p
  pub variables : IsTrue (bind_within q.bodies (map (λ b. b.variables) (bodies_of p)))
