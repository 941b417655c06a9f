-- What the passes make of a core program fits it.
use Rattle.std.proofs.Common.{◌≡◌, ◌≤◌, ℕ, List, [], ◌∷◌, length, map, true, refl}
use Rattle.std.specs.Prelude.{IsTrue, nat_eq}
use Rattle.std.specs.List.{count_by, list_all}
use Rattle.std.proofs.lemmas.Bool.{and_from}
use Rattle.sch_lang.specs.Bodies.{bodies_of}
use Rattle.sch_lang.specs.Measures as measures
use Rattle.sch_lang.specs.Tree as lang
use Rattle.sch_control.specs.declared.body.Body.{Body}
use Rattle.sch_control.specs.declared.program.ControlProgram.{ControlProgram}
use Rattle.sch_control.specs.Covered.{is_covered_program}
use Rattle.sch_control.specs.Fits.{table_fits}
use Rattle.sch_control.specs.ProgramView.{source}
use Rattle.sch_control.specs.SourceView.{codes_of}
use Rattle.sch_control.specs.Valid.{code_valid, sites_of_each}
use Rattle.sch_control.specs.Sizes.{bind_within, dropped_of, tests_of}
use Rattle.sch_registers.specs.Registers.{registers_orders}
use Rattle.sch_registers.proofs.ListedProgram.{registers_orders_fit}
use Rattle.sch_passes.specs.Chain.{RunsAs, control_of}
use Rattle.sch_driver.specs.FitsProgram.{FitsProgram}

bodies_valid : (bs : List Body) → list_all code_valid (codes_of bs) ≡ true
bodies_valid [] = refl
bodies_valid (b ∷ bs) = and_from _ _ (and_from _ _ b.scoped (and_from _ _ b.numbered (and_from _ _ b.ended (and_from _ _ b.shaped b.fields)))) (bodies_valid bs)

-- a control program fits a core program, by what the passes say of it
pub program_fits : (p : lang.Source) (q : ControlProgram) → source q ≡ control_of p → RunsAs p (source q) → IsTrue (is_covered_program (source q))
    → (source q).statics ≡ p.statics → length (source q).library ≡ lang.count_lambdas p.library
    → map (λ c. c.name) (source q).bodies ≡ map (λ b. b.name) (bodies_of p)
    → IsTrue (bind_within (source q).bodies (map (λ b. b.variables) (bodies_of p)))
    → ((n : ℕ) → count_by (λ at. nat_eq at.0 n) (sites_of_each (source q).bodies) ≡ count_by (λ x. nat_eq x n) (measures.call_sites_of p))
    → tests_of (source q).bodies ≡ measures.tests_of p → dropped_of (source q).bodies ≤ measures.dropped_of p → FitsProgram p (source q)
program_fits p q made runs covered statics library names variables calls tests dropped =
    let fits : table_fits (source q) (registers_orders (source q)) ≡ true = registers_orders_fit (source q) q.ordered q.sited in
    record {
      made = made;
      valid = and_from _ _ q.known (and_from _ _ q.sited (and_from _ _ q.ordered (and_from _ _ q.turns (and_from _ _ q.free q.ready))));
      bodies = bodies_valid q.bodies;
      covered = covered;
      statics = statics;
      library = library;
      runs = runs;
      under = record {
        orders = fits;
        bound = q.turns;
        runs = runs.same (registers_orders (source q)) fits;
        calls = calls;
        once = q.sited;
        tests = tests;
        dropped = dropped;
        variables = variables;
      };
      names = names;
    }
