-- Of what is compiled of a text there are numbers of 32 bits enough for its labels.
use Rattle.std.proofs.Common.{◌≡◌, ℕ, ◌+◌, ◌*◌, ◌≤◌, ◌<◌, ◌^◌, length, map, ap, subst, arith}
use Rattle.std.specs.Prelude.{nat_eq}
use Rattle.std.specs.List.{count_by}
use Rattle.std.proofs.lemmas.List.{length-map}
use Rattle.sch_read.specs.Valid.{max_weight}
use Rattle.sch_lang.specs.Bodies.{bodies_of}
use Rattle.sch_lang.specs.Measures as core
use Rattle.sch_lang.specs.Measures.{nodes_and_bound}
use Rattle.sch_lang.specs.Tree as lang
use Rattle.sch_lang.proofs.BodyCounts.{bodies_within_nodes}
use Rattle.sch_control.specs.Sizes.{tests_of}
use Rattle.sch_control.specs.Tree as control
use Rattle.sch_control.specs.Valid.{sites_of_each}
use Rattle.sch_frames.specs.Tree as frames
use Rattle.sch_registers.specs.MadeFrom.{AreMadeFrom}
use Rattle.sch_registers.specs.Registers.{registers_code}
use Rattle.sch_select_memory.specs.Addresses.{max_labels}
use Rattle.sch_select.specs.Program.{labels_of}
use Rattle.sch_driver.specs.Assembled.{labels_bound}
use Rattle.sch_driver.proofs.labels.BodyLabels.{labels_within}
use Rattle.sch_driver.proofs.labels.CoreSites.{call_sites_within, tests_within}
use Rattle.sch_driver.proofs.labels.Occurring.{rows_within}

-- a control program that has as many sites, tests and bodies as a core program of few nodes
pub few_labels : (p : lang.Source) (q : control.Source) → nodes_and_bound p ≤ 32 * max_weight
    → ((n : ℕ) → count_by (λ at. nat_eq at.0 n) (sites_of_each q.bodies) ≡ count_by (λ x. nat_eq x n) (core.call_sites_of p))
    → tests_of q.bodies ≡ core.tests_of p → map (λ c. c.name) q.bodies ≡ map (λ b. b.name) (bodies_of p) → labels_bound q ≤ max_labels
few_labels p q few calls tests names =
    let sites = rows_within (sites_of_each q.bodies) (core.call_sites_of p) calls in
    let all = ap length names in
    omega (arith, few, sites, tests, all, length-map q.bodies (λ c. c.name), length-map (bodies_of p) (λ b. b.name), call_sites_within p, tests_within p, bodies_within_nodes p)

-- it has labels of 32 bits for its tests
pub few_tests : (p : control.Source) → labels_bound p ≤ max_labels → 2 * tests_of p.bodies < 2 ^ 32
few_tests p few = omega (arith, few)

-- and so has its frame program
pub frames_labelled : (p : control.Source) (f : frames.Source) → f.bodies ≡ map registers_code p.bodies → AreMadeFrom p.bodies f.bodies
    → labels_bound p ≤ max_labels → labels_of f.bodies ≤ max_labels
frames_labelled p f made chain few =
    let within = labels_within p.bodies (subst (AreMadeFrom p.bodies) made chain) in
    let same = ap labels_of made in
    omega (arith, within, same, few)
