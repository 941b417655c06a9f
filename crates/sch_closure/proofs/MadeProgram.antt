-- What the walk makes of a program is its flat program.
use Rattle.std.proofs.Common.{◌≡◌, ℕ, ◌+◌, ◌<◌, ◌≤◌, List, [], ◌++◌, length, map, refl, sym, ap, ◌∙◌, arith, length-append}
use Rattle.sch_closure.proofs.AsManyBodies.{bodies_count, lambdas_count}
use Rattle.sch_word.specs.declared.statics.Statics as declared
use Rattle.sch_word.specs.values.StaticsView.{statics}
use Rattle.sch_cells.specs.Tree.{Source, Trees, no_trees, and_tree}
use Rattle.sch_cells.specs.Bodies as bodies
use Rattle.sch_flat.specs.declared.tree.Exp as to
use Rattle.sch_flat.specs.declared.tree.Made as to_made
use Rattle.sch_flat.specs.declared.tree.Body as to_body
use Rattle.sch_flat.specs.SourceView.{source_of}
use Rattle.sch_flat.specs.View as view
use Rattle.sch_closure.specs.Closed.{procedures_each, procedures_lambdas, body_of, all_of_each, all_of_lambdas, closed_source, labels, starts, made_each, closed_each}
use Rattle.sch_closure.specs.Walked.{with_bodies_each, with_bodies_lambdas}
use Rattle.sch_closure.proofs.Walks.{each_bodies, lambdas_bodies}
use Rattle.sch_closure.proofs.MadeLists.{labels_made}
use Rattle.sch_closure.proofs.Standing.{size_lambdas}
use Rattle.sch_word.proofs.facts.Lists.{map_length}

pub library_bodies : (p : Source) (bs : List to_body.Body) → map view.body bs ≡ with_bodies_lambdas p.library [] → map view.body bs ≡ all_of_lambdas body_of p.library 0
library_bodies p bs h = h ∙ lambdas_bodies p.library []

pub library_length : (p : Source) (bs : List to_body.Body) → map view.body bs ≡ with_bodies_lambdas p.library [] → length bs ≡ procedures_lambdas p.library
library_length p bs h = sym (map_length view.body bs) ∙ ap length (library_bodies p bs h) ∙ size_lambdas body_of p.library 0

pub program_bodies : (p : Source) (before after : List to_body.Body) → map view.body before ≡ with_bodies_lambdas p.library []
    → map view.body after ≡ with_bodies_each p.forms (map view.body before) → map view.body after ≡ (closed_source p).bodies
program_bodies p before after h k =
    let l = library_bodies p before h in
    let m : length (map view.body before) ≡ procedures_lambdas p.library = ap length l ∙ size_lambdas body_of p.library 0 in
    k ∙ each_bodies p.forms (map view.body before) ∙ ap (λ n. map view.body before ++ all_of_each body_of p.forms n) m ∙ ap (λ r. r ++ all_of_each body_of p.forms (procedures_lambdas p.library)) l

-- ## How many procedures there are

forms_count : (es : Trees) → procedures_each es ≤ length (bodies.bodies_forms es)
forms_count no_trees = omega arith
forms_count (and_tree e es) = omega (arith, length-append (bodies.bodies e) (bodies.bodies_forms es), bodies_count e, forms_count es)

pub few_procedures : (p : Source) (k : ℕ) → length (bodies.bodies_of p) < k → procedures_lambdas p.library + procedures_each p.forms < k
few_procedures p k h = omega (arith, h, length-append (bodies.bodies_lambdas p.library) (bodies.bodies_forms p.forms), lambdas_count p.library, forms_count p.forms)

-- ## The whole program

pub made_program : (p : Source) (ready : declared.Statics) (records : List to_made.Made) (library : List ℕ) (before after : List to_body.Body) (forms : List to.Exp) (places sites : List ℕ) →
    statics ready ≡ p.statics → map view.made records ≡ made_each p.library [] 0 → library ≡ map (λ m. m.label) (map view.made records) →
    map view.body before ≡ with_bodies_lambdas p.library [] → map view.body after ≡ with_bodies_each p.forms (map view.body before) →
    view.trees_of forms ≡ closed_each p.forms [] (length before) → places ≡ starts p.forms (length before) → sites ≡ p.sites →
    source_of ready library after forms places sites ≡ closed_source p
made_program p ready records library before after forms places sites a b c d e f g h =
    let l : library ≡ labels p.library 0 = c ∙ ap (map (λ m. m.label)) b ∙ labels_made p.library [] 0 in
    let n : length before ≡ procedures_lambdas p.library = library_length p before d in
    let t : view.trees_of forms ≡ closed_each p.forms [] (procedures_lambdas p.library) = f ∙ ap (closed_each p.forms []) n in
    let s : places ≡ starts p.forms (procedures_lambdas p.library) = g ∙ ap (starts p.forms) n in
    rw (a, l, program_bodies p before after d e, t, s, h) refl
