-- Covered code is numbered to covered code, and no other code is.
use Rattle.std.proofs.Common.{◌≡◌, true, [], refl, ap}
use Rattle.std.specs.Prelude.{◌&&◌}
use Rattle.sch_word.specs.trees.Covered.{is_covered_node}
use Rattle.sch_word.proofs.Shaped.{equal_joins}
use Rattle.sch_lang.specs.Tree.{Lambdas, Source}
use Rattle.sch_lang.specs.Measures.{shape}
use Rattle.sch_lang.specs.InScope.{LambdasInScope, IsClosed}
use Rattle.sch_lang.specs.Covered as from
use Rattle.sch_cells.specs.Covered as to
use Rattle.sch_cells.specs.Measures as measures
use Rattle.sch_rename.specs.Made.{binds_lambdas, renamed_each, renamed_lambdas, renamed_source}
use Rattle.sch_rename.proofs.FreeKept.{counts_lambdas}
use Rattle.sch_rename.proofs.ShapesKept.{each_kept, lambdas_kept, shape_kept}

library_covered : (ls : Lambdas) → LambdasInScope ls 0 → to.is_covered_library (renamed_lambdas ls [] 0) ≡ from.is_covered_library ls
library_covered ls i =
    let k = lambdas_kept (equal_joins true (λ a b. a && b)) (λ e. is_covered_node (shape e)) (λ e. is_covered_node (measures.shape e))
    (λ e s x f i. ap is_covered_node (shape_kept e s x f i)) ls [] 0 tt i in
    rw (counts_lambdas ls [] 0, k) refl

pub covered_kept : (p : Source) → IsClosed p → to.is_covered_program (renamed_source p) ≡ from.is_covered_program p
covered_kept p c =
    let k : to.are_covered (renamed_each p.forms [] (binds_lambdas p.library)) ≡ from.are_covered p.forms =
    each_kept (equal_joins true (λ a b. a && b)) (λ e. is_covered_node (shape e)) (λ e. is_covered_node (measures.shape e))
    (λ e s x f i. ap is_covered_node (shape_kept e s x f i)) p.forms [] (binds_lambdas p.library) tt c.forms in
    rw (library_covered p.library c.library, k) refl
