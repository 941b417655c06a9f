-- What holds of a valid program without cells and the table of its variables that get cells.
use Rattle.std.proofs.Common.{◌≡◌, ℕ, ◌+◌, Bool, false, List, [], length, replicate, suc, zero, refl, sym, ap, ◌∙◌, subst}
use Rattle.std.specs.Prelude.{IsTrue, ◌||◌}
use Rattle.sch_word.specs.declared.statics.Statics as declared
use Rattle.sch_word.specs.values.StaticsView.{statics}
use Rattle.sch_cells.specs.declared.tree.Exp.{Exp}
use Rattle.sch_cells.specs.declared.tree.Lambda.{Lambda}
use Rattle.sch_cells.specs.SourceView.{source_of}
use Rattle.sch_cells.specs.Tree.{Source}
use Rattle.sch_cells.specs.Valid.{scoped, formed}
use Rattle.sch_cells.specs.View.{trees_of, lambdas_of}
use Rattle.sch_assign.specs.Celled.{celled_in, celled_each, celled_lambdas}
use Rattle.sch_assign.specs.Converted.{converted_each, converted_lambdas, converted_source}
use Rattle.sch_assign.specs.InRange.{EachInRange, LambdasInRange}
use Rattle.sch_assign.specs.Table.{table, each_marked, lambdas_marked}
use Rattle.sch_assign.proofs.kept.BodiesKept.{nothing_low}
use Rattle.sch_assign.proofs.ConversionIsRight.{program_right}
use Rattle.sch_assign.proofs.TableMarked.{each_in_range, lambdas_in_range, walked_each, walked_lambdas}

pub record WholeInRange (n : ℕ) (p : Source) : Type 0 where
  pub library : LambdasInRange n p.library
  pub forms : EachInRange n p.forms

pub in_range : (p : Source) (n : ℕ) → n ≡ p.variables → IsTrue (scoped p) → IsTrue (formed false p) → WholeInRange n p
in_range p n e s f =
    let r = program_right (celled_in p) p (λ y. refl) s f in
    subst (λ k. WholeInRange k p) (sym e) (record {
      library = lambdas_in_range (celled_in p) p.variables p.library [] r.library (nothing_low (celled_in p) p.variables);
      forms = each_in_range (celled_in p) p.variables p.forms [] r.forms (nothing_low (celled_in p) p.variables);
    })

no_cells_noted : (n y : ℕ) → table (replicate n false) y ≡ false
no_cells_noted zero y = refl
no_cells_noted (suc n) zero = refl
no_cells_noted (suc n) (suc y) = no_cells_noted n y

none_length : (n : ℕ) → length (replicate n false) ≡ n
none_length zero = refl
none_length (suc n) = ap suc (none_length n)

pub none_noted_length : (n : ℕ) (bs : List Bool) → bs ≡ replicate n false → length bs ≡ n
none_noted_length n bs e = ap length e ∙ none_length n

-- the table after the walks over a whole program
pub table_of : (p : Source) (first second third : List Bool) → IsTrue (scoped p) → IsTrue (formed false p) → first ≡ replicate p.variables false → second ≡ lambdas_marked p.library first → third ≡ each_marked p.forms second →
    (y : ℕ) → table third y ≡ celled_in p y
table_of p first second third s f a b c y =
    let n = p.variables in
    let w = in_range p n refl s f in
    let l : length first ≡ n = ap length a ∙ none_length n in
    let h = walked_lambdas (celled_in p) n p.library first w.library l in
    let k = walked_each (celled_in p) n p.forms (lambdas_marked p.library first) w.forms h.size in
    let start : table first y ≡ false = ap (λ bs. table bs y) a ∙ no_cells_noted n y in
    let middle : table (lambdas_marked p.library first) y ≡ celled_lambdas p.library y = h.at y ∙ ap (λ b. b || celled_lambdas p.library y) start in
    ap (λ bs. table bs y) (c ∙ ap (each_marked p.forms) b) ∙ k.at y ∙ ap (λ b. b || celled_each p.forms y) middle

-- a program from what its parts are
pub made_program : (has_cell : ℕ → Bool) (p : Source) (ready : declared.Statics) (library : List Lambda) (forms : List Exp) (sites : List ℕ) (n : ℕ) → n ≡ p.variables + p.variables →
    lambdas_of library ≡ converted_lambdas has_cell p.variables p.library → trees_of forms ≡ converted_each has_cell p.variables p.forms → statics ready ≡ p.statics → sites ≡ p.sites →
    source_of ready library forms sites n ≡ converted_source has_cell p.variables p
made_program has_cell p ready library forms sites n e l f s t = rw (s, l, f, t, e) refl
