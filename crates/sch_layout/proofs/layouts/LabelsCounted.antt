-- A layout has two labels for each test of the body that it is made of, whatever was put into the body's tree.
use Rattle.std.proofs.Common.{◌≡◌, ◌*◌, refl, arith}
use Rattle.sch_control.specs.Sizes.{tests_in}
use Rattle.sch_control.specs.Tree.{Expression, perform, bind, sequence, branch, fix, call, tail_call, return, end, save}
use Rattle.sch_control.specs.flow.Bare.{erased}
use Rattle.sch_layout.specs.BodyLayout.{labels}

pub labels_counted : (e : Expression) → labels e ≡ 2 * tests_in (erased e)
labels_counted (perform o) = refl
labels_counted (bind x a b) = let p = labels_counted a in let q = labels_counted b in omega (arith, p, q)
labels_counted (sequence a b) = let p = labels_counted a in let q = labels_counted b in omega (arith, p, q)
labels_counted (branch a b c) = let p = labels_counted a in let q = labels_counted b in let r = labels_counted c in omega (arith, p, q, r)
labels_counted (fix members e) = labels_counted e
labels_counted (call a restores) = refl
labels_counted (tail_call a) = refl
labels_counted (return e) = labels_counted e
labels_counted (end e) = labels_counted e
labels_counted (save saves e) = labels_counted e
