use Rattle.std.proofs.Common.{refl, length, ◌∙◌, rules}
use Rattle.sch_cells.specs.declared.tree.Exp.TheFolds.{the_lemmas}
use Rattle.std.proofs.lemmas.List.{length-set}
use Rattle.sch_assign.proofs.Loops.{mark_start, mark_lambdas_start, within_start, within_lambdas_start}
use Rattle.sch_assign.proofs.marking.+marking.Goals as goal

pub mark_each-loop-e-init : goal.mark_each-loop-e-init
mark_each-loop-e-init t c =
    let items = c.as_slice-e-items.result.now in
    record {
      ahead = mark_start items c.args.celled.now.items;
      size = refl;
      within = within_start (length c.args.celled.now.items) items c.args.es.now c.as_slice-e-items.ensures c.requires.within;
    }

pub mark_lambdas-loop-l-init : goal.mark_lambdas-loop-l-init
mark_lambdas-loop-l-init t c =
    let items = c.as_slice-l-items.result.now in
    record {
      ahead = mark_lambdas_start items c.args.celled.now.items;
      size = refl;
      within = within_lambdas_start (length c.args.celled.now.items) items c.args.ls.now c.as_slice-l-items.ensures c.requires.within;
    }

-- ## What calls ask for

pub mark-mark-requires : goal.mark-mark-requires
mark-mark-requires t c = (search (rules, the_lemmas), (rw (c.deref.ensures, length-set) (rw c.in-SetVar.is at c.requires.within).1, rw (length-set) c.requires.small))

pub mark-mark-requires-in-If-2 : goal.mark-mark-requires-in-If-2
mark-mark-requires-in-If-2 t c = (search (rules, the_lemmas), (rw (c.deref-in-If-2.ensures, c.mark-in-If.ensures.size) (rw c.in-If.is at c.requires.within).1, rw (c.mark-in-If.ensures.size) c.requires.small))

pub mark-mark-requires-in-If-3 : goal.mark-mark-requires-in-If-3
mark-mark-requires-in-If-3 t c = (search (rules, the_lemmas), (rw (c.deref-in-If-3.ensures, c.mark-in-If-2.ensures.size ∙ c.mark-in-If.ensures.size) (rw c.in-If.is at c.requires.within).2, rw (c.mark-in-If-2.ensures.size ∙ c.mark-in-If.ensures.size) c.requires.small))

pub mark-mark-requires-in-Let : goal.mark-mark-requires-in-Let
mark-mark-requires-in-Let t c = (search (rules, the_lemmas), (rw (c.deref-in-Let.ensures, c.mark_each-in-Let.ensures.size) (rw c.in-Let.is at c.requires.within).2, rw (c.mark_each-in-Let.ensures.size) c.requires.small))

pub mark-mark-requires-in-Fix : goal.mark-mark-requires-in-Fix
mark-mark-requires-in-Fix t c = (search (rules, the_lemmas), (rw (c.deref-in-Fix.ensures, c.mark_lambdas.ensures.size) (rw c.in-Fix.is at c.requires.within).2, rw (c.mark_lambdas.ensures.size) c.requires.small))

pub mark-mark_each-requires-in-Rec : goal.mark-mark_each-requires-in-Rec
mark-mark_each-requires-in-Rec t c = (search (rules, the_lemmas), (rw (c.mark_group.ensures.size) (rw c.in-Rec.is at c.requires.within).0, rw (c.mark_group.ensures.size) c.requires.small))

pub mark-mark-requires-in-Rec : goal.mark-mark-requires-in-Rec
mark-mark-requires-in-Rec t c = (search (rules, the_lemmas), (rw (c.deref-in-Rec.ensures, c.mark_each-in-Rec.ensures.size ∙ c.mark_group.ensures.size) (rw c.in-Rec.is at c.requires.within).2, rw (c.mark_each-in-Rec.ensures.size ∙ c.mark_group.ensures.size) c.requires.small))

pub mark-mark_each-requires-in-Call : goal.mark-mark_each-requires-in-Call
mark-mark_each-requires-in-Call t c = (search (rules, the_lemmas), (rw (c.mark-in-Call.ensures.size) (rw c.in-Call.is at c.requires.within).1, rw (c.mark-in-Call.ensures.size) c.requires.small))
