use Rattle.std.proofs.Common.{◌++◌, ◌∷◌, [], None, map, refl, ap, sym, ◌∙◌, subst, append-nil}
use Rattle.std.proofs.lemmas.List.{drop_all}
use Rattle.sch_read.specs.Views.{data_of}
use Rattle.sch_names.specs.ScopeView.{given_names}
use Rattle.sch_sketch.specs.DraftView.{draft_of}
use Rattle.sch_toplevel.specs.Items.{item_names, ItemsRead}
use Rattle.sch_toplevel.proofs.ItemSteps.{next_item_name, next_item, one_draft_more}
use Rattle.sch_toplevel.proofs.items.read_items.Goals as goal

pub loop-d-preserved : goal.loop-d-preserved
loop-d-preserved c =
    let items = c.args.items.now in
    let e = c.in_ok-e.e in
    let made = c.in_ok-e.ensures in
    record {
      own = made.own ∙ c.loop-d.invariant.own;
      internal = made.internal ∙ c.loop-d.invariant.internal;
      names = next_item_name items c.loop-d.d-index c.d-item.result _ _ _ c.loop-d-test.true c.d-item.is made.name c.loop-d.invariant.names;
      reads = λ b es r.
          subst (λ l. ItemsRead [] (data_of items) None b l) (sym (ap (λ l. map draft_of l ++ es) c.in_ok-push.ensures.ok ∙ one_draft_more c.loop-d.drafts e es))
          (c.loop-d.invariant.reads b (draft_of e ∷ es)
          (next_item items c.loop-d.d-index c.d-item.result _ _ _ _ _ _ b (draft_of e) es c.loop-d-test.true c.d-item.is made.bound (made.own ∙ c.loop-d.invariant.own)
          (made.internal ∙ c.loop-d.invariant.internal) made.reads r));
    }

pub returns-clause-names : goal.returns-clause-names
returns-clause-names c =
    sym (append-nil (given_names c.loop-d.names)) ∙ (ap (λ l. given_names c.loop-d.names ++ item_names (data_of l)) (sym (drop_all c.loop-d.d-index c.args.items.now c.loop-d-test.false)) ∙ c.loop-d.invariant.names)

pub returns-clause-reads : goal.returns-clause-reads
returns-clause-reads c =
    subst (λ l. ItemsRead [] (data_of c.args.items.now) None c.loop-d.fault l) (append-nil (map draft_of c.loop-d.drafts))
    (c.loop-d.invariant.reads c.loop-d.fault [] (rw (drop_all c.loop-d.d-index c.args.items.now c.loop-d-test.false) (refl, refl)))
