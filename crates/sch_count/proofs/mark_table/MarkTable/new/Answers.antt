use Rattle.std.proofs.Common.{◌≡◌, ◌+◌, ◌++◌, ◌∷◌, [], nat_eq, take, get_or, sym, ap, ◌∙◌, subst, add-one}
use Rattle.std.specs.HashMap.{get}
use Rattle.std.proofs.Math.Seq.{take-suc}
use Rattle.sch_word.specs.declared.mark.MarkKind.TheVariants.{Enter}
use Rattle.sch_asm.specs.declared.item.Mark.{Mark}
use Rattle.sch_asm.specs.Stands.{marks_at}
use Rattle.sch_count.specs.MarkTables.{entered_at}
use Rattle.sch_count.proofs.AddressMarks.{put_more, taken_out}
use Rattle.sch_count.proofs.mark_table.MarkTable.new.Goals as goal

pub loop-mark-preserved : goal.loop-mark-preserved
loop-mark-preserved c =
    let marks = c.args.marks.now in
    let i = c.loop-mark.mark-index in
    let first : Mark = record { address = 0; kind = Enter 0 } in
    let m : Mark = get_or marks i first in
    let is : c.push.new.self ≡ entered_at (get nat_eq c.loop-mark.kinds m.address) ++ m.kind ∷ [] =
    c.in_ok-push.ensures.ok ∙ ap (λ l. l ++ m.kind ∷ []) (taken_out c.remove.result c.unwrap_or-here.result c.new.result c.new.ensures c.unwrap_or-here.ensures ∙ ap entered_at c.remove.ensures.value) in
    let next : take i marks ++ m ∷ [] ≡ take (i + 1) marks = sym (take-suc marks i first c.loop-mark-test.true) ∙ ap (λ n. take n marks) (sym (add-one i)) in
    λ a. subst (λ l. entered_at (get nat_eq c.insert.new.self a) ≡ marks_at l a) next
    (put_more (get nat_eq c.loop-mark.kinds) (get nat_eq c.remove.new.self) (get nat_eq c.insert.new.self) (take i marks) m c.push.new.self c.loop-mark.invariant
    (λ q. c.remove.ensures.updates.0 q) is (λ q. c.in_ok-insert.ensures.updates.0 q) a)
