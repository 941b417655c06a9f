use Rattle.std.proofs.Common.{◌≡◌, ◌+◌, ap, sym, ◌∙◌, subst}
use Rattle.std.specs.Prelude.{slice_index_or}
use Rattle.sch_word.specs.values.LiteralParts.{plain, sizes, size_behind}
use Rattle.sch_word.specs.values.LiteralView.{literal}
use Rattle.sch_word.specs.values.Literals.{literal_size}
use Rattle.sch_word.proofs.values.LiteralEffort.{first_swapped}
use Rattle.sch_word.proofs.literal_release.swapped.Goals as goal

pub returns-clause-less : goal.returns-clause-less
returns-clause-less c =
    let kept : literal_size (literal c.replace-first.new.dest) ≡ 1 + (sizes (plain c.args.rest.items) + size_behind c.args.tail) =
    ap (λ l. literal_size (literal l)) c.replace-first.ensures.after ∙ c.kept-others.ensures ∙ ap (λ ls. 1 + (sizes (plain ls) + size_behind c.args.tail)) c.from_vec.ensures in
    first_swapped c.args.items.items c.replace-first.result c.replace-first.new.dest (sizes (plain c.args.rest.items)) (size_behind c.args.tail) c.requires
    (subst (λ x. x ≡ slice_index_or c.args.items.items 0 x) (sym c.replace-first.ensures.value) c.index_mut.ensures.value) kept
