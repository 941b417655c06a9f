use Rattle.std.proofs.Common.{◌≡◌, ◌++◌, rules, sym, ap, ◌∙◌}
use Rattle.sch_read.specs.Grammar.{with_tail, list, dotted}
use Rattle.sch_read.specs.Views.{tree_of, data_of}
use Rattle.sch_read.specs.declared.datum.Datum.{the_lemmas}
use Rattle.sch_read.proofs.DataLists.{data_of_append}
use Rattle.sch_read.proofs.trees.tailed.Goals as goal

pub returns-in-None : goal.returns-in-None
returns-in-None c =
    let items : c.append.new.self ≡ c.args.items ++ c.in-List.more = search rules in
    let tree : tree_of c.args.last ≡ list c.args.last.at (data_of c.in-List.more) = search (rules, the_lemmas) in
    c.listed.ensures ∙ ap (λ v. list c.args.at (data_of v)) items ∙ ap (list c.args.at) (data_of_append c.args.items c.in-List.more)
    ∙ ap (with_tail c.args.at (data_of c.args.items)) (sym tree)

pub returns-in-Some : goal.returns-in-Some
returns-in-Some c =
    let items : c.append.new.self ≡ c.args.items ++ c.in-List.more = search rules in
    let tree : tree_of c.args.last ≡ dotted c.args.last.at (data_of c.in-List.more) (tree_of c.in-Some.tip.value) = search (rules, the_lemmas) in
    let tip = tree_of c.in-Some.tip.value in
    c.dotted.ensures ∙ ap (λ v. dotted c.args.at (data_of v) tip) items ∙ ap (λ v. dotted c.args.at v tip) (data_of_append c.args.items c.in-List.more)
    ∙ ap (with_tail c.args.at (data_of c.args.items)) (sym tree)
