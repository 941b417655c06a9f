use Rattle.std.proofs.Common.{rules, ◌≡◌, ◌++◌, [], ◌∷◌}
use Rattle.std.specs.Prelude.{codes}
use Rattle.sch_read.specs.Grammar.{list, dotted, vector}
use Rattle.sch_read.specs.Views.{tree_of, data_of}
use Rattle.sch_read.specs.declared.datum.Datum.{the_lemmas}
use Rattle.sch_print.specs.declared.printer.Task.TheVariants.{Dotted, Close}
use Rattle.sch_print.proofs.PrinterTasks.{Began, list_began, vector_began, dotted_began}
use Rattle.sch_print.proofs.printer.write_one.Goals as goal

list_done : (c : goal.In_ok-push_items-in-List-default-None) → Began (tree_of c.args.d.now) c.args.out.now c.args.tasks.now.items c.push.new.self c.push_items.new.tasks.items
list_done c =
    let xs = data_of c.as_slice.result.now in
    let tree : tree_of c.args.d.now ≡ list c.args.d.now.at xs = search (rules, the_lemmas) in
    let out : c.push.new.self ≡ c.args.out.now ++ codes "(" = search rules in
    let close : c.push-in-List-default-None.new.self.items ≡ c.args.tasks.now.items ++ Close ∷ [] = search rules in
    list_began _ _ xs _ _ _ c.push-in-List-default-None.new.self.items _ tree out close c.in_ok-push_items-in-List-default-None.ensures

dotted_done : (c : goal.In_ok-push_items-in-List-default-Some)
    → Began (tree_of c.args.d.now) c.args.out.now c.args.tasks.now.items c.push-in-List-default-Some.new.self c.push_items-in-List-default-Some.new.tasks.items
dotted_done c =
    let xs = data_of c.as_slice-in-List-default-Some.result.now in
    let last = c.deref.result in
    let tree : tree_of c.args.d.now ≡ dotted c.args.d.now.at xs (tree_of last.now) = search (rules, the_lemmas) in
    let out : c.push-in-List-default-Some.new.self ≡ c.args.out.now ++ codes "(" = search rules in
    let close : c.push-in-List-default-Some-2.new.self.items ≡ c.args.tasks.now.items ++ Close ∷ [] = search rules in
    let behind : c.push-in-List-default-Some-3.new.self.items ≡ c.push-in-List-default-Some-2.new.self.items ++ Dotted last ∷ [] = search rules in
    dotted_began _ _ xs last _ _ _ _ _ _ tree out close behind c.in_ok-push_items-in-List-default-Some.ensures

vector_done : (c : goal.In_ok-push_items-in-Vector) → Began (tree_of c.args.d.now) c.args.out.now c.args.tasks.now.items c.extend_from_slice.new.self c.push_items-in-Vector.new.tasks.items
vector_done c =
    let xs = data_of c.as_slice-in-Vector.result.now in
    let tree : tree_of c.args.d.now ≡ vector c.args.d.now.at xs = search (rules, the_lemmas) in
    let out : c.extend_from_slice.new.self ≡ c.args.out.now ++ codes "#(" = search rules in
    let close : c.push-in-Vector.new.self.items ≡ c.args.tasks.now.items ++ Close ∷ [] = search rules in
    vector_began _ _ xs _ _ _ _ _ tree out close c.in_ok-push_items-in-Vector.ensures

pub returns-in_ok-push_items-in-List-default-None-clause-text : goal.returns-in_ok-push_items-in-List-default-None-clause-text
returns-in_ok-push_items-in-List-default-None-clause-text c = (list_done c).text

pub returns-in_ok-push_items-in-List-default-None-clause-fixnums : goal.returns-in_ok-push_items-in-List-default-None-clause-fixnums
returns-in_ok-push_items-in-List-default-None-clause-fixnums c = (list_done c).fixnums

pub returns-in_ok-push_items-in-List-default-None-clause-less : goal.returns-in_ok-push_items-in-List-default-None-clause-less
returns-in_ok-push_items-in-List-default-None-clause-less c = (list_done c).less

pub returns-in_ok-push_items-in-List-default-Some-clause-text : goal.returns-in_ok-push_items-in-List-default-Some-clause-text
returns-in_ok-push_items-in-List-default-Some-clause-text c = (dotted_done c).text

pub returns-in_ok-push_items-in-List-default-Some-clause-fixnums : goal.returns-in_ok-push_items-in-List-default-Some-clause-fixnums
returns-in_ok-push_items-in-List-default-Some-clause-fixnums c = (dotted_done c).fixnums

pub returns-in_ok-push_items-in-List-default-Some-clause-less : goal.returns-in_ok-push_items-in-List-default-Some-clause-less
returns-in_ok-push_items-in-List-default-Some-clause-less c = (dotted_done c).less

pub returns-in_ok-push_items-in-Vector-clause-text : goal.returns-in_ok-push_items-in-Vector-clause-text
returns-in_ok-push_items-in-Vector-clause-text c = (vector_done c).text

pub returns-in_ok-push_items-in-Vector-clause-fixnums : goal.returns-in_ok-push_items-in-Vector-clause-fixnums
returns-in_ok-push_items-in-Vector-clause-fixnums c = (vector_done c).fixnums

pub returns-in_ok-push_items-in-Vector-clause-less : goal.returns-in_ok-push_items-in-Vector-clause-less
returns-in_ok-push_items-in-Vector-clause-less c = (vector_done c).less
