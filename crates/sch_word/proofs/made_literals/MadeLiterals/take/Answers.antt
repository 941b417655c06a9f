use Rattle.std.proofs.Common.{rules, ◌≡◌, ◌+◌, ◌-◌, length, reverse, ap, ◌∙◌, arith}
use Rattle.sch_word.proofs.values.LiteralSteps.{made_taken, made_left, made_count}
use Rattle.sch_word.proofs.made_literals.MadeLiterals.take.Goals as goal

pub returns-clause-taken : goal.returns-clause-taken
returns-clause-taken c =
    let items = c.args.self.now.items.items in
    let l : c.len.result ≡ length items = search rules in
    let e : c.args.count + (c.len.result - c.args.count) ≡ length items = let q = c.requires in omega (arith, l, q, made_count items) in
    made_taken items c.from_vec.result c.args.count (c.len.result - c.args.count) e (c.from_vec.ensures ∙ c.reverse.ensures.items ∙ ap reverse c.in_ok-taken.ensures.tail)

pub returns-clause-left : goal.returns-clause-left
returns-clause-left c =
    let items = c.args.self.now.items.items in
    let l : c.len.result ≡ length items = search rules in
    let e : c.args.count + (c.len.result - c.args.count) ≡ length items = let q = c.requires in omega (arith, l, q, made_count items) in
    made_left items c.split_off.new.self.items c.args.count (c.len.result - c.args.count) e c.in_ok-taken.ensures.items
