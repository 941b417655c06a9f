use Rattle.std.proofs.Common.{◌≡◌, ◌%◌, length, sym, ap, subst, ◌∙◌, arith}
use Rattle.std.specs.Prelude.{OnOk}
use Rattle.sch_select_data.proofs.literals.ReversedWords.{filled_even, filled_odd}
use Rattle.sch_select_data.proofs.contents.fill_units.Goals as goal

pub returns-then-len-eq1 : goal.returns-then-len-eq1
returns-then-len-eq1 c =
    let odd : length c.args.words.now % 2 ≡ 1 = sym (ap (λ n. n % 2) c.len.ensures) ∙ c.if-len-eq1.true in
    subst (λ l. OnOk c.push.result (c.push.new.self ≡ l)) (sym (filled_odd c.args.words.now odd)) c.push.ensures.ok

pub returns : goal.returns
returns c =
    let n = c.len.ensures in
    let not_odd = c.if-len-eq1.false in
    sym (filled_even c.args.words.now (omega arith))
