use Rattle.std.proofs.Common.{◌≡◌, ◌∙◌, sym, subst, true, arith, length, ◌<◌}
use Rattle.std.specs.Char.{is_ascii_digit}
use Rattle.std.specs.List.{list_all}
use Rattle.sch_commands.proofs.Digits.{not_empty, parse-digits}
use Rattle.sch_commands.proofs.command.read_number.Goals as goal

pub returns-in-Err : goal.returns-in-Err
returns-in-Err c =
    let all = subst (λ bytes. list_all is_ascii_digit bytes ≡ true) c.as_bytes.ensures.value (sym c.are_digits.ensures ∙ c.if-not-are_digits.false) in
    let some : 0 < length c.args.digits.now = not_empty (length c.args.digits.now) (sym c.is_empty.ensures ∙ c.if-is_empty.false) in
    let is = parse-digits c.args.digits.now c.parse.result c.parse.ensures.value.0 all some (omega (arith, c.if-digits-gt-MAX_DIGITS.false)) in
    let failed = c.in-Err.is in
    absurd cc
