use Rattle.std.proofs.Common.{◌-◌, ◌^◌, ◌<◌, length, take, arith}
use Rattle.std.specs.Str.Parse.{digits_value}
use Rattle.std.proofs.lemmas.Int.Digits.{digits_value_more}
use Rattle.sch_read.proofs.CappedDigits.{capped_step}
use Rattle.sch_read.proofs.numeral.magnitude.Goals as goal

pub loop-b-preserved : goal.loop-b-preserved
loop-b-preserved c =
    let within : c.loop-b.b-index < length c.args.digits.now = omega arith in
    let more = digits_value_more c.args.base c.args.digits.now c.loop-b.b-index within in
    let step = capped_step (digits_value c.args.base (take c.loop-b.b-index c.args.digits.now)) c.args.base c.digit_value.result (2 ^ 64 - 1) c.requires in
    cc
