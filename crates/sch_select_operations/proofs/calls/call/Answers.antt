use Rattle.std.proofs.Common.{◌∙◌}
use Rattle.std.proofs.lemmas.Result.{on_ok_weaker}
use Rattle.sch_select_operations.specs.CallCode.{close_code, enter_code, open_code}
use Rattle.sch_select_operations.proofs.calls.call.Goals as goal

pub returns : goal.returns
returns c =
    let words = c.args.words in let n = c.args.n in let count = c.args.count in
    on_ok_weaker c.close.result
    (λ h rest. h rest ∙ c.in_ok-enter_frame.ensures (close_code words n rest)
    ∙ c.in_ok-check_call.ensures (open_code words n (enter_code count (close_code words n rest))))
    c.close.ensures
