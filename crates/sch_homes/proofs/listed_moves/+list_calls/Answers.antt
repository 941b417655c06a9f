use Rattle.sch_homes.proofs.listed_moves.+list_calls.Goals as goal

pub returns-in-Call : goal.returns-in-Call
returns-in-Call g t c = rw c.in-Call.is c.list_call.ensures

pub returns-in-TailCall : goal.returns-in-TailCall
returns-in-TailCall g t c = rw c.in-TailCall.is c.list_call-in-TailCall.ensures
