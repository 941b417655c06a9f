use Rattle.sch_control.proofs.NumberLists.{members_turn, members_end}
use Rattle.sch_control.proofs.set_lists.members_of.Goals as goal

pub members-preserved : goal.members-preserved
members-preserved g c =
    record { rest = members_turn c.args.s.now c.members.xs c.push.new.self _ c.members.from c.in-Some.x c.args.count c.in-Some.ensures c.in_ok-push.ensures.ok c.members.invariant.rest }

pub returns : goal.returns
returns g c = members_end c.args.s.now c.members.xs _ c.members.from c.args.count c.in_default.ensures c.members.invariant.rest
