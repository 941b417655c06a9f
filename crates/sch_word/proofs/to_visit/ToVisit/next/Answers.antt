use Rattle.std.proofs.Common.{rules, ◌≡◌, [], ◌∷◌, ◌++◌, length}
use Rattle.sch_word.proofs.Visits.{slice_popped}
use Rattle.sch_word.proofs.facts.Lists.{length_none}
use Rattle.sch_word.proofs.to_visit.ToVisit.next.Goals as goal

pub each-preserved : goal.each-preserved
each-preserved g c =
    let n : length c.each.self-inside.items.now ≡ 0 = search rules in
    let b : c.each.self-inside.behind.items ≡ c.pop.new.self.items ++ c.in-Some.items ∷ [] = search rules in
    slice_popped c.each.self-inside.items.now c.each.self-inside.behind.items c.pop.new.self.items c.in-Some.items _ (length_none _ n) b c.each.invariant
