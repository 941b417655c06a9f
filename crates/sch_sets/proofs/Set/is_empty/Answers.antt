use Rattle.std.proofs.Common.{rules, arith, ◌∙◌, refl, sym}
use Rattle.sch_sets.specs.Members.{HasMember}
use Rattle.sch_sets.proofs.Membership.{none_of_empty}
use Rattle.sch_sets.proofs.WordSets.{numbers_in-zeros, numbers_in-member}
use Rattle.sch_sets.proofs.Set.is_empty.Goals as goal

pub returns-then-self-i-ne0 : goal.returns-then-self-i-ne0
returns-then-self-i-ne0 g c =
    let some : HasMember c.args.self.now =
    rw (← c.self.view_is) (numbers_in-member c.self.inside.words c.words.i (search rules) (search rules)) in
    record {
      empty = (λ e. absurd (cc), λ none. absurd (none_of_empty _ none some.0 some.1));
      member = some;
    }

pub returns : goal.returns
returns g c =
    let none = numbers_in-zeros c.self.inside.words (λ j h. c.words.invariant j (omega arith)) in
    record {
      empty = (λ _. sym c.self.view_is ∙ none, λ _. refl);
      member = tt;
    }
