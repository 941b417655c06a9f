use Rattle.std.proofs.Common.{◌≡◌, ◌*◌, ◌+◌, ◌%◌, true, refl, arith, sym, ◌∙◌}
use Rattle.std.specs.Prelude.{nat_le}
use Rattle.std.proofs.lemmas.Bool.Decides.{nat_tests}
use Rattle.sch_sets.proofs.WordSets.{contains-word}
use Rattle.sch_sets.proofs.Set.members_in_word.Goals as goal

pub returns-then-word-from : goal.returns-then-word-from
returns-then-word-from g c k low =
    let after : nat_le c.args.from (64 * c.args.word + k) ≡ true = let l = c.if-word-from.true in grind (arith, nat_tests, l) in
    rw (← c.self.view_is, after) (sym (contains-word c.self.inside.words c.args.word k low))

pub returns-then-word-from-2 : goal.returns-then-word-from-2
returns-then-word-from-2 g c k low =
    let same : nat_le (c.args.from % 64) k ≡ nat_le c.args.from (64 * c.args.word + k) = let e = c.if-word-from-2.true in grind (arith, nat_tests, e) in
    c.bits_from.ensures k low ∙ rw (← c.self.view_is, ← same, contains-word c.self.inside.words c.args.word k low) refl
