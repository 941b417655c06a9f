use Rattle.std.proofs.Common.{false, sym, subst}
use Rattle.sch_count.specs.Tallied.{Tallies}
use Rattle.sch_count.proofs.RunMarks.{settled_room}
use Rattle.sch_count.proofs.TallySteps.{enters_next, resumes}
use Rattle.sch_count.proofs.tally.Tally.settle.Goals as goal

pub returns-in-Enter-clause-room : goal.returns-in-Enter-clause-room
returns-in-Enter-clause-room c = settled_room c.args.mark c.args.self.now (record { rows = c.args.self.now.rows; current = c.args.self.now.current; suspended = c.args.self.now.suspended; handed_over = false })
    (λ a over h. enters_next c.args.self.now a over c.args.mark c.in-Enter.field-0 c.in-Enter.is h)

pub returns-in_default-clause-tallies : goal.returns-in_default-clause-tallies
returns-in_default-clause-tallies c = λ a over h.
    let s = resumes c.args.mark c.args.self.now a over c.in_default.not-Enter c.if-not-self.false h in
    subst (λ b. Tallies c.resume.new.self b over) (sym s.0) (c.resume.ensures.tallies a over s.1 h)

pub returns-in_default-clause-room : goal.returns-in_default-clause-room
returns-in_default-clause-room c = settled_room c.args.mark c.args.self.now c.resume.new.self (λ a over h.
    let s = resumes c.args.mark c.args.self.now a over c.in_default.not-Enter c.if-not-self.false h in
    subst (λ b. Tallies c.resume.new.self b over) (sym s.0) (c.resume.ensures.tallies a over s.1 h))
