use Rattle.std.proofs.Common.{◌≡◌, ℕ, List, Option, ◌++◌, take, subst}
use Rattle.sch_io.specs.Told.{Tells}
use Rattle.sch_cli.proofs.LineParts.{says_both, says_first}
use Rattle.sch_cli.proofs.message.say.Goals as goal

abbrev Whole : Option (List ℕ) → Option (List ℕ) → List ℕ → Type 0
Whole before after piece = Tells before after (λ b a. a ≡ b ++ piece)

abbrev Front : Option (List ℕ) → Option (List ℕ) → List ℕ → Type 0
Front before after piece = Tells before after (λ b a. (k : ℕ) × (a ≡ b ++ take k piece))

pub returns-then-put_all-clause-line : goal.returns-then-put_all-clause-line
returns-then-put_all-clause-line g c =
    let b0 = g.E.Outlet.bytes c.args.err.now in
    let b1 = g.E.Outlet.bytes c.put_all.new.out in
    let b2 = g.E.Outlet.bytes c.put_all-then-put_all.new.out in
    let s = c.as_bytes.ensures.value in
    let t = c.as_bytes-then-put_all.ensures.value in
    let second = c.put_all-then-put_all in
    says_both c.args.subject.now c.args.text.now b0 b1 b2 (g.E.Outlet.faults c.args.err.now) (g.E.Outlet.faults c.put_all.new.out) (g.E.Outlet.faults second.new.out) second.result
    (subst (Whole b0 b1) s (c.put_all.ensures.whole c.if-put_all.true)) (λ done. subst (Whole b1 b2) t (second.ensures.whole done))
    (subst (Front b1 b2) t second.ensures.front) second.ensures.failed_only_where_faults_rose c.put_all.ensures.faults

pub returns-else-put_all-clause-line : goal.returns-else-put_all-clause-line
returns-else-put_all-clause-line g c =
    let b0 = g.E.Outlet.bytes c.args.err.now in
    let b1 = g.E.Outlet.bytes c.put_all.new.out in
    says_first c.args.subject.now c.args.text.now b0 b1 (g.E.Outlet.faults c.args.err.now) (g.E.Outlet.faults c.put_all.new.out)
    (subst (Front b0 b1) c.as_bytes.ensures.value c.put_all.ensures.front) (c.put_all.ensures.failed_only_where_faults_rose c.if-put_all.false)
