use Rattle.std.proofs.Common.{arith}
use Rattle.sch_names.specs.NamesView.{globals_of}
use Rattle.sch_sketch.proofs.Sketches.{text_view}
use Rattle.sch_expansion.proofs.Stacks.{at_datum, smaller_datum}
use Rattle.sch_expansion.proofs.walk.Walk.outlined.Goals as goal

pub returns-in_ok-k-in-Text-clause-reads : goal.returns-in_ok-k-in-Text-clause-reads
returns-in_ok-k-in-Text-clause-reads c = λ n t a b e r. at_datum (globals_of c.args.globals.now) (text_view _ c.in-Text.is) c.in_ok-k-in-Text.ensures r

pub returns-in_ok-k-in-Text-clause-smaller : goal.returns-in_ok-k-in-Text-clause-smaller
returns-in_ok-k-in-Text-clause-smaller c =
    omega (arith, smaller_datum (globals_of c.args.globals.now) c.args.self.now.scope 0 (text_view _ c.in-Text.is) c.in_ok-k-in-Text.ensures)
