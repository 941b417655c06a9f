use Rattle.std.proofs.Common.{[], subst}
use Rattle.std.specs.Prelude.{IfOk}
use Rattle.sch_names.specs.NamesView.{globals_of}
use Rattle.sch_sketch.specs.declared.sketch.Position.TheVariants.{Value}
use Rattle.sch_sketch.specs.DraftView.{draft_of}
use Rattle.sch_expansion.specs.Reads.{Reads}
use Rattle.sch_toplevel.proofs.texts.read_form.Goals as goal

pub returns : goal.returns
returns c =
    subst (λ k. IfOk c.read.result (λ e. Reads (globals_of c.args.globals.now) 1 [] Value k c.args.fault.now c.read.new.fault (draft_of e)))
    c.in_ok-k.ensures c.read.ensures
