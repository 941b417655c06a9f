use Rattle.std.proofs.Common.{◌≡◌, List, ℕ, rules, subst, sym}
use Rattle.sch_print.specs.Printed.{datum_text, IsTextOf}
use Rattle.sch_read.specs.Views.{tree_of}
use Rattle.sch_print.proofs.RoundTrip.{printed_spells}
use Rattle.sch_print.proofs.printer.print.Goals as goal

pub returns-clause-again : goal.returns-clause-again
returns-clause-again c valid deep =
    let tree = tree_of c.args.d.now in
    let text : c.write_datum.new.out ≡ datum_text tree = search rules in
    let P : List ℕ → Type 0 = λ v. IsTextOf tree v in
    subst P (sym text) (printed_spells tree deep valid c.in_ok-write_datum.ensures.fixnums)
