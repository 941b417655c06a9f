use Rattle.std.proofs.Common.{◌∙◌, ap, sym}
use Rattle.std.specs.List.{list_any}
use Rattle.sch_layout.specs.BodyLayout.{atom_at, operand_at}
use Rattle.sch_shuffle.specs.Tree.{uses}
use Rattle.sch_homes.specs.CallMoves.{atom_tree, operand_tree}
use Rattle.sch_homes.specs.HomeTable.{place_in}
use Rattle.sch_homes.proofs.StraightCalls.{one_of_atoms}
use Rattle.sch_homes.proofs.straight_calls.operand_uses.Goals as goal

pub returns-in-Read : goal.returns-in-Read
returns-in-Read c =
    let lives = place_in c.args.lives.now.places.now in
    c.atoms_use.ensures
    ∙ (ap (list_any (λ a. uses (atom_tree (atom_at lives a)) c.args.p)) c.as_slice.ensures
    ∙ (one_of_atoms lives c.args.p c.in-Read.atoms ∙ ap (λ o. uses (operand_tree (operand_at lives o)) c.args.p) (sym c.in-Read.is)))
