use Rattle.std.proofs.Common.{length, sym, ap, ◌∙◌, arith}
use Rattle.sch_link_program.specs.Definitions.{definition_of}
use Rattle.sch_core.proofs.sizes.SmallBodies.{small_definition}
use Rattle.sch_core.proofs.definitions.definition_excess.Goals as goal

pub returns-then-is_small : goal.returns-then-is_small
returns-then-is_small c = sym (small_definition (definition_of c.args.d.now) (sym c.is_small.ensures ∙ c.if-is_small.true))

pub number-requires : goal.number-requires
number-requires c =
    let names = ap length c.new-none.ensures in
    let sites = ap length c.new-out.ensures.sites in
    let literals = ap length c.new-out.ensures.literals in
    record {
      names = (omega (arith, names), omega (arith, names));
      room = record { sites = omega (arith, sites, c.requires.few); literals = omega (arith, literals, c.requires.few) };
      variables = c.requires.variables;
    }
