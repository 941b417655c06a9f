use Rattle.sch_link_program.proofs.program.assemble.Goals as goal

pub program_of_needed-requires : goal.program_of_needed-requires
program_of_needed-requires c =
    let named = c.in_ok-named.ensures in
    record {
      formals = c.requires.formals;
      few = c.requires.few;
      small = c.requires.small;
      few_symbols = c.requires.few_symbols;
      bodies = c.requires.bodies;
      variables = c.requires.variables;
      globals = named.globals;
      symbols = named.symbols;
      listed = named.listed;
    }
