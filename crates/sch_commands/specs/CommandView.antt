-- A command of the code as one of the definitions.
use Rattle.std.specs.Option.{option_map}
use Rattle.sch_commands.specs.Command as commands
use Rattle.sch_commands.specs.declared.command.Command.{Command}
use Rattle.sch_commands.specs.declared.command.Command.TheVariants.{Compile, Run, Step, Generate, List, Count}

abbrev pub command_of : Command → commands.Command
command_of (Compile wanted) =
    commands.compile wanted.source.now wanted.target.now (option_map (λ name. name.now) wanted.listing) wanted.limits.heap wanted.limits.depth
command_of (Run wanted) = commands.run wanted.source.now wanted.limits.heap wanted.limits.depth wanted.steps
command_of (Step image steps) = commands.step image.now steps
command_of (Generate number steps) = commands.gen number steps
command_of (List source limits) = commands.list source.now limits.heap limits.depth
command_of (Count wanted) = commands.count wanted.source.now wanted.limits.heap wanted.limits.depth wanted.steps
