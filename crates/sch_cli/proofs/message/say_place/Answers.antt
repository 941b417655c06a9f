use Rattle.sch_cli.proofs.message.say_place.Goals as goal

pub returns-clause-line : goal.returns-clause-line
returns-clause-line g c = rw (c.as_bytes.ensures.value, c.as_bytes-2.ensures.value, c.as_bytes-3.ensures.value) at c.say_pieces.ensures.line
