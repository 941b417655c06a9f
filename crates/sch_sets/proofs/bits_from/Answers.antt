use Rattle.sch_sets.proofs.WordSets.{bit_from}
use Rattle.sch_sets.proofs.bits_from.Goals as goal

pub returns : goal.returns
returns c k low = bit_from c.args.word c.args.bit k c.ranges.word.fits c.requires low
