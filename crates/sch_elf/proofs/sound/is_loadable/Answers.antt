use Rattle.std.proofs.Common.{◌≡◌, arith, rules, true}
use Rattle.sch_elf.proofs.sound.is_loadable.Goals as goal

pub returns : goal.returns
returns c =
    let has : c.has_contents.result ≡ true = search rules in
    let placed : c.is_placed.result ≡ true = search rules in
    let contents = c.has_contents.ensures.0 has in
    let place = c.is_placed.ensures.0 placed in (
      λ yes. record {
        fills = contents.0;
        inside = contents.1;
        aligned = place.0;
        ends = place.1;
        apart = c.is_apart.ensures.0 yes;
        few = omega arith;
      },
      λ loadable. c.is_apart.ensures.1 loadable.apart,
    )
