use Rattle.std.proofs.Common.{◌≡◌, ◌++◌, ◌∷◌, [], rules, arith, sym, ap, ◌∙◌, below_more}
use Rattle.std.specs.Prelude.{filter}
use Rattle.sch_elf.specs.Elf.{first_headers, is_load}
use Rattle.sch_elf.specs.Stands.{IsSound}
use Rattle.sch_elf.proofs.ImageOfFile.{loads_more}
use Rattle.sch_elf.proofs.read.read_loads.Goals as goal

pub loop-index-preserved : goal.loop-index-preserved
loop-index-preserved c =
    let file = c.args.file.now in
    let i = c.loop-index.index in
    let found = c.in-Some.found in
    let kept : c.keep_load.new.loads.items ≡ c.loop-index.loads.items ++ filter is_load (found ∷ []) = search rules in (
      kept ∙ ap (λ l. l ++ filter is_load (found ∷ [])) c.loop-index.invariant.0
          ∙ ap (λ h. filter is_load (first_headers file i) ++ filter is_load (h ∷ [])) c.in-Some.ensures.some ∙ sym (loads_more file i),
      below_more (λ n. IsSound file n) i c.loop-index.invariant.1 c.in-Some.ensures.sound,
    )

pub returns-clause-sound : goal.returns-clause-sound
returns-clause-sound c = λ i within.
    c.loop-index.invariant.1 i (omega (arith, within, ap (λ h. h.e_phnum) c.requires.header))
