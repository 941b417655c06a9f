use Rattle.std.proofs.Common.{◌≡◌, ◌<◌, ◌+◌, ◌++◌, ◌∷◌, drop, length, rules, arith, ap, sym, ◌∙◌}
use Rattle.std.specs.List.{flat_map}
use Rattle.std.proofs.lemmas.List.{drop_more}
use Rattle.sch_elf.specs.Writing.{load, need, placed, program_header_bytes}
use Rattle.sch_elf.proofs.FileOfImage.{headers_step}
use Rattle.sch_elf.proofs.write.put_program_headers.Goals as goal

pub loop-segment-preserved : goal.loop-segment-preserved
loop-segment-preserved c =
    let i = c.loop-segment.segment-index in
    let all = c.args.segments.now in
    let segment = c.segment-item.result in
    let within : i < length all = omega arith in
    let cut : drop i all ≡ segment ∷ drop (i + 1) all = drop_more all i segment within ∙ ap (λ s. s ∷ drop (i + 1) all) (sym c.segment-item.is) in
    let end = c.loop-segment.end in
    let file = c.loop-segment.file.items in
    let offset = c.next_offset-offset.result in
    let written : c.put_program_header.new.file.items ≡ file ++ program_header_bytes (load offset segment) = search rules in (
      headers_step file c.put_program_header.new.file.items end offset c.len.result segment (drop (i + 1) all) c.next_offset-offset.ensures.value c.len.ensures written
          ∙ ap (λ s. file ++ flat_map program_header_bytes (placed end s)) (sym cut) ∙ c.loop-segment.invariant.0,
      omega (arith, ap need cut, c.next_offset-offset.ensures.near, c.len.ensures),
    )
