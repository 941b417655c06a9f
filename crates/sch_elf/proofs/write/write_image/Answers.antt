use Rattle.std.proofs.Common.{◌≡◌, ◌++◌, length, rules, arith, ap, sym, subst}
use Rattle.std.specs.List.{flat_map}
use Rattle.sch_elf.specs.Stands.{StandsFor}
use Rattle.sch_elf.specs.Writing.{contents, file_header_bytes, need, placed, program_header_bytes, start}
use Rattle.sch_elf.proofs.FileOfImage.{need-le, headers_end, whole}
use Rattle.sch_elf.proofs.WrittenStands.{image_stands}
use Rattle.sch_elf.proofs.write.write_image.Goals as goal

pub room-requires-clause-room : goal.room-requires-clause-room
room-requires-clause-room c =
    let same : need c.as_slice-segments.result.now ≡ need c.args.image.now.segments = ap need c.as_slice-segments.ensures in
    omega (arith, same, need-le c.args.image.now.segments, c.args.image.now.laid_out.few, c.args.image.now.laid_out.total)

pub put_program_headers-requires-clause-room : goal.put_program_headers-requires-clause-room
put_program_headers-requires-clause-room c =
    let same : need c.as_slice-segments.result.now ≡ need c.args.image.now.segments = ap need c.as_slice-segments.ensures in
    omega (arith, same, need-le c.args.image.now.segments, c.args.image.now.laid_out.few, c.args.image.now.laid_out.total)

pub put_contents-requires : goal.put_contents-requires
put_contents-requires c =
    let all = c.as_slice-segments.result.now in
    let header : c.put_file_header.new.file.items ≡ file_header_bytes c.args.image.now.entry (length all) = search rules in
    let heads : c.put_program_headers.new.file.items ≡ c.put_file_header.new.file.items ++ flat_map program_header_bytes (placed (start all) all) = search rules in
    let same : need all ≡ need c.args.image.now.segments = ap need c.as_slice-segments.ensures in
    omega (arith, headers_end _ _ _ _ all header heads, same, ap length c.as_slice-segments.ensures, need-le c.args.image.now.segments, c.args.image.now.laid_out.few, c.args.image.now.laid_out.total)

pub returns-clause-bytes : goal.returns-clause-bytes
returns-clause-bytes c =
    let all = c.as_slice-segments.result.now in
    let header : c.put_file_header.new.file.items ≡ file_header_bytes c.args.image.now.entry (length all) = search rules in
    let heads : c.put_program_headers.new.file.items ≡ c.put_file_header.new.file.items ++ flat_map program_header_bytes (placed (start all) all) = search rules in
    let file : c.from_vec.result ≡ c.put_program_headers.new.file.items ++ contents (length c.put_program_headers.new.file.items) all = search rules in
    whole _ _ _ c.args.image.now all c.as_slice-segments.ensures header heads file

pub returns-clause-stands : goal.returns-clause-stands
returns-clause-stands c = subst (λ file. StandsFor file c.args.image.now) (sym (returns-clause-bytes c)) (image_stands c.args.image.now c.requires (search rules))
