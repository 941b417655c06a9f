use Rattle.std.proofs.Common.{◌≡◌, ◌≤◌, ◌+◌, map, length, ap, sym, subst, ◌∙◌}
use Rattle.std.specs.Prelude.{All, sum_by}
use Rattle.sch_elf.specs.Constants.{max_image_size}
use Rattle.sch_elf.specs.Elf.{file_header}
use Rattle.sch_elf.specs.Layout.{IsImageLayout}
use Rattle.sch_elf.specs.Stands.{loads, file_segment}
use Rattle.sch_elf.specs.declared.header.ProgramHeader.{ProgramHeader}
use Rattle.sch_elf.proofs.ImageOfFile.{all_loadable, laid_out_read, same_image}
use Rattle.sch_elf.proofs.read.read_image.Goals as goal

pub read_segments-requires : goal.read_segments-requires
read_segments-requires c =
    let file = c.args.file.now in
    let heads : c.deref-2.result.now ≡ loads file = c.deref-2.ensures.value ∙ c.in_ok-loads.ensures.loads in
    subst (λ l. All (λ (h : ProgramHeader). (h.p_filesz ≤ h.p_memsz) × (h.p_offset + h.p_filesz ≤ length file)) l) (sym heads)
    (all_loadable file (file_header file).e_phnum c.in_ok-loads.ensures.sound).inside

pub invariant_of-result : goal.invariant_of-result
invariant_of-result c =
    let file = c.args.file.now in
    let heads : c.deref-2.result.now ≡ loads file = c.deref-2.ensures.value ∙ c.in_ok-loads.ensures.loads in
    let segments : c.in_ok-segments.segments ≡ map (file_segment file) (loads file) = c.in_ok-segments.ensures ∙ ap (λ l. map (file_segment file) l) heads in
    let small : sum_by (λ (h : ProgramHeader). h.p_memsz) c.deref.result.now ≤ max_image_size = c.are_small.ensures.0 c.if-not-are_small.false in
    let total : sum_by (λ (h : ProgramHeader). h.p_memsz) (loads file) ≤ max_image_size =
    subst (λ l. sum_by (λ (h : ProgramHeader). h.p_memsz) l ≤ max_image_size) (c.deref.ensures.value ∙ c.in_ok-loads.ensures.loads) small in
    record { laid_out = subst IsImageLayout (sym segments) (laid_out_read file (loads file) (all_loadable file (file_header file).e_phnum c.in_ok-loads.ensures.sound) total) }

pub returns-clause-only : goal.returns-clause-only
returns-clause-only c = λ image stands.
    let file = c.args.file.now in
    let heads : c.deref-2.result.now ≡ loads file = c.deref-2.ensures.value ∙ c.in_ok-loads.ensures.loads in
    let segments : c.in_ok-segments.segments ≡ map (file_segment file) (loads file) = c.in_ok-segments.ensures ∙ ap (λ l. map (file_segment file) l) heads in
    same_image _ image (ap (λ h. h.e_entry) c.in_ok-header.ensures.ok.1 ∙ sym stands.entry) (segments ∙ sym stands.segments)
