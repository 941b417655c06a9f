-- What has exited within its bound of steps has exited within the round one.
use Rattle.std.proofs.Common.{◌≤◌, ◌+◌, ◌*◌, ℕ, suc, List, subst, arith}
use Rattle.std.proofs.lemmas.Nat.{mul-le}
use Rattle.sch_elf.specs.Layout.{memory}
use Rattle.sch_elf.proofs.OneRefusal.{one_image}
use Rattle.sch_lang.specs.Run.{run}
use Rattle.sch_lang.specs.Tree as tree
use Rattle.sch_select.specs.Ends.{EndsWithin}
use Rattle.sch_driver.specs.Assembled.{steps_of}
use Rattle.sch_driver.specs.Bounds.{ExitsInTime, round_steps}
use Rattle.sch_driver.specs.Compiled.{IsCompiled}
use Rattle.sch_listing.specs.declared.listing.Listing.{Listing}
use Rattle.sch_driver.proofs.Meanings.{same_program}
use Rattle.sch_driver.proofs.Steps.{ends_later}

pub rounded : (instructions forms entries answers charged : ℕ) → steps_of instructions entries answers charged ≤ round_steps instructions forms entries answers charged
rounded instructions forms entries answers charged =
    let h : 768 * instructions * suc entries ≤ 2048 * instructions * (entries + forms + 1) =
    mul-le (768 * instructions) (suc entries) (2048 * instructions) (entries + forms + 1) (omega arith) (omega arith) in
    joined (768 * instructions * suc entries) (2048 * instructions * (entries + forms + 1)) h
  where
    joined : (a b : ℕ) → a ≤ b → a + 10 * answers + 8 * charged ≤ b + 8 * charged + 32 * answers
    joined a b le = omega (arith, le)

pub in_time : (library text : List ℕ) (heap depth : ℕ) (file : List ℕ) (listing : Listing) → IsCompiled library text heap depth file listing
    → ExitsInTime library text heap depth file listing
in_time library text heap depth file listing c p image means stands =
    let own = c.is_program.image in
    let later : EndsWithin own.entry (memory own.segments) (run c.program listing.orders heap depth) (round_steps listing.instructions (tree.count c.program.forms)) =
    ends_later own.entry (memory own.segments) (run c.program listing.orders heap depth) (steps_of listing.instructions) (round_steps listing.instructions (tree.count c.program.forms))
    (rounded listing.instructions (tree.count c.program.forms)) c.ends in
    subst (λ i. EndsWithin i.entry (memory i.segments) (run p listing.orders heap depth) (round_steps listing.instructions (tree.count p.forms)))
    (one_image file own image c.is_program.stands stands)
    (subst (λ q. EndsWithin own.entry (memory own.segments) (run q listing.orders heap depth) (round_steps listing.instructions (tree.count q.forms)))
    (same_program library text c.program p c.means means) later)
