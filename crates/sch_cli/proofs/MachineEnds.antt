-- A bounded run of the machine that an image was loaded into is what was executed.
use Rattle.std.proofs.Common.{◌≡◌, ℕ, List, [], ◌++◌, refl, sym, ap, ◌∙◌, subst}
use Rattle.std.proofs.lemmas.List.{append-nil}
use Rattle.sch_word.specs.declared.answer.Answer.{Answer}
use Rattle.sch_io.proofs.PutSteps.{tells_map}
use Rattle.sch_elf.specs.declared.image.Image.{Image}
use Rattle.sch_elf.specs.Layout.{memory}
use Rattle.sch_insn.specs.Machine.{Core}
use Rattle.sch_insn.specs.Step.{Runs, go_on, mach}
use Rattle.sch_insn.specs.Behaves.{output_of}
use Rattle.sch_step.specs.Run.{Does, IsRunAt, reached_by_run, state_of}
use Rattle.sch_step.specs.Machine.{MachineRuns, loaded, standing_of, core_of}
use Rattle.sch_step.specs.declared.machine.Machine.{Machine}
use Rattle.sch_step.specs.declared.ends.RunEnd.{RunEnd}
use Rattle.sch_step.specs.declared.ends.RunEnd.TheVariants as run_end
use Rattle.sch_cli.specs.Executes.{Executes, EndsUnder, started, run_end_of}
use Rattle.sch_cli.specs.Seen.{StreamChange}

end_same : (end : RunEnd) (core : Core) (output : List ℕ) (answers : List Answer) → IsRunAt end core.place → run_end_of (reached_by_run end core output answers) ≡ end
end_same run_end.Spent core output answers at = refl
end_same (run_end.Exited status) core output answers at = refl
end_same (run_end.Stuck stuck) core output answers at = ap (λ place. run_end.Stuck (record { at = place; cause = stuck.cause })) (sym at)

output_same : (end : RunEnd) (core : Core) (output : List ℕ) (answers : List Answer) → output_of (reached_by_run end core output answers) ≡ output
output_same run_end.Spent core output answers = refl
output_same (run_end.Exited status) core output answers = refl
output_same (run_end.Stuck stuck) core output answers = refl

module _ (image : Image) (steps : ℕ) (old new : Machine) (end : RunEnd) (at : IsRunAt end (core_of new).place)
    (starts : (bytes : List ℕ) (answers : List Answer) → standing_of old bytes answers ≡ Runs (state_of (loaded image.entry (memory image.segments)) bytes answers)) where
  pub comes_to : (answers left : List Answer) (output : List ℕ) → MachineRuns steps end old new [] answers output left → EndsUnder image steps answers end output
  comes_to answers left output runs =
      let is : mach steps (started image answers) ≡ reached_by_run end (core_of new) output left = sym (ap (λ p. go_on p (mach steps)) (starts [] answers)) ∙ runs in
      record {
        end_is = ap run_end_of is ∙ end_same end (core_of new) output left at;
        output_is = ap output_of is ∙ output_same end (core_of new) output left;
      }

  pub executes : (out : StreamChange) → Does (MachineRuns steps end old new) out.before.bytes out.after.bytes out.before.left out.after.left out.before.faults out.after.faults
      → Executes image steps end out
  executes out did = record {
    output = did.took;
    given = did.given;
    under_given = comes_to did.given [] did.took (subst (λ answers. MachineRuns steps end old new [] answers did.took []) (append-nil did.given) (did.untold [] []));
    under_left = tells_map out.before.left out.after.left (λ before after. (bytes : List ℕ) → MachineRuns steps end old new bytes before (bytes ++ did.took) after)
        (λ before after. EndsUnder image steps before end did.took) did.told (λ before after runs. comes_to before after did.took (runs []));
    took = did.bytes_told;
    refused = did.refused;
  }
