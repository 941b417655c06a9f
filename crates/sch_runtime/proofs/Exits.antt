-- The routines that exit.
use Rattle.std.proofs.Common.{◌≡◌, ℕ, ◌+◌, ◌*◌, ◌%◌, ◌<◌, ◌≤◌, List, [], length, refl, ap, ◌∙◌, arith}
use Rattle.std.specs.Prelude.{pos}
use Rattle.sch_word.specs.declared.answer.Answer.{Answer}
use Rattle.sch_insn.specs.declared.insn.Arg.TheVariants.{Reg}
use Rattle.sch_insn.specs.declared.insn.Insn.TheVariants.{MovNumber, Syscall}
use Rattle.sch_insn.specs.Machine.{set_register}
use Rattle.sch_insn.specs.Step.{Exited}
use Rattle.sch_insn.proofs.Paths.{leads_then, leads_on}
use Rattle.sch_word.specs.declared.registers.TheConstants.{RAX, RDI}
use Rattle.sch_asm.specs.Stands.{Setting, Stands}
use Rattle.sch_asm.specs.Views.{View, full, Leads}
use Rattle.sch_asm.specs.Effects.{Stops}
use Rattle.sch_asm.proofs.EachItem.{goes, stepped}
use Rattle.sch_runtime.specs.Code.{exit_code}

module _ (setting : Setting) where
  -- from the label of an exit
  pub exits_here : (x : View) (status : ℕ) → status < 256 → Stands setting [] x.place (exit_code status) → Stops setting x 3 status x.output x.answers
  exits_here x status low h =
      let y : View = record x { registers = set_register x.registers RDI status; place = x.place + h.0 } in
      let z : View = record y { registers = set_register y.registers RAX 60; place = y.place + h.2.0 } in
      let same : status % 256 ≡ status = omega (arith, low) in
      record {
        last = z;
        least = 2;
        most = 2;
        leads = leads_on setting.marks (goes setting x y (MovNumber (Reg RDI) (pos status)) h.0 [] h.1 refl) (goes setting y z (MovNumber (Reg RAX) (pos 60)) h.2.0 [] h.2.1 refl);
        few = omega arith;
        exits = stepped setting z Syscall h.2.2.0 [] _ h.2.2.1 refl ∙ ap (λ n. Exited n (full setting z)) same;
        silent = h.2.2.1.3;
        output_is = refl;
        left_is = refl;
      }

  -- after some steps
  pub stops_after : (x y : View) (a b c bound status : ℕ) (output : List ℕ) (left : List Answer) → Leads setting a b [] x y → Stops setting y c status output left
      → b + c + 10 * length y.answers ≤ bound + 10 * length x.answers → Stops setting x bound status output left
  stops_after x y a b c bound status output left p s le = record {
    last = s.last;
    least = a + s.least;
    most = b + s.most;
    leads = leads_then setting.marks p s.leads;
    few = let f = s.few in omega arith;
    exits = s.exits;
    silent = s.silent;
    output_is = s.output_is;
    left_is = s.left_is;
  }
