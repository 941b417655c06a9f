-- A datum has a draft or a fault, and never both.
use Rattle.std.proofs.Common.{inl, inr, ℕ, Option, Some, None, refl}
use Rattle.std.proofs.lemmas.Option.{none-some}
use Rattle.sch_read.specs.Grammar.{Datum}
use Rattle.sch_names.specs.Scope.{Scope, Globals}
use Rattle.sch_sketch.specs.declared.fault.Fault.{Fault}
use Rattle.sch_sketch.specs.declared.sketch.Position.{Position}
use Rattle.sch_sketch.specs.Draft.{Draft}
use Rattle.sch_sketch.specs.Sketch.{text}
use Rattle.sch_expansion.specs.Expands.{Expands}
use Rattle.sch_expansion.specs.Faults.{HasFault}
use Rattle.sch_core.specs.ExpansionLaws.{NoFault, FaultOrDraft}
use Rattle.sch_expansion.specs.Reads.{Reads}
use Rattle.sch_expansion.proofs.Readings.{clean, read_best, read_made, is_read}

pub never_both : NoFault
never_both g n s t d a p f q = clean g p q

given_by : (g : Globals) (n : ℕ) (s : Scope) (t : Position) (d : Datum) (o : Option Fault) (e : Draft) → ((f : Fault) → HasFault g n s t (text d) f → ⊥) → Reads g n s t (text d) None o e →
    (a : Draft) × Expands g n s t (text d) a
given_by g n s t d None e h r = (e, read_made g r refl)
given_by g n s t d (Some f) e h r = elim ((read_best g r).from f refl) [ inl i ↦ absurd (none-some _ i) | inr i ↦ absurd (h f i) ]

pub given : FaultOrDraft
given g n s t d h = let x = is_read g n s t (text d) None in given_by g n s t d x.after x.draft h x.reads
