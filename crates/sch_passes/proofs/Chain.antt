-- The passes one after the other: runs.
use Rattle.std.proofs.Common.{◌≡◌, Some, sym, ap, ◌∙◌}
use Rattle.sch_word.specs.runs.Runs.{Runs, SameRuns}
use Rattle.sch_lang.specs.Tree as lang
use Rattle.sch_lang.specs.Run as from
use Rattle.sch_flat.specs.Tree as flat
use Rattle.sch_flat.specs.Run as flat_run
use Rattle.sch_control.specs.Tree as control
use Rattle.sch_anf_laws.specs.SameRun.{SameRun}
use Rattle.sch_passes.specs.Chain.{RunsAs}

pub runs_as : (p : lang.Source) (a b : Runs) (f : flat.Source) (q : control.Source) → SameRuns (from.run p) a → SameRuns a b → SameRuns b (flat_run.run f) → SameRun f q
    → q.sites ≡ p.sites → RunsAs p q
runs_as p a b f q first second third fourth sites = record {
  sites = sites;
  same = λ table fits heap depth answers entries.
      fourth.same table fits heap depth answers entries
      ∙ ap Some (sym (first.same table heap depth answers entries ∙ (second.same table heap depth answers entries ∙ third.same table heap depth answers entries)));
}
