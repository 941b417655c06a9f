-- Programs with the same runs, along a chain of passes.
use Rattle.std.proofs.Common.{ℕ, List, refl, sym, ◌∙◌}
use Rattle.sch_word.specs.runs.Runs.{Runs, SameRuns, SameOrderedRuns}

pub same_runs_self : (a : Runs) → SameRuns a a
same_runs_self a = record { same = λ table heap depth answers entries. refl }

pub same_runs_back : {a b : Runs} → SameRuns a b → SameRuns b a
same_runs_back g = record { same = λ table heap depth answers entries. sym (g.same table heap depth answers entries) }

pub same_runs_on : {a b c : Runs} → SameRuns a b → SameRuns b c → SameRuns a c
same_runs_on g h = record { same = λ table heap depth answers entries. g.same table heap depth answers entries ∙ h.same table heap depth answers entries }

-- ## Under order tables alone

pub same_runs_ordered : (sites : List ℕ) {a b : Runs} → SameRuns a b → SameOrderedRuns sites a b
same_runs_ordered sites g = record { same = λ table ordered heap depth answers entries. g.same table heap depth answers entries }

pub same_ordered_back : {sites : List ℕ} {a b : Runs} → SameOrderedRuns sites a b → SameOrderedRuns sites b a
same_ordered_back g = record { same = λ table ordered heap depth answers entries. sym (g.same table ordered heap depth answers entries) }

pub same_ordered_on : {sites : List ℕ} {a b c : Runs} → SameOrderedRuns sites a b → SameOrderedRuns sites b c → SameOrderedRuns sites a c
same_ordered_on g h = record { same = λ table ordered heap depth answers entries. g.same table ordered heap depth answers entries ∙ h.same table ordered heap depth answers entries }
