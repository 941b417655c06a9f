use Rattle.std.proofs.Common.{ap}
use Rattle.sch_insn.proofs.Paths.{traced_progress, path_mach, path_traced}
use Rattle.sch_insn.proofs.laws.traces_are_of_runs.Goals as goal

pub returns-clause-erased : goal.returns-clause-erased
returns-clause-erased c = traced_progress

pub returns-clause-run_along : goal.returns-clause-run_along
returns-clause-run_along c = path_mach

pub returns-clause-trace_along : goal.returns-clause-trace_along
returns-clause-trace_along c = λ s us t p n. ap (λ w. w.trace) (path_traced s us t p n)
