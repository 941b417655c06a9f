-- What is still to be written while a datum is printed. The next task is the last of its list.
use Rattle.std.specs.Prelude.{◌≡◌, ◌≤◌, ℕ, ◌+◌, ◌-◌, ◌*◌, List, [], ◌∷◌, ◌++◌, codes}
use Rattle.sch_print.specs.Printed.{datum_text, more_text}
use Rattle.sch_print.specs.FixnumData.{HasFixnums, HaveFixnums}
use Rattle.sch_read.specs.Valid.{weight, weights}
use Rattle.sch_read.specs.Views.{tree_of, data_of}
use Rattle.sch_print.specs.declared.printer.Task.{Task}
use Rattle.sch_print.specs.declared.printer.Task.TheVariants.{One, More, Dotted, Close}

-- what a task writes
abbrev pub task_text : Task → List ℕ
task_text (One d) = datum_text (tree_of d.now)
task_text (More ds) = more_text (data_of ds.now)
task_text (Dotted d) = codes " . " ++ datum_text (tree_of d.now)
task_text Close = codes ")"

abbrev pub tasks_text : List Task → List ℕ
tasks_text [] = []
tasks_text (t ∷ ts) = tasks_text ts ++ task_text t

abbrev pub TaskHasFixnums : Task → Type 0
TaskHasFixnums (One d) = HasFixnums (tree_of d.now)
TaskHasFixnums (More ds) = HaveFixnums (data_of ds.now)
TaskHasFixnums (Dotted d) = HasFixnums (tree_of d.now)
TaskHasFixnums Close = Unit {0}

abbrev pub TasksHaveFixnums : List Task → Type 0
TasksHaveFixnums [] = Unit {0}
TasksHaveFixnums (t ∷ ts) = TaskHasFixnums t × TasksHaveFixnums ts

-- It falls with each task that is done, also where others come in its place.
abbrev pub task_load : Task → ℕ
task_load (One d) = 6 * weight (tree_of d.now) - 1
task_load (More ds) = 6 * weights (data_of ds.now) + 1
task_load (Dotted d) = 6 * weight (tree_of d.now)
task_load Close = 1

abbrev pub tasks_load : List Task → ℕ
tasks_load [] = 0
tasks_load (t ∷ ts) = task_load t + tasks_load ts

-- Tasks that came to others: their text comes first, they meet what is to be met, and their load is
-- bounded.
pub record Came (text : List ℕ) (Met : Type 0) (load : ℕ) (before after : List Task) : Type 0 where
  pub texts : tasks_text after ≡ text ++ tasks_text before
  pub meets : TasksHaveFixnums after → Met × TasksHaveFixnums before
  pub loads : tasks_load after ≤ load + tasks_load before
