-- Laws of runs, in the words of the contracts that state them.
use Rattle.std.specs.Prelude.{◌≡◌, ℕ, ◌+◌, ◌≤◌, ◌++◌, List, [], ◌∷◌, Any}
use Rattle.sch_word.specs.declared.answer.Answer.{Answer}
use Rattle.sch_word.specs.declared.stop.Stop.TheVariants.{OutputFailed}
use Rattle.sch_word.specs.runs.Answers.{TakesNothing}
use Rattle.sch_word.specs.runs.Stops.{status_of}
use Rattle.sch_word.specs.runs.Runs.{Run, ended, going}
use Rattle.sch_word.specs.runs.Orders.{Orders, order_at}
use Rattle.sch_lang.specs.Tree.{Source}
use Rattle.sch_lang.specs.Measures.{sites_of}
use Rattle.sch_lang.specs.Run.{run}

-- two orders are the same at each of these sites
abbrev pub AgreeOn : Orders → Orders → List (ℕ × ℕ) → Type 0
AgreeOn orders orders' [] = Unit {0}
AgreeOn orders orders' (at ∷ more) = (orders at.0 ≡ orders' at.0) × AgreeOn orders orders' more

-- a run depends on its order table at the program's own sites alone
pub record NeedsOwnOrders (p : Source) : Type 0 where
  pub runs : (table table' : List (List ℕ)) → AgreeOn (order_at table) (order_at table') (sites_of p)
      → (heap depth : ℕ) (answers : List Answer) (entries : ℕ) → run p table heap depth answers entries ≡ run p table' heap depth answers entries

-- a run that has come further: its output begins with the other's, and it has taken, charged and used
-- no less
pub record GoesFurther (a b : Run) : Type 0 where
  pub written : List ℕ
  pub output : b.output ≡ a.output ++ written
  pub entries : a.entries ≤ b.entries
  pub charged : a.charged ≤ b.charged
  pub answers : a.answers ≤ b.answers

-- more entries change nothing of a run that has ended, and let any other go further
pub record MoreEntries (p : Source) : Type 0 where
  pub ended_stays : (table : List (List ℕ)) (heap depth : ℕ) (answers : List Answer) (entries more status : ℕ) → (run p table heap depth answers entries).end ≡ ended status
      → run p table heap depth answers (entries + more) ≡ run p table heap depth answers entries
  pub goes_further : (table : List (List ℕ)) (heap depth : ℕ) (answers : List Answer) (entries more : ℕ)
      → GoesFurther (run p table heap depth answers entries) (run p table heap depth answers (entries + more))

-- a run goes on only where all its entries are taken
pub record GoesOnWhenSpent (p : Source) : Type 0 where
  pub all_taken : (table : List (List ℕ)) (heap depth : ℕ) (answers : List Answer) (entries : ℕ) → (run p table heap depth answers entries).end ≡ going
      → (run p table heap depth answers entries).entries ≡ entries

-- a run stops with a failed output only where one of the kernel's answers takes nothing
pub record FailsByAnswer (p : Source) : Type 0 where
  pub nothing_taken : (table : List (List ℕ)) (heap depth : ℕ) (answers : List Answer) (entries : ℕ) → (run p table heap depth answers entries).end ≡ ended (status_of OutputFailed)
      → Any TakesNothing answers
