-- What the stack of the code stands for, and what a step of the code answers.
use Rattle.std.specs.Prelude.{◌≡◌, List, Result, Ok, Err, IfSome, map, reverse}
use Rattle.sch_read.specs.Grammar.{Token}
use Rattle.sch_read.specs.Fault.{Fault}
use Rattle.sch_read.specs.ErrorFault.{named}
use Rattle.sch_read.specs.Parser.Stack as machine
use Rattle.sch_read.specs.Parser.Stack.{State, runs}
use Rattle.sch_read.specs.Views.{tree_of, data_of}
use Rattle.sch_read.specs.declared.parser.Frame.{Frame}
use Rattle.sch_read.specs.declared.parser.Frame.TheVariants.{Items, AfterDot, Tail, Elements, Waiting}
use Rattle.sch_read.specs.declared.parser.Parser.{Parser}
use Rattle.sch_read.specs.declared.error.ReadError.{ReadError}

abbrev pub frame_of : Frame → machine.Frame
frame_of (Items at ds) = machine.Items at (data_of ds)
frame_of (AfterDot at ds) = machine.AfterDot at (data_of ds)
frame_of (Tail at ds d) = machine.Tail at (data_of (reverse ds)) (tree_of d)
frame_of (Elements at ds) = machine.Elements at (data_of ds)
frame_of (Waiting at) = machine.Waiting at

-- the innermost first
abbrev pub stack_of : List Frame → List machine.Frame
stack_of fs = reverse (map frame_of fs)

abbrev pub state_of : Parser → State
state_of r = record { spare = r.spare; open_ = stack_of r.frames.items; top = data_of r.top }

-- the answer is the fault that the error names; out of memory says nothing of it
abbrev pub Fails : {X : Type 0} → ReadError → Result X Fault → Type 0
Fails e r = IfSome (named e) (λ f. r ≡ Err f)

abbrev pub Gives : {A X : Type 0} → (A → X) → Result A ReadError → Result X Fault → Type 0
Gives view (Ok a) r = r ≡ Ok (view a)
Gives view (Err e) r = Fails e r

-- a step of the code is that of the machine, and leaves its state
abbrev pub StepsTo : {A : Type 0} → Result A ReadError → Result State Fault → State → Type 0
StepsTo (Ok a) r s = r ≡ Ok s
StepsTo (Err e) r s = Fails e r

-- these tokens lead from old to new, or to the fault, whatever comes after them
abbrev pub Feeds : {A : Type 0} → Result A ReadError → State → State → (List Token → List Token) → Type 0
Feeds (Ok a) old new front = (ts : List Token) → runs old (front ts) ≡ runs new ts
Feeds (Err e) old new front = (ts : List Token) → Fails e (runs old (front ts))
