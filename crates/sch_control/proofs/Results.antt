-- What holds of one result holds perhaps, and what follows from each result that is possible follows.
use Rattle.std.proofs.Common.{Bool, true, false, Option, Some, None, inl, inr}
use Rattle.sch_control.specs.flow.Live.{Perhaps, ByResult}

pub perhaps : (P : Bool → Type 0) (t : Bool) → P t → Perhaps P
perhaps P true p = inl p
perhaps P false p = inr p

pub after_result : (k : Option Bool) (L : Bool → Type 0) (A : Type 0) → ((t : Bool) → L t → A) → ByResult k L → A
after_result (Some t) L A f l = f t l
after_result None L A f (inl l) = f true l
after_result None L A f (inr l) = f false l
