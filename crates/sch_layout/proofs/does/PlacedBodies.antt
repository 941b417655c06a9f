-- A body that is laid out by a plan which is one for it does what its tree does, from where its closure and its arguments
-- arrive.
use Rattle.std.proofs.Common.{[], None}
use Rattle.sch_control.specs.Meaning.{falls_off, no_region, nothing}
use Rattle.sch_control.specs.Run as control_run
use Rattle.sch_control.specs.flow.Live.{Live, nothing_later}
use Rattle.sch_layout.proofs.does.EntryStores.{enters}
use Rattle.sch_layout.proofs.does.LayoutDoes.{Kept, same}
use Rattle.sch_layout.specs.Laws.{LaidBodiesDo}

-- the return address is neither bound nor read by an operation of the tree
pub body_does : LaidBodiesDo
body_does plan entry e is uses callee callee' follow depth self arguments l s marks marks' =
    enters plan (λ x. Live x e (nothing_later x)) (Kept no_region (λ x. Live x e (nothing_later x))) is.homes.link entry is.arrives self arguments l callee' depth _ s _
    (λ f marks' a. same plan is.homes callee callee' follow depth e no_region nothing_later uses is.placed 0 None [] tt
    (control_run.beginning entry self arguments) nothing f s marks marks' falls_off a (λ v environment saved f s marks marks' r e. tt)) marks'
