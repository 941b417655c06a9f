-- Activations, from the marks that a run passes. An activation begins where a body is entered, and is the one on top
-- until it calls, returns or is left by a tail call. A mark is its own where it is passed while the activation is on top.
use Rattle.std.specs.Prelude.{Bool, true, false, ◌&&◌, not, cond, List, [], ◌∷◌, ◌++◌, Option, Some, None}
use Rattle.sch_word.specs.declared.mark.MarkKind.{MarkKind}
use Rattle.sch_word.specs.declared.mark.MarkKind.TheVariants.{Enter, Call, Return, Tail}

abbrev pub is_enter : MarkKind → Bool
is_enter (Enter label) = true
is_enter _ = false

abbrev pub is_call : MarkKind → Bool
is_call (Call site) = true
is_call _ = false

-- The own marks of the activation on top, if there is one; of those that wait for a call to return, the last one first;
-- and of those that have ended by a return or a tail call, the first one first. A tail call is just over where its mark
-- was the last one.
pub record Activations : Type 0 where
  pub current : Option (List MarkKind)
  pub suspended : List (List MarkKind)
  pub handed_over : Bool
  pub ended : List (List MarkKind)

-- the activation that was suspended last is open again
abbrev pub resumed : List (List MarkKind) → (ended : List (List MarkKind)) → Activations
resumed [] ended = record { current = None; suspended = []; handed_over = false; ended = ended }
resumed (own ∷ suspended) ended = record { current = Some own; suspended = suspended; handed_over = false; ended = ended }

-- the activation on top, if there is one, has this mark too
abbrev pub with_mark : MarkKind → Option (List MarkKind) → List (List MarkKind)
with_mark m None = []
with_mark m (Some own) = (own ++ m ∷ []) ∷ []

abbrev pub recorded : MarkKind → Option (List MarkKind) → Option (List MarkKind)
recorded m None = None
recorded m (Some own) = Some (own ++ m ∷ [])

-- a mark, where a tail call is not just over
abbrev pub pass : MarkKind → Activations → Activations
pass (Enter label) a = record a { current = Some (Enter label ∷ []) }
pass (Call site) a = record a { current = None; suspended = with_mark (Call site) a.current ++ a.suspended }
pass Return a = resumed a.suspended (a.ended ++ with_mark Return a.current)
pass (Tail site) a = record a { current = None; handed_over = true; ended = a.ended ++ with_mark (Tail site) a.current }
pass m a = record a { current = recorded m a.current }

-- Behind a tail call a body is entered, or else the activation that was suspended last goes on.
abbrev pub settled : MarkKind → Activations → Activations
settled m a = cond (a.handed_over && not (is_enter m)) (resumed a.suspended a.ended) (record a { handed_over = false })

abbrev pub none_yet : Activations
none_yet = record { current = None; suspended = []; handed_over = false; ended = [] }

abbrev pub after : Activations → List MarkKind → Activations
after a [] = a
after a (m ∷ marks) = after (pass m (settled m a)) marks

-- the activations of a run, from the marks that it has passed
abbrev pub activations : List MarkKind → Activations
activations = after none_yet
