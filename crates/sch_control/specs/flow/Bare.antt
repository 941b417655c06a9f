-- A body's tree without what was put into it: what is listed at its calls, its regions, or both.
use Rattle.std.specs.Prelude.{[]}
use Rattle.sch_control.specs.Tree.{Expression, perform, bind, sequence, branch, fix, call, tail_call, return, end, save}

-- nothing is listed at calls
abbrev pub unlisted : Expression → Expression
unlisted (perform o) = perform o
unlisted (bind x a b) = bind x (unlisted a) (unlisted b)
unlisted (sequence a b) = sequence (unlisted a) (unlisted b)
unlisted (branch a b c) = branch (unlisted a) (unlisted b) (unlisted c)
unlisted (fix members e) = fix members (unlisted e)
unlisted (call a listed) = call a []
unlisted (tail_call a) = tail_call a
unlisted (return e) = return (unlisted e)
unlisted (end e) = end (unlisted e)
unlisted (save saves e) = save saves (unlisted e)

-- there are no regions
abbrev pub unsaved : Expression → Expression
unsaved (perform o) = perform o
unsaved (bind x a b) = bind x (unsaved a) (unsaved b)
unsaved (sequence a b) = sequence (unsaved a) (unsaved b)
unsaved (branch a b c) = branch (unsaved a) (unsaved b) (unsaved c)
unsaved (fix members e) = fix members (unsaved e)
unsaved (call a listed) = call a listed
unsaved (tail_call a) = tail_call a
unsaved (return e) = return (unsaved e)
unsaved (end e) = end (unsaved e)
unsaved (save saves e) = unsaved e

-- neither
abbrev pub erased : Expression → Expression
erased (perform o) = perform o
erased (bind x a b) = bind x (erased a) (erased b)
erased (sequence a b) = sequence (erased a) (erased b)
erased (branch a b c) = branch (erased a) (erased b) (erased c)
erased (fix members e) = fix members (erased e)
erased (call a listed) = call a []
erased (tail_call a) = tail_call a
erased (return e) = return (erased e)
erased (end e) = end (erased e)
erased (save saves e) = erased e
