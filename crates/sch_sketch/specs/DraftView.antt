-- What the values of the code stand for, in plain words.
use Rattle.std.specs.Prelude.{List, map}
use Rattle.sch_read.specs.Views.{tree_of}
use Rattle.sch_names.specs.ScopeView.{given_names}
use Rattle.sch_sketch.specs.declared.draft.Draft.{Draft, fold-Draft}
use Rattle.sch_sketch.specs.declared.draft.Draft.TheOpen.{Draft-F}
use Rattle.sch_sketch.specs.Draft as plain
use Rattle.sch_sketch.specs.Draft.{Drafts, drafts, constant, symbol, literal, local, global, set_local, set_global, define, branch, sequence, bind, letrec, lambda, call, operation}

-- one level
abbrev pub draft_view : Draft-F plain.Draft → plain.Draft
draft_view (Draft-F.Constant c) = constant c
draft_view (Draft-F.Symbol x) = symbol x.now
draft_view (Draft-F.Literal d) = literal (tree_of d.now)
draft_view (Draft-F.Local k) = local k
draft_view (Draft-F.Global x) = global x.now
draft_view (Draft-F.SetLocal k e) = set_local k e.value
draft_view (Draft-F.SetGlobal x e) = set_global x.now e.value
draft_view (Draft-F.Define x e) = define x.now e.value
draft_view (Draft-F.If a b c) = branch a.value b.value c.value
draft_view (Draft-F.Seq es) = sequence (drafts es)
draft_view (Draft-F.Let vs es e) = bind (given_names vs) (drafts es) e.value
draft_view (Draft-F.Letrec vs p es e) = letrec (given_names vs) p (drafts es) e.value
draft_view (Draft-F.Lambda n r e) = lambda n r e.value
draft_view (Draft-F.Call vs f es) = call (given_names vs) f.value (drafts es)
draft_view (Draft-F.Prim p es) = operation p (drafts es)

-- the tree of a draft, and the trees of a list of them
abbrev pub draft_of : Draft → plain.Draft
draft_of = fold-Draft plain.Draft draft_view

abbrev pub drafts_of : List Draft → Drafts
drafts_of es = drafts (map draft_of es)
