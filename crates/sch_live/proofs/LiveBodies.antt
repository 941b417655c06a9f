-- A body, and its tree with what is live after each call.
use Rattle.std.proofs.Common.{◌≡◌, true, refl, ap, sym, ◌∙◌, subst}
use Rattle.std.specs.FinSet as set
use Rattle.sch_sets.specs.Members.{NumberSet}
use Rattle.sch_control.specs.declared.body.Body.{Body}
use Rattle.sch_control.specs.declared.tree.Exp.{Exp, Do, Bind', Seq', If', Fix', Call, TailCall, Return', End', Save'}
use Rattle.sch_control.specs.Tree.{Expression}
use Rattle.sch_control.specs.View.{expression}
use Rattle.sch_control.specs.Meaning.{plain, do_body}
use Rattle.sch_control.specs.flow.Bare.{unlisted}
use Rattle.sch_control.specs.flow.Live.{nothing_later}
use Rattle.sch_control.specs.flow.LiveSets.{HasLiveSets}
use Rattle.sch_paths.specs.PlainlySame.{PlainlySame}
use Rattle.sch_paths.proofs.runs.SameWithoutMarks.{plainly_unlisted}
use Rattle.sch_live.specs.BackwardSets.{later_of, ListsAllLive}
use Rattle.sch_live.specs.Reached.{where_reached}
use Rattle.sch_live.proofs.LiveSteps.{lists_same, none_later}
use Rattle.sch_live.proofs.ReachedSets.{reached_sets, reached_unlisted}

-- ## A tree with no sets

pub no_lists : (e : Exp (Unit {0})) → unlisted (expression e) ≡ expression e
no_lists (Do operation) = refl
no_lists (Bind' x p a q b) = rw (no_lists a, no_lists b) refl
no_lists (Seq' p a q b) = rw (no_lists a, no_lists b) refl
no_lists (If' p a q b r c) = rw (no_lists a, no_lists b, no_lists c) refl
no_lists (Fix' members p e) = rw (no_lists e) refl
no_lists (Call application annotation) = refl
no_lists (TailCall application) = refl
no_lists (Return' p e) = rw (no_lists e) refl
no_lists (End' p e) = rw (no_lists e) refl
no_lists (Save' saves p e) = rw (no_lists e) refl

-- ## The body

module _ (b : Body) (e0 e1 r : Expression) (s : NumberSet) (blank : e0 ≡ expression b.exp) (alike : unlisted e1 ≡ unlisted e0)
    (none : s ≡ set.empty) (lists : ListsAllLive e1 (later_of s s)) (made : r ≡ where_reached true e1) where
  pub same : unlisted r ≡ expression b.exp
  same = ap unlisted made ∙ (reached_unlisted true e1 ∙ (alike ∙ (ap unlisted blank ∙ no_lists b.exp)))

  pub sets : HasLiveSets r
  sets =
      subst HasLiveSets (sym made)
      (reached_sets e1 true (Unit {0}) (λ h. tt, λ w. refl) nothing_later (lists_same e1 (later_of s s) nothing_later (none_later s none) lists))

  pub bare : ∥ unlisted r ≡ expression b.exp ∥₁
  bare = ∣ same ∣₁

  pub truncated : ∥ HasLiveSets r ∥₁
  truncated = ∣ sets ∣₁

  pub runs : PlainlySame (expression b.exp) r
  runs callee depth environment w =
      subst (λ z. do_body plain callee depth z environment w ≡ do_body plain callee depth r environment w) same (plainly_unlisted callee depth r environment w)
