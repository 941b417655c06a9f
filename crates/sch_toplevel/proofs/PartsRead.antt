-- The forms of a text are read as the parts of a sequence at level 0.
use Rattle.std.proofs.Common.{◌≡◌, ℕ, ◌+◌, ◌<◌, Bool, false, List, [], length, drop, get_or, map, Option, refl, sym, subst, add-one}
use Rattle.sch_word.proofs.facts.Lists.{next_left}
use Rattle.sch_names.specs.Scope.{Globals}
use Rattle.sch_sketch.specs.declared.draft.Draft as code
use Rattle.sch_sketch.specs.declared.fault.Fault.{Fault}
use Rattle.sch_sketch.specs.declared.sketch.Position.TheVariants.{Value}
use Rattle.sch_sketch.specs.Draft.{Draft, Drafts, no_drafts, and_draft}
use Rattle.sch_sketch.specs.DraftView.{draft_of, drafts_of}
use Rattle.sch_sketch.specs.Sketch.{Sketch, Sketches, sketches, no_sketch, and_sketch, sequencing}
use Rattle.sch_expansion.specs.Following.{and_then}
use Rattle.sch_expansion.specs.Reads.{Reads, PartsRead}
use Rattle.sch_expansion.specs.Reads as re
use Rattle.sch_expansion.proofs.Stacks.{and_then_none}
use Rattle.sch_toplevel.specs.declared.forms.Form.{Form}
use Rattle.sch_toplevel.specs.FormView.{sketch_at, sketches_at}

pub all_made : (es : List code.Draft) → and_then (map draft_of es) no_drafts ≡ drafts_of es
all_made es = and_then_none (map draft_of es)

module _ (globals : Globals) where
  abbrev PartsOf : Bool → Sketches → Option Fault → Option Fault → Drafts → Type 0
  PartsOf first ks a b es = PartsRead globals sequencing first 1 [] Value ks a b es

  -- one form more
  reads_more : (first : Bool) (p : Sketch) (ps : Sketches) (a m b : Option Fault) (e : Draft) (es : Drafts) →
      Reads globals 1 [] Value p a m e → PartsOf false ps m b es → PartsOf first (and_sketch p ps) a b (and_draft e es)
  reads_more first p no_sketch a m b e es x y = re.reads_part sequencing first 1 [] Value p no_sketch a m b e es x y
  reads_more first p (and_sketch q qs) a m b e es x y = re.reads_part sequencing first 1 [] Value p (and_sketch q qs) a m b e es x y

  none_is : {first : Bool} {a b : Option Fault} {es : Drafts} → PartsOf first no_sketch a b es → (a ≡ b) × (es ≡ no_drafts)
  none_is (re.reads_none _ _ _ _ _ a) = (refl, refl)

  record Split (p : Sketch) (ps : Sketches) (a b : Option Fault) (es : Drafts) : Type 0 where
    between : Option Fault
    draft : Draft
    more : Drafts
    whole : es ≡ and_draft draft more
    here : Reads globals 1 [] Value p a between draft
    others : PartsOf false ps between b more

  split_one : {first : Bool} {p : Sketch} {a b : Option Fault} {es : Drafts} → PartsOf first (and_sketch p no_sketch) a b es → Split p no_sketch a b es
  split_one (re.reads_part _ _ _ _ _ p _ a m b e es x y) = record { between = m; draft = e; more = es; whole = refl; here = x; others = y }

  split_more : {first : Bool} {p q : Sketch} {qs : Sketches} {a b : Option Fault} {es : Drafts} → PartsOf first (and_sketch p (and_sketch q qs)) a b es → Split p (and_sketch q qs) a b es
  split_more (re.reads_part _ _ _ _ _ p _ a m b e es x y) = record { between = m; draft = e; more = es; whole = refl; here = x; others = y }

  split : {first : Bool} {p : Sketch} (ps : Sketches) {a b : Option Fault} {es : Drafts} → PartsOf first (and_sketch p ps) a b es → Split p ps a b es
  split no_sketch r = split_one r
  split (and_sketch q qs) r = split_more r

  -- whether the first of all forms is among them makes no difference
  pub any_first : (f g : Bool) (ks : Sketches) (a b : Option Fault) (es : Drafts) → PartsOf f ks a b es → PartsOf g ks a b es
  any_first f g no_sketch a b es r =
      let i = none_is r in
      subst (λ o. PartsOf g no_sketch a o es) i.0 (subst (λ l. PartsOf g no_sketch a a l) (sym i.1) (re.reads_none sequencing g 1 [] Value a))
  any_first f g (and_sketch p ps) a b es r =
      let s = split ps r in
      subst (λ l. PartsOf g (and_sketch p ps) a b l) (sym s.whole) (reads_more g p ps a s.between b s.draft s.more s.here s.others)

  -- one form, and then the others
  pub next_form : (fs : List Form) (i : ℕ) (f : Form) (k : Sketch) (e : code.Draft) (a m b : Option Fault) (es : Drafts) → i < length fs → f ≡ get_or fs i f →
      k ≡ sketch_at f → Reads globals 1 [] Value k a m (draft_of e) → PartsOf false (sketches (sketches_at (drop (i + 1) fs))) m b es →
      PartsOf false (sketches (sketches_at (drop i fs))) a b (and_draft (draft_of e) es)
  next_form fs i f k e a m b es l is h x r =
      let n = next_left fs i f l is in
      let r' = rw add-one at r in
      rw n (reads_more false (sketch_at f) _ a m b (draft_of e) es (subst (λ j. Reads globals 1 [] Value j a m (draft_of e)) h x) r')
