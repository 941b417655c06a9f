-- What stands for a sketch that fits a notion fits it too.
use Rattle.std.proofs.Common.{◌≡◌, ℕ, Bool, List, length, refl}
use Rattle.sch_names.specs.Scope.{Scope, Globals}
use Rattle.sch_sketch.specs.declared.fault.Fault.{Fault}
use Rattle.sch_sketch.specs.declared.sketch.Position.{Position}
use Rattle.sch_sketch.specs.Draft.{Draft, Drafts, constant, symbol, literal, local, global, set_local, set_global, define, branch, sequence, bind, letrec, lambda, call, operation, no_drafts, and_draft}
use Rattle.sch_sketch.specs.Sketch.{Kind, choosing, sequencing, binding, recurring, abstracting, calling, operating, setting, setting_global, defining, Sketch, Sketches, text, rest, wrong, leaf, node, limited, front, last, first, but_first, assemble}
use Rattle.sch_sketch.specs.Soundness as sketches
use Rattle.sch_expansion.proofs.SoundRows.{datum_sound, rest_sound}
use Rattle.sch_expansion.specs.Expands.{Expands, PartsExpand}
use Rattle.sch_expansion.specs.Expands as ex
use Rattle.sch_core.proofs.notions.Notions.{Notion, IsKept, IsFitLeaf, IsSet, IsFit, AreFit}
use Rattle.sch_core.proofs.notions.FitRows.{datum_fits, rest_fits}

abbrev mutual
  pub FitsDraft : Notion → Draft → Type 0
  FitsDraft n (constant c) = n.Constant c
  FitsDraft n (symbol x) = n.Symbol x
  FitsDraft n (literal d) = n.Good d
  FitsDraft n (local k) = Unit {0}
  FitsDraft n (global x) = n.Global x
  FitsDraft n (set_local k e) = FitsDraft n e
  FitsDraft n (set_global x e) = n.Global x × FitsDraft n e
  FitsDraft n (define x e) = n.Global x × FitsDraft n e
  FitsDraft n (branch a b c) = FitsDraft n a × FitsDraft n b × FitsDraft n c
  FitsDraft n (sequence es) = FitsDrafts n es
  FitsDraft n (bind vs es e) = FitsDrafts n es × FitsDraft n e
  FitsDraft n (letrec vs p es e) = FitsDrafts n es × FitsDraft n e
  FitsDraft n (lambda m r e) = FitsDraft n e
  FitsDraft n (call vs f es) = FitsDraft n f × FitsDrafts n es
  FitsDraft n (operation p es) = FitsDrafts n es

  pub FitsDrafts : Notion → Drafts → Type 0
  FitsDrafts n no_drafts = Unit {0}
  FitsDrafts n (and_draft e es) = FitsDraft n e × FitsDrafts n es

no_draft : {globals : Globals} {n : ℕ} {s : Scope} {t : Position} {k : Sketch} {e : Draft} {f : Fault} → Expands globals n s t k e → k ≡ wrong f → ⊥
no_draft (ex.a_datum n s t d e p) i = cc
no_draft (ex.a_rest n s t r at xs ys e p) i = cc
no_draft (ex.a_leaf n s t at e l) i = cc
no_draft (ex.a_node n s t k at ks es l w p) i = cc
no_draft (ex.within n s t at m k e w p) i = cc

module _ (globals : Globals) (n : Notion) (c : IsKept globals n) where
  -- ## Nodes

  front_fits : (es : Drafts) → FitsDrafts n es → FitsDrafts n (front es)
  front_fits no_drafts h = tt
  front_fits (and_draft e no_drafts) h = tt
  front_fits (and_draft e (and_draft f fs)) h = (h.0, front_fits (and_draft f fs) h.1)

  last_fits : (es : Drafts) → FitsDrafts n es → FitsDraft n (last es)
  last_fits no_drafts h = c.nothing
  last_fits (and_draft e no_drafts) h = h.0
  last_fits (and_draft e (and_draft f fs)) h = last_fits (and_draft f fs) h.1

  first_fits : (es : Drafts) → FitsDrafts n es → FitsDraft n (first es)
  first_fits no_drafts h = c.nothing
  first_fits (and_draft e es) h = h.0

  but_first_fits : (es : Drafts) → FitsDrafts n es → FitsDrafts n (but_first es)
  but_first_fits no_drafts h = tt
  but_first_fits (and_draft e es) h = h.1

  leaf_fits : (m : ℕ) (e : Draft) → sketches.IsAtom e m → IsFitLeaf n e → FitsDraft n e
  leaf_fits m (constant k) h g = g
  leaf_fits m (symbol x) h g = g
  leaf_fits m (literal d) h g = g
  leaf_fits m (local k) h g = tt
  leaf_fits m (global x) h g = g
  leaf_fits m (set_local k e) h g = absurd h
  leaf_fits m (set_global x e) h g = absurd h
  leaf_fits m (define x e) h g = absurd h
  leaf_fits m (branch a b d) h g = absurd h
  leaf_fits m (sequence es) h g = absurd h
  leaf_fits m (bind vs es e) h g = absurd h
  leaf_fits m (letrec vs p es e) h g = absurd h
  leaf_fits m (lambda k r e) h g = absurd h
  leaf_fits m (call vs f es) h g = absurd h
  leaf_fits m (operation p es) h g = absurd h

  parts_fit : (k : Kind) (at : ℕ) (ks : Sketches) → IsFit n (node k at ks) → AreFit n ks
  parts_fit (setting_global x) at ks h = h.1
  parts_fit (defining x) at ks h = h.1
  parts_fit choosing at ks h = h
  parts_fit sequencing at ks h = h
  parts_fit (binding vs) at ks h = h
  parts_fit (recurring vs p) at ks h = h
  parts_fit (abstracting vs more) at ks h = h
  parts_fit (calling vs) at ks h = h
  parts_fit (operating p) at ks h = h
  parts_fit (setting k) at ks h = h

  set_is : (x : List ℕ) {k : Kind} {first : Bool} {m : ℕ} {s : Scope} {t : Position} {ks : Sketches} {es : Drafts} → PartsExpand globals k first m s t ks es → IsSet n x ks → n.Global x
  set_is x (ex.no_part k first m s t) h = h
  set_is x (ex.and_part k first m s t (wrong f) ps e es p y) h = absurd (no_draft p refl)
  set_is x (ex.and_part k first m s t (text d) ps e es p y) h = h
  set_is x (ex.and_part k first m s t (rest r at xs ys) ps e es p y) h = h
  set_is x (ex.and_part k first m s t (leaf at d) ps e es p y) h = h
  set_is x (ex.and_part k first m s t (node j at ks) ps e es p y) h = h
  set_is x (ex.and_part k first m s t (limited at q j) ps e es p y) h = h

  node_fits : (k : Kind) (at : ℕ) (ks : Sketches) (es : Drafts) → ((x : List ℕ) → IsSet n x ks → n.Global x) → IsFit n (node k at ks) → FitsDrafts n es → FitsDraft n (assemble k es)
  node_fits choosing at ks es f i h =
      let g = front_fits es h in (last_fits (front (front es)) (front_fits (front es) g), last_fits (front es) g, last_fits es h)
  node_fits sequencing at ks es f i h = h
  node_fits (binding vs) at ks es f i h = (front_fits es h, last_fits es h)
  node_fits (recurring vs p) at ks es f i h = (front_fits es h, last_fits es h)
  node_fits (abstracting vs more) at ks es f i h = last_fits es h
  node_fits (calling vs) at ks es f i h = (first_fits es h, but_first_fits es h)
  node_fits (operating p) at ks es f i h = h
  node_fits (setting k) at ks es f i h = last_fits es h
  node_fits (setting_global x) at ks es f i h = (f x i.0, last_fits es h)
  node_fits (defining x) at ks es f i h = (i.0, last_fits es h)

  -- ## Sketches

  mutual
    pub fits : {m : ℕ} {s : Scope} {t : Position} {k : Sketch} {e : Draft} → Expands globals m s t k e → sketches.IsSound s k → IsFit n k → FitsDraft n e
    fits (ex.a_datum m s t d e p) h g = fits p (datum_sound globals s d) (datum_fits globals n c s d g)
    fits (ex.a_rest m s t r at xs ys e p) h g = fits p (rest_sound globals s t r at xs ys h) (rest_fits globals n c s t r at xs ys g.0 g.1)
    fits (ex.a_leaf m s t at e l) h g = leaf_fits (length s) e h g
    fits (ex.a_node m s t k at ks es l w p) h g = node_fits k at ks es (λ x i. set_is x p i) g (fits_each p h.1.1 (parts_fit k at ks g))
    fits (ex.within m s t at q k e w p) h g = fits p h g

    pub fits_each : {k : Kind} {first : Bool} {m : ℕ} {s : Scope} {t : Position} {ks : Sketches} {es : Drafts} → PartsExpand globals k first m s t ks es → sketches.AreSound k first s ks → AreFit n ks → FitsDrafts n es
    fits_each (ex.no_part k first m s t) h g = tt
    fits_each (ex.and_part k first m s t p ps e es x y) h g = (fits x h.0 g.0, fits_each y h.1 g.1)
