-- What each step of the walk with a stack keeps, and that less is left after it.
use Rattle.std.proofs.Common.{◌≡◌, ◌+◌, ◌-◌, ◌*◌, ◌≤◌, ◌<◌, ℕ, suc, Bool, true, false, List, [], ◌∷◌, ◌++◌, map, length, drop, reverse, Option, nat_le, nat_eq, refl, sym, ap, ◌∙◌, arith}
use Rattle.std.proofs.lemmas.List.{reverse-append, reverse-reverse, length-reverse, length-append, length-drop, map-append}
use Rattle.std.proofs.lemmas.Bool.Decides.{nat_tests}
use Rattle.sch_word.specs.trees.Shape.{max_levels}
use Rattle.sch_read.specs.Grammar.{Datum, Data}
use Rattle.sch_names.specs.Scope.{Scope, Globals}
use Rattle.sch_sketch.specs.declared.fault.Fault.{Fault}
use Rattle.sch_sketch.specs.declared.fault.Fault.TheVariants.{Core}
use Rattle.sch_sketch.specs.declared.sketch.Position.{Position}
use Rattle.sch_sketch.specs.declared.sketch.Row.{Row}
use Rattle.sch_sketch.specs.declared.sketch.Sketch as code_sketch
use Rattle.sch_sketch.specs.Draft.{Draft, Drafts, drafts, no_drafts, and_draft}
use Rattle.sch_sketch.specs.Measure.{sketch_measure, sketches_measure}
use Rattle.sch_expansion.specs.Outline.{outline_datum, outline}
use Rattle.sch_sketch.specs.Sketch.{Kind, Sketch, Sketches, text, rest, wrong, leaf, node, limited, and_sketch, how_many_parts, is_end, scope_in, position_in, width, assemble, nothing}
use Rattle.sch_sketch.specs.SketchView.{kind_of, sketch_of, sketches_of}
use Rattle.sch_expansion.proofs.Falls.{datum_falls, rest_falls}
use Rattle.sch_sketch.proofs.SmallMeasures.{leaf_some}
use Rattle.sch_sketch.specs.declared.draft.Draft as code_draft
use Rattle.sch_expansion.specs.declared.walk.Open.{Open}
use Rattle.sch_sketch.specs.DraftView.{draft_of, drafts_of}
use Rattle.sch_expansion.specs.FaultOrder.{reported, all_reported}
use Rattle.sch_expansion.specs.Following.{and_then}
use Rattle.sch_expansion.specs.Reads.{Reads, PartsRead, level_faults, operand_faults}
use Rattle.sch_expansion.specs.Reads as re
use Rattle.sch_expansion.specs.WalkStack.{Task, Holds, Goes, PartsWanted, around, open_left}

pub and_then_none : (es : List Draft) → and_then es no_drafts ≡ drafts es
and_then_none [] = refl
and_then_none (e ∷ es) = ap (and_draft e) (and_then_none es)

and_then_more : (es : List Draft) (e : Draft) (more : Drafts) → and_then (es ++ e ∷ []) more ≡ and_then es (and_draft e more)
and_then_more [] e more = refl
and_then_more (a ∷ es) e more = ap (and_draft a) (and_then_more es e more)

-- the view of a list
pub how_many_is : (ks : List code_sketch.Sketch) → how_many_parts (sketches_of ks) ≡ length ks
how_many_is [] = refl
how_many_is (k ∷ ks) = ap suc (how_many_is ks)

is_end_of : (ks : List code_sketch.Sketch) → is_end (sketches_of ks) ≡ nat_eq (length ks) 0
is_end_of [] = refl
is_end_of (k ∷ ks) = grind (arith, nat_tests)

pub more_made : (es : List code_draft.Draft) (e : code_draft.Draft) (fs : Drafts) → and_then (map draft_of (es ++ e ∷ [])) fs ≡ and_then (map draft_of es) (and_draft (draft_of e) fs)
more_made es e fs = ap (λ l. and_then l fs) (map-append draft_of es (e ∷ [])) ∙ and_then_more (map draft_of es) (draft_of e) fs

-- ## One sketch, by the words of the code

module _ (globals : Globals) {n : ℕ} {s : Scope} {t : Position} {k : Sketch} {a b : Option Fault} {e : Draft} where
  pub at_datum : {k' : Sketch} {d : Datum} → k ≡ text d → k' ≡ outline_datum globals s d → Reads globals n s t k' a b e → Reads globals n s t k a b e
  at_datum {k'} {d} h h' r = let q = rw h' at r in rw h (re.reads_datum n s t d a b e q)

  pub at_rest : {k' : Sketch} {r : Row} {at : ℕ} {xs ys : Data} {s' : Scope} → k ≡ rest r at xs ys → k' ≡ outline globals s t r at xs ys → s' ≡ s → Reads globals n s' t k' a b e → Reads globals n s t k a b e
  at_rest {k'} {r} {at} {xs} {ys} h h' i q = let q' = rw (i, h') at q in rw h (re.reads_rest n s t r at xs ys a b e q')

  pub at_wrong : {f : Fault} → k ≡ wrong f → b ≡ reported f a → e ≡ nothing → Reads globals n s t k a b e
  at_wrong {f} h i j = rw (h, i, j) (re.reads_wrong n s t f a)

  pub at_leaf : {at : ℕ} {e' : Draft} → k ≡ leaf at e' → b ≡ all_reported (level_faults n at) a → e ≡ e' → Reads globals n s t k a b e
  at_leaf {at} {e'} h i j = rw (h, i, j) (re.reads_leaf n s t at e' a)

  pub at_limited : {at count : ℕ} {k' k'' : Sketch} {m : Option Fault} → k ≡ limited at count k' → k'' ≡ k' → m ≡ all_reported (operand_faults at count) a → Reads globals n s t k'' m b e → Reads globals n s t k a b e
  at_limited {at} {count} {k'} {k''} {m} h j i r = let q = rw (j, i) at r in rw h (re.reads_limited n s t at count k' a b e q)

  pub at_deep : {kind : Kind} {at w : ℕ} {ks : Sketches} {m : Option Fault} → k ≡ node kind at ks → w ≡ width kind (how_many_parts ks) → m ≡ all_reported (operand_faults at w) a →
      nat_le n max_levels ≡ false → b ≡ reported (Core at) m → e ≡ nothing → Reads globals n s t k a b e
  at_deep {kind} {at} {w} {ks} {m} h u i l j x = rw (h, j, i, u, x) (re.reads_deep n s t kind at ks a l)

-- ## The stack

pub no_part_left : (w : Task) (o : Open) (os : List Open) (s : Scope) (b : Option Fault) (e : Draft) → o.left ≡ [] → e ≡ assemble (kind_of o.kind) (drafts_of o.drafts) → Goes w o os s b → Holds w os s b e
no_part_left w o os s b e l h g =
    let r : PartsRead w.globals (kind_of o.kind) (nat_eq (length o.drafts) 0) o.level s o.position (sketches_of (reverse o.left)) b b no_drafts =
    rw l (re.reads_none (kind_of o.kind) (nat_eq (length o.drafts) 0) o.level s o.position b) in
    let q = g.rest b no_drafts r in
    let q' = rw and_then_none at q in
    rw h q'

pub next_part : (w : Task) (o o' : Open) (os : List Open) (s s' : Scope) (t' : Position) (p : code_sketch.Sketch) (first last : Bool) (b m : Option Fault) (e : Draft) →
    o'.kind ≡ o.kind → o'.level ≡ o.level → o'.position ≡ o.position → o'.depth ≡ o.depth → o'.drafts ≡ o.drafts → o.left ≡ o'.left ++ p ∷ [] →
    first ≡ nat_eq (length o.drafts) 0 → last ≡ nat_eq (length o'.left) 0 → s' ≡ scope_in (kind_of o.kind) first last s → drop (length s' - length s) s' ≡ s → t' ≡ position_in (kind_of o.kind) first last o.position →
    Goes w o os s b → Reads w.globals o.level s' t' (sketch_of p) b m e → Holds w (o' ∷ os) s' m e
next_part w o o' os s s' t' p first last b m e hk hl hp hd hm left f l u kept v g r =
    let n : around o' s' ≡ s = ap (λ d. drop (length s' - d) s') (hd ∙ g.depth) ∙ kept in
    let x : last ≡ is_end (sketches_of (reverse o'.left)) = l ∙ ap (λ d. nat_eq d 0) (sym (length-reverse o'.left)) ∙ sym (is_end_of (reverse o'.left)) in
    let y : sketches_of (reverse o.left) ≡ and_sketch (sketch_of p) (sketches_of (reverse o'.left)) = ap (λ d. sketches_of (reverse d)) left ∙ ap sketches_of (reverse-append o'.left (p ∷ [])) in
    let r' = rw (u, v, x, f) at r in
    let deep : o'.depth ≤ length s' = omega (arith, hd, g.depth, ap (λ x. length x) kept, length-drop (length s' - length s) s') in (
      deep,
      λ c es q.
          let q' = rw (hk, hl, hp, n) at q in
          let z : PartsRead w.globals (kind_of o.kind) (nat_eq (length o.drafts) 0) o.level s o.position (sketches_of (reverse o.left)) b c (and_draft e es) =
          rw y (re.reads_part (kind_of o.kind) (nat_eq (length o.drafts) 0) o.level s o.position (sketch_of p) (sketches_of (reverse o'.left)) b m c e es r' q') in
          rw (n, hk, hm) (g.rest c (and_draft e es) z),
    )

-- a part's draft
pub part_made : (w : Task) (o o' : Open) (os : List Open) (s s' : Scope) (b : Option Fault) (e : code_draft.Draft) →
    o'.kind ≡ o.kind → o'.level ≡ o.level → o'.position ≡ o.position → o'.left ≡ o.left → o'.drafts ≡ o.drafts ++ e ∷ [] → s' ≡ around o s → o'.depth ≡ o.depth →
    Holds w (o ∷ os) s b (draft_of e) → Goes w o' os s' b
part_made w o o' os s s' b e hk hl hp left hm u d h =
    let z : nat_eq (length (o.drafts ++ e ∷ [])) 0 ≡ false = grind (arith, nat_tests, length-append) in
    record {
      depth = d ∙ omega (arith, h.0, ap (λ x. length x) u, length-drop (length s - o.depth) s);
      rest = λ c es q.
          let q' = rw (hk, hl, hp, left, hm, z, u) at q in
          rw (hk, hm, u, more_made) (h.1 c es q');
    }

-- a part that is a leaf
pub part_read : (w : Task) (o o'' : Open) (left' : List code_sketch.Sketch) (os : List Open) (s s' s'' : Scope) (t' : Position) (p : code_sketch.Sketch) (first last : Bool) (b m : Option Fault) (e : code_draft.Draft) →
    o''.kind ≡ o.kind → o''.level ≡ o.level → o''.position ≡ o.position → o''.depth ≡ o.depth → o''.left ≡ left' → o''.drafts ≡ o.drafts ++ e ∷ [] → o.left ≡ left' ++ p ∷ [] →
    first ≡ nat_eq (length o.drafts) 0 → last ≡ nat_eq (length left') 0 → s' ≡ scope_in (kind_of o.kind) first last s → drop (length s' - length s) s' ≡ s → t' ≡ position_in (kind_of o.kind) first last o.position →
    s'' ≡ drop (length s' - o.depth) s' → Goes w o os s b → Reads w.globals o.level s' t' (sketch_of p) b m (draft_of e) → Goes w o'' os s'' m
part_read w o o'' left' os s s' s'' t' p first last b m e hk hl hp hd left hm split f l u kept v after g r =
    let o' : Open = record o { left = left' } in
    part_made w o' o'' os s' s'' m e hk hl hp left hm after hd (next_part w o o' os s s' t' p first last b m (draft_of e) refl refl refl refl refl split f l u kept v g r)

pub parts_opened : (w : Task) (o : Open) (os : List Open) (s : Scope) (ks : List code_sketch.Sketch) (b : Option Fault) → o.depth ≡ length s → o.left ≡ reverse ks → o.drafts ≡ [] →
    PartsWanted w (kind_of o.kind) o.level o.position (sketches_of ks) os s b → Goes w o os s b
parts_opened w o os s ks b hd left hm f =
    let x : reverse o.left ≡ ks = ap reverse left ∙ reverse-reverse ks in
    record { depth = hd; rest = λ c es q. let q' = rw (hm, x) at q in rw hm (f c es q') }

pub node_wanted : (w : Task) (os : List Open) (kind : Kind) (at n l wide : ℕ) (s : Scope) (t : Position) (ks : Sketches) (sketch : Sketch) (a m : Option Fault) →
    sketch ≡ node kind at ks → wide ≡ width kind (how_many_parts ks) → m ≡ all_reported (operand_faults at wide) a → nat_le n max_levels ≡ true → l ≡ n + 1 →
    ((b : Option Fault) (e : Draft) → Reads w.globals n s t sketch a b e → Holds w os s b e) → PartsWanted w kind l t ks os s m
node_wanted w os kind at n l wide s t ks sketch a m h hw i le hl f = λ c es q.
    let i' = rw hw at i in
    let q' = rw (hl, i') at q in
    f c (assemble kind es) (rw h (re.reads_node n s t kind at ks a c es le q'))

-- ## What is left

pub smaller_part : (o : Open) (left : List code_sketch.Sketch) (p : code_sketch.Sketch) (m : ℕ) → o.left ≡ left ++ p ∷ [] →
    2 * sketch_measure (sketch_of p) + ((1 + 2 * sketches_measure (sketches_of (reverse left))) + m) < 1 + open_left o + m
smaller_part o left p m e =
    let y : sketches_measure (sketches_of (reverse o.left)) ≡ sketch_measure (sketch_of p) + sketches_measure (sketches_of (reverse left)) =
    ap (λ d. sketches_measure (sketches_of (reverse d))) e ∙ ap (λ d. sketches_measure (sketches_of d)) (reverse-append left (p ∷ [])) in
    omega (arith, y)

-- the same for what stands for the part, and for a node of which parts were read before
pub smaller_next : (o : Open) (left : List code_sketch.Sketch) (p : code_sketch.Sketch) (k n m : ℕ) → o.left ≡ left ++ p ∷ [] → k ≤ sketch_measure (sketch_of p) → open_left o ≤ n →
    2 * k + ((1 + 2 * sketches_measure (sketches_of (reverse left))) + m) < 1 + n + m
smaller_next o left p k n m e l u = omega (arith, l, u, smaller_part o left p m e)

pub fewer_left : (o : Open) (left : List code_sketch.Sketch) (p : code_sketch.Sketch) (n : ℕ) → o.left ≡ left ++ p ∷ [] → open_left o ≤ n → 1 + 2 * sketches_measure (sketches_of (reverse left)) ≤ n
fewer_left o left p n e u = omega (arith, u, smaller_part o left p 0 e)

pub smaller_end : (o : Open) (n m : ℕ) → open_left o ≤ n → 1 + m < 1 + n + m
smaller_end o n m u = omega (arith, u)

pub smaller_outlined : (a k k' m : ℕ) → a < 2 * k + m → k ≤ k' → a < 2 * k' + m
smaller_outlined a k k' m l u = omega (arith, l, u)

pub smaller_opened : (n k x m : ℕ) → n ≡ 1 + 2 * k → x < 1 + n + m → x < 2 + 2 * k + m
smaller_opened n k x m e l = omega (arith, e, l)

pub smaller_datum : (globals : Globals) {k k' : Sketch} {d : Datum} (s : Scope) (m : ℕ) → k ≡ text d → k' ≡ outline_datum globals s d → 2 * sketch_measure k' + m < 2 * sketch_measure k + m
smaller_datum globals {d = d} s m h h' = rw (h, h') (omega (arith, datum_falls globals s d))

pub smaller_rest : (globals : Globals) {k k' : Sketch} {r : Row} {at : ℕ} {xs ys : Data} (s : Scope) (t : Position) (m : ℕ) → k ≡ rest r at xs ys → k' ≡ outline globals s t r at xs ys → 2 * sketch_measure k' + m < 2 * sketch_measure k + m
smaller_rest globals {r = r} {at} {xs} {ys} s t m h h' = rw (h, h') (omega (arith, rest_falls globals s t r at xs ys))

pub smaller_wrong : {k : Sketch} {f : Fault} (m : ℕ) → k ≡ wrong f → 1 + m < 2 * sketch_measure k + m
smaller_wrong m h = rw h (omega arith)

pub smaller_leaf : {k : Sketch} {at : ℕ} {e : Draft} (m : ℕ) → k ≡ leaf at e → 1 + m < 2 * sketch_measure k + m
smaller_leaf {e = e} m h = rw h (omega (arith, leaf_some e))

pub smaller_limited : {k k' k'' : Sketch} {at count : ℕ} (m : ℕ) → k ≡ limited at count k' → k'' ≡ k' → 2 * sketch_measure k'' + m < 2 * sketch_measure k + m
smaller_limited m h i = rw (h, i) (omega arith)

pub smaller_deep : {k : Sketch} {kind : Kind} {at : ℕ} {ks : Sketches} (m : ℕ) → k ≡ node kind at ks → 1 + m < 2 * sketch_measure k + m
smaller_deep m h = rw h (omega arith)

pub smaller_open : (ks left : List code_sketch.Sketch) (x m : ℕ) → left ≡ reverse ks → x < 1 + (1 + 2 * sketches_measure (sketches_of (reverse left))) + m →
    x < 2 + 2 * sketches_measure (sketches_of ks) + m
smaller_open ks left x m e l =
    let y : sketches_measure (sketches_of (reverse left)) ≡ sketches_measure (sketches_of ks) = ap (λ d. sketches_measure (sketches_of d)) (ap reverse e ∙ reverse-reverse ks) in
    omega (arith, l, y)

pub smaller_node : {kind : Kind} {at : ℕ} (ks : Sketches) (sketch : Sketch) (x m : ℕ) → sketch ≡ node kind at ks → x < 2 + 2 * sketches_measure ks + m → x < 2 * sketch_measure sketch + m
smaller_node ks sketch x m h l = rw h (omega (arith, l))
