-- A reading under fewer names of its own assigns what one without faults assigns: where the one has an operation
-- for the call of the other, their operands are the same.
use Rattle.std.proofs.Common.{◌≡◌, ◌≤◌, ◌+◌, ℕ, zero, suc, Bool, true, false, cond, List, [], ◌∷◌, ◌++◌, Option, Some, None, nat_le, refl, sym, ap, ◌∙◌, subst, arith}
use Rattle.std.specs.Prelude.{is_some}
use Rattle.std.proofs.lemmas.Bool.{leb-true, leb-false}
use Rattle.std.proofs.lemmas.List.{append-nil, append_assoc}
use Rattle.sch_word.specs.trees.Shape.{max_levels}
use Rattle.sch_word.specs.declared.constant.Const.TheVariants.{Character}
use Rattle.sch_word.specs.declared.primitive.Primitive.{Primitive}
use Rattle.sch_word.specs.declared.primitive.Primitive.TheVariants.{MakeString}
use Rattle.sch_read.specs.Grammar.{Datum, Data, atom, list, none, cons, symbol}
use Rattle.sch_read.specs.Parts.{how_many, offset}
use Rattle.sch_names.specs.declared.keyword.Keyword.{Keyword}
use Rattle.sch_names.specs.declared.keyword.Keyword.TheVariants.{Lambda, Set, Cond, Case, Or, Let, LetStar, Letrec, Begin}
use Rattle.sch_names.specs.declared.operation.Operation.{Operation}
use Rattle.sch_names.specs.declared.operation.Operation.TheVariants.{Exact, Unit as UnitOf, UnitAnd, Nested, Chained, Filled, Not}
use Rattle.sch_names.specs.Operations.{operation_of}
use Rattle.sch_names.specs.Words.{keyword_of}
use Rattle.sch_names.specs.Scope.{Scope, Globals, find, is_among, head, operating as operating_head}
use Rattle.sch_names.proofs.Counts.{Admits, operation_admits}
use Rattle.sch_sketch.specs.declared.sketch.Position.{Position}
use Rattle.sch_sketch.specs.declared.sketch.Position.TheVariants.{Value, Test}
use Rattle.sch_sketch.specs.declared.sketch.Row.{Row}
use Rattle.sch_sketch.specs.declared.sketch.Row.TheVariants.{Form, Body, Method, Clauses, Chain, Join}
use Rattle.sch_sketch.specs.declared.fault.Fault.{Fault}
use Rattle.sch_sketch.specs.Draft.{Draft, Drafts, no_drafts, and_draft, constant, local}
use Rattle.sch_sketch.specs.Sketch.{Kind, choosing, sequencing, binding, recurring, abstracting, calling, operating, setting, setting_global, defining, Sketch, Sketches, text, rest, leaf, node, limited}
use Rattle.sch_sketch.specs.Sketch.{no_sketch, and_sketch, is_end, how_many_parts, scope_in, position_in, width, assemble, nothing, front, last, first, but_first, but_one}
use Rattle.sch_sketch.specs.Small.{one, two, three, truth, texts, fresh, fresh_each, either_of}
use Rattle.sch_form_choices.specs.Choices.{is_else, is_some_data, plain_clause, receiver, other_clause, remaining, row_clauses, row_or}
use Rattle.sch_form_choices.specs.Combinations.{combination, filler, row_chain, row_join}
use Rattle.sch_form_bodies.specs.Assignments.{assignment, row_set}
use Rattle.sch_expansion.specs.Outline.{outline_datum, outline_name, outline_head, outline, row_form, call_of}
use Rattle.sch_expansion.specs.Expands.{IsLevel, Expands, PartsExpand}
use Rattle.sch_expansion.specs.Expands as ex
use Rattle.sch_expansion.specs.FaultOrder.{all_reported}
use Rattle.sch_expansion.specs.Reads.{Reads, PartsRead, level_faults, operand_faults}
use Rattle.sch_expansion.specs.Reads as re
use Rattle.sch_toplevel.specs.Assigned.{assigned_in, assigned_in_each}
use Rattle.sch_core.proofs.readings.ScopesAlike.{BindAlike, onto_alike, fresh_alike, cond_alike, remaining_alike, case_alike, row_body_alike, row_lambda_alike, row_method_alike, row_let_alike, row_letrec_alike, row_let_star_alike}

-- ## Positions and levels

-- what the one reads for its truth the other may read for its value
abbrev pub NoNearer : Position → Position → Type 0
NoNearer Value Test = ⊥
NoNearer _ _ = Unit {0}

same_position : (t : Position) → NoNearer t t
same_position Value = tt
same_position Test = tt

position_kept : (k : Kind) (first last : Bool) (t t' : Position) → NoNearer t t' → NoNearer (position_in k first last t) (position_in k first last t')
position_kept choosing true last t t' h = tt
position_kept choosing false last t t' h = h
position_kept sequencing first true t t' h = h
position_kept sequencing first false t t' h = tt
position_kept (binding vs) first true t t' h = h
position_kept (binding vs) first false t t' h = tt
position_kept (recurring vs p) first true t t' h = h
position_kept (recurring vs p) first false t t' h = tt
position_kept (abstracting vs more) first last t t' h = tt
position_kept (calling vs) first last t t' h = tt
position_kept (operating p) first last t t' h = tt
position_kept (setting k) first last t t' h = tt
position_kept (setting_global x) first last t t' h = tt
position_kept (defining x) first last t t' h = tt

scope_kept : (k : Kind) (first last : Bool) (s s' : Scope) → BindAlike s s' → BindAlike (scope_in k first last s) (scope_in k first last s')
scope_kept (binding vs) first true s s' h = onto_alike vs h
scope_kept (binding vs) first false s s' h = h
scope_kept (recurring vs p) first last s s' h = onto_alike vs h
scope_kept (abstracting vs more) first last s s' h = onto_alike vs h
scope_kept choosing first last s s' h = h
scope_kept sequencing first last s s' h = h
scope_kept (calling vs) first last s s' h = h
scope_kept (operating p) first last s s' h = h
scope_kept (setting k) first last s s' h = h
scope_kept (setting_global x) first last s s' h = h
scope_kept (defining x) first last s s' h = h

not_deep : {n m : ℕ} → n ≤ m → IsLevel m → nat_le n max_levels ≡ false → ⊥
not_deep {n} {m} h l d = let a = leb-true m max_levels l in let b = leb-false n max_levels d in omega (arith, a, b)

-- ## Drafts that assign the same names, one by one

abbrev pub AssignAlike : Drafts → Drafts → Type 0
AssignAlike no_drafts no_drafts = Unit {0}
AssignAlike (and_draft e es) (and_draft f fs) = (assigned_in e ≡ assigned_in f) × AssignAlike es fs
AssignAlike _ _ = ⊥

pub each_alike : (es fs : Drafts) → AssignAlike es fs → assigned_in_each es ≡ assigned_in_each fs
each_alike no_drafts no_drafts h = refl
each_alike (and_draft e es) (and_draft f fs) h = λ i. h.0 i ++ each_alike es fs h.1 i
each_alike no_drafts (and_draft f fs) h = absurd h
each_alike (and_draft e es) no_drafts h = absurd h

last_alike : (es fs : Drafts) → AssignAlike es fs → assigned_in (last es) ≡ assigned_in (last fs)
last_alike no_drafts no_drafts h = refl
last_alike (and_draft e no_drafts) (and_draft f no_drafts) h = h.0
last_alike (and_draft e (and_draft a es)) (and_draft f (and_draft b fs)) h = last_alike (and_draft a es) (and_draft b fs) h.1
last_alike no_drafts (and_draft f fs) h = absurd h
last_alike (and_draft e es) no_drafts h = absurd h
last_alike (and_draft e no_drafts) (and_draft f (and_draft b fs)) h = absurd h.1
last_alike (and_draft e (and_draft a es)) (and_draft f no_drafts) h = absurd h.1

front_alike : (es fs : Drafts) → AssignAlike es fs → AssignAlike (front es) (front fs)
front_alike no_drafts no_drafts h = tt
front_alike (and_draft e no_drafts) (and_draft f no_drafts) h = tt
front_alike (and_draft e (and_draft a es)) (and_draft f (and_draft b fs)) h = (h.0, front_alike (and_draft a es) (and_draft b fs) h.1)
front_alike no_drafts (and_draft f fs) h = absurd h
front_alike (and_draft e es) no_drafts h = absurd h
front_alike (and_draft e no_drafts) (and_draft f (and_draft b fs)) h = absurd h.1
front_alike (and_draft e (and_draft a es)) (and_draft f no_drafts) h = absurd h.1

first_alike : (es fs : Drafts) → AssignAlike es fs → assigned_in (first es) ≡ assigned_in (first fs)
first_alike no_drafts no_drafts h = refl
first_alike (and_draft e es) (and_draft f fs) h = h.0
first_alike no_drafts (and_draft f fs) h = absurd h
first_alike (and_draft e es) no_drafts h = absurd h

but_first_alike : (es fs : Drafts) → AssignAlike es fs → AssignAlike (but_first es) (but_first fs)
but_first_alike no_drafts no_drafts h = tt
but_first_alike (and_draft e es) (and_draft f fs) h = h.1
but_first_alike no_drafts (and_draft f fs) h = absurd h
but_first_alike (and_draft e es) no_drafts h = absurd h

made_alike : (k : Kind) (es fs : Drafts) → AssignAlike es fs → assigned_in (assemble k es) ≡ assigned_in (assemble k fs)
made_alike choosing es fs h =
    let g = front_alike es fs h in
    λ i. last_alike (front (front es)) (front (front fs)) (front_alike (front es) (front fs) g) i ++ (last_alike (front es) (front fs) g i ++ last_alike es fs h i)
made_alike sequencing es fs h = each_alike es fs h
made_alike (binding vs) es fs h = λ i. each_alike (front es) (front fs) (front_alike es fs h) i ++ last_alike es fs h i
made_alike (recurring vs p) es fs h = λ i. each_alike (front es) (front fs) (front_alike es fs h) i ++ last_alike es fs h i
made_alike (abstracting vs more) es fs h = last_alike es fs h
made_alike (calling vs) es fs h = λ i. first_alike es fs h i ++ each_alike (but_first es) (but_first fs) (but_first_alike es fs h) i
made_alike (operating p) es fs h = each_alike es fs h
made_alike (setting k) es fs h = last_alike es fs h
made_alike (setting_global x) es fs h = ap (λ l. x ∷ l) (last_alike es fs h)
made_alike (defining x) es fs h = last_alike es fs h

front_and_last : (es : Drafts) → assigned_in_each (front es) ++ assigned_in (last es) ≡ assigned_in_each es
front_and_last no_drafts = refl
front_and_last (and_draft e no_drafts) = sym (append-nil (assigned_in e))
front_and_last (and_draft e (and_draft f fs)) =
    append_assoc (assigned_in e) (assigned_in_each (front (and_draft f fs))) (assigned_in (last (and_draft f fs))) ∙ ap (λ l. assigned_in e ++ l) (front_and_last (and_draft f fs))

-- ## Twins

-- What the one reading and the other make of the same text: the same, but for how near variables are bound, an operation
-- for a call, and a choice that is read for its truth and not for its value.
pub data Twins : Sketch → Sketch → Type 0 where
  same : (k : Sketch) → Twins k k
  variables : (at i j : ℕ) → Twins (leaf at (local i)) (leaf at (local j))
  settings : (at i j : ℕ) (ks : Sketches) → Twins (node (setting i) at ks) (node (setting j) at ks)
  operations : (o : Operation) (at q : ℕ) (x : List ℕ) (xs : Data) → Admits o (how_many xs) →
      Twins (combination o at xs) (node (calling []) at (and_sketch (text (atom q (symbol x))) (texts xs no_sketch)))
  choices : (at : ℕ) (a k : Sketch) → Twins (node choosing at (three a (truth at true) k))
      (node (binding fresh) at (two a (node choosing at (three (leaf at (local 0)) (leaf at (local 0)) k))))

by_path : {k j : Sketch} → k ≡ j → Twins k j
by_path {k} {j} e = subst (λ m. Twins k m) e (same k)

after_path : {k j m : Sketch} → k ≡ j → Twins j m → Twins k m
after_path {k} {j} {m} e h = subst (λ l. Twins l m) (sym e) h

either_twins : (t t' : Position) (at : ℕ) (a k : Sketch) → NoNearer t t' → Twins (either_of t at a k) (either_of t' at a k)
either_twins Value Value at a k h = same _
either_twins Value Test at a k h = absurd h
either_twins Test Value at a k h = choices at a k
either_twins Test Test at a k h = same _

or_twins : (t t' : Position) (at : ℕ) (xs : Data) → NoNearer t t' → Twins (row_or t at xs) (row_or t' at xs)
or_twins t t' at none h = same _
or_twins t t' at (cons a none) h = same _
or_twins t t' at (cons a (cons b bs)) h = either_twins t t' at (text a) (rest (Form Or) (offset b) (cons b bs) none) h

clauses_twins : (s : Scope) (t t' : Position) (at : ℕ) (xs : Data) → NoNearer t t' → Twins (row_clauses s t at xs) (row_clauses s t' at xs)
clauses_twins s t t' at (cons (list p (cons a es)) cs) h = by (is_else s a) (receiver s es)
  where
    bare : (b : Bool) → Twins (cond b (plain_clause at a es cs) (either_of t at (text a) (remaining at cs))) (cond b (plain_clause at a es cs) (either_of t' at (text a) (remaining at cs)))
    bare true = same _
    bare false = either_twins t t' at (text a) (remaining at cs) h

    by : (b : Bool) (o : Option Datum) → Twins (cond b (rest (Form Begin) at es none) (other_clause t at a o es cs)) (cond b (rest (Form Begin) at es none) (other_clause t' at a o es cs))
    by true o = same _
    by false (Some f) = same _
    by false None = bare (is_some_data es)
clauses_twins s t t' at _ h = same _

-- ## What both readings make of a text

module _ (bound : List (List ℕ)) (internal : Bool) (own own' : List (List ℕ)) (more : (x : List ℕ) → is_among x own ≡ true → is_among x own' ≡ true) where
  -- the globals of the one reading, and of the other
  abbrev pub fewer : Globals
  fewer = record { bound = bound; own = own; internal = internal }

  abbrev pub all : Globals
  all = record { bound = bound; own = own'; internal = internal }

  name_twins : (v v' : Option ℕ) (w : Option Keyword) (g : Bool) (at : ℕ) (x : List ℕ) → is_some v ≡ is_some v' → Twins (outline_name v w g at x) (outline_name v' w g at x)
  name_twins (Some i) (Some j) w g at x e = variables at i j
  name_twins (Some i) None w g at x e = absurd cc
  name_twins None (Some j) w g at x e = absurd cc
  name_twins None None w g at x e = same _

  head_twins : (v v' : Option ℕ) (b b' : Bool) (w : Option Keyword) (o : Option Operation) (at q : ℕ) (x : List ℕ) (xs : Data) → is_some v ≡ is_some v' → (b ≡ true → b' ≡ true) →
      ((p : Operation) → head v b w o ≡ operating_head p → Admits p (how_many xs)) →
      Twins (outline_head (head v b w o) at (atom q (symbol x)) xs) (outline_head (head v' b' w o) at (atom q (symbol x)) xs)
  head_twins (Some i) (Some j) b b' w o at q x xs e m a = same _
  head_twins (Some i) None b b' w o at q x xs e m a = absurd cc
  head_twins None (Some j) b b' w o at q x xs e m a = absurd cc
  head_twins None None b b' (Some k) o at q x xs e m a = same _
  head_twins None None true true None o at q x xs e m a = same _
  head_twins None None true false None o at q x xs e m a = let f : false ≡ true = m refl in absurd cc
  head_twins None None false b' None None at q x xs e m a = by b'
    where
      by : (b : Bool) → Twins (call_of at (atom q (symbol x)) xs) (outline_head (head None b None None) at (atom q (symbol x)) xs)
      by true = same _
      by false = same _
  head_twins None None false false None (Some o) at q x xs e m a = same _
  head_twins None None false true None (Some o) at q x xs e m a = operations o at q x xs (a o refl)

  datum_twins : (s s' : Scope) (d : Datum) → BindAlike s s' → Twins (outline_datum fewer s d) (outline_datum all s' d)
  datum_twins s s' (atom at (symbol x)) h = name_twins (find s x) (find s' x) (keyword_of x) (is_among x bound) at x (h.alike x)
  datum_twins s s' (list at (cons (atom q (symbol x)) xs)) h =
      head_twins (find s x) (find s' x) (is_among x own) (is_among x own') (keyword_of x) (operation_of internal x (how_many xs)) at q x xs (h.alike x) (more x)
      (λ p e. operation_admits fewer s x (how_many xs) p e)
  datum_twins s s' _ h = same _

  set_twins : (s s' : Scope) (at : ℕ) (xs : Data) → BindAlike s s' → Twins (row_set fewer s at xs) (row_set all s' at xs)
  set_twins s s' at (cons (atom q (symbol x)) (cons e none)) h = by (find s x) (find s' x) (h.alike x)
    where
      by : (v v' : Option ℕ) → is_some v ≡ is_some v' →
          Twins (assignment v (keyword_of x) (is_among x bound) at q x e) (assignment v' (keyword_of x) (is_among x bound) at q x e)
      by (Some i) (Some j) e = settings at i j _
      by (Some i) None e = absurd cc
      by None (Some j) e = absurd cc
      by None None e = same _
  set_twins s s' at (cons v (cons e none)) h = same _
  set_twins s s' at _ h = same _

  form_twins : (k : Keyword) (s s' : Scope) (t t' : Position) (at : ℕ) (xs : Data) → BindAlike s s' → NoNearer t t' → Twins (row_form fewer k s t at xs) (row_form all k s' t' at xs)
  form_twins Or s s' t t' at xs h p = or_twins t t' at xs p
  form_twins Cond s s' t t' at xs h p = by_path (cond_alike h at xs)
  form_twins Case s s' t t' at xs h p = by_path (case_alike h at xs)
  form_twins Let s s' t t' at xs h p = by_path (row_let_alike h at xs)
  form_twins LetStar s s' t t' at xs h p = by_path (row_let_star_alike h at xs)
  form_twins Letrec s s' t t' at xs h p = by_path (row_letrec_alike h at xs)
  form_twins Lambda s s' t t' at xs h p = by_path (row_lambda_alike h at xs)
  form_twins Set s s' t t' at xs h p = set_twins s s' at xs h
  form_twins _ s s' t t' at xs h p = same _

  row_twins : (s s' : Scope) (t t' : Position) (r : Row) (at : ℕ) (xs ys : Data) → BindAlike s s' → NoNearer t t' →
      Twins (outline fewer s t r at xs ys) (outline all s' t' r at xs ys)
  row_twins s s' t t' (Form k) at xs ys h p = form_twins k s s' t t' at xs h p
  row_twins s s' t t' Body at xs ys h p = by_path (row_body_alike h at xs)
  row_twins s s' t t' Method at xs ys h p = by_path (row_method_alike h at xs)
  row_twins s s' t t' Clauses at xs ys h p = after_path (remaining_alike h t at xs) (clauses_twins s' t t' at xs p)
  row_twins s s' t t' _ at xs ys h p = same _

  -- ## One sketch, and those of a node

  -- whatever the other reading makes of it less deep assigns what this draft does
  abbrev Agrees : ℕ → Scope → Position → Sketch → Draft → Type 0
  Agrees m s' t' j f =
      (n : ℕ) (s : Scope) (t : Position) (k : Sketch) (a b : Option Fault) (e : Draft) → n ≤ m → BindAlike s s' → NoNearer t t' → Twins k j →
      Reads fewer n s t k a b e → assigned_in e ≡ assigned_in f

  abbrev AllAgree : Kind → (first : Bool) → ℕ → Scope → Position → Sketches → Drafts → Type 0
  AllAgree k first m s' t' no_sketch no_drafts = Unit {0}
  AllAgree k first m s' t' (and_sketch p ps) (and_draft f fs) =
      Agrees m (scope_in k first (is_end ps) s') (position_in k first (is_end ps) t') p f × AllAgree k false m s' t' ps fs
  AllAgree k first m s' t' _ _ = ⊥

  -- the parts of nodes whose kinds treat them alike
  parts_agree : (k j : Kind) (m : ℕ) (s s' : Scope) (t t' : Position) →
      ((first last : Bool) → BindAlike (scope_in k first last s) (scope_in j first last s')) → ((first last : Bool) → NoNearer (position_in k first last t) (position_in j first last t')) →
      (first : Bool) (n : ℕ) (ks : Sketches) (a b : Option Fault) (es fs : Drafts) → n ≤ m → PartsRead fewer k first n s t ks a b es → AllAgree j first m s' t' ks fs → AssignAlike es fs
  parts_agree k j m s s' t t' h p first n no_sketch a b _ no_drafts l (re.reads_none _ _ _ _ _ _) g = tt
  parts_agree k j m s s' t t' h p first n no_sketch a b es (and_draft f fs) l r g = absurd g
  parts_agree k j m s s' t t' h p first n (and_sketch q qs) a b es no_drafts l r g = absurd g
  parts_agree k j m s s' t t' h p first n (and_sketch q qs) a b _ (and_draft f fs) l (re.reads_part _ _ _ _ _ _ _ _ c _ e es x y) g = (
    g.0 n (scope_in k first (is_end qs) s) (position_in k first (is_end qs) t) q a c e l (h first (is_end qs)) (p first (is_end qs)) (same q) x,
    parts_agree k j m s s' t t' h p false n qs c b es fs l y g.1,
  )

  -- ## Operands

  -- the head of a call of a global assigns nothing
  name_read : (n : ℕ) (s : Scope) (t : Position) (v : Option ℕ) (w : Option Keyword) (g : Bool) (at : ℕ) (x : List ℕ) →
      (b : Option Fault) × (e : Draft) × Reads fewer n s t (outline_name v w g at x) None b e × (assigned_in e ≡ [])
  name_read n s t (Some k) w g at x = (_, _, re.reads_leaf n s t at _ None, refl)
  name_read n s t None (Some w) g at x = (_, _, re.reads_wrong n s t _ None, refl)
  name_read n s t None None true at x = (_, _, re.reads_leaf n s t at _ None, refl)
  name_read n s t None None false at x = (_, _, re.reads_wrong n s t _ None, refl)

  head_assigns_none : (m : ℕ) (s s' : Scope) (q : ℕ) (x : List ℕ) (f : Draft) → BindAlike s s' → Agrees m s' Value (text (atom q (symbol x))) f → assigned_in f ≡ []
  head_assigns_none m s s' q x f h g =
      let r = name_read m s Value (find s x) (keyword_of x) (is_among x bound) q x in
      sym (g m s Value (text (atom q (symbol x))) None r.0 r.1 (omega arith) h tt (same _) (re.reads_datum m s Value (atom q (symbol x)) None r.0 r.1 r.2)) ∙ r.3

  -- the operands of a call, that another kind has before other parts
  record OperandsAgree (k : Kind) (n : ℕ) (s : Scope) (t : Position) (ks : Sketches) (es fs : Drafts) : Type 0 where
    begins : Bool
    before : Option Fault
    after : Option Fault
    others : Drafts
    reads : PartsRead fewer k begins n s t ks before after others
    assigned : assigned_in_each es ≡ assigned_in_each fs ++ assigned_in_each others

  operands_agree : (k : Kind) (ks : Sketches) (n m : ℕ) (s s' : Scope) (t t' : Position) → n ≤ m → BindAlike s s' →
      ((first : Bool) (xs : Data) → BindAlike (scope_in k first (is_end (texts xs ks)) s) s') → ((first : Bool) (xs : Data) → NoNearer (position_in k first (is_end (texts xs ks)) t) Value) →
      (first : Bool) (xs : Data) (a b : Option Fault) (es fs : Drafts) → PartsRead fewer k first n s t (texts xs ks) a b es → AllAgree (calling []) false m s' t' (texts xs no_sketch) fs →
      OperandsAgree k n s t ks es fs
  operands_agree k ks n m s s' t t' l i h p first none a b es no_drafts r g = record { begins = first; before = a; after = b; others = es; reads = r; assigned = refl }
  operands_agree k ks n m s s' t t' l i h p first none a b es (and_draft f fs) r g = absurd g
  operands_agree k ks n m s s' t t' l i h p first (cons d ds) a b es no_drafts r g = absurd g
  operands_agree k ks n m s s' t t' l i h p first (cons d ds) a b _ (and_draft f fs) (re.reads_part _ _ _ _ _ _ _ _ c _ e es x y) g =
      let u = g.0 n (scope_in k first (is_end (texts ds ks)) s) (position_in k first (is_end (texts ds ks)) t) (text d) a c e l (h first ds) (p first ds) (same _) x in
      let v = operands_agree k ks n m s s' t t' l i h p false ds c b es fs y g.1 in
      record {
        begins = v.begins;
        before = v.before;
        after = v.after;
        others = v.others;
        reads = v.reads;
        assigned = (λ j. u j ++ v.assigned j) ∙ sym (append_assoc (assigned_in f) (assigned_in_each fs) (assigned_in_each v.others));
      }

  -- ## What stands for an operation beside its operands

  -- leaves, as the last parts
  last_leaf : (k : Kind) (first : Bool) (n : ℕ) (s : Scope) (t : Position) (at : ℕ) (c : Draft) (a b : Option Fault) (es : Drafts) →
      PartsRead fewer k first n s t (one (leaf at c)) a b es → es ≡ and_draft c no_drafts
  last_leaf k first n s t at c a b _ (re.reads_part _ _ _ _ _ _ _ _ _ _ _ _ (re.reads_leaf _ _ _ _ _ _) (re.reads_none _ _ _ _ _ _)) = refl

  last_leaves : (k : Kind) (first : Bool) (n : ℕ) (s : Scope) (t : Position) (at : ℕ) (c d : Draft) (a b : Option Fault) (es : Drafts) →
      PartsRead fewer k first n s t (two (leaf at c) (leaf at d)) a b es → es ≡ and_draft c (and_draft d no_drafts)
  last_leaves k first n s t at c d a b _ (re.reads_part _ _ _ _ _ _ _ _ _ _ _ es (re.reads_leaf _ _ _ _ _ _) r) =
      ap (λ l. and_draft c l) (last_leaf k false n s t at d _ b es r)

  join_assigns_none : (p : Primitive) (far : ℕ) (k at n : ℕ) (s : Scope) (t : Position) (a b : Option Fault) (e : Draft) → Reads fewer n s t (row_join p k far at) a b e → assigned_in e ≡ []
  join_assigns_none p far zero at n s t a b e (re.reads_leaf _ _ _ _ _ _) = refl
  join_assigns_none p far (suc k) at n s t a b e (re.reads_deep _ _ _ _ _ _ _ _) = refl
  join_assigns_none p far (suc k) at n s t a b _ (re.reads_node _ _ _ _ _ _ _ _ _ _
      (re.reads_part _ _ _ _ _ _ _ _ _ _ e es (re.reads_rest _ _ _ _ _ _ _ _ _ _ x) r)) =
      (λ i. join_assigns_none p far k at _ _ _ _ _ e x i ++ assigned_in_each es) ∙ ap assigned_in_each (last_leaf _ _ _ _ _ at _ _ b es r)

  pair_assigns_none : (p : Primitive) (i j at n : ℕ) (s : Scope) (t : Position) (a b : Option Fault) (e : Draft) →
      Reads fewer n s t (node (operating p) at (two (leaf at (local i)) (leaf at (local j)))) a b e → assigned_in e ≡ []
  pair_assigns_none p i j at n s t a b e (re.reads_deep _ _ _ _ _ _ _ _) = refl
  pair_assigns_none p i j at n s t a b _ (re.reads_node _ _ _ _ _ _ _ _ _ _
      (re.reads_part _ _ _ _ _ _ _ _ _ _ _ _ (re.reads_leaf _ _ _ _ _ _) (re.reads_part _ _ _ _ _ _ _ _ _ _ _ _ (re.reads_leaf _ _ _ _ _ _) (re.reads_none _ _ _ _ _ _)))) = refl

  chain_assigns_none : (p : Primitive) (xs : Data) (at n : ℕ) (s : Scope) (t : Position) (a b : Option Fault) (e : Draft) → Reads fewer n s t (row_chain p at xs) a b e → assigned_in e ≡ []
  chain_assigns_none p none at n s t a b e (re.reads_wrong _ _ _ _ _) = refl
  chain_assigns_none p (cons x none) at n s t a b e (re.reads_wrong _ _ _ _ _) = refl
  chain_assigns_none p (cons x (cons y none)) at n s t a b e r = pair_assigns_none p 1 0 at n s t a b e r
  chain_assigns_none p (cons x (cons y (cons z zs))) at n s t a b e (re.reads_deep _ _ _ _ _ _ _ _) = refl
  chain_assigns_none p (cons x (cons y (cons z zs))) at n s t a b _ (re.reads_node _ _ _ _ _ _ _ _ _ _
      (re.reads_part _ _ _ _ _ _ _ _ _ _ e _ u (re.reads_part _ _ _ _ _ _ _ _ _ _ f es (re.reads_rest _ _ _ _ _ _ _ _ _ _ v) r))) =
      ap (λ l. assigned_in (assemble choosing (and_draft e (and_draft f l)))) (last_leaf _ _ _ _ _ at _ _ b es r)
      ∙ (λ i. pair_assigns_none p _ _ at _ _ _ _ _ e u i ++ (chain_assigns_none p (cons y (cons z zs)) _ _ _ _ _ _ f v i ++ []))

  rest_assigns_none : (k : Kind) (first : Bool) (n : ℕ) (s : Scope) (t : Position) (j : Sketch) →
      ((n : ℕ) (s : Scope) (t : Position) (a b : Option Fault) (e : Draft) → Reads fewer n s t j a b e → assigned_in e ≡ []) →
      (a b : Option Fault) (es : Drafts) → PartsRead fewer k first n s t (one j) a b es → assigned_in_each es ≡ []
  rest_assigns_none k first n s t j h a b _ (re.reads_part _ _ _ _ _ _ _ _ _ _ e _ x (re.reads_none _ _ _ _ _ _)) = ap (λ l. l ++ []) (h _ _ _ _ _ e x)

  filler_is : (p : Primitive) (at : ℕ) → (c : Draft) × (filler at p ≡ leaf at c) × (assigned_in c ≡ [])
  filler_is MakeString at = (constant (Character 32), refl, refl)
  filler_is _ at = (nothing, refl, refl)

  leaf_assigns_none : (c : Draft) → assigned_in c ≡ [] → (at n : ℕ) (s : Scope) (t : Position) (a b : Option Fault) (e : Draft) → Reads fewer n s t (leaf at c) a b e → assigned_in e ≡ []
  leaf_assigns_none c h at n s t a b e (re.reads_leaf _ _ _ _ _ _) = h

  filler_assigns_none : (p : Primitive) (at n : ℕ) (s : Scope) (t : Position) (a b : Option Fault) (e : Draft) → Reads fewer n s t (filler at p) a b e → assigned_in e ≡ []
  filler_assigns_none p at n s t a b e r =
      let f = filler_is p at in leaf_assigns_none f.0 f.2 at n s t a b e (subst (λ j. Reads fewer n s t j a b e) f.1 r)

  none_left : (k : Kind) (first : Bool) (n : ℕ) (s : Scope) (t : Position) (a b : Option Fault) (es : Drafts) → PartsRead fewer k first n s t no_sketch a b es → assigned_in_each es ≡ []
  none_left k first n s t a b es (re.reads_none _ _ _ _ _ _) = refl

  none_called : (m : ℕ) (s' : Scope) (t' : Position) (fs : Drafts) → AllAgree (calling []) false m s' t' no_sketch fs → assigned_in_each fs ≡ []
  none_called m s' t' no_drafts g = refl
  none_called m s' t' (and_draft f fs) g = absurd g

  only_operands : {k : Kind} {n : ℕ} {s : Scope} {t : Position} {ks : Sketches} {es fs : Drafts} (v : OperandsAgree k n s t ks es fs) → assigned_in_each v.others ≡ [] → assigned_in_each es ≡ assigned_in_each fs
  only_operands {fs = fs} v e = v.assigned ∙ ap (λ l. assigned_in_each fs ++ l) e ∙ append-nil (assigned_in_each fs)

  -- ## Operations and calls

  module _ (m n : ℕ) (s s' : Scope) (t t' : Position) (le : n ≤ m) (h : BindAlike s s') where
    below : n + 1 ≤ m + 1
    below = omega (arith, le)

    -- the operands of an operation
    of_operation : (p : Primitive) (ks : Sketches) (first : Bool) (xs : Data) (a b : Option Fault) (es fs : Drafts) → PartsRead fewer (operating p) first (n + 1) s t (texts xs ks) a b es →
        AllAgree (calling []) false (m + 1) s' t' (texts xs no_sketch) fs → OperandsAgree (operating p) (n + 1) s t ks es fs
    of_operation p ks first xs a b es fs r g =
        operands_agree (operating p) ks (n + 1) (m + 1) s s' t t' below h (λ first xs. h) (λ first xs. tt) first xs a b es fs r g

    -- the inits of variables, where the body is one part
    of_binding : (vs : List (Option (List ℕ))) (j : Sketch) (xs : Data) (a b : Option Fault) (es fs : Drafts) → PartsRead fewer (binding vs) true (n + 1) s t (texts xs (one j)) a b es →
        AllAgree (calling []) false (m + 1) s' t' (texts xs no_sketch) fs → OperandsAgree (binding vs) (n + 1) s t (one j) es fs
    of_binding vs j xs a b es fs r g = operands_agree (binding vs) (one j) (n + 1) (m + 1) s s' t t' below h scopes positions true xs a b es fs r g
      where
        scopes : (first : Bool) (xs : Data) → BindAlike (scope_in (binding vs) first (is_end (texts xs (one j))) s) s'
        scopes first none = h
        scopes first (cons d ds) = h

        positions : (first : Bool) (xs : Data) → NoNearer (position_in (binding vs) first (is_end (texts xs (one j))) t) Value
        positions first none = tt
        positions first (cons d ds) = tt

    operation_agrees : (o : Operation) (at : ℕ) (xs : Data) (a b : Option Fault) (e : Draft) (fs : Drafts) → IsLevel m → Admits o (how_many xs) →
        Reads fewer n s t (combination o at xs) a b e → AllAgree (calling []) false (m + 1) s' t' (texts xs no_sketch) fs → assigned_in e ≡ assigned_in_each fs
    operation_agrees (Exact p) at xs a b e fs l c (re.reads_deep _ _ _ _ _ _ _ d) g = absurd (not_deep le l d)
    operation_agrees (Exact p) at xs a b _ fs l c (re.reads_node _ _ _ _ _ _ _ _ es _ r) g =
        let v = of_operation p no_sketch true xs _ b es fs r g in only_operands v (none_left _ _ _ _ _ _ _ v.others v.reads)
    operation_agrees (UnitOf p) at none a b e fs l c (re.reads_leaf _ _ _ _ _ _) g = sym (none_called (m + 1) s' t' fs g)
    operation_agrees (UnitOf p) at (cons x xs) a b e fs l c r g = absurd (omega (arith, c))
    operation_agrees (UnitAnd p) at xs a b e fs l c (re.reads_deep _ _ _ _ _ _ _ d) g = absurd (not_deep le l d)
    operation_agrees (UnitAnd p) at xs a b _ fs l c (re.reads_node _ _ _ _ _ _ _ _ _ _ (re.reads_part _ _ _ _ _ _ _ _ _ _ _ es (re.reads_leaf _ _ _ _ _ _) r)) g =
        let v = of_operation p no_sketch false xs _ b es fs r g in only_operands v (none_left _ _ _ _ _ _ _ v.others v.reads)
    operation_agrees (Nested p) at xs a b e fs l c (re.reads_deep _ _ _ _ _ _ _ d) g = absurd (not_deep le l d)
    operation_agrees (Nested p) at xs a b _ fs l c (re.reads_node _ _ _ _ _ _ _ _ es _ r) g =
        let v = of_binding (fresh_each xs) _ xs _ b es fs r g in
        front_and_last es ∙ only_operands v (rest_assigns_none _ _ _ _ _ _ joined _ _ v.others v.reads)
      where
        joined : (n : ℕ) (s : Scope) (t : Position) (a b : Option Fault) (e : Draft) → Reads fewer n s t (rest (Join p (but_one (how_many xs)) (but_one (how_many xs))) at none none) a b e → assigned_in e ≡ []
        joined n s t a b e (re.reads_rest _ _ _ _ _ _ _ _ _ _ x) = join_assigns_none p _ _ at n s t a b e x
    operation_agrees (Chained p) at xs a b e fs l c (re.reads_deep _ _ _ _ _ _ _ d) g = absurd (not_deep le l d)
    operation_agrees (Chained p) at xs a b _ fs l c (re.reads_node _ _ _ _ _ _ _ _ es _ r) g =
        let v = of_binding (fresh_each xs) _ xs _ b es fs r g in
        front_and_last es ∙ only_operands v (rest_assigns_none _ _ _ _ _ _ chained _ _ v.others v.reads)
      where
        chained : (n : ℕ) (s : Scope) (t : Position) (a b : Option Fault) (e : Draft) → Reads fewer n s t (rest (Chain p) at xs none) a b e → assigned_in e ≡ []
        chained n s t a b e (re.reads_rest _ _ _ _ _ _ _ _ _ _ x) = chain_assigns_none p xs at n s t a b e x
    operation_agrees (Filled p) at xs a b e fs l c (re.reads_deep _ _ _ _ _ _ _ d) g = absurd (not_deep le l d)
    operation_agrees (Filled p) at xs a b _ fs l c (re.reads_node _ _ _ _ _ _ _ _ es _ r) g =
        let v = of_operation p (one (filler at p)) true xs _ b es fs r g in
        only_operands v (rest_assigns_none _ _ _ _ _ _ (filler_assigns_none p at) _ _ v.others v.reads)
    operation_agrees Not at none a b e fs l c r g = absurd (omega (arith, c))
    operation_agrees Not at (cons x (cons y ys)) a b e fs l c r g = absurd (omega (arith, c))
    operation_agrees Not at (cons x none) a b e no_drafts l c r g = absurd g
    operation_agrees Not at (cons x none) a b e (and_draft f (and_draft g gs)) l c r k = absurd k.1
    operation_agrees Not at (cons x none) a b e (and_draft f no_drafts) l c (re.reads_deep _ _ _ _ _ _ _ d) g = absurd (not_deep le l d)
    operation_agrees Not at (cons x none) a b _ (and_draft f no_drafts) l c (re.reads_node _ _ _ _ _ _ _ _ _ _
        (re.reads_part _ _ _ _ _ _ _ _ u _ e es r others)) g =
        ap (λ l. assigned_in (assemble choosing (and_draft e l))) (last_leaves _ _ _ _ _ at _ _ _ b es others)
        ∙ ap (λ l. l ++ []) (g.0 (n + 1) s Test (text x) _ u e below h tt (same _) r)

    call_agrees : (o : Operation) (at q : ℕ) (x : List ℕ) (xs : Data) (a b : Option Fault) (e : Draft) (fs : Drafts) → IsLevel m → Admits o (how_many xs) →
        Reads fewer n s t (combination o at xs) a b e → AllAgree (calling []) true (m + 1) s' t' (and_sketch (text (atom q (symbol x))) (texts xs no_sketch)) fs →
        assigned_in e ≡ assigned_in (assemble (calling []) fs)
    call_agrees o at q x xs a b e no_drafts l c r g = absurd g
    call_agrees o at q x xs a b e (and_draft f fs) l c r g =
        operation_agrees o at xs a b e fs l c r g.1 ∙ sym (ap (λ l. l ++ assigned_in_each fs) (head_assigns_none (m + 1) s s' q x f h g.0))

  -- ## Choices

  -- the draft says nothing of the faults before it
  mutual
    read_anew : {n : ℕ} {s : Scope} {t : Position} {k : Sketch} {a b : Option Fault} {e : Draft} → Reads fewer n s t k a b e → (a' : Option Fault) → (b' : Option Fault) × Reads fewer n s t k a' b' e
    read_anew (re.reads_datum n s t d a b e x) a' = let r = read_anew x a' in (r.0, re.reads_datum n s t d a' r.0 e r.1)
    read_anew (re.reads_rest n s t r at xs ys a b e x) a' = let y = read_anew x a' in (y.0, re.reads_rest n s t r at xs ys a' y.0 e y.1)
    read_anew (re.reads_wrong n s t f a) a' = (_, re.reads_wrong n s t f a')
    read_anew (re.reads_leaf n s t at e a) a' = (_, re.reads_leaf n s t at e a')
    read_anew (re.reads_limited n s t at count k a b e x) a' = let r = read_anew x (all_reported (operand_faults at count) a') in (r.0, re.reads_limited n s t at count k a' r.0 e r.1)
    read_anew (re.reads_deep n s t k at ks a d) a' = (_, re.reads_deep n s t k at ks a' d)
    read_anew (re.reads_node n s t k at ks a b es l x) a' =
        let r = parts_anew x (all_reported (operand_faults at (width k (how_many_parts ks))) a') in (r.0, re.reads_node n s t k at ks a' r.0 es l r.1)

    parts_anew : {k : Kind} {first : Bool} {n : ℕ} {s : Scope} {t : Position} {ks : Sketches} {a b : Option Fault} {es : Drafts} → PartsRead fewer k first n s t ks a b es →
        (a' : Option Fault) → (b' : Option Fault) × PartsRead fewer k first n s t ks a' b' es
    parts_anew (re.reads_none k first n s t a) a' = (a', re.reads_none k first n s t a')
    parts_anew (re.reads_part k first n s t p ps a m b e es x y) a' =
        let r = read_anew x a' in let q = parts_anew y r.0 in (q.0, re.reads_part k first n s t p ps a' r.0 q.0 e es r.1 q.1)

  -- a choice whose condition is a variable that has the value
  chosen : (n : ℕ) (s : Scope) (t : Position) (at : ℕ) (k : Sketch) (a b : Option Fault) (e : Draft) → IsLevel n → Reads fewer (n + 1) s t k a b e →
      (b' : Option Fault) × Reads fewer n s t (node choosing at (three (leaf at (local 0)) (leaf at (local 0)) k)) None b' (assemble choosing (and_draft (local 0) (and_draft (local 0) (and_draft e no_drafts))))
  chosen n s t at k a b e l r =
      let after = all_reported (level_faults (n + 1) at) (all_reported (level_faults (n + 1) at) None) in
      let x = read_anew r after in (
        x.0,
        re.reads_node n s t choosing at (three (leaf at (local 0)) (leaf at (local 0)) k) None x.0 (and_draft (local 0) (and_draft (local 0) (and_draft e no_drafts))) l
            (re.reads_part choosing true (n + 1) s t (leaf at (local 0)) _ None _ x.0 (local 0) _ (re.reads_leaf (n + 1) s _ at (local 0) None)
            (re.reads_part choosing false (n + 1) s t (leaf at (local 0)) _ _ _ x.0 (local 0) _ (re.reads_leaf (n + 1) s _ at (local 0) _)
            (re.reads_part choosing false (n + 1) s t k no_sketch _ x.0 x.0 e no_drafts x.1 (re.reads_none choosing false (n + 1) s t x.0)))),
      )

  choice_agrees : (m n : ℕ) (s s' : Scope) (t t' : Position) → n ≤ m → BindAlike s s' → NoNearer t t' → (at : ℕ) (c k : Sketch) (a b : Option Fault) (e : Draft) (fs : Drafts) → IsLevel m →
      Reads fewer n s t (node choosing at (three c (truth at true) k)) a b e →
      AllAgree (binding fresh) true (m + 1) s' t' (two c (node choosing at (three (leaf at (local 0)) (leaf at (local 0)) k))) fs → assigned_in e ≡ assigned_in (assemble (binding fresh) fs)
  choice_agrees m n s s' t t' le h p at c k a b e no_drafts l r g = absurd g
  choice_agrees m n s s' t t' le h p at c k a b e (and_draft f no_drafts) l r g = absurd g.1
  choice_agrees m n s s' t t' le h p at c k a b e (and_draft f (and_draft i (and_draft j js))) l r g = absurd g.1.1
  choice_agrees m n s s' t t' le h p at c k a b e (and_draft f (and_draft i no_drafts)) l (re.reads_deep _ _ _ _ _ _ _ d) g = absurd (not_deep le l d)
  choice_agrees m n s s' t t' le h p at c k a b _ (and_draft f (and_draft i no_drafts)) l (re.reads_node _ _ _ _ _ _ _ _ _ level
      (re.reads_part _ _ _ _ _ _ _ _ u _ e _ x (re.reads_part _ _ _ _ _ _ _ _ v _ _ _ (re.reads_leaf _ _ _ _ _ _)
      (re.reads_part _ _ _ _ _ _ _ _ w _ o _ y (re.reads_none _ _ _ _ _ _))))) g =
      let r = chosen n s t at k v w o level y in
      let condition : assigned_in e ≡ assigned_in f = g.0 (n + 1) s Test c _ u e (omega (arith, le)) h tt (same c) x in
      let otherwise : assigned_in o ≡ assigned_in i = g.1.0 n s t _ None r.0 _ (omega (arith, le)) (fresh_alike h) p (same _) r.1 in
      (λ j. condition j ++ otherwise j) ∙ ap (λ l. l ++ assigned_in i) (sym (append-nil (assigned_in f)))

  -- ## Sketches

  node_agrees : (m : ℕ) (s' : Scope) (t' : Position) (j : Kind) (at : ℕ) (js : Sketches) (fs : Drafts) → IsLevel m → AllAgree j true (m + 1) s' t' js fs →
      Agrees m s' t' (node j at js) (assemble j fs)
  node_agrees m s' t' j at js fs l g n s t k a b e le h p (same _) (re.reads_deep _ _ _ _ _ _ _ d) = absurd (not_deep le l d)
  node_agrees m s' t' j at js fs l g n s t k a b _ le h p (same _) (re.reads_node _ _ _ _ _ _ _ _ es _ r) =
      made_alike j es fs (parts_agree j j (m + 1) s s' t t' (λ first last. scope_kept j first last s s' h) (λ first last. position_kept j first last t t' p) true (n + 1) js _ b es fs (omega (arith, le)) r g)
  node_agrees m s' t' _ at js fs l g n s t k a b e le h p (settings _ i j _) (re.reads_deep _ _ _ _ _ _ _ d) = absurd (not_deep le l d)
  node_agrees m s' t' _ at js fs l g n s t k a b _ le h p (settings _ i j _) (re.reads_node _ _ _ _ _ _ _ _ es _ r) =
      last_alike es fs (parts_agree (setting i) (setting j) (m + 1) s s' t t' (λ first last. h) (λ first last. tt) true (n + 1) js _ b es fs (omega (arith, le)) r g)
  node_agrees m s' t' _ at _ fs l g n s t k a b e le h p (operations o _ q x xs c) r = call_agrees m n s s' t t' le h o at q x xs a b e fs l c r g
  node_agrees m s' t' _ at _ fs l g n s t _ a b e le h p (choices _ c k) r = choice_agrees m n s s' t t' le h p at c k a b e fs l r g

  text_agrees : (m : ℕ) (s' : Scope) (t' : Position) (d : Datum) (f : Draft) → Agrees m s' t' (outline_datum all s' d) f → Agrees m s' t' (text d) f
  text_agrees m s' t' d f g n s t k a b e le h p (same _) (re.reads_datum _ _ _ _ _ _ _ x) = g n s t _ a b e le h p (datum_twins s s' d h) x

  rest_agrees : (m : ℕ) (s' : Scope) (t' : Position) (r : Row) (at : ℕ) (xs ys : Data) (f : Draft) → Agrees m s' t' (outline all s' t' r at xs ys) f → Agrees m s' t' (rest r at xs ys) f
  rest_agrees m s' t' r at xs ys f g n s t k a b e le h p (same _) (re.reads_rest _ _ _ _ _ _ _ _ _ _ x) = g n s t _ a b e le h p (row_twins s s' t t' r at xs ys h p) x

  leaf_agrees : (m : ℕ) (s' : Scope) (t' : Position) (at : ℕ) (f : Draft) → Agrees m s' t' (leaf at f) f
  leaf_agrees m s' t' at f n s t k a b e le h p (same _) (re.reads_leaf _ _ _ _ _ _) = refl
  leaf_agrees m s' t' at _ n s t k a b e le h p (variables _ i j) (re.reads_leaf _ _ _ _ _ _) = refl

  limited_agrees : (m : ℕ) (s' : Scope) (t' : Position) (at count : ℕ) (j : Sketch) (f : Draft) → Agrees m s' t' j f → Agrees m s' t' (limited at count j) f
  limited_agrees m s' t' at count j f g n s t k a b e le h p (same _) (re.reads_limited _ _ _ _ _ _ _ _ _ x) = g n s t j _ b e le h p (same j) x

  mutual
    agrees : {m : ℕ} {s' : Scope} {t' : Position} {j : Sketch} {f : Draft} → Expands all m s' t' j f → Agrees m s' t' j f
    agrees (ex.a_datum m s t d f x) = text_agrees m s t d f (agrees x)
    agrees (ex.a_rest m s t r at xs ys f x) = rest_agrees m s t r at xs ys f (agrees x)
    agrees (ex.a_leaf m s t at f l) = leaf_agrees m s t at f
    agrees (ex.a_node m s t j at js fs l w x) = node_agrees m s t j at js fs l (all_agree x)
    agrees (ex.within m s t at count j f w x) = limited_agrees m s t at count j f (agrees x)

    all_agree : {j : Kind} {first : Bool} {m : ℕ} {s' : Scope} {t' : Position} {js : Sketches} {fs : Drafts} → PartsExpand all j first m s' t' js fs → AllAgree j first m s' t' js fs
    all_agree (ex.no_part j first m s t) = tt
    all_agree (ex.and_part j first m s t p ps f fs x y) = (agrees x, all_agree y)

  -- the parts of a sequence, in the same scope and position
  pub sequences_agree : (n : ℕ) (s : Scope) (t : Position) (ks : Sketches) (a b : Option Fault) (es fs : Drafts) → PartsRead fewer sequencing true n s t ks a b es →
      PartsExpand all sequencing true n s t ks fs → assigned_in_each es ≡ assigned_in_each fs
  sequences_agree n s t ks a b es fs r x =
      each_alike es fs (parts_agree sequencing sequencing n s s t t (λ first last. record { alike = λ y. refl }) (λ first last. position_kept sequencing first last t t (same_position t)) true n ks a b es fs (omega arith) r (all_agree x))
