-- The turns of the loops of the walk.
use Rattle.std.proofs.Common.{◌≡◌, ℕ, suc, ◌+◌, ◌<◌, ◌≤◌, ◌^◌, Bool, true, false, cond, List, [], ◌∷◌, ◌++◌, append_assoc, append-nil, length, drop, get_or, refl, sym, ap, ◌∙◌, subst, arith, add-one, Result, Ok, Err}
use Rattle.std.specs.Prelude.{IfOk}
use Rattle.std.proofs.lemmas.List.{get_or_default, drop_all}
use Rattle.sch_word.proofs.Walking.{next_count, next_left}
use Rattle.sch_word.proofs.facts.Lists.{next_left as next_is}
use Rattle.sch_flat.specs.declared.tree.Exp.{Exp}
use Rattle.sch_flat.specs.Tree.{Tree, Trees, no_trees, and_tree}
use Rattle.sch_flat.specs.View.{tree, trees_of}
use Rattle.sch_control.specs.declared.operation.Operand.{Operand}
use Rattle.sch_control.specs.Sizes.{is_bare_atom}
use Rattle.sch_control.specs.Tree as to
use Rattle.sch_control.specs.Tree.{Expression}
use Rattle.sch_anf.specs.declared.steps.Step.{Step}
use Rattle.sch_anf_laws.specs.LabelsFit.{LabelsFit, LabelsFitEach}
use Rattle.sch_anf_laws.specs.Normal.{Scope, ends_in_call, unless_atom, binds, binds_parts, init_numbers, inits_bind, normal, normal_parts, operand_at, operand_binds, operands_at, operands_bind, with_inits, with_operands}
use Rattle.sch_anf.specs.declared.variables.Variables.{Variables}
use Rattle.sch_anf.specs.ScopeTable.{scope_of}
use Rattle.sch_anf.specs.Walked.{NormalizesInits, NormalizesEachOperand, NormalizesSequence}
use Rattle.sch_anf.specs.Steps.{after, Adds}
use Rattle.sch_anf.specs.Round.{bound_before, dropped_before, part_before}
use Rattle.sch_anf_laws.proofs.Items.{left}

-- ## Parts that are bound or dropped

-- a part that is bound
pub bound_is : (starts : List ℕ) (e : Tree) (x n next : ℕ) (scope scope' : Scope) (value : Expression) → x ≡ n → scope' ≡ scope → next ≡ suc n → value ≡ normal starts false e scope' next
    → (body : Expression) → to.bind x value body ≡ bound_before starts e scope n body
bound_is starts e x n next scope scope' value p q r h body = rw (h, p, q, r) refl

module _ (starts : List ℕ) (e : Tree) (n : ℕ) (scope : Scope) (value : Expression) (p : ends_in_call e ≡ false) (h : value ≡ normal starts false e scope n) where
  -- a part whose value is dropped
  pub dropped_is : is_bare_atom value ≡ false → (body : Expression) → to.sequence value body ≡ dropped_before starts e scope n body
  dropped_is i body = let j = rw h at i in rw (p, j, h) refl

  -- a part of which only an atom is left
  pub atom_is : is_bare_atom value ≡ true → (body : Expression) → body ≡ dropped_before starts e scope n body
  atom_is i body = let j = rw h at i in rw (p, j) refl

-- ## A sequence

-- what is left of the parts still fits
module _ (items : List Exp) (i : ℕ) (e : Exp) (l : i < length items) (is : e ≡ get_or items i e) where
  pub labels_next : (more : ℕ) → LabelsFitEach more (left (drop i items)) → LabelsFit more (tree e) × LabelsFitEach more (left (drop (i + 1) items))
  labels_next more h = rw add-one (next_left items i (λ r. LabelsFitEach more (left r)) e l is h)

-- how many variables a part before the last binds
abbrev pub dropped_binds : Tree → ℕ
dropped_binds e = cond (ends_in_call e) (suc (binds e)) (binds e)

module _ (starts : List ℕ) (tail : Bool) (scope : Scope) where
  parts_unfold : (e e' : Tree) (es : Trees) (n : ℕ) → normal_parts starts tail (and_tree e (and_tree e' es)) scope n
      ≡ dropped_before starts e scope n (normal_parts starts tail (and_tree e' es) scope (n + dropped_binds e))
  parts_unfold e e' es n = go (ends_in_call e)
    where
      go : (b : Bool) → cond b (to.bind n (normal starts false e scope (suc n)) (normal_parts starts tail (and_tree e' es) scope (suc n + binds e)))
          (unless_atom (normal starts false e scope n) (normal_parts starts tail (and_tree e' es) scope (n + binds e)))
          ≡ cond b (to.bind n (normal starts false e scope (suc n)) (normal_parts starts tail (and_tree e' es) scope (n + cond b (suc (binds e)) (binds e))))
          (unless_atom (normal starts false e scope n) (normal_parts starts tail (and_tree e' es) scope (n + cond b (suc (binds e)) (binds e))))
      go true = let p : suc n + binds e ≡ n + suc (binds e) = omega arith in ap (λ m. to.bind n (normal starts false e scope (suc n)) (normal_parts starts tail (and_tree e' es) scope m)) p
      go false = refl

  -- a part with others behind it
  module _ (items : List Exp) (i : ℕ) (e : Exp) (l : suc i < length items) (is : e ≡ get_or items i e) where
    two_left : drop i items ≡ e ∷ (get_or items (suc i) e ∷ drop (suc (suc i)) items)
    two_left = next_is items i e (omega (arith, l)) is ∙ ap (λ r. e ∷ r) (next_is items (suc i) (get_or items (suc i) e) l (get_or_default items (suc i) e (get_or items (suc i) e) l))

    one_left : drop (i + 1) items ≡ get_or items (suc i) e ∷ drop (suc (suc i)) items
    one_left = rw add-one (next_is items (suc i) (get_or items (suc i) e) l (get_or_default items (suc i) e (get_or items (suc i) e) l))

    pub parts_turn : (n n' : ℕ) (steps steps' : List Step) (whole : Expression) → n' ≡ n + dropped_binds (tree e) → Adds steps steps' (dropped_before starts (tree e) scope n)
        → after steps (normal_parts starts tail (left (drop i items)) scope n) ≡ whole → after steps' (normal_parts starts tail (left (drop (i + 1) items)) scope n') ≡ whole
    parts_turn n n' steps steps' whole p h k =
        let e' = tree (get_or items (suc i) e) in
        let es = left (drop (suc (suc i)) items) in
        ap (λ r. after steps' (normal_parts starts tail (left r) scope n')) one_left
        ∙ ap (λ m. after steps' (normal_parts starts tail (and_tree e' es) scope m)) p
        ∙ h (normal_parts starts tail (and_tree e' es) scope (n + dropped_binds (tree e)))
        ∙ ap (after steps) (sym (parts_unfold (tree e) e' es n))
        ∙ ap (λ r. after steps (normal_parts starts tail (left r) scope n)) (sym two_left) ∙ k

    pub few_parts_next : (x total : ℕ) → x + binds_parts (left (drop i items)) ≡ total → x + dropped_binds (tree e) + binds_parts (left (drop (i + 1) items)) ≡ total
    few_parts_next x total h =
        let e' = tree (get_or items (suc i) e) in
        let es = left (drop (suc (suc i)) items) in
        let h' : x + (dropped_binds (tree e) + binds_parts (and_tree e' es)) ≡ total = subst (λ r. x + binds_parts (left r) ≡ total) two_left h in
        ap (λ r. x + dropped_binds (tree e) + binds_parts (left r)) one_left ∙ omega (arith, h')

pub few_dropped : (starts : List ℕ) (tail : Bool) (scope : Scope) (items es : List Exp) (i : ℕ) (e : Exp) (x first : ℕ) → suc i < length items → e ≡ get_or items i e → items ≡ es
    → x + binds_parts (left (drop i items)) ≡ first + binds_parts (trees_of items)
    → first + binds_parts (trees_of es) < 2 ^ 32 → x + dropped_binds (tree e) < 2 ^ 32
few_dropped starts tail scope items es i e x first l is same h few =
    let n = few_parts_next starts tail scope items i e l is x (first + binds_parts (trees_of items)) h in
    let m = ap (λ l. first + binds_parts (trees_of l)) same in
    omega (arith, n, m, few)

-- ## Operands and inits

-- a turn over operands: the scope and the next number before it and after it
module _ (items : List Exp) (i : ℕ) (e : Exp) (l : i < length items) (is : e ≡ get_or items i e) (s s' : Scope) (n n' : ℕ) (same : s' ≡ s) (g : n' ≡ n + operand_binds (tree e)) where
  pub operands_turn : (all all' whole : List (Operand ℕ)) (o : Operand ℕ) → all' ≡ all ++ o ∷ [] → o ≡ operand_at s (tree e) n
      → all ++ operands_at s (left (drop i items)) n ≡ whole → all' ++ operands_at s' (left (drop (i + 1) items)) n' ≡ whole
  operands_turn all all' whole o p h k =
      let k' = next_left items i (λ r. all ++ operands_at s (left r) n ≡ whole) e l is k in
      rw (p, h, same, g, add-one, append_assoc all (operand_at s (tree e) n ∷ []) (operands_at s (left (drop (suc i) items)) (n + operand_binds (tree e)))) k'

  pub operands_steps : (starts : List ℕ) (steps steps' : List Step) (whole : Expression → Expression) → Adds steps steps' (part_before starts (tree e) s n)
      → ((body : Expression) → after steps (with_operands starts (left (drop i items)) s n body) ≡ whole body)
      → (body : Expression) → after steps' (with_operands starts (left (drop (i + 1) items)) s' n' body) ≡ whole body
  operands_steps starts steps steps' whole h k body =
      let k' = next_left items i (λ r. after steps (with_operands starts (left r) s n body) ≡ whole body) e l is (k body) in
      rw (same, g, add-one) (h (with_operands starts (left (drop (suc i) items)) s (n + operand_binds (tree e)) body) ∙ k')

  pub operands_few : (total : ℕ) → n + operands_bind (left (drop i items)) ≡ total → n' + operands_bind (left (drop (i + 1) items)) ≡ total
  operands_few total k = rw g (next_count items i (λ es. operands_bind (left es)) e n (operand_binds (tree e)) total l is refl k)

pub operands_end : (starts : List ℕ) (items es : List Exp) (i : ℕ) (v w : Variables) (steps steps' : List Step) (all : List (Operand ℕ)) → items ≡ es → length items ≤ i
    → all ++ operands_at (scope_of w.bound.items) (left (drop i items)) w.next ≡ operands_at (scope_of v.bound.items) (trees_of items) v.next
    → ((body : Expression) → after steps' (with_operands starts (left (drop i items)) (scope_of w.bound.items) w.next body)
    ≡ after steps (with_operands starts (trees_of items) (scope_of v.bound.items) v.next body))
    → w.next + operands_bind (left (drop i items)) ≡ v.next + operands_bind (trees_of items) → w.bound.items ≡ v.bound.items
    → NormalizesEachOperand starts (trees_of es) v w steps steps' all
operands_end starts items es i v w steps steps' all same l o s f b =
    let none = drop_all i items l in
    let o' = rw (none, append-nil all) at o in
    let f' = rw none at f in
    record {
      operands = o' ∙ ap (λ l. operands_at (scope_of v.bound.items) (trees_of l) v.next) same;
      steps = λ body. sym (ap (λ r. after steps' (with_operands starts (left r) (scope_of w.bound.items) w.next body)) none) ∙ s body
          ∙ ap (λ l. after steps (with_operands starts (trees_of l) (scope_of v.bound.items) v.next body)) same;
      next = omega (arith, f', ap (λ l. operands_bind (trees_of l)) same);
      scope = b;
    }

-- a turn over inits
module _ (items : List Exp) (i : ℕ) (e : Exp) (l : i < length items) (is : e ≡ get_or items i e) (s s' : Scope) (n n' : ℕ) (same : s' ≡ s) (g : n' ≡ n + suc (binds (tree e))) where
  after_init : n' ≡ suc n + binds (tree e)
  after_init = omega (arith, g)

  pub inits_turn : (all all' whole : List ℕ) (x : ℕ) → all' ≡ all ++ x ∷ [] → x ≡ n → all ++ init_numbers (left (drop i items)) n ≡ whole → all' ++ init_numbers (left (drop (i + 1) items)) n' ≡ whole
  inits_turn all all' whole x p h k =
      let k' = next_left items i (λ r. all ++ init_numbers (left r) n ≡ whole) e l is k in
      rw (p, h, after_init, add-one, append_assoc all (n ∷ []) (init_numbers (left (drop (suc i) items)) (suc n + binds (tree e)))) k'

  pub inits_steps : (starts : List ℕ) (steps steps' : List Step) (whole : Expression → Expression) → Adds steps steps' (bound_before starts (tree e) s n)
      → ((body : Expression) → after steps (with_inits starts (left (drop i items)) s n body) ≡ whole body)
      → (body : Expression) → after steps' (with_inits starts (left (drop (i + 1) items)) s' n' body) ≡ whole body
  inits_steps starts steps steps' whole h k body =
      let k' = next_left items i (λ r. after steps (with_inits starts (left r) s n body) ≡ whole body) e l is (k body) in
      rw (same, after_init, add-one) (h (with_inits starts (left (drop (suc i) items)) s (suc n + binds (tree e)) body) ∙ k')

  pub inits_few : (total : ℕ) → n + inits_bind (left (drop i items)) ≡ total → n' + inits_bind (left (drop (i + 1) items)) ≡ total
  inits_few total k = rw g (next_count items i (λ es. inits_bind (left es)) e n (suc (binds (tree e))) total l is refl k)

pub inits_end : (starts : List ℕ) (items es : List Exp) (i : ℕ) (v w : Variables) (steps steps' : List Step) (all : List ℕ) → items ≡ es → length items ≤ i
    → all ++ init_numbers (left (drop i items)) w.next ≡ init_numbers (trees_of items) v.next
    → ((body : Expression) → after steps' (with_inits starts (left (drop i items)) (scope_of w.bound.items) w.next body)
    ≡ after steps (with_inits starts (trees_of items) (scope_of v.bound.items) v.next body))
    → w.next + inits_bind (left (drop i items)) ≡ v.next + inits_bind (trees_of items) → w.bound.items ≡ v.bound.items
    → NormalizesInits starts (trees_of es) v w steps steps' all
inits_end starts items es i v w steps steps' all same l o s f b =
    let none = drop_all i items l in
    let o' = rw (none, append-nil all) at o in
    let f' = rw none at f in
    record {
      numbers = o' ∙ ap (λ l. init_numbers (trees_of l) v.next) same;
      steps = λ body. sym (ap (λ r. after steps' (with_inits starts (left r) (scope_of w.bound.items) w.next body)) none) ∙ s body
          ∙ ap (λ l. after steps (with_inits starts (trees_of l) (scope_of v.bound.items) v.next body)) same;
      next = omega (arith, f', ap (λ l. inits_bind (trees_of l)) same);
      scope = b;
    }

-- ## Sequences

-- a sequence of no parts
pub parts_none : {A E : Type 0} (starts : List ℕ) (tail : Bool) (v : Variables) (f : A → Expression) (r : Result A E) → IfOk r (λ q. f q ≡ normal_parts starts tail no_trees (scope_of v.bound.items) v.next)
    → IfOk r (λ q. NormalizesSequence starts tail no_trees v v (f q))
parts_none starts tail v f (Ok q) h = record { made = h; next = omega arith; scope = refl }
parts_none starts tail v f (Err e) h = tt
