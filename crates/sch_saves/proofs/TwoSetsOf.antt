-- The two sets of each expression, from those of its parts.
use Rattle.std.proofs.Common.{◌≡◌, ℕ, Bool, true, false, List, Some, None, refl, ap, sym, ◌∙◌, subst, arith}
use Rattle.std.specs.Prelude.{nat_lt, ◌||◌, ◌&&◌, filter}
use Rattle.std.specs.FinSet as set
use Rattle.sch_sets.specs.Members.{NumberSet}
use Rattle.sch_sets.proofs.Membership.{same_tests, contains-empty, contains-union, contains-intersection}
use Rattle.sch_word.specs.trees.NumberSets.{has}
use Rattle.sch_word.specs.trees.Bindings.{numbers}
use Rattle.sch_word.proofs.facts.Booleans.{and_true}
use Rattle.std.proofs.Math.Bool.{and-false}
use Rattle.sch_control.specs.declared.operation.Application.{Application}
use Rattle.sch_control.specs.declared.operation.Operation.{Operation}
use Rattle.sch_control.specs.Tree.{Expression, perform, bind, sequence, branch, call, tail_call, return, end}
use Rattle.sch_control.specs.flow.Live.{known}
use Rattle.sch_paths.specs.Table.{is_other, saved_by, needs}
use Rattle.sch_saves.specs.LazyRegions.{needed, round, with_needs}
use Rattle.sch_control.proofs.NumberLists.{below_from, same_filter, has_items}
use Rattle.sch_saves.specs.SetsOfNeeds.{IsSavedBy, AreSavedBy}

-- ## Lists of what is in a set

-- what both sets have is what is needed
pub both_needed : (n : ℕ) (e : Expression) (s t : NumberSet) → AreSavedBy n e s t → filter (set.contains (set.intersection s t)) (numbers 0 n) ≡ needed n e
both_needed n e s t is =
    same_filter (λ x. nat_lt x n) _ _ (numbers 0 n) (below_from 0 n n (omega arith))
    (λ x lt. contains-intersection s t x ∙ (rw (is.0 x, is.1 x) (by (nat_lt x n) lt (saved_by x e true) (saved_by x e false)))) where
      by : (v : Bool) → v ≡ true → (p q : Bool) → ((v && p) && (v && q)) ≡ (p && q)
      by true h p q = refl
      by false h p q = absurd (cc)

-- nothing more is needed
pub none_before : (before s : NumberSet) → before ≡ set.empty → s ≡ set.union before s
none_before before s none =
    same_tests s (set.union before s) (λ x. sym (contains-union before s x ∙ ap (λ b. b || set.contains s x) (ap (λ z. set.contains z x) none ∙ contains-empty x)))

-- ## Bools

seq_bool : (v p q r : Bool) → (((v && p) && (v && q)) || (v && r)) ≡ (v && ((p && q) || r))
seq_bool true p q r = refl
seq_bool false p q r = refl

if_bool : (v p b q c : Bool) → (((v && p) || (v && b)) && ((v && q) || (v && c))) ≡ (v && ((p || b) && (q || c)))
if_bool true p b q c = refl
if_bool false p b q c = refl

both_bool : (v p q : Bool) → ((v && p) && (v && q)) ≡ (v && (p && q))
both_bool true p q = refl
both_bool false p q = refl

swap_bool : (v p : Bool) → (p && v) ≡ (v && p)
swap_bool true true = refl
swap_bool true false = refl
swap_bool false true = refl
swap_bool false false = refl

-- ## Expressions

module _ (n : ℕ) where
  -- no variable, and every variable
  abbrev pub IsAll : NumberSet → Type 0
  IsAll all = (x : ℕ) → set.contains all x ≡ nat_lt x n

  none_saved : (e : Expression) (r : Bool) → ((x : ℕ) → saved_by x e r ≡ false) → IsSavedBy n e r set.empty
  none_saved e r h x = contains-empty x ∙ (sym (and-false (nat_lt x n)) ∙ ap (λ b. nat_lt x n && b) (sym (h x)))

  all_saved : (e : Expression) (r : Bool) (all : NumberSet) → IsAll all → ((x : ℕ) → saved_by x e r ≡ true) → IsSavedBy n e r all
  all_saved e r all is h x = is x ∙ (sym (and_true (nat_lt x n)) ∙ ap (λ b. nat_lt x n && b) (sym (h x)))

  pub of_value : (o : Operation ℕ) → known o ≡ None → AreSavedBy n (perform o) set.empty set.empty
  of_value o k = (none_saved (perform o) true (λ x. ap (λ z. is_other z true) k), none_saved (perform o) false (λ x. ap (λ z. is_other z false) k))

  pub of_true : (o : Operation ℕ) (all : NumberSet) → IsAll all → known o ≡ Some true → AreSavedBy n (perform o) set.empty all
  of_true o all is k = (none_saved (perform o) true (λ x. ap (λ z. is_other z true) k), all_saved (perform o) false all is (λ x. ap (λ z. is_other z false) k))

  pub of_false : (o : Operation ℕ) (all : NumberSet) → IsAll all → known o ≡ Some false → AreSavedBy n (perform o) all set.empty
  of_false o all is k = (all_saved (perform o) true all is (λ x. ap (λ z. is_other z true) k), none_saved (perform o) false (λ x. ap (λ z. is_other z false) k))

  pub of_tail : (a : Application ℕ) → AreSavedBy n (tail_call a) set.empty set.empty
  of_tail a = (none_saved (tail_call a) true (λ x. refl), none_saved (tail_call a) false (λ x. refl))

  -- what a call lists, in a set
  abbrev pub Lists : List ℕ → NumberSet → Type 0
  Lists listed s = (x : ℕ) → set.contains s x ≡ has x listed

  pub of_call : (a : Application ℕ) (listed : List ℕ) (all s : NumberSet) → IsAll all → Lists listed s
      → AreSavedBy n (call a listed) (set.intersection s all) (set.intersection s all)
  of_call a listed all s is of = (by true, by false) where
    by : (r : Bool) → IsSavedBy n (call a listed) r (set.intersection s all)
    by r x = contains-intersection s all x ∙ (rw (is x, of x) (swap_bool (nat_lt x n) (has x listed)))

  after : (at af b : NumberSet) (p q r : ℕ → Bool) → ((x : ℕ) → set.contains at x ≡ (nat_lt x n && p x)) → ((x : ℕ) → set.contains af x ≡ (nat_lt x n && q x))
      → ((x : ℕ) → set.contains b x ≡ (nat_lt x n && r x)) → (x : ℕ) → set.contains (set.union (set.intersection at af) b) x ≡ (nat_lt x n && ((p x && q x) || r x))
  after at af b p q r h k l x =
      contains-union (set.intersection at af) b x ∙ (rw (contains-intersection at af x, h x, k x, l x) (seq_bool (nat_lt x n) (p x) (q x) (r x)))

  pub of_bind : (y : ℕ) (a b : Expression) (at af bt bf : NumberSet) → AreSavedBy n a at af → AreSavedBy n b bt bf
      → AreSavedBy n (bind y a b) (set.union (set.intersection at af) bt) (set.union (set.intersection at af) bf)
  of_bind y a b at af bt bf h k = (
    after at af bt (λ x. saved_by x a true) (λ x. saved_by x a false) (λ x. saved_by x b true) h.0 h.1 k.0,
    after at af bf (λ x. saved_by x a true) (λ x. saved_by x a false) (λ x. saved_by x b false) h.0 h.1 k.1,
  )

  pub of_sequence : (a b : Expression) (at af bt bf : NumberSet) → AreSavedBy n a at af → AreSavedBy n b bt bf
      → AreSavedBy n (sequence a b) (set.union (set.intersection at af) bt) (set.union (set.intersection at af) bf)
  of_sequence a b at af bt bf h k = (
    after at af bt (λ x. saved_by x a true) (λ x. saved_by x a false) (λ x. saved_by x b true) h.0 h.1 k.0,
    after at af bf (λ x. saved_by x a true) (λ x. saved_by x a false) (λ x. saved_by x b false) h.0 h.1 k.1,
  )

  chosen : (at af b c : NumberSet) (p q r s : ℕ → Bool) → ((x : ℕ) → set.contains at x ≡ (nat_lt x n && p x)) → ((x : ℕ) → set.contains af x ≡ (nat_lt x n && q x))
      → ((x : ℕ) → set.contains b x ≡ (nat_lt x n && r x)) → ((x : ℕ) → set.contains c x ≡ (nat_lt x n && s x))
      → (x : ℕ) → set.contains (set.intersection (set.union at b) (set.union af c)) x ≡ (nat_lt x n && ((p x || r x) && (q x || s x)))
  chosen at af b c p q r s h k l m x =
      contains-intersection (set.union at b) (set.union af c) x
      ∙ (rw (contains-union at b x, contains-union af c x, h x, k x, l x, m x) (if_bool (nat_lt x n) (p x) (r x) (q x) (s x)))

  pub of_branch : (a b c : Expression) (at af bt bf ct cf : NumberSet) → AreSavedBy n a at af → AreSavedBy n b bt bf → AreSavedBy n c ct cf
      → AreSavedBy n (branch a b c) (set.intersection (set.union at bt) (set.union af ct)) (set.intersection (set.union at bf) (set.union af cf))
  of_branch a b c at af bt bf ct cf h k l = (
    chosen at af bt ct (λ x. saved_by x a true) (λ x. saved_by x a false) (λ x. saved_by x b true) (λ x. saved_by x c true) h.0 h.1 k.0 l.0,
    chosen at af bf cf (λ x. saved_by x a true) (λ x. saved_by x a false) (λ x. saved_by x b false) (λ x. saved_by x c false) h.0 h.1 k.1 l.1,
  )

  both : (e : Expression) (s t : NumberSet) → AreSavedBy n e s t → (x : ℕ) → set.contains (set.intersection s t) x ≡ (nat_lt x n && needs x e)
  both e s t h x = contains-intersection s t x ∙ (rw (h.0 x, h.1 x) (both_bool (nat_lt x n) (saved_by x e true) (saved_by x e false)))

  pub of_return : (e : Expression) (s t : NumberSet) → AreSavedBy n e s t → AreSavedBy n (return e) (set.intersection s t) (set.intersection s t)
  of_return e s t h = (both e s t h, both e s t h)

  pub of_end : (e : Expression) (s t : NumberSet) → AreSavedBy n e s t → AreSavedBy n (end e) (set.intersection s t) (set.intersection s t)
  of_end e s t h = (both e s t h, both e s t h)

-- ## One node, from what its sets are

module _ (n : ℕ) where
  pub equal_sets : (e : Expression) (s s' t t' : NumberSet) → s' ≡ s → t' ≡ t → AreSavedBy n e s t → AreSavedBy n e s' t'
  equal_sets e s s' t t' es et h = subst (λ z. AreSavedBy n e z t') (sym es) (subst (λ z. AreSavedBy n e s z) (sym et) h)

  pub equal_tree : (e e' : Expression) (s t : NumberSet) → e ≡ e' → AreSavedBy n e' s t → AreSavedBy n e s t
  equal_tree e e' s t is h = subst (λ z. AreSavedBy n z s t) (sym is) h

  pub bind_sets : (y : ℕ) (a b : Expression) (at af bt bf ct cf : NumberSet) → ct ≡ set.union (set.intersection at af) bt → cf ≡ set.union (set.intersection at af) bf
      → AreSavedBy n a at af → AreSavedBy n b bt bf → AreSavedBy n (bind y a b) ct cf
  bind_sets y a b at af bt bf ct cf et ef h k = equal_sets (bind y a b) _ ct _ cf et ef (of_bind n y a b at af bt bf h k)

  pub sequence_sets : (a b : Expression) (at af bt bf ct cf : NumberSet) → ct ≡ set.union (set.intersection at af) bt → cf ≡ set.union (set.intersection at af) bf
      → AreSavedBy n a at af → AreSavedBy n b bt bf → AreSavedBy n (sequence a b) ct cf
  sequence_sets a b at af bt bf ct cf et ef h k = equal_sets (sequence a b) _ ct _ cf et ef (of_sequence n a b at af bt bf h k)

  pub branch_sets : (a b c : Expression) (at af bt bf ct cf rt rf : NumberSet)
      → rt ≡ set.intersection (set.union at bt) (set.union af ct) → rf ≡ set.intersection (set.union at bf) (set.union af cf)
      → AreSavedBy n a at af → AreSavedBy n b bt bf → AreSavedBy n c ct cf → AreSavedBy n (branch a b c) rt rf
  branch_sets a b c at af bt bf ct cf rt rf et ef h k l = equal_sets (branch a b c) _ rt _ rf et ef (of_branch n a b c at af bt bf ct cf h k l)

  pub return_sets : (e : Expression) (s t u rt rf : NumberSet) → u ≡ set.intersection s t → rt ≡ u → rf ≡ u → AreSavedBy n e s t → AreSavedBy n (return e) rt rf
  return_sets e s t u rt rf eu et ef h = equal_sets (return e) _ rt _ rf (et ∙ eu) (ef ∙ eu) (of_return n e s t h)

  pub end_sets : (e : Expression) (s t u rt rf : NumberSet) → u ≡ set.intersection s t → rt ≡ u → rf ≡ u → AreSavedBy n e s t → AreSavedBy n (end e) rt rf
  end_sets e s t u rt rf eu et ef h = equal_sets (end e) _ rt _ rf (et ∙ eu) (ef ∙ eu) (of_end n e s t h)

  pub call_sets : (a : Application ℕ) (live all u rt rf : NumberSet) → IsAll n all → u ≡ set.intersection live all → rt ≡ u → rf ≡ u
      → AreSavedBy n (call a (set.items live)) rt rf
  call_sets a live all u rt rf is eu et ef =
      equal_sets (call a (set.items live)) _ rt _ rf (et ∙ eu) (ef ∙ eu) (of_call n a (set.items live) all live is (has_items live))

  pub tail_sets : (a : Application ℕ) (rt rf : NumberSet) → rt ≡ set.empty → rf ≡ set.empty → AreSavedBy n (tail_call a) rt rf
  tail_sets a rt rf et ef = equal_sets (tail_call a) _ rt _ rf et ef (of_tail n a)

  -- ## Arms

  arm_made : (b b0 b' : Expression) (bt bf : NumberSet) → b0 ≡ with_needs n b → AreSavedBy n b bt bf
      → b' ≡ round (filter (set.contains (set.intersection bt bf)) (numbers 0 n)) b0 → b' ≡ round (needed n b) (with_needs n b)
  arm_made b b0 b' bt bf eb h r = r ∙ (ap (λ xs. round xs b0) (both_needed n b bt bf h) ∙ ap (round (needed n b)) eb)

  pub branch_made : (a b c a' b0 b' c0 c' : Expression) (bt bf ct cf : NumberSet) → a' ≡ with_needs n a
      → b0 ≡ with_needs n b → AreSavedBy n b bt bf → b' ≡ round (filter (set.contains (set.intersection bt bf)) (numbers 0 n)) b0
      → c0 ≡ with_needs n c → AreSavedBy n c ct cf → c' ≡ round (filter (set.contains (set.intersection ct cf)) (numbers 0 n)) c0
      → branch a' b' c' ≡ with_needs n (branch a b c)
  branch_made a b c a' b0 b' c0 c' bt bf ct cf ea eb hb rb ec hc rc =
      ap (λ z. branch z b' c') ea
      ∙ (ap (λ z. branch (with_needs n a) z c') (arm_made b b0 b' bt bf eb hb rb)
      ∙ ap (λ z. branch (with_needs n a) (round (needed n b) (with_needs n b)) z) (arm_made c c0 c' ct cf ec hc rc))

  pub body_made : (b b0 b' : Expression) (bt bf : NumberSet) → b0 ≡ with_needs n b → AreSavedBy n b bt bf
      → b' ≡ round (filter (set.contains (set.intersection bt bf)) (numbers 0 n)) b0 → b' ≡ round (needed n b) (with_needs n b)
  body_made b b0 b' bt bf eb h r = arm_made b b0 b' bt bf eb h r
