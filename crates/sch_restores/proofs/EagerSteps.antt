-- What the walk from the end finds at each node, from what it finds at the node's parts.
use Rattle.std.proofs.Common.{◌≡◌, ℕ, Bool, true, false, List, [], ◌∷◌, cond, refl, ap, sym, ◌∙◌, subst}
use Rattle.std.specs.Prelude.{nat_eq, ◌||◌, ◌&&◌, not, filter}
use Rattle.std.specs.FinSet as set
use Rattle.std.specs.List.{list_all}
use Rattle.std.proofs.Math.Path.{fun_ext}
use Rattle.std.proofs.lemmas.Bool.{eqb-true}
use Rattle.sch_sets.specs.Members.{NumberSet}
use Rattle.sch_sets.proofs.Membership.{contains-empty, contains-intersection, contains-remove, contains-union}
use Rattle.sch_word.specs.trees.Bindings.{numbers}
use Rattle.sch_word.specs.trees.NumberSets.{has, unless, without_repeats}
use Rattle.sch_word.proofs.facts.Booleans.{and_left, or_swap, or_right_false, not_either}
use Rattle.sch_word.proofs.facts.Lists.{all_passing}
use Rattle.sch_control.specs.declared.operation.Application.{Application}
use Rattle.sch_control.specs.declared.operation.Atom.{Atom}
use Rattle.sch_control.specs.declared.operation.Member.{Member}
use Rattle.sch_control.specs.AtomsAndSites.{member_atoms}
use Rattle.sch_control.specs.Meaning.{among, binds, heads}
use Rattle.sch_control.specs.Tree.{Expression, bind, sequence, branch, fix, call, return, end, save}
use Rattle.sch_control.specs.Valid.{member_variables}
use Rattle.sch_control.specs.flow.Live.{named}
use Rattle.sch_control.specs.flow.LiveTests.{behind, is_soon, Behind}
use Rattle.sch_control.specs.flow.Reads.{IsWith}
use Rattle.sch_control.proofs.NumberLists.{has_items, once_filter}
use Rattle.sch_word.proofs.facts.NumberSets.{distinct_numbers}
use Rattle.sch_control.proofs.SetTests.{link_only, one_set, two_sets}
use Rattle.sch_control.proofs.VariableLists.{among_is}
use Rattle.sch_restores.specs.Restores.{eager, wanted}

-- ## What a call restores

pub once_first : (f : ℕ → Bool) (n : ℕ) → without_repeats (filter f (numbers 0 n)) ≡ true
once_first f n = once_filter f (numbers 0 n) (distinct_numbers 0 n)

module _ (n : ℕ) (live inside t f soon saved all : NumberSet) (wants : soon ≡ set.union t f) (saves : saved ≡ set.intersection inside soon)
    (is : all ≡ set.intersection live saved) (xs : List ℕ) (made : xs ≡ filter (set.contains all) (numbers 0 n)) where
  members : (x : ℕ) → set.contains all x ≡ (set.contains live x && (set.contains inside x && (set.contains t x || set.contains f x)))
  members x =
      ap (λ z. set.contains z x) is ∙ (contains-intersection live saved x
      ∙ ap (λ b. set.contains live x && b) (ap (λ z. set.contains z x) saves ∙ (contains-intersection inside soon x
      ∙ ap (λ b. set.contains inside x && b) (ap (λ z. set.contains z x) wants ∙ contains-union t f x))))

  pub wanted_is : xs ≡ wanted n (set.contains live) (set.contains inside) (behind t f)
  wanted_is = made ∙ ap (λ p. filter p (numbers 0 n)) (fun_ext members)

  pub wanted_once : without_repeats xs ≡ true
  wanted_once = ap without_repeats made ∙ once_first (set.contains all) n

  -- what is restored is live
  pub wanted_alive : (l : NumberSet) → l ≡ live → list_all (set.contains l) xs ≡ true
  wanted_alive l copied =
      ap (list_all (set.contains l)) made
      ∙ (ap (λ z. list_all (set.contains z) (filter (set.contains all) (numbers 0 n))) copied
      ∙ all_passing (set.contains all) (set.contains live) (numbers 0 n) (λ x h. and_left (set.contains live x) _ (sym (members x) ∙ h)))

pub call_made : (n : ℕ) (a : Application ℕ) (live : NumberSet) (inside : ℕ → Bool) (s : Behind)
    → call a (wanted n (set.contains live) inside s) ≡ eager n inside (call a (set.items live)) s
call_made n a live inside s = ap (λ f. call a (wanted n f inside s)) (fun_ext (λ x. has_items live x))

-- ## Parts, by what the walk over them was given

-- a set has what is wanted before an expression
abbrev pub IsSoon : NumberSet → Expression → Behind → Type 0
IsSoon m e s = (x : ℕ) → set.contains m x ≡ is_soon x e (s x)

-- what an expression binds is taken out of a set
abbrev pub IsUnbound : (old new : NumberSet) → Expression → Type 0
IsUnbound old new e = (x : ℕ) → set.contains new x ≡ (not (binds x e) && set.contains old x)

pub soon_of : (m : NumberSet) (s : Behind) (e e' : Expression) → e ≡ e' → IsSoon m e s → IsSoon m e' s
soon_of m s e e' is h = subst (λ z. IsSoon m z s) is h

pub unbound_of : (u v : NumberSet) (e e' : Expression) → e ≡ e' → IsUnbound u v e → IsUnbound u v e'
unbound_of u v e e' is h = subst (λ z. IsUnbound u v z) is h

pub made_of : (n : ℕ) (inside : ℕ → Bool) (s : Behind) (r e e' : Expression) → e ≡ e' → r ≡ eager n inside e s → r ≡ eager n inside e' s
made_of n inside s r e e' is h = h ∙ ap (λ z. eager n inside z s) is

pub soon_given : (m t t' f f' : NumberSet) (e e' : Expression) → t' ≡ t → f' ≡ f → e' ≡ e → IsSoon m e' (behind t' f') → IsSoon m e (behind t f)
soon_given m t t' f f' e e' p q is h x =
    h x ∙ (ap (λ z. is_soon x e' (behind z f' x)) p ∙ (ap (λ z. is_soon x e' (behind t z x)) q ∙ ap (λ z. is_soon x z (behind t f x)) is))

pub made_given : (n n' : ℕ) (i i' t t' f f' : NumberSet) (r e e' : Expression) → n' ≡ n → i' ≡ i → t' ≡ t → f' ≡ f → e' ≡ e
    → r ≡ eager n' (set.contains i') e' (behind t' f') → r ≡ eager n (set.contains i) e (behind t f)
made_given n n' i i' t t' f f' r e e' p q k l is h =
    h ∙ (ap (λ z. eager z (set.contains i') e' (behind t' f')) p
    ∙ (ap (λ z. eager n (set.contains z) e' (behind t' f')) q
    ∙ (ap (λ z. eager n (set.contains i) e' (behind z f')) k
    ∙ (ap (λ z. eager n (set.contains i) e' (behind t z)) l ∙ ap (λ z. eager n (set.contains i) z (behind t f)) is))))

-- ## Calls

-- behind a call nothing counts
pub read_alone : (atoms : List (Atom ℕ)) (none m : NumberSet) → none ≡ set.empty → IsWith atoms none m → (x : ℕ) → set.contains m x ≡ has x (named atoms)
read_alone atoms none m e w x =
    w x ∙ (ap (λ z. has x (named atoms) || set.contains z x) e ∙ (ap (λ b. has x (named atoms) || b) (contains-empty x) ∙ or_right_false (has x (named atoms))))

-- but the return address
pub read_and_return : (atoms : List (Atom ℕ)) (none link m : NumberSet) → none ≡ set.empty → link ≡ set.insert none 0 → IsWith atoms link m
    → (x : ℕ) → set.contains m x ≡ (nat_eq x 0 || has x (named atoms))
read_and_return atoms none link m e put w x =
    w x ∙ (ap (λ b. has x (named atoms) || b) (link_only none link e put x) ∙ or_swap (has x (named atoms)) (nat_eq x 0))

-- ## One after the other

across : (y : ℕ) (b : Expression) (s : Behind) (mb m : NumberSet) → IsSoon mb b s → m ≡ set.remove mb y
    → behind m m ≡ (λ x t. not (nat_eq x y) && is_soon x b (s x))
across y b s mb m h r =
    one_set m _ (λ x. ap (λ z. set.contains z x) r ∙ (contains-remove mb y x ∙ ap (λ z. not (nat_eq x y) && z) (h x)))

module _ (n : ℕ) (inside : ℕ → Bool) (s : Behind) where
  pub bind_made : (y : ℕ) (a b a' b' : Expression) (mb m : NumberSet) → IsSoon mb b s → m ≡ set.remove mb y → a' ≡ eager n inside a (behind m m) → b' ≡ eager n inside b s
      → bind y a' b' ≡ eager n inside (bind y a b) s
  bind_made y a b a' b' mb m h r ea eb =
      ap (λ z. bind y z b') (ea ∙ ap (eager n inside a) (across y b s mb m h r)) ∙ ap (bind y (eager n inside a (λ x t. not (nat_eq x y) && is_soon x b (s x)))) eb

  pub bind_soon : (y : ℕ) (a b : Expression) (mb m ma : NumberSet) → IsSoon mb b s → m ≡ set.remove mb y → IsSoon ma a (behind m m) → IsSoon ma (bind y a b) s
  bind_soon y a b mb m ma h r k x = k x ∙ ap (λ f. is_soon x a (f x)) (across y b s mb m h r)

  pub sequence_made : (a b a' b' : Expression) (mb : NumberSet) → IsSoon mb b s → a' ≡ eager n inside a (behind mb mb) → b' ≡ eager n inside b s
      → sequence a' b' ≡ eager n inside (sequence a b) s
  sequence_made a b a' b' mb h ea eb =
      ap (λ z. sequence z b') (ea ∙ ap (eager n inside a) (one_set mb _ h)) ∙ ap (sequence (eager n inside a (λ x t. is_soon x b (s x)))) eb

  pub sequence_soon : (a b : Expression) (mb ma : NumberSet) → IsSoon mb b s → IsSoon ma a (behind mb mb) → IsSoon ma (sequence a b) s
  sequence_soon a b mb ma h k x = k x ∙ ap (λ f. is_soon x a (f x)) (one_set mb _ h)

  pub branch_made : (a b c a' b' c' : Expression) (mb mc : NumberSet) → IsSoon mb b s → IsSoon mc c s → a' ≡ eager n inside a (behind mb mc)
      → b' ≡ eager n inside b s → c' ≡ eager n inside c s → branch a' b' c' ≡ eager n inside (branch a b c) s
  branch_made a b c a' b' c' mb mc h k ea eb ec =
      ap (λ z. branch z b' c') (ea ∙ ap (eager n inside a) (two_sets mb mc _ _ h k))
      ∙ (ap (λ z. branch (eager n inside a (λ x t. cond t (is_soon x b (s x)) (is_soon x c (s x)))) z c') eb
      ∙ ap (branch (eager n inside a (λ x t. cond t (is_soon x b (s x)) (is_soon x c (s x)))) (eager n inside b s)) ec)

  pub branch_soon : (a b c : Expression) (mb mc ma : NumberSet) → IsSoon mb b s → IsSoon mc c s → IsSoon ma a (behind mb mc) → IsSoon ma (branch a b c) s
  branch_soon a b c mb mc ma h k l x = l x ∙ ap (λ f. is_soon x a (f x)) (two_sets mb mc _ _ h k)

  pub return_made : (e e' : Expression) (m0 m : NumberSet) → m0 ≡ set.empty → m ≡ set.insert m0 0 → e' ≡ eager n inside e (behind m m) → return e' ≡ eager n inside (return e) s
  return_made e e' m0 m none put made = ap return (made ∙ ap (eager n inside e) (one_set m _ (link_only m0 m none put)))

  pub return_soon : (e : Expression) (m0 m me : NumberSet) → m0 ≡ set.empty → m ≡ set.insert m0 0 → IsSoon me e (behind m m) → IsSoon me (return e) s
  return_soon e m0 m me none put h x = h x ∙ ap (λ f. is_soon x e (f x)) (one_set m _ (link_only m0 m none put))

  nothing : (m : NumberSet) → m ≡ set.empty → behind m m ≡ (λ x t. false)
  nothing m none = one_set m _ (λ x. ap (λ z. set.contains z x) none ∙ contains-empty x)

  pub end_made : (e e' : Expression) (m : NumberSet) → m ≡ set.empty → e' ≡ eager n inside e (behind m m) → end e' ≡ eager n inside (end e) s
  end_made e e' m none made = ap end (made ∙ ap (eager n inside e) (nothing m none))

  pub end_soon : (e : Expression) (m me : NumberSet) → m ≡ set.empty → IsSoon me e (behind m m) → IsSoon me (end e) s
  end_soon e m me none h x = h x ∙ ap (λ f. is_soon x e (f x)) (nothing m none)

  pub fix_soon : (members : List (Member ℕ)) (e : Expression) (me m : NumberSet) → IsSoon me e s
      → ((x : ℕ) → set.contains m x ≡ (not (has x (member_variables members)) && (has x (named (member_atoms members)) || set.contains me x))) → IsSoon m (fix members e) s
  fix_soon members e me m h k x = k x ∙ ap (λ b. not (has x (member_variables members)) && (has x (named (member_atoms members)) || b)) (h x)

-- ## What is bound

then_out : (a b : Expression) (u v w : NumberSet) → IsUnbound u v b → IsUnbound v w a → (x : ℕ) → set.contains w x ≡ (not (binds x b || binds x a) && set.contains u x)
then_out a b u v w h k x = k x ∙ (ap (λ z. not (binds x a) && z) (h x) ∙ not_either (binds x b) (binds x a) (set.contains u x))

pub sequence_unbound : (a b : Expression) (u v w : NumberSet) → IsUnbound u v b → IsUnbound v w a → IsUnbound u w (sequence a b)
sequence_unbound a b u v w h k x = then_out a b u v w h k x ∙ ap (λ z. not z && set.contains u x) (or_swap (binds x b) (binds x a))

pub bind_unbound : (y : ℕ) (a b : Expression) (u v v' w : NumberSet) → IsUnbound u v b → v' ≡ set.remove v y → IsUnbound v' w a → IsUnbound u w (bind y a b)
bind_unbound y a b u v v' w h r k x =
    k x ∙ (ap (λ z. not (binds x a) && z) (ap (λ z. set.contains z x) r ∙ (contains-remove v y x ∙ ap (λ z. not (nat_eq x y) && z) (h x)))
    ∙ by (nat_eq x y) (binds x a) (binds x b) (set.contains u x)) where
      by : (e p q r : Bool) → (not p && (not e && (not q && r))) ≡ (not (e || (p || q)) && r)
      by true true q r = refl
      by true false q r = refl
      by false true q r = refl
      by false false q r = refl

pub branch_unbound : (a b c : Expression) (u v w o : NumberSet) → IsUnbound u v b → IsUnbound v w c → IsUnbound w o a → IsUnbound u o (branch a b c)
branch_unbound a b c u v w o h k l x =
    l x ∙ (ap (λ z. not (binds x a) && z) (then_out c b u v w h k x) ∙ by (binds x a) (binds x b) (binds x c) (set.contains u x)) where
      by : (p q s r : Bool) → (not p && (not (q || s) && r)) ≡ (not (p || (q || s)) && r)
      by true q s r = refl
      by false q s r = refl

pub fix_unbound : (members : List (Member ℕ)) (e : Expression) (u v w : NumberSet) → IsUnbound u v e
    → ((x : ℕ) → set.contains w x ≡ (not (has x (member_variables members)) && set.contains v x)) → IsUnbound u w (fix members e)
fix_unbound members e u v w h k x =
    k x ∙ (ap (λ z. not (has x (member_variables members)) && z) (h x)
    ∙ (ap (λ z. not z && (not (binds x e) && set.contains u x)) (sym (among_is x members))
    ∙ (not_either (binds x e) (among x members) (set.contains u x) ∙ ap (λ z. not z && set.contains u x) (or_swap (binds x e) (among x members)))))

-- ## Regions

bound_there : (p b : Bool) → b ≡ true → (p && not b) ≡ not b
bound_there true b h = refl
bound_there false true h = refl
bound_there false false h = absurd (cc)

heads_are : (x : ℕ) (e : Expression) (saves : List ℕ) → has x (heads e saves) ≡ (has x saves && not (binds x e))
heads_are x e [] = refl
heads_are x e (y ∷ ys) = by (nat_eq x y) refl (binds y e) refl (heads_are x e ys) where
  by : (t : Bool) → nat_eq x y ≡ t → (b : Bool) → binds y e ≡ b → has x (heads e ys) ≡ (has x ys && not (binds x e))
      → has x (unless b y (heads e ys)) ≡ ((t || has x ys) && not (binds x e))
  by true h true k rest = rest ∙ bound_there (has x ys) (binds x e) (ap (λ z. binds z e) (eqb-true x y h) ∙ k)
  by true h false k rest = ap (λ z. z || has x (heads e ys)) h ∙ sym (ap not (ap (λ z. binds z e) (eqb-true x y h) ∙ k))
  by false h true k rest = rest
  by false h false k rest = ap (λ z. z || has x (heads e ys)) h ∙ rest

pub with_heads : (saves : List ℕ) (none all unbound heads old new : NumberSet) → none ≡ set.empty
    → ((x : ℕ) → set.contains all x ≡ (has x saves || set.contains none x)) → heads ≡ set.intersection all unbound → new ≡ set.union heads old
    → (x : ℕ) → set.contains new x ≡ ((has x saves && set.contains unbound x) || set.contains old x)
with_heads saves none all unbound heads old new e put met joined x =
    let there : set.contains all x ≡ has x saves
    = put x ∙ (ap (λ z. has x saves || set.contains z x) e ∙ (ap (λ b. has x saves || b) (contains-empty x) ∙ or_right_false (has x saves))) in
    ap (λ z. set.contains z x) joined ∙ (contains-union heads old x
    ∙ ap (λ b. b || set.contains old x) (ap (λ z. set.contains z x) met ∙ (contains-intersection all unbound x ∙ ap (λ b. b && set.contains unbound x) there)))

-- what is saved, not bound inside, and what was there before
module _ (saves : List ℕ) (e : Expression) (u own own' : NumberSet) (put : (x : ℕ) → set.contains own x ≡ (has x saves || set.contains u x)) (walked : IsUnbound own own' e) where
  pub save_soon : (s : Behind) (m m' : NumberSet) → IsSoon m e s → ((x : ℕ) → set.contains m' x ≡ ((has x saves && set.contains own' x) || set.contains m x))
      → IsSoon m' (save saves e) s
  save_soon s m m' h k x =
      k x ∙ (ap (λ z. (has x saves && z) || set.contains m x) (walked x ∙ ap (λ z. not (binds x e) && z) (put x))
      ∙ (ap (λ z. z || set.contains m x) (by (has x saves) (binds x e) (set.contains u x)) ∙ (ap (λ z. z || set.contains m x) (sym (heads_are x e saves))
      ∙ ap (λ z. has x (heads e saves) || z) (h x)))) where
        by : (p b r : Bool) → (p && (not b && (p || r))) ≡ (p && not b)
        by true true r = refl
        by true false r = refl
        by false b r = refl

  pub save_unbound : (w : NumberSet) → w ≡ set.intersection u own' → IsUnbound u w (save saves e)
  save_unbound w is x =
      ap (λ z. set.contains z x) is ∙ (contains-intersection u own' x
      ∙ (ap (λ z. set.contains u x && z) (walked x ∙ ap (λ z. not (binds x e) && z) (put x)) ∙ by (set.contains u x) (binds x e) (has x saves))) where
        by : (r b p : Bool) → (r && (not b && (p || r))) ≡ (not b && r)
        by true true p = refl
        by true false true = refl
        by true false false = refl
        by false true p = refl
        by false false p = refl

pub save_made : (n : ℕ) (saves : List ℕ) (inside within : NumberSet) (e r : Expression) (s : Behind)
    → ((y : ℕ) → set.contains within y ≡ (has y saves || set.contains inside y)) → r ≡ eager n (set.contains within) e s
    → save saves r ≡ eager n (set.contains inside) (save saves e) s
save_made n saves inside within e r s h made = ap (save saves) (made ∙ ap (λ f. eager n f e s) (fun_ext h))
