-- What is live before each expression and at its calls, from the sets of its parts.
use Rattle.std.proofs.Common.{◌≡◌, ℕ, Bool, true, false, List, refl, ap, sym, ◌∙◌, inl, inr, ◌⊎◌}
use Rattle.std.specs.Prelude.{◌↔◌, ◌&&◌, not}
use Rattle.std.specs.FinSet as set
use Rattle.std.specs.Bool.{MatchBool}
use Rattle.sch_sets.specs.Members.{NumberSet}
use Rattle.sch_sets.proofs.Membership.{member-empty, member-insert, member-remove, member-union}
use Rattle.sch_word.specs.trees.NumberSets.{has}
use Rattle.sch_control.specs.declared.operation.Application.{Application}
use Rattle.sch_control.specs.declared.operation.Atom.{Atom}
use Rattle.sch_control.specs.declared.operation.Member.{Member}
use Rattle.sch_control.specs.declared.operation.Operation.{Operation}
use Rattle.sch_control.specs.AtomsAndSites.{operation_atoms, application_atoms, member_atoms}
use Rattle.sch_control.specs.Meaning.{no_region}
use Rattle.sch_control.specs.Tree.{Expression, perform, bind, sequence, branch, fix, call, tail_call, return, end, save}
use Rattle.sch_control.specs.Valid.{member_variables}
use Rattle.sch_control.specs.flow.Live.{named, Mentions, Perhaps, known, Across, Live, Later}
use Rattle.sch_control.specs.flow.LiveTests.{behind, by_result}
use Rattle.sch_control.specs.flow.Paths.{live}
use Rattle.sch_control.proofs.NumberLists.{has_items}
use Rattle.sch_paths.proofs.paths.LiveByPaths.{itself, then_is, either_same, both_same, flip, swapped, match_same, live_before}
use Rattle.sch_paths.proofs.paths.LiveTested.{or_is, result_is}
use Rattle.sch_paths.proofs.paths.MeetsByCases.{before_same}
use Rattle.sch_live.specs.BackwardSets.{later_of, IsLiveBefore, ListsAllLive}
use Rattle.sch_control.specs.flow.Reads.{IsWith}

-- ## What is live behind may be said in another way

live_same : (x : ℕ) (e : Expression) (L M : Bool → Type 0) → ((t : Bool) → L t ↔ M t) → Live x e L ↔ Live x e M
live_same x e L M f = then_is (flip (live_before x no_region e L)) (then_is (before_same (live x) no_region e L M f) (live_before x no_region e M))

pub lists_same : (e : Expression) (L M : Later) → ((x : ℕ) (t : Bool) → L x t ↔ M x t) → ListsAllLive e L → ListsAllLive e M
lists_same (perform o) L M f h = tt
lists_same (bind y a b) L M f h =
    (lists_same a _ _ (λ x t. both_same itself (live_same x b (L x) (M x) (f x))) h.0, lists_same b L M f h.1)
lists_same (sequence a b) L M f h = (lists_same a _ _ (λ x t. live_same x b (L x) (M x) (f x)) h.0, lists_same b L M f h.1)
lists_same (branch a b c) L M f h = (
  lists_same a _ _ (λ x t. match_same t (live_same x b (L x) (M x) (f x)) (live_same x c (L x) (M x) (f x))) h.0,
  (lists_same b L M f h.1.0, lists_same c L M f h.1.1),
)
lists_same (fix members e) L M f h = lists_same e L M f h
lists_same (call a listed) L M f h = λ x. then_is (h x) (either_same (f x true) (f x false))
lists_same (tail_call a) L M f h = tt
lists_same (return e) L M f h = h
lists_same (end e) L M f h = h
lists_same (save saves e) L M f h = lists_same e L M f h

-- ## Tests

same_test : (b c : Bool) → b ≡ c → (b ≡ true) ↔ (c ≡ true)
same_test b c e = (λ h. sym e ∙ h, λ h. e ∙ h)

outside_test : (p q : Bool) → ((not p && q) ≡ true) ↔ ((p ≡ false) × (q ≡ true))
outside_test true q = (λ h. absurd (cc), λ w. absurd (let e = w.0 in cc))
outside_test false q = (λ h. (refl, h), λ w. w.1)

equal_sets : (s t : NumberSet) (x : ℕ) → s ≡ t → (set.contains s x ≡ true) ↔ (set.contains t x ≡ true)
equal_sets s t x e = same_test _ _ (ap (λ z. set.contains z x) e)

read_then : (atoms : List (Atom ℕ)) (m b : NumberSet) (x : ℕ) {P : Type 0} → IsWith atoms m b → (set.contains m x ≡ true) ↔ P
    → (set.contains b x ≡ true) ↔ (Mentions x atoms ⊎ P)
read_then atoms m b x w h =
    then_is (same_test _ _ (w x)) (then_is (or_is (has x (named atoms)) (set.contains m x)) (either_same itself h))

-- ## Operations, calls and ends

pub do_before : (o : Operation ℕ) (s t m b : NumberSet) → ((x : ℕ) → set.contains m x ≡ by_result (known o) (behind s t x)) → IsWith (operation_atoms o) m b
    → IsLiveBefore (perform o) s t b
do_before o s t m b h w x =
    read_then (operation_atoms o) m b x w (then_is (same_test _ _ (h x)) (result_is (known o) (behind s t x) (later_of s t x) (λ r. itself)))

union_later : (s t u : NumberSet) (x : ℕ) → u ≡ set.union s t → (set.contains u x ≡ true) ↔ Perhaps (later_of s t x)
union_later s t u x e = then_is (equal_sets u _ x e) (member-union s t x)

pub call_before : (a : Application ℕ) (listed : List ℕ) (s t u m b : NumberSet) → u ≡ set.union s t → m ≡ u → IsWith (application_atoms a) m b
    → IsLiveBefore (call a listed) s t b
call_before a listed s t u m b e c w x = read_then (application_atoms a) m b x w (then_is (equal_sets m u x c) (union_later s t u x e))

pub call_sets : (a : Application ℕ) (s t u : NumberSet) → u ≡ set.union s t → ListsAllLive (call a (set.items u)) (later_of s t)
call_sets a s t u e x = then_is (same_test _ _ (sym (has_items u x))) (union_later s t u x e)

zero_alone : (u : NumberSet) (x : ℕ) → u ≡ set.insert set.empty 0 → (set.contains u x ≡ true) ↔ (x ≡ 0)
zero_alone u x e =
    then_is (equal_sets u _ x e)
    (then_is (member-insert set.empty 0 x) (λ w. elim w [ inl z ↦ z | inr n ↦ absurd (member-empty x n) ], λ z. inl z))

pub tail_before : (a : Application ℕ) (s t m b : NumberSet) → m ≡ set.insert set.empty 0 → IsWith (application_atoms a) m b → IsLiveBefore (tail_call a) s t b
tail_before a s t m b e w x = then_is (read_then (application_atoms a) m b x w (zero_alone m x e)) swapped

zero_later : (u : NumberSet) → u ≡ set.insert set.empty 0 → (x : ℕ) (r : Bool) → later_of u u x r ↔ (x ≡ 0)
zero_later u d x true = zero_alone u x d
zero_later u d x false = zero_alone u x d

pub return_before : (e : Expression) (s t u b : NumberSet) → u ≡ set.insert set.empty 0 → IsLiveBefore e u u b → IsLiveBefore (return e) s t b
return_before e s t u b d h x = then_is (h x) (live_same x e _ _ (zero_later u d x))

pub return_sets : (e : Expression) (s t u : NumberSet) → u ≡ set.insert set.empty 0 → ListsAllLive e (later_of u u) → ListsAllLive (return e) (later_of s t)
return_sets e s t u d h = lists_same e _ _ (zero_later u d) h

nothing_there : (u : NumberSet) (x : ℕ) → u ≡ set.empty → (set.contains u x ≡ true) ↔ ⊥
nothing_there u x e = then_is (equal_sets u _ x e) (member-empty x, λ w. absurd w)

pub none_later : (u : NumberSet) → u ≡ set.empty → (x : ℕ) (r : Bool) → later_of u u x r ↔ ⊥
none_later u d x true = nothing_there u x d
none_later u d x false = nothing_there u x d

pub end_before : (e : Expression) (s t u b : NumberSet) → u ≡ set.empty → IsLiveBefore e u u b → IsLiveBefore (end e) s t b
end_before e s t u b d h x = then_is (h x) (live_same x e _ _ (none_later u d x))

pub end_sets : (e : Expression) (s t u : NumberSet) → u ≡ set.empty → ListsAllLive e (later_of u u) → ListsAllLive (end e) (later_of s t)
end_sets e s t u d h = lists_same e _ _ (none_later u d) h

-- ## One after the other

both_later : (m : NumberSet) (x : ℕ) (r : Bool) → later_of m m x r ↔ (set.contains m x ≡ true)
both_later m x true = itself
both_later m x false = itself

across_later : (y : ℕ) (b : Expression) (s t bb m : NumberSet) → IsLiveBefore b s t bb → m ≡ set.remove bb y
    → (x : ℕ) (r : Bool) → later_of m m x r ↔ Across y x (Live x b (later_of s t x))
across_later y b s t bb m h k x r =
    then_is (both_later m x r) (then_is (equal_sets m _ x k) (then_is (member-remove bb y x) (both_same itself (h x))))

pub bind_before : (y : ℕ) (a b : Expression) (s t bb m ba : NumberSet) → IsLiveBefore b s t bb → m ≡ set.remove bb y → IsLiveBefore a m m ba
    → IsLiveBefore (bind y a b) s t ba
bind_before y a b s t bb m ba h k f x = then_is (f x) (live_same x a _ _ (across_later y b s t bb m h k x))

pub bind_sets : (y : ℕ) (a b : Expression) (s t bb m : NumberSet) → IsLiveBefore b s t bb → m ≡ set.remove bb y
    → ListsAllLive a (later_of m m) → ListsAllLive b (later_of s t) → ListsAllLive (bind y a b) (later_of s t)
bind_sets y a b s t bb m h k f g = (lists_same a _ _ (across_later y b s t bb m h k) f, g)

then_later : (b : Expression) (s t bb : NumberSet) → IsLiveBefore b s t bb → (x : ℕ) (r : Bool) → later_of bb bb x r ↔ Live x b (later_of s t x)
then_later b s t bb h x r = then_is (both_later bb x r) (h x)

pub sequence_before : (a b : Expression) (s t bb ba : NumberSet) → IsLiveBefore b s t bb → IsLiveBefore a bb bb ba → IsLiveBefore (sequence a b) s t ba
sequence_before a b s t bb ba h f x = then_is (f x) (live_same x a _ _ (then_later b s t bb h x))

pub sequence_sets : (a b : Expression) (s t bb : NumberSet) → IsLiveBefore b s t bb → ListsAllLive a (later_of bb bb)
    → ListsAllLive b (later_of s t) → ListsAllLive (sequence a b) (later_of s t)
sequence_sets a b s t bb h f g = (lists_same a _ _ (then_later b s t bb h) f, g)

-- ## Tests and groups

arm_later : (b c : Expression) (s t u v : NumberSet) → IsLiveBefore b s t u → IsLiveBefore c s t v
    → (x : ℕ) (r : Bool) → later_of u v x r ↔ MatchBool r (Live x b (later_of s t x)) (Live x c (later_of s t x))
arm_later b c s t u v h k x true = h x
arm_later b c s t u v h k x false = k x

pub branch_before : (a b c : Expression) (s t u v ba : NumberSet) → IsLiveBefore b s t u → IsLiveBefore c s t v → IsLiveBefore a u v ba
    → IsLiveBefore (branch a b c) s t ba
branch_before a b c s t u v ba h k f x = then_is (f x) (live_same x a _ _ (arm_later b c s t u v h k x))

pub branch_sets : (a b c : Expression) (s t u v : NumberSet) → IsLiveBefore b s t u → IsLiveBefore c s t v → ListsAllLive a (later_of u v)
    → ListsAllLive b (later_of s t) → ListsAllLive c (later_of s t) → ListsAllLive (branch a b c) (later_of s t)
branch_sets a b c s t u v h k f g i = (lists_same a _ _ (arm_later b c s t u v h k) f, (g, i))

pub fix_before : (members : List (Member ℕ)) (e : Expression) (s t be m b : NumberSet) → IsLiveBefore e s t be → IsWith (member_atoms members) be m
    → ((x : ℕ) → set.contains b x ≡ (not (has x (member_variables members)) && set.contains m x)) → IsLiveBefore (fix members e) s t b
fix_before members e s t be m b h w k x =
    then_is (same_test _ _ (k x))
    (then_is (outside_test (has x (member_variables members)) (set.contains m x)) (both_same itself (read_then (member_atoms members) be m x w (h x))))
