-- What one walk from the end finds at each node, from what it finds at the node's parts.
use Rattle.std.proofs.Common.{◌≡◌, ℕ, ◌<◌, Bool, true, false, List, [], ◌∷◌, length, refl, ap, sym, ◌∙◌, subst}
use Rattle.std.specs.Prelude.{nat_eq, ◌||◌, ◌&&◌, not, cond, slice_index_or, slice_set}
use Rattle.std.specs.FinSet as set
use Rattle.std.proofs.Math.Path.{fun_ext}
use Rattle.std.proofs.lemmas.Bool.{eqb-true, eqb-false}
use Rattle.std.proofs.lemmas.List.{get_or-set_same, get_or-set_other, length-set}
use Rattle.sch_sets.specs.Members.{NumberSet}
use Rattle.sch_sets.proofs.Membership.{contains-empty, contains-remove, contains-union}
use Rattle.sch_word.specs.trees.NumberSets.{has}
use Rattle.sch_word.proofs.facts.Booleans.{or_swap}
use Rattle.sch_control.specs.declared.operation.Application.{Application}
use Rattle.sch_control.specs.declared.operation.Member.{Member}
use Rattle.sch_control.specs.declared.operation.Operation.{Operation}
use Rattle.sch_control.specs.AtomsAndSites.{operation_atoms, application_atoms, member_atoms}
use Rattle.sch_control.specs.Tree.{Expression, perform, bind, sequence, branch, fix, call, tail_call, return, end, save}
use Rattle.sch_control.specs.Valid.{member_variables}
use Rattle.sch_control.specs.flow.Live.{named, known}
use Rattle.sch_control.specs.flow.LiveTests.{behind, by_result, is_live, Behind}
use Rattle.sch_regs.specs.NotedSets.{Noted, put, put_group, note}
use Rattle.sch_regs.specs.PlaceChoice.{around}
use Rattle.sch_control.specs.flow.Reads.{IsWith}
use Rattle.sch_control.proofs.SetTests.{link_only, one_set, two_sets}
use Rattle.sch_regs.specs.SetsAsTests.{noted_in, with_first, IsNotedBack}

-- ## What is noted

-- what is noted under one variable depends on what was noted under it
note_at : (e : Expression) (l : Behind) (n n' : Noted) (z : ℕ) → n z ≡ n' z → note e l n z ≡ note e l n' z
note_at (perform o) l n n' z h = h
note_at (bind y a b) l n n' z h = note_at a _ _ _ z (ap (λ f. cond (nat_eq z y) (λ x. is_live x b (l x)) f) (note_at b l n n' z h))
note_at (sequence a b) l n n' z h = note_at a _ _ _ z (note_at b l n n' z h)
note_at (branch a b c) l n n' z h = note_at a _ _ _ z (note_at b l _ _ z (note_at c l n n' z h))
note_at (fix [] e) l n n' z h = note_at e l n n' z h
note_at (fix (m ∷ members) e) l n n' z h =
    ap (λ f. cond (nat_eq z m.at) (around (m ∷ members) (λ x. is_live x e (l x))) f) (note_at e l n n' z h)
note_at (call a restores) l n n' z h = h
note_at (tail_call a) l n n' z h = h
note_at (return e) l n n' z h = note_at e _ n n' z h
note_at (end e) l n n' z h = note_at e _ n n' z h
note_at (save saves e) l n n' z h = note_at e l n n' z h

put_set : (sets : List NumberSet) (y : ℕ) (s : NumberSet) (f : ℕ → Bool) (n : Noted) (z : ℕ) → z < length sets → ((x : ℕ) → set.contains s x ≡ f x)
    → noted_in sets z ≡ n z → noted_in (slice_set sets y s) z ≡ put y f n z
put_set sets y s f n z l same h = by (nat_eq z y) refl where
  by : (b : Bool) → nat_eq z y ≡ b → noted_in (slice_set sets y s) z ≡ cond b f (n z)
  by true e =
      let is : z ≡ y = eqb-true z y e in
      ap (λ q. set.contains q) (ap (λ k. slice_index_or (slice_set sets y s) k set.empty) is ∙ get_or-set_same sets y s set.empty (subst (λ k. k < length sets) is l))
      ∙ fun_ext same
  by false e =
      let differ = eqb-false z y e in
      ap (λ q. set.contains q) (get_or-set_other sets y z s set.empty differ) ∙ h

-- ## Nodes

pub do_back : (o : Operation ℕ) (t f s b : NumberSet) (n : List NumberSet) → ((x : ℕ) → set.contains s x ≡ by_result (known o) (behind t f x))
    → IsWith (operation_atoms o) s b → IsNotedBack (perform o) t f b n n
do_back o t f s b n h w = ((λ x. w x ∙ ap (λ z. has x (named (operation_atoms o)) || z) (h x)), ((λ z l. refl), refl))

pub bind_back : (y : ℕ) (a b : Expression) (t f s1 s2 s3 s4 : NumberSet) (n0 n1 n2 n3 : List NumberSet) → IsNotedBack b t f s1 n0 n1 → n2 ≡ slice_set n1 y s1
    → s2 ≡ set.remove s1 y → s3 ≡ s2 → IsNotedBack a s3 s3 s4 n2 n3 → IsNotedBack (bind y a b) t f s4 n0 n3
bind_back y a b t f s1 s2 s3 s4 n0 n1 n2 n3 first noted removed copied second =
    let l : Behind = behind t f in
    let live : ℕ → Bool = λ x. is_live x b (l x) in
    let across : behind s3 s3 ≡ (λ x r. not (nat_eq x y) && live x)
    = one_set s3 _ (λ x. ap (λ q. set.contains q x) (copied ∙ removed) ∙ (contains-remove s1 y x ∙ ap (λ z. not (nat_eq x y) && z) (first.0 x))) in
    let long : length n2 ≡ length n0 = ap length noted ∙ (length-set n1 y s1 ∙ first.1.1) in (
      (λ x. second.0 x ∙ ap (λ k. is_live x a (k x)) across),
      (
        λ z lt.
            let lt1 : z < length n1 = subst (λ k. z < k) (sym first.1.1) lt in
            second.1.0 z (subst (λ k. z < k) (sym long) lt)
            ∙ (ap (λ k. note a k (noted_in n2) z) across
            ∙ note_at a _ (noted_in n2) (put y live (note b l (noted_in n0))) z
            (ap (λ k. noted_in k z) noted ∙ put_set n1 y s1 live (note b l (noted_in n0)) z lt1 first.0 (first.1.0 z lt))),
        second.1.1 ∙ long,
      ),
    )

pub sequence_back : (a b : Expression) (t f s1 s2 s3 : NumberSet) (n0 n1 n2 : List NumberSet) → IsNotedBack b t f s1 n0 n1 → s2 ≡ s1
    → IsNotedBack a s2 s2 s3 n1 n2 → IsNotedBack (sequence a b) t f s3 n0 n2
sequence_back a b t f s1 s2 s3 n0 n1 n2 first copied second =
    let l : Behind = behind t f in
    let across : behind s2 s2 ≡ (λ x r. is_live x b (l x)) = one_set s2 _ (λ x. ap (λ q. set.contains q x) copied ∙ first.0 x) in (
      (λ x. second.0 x ∙ ap (λ k. is_live x a (k x)) across),
      (
        λ z lt. second.1.0 z (subst (λ k. z < k) (sym first.1.1) lt) ∙ (ap (λ k. note a k (noted_in n1) z) across ∙ note_at a _ _ _ z (first.1.0 z lt)),
        second.1.1 ∙ first.1.1,
      ),
    )

pub branch_back : (a b c : Expression) (t f s1 s2 s3 s4 : NumberSet) (n0 n1 n2 n3 : List NumberSet) → IsNotedBack c t f s1 n0 n1 → IsNotedBack b t f s2 n1 n2 → s3 ≡ s2
    → IsNotedBack a s3 s1 s4 n2 n3 → IsNotedBack (branch a b c) t f s4 n0 n3
branch_back a b c t f s1 s2 s3 s4 n0 n1 n2 n3 last middle copied first =
    let l : Behind = behind t f in
    let across : behind s3 s1 ≡ (λ x r. cond r (is_live x b (l x)) (is_live x c (l x)))
    = two_sets s3 s1 _ _ (λ x. ap (λ q. set.contains q x) copied ∙ middle.0 x) last.0 in
    let long : length n2 ≡ length n0 = middle.1.1 ∙ last.1.1 in (
      (λ x. first.0 x ∙ ap (λ k. is_live x a (k x)) across),
      (
        λ z lt.
            first.1.0 z (subst (λ k. z < k) (sym long) lt)
            ∙ (ap (λ k. note a k (noted_in n2) z) across
            ∙ note_at a _ _ _ z (middle.1.0 z (subst (λ k. z < k) (sym last.1.1) lt) ∙ note_at b l _ _ z (last.1.0 z lt))),
        first.1.1 ∙ long,
      ),
    )

pub fix_back : (members : List (Member ℕ)) (e : Expression) (t f s1 s2 s3 : NumberSet) (n0 n1 n2 : List NumberSet) → IsNotedBack e t f s1 n0 n1
    → IsWith (member_atoms members) s1 s2 → n2 ≡ with_first members s2 n1
    → ((x : ℕ) → set.contains s3 x ≡ (not (has x (member_variables members)) && set.contains s2 x)) → IsNotedBack (fix members e) t f s3 n0 n2
fix_back members e t f s1 s2 s3 n0 n1 n2 first reads noted out =
    let l : Behind = behind t f in
    let whole : (x : ℕ) → set.contains s2 x ≡ around members (λ x. is_live x e (l x)) x
    = λ x. reads x ∙ ap (λ z. has x (named (member_atoms members)) || z) (first.0 x) in (
      (λ x. out x ∙ ap (λ z. not (has x (member_variables members)) && z) (whole x)),
      (
        λ z lt. ap (λ k. noted_in k z) noted ∙ grouped members whole z lt,
        ap length noted ∙ (long members ∙ first.1.1),
      ),
    )
  where
    grouped : (ms : List (Member ℕ)) → ((x : ℕ) → set.contains s2 x ≡ around members (λ x. is_live x e (behind t f x)) x) → (z : ℕ) → z < length n0
        → noted_in (with_first ms s2 n1) z ≡ put_group (member_variables ms) (around members (λ x. is_live x e (behind t f x))) (note e (behind t f) (noted_in n0)) z
    grouped [] whole z lt = first.1.0 z lt
    grouped (m ∷ ms) whole z lt = put_set n1 m.at s2 _ (note e (behind t f) (noted_in n0)) z (subst (λ k. z < k) (sym first.1.1) lt) whole (first.1.0 z lt)

    long : (ms : List (Member ℕ)) → length (with_first ms s2 n1) ≡ length n1
    long [] = refl
    long (m ∷ ms) = length-set n1 m.at s2

pub call_back : (a : Application ℕ) (restores : List ℕ) (t f s b : NumberSet) (n : List NumberSet) → s ≡ set.union t f → IsWith (application_atoms a) s b
    → IsNotedBack (call a restores) t f b n n
call_back a restores t f s b n u w = (
  (λ x. w x ∙ ap (λ z. has x (named (application_atoms a)) || z) (ap (λ q. set.contains q x) u ∙ contains-union t f x)),
  ((λ z l. refl), refl),
)

pub tail_back : (a : Application ℕ) (t f s0 s b : NumberSet) (n : List NumberSet) → s0 ≡ set.empty → s ≡ set.insert s0 0 → IsWith (application_atoms a) s b
    → IsNotedBack (tail_call a) t f b n n
tail_back a t f s0 s b n none put w =
    ((λ x. w x ∙ (ap (λ z. has x (named (application_atoms a)) || z) (link_only s0 s none put x) ∙ or_swap (has x (named (application_atoms a))) (nat_eq x 0))), ((λ z l. refl), refl))

pub return_back : (e : Expression) (t f s0 s b : NumberSet) (n0 n1 : List NumberSet) → s0 ≡ set.empty → s ≡ set.insert s0 0 → IsNotedBack e s s b n0 n1
    → IsNotedBack (return e) t f b n0 n1
return_back e t f s0 s b n0 n1 none put inner =
    let across : behind s s ≡ (λ x r. nat_eq x 0) = one_set s _ (link_only s0 s none put) in (
      (λ x. inner.0 x ∙ ap (λ k. is_live x e (k x)) across),
      (λ z lt. inner.1.0 z lt ∙ ap (λ k. note e k (noted_in n0) z) across, inner.1.1),
    )

pub end_back : (e : Expression) (t f s b : NumberSet) (n0 n1 : List NumberSet) → s ≡ set.empty → IsNotedBack e s s b n0 n1 → IsNotedBack (end e) t f b n0 n1
end_back e t f s b n0 n1 none inner =
    let across : behind s s ≡ (λ x r. false) = one_set s _ (λ x. ap (λ q. set.contains q x) none ∙ contains-empty x) in (
      (λ x. inner.0 x ∙ ap (λ k. is_live x e (k x)) across),
      (λ z lt. inner.1.0 z lt ∙ ap (λ k. note e k (noted_in n0) z) across, inner.1.1),
    )

pub of_tree : (e e' : Expression) (t f b : NumberSet) (n0 n1 : List NumberSet) → e ≡ e' → IsNotedBack e' t f b n0 n1 → IsNotedBack e t f b n0 n1
of_tree e e' t f b n0 n1 h k = subst (λ z. IsNotedBack z t f b n0 n1) (sym h) k
