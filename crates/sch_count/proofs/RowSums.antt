-- The numbers of a body are sums over activations, so that each mark changes them by what it adds.
use Rattle.std.proofs.Common.{◌≡◌, ℕ, ◌+◌, ◌≤◌, Bool, true, false, not, ◌||◌, cond, List, [], ◌∷◌, ◌++◌, length, Option, Some, None, refl, sym, ap, ◌∙◌, arith, zero-add, add-zero}
use Rattle.std.specs.Prelude.{nat_eq}
use Rattle.std.specs.List.{cons_option, filter, list_any, sum_by}
use Rattle.std.proofs.lemmas.List.Sums.{sum_by-cons, sum_by-append, sum_by_push, sum_by-le-sum_by, length-filter, count_by-le-length}
use Rattle.sch_word.specs.declared.mark.MarkKind.{MarkKind}
use Rattle.sch_word.specs.declared.mark.MarkKind.TheVariants.{Enter}
use Rattle.sch_word.specs.runs.Activations.{is_enter, is_call}
use Rattle.sch_count.specs.declared.row.Row.{Row}
use Rattle.sch_count.specs.ActivationCounts.{is_of, is_save, has_no_call, saves_of, row_over}
use Rattle.sch_count.specs.Tallied.{marks_in}

abbrev pub row_from : ℕ → ℕ → ℕ → ℕ → Row
row_from a l s k = record { activations = a; leaves = l; saves = s; leaf_saves = k }

pub same_row : (a b l m s t k n : ℕ) → a ≡ b → l ≡ m → s ≡ t → k ≡ n → row_from a l s k ≡ row_from b m t n
same_row a b l m s t k n p q r e = ap (λ x. row_from x l s k) p ∙ ap (λ x. row_from b x s k) q ∙ ap (λ x. row_from b m x k) r ∙ ap (λ x. row_from b m t x) e

-- ---- what one activation adds to the numbers of a body

abbrev pub one : ℕ → List MarkKind → ℕ
one body own = cond (is_of body own) 1 0

abbrev pub leaf : ℕ → List MarkKind → ℕ
leaf body own = cond (is_of body own) (cond (has_no_call own) 1 0) 0

abbrev pub saved : ℕ → List MarkKind → ℕ
saved body own = cond (is_of body own) (saves_of own) 0

abbrev pub leaf_saved : ℕ → List MarkKind → ℕ
leaf_saved body own = cond (is_of body own) (cond (has_no_call own) (saves_of own) 0) 0

module _ {X : Type 0} (f : X → ℕ) (p : X → Bool) where
  abbrev where_it_passes : X → ℕ
  where_it_passes x = cond (p x) (f x) 0

  kept : (q : Bool) (x : X) (ys : List X) (n : ℕ) → sum_by f ys ≡ n → sum_by f (cond q (x ∷ ys) ys) ≡ cond q (f x) 0 + n
  kept true x ys n e = sum_by-cons f x ys ∙ ap (λ k. f x + k) e
  kept false x ys n e = e ∙ sym (zero-add n)

  pub sum-filter : (xs : List X) → sum_by f (filter p xs) ≡ sum_by where_it_passes xs
  sum-filter [] = refl
  sum-filter (x ∷ xs) = kept (p x) x (filter p xs) (sum_by where_it_passes xs) (sum-filter xs) ∙ sym (sum_by-cons where_it_passes x xs)

leaves-sum : (body : ℕ) (ended : List (List MarkKind)) → length (filter has_no_call (filter (is_of body) ended)) ≡ sum_by (leaf body) ended
leaves-sum body ended = length-filter has_no_call (filter (is_of body) ended) ∙ sum-filter (λ own. cond (has_no_call own) 1 0) (is_of body) ended

leaf_saves-sum : (body : ℕ) (ended : List (List MarkKind)) → sum_by saves_of (filter has_no_call (filter (is_of body) ended)) ≡ sum_by (leaf_saved body) ended
leaf_saves-sum body ended = sum-filter saves_of has_no_call (filter (is_of body) ended) ∙ sum-filter (λ own. cond (has_no_call own) (saves_of own) 0) (is_of body) ended

-- a row of sums
pub row-sums : (ended others : List (List MarkKind)) (body : ℕ)
    → row_over ended others body ≡ row_from (sum_by (one body) (ended ++ others)) (sum_by (leaf body) ended) (sum_by (saved body) (ended ++ others)) (sum_by (leaf_saved body) ended)
row-sums ended others body =
    let all = ended ++ others in
    let r = row_over ended others body in
    same_row r.activations (sum_by (one body) all) r.leaves (sum_by (leaf body) ended) r.saves (sum_by (saved body) all) r.leaf_saves (sum_by (leaf_saved body) ended)
    (length-filter (is_of body) all) (leaves-sum body ended) (sum-filter saves_of (is_of body) all) (leaf_saves-sum body ended)

-- ---- sums where one activation more begins, changes or ends

module _ (g : List MarkKind → ℕ) (ended over : List (List MarkKind)) (more : List (List MarkKind)) where
  sum-top : (top : Option (List MarkKind)) → sum_by g (cons_option top more) ≡ sum_by g (cons_option top []) + sum_by g more
  sum-top None = sym (zero-add (sum_by g more))
  sum-top (Some x) = omega (arith, sum_by-cons g x more, sum_by-cons g x [])

  all-sum : (top : Option (List MarkKind)) → sum_by g (ended ++ (over ++ cons_option top more)) ≡ sum_by g ended + (sum_by g over + (sum_by g (cons_option top []) + sum_by g more))
  all-sum top = sum_by-append g ended (over ++ cons_option top more) ∙ ap (λ n. sum_by g ended + n) (sum_by-append g over (cons_option top more) ∙ ap (λ n. sum_by g over + n) (sum-top top))

  pub sum-entered : (top : Option (List MarkKind)) (x : List MarkKind) → sum_by g (ended ++ ((over ++ cons_option top []) ++ (x ∷ more))) ≡ sum_by g (ended ++ (over ++ cons_option top more)) + g x
  sum-entered top x =
      omega (
        arith,
        all-sum top,
        sum_by-append g ended ((over ++ cons_option top []) ++ (x ∷ more)),
        sum_by-append g (over ++ cons_option top []) (x ∷ more),
        sum_by-append g over (cons_option top []),
        sum_by-cons g x more,
      )

  pub sum-changed : (x y : List MarkKind) → sum_by g (ended ++ (over ++ (y ∷ more))) + g x ≡ sum_by g (ended ++ (over ++ (x ∷ more))) + g y
  sum-changed x y =
      omega (
        arith,
        sum_by-append g ended (over ++ (x ∷ more)),
        sum_by-append g over (x ∷ more),
        sum_by-cons g x more,
        sum_by-append g ended (over ++ (y ∷ more)),
        sum_by-append g over (y ∷ more),
        sum_by-cons g y more,
      )

  pub sum-closed : (x y : List MarkKind) → sum_by g ((ended ++ y ∷ []) ++ (over ++ more)) + g x ≡ sum_by g (ended ++ (over ++ (x ∷ more))) + g y
  sum-closed x y =
      omega (
        arith,
        sum_by-append g ended (over ++ (x ∷ more)),
        sum_by-append g over (x ∷ more),
        sum_by-cons g x more,
        sum_by-append g (ended ++ y ∷ []) (over ++ more),
        sum_by-append g over more,
        sum_by_push g ended y,
      )

-- ---- an activation with one mark more

not_of : (body : ℕ) (m : MarkKind) → is_enter m ≡ false → is_of body (m ∷ []) ≡ false
not_of body (Enter label) h = absurd (let bad : true ≡ false = h in cc)
not_of body _ h = refl

pub is_of_more : (body : ℕ) (own : List MarkKind) (m : MarkKind) → is_enter m ≡ false → is_of body (own ++ m ∷ []) ≡ is_of body own
is_of_more body [] m h = not_of body m h
is_of_more body (Enter label ∷ own) m h = refl
is_of_more body (_ ∷ own) m h = refl

pub saves_more : (own : List MarkKind) (m : MarkKind) → saves_of (own ++ m ∷ []) ≡ saves_of own + cond (is_save m) 1 0
saves_more own m = sum_by_push (λ x. cond (is_save x) 1 0) own m

pub calls_more : (own : List MarkKind) (m : MarkKind) → is_call m ≡ false → list_any is_call (own ++ m ∷ []) ≡ list_any is_call own
calls_more [] m h = ap (λ q. q || false) h
calls_more (k ∷ own) m h = ap (λ q. is_call k || q) (calls_more own m h)

-- ---- rows

pub nothing_more : (q : Bool) (n : ℕ) → n + cond q 0 0 ≡ n
nothing_more true n = add-zero n
nothing_more false n = add-zero n

pub row_entered : (ended over more : List (List MarkKind)) (top : Option (List MarkKind)) (label body : ℕ)
    → row_over ended ((over ++ cons_option top []) ++ ((Enter label ∷ []) ∷ more)) body
    ≡ (let r = row_over ended (over ++ cons_option top more) body in row_from (r.activations + cond (nat_eq label body) 1 0) r.leaves r.saves r.leaf_saves)
row_entered ended over more top label body =
    let xs = ended ++ ((over ++ cons_option top []) ++ ((Enter label ∷ []) ∷ more)) in
    let ys = ended ++ (over ++ cons_option top more) in
    let r = row_over ended (over ++ cons_option top more) body in
    same_row (length (filter (is_of body) xs)) (r.activations + cond (nat_eq label body) 1 0) r.leaves r.leaves (sum_by saves_of (filter (is_of body) xs)) r.saves r.leaf_saves r.leaf_saves
    (length-filter (is_of body) xs ∙ sum-entered (one body) ended over more top (Enter label ∷ []) ∙ ap (λ n. n + cond (nat_eq label body) 1 0) (sym (length-filter (is_of body) ys)))
    refl
    (sum-filter saves_of (is_of body) xs ∙ sum-entered (saved body) ended over more top (Enter label ∷ []) ∙ nothing_more (nat_eq label body) (sum_by (saved body) ys)
    ∙ sym (sum-filter saves_of (is_of body) ys))
    refl

-- a sum is the same where what is added and what is taken are
cancel : (a b x y : ℕ) → a + x ≡ b + y → y ≡ x → a ≡ b
cancel a b x y e h = omega arith

saved_apart : (q : Bool) (n k : ℕ) → cond q (n + k) 0 ≡ cond q n 0 + cond q k 0
saved_apart true n k = refl
saved_apart false n k = refl

pub row_changed : (ended over more : List (List MarkKind)) (own : List MarkKind) (m : MarkKind) (body : ℕ) → is_enter m ≡ false
    → row_over ended (over ++ ((own ++ m ∷ []) ∷ more)) body
    ≡ (let r = row_over ended (over ++ (own ∷ more)) body in row_from r.activations r.leaves (r.saves + cond (is_of body own) (cond (is_save m) 1 0) 0) r.leaf_saves)
row_changed ended over more own m body h =
    let own' = own ++ m ∷ [] in
    let xs = ended ++ (over ++ (own' ∷ more)) in
    let ys = ended ++ (over ++ (own ∷ more)) in
    let r = row_over ended (over ++ (own ∷ more)) body in
    let added = cond (is_of body own) (cond (is_save m) 1 0) 0 in
    let same = is_of_more body own m h in
    let ones : one body own' ≡ one body own = ap (λ q. cond q 1 0) same in
    let saves : saved body own' ≡ saved body own + added = ap (λ q. cond q (saves_of own') 0) same ∙ ap (λ n. cond (is_of body own) n 0) (saves_more own m) ∙ saved_apart (is_of body own) (saves_of own) (cond (is_save m) 1 0) in
    let moved : sum_by (saved body) xs ≡ sum_by (saved body) ys + added = omega (arith, saves, sum-changed (saved body) ended over more own own') in
    same_row (length (filter (is_of body) xs)) r.activations r.leaves r.leaves (sum_by saves_of (filter (is_of body) xs)) (r.saves + added) r.leaf_saves r.leaf_saves
    (length-filter (is_of body) xs ∙ cancel (sum_by (one body) xs) (sum_by (one body) ys) (one body own) (one body own') (sum-changed (one body) ended over more own own') ones
    ∙ sym (length-filter (is_of body) ys))
    refl
    (sum-filter saves_of (is_of body) xs ∙ moved ∙ ap (λ n. n + added) (sym (sum-filter saves_of (is_of body) ys)))
    refl

pub row_closed : (ended over more : List (List MarkKind)) (own : List MarkKind) (m : MarkKind) (body : ℕ) → is_enter m ≡ false → is_call m ≡ false → is_save m ≡ false
    → row_over (ended ++ (own ++ m ∷ []) ∷ []) (over ++ more) body
    ≡ (let r = row_over ended (over ++ (own ∷ more)) body in row_from r.activations (r.leaves + leaf body own) r.saves (r.leaf_saves + leaf_saved body own))
row_closed ended over more own m body enter call save =
    let own' = own ++ m ∷ [] in
    let now = ended ++ own' ∷ [] in
    let xs = now ++ (over ++ more) in
    let ys = ended ++ (over ++ (own ∷ more)) in
    let r = row_over ended (over ++ (own ∷ more)) body in
    let same = is_of_more body own m enter in
    let quiet : has_no_call own' ≡ has_no_call own = ap not (calls_more own m call) in
    let saves : saves_of own' ≡ saves_of own = saves_more own m ∙ ap (λ q. saves_of own + cond q 1 0) save ∙ add-zero (saves_of own) in
    let ones : one body own' ≡ one body own = ap (λ q. cond q 1 0) same in
    let all_saves : saved body own' ≡ saved body own = ap (λ q. cond q (saves_of own') 0) same ∙ ap (λ n. cond (is_of body own) n 0) saves in
    let leaves : leaf body own' ≡ leaf body own = ap (λ q. cond q (cond (has_no_call own') 1 0) 0) same ∙ ap (λ q. cond (is_of body own) (cond q 1 0) 0) quiet in
    let leaf_saves : leaf_saved body own' ≡ leaf_saved body own = ap (λ q. cond q (cond (has_no_call own') (saves_of own') 0) 0) same ∙ ap (λ q. cond (is_of body own) (cond q (saves_of own') 0) 0) quiet
    ∙ ap (λ n. cond (is_of body own) (cond (has_no_call own) n 0) 0) saves in
    same_row (length (filter (is_of body) xs)) r.activations (length (filter has_no_call (filter (is_of body) now))) (r.leaves + leaf body own) (sum_by saves_of (filter (is_of body) xs)) r.saves
    (sum_by saves_of (filter has_no_call (filter (is_of body) now))) (r.leaf_saves + leaf_saved body own)
    (length-filter (is_of body) xs ∙ cancel (sum_by (one body) xs) (sum_by (one body) ys) (one body own) (one body own') (sum-closed (one body) ended over more own own') ones
    ∙ sym (length-filter (is_of body) ys))
    (leaves-sum body now ∙ sum_by_push (leaf body) ended own' ∙ ap (λ n. sum_by (leaf body) ended + n) leaves ∙ ap (λ n. n + leaf body own) (sym (leaves-sum body ended)))
    (sum-filter saves_of (is_of body) xs ∙ cancel (sum_by (saved body) xs) (sum_by (saved body) ys) (saved body own) (saved body own') (sum-closed (saved body) ended over more own own') all_saves
    ∙ sym (sum-filter saves_of (is_of body) ys))
    (leaf_saves-sum body now ∙ sum_by_push (leaf_saved body) ended own' ∙ ap (λ n. sum_by (leaf_saved body) ended + n) leaf_saves ∙ ap (λ n. n + leaf_saved body own) (sym (leaf_saves-sum body ended)))

-- ---- no number is larger than there are marks

cond_le : (q : Bool) (n k : ℕ) → n ≤ k → cond q n 0 ≤ k
cond_le true n k h = h
cond_le false n k h = omega arith

one_le : (body : ℕ) (own : List MarkKind) → one body own ≤ length own
one_le body [] = omega arith
one_le body (k ∷ own) = cond_le (is_of body (k ∷ own)) 1 (length (k ∷ own)) (omega arith)

saves_le : (own : List MarkKind) → saves_of own ≤ length own
saves_le own = count_by-le-length is_save own

leaf_le : (body : ℕ) (own : List MarkKind) → leaf body own ≤ length own
leaf_le body [] = omega arith
leaf_le body (k ∷ own) = cond_le (is_of body (k ∷ own)) (cond (has_no_call (k ∷ own)) 1 0) (length (k ∷ own)) (cond_le (has_no_call (k ∷ own)) 1 (length (k ∷ own)) (omega arith))

leaf_saved_le : (body : ℕ) (own : List MarkKind) → leaf_saved body own ≤ length own
leaf_saved_le body own = cond_le (is_of body own) (cond (has_no_call own) (saves_of own) 0) (length own) (cond_le (has_no_call own) (saves_of own) (length own) (saves_le own))

pub activations-le : (ended others : List (List MarkKind)) (body : ℕ) → (row_over ended others body).activations ≤ marks_in (ended ++ others)
activations-le ended others body =
    omega (arith, length-filter (is_of body) (ended ++ others), sum_by-le-sum_by (one body) length (ended ++ others) (one_le body))

pub saves-le : (ended others : List (List MarkKind)) (body : ℕ) → (row_over ended others body).saves ≤ marks_in (ended ++ others)
saves-le ended others body =
    omega (arith, sum-filter saves_of (is_of body) (ended ++ others), sum_by-le-sum_by (saved body) length (ended ++ others) (λ own. cond_le (is_of body own) (saves_of own) (length own) (saves_le own)))

pub leaves-le : (ended others : List (List MarkKind)) (body : ℕ) → (row_over ended others body).leaves ≤ marks_in (ended ++ others)
leaves-le ended others body = omega (arith, leaves-sum body ended, sum_by-le-sum_by (leaf body) length ended (leaf_le body), sum_by-append length ended others)

-- with the saves of an activation that has not ended
pub leaf_saves-le : (ended over more : List (List MarkKind)) (own : List MarkKind) (body : ℕ) → (row_over ended (over ++ (own ∷ more)) body).leaf_saves + saves_of own ≤ marks_in (ended ++ (over ++ (own ∷ more)))
leaf_saves-le ended over more own body =
    omega (
      arith,
      leaf_saves-sum body ended,
      sum_by-le-sum_by (leaf_saved body) length ended (leaf_saved_le body),
      saves_le own,
      sum_by-append length ended (over ++ (own ∷ more)),
      sum_by-append length over (own ∷ more),
      sum_by-cons length own more,
    )

-- the activation that is open has saves, which are few
pub open_saves-le : (ended over more : List (List MarkKind)) (own : List MarkKind) → saves_of own ≤ marks_in (ended ++ (over ++ (own ∷ more)))
open_saves-le ended over more own =
    omega (arith, saves_le own, sum_by-append length ended (over ++ (own ∷ more)), sum_by-append length over (own ∷ more), sum_by-cons length own more)
