-- Tasks that come to others.
use Rattle.std.proofs.Common.{◌≡◌, ◌+◌, ◌*◌, ◌<◌, ◌≤◌, ◌++◌, ℕ, List, [], ◌∷◌, length, refl, sym, ap, subst, ◌∙◌, arith}
use Rattle.std.specs.Prelude.{codes}
use Rattle.std.specs.Borrow.{Bor}
use Rattle.std.proofs.lemmas.List.{append-nil, append_assoc}
use Rattle.sch_read.specs.Grammar.{Data, list, dotted, vector}
use Rattle.sch_read.specs.Grammar as grammar
use Rattle.sch_print.specs.Printed.{datum_text, items_text, more_text}
use Rattle.sch_print.specs.FixnumData.{HasFixnums, HaveFixnums}
use Rattle.sch_read.specs.Valid.{weight, weights}
use Rattle.sch_read.specs.Views.{tree_of, data_of}
use Rattle.sch_print.specs.Tasks.{task_text, tasks_text, TaskHasFixnums, TasksHaveFixnums, task_load, tasks_load, Came}
use Rattle.sch_read.specs.declared.datum.Datum.{Datum}
use Rattle.sch_print.specs.declared.printer.Task.{Task}
use Rattle.sch_print.specs.declared.printer.Task.TheVariants.{One, More, Dotted, Close}
use Rattle.sch_read.proofs.ReleaseEffort.{some_weight}

-- ## One task behind others

pub text_push : (ts : List Task) (t : Task) → tasks_text (ts ++ t ∷ []) ≡ task_text t ++ tasks_text ts
text_push [] t = sym (append-nil (task_text t))
text_push (x ∷ ts) t = ap (λ v. v ++ task_text x) (text_push ts t) ∙ append_assoc (task_text t) (tasks_text ts) (task_text x)

pub fixnums_push : (ts : List Task) (t : Task) → TasksHaveFixnums (ts ++ t ∷ []) → TaskHasFixnums t × TasksHaveFixnums ts
fixnums_push [] t h = (h.0, tt)
fixnums_push (x ∷ ts) t h = let rest = fixnums_push ts t h.1 in (rest.0, (h.0, rest.1))

fixnums_behind : (ts : List Task) (t : Task) → TasksHaveFixnums ts → TaskHasFixnums t → TasksHaveFixnums (ts ++ t ∷ [])
fixnums_behind [] t all one = (one, tt)
fixnums_behind (x ∷ ts) t all one = (all.0, fixnums_behind ts t all.1 one)

pub load_push : (ts : List Task) (t : Task) → tasks_load (ts ++ t ∷ []) ≡ task_load t + tasks_load ts
load_push [] t = omega arith
load_push (x ∷ ts) t = let e = load_push ts t in omega (arith, e)

-- ## Several

pub none_came : (ts : List Task) → Came [] (Unit {0}) 0 ts ts
none_came ts = record { texts = refl; meets = λ h. (tt, h); loads = omega arith }

came_push : (ts : List Task) (t : Task) (us : List Task) → us ≡ ts ++ t ∷ [] → Came (task_text t) (TaskHasFixnums t) (task_load t) ts us
came_push ts t us e = record {
  texts = ap tasks_text e ∙ text_push ts t;
  meets = λ h. fixnums_push ts t (subst TasksHaveFixnums e h);
  loads = let f : tasks_load us ≡ task_load t + tasks_load ts = ap tasks_load e ∙ load_push ts t in omega (arith, f);
}

came_both : {v w : List ℕ} {P Q : Type 0} {m n : ℕ} {ts us vs : List Task} → Came v P m ts us → Came w Q n us vs → Came (w ++ v) (Q × P) (n + m) ts vs
came_both {v = v} {w = w} {ts = ts} g h = record {
  texts = h.texts ∙ ap (λ x. w ++ x) g.texts ∙ sym (append_assoc w v (tasks_text ts));
  meets = λ f. let q = h.meets f in let p = g.meets q.1 in ((q.0, p.0), p.1);
  loads = omega (arith, g.loads, h.loads);
}

-- the first of these items, and the others behind it
pub items_came : (first : Bor Datum) (rest : Bor (List Datum)) (ts us vs : List Task) → us ≡ ts ++ More rest ∷ [] → vs ≡ us ++ One first ∷ []
    → Came (items_text (data_of (first.now ∷ rest.now))) (HaveFixnums (data_of (first.now ∷ rest.now))) (6 * weights (data_of (first.now ∷ rest.now))) ts vs
items_came first rest ts us vs e f =
    let both = came_both (came_push ts (More rest) us e) (came_push us (One first) vs f) in
    let some : 1 ≤ weight (tree_of first.now) = some_weight (tree_of first.now) in
    record { texts = both.texts; meets = both.meets; loads = omega (arith, both.loads, some) }

-- ## A datum that was begun

pub record Began (d : grammar.Datum) (out : List ℕ) (ts : List Task) (out' : List ℕ) (vs : List Task) : Type 0 where
  pub text : out' ++ tasks_text vs ≡ out ++ (datum_text d ++ tasks_text ts)
  pub fixnums : TasksHaveFixnums vs → HasFixnums d × TasksHaveFixnums ts
  pub less : tasks_load vs + 2 ≤ 6 * weight d + tasks_load ts

-- an opening, and tasks for what follows it
opened : (opening text out out' : List ℕ) (ts us : List Task) → out' ≡ out ++ opening → tasks_text us ≡ text ++ tasks_text ts → out' ++ tasks_text us ≡ out ++ ((opening ++ text) ++ tasks_text ts)
opened opening text out out' ts us e f =
    ap (λ v. v ++ tasks_text us) e ∙ (append_assoc out opening (tasks_text us)
    ∙ ap (λ v. out ++ v) (ap (λ v. opening ++ v) f ∙ sym (append_assoc opening text (tasks_text ts))))

pub list_began : (d : grammar.Datum) (at : ℕ) (xs : Data) (out out' : List ℕ) (ts us vs : List Task) → d ≡ list at xs → out' ≡ out ++ codes "(" → us ≡ ts ++ Close ∷ []
    → Came (items_text xs) (HaveFixnums xs) (6 * weights xs) us vs → Began d out ts out' vs
list_began d at xs out out' ts us vs is e f g =
    let both = came_both (came_push ts Close us f) g in
    subst (λ x. Began x out ts out' vs) (sym is) (record {
      text = opened (codes "(") (items_text xs ++ codes ")") out out' ts vs e both.texts;
      fixnums = λ h. let p = both.meets h in (p.0.0, p.1);
      less = omega (arith, both.loads);
    })

pub vector_began : (d : grammar.Datum) (at : ℕ) (xs : Data) (out out' : List ℕ) (ts us vs : List Task) → d ≡ vector at xs → out' ≡ out ++ codes "#(" → us ≡ ts ++ Close ∷ []
    → Came (items_text xs) (HaveFixnums xs) (6 * weights xs) us vs → Began d out ts out' vs
vector_began d at xs out out' ts us vs is e f g =
    let both = came_both (came_push ts Close us f) g in
    subst (λ x. Began x out ts out' vs) (sym is) (record {
      text = opened (codes "#(") (items_text xs ++ codes ")") out out' ts vs e both.texts;
      fixnums = λ h. let p = both.meets h in (p.0.0, p.1);
      less = omega (arith, both.loads);
    })

dotted_text : (at : ℕ) (xs : Data) (last : grammar.Datum) → datum_text (dotted at xs last) ≡ codes "(" ++ (items_text xs ++ ((codes " . " ++ datum_text last) ++ codes ")"))
dotted_text at xs last =
    let front : List ℕ = codes "(" ++ items_text xs in
    ap (λ v. v ++ codes ")") (append_assoc front (codes " . ") (datum_text last)) ∙ (append_assoc front (codes " . " ++ datum_text last) (codes ")")
    ∙ append_assoc (codes "(") (items_text xs) ((codes " . " ++ datum_text last) ++ codes ")"))

pub dotted_began : (d : grammar.Datum) (at : ℕ) (xs : Data) (last : Bor Datum) (out out' : List ℕ) (ts us vs ws : List Task) → d ≡ dotted at xs (tree_of last.now) → out' ≡ out ++ codes "("
    → us ≡ ts ++ Close ∷ [] → vs ≡ us ++ Dotted last ∷ [] → Came (items_text xs) (HaveFixnums xs) (6 * weights xs) vs ws → Began d out ts out' ws
dotted_began d at xs last out out' ts us vs ws is e f g h =
    let behind = came_both (came_push ts Close us f) (came_push us (Dotted last) vs g) in
    let all = came_both behind h in
    subst (λ x. Began x out ts out' ws) (sym is) (record {
      text = opened (codes "(") (items_text xs ++ ((codes " . " ++ datum_text (tree_of last.now)) ++ codes ")")) out out' ts ws e all.texts
          ∙ ap (λ v. out ++ (v ++ tasks_text ts)) (sym (dotted_text at xs (tree_of last.now)));
      fixnums = λ k. let p = all.meets k in ((p.0.0, p.0.1.0), p.1);
      less = omega (arith, all.loads);
    })

-- ## Other steps

pub more_opened : (items : List Datum) (out out' : List ℕ) (ts us : List Task) → 0 < length items → out' ≡ out ++ codes " " → tasks_text us ≡ items_text (data_of items) ++ tasks_text ts
    → out' ++ tasks_text us ≡ out ++ (more_text (data_of items) ++ tasks_text ts)
more_opened [] out out' ts us some e f = absurd (omega (arith, some))
more_opened (d ∷ ds) out out' ts us some e f = opened (codes " ") (items_text (data_of (d ∷ ds))) out out' ts us e f

pub record Wrote (task : Task) (out : List ℕ) (ts : List Task) (out' : List ℕ) (us : List Task) : Type 0 where
  pub text : out' ++ tasks_text us ≡ out ++ (task_text task ++ tasks_text ts)
  pub fixnums : TasksHaveFixnums us → TaskHasFixnums task × TasksHaveFixnums ts
  pub less : tasks_load us < task_load task + tasks_load ts

pub dot_wrote : (task : Task) (d : Bor Datum) (out out' : List ℕ) (ts us : List Task) → task ≡ Dotted d → out' ≡ out ++ codes " . " → us ≡ ts ++ One d ∷ [] → Wrote task out ts out' us
dot_wrote task d out out' ts us is e f =
    let one = came_push ts (One d) us f in
    let some : 1 ≤ weight (tree_of d.now) = some_weight (tree_of d.now) in
    subst (λ t. Wrote t out ts out' us) (sym is) (record {
      text = opened (codes " . ") (datum_text (tree_of d.now)) out out' ts us e one.texts;
      fixnums = one.meets;
      less = omega (arith, one.loads, some);
    })

-- a task is taken and done
pub text_after : (whole out out' : List ℕ) (ts left after : List Task) (task : Task) → ts ≡ left ++ task ∷ [] → out ++ tasks_text ts ≡ whole
    → out' ++ tasks_text after ≡ out ++ (task_text task ++ tasks_text left) → out' ++ tasks_text after ≡ whole
text_after whole out out' ts left after task e before h = h ∙ (ap (λ v. out ++ v) (sym (ap tasks_text e ∙ text_push left task)) ∙ before)

pub fixnums_after : (Met : Type 0) (ts left after : List Task) (task : Task) → ts ≡ left ++ task ∷ [] → (TasksHaveFixnums ts → Met)
    → (TasksHaveFixnums after → TaskHasFixnums task × TasksHaveFixnums left) → TasksHaveFixnums after → Met
fixnums_after Met ts left after task e before h f =
    let met = h f in
    before (subst TasksHaveFixnums (sym e) (fixnums_behind left task met.1 met.0))

pub less_after : (ts left after : List Task) (task : Task) → ts ≡ left ++ task ∷ [] → tasks_load after < task_load task + tasks_load left → tasks_load after < tasks_load ts
less_after ts left after task e h = let f : tasks_load ts ≡ task_load task + tasks_load left = ap tasks_load e ∙ load_push left task in omega (arith, h, f)
