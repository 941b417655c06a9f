-- What each kind of draft stands for.
use Rattle.std.proofs.Common.{◌≡◌, ℕ, List, Bool, ap, sym, ◌∙◌}
use Rattle.std.specs.Prelude.{Option}
use Rattle.std.specs.Borrow.{Bor}
use Rattle.std.specs.declared.alloc.Global.{Global as Memory}
use Rattle.std.specs.declared.boxed.Box.{Box}
use Rattle.sch_word.specs.declared.primitive.Primitive.{Primitive}
use Rattle.sch_names.specs.ScopeView.{given_names}
use Rattle.sch_sketch.specs.declared.draft.Draft.{fold-roll-Draft}
use Rattle.sch_sketch.specs.declared.draft.Draft as code
use Rattle.sch_sketch.specs.declared.draft.Draft.TheOpen.{Draft-F}
use Rattle.sch_sketch.specs.declared.draft.Draft.TheVariants.{Constant, rolls-Constant, Symbol, rolls-Symbol, Literal, rolls-Literal, Local, rolls-Local, Global, rolls-Global, SetLocal, rolls-SetLocal, SetGlobal, rolls-SetGlobal, Define, rolls-Define, If, rolls-If, Seq, rolls-Seq, Let, rolls-Let, Letrec, rolls-Letrec, Lambda, rolls-Lambda, Call, rolls-Call, Prim, rolls-Prim}
use Rattle.sch_word.specs.declared.constant.Const.{Const}
use Rattle.sch_read.specs.declared.datum.Datum as code_datum
use Rattle.sch_read.specs.Views.{tree_of}
use Rattle.sch_sketch.specs.Draft as plain
use Rattle.sch_sketch.specs.DraftView.{draft_view, draft_of, drafts_of}

pub constant_view : {d : code.Draft} (k : Const) → d ≡ Constant k → draft_of d ≡ plain.constant k
constant_view k e = ap draft_of (e ∙ sym (rolls-Constant k)) ∙ fold-roll-Draft plain.Draft draft_view (Draft-F.Constant k)

pub symbol_view : {d : code.Draft} (x : Bor (List ℕ)) → d ≡ Symbol x → draft_of d ≡ plain.symbol x.now
symbol_view x e = ap draft_of (e ∙ sym (rolls-Symbol x)) ∙ fold-roll-Draft plain.Draft draft_view (Draft-F.Symbol x)

pub literal_view : {d : code.Draft} (x : Bor code_datum.Datum) → d ≡ Literal x → draft_of d ≡ plain.literal (tree_of x.now)
literal_view x e = ap draft_of (e ∙ sym (rolls-Literal x)) ∙ fold-roll-Draft plain.Draft draft_view (Draft-F.Literal x)

pub local_view : {d : code.Draft} (k : ℕ) → d ≡ Local k → draft_of d ≡ plain.local k
local_view k e = ap draft_of (e ∙ sym (rolls-Local k)) ∙ fold-roll-Draft plain.Draft draft_view (Draft-F.Local k)

pub global_view : {d : code.Draft} (x : Bor (List ℕ)) → d ≡ Global x → draft_of d ≡ plain.global x.now
global_view x e = ap draft_of (e ∙ sym (rolls-Global x)) ∙ fold-roll-Draft plain.Draft draft_view (Draft-F.Global x)

pub set_local_view : {d : code.Draft} (k : ℕ) (b : Box code.Draft Memory) {x : code.Draft} → d ≡ SetLocal k b → x ≡ b.value → draft_of d ≡ plain.set_local k (draft_of x)
set_local_view k b e q = rw q (ap draft_of (e ∙ sym (rolls-SetLocal k b)) ∙ fold-roll-Draft plain.Draft draft_view (Draft-F.SetLocal k b))

pub set_global_view : {d : code.Draft} (v : Bor (List ℕ)) (b : Box code.Draft Memory) {x : code.Draft} → d ≡ SetGlobal v b → x ≡ b.value → draft_of d ≡ plain.set_global v.now (draft_of x)
set_global_view v b e q = rw q (ap draft_of (e ∙ sym (rolls-SetGlobal v b)) ∙ fold-roll-Draft plain.Draft draft_view (Draft-F.SetGlobal v b))

pub define_view : {d : code.Draft} (v : Bor (List ℕ)) (b : Box code.Draft Memory) {x : code.Draft} → d ≡ Define v b → x ≡ b.value → draft_of d ≡ plain.define v.now (draft_of x)
define_view v b e q = rw q (ap draft_of (e ∙ sym (rolls-Define v b)) ∙ fold-roll-Draft plain.Draft draft_view (Draft-F.Define v b))

pub branch_view : {d : code.Draft} (a b c : Box code.Draft Memory) {x y z : code.Draft} → d ≡ If a b c → x ≡ a.value → y ≡ b.value → z ≡ c.value →
    draft_of d ≡ plain.branch (draft_of x) (draft_of y) (draft_of z)
branch_view a b c e p q r = rw (p, q, r) (ap draft_of (e ∙ sym (rolls-If a b c)) ∙ fold-roll-Draft plain.Draft draft_view (Draft-F.If a b c))

pub sequence_view : {d : code.Draft} (es : List code.Draft) {xs : List code.Draft} → d ≡ Seq es → xs ≡ es → draft_of d ≡ plain.sequence (drafts_of xs)
sequence_view es e q = rw q (ap draft_of (e ∙ sym (rolls-Seq es)) ∙ fold-roll-Draft plain.Draft draft_view (Draft-F.Seq es))

pub bind_view : {d : code.Draft} (vs : List (Option (Bor (List ℕ)))) (es : List code.Draft) (b : Box code.Draft Memory) {ws : List (Option (Bor (List ℕ)))} {xs : List code.Draft} {x : code.Draft} → d ≡ Let vs es b → ws ≡ vs → xs ≡ es → x ≡ b.value →
    draft_of d ≡ plain.bind (given_names ws) (drafts_of xs) (draft_of x)
bind_view vs es b e r p q = rw (r, p, q) (ap draft_of (e ∙ sym (rolls-Let vs es b)) ∙ fold-roll-Draft plain.Draft draft_view (Draft-F.Let vs es b))

pub letrec_view : {d : code.Draft} (vs : List (Option (Bor (List ℕ)))) (g : Bool) (es : List code.Draft) (b : Box code.Draft Memory) {ws : List (Option (Bor (List ℕ)))} {xs : List code.Draft} {x : code.Draft} → d ≡ Letrec vs g es b → ws ≡ vs → xs ≡ es → x ≡ b.value →
    draft_of d ≡ plain.letrec (given_names ws) g (drafts_of xs) (draft_of x)
letrec_view vs g es b e r p q = rw (r, p, q) (ap draft_of (e ∙ sym (rolls-Letrec vs g es b)) ∙ fold-roll-Draft plain.Draft draft_view (Draft-F.Letrec vs g es b))

pub lambda_view : {d : code.Draft} (n : ℕ) (r : Bool) (b : Box code.Draft Memory) {x : code.Draft} → d ≡ Lambda n r b → x ≡ b.value → draft_of d ≡ plain.lambda n r (draft_of x)
lambda_view n r b e q = rw q (ap draft_of (e ∙ sym (rolls-Lambda n r b)) ∙ fold-roll-Draft plain.Draft draft_view (Draft-F.Lambda n r b))

pub call_view : {d : code.Draft} (vs : List (Option (Bor (List ℕ)))) (f : Box code.Draft Memory) (es : List code.Draft) {ws : List (Option (Bor (List ℕ)))} {x : code.Draft} {xs : List code.Draft} → d ≡ Call vs f es → ws ≡ vs → x ≡ f.value → xs ≡ es →
    draft_of d ≡ plain.call (given_names ws) (draft_of x) (drafts_of xs)
call_view vs f es e r p q = rw (r, p, q) (ap draft_of (e ∙ sym (rolls-Call vs f es)) ∙ fold-roll-Draft plain.Draft draft_view (Draft-F.Call vs f es))

pub operation_view : {d : code.Draft} (p : Primitive) (es : List code.Draft) {xs : List code.Draft} → d ≡ Prim p es → xs ≡ es → draft_of d ≡ plain.operation p (drafts_of xs)
operation_view p es e q = rw q (ap draft_of (e ∙ sym (rolls-Prim p es)) ∙ fold-roll-Draft plain.Draft draft_view (Draft-F.Prim p es))
