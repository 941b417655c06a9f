-- What each kind of expression is as a plain tree.
use Rattle.std.proofs.Common.{◌≡◌, ℕ, List, ap}
use Rattle.std.specs.declared.alloc.Global.{Global}
use Rattle.std.specs.declared.boxed.Box.{Box}
use Rattle.sch_lang.specs.declared.tree.Exp.{Exp}
use Rattle.sch_lang.specs.declared.tree.Exp.TheVariants.{SetLocal, If, Let, Fix, Rec, Call}
use Rattle.sch_lang.specs.declared.tree.Lambda.{Lambda}
use Rattle.sch_lang.specs.Tree.{set_local, branch, bind, fix, letrec, call}
use Rattle.sch_lang.specs.View.{expression, expressions_of, lambdas_of}

pub set_local_view : {e : Exp} (k : ℕ) (b : Box Exp Global) {x : Exp} → e ≡ SetLocal k b → x ≡ b.value → expression e ≡ set_local k (expression x)
set_local_view k b h p = rw p (ap expression h)

pub branch_view : {e : Exp} (a b c : Box Exp Global) {x y z : Exp} → e ≡ If a b c → x ≡ a.value → y ≡ b.value → z ≡ c.value →
    expression e ≡ branch (expression x) (expression y) (expression z)
branch_view a b c h p q r = rw (p, q, r) (ap expression h)

pub bind_view : {e : Exp} (site : ℕ) (es : List Exp) (b : Box Exp Global) {x : Exp} → e ≡ Let site es b → x ≡ b.value → expression e ≡ bind site (expressions_of es) (expression x)
bind_view site es b h p = rw p (ap expression h)

pub fix_view : {e : Exp} (ls : List Lambda) (b : Box Exp Global) {x : Exp} → e ≡ Fix ls b → x ≡ b.value → expression e ≡ fix (lambdas_of ls) (expression x)
fix_view ls b h p = rw p (ap expression h)

pub letrec_view : {e : Exp} (site : ℕ) (es : List Exp) (b : Box Exp Global) {x : Exp} → e ≡ Rec site es b → x ≡ b.value → expression e ≡ letrec site (expressions_of es) (expression x)
letrec_view site es b h p = rw p (ap expression h)

pub call_view : {e : Exp} (site : ℕ) (f : Box Exp Global) (es : List Exp) {x : Exp} → e ≡ Call site f es → x ≡ f.value → expression e ≡ call site (expression x) (expressions_of es)
call_view site f es h p = rw p (ap expression h)
