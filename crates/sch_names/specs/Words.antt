-- The keywords (R5RS 4, 5.2 and 7.1.1).
use Rattle.std.specs.Prelude.{ℕ, cond, List, [], ◌∷◌, Option, Some, None, codes}
use Rattle.std.specs.Borrow.{Bor}
use Rattle.std.specs.Str.{bytes_eq}
use Rattle.sch_names.specs.declared.keyword.Keyword.{Keyword}
use Rattle.sch_names.specs.declared.keyword.Keyword.TheVariants.{Quote, Lambda, If, Set, Cond, Case, And, Or, Let, LetStar, Letrec, Begin, Do, Define, Else, Arrow, LeftOut}

-- a keyword with its name
pub record NamedKeyword : Type 0 where
  pub name : List ℕ
  pub keyword : Keyword

abbrev pub named : (name : List ℕ) → Keyword → NamedKeyword
named name keyword = record { name = name; keyword = keyword }

-- one of the code's
abbrev pub named_of : Bor (List ℕ) × Keyword → NamedKeyword
named_of w = named w.0.now w.1

-- all of them, with those of R5RS that this language leaves out
abbrev pub keywords : List NamedKeyword
keywords =
    named (codes "quote") Quote ∷ (named (codes "lambda") Lambda ∷ (named (codes "if") If ∷ (named (codes "set!") Set
    ∷ (named (codes "cond") Cond ∷ (named (codes "case") Case ∷ (named (codes "and") And ∷ (named (codes "or") Or
    ∷ (named (codes "let") Let ∷ (named (codes "let*") LetStar ∷ (named (codes "letrec") Letrec ∷ (named (codes "begin") Begin
    ∷ (named (codes "do") Do ∷ (named (codes "define") Define ∷ (named (codes "else") Else ∷ (named (codes "=>") Arrow
    ∷ (named (codes "quasiquote") LeftOut ∷ (named (codes "unquote") LeftOut ∷ (named (codes "unquote-splicing") LeftOut
    ∷ (named (codes "delay") LeftOut ∷ (named (codes "define-syntax") LeftOut ∷ (named (codes "let-syntax") LeftOut
    ∷ (named (codes "letrec-syntax") LeftOut ∷ (named (codes "syntax-rules") LeftOut ∷ [])))))))))))))))))))))))

-- the keyword of this name, among some
abbrev pub keyword_among : List ℕ → List NamedKeyword → Option Keyword
keyword_among x [] = None
keyword_among x (w ∷ words) = cond (bytes_eq x w.name) (Some w.keyword) (keyword_among x words)

-- the keyword that a name is
unfoldable pub keyword_of : List ℕ → Option Keyword
keyword_of x = keyword_among x keywords
