-- A library has no more procedures than its text has bytes.
use Rattle.std.proofs.Common.{◌≡◌, ℕ, suc, ◌+◌, ◌≤◌, Bool, true, false, List, [], ◌∷◌, ◌++◌, length, ap, ◌∙◌, arith, length-append}
use Rattle.std.specs.Prelude.{◌==◌, ◌||◌, if◌then◌else◌}
use Rattle.sch_link_program.proofs.FewDefinitions.{kept_shorter}
use Rattle.sch_lang.specs.Tree as lang
use Rattle.sch_lang.specs.Tree.{count_lambdas}
use Rattle.sch_link_tables.specs.Named.{firsts, globals_in_each, symbols_in_each}
use Rattle.sch_link_tables.specs.Programs.{Definition, globals_of_each, held, kept, named, procedures, program_with, symbols_of_each}
use Rattle.sch_read.specs.Grammar.{Token, Open, Close, Dot, parenthesis, quote_mark, Datum, Data, none, cons, ReadsOne, ReadsMany, plain, listed, with_dot, elements, quotes, end, more}
use Rattle.sch_read.specs.Lexer.Cut.{Cuts, nothing, lexeme}
use Rattle.sch_read.specs.Lexer.Letters.{is_white}
use Rattle.sch_read.specs.Lexer.Token.{string_at, token_at, word_at}
use Rattle.sch_read.specs.Text.{max_nesting, Spells}
use Rattle.sch_sketch.specs.Draft.{Drafts}
use Rattle.sch_toplevel.specs.Forms.{own_names}
use Rattle.sch_toplevel.specs.Items.{ItemsExpand, item_places, names_by}
use Rattle.sch_driver.specs.Causes.{Means}

-- ## From bytes to data

few_if : {A : Type 0} (t : Bool) (a b : List A) (n : ℕ) → length a ≤ n → length b ≤ n → length (if t then a else b) ≤ n
few_if true a b n h k = h
few_if false a b n h k = k

-- a lexeme is one token at most
token_within : (at : ℕ) (first : List ℕ) → length (token_at at first) ≤ length first
token_within at [] = omega arith
token_within at (b ∷ bs) =
    let n = length (b ∷ bs) in
    few_if (is_white b || b == 59) [] _ n (omega arith)
    (few_if (b == 40) (Open at parenthesis ∷ []) _ n (omega arith)
    (few_if (b == 41) (Close at ∷ []) _ n (omega arith)
    (few_if (b == 39) (Open at quote_mark ∷ []) _ n (omega arith)
    (few_if (b == 34) (string_at at bs ∷ []) (word_at at (b ∷ bs) ∷ []) n (omega arith) (omega arith)))))

tokens_within : (at : ℕ) (bytes : List ℕ) (ts : List Token) → Cuts at bytes ts → length ts ≤ length bytes
tokens_within at bytes ts (nothing _) = omega arith
tokens_within at bytes ts (lexeme _ _ first rest us _ e h long c k) =
    let t = token_within at first in
    let r = tokens_within (at + length first) rest us c in
    let a = ap length k in
    let m = length-append (token_at at first) us in
    let b = ap length e in
    let n = length-append first rest in
    omega (arith, t, r, a, m, b, n)

mutual
  -- a datum is a token at least
  one_within : (n : ℕ) (ts : List Token) (d : Datum) (rest : List Token) → ReadsOne n ts d rest → suc (length rest) ≤ length ts
  one_within n ts d rest (plain _ at a _) = omega arith
  one_within n ts d rest (listed m at e us xs _ r) = let h = many_within m us xs (Close e ∷ rest) r in omega (arith, h)
  one_within n ts d rest (with_dot m at dot e us vs x xs last _ r q) =
      let h = many_within m us (cons x xs) (Dot dot ∷ vs) r in
      let k = one_within m vs last (Close e ∷ rest) q in omega (arith, h, k)
  one_within n ts d rest (elements m at e us xs _ r) = let h = many_within m us xs (Close e ∷ rest) r in omega (arith, h)
  one_within n ts d rest (quotes m at us x _ r) = let h = one_within m us x rest r in omega (arith, h)

  many_within : (n : ℕ) (ts : List Token) (xs : Data) (rest : List Token) → ReadsMany n ts xs rest → length (item_places xs) + length rest ≤ length ts
  many_within n ts xs rest (end _ _) = omega arith
  many_within n ts xs rest (more _ _ us y ys _ r q) =
      let h = one_within n ts y us r in
      let k = many_within n us ys rest q in omega (arith, h, k)

items_within : (bytes : List ℕ) (xs : Data) → Spells bytes xs → length (item_places xs) ≤ length bytes
items_within bytes xs (ts, cut, reads) = let h = many_within max_nesting ts xs [] reads in let k = tokens_within 0 bytes ts cut in omega (arith, h, k)

-- ## From data to procedures

definitions_counted : (before : List (List ℕ)) (items : Data) (ds : List Definition) → ItemsExpand before items ds → length ds ≡ length (item_places items)
definitions_counted before none [] h = omega arith
definitions_counted before none (x ∷ xs) h = absurd h
definitions_counted before (cons d ds) [] h = absurd h
definitions_counted before (cons d ds) (x ∷ xs) h = ap suc (definitions_counted (names_by before d) ds xs h.2)

procedures_counted : (globals symbols : List (List ℕ)) (ds : List Definition) (s l : ℕ) → count_lambdas (procedures globals symbols ds s l) ≡ length ds
procedures_counted globals symbols [] s l = omega arith
procedures_counted globals symbols (d ∷ ds) s l = ap suc (procedures_counted globals symbols ds _ _)

in_program : (ds : List Definition) (own initial : List (List ℕ)) (forms : Drafts) → count_lambdas (program_with ds own initial forms).library ≡ length ds
in_program ds own initial forms =
    let globals = firsts [] (globals_of_each ds ++ globals_in_each own forms) in
    let symbols = firsts [] (symbols_of_each ds ++ symbols_in_each forms) in
    procedures_counted globals symbols ds 0 0

pub library_within : (library text : List ℕ) (p : lang.Source) → Means library text p → count_lambdas p.library ≤ length library
library_within library text p means =
    let defined = means.defined in
    let ds = means.definitions in
    let i = items_within library defined.items defined.spells in
    let n = definitions_counted [] defined.items ds defined.stands.expands in
    let program = means.program in
    let own = own_names means.items program.assigned in
    let names = named ds own program.drafts in
    let counted : count_lambdas p.library ≡ length (kept ds names) = ap (λ q. count_lambdas q.library) program.numbered ∙ in_program (kept ds names) own (held ds own) program.drafts in
    let k = kept_shorter ds names in
    omega (arith, i, n, counted, k)
