-- Small programs: what is kept of a library, and which numbers are given.
use Rattle.std.proofs.Common.{◌≡◌, ℕ, ◌+◌, true, false, List, [], ◌∷◌, length, Some, None, refl, codes, arith}
use Rattle.sch_word.specs.declared.constant.Const.TheVariants.{Nil, Symbol, Unspecified}
use Rattle.sch_word.specs.values.Literals as words
use Rattle.sch_lang.specs.Tree as tree
use Rattle.sch_read.specs.Grammar.{atom, list, dotted, none, cons, symbol as symbol_atom}
use Rattle.sch_sketch.specs.Draft.{Draft, Drafts, constant, symbol, literal, local, global, set_local, define, branch, sequence, bind, letrec, lambda, call, no_drafts, and_draft}
use Rattle.sch_link_tables.specs.Named.{own_global, library_global}
use Rattle.sch_link_tables.specs.Numbered.{numbered}
use Rattle.sch_link_tables.specs.Room.{HasRoom}
use Rattle.sch_link_tables.specs.declared.tables.Output.{Output}
use Rattle.sch_link_tables.specs.Programs.{Definition, kept, seen, held, names_of_each, program_of}

-- three definitions, of which the second names the first, and the third is hidden
first : Definition
first = record { name = codes "f"; formals = 1; rest = false; body = local 0 }

second : Definition
second = record { name = codes "g"; formals = 1; rest = false; body = call [] (global (codes "f")) (and_draft (local 0) no_drafts) }

third : Definition
third = record { name = codes "%h"; formals = 0; rest = false; body = constant Nil }

abbrev library : List Definition
library = first ∷ second ∷ third ∷ []

-- what is named is kept, and so is what that names; nothing else is
second_keeps_first : names_of_each (kept library (library_global (codes "g") ∷ [])) ≡ codes "f" ∷ codes "g" ∷ []
unfolding first second third
second_keeps_first = refl

first_alone : names_of_each (kept library (library_global (codes "f") ∷ [])) ≡ codes "f" ∷ []
unfolding first second third
first_alone = refl

-- a global of the text with the spelling of the library's is another one
own_keeps_nothing : names_of_each (kept library (own_global (codes "g") ∷ [])) ≡ []
unfolding first second third
own_keeps_nothing = refl

hidden_is_not_seen : seen library ≡ codes "f" ∷ codes "g" ∷ []
unfolding first second third
hidden_is_not_seen = refl

-- a text's own name holds the library's only where the library shows it
held_is_seen : held library (codes "%h" ∷ codes "z" ∷ codes "f" ∷ []) ≡ codes "f" ∷ []
unfolding first second third
held_is_seen = refl

-- a definition that names itself alone is not kept, nor does an earlier one keep a later
not_kept_alone : kept (record { name = codes "r"; formals = 0; rest = false; body = call [] (global (codes "r")) no_drafts } ∷ []) [] ≡ []
not_kept_alone = refl

not_kept_by_earlier : names_of_each (kept (second ∷ first ∷ []) (library_global (codes "g") ∷ [])) ≡ codes "g" ∷ []
unfolding first second
not_kept_by_earlier = refl

-- `(define g 1) (f g)` sees the library's f; its g holds the library's at the start, so both are kept
abbrev forms : Drafts
forms =
    and_draft (define (codes "g") (constant Unspecified)) (and_draft (call [] (global (codes "f")) (and_draft (global (codes "g")) no_drafts)) no_drafts)

-- the library's f comes first, since its g names it; then the text's g, which starts as the library's
globals_in_order : (program_of library (codes "g" ∷ []) forms).statics.globals ≡ Some 0 ∷ Some 1 ∷ []
unfolding first second third
globals_in_order = refl

sites_in_order : (program_of library (codes "g" ∷ []) forms).sites ≡ 2 ∷ 2 ∷ []
unfolding first second third
sites_in_order = refl

-- the library's sites and globals are numbered before the text's
library_first : (program_of library (codes "g" ∷ []) forms).library ≡
    tree.and_lambda (codes "f") 1 false (tree.local 0)
    (tree.and_lambda (codes "g") 1 false (tree.call 0 (tree.global 0) (tree.and_expression (tree.local 0) tree.no_expressions)) tree.no_lambdas)
unfolding first second third
library_first = refl

forms_after : (program_of library (codes "g" ∷ []) forms).forms ≡
    tree.and_expression (tree.define 1 (tree.constant Unspecified))
    (tree.and_expression (tree.call 1 (tree.global 0) (tree.and_expression (tree.global 1) tree.no_expressions)) tree.no_expressions)
unfolding first second third
forms_after = refl

-- a global of the text alone holds nothing at the start
own_starts_unset : (program_of library (codes "z" ∷ []) (and_draft (define (codes "z") (constant Nil)) no_drafts)).statics.globals ≡ None ∷ []
unfolding first second third
own_starts_unset = refl

-- each quotation is an object of its own, and a symbol has one number
quotes : Drafts
quotes =
    and_draft (literal (list 0 (cons (atom 1 (symbol_atom (codes "a"))) none)))
    (and_draft (symbol (codes "b"))
    (and_draft (literal (dotted 9 (cons (atom 10 (symbol_atom (codes "b"))) none) (atom 12 (symbol_atom (codes "a"))))) no_drafts))

symbols_in_order : (program_of [] [] quotes).statics.symbols ≡ codes "a" ∷ codes "b" ∷ []
unfolding quotes
symbols_in_order = refl

two_literals : (program_of [] [] quotes).statics.literals ≡
    words.and_literal (words.list (words.and_literal (words.constant (Symbol 0)) words.no_literals) (words.constant Nil))
    (words.and_literal (words.list (words.and_literal (words.constant (Symbol 1)) words.no_literals) (words.constant (Symbol 0))) words.no_literals)
unfolding quotes
two_literals = refl

-- a group of procedures is no site; where a variable is assigned it is one, before the sites in it
abbrev one_procedure : Draft
one_procedure = lambda 0 false (call [] (local 0) no_drafts)

group : numbered [] [] [] None (letrec (Some (codes "p") ∷ []) true (and_draft one_procedure no_drafts) (local 0)) 5 0 ≡
    tree.fix (tree.and_lambda (codes "p") 0 false (tree.call 5 (tree.local 0) tree.no_expressions) tree.no_lambdas) (tree.local 0)
group = refl

assigned_group : numbered [] [] [] None (letrec (None ∷ []) true (and_draft one_procedure no_drafts) (set_local 0 (local 0))) 5 0 ≡
    tree.letrec 5 (tree.and_expression (tree.lambda (codes "lambda") 0 false (tree.call 6 (tree.local 0) tree.no_expressions)) tree.no_expressions) (tree.set_local 0 (tree.local 0))
assigned_group = refl

-- a procedure has the name of the variable whose init it is, and no other
not_its_init : numbered (codes "f" ∷ []) (own_global (codes "f") ∷ []) [] None (define (codes "f") (sequence (and_draft (lambda 0 false (constant Nil)) no_drafts))) 0 0 ≡
    tree.define 0 (tree.sequence (tree.and_expression (tree.lambda (codes "lambda") 0 false (tree.constant Nil)) tree.no_expressions))
not_its_init = refl

-- a call is numbered before its operator, that before the operands, and each part before the next
abbrev quoted : Draft
quoted = literal (list 0 none)

operator_first : numbered [] [] [] None (call [] (call [] (local 0) no_drafts) (and_draft quoted (and_draft (call [] quoted no_drafts) no_drafts))) 3 7 ≡
    tree.call 3 (tree.call 4 (tree.local 0) tree.no_expressions)
    (tree.and_expression (tree.literal 7) (tree.and_expression (tree.call 5 (tree.literal 8) tree.no_expressions) tree.no_expressions))
operator_first = refl

branches_in_order : numbered [] [] [] None (branch (call [] quoted no_drafts) (call [] quoted no_drafts) (call [] quoted no_drafts)) 3 7 ≡
    tree.branch (tree.call 3 (tree.literal 7) tree.no_expressions) (tree.call 4 (tree.literal 8) tree.no_expressions) (tree.call 5 (tree.literal 9) tree.no_expressions)
branches_in_order = refl

-- each init has the name of its own variable, and the body of a `let` has none
inits_have_names : numbered [] [] [] (Some (codes "v")) (bind (None ∷ Some (codes "p") ∷ []) (and_draft one_procedure (and_draft one_procedure no_drafts)) one_procedure) 3 7 ≡
    tree.bind 3
    (tree.and_expression (tree.lambda (codes "lambda") 0 false (tree.call 4 (tree.local 0) tree.no_expressions))
    (tree.and_expression (tree.lambda (codes "p") 0 false (tree.call 5 (tree.local 0) tree.no_expressions)) tree.no_expressions))
    (tree.lambda (codes "lambda") 0 false (tree.call 6 (tree.local 0) tree.no_expressions))
inits_have_names = refl

-- each operand of a call that begins a loop has the name of its own variable, and its operator has none
operands_have_names : numbered [] [] [] None (call (Some (codes "g") ∷ []) one_procedure (and_draft one_procedure (and_draft one_procedure no_drafts))) 3 7 ≡
    tree.call 3 (tree.lambda (codes "lambda") 0 false (tree.call 4 (tree.local 0) tree.no_expressions))
    (tree.and_expression (tree.lambda (codes "g") 0 false (tree.call 5 (tree.local 0) tree.no_expressions))
    (tree.and_expression (tree.lambda (codes "lambda") 0 false (tree.call 6 (tree.local 0) tree.no_expressions)) tree.no_expressions))
operands_have_names = refl

-- with 2^32 - 1 sites and literals, those of some nodes among them, there is room, and with one more of either there is none
last_room : (out : Output) (nodes : ℕ) → length out.sites + nodes ≡ 4294967295 → length out.literals + nodes ≡ 4294967295 → HasRoom out nodes
last_room out nodes s l = record { sites = omega (arith, s); literals = omega (arith, l) }

one_more_site : (out : Output) (nodes : ℕ) → length out.sites + nodes ≡ 4294967296 → HasRoom out nodes → ⊥
one_more_site out nodes s room = omega (arith, s, room.sites)

one_more_literal : (out : Output) (nodes : ℕ) → length out.literals + nodes ≡ 4294967296 → HasRoom out nodes → ⊥
one_more_literal out nodes l room = omega (arith, l, room.literals)
