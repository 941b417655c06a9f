-- Small drafts: which are sound, how deep they are, what they take, and programs that are valid; and the most that a library has.
use Rattle.std.proofs.Common.{◌≡◌, map, ℕ, true, false, List, [], ◌∷◌, length, replicate, Some, None, refl, codes, arith}
use Rattle.std.specs.Prelude.{pos}
use Rattle.sch_word.specs.declared.constant.Const.TheVariants.{Nil, Symbol}
use Rattle.sch_word.specs.declared.primitive.Primitive.TheVariants.{Cons, Car}
use Rattle.sch_lang.specs.Valid.{is_valid}
use Rattle.sch_lang.specs.Tree as tree
use Rattle.sch_read.specs.Grammar.{Datum, atom, list, dotted, vector, none, cons, text, symbol as symbol_atom, character, integer}
use Rattle.sch_read.specs.DatumParts.{parts}
use Rattle.sch_names.specs.Scope.{Globals}
use Rattle.sch_names.specs.Words.{keyword_of}
use Rattle.sch_sketch.specs.Draft.{Draft, Drafts, drafts, constant, symbol, literal, local, global, set_local, define, branch, sequence, bind, letrec, lambda, call, operation, no_drafts, and_draft}
use Rattle.sch_sketch.specs.declared.sketch.Position.TheVariants.{Value}
use Rattle.sch_sketch.specs.Sketch as sketch
use Rattle.sch_sketch.specs.Sketch.{no_sketch, and_sketch, sequencing}
use Rattle.sch_expansion.specs.Expands as ex
use Rattle.sch_link_tables.specs.Programs.{Definition, program_of, procedures_of_each}
use Rattle.sch_link_program.specs.Size.{size_of_definitions}
use Rattle.sch_toplevel.specs.Texts.{SketchesExpand}
use Rattle.sch_core.specs.TextForms.{Form, expression, definition, sketch_of, AreDefined, AreOfData, forms_weight}
use Rattle.sch_core.specs.Excess.{AreFew, excess}
use Rattle.sch_core.specs.SoundDrafts.{IsSound, levels}
use Rattle.sch_core.specs.LibraryDefinitions.{AreDefinitions, AreOrdered, AreKnown, IsSoundLibrary}
use Rattle.sch_sketch.specs.DraftMeasures.{size}
use Rattle.sch_core.specs.SizesOfStatics.{statics_in, statics_in_each}
use Rattle.sch_core.specs.Quotable.{own_in_range, datum_in_range, AreQuotable}

-- ## Soundness

-- `(lambda (x . r) x)` has two formals
takes_rest : IsSound 0 (lambda 2 true (local 1))
takes_rest = (omega arith, omega arith, omega arith)

unbound : IsSound 2 (local 2) → ⊥
unbound h = absurd (omega (arith, h))

no_rest : IsSound 0 (lambda 0 true (constant Nil)) → ⊥
no_rest h = absurd (omega (arith, h.0))

unbound_set : IsSound 0 (set_local 0 (constant Nil)) → ⊥
unbound_set h = absurd (omega (arith, h.0))

unbound_choice : IsSound 0 (branch (constant Nil) (constant Nil) (local 0)) → ⊥
unbound_choice h = absurd (omega (arith, h.2))

-- a symbol of the code's own has no number before the draft is numbered
numbered_symbol : IsSound 0 (constant (Symbol 0)) → ⊥
numbered_symbol h = cc

-- 200 formals and operands, and no more
many : ℕ → Drafts
many n = drafts (replicate n (constant Nil))

formals : IsSound 0 (lambda 200 false (local 199))
formals = (tt, omega arith, omega arith)

too_many_formals : IsSound 0 (lambda 201 false (constant Nil)) → ⊥
too_many_formals h = absurd (omega (arith, h.1))

too_many_operands : IsSound 0 (call [] (constant Nil) (many 201)) → ⊥
unfolding many
too_many_operands h = absurd (omega (arith, h.0))

too_many_inits : IsSound 0 (bind [] (many 201) (constant Nil)) → ⊥
unfolding many
too_many_inits h = absurd (omega (arith, h.0))

too_many_variables : IsSound 0 (letrec [] false (many 201) (constant Nil)) → ⊥
unfolding many
too_many_variables h = absurd (omega (arith, h.0))

empty_sequence : IsSound 0 (sequence no_drafts) → ⊥
empty_sequence h = absurd (omega (arith, h.0))

one_operand : IsSound 0 (operation Cons (and_draft (constant Nil) no_drafts)) → ⊥
one_operand h = cc

-- the body of a binding is inside it, and an init is not
body_inside : IsSound 0 (bind (None ∷ []) (and_draft (constant Nil) no_drafts) (local 0))
body_inside = (omega arith, (refl, tt), omega arith)

init_outside : IsSound 0 (bind (None ∷ []) (and_draft (local 0) no_drafts) (constant Nil)) → ⊥
init_outside h = absurd (omega (arith, h.1.0))

init_inside : IsSound 0 (letrec (None ∷ []) false (and_draft (local 0) no_drafts) (constant Nil))
init_inside = (omega arith, tt, (omega arith, tt), refl)

-- what is said to be a group has procedures alone
no_group : IsSound 0 (letrec (None ∷ []) true (and_draft (constant Nil) no_drafts) (constant Nil)) → ⊥
no_group h = h.1.0

-- ## Levels

-- the body of a procedure of a group is two levels below it
group_levels : levels (letrec (None ∷ []) true (and_draft (lambda 0 false (constant Nil)) no_drafts) (local 0)) ≡ 3
group_levels = refl

call_levels : levels (call [] (local 0) (and_draft (define (codes "x") (constant Nil)) no_drafts)) ≡ 3
call_levels = refl

-- ## Sizes

-- two nodes, an init, its variable, and two formals
some_nodes : size (bind (None ∷ []) (and_draft (constant Nil) no_drafts) (lambda 2 true (local 0))) ≡ 7
some_nodes = refl

-- `(a "bc")` has two pairs' ends, a symbol with its name, and a text
quoted : Datum
quoted = list 0 (cons (atom 1 (symbol_atom (codes "a"))) (cons (atom 3 (text (codes "bc"))) none))

some_statics : statics_in (call [] (global (codes "f")) (and_draft (literal quoted) (and_draft (symbol (codes "xyz")) no_drafts))) ≡ 13
unfolding quoted
some_statics = refl

byte_in_range : datum_in_range (list 0 (cons (atom 1 (character 255)) none)) ≡ true
byte_in_range = refl

character_too_large : datum_in_range (list 0 (cons (atom 1 (character 256)) none)) ≡ false
character_too_large = refl

-- each kind of atom, behind a dot and in a vector too
own_rows :
    (own_in_range (atom 1 (character 256)) ≡ false)
    × (own_in_range (list 0 (cons (atom 1 (character 256)) none)) ≡ true)
own_rows = (refl, refl)

out_of_range :
    (datum_in_range (dotted 0 (cons (atom 1 (character 1)) none) (atom 2 (text (300 ∷ [])))) ≡ false)
    × (datum_in_range (vector 0 (cons (atom 1 (symbol_atom (300 ∷ []))) none)) ≡ false)
    × (datum_in_range (atom 1 (integer (pos 1152921504606846976))) ≡ false)
    × (datum_in_range (atom 1 (integer (pos 1152921504606846975))) ≡ true)
out_of_range = (refl, refl, refl, refl)

-- the parts of data, in order
list_parts : (a b : Datum) → parts (list 1 (cons a (cons b none))) ≡ a ∷ b ∷ []
list_parts a b = refl

atom_parts : parts (atom 1 (character 1)) ≡ []
atom_parts = refl

not_quotable : AreQuotable (list 0 (cons (atom 1 (character 256)) none) ∷ []) → ⊥
not_quotable h = cc

-- ## Forms

-- `(define a b)`, and what stands for it where b is a global
defining : Form
defining = definition 0 (cons (atom 8 (symbol_atom (codes "a"))) (cons (atom 10 (symbol_atom (codes "b"))) none))

named_ab : Globals
named_ab = record { bound = codes "a" ∷ codes "b" ∷ []; own = []; internal = false }

named_b : Globals
named_b = record { bound = codes "b" ∷ []; own = []; internal = false }

expanded : SketchesExpand named_ab (map sketch_of (defining ∷ [])) (and_draft (define (codes "a") (global (codes "b"))) no_drafts)
unfolding defining named_ab keyword_of
expanded =
    ex.and_part sequencing true 1 [] Value _ no_sketch _ no_drafts
    (ex.a_node 1 [] Value (sketch.defining (codes "a")) 0 (and_sketch (sketch.text (atom 10 (symbol_atom (codes "b")))) no_sketch)
    (and_draft (global (codes "b")) no_drafts) refl refl
    (ex.and_part _ true 2 [] Value _ no_sketch _ no_drafts (ex.a_datum 2 [] Value _ _ (ex.a_leaf 2 [] Value 10 _ refl)) (ex.no_part _ false 2 [] Value)))
    (ex.no_part sequencing false 1 [] Value)

-- a name that there is not is not defined
defined : AreDefined named_ab (defining ∷ [])
unfolding defining named_ab
defined = (refl, tt)

not_defined : AreDefined named_b (defining ∷ []) → ⊥
unfolding defining named_b
not_defined h = cc

in_range : AreOfData (defining ∷ expression (atom 0 (character 255)) ∷ [])
unfolding defining
in_range = ((refl, (refl, tt)), (refl, tt))

-- a definition's data, and an expression's
not_in_range : AreOfData (definition 0 (cons (atom 1 (character 256)) none) ∷ []) → ⊥
not_in_range h = cc

nor_in_range : AreOfData (expression (atom 1 (character 256)) ∷ []) → ⊥
nor_in_range h = cc

few : excess 1 (tree.local 0) ≡ None
few = refl

-- one for the word, two for each name
weighs : forms_weight (defining ∷ expression (atom 0 (symbol_atom (codes "xy"))) ∷ []) ≡ 8
unfolding defining
weighs = refl

-- ## Programs

-- `(define (f x) (car x))` and `(define (g x) (f x))`
first : Definition
first = record { name = codes "f"; formals = 1; rest = false; body = operation Car (and_draft (local 0) no_drafts) }

second : Definition
second = record { name = codes "g"; formals = 1; rest = false; body = call [] (global (codes "f")) (and_draft (local 0) no_drafts) }

in_order : AreOrdered [] (first ∷ second ∷ [])
unfolding first second
in_order = (tt, ((refl, tt), tt))

not_in_order : AreOrdered [] (second ∷ first ∷ []) → ⊥
unfolding first second
not_in_order h = cc

-- `(define x (letrec ((h (lambda () (h)))) h))` and `(g x)`, where h is a group, or is assigned
own_form : Draft → Drafts
own_form e =
    and_draft (define (codes "x") (letrec (Some (codes "h") ∷ []) true (and_draft (lambda 0 false (call [] (local 0) no_drafts)) no_drafts) e))
    (and_draft (call [] (global (codes "g")) (and_draft (global (codes "x")) no_drafts)) no_drafts)

names_known : AreKnown (first ∷ second ∷ []) (codes "x" ∷ []) (own_form (local 0))
unfolding first second own_form
names_known = (refl, (refl, (refl, tt)))

names_not_known : AreKnown (first ∷ []) (codes "x" ∷ []) (own_form (local 0)) → ⊥
unfolding first own_form
names_not_known h = cc

group_is_valid : is_valid (program_of (first ∷ second ∷ []) (codes "x" ∷ []) (own_form (local 0))) ≡ true
unfolding first second own_form
group_is_valid = refl

assigned_is_valid : is_valid (program_of (first ∷ second ∷ []) (codes "x" ∷ []) (own_form (set_local 0 (constant Nil)))) ≡ true
unfolding first second own_form
assigned_is_valid = refl

-- a text that names what no library has
unknown_is_not_valid : is_valid (program_of (first ∷ []) (codes "x" ∷ []) (own_form (local 0))) ≡ false
unfolding first own_form
unknown_is_not_valid = refl

-- ## Libraries

-- as many statics, definitions and nodes as a library may have, and one more of each
most_of_library : (ds : List Definition) → AreDefinitions ds → AreOrdered [] ds → AreFew ds → statics_in_each (procedures_of_each ds) ≡ 14680064
    → length ds ≡ 7340032 → size_of_definitions ds ≡ 117440512 → IsSoundLibrary ds
most_of_library ds sound ordered within statics count nodes = record {
  sound = sound;
  ordered = ordered;
  few = within;
  small = omega (arith, statics);
  few_definitions = omega (arith, count);
  few_nodes = omega (arith, nodes);
}

one_more_static : (ds : List Definition) → statics_in_each (procedures_of_each ds) ≡ 14680065 → IsSoundLibrary ds → ⊥
one_more_static ds statics library = omega (arith, statics, library.small)

one_more_definition : (ds : List Definition) → length ds ≡ 7340033 → IsSoundLibrary ds → ⊥
one_more_definition ds count library = omega (arith, count, library.few_definitions)

one_more_node : (ds : List Definition) → size_of_definitions ds ≡ 117440513 → IsSoundLibrary ds → ⊥
one_more_node ds nodes library = omega (arith, nodes, library.few_nodes)
