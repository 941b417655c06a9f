-- Worked rows: the most labels by sites, tests and bodies; words of frames within both bounds of a program, and past either; a small
-- program at the greatest depth at which it is small, and one more; one that is too large by its text alone; steps in round numbers,
-- and what exits in them.
use Rattle.std.proofs.Common.{◌≡◌, ◌≤◌, ◌+◌, ◌*◌, ℕ, zero, suc, List, [], ◌∷◌, ◌++◌, refl, sym, ap, subst, arith}
use Rattle.std.specs.Prelude.{max, replicate, Some}
use Rattle.sch_word.specs.declared.answer.Answer.{Answer}
use Rattle.sch_word.specs.declared.constant.Const.TheVariants.{Nil}
use Rattle.sch_word.specs.runs.Runs.{Run, ended}
use Rattle.sch_word.specs.trees.Shape.{Procedure}
use Rattle.sch_select.proofs.programs.PathEvents.{no_exit}
use Rattle.sch_insn.specs.Behaves.{Given, exit_of, start}
use Rattle.sch_insn.specs.Machine.{State}
use Rattle.sch_insn.specs.Step.{mach, step}
use Rattle.sch_elf.specs.Layout.{memory}
use Rattle.sch_elf.specs.Stands.{StandsFor}
use Rattle.sch_elf.specs.declared.image.Image.{Image}
use Rattle.sch_lang.specs.Bodies.{bodies_each, bodies_forms, largest, most_variables}
use Rattle.sch_lang.specs.Examples.{program, sum_line}
use Rattle.sch_lang.specs.Measures.{bound_count, node_size, over_each, program_size, variables_each}
use Rattle.sch_lang.specs.Run.{run}
use Rattle.sch_lang.specs.Tree.{Source, bind, constant, count, expressions}
use Rattle.sch_control.proofs.Examples.{looping, taking}
use Rattle.sch_select.specs.Program.{frames_bytes, max_stack}
use Rattle.sch_driver.specs.Assembled.{labels_bound}
use Rattle.sch_driver.specs.Bounds.{AreWordsOf, ExitsInTime, IsSmall, round_steps}
use Rattle.sch_driver.specs.Causes.{Means, frame_bound, text_bound}
use Rattle.sch_listing.specs.declared.listing.Listing.{Listing}

-- ---- labels

-- eight sites, two tests and three bodies
looping_labels : labels_bound looping ≡ 109
looping_labels = refl

-- three sites, no test and two bodies
taking_labels : labels_bound taking ≡ 42
taking_labels = refl

-- ---- as many constants

one_more : (x n : ℕ) → x ≡ n → 1 + x ≡ suc n
one_more x n e = omega (arith, e)

none_more : (x : ℕ) → x ≡ 0 → 0 + x ≡ 0
none_more x e = omega (arith, e)

-- as expressions they are as many, of one node each, and bind nothing
constants_count : (n : ℕ) → count (expressions (replicate n (constant Nil))) ≡ n
constants_count zero = refl
constants_count (suc n) = ap suc (constants_count n)

constants_nodes : (n : ℕ) → over_each 0 (λ a b. a + b) node_size (expressions (replicate n (constant Nil))) ≡ n
constants_nodes zero = refl
constants_nodes (suc n) = one_more (over_each 0 (λ a b. a + b) node_size (expressions (replicate n (constant Nil)))) n (constants_nodes n)

constants_largest : (n : ℕ) → largest (bodies_forms (expressions (replicate n (constant Nil)))) ≡ 0
constants_largest zero = refl
constants_largest (suc n) = ap (max 0) (constants_largest n)

constants_variables : (n : ℕ) → variables_each (expressions (replicate n (constant Nil))) [] ≡ 0
constants_variables zero = refl
constants_variables (suc n) = none_more (variables_each (expressions (replicate n (constant Nil))) []) (constants_variables n)

constants_bodies : (n : ℕ) → bodies_each (expressions (replicate n (constant Nil))) ≡ []
constants_bodies zero = refl
constants_bodies (suc n) = constants_bodies n

bound_variables : (n : ℕ) → bound_count n (constant Nil) ≡ n
bound_variables zero = refl
bound_variables (suc n) = one_more (bound_count n (constant Nil)) n (bound_variables n)

-- ---- words of a frame

sum_line_bound : frame_bound sum_line ≡ 218
sum_line_bound = refl

sum_line_words : AreWordsOf sum_line 218
sum_line_words = (omega arith, omega (arith, sum_line_bound))

-- one more is past what its variables allow
sum_line_wide : AreWordsOf sum_line 219 → ⊥
sum_line_wide are = omega (arith, are.1, sum_line_bound)

-- (let ((x '()) ..) '()) of n variables
abbrev let_of : ℕ → Source
let_of n = program 0 (n ∷ []) (bind 0 (expressions (replicate n (constant Nil))) (constant Nil) ∷ [])

let_variables : (n : ℕ) → most_variables (let_of n) ≡ n
let_variables n =
    all (variables_each (expressions (replicate n (constant Nil))) []) (count (expressions (replicate n (constant Nil)))) (bodies_each (expressions (replicate n (constant Nil))))
    (constants_variables n) (constants_count n) (constants_bodies n)
  where
    all : (each bound : ℕ) (inner : List Procedure) → each ≡ 0 → bound ≡ n → inner ≡ []
        → max (each + (bound_count bound (constant Nil) + 0)) (largest ((inner ++ []) ++ [])) ≡ n
    all each bound inner none as_many empty =
        subst (λ xs. max (each + (bound_count bound (constant Nil) + 0)) (largest ((xs ++ []) ++ [])) ≡ n) (sym empty)
        (subst (λ k. max (k + (bound_count bound (constant Nil) + 0)) 0 ≡ n) (sym none)
        (subst (λ k. max (0 + (bound_count k (constant Nil) + 0)) 0 ≡ n) (sym as_many) (subst (λ k. max (0 + (k + 0)) 0 ≡ n) (sym (bound_variables n)) (omega arith))))

-- 1,000 variables allow 2,216 words, and yet there are 2,048 at most
let_bound : (n : ℕ) → n ≡ 1000 → frame_bound (let_of n) ≡ 2216
let_bound n is = widened (most_variables (let_of n)) (let_variables n)
  where
    widened : (v : ℕ) → v ≡ n → 2 * v + 216 ≡ 2216
    widened v e = omega (arith, e, is)

let_words : (n : ℕ) → n ≡ 1000 → AreWordsOf (let_of n) 2048
let_words n is = (omega arith, within (frame_bound (let_of n)) (let_bound n is))
  where
    within : (b : ℕ) → b ≡ 2216 → 2048 ≤ b
    within b e = omega (arith, e)

let_wide : (n : ℕ) → n ≡ 1000 → AreWordsOf (let_of n) 2049 → ⊥
let_wide n is are = omega (arith, are.0)

-- ---- small programs

-- a size of 8, and one variable
sum_line_text : text_bound sum_line ≡ 69632
sum_line_text = refl

sum_line_stack : frames_bytes (frame_bound sum_line) 615676 ≡ 1073740688
sum_line_stack = refl

sum_line_deeper : frames_bytes (frame_bound sum_line) 615677 ≡ 1073742432
sum_line_deeper = refl

sum_line_small : IsSmall sum_line 615676
sum_line_small = record { text = omega (arith, sum_line_text); stack = omega (arith, sum_line_stack) }

sum_line_large : IsSmall sum_line 615677 → ⊥
sum_line_large small = omega (arith, small.stack, sum_line_deeper)

-- a size of 43, and 20 variables: 524,288 frames of 256 words are the whole stack
let_text : text_bound (let_of 20) ≡ 87552
let_text = refl

let_stack : (depth : ℕ) → frames_bytes (frame_bound (let_of 20)) depth ≡ 2048 * suc depth
let_stack depth = of_words (frame_bound (let_of 20)) (by (most_variables (let_of 20)) (let_variables 20))
  where
    by : (v : ℕ) → v ≡ 20 → 2 * v + 216 ≡ 256
    by v e = omega (arith, e)

    of_words : (words : ℕ) → words ≡ 256 → 8 * (words * suc depth) ≡ 2048 * suc depth
    of_words words e = subst (λ w. 8 * (w * suc depth) ≡ 2048 * suc depth) (sym e) (omega arith)

let_small : IsSmall (let_of 20) 524287
let_small = record { text = omega (arith, let_text); stack = omega (arith, let_stack 524287) }

let_large : IsSmall (let_of 20) 524288 → ⊥
let_large small = omega (arith, small.stack, let_stack 524288)

-- '() n times: its size is twice n, and it has no variables
abbrev forms_of : ℕ → Source
forms_of n = program 0 [] (replicate n (constant Nil))

forms_size : (n : ℕ) → program_size (forms_of n) ≡ 2 * n
forms_size n =
    both (count (expressions (replicate n (constant Nil)))) (over_each 0 (λ a b. a + b) node_size (expressions (replicate n (constant Nil)))) (constants_count n) (constants_nodes n)
  where
    both : (forms nodes : ℕ) → forms ≡ n → nodes ≡ n → 0 + forms + (0 + nodes) ≡ 2 * n
    both forms nodes a b = omega (arith, a, b)

-- their frames fit at a depth of 1
forms_stack : (n : ℕ) → frames_bytes (frame_bound (forms_of n)) 1 ≤ max_stack
forms_stack n = fits (most_variables (forms_of n)) (constants_largest n)
  where
    fits : (v : ℕ) → v ≡ 0 → 8 * ((2 * v + 216) * 2) ≤ 1073741824
    fits v none = omega (arith, none)

-- of 16,320 forms the text may have 16,777,216 bytes, and that is all that it may have
forms_small : (n : ℕ) → n ≤ 16320 → IsSmall (forms_of n) 1
forms_small n few = record { text = fits (program_size (forms_of n)) (forms_size n); stack = forms_stack n }
  where
    fits : (size : ℕ) → size ≡ 2 * n → 65536 + 512 * size ≤ 16777216
    fits size twice = omega (arith, twice, few)

-- one more is too large, by its text alone
forms_large : (n : ℕ) → 16321 ≤ n → IsSmall (forms_of n) 1 → ⊥
forms_large n many small = past (program_size (forms_of n)) (forms_size n) small.text
  where
    past : (size : ℕ) → size ≡ 2 * n → 65536 + 512 * size ≤ 16777216 → ⊥
    past size twice fits = omega (arith, twice, many, fits)

-- ---- steps in round numbers

-- two forms, two entries, nothing charged and no answer used: five times the instructions
round_row : round_steps 100 2 2 0 0 ≡ 1024000
round_row = refl

-- one instruction and seven forms, and no entry
round_forms : round_steps 1 7 0 0 0 ≡ 16384
round_forms = refl

-- three bytes and one answer more
round_more : round_steps 100 2 2 1 3 ≡ 1024056
round_more = refl

-- ---- what exits in them

-- Nothing is asked of a text that means no program, nor of a file that stands for no image.
no_meaning : (library text : List ℕ) → ((p : Source) → Means library text p → ⊥) → (heap depth : ℕ) (file : List ℕ) (listing : Listing)
    → ExitsInTime library text heap depth file listing
no_meaning library text none heap depth file listing p image means stands = absurd (none p means)

no_image : (library text : List ℕ) (heap depth : ℕ) (listing : Listing) → ExitsInTime library text heap depth [] listing
no_image library text heap depth listing p image means stands = absurd (omega (arith, stands.long))

-- of a text of two forms that is compiled with 100 instructions, or is said to have none
module _ (library text : List ℕ) (p : Source) (means : Means library text p) (two : count p.forms ≡ 2) (heap depth : ℕ) (file : List ℕ) (image : Image) (stands : StandsFor file image)
    (listing : Listing) (g : Given) (answers : List Answer) (n : ℕ) where
  abbrev begins : State
  begins = start image.entry (memory image.segments) g answers

  -- a run that ends after this number of entries, of answers and of bytes
  abbrev ends_after : (entries used charged : ℕ) → Run
  ends_after entries used charged = record { output = []; entries = entries; charged = charged; answers = used; end = ended 0 }

  exits_at : (entries used charged : ℕ) → run p listing.orders heap depth answers n ≡ ends_after entries used charged → ExitsInTime library text heap depth file listing
      → (steps : ℕ) → round_steps listing.instructions (count p.forms) entries used charged ≡ steps → exit_of (mach steps begins) ≡ Some (0, [])
  exits_at entries used charged is in_time steps are =
      subst (λ m. exit_of (mach m begins) ≡ Some (0, [])) are (so (run p listing.orders heap depth answers n) is ((in_time p image means stands).within g answers n 0))
    where
      so : (r : Run) → r ≡ ends_after entries used charged
          → (r.end ≡ ended 0 → exit_of (mach (round_steps listing.instructions (count p.forms) r.entries r.answers r.charged) begins) ≡ Some (0, r.output))
          → exit_of (mach (round_steps listing.instructions (count p.forms) entries used charged) begins) ≡ Some (0, [])
      so r e exits =
          subst (λ r. r.end ≡ ended 0 → exit_of (mach (round_steps listing.instructions (count p.forms) r.entries r.answers r.charged) begins) ≡ Some (0, r.output)) e exits refl

  -- three entries, two answers and 48 bytes: six times 204,800 steps, 384 and 64
  exits : listing.instructions ≡ 100 → run p listing.orders heap depth answers n ≡ ends_after 3 2 48 → ExitsInTime library text heap depth file listing
      → (steps : ℕ) → 1229248 ≡ steps → exit_of (mach steps begins) ≡ Some (0, [])
  exits hundred is in_time steps are =
      exits_at 3 2 48 is in_time steps
      (subst (λ i. round_steps i (count p.forms) 3 2 48 ≡ steps) (sym hundred) (subst (λ f. round_steps 100 f 3 2 48 ≡ steps) (sym two) are))

  -- no instructions, no answers and no bytes: no steps, and in none nothing exits
  too_late : listing.instructions ≡ 0 → run p listing.orders heap depth answers n ≡ ends_after 3 0 0 → ExitsInTime library text heap depth file listing → ⊥
  too_late none is in_time =
      no_exit begins (step begins) 0 []
      (exits_at 3 0 0 is in_time 0
      (subst (λ i. round_steps i (count p.forms) 3 0 0 ≡ 0) (sym none) (subst (λ f. round_steps 0 f 3 0 0 ≡ 0) (sym two) refl)))
