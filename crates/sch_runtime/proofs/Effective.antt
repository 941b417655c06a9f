-- The items of the routines do what the routines do, wherever they stand.
use Rattle.std.proofs.Common.{◌≡◌, ℕ, ◌<◌, ◌%◌, List, [], ◌∷◌, ◌++◌, refl, sym, subst, arith}
use Rattle.std.specs.List.{AllByRecursion}
use Rattle.std.specs.Prelude.{IsTrue, false}
use Rattle.sch_asm.specs.Items.{marks_arrive}
use Rattle.sch_word.specs.declared.stop.Stop.{Stop}
use Rattle.sch_word.specs.declared.stop.Stop.TheVariants.{WrongType, OutOfRange, NotProcedure, WrongCount, DivideByZero, Overflow, HeapLimit, DepthLimit, Unset, OutputFailed}
use Rattle.sch_word.specs.runs.Stops.{status_of}
use Rattle.sch_asm.specs.declared.item.Item.{Item}
use Rattle.sch_asm.specs.declared.item.Item.TheVariants.{Label}
use Rattle.sch_asm.specs.declared.routine.Routine.{Routine}
use Rattle.sch_asm.specs.declared.routine.Routine.TheVariants as routine
use Rattle.sch_asm.specs.Routines.{label_of}
use Rattle.sch_asm.specs.Stands.{Setting, Stands}
use Rattle.sch_asm.specs.Views.{View}
use Rattle.sch_asm.specs.Effects.{AreEffective, Effect, Stops}
use Rattle.sch_asm.proofs.Standing.{stands_back, stands_part}
use Rattle.sch_runtime.specs.Code.{digit_code, digit_label, done_code, done_label, exit_code, exits, fixnum_code, fixnum_items, fixnum_label, fill_items, bytes_code, bytes_items, bytes_label, words_code, words_label, loop_code, loop_label, positive_code, positive_label, put_code, put_items, put_label, ready_code, ready_label, routine_items, statuses, write_code, write_label}
use Rattle.sch_runtime.proofs.Exits.{exits_here}
use Rattle.sch_runtime.proofs.PutRoutine as putting
use Rattle.sch_runtime.proofs.PutFixnum.{puts_fixnum}
use Rattle.sch_runtime.proofs.FillLoop.{fills_bytes, fills_words}

module _ (setting : Setting) where
  open setting use {place_of}

  -- an exit stands at the label of its status
  abbrev Exit : ℕ → Type 0
  Exit s = Stands setting [] (place_of (s % 64)) (exit_code s)

  exits_stand : (ss : List ℕ) (rest : List Item) (a : ℕ) → Stands setting [] a (exits ss rest) → AllByRecursion Exit ss × ((b : ℕ) × Stands setting [] b rest)
  exits_stand [] rest a h = (tt, (a, h))
  exits_stand (s ∷ ss) rest a h =
      let r = exits_stand ss rest _ h.2.2.2.2 in
      ((stands_part setting (s % 64) (exit_code s) (exits ss rest) [] a h, r.0), r.1)

  at_label : (l : ℕ) (is : List Item) (a : ℕ) → Stands setting [] a (Label l ∷ is) → Stands setting [] (place_of l) is
  at_label l is a h = subst (λ p. Stands setting [] p is) (sym h.1) h.2

  -- where the parts of the puts stand
  record Parts : Type 0 where
    put : Stands setting [] (place_of put_label) put_code
    write : Stands setting [] (place_of write_label) write_code
    loop : Stands setting [] (place_of loop_label) loop_code
    done : Stands setting [] (place_of done_label) done_code
    fixnum : Stands setting [] (place_of fixnum_label) fixnum_code
    positive : Stands setting [] (place_of positive_label) positive_code
    digit : Stands setting [] (place_of digit_label) digit_code
    ready : Stands setting [] (place_of ready_label) ready_code
    words : Stands setting [] (place_of words_label) words_code
    bytes : Stands setting [] (place_of bytes_label) bytes_code

  parts : (a : ℕ) → Stands setting [] a put_items → Parts
  parts a h =
      let p = stands_part setting put_label put_code (Label done_label ∷ (done_code ++ fixnum_items)) [] a h in
      let b = stands_back setting (Label put_label ∷ put_code) (Label done_label ∷ (done_code ++ fixnum_items)) [] a refl h in
      let c = stands_back setting (Label done_label ∷ done_code) fixnum_items [] b.0 refl b.1 in
      let w = at_label write_label write_code _ p.4.4.2 in
      let f = stands_part setting fixnum_label fixnum_code fill_items [] c.0 c.1 in
      let g = stands_back setting (Label fixnum_label ∷ fixnum_code) fill_items [] c.0 refl c.1 in
      let k = stands_back setting (Label words_label ∷ words_code) bytes_items [] g.0 refl g.1 in
      let q = at_label positive_label positive_code _ f.4.4.2.2.2.4.2 in
      let d = at_label digit_label digit_code _ q.2.2 in
      record {
        put = p;
        write = w;
        loop = at_label loop_label loop_code _ w.4;
        done = stands_part setting done_label done_code fixnum_items [] b.0 b.1;
        fixnum = f;
        positive = q;
        digit = d;
        ready = at_label ready_label ready_code _ d.2.2.2.2.2.2.4.2.4.2.2.2;
        words = stands_part setting words_label words_code bytes_items [] g.0 g.1;
        bytes = stands_part setting bytes_label bytes_code [] [] k.0 k.1;
      }

  stop_here : (s : Stop) → Stands setting [] (place_of (label_of (routine.Stop s))) (exit_code (status_of s)) → (x : View) → x.place ≡ place_of (label_of (routine.Stop s))
      → Stops setting x 3 (status_of s) x.output x.answers
  stop_here s h x at = exits_here setting x (status_of s) (low s) (subst (λ a. Stands setting [] a (exit_code (status_of s))) (sym at) h)
    where
      low : (s : Stop) → status_of s < 256
      low WrongType = omega arith
      low OutOfRange = omega arith
      low NotProcedure = omega arith
      low WrongCount = omega arith
      low DivideByZero = omega arith
      low Overflow = omega arith
      low HeapLimit = omega arith
      low DepthLimit = omega arith
      low Unset = omega arith
      low OutputFailed = omega arith

  does : (a : ℕ) → Stands setting [] a routine_items → (k : Routine) (x : View) → x.place ≡ place_of (label_of k) → Effect setting k x
  does a h k x at = by k at
    where
      all : AllByRecursion Exit statuses × ((b : ℕ) × Stands setting [] b put_items)
      all = exits_stand statuses put_items a h

      p : Parts
      p = parts all.1.0 all.1.1

      e : AllByRecursion Exit statuses
      e = all.0

      by : (k : Routine) → x.place ≡ place_of (label_of k) → Effect setting k x
      by routine.End at = exits_here setting x 0 (omega arith) (subst (λ a. Stands setting [] a (exit_code 0)) (sym at) e.0)
      by (routine.Stop WrongType) at = stop_here WrongType e.1.0 x at
      by (routine.Stop OutOfRange) at = stop_here OutOfRange e.1.1.0 x at
      by (routine.Stop NotProcedure) at = stop_here NotProcedure e.1.1.1.0 x at
      by (routine.Stop WrongCount) at = stop_here WrongCount e.1.1.1.1.0 x at
      by (routine.Stop DivideByZero) at = stop_here DivideByZero e.1.1.1.1.1.0 x at
      by (routine.Stop Overflow) at = stop_here Overflow e.1.1.1.1.1.1.0 x at
      by (routine.Stop HeapLimit) at = stop_here HeapLimit e.1.1.1.1.1.1.1.0 x at
      by (routine.Stop DepthLimit) at = stop_here DepthLimit e.1.1.1.1.1.1.1.1.0 x at
      by (routine.Stop Unset) at = stop_here Unset e.1.1.1.1.1.1.1.1.1.0 x at
      by (routine.Stop OutputFailed) at = stop_here OutputFailed e.1.1.1.1.1.1.1.1.1.1.0 x at
      by routine.Put at = λ piece ready low size here. putting.puts setting p.write p.loop e.1.1.1.1.1.1.1.1.1.1.0 p.done p.put x piece at ready low size here
      by routine.PutFixnum at = λ n ready word. puts_fixnum setting p.write p.loop e.1.1.1.1.1.1.1.1.1.1.0 p.done p.fixnum p.positive p.digit p.ready x n at ready word
      by routine.FillWords at = λ a n w ready room is fits. fills_words setting p.words x a n w at ready room is fits
      by routine.FillBytes at = λ a n b ready room is. fills_bytes setting p.bytes x a n b at ready room is
      by _ at = tt

-- behind items whose marks have arrived
pub effective_behind : (front : List Item) → IsTrue (marks_arrive false front) → AreEffective (front ++ routine_items)
effective_behind front arrive = record {
  does = λ setting a h k x at. let b = stands_back setting front routine_items [] a arrive h in does setting b.0 b.1 k x at;
}
