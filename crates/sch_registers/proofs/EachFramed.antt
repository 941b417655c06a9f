-- What the frame bodies of a program owe to its bodies, from what each of them owes to its own.
use Rattle.std.proofs.Common.{◌≡◌, ℕ, zero, suc, ◌+◌, ◌++◌, ◌*◌, ◌<◌, ◌≤◌, List, [], ◌∷◌, length, take, get_or, map, true, refl, sym, ap, ◌∙◌, subst, max, arith, Some}
use Rattle.std.specs.Prelude.{slice_get}
use Rattle.std.specs.List.{list_all}
use Rattle.std.proofs.lemmas.Bool.{and_from, and_parts}
use Rattle.std.proofs.Math.Nat.{le-max_left, le-max_right, max-le}
use Rattle.std.proofs.lemmas.List.{append-nil, append_assoc, take_all, take_more}
use Rattle.std.proofs.lemmas.List.Concat.{flat_map-append}
use Rattle.sch_orders.specs.declared.listed_call.ListedCall.{ListedCall}
use Rattle.sch_word.specs.trees.Shape.{max_operands}
use Rattle.sch_word.proofs.facts.Lists.{some_same}
use Rattle.sch_control.specs.declared.body.Body.{Body}
use Rattle.sch_control.specs.Covered as control_covered
use Rattle.sch_control.specs.Sizes.{most_variables, tests_in, tests_of}
use Rattle.sch_control.specs.SourceView as control
use Rattle.sch_control.specs.Tree as tree
use Rattle.sch_control.specs.Work.{codes_work}
use Rattle.sch_frames.specs.declared.frame_body.FrameBody.{FrameBody}
use Rattle.sch_frames.specs.Does.{FramesOf}
use Rattle.sch_frames.specs.Covered.{code_begins, is_covered_code}
use Rattle.sch_frames.specs.Sizes.{closures_in, codes_copies, codes_size, frame_words, largest_frame, spread_words}
use Rattle.sch_frames.specs.SourceView.{code_of, codes_of}
use Rattle.sch_frames.specs.Standing.{all_marks_stand}
use Rattle.sch_frames.specs.Tree.{Code}
use Rattle.sch_frames.proofs.LargestFrame.{covered_words, words_most}
use Rattle.sch_registers.specs.FramedBodies.{AreFramedBodies, IsFramedBody}
use Rattle.sch_registers.specs.MadeFrom.{AreMadeFrom}
use Rattle.sch_registers.specs.OwnMarks.{CallsItsSaves, EachSaveCalled}
use Rattle.sch_registers.specs.Registers.{all_calls, registers_calls, registers_code}

-- ## One body more, with its frame body

bodies_push : (bs : List Body) (b : Body) → control.codes_of (bs ++ b ∷ []) ≡ control.codes_of bs ++ control.code_of b ∷ []
bodies_push [] b = refl
bodies_push (x ∷ bs) b = ap (λ cs. control.code_of x ∷ cs) (bodies_push bs b)

frames_push : (fs : List FrameBody) (f : FrameBody) → codes_of (fs ++ f ∷ []) ≡ codes_of fs ++ code_of f ∷ []
frames_push [] f = refl
frames_push (x ∷ fs) f = ap (λ cs. code_of x ∷ cs) (frames_push fs f)

pushed : (cs : List tree.Code) (fs : List Code) (c : tree.Code) (f : Code) → AreFramedBodies cs fs → IsFramedBody c f → AreFramedBodies (cs ++ c ∷ []) (fs ++ f ∷ [])
pushed [] [] c f h g = (g, tt)
pushed (x ∷ cs) (y ∷ fs) c f h g = (h.0, pushed cs fs c f h.1 g)
pushed [] (y ∷ fs) c f h g = absurd h
pushed (x ∷ cs) [] c f h g = absurd h

codes_taken : (bodies : List Body) (i : ℕ) (b : Body) → i < length bodies → b ≡ get_or bodies i b → control.codes_of (take (i + 1) bodies) ≡ control.codes_of (take i bodies) ++ control.code_of b ∷ []
codes_taken bodies i b lt is =
    ap control.codes_of (take_more bodies i b lt) ∙ ap (λ z. control.codes_of (take i bodies ++ z ∷ [])) (sym is) ∙ bodies_push (take i bodies) b

pub framed_next : (bodies : List Body) (i : ℕ) (b : Body) → i < length bodies → b ≡ get_or bodies i b → (made next : List FrameBody) (f : FrameBody) → next ≡ made ++ f ∷ []
    → AreFramedBodies (control.codes_of (take i bodies)) (codes_of made) → IsFramedBody (control.code_of b) (code_of f)
    → AreFramedBodies (control.codes_of (take (i + 1) bodies)) (codes_of next)
framed_next bodies i b lt is made next f e h g =
    subst (AreFramedBodies (control.codes_of (take (i + 1) bodies))) (sym (ap codes_of e ∙ frames_push made f))
    (subst (λ cs. AreFramedBodies cs (codes_of made ++ code_of f ∷ [])) (sym (codes_taken bodies i b lt is)) (pushed _ _ _ _ h g))

pub framed_end : (bodies : List Body) (i : ℕ) (made : List FrameBody) → length bodies ≤ i → AreFramedBodies (control.codes_of (take i bodies)) (codes_of made)
    → AreFramedBodies (control.codes_of bodies) (codes_of made)
framed_end bodies i made le h = subst (λ bs. AreFramedBodies (control.codes_of bs) (codes_of made)) (take_all i bodies le) h

-- what is listed of the calls of one body more
pub calls_next : (bodies : List Body) (i : ℕ) (b : Body) → i < length bodies → b ≡ get_or bodies i b → (before calls next : List ListedCall)
    → next ≡ calls ++ registers_calls (control.code_of b) → calls ≡ before ++ all_calls (control.codes_of (take i bodies))
    → next ≡ before ++ all_calls (control.codes_of (take (i + 1) bodies))
calls_next bodies i b lt is before calls next e h =
    let mine : List ListedCall = registers_calls (control.code_of b) in
    let all : List ListedCall = all_calls (control.codes_of (take i bodies)) in
    let more : all_calls (control.codes_of (take (i + 1) bodies)) ≡ all ++ mine =
    ap all_calls (codes_taken bodies i b lt is) ∙ (flat_map-append registers_calls (control.codes_of (take i bodies)) (control.code_of b ∷ []) ∙ ap (λ l. all ++ l) (append-nil mine)) in
    e ∙ (ap (λ l. l ++ mine) h ∙ (append_assoc before all mine ∙ ap (λ l. before ++ l) (sym more)))

pub calls_end : (bodies : List Body) (i : ℕ) (before calls : List ListedCall) → length bodies ≤ i → calls ≡ before ++ all_calls (control.codes_of (take i bodies))
    → calls ≡ before ++ all_calls (control.codes_of bodies)
calls_end bodies i before calls le h = h ∙ ap (λ bs. before ++ all_calls (control.codes_of bs)) (take_all i bodies le)

-- the tests of one body are among those of all
pub tests_among : (bodies : List Body) (i : ℕ) (b : Body) → i < length bodies → b ≡ get_or bodies i b → tests_in (control.code_of b).expression ≤ tests_of (control.codes_of bodies)
tests_among [] i b lt is = absurd (omega (arith, lt))
tests_among (x ∷ bodies) zero b lt is = let same = ap (λ b. tests_in (control.code_of b).expression) is in omega (arith, same)
tests_among (x ∷ bodies) (suc i) b lt is = let more = tests_among bodies i b (omega (arith, lt)) is in omega (arith, more)

-- ## All bodies

pub all_made : (cs : List tree.Code) (fs : List Code) → AreFramedBodies cs fs → fs ≡ map registers_code cs
all_made [] [] h = refl
all_made (c ∷ cs) (f ∷ fs) h = ap (λ z. z ∷ fs) h.0.made ∙ ap (λ zs. registers_code c ∷ zs) (all_made cs fs h.1)
all_made [] (f ∷ fs) h = absurd h
all_made (c ∷ cs) [] h = absurd h

pub all_do : (cs : List tree.Code) (fs : List Code) → AreFramedBodies cs fs → FramesOf cs fs
all_do [] [] h = tt
all_do (c ∷ cs) (f ∷ fs) h = (h.0.same, all_do cs fs h.1)
all_do [] (f ∷ fs) h = absurd h
all_do (c ∷ cs) [] h = absurd h

pub all_begin : (cs : List tree.Code) (fs : List Code) → AreFramedBodies cs fs → list_all code_begins fs ≡ true
all_begin [] [] h = refl
all_begin (c ∷ cs) (f ∷ fs) h = and_from _ _ h.0.begins (all_begin cs fs h.1)
all_begin [] (f ∷ fs) h = absurd h
all_begin (c ∷ cs) [] h = absurd h

pub all_stand : (cs : List tree.Code) (fs : List Code) → AreFramedBodies cs fs → all_marks_stand fs ≡ true
all_stand [] [] h = refl
all_stand (c ∷ cs) (f ∷ fs) h = and_from _ _ h.0.stand (all_stand cs fs h.1)
all_stand [] (f ∷ fs) h = absurd h
all_stand (c ∷ cs) [] h = absurd h

pub all_covered : (cs : List tree.Code) (fs : List Code) → AreFramedBodies cs fs → list_all control_covered.is_covered_code cs ≡ true → list_all is_covered_code fs ≡ true
all_covered [] [] h all = refl
all_covered (c ∷ cs) (f ∷ fs) h all =
    let parts = and_parts (control_covered.is_covered_code c) _ all in
    and_from _ _ (h.0.covered parts.0) (all_covered cs fs h.1 parts.1)
all_covered [] (f ∷ fs) h all = absurd h
all_covered (c ∷ cs) [] h all = absurd h

pub all_fit : (cs : List tree.Code) (fs : List Code) → AreFramedBodies cs fs → 64 * (codes_size fs + closures_in fs) + 8 * codes_copies fs ≤ 72 * codes_work cs
all_fit [] [] h = omega arith
all_fit (c ∷ cs) (f ∷ fs) h = let here = h.0.fits in let more = all_fit cs fs h.1 in omega (arith, here, more)
all_fit [] (f ∷ fs) h = absurd h
all_fit (c ∷ cs) [] h = absurd h

-- no frame has more words beside its variables than a call may have operands
largest_within : (cs : List tree.Code) (fs : List Code) → AreFramedBodies cs fs → largest_frame fs ≤ max_operands + most_variables cs
largest_within [] [] h = omega arith
largest_within (c ∷ cs) (f ∷ fs) h =
    let here = h.0.words in
    let more = largest_within cs fs h.1 in
    let left = le-max_left c.variables (most_variables cs) in
    let right = le-max_right c.variables (most_variables cs) in
    max-le (omega (arith, here, left)) (omega (arith, more, right))
largest_within [] (f ∷ fs) h = absurd h
largest_within (c ∷ cs) [] h = absurd h

pub words_within : (cs : List tree.Code) (fs : List Code) → AreFramedBodies cs fs → frame_words fs ≤ max spread_words (max_operands + most_variables cs)
words_within cs fs h = words_most fs _ (largest_within cs fs h)

pub covered_within : (cs : List tree.Code) (fs : List Code) → AreFramedBodies cs fs → list_all control_covered.is_covered_code cs ≡ true → frame_words fs ≤ max_operands + most_variables cs
covered_within cs fs h all = subst (λ n. n ≤ max_operands + most_variables cs) (sym (covered_words fs (all_covered cs fs h all))) (largest_within cs fs h)

-- the body of each way is one of them
one_called : (cs : List tree.Code) (fs : List Code) → AreFramedBodies cs fs → (i : ℕ) (f : Code) → slice_get fs i ≡ Some f → CallsItsSaves f
one_called [] [] h i f e = absurd (cc)
one_called (c ∷ cs) (g ∷ fs) h zero f e = subst CallsItsSaves (some_same e) h.0.called
one_called (c ∷ cs) (g ∷ fs) h (suc i) f e = one_called cs fs h.1 i f e
one_called [] (g ∷ fs) h i f e = absurd h
one_called (c ∷ cs) [] h i f e = absurd h

pub all_called : (cs : List tree.Code) (fs : List Code) → AreFramedBodies cs fs → EachSaveCalled fs
all_called cs fs h own way = one_called cs fs h way.label way.code way.body fs own way refl

pub all_made_from : (cs : List tree.Code) (fs : List Code) → AreFramedBodies cs fs → AreMadeFrom cs fs
all_made_from [] [] h = tt
all_made_from (c ∷ cs) (f ∷ fs) h = (h.0.chain, all_made_from cs fs h.1)
all_made_from [] (f ∷ fs) h = absurd h
all_made_from (c ∷ cs) [] h = absurd h

-- ## The bodies of a program, as they are handed over

pub handed_over : (bodies bodies' : List Body) (made made' : List FrameBody) → bodies ≡ bodies' → made' ≡ made
    → AreFramedBodies (control.codes_of bodies) (codes_of made) → AreFramedBodies (control.codes_of bodies') (codes_of made')
handed_over bodies bodies' made made' e f h =
    subst (λ fs. AreFramedBodies (control.codes_of bodies') (codes_of fs)) (sym f) (subst (λ bs. AreFramedBodies (control.codes_of bs) (codes_of made)) e h)
