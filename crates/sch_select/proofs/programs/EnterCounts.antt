-- How many entries of procedures and of forms a run marks, and so its machine.
use Rattle.std.proofs.Common.{◌≡◌, ℕ, suc, ◌+◌, ◌≤◌, List, [], ◌∷◌, length, Bool, true, false, cond, Option, Some, None, refl, sym, ap, ◌∙◌, subst, arith, ⊎_elim}
use Rattle.std.specs.Prelude.{nat_eq, nat_lt, slice_get}
use Rattle.std.specs.List.{count_by, flat_map, list_all}
use Rattle.std.proofs.lemmas.Bool.{cases_lt, eqb-true, eqb-false, lt-ltb, ltb-true, ne_eqb}
use Rattle.std.proofs.lemmas.List.Sums.{sum_by-append}
use Rattle.std.proofs.lemmas.Option.{slice_get_within}
use Rattle.sch_word.specs.declared.answer.Answer.{Answer}
use Rattle.sch_word.specs.declared.stop.Stop.{Stop}
use Rattle.sch_word.specs.declared.stop.Stop.TheVariants.{WrongType, OutOfRange, NotProcedure, WrongCount, DivideByZero, Overflow, HeapLimit, DepthLimit, Unset, OutputFailed}
use Rattle.sch_word.specs.runs.Stops.{status_of}
use Rattle.sch_word.specs.runs.Runs.{Run, ended, going, run_with}
use Rattle.sch_word.specs.runs.Computation.{gives, stops, spent}
use Rattle.sch_word.specs.values.Memory.{Segment}
use Rattle.sch_control.specs.declared.body.Entry.{Entry}
use Rattle.sch_word.specs.declared.mark.MarkKind.TheVariants as mark
use Rattle.sch_control.specs.Meaning.{World, Result, marked, on_return}
use Rattle.std.specs.Option.{option_flatten}
use Rattle.sch_control.specs.Run.{do_forms, entry_at, outcome_of, seen_of, starting_world}
use Rattle.sch_frames.specs.Valid.{is_entered}
use Rattle.sch_frames.specs.Covered.{is_covered_code}
use Rattle.sch_word.specs.runs.Activations.{is_enter}
use Rattle.sch_frames.specs.Run.{bodies_of, entries_of}
use Rattle.sch_frames.specs.Tree.{Code, Source}
use Rattle.sch_insn.specs.Behaves.{FollowsRuns, exit_of, start}
use Rattle.sch_insn.specs.Path.{traced}
use Rattle.sch_insn.proofs.Paths.{traced_progress}
use Rattle.sch_word.specs.declared.mark.MarkKind.{MarkKind}
use Rattle.sch_select.specs.Follows.{AreRuns}
use Rattle.sch_select.specs.Marks.{CountsEntries, PassesMarks, enters_body, enters_procedure, marks_of, marks_passed}
use Rattle.sch_select.proofs.programs.EnterMarks.{Kept, Stays, callee_of, form_kept}

-- ---- counts of marks

abbrev pub counted : (MarkKind → Bool) → World → ℕ
counted f w = count_by f w.marks

one_more : (f : MarkKind → Bool) (m : MarkKind) (w : World) → counted f (marked m w) ≡ counted f w + cond (f m) 1 0
one_more f m w =
    sum_by-append (λ x. cond (f x) 1 0) w.marks (m ∷ []) ∙ omega arith

counted_as : (f : MarkKind → Bool) (m : MarkKind) (w : World) (b : Bool) → f m ≡ b → counted f (marked m w) ≡ counted f w + cond b 1 0
counted_as f m w b e = one_more f m w ∙ ap (λ b. counted f w + cond b 1 0) e

no_procedure : (entries : List (Option Entry)) (m : MarkKind) → is_enter m ≡ false → enters_procedure entries m ≡ false
no_procedure entries (mark.Enter label) e = absurd (let bad : true ≡ false = e in cc)
no_procedure entries (mark.Save x) e = refl
no_procedure entries _ e = refl

no_body : (label : ℕ) (m : MarkKind) → is_enter m ≡ false → enters_body label m ≡ false
no_body label (mark.Enter l) e = absurd (let bad : true ≡ false = e in cc)
no_body label (mark.Save x) e = refl
no_body label _ e = refl

-- ---- the forms

module _ (codes : List Code) (covered : list_all is_covered_code codes ≡ true) (Q : ℕ → World → Type 0) (stays : (k : ℕ) → Stays (entries_of codes) (Q k))
    (form : (label : ℕ) (w : World) → slice_get (entries_of codes) label ≡ Some None → Q label w → Q (suc label) (marked (mark.Enter label) w))
    (other : (label : ℕ) (w : World) (e : Entry) → slice_get (entries_of codes) label ≡ Some (Some e) → Q label w → Q (suc label) w) where
  abbrev pub Done : ℕ → Result → Type 0
  Done end None = Unit {0}
  Done end (Some (gives v w)) = Q end w
  Done end (Some (stops why w)) = (k : ℕ) × Q k w
  Done end (Some (spent w)) = (k : ℕ) × Q k w

  pub forms_done : (n depth : ℕ) (es : List (Option Entry)) (label : ℕ) (w : World) → ((j : ℕ) (o : Option Entry) → slice_get es j ≡ Some o → slice_get (entries_of codes) (label + j) ≡ Some o) → Q label w
      → Done (label + length es) (do_forms es label (bodies_of codes) (callee_of codes n) depth w)
  forms_done n depth [] label w at q = let z : label ≡ label + 0 = omega arith in subst (λ k. Q k w) z q
  forms_done n depth (Some e ∷ es) label w at q =
      let z : label + 0 ≡ label = omega arith in
      let end : suc label + length es ≡ label + suc (length es) = omega arith in
      subst (λ k. Done k (do_forms es (suc label) (bodies_of codes) (callee_of codes n) depth w)) end
      (forms_done n depth es (suc label) w (λ j o i. let s : label + suc j ≡ suc label + j = omega arith in ap (slice_get (entries_of codes)) (sym s) ∙ at (suc j) o i) (other label w e (ap (slice_get (entries_of codes)) (sym z) ∙ at 0 (Some e) refl) q))
  forms_done n depth (None ∷ es) label w at q =
      let z : label + 0 ≡ label = omega arith in
      by _ (form_kept codes covered (Q (suc label)) (stays (suc label)) n label depth (marked (mark.Enter label) w) (form label w (ap (slice_get (entries_of codes)) (sym z) ∙ at 0 None refl) q))
      (λ u r. let end : suc label + length es ≡ label + suc (length es) = omega arith in
      subst (λ k. Done k (do_forms es (suc label) (bodies_of codes) (callee_of codes n) depth u)) end
      (forms_done n depth es (suc label) u (λ j o i. let s : label + suc j ≡ suc label + j = omega arith in ap (slice_get (entries_of codes)) (sym s) ∙ at (suc j) o i) r))
    where
      by : (r : Result) → Kept codes covered (Q (suc label)) (stays (suc label)) r → ((u : World) → Q (suc label) u → Done (label + suc (length es)) (do_forms es (suc label) (bodies_of codes) (callee_of codes n) depth u))
          → Done (label + suc (length es)) (on_return r (λ v u. do_forms es (suc label) (bodies_of codes) (callee_of codes n) depth u))
      by None h k = tt
      by (Some (gives v u)) h k = k u h
      by (Some (stops why u)) h k = (suc label, h)
      by (Some (spent u)) h k = (suc label, h)

-- ---- entries of procedures

module _ (codes : List Code) (covered : list_all is_covered_code codes ≡ true) where
  abbrev pub entries : List (Option Entry)
  entries = entries_of codes

  abbrev pub Paid : ℕ → World → Type 0
  Paid n w = counted (enters_procedure entries) w + w.state.store.entries ≡ n

  pub paid_stays : (n : ℕ) → Stays entries (Paid n)
  paid_stays n = record {
    state = λ w s e p. omega (arith, e, p);
    mark = λ w m e p. let c = counted_as (enters_procedure entries) m w false (no_procedure entries m e) in omega (arith, c, p);
    entry = λ w left label e is some p.
        let u : World = record { state = record w.state { store = record w.state.store { entries = left } }; marks = w.marks } in
        let c = counted_as (enters_procedure entries) (mark.Enter label) u true (ap is_entered is) in omega (arith, c, p, some);
  }

  form_free : (label : ℕ) → slice_get entries label ≡ Some None → entry_at entries label ≡ None
  form_free label e = ap option_flatten e

  pub paid_form : (n label : ℕ) (w : World) → slice_get entries label ≡ Some None → Paid n w → Paid n (marked (mark.Enter label) w)
  paid_form n label w e p = let c = counted_as (enters_procedure entries) (mark.Enter label) w false (ap is_entered (form_free label e)) in omega (arith, c, p)

  pub procedures_paid : (n m depth : ℕ) (w : World) → Paid n w → Done codes covered (λ k. Paid n) (λ k. paid_stays n) (λ label w e p. paid_form n label w e p) (λ label w e i p. p) (0 + length entries) (do_forms entries 0 (bodies_of codes) (callee_of codes m) depth w)
  procedures_paid n m depth w p =
      forms_done codes covered (λ k. Paid n) (λ k. paid_stays n) (λ label w e p. paid_form n label w e p) (λ label w e i p. p) m depth entries 0 w (λ j o i. let z : 0 + j ≡ j = omega arith in ap (slice_get entries) z ∙ i) p

  -- ---- the entry of one form

  module _ (l : ℕ) (is : slice_get entries l ≡ Some None) where
    abbrev pub Once : ℕ → World → Type 0
    Once k w = counted (enters_body l) w ≡ cond (nat_lt l k) 1 0

    pub once_stays : (k : ℕ) → Stays entries (Once k)
    once_stays k = record {
      state = λ w s e p. p;
      mark = λ w m e p. let c = counted_as (enters_body l) m w false (no_body l m e) in omega (arith, c, p);
      entry = λ w left label e some n p.
          let u : World = record { state = record w.state { store = record w.state.store { entries = left } }; marks = w.marks } in
          let c = counted_as (enters_body l) (mark.Enter label) u false (ne_eqb label l (λ same. let bad : None ≡ Some e = sym (form_free l is) ∙ ap (entry_at entries) (sym same) ∙ some in cc)) in omega (arith, c, p);
    }

    passed_by : (k : ℕ) → (k ≡ l → ⊥) → nat_lt l (suc k) ≡ nat_lt l k
    passed_by k apart = ⊎_elim (λ lt. lt-ltb l (suc k) (omega (arith, lt)) ∙ sym (lt-ltb l k lt)) (λ le. beyond (nat_lt l (suc k)) refl le) (cases_lt l k)
      where
        beyond : (b : Bool) → nat_lt l (suc k) ≡ b → k ≤ l → b ≡ nat_lt l k
        beyond b e le = by (nat_lt l k) refl b e
          where
            by : (c : Bool) → nat_lt l k ≡ c → (b : Bool) → nat_lt l (suc k) ≡ b → b ≡ c
            by true i b e = absurd (let lt = ltb-true l k i in omega (arith, lt, le))
            by false i false e = refl
            by false i true e = absurd (let lt = ltb-true l (suc k) e in apart (omega (arith, lt, le)))

    pub once_form : (label : ℕ) (w : World) → slice_get entries label ≡ Some None → Once label w → Once (suc label) (marked (mark.Enter label) w)
    once_form label w e p = by (nat_eq label l) refl
      where
        by : (b : Bool) → nat_eq label l ≡ b → Once (suc label) (marked (mark.Enter label) w)
        by true q =
            let same = eqb-true label l q in
            let c = counted_as (enters_body l) (mark.Enter label) w true q in
            let before : nat_lt l label ≡ false = not_below (nat_lt l label) refl same in
            let after : nat_lt l (suc label) ≡ true = lt-ltb l (suc label) (omega (arith, same)) in
            let p' : counted (enters_body l) w ≡ 0 = p ∙ ap (λ b. cond b 1 0) before in
            c ∙ ap (λ n. n + 1) p' ∙ sym (ap (λ b. cond b 1 0) after)
          where
            not_below : (b : Bool) → nat_lt l label ≡ b → label ≡ l → nat_lt l label ≡ false
            not_below false e same = e
            not_below true e same = absurd (let lt = ltb-true l label e in omega (arith, lt, same))
        by false q =
            let c = counted_as (enters_body l) (mark.Enter label) w false q in
            let keeps : cond (nat_lt l (suc label)) 1 0 ≡ cond (nat_lt l label) 1 0 = ap (λ b. cond b 1 0) (passed_by label (eqb-false label l q)) in
            omega (arith, c, p) ∙ sym keeps

    pub once_other : (label : ℕ) (w : World) (e : Entry) → slice_get entries label ≡ Some (Some e) → Once label w → Once (suc label) w
    once_other label w e i p =
        p ∙ sym (ap (λ b. cond b 1 0) (passed_by label (λ same. let bad : Some (Some e) ≡ Some None = sym i ∙ ap (slice_get entries) same ∙ is in cc)))

    pub form_once : (m depth : ℕ) (w : World) → counted (enters_body l) w ≡ 0 → Done codes covered Once once_stays once_form once_other (0 + length entries) (do_forms entries 0 (bodies_of codes) (callee_of codes m) depth w)
    form_once m depth w p =
        forms_done codes covered Once once_stays once_form once_other m depth entries 0 w (λ j o i. let z : 0 + j ≡ j = omega arith in ap (slice_get entries) z ∙ i) (p ∙ sym (ap (λ b. cond b 1 0) (none_below (nat_lt l 0) refl)))
      where
        none_below : (b : Bool) → nat_lt l 0 ≡ b → nat_lt l 0 ≡ false
        none_below false e = e
        none_below true e = absurd (let lt = ltb-true l 0 e in omega (arith, lt))

-- ---- what is seen, and what the machine passes

no_stop : (why : Stop) → status_of why ≡ 0 → ⊥
no_stop WrongType e = omega (arith, e)
no_stop OutOfRange e = omega (arith, e)
no_stop NotProcedure e = omega (arith, e)
no_stop WrongCount e = omega (arith, e)
no_stop DivideByZero e = omega (arith, e)
no_stop Overflow e = omega (arith, e)
no_stop HeapLimit e = omega (arith, e)
no_stop DepthLimit e = omega (arith, e)
no_stop Unset e = omega (arith, e)
no_stop OutputFailed e = omega (arith, e)

module _ (p : Source) (heap depth : ℕ) (covered : list_all is_covered_code p.bodies ≡ true) (entry : ℕ) (segments : List Segment) (marks_at : ℕ → List MarkKind) (runs : List Answer → ℕ → Run)
    (passes : PassesMarks entry segments marks_at (marks_passed p heap depth)) (follows : FollowsRuns entry segments runs) (are : AreRuns p heap depth runs) where
  abbrev outcome : List Answer → ℕ → Result
  outcome answers m = outcome_of (entries_of p.bodies) (bodies_of p.bodies) depth m (starting_world p.statics p.library heap answers m)

  procedures_by : (answers : List Answer) (m : ℕ) (events : List MarkKind) (result : Result) (r : Run)
      → Done p.bodies covered (λ k. Paid p.bodies covered m) (λ k. paid_stays p.bodies covered m) (λ label w e q. paid_form p.bodies covered m label w e q) (λ label w e i q. q) (0 + length (entries_of p.bodies)) result
      → seen_of answers m result ≡ Some r → ((marks : List MarkKind) → marks_of result ≡ Some marks → events ≡ marks) → count_by (enters_procedure (entries_of p.bodies)) events ≡ r.entries
  procedures_by answers m events None r paid e h = absurd (let bad : None ≡ Some r = e in cc)
  procedures_by answers m events (Some (gives v w)) r paid e h =
      let f : Some (run_with (ended 0) answers m w.state.store) ≡ Some r = e in
      let same : run_with (ended 0) answers m w.state.store ≡ r = cc in
      ap (count_by (enters_procedure (entries_of p.bodies))) (h w.marks refl) ∙ omega (arith, paid) ∙ ap (λ r. r.entries) same
  procedures_by answers m events (Some (stops why w)) r paid e h =
      let f : Some (run_with (ended (status_of why)) answers m w.state.store) ≡ Some r = e in
      let same : run_with (ended (status_of why)) answers m w.state.store ≡ r = cc in
      let q = paid.1 in
      ap (count_by (enters_procedure (entries_of p.bodies))) (h w.marks refl) ∙ omega (arith, q) ∙ ap (λ r. r.entries) same
  procedures_by answers m events (Some (spent w)) r paid e h =
      let f : Some (run_with going answers m w.state.store) ≡ Some r = e in
      let same : run_with going answers m w.state.store ≡ r = cc in
      let q = paid.1 in
      ap (count_by (enters_procedure (entries_of p.bodies))) (h w.marks refl) ∙ omega (arith, q) ∙ ap (λ r. r.entries) same

  module _ (l : ℕ) (is : slice_get (entries_of p.bodies) l ≡ Some None) where
    forms_by : (answers : List Answer) (m : ℕ) (events : List MarkKind) (result : Result) (r : Run)
        → Done p.bodies covered (Once p.bodies covered l is) (once_stays p.bodies covered l is) (once_form p.bodies covered l is) (once_other p.bodies covered l is) (0 + length (entries_of p.bodies)) result
        → seen_of answers m result ≡ Some r → r.end ≡ ended 0 → ((marks : List MarkKind) → marks_of result ≡ Some marks → events ≡ marks) → count_by (enters_body l) events ≡ 1
    forms_by answers m events None r once e i h = absurd (let bad : None ≡ Some r = e in cc)
    forms_by answers m events (Some (gives v w)) r once e i h =
        let lt = slice_get_within (entries_of p.bodies) l None is in
        ap (count_by (enters_body l)) (h w.marks refl) ∙ once ∙ ap (λ b. cond b 1 0) (lt-ltb l (0 + length (entries_of p.bodies)) (omega (arith, lt)))
    forms_by answers m events (Some (stops why w)) r once e i h =
        let f : Some (run_with (ended (status_of why)) answers m w.state.store) ≡ Some r = e in
        let same : run_with (ended (status_of why)) answers m w.state.store ≡ r = cc in
        let ends : ended (status_of why) ≡ ended 0 = ap (λ r. r.end) same ∙ i in
        absurd (no_stop why cc)
    forms_by answers m events (Some (spent w)) r once e i h =
        let f : Some (run_with going answers m w.state.store) ≡ Some r = e in
        let same : run_with going answers m w.state.store ≡ r = cc in
        let ends : going ≡ ended 0 = ap (λ r. r.end) same ∙ i in
        absurd cc

  pub counts_entries : CountsEntries entry segments marks_at (entries_of p.bodies) runs
  counts_entries = record {
    procedures = λ g answers m status output x.
        procedures_by answers m (flat_map marks_at (traced m (start entry segments g answers)).trace) (outcome answers m) (runs answers m)
        (procedures_paid p.bodies covered m m depth (starting_world p.statics p.library heap answers m) (let none : 0 + m ≡ m = omega arith in none)) (are.are answers m) (λ marks e. passes.all g answers m marks e status output x);
    forms = λ g answers m output x label is.
        let at = follows.covered g answers m in
        let exits = ap exit_of (sym (traced_progress m (start entry segments g answers))) ∙ x in
        forms_by label is answers m (flat_map marks_at (traced m (start entry segments g answers)).trace) (outcome answers m) (runs answers m)
        (form_once p.bodies covered label is m depth (starting_world p.statics p.library heap answers m) refl) (are.are answers m) ((at.end 0 output exits).0) (λ marks e. passes.all g answers m marks e 0 output x);
  }
