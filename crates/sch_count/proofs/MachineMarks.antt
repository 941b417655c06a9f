-- A machine that is followed step by step, with the marks that it passes.
use Rattle.std.proofs.Common.{◌≡◌, ℕ, zero, suc, ◌+◌, ◌*◌, ◌-◌, ◌<◌, ◌≤◌, ◌^◌, List, [], ◌++◌, length, Option, Some, None, Result, Ok, Err, refl, sym, ap, ◌∙◌, subst, arith, append-nil}
use Rattle.std.specs.List.{flat_map}
use Rattle.std.proofs.lemmas.Grind.{flat_map-append}
use Rattle.sch_word.specs.declared.answer.Answer.{Answer}
use Rattle.sch_word.specs.declared.mark.MarkKind.{MarkKind}
use Rattle.sch_insn.specs.declared.state.StuckCause.{StuckCause}
use Rattle.sch_insn.specs.Machine.{State}
use Rattle.sch_insn.specs.Step.{Progress, Runs, Exited, Stuck, step, standing, go_on, mach}
use Rattle.sch_insn.specs.Path.{passed, Leads, traced, traced_on}
use Rattle.sch_insn.proofs.Paths.{leads_here, leads_step, leads_then, path_mach, path_traced}
use Rattle.sch_step.specs.declared.ends.Stuck.{Stuck as StuckAt}
use Rattle.sch_step.specs.declared.ends.StepEnd.TheVariants as step_end
use Rattle.sch_step.specs.declared.ends.RunEnd.{RunEnd}
use Rattle.sch_step.specs.declared.ends.RunEnd.TheVariants as run_end
use Rattle.sch_step.specs.declared.machine.Machine.{Machine}
use Rattle.sch_step.specs.Run.{Does, state_of}
use Rattle.sch_step.specs.Machine.{ComesTo, MachineRuns, MachineSteps, core_of, standing_of}
use Rattle.sch_step.proofs.Outlets.{quiet, then, weaker}
use Rattle.sch_step.proofs.MachineRuns.{comes_here}
use Rattle.sch_count.specs.declared.error.CountError.{CountError}
use Rattle.sch_count.specs.declared.error.CountError.TheVariants as count_error
use Rattle.sch_count.specs.declared.tally.Tally.{Tally}
use Rattle.sch_count.specs.Tallied.{TalliesMarks}
use Rattle.sch_count.proofs.AddressMarks.{flat_same}
use Rattle.sch_count.specs.TracedCounts.{Follows, RunsOn, marks_from, run_end_of, traced_from}

-- ---- one look, without a step

look_runs : (e : Progress) (t : State) → go_on e (mach 0) ≡ Runs t → e ≡ Runs t
look_runs (Runs s) t h = by (step s) h
  where
    by : (p : Progress) → standing s p ≡ Runs t → Runs s ≡ Runs t
    by (Runs u) h = h
    by (Exited status u) h = h
    by (Stuck cause u) h = absurd (let bad : Stuck cause u ≡ Runs t = h in cc)
look_runs (Exited status s) t h = h
look_runs (Stuck cause s) t h = h

look_exits : (e : Progress) (status : ℕ) (t : State) → go_on e (mach 0) ≡ Exited status t → e ≡ Exited status t
look_exits (Runs s) status t h = by (step s) h
  where
    by : (p : Progress) → standing s p ≡ Exited status t → Runs s ≡ Exited status t
    by (Runs u) h = h
    by (Exited other u) h = h
    by (Stuck cause u) h = absurd (let bad : Stuck cause u ≡ Exited status t = h in cc)
look_exits (Exited other s) status t h = h
look_exits (Stuck cause s) status t h = h

look_stuck : (e : Progress) (cause : StuckCause) (t : State) → go_on e (mach 0) ≡ Stuck cause t → (n : ℕ) → go_on e (mach n) ≡ Stuck cause t
look_stuck (Runs s) cause t h zero = h
look_stuck (Runs s) cause t h (suc n) = by (step s) h
  where
    by : (p : Progress) → standing s p ≡ Stuck cause t → go_on p (mach n) ≡ Stuck cause t
    by (Runs u) h = absurd (let bad : Runs s ≡ Stuck cause t = h in cc)
    by (Exited other u) h = absurd (let bad : Runs s ≡ Stuck cause t = h in cc)
    by (Stuck other u) h = h
look_stuck (Exited other s) cause t h n = h
look_stuck (Stuck other s) cause t h n = h

-- ---- some steps

-- From where it stood it has come to a state in n steps, and passed these marks.
pub record Followed (marks_at : ℕ → List MarkKind) (n : ℕ) (events : List MarkKind) (e : Progress) (s : State) : Type 0 where
  pub from : State
  pub begins : e ≡ Runs from
  pub leads : Leads (marks_at) n n events from s

module _ (marks_at : ℕ → List MarkKind) where
  followed_here : (e : Progress) (s : State) → e ≡ Runs s → Followed marks_at 0 [] e s
  followed_here e s h = record { from = s; begins = h; leads = leads_here (marks_at) s }

  followed_step : (n : ℕ) (events : List MarkKind) (e : Progress) (s t : State) → Followed marks_at n events e s → step s ≡ Runs t → Followed marks_at (n + 1) (events ++ marks_at s.core.place) e t
  followed_step n events e s t p h = record {
    from = p.from;
    begins = p.begins;
    leads = leads_then (marks_at) p.leads (leads_step (marks_at) s t (marks_at s.core.place) h refl);
  }

  module _ (n : ℕ) (events : List MarkKind) (e : Progress) (s : State) (p : Followed marks_at n events e s) where
    size : length p.leads.way ≡ n
    size = let low = p.leads.at_least in let high = p.leads.at_most in omega (arith, low, high)

    followed_mach : (k : ℕ) → go_on e (mach (n + k)) ≡ mach k s
    followed_mach k = ap (λ x. go_on x (mach (n + k))) p.begins ∙ ap (λ m. mach (m + k) p.from) (sym size) ∙ path_mach p.from p.leads.way s p.leads.path k

    followed_marks : (k : ℕ) → marks_from marks_at (n + k) e ≡ events ++ flat_map (marks_at) (traced k s).trace
    followed_marks k =
        ap (λ x. marks_from marks_at (n + k) x) p.begins
        ∙ ap (λ m. flat_map (marks_at) (traced (m + k) p.from).trace) (sym size)
        ∙ ap (λ t. flat_map (marks_at) t.trace) (path_traced p.from p.leads.way s p.leads.path k)
        ∙ flat_map-append marks_at (passed p.from p.leads.way) (traced k s).trace
        ∙ ap (λ l. l ++ flat_map (marks_at) (traced k s).trace) p.leads.events_are

    module _ (steps : ℕ) (before : n < steps) where
      left : ℕ
      left = steps - (n + 1)

      with_left : steps ≡ n + suc left
      unfolding left
      with_left = omega (arith, before)

      exits_mach : (status : ℕ) (u : State) → step s ≡ Exited status u → go_on e (mach steps) ≡ Exited status u
      exits_mach status u h = ap (λ m. go_on e (mach m)) with_left ∙ followed_mach (suc left) ∙ ap (λ x. go_on x (mach left)) h

      exits_marks : (status : ℕ) (u : State) → step s ≡ Exited status u → marks_from marks_at steps e ≡ events ++ marks_at s.core.place
      exits_marks status u h =
          ap (λ m. marks_from marks_at m e) with_left
          ∙ followed_marks (suc left)
          ∙ ap (λ x. events ++ flat_map (marks_at) (traced_on s.core.place x (traced left)).trace) h
          ∙ ap (λ l. events ++ l) (append-nil (marks_at s.core.place))

      stuck_mach : (cause : StuckCause) (u : State) → step s ≡ Stuck cause u → go_on e (mach steps) ≡ Stuck cause u
      stuck_mach cause u h = ap (λ m. go_on e (mach m)) with_left ∙ followed_mach (suc left) ∙ ap (λ x. go_on x (mach left)) h

    -- all steps are done
    rests_mach : (r : Progress) → mach 0 s ≡ r → go_on e (mach n) ≡ r
    rests_mach r h = let z : n ≡ n + 0 = omega arith in ap (λ m. go_on e (mach m)) z ∙ followed_mach 0 ∙ h

    rests_marks : marks_from marks_at n e ≡ events
    rests_marks = let z : n ≡ n + 0 = omega arith in ap (λ m. marks_from marks_at m e) z ∙ followed_marks 0 ∙ append-nil events

    comes : ComesTo n e (Runs s)
    comes = subst (λ x. ComesTo n x (Runs s)) (sym p.begins) (record { way = p.leads.way; last = s; path = p.leads.path; long = size; runs = refl })

-- ---- over an outlet

abbrev pub FollowsTo : (ℕ → List MarkKind) → ℕ → List MarkKind → Machine → Machine → (List ℕ → List Answer → List ℕ → List Answer → Type 0)
FollowsTo marks_at n events old new = λ b k b' k'. Followed marks_at n events (standing_of old b k) (state_of (core_of new) b' k')

module _ (marks_at : ℕ → List MarkKind) (are_counted : List MarkKind → Type 0) (steps : ℕ) (old : Machine) where
  -- no memory before the first step
  pub forgets_first : (ob : Option (List ℕ)) (ol : Option (List Answer)) (of : ℕ) → Does (Follows steps marks_at are_counted (Err count_error.Memory) old old) ob ob ol ol of of
  forgets_first ob ol of = quiet (Follows steps marks_at are_counted (Err count_error.Memory) old old) ob ol of (λ b k. (0, omega arith, comes_here (standing_of old b k)))

  module _ (new : Machine) (ob nb : Option (List ℕ)) (ol nl : Option (List Answer)) (of nf : ℕ) where
    pub first_runs : Does (MachineRuns 0 run_end.Spent old new) ob nb ol nl of nf → Does (FollowsTo marks_at 0 [] old new) ob nb ol nl of nf
    first_runs d = weaker (MachineRuns 0 run_end.Spent old new) (FollowsTo marks_at 0 [] old new) ob nb ol nl of nf
        (λ b k b' k' r. followed_here marks_at (standing_of old b k) (state_of (core_of new) b' k') (look_runs (standing_of old b k) (state_of (core_of new) b' k') r)) d

    pub first_exits : (status : ℕ) → are_counted [] → Does (MachineRuns 0 (run_end.Exited status) old new) ob nb ol nl of nf
        → Does (Follows steps marks_at are_counted (Ok status) old new) ob nb ol nl of nf
    first_exits status rows d = weaker (MachineRuns 0 (run_end.Exited status) old new) (Follows steps marks_at are_counted (Ok status) old new) ob nb ol nl of nf
        (λ b k b' k' r.
        let is = look_exits (standing_of old b k) status (state_of (core_of new) b' k') r in
        (ap (λ x. go_on x (mach steps)) is, subst (λ x. are_counted (marks_from marks_at steps x)) (sym is) rows))
        d

    pub first_stuck : (stuck : StuckAt) → Does (MachineRuns 0 (run_end.Stuck stuck) old new) ob nb ol nl of nf → Does (Follows steps marks_at are_counted (Err (count_error.Stuck stuck)) old new) ob nb ol nl of nf
    first_stuck stuck d = weaker (MachineRuns 0 (run_end.Stuck stuck) old new) (Follows steps marks_at are_counted (Err (count_error.Stuck stuck)) old new) ob nb ol nl of nf
        (λ b k b' k' r. look_stuck (standing_of old b k) stuck.cause (state_of (core_of new) b' k') r steps) d

  -- a machine that was followed to where it stands
  module _ (n : ℕ) (events : List MarkKind) (cur : Machine) (ob mb : Option (List ℕ)) (ol ml : Option (List Answer)) (of mf : ℕ)
      (on : RunsOn cur) (d : Does (FollowsTo marks_at n events old cur) ob mb ol ml of mf) where
    pub forgets : n ≤ steps → Does (Follows steps marks_at are_counted (Err count_error.Memory) old cur) ob mb ol ml of mf
    forgets l = weaker (FollowsTo marks_at n events old cur) (Follows steps marks_at are_counted (Err count_error.Memory) old cur) ob mb ol ml of mf
        (λ b k b' k' p. (n, l, subst (ComesTo n (standing_of old b k)) (sym (on b' k')) (comes marks_at n events (standing_of old b k) (state_of (core_of cur) b' k') p))) d

    module _ (new : Machine) (nb : Option (List ℕ)) (nl : Option (List Answer)) (nf : ℕ) where
      pub runs_on : Does (MachineSteps step_end.Ran cur new) mb nb ml nl mf nf → Does (FollowsTo marks_at (n + 1) (events ++ marks_at (core_of cur).place) old new) ob nb ol nl of nf
      runs_on q = then (FollowsTo marks_at n events old cur) (MachineSteps step_end.Ran cur new) (FollowsTo marks_at (n + 1) (events ++ marks_at (core_of cur).place) old new) ob mb nb ol ml nl of mf nf
          (λ b k b' k' b'' k'' p s. followed_step marks_at n events (standing_of old b k) (state_of (core_of cur) b' k') (state_of (core_of new) b'' k'') p (sym (ap (λ x. go_on x step) (on b' k')) ∙ s))
          d q

      pub exits : (status : ℕ) → n < steps → are_counted (events ++ marks_at (core_of cur).place)
          → Does (MachineSteps (step_end.Exited status) cur new) mb nb ml nl mf nf → Does (Follows steps marks_at are_counted (Ok status) old new) ob nb ol nl of nf
      exits status l rows q = then (FollowsTo marks_at n events old cur) (MachineSteps (step_end.Exited status) cur new) (Follows steps marks_at are_counted (Ok status) old new) ob mb nb ol ml nl of mf nf
          (λ b k b' k' b'' k'' p s.
          let here = state_of (core_of cur) b' k' in
          let there = state_of (core_of new) b'' k'' in
          let h : step here ≡ Exited status there = sym (ap (λ x. go_on x step) (on b' k')) ∙ s in (
            exits_mach marks_at n events (standing_of old b k) here p steps l status there h,
            subst are_counted (sym (exits_marks marks_at n events (standing_of old b k) here p steps l status there h)) rows,
          ))
          d q

      pub is_stuck : (stuck : StuckAt) → n < steps → Does (MachineSteps (step_end.Stuck stuck) cur new) mb nb ml nl mf nf
          → Does (Follows steps marks_at are_counted (Err (count_error.Stuck stuck)) old new) ob nb ol nl of nf
      is_stuck stuck l q = then (FollowsTo marks_at n events old cur) (MachineSteps (step_end.Stuck stuck) cur new) (Follows steps marks_at are_counted (Err (count_error.Stuck stuck)) old new) ob mb nb ol ml nl of mf nf
          (λ b k b' k' b'' k'' p s.
          stuck_mach marks_at n events (standing_of old b k) (state_of (core_of cur) b' k') p steps l stuck.cause (state_of (core_of new) b'' k'') (sym (ap (λ x. go_on x step) (on b' k')) ∙ s))
          d q

      -- where no step is left
      pub rests_spent : n ≡ steps → Does (MachineRuns 0 run_end.Spent cur new) mb nb ml nl mf nf → Does (Follows steps marks_at are_counted (Err count_error.Spent) old new) ob nb ol nl of nf
      rests_spent l q = then (FollowsTo marks_at n events old cur) (MachineRuns 0 run_end.Spent cur new) (Follows steps marks_at are_counted (Err count_error.Spent) old new) ob mb nb ol ml nl of mf nf
          (λ b k b' k' b'' k'' p s. ap (λ x. go_on (standing_of old b k) (mach x)) (sym l)
          ∙ rests_mach marks_at n events (standing_of old b k) (state_of (core_of cur) b' k') p (Runs (state_of (core_of new) b'' k'')) (sym (ap (λ x. go_on x (mach 0)) (on b' k')) ∙ s))
          d q

      pub rests_stuck : (stuck : StuckAt) → n ≡ steps → Does (MachineRuns 0 (run_end.Stuck stuck) cur new) mb nb ml nl mf nf
          → Does (Follows steps marks_at are_counted (Err (count_error.Stuck stuck)) old new) ob nb ol nl of nf
      rests_stuck stuck l q = then (FollowsTo marks_at n events old cur) (MachineRuns 0 (run_end.Stuck stuck) cur new) (Follows steps marks_at are_counted (Err (count_error.Stuck stuck)) old new) ob mb nb ol ml nl of mf nf
          (λ b k b' k' b'' k'' p s. ap (λ x. go_on (standing_of old b k) (mach x)) (sym l)
          ∙ rests_mach marks_at n events (standing_of old b k) (state_of (core_of cur) b' k') p (Stuck stuck.cause (state_of (core_of new) b'' k'')) (sym (ap (λ x. go_on x (mach 0)) (on b' k')) ∙ s))
          d q

      pub rests_exited : (status : ℕ) → n ≡ steps → are_counted events
          → Does (MachineRuns 0 (run_end.Exited status) cur new) mb nb ml nl mf nf → Does (Follows steps marks_at are_counted (Ok status) old new) ob nb ol nl of nf
      rests_exited status l rows q = then (FollowsTo marks_at n events old cur) (MachineRuns 0 (run_end.Exited status) cur new) (Follows steps marks_at are_counted (Ok status) old new) ob mb nb ol ml nl of mf nf
          (λ b k b' k' b'' k'' p s.
          let here = state_of (core_of cur) b' k' in
          let there = state_of (core_of new) b'' k'' in (
            ap (λ x. go_on (standing_of old b k) (mach x)) (sym l) ∙ rests_mach marks_at n events (standing_of old b k) here p (Exited status there) (sym (ap (λ x. go_on x (mach 0)) (on b' k')) ∙ s),
            subst are_counted (ap (λ x. marks_from marks_at x (standing_of old b k)) l) (subst are_counted (sym (rests_marks marks_at n events (standing_of old b k) here p)) rows),
          ))
          d q

      -- however a run of no step ends
      pub rests : (end : RunEnd) (result : Result ℕ CountError) → run_end_of result ≡ Some end → n ≡ steps → are_counted events → Does (MachineRuns 0 end cur new) mb nb ml nl mf nf
          → Does (Follows steps marks_at are_counted result old new) ob nb ol nl of nf
      rests end (Ok status) e l c q = let is : run_end.Exited status ≡ end = cc in rests_exited status l c (subst (λ x. Does (MachineRuns 0 x cur new) mb nb ml nl mf nf) (sym is) q)
      rests end (Err count_error.Spent) e l c q = let is : run_end.Spent ≡ end = cc in rests_spent l (subst (λ x. Does (MachineRuns 0 x cur new) mb nb ml nl mf nf) (sym is) q)
      rests end (Err (count_error.Stuck stuck)) e l c q = let is : run_end.Stuck stuck ≡ end = cc in rests_stuck stuck l (subst (λ x. Does (MachineRuns 0 x cur new) mb nb ml nl mf nf) (sym is) q)
      rests end (Err count_error.Memory) e l c q = absurd (let bad : None ≡ Some end = e in cc)

-- ---- the loop

-- In these steps the machine has passed the marks that the tally has.
pub record Counting (marks_at : ℕ → List MarkKind) (n : ℕ) (before now : Tally) (old cur : Machine) (ob mb : Option (List ℕ)) (ol ml : Option (List Answer)) (of mf : ℕ) : Type 0 where
  pub events : List MarkKind
  pub few : length events ≤ n * (2 ^ 64 - 1)
  pub tallies : TalliesMarks now events
  pub rows : length now.rows.items ≡ length before.rows.items
  pub on : RunsOn cur
  pub follows : Does (FollowsTo marks_at n events old cur) ob mb ol ml of mf

pub counting_starts : (marks_at : ℕ → List MarkKind) (t : Tally) (m : Machine) (ob : Option (List ℕ)) (ol : Option (List Answer)) (of : ℕ) → TalliesMarks t [] → RunsOn m → Counting marks_at 0 t t m m ob ob ol ol of of
counting_starts marks_at t m ob ol of h on = record {
  events = [];
  few = omega arith;
  tallies = h;
  rows = refl;
  on = on;
  follows = quiet (FollowsTo marks_at 0 [] m m) ob ol of (λ b k. followed_here marks_at (standing_of m b k) (state_of (core_of m) b k) (on b k));
}

-- there is room for the marks of one address more
pub one_address : (i n l : ℕ) (events : List MarkKind) → i < n → n < 2 ^ 64 → l < 2 ^ 64 → length events ≤ i * (2 ^ 64 - 1) → length events + l < 2 ^ 128 - 1
one_address i n l events a b c d = omega (arith, a, b, c, d)

-- ---- a count, behind one look

module _ (f g : ℕ → List MarkKind) (same : (a : ℕ) → f a ≡ g a) (A B : List MarkKind → Type 0) (weak : (l : List MarkKind) → A l → B l) (steps : ℕ) (old mid new : Machine) (b b' b'' : List ℕ) (k k' k'' : List Answer)
    (e : standing_of old b k ≡ standing_of mid b' k') where
  from_there : (result : Result ℕ CountError) → Follows steps f A result mid new b' k' b'' k'' → Follows steps g B result old new b k b'' k''
  from_there (Ok status) h = (
    ap (λ x. go_on x (mach steps)) e ∙ h.0,
    weak (marks_from g steps (standing_of old b k)) (subst A (ap (marks_from f steps) (sym e) ∙ flat_same f g same (traced_from steps (standing_of old b k)).trace) h.1),
  )
  from_there (Err count_error.Spent) h = ap (λ x. go_on x (mach steps)) e ∙ h
  from_there (Err (count_error.Stuck stuck)) h = ap (λ x. go_on x (mach steps)) e ∙ h
  from_there (Err count_error.Memory) h = (h.0, h.1, subst (λ x. ComesTo h.0 x (standing_of new b'' k'')) (sym e) h.2)

pub behind_look : (f g : ℕ → List MarkKind) → ((a : ℕ) → f a ≡ g a) → (A B : List MarkKind → Type 0) → ((l : List MarkKind) → A l → B l) → (steps : ℕ) (old mid new : Machine) (result : Result ℕ CountError)
    (ob mb nb : Option (List ℕ)) (ol ml nl : Option (List Answer)) (of mf nf : ℕ) → RunsOn mid → Does (MachineRuns 0 run_end.Spent old mid) ob mb ol ml of mf
    → Does (Follows steps f A result mid new) mb nb ml nl mf nf → Does (Follows steps g B result old new) ob nb ol nl of nf
behind_look f g same A B weak steps old mid new result ob mb nb ol ml nl of mf nf on p q =
    then (MachineRuns 0 run_end.Spent old mid) (Follows steps f A result mid new) (Follows steps g B result old new) ob mb nb ol ml nl of mf nf
    (λ b k b' k' b'' k'' r h. from_there f g same A B weak steps old mid new b b' b'' k k' k''
    (look_runs (standing_of old b k) (state_of (core_of mid) b' k') r ∙ sym (on b' k')) result h)
    p q
