-- The events of a bounded run on a path.
use Rattle.std.proofs.Common.{◌≡◌, ℕ, zero, suc, ◌+◌, ◌<◌, ◌≤◌, List, [], ◌∷◌, ◌++◌, length, Some, refl, sym}
use Rattle.std.proofs.Common.{ap, ◌∙◌, arith, append_assoc, append-nil, ⊎_elim, ◌⊎◌}
use Rattle.std.specs.List.{flat_map}
use Rattle.std.proofs.lemmas.Bool.{cases_lt}
use Rattle.std.proofs.lemmas.Grind.{flat_map-append}
use Rattle.std.proofs.lemmas.Option.{none-some}
use Rattle.sch_insn.specs.Behaves.{exit_of}
use Rattle.sch_insn.specs.Machine.{State}
use Rattle.sch_insn.specs.Path.{Path, passed, traced, traced_on}
use Rattle.sch_insn.specs.Step.{Progress, Runs, Exited, Stuck, step, standing}
use Rattle.sch_insn.proofs.Paths.{path_traced}
use Rattle.sch_select.specs.Marks.{IsBeginning}

-- a path is cut after m steps
record Cut (m : ℕ) (s t : State) (us : List State) : Type 0 where
  front : List State
  back : List State
  at : State
  path : Path s front at
  count : length front ≡ m
  passed_is : passed s us ≡ passed s front ++ passed at back

cut : (m : ℕ) (s t : State) (us : List State) → Path s us t → m ≤ length us → Cut m s t us
cut zero s t us p le = record { front = []; back = us; at = s; path = refl; count = refl; passed_is = refl }
cut (suc m) s t [] p le = absurd (omega arith)
cut (suc m) s t (u ∷ us) p le =
    let c = cut m u t us p.1 (omega arith) in
    record {
      front = u ∷ c.front;
      back = c.back;
      at = c.at;
      path = (p.0, c.path);
      count = ap suc c.count;
      passed_is =
          ap (λ l. s.core.place ∷ l) c.passed_is;
    }

pub no_exit : (s : State) (p : Progress) (status : ℕ) (output : List ℕ) → exit_of (standing s p) ≡ Some (status, output) → ⊥
no_exit s (Runs t) status output e = none-some (status, output) e
no_exit s (Exited k t) status output e = none-some (status, output) e
no_exit s (Stuck cause t) status output e = none-some (status, output) e

module _ {E : Type 0} (events_at : ℕ → List E) where
  -- From s a path passes a beginning of some events. It has more than m steps, or the machine exits at its end and
  -- has passed all of them.
  pub record Passes (s : State) (m : ℕ) (events : List E) : Type 0 where
    pub way : List State
    pub last : State
    pub path : Path s way last
    pub rest : List E
    pub are : flat_map events_at (passed s way) ++ rest ≡ events
    pub ends : (m < length way) ⊎ ((status : ℕ) × (step last ≡ Exited status last) × (events_at last.core.place ≡ [])
        × (rest ≡ []))

  -- what a bounded run has passed, and all where it has exited
  pub record Traces (s : State) (m : ℕ) (events : List E) : Type 0 where
    pub begins : IsBeginning (flat_map events_at (traced m s).trace) events
    pub all : (status : ℕ) (output : List ℕ) → exit_of (traced m s).progress ≡ Some (status, output)
        → flat_map events_at (traced m s).trace ≡ events

  -- the bounded run is on the path
  on_path : (s last : State) (m : ℕ) (way : List State) (rest events : List E) → Path s way last → m ≤ length way
      → flat_map events_at (passed s way) ++ rest ≡ events → Traces s m events
  on_path s last m way rest events path le are =
      let c = cut m s last way path le in
      let z : m ≡ length c.front + 0 = (let n = c.count in omega (arith, n)) in
      let t = path_traced s c.front c.at c.path 0 in
      let trace : (traced m s).trace ≡ passed s c.front = ap (λ m. (traced m s).trace) z ∙ ap (λ w. w.trace) t
      ∙ append-nil (passed s c.front) in
      let progress : (traced m s).progress ≡ standing c.at (step c.at) = ap (λ m. (traced m s).progress) z
      ∙ ap (λ w. w.progress) t in
      let split : flat_map events_at (passed s way) ≡ flat_map events_at (passed s c.front) ++ flat_map events_at
      (passed c.at c.back) = ap (flat_map events_at) c.passed_is
      ∙ flat_map-append events_at (passed s c.front) (passed c.at c.back) in
      record {
        begins = record {
          rest = flat_map events_at (passed c.at c.back) ++ rest;
          whole = ap (λ l. flat_map events_at l ++ (flat_map events_at (passed c.at c.back) ++ rest)) trace
              ∙ sym (append_assoc (flat_map events_at (passed s c.front)) (flat_map events_at (passed c.at c.back))
              rest) ∙ ap (λ l. l ++ rest) (sym split) ∙ are;
        };
        all = λ status output e. absurd (no_exit c.at (step c.at) status output (ap exit_of (sym progress) ∙ e));
      }

  pub traces : (s : State) (m : ℕ) (events : List E) → Passes s m events → Traces s m events
  traces s m events p = ⊎_elim (λ lt. on_path s p.last m p.way p.rest events p.path (omega (arith, lt)) p.are) exited
      p.ends
    where
      exited : (status : ℕ) × (step p.last ≡ Exited status p.last) × (events_at p.last.core.place ≡ [])
          × (p.rest ≡ []) → Traces s m events
      exited x = ⊎_elim past (λ le. on_path s p.last m p.way p.rest events p.path le p.are) (cases_lt (length p.way) m)
        where
          past : length p.way < m → Traces s m events
          past lt = by (behind (length p.way) m lt)
            where
              behind : (k m : ℕ) → k < m → (j : ℕ) × (m ≡ k + suc j)
              behind zero zero lt = absurd (omega (arith, lt))
              behind zero (suc m) lt = (m, omega arith)
              behind (suc k) zero lt = absurd (omega (arith, lt))
              behind (suc k) (suc m) lt = let b = behind k m (omega (arith, lt)) in let e = b.1 in
                  (b.0, omega (arith, e))

              by : (j : ℕ) × (m ≡ length p.way + suc j) → Traces s m events
              by b =
                  let t = path_traced s p.way p.last p.path (suc b.0) in
                  let last : traced (suc b.0) p.last ≡ record {
                    progress = Exited x.0 p.last;
                    trace =
                        p.last.core.place ∷ [];
                  } = ap (λ q. traced_on p.last.core.place q (traced b.0)) x.1 in
                  let trace : (traced m s).trace ≡ passed s p.way ++ p.last.core.place ∷ [] = ap
                  (λ m. (traced m s).trace) b.1 ∙ ap (λ w. w.trace) t ∙ ap (λ w. passed s p.way ++ w.trace) last in
                  let silent : flat_map events_at (p.last.core.place ∷ []) ≡ [] = append-nil
                  (events_at p.last.core.place) ∙ x.2 in
                  let passes : flat_map events_at (traced m s).trace ≡ events =
                  ap (flat_map events_at) trace ∙ flat_map-append events_at (passed s p.way)
                  (p.last.core.place ∷ []) ∙ ap (λ l. flat_map events_at (passed s p.way) ++ l)
                  (silent ∙ sym x.3) ∙ p.are in
                  record {
                    begins = record {
                      rest = [];
                      whole = append-nil (flat_map events_at (traced m s).trace)
                          ∙ passes;
                    };
                    all = λ status output e. passes;
                  }
