-- Paths put together: their steps are added, their events follow one another, and the bounded runs are
-- those along them.
use Rattle.std.proofs.Common.{◌≡◌, ℕ, zero, suc, ◌+◌, ◌<◌, ◌≤◌, List, [], ◌∷◌, ◌++◌, length, refl, sym, ap, ◌∙◌, subst, arith, append-nil, length-append}
use Rattle.std.specs.List.{flat_map}
use Rattle.std.proofs.lemmas.Grind.{flat_map-append}
use Rattle.sch_insn.specs.Machine.{State}
use Rattle.sch_insn.specs.Step.{Progress, Runs, Exited, Stuck, step, standing, go_on, mach}
use Rattle.sch_insn.specs.Path.{Path, passed, Leads, Exits, traced, traced_on}

-- ---- a traced run without its trace is the bounded run

erased_on : (n address : ℕ) (p : Progress) → ((s : State) → (traced n s).progress ≡ mach n s) → (traced_on address p (traced n)).progress ≡ go_on p (mach n)
erased_on n address (Runs s) h = h s
erased_on n address (Exited status s) h = refl
erased_on n address (Stuck cause s) h = refl

pub traced_progress : (n : ℕ) (s : State) → (traced n s).progress ≡ mach n s
traced_progress zero s = refl
traced_progress (suc n) s = erased_on n s.core.place (step s) (traced_progress n)

-- ---- paths

-- one path after another
pub path_append : (s : State) (us : List State) (t : State) (vs : List State) (v : State) → Path s us t → Path t vs v → Path s (us ++ vs) v
path_append s [] t vs v p q = subst (λ x. Path x vs v) (sym p) q
path_append s (u ∷ us) t vs v p q = (p.0, path_append u us t vs v p.1 q)

pub passed_append : (s : State) (us : List State) (t : State) (vs : List State) → Path s us t → passed s (us ++ vs) ≡ passed s us ++ passed t vs
passed_append s [] t vs p = ap (λ x. passed x vs) p
passed_append s (u ∷ us) t vs p = ap (λ l. s.core.place ∷ l) (passed_append u us t vs p.1)

-- a bounded run along a path goes on from its last state
pub path_mach : (s : State) (us : List State) (t : State) → Path s us t → (n : ℕ) → mach (length us + n) s ≡ mach n t
path_mach s [] t p n = let e : 0 + n ≡ n = omega arith in ap (λ k. mach k s) e ∙ ap (mach n) p
path_mach s (u ∷ us) t p n =
    let e : length (u ∷ us) + n ≡ suc (length us + n) = omega arith in
    ap (λ k. mach k s) e ∙ ap (λ x. go_on x (mach (length us + n))) p.0 ∙ path_mach u us t p.1 n

-- a traced run too, behind the addresses passed
pub path_traced : (s : State) (us : List State) (t : State) → Path s us t → (n : ℕ) → traced (length us + n) s ≡ record { progress = (traced n t).progress; trace = passed s us ++ (traced n t).trace }
path_traced s [] t p n = let e : 0 + n ≡ n = omega arith in ap (λ k. traced k s) e ∙ ap (traced n) p
path_traced s (u ∷ us) t p n =
    let e : length (u ∷ us) + n ≡ suc (length us + n) = omega arith in
    ap (λ k. traced k s) e
    ∙ ap (λ x. traced_on s.core.place x (traced (length us + n))) p.0
    ∙ ap (λ w. record { progress = w.progress; trace = s.core.place ∷ w.trace }) (path_traced u us t p.1 n)

-- A bounded run that is before the end of a path runs on, and the rest of the path leads on from there.
pub record Early (m : ℕ) (s t : State) : Type 0 where
  pub at : State
  pub runs : mach m s ≡ Runs at
  pub way : List State
  pub path : Path at way t

pub path_early : (m : ℕ) (s : State) (us : List State) (t : State) → Path s us t → m < length us → Early m s t
path_early m s [] t p lt = absurd (omega arith)
path_early zero s (u ∷ us) t p lt = record { at = s; runs = ap (standing s) p.0; way = u ∷ us; path = p }
path_early (suc m) s (u ∷ us) t p lt =
    let q = path_early m u us t p.1 (omega arith) in
    record { at = q.at; runs = ap (λ x. go_on x (mach m)) p.0 ∙ q.runs; way = q.way; path = q.path }

-- ---- ends

-- an exit behind a path
pub path_exits : (s : State) (us : List State) (t : State) {status : ℕ} {output : List ℕ} → Path s us t → Exits t status output → Exits s status output
path_exits s us t p x = record { way = us ++ x.way; last = x.last; path = path_append s us t x.way x.last p x.path; exits = x.exits; output_is = x.output_is }

pub exits_here : (s : State) (status : ℕ) → step s ≡ Exited status s → Exits s status s.output
exits_here s status e = record { way = []; last = s; path = refl; exits = e; output_is = refl }

-- the bounded run to an exit
pub exits_mach : {s : State} {status : ℕ} {output : List ℕ} (x : Exits s status output) → mach (length x.way + 1) s ≡ Exited status x.last
exits_mach {s} x = path_mach s x.way x.last x.path 1 ∙ ap (λ p. go_on p (mach 0)) x.exits

-- ---- between two states

module _ {E : Type 0} (events_at : ℕ → List E) where
  -- without a step
  pub leads_here : (s : State) → Leads events_at 0 0 [] s s
  leads_here s = record { way = []; path = refl; at_least = omega arith; at_most = omega arith; events_are = refl }

  -- by one step
  pub leads_step : (s t : State) (events : List E) → step s ≡ Runs t → events_at s.core.place ≡ events → Leads events_at 1 1 events s t
  leads_step s t events e m = record { way = t ∷ []; path = (e, refl); at_least = omega arith; at_most = omega arith; events_are = append-nil (events_at s.core.place) ∙ m }

  -- from one state to a second, and from there to a third
  pub leads_then : {s t u : State} {a b c d : ℕ} {e f : List E} → Leads events_at a b e s t → Leads events_at c d f t u → Leads events_at (a + c) (b + d) (e ++ f) s u
  leads_then {s} {t} {u} {a} {b} {c} {d} {e} {f} p q =
      let size = length-append p.way q.way in
      record {
        way = p.way ++ q.way;
        path = path_append s p.way t q.way u p.path q.path;
        at_least = omega (arith, p.at_least, q.at_least, size);
        at_most = omega (arith, p.at_most, q.at_most, size);
        events_are = ap (flat_map events_at) (passed_append s p.way t q.way p.path)
            ∙ flat_map-append events_at (passed s p.way) (passed t q.way)
            ∙ ap (λ l. l ++ flat_map events_at (passed t q.way)) p.events_are
            ∙ ap (λ l. e ++ l) q.events_are;
      }

  -- the same where nothing happens on the second way
  pub leads_on : {s t u : State} {a b c d : ℕ} {e : List E} → Leads events_at a b e s t → Leads events_at c d [] t u → Leads events_at (a + c) (b + d) e s u
  leads_on {s} {t} {u} {a} {b} {c} {d} {e} p q = subst (λ l. Leads events_at (a + c) (b + d) l s u) (append-nil e) (leads_then p q)

  -- with wider bounds
  pub leads_within : {s t : State} {a b k l : ℕ} {e : List E} → Leads events_at a b e s t → k ≤ a → b ≤ l → Leads events_at k l e s t
  leads_within p low high = record { way = p.way; path = p.path; at_least = omega (arith, p.at_least); at_most = omega (arith, p.at_most); events_are = p.events_are }

  -- to an exit
  pub leads_exits : {s t : State} {a b status : ℕ} {e : List E} {output : List ℕ} → Leads events_at a b e s t → Exits t status output → Exits s status output
  leads_exits {s} {t} p x = path_exits s p.way t p.path x
