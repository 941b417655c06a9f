-- What normalizing makes of a valid program runs as the program does.
use Rattle.std.proofs.Common.{◌≡◌, ℕ, zero, suc, Bool, true, List, [], ◌∷◌, ◌++◌, length, map, Some, refl, sym, ap, ◌∙◌, subst, arith}
use Rattle.std.specs.Prelude.{slice_get, nat_eq, nat_lt, ◌&&◌}
use Rattle.std.specs.List.{list_all, AllByRecursion}
use Rattle.std.proofs.lemmas.Bool.{eqb-true, ltb-true}
use Rattle.sch_word.specs.declared.answer.Answer.{Answer}
use Rattle.sch_word.specs.values.Values.{Value, unspecified}
use Rattle.sch_word.specs.values.Literals.{Literals, count_literals, literal_values}
use Rattle.sch_word.specs.trees.Bindings.{bound_to, scope_with}
use Rattle.sch_word.specs.runs.Computation.{Outcome, gives, stops, spent, State, on_value}
use Rattle.sch_word.specs.runs.Runs.{seen, starting_store, starting_state}
use Rattle.sch_word.specs.runs.Orders.{order_at}
use Rattle.sch_word.specs.trees.Shape.{names_known, well_formed, fits, is_width, max_variables}
use Rattle.sch_word.specs.trees.Shape as shapes
use Rattle.sch_word.proofs.values.LiteralObjects.{literal_values_length}
use Rattle.sch_word.proofs.facts.Booleans.{and_left, and_right}
use Rattle.sch_word.proofs.facts.Lists.{each_at, get_there}
use Rattle.sch_flat.specs.Tree.{Tree, Body, Source, count}
use Rattle.sch_flat.specs.Measures.{over, over_each, over_bodies, over_source, sites_of}
use Rattle.sch_word.specs.runs.Procedures.{Procedure, library_procedures}
use Rattle.sch_flat.specs.Valid.{has_fields, body_scoped, scoped_each, is_closed, is_formed, in_order, sited, ascending, body_fits, forms_fit}
use Rattle.sch_flat.specs.Run as flat
use Rattle.sch_control.specs.Meaning.{Result}
use Rattle.sch_control.specs.Run as control
use Rattle.sch_control.specs.Fits.{table_fits}
use Rattle.sch_control.specs.Valid.{entries_of}
use Rattle.sch_anf_laws.specs.Normal.{new_label, normal_bodies, normal_source, bound_rows, bound_rows_each, bound_rows_bodies, bound_rows_source}
use Rattle.sch_anf_laws.specs.SameRun.{SameRun}
use Rattle.sch_anf_laws.proofs.runs.Worlds.{Setting, Reached, Same, images, is_procedure_of}
use Rattle.sch_anf_laws.proofs.runs.Fine.{Fine, FineEach}
use Rattle.sch_anf_laws.proofs.runs.Bodies.{stands_at}
use Rattle.sch_anf_laws.proofs.runs.Ready.{every_left, every_right, Ordered, ordered, ordered_each, fine, fine_each, all_sites, all_sites_each}
use Rattle.sch_anf_laws.proofs.runs.Sites.{widths, rows_found, ordered_at}
use Rattle.sch_anf_laws.proofs.runs.Runs.{forms_same}

literal_there : (ls : Literals) (k : ℕ) → nat_lt k (count_literals ls) ≡ true → (v : Value) × (slice_get (literal_values ls 0) k ≡ Some v)
literal_there ls k h = get_there (literal_values ls 0) k (let m = ltb-true k (count_literals ls) h in omega (arith, m, literal_values_length ls 0))

-- what stays in the runs of a program under a table
abbrev setting : Source → List (List ℕ) → ℕ → Setting
setting p table heap = record {
  bodies = p.bodies;
  starts = p.starts;
  orders = order_at table;
  constants = record { heap = heap; symbols = p.statics.symbols; literals = literal_values p.statics.literals 0 };
  literals = count_literals p.statics.literals;
  literal = literal_there p.statics.literals;
}

module _ (p : Source) (closed : is_closed p ≡ true) (formed : is_formed p ≡ true) (ascends : in_order p ≡ true) (once : sited p ≡ true) (table : List (List ℕ))
    (fitting : table_fits (normal_source p) table ≡ true) (heap : ℕ) where
  abbrev a : Setting
  a = setting p table heap

  abbrev named : Tree → Bool
  named = over true (λ x y. x && y) (names_known (length p.statics.symbols) (count_literals p.statics.literals) (length p.statics.globals))

  abbrev well : Tree → Bool
  well = over true (λ x y. x && y) well_formed

  abbrev rest_formed : Bool
  rest_formed = over_source true (λ x y. x && y) (fits max_variables) p && (list_all body_fits p.bodies && forms_fit p.forms)

  names_good : over_source true (λ x y. x && y) (names_known (length p.statics.symbols) (count_literals p.statics.literals) (length p.statics.globals)) p ≡ true
  names_good = and_left _ (over_source true (λ x y. x && y) well_formed p && rest_formed) formed

  well_good : over_source true (λ x y. x && y) well_formed p ≡ true
  well_good = and_left _ rest_formed (and_right (over_source true (λ x y. x && y) (names_known (length p.statics.symbols) (count_literals p.statics.literals) (length p.statics.globals)) p) _ formed)

  at_body : (here : shapes.Shape → Bool) (bodies : List Body) (label : ℕ) (b : Body) → over_bodies true (λ x y. x && y) here bodies ≡ true → slice_get bodies label ≡ Some b
      → over true (λ x y. x && y) here b.code ≡ true
  at_body here [] label b h e = absurd (cc)
  at_body here (x ∷ bodies) zero b h e = let m : x ≡ b = cc in subst (λ (z : Body). over true (λ x y. x && y) here z.code ≡ true) m (and_left _ (over_bodies true (λ x y. x && y) here bodies) h)
  at_body here (x ∷ bodies) (suc label) b h e = at_body here bodies label b (and_right (over true (λ x y. x && y) here x.code) _ h) e

  abbrev Width : ℕ × ℕ → Type 0
  Width at = is_width (slice_get p.sites at.0) at.1 ≡ true

  abbrev Found : ℕ × List ℕ → Type 0
  Found r = bound_to r.0 (bound_rows_source p) ≡ Some r.1

  abbrev sites_bodies : List Body → List (ℕ × ℕ)
  sites_bodies = over_bodies [] (λ x y. x ++ y) shapes.site_of

  ordered_bodies : (bodies : List Body) (label : ℕ) (b : Body) → AllByRecursion Width (sites_bodies bodies) → AllByRecursion Found (bound_rows_bodies bodies) → slice_get bodies label ≡ Some b
      → Ordered (order_at table) b.code
  ordered_bodies [] label b s r e = absurd (cc)
  ordered_bodies (x ∷ bodies) zero b s r e =
      let m : x ≡ b = cc in
      subst (λ (z : Body). Ordered (order_at table) z.code) m
      (ordered (order_at table) Width Found (λ site width parts w f. ordered_at p table fitting site width parts w f) x.code (every_left Width (all_sites x.code) (sites_bodies bodies) s)
      (every_left Found (bound_rows x.code) (bound_rows_bodies bodies) r))
  ordered_bodies (x ∷ bodies) (suc label) b s r e =
      ordered_bodies bodies label b (every_right Width (all_sites x.code) (sites_bodies bodies) s) (every_right Found (bound_rows x.code) (bound_rows_bodies bodies) r) e

  sites_wide : AllByRecursion Width (sites_of p)
  sites_wide = widths p.sites (sites_of p) once

  all_rows : AllByRecursion Found (bound_rows_source p)
  all_rows = rows_found p once

  abbrev forms_scoped : Bool
  forms_scoped = scoped_each p.bodies p.forms [] 0

  abbrev library_scoped : Bool
  library_scoped = list_all (λ label. has_fields (slice_get p.bodies label) 0) p.library

  body_fine : (label : ℕ) (b : Body) → slice_get p.bodies label ≡ Some b → Fine a b.fields b.code (scope_with b.first b.formals [])
  body_fine label b e =
      fine a b.fields (length p.statics.symbols) (length p.statics.globals) b.code (scope_with b.first b.formals [])
      (each_at (body_scoped p.bodies) p.bodies label b (and_left (list_all (body_scoped p.bodies) p.bodies) (forms_scoped && library_scoped) closed) e)
      (at_body (names_known (length p.statics.symbols) (count_literals p.statics.literals) (length p.statics.globals)) p.bodies label b
      (and_left _ (over_each true (λ x y. x && y) (names_known (length p.statics.symbols) (count_literals p.statics.literals) (length p.statics.globals)) p.forms) names_good) e)
      (at_body well_formed p.bodies label b (and_left _ (over_each true (λ x y. x && y) well_formed p.forms) well_good) e)
      (ordered_bodies p.bodies label b (every_left Width (sites_bodies p.bodies) (all_sites_each p.forms) sites_wide)
      (every_left Found (bound_rows_bodies p.bodies) (bound_rows_each p.forms) all_rows) e)

  forms_fine : FineEach a 0 p.forms []
  forms_fine =
      fine_each a 0 (length p.statics.symbols) (length p.statics.globals) p.forms []
      (and_left forms_scoped library_scoped (and_right (list_all (body_scoped p.bodies) p.bodies) (forms_scoped && library_scoped) closed))
      (and_right (over_bodies true (λ x y. x && y) (names_known (length p.statics.symbols) (count_literals p.statics.literals) (length p.statics.globals)) p.bodies) _ names_good)
      (and_right (over_bodies true (λ x y. x && y) well_formed p.bodies) _ well_good)
      (ordered_each (order_at table) Width Found (λ site width parts w f. ordered_at p table fitting site width parts w f) p.forms
      (every_right Width (sites_bodies p.bodies) (all_sites_each p.forms) sites_wide) (every_right Found (bound_rows_bodies p.bodies) (bound_rows_each p.forms) all_rows))

  places : length p.starts ≡ count p.forms
  places = eqb-true (length p.starts) (count p.forms) (and_left (nat_eq (length p.starts) (count p.forms)) (ascending 0 (length p.bodies) p.starts) ascends)

  library_known : (labels : List ℕ) → list_all (λ label. has_fields (slice_get p.bodies label) 0) labels ≡ true → list_all (is_procedure_of p.bodies) (library_procedures labels) ≡ true
  library_known [] h = refl
  library_known (l ∷ labels) h =
      rw (and_left (has_fields (slice_get p.bodies l) 0) (list_all (λ label. has_fields (slice_get p.bodies label) 0) labels) h)
      (library_known labels (and_right (has_fields (slice_get p.bodies l) 0) (list_all (λ label. has_fields (slice_get p.bodies label) 0) labels) h))

  library_same : (labels : List ℕ) → images p.starts (library_procedures labels) ≡ library_procedures (map (new_label p.starts) labels)
  library_same [] = refl
  library_same (l ∷ labels) = ap (λ ps. record { label = new_label p.starts l; fields = [] } ∷ ps) (library_same labels)

  abbrev first_state : List Answer → ℕ → State Procedure
  first_state answers entries = starting_state (starting_store p.statics heap answers entries) (library_procedures p.library)

  started : (answers : List Answer) (entries : ℕ) → Reached a (first_state answers entries) (first_state answers entries)
  started answers entries = record {
    kept = λ i c e. e;
    constants = refl;
    known = library_known p.library (and_right forms_scoped library_scoped (and_right (list_all (body_scoped p.bodies) p.bodies) (forms_scoped && library_scoped) closed));
  }

  same_seen : (answers : List Answer) (entries : ℕ) (s : State Procedure) (o : Outcome (State Procedure) Value) (r : Result) → Same a s (on_value o (λ v t. gives unspecified t)) r
      → control.seen_of answers entries r ≡ Some (seen answers entries o)
  same_seen answers entries s (gives v t) r h = ap (λ r. control.seen_of answers entries r) h.1
  same_seen answers entries s (stops why t) r h = ap (λ r. control.seen_of answers entries r) h.1 ∙ rw h.2 refl
  same_seen answers entries s (spent t) r h = ap (λ r. control.seen_of answers entries r) h.1 ∙ rw h.2 refl

  pub run_same : (depth : ℕ) (answers : List Answer) (entries : ℕ) → control.run (normal_source p) heap depth answers entries ≡ Some (flat.run p table heap depth answers entries)
  run_same depth answers entries =
      ap (λ ps. control.seen_of answers entries (control.outcome_of (entries_of (normal_source p).bodies) (control.bodies_of (normal_source p).bodies) depth entries
      (record { state = starting_state (starting_store p.statics heap answers entries) ps; marks = [] }))) (sym (library_same p.library))
      ∙ same_seen answers entries (first_state answers entries) (flat.outcome p table heap depth answers entries) _
      (forms_same a (normal_bodies p.starts 0 p.bodies p.forms p.starts)
      (λ label b e. stands_at p.starts p.forms p.bodies places (and_right (nat_eq (length p.starts) (count p.forms)) (ascending 0 (length p.bodies) p.starts) ascends) label b e) body_fine
      p.forms p.starts p.bodies 0 places entries depth 0 [] unspecified (first_state answers entries) [] forms_fine refl refl (started answers entries))

pub normal_runs : (p : Source) → is_closed p ≡ true → is_formed p ≡ true → in_order p ≡ true → sited p ≡ true → SameRun p (normal_source p)
normal_runs p closed formed ascends once = record { same = λ table fitting heap depth answers entries. run_same p closed formed ascends once table fitting heap depth answers entries }
