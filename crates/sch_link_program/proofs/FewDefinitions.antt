-- What is kept of few definitions are few, none of them has more formals than those had, nor variables that are farther; and what
-- has numbers in definitions is no more than their nodes.
use Rattle.std.proofs.Common.{◌≡◌, ◌<◌, ◌≤◌, ◌^◌, ℕ, zero, suc, ◌+◌, Bool, true, false, List, [], ◌∷◌, ◌++◌, length, get_or, map, refl, sym, ap, subst, arith, length-append}
use Rattle.std.proofs.lemmas.Bool.{leb-true, and_parts, and_from}
use Rattle.std.proofs.lemmas.List.{length-map}
use Rattle.sch_word.specs.trees.Shape.{max_operands}
use Rattle.sch_names.specs.Scope.{is_among}
use Rattle.sch_word.specs.values.Literals.{Literal}
use Rattle.sch_word.specs.values.LiteralView.{literal}
use Rattle.sch_read.specs.Grammar.{Datum}
use Rattle.sch_sketch.specs.Draft.{Drafts}
use Rattle.sch_sketch.specs.DraftMeasures.{size_each}
use Rattle.sch_link_tables.specs.Named.{firsts, library_global, globals_in_each, symbols_in, symbols_in_each}
use Rattle.sch_link_tables.specs.Programs.{Definition, kept, with_definition, globals_of_each, symbols_of_each, quotes_of_each, widths_of_definitions, procedures_of_each}
use Rattle.sch_link_tables.specs.Room.{HasRoom, has_near_variables}
use Rattle.sch_sketch.specs.DraftView.{draft_of}
use Rattle.sch_link_tables.specs.declared.tables.Output.{Output}
use Rattle.sch_link_tables.proofs.FewNumbers.{firsts_length, few_globals_of_each, few_quotes_of_each, few_widths_of_each}
use Rattle.sch_link_drafts.proofs.NumberSteps.{sites_more, literals_more}
use Rattle.sch_link_program.specs.declared.definition.Definition as code
use Rattle.sch_link_program.specs.declared.definition.KeptDefinition.{KeptDefinition}
use Rattle.sch_link_program.specs.Definitions.{definition_of, definitions_of, kept_of, kept_definitions}
use Rattle.sch_link_program.specs.Size.{size_of_definitions, have_few_formals, have_near_bodies}
use Rattle.sch_link_program.proofs.ProgramSize.{kept_size}

-- ## How many

with_shorter : (b : Bool) (d : Definition) (ds ks : List Definition) → length ks ≤ length ds → length (with_definition b d ks) ≤ suc (length ds)
with_shorter true d ds ks l = omega (arith, l)
with_shorter false d ds ks l = omega (arith, l)

pub kept_shorter : (ds : List Definition) (named : List (List ℕ)) → length (kept ds named) ≤ length ds
kept_shorter [] named = omega arith
kept_shorter (d ∷ ds) named =
    with_shorter (is_among (library_global d.name) (named ++ globals_of_each (kept ds named))) d ds (kept ds named) (kept_shorter ds named)

pub kept_few : (ks : List KeptDefinition) (ds : List code.Definition) (named : List (List ℕ)) → kept_definitions ks ≡ kept (definitions_of ds) named → length ks ≤ length ds
kept_few ks ds named e =
    let k : length (kept_definitions ks) ≡ length (kept (definitions_of ds) named) = ap length e in
    omega (arith, k, length-map ks kept_of, kept_shorter (definitions_of ds) named, length-map ds definition_of)

-- ## Formals

with_formals : (b : Bool) (d : Definition) (ks : List Definition) → have_few_formals (d ∷ []) ≡ true → have_few_formals ks ≡ true → have_few_formals (with_definition b d ks) ≡ true
with_formals true d ks h k = and_from _ _ (and_parts _ _ h).0 k
with_formals false d ks h k = k

kept_formals : (ds : List Definition) (named : List (List ℕ)) → have_few_formals ds ≡ true → have_few_formals (kept ds named) ≡ true
kept_formals [] named h = refl
kept_formals (d ∷ ds) named h =
    let p = and_parts _ _ h in
    with_formals (is_among (library_global d.name) (named ++ globals_of_each (kept ds named))) d (kept ds named) (and_from _ _ p.0 refl) (kept_formals ds named p.1)

pub kept_have_few : (ks : List KeptDefinition) (ds : List code.Definition) (named : List (List ℕ)) → kept_definitions ks ≡ kept (definitions_of ds) named →
    have_few_formals (definitions_of ds) ≡ true → have_few_formals (kept_definitions ks) ≡ true
kept_have_few ks ds named e h = subst (λ l. have_few_formals l ≡ true) (sym e) (kept_formals (definitions_of ds) named h)

pub formals_at : (ds : List KeptDefinition) (i : ℕ) (d : KeptDefinition) → i < length ds → d ≡ get_or ds i d → have_few_formals (kept_definitions ds) ≡ true → d.formals ≤ max_operands
formals_at [] i d l e h = absurd (omega (arith, l))
formals_at (x ∷ ds) zero d l e h = subst (λ y. y.formals ≤ max_operands) (sym e) (leb-true x.formals max_operands (and_parts _ _ h).0)
formals_at (x ∷ ds) (suc i) d l e h = formals_at ds i d (omega (arith, l)) e (and_parts _ _ h).1

-- ## Variables

with_near : (b : Bool) (d : Definition) (ks : List Definition) → has_near_variables d.body ≡ true → have_near_bodies ks ≡ true → have_near_bodies (with_definition b d ks) ≡ true
with_near true d ks h k = and_from (has_near_variables d.body) (have_near_bodies ks) h k
with_near false d ks h k = k

kept_near : (ds : List Definition) (named : List (List ℕ)) → have_near_bodies ds ≡ true → have_near_bodies (kept ds named) ≡ true
kept_near [] named h = refl
kept_near (d ∷ ds) named h =
    let p = and_parts (has_near_variables d.body) (have_near_bodies ds) h in
    with_near (is_among (library_global d.name) (named ++ globals_of_each (kept ds named))) d (kept ds named) p.0 (kept_near ds named p.1)

pub kept_bodies : (ks : List KeptDefinition) (ds : List code.Definition) (named : List (List ℕ)) → kept_definitions ks ≡ kept (definitions_of ds) named →
    have_near_bodies (definitions_of ds) ≡ true → have_near_bodies (kept_definitions ks) ≡ true
kept_bodies ks ds named e h = subst (λ l. have_near_bodies l ≡ true) (sym e) (kept_near (definitions_of ds) named h)

pub variables_at : (ds : List KeptDefinition) (i : ℕ) (d : KeptDefinition) → i < length ds → d ≡ get_or ds i d → have_near_bodies (kept_definitions ds) ≡ true → has_near_variables (draft_of d.body.now) ≡ true
variables_at [] i d l e h = absurd (omega (arith, l))
variables_at (x ∷ ds) zero d l e h =
    subst (λ y. has_near_variables (draft_of y.body.now) ≡ true) (sym e) (and_parts (has_near_variables (draft_of x.body.now)) (have_near_bodies (kept_definitions ds)) h).0
variables_at (x ∷ ds) (suc i) d l e h =
    variables_at ds i d (omega (arith, l)) e (and_parts (has_near_variables (draft_of x.body.now)) (have_near_bodies (kept_definitions ds)) h).1

-- ## What has numbers

with_symbols : (b : Bool) (d : Definition) (ds ks : List Definition) → length (symbols_of_each ks) ≤ length (symbols_of_each ds) →
    length (symbols_of_each (with_definition b d ks)) ≤ length (symbols_of_each (d ∷ ds))
with_symbols true d ds ks l = omega (arith, l, length-append (symbols_in d.body) (symbols_of_each ks), length-append (symbols_in d.body) (symbols_of_each ds))
with_symbols false d ds ks l = omega (arith, l, length-append (symbols_in d.body) (symbols_of_each ds))

kept_symbols : (ds : List Definition) (named : List (List ℕ)) → length (symbols_of_each (kept ds named)) ≤ length (symbols_of_each ds)
kept_symbols [] named = omega arith
kept_symbols (d ∷ ds) named =
    with_symbols (is_among (library_global d.name) (named ++ globals_of_each (kept ds named))) d ds (kept ds named) (kept_symbols ds named)

-- ## What is kept of definitions, and forms

module _ (ks : List KeptDefinition) (ds : List code.Definition) (named : List (List ℕ)) (e : kept_definitions ks ≡ kept (definitions_of ds) named) (forms : Drafts) where
  pub kept_small : size_of_definitions (definitions_of ds) + size_each forms < 2 ^ 32 → size_of_definitions (kept_definitions ks) + size_each forms < 2 ^ 32
  kept_small l =
      let n : size_of_definitions (kept_definitions ks) ≡ size_of_definitions (kept (definitions_of ds) named) = ap size_of_definitions e in
      omega (arith, l, n, kept_size (definitions_of ds) named)

  pub kept_few_symbols : length (symbols_of_each (definitions_of ds) ++ symbols_in_each forms) < 2 ^ 32 → length (symbols_of_each (kept_definitions ks) ++ symbols_in_each forms) < 2 ^ 32
  kept_few_symbols l =
      let n : length (symbols_of_each (kept_definitions ks)) ≡ length (symbols_of_each (kept (definitions_of ds) named)) = ap (λ k. length (symbols_of_each k)) e in
      omega (
        arith,
        l,
        n,
        kept_symbols (definitions_of ds) named,
        length-append (symbols_of_each (kept_definitions ks)) (symbols_in_each forms),
        length-append (symbols_of_each (definitions_of ds)) (symbols_in_each forms),
      )

-- ## Names and room

module _ (ds : List Definition) (forms : Drafts) (small : size_of_definitions ds + size_each forms < 2 ^ 32) where
  pub few_globals_named : (own : List (List ℕ)) {names : List (List ℕ)} → names ≡ firsts [] (globals_of_each ds ++ globals_in_each own forms) → length names < 2 ^ 32
  few_globals_named own {names} h =
      let n : length names ≡ length (firsts [] (globals_of_each ds ++ globals_in_each own forms)) = ap length h in
      omega (
        arith,
        small,
        n,
        firsts_length (globals_of_each ds ++ globals_in_each own forms) [],
        length-append (globals_of_each ds) (globals_in_each own forms),
        few_globals_of_each [] (procedures_of_each ds),
        few_globals_of_each own forms,
      )

  -- where nothing has a number yet, and behind the definitions
  module _ (out : Output) (sites : out.sites ≡ []) (literals : out.literals ≡ []) where
    pub room_for_definitions : HasRoom out (size_of_definitions ds)
    room_for_definitions =
        let s : length out.sites ≡ 0 = ap length sites in
        let l : length out.literals ≡ 0 = ap length literals in
        record { sites = omega (arith, small, s); literals = omega (arith, small, l) }

    pub room_for_forms : (out' : Output) (f : Datum → Literal) → out'.sites ≡ out.sites ++ widths_of_definitions ds → map literal out'.literals ≡ map literal out.literals ++ map f (quotes_of_each ds) → HasRoom out' (size_each forms)
    room_for_forms out' f h k =
        let s : length out.sites ≡ 0 = ap length sites in
        let l : length out.literals ≡ 0 = ap length literals in
        record {
          sites = omega (arith, small, s, sites_more out.sites _ h, few_widths_of_each (procedures_of_each ds));
          literals = omega (arith, small, l, literals_more f out.literals _ _ k, few_quotes_of_each (procedures_of_each ds));
        }

pub few_symbols_named : (xs : List (List ℕ)) {names : List (List ℕ)} → length xs < 2 ^ 32 → names ≡ firsts [] xs → length names < 2 ^ 32
few_symbols_named xs {names} l h =
    let n : length names ≡ length (firsts [] xs) = ap length h in
    omega (arith, l, n, firsts_length xs [])
