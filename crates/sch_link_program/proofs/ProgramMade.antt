-- The program of definitions and forms, from the parts that were made.
use Rattle.std.proofs.Common.{◌≡◌, ℕ, Bool, true, false, cond, List, [], ◌∷◌, ◌++◌, length, map, Option, arith, refl, ap, sym, ◌∙◌, ◌&&◌, ◌||◌}
use Rattle.std.proofs.Math.Bool.{or-true}
use Rattle.std.proofs.lemmas.Bool.{and_parts}
use Rattle.sch_word.specs.declared.literal.Lit.{Lit}
use Rattle.sch_word.specs.values.Literals.{literals}
use Rattle.sch_word.specs.values.LiteralView.{literal}
use Rattle.sch_word.proofs.worked.LiteralRows.{literals_of_list}
use Rattle.sch_lang.specs.declared.tree.Exp.{Exp}
use Rattle.sch_lang.specs.declared.tree.Lambda.{Lambda}
use Rattle.sch_lang.specs.Tree.{Source}
use Rattle.sch_lang.specs.View.{expressions_of, lambdas_of}
use Rattle.sch_lang.specs.SourceView.{source_of}
use Rattle.sch_lang.specs.Valid.{constants_in_range, in_range, shaped, within_limits, sites_once, statics_known, is_valid}
use Rattle.sch_sketch.specs.Draft.{Drafts}
use Rattle.sch_names.specs.NamesView.{with_name}
use Rattle.sch_names.specs.Scope.{is_among, VariableNames}
use Rattle.sch_link_tables.specs.Named.{firsts, library_global, globals_in_each, symbols_in_each}
use Rattle.sch_link_tables.specs.Numbered.{numbered_each}
use Rattle.sch_link_tables.specs.Quoted.{literal_of, quotes_in_each}
use Rattle.sch_link_tables.specs.Sites.{widths_of_each}
use Rattle.sch_link_tables.specs.Programs.{Definition, globals_of_each, symbols_of_each, quotes_of_each, widths_of_definitions, procedures, starts, kept, held, named, program_with, program_of}
use Rattle.sch_link_tables.proofs.NameSteps.{firsts_append, then_named}
use Rattle.sch_link_program.proofs.NameSets.{among_firsts, among_either, kept_same, starts_same}
use Rattle.sch_link_drafts.proofs.NumberSteps.{literals_more, then_literals}

-- two walks over names, from none
pub both_named : (a b : List (List ℕ)) {n0 n1 n2 : List (List ℕ)} → n0 ≡ [] → n1 ≡ firsts n0 a → n2 ≡ firsts n1 b → n2 ≡ firsts [] (a ++ b)
both_named a b {n0} z p q = then_named a b n0 p q ∙ ap (λ n. firsts n (a ++ b)) z

-- the first of some names are added as the names are
then_first : (x : List ℕ) (seen names : List (List ℕ)) → firsts seen (with_name x names) ≡ with_name x (firsts seen names)
then_first x seen names = go (is_among x names) refl
  where
    go : (b : Bool) → is_among x names ≡ b → firsts seen (cond b names (names ++ x ∷ [])) ≡ with_name x (firsts seen names)
    go true h =
        let there : is_among x (firsts seen names) ≡ true = among_firsts x seen names ∙ ap (λ b. is_among x seen || b) h ∙ or-true (is_among x seen) in
        rw there refl
    go false h = firsts_append seen names (x ∷ [])

pub firsts_of_firsts : (seen names xs : List (List ℕ)) → firsts seen (firsts names xs) ≡ firsts (firsts seen names) xs
firsts_of_firsts seen names [] = refl
firsts_of_firsts seen names (x ∷ xs) = firsts_of_firsts seen (with_name x names) xs ∙ ap (λ n. firsts n xs) (then_first x seen names)

-- a walk over names from none, and then those that another walk has listed
pub also_named : (a b more : List (List ℕ)) {n0 n1 n2 : List (List ℕ)} → n0 ≡ [] → n1 ≡ firsts n0 a → n2 ≡ firsts n1 more → more ≡ firsts [] b → n2 ≡ firsts [] (a ++ b)
also_named a b more {n1 = n1} z p q h = both_named a b z p (q ∙ ap (firsts n1) h ∙ firsts_of_firsts n1 [] b)

-- two walks over what is listed, from nothing
both_listed : {A : Type 0} (a b : List A) {n0 n1 n2 : List A} → n0 ≡ [] → n1 ≡ n0 ++ a → n2 ≡ n1 ++ b → n2 ≡ a ++ b
both_listed a b z p q = q ∙ ap (λ n. n ++ b) (p ∙ ap (λ n. n ++ a) z)

-- ## What has numbers: from nothing, the library first

module _ (ds : List Definition) (own : List (List ℕ)) (forms : Drafts) (globals symbols : List (List ℕ)) (lits0 lits1 : List Lit) (sites0 sites1 : List ℕ) (z : lits0 ≡ []) (y : sites0 ≡ []) where
  pub library_made : (library : List Lambda) → lambdas_of library ≡ procedures globals symbols ds (length sites0) (length lits0) → lambdas_of library ≡ procedures globals symbols ds 0 0
  library_made library l = l ∙ rw (y, z) refl

  pub sites_made : (sites2 : List ℕ) → sites1 ≡ sites0 ++ widths_of_definitions ds → sites2 ≡ sites1 ++ widths_of_each forms → sites2 ≡ widths_of_definitions ds ++ widths_of_each forms
  sites_made sites2 w w' = both_listed (widths_of_definitions ds) (widths_of_each forms) y w w'

  module _ (q : map literal lits1 ≡ map literal lits0 ++ map (literal_of symbols) (quotes_of_each ds)) where
    pub literals_made : (lits2 : List Lit) → map literal lits2 ≡ map literal lits1 ++ map (literal_of symbols) (quotes_in_each forms) → map literal lits2 ≡ map (literal_of symbols) (quotes_of_each ds ++ quotes_in_each forms)
    literals_made lits2 q' =
        let f = literal_of symbols in
        then_literals f (quotes_of_each ds) (quotes_in_each forms) (map literal lits0) q q' ∙ ap (λ n. map literal n ++ map f (quotes_of_each ds ++ quotes_in_each forms)) z

    pub forms_made : (made : List Exp) (vs : VariableNames) → vs ≡ [] → sites1 ≡ sites0 ++ widths_of_definitions ds → expressions_of made ≡ numbered_each own globals symbols vs forms (length sites1) (length lits1) →
        expressions_of made ≡ numbered_each own globals symbols [] forms (length (widths_of_definitions ds)) (length (quotes_of_each ds))
    forms_made made vs v w m =
        let f = literal_of symbols in
        let width : length sites1 ≡ length (widths_of_definitions ds) = ap length (w ∙ ap (λ n. n ++ widths_of_definitions ds) y) in
        let quoted : length lits1 ≡ length (quotes_of_each ds) = omega (arith, literals_more f [] lits1 (quotes_of_each ds) (q ∙ ap (λ n. map literal n ++ map f (quotes_of_each ds)) z)) in
        m ∙ rw (width, quoted, v) refl

-- ## The program

module _ (ds : List Definition) (own held : List (List ℕ)) (forms : Drafts) (globals symbols : List (List ℕ)) where
  module _ (g : globals ≡ firsts [] (globals_of_each ds ++ globals_in_each own forms)) (s : symbols ≡ firsts [] (symbols_of_each ds ++ symbols_in_each forms)) where
    pub assembled : (symbol_list global_list : List (List ℕ)) (lits : List Lit) (sites : List ℕ) (starting : List (Option ℕ)) (library : List Lambda) (made : List Exp) →
        symbol_list ≡ symbols → global_list ≡ globals → lambdas_of library ≡ procedures globals symbols ds 0 0 →
        expressions_of made ≡ numbered_each own globals symbols [] forms (length (widths_of_definitions ds)) (length (quotes_of_each ds)) →
        sites ≡ widths_of_definitions ds ++ widths_of_each forms → map literal lits ≡ map (literal_of symbols) (quotes_of_each ds ++ quotes_in_each forms) →
        starting ≡ starts ds held global_list → source_of symbol_list lits starting library made sites ≡ program_with ds own held forms
    assembled symbol_list global_list lits sites starting library made a b l m w q t =
        let lambdas : lambdas_of library ≡ procedures (firsts [] (globals_of_each ds ++ globals_in_each own forms)) (firsts [] (symbols_of_each ds ++ symbols_in_each forms)) ds 0 0 = l ∙ rw (g, s) refl in
        let trees : expressions_of made ≡ numbered_each own (firsts [] (globals_of_each ds ++ globals_in_each own forms)) (firsts [] (symbols_of_each ds ++ symbols_in_each forms)) [] forms (length (widths_of_definitions ds)) (length (quotes_of_each ds)) = m ∙ rw (g, s) refl in
        λ i. record {
          statics = record {
            symbols = (a ∙ s) i;
            literals = (literals_of_list lits ∙ ap literals q ∙ ap (λ n. literals (map (literal_of n) (quotes_of_each ds ++ quotes_in_each forms))) s) i;
            globals = (t ∙ ap (starts ds held) (b ∙ g)) i;
          };
          library = lambdas i;
          forms = trees i;
          sites = w i;
        }

-- ## What is held and named, in any order

program_same : (ds : List Definition) (own hs hs' : List (List ℕ)) (forms : Drafts) → ((x : List ℕ) → is_among x hs ≡ is_among x hs') → program_with ds own hs forms ≡ program_with ds own hs' forms
program_same ds own hs hs' forms h =
    let p = program_with ds own hs forms in
    λ i. record {
      statics = record { symbols = p.statics.symbols; literals = p.statics.literals; globals = starts_same ds hs hs' h (firsts [] (globals_of_each ds ++ globals_in_each own forms)) i };
      library = p.library;
      forms = p.forms;
      sites = p.sites;
    }

pub whole_program : (ds some : List Definition) (own hs names empty : List (List ℕ)) (forms : Drafts) → empty ≡ [] → names ≡ firsts empty (globals_in_each own forms) → ((x : List ℕ) → is_among x hs ≡ is_among x (held ds own)) →
    some ≡ kept ds (names ++ map library_global hs) → program_with some own hs forms ≡ program_of ds own forms
whole_program ds some own hs names empty forms z n h k =
    let there : (x : List ℕ) → is_among (library_global x) (names ++ map library_global hs) ≡ is_among (library_global x) (named ds own forms) =
    λ x. among_either x names hs ∙ ap (λ b. is_among (library_global x) names || b) (h x)
    ∙ ap (λ l. is_among (library_global x) l || is_among x (held ds own)) (n ∙ ap (λ l. firsts l (globals_in_each own forms)) z)
    ∙ ap (λ b. b || is_among x (held ds own)) (among_firsts (library_global x) [] (globals_in_each own forms)) ∙ sym (among_either x (globals_in_each own forms) (held ds own)) in
    ap (λ l. program_with l own hs forms) (k ∙ kept_same ds (names ++ map library_global hs) (named ds own forms) there) ∙ program_same (kept ds (named ds own forms)) own hs (held ds own) forms h

-- ## Validity

-- the parts of validity
module _ (p q : Source) (h : p ≡ q) (v : is_valid q ≡ true) where
  valid : is_valid p ≡ true
  valid = ap is_valid h ∙ v

  after_range : (constants_in_range p && (shaped p && (within_limits p && (sites_once p && statics_known p)))) ≡ true
  after_range = (and_parts (in_range p) _ valid).1

  after_constants : (shaped p && (within_limits p && (sites_once p && statics_known p))) ≡ true
  after_constants = (and_parts (constants_in_range p) _ after_range).1

  after_shape : (within_limits p && (sites_once p && statics_known p)) ≡ true
  after_shape = (and_parts (shaped p) _ after_constants).1

  after_limits : (sites_once p && statics_known p) ≡ true
  after_limits = (and_parts (within_limits p) _ after_shape).1

  pub words : constants_in_range p ≡ true
  words = (and_parts _ _ after_range).0

  pub ranged : in_range p ≡ true
  ranged = (and_parts _ _ valid).0

  pub formed : shaped p ≡ true
  formed = (and_parts _ _ after_constants).0

  pub limited : within_limits p ≡ true
  limited = (and_parts _ _ after_shape).0

  pub sited : sites_once p ≡ true
  sited = (and_parts _ _ after_limits).0

  pub ready : statics_known p ≡ true
  ready = (and_parts _ _ after_limits).1
