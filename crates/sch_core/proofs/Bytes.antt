-- Lists of bytes, and lists of names that a text sees.
use Rattle.std.proofs.Common.{◌≡◌, ℕ, suc, ◌+◌, ◌<◌, Bool, true, false, List, [], ◌∷◌, ◌++◌, length, drop, get_or, refl, sym, ◌∙◌, add-one}
use Rattle.std.proofs.lemmas.Bool.{and_from, lt-ltb}
use Rattle.std.proofs.lemmas.List.{map-append, append_assoc}
use Rattle.std.specs.Borrow.{Bor}
use Rattle.sch_word.specs.values.Values.{are_bytes}
use Rattle.sch_link_tables.specs.Programs.{is_hidden, seen}
use Rattle.sch_toplevel.specs.Views.{given}
use Rattle.sch_word.proofs.facts.Lists.{next_left}
use Rattle.sch_link_program.specs.Definitions.{definitions_of}
use Rattle.sch_link_program.specs.declared.definition.Definition.{Definition}

pub bytes_known : (xs : List ℕ) → ((i : ℕ) → get_or xs i 0 < 256) → are_bytes xs ≡ true
bytes_known [] h = refl
bytes_known (x ∷ xs) h = and_from _ _ (lt-ltb _ _ (h 0)) (bytes_known xs (λ i. h (suc i)))

module _ (ds : List Definition) (i : ℕ) (d : Definition) (l : i < length ds) (e : d ≡ get_or ds i d) (b : Bool) (h : b ≡ is_hidden d.name.now) where
  pub hidden_next : (names : List (Bor (List ℕ))) (r : List (List ℕ)) → b ≡ true → given names ++ seen (definitions_of (drop i ds)) ≡ r →
      given names ++ seen (definitions_of (drop (i + 1) ds)) ≡ r
  hidden_next names r t k =
      let k' = rw (next_left ds i d l e, sym h ∙ t) at k in
      rw add-one k'

  pub seen_next : (names names' : List (Bor (List ℕ))) (r : List (List ℕ)) → b ≡ false → names' ≡ names ++ d.name ∷ [] → given names ++ seen (definitions_of (drop i ds)) ≡ r →
      given names' ++ seen (definitions_of (drop (i + 1) ds)) ≡ r
  seen_next names names' r f p k =
      let k' = rw (next_left ds i d l e, sym h ∙ f) at k in
      rw (add-one, p, map-append, append_assoc) k'
