-- The symbols of data are those of their nodes, one after the other.
use Rattle.std.proofs.Common.{◌≡◌, ℕ, ◌≤◌, List, [], ◌∷◌, ◌++◌, length, drop, refl, sym, ap, ◌∙◌}
use Rattle.std.proofs.lemmas.List.{append_assoc, append-nil, drop_all}
use Rattle.std.proofs.lemmas.Grind.{flat_map-append}
use Rattle.std.specs.Borrow.{Bor}
use Rattle.std.specs.List.{flat_map}
use Rattle.sch_word.specs.trees.InOrder.{AreInOrder, none as no_nodes, next}
use Rattle.sch_read.specs.Grammar.{Datum, Data, atom, list, dotted, vector, none, cons, text as text_atom, symbol as symbol_atom}
use Rattle.sch_read.specs.DatumParts.{each_of, parts, lent_trees}
use Rattle.sch_read.specs.declared.datum.Datum as code
use Rattle.sch_link_tables.specs.Named.{firsts, symbols_at, symbols_of_datum, symbols_of_data}

-- the symbols that are nodes, and those in trees
abbrev pub symbols_of_nodes : List Datum → List (List ℕ)
symbols_of_nodes ds = flat_map symbols_at ds

abbrev symbols_of_trees : List Datum → List (List ℕ)
symbols_of_trees ds = flat_map symbols_of_datum ds

each_symbols : (ds : Data) → symbols_of_trees (each_of ds) ≡ symbols_of_data ds
each_symbols none = refl
each_symbols (cons d ds) = ap (λ l. symbols_of_datum d ++ l) (each_symbols ds)

-- a datum's own symbol, and those of its parts
of_parts : (d : Datum) → symbols_at d ++ symbols_of_trees (parts d) ≡ symbols_of_datum d
of_parts (atom at a) = append-nil _
of_parts (list at ds) = each_symbols ds
of_parts (dotted at ds last) =
    flat_map-append symbols_of_datum (each_of ds) (last ∷ []) ∙ ap (λ l. l ++ (symbols_of_datum last ++ [])) (each_symbols ds)
    ∙ ap (λ l. symbols_of_data ds ++ l) (append-nil (symbols_of_datum last))
of_parts (vector at ds) = each_symbols ds

in_order : (nodes trees : List Datum) → AreInOrder parts nodes trees → symbols_of_nodes nodes ≡ symbols_of_trees trees
in_order _ _ no_nodes = refl
in_order _ _ (next tree below behind others p q) =
    ap (λ l. symbols_at tree ++ l) (flat_map-append symbols_at below behind)
    ∙ sym (append_assoc (symbols_at tree) (symbols_of_nodes below) (symbols_of_nodes behind))
    ∙ ap (λ l. (symbols_at tree ++ l) ++ symbols_of_nodes behind) (in_order below (parts tree) p)
    ∙ ap (λ l. l ++ symbols_of_nodes behind) (of_parts tree)
    ∙ ap (λ l. symbols_of_datum tree ++ l) (in_order behind others q)

-- of one datum
pub one_in_order : (nodes : List Datum) (d : Datum) → AreInOrder parts nodes (d ∷ []) → symbols_of_nodes nodes ≡ symbols_of_datum d
one_in_order nodes d w = in_order nodes (d ∷ []) w ∙ append-nil (symbols_of_datum d)

-- every node is named
pub last_node : (order : List (Bor code.Datum)) (i : ℕ) (seen r : List (List ℕ)) → length order ≤ i → firsts seen (symbols_of_nodes (lent_trees (drop i order))) ≡ r → seen ≡ r
last_node order i seen r l k = let k' = rw (ap lent_trees (drop_all i order l)) at k in k'

-- ## Rows: a datum is a symbol, or has none itself

module _ (x : List ℕ) (ds : Data) (last : Datum) where
  symbol_alone : symbols_at (atom 1 (symbol_atom x)) ≡ x ∷ []
  symbol_alone = refl

  text_alone : symbols_at (atom 1 (text_atom x)) ≡ []
  text_alone = refl

  dotted_alone : symbols_at (dotted 1 ds last) ≡ []
  dotted_alone = refl
